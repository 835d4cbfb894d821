-- What each status of the command says of its input, its output and its notes.
use Rattle.std.specs.Prelude.{◌≡◌, ℕ, ◌≤◌, List, length, take, codes, ◌⊎◌, Option}
use Rattle.std.specs.Io.KnownBytes.{Appends, Consumes, IsAtEnd}
use Rattle.av_io.specs.Devices.{Rose}
use Rattle.av_top.specs.declared.status.Status.{Status}
use Rattle.av_top.specs.declared.status.Status.TheVariants.{Done, BadUsage, BadText, ReadFault, WriteFault, NoMemory, TooLarge, NotBuilt}
use Rattle.av_top.specs.TextFault.{line_of}

-- at most a megabyte and one byte were taken from what was left, where it is told
abbrev pub Taken : Option (List ℕ) → Option (List ℕ) → Type 0
Taken left left' = (bytes : List ℕ) × (length bytes ≤ 1048577) × Consumes left left' bytes

-- all was taken, and it is at most a megabyte
abbrev pub TakenAll : Option (List ℕ) → Option (List ℕ) → Type 0
TakenAll left left' = (bytes : List ℕ) × (length bytes ≤ 1048576) × Consumes left left' bytes × IsAtEnd left'

-- a megabyte and one byte were taken
abbrev pub TakenMany : Option (List ℕ) → Option (List ℕ) → Type 0
TakenMany left left' = (bytes : List ℕ) × (length bytes ≡ 1048577) × Consumes left left' bytes

-- a sink, which held `held` and had counted `faults`, is as it was
pub record Same (held held' : Option (List ℕ)) (faults faults' : ℕ) : Type 0 where
  pub bytes : held' ≡ held
  pub count : faults' ≡ faults

-- a sink took a whole text, without a fault
pub record Whole (text : List ℕ) (held held' : Option (List ℕ)) (faults faults' : ℕ) : Type 0 where
  pub bytes : Appends held held' text
  pub count : faults' ≡ faults

-- a sink took the first bytes of a text, and then its count of faults rose
pub record Partly (text : List ℕ) (held held' : Option (List ℕ)) (faults faults' : ℕ) : Type 0 where
  pub bytes : (n : ℕ) × (n ≤ length text) × Appends held held' (take n text)
  pub count : Rose faults faults'

-- a sink took a line, or its first bytes where its count of faults rose
abbrev pub Noted : List ℕ → Option (List ℕ) → Option (List ℕ) → ℕ → ℕ → Type 0
Noted line held held' faults faults' = Whole line held held' faults faults' ⊎ Partly line held held' faults faults'

-- the input after a status: what was left and its count of faults, before and after
abbrev pub InputAfter : Status → Option (List ℕ) → Option (List ℕ) → ℕ → ℕ → Type 0
InputAfter BadUsage left left' faults faults' = (left' ≡ left) × (faults' ≡ faults)
InputAfter ReadFault left left' faults faults' = Taken left left' × Rose faults faults'
InputAfter NoMemory left left' faults faults' = Taken left left' × (faults ≤ faults')
InputAfter TooLarge left left' faults faults' = TakenMany left left' × (faults' ≡ faults)
InputAfter (BadText place fault) left left' faults faults' = TakenAll left left' × (faults' ≡ faults)
InputAfter NotBuilt left left' faults faults' = TakenAll left left' × (faults' ≡ faults)
InputAfter WriteFault left left' faults faults' = TakenAll left left' × (faults' ≡ faults)
InputAfter Done left left' faults faults' = TakenAll left left' × (faults' ≡ faults)

-- a text for the output and one for the notes were delivered: both whole
abbrev pub Delivered : (held held' : Option (List ℕ)) (faults faults' : ℕ) (noted noted' : Option (List ℕ)) (nfaults nfaults' : ℕ) → List ℕ → List ℕ → Type 0
Delivered held held' faults faults' noted noted' nfaults nfaults' text report =
    Whole text held held' faults faults' × Whole report noted noted' nfaults nfaults'

-- or the output's in part and nothing of the notes', or the output's whole and the notes' in part
abbrev pub Undelivered : (held held' : Option (List ℕ)) (faults faults' : ℕ) (noted noted' : Option (List ℕ)) (nfaults nfaults' : ℕ) → List ℕ → List ℕ → Type 0
Undelivered held held' faults faults' noted noted' nfaults nfaults' text report =
    (Partly text held held' faults faults' × Same noted noted' nfaults nfaults')
    ⊎ (Whole text held held' faults faults' × Partly report noted noted' nfaults nfaults')

-- output and notes after a status: what they held and their counts of faults, before and after
abbrev pub SinksAfter : Status → (held held' : Option (List ℕ)) (faults faults' : ℕ) (noted noted' : Option (List ℕ)) (nfaults nfaults' : ℕ) → Type 0
SinksAfter BadUsage h h' f f' n n' nf nf' = Same h h' f f' × Noted (codes "affvec: usage\n") n n' nf nf'
SinksAfter ReadFault h h' f f' n n' nf nf' = Same h h' f f' × Noted (codes "affvec: read fault\n") n n' nf nf'
SinksAfter TooLarge h h' f f' n n' nf nf' = Same h h' f f' × Noted (codes "affvec: input too large\n") n n' nf nf'
SinksAfter (BadText place fault) h h' f f' n n' nf nf' = Same h h' f f' × Noted (line_of place fault) n n' nf nf'
SinksAfter NotBuilt h h' f f' n n' nf nf' = Same h h' f f' × Noted (codes "affvec: not built\n") n n' nf nf'
SinksAfter NoMemory h h' f f' n n' nf nf' = Same h h' f f' × Same n n' nf nf'
SinksAfter WriteFault h h' f f' n n' nf nf' =
    (text : List ℕ) × (report : List ℕ) × Undelivered h h' f f' n n' nf nf' text report
SinksAfter Done h h' f f' n n' nf nf' =
    (text : List ℕ) × (report : List ℕ) × Delivered h h' f f' n n' nf nf' text report

-- a refusal and its line, or want of memory and no line
abbrev pub RefusalEnds : Status → Status → List ℕ → (noted noted' : Option (List ℕ)) (faults faults' : ℕ) → Type 0
RefusalEnds status refusal line noted noted' faults faults' =
    ((status ≡ refusal) × Noted line noted noted' faults faults') ⊎ ((status ≡ NoMemory) × Same noted noted' faults faults')

-- the statuses that come once the input was read
abbrev pub IsAnswered : Status → Type 0
IsAnswered Done = Unit {0}
IsAnswered WriteFault = Unit {0}
IsAnswered (BadText place fault) = Unit {0}
IsAnswered NotBuilt = Unit {0}
IsAnswered NoMemory = Unit {0}
IsAnswered _ = ⊥
