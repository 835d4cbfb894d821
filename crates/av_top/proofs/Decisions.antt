-- What a status says of the bytes of the input.
use Rattle.std.proofs.Common.{◌≡◌, ℕ, ◌+◌, ◌/◌, ◌%◌, ◌≤◌, List, [], ◌∷◌, length, refl, sym, ◌∙◌, subst, arith, Option, Some, ◌⊎◌, inl, inr}
use Rattle.av_io.specs.Devices.{Rose}
use Rattle.av_printer.specs.declared.form.Form.{Form}
use Rattle.av_printer.specs.declared.form.Form.TheVariants.{Named, Generic}
use Rattle.av_top.specs.declared.request.Request.{Request}
use Rattle.av_top.specs.declared.status.TextFault.{TextFault}
use Rattle.av_top.specs.declared.status.Status.{Status}
use Rattle.av_top.specs.declared.status.Status.TheVariants.{Done, BadUsage, BadText, ReadFault, WriteFault, NoMemory, TooLarge, NotBuilt}
use Rattle.av_top.specs.Decided.{Asks, Decided, IsBadText, NoFault}
use Rattle.av_top.specs.FirstPathText.{IsFirstPathText, IsNoText, IsTooLarge, IsUnbuilt}
use Rattle.av_top.specs.Outcome.{InputAfter, SinksAfter, Undelivered}
use Rattle.av_top.specs.Request.{IsVectorize, form_words, number}
use Rattle.av_top.specs.TextFault.{IsTextFault}
use Rattle.av_top.proofs.OneFault.{fault_no_text, one_text_fault}
use Rattle.av_top.proofs.Words.{number_cases}

-- ---- the request
-- words ask for one number of lanes at most
one_number : (a b : ℕ) → number a ≡ number b → ((a ≤ 9) × (number a ≡ (48 + a) ∷ [])) ⊎ ((10 ≤ a) × (number a ≡ (48 + a / 10) ∷ (48 + a % 10) ∷ []))
    → ((b ≤ 9) × (number b ≡ (48 + b) ∷ [])) ⊎ ((10 ≤ b) × (number b ≡ (48 + b / 10) ∷ (48 + b % 10) ∷ [])) → a ≡ b
one_number a b e (inl h) (inl k) = let s : (48 + a) ∷ [] ≡ (48 + b) ∷ [] = sym h.1 ∙ e ∙ k.1 in let t : 48 + a ≡ 48 + b = cc in omega arith
one_number a b e (inl h) (inr k) = let s : (48 + a) ∷ [] ≡ (48 + b / 10) ∷ (48 + b % 10) ∷ [] = sym h.1 ∙ e ∙ k.1 in cc
one_number a b e (inr h) (inl k) = let s : (48 + a / 10) ∷ (48 + a % 10) ∷ [] ≡ (48 + b) ∷ [] = sym h.1 ∙ e ∙ k.1 in cc
one_number a b e (inr h) (inr k) =
    let s : (48 + a / 10) ∷ (48 + a % 10) ∷ [] ≡ (48 + b / 10) ∷ (48 + b % 10) ∷ [] = sym h.1 ∙ e ∙ k.1 in
    let t : 48 + a / 10 ≡ 48 + b / 10 = cc in
    let o : 48 + a % 10 ≡ 48 + b % 10 = cc in
    omega arith

-- and for one form
one_form : (f g : Form) → form_words f ≡ form_words g → f ≡ g
one_form Named Named e = refl
one_form Named Generic e = cc
one_form Generic Named e = cc
one_form Generic Generic e = refl

abbrev made : ℕ → Form → Request
made size form = record { size = size; form = form }

same_request : (a b : ℕ) (f g : Form) → a ≡ b → f ≡ g → made a f ≡ made b g
same_request a b f g e h = cc

one_request : (words : List (List ℕ)) (a b : Request) → IsVectorize words a → IsVectorize words b → a ≡ b
one_request words a b h k =
    let w = h.words in
    let w' = k.words in
    let sizes : number a.size ≡ number b.size = cc in
    let forms : form_words a.form ≡ form_words b.form = cc in
    same_request a.size b.size a.form b.form (one_number a.size b.size sizes (number_cases a.size) (number_cases b.size)) (one_form a.form b.form forms)

-- what is decided for a request is so for any request of the words
pub decided_of : (status : Status) (words : List (List ℕ)) (left : Option (List ℕ)) (asked request : Request) (bytes : List ℕ) → IsVectorize words asked → ((b : List ℕ) → left ≡ Some b → Decided status asked b)
    → Asks words left request bytes → Decided status request bytes
decided_of status words left asked request bytes v decided asks =
    let Says : Request → Type 0 = λ r. Decided status r bytes in
    subst Says (one_request words asked request v asks.words) (decided bytes asks.told)

-- ---- what follows of the status
pub says : (status other : Status) (request : Request) (bytes : List ℕ) → Decided status request bytes → status ≡ other → Decided other request bytes
says status other request bytes d e = let Says : Status → Type 0 = λ s. Decided s request bytes in subst Says e d

pub no_text_of : (status : Status) (request : Request) (bytes : List ℕ) → Decided status request bytes → IsBadText status → IsNoText bytes
no_text_of status request bytes d bad =
    let fault : IsTextFault bytes bad.place bad.fault = says status (BadText bad.place bad.fault) request bytes d bad.is in
    record { few = fault.few; none = fault_no_text bytes bad.place bad.fault fault }

-- ---- what follows of the bytes
-- how a call ended whose words ask for something and in which no read failed
pub data Ended (status : Status) (request : Request) (bytes : List ℕ) : Type 0 where
  taken : (status ≡ Done) ⊎ (status ≡ WriteFault) → IsFirstPathText request.size bytes → Ended status request bytes
  bad : (place : ℕ) (fault : TextFault) → status ≡ BadText place fault → IsTextFault bytes place fault → Ended status request bytes
  large : status ≡ TooLarge → IsTooLarge bytes → Ended status request bytes
  unbuilt : status ≡ NotBuilt → IsUnbuilt request.size bytes → Ended status request bytes
  memory : status ≡ NoMemory → Ended status request bytes

pub ended_of : (status : Status) (request : Request) (bytes : List ℕ) (left left' : Option (List ℕ)) (faults faults' : ℕ) → Decided status request bytes → (status ≡ BadUsage → ⊥) → InputAfter status left left' faults faults'
    → (Rose faults faults' → ⊥) → Ended status request bytes
ended_of Done request bytes left left' faults faults' d usage input stayed = taken (inl refl) d
ended_of BadUsage request bytes left left' faults faults' d usage input stayed = absurd (usage refl)
ended_of (BadText place fault) request bytes left left' faults faults' d usage input stayed = bad place fault refl d
ended_of ReadFault request bytes left left' faults faults' d usage input stayed = absurd (stayed input.1)
ended_of WriteFault request bytes left left' faults faults' d usage input stayed = taken (inr refl) d
ended_of NoMemory request bytes left left' faults faults' d usage input stayed = memory refl
ended_of TooLarge request bytes left left' faults faults' d usage input stayed = large refl d
ended_of NotBuilt request bytes left left' faults faults' d usage input stayed = unbuilt refl d

not_large : (bytes : List ℕ) → length bytes ≤ 1048576 → IsTooLarge bytes → ⊥
not_large bytes few many = absurd (omega arith)

pub too_large_only : (status : Status) (request : Request) (bytes : List ℕ) → Ended status request bytes → IsTooLarge bytes → (status ≡ TooLarge) ⊎ (status ≡ NoMemory)
too_large_only status request bytes (taken e text) many = absurd (not_large bytes text.text.few many)
too_large_only status request bytes (bad place fault e text) many = absurd (not_large bytes text.few many)
too_large_only status request bytes (large e text) many = inl e
too_large_only status request bytes (unbuilt e text) many = absurd (not_large bytes text.text.few many)
too_large_only status request bytes (memory e) many = inr e

same_fault : (p q : ℕ) (f g : TextFault) → q ≡ p → g ≡ f → BadText p f ≡ BadText q g
same_fault p q f g e h = cc

pub bad_text_only : (status : Status) (request : Request) (bytes : List ℕ) (place : ℕ) (fault : TextFault) → Ended status request bytes → IsTextFault bytes place fault → (status ≡ BadText place fault) ⊎ (status ≡ NoMemory)
bad_text_only status request bytes place fault (taken e text) amiss = absurd (fault_no_text bytes place fault amiss text.text)
bad_text_only status request bytes place fault (bad p f e text) amiss =
    let one = one_text_fault bytes p place f fault text amiss in
    inl (e ∙ same_fault p place f fault one.0 one.1)
bad_text_only status request bytes place fault (large e text) amiss = absurd (not_large bytes amiss.few text)
bad_text_only status request bytes place fault (unbuilt e text) amiss = absurd (fault_no_text bytes place fault amiss text.text)
bad_text_only status request bytes place fault (memory e) amiss = inr e

pub no_text_only : (status : Status) (request : Request) (bytes : List ℕ) → Ended status request bytes → IsNoText bytes → IsBadText status ⊎ (status ≡ NoMemory)
no_text_only status request bytes (taken e text) none = absurd (none.none text.text)
no_text_only status request bytes (bad place fault e text) none = inl (record { place = place; fault = fault; is = e })
no_text_only status request bytes (large e text) none = absurd (not_large bytes none.few text)
no_text_only status request bytes (unbuilt e text) none = absurd (none.none text.text)
no_text_only status request bytes (memory e) none = inr e

pub not_built_only : (status : Status) (request : Request) (bytes : List ℕ) → Ended status request bytes → IsUnbuilt request.size bytes → (status ≡ NotBuilt) ⊎ (status ≡ NoMemory)
not_built_only status request bytes (taken e text) other = absurd (other.other text)
not_built_only status request bytes (bad place fault e text) other = absurd (fault_no_text bytes place fault text other.text)
not_built_only status request bytes (large e text) other = absurd (not_large bytes other.text.few text)
not_built_only status request bytes (unbuilt e text) other = inl e
not_built_only status request bytes (memory e) other = inr e

-- a write fault has its cause
write_cause : (held held' noted noted' : Option (List ℕ)) (faults faults' nfaults nfaults' : ℕ) (text report : List ℕ) → Undelivered held held' faults faults' noted noted' nfaults nfaults' text report
    → (Rose faults faults' → ⊥) → (Rose nfaults nfaults' → ⊥) → ⊥
write_cause held held' noted noted' faults faults' nfaults nfaults' text report (inl h) output notes = output h.0.count
write_cause held held' noted noted' faults faults' nfaults nfaults' text report (inr h) output notes = notes h.1.count

written : (status : Status) (h h' n n' : Option (List ℕ)) (wf wf' nf nf' : ℕ) → SinksAfter status h h' wf wf' n n' nf nf' → (Rose wf wf' → ⊥) → (Rose nf nf' → ⊥) → status ≡ WriteFault → ⊥
written status h h' n n' wf wf' nf nf' sinks output notes e =
    let After : Status → Type 0 = λ s. SinksAfter s h h' wf wf' n n' nf nf' in
    let undelivered : After WriteFault = subst After e sinks in
    write_cause h h' n n' wf wf' nf nf' undelivered.0 undelivered.1 undelivered.2 output notes

pub done_of : (status : Status) (request : Request) (bytes : List ℕ) (h h' n n' : Option (List ℕ)) (faults faults' wf wf' nf nf' : ℕ) → Ended status request bytes → SinksAfter status h h' wf wf' n n' nf nf'
    → IsFirstPathText request.size bytes → NoFault faults faults' wf wf' nf nf' → (status ≡ Done) ⊎ (status ≡ NoMemory)
done_of status request bytes h h' n n' faults faults' wf wf' nf nf' (taken (inl e) text) sinks first stayed = inl e
done_of status request bytes h h' n n' faults faults' wf wf' nf nf' (taken (inr e) text) sinks first stayed = absurd (written status h h' n n' wf wf' nf nf' sinks stayed.output stayed.notes e)
done_of status request bytes h h' n n' faults faults' wf wf' nf nf' (bad place fault e text) sinks first stayed = absurd (fault_no_text bytes place fault text first.text)
done_of status request bytes h h' n n' faults faults' wf wf' nf nf' (large e text) sinks first stayed = absurd (not_large bytes first.text.few text)
done_of status request bytes h h' n n' faults faults' wf wf' nf nf' (unbuilt e text) sinks first stayed = absurd (text.other first)
done_of status request bytes h h' n n' faults faults' wf wf' nf nf' (memory e) sinks first stayed = inr e
