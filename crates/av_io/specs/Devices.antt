-- What a call of a source or a sink does to its count of faults and to its room.
-- What it does to the bytes that are told is said in std's words for readers and writers.
use Rattle.std.specs.Prelude.{◌≡◌, ℕ, ◌+◌, ◌-◌, ◌^◌, ◌≤◌, min, List, length, Option, None, Some, Result, is_err, OnOk, OnErr, MatchResult, option_map, if◌then◌else◌}
use Rattle.std.specs.Io.KnownBytes.{Appends}
use Rattle.std.specs.Option.{ForSome}

-- a count one higher, which stands still at the greatest number of 64 bits
abbrev pub counted : ℕ → ℕ
counted n = min (n + 1) (2 ^ 64 - 1)

-- a count rose in a call: it is greater afterwards, or stands at its greatest number
abbrev pub Rose : ℕ → ℕ → Type 0
Rose before now = counted before ≤ now

-- a call's count of faults never falls, rose where the call failed, and stayed where it succeeded
pub record HasCause {T E : Type 0} (before now : ℕ) (result : Result T E) : Type 0 where
  pub never_falls : before ≤ now
  pub rose : OnErr result (Rose before now)
  pub unchanged : OnOk result (now ≡ before)

-- a count of faults after a call: one higher where the call failed
abbrev pub faults_after : {T E : Type 0} → Result T E → ℕ → ℕ
faults_after result before = if is_err result then counted before else before

-- where a source tells what is left, at most one read more was made than bytes were taken
abbrev pub AtMostOneIdle : Option (List ℕ) → Option (List ℕ) → ℕ → ℕ → Type 0
AtMostOneIdle (Some xs) (Some ys) calls calls' = calls' + length ys ≤ calls + length xs + 1
AtMostOneIdle (Some xs) None calls calls' = ⊥
AtMostOneIdle None left' calls calls' = Unit {0}

-- at most so many reads were made, and at most one more than bytes were taken
pub record ReadsFew (most : ℕ) (left left' : Option (List ℕ)) (calls calls' : ℕ) : Type 0 where
  pub few : calls' ≤ calls + most
  pub idle : AtMostOneIdle left left' calls calls'

-- where the room is told, it is for at least n bytes
abbrev pub HasRoom : Option ℕ → ℕ → Type 0
HasRoom room n = ForSome room (λ free. n ≤ free)

-- a write lowered the room, where it is told, by the bytes taken; a failed one left it as it was
abbrev pub WriteUsesRoom : {E : Type 0} → Option ℕ → Option ℕ → Result ℕ E → Type 0
WriteUsesRoom before now result =
    MatchResult result (λ n. now ≡ option_map (λ free. free - n) before) (λ _. now ≡ before)

-- a sink took these bytes: they follow those that it held, and its room is lower by their number,
-- where it tells them
pub record Takes (held held' : Option (List ℕ)) (room room' : Option ℕ) (bytes : List ℕ)
    : Type 0 where
  pub appended : Appends held held' bytes
  pub used : room' ≡ option_map (λ free. free - length bytes) room
