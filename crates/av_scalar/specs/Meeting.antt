-- How the answer of an interpreter with a budget of steps fits a run.
use Rattle.std.specs.Prelude.{◌≡◌, ℕ, ◌+◌, ◌<◌, ◌≤◌, Result, MatchResult}
use Rattle.av_ir.specs.declared.run.TrapKind.{TrapKind}
use Rattle.av_ir.specs.declared.run.RunStop.{RunStop}
use Rattle.av_ir.specs.declared.run.RunStop.TheVariants.{Trap, OutOfSteps, NoMemory}
use Rattle.av_ir.specs.Run.{Run, ends, traps}

-- the steps of a run, a trapping operation's own among them
abbrev pub steps_of : {A : Type 0} → Run A → ℕ
steps_of (ends a steps) = steps
steps_of (traps kind number steps) = steps

-- the run ends with this within the budget, of which so much is left
abbrev pub EndsAt : {A : Type 0} → Run A → ℕ → A → ℕ → Type 0
EndsAt (ends a steps) budget end left = (a ≡ end) × (steps + left ≡ budget)
EndsAt (traps kind number steps) budget end left = ⊥

-- the run traps with this kind at the operation of this number within the budget
abbrev pub TrapsAt : {A : Type 0} → Run A → ℕ → TrapKind → ℕ → Type 0
TrapsAt (ends a steps) budget kind number = ⊥
TrapsAt (traps its_kind its_number steps) budget kind number = (its_kind ≡ kind) × (its_number ≡ number) × (steps ≤ budget)

-- the run stops within the budget as an interpreter says; nothing is said where memory lacks
abbrev pub Stops : {A : Type 0} → Run A → ℕ → RunStop → Type 0
Stops run budget (Trap kind number) = TrapsAt run budget kind number
Stops run budget OutOfSteps = budget < steps_of run
Stops run budget NoMemory = Unit {0}

-- the run ends with this within the budget
abbrev pub EndsWithin : {A : Type 0} → Run A → ℕ → A → Type 0
EndsWithin (ends a steps) budget end = (a ≡ end) × (steps ≤ budget)
EndsWithin (traps kind number steps) budget end = ⊥

-- an interpreter's answer fits the run: its end, its trap, or that it needs more steps
abbrev pub Meets : {A : Type 0} → Run A → ℕ → Result A RunStop → Type 0
Meets run budget result = MatchResult result (EndsWithin run budget) (Stops run budget)

-- a part of a run under way: what it meets, the whole meets
pub record Leads {A : Type 0} (rest : Run A) (left : ℕ) (whole : Run A) (budget : ℕ) : Type 0 where
  pub ended : (end : A) (last : ℕ) → EndsAt rest left end last → EndsAt whole budget end last
  pub stopped : (stop : RunStop) → Stops rest left stop → Stops whole budget stop
