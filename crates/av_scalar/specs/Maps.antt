-- The maps that a run evaluates.
use Rattle.std.specs.Prelude.{◌≡◌, ℕ, ℤ, List, Option, Some, None}
use Rattle.av_bits.specs.Pattern.{pattern_of}
use Rattle.av_ir.specs.declared.run.TrapKind.TheVariants.{IndexRange}
use Rattle.av_ir.specs.declared.run.RunStop.{RunStop}
use Rattle.av_ir.specs.declared.run.RunStop.TheVariants.{Trap, OutOfSteps, NoMemory}
use Rattle.av_ir.specs.ScalarRun.{first_result, greatest, least, turns}
use Rattle.av_scalar.specs.declared.bounds.Turns.{Turns}
use Rattle.av_scalar.specs.declared.bounds.Choice.{Choice}
use Rattle.av_scalar.specs.declared.bounds.Choice.TheVariants.{First, Least, Greatest}

-- the result of a map that is meant
abbrev pub choice_of : Choice → List ℤ → ℤ
choice_of First = first_result
choice_of Least = least
choice_of Greatest = greatest

-- why an evaluation of a map by an operation of this number stops, where these are its results
abbrev pub StopsAtMap : ℕ → Option (List ℤ) → RunStop → Type 0
StopsAtMap number results (Trap kind at) = (kind ≡ IndexRange) × (at ≡ number) × (results ≡ None)
StopsAtMap number results OutOfSteps = ⊥
StopsAtMap number results NoMemory = Unit {0}

-- the first pattern and the number of turns of a loop with these bounds
pub record IsTurns (lower upper : Option (List ℤ)) (its_step : ℕ) (t : Turns) : Type 0 where
  pub low : List ℤ
  pub high : List ℤ
  pub is_low : lower ≡ Some low
  pub is_high : upper ≡ Some high
  pub step : t.step ≡ its_step
  pub first : t.first ≡ pattern_of 64 (greatest low)
  pub count : t.count ≡ turns (greatest low) (least high) its_step
