-- What reading the input leaves of it.
use Rattle.std.specs.Prelude.{◌≡◌, ℕ, ◌≤◌, List, length, Option}
use Rattle.std.specs.Io.KnownBytes.{Consumes, IsAtEnd}
use Rattle.av_io.specs.Devices.{Rose}
use Rattle.av_top.specs.Outcome.{Taken, TakenMany}
use Rattle.av_top.specs.declared.intake.Intake.{Intake}
use Rattle.av_top.specs.declared.intake.Intake.TheVariants.{Text, TooMuch}
use Rattle.av_top.specs.declared.intake.IntakeStop.{IntakeStop}
use Rattle.av_top.specs.declared.intake.IntakeStop.TheVariants.{Fault, NoMemory}

-- the text is all that was left, at most a megabyte; or a megabyte and one byte were taken
abbrev pub IntakeEnds : Intake → Option (List ℕ) → Option (List ℕ) → Type 0
IntakeEnds (Text bytes) left left' = (length bytes.items ≤ 1048576) × Consumes left left' bytes.items × IsAtEnd left'
IntakeEnds TooMuch left left' = TakenMany left left'

-- a fault only where the count rose
abbrev pub IntakeStopped : IntakeStop → Option (List ℕ) → Option (List ℕ) → ℕ → ℕ → Type 0
IntakeStopped Fault left left' faults faults' = Taken left left' × Rose faults faults'
IntakeStopped NoMemory left left' faults faults' = (left' ≡ left) × (faults' ≡ faults)
