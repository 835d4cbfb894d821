-- Which turns of a loop come, and where each stands.
use Rattle.std.specs.Prelude.{◌≡◌, ℕ, ◌+◌, ◌*◌, ◌<◌, ℤ, pos, ◌+ℤ◌, ◌<ℤ◌, ◌↔◌, List}
use Rattle.av_ir.specs.Run.{Value, Memory, Body, followed}
use Rattle.av_ir.specs.ScalarRun.{loop_from, turns}

-- turn k comes exactly where lower + k * step is below the upper bound
abbrev pub TurnLaw : Type 0
TurnLaw = (lower upper : ℤ) (step k : ℕ) → 0 < step → (k < turns lower upper step) ↔ ((lower +ℤ pos (k * step)) <ℤ upper)

-- behind k turns the loop goes on at lower + k * step
abbrev pub TurnsLaw : Type 0
TurnsLaw =
    (body : Body) (step n k : ℕ) (lower : ℤ) (carried : List Value) (memory : Memory)
    → loop_from body step (k + n) lower carried memory
    ≡ followed (loop_from body step k lower carried memory) (λ e. loop_from body step n (lower +ℤ pos (k * step)) e.handed e.memory)
