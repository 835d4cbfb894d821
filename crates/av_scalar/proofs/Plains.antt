-- What answers the run of an operation of a known kind, answers the operation.
use Rattle.std.proofs.Common.{◌≡◌, ℕ, List, ap, sym, ◌∙◌, subst}
use Rattle.std.specs.Prelude.{Result}
use Rattle.av_bits.specs.declared.types.Width.{Width}
use Rattle.av_ir.specs.declared.ty.Ty.{Ty}
use Rattle.av_ir.specs.declared.run.RunStop.{RunStop}
use Rattle.av_ir.specs.declared.module.OpKind.{OpKind}
use Rattle.av_ir.specs.declared.module.ValueId.{ValueId}
use Rattle.av_ir.specs.Elements.{first_width}
use Rattle.av_ir.specs.Run.{Run, Given, Body, Memory, types_at}
use Rattle.av_ir.specs.ScalarRun.{perform}
use Rattle.av_scalar.specs.declared.machine.Outcome.{Outcome}
use Rattle.av_scalar.specs.Names.{values}
use Rattle.av_scalar.proofs.Parts.{Fits}

module _ (operands results : List Ty) (kind known : OpKind) (is : kind ≡ known) (number : ℕ) (ws : List ℕ) (bodies : List Body) (memory : Memory) where
  pub of_kind : (run : Run Given) → run ≡ perform operands results known number (values ws) bodies memory → (after : Memory) (budget : ℕ) (result : Result Outcome RunStop)
      → Fits run after budget result → Fits (perform operands results kind number (values ws) bodies memory) after budget result
  of_kind run same after budget result h =
      subst (λ k. Fits (perform operands results k number (values ws) bodies memory) after budget result) (sym is)
      (subst (λ r. Fits r after budget result) same h)

-- the width of the first of some values
pub first_width_of : (types : List Ty) (ids given : List ValueId) (w : Width) → w ≡ first_width (types_at types given) → given ≡ ids → w ≡ first_width (types_at types ids)
first_width_of types ids given w is same = is ∙ ap (λ l. first_width (types_at types l)) same
