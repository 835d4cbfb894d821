use Rattle.std.proofs.Common.{arith}
use Rattle.av_lex.proofs.BadBytes.{bad_single}
use Rattle.av_lex.proofs.step.single.Goals as goal

pub returns-in_default : goal.returns-in_default
returns-in_default c =
    bad_single _ c.requires.no_other
    (λ e. absurd (omega arith))
    (λ e. absurd (omega arith))
    (λ e. absurd (omega arith))
    (λ e. absurd (omega arith))
    (λ e. absurd (omega arith))
    (λ e. absurd (omega arith))
    (λ e. absurd (omega arith))
    (λ e. absurd (omega arith))
    (λ e. absurd (omega arith))
    (λ e. absurd (omega arith))
