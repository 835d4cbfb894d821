-- Normal forms of some maps, computed.
use Rattle.std.proofs.Common.{refl}
use Rattle.av_affine.specs.declared.expression.Expr.TheBlock.{shape-the_row-Expr-0, hidden-the_row-Expr-0}
use denote.Hole.Carrier.{hidden}
use Rattle.av_affine_laws.specs.Normalised.{occur, renamed}
use Rattle.av_affine_laws.specs.NormalisedLaws.{NormalisedExamples}

pub normalised-examples : NormalisedExamples
unfolding occur renamed shape-the_row-Expr-0 hidden-the_row-Expr-0 hidden
normalised-examples = (refl, refl, refl)
