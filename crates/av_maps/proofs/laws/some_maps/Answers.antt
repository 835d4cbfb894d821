use Rattle.std.proofs.Common.{refl}
use Rattle.av_affine.specs.Finding.{bound_found}
use Rattle.av_affine.specs.Limits.{has_parameter, node_count}
use Rattle.av_affine.specs.Values.{value_of}
use Rattle.av_affine_laws.specs.Normalised.{occur, parameters, renamed}
use Rattle.av_tree.specs.declared.written.ExprText.TheBlock.{shape-the_row-ExprText-0, hidden-the_row-ExprText-0}
use Rattle.av_affine.specs.declared.expression.Expr.TheBlock.{shape-the_row-Expr-0, hidden-the_row-Expr-0}
use denote.Hole.Carrier.{hidden}
use Rattle.av_maps.specs.Asked.{has_own}
use Rattle.av_maps.specs.Written.{expr_of}
use Rattle.av_maps.proofs.laws.some_maps.Goals as goal

pub returns : goal.returns
unfolding has_own expr_of bound_found has_parameter node_count value_of occur parameters renamed shape-the_row-ExprText-0 hidden-the_row-ExprText-0 shape-the_row-Expr-0 hidden-the_row-Expr-0 hidden
returns c = (
  refl,
  (refl, refl, refl, refl),
  refl,
  (refl, refl, refl, refl),
  (refl, refl, refl, refl),
)
