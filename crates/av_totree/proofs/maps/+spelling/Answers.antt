use Rattle.std.proofs.Common.{rules}
use Rattle.av_affine.specs.declared.expression.Expr.TheVariants as expr
use Rattle.av_tree.specs.declared.written.ExprText.TheVariants as text
use Rattle.av_totree.proofs.Expressions.{param_text, const_text, neg_text, pair_text, add_text, sub_text, mul_text, mod_text, floor_text, ceil_text}
use Rattle.av_totree.proofs.maps.+spelling.Goals as goal

pub expression_text-returns-in_ok-leaf_name-in-Param : goal.expression_text-returns-in_ok-leaf_name-in-Param
expression_text-returns-in_ok-leaf_name-in-Param t c = param_text _ _ _ c.in-Param.is c.in_ok-leaf_name-in-Param.ensures

pub expression_text-returns-in-Const : goal.expression_text-returns-in-Const
expression_text-returns-in-Const t c = const_text _ _ _ c.in-Const.is (search rules)

pub expression_text-returns-in_ok-side-in-Neg : goal.expression_text-returns-in_ok-side-in-Neg
expression_text-returns-in_ok-side-in-Neg t c = neg_text _ _ _ c.in-Neg.is c.in_ok-side-in-Neg.ensures

pub expression_text-returns-in_ok-side-in-Add-2 : goal.expression_text-returns-in_ok-side-in-Add-2
expression_text-returns-in_ok-side-in-Add-2 t c =
    pair_text expr.Add text.Add add_text _ c.in-Add.a c.in-Add.b _ _ c.in-Add.is c.in_ok-side-in-Add.ensures c.in_ok-side-in-Add-2.ensures

pub expression_text-returns-in_ok-side-in-Sub-2 : goal.expression_text-returns-in_ok-side-in-Sub-2
expression_text-returns-in_ok-side-in-Sub-2 t c =
    pair_text expr.Sub text.Sub sub_text _ c.in-Sub.a c.in-Sub.b _ _ c.in-Sub.is c.in_ok-side-in-Sub.ensures c.in_ok-side-in-Sub-2.ensures

pub expression_text-returns-in_ok-side-in-Mul-2 : goal.expression_text-returns-in_ok-side-in-Mul-2
expression_text-returns-in_ok-side-in-Mul-2 t c =
    pair_text expr.Mul text.Mul mul_text _ c.in-Mul.a c.in-Mul.b _ _ c.in-Mul.is c.in_ok-side-in-Mul.ensures c.in_ok-side-in-Mul-2.ensures

pub expression_text-returns-in_ok-side-in-Mod-2 : goal.expression_text-returns-in_ok-side-in-Mod-2
expression_text-returns-in_ok-side-in-Mod-2 t c =
    pair_text expr.Mod text.Mod mod_text _ c.in-Mod.a c.in-Mod.b _ _ c.in-Mod.is c.in_ok-side-in-Mod.ensures c.in_ok-side-in-Mod-2.ensures

pub expression_text-returns-in_ok-side-in-Floor-2 : goal.expression_text-returns-in_ok-side-in-Floor-2
expression_text-returns-in_ok-side-in-Floor-2 t c =
    pair_text expr.Floor text.Floor floor_text _ c.in-Floor.a c.in-Floor.b _ _ c.in-Floor.is c.in_ok-side-in-Floor.ensures c.in_ok-side-in-Floor-2.ensures

pub expression_text-returns-in_ok-side-in-Ceil-2 : goal.expression_text-returns-in_ok-side-in-Ceil-2
expression_text-returns-in_ok-side-in-Ceil-2 t c =
    pair_text expr.Ceil text.Ceil ceil_text _ c.in-Ceil.a c.in-Ceil.b _ _ c.in-Ceil.is c.in_ok-side-in-Ceil.ensures c.in_ok-side-in-Ceil-2.ensures
