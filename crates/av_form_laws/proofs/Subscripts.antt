-- Each subscript that comes from a map has a kind for each of its values.
use Rattle.std.proofs.Common.{◌≡◌, ℕ, ◌+◌, List, length, drop, Option, None, Some, refl, sym, ap, ◌∙◌}
use Rattle.std.proofs.lemmas.List.{length-append}
use Rattle.av_tree.specs.declared.written.ExprText.{ExprText, Name, Const, Neg', Add', Sub', Mul', Mod', Floor', Ceil', end_of-ExprText, more_of-ExprText}
use Rattle.av_tree.specs.declared.written.ExprText.TheVariants as expr
use Rattle.av_tree.specs.declared.written.ExprText.TheBlock.{shape-the_row-ExprText-0, hidden-the_row-ExprText-0}
use denote.Hole.Carrier.{hidden}
use Rattle.av_tree.specs.declared.written.MapText.{MapText}
use Rattle.av_values.specs.declared.value.Expression.{Expression}
use Rattle.av_form_laws.specs.Subscripts.{IsSubscript, beside, both, leaf_in, leaf_of, name_count, with_leaves}

leaf-is : (dimension symbol : Option (List ℕ)) (name : List ℕ) → IsSubscript (leaf_of dimension symbol name)
unfolding name_count
leaf-is (Some v) other name = refl
leaf-is None (Some v) name = refl
leaf-is None None name = refl

-- both sides have their kinds, and so has a calculation of them
both-is : (calculation : ExprText → ExprText → ExprText) → ((a b : ExprText) → name_count (calculation a b) ≡ name_count a + name_count b)
    → (a b : Expression) → IsSubscript a → IsSubscript b → IsSubscript (both calculation a b)
both-is calculation level a b g h =
    length-append a.leaves b.leaves ∙ ap (λ k. k + length b.leaves) g ∙ ap (λ k. name_count a.expr + k) h ∙ sym (level a.expr b.expr)

count-Neg : (a : ExprText) → name_count (expr.Neg a) ≡ name_count a
unfolding name_count shape-the_row-ExprText-0 hidden-the_row-ExprText-0 hidden
count-Neg a = refl

count-Add : (a b : ExprText) → name_count (expr.Add a b) ≡ name_count a + name_count b
unfolding name_count shape-the_row-ExprText-0 hidden-the_row-ExprText-0 hidden
count-Add a b = refl

count-Sub : (a b : ExprText) → name_count (expr.Sub a b) ≡ name_count a + name_count b
unfolding name_count shape-the_row-ExprText-0 hidden-the_row-ExprText-0 hidden
count-Sub a b = refl

count-Mul : (a b : ExprText) → name_count (expr.Mul a b) ≡ name_count a + name_count b
unfolding name_count shape-the_row-ExprText-0 hidden-the_row-ExprText-0 hidden
count-Mul a b = refl

count-Mod : (a b : ExprText) → name_count (expr.Mod a b) ≡ name_count a + name_count b
unfolding name_count shape-the_row-ExprText-0 hidden-the_row-ExprText-0 hidden
count-Mod a b = refl

count-Floor : (a b : ExprText) → name_count (expr.Floor a b) ≡ name_count a + name_count b
unfolding name_count shape-the_row-ExprText-0 hidden-the_row-ExprText-0 hidden
count-Floor a b = refl

count-Ceil : (a b : ExprText) → name_count (expr.Ceil a b) ≡ name_count a + name_count b
unfolding name_count shape-the_row-ExprText-0 hidden-the_row-ExprText-0 hidden
count-Ceil a b = refl

module _ (m : MapText) (values : List (List ℕ)) where
  pub subscript-is : (e : ExprText) → IsSubscript (with_leaves (leaf_in m values) e)
  unfolding with_leaves name_count
  subscript-is (Name name) = leaf-is (beside m.dims values name) (beside m.syms (drop (length m.dims) values) name) name
  subscript-is (Const z) = refl
  subscript-is (Neg' s (more_of-ExprText a end_of-ExprText)) = subscript-is a ∙ sym (count-Neg (with_leaves (leaf_in m values) a).expr)
  subscript-is (Add' s (more_of-ExprText a end_of-ExprText) t (more_of-ExprText b end_of-ExprText)) =
      both-is expr.Add count-Add (with_leaves (leaf_in m values) a) (with_leaves (leaf_in m values) b) (subscript-is a) (subscript-is b)
  subscript-is (Sub' s (more_of-ExprText a end_of-ExprText) t (more_of-ExprText b end_of-ExprText)) =
      both-is expr.Sub count-Sub (with_leaves (leaf_in m values) a) (with_leaves (leaf_in m values) b) (subscript-is a) (subscript-is b)
  subscript-is (Mul' s (more_of-ExprText a end_of-ExprText) t (more_of-ExprText b end_of-ExprText)) =
      both-is expr.Mul count-Mul (with_leaves (leaf_in m values) a) (with_leaves (leaf_in m values) b) (subscript-is a) (subscript-is b)
  subscript-is (Mod' s (more_of-ExprText a end_of-ExprText) t (more_of-ExprText b end_of-ExprText)) =
      both-is expr.Mod count-Mod (with_leaves (leaf_in m values) a) (with_leaves (leaf_in m values) b) (subscript-is a) (subscript-is b)
  subscript-is (Floor' s (more_of-ExprText a end_of-ExprText) t (more_of-ExprText b end_of-ExprText)) =
      both-is expr.Floor count-Floor (with_leaves (leaf_in m values) a) (with_leaves (leaf_in m values) b) (subscript-is a) (subscript-is b)
  subscript-is (Ceil' s (more_of-ExprText a end_of-ExprText) t (more_of-ExprText b end_of-ExprText)) =
      both-is expr.Ceil count-Ceil (with_leaves (leaf_in m values) a) (with_leaves (leaf_in m values) b) (subscript-is a) (subscript-is b)
