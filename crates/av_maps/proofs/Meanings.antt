-- Written expressions mean what they mean with numbers in place of names.
use Rattle.std.proofs.Common.{◌≡◌, ℕ, List, refl, ap, ◌∙◌}
use Rattle.std.specs.Prelude.{ℤ, neg_ℤ, ◌+ℤ◌, ◌-ℤ◌, ◌*ℤ◌}
use Rattle.av_affine.specs.declared.expression.Leaf.{Leaf}
use Rattle.av_affine.specs.declared.expression.Expr.TheBlock.{shape-the_row-Expr-0, hidden-the_row-Expr-0}
use denote.Hole.Carrier.{hidden}
use Rattle.av_affine.specs.Values.{ceil_quotient, floor_quotient, remainder, value_of}
use Rattle.av_tree.specs.declared.written.ExprText.{Name, Const, Neg', Add', Sub', Mul', Mod', Floor', Ceil', end_of-ExprText, more_of-ExprText}
use Rattle.av_maps.specs.Names.{leaf_of}
use Rattle.av_maps.specs.Written.{expr_of}
use Rattle.av_maps.specs.WrittenLaws.{MeaningLaw, meaning}

-- two parts that mean the same, put together
both : (f : ℤ → ℤ → ℤ) (w x y z : ℤ) → w ≡ y → x ≡ z → f w x ≡ f y z
both f w x y z h g = ap (λ v. f v x) h ∙ ap (λ v. f y v) g

abbrev named : List (List ℕ) → List (List ℕ) → (Leaf → ℤ) → List ℕ → ℤ
named dims syms at name = at (leaf_of dims syms name)

pub meaning_law : MeaningLaw
unfolding expr_of meaning value_of shape-the_row-Expr-0 hidden-the_row-Expr-0 hidden
meaning_law dims syms at (Name name) = refl
meaning_law dims syms at (Const z) = refl
meaning_law dims syms at (Neg' s (more_of-ExprText a end_of-ExprText)) = ap (λ z. neg_ℤ z) (meaning_law dims syms at a)
meaning_law dims syms at (Add' s (more_of-ExprText a end_of-ExprText) t (more_of-ExprText b end_of-ExprText)) =
    both (λ x y. x +ℤ y) (value_of at (expr_of dims syms a)) (value_of at (expr_of dims syms b)) (meaning (named dims syms at) a)
    (meaning (named dims syms at) b) (meaning_law dims syms at a) (meaning_law dims syms at b)
meaning_law dims syms at (Sub' s (more_of-ExprText a end_of-ExprText) t (more_of-ExprText b end_of-ExprText)) =
    both (λ x y. x -ℤ y) (value_of at (expr_of dims syms a)) (value_of at (expr_of dims syms b)) (meaning (named dims syms at) a)
    (meaning (named dims syms at) b) (meaning_law dims syms at a) (meaning_law dims syms at b)
meaning_law dims syms at (Mul' s (more_of-ExprText a end_of-ExprText) t (more_of-ExprText b end_of-ExprText)) =
    both (λ x y. x *ℤ y) (value_of at (expr_of dims syms a)) (value_of at (expr_of dims syms b)) (meaning (named dims syms at) a)
    (meaning (named dims syms at) b) (meaning_law dims syms at a) (meaning_law dims syms at b)
meaning_law dims syms at (Mod' s (more_of-ExprText a end_of-ExprText) t (more_of-ExprText b end_of-ExprText)) =
    both remainder (value_of at (expr_of dims syms a)) (value_of at (expr_of dims syms b)) (meaning (named dims syms at) a)
    (meaning (named dims syms at) b) (meaning_law dims syms at a) (meaning_law dims syms at b)
meaning_law dims syms at (Floor' s (more_of-ExprText a end_of-ExprText) t (more_of-ExprText b end_of-ExprText)) =
    both floor_quotient (value_of at (expr_of dims syms a)) (value_of at (expr_of dims syms b)) (meaning (named dims syms at) a)
    (meaning (named dims syms at) b) (meaning_law dims syms at a) (meaning_law dims syms at b)
meaning_law dims syms at (Ceil' s (more_of-ExprText a end_of-ExprText) t (more_of-ExprText b end_of-ExprText)) =
    both ceil_quotient (value_of at (expr_of dims syms a)) (value_of at (expr_of dims syms b)) (meaning (named dims syms at) a)
    (meaning (named dims syms at) b) (meaning_law dims syms at a) (meaning_law dims syms at b)
