-- The value of an expression as it is written, and what the map of an access must keep of it.
use Rattle.std.specs.Prelude.{◌≡◌, ℕ, ℤ, neg_ℤ, ◌+ℤ◌, ◌-ℤ◌, ◌*ℤ◌, List, map}
use Rattle.av_affine.specs.Values.{floor_quotient, ceil_quotient, remainder}
use Rattle.av_tree.specs.declared.written.ExprText.{ExprText, Name, Const, Neg', Add', Sub', Mul', Mod', Floor', Ceil', end_of-ExprText, more_of-ExprText}
use Rattle.av_values.specs.declared.value.Expression.{Expression}
use Rattle.av_values.specs.declared.subscripts.Numbering.{Numbering}

-- the value of an expression where its names have these values
unfoldable pub text_value : (List ℕ → ℤ) → ExprText → ℤ
text_value at (Name name) = at name
text_value at (Const z) = z
text_value at (Neg' s (more_of-ExprText a end_of-ExprText)) = neg_ℤ (text_value at a)
text_value at (Add' s (more_of-ExprText a end_of-ExprText) t (more_of-ExprText b end_of-ExprText)) = text_value at a +ℤ text_value at b
text_value at (Sub' s (more_of-ExprText a end_of-ExprText) t (more_of-ExprText b end_of-ExprText)) = text_value at a -ℤ text_value at b
text_value at (Mul' s (more_of-ExprText a end_of-ExprText) t (more_of-ExprText b end_of-ExprText)) = text_value at a *ℤ text_value at b
text_value at (Mod' s (more_of-ExprText a end_of-ExprText) t (more_of-ExprText b end_of-ExprText)) = remainder (text_value at a) (text_value at b)
text_value at (Floor' s (more_of-ExprText a end_of-ExprText) t (more_of-ExprText b end_of-ExprText)) = floor_quotient (text_value at a) (text_value at b)
text_value at (Ceil' s (more_of-ExprText a end_of-ExprText) t (more_of-ExprText b end_of-ExprText)) = ceil_quotient (text_value at a) (text_value at b)

-- Where each parameter of the map has the value of its operand, each result has the value of its subscript.
abbrev pub IsFaithful : Numbering → List Expression → Type 0
IsFaithful numbering subscripts =
    (values parameters : List ℕ → ℤ)
    → map parameters numbering.map.dims ≡ map values numbering.dims
    → map parameters numbering.map.syms ≡ map values numbering.syms
    → map (λ (e : ExprText). text_value parameters e) numbering.map.results ≡ map (λ (s : Expression). text_value values s.expr) subscripts
