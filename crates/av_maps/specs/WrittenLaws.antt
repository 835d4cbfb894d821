-- What holds of written expressions and their parameters.
use Rattle.std.specs.Prelude.{◌≡◌, ℕ, ◌<◌, ℤ, neg_ℤ, ◌+ℤ◌, ◌-ℤ◌, ◌*ℤ◌, true, List, length, slice_index_or}
use Rattle.av_affine.specs.declared.expression.Leaf.{Leaf}
use Rattle.av_affine.specs.declared.expression.Leaf.TheVariants.{Dim, Sym}
use Rattle.av_affine.specs.Values.{ceil_quotient, floor_quotient, remainder, value_of}
use Rattle.av_tree.specs.declared.written.ExprText.{ExprText, Name, Const, Neg', Add', Sub', Mul', Mod', Floor', Ceil', end_of-ExprText, more_of-ExprText}
use Rattle.av_maps.specs.Names.{leaf_of, parameters_differ}
use Rattle.av_maps.specs.Written.{expr_of}

-- where parameters differ, each dimension and each symbol has the number of its place
abbrev pub OwnNumbersLaw : Type 0
OwnNumbersLaw =
    (dims syms : List (List ℕ)) → parameters_differ dims syms ≡ true
    → ((k : ℕ) (d : List ℕ) → k < length dims → leaf_of dims syms (slice_index_or dims k d) ≡ Dim k)
    × ((k : ℕ) (d : List ℕ) → k < length syms → leaf_of dims syms (slice_index_or syms k d) ≡ Sym k)

-- the value of a written expression where its names have values
unfoldable pub meaning : (List ℕ → ℤ) → ExprText → ℤ
meaning at (Name name) = at name
meaning at (Const z) = z
meaning at (Neg' s (more_of-ExprText a end_of-ExprText)) = neg_ℤ (meaning at a)
meaning at (Add' s (more_of-ExprText a end_of-ExprText) t (more_of-ExprText b end_of-ExprText)) = meaning at a +ℤ meaning at b
meaning at (Sub' s (more_of-ExprText a end_of-ExprText) t (more_of-ExprText b end_of-ExprText)) = meaning at a -ℤ meaning at b
meaning at (Mul' s (more_of-ExprText a end_of-ExprText) t (more_of-ExprText b end_of-ExprText)) = meaning at a *ℤ meaning at b
meaning at (Mod' s (more_of-ExprText a end_of-ExprText) t (more_of-ExprText b end_of-ExprText)) = remainder (meaning at a) (meaning at b)
meaning at (Floor' s (more_of-ExprText a end_of-ExprText) t (more_of-ExprText b end_of-ExprText)) = floor_quotient (meaning at a) (meaning at b)
meaning at (Ceil' s (more_of-ExprText a end_of-ExprText) t (more_of-ExprText b end_of-ExprText)) = ceil_quotient (meaning at a) (meaning at b)

-- an expression with numbers in place of names has the value that is written, where each parameter has the value of its name
abbrev pub MeaningLaw : Type 0
MeaningLaw =
    (dims syms : List (List ℕ)) (at : Leaf → ℤ) (e : ExprText)
    → value_of at (expr_of dims syms e) ≡ meaning (λ name. at (leaf_of dims syms name)) e
