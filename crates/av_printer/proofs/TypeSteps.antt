-- The spelling of each kind of type.
use Rattle.std.proofs.Common.{◌≡◌, ℕ, ◌<◌, ◌≤◌, List, [], ◌∷◌, ◌++◌, length, get_or, map, Option, Some, None, refl, ap, sym, ◌∙◌, codes, arith}
use Rattle.av_lex.specs.declared.token.Sign.TheVariants.{OpenAngle, CloseAngle, Arrow}
use Rattle.av_tree.specs.declared.written.LayoutText.{LayoutText}
use Rattle.av_tree.specs.declared.written.SizeText.{SizeText}
use Rattle.av_tree.specs.declared.written.DimText.{DimText}
use Rattle.av_tree.specs.declared.written.TypeText.{TypeText, Scalar, MemRef, Vector, Func, fold-TypeText, fold-roll-TypeText}
use Rattle.av_tree.specs.declared.written.TypeText.TheVariants.{rolls-Scalar, rolls-MemRef, rolls-Vector, rolls-Func}
use Rattle.av_tree.specs.declared.written.TypeText.TheOpen as open_type
use Rattle.av_printer.specs.Pieces.{Piece, spelt, sign, plain, spaced, commas, joined, in_round}
use Rattle.av_printer.specs.Types.{size_x, dim_x, layout_behind, strides_of, offset_of, one_or_several, type_step, type_pieces}

pub type-scalar : (name : List ℕ) → type_pieces (Scalar name) ≡ plain name
unfolding type_pieces
type-scalar name =
    ap (fold-TypeText (List Piece) type_step) (sym (rolls-Scalar name)) ∙ fold-roll-TypeText (List Piece) type_step (open_type.Scalar name)

pub type-memref : (sizes : List SizeText) (elem : List ℕ) (at : Option LayoutText) → type_pieces (MemRef sizes elem at)
    ≡ plain (codes "memref") ++ sign OpenAngle ++ joined (map size_x sizes) ++ plain elem ++ layout_behind at ++ sign CloseAngle
unfolding type_pieces
type-memref sizes elem at =
    ap (fold-TypeText (List Piece) type_step) (sym (rolls-MemRef sizes elem at)) ∙ fold-roll-TypeText (List Piece) type_step (open_type.MemRef sizes elem at)

pub type-vector : (dims : List DimText) (elem : List ℕ) → type_pieces (Vector dims elem)
    ≡ plain (codes "vector") ++ sign OpenAngle ++ joined (map dim_x dims) ++ plain elem ++ sign CloseAngle
unfolding type_pieces
type-vector dims elem =
    ap (fold-TypeText (List Piece) type_step) (sym (rolls-Vector dims elem)) ∙ fold-roll-TypeText (List Piece) type_step (open_type.Vector dims elem)

pub type-func : (inputs results : List TypeText) → type_pieces (Func inputs results)
    ≡ in_round (commas (map type_pieces inputs)) ++ spaced (sign Arrow) ++ one_or_several (map type_pieces results)
unfolding type_pieces
type-func inputs results =
    ap (fold-TypeText (List Piece) type_step) (sym (rolls-Func inputs results)) ∙ fold-roll-TypeText (List Piece) type_step (open_type.Func inputs results)

pub layout-none : layout_behind None ≡ []
unfolding layout_behind
layout-none = refl

pub layout-some : (l : LayoutText) → layout_behind (Some l) ≡ strides_of l.strides ++ offset_of l.offset ++ sign CloseAngle
unfolding layout_behind
layout-some l = refl

-- one alone, and others
pub one-alone : {A : Type 0} (f : A → List Piece) (xs : List A) (x : A) → 1 ≤ length xs → length xs < 2 → x ≡ get_or xs 0 x
    → one_or_several (map f xs) ≡ f x
unfolding one_or_several
one-alone f [] x low high e = absurd (omega arith)
one-alone f (y ∷ []) x low high e = ap f (sym e)
one-alone f (y ∷ z ∷ xs) x low high e = absurd (omega arith)

pub none-alone : {A : Type 0} (f : A → List Piece) (xs : List A) → length xs < 1
    → spelt (one_or_several (map f xs)) ≡ 40 ∷ 41 ∷ []
unfolding one_or_several spelt sign
none-alone f [] high = refl
none-alone f (y ∷ xs) high = absurd (omega arith)

pub several-alone : {A : Type 0} (f : A → List Piece) (xs : List A) → 2 ≤ length xs
    → one_or_several (map f xs) ≡ in_round (commas (map f xs))
unfolding one_or_several
several-alone f [] low = absurd (omega arith)
several-alone f (y ∷ []) low = absurd (omega arith)
several-alone f (y ∷ z ∷ xs) low = refl

pub ruleset type_steps = (type-scalar, type-memref, type-vector, type-func, layout-none, layout-some, one-alone, none-alone, several-alone)
