-- The spelling of types.
use Rattle.std.specs.Prelude.{zero, suc, Bool, true, false, if◌then◌else◌, List, [], ◌∷◌, ◌++◌, map, Option, Some, None, codes, decimal}
use Rattle.av_lex.specs.declared.token.Kind.TheVariants as kinds
use Rattle.av_lex.specs.declared.token.Sign.TheVariants.{OpenAngle, CloseAngle, Question, Arrow}
use Rattle.av_tree.specs.declared.written.SizeText.{SizeText}
use Rattle.av_tree.specs.declared.written.SizeText.TheVariants as sizes
use Rattle.av_tree.specs.declared.written.DimText.{DimText}
use Rattle.av_tree.specs.declared.written.DimText.TheVariants as dims
use Rattle.av_tree.specs.declared.written.LayoutText.{LayoutText}
use Rattle.av_tree.specs.declared.written.TypeText.{TypeText, TypeText-F, fold-TypeText}
use Rattle.av_tree.specs.declared.written.TypeText.TheOpen.{Scalar, MemRef, Vector, Func}
use Rattle.av_printer.specs.Pieces.{Piece, token, sign, plain, comma, colon, spaced, commas, joined, in_round, in_square}

-- a size that stands alone
abbrev pub size_alone : SizeText → List Piece
size_alone (sizes.Fixed n) = token kinds.Number (decimal n)
size_alone sizes.Dynamic = sign Question

-- a size with the `x` behind it, which is one token
abbrev pub size_x : SizeText → List Piece
size_x (sizes.Fixed n) = token kinds.DimX (decimal n ++ codes "x")
size_x sizes.Dynamic = token kinds.DimX (codes "?x")

abbrev pub dim_x : DimText → List Piece
dim_x (dims.Fixed n) = token kinds.DimX (decimal n ++ codes "x")
dim_x dims.Dynamic = token kinds.DimX (codes "?x")
dim_x (dims.Scalable n) = token kinds.ScalX (codes "[" ++ decimal n ++ codes "]x")

unfoldable pub strides_of : List SizeText → List Piece
strides_of strides = comma ++ plain (codes "strided") ++ sign OpenAngle ++ in_square (commas (map size_alone strides))

unfoldable pub written_offset : SizeText → List Piece
written_offset offset = comma ++ plain (codes "offset") ++ colon ++ size_alone offset

abbrev pub is_zero : SizeText → Bool
is_zero (sizes.Fixed zero) = true
is_zero (sizes.Fixed (suc n)) = false
is_zero sizes.Dynamic = false

-- an offset of 0 isn't written
unfoldable pub offset_of : SizeText → List Piece
offset_of offset = if is_zero offset then [] else written_offset offset

-- `, strided<[1, ?], offset: 3>`
unfoldable pub layout_behind : Option LayoutText → List Piece
layout_behind None = []
layout_behind (Some l) = strides_of l.strides ++ offset_of l.offset ++ sign CloseAngle

-- the types of results: one alone without brackets
unfoldable pub one_or_several : List (List Piece) → List Piece
one_or_several [] = in_round []
one_or_several (only ∷ []) = only
one_or_several (first ∷ second ∷ others) = in_round (commas (first ∷ second ∷ others))

-- `i32`, `memref<4x?xi32>`, `vector<[4]xi32>`, `(i32, index) -> i32`
abbrev pub type_step : TypeText-F (List Piece) → List Piece
type_step (Scalar name) = plain name
type_step (MemRef sizes elem at) =
    plain (codes "memref") ++ sign OpenAngle ++ joined (map size_x sizes) ++ plain elem ++ layout_behind at ++ sign CloseAngle
type_step (Vector dims elem) =
    plain (codes "vector") ++ sign OpenAngle ++ joined (map dim_x dims) ++ plain elem ++ sign CloseAngle
type_step (Func inputs results) = in_round (commas inputs) ++ spaced (sign Arrow) ++ one_or_several results

unfoldable pub type_pieces : TypeText → List Piece
type_pieces = fold-TypeText (List Piece) type_step
