-- The pieces of types that were read are spaced.
use Rattle.std.proofs.Common.{◌≡◌, ℕ, Bool, true, false, List, [], ◌∷◌, ◌++◌, map, Option, Some, None, sym, ◌∙◌, ap, subst, codes}
use Rattle.std.specs.Prelude.{if◌then◌else◌}
use Rattle.std.specs.List.{All}
use Rattle.std.proofs.lemmas.List.{append-nil}
use Rattle.av_lex.specs.declared.token.Kind.TheVariants as kinds
use Rattle.av_lex.specs.declared.token.Sign.TheVariants.{OpenAngle, CloseAngle, Arrow}
use Rattle.av_tree.specs.declared.written.SizeText.{SizeText}
use Rattle.av_tree.specs.declared.written.SizeText.TheVariants as sizes
use Rattle.av_tree.specs.declared.written.DimText.{DimText}
use Rattle.av_tree.specs.declared.written.DimText.TheVariants as dims
use Rattle.av_tree.specs.declared.written.LayoutText.{LayoutText}
use Rattle.av_tree.specs.declared.written.TypeText.{TypeText, Scalar, MemRef, Vector, Func, fold-TypeText, fold-roll-TypeText}
use Rattle.av_tree.specs.declared.written.TypeText.TheVariants.{rolls-Scalar, rolls-MemRef, rolls-Vector, rolls-Func}
use Rattle.av_tree.specs.declared.written.TypeText.TheOpen as open_type
use Rattle.av_printer.specs.Pieces.{Piece, sign, plain, comma, colon, spaced, commas, joined, in_round, in_square}
use Rattle.av_printer.specs.Types.{size_alone, size_x, dim_x, layout_behind, strides_of, is_zero, written_offset, offset_of, one_or_several, type_step, type_pieces}
use Rattle.av_print_laws.specs.Spacing.{IsWord}
use Rattle.av_print_laws.specs.ReadTypes.{IsShortSize, IsShortDim, IsShortLayout, IsReadType, AreReadTypes, scalar, mem_ref, vector, func, none, more}
use Rattle.av_print_laws.specs.WrittenLaws.{TypesLaw}
use Rattle.av_print_laws.proofs.Parts.{Free, Sound, Divides, Keeps, Opens, AllOf, free-append, free-sound, sound-append, sound-free, sound-divides, sound-of_free, divides-append, keeps-divides, sound-none, keeps-none, free-open_angle, divides-open_angle, sound-close_angle, divides-close_angle, sound-question, opens-question, free-comma, divides-comma, free-colon, divides-colon, free-arrow, free-spaced, free-in_round, sound-in_square, sound-word, sound-number, free-size, free-scale, all_mapped, sound-commas, opens-commas, free-joined}
use Rattle.av_print_laws.proofs.Words.{memref_word, vector_word, strided_word, offset_word, number_word, size_word, any_size_word, scale_word, opens-number}

-- ---- what each kind of type spells
pub type-scalar : (name : List ℕ) → type_pieces (Scalar name) ≡ plain name
unfolding type_pieces
type-scalar name =
    ap (fold-TypeText (List Piece) type_step) (sym (rolls-Scalar name)) ∙ fold-roll-TypeText (List Piece) type_step (open_type.Scalar name)

pub type-memref : (sizes : List SizeText) (elem : List ℕ) (at : Option LayoutText) → type_pieces (MemRef sizes elem at)
    ≡ plain (codes "memref") ++ sign OpenAngle ++ joined (map size_x sizes) ++ plain elem ++ layout_behind at ++ sign CloseAngle
unfolding type_pieces
type-memref sizes elem at =
    ap (fold-TypeText (List Piece) type_step) (sym (rolls-MemRef sizes elem at)) ∙ fold-roll-TypeText (List Piece) type_step (open_type.MemRef sizes elem at)

pub type-vector : (dims : List DimText) (elem : List ℕ) → type_pieces (Vector dims elem)
    ≡ plain (codes "vector") ++ sign OpenAngle ++ joined (map dim_x dims) ++ plain elem ++ sign CloseAngle
unfolding type_pieces
type-vector dims elem =
    ap (fold-TypeText (List Piece) type_step) (sym (rolls-Vector dims elem)) ∙ fold-roll-TypeText (List Piece) type_step (open_type.Vector dims elem)

pub type-func : (inputs results : List TypeText) → type_pieces (Func inputs results)
    ≡ in_round (commas (map type_pieces inputs)) ++ spaced (sign Arrow) ++ one_or_several (map type_pieces results)
unfolding type_pieces
type-func inputs results =
    ap (fold-TypeText (List Piece) type_step) (sym (rolls-Func inputs results)) ∙ fold-roll-TypeText (List Piece) type_step (open_type.Func inputs results)

-- ---- sizes
sound-size : (s : SizeText) → IsShortSize s → Sound (size_alone s)
sound-size (sizes.Fixed n) h = sound-number _ (number_word n h)
sound-size sizes.Dynamic h = sound-question

opens-size : (s : SizeText) → IsShortSize s → Opens (size_alone s)
opens-size (sizes.Fixed n) h = opens-number n h
opens-size sizes.Dynamic h = opens-question

free-size_x : (s : SizeText) → IsShortSize s → Free (size_x s)
free-size_x (sizes.Fixed n) h = free-size _ (size_word n h)
free-size_x sizes.Dynamic h = free-size _ any_size_word

free-dim_x : (d : DimText) → IsShortDim d → Free (dim_x d)
free-dim_x (dims.Fixed n) h = free-size _ (size_word n h)
free-dim_x dims.Dynamic h = free-size _ any_size_word
free-dim_x (dims.Scalable n) h = free-scale _ (scale_word n h)

-- ---- layouts
sound-strides : (ss : List SizeText) → All IsShortSize ss → Sound (strides_of ss)
unfolding strides_of
sound-strides ss h =
    free-sound (comma ++ plain (codes "strided") ++ sign OpenAngle) (in_square (commas (map size_alone ss)))
    (sound-free (comma ++ plain (codes "strided")) (sign OpenAngle)
    (free-sound comma (plain (codes "strided")) free-comma (sound-word (codes "strided") strided_word)) free-open_angle divides-open_angle)
    (sound-in_square (commas (map size_alone ss))
    (sound-commas (map size_alone ss) (all_mapped IsShortSize Sound size_alone sound-size ss h))
    (opens-commas (map size_alone ss) (all_mapped IsShortSize Opens size_alone opens-size ss h)))

divides-strides : (ss : List SizeText) → Divides (strides_of ss)
unfolding strides_of
divides-strides ss =
    divides-append (comma ++ plain (codes "strided") ++ sign OpenAngle) (in_square (commas (map size_alone ss)))
    (divides-append (comma ++ plain (codes "strided")) (sign OpenAngle) (divides-append comma (plain (codes "strided")) divides-comma))

sound-offset : (s : SizeText) → IsShortSize s → Sound (written_offset s)
unfolding written_offset
sound-offset s h =
    free-sound (comma ++ plain (codes "offset") ++ colon) (size_alone s)
    (sound-free (comma ++ plain (codes "offset")) colon
    (free-sound comma (plain (codes "offset")) free-comma (sound-word (codes "offset") offset_word)) free-colon divides-colon)
    (sound-size s h)

divides-offset : (s : SizeText) → Divides (written_offset s)
unfolding written_offset
divides-offset s =
    divides-append (comma ++ plain (codes "offset") ++ colon) (size_alone s)
    (divides-append (comma ++ plain (codes "offset")) colon (divides-append comma (plain (codes "offset")) divides-comma))

-- an offset that may be left out, and the end of the layout
sound-end : (is_left_out : Bool) (strides offset : List Piece) → Sound strides → Sound offset → Divides offset
    → Sound (strides ++ (if is_left_out then [] else offset) ++ sign CloseAngle)
sound-end true strides offset s o d =
    subst (λ (ps : List Piece). Sound (ps ++ sign CloseAngle)) (sym (append-nil strides))
    (sound-divides strides (sign CloseAngle) s sound-close_angle divides-close_angle)
sound-end false strides offset s o d =
    sound-divides (strides ++ offset) (sign CloseAngle) (sound-divides strides offset s o d) sound-close_angle divides-close_angle

sound-layout : (at : Option LayoutText) → IsShortLayout at → Sound (layout_behind at)
unfolding layout_behind offset_of
sound-layout None h = sound-none
sound-layout (Some l) h =
    sound-end (is_zero l.offset) (strides_of l.strides) (written_offset l.offset) (sound-strides l.strides h.0) (sound-offset l.offset h.1)
    (divides-offset l.offset)

keeps-layout : (at : Option LayoutText) → Keeps (layout_behind at)
unfolding layout_behind
keeps-layout None = keeps-none
keeps-layout (Some l) =
    keeps-divides (strides_of l.strides ++ offset_of l.offset ++ sign CloseAngle)
    (divides-append (strides_of l.strides ++ offset_of l.offset) (sign CloseAngle)
    (divides-append (strides_of l.strides) (offset_of l.offset) (divides-strides l.strides)))

-- ---- types
-- a word, `<` and sizes
free-head : (name : List ℕ) (many : List (List Piece)) → IsWord kinds.Word name → AllOf Free many
    → Free (plain name ++ sign OpenAngle ++ joined many)
free-head name many w h =
    free-append (plain name ++ sign OpenAngle) (joined many)
    (sound-free (plain name) (sign OpenAngle) (sound-word name w) free-open_angle divides-open_angle)
    (free-joined many h)

sound-memref : (ss : List SizeText) (elem : List ℕ) (at : Option LayoutText) → All IsShortSize ss → IsWord kinds.Word elem → IsShortLayout at
    → Sound (plain (codes "memref") ++ sign OpenAngle ++ joined (map size_x ss) ++ plain elem ++ layout_behind at ++ sign CloseAngle)
sound-memref ss elem at h w l =
    let head : List Piece = plain (codes "memref") ++ sign OpenAngle ++ joined (map size_x ss) in
    sound-divides (head ++ plain elem ++ layout_behind at) (sign CloseAngle)
    (sound-append (head ++ plain elem) (layout_behind at)
    (free-sound head (plain elem)
    (free-head (codes "memref") (map size_x ss) memref_word (all_mapped IsShortSize Free size_x free-size_x ss h))
    (sound-word elem w))
    (sound-layout at l) (keeps-layout at))
    sound-close_angle divides-close_angle

sound-vector : (ds : List DimText) (elem : List ℕ) → All IsShortDim ds → IsWord kinds.Word elem
    → Sound (plain (codes "vector") ++ sign OpenAngle ++ joined (map dim_x ds) ++ plain elem ++ sign CloseAngle)
sound-vector ds elem h w =
    let head : List Piece = plain (codes "vector") ++ sign OpenAngle ++ joined (map dim_x ds) in
    sound-divides (head ++ plain elem) (sign CloseAngle)
    (free-sound head (plain elem)
    (free-head (codes "vector") (map dim_x ds) vector_word (all_mapped IsShortDim Free dim_x free-dim_x ds h))
    (sound-word elem w))
    sound-close_angle divides-close_angle

pub sound-one_or_several : (several : List (List Piece)) → AllOf Sound several → Sound (one_or_several several)
unfolding one_or_several AllOf
sound-one_or_several [] h = sound-of_free (in_round []) (free-in_round [] sound-none)
sound-one_or_several (only ∷ []) h = h.0
sound-one_or_several (first ∷ second ∷ others) h =
    sound-of_free (in_round (commas (first ∷ second ∷ others)))
    (free-in_round (commas (first ∷ second ∷ others)) (sound-commas (first ∷ second ∷ others) h))

sound-func : (inputs results : List (List Piece)) → AllOf Sound inputs → AllOf Sound results
    → Sound (in_round (commas inputs) ++ spaced (sign Arrow) ++ one_or_several results)
sound-func inputs results h k =
    free-sound (in_round (commas inputs) ++ spaced (sign Arrow)) (one_or_several results)
    (free-append (in_round (commas inputs)) (spaced (sign Arrow))
    (free-in_round (commas inputs) (sound-commas inputs h))
    (free-spaced (sign Arrow) (sound-of_free (sign Arrow) free-arrow)))
    (sound-one_or_several results k)

mutual
  unfolding AllOf

  pub sound-type : (ty : TypeText) → IsReadType ty → Sound (type_pieces ty)
  sound-type _ (scalar name w) = subst Sound (sym (type-scalar name)) (sound-word name w)
  sound-type _ (mem_ref ss elem at h w l) = subst Sound (sym (type-memref ss elem at)) (sound-memref ss elem at h w l)
  sound-type _ (vector ds elem h w) = subst Sound (sym (type-vector ds elem)) (sound-vector ds elem h w)
  sound-type _ (func inputs results h k) =
      subst Sound (sym (type-func inputs results))
      (sound-func (map type_pieces inputs) (map type_pieces results) (sound-types inputs h) (sound-types results k))

  pub sound-types : (types : List TypeText) → AreReadTypes types → AllOf Sound (map type_pieces types)
  sound-types _ none = tt
  sound-types _ (more ty types h k) = (sound-type ty h, sound-types types k)

pub types-law : TypesLaw
types-law ty h = sound-type ty h
