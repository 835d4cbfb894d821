-- The brackets of types, entries and lines of the trees that are printed for programs.
use Rattle.std.proofs.Common.{◌≡◌, ℕ, suc, Bool, List, [], ◌∷◌, ◌++◌, map, length, refl, ◌∙◌, ap, sym, arith, codes}
use Rattle.std.specs.Prelude.{ℤ, pos, negsuc, Option, Some, None, decimal, take, drop}
use Rattle.av_lex.specs.declared.token.Kind.TheVariants as kinds
use Rattle.av_lex.specs.declared.token.Sign.TheVariants.{OpenAngle, CloseAngle, OpenCurly, CloseCurly, Colon, Equal, Plus, Minus}
use Rattle.av_bits.specs.declared.types.Width.TheVariants.{W32}
use Rattle.av_ir.specs.declared.ty.Ty.{Ty}
use Rattle.av_ir.specs.declared.ty.Ty.TheVariants as ty
use Rattle.av_tree.specs.declared.attribute.Attr.{Attr, out-Attr, out-roll-Attr}
use Rattle.av_tree.specs.declared.attribute.Attr.TheVariants as attr
use Rattle.av_tree.specs.declared.attribute.Attr.TheOpen as open_attr
use Rattle.av_tree.specs.declared.attribute.Named.{Named, Named-F, out-roll-Named}
use Rattle.av_tree.specs.declared.written.ExprText.{ExprText}
use Rattle.av_tree.specs.declared.written.ExprText.TheVariants as expr
use Rattle.av_tree.specs.declared.written.MapText.{MapText}
use Rattle.av_tree.specs.declared.written.SizeText.{SizeText}
use Rattle.av_tree.specs.declared.written.SizeText.TheVariants as sizes
use Rattle.av_tree.specs.declared.written.DimText.{DimText}
use Rattle.av_tree.specs.declared.written.DimText.TheVariants as dims
use Rattle.av_tree.specs.declared.written.TypeText.{TypeText}
use Rattle.av_tree.specs.declared.written.TypeText.TheVariants as text
use Rattle.av_printer.specs.Pieces.{Piece, sign, plain}
use Rattle.av_printer.specs.Types.{size_x, dim_x, layout_behind, type_pieces}
use Rattle.av_printer.specs.Expressions.{number, before, from, which, how_many, value, result_name, placed, leaf_of, leaf, Part, side, sum, part_of, expression, subscripts, constant_bound, bound_by}
use Rattle.av_printer.specs.Attributes.{typed, or_nothing, assigned, attr_of, entry_pieces}
use Rattle.av_printer.specs.Dictionaries.{inserted, ordered_onto}
use Rattle.av_printer.specs.Operations as lines
use Rattle.av_printer.specs.Parts.{first_known, bound_in, bound_of}
use Rattle.av_printer.specs.Operations.{Head, property}
use Rattle.av_totree.specs.Types.{elem_name, size_of, dims_of, type_of}
use Rattle.av_totree.specs.Constants.{signed_low}
use Rattle.av_program_laws.specs.Programs.{Subscript, fixed, variable, plus, minus}
use Rattle.av_program_laws.specs.WrittenTrees.{entry, number_of, mark, constant_attr, dimension, over, bound_map, subscript_map}
use Rattle.av_print_laws.proofs.TypeParts.{type-scalar, type-memref, type-vector}
use Rattle.av_print_laws.proofs.AttrEquations.{attr-number, entry-opened}
use Rattle.av_printer.proofs.ExpressionSteps.{of-name, of-const, of-add, of-sub, single-const}
use Rattle.av_program_laws.proofs.PrintedWalks.{property-first}
use Rattle.av_program_laws.proofs.Balance.{Moves, with, widen, nothing, one, opening, closing, round, square, plain_moves, digits_moves, hash_moves, sign_moves, space_moves, spaced_moves, colon_moves, commas_moves, joined_moves, each_mapped, moves_as}

-- ---- numbers and names
pub number_moves : (k : ℕ) (z : ℤ) → Moves k 0 (number z)
unfolding number
number_moves k (pos n) = digits_moves k (decimal n)
number_moves k (negsuc n) = with (sign_moves k Minus refl) (digits_moves 0 (decimal (suc n))) (omega arith)

which_moves : (cs : List ℕ) → Moves 0 0 (which cs)
unfolding which
which_moves [] = nothing 0
which_moves (c ∷ cs) = hash_moves 0 (c ∷ cs)

how_many_moves : (cs : List ℕ) → Moves 0 0 (how_many cs)
unfolding how_many
how_many_moves [] = nothing 0
how_many_moves (c ∷ cs) = with (one 0 (kinds.Sign Colon) (c ∷ []) refl) (digits_moves 0 cs) (omega arith)

pub value_moves : (k : ℕ) (name : List ℕ) → Moves k 0 (value name)
value_moves k name = with (one k kinds.ValId (before 35 name) refl) (which_moves (from 35 name)) (omega arith)

result_moves : (name : List ℕ) → Moves 0 0 (result_name name)
result_moves name = with (one 0 kinds.ValId (before 58 name) refl) (how_many_moves (from 58 name)) (omega arith)

pub results_moves : (k : ℕ) (names : List (List ℕ)) → Moves k 0 (lines.results_before names)
unfolding lines.results_before
results_moves k [] = nothing k
results_moves k (first ∷ others) =
    with (widen k (commas_moves 0 (map result_name (first ∷ others)) (each_mapped 0 result_name (first ∷ others) result_moves)) (omega arith))
    (spaced_moves (sign_moves 0 Equal refl)) (omega arith)

pub values_moves : (k : ℕ) (names : List (List ℕ)) → Moves k 0 (lines.values_pieces names)
unfolding lines.values_pieces
values_moves k names = commas_moves k (map value names) (each_mapped k value names (value_moves k))

-- ---- types
size_moves : (s : SizeText) → Moves 0 0 (size_x s)
size_moves (sizes.Fixed n) = one 0 kinds.DimX (decimal n ++ codes "x") refl
size_moves sizes.Dynamic = one 0 kinds.DimX (codes "?x") refl

dim_moves : (d : DimText) → Moves 0 0 (dim_x d)
dim_moves (dims.Fixed n) = one 0 kinds.DimX (decimal n ++ codes "x") refl
dim_moves dims.Dynamic = one 0 kinds.DimX (codes "?x") refl
dim_moves (dims.Scalable n) = one 0 kinds.ScalX (codes "[" ++ decimal n ++ codes "]x") refl

layout_moves : Moves 0 0 (layout_behind None)
unfolding layout_behind
layout_moves = nothing 0

pub scalar_moves : (k : ℕ) (name : List ℕ) → Moves k 0 (type_pieces (text.Scalar name))
scalar_moves k name = moves_as (type_pieces (text.Scalar name)) (type-scalar name) (plain_moves k name)

pub type_moves : (t : Ty) → Moves 1 0 (type_pieces (type_of t))
type_moves (ty.Scalar elem) = scalar_moves 1 (elem_name elem)
type_moves (ty.MemRef extents elem) =
    moves_as (type_pieces (text.MemRef (map size_of extents) (elem_name elem) None)) (type-memref (map size_of extents) (elem_name elem) None)
    (closing CloseAngle
    (with
    (with
    (with (opening OpenAngle (plain_moves 1 (codes "memref")) refl (omega arith))
    (joined_moves 0 (map size_x (map size_of extents)) (each_mapped 0 size_x (map size_of extents) size_moves)) (omega arith))
    (plain_moves 0 (elem_name elem)) (omega arith))
    layout_moves (omega arith))
    refl (omega arith) (omega arith))
type_moves (ty.Vector shape elem) =
    moves_as (type_pieces (text.Vector (dims_of shape.scalable shape.sizes) (elem_name elem))) (type-vector (dims_of shape.scalable shape.sizes) (elem_name elem))
    (closing CloseAngle
    (with
    (with (opening OpenAngle (plain_moves 1 (codes "vector")) refl (omega arith))
    (joined_moves 0 (map dim_x (dims_of shape.scalable shape.sizes)) (each_mapped 0 dim_x (dims_of shape.scalable shape.sizes) dim_moves)) (omega arith))
    (plain_moves 0 (elem_name elem)) (omega arith))
    refl (omega arith) (omega arith))

typed_moves : (k : ℕ) (name : List ℕ) → Moves k 0 (typed (text.Scalar name))
unfolding typed
typed_moves k name = with (spaced_moves (sign_moves k Colon refl)) (scalar_moves 0 name) (omega arith)

numbered_moves : (k : ℕ) (z : ℤ) (name : List ℕ) → Moves k 0 (number z ++ typed (text.Scalar name))
numbered_moves k z name = with (number_moves k z) (typed_moves 0 name) (omega arith)

-- the first of several types
pub first_type_moves : (t : Ty) (others : List (Option TypeText)) → Moves 1 0 (first_known (Some (type_of t) ∷ others))
unfolding first_known lines.known_type
first_type_moves t others = type_moves t

-- ---- marks
assigned_moves : (z : ℤ) (name : List ℕ) → Moves 0 0 (assigned (attr_of (number_of name z)))
unfolding assigned
assigned_moves z name =
    moves_as (assigned (attr_of (number_of name z))) (ap assigned (attr-number z (text.Scalar name)))
    (with (spaced_moves (sign_moves 0 Equal refl)) (numbered_moves 0 z name) (omega arith))

pub entry_moves : (front name : List ℕ) (z : ℤ) → Moves 0 0 (entry_pieces (entry front (number_of name z)))
entry_moves front name z =
    moves_as (entry_pieces (entry front (number_of name z)))
    (entry-opened (entry front (number_of name z))
    ∙ ap (λ (e : Named-F Attr Named). plain e.name ++ assigned (attr_of e.value)) (out-roll-Named (record { name = front; value = number_of name z })))
    (with (plain_moves 0 front) (assigned_moves z name) (omega arith))

pub mark_moves : (name : List ℕ) (n : ℕ) → Moves 1 0 (lines.marks_behind (mark name n))
unfolding lines.marks_behind inserted ordered_onto
mark_moves name n =
    closing CloseCurly
    (with (opening OpenCurly (space_moves 1) refl (omega arith))
    (commas_moves 0 (entry_pieces (entry name (number_of (codes "i64") (pos n))) ∷ []) (entry_moves name (codes "i64") (pos n), tt)) (omega arith))
    refl (omega arith) (omega arith)

-- ---- subscripts
leaf_moves : (a b : Option (List ℕ)) (name : List ℕ) → Moves 1 0 (leaf_of a b name)
unfolding leaf_of
leaf_moves (Some v) b name = value_moves 1 v
leaf_moves None (Some v) name = with (plain_moves 1 (codes "symbol")) (round (value_moves 0 v)) (omega arith)
leaf_moves None None name = plain_moves 1 name

module _ (f : List ℕ → List Piece) (each : (name : List ℕ) → Moves 1 0 (f name)) where
  pub name_moves : (name : List ℕ) → Moves 1 0 (expression f (expr.Name name))
  name_moves name = moves_as (expression f (expr.Name name)) (ap (λ (p : Part). p.pieces) (of-name f name)) (each name)

  pub const_moves : (z : ℤ) → Moves 1 0 (expression f (expr.Const z))
  const_moves z = moves_as (expression f (expr.Const z)) (ap (λ (p : Part). p.pieces) (of-const f z)) (number_moves 1 z)

  abbrev of_name : List ℕ → Part
  of_name name = record { strength = 4; pieces = f name }

  abbrev of_number : ℤ → Part
  of_number z = record { strength = 3; pieces = number z }

  sides_moves : (s : List Piece) (name : List ℕ) (z : ℤ) → Moves 0 0 s → Moves 1 0 (sum s (of_name name) (of_number z)).pieces
  unfolding side
  sides_moves s name z m = with (with (each name) (spaced_moves m) (omega arith)) (number_moves 0 z) (omega arith)

  pub sum_moves : (name : List ℕ) (z : ℤ) → Moves 1 0 (expression f (expr.Add (expr.Name name) (expr.Const z)))
  sum_moves name z =
      moves_as (expression f (expr.Add (expr.Name name) (expr.Const z)))
      (ap (λ (p : Part). p.pieces) (of-add f (expr.Name name) (expr.Const z))
      ∙ ap (λ (p : Part). (sum (sign Plus) p (part_of f (expr.Const z))).pieces) (of-name f name)
      ∙ ap (λ (p : Part). (sum (sign Plus) (of_name name) p).pieces) (of-const f z))
      (sides_moves (sign Plus) name z (sign_moves 0 Plus refl))

  pub difference_moves : (name : List ℕ) (z : ℤ) → Moves 1 0 (expression f (expr.Sub (expr.Name name) (expr.Const z)))
  difference_moves name z =
      moves_as (expression f (expr.Sub (expr.Name name) (expr.Const z)))
      (ap (λ (p : Part). p.pieces) (of-sub f (expr.Name name) (expr.Const z))
      ∙ ap (λ (p : Part). (sum (sign Minus) p (part_of f (expr.Const z))).pieces) (of-name f name)
      ∙ ap (λ (p : Part). (sum (sign Minus) (of_name name) p).pieces) (of-const f z))
      (sides_moves (sign Minus) name z (sign_moves 0 Minus refl))

abbrev leaf_by : MapText → List (List ℕ) → List ℕ → List Piece
leaf_by m vs name = leaf m.dims (take (length m.dims) vs) m.syms (drop (length m.dims) vs) name

leaf_by_moves : (m : MapText) (vs : List (List ℕ)) (name : List ℕ) → Moves 1 0 (leaf_by m vs name)
leaf_by_moves m vs name =
    leaf_moves (placed m.dims (take (length m.dims) vs) name) (placed m.syms (drop (length m.dims) vs) name) name

over_moves : (names : List (List ℕ)) (e : ExprText) (vs : List (List ℕ)) → Moves 1 0 (expression (leaf_by (over names e) vs) e)
    → Moves 2 0 (subscripts (over names e) vs)
unfolding subscripts
over_moves names e vs m = square (commas_moves 1 (expression (leaf_by (over names e) vs) e ∷ []) (m, tt))

pub subscripts_moves : (at : Subscript) (vs : List (List ℕ)) → Moves 2 0 (subscripts (subscript_map at) vs)
subscripts_moves (fixed z) vs = over_moves [] (expr.Const z) vs (const_moves (leaf_by (over [] (expr.Const z)) vs) (leaf_by_moves (over [] (expr.Const z)) vs) z)
subscripts_moves variable vs =
    let m = over (dimension ∷ []) (expr.Name dimension) in
    over_moves (dimension ∷ []) (expr.Name dimension) vs (name_moves (leaf_by m vs) (leaf_by_moves m vs) dimension)
subscripts_moves (plus z) vs =
    let m = over (dimension ∷ []) (expr.Add (expr.Name dimension) (expr.Const z)) in
    over_moves (dimension ∷ []) (expr.Add (expr.Name dimension) (expr.Const z)) vs (sum_moves (leaf_by m vs) (leaf_by_moves m vs) dimension z)
subscripts_moves (minus z) vs =
    let m = over (dimension ∷ []) (expr.Sub (expr.Name dimension) (expr.Const z)) in
    over_moves (dimension ∷ []) (expr.Sub (expr.Name dimension) (expr.Const z)) vs (difference_moves (leaf_by m vs) (leaf_by_moves m vs) dimension z)

-- ---- what properties say
pub map-only : (m : MapText) → lines.map_of (Some (attr.Map m)) ≡ Some m
unfolding lines.map_of
map-only m = ap lines.map_in (ap out-Attr (sym (attr.rolls-Map m)) ∙ out-roll-Attr (open_attr.Map m))

pub constant_value_moves : (pattern : ℕ) → Moves 0 0 (lines.constant_value (property (entry (codes "value") (constant_attr pattern) ∷ []) (codes "value")))
unfolding lines.constant_value
constant_value_moves pattern =
    moves_as (lines.constant_value (property (entry (codes "value") (constant_attr pattern) ∷ []) (codes "value")))
    (ap lines.constant_value (property-first (codes "value") (codes "value") (constant_attr pattern) [])
    ∙ ap or_nothing (attr-number (signed_low W32 pattern) (text.Scalar (codes "i32"))))
    (numbered_moves 0 (signed_low W32 pattern) (codes "i32"))

-- ---- bounds
pub bound_moves : (lower : Bool) (z : ℤ) → Moves 0 0 (bound_of lower (Some (attr.Map (bound_map z))) [])
unfolding bound_of bound_by constant_bound
bound_moves lower z =
    moves_as (bound_of lower (Some (attr.Map (bound_map z))) [])
    (ap (bound_in lower []) (ap out-Attr (sym (attr.rolls-Map (bound_map z))) ∙ out-roll-Attr (open_attr.Map (bound_map z)))
    ∙ single-const (bound_map z) [] z)
    (number_moves 0 z)

-- ---- arguments
pub argument_moves : (name : List ℕ) (t : Ty) → Moves 1 0 (lines.argument (record { name = name; ty = type_of t }))
unfolding lines.argument
argument_moves name t = with (with (one 1 kinds.ValId name refl) (colon_moves 0) (omega arith)) (type_moves t) (omega arith)
