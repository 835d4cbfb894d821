-- The brackets of the parts of operations in generic form.
use Rattle.std.proofs.Common.{◌≡◌, ℕ, ◌+◌, List, [], ◌∷◌, ◌++◌, map, refl, ◌∙◌, ap, arith, codes}
use Rattle.std.specs.Prelude.{ℤ, Option, Some}
use Rattle.std.specs.Str.{bytes_eq}
use Rattle.av_lex.specs.declared.token.Kind.TheVariants as kinds
use Rattle.av_lex.specs.declared.token.Sign.TheVariants.{OpenAngle, CloseAngle, OpenCurly, CloseCurly, Colon, Equal, Arrow}
use Rattle.av_ir.specs.declared.ty.Ty.{Ty}
use Rattle.av_tree.specs.declared.attribute.Attr.{Attr}
use Rattle.av_tree.specs.declared.attribute.Attr.TheVariants as attr
use Rattle.av_tree.specs.declared.attribute.Named.{Named, Named-F, out-Named, out-roll-Named}
use Rattle.av_tree.specs.declared.class.Bracket.TheVariants as bracket
use Rattle.av_tree.specs.declared.class.Class.{Class}
use Rattle.av_tree.specs.declared.class.Class.TheVariants as class
use Rattle.av_tree.specs.declared.node.BodyArg.{BodyArg}
use Rattle.av_tree.specs.declared.written.ExprText.{ExprText}
use Rattle.av_tree.specs.declared.written.TypeText.{TypeText}
use Rattle.av_tree.specs.declared.written.TypeText.TheVariants as text
use Rattle.av_tree.specs.Classes.{bracket_of}
use Rattle.av_derive.specs.ClassOf.{class_of}
use Rattle.av_printer.specs.Pieces.{Piece, plain}
use Rattle.av_printer.specs.Types.{type_pieces, one_or_several}
use Rattle.av_printer.specs.Expressions.{number, expression, parameters, square_if_any, map_pieces}
use Rattle.av_printer.specs.Attributes.{assigned, array_of, numbers_behind, quoted, attr_of, entry_pieces}
use Rattle.av_printer.specs.Dictionaries.{stands_before, inserted, ordered_onto, in_order, dictionary}
use Rattle.av_printer.specs.Operations as lines
use Rattle.av_printer.specs.Operations.{Head}
use Rattle.av_printer.specs.Spelling.{label, common_regions}
use Rattle.av_totree.specs.Types.{type_of}
use Rattle.av_program_laws.specs.Programs.{Subscript, fixed, variable, plus, minus}
use Rattle.av_program_laws.specs.WrittenTrees.{entry, number_of, map_entry, dimension, over, bound_map, subscript_map}
use Rattle.av_print_laws.proofs.ExprParts.{either}
use Rattle.av_print_laws.proofs.TypeParts.{type-func}
use Rattle.av_print_laws.proofs.AttrEquations.{attr-quoted, attr-type, attr-map, attr-array, entry-opened}
use Rattle.av_program_laws.proofs.Balance.{Moves, with, widen, nothing, one, opening, closing, round, plain_moves, sign_moves, space_moves, new_line_moves, spaced_moves, colon_moves, Each, commas_moves, each_mapped, moves_as}
use Rattle.av_program_laws.proofs.BalanceOfParts.{number_moves, values_moves, type_moves, scalar_moves, entry_moves, name_moves, const_moves, sum_moves, difference_moves}

-- ---- words in quotes
quoted-none : (text : List ℕ) → bracket_of (class_of kinds.Quoted text) ≡ bracket.None
quoted-none text =
    either (λ (c : Class). bracket_of c ≡ bracket.None) (bytes_eq text (34 ∷ codes "builtin.module" ++ 34 ∷ [])) class.QuotedModule _ (λ b. refl)
    (λ b. either (λ (c : Class). bracket_of c ≡ bracket.None) (bytes_eq text (34 ∷ codes "func.func" ++ 34 ∷ [])) class.QuotedFunc class.Quoted (λ b. refl) (λ b. refl))

quoted_moves : (k : ℕ) (text : List ℕ) → Moves k 0 (quoted text)
unfolding quoted
quoted_moves k text = one k kinds.Quoted (codes "\"" ++ text ++ codes "\"") (quoted-none (codes "\"" ++ text ++ codes "\""))

-- ---- maps
parameters_moves : (names : List (List ℕ)) → Moves 1 0 (parameters names [])
unfolding parameters square_if_any
parameters_moves names = with (round (commas_moves 0 (map plain names) (each_mapped 0 plain names (plain_moves 0)))) (nothing 0) (omega arith)

over_moves : (names : List (List ℕ)) (e : ExprText) → Moves 1 0 (expression plain e) → Moves 3 0 (map_pieces (over names e))
unfolding map_pieces
over_moves names e m =
    closing CloseAngle
    (with
    (with
    (with (opening OpenAngle (plain_moves 3 (codes "affine_map")) refl (omega arith)) (parameters_moves names) (omega arith))
    (spaced_moves (sign_moves 0 Arrow refl)) (omega arith))
    (round (commas_moves 1 (expression plain e ∷ []) (m, tt))) (omega arith))
    refl (omega arith) (omega arith)

bound_map_moves : (z : ℤ) → Moves 3 0 (map_pieces (bound_map z))
bound_map_moves z = over_moves [] _ (const_moves plain (plain_moves 1) z)

subscript_map_moves : (at : Subscript) → Moves 3 0 (map_pieces (subscript_map at))
subscript_map_moves (fixed z) = bound_map_moves z
subscript_map_moves variable = over_moves (dimension ∷ []) _ (name_moves plain (plain_moves 1) dimension)
subscript_map_moves (plus z) = over_moves (dimension ∷ []) _ (sum_moves plain (plain_moves 1) dimension z)
subscript_map_moves (minus z) = over_moves (dimension ∷ []) _ (difference_moves plain (plain_moves 1) dimension z)

-- ---- entries
assigned_some : (k : ℕ) (ps : List Piece) → Moves k 0 ps → Moves k 0 (assigned (Some ps))
unfolding assigned
assigned_some k ps m = with (spaced_moves (sign_moves k Equal refl)) m (omega arith)

valued_moves : (k : ℕ) (name : List ℕ) (value : Attr) (ps : List Piece) → attr_of value ≡ Some ps → Moves k 0 ps → Moves k 0 (entry_pieces (entry name value))
valued_moves k name value ps is m =
    moves_as (entry_pieces (entry name value))
    (entry-opened (entry name value)
    ∙ ap (λ (e : Named-F Attr Named). plain e.name ++ assigned (attr_of e.value)) (out-roll-Named (record { name = name; value = value }))
    ∙ ap (λ (o : Option (List Piece)). plain name ++ assigned o) is)
    (with (plain_moves k name) (assigned_some k ps m) (omega arith))

pub number_entry_moves : (name type : List ℕ) (z : ℤ) → Moves 3 0 (entry_pieces (entry name (number_of type z)))
number_entry_moves name type z = widen 3 (entry_moves name type z) (omega arith)

pub bound_entry_moves : (name : List ℕ) (z : ℤ) → Moves 3 0 (entry_pieces (map_entry name (bound_map z)))
bound_entry_moves name z = valued_moves 3 name (attr.Map (bound_map z)) (map_pieces (bound_map z)) (attr-map (bound_map z)) (bound_map_moves z)

pub subscript_entry_moves : (name : List ℕ) (at : Subscript) → Moves 3 0 (entry_pieces (map_entry name (subscript_map at)))
subscript_entry_moves name at =
    valued_moves 3 name (attr.Map (subscript_map at)) (map_pieces (subscript_map at)) (attr-map (subscript_map at)) (subscript_map_moves at)

array_moves : (type : List ℕ) (n : ℤ) (ns : List ℤ) → Moves 1 0 (array_of (text.Scalar type) (n ∷ ns))
unfolding array_of numbers_behind
array_moves type n ns =
    closing CloseAngle
    (with
    (with (opening OpenAngle (plain_moves 1 (codes "array")) refl (omega arith)) (scalar_moves 0 type) (omega arith))
    (with (colon_moves 0) (commas_moves 0 (map number (n ∷ ns)) (each_mapped 0 number (n ∷ ns) (number_moves 0))) (omega arith)) (omega arith))
    refl (omega arith) (omega arith)

pub array_entry_moves : (name type : List ℕ) (n : ℤ) (ns : List ℤ) → Moves 3 0 (entry_pieces (entry name (attr.Array (text.Scalar type) (n ∷ ns))))
array_entry_moves name type n ns =
    valued_moves 3 name (attr.Array (text.Scalar type) (n ∷ ns)) (array_of (text.Scalar type) (n ∷ ns)) (attr-array (text.Scalar type) (n ∷ ns))
    (widen 3 (array_moves type n ns) (omega arith))

pub quoted_entry_moves : (name value : List ℕ) → Moves 3 0 (entry_pieces (entry name (attr.Quoted value)))
quoted_entry_moves name value = valued_moves 3 name (attr.Quoted value) (quoted value) (attr-quoted value) (quoted_moves 3 value)

-- ---- dictionaries
abbrev pub EntriesMove : ℕ → List Named → Type 0
EntriesMove k entries = Each k (map entry_pieces entries)

inserted_moves : (k : ℕ) (e : Named) (entries : List Named) → Moves k 0 (entry_pieces e) → EntriesMove k entries → EntriesMove k (inserted e entries)
unfolding inserted
inserted_moves k e [] m h = (m, tt)
inserted_moves k e (x ∷ xs) m h =
    either (EntriesMove k) (stands_before (out-Named e).name (out-Named x).name) (e ∷ x ∷ xs) (x ∷ inserted e xs)
    (λ b. (m, h)) (λ b. (h.0, inserted_moves k e xs m h.1))

ordered_moves : (k : ℕ) (ordered entries : List Named) → EntriesMove k ordered → EntriesMove k entries → EntriesMove k (ordered_onto ordered entries)
unfolding ordered_onto
ordered_moves k ordered [] h g = h
ordered_moves k ordered (e ∷ entries) h g = ordered_moves k (inserted e ordered) entries (inserted_moves k e ordered g.0 h) g.1

dictionary_moves : (k : ℕ) (entries : List Named) → EntriesMove k entries → Moves k 0 (dictionary entries)
dictionary_moves k entries h = commas_moves k (map entry_pieces (in_order entries)) (ordered_moves k [] entries tt h)

marks_move : (k : ℕ) (entries : List Named) → EntriesMove k entries → Moves (k + 1) 0 (lines.marks_behind entries)
unfolding lines.marks_behind
marks_move k [] h = nothing (k + 1)
marks_move k (e ∷ entries) h =
    closing CloseCurly (with (opening OpenCurly (space_moves (k + 1)) refl (omega arith)) (dictionary_moves k (e ∷ entries) h) (omega arith))
    refl (omega arith) (omega arith)

properties_move : (k : ℕ) (entries : List Named) → EntriesMove k entries → Moves (k + 2) 0 (lines.properties_behind entries)
unfolding lines.properties_behind
properties_move k [] h = nothing (k + 2)
properties_move k (e ∷ entries) h =
    closing CloseAngle
    (closing CloseCurly
    (with (opening OpenCurly (opening OpenAngle (space_moves (k + 2)) refl (omega arith)) refl (omega arith)) (dictionary_moves k (e ∷ entries) h) (omega arith))
    refl (omega arith) (omega arith))
    refl (omega arith) (omega arith)

-- ---- types
abbrev pub TypesMove : List (Option TypeText) → Type 0
TypesMove types = Each 1 (map lines.known_type types)

pub types_move : {A : Type 0} (type_in : A → Ty) (xs : List A) → TypesMove (map (λ x. Some (type_of (type_in x))) xs)
unfolding lines.known_type
types_move type_in [] = tt
types_move type_in (x ∷ xs) = (type_moves (type_in x), types_move type_in xs)

several_moves : (k : ℕ) (types : List (List Piece)) → Each k types → Moves (k + 1) 0 (one_or_several types)
unfolding one_or_several
several_moves k [] h = round (nothing k)
several_moves k (only ∷ []) h = widen (k + 1) h.0 (omega arith)
several_moves k (first ∷ second ∷ others) h = round (commas_moves k (first ∷ second ∷ others) h)

signature_moves : (inputs results : List (Option TypeText)) → TypesMove inputs → TypesMove results → Moves 2 0 (lines.signature inputs results)
unfolding lines.signature lines.known_in_round lines.known_types lines.known_results
signature_moves inputs results h g =
    with
    (with (with (spaced_moves (sign_moves 2 Colon refl)) (round (commas_moves 1 (map lines.known_type inputs) h)) (omega arith))
    (spaced_moves (sign_moves 0 Arrow refl)) (omega arith))
    (several_moves 1 (map lines.known_type results) g) (omega arith)

-- the type of a function without results
func_moves : (inputs : List TypeText) → Each 1 (map type_pieces inputs) → Moves 2 0 (type_pieces (text.Func inputs []))
unfolding one_or_several
func_moves inputs h =
    moves_as (type_pieces (text.Func inputs [])) (type-func inputs [])
    (with (with (round (commas_moves 1 (map type_pieces inputs) h)) (spaced_moves (sign_moves 0 Arrow refl)) (omega arith)) (round (nothing 0)) (omega arith))

inputs_each : {A : Type 0} (type_in : A → Ty) (xs : List A) → Each 1 (map type_pieces (map (λ x. type_of (type_in x)) xs))
inputs_each type_in [] = tt
inputs_each type_in (x ∷ xs) = (type_moves (type_in x), inputs_each type_in xs)

pub func_entry_moves : {A : Type 0} (name : List ℕ) (type_in : A → Ty) (xs : List A)
    → Moves 3 0 (entry_pieces (entry name (attr.Type (text.Func (map (λ x. type_of (type_in x)) xs) []))))
func_entry_moves name type_in xs =
    let type : TypeText = text.Func (map (λ x. type_of (type_in x)) xs) [] in
    valued_moves 3 name (attr.Type type) (type_pieces type) (attr-type type)
    (widen 3 (func_moves (map (λ x. type_of (type_in x)) xs) (inputs_each type_in xs)) (omega arith))

-- ---- lines
pub common_line_moves : (k : ℕ) (h : Head) → EntriesMove k h.properties → Moves (k + 2) 0 (lines.common_line h)
unfolding lines.common_line lines.quoted_name lines.values_in_round
common_line_moves k h says =
    with
    (with (one (k + 2) kinds.Quoted (codes "\"" ++ h.name ++ codes "\"") (quoted-none (codes "\"" ++ h.name ++ codes "\""))) (round (values_moves 0 h.operands)) (omega arith))
    (properties_move k h.properties says) (omega arith)

pub common_end_moves : (k : ℕ) (h : Head) → EntriesMove k h.attrs → TypesMove h.in_types → TypesMove h.out_types → Moves (k + 2) 0 (lines.common_end h)
unfolding lines.common_end
common_end_moves k h marked takes gives =
    with (widen (k + 2) (marks_move k h.attrs marked) (omega arith)) (signature_moves h.in_types h.out_types takes gives) (omega arith)

-- ---- regions
pub label_moves : (depth : ℕ) (args : List BodyArg) → Each 1 (map lines.argument args) → Moves 2 0 (label depth args)
unfolding label lines.arguments_pieces
label_moves depth [] h = nothing 2
label_moves depth (first ∷ others) h =
    with
    (with (with (new_line_moves 2 depth) (one 0 kinds.CaretId (codes "^bb0") refl) (omega arith)) (round (commas_moves 1 (map lines.argument (first ∷ others)) h)) (omega arith))
    (sign_moves 0 Colon refl) (omega arith)

pub common_regions_moves : (k : ℕ) (bodies : List (List Piece)) → Each k bodies → Moves (k + 1) 0 (common_regions bodies)
unfolding common_regions
common_regions_moves k [] h = nothing (k + 1)
common_regions_moves k (first ∷ others) h = with (space_moves (k + 1)) (round (commas_moves k (first ∷ others) h)) (omega arith)
