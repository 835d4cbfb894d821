-- The words of the parts of lines.
use Rattle.std.proofs.Common.{◌≡◌, ℕ, Bool, true, false, List, [], ◌∷◌, ◌++◌, map, refl, ap, ◌∙◌}
use Rattle.std.specs.Prelude.{ℤ, pos, if◌then◌else◌, Option, Some, codes, decimal}
use Rattle.av_lex.specs.declared.token.Kind.TheVariants as kinds
use Rattle.av_lex.specs.declared.token.Sign.TheVariants as signs
use Rattle.av_ir.specs.declared.ty.Ty.{Ty}
use Rattle.av_tree.specs.declared.attribute.Attr.{Attr}
use Rattle.av_tree.specs.declared.attribute.Named.{Named, Named-F, out-roll-Named}
use Rattle.av_tree.specs.declared.written.ExprText.{ExprText}
use Rattle.av_tree.specs.declared.written.ExprText.TheVariants as expr
use Rattle.av_tree.specs.declared.written.TypeText.{TypeText}
use Rattle.av_tree.specs.declared.written.TypeText.TheVariants as ty
use Rattle.av_printer.specs.Pieces.{Piece, sign, plain, spaced, commas, behind, in_square}
use Rattle.av_printer.specs.Expressions.{Part, number, value, same, placed, leaf_of, leaf, side, sum, part_of, subscripts, dim_values, sym_values}
use Rattle.av_printer.specs.Types.{type_pieces}
use Rattle.av_printer.specs.Attributes.{typed, assigned, attr_of, entry_pieces, or_nothing}
use Rattle.av_printer.specs.Dictionaries.{inserted, ordered_onto}
use Rattle.av_printer.specs.Operations.{property, results_before, known_type, marks_behind, constant_value}
use Rattle.av_printer.specs.Parts.{first_known}
use Rattle.av_printer.proofs.ExpressionSteps.{of-name, of-const, of-add, of-sub}
use Rattle.av_printer.proofs.AttributeSteps.{attr-number, entry-opened}
use Rattle.av_print_laws.proofs.TypeParts.{type-scalar}
use Rattle.av_totree.specs.Types.{type_of}
use Rattle.av_program_laws.specs.Programs.{Subscript, fixed, variable, plus, minus}
use Rattle.av_program_laws.specs.WrittenTrees.{entry, number_of, mark, dimension, subscript_map}
use Rattle.av_output_laws.proofs.Parts.{sign_word, number_words, mark_words}
use Rattle.av_output_laws.proofs.PlainNames.{IsPlainName}
use Rattle.av_output_laws.proofs.Saying.{Says, none, also, said_as, all_said, token_said, sign_said, space_said, spaced_said, number_said, value_said, result_said}
use Rattle.av_output_laws.proofs.Subscripts.{subscript_words, dims_in}
use Rattle.av_output_laws.proofs.ProgramWords.{value_word, plain_word, type_words}

-- ---- results and types
pub results_said : (text : List ℕ) → IsPlainName text → Says (results_before (text ∷ [])) (λ ws. value_word text ∷ sign_word signs.Equal ∷ ws)
unfolding results_before commas behind
results_said text h = also (also (result_said text h) none) (spaced_said signs.Equal)

pub first_type_said : (t : Ty) (others : List (Option TypeText)) → Says (first_known (Some (type_of t) ∷ others)) (λ ws. type_words t ++ ws)
unfolding first_known known_type
first_type_said t others = all_said (type_pieces (type_of t))

scalar_said : (text : List ℕ) → Says (type_pieces (ty.Scalar text)) (λ ws. plain_word text ∷ ws)
scalar_said text = said_as (type-scalar text) (token_said kinds.Word text)

pub typed_said : (text : List ℕ) → Says (typed (ty.Scalar text)) (λ ws. sign_word signs.Colon ∷ plain_word text ∷ ws)
unfolding typed
typed_said text = also (spaced_said signs.Colon) (scalar_said text)

-- ---- entries
entry_is : (name : List ℕ) (value : Attr) → entry_pieces (entry name value) ≡ plain name ++ assigned (attr_of value)
entry_is name value =
    entry-opened (entry name value) ∙ ap (λ (e : Named-F Attr Named). plain e.name ++ assigned (attr_of e.value)) (out-roll-Named _)

number_entry_said : (name : List ℕ) (n : ℕ)
    → Says (entry_pieces (entry name (number_of (codes "i64") (pos n))))
    (λ ws. plain_word name ∷ sign_word signs.Equal ∷ (kinds.Number, decimal n) ∷ sign_word signs.Colon ∷ plain_word (codes "i64") ∷ ws)
unfolding assigned
number_entry_said name n =
    said_as (entry_is name (number_of (codes "i64") (pos n)) ∙ ap (λ o. plain name ++ assigned o) (attr-number (pos n) (ty.Scalar (codes "i64"))))
    (also (token_said kinds.Word name) (also (spaced_said signs.Equal) (also (number_said (pos n)) (typed_said (codes "i64")))))

pub marks_said : (name : List ℕ) (n : ℕ) → Says (marks_behind (mark name n)) (λ ws. mark_words name n ++ ws)
unfolding marks_behind ordered_onto inserted commas behind
marks_said name n =
    also (also (also space_said (sign_said signs.OpenCurly)) (also (number_entry_said name n) none)) (sign_said signs.CloseCurly)

-- ---- properties
pub property_first : (name : List ℕ) (value : Attr) (others : List Named) → same name name ≡ true → property (entry name value ∷ others) name ≡ Some value
unfolding property
property_first name value others is =
    ap (λ (e : Named-F Attr Named). if same e.name name then Some e.value else property others name) (out-roll-Named _)
    ∙ ap (λ (b : Bool). if b then Some value else property others name) is

pub property_next : (first name : List ℕ) (value : Attr) (others : List Named) → same first name ≡ false → property (entry first value ∷ others) name ≡ property others name
unfolding property
property_next first name value others is =
    ap (λ (e : Named-F Attr Named). if same e.name name then Some e.value else property others name) (out-roll-Named _)
    ∙ ap (λ (b : Bool). if b then Some value else property others name) is

pub constant_value_said : (z : ℤ) → Says (constant_value (property (entry (codes "value") (number_of (codes "i32") z) ∷ []) (codes "value")))
    (λ ws. number_words z ++ (sign_word signs.Colon ∷ plain_word (codes "i32") ∷ ws))
unfolding constant_value
constant_value_said z =
    said_as (ap constant_value (property_first (codes "value") (number_of (codes "i32") z) [] refl)
    ∙ ap or_nothing (attr-number z (ty.Scalar (codes "i32"))))
    (also (number_said z) (typed_said (codes "i32")))

-- ---- subscripts
-- how names in a subscript are spelled, where this is the variable
abbrev leaf_in : Subscript → List ℕ → List ℕ → List Piece
leaf_in at text = leaf (subscript_map at).dims (dim_values (subscript_map at) (dims_in text at)) (subscript_map at).syms (sym_values (subscript_map at) (dims_in text at))

dimension_said : (at : Subscript) (text : List ℕ) → leaf_in at text dimension ≡ value text → IsPlainName text
    → Says (part_of (leaf_in at text) (expr.Name dimension)).pieces (λ ws. value_word text ∷ ws)
dimension_said at text is h =
    said_as (ap (λ (p : Part). p.pieces) (of-name (leaf_in at text) dimension) ∙ is) (value_said text h)

result_pieces-said : (at : Subscript) (text : List ℕ) → IsPlainName text → (e : ExprText) → (subscript_map at).results ≡ e ∷ []
    → Says (part_of (leaf_in at text) e).pieces (λ ws. subscript_words text at ++ ws)
    → Says (subscripts (subscript_map at) (dims_in text at)) (λ ws. sign_word signs.OpenSquare ∷ (subscript_words text at ++ (sign_word signs.CloseSquare ∷ ws)))
unfolding subscripts commas behind
result_pieces-said at text h e is said =
    said_as (ap (λ es. in_square (commas (map (λ e. (part_of (leaf_in at text) e).pieces) es))) is)
    (also (also (sign_said signs.OpenSquare) (also said none)) (sign_said signs.CloseSquare))

leaf_is : (text : List ℕ) (at : Subscript) → dims_in text at ≡ text ∷ [] → (subscript_map at).dims ≡ dimension ∷ [] → (subscript_map at).syms ≡ []
    → leaf_in at text dimension ≡ value text
unfolding placed leaf_of
leaf_is text (fixed z) none h k = absurd (cc)
leaf_is text variable one h k = refl
leaf_is text (plus z) one h k = refl
leaf_is text (minus z) one h k = refl

const_part : (f : List ℕ → List Piece) (z : ℤ) → (part_of f (expr.Const z)).pieces ≡ number z
const_part f z = ap (λ (p : Part). p.pieces) (of-const f z)

-- a sum or a difference of a name and a number
two_parts : (f : List ℕ → List Piece) (word : List Piece) (z : ℤ)
    → (sum word (part_of f (expr.Name dimension)) (part_of f (expr.Const z))).pieces ≡ f dimension ++ spaced word ++ number z
unfolding side
two_parts f word z =
    ap (λ (a : Part). (sum word a (part_of f (expr.Const z))).pieces) (of-name f dimension)
    ∙ ap (λ (b : Part). (sum word (record { strength = 4; pieces = f dimension }) b).pieces) (of-const f z)

pub subscripts_said : (at : Subscript) (text : List ℕ) → IsPlainName text
    → Says (subscripts (subscript_map at) (dims_in text at)) (λ ws. sign_word signs.OpenSquare ∷ (subscript_words text at ++ (sign_word signs.CloseSquare ∷ ws)))
subscripts_said (fixed z) text h = result_pieces-said (fixed z) text h (expr.Const z) refl (said_as (const_part (leaf_in (fixed z) text) z) (number_said z))
subscripts_said variable text h =
    result_pieces-said variable text h (expr.Name dimension) refl (dimension_said variable text (leaf_is text variable refl refl refl) h)
subscripts_said (plus z) text h =
    result_pieces-said (plus z) text h (expr.Add (expr.Name dimension) (expr.Const z)) refl
    (said_as (ap (λ (p : Part). p.pieces) (of-add (leaf_in (plus z) text) (expr.Name dimension) (expr.Const z)) ∙ two_parts (leaf_in (plus z) text) (sign signs.Plus) z
    ∙ ap (λ v. v ++ spaced (sign signs.Plus) ++ number z) (leaf_is text (plus z) refl refl refl))
    (also (also (value_said text h) (spaced_said signs.Plus)) (number_said z)))
subscripts_said (minus z) text h =
    result_pieces-said (minus z) text h (expr.Sub (expr.Name dimension) (expr.Const z)) refl
    (said_as (ap (λ (p : Part). p.pieces) (of-sub (leaf_in (minus z) text) (expr.Name dimension) (expr.Const z)) ∙ two_parts (leaf_in (minus z) text) (sign signs.Minus) z
    ∙ ap (λ v. v ++ spaced (sign signs.Minus) ++ number z) (leaf_is text (minus z) refl refl refl))
    (also (also (value_said text h) (spaced_said signs.Minus)) (number_said z)))
