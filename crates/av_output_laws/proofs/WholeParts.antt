-- Maps, properties and marks of sound programs can be read again.
use Rattle.std.proofs.Common.{◌≡◌, ℕ, suc, ◌^◌, ◌<◌, ◌≤◌, List, [], ◌∷◌, ◌++◌, map, sym, subst, ap, ◌∙◌, arith}
use Rattle.std.specs.Prelude.{ℤ, pos, negsuc, count_by, replicate, codes, decimal}
use Rattle.std.specs.List.{All}
use Rattle.std.proofs.lemmas.List.Elements.{All-nil, All-cons, All-head, All-tail, All-replicate}
use Rattle.av_lex.specs.declared.token.Sign.TheVariants as signs
use Rattle.av_bits.specs.declared.types.Width.TheVariants.{W32, W64}
use Rattle.av_ir.specs.declared.ty.Elem.TheVariants.{Int, Index}
use Rattle.av_tree.specs.declared.attribute.Attr.{Attr}
use Rattle.av_tree.specs.declared.attribute.Named.{Named, Named-F, out-roll-Named}
use Rattle.av_tree.specs.declared.written.ExprText.{ExprText}
use Rattle.av_tree.specs.declared.written.ExprText.TheVariants as expr
use Rattle.av_tree.specs.declared.written.TypeText.TheVariants as text
use Rattle.av_dialects.specs.Rows.{names}
use Rattle.av_derive.specs.ClassOf.{keywords}
use Rattle.av_printer.specs.Pieces.{Piece, space, token, sign, plain, spaced}
use Rattle.av_printer.specs.Expressions.{Part, number, side, sum, part_of, expression}
use Rattle.av_printer.proofs.ExpressionSteps.{of-name, of-const, of-add, of-sub}
use Rattle.av_totree.specs.Constants.{signed_low}
use Rattle.av_totree.specs.Types.{type_of}
use Rattle.av_program_laws.specs.Programs.{Subscript, fixed, variable, plus, minus, Program}
use Rattle.av_program_laws.specs.Walks.{buffer}
use Rattle.av_program_laws.specs.WrittenTrees.{entry, number_of, mark, constant_attr, dimension, map_entry, subscript_map, loop_properties, function_properties}
use Rattle.av_program_laws.specs.Sound.{IsBound, IsSoundSubscript}
use Rattle.av_print_laws.specs.Spacing.{words_of}
use Rattle.av_print_laws.specs.ReadExpressions.{IsShortInteger}
use Rattle.av_read_laws.specs.Making.{Word, class_of_word, is_calculation}
use Rattle.av_round_trip.specs.Types.{IsScalar, IsType, scalar}
use Rattle.av_round_trip.specs.Expressions as expressions
use Rattle.av_round_trip.specs.Expressions.{HasShortNumbers, signs_in, IsExpression, IsMap}
use Rattle.av_round_trip.specs.Attributes as attributes
use Rattle.av_round_trip.specs.Attributes.{IsAttribute, IsEntryValue, AreEntries, no_entries, one_entry_more}
use Rattle.av_output_laws.proofs.Parts.{class-elem}
use Rattle.av_output_laws.proofs.Subscripts.{digits_none}
use Rattle.av_output_laws.proofs.Bounds.{short_integer, short_constant}
use Rattle.av_output_laws.proofs.PlainTypes.{AreSmall, buffer_type}

-- ---- the expression of a subscript
abbrev result_of : Subscript → ExprText
result_of (fixed z) = expr.Const z
result_of variable = expr.Name dimension
result_of (plus z) = expr.Add (expr.Name dimension) (expr.Const z)
result_of (minus z) = expr.Sub (expr.Name dimension) (expr.Const z)

-- what is printed of it
abbrev result_pieces : Subscript → List Piece
result_pieces (fixed z) = number z
result_pieces variable = plain dimension
result_pieces (plus z) = plain dimension ++ spaced (sign signs.Plus) ++ number z
result_pieces (minus z) = plain dimension ++ spaced (sign signs.Minus) ++ number z

two_parts : (word : List Piece) (z : ℤ) → (sum word (part_of plain (expr.Name dimension)) (part_of plain (expr.Const z))).pieces
    ≡ plain dimension ++ spaced word ++ number z
unfolding side
two_parts word z =
    ap (λ (a : Part). (sum word a (part_of plain (expr.Const z))).pieces) (of-name plain dimension)
    ∙ ap (λ (b : Part). (sum word (record { strength = 4; pieces = plain dimension }) b).pieces) (of-const plain z)

result_pieces-are : (at : Subscript) → expression plain (result_of at) ≡ result_pieces at
result_pieces-are (fixed z) = ap (λ (p : Part). p.pieces) (of-const plain z)
result_pieces-are variable = ap (λ (p : Part). p.pieces) (of-name plain dimension)
result_pieces-are (plus z) = ap (λ (p : Part). p.pieces) (of-add plain (expr.Name dimension) (expr.Const z)) ∙ two_parts (sign signs.Plus) z
result_pieces-are (minus z) = ap (λ (p : Part). p.pieces) (of-sub plain (expr.Name dimension) (expr.Const z)) ∙ two_parts (sign signs.Minus) z

-- the signs among its words
abbrev signs_among : List Piece → ℕ
signs_among ps = count_by (λ (word : Word). is_calculation (class_of_word word)) (words_of ps)

few_signs : (at : Subscript) → signs_among (result_pieces at) ≤ 2
unfolding keywords names words_of space token sign number
few_signs (fixed (pos n)) = let e : signs_among (result_pieces (fixed (pos n))) ≡ 0 = digits_none (decimal n) 0 in omega arith
few_signs (fixed (negsuc n)) = let e : signs_among (result_pieces (fixed (negsuc n))) ≡ 1 = digits_none (decimal (suc n)) 1 in omega arith
few_signs variable = omega arith
few_signs (plus (pos n)) = let e : signs_among (result_pieces (plus (pos n))) ≡ 1 = digits_none (decimal n) 1 in omega arith
few_signs (plus (negsuc n)) = let e : signs_among (result_pieces (plus (negsuc n))) ≡ 2 = digits_none (decimal (suc n)) 2 in omega arith
few_signs (minus (pos n)) = let e : signs_among (result_pieces (minus (pos n))) ≡ 1 = digits_none (decimal n) 1 in omega arith
few_signs (minus (negsuc n)) = let e : signs_among (result_pieces (minus (negsuc n))) ≡ 2 = digits_none (decimal (suc n)) 2 in omega arith

short_numbers : (at : Subscript) → IsSoundSubscript at → HasShortNumbers (result_of at)
short_numbers (fixed z) sound = expressions.number z (short_integer z (omega (arith, sound)))
short_numbers variable sound = expressions.named dimension tt
short_numbers (plus z) sound =
    expressions.sum (expr.Name dimension) (expr.Const z) (expressions.named dimension tt) (expressions.number z (short_integer z (omega (arith, sound))))
short_numbers (minus z) sound =
    expressions.difference (expr.Name dimension) (expr.Const z) (expressions.named dimension tt) (expressions.number z (short_integer z (omega (arith, sound))))

-- ---- maps
module _ {most : ℕ} (two : 2 ≤ most) where
  whole_result : (at : Subscript) → IsSoundSubscript at → All (IsExpression most) (result_of at ∷ [])
  whole_result at sound =
      let e : signs_in (result_of at) ≡ signs_among (result_pieces at) = ap signs_among (result_pieces-are at) in
      All-cons (IsExpression most) (result_of at) [] (record { numbers = short_numbers at sound; few = omega (arith, few_signs at) }) (All-nil (IsExpression most))

  whole_map : (at : Subscript) → IsSoundSubscript at → IsMap most (subscript_map at)
  whole_map (fixed z) sound = whole_result (fixed z) sound
  whole_map variable sound = whole_result variable sound
  whole_map (plus z) sound = whole_result (plus z) sound
  whole_map (minus z) sound = whole_result (minus z) sound

-- ---- entries
module _ {most : ℕ} {rest : List Named} (others : AreEntries most rest) where
  entry_more : (word : List ℕ) (a : Attr) → IsEntryValue most word a → AreEntries most (entry word a ∷ rest)
  entry_more word a h =
      let here = subst (λ (e : Named-F Attr Named). IsEntryValue most e.name e.value) (sym (out-roll-Named (record { name = word; value = a }))) h in
      one_entry_more (entry word a) rest here others

  plain_more : (word : List ℕ) (a : Attr) → IsAttribute most a → AreEntries most (entry word a ∷ rest)
  plain_more word a h = entry_more word a (attributes.plain word a h)

  number_more : (word type : List ℕ) (z : ℤ) → IsScalar type → IsShortInteger z → AreEntries most (entry word (number_of type z) ∷ rest)
  number_more word type z is short = plain_more word (number_of type z) (attributes.number z (text.Scalar type) short (scalar type is))

  map_more : 2 ≤ most → (word : List ℕ) (at : Subscript) → IsSoundSubscript at → AreEntries most (map_entry word (subscript_map at) ∷ rest)
  map_more two word at sound = plain_more word _ (attributes.mapped (subscript_map at) (whole_map two at sound))

zeros_short : (count : ℕ) → All IsShortInteger (replicate count (pos 0))
zeros_short count =
    let short : IsShortInteger (pos 0) = omega arith in
    All-replicate IsShortInteger count (pos 0) short

module _ {most : ℕ} where
  pub whole_mark : (word : List ℕ) (n : ℕ) → n < 2 ^ 64 → AreEntries most (mark word n)
  whole_mark word n few = number_more no_entries word (codes "i64") (pos n) (class-elem (Int W64)) (omega arith)

  pub whole_value : (pattern : ℕ) → AreEntries most (entry (codes "value") (constant_attr pattern) ∷ [])
  whole_value pattern = number_more no_entries (codes "value") (codes "i32") (signed_low W32 pattern) (class-elem (Int W32)) (short_constant pattern)

  pub whole_access : 2 ≤ most → (at : Subscript) → IsSoundSubscript at → AreEntries most (map_entry (codes "map") (subscript_map at) ∷ [])
  whole_access two at sound = map_more no_entries two (codes "map") at sound

  pub whole_loop : 2 ≤ most → (lower upper : ℤ) → IsBound lower → IsBound upper → AreEntries most (loop_properties lower upper)
  whole_loop two lower upper low high =
      plain_more
      (number_more
      (map_more (map_more no_entries two (codes "upperBoundMap") (fixed upper) high) two (codes "lowerBoundMap") (fixed lower) low)
      (codes "step") (codes "index") (pos 1) (class-elem Index) (omega arith))
      (codes "operandSegmentSizes") _ (attributes.array (text.Scalar (codes "i32")) _ (scalar (codes "i32") (class-elem (Int W32))) (zeros_short 3))

-- ---- the properties of a function
buffer_types : (sizes : List ℕ) → AreSmall sizes → All IsType (map (λ size. type_of (buffer size)) sizes)
buffer_types [] small = All-nil IsType
buffer_types (size ∷ sizes) small =
    All-cons IsType (type_of (buffer size)) (map (λ size. type_of (buffer size)) sizes)
    (buffer_type size (All-head (λ (size : ℕ). size < 2 ^ 31) size sizes small))
    (buffer_types sizes (All-tail (λ (size : ℕ). size < 2 ^ 31) size sizes small))

pub whole_function : {most : ℕ} (p : Program) → AreSmall p.sizes → AreEntries most (function_properties p)
whole_function p small =
    entry_more (plain_more no_entries (codes "sym_name") _ (attributes.quoted p.name)) (codes "function_type") _
    (attributes.function_type (map (λ size. type_of (buffer size)) p.sizes) [] (buffer_types p.sizes small) (All-nil IsType))
