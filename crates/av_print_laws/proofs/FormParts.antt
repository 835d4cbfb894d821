-- The parts of forms of operations that were read are spaced, each behind what stands before it.
use Rattle.std.proofs.Common.{◌≡◌, ℕ, zero, suc, ◌-◌, ◌&&◌, ℤ, pos, negsuc, Bool, true, false, List, [], ◌∷◌, ◌++◌, if◌then◌else◌, length, take, drop, map, Option, Some, None, refl, codes}
use Rattle.std.specs.Prelude.{get_or}
use Rattle.std.specs.List.{All, list_all}
use Rattle.std.proofs.lemmas.Bool.{false≢true}
use Rattle.std.proofs.lemmas.List.Elements.{All-head, All-tail, All-take, All-drop}
use Rattle.av_lex.specs.declared.token.Kind.TheVariants as kinds
use Rattle.av_lex.specs.declared.token.Sign.TheVariants.{OpenAngle, CloseAngle, OpenSquare, CloseSquare, Colon, Equal, Arrow}
use Rattle.av_lex.specs.Bytes.{in_class}
use Rattle.av_tree.specs.declared.written.TypeText.{TypeText, out-TypeText}
use Rattle.av_tree.specs.declared.attribute.Attr.{Attr, Attr-F, out-Attr}
use Rattle.av_tree.specs.declared.attribute.Attr.TheOpen as open_attr
use Rattle.av_tree.specs.declared.attribute.Named.{Named}
use Rattle.av_derive.specs.ClassOf.{spells_word}
use Rattle.av_dialects.specs.declared.item.Item.{Item}
use Rattle.av_dialects.specs.declared.item.Item.TheVariants as item
use Rattle.av_dialects.specs.declared.item.Lead.{Lead}
use Rattle.av_dialects.specs.declared.item.Lead.TheVariants as lead
use Rattle.av_dialects.specs.declared.item.Slot.{Slot}
use Rattle.av_dialects.specs.declared.item.Slot.TheVariants as slot
use Rattle.av_dialects.specs.Ends.{is_optional}
use Rattle.av_dialects.specs.Rows.{Part, forms, predicates, property_of, form_of}
use Rattle.av_dialects.specs.Types.{needs}
use Rattle.av_printer.specs.Pieces.{Piece, space, token, sign, plain, comma, spaced, commas, in_square}
use Rattle.av_printer.specs.Types.{type_pieces}
use Rattle.av_printer.specs.Expressions.{number, value}
use Rattle.av_printer.specs.Operations.{Head, property, values_pieces, values_in_round, known_type, known_results, map_of, step_of}
use Rattle.av_printer.specs.Parts as p
use Rattle.av_print_laws.specs.Spacing.{IsWord}
use Rattle.av_print_laws.specs.ReadExpressions.{IsShortInteger, IsValue}
use Rattle.av_print_laws.specs.ReadNodes.{IsReadTypeIf}
use Rattle.av_print_laws.proofs.Parts.{Free, Sound, Divides, Opens, Tail, Tame, free-none, free-sound, sound-free, sound-of_free, sound-divides, divides-append, free-space, divides-space, sound-none, sound-word, sound-token, free-comma, divides-comma, free-spaced, free-open_angle, sound-close_angle, divides-close_angle, divides-open_angle, sound-in_square, sound-commas, opens-commas, all_mapped, tail-none, tail-divides, tail-append, tail-behind}
use Rattle.av_print_laws.proofs.Words.{is_word}
use Rattle.av_print_laws.proofs.Firsts.{divides-in_round, divides-spaced}
use Rattle.av_print_laws.proofs.TypeParts.{sound-type, sound-one_or_several}
use Rattle.av_print_laws.proofs.ExprParts.{either, sound-integer, opens-integer, sound-value, opens-value, sound-first, sound-map_use, sound-set_use, map-uses-law}
use Rattle.av_print_laws.proofs.AttrParts.{free-equal}
use Rattle.av_print_laws.proofs.Said.{Says, says, IsReadIf, read-property, read-map_of, short-step_of}
use Rattle.av_print_laws.proofs.LineParts.{free-between_colon, free-between_arrow, free-word, sound-values, free-values_in_round, sound-known_type, tail-values_behind, tail-marks, sound-constant_value, sound-variable, tail-step_behind, tail-carried_behind, sound-buffer, divides-open_square}
use Rattle.av_print_laws.proofs.Heads.{ReadHead}

both_true : (a b : Bool) → a && b ≡ true → (a ≡ true) × (b ≡ true)
both_true true b h = (refl, h)
both_true false b h = absurd (false≢true h)

-- ---- what stands before a part
to_word : IsWord kinds.Word (codes "to")
unfolding in_class
to_word = is_word (codes "to") refl

step_word : IsWord kinds.Word (codes "step")
unfolding in_class
step_word = is_word (codes "step") refl

into_word : IsWord kinds.Word (codes "into")
unfolding in_class
into_word = is_word (codes "into") refl

from_word : IsWord kinds.Word (codes "from")
unfolding in_class
from_word = is_word (codes "from") refl

free-lead : (l : Lead) → Free (p.lead_pieces l)
free-lead lead.Nothing = free-none
free-lead lead.Blank = free-space
free-lead lead.Comma = free-comma
free-lead lead.Colon = free-between_colon
free-lead lead.Equal = free-equal
free-lead lead.To = free-spaced (plain (codes "to")) (sound-word (codes "to") to_word)
free-lead lead.Step = free-spaced (plain (codes "step")) (sound-word (codes "step") step_word)
free-lead lead.Into = free-spaced (plain (codes "into")) (sound-word (codes "into") into_word)
free-lead lead.From = free-spaced (plain (codes "from")) (sound-word (codes "from") from_word)

-- ---- values and types
divides-in_square : (ps : List Piece) → Divides (in_square ps)
divides-in_square ps = divides-append (sign OpenSquare ++ ps) (sign CloseSquare) (divides-open_square ps)

opens-values : (values : List (List ℕ)) → All IsValue values → Opens (values_pieces values)
unfolding values_pieces
opens-values values h = opens-commas (map value values) (all_mapped IsValue Opens value opens-value values h)

sound-element : (values : List (List ℕ)) → All IsValue values → Sound (p.element values)
unfolding p.element
sound-element [] h = sound-none
sound-element (buffer ∷ indices) h =
    let rest = All-tail IsValue buffer indices h in
    sound-divides (value buffer) (in_square (values_pieces indices)) (sound-value buffer (All-head IsValue buffer indices h))
    (sound-in_square (values_pieces indices) (sound-values indices rest) (opens-values indices rest)) (divides-in_square (values_pieces indices))

sound-first_known : (types : List (Option TypeText)) → All IsReadTypeIf types → Sound (p.first_known types)
unfolding p.first_known
sound-first_known [] h = sound-none
sound-first_known (ty ∷ types) h = sound-known_type ty (All-head IsReadTypeIf ty types h)

free-condition_type : (ty : Option TypeText) → IsReadTypeIf ty → Free (p.condition_type ty)
unfolding p.condition_type
free-condition_type None h = free-none
free-condition_type (Some ty) h =
    either Free (p.is_vector (out-TypeText ty)) (type_pieces ty ++ comma) []
    (λ e. sound-free (type_pieces ty) comma (sound-type ty h) free-comma divides-comma) (λ e. free-none)

sound-selected_types : (types : List (Option TypeText)) → All IsReadTypeIf types → Sound (p.selected_types types)
unfolding p.selected_types
sound-selected_types [] h = sound-none
sound-selected_types (condition ∷ others) h =
    free-sound (p.condition_type condition) (p.first_known others)
    (free-condition_type condition (All-head IsReadTypeIf condition others h)) (sound-first_known others (All-tail IsReadTypeIf condition others h))

tail-written_results : (types : List (Option TypeText)) → All IsReadTypeIf types → Tail (p.written_results types)
unfolding p.written_results known_results
tail-written_results [] h = tail-none
tail-written_results (first ∷ others) h =
    let types : List (Option TypeText) = first ∷ others in
    tail-divides (spaced (sign Arrow) ++ known_results types)
    (free-sound (spaced (sign Arrow)) (known_results types) free-between_arrow
    (sound-one_or_several (map known_type types) (all_mapped IsReadTypeIf Sound known_type sound-known_type types h)))
    (divides-append (spaced (sign Arrow)) (known_results types) (divides-spaced (sign Arrow)))

divides-values_in_round : (values : List (List ℕ)) → Divides (values_in_round values)
unfolding values_in_round
divides-values_in_round values = divides-in_round (values_pieces values)

-- ---- what properties say
-- the name of a map or set, behind this, with its operands
sound-alias : (begin : List Piece) → Free begin → (values : List (List ℕ)) → All IsValue values → (name : List ℕ) → IsWord kinds.HashId name
    → Sound (begin ++ token kinds.HashId name ++ values_in_round values)
unfolding Tame
sound-alias begin free values v name h =
    sound-of_free (begin ++ token kinds.HashId name ++ values_in_round values)
    (sound-free (begin ++ token kinds.HashId name) (values_in_round values)
    (free-sound begin (token kinds.HashId name) free (sound-token kinds.HashId name tt h)) (free-values_in_round values v) (divides-values_in_round values))

sound-applied_in : (values : List (List ℕ)) → All IsValue values → (x : Attr-F Attr Named) → Says x → Sound (p.applied_in values x)
sound-applied_in values v (open_attr.Map m) h = sound-map_use m values h v
sound-applied_in values v (open_attr.Set s) h = sound-set_use s values h v
sound-applied_in values v (open_attr.AliasUse name) h = sound-alias [] free-none values v name h
sound-applied_in values v other h = sound-none

sound-applied : (o : Option Attr) → IsReadIf o → (values : List (List ℕ)) → All IsValue values → Sound (p.applied o values)
unfolding p.applied
sound-applied None h values v = sound-none
sound-applied (Some a) h values v = sound-applied_in values v (out-Attr a) (says a h)

-- ---- words of properties
-- a text is empty or a word
abbrev IsWordIf : List ℕ → Type 0
IsWordIf [] = Unit {0}
IsWordIf (c ∷ cs) = IsWord kinds.Word (c ∷ cs)

word-if : (word : List ℕ) → IsWord kinds.Word word → IsWordIf word
word-if [] w = tt
word-if (c ∷ cs) w = w

listed : (words : List (List ℕ)) → list_all spells_word words ≡ true → (n : ℕ) → IsWordIf (get_or words n [])
listed [] h n = tt
listed (word ∷ words) h zero = word-if word (is_word word (both_true (spells_word word) (list_all spells_word words) h).0)
listed (word ∷ words) h (suc n) = listed words (both_true (spells_word word) (list_all spells_word words) h).1 n

predicate_word : (z : ℤ) → IsWordIf (p.predicate_at z)
unfolding predicates in_class
predicate_word (pos n) = listed predicates refl n
predicate_word (negsuc n) = tt

sound-word_if_any : (word : List ℕ) → IsWordIf word → Sound (p.word_if_any word)
unfolding p.word_if_any
sound-word_if_any [] w = sound-none
sound-word_if_any (c ∷ cs) w = sound-word (c ∷ cs) w

sound-word_in : (x : Attr-F Attr Named) → Sound (p.word_in x)
sound-word_in (open_attr.Number z ty) = sound-word_if_any (p.predicate_at z) (predicate_word z)
sound-word_in other = sound-none

sound-word_of : (o : Option Attr) → Sound (p.word_of o)
unfolding p.word_of
sound-word_of None = sound-none
sound-word_of (Some a) = sound-word_in (out-Attr a)

sound-angled : (words : List (List ℕ)) → All (IsWord kinds.Word) words → Sound (p.angled words)
sound-angled words h =
    let several : List Piece = commas (map plain words) in
    sound-divides (sign OpenAngle ++ several) (sign CloseAngle)
    (free-sound (sign OpenAngle) several free-open_angle (sound-commas (map plain words) (all_mapped (IsWord kinds.Word) Sound plain sound-word words h)))
    sound-close_angle divides-close_angle

sound-angled_in : (x : Attr-F Attr Named) → Says x → Sound (p.angled_in x)
sound-angled_in (open_attr.Hash text words) h = sound-angled words h
sound-angled_in other h = sound-none

sound-angled_of : (o : Option Attr) → IsReadIf o → Sound (p.angled_of o)
unfolding p.angled_of
sound-angled_of None h = sound-none
sound-angled_of (Some a) h = sound-angled_in (out-Attr a) (says a h)

overflow_word : IsWord kinds.Word (codes "overflow")
unfolding in_class
overflow_word = is_word (codes "overflow") refl

divides-angled : (words : List (List ℕ)) → Divides (p.angled words)
divides-angled words =
    divides-append (sign OpenAngle ++ commas (map plain words)) (sign CloseAngle)
    (divides-append (sign OpenAngle) (commas (map plain words)) divides-open_angle)

tail-flags : (words : List (List ℕ)) → All (IsWord kinds.Word) words → Tail (p.flags words)
unfolding p.flags
tail-flags [] h = tail-none
tail-flags (first ∷ others) h =
    let begin : List Piece = space ++ plain (codes "overflow") in
    let words : List (List ℕ) = first ∷ others in
    tail-divides (begin ++ p.angled words)
    (sound-divides begin (p.angled words) (free-sound space (plain (codes "overflow")) free-space (sound-word (codes "overflow") overflow_word))
    (sound-angled words h) (divides-angled words))
    (divides-append begin (p.angled words) (divides-append space (plain (codes "overflow")) divides-space))

tail-flags_in : (x : Attr-F Attr Named) → Says x → Tail (p.flags_in x)
tail-flags_in (open_attr.Hash text words) h = tail-flags words h
tail-flags_in other h = tail-none

tail-flags_of : (o : Option Attr) → IsReadIf o → Tail (p.flags_of o)
unfolding p.flags_of
tail-flags_of None h = tail-none
tail-flags_of (Some a) h = tail-flags_in (out-Attr a) (says a h)

tail-integers : (numbers : List ℤ) → All IsShortInteger numbers → Tail (in_square (commas (map number numbers)))
tail-integers numbers h =
    let several : List Piece = commas (map number numbers) in
    tail-divides (in_square several)
    (sound-in_square several (sound-commas (map number numbers) (all_mapped IsShortInteger Sound number sound-integer numbers h))
    (opens-commas (map number numbers) (all_mapped IsShortInteger Opens number opens-integer numbers h)))
    (divides-in_square several)

tail-numbers_in : (x : Attr-F Attr Named) → Says x → Tail (p.numbers_in x)
tail-numbers_in (open_attr.Array elem numbers) h = tail-integers numbers h
tail-numbers_in other h = tail-none

tail-numbers : (o : Option Attr) → IsReadIf o → Tail (p.numbers o)
unfolding p.numbers
tail-numbers None h = tail-none
tail-numbers (Some a) h = tail-numbers_in (out-Attr a) (says a h)

-- ---- bounds
max_or_min_word : (lower : Bool) → IsWord kinds.Word (if lower then codes "max" else codes "min")
unfolding in_class
max_or_min_word true = is_word (codes "max") refl
max_or_min_word false = is_word (codes "min") refl

sound-bound_in : (lower : Bool) (values : List (List ℕ)) → All IsValue values → (x : Attr-F Attr Named) → Says x → Sound (p.bound_in lower values x)
sound-bound_in lower values v (open_attr.Map m) h = λ rest a. (map-uses-law m values h v rest a).2 lower
sound-bound_in lower values v (open_attr.AliasUse name) h =
    let word : List ℕ = if lower then codes "max" else codes "min" in
    sound-alias (plain word ++ space) (free-word word (max_or_min_word lower)) values v name h
sound-bound_in lower values v other h = sound-none

sound-bound_of : (lower : Bool) (o : Option Attr) → IsReadIf o → (values : List (List ℕ)) → All IsValue values → Sound (p.bound_of lower o values)
unfolding p.bound_of
sound-bound_of lower None h values v = sound-none
sound-bound_of lower (Some a) h values v = sound-bound_in lower values v (out-Attr a) (says a h)

-- ---- the table: a part has something before it, or can stand behind any other
stands_alone : Item → Bool
stands_alone (item.Numbers key) = true
stands_alone other = is_optional other

fits : Lead → Item → Bool
fits lead.Nothing i = stands_alone i
fits other i = true

pub all_fit : List Part → Bool
all_fit [] = true
all_fit (part ∷ parts) = fits part.0 part.1 && all_fit parts

-- so it is in each form of the table
both_fit : List Part → Bool
both_fit parts = all_fit (p.before_regions parts) && all_fit (p.behind_regions parts)

fit-among : (several : List (List Part)) → list_all both_fit several ≡ true → (number : ℕ) → both_fit (get_or several number []) ≡ true
unfolding both_fit all_fit p.before_regions p.behind_seen
fit-among [] h number = refl
fit-among (parts ∷ several) h zero = (both_true (both_fit parts) (list_all both_fit several) h).0
fit-among (parts ∷ several) h (suc number) = fit-among several (both_true (both_fit parts) (list_all both_fit several) h).1 number

forms-fit : (number : ℕ) → both_fit (form_of number) ≡ true
unfolding forms both_fit all_fit fits stands_alone p.before_regions p.behind_seen
forms-fit at = fit-among forms refl at

pub before-fit : (number : ℕ) → all_fit (p.before_regions (form_of number)) ≡ true
unfolding both_fit
before-fit number = (both_true (all_fit (p.before_regions (form_of number))) (all_fit (p.behind_regions (form_of number))) (forms-fit number)).0

pub behind-fit : (number : ℕ) → all_fit (p.behind_regions (form_of number)) ≡ true
unfolding both_fit
behind-fit number = (both_true (all_fit (p.before_regions (form_of number))) (all_fit (p.behind_regions (form_of number))) (forms-fit number)).1

-- ---- parts of an operation that was read
module _ (h : Head) (r : ReadHead h) where
  read-of : (name : List ℕ) → IsReadIf (property h.properties name)
  read-of name = read-property name h.properties r.says

  read-types_from : (s : Slot) → All IsReadTypeIf (p.types_from h s)
  read-types_from (slot.Input at) = All-drop IsReadTypeIf at h.in_types r.takes
  read-types_from (slot.LastInput at) = All-drop IsReadTypeIf (length h.in_types - suc at) h.in_types r.takes
  read-types_from slot.Output = r.gives

  -- an item with operands that were read
  module _ (values : List (List ℕ)) (v : All IsValue values) where
    tail-item : (i : Item) → stands_alone i ≡ true → Tail (p.item_pieces h i values)
    unfolding stands_alone
    tail-item item.OptionalOperand e = tail-behind (map value values) (all_mapped IsValue Sound value sound-value values v)
    tail-item item.TypedOperands e = tail-values_behind values h.in_types v r.takes
    tail-item (item.Numbers key) e = tail-numbers (property h.properties (property_of key)) (read-of (property_of key))
    tail-item item.Overflow e = tail-flags_of (property h.properties (codes "overflowFlags")) (read-of (codes "overflowFlags"))
    tail-item item.Marks e = tail-marks h.attrs r.marked
    tail-item item.Step e =
        tail-step_behind (step_of (property h.properties (codes "step"))) (short-step_of (property h.properties (codes "step")) (read-of (codes "step")))
    tail-item item.Carried e = tail-carried_behind h.arguments values h.out_types r.within v r.gives
    tail-item item.ResultTypes e = tail-written_results h.out_types r.gives
    tail-item item.Else e = tail-none
    tail-item other e = absurd (false≢true e)

    sound-item : (i : Item) → Sound (p.item_pieces h i values)
    unfolding stands_alone
    sound-item item.ByHand = sound-none
    sound-item (item.Operand typing) = sound-first values v
    sound-item item.Operands = sound-values values v
    sound-item item.Element = sound-element values v
    sound-item (item.Type wanted s) = sound-first_known (p.types_from h (p.first_slot s)) (read-types_from (p.first_slot s))
    sound-item item.ChoiceTypes = sound-selected_types h.in_types r.takes
    sound-item (item.Word key) = sound-word_of (property h.properties (property_of key))
    sound-item (item.Angled key) = sound-angled_of (property h.properties (property_of key)) (read-of (property_of key))
    sound-item item.Constant = sound-constant_value (property h.properties (codes "value")) (read-of (codes "value"))
    sound-item item.Map = sound-applied (property h.properties (codes "map")) (read-of (codes "map")) values v
    sound-item item.Set = sound-applied (property h.properties (codes "condition")) (read-of (codes "condition")) values v
    sound-item item.Access =
        sound-buffer (map_of (property h.properties (codes "map"))) values (read-map_of (property h.properties (codes "map")) (read-of (codes "map"))) v
    sound-item item.Counter = sound-variable h.arguments r.within
    sound-item item.LowerBound = sound-bound_of true (property h.properties (codes "lowerBoundMap")) (read-of (codes "lowerBoundMap")) values v
    sound-item item.UpperBound = sound-bound_of false (property h.properties (codes "upperBoundMap")) (read-of (codes "upperBoundMap")) values v
    sound-item item.Region = sound-none
    sound-item item.OptionalOperand = (tail-item item.OptionalOperand refl).sound
    sound-item item.TypedOperands = (tail-item item.TypedOperands refl).sound
    sound-item (item.Numbers key) = (tail-item (item.Numbers key) refl).sound
    sound-item item.Overflow = (tail-item item.Overflow refl).sound
    sound-item item.Marks = (tail-item item.Marks refl).sound
    sound-item item.Step = (tail-item item.Step refl).sound
    sound-item item.Carried = (tail-item item.Carried refl).sound
    sound-item item.ResultTypes = (tail-item item.ResultTypes refl).sound
    sound-item item.Else = sound-none

    led : (l : Lead) (i : Item) → Divides (p.lead_pieces l) → Tail (p.part_pieces h (l, i) values)
    unfolding p.part_pieces
    led l i d =
        tail-divides (p.lead_pieces l ++ p.item_pieces h i values)
        (free-sound (p.lead_pieces l) (p.item_pieces h i values) (free-lead l) (sound-item i))
        (divides-append (p.lead_pieces l) (p.item_pieces h i values) d)

    tail-part : (l : Lead) (i : Item) → fits l i ≡ true → Tail (p.part_pieces h (l, i) values)
    unfolding p.part_pieces fits
    tail-part lead.Nothing i e = tail-item i e
    tail-part lead.Blank i e = led lead.Blank i divides-space
    tail-part lead.Comma i e = led lead.Comma i divides-comma
    tail-part lead.Colon i e = led lead.Colon i (divides-spaced (sign Colon))
    tail-part lead.Equal i e = led lead.Equal i (divides-spaced (sign Equal))
    tail-part lead.To i e = led lead.To i (divides-spaced (plain (codes "to")))
    tail-part lead.Step i e = led lead.Step i (divides-spaced (plain (codes "step")))
    tail-part lead.Into i e = led lead.Into i (divides-spaced (plain (codes "into")))
    tail-part lead.From i e = led lead.From i (divides-spaced (plain (codes "from")))

  pub tail-parts : (parts : List Part) → all_fit parts ≡ true → (left : List (List ℕ)) → All IsValue left → Tail (p.parts_pieces h parts left)
  unfolding p.parts_pieces all_fit
  tail-parts [] e left v = tail-none
  tail-parts (part ∷ parts) e left v =
      let taken : ℕ = p.share h part.1 (length left) (needs parts) in
      let both = both_true (fits part.0 part.1) (all_fit parts) e in
      tail-append (p.part_pieces h part (take taken left)) (p.parts_pieces h parts (drop taken left))
      (tail-part (take taken left) (All-take IsValue taken left v) part.0 part.1 both.0)
      (tail-parts parts both.1 (drop taken left) (All-drop IsValue taken left v))
