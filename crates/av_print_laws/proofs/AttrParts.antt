-- The pieces of attributes that were read are spaced.
use Rattle.std.proofs.Common.{◌≡◌, ℕ, ℤ, ◌≤◌, ◌==◌, Bool, true, false, cond, length, arith, List, [], ◌∷◌, ◌++◌, map, Option, Some, None, refl, sym, ◌∙◌, ap, subst, codes}
use Rattle.std.specs.List.{All}
use Rattle.av_lex.specs.declared.token.Kind.TheVariants as kinds
use Rattle.av_lex.specs.declared.token.Sign.TheVariants.{OpenAngle, CloseAngle, OpenSquare, CloseSquare, OpenCurly, CloseCurly, Arrow, Colon, Equal}
use Rattle.av_lex.specs.declared.class.Class.TheVariants as classes
use Rattle.av_lex.specs.Bytes.{in_class}
use Rattle.av_tree.specs.declared.written.TypeText.{TypeText}
use Rattle.av_tree.specs.declared.written.MapText.{MapText}
use Rattle.av_tree.specs.declared.written.SetText.{SetText}
use Rattle.av_tree.specs.declared.attribute.Element.{Element}
use Rattle.av_tree.specs.declared.attribute.Attr.{Attr}
use Rattle.av_tree.specs.declared.attribute.Named.{Named, out-Named}
use Rattle.av_printer.specs.Pieces.{Piece, spelt, token, sign, plain, colon, spaced, commas, joined, in_round, in_square, in_curly}
use Rattle.av_printer.specs.Types.{type_pieces, one_or_several, layout_behind, size_x, dim_x}
use Rattle.av_printer.specs.Expressions as e
use Rattle.av_printer.specs.Attributes as a
use Rattle.av_printer.specs.Dictionaries as d
use Rattle.av_print_laws.specs.Spacing.{goes_on_as_size, IsWord}
use Rattle.av_print_laws.specs.ReadTypes.{IsReadType, scalar, mem_ref, vector, func}
use Rattle.av_print_laws.specs.ReadExpressions.{IsShortInteger, IsReadMap, IsReadSet}
use Rattle.av_print_laws.specs.ReadAttributes.{IsReadElement, number_element, truth_element, list_element, AreReadElements, no_elements, one_element_more, IsReadAttr, number, truth, quoted, symbol, typed, mapped, bounded, alias, hashed, list, dictionary, array, dense, lone, AreReadAttrs, no_attrs, one_attr_more, AreReadEntries, no_entries, one_entry_more}
use Rattle.av_print_laws.specs.WrittenLaws.{AttributesLaw, DictionariesLaw}
use Rattle.av_print_laws.proofs.Parts.{Free, Sound, Divides, Keeps, Opens, AllOf, Tame, free-sound, sound-append, sound-free, sound-divides, sound-of_free, divides-append, keeps-divides, sound-none, keeps-none, opens-append, opens-none, free-open_angle, divides-open_angle, sound-close_angle, divides-close_angle, free-colon, divides-colon, free-spaced, free-in_curly, sound-in_square, sound-word, sound-sign, sound-token, all_mapped, sound-commas, opens-commas}
use Rattle.av_print_laws.proofs.Words.{is_word, memref_word, vector_word}
use Rattle.av_print_laws.proofs.Firsts.{Shuts, shuts-append, opens-shuts, shuts-word, shuts-token, shuts-in_round, shuts-spaced, divides-spaced}
use Rattle.av_print_laws.proofs.TypeParts.{type-scalar, type-memref, type-vector, type-func, sound-type}
use Rattle.av_print_laws.proofs.ExprParts.{map_word, set_word, free-colon_alone, sound-integer, opens-integer, sound-map, sound-set}
use Rattle.av_print_laws.proofs.AttrEquations.{element-number, element-bool, element-list, attr-number, attr-bool, attr-quoted, attr-symbol, attr-aliasuse, attr-type, attr-map, attr-set, attr-hash, attr-list, attr-dictionary, attr-array, attr-dense, attr-unit, entry-opened}

-- spaced where what follows begins apart, and nothing that goes on as a size behind a `[`
pub record Item (ps : List Piece) : Type 0 where
  pub sound : Sound ps
  pub opens : Opens ps

item-shut : (ps : List Piece) → Sound ps → Shuts ps → Item ps
item-shut ps h s = record { sound = h; opens = opens-shuts ps s }

-- ---- words
true_word : IsWord kinds.Word (codes "true")
unfolding in_class
true_word = is_word (codes "true") refl

false_word : IsWord kinds.Word (codes "false")
unfolding in_class
false_word = is_word (codes "false") refl

array_word : IsWord kinds.Word (codes "array")
unfolding in_class
array_word = is_word (codes "array") refl

dense_word : IsWord kinds.Word (codes "dense")
unfolding in_class
dense_word = is_word (codes "dense") refl

item-word : (text : List ℕ) → IsWord kinds.Word text → Item (plain text)
item-word text w = item-shut (plain text) (sound-word text w) (shuts-word text w)

item-truth : (b : Bool) → Item (a.truth b)
unfolding a.truth
item-truth true = item-word (codes "true") true_word
item-truth false = item-word (codes "false") false_word

-- ---- first pieces
shuts-open_square : (ps : List Piece) → Shuts (sign OpenSquare ++ ps)
unfolding spelt sign goes_on_as_size in_class
shuts-open_square ps rest = refl

shuts-in_square : (ps : List Piece) → Shuts (in_square ps)
shuts-in_square ps = shuts-append (sign OpenSquare ++ ps) (sign CloseSquare) (shuts-open_square ps)

shuts-open_curly : (ps : List Piece) → Shuts (sign OpenCurly ++ ps)
unfolding spelt sign goes_on_as_size in_class
shuts-open_curly ps rest = refl

shuts-in_curly : (ps : List Piece) → Shuts (in_curly ps)
shuts-in_curly ps = shuts-append (sign OpenCurly ++ ps) (sign CloseCurly) (shuts-open_curly ps)

-- ---- types, maps and sets
shuts-type : (ty : TypeText) → IsReadType ty → Shuts (type_pieces ty)
shuts-type _ (scalar name w) = subst Shuts (sym (type-scalar name)) (shuts-word name w)
shuts-type _ (mem_ref ss elem at h w l) =
    let name : List Piece = plain (codes "memref") in
    subst Shuts (sym (type-memref ss elem at))
    (shuts-append (name ++ sign OpenAngle ++ joined (map size_x ss) ++ plain elem ++ layout_behind at) (sign CloseAngle)
    (shuts-append (name ++ sign OpenAngle ++ joined (map size_x ss) ++ plain elem) (layout_behind at)
    (shuts-append (name ++ sign OpenAngle ++ joined (map size_x ss)) (plain elem)
    (shuts-append (name ++ sign OpenAngle) (joined (map size_x ss))
    (shuts-append name (sign OpenAngle) (shuts-word (codes "memref") memref_word))))))
shuts-type _ (vector ds elem h w) =
    let name : List Piece = plain (codes "vector") in
    subst Shuts (sym (type-vector ds elem))
    (shuts-append (name ++ sign OpenAngle ++ joined (map dim_x ds) ++ plain elem) (sign CloseAngle)
    (shuts-append (name ++ sign OpenAngle ++ joined (map dim_x ds)) (plain elem)
    (shuts-append (name ++ sign OpenAngle) (joined (map dim_x ds))
    (shuts-append name (sign OpenAngle) (shuts-word (codes "vector") vector_word)))))
shuts-type _ (func inputs results h k) =
    subst Shuts (sym (type-func inputs results))
    (shuts-append (in_round (commas (map type_pieces inputs)) ++ spaced (sign Arrow)) (one_or_several (map type_pieces results))
    (shuts-append (in_round (commas (map type_pieces inputs))) (spaced (sign Arrow)) (shuts-in_round (commas (map type_pieces inputs)))))

item-type : (ty : TypeText) → IsReadType ty → Item (type_pieces ty)
item-type ty h = item-shut (type_pieces ty) (sound-type ty h) (shuts-type ty h)

shuts-form : (text : List ℕ) (one two three four five : List Piece) → IsWord kinds.Word text → Shuts (plain text ++ one ++ two ++ three ++ four ++ five)
shuts-form text one two three four five w =
    shuts-append (plain text ++ one ++ two ++ three ++ four) five
    (shuts-append (plain text ++ one ++ two ++ three) four
    (shuts-append (plain text ++ one ++ two) three
    (shuts-append (plain text ++ one) two (shuts-append (plain text) one (shuts-word text w)))))

item-map : (m : MapText) → IsReadMap m → Item (e.map_pieces m)
unfolding e.map_pieces
item-map m h =
    item-shut (e.map_pieces m) (sound-map m h)
    (shuts-form (codes "affine_map") (sign OpenAngle) (e.parameters m.dims m.syms) (spaced (sign Arrow))
    (in_round (commas (map (e.expression plain) m.results))) (sign CloseAngle) map_word)

item-set : (s : SetText) → IsReadSet s → Item (e.set_pieces s)
unfolding e.set_pieces
item-set s h =
    item-shut (e.set_pieces s) (sound-set s h)
    (shuts-form (codes "affine_set") (sign OpenAngle) (e.parameters s.dims s.syms) (spaced (sign Colon))
    (in_round (commas (map e.row_pieces s.rows))) (sign CloseAngle) set_word)

-- ---- several
sounds : (several : List (List Piece)) → AllOf Item several → AllOf Sound several
unfolding AllOf
sounds [] h = tt
sounds (ps ∷ others) h = (h.0.sound, sounds others h.1)

openings : (several : List (List Piece)) → AllOf Item several → AllOf Opens several
unfolding AllOf
openings [] h = tt
openings (ps ∷ others) h = (h.0.opens, openings others h.1)

item-square : (several : List (List Piece)) → AllOf Item several → Item (in_square (commas several))
item-square several h =
    item-shut (in_square (commas several))
    (sound-in_square (commas several) (sound-commas several (sounds several h)) (opens-commas several (openings several h)))
    (shuts-in_square (commas several))

item-curly : (several : List (List Piece)) → AllOf Sound several → Item (in_curly (commas several))
item-curly several h =
    item-shut (in_curly (commas several))
    (sound-of_free (in_curly (commas several)) (free-in_curly (commas several) (sound-commas several h)))
    (shuts-in_curly (commas several))

-- ---- elements
mutual
  unfolding AllOf

  item-element : (x : Element) → IsReadElement x → Item (a.element_pieces x)
  item-element _ (number_element z h) = subst Item (sym (element-number z)) (record { sound = sound-integer z h; opens = opens-integer z h })
  item-element _ (truth_element b) = subst Item (sym (element-bool b)) (item-truth b)
  item-element _ (list_element items h) = subst Item (sym (element-list items)) (item-square (map a.element_pieces items) (item-elements items h))

  item-elements : (xs : List Element) → AreReadElements xs → AllOf Item (map a.element_pieces xs)
  item-elements _ no_elements = tt
  item-elements _ (one_element_more x xs h k) = (item-element x h, item-elements xs k)

-- ---- kinds of attributes
sound-typed : (ty : TypeText) → IsReadType ty → Sound (a.typed ty)
unfolding a.typed
sound-typed ty h =
    free-sound (spaced (sign Colon)) (type_pieces ty) (free-spaced (sign Colon) (sound-of_free (sign Colon) free-colon_alone)) (sound-type ty h)

divides-typed : (ty : TypeText) → Divides (a.typed ty)
unfolding a.typed
divides-typed ty = divides-append (spaced (sign Colon)) (type_pieces ty) (divides-spaced (sign Colon))

shuts-typed : (ty : TypeText) → Shuts (a.typed ty)
unfolding a.typed
shuts-typed ty = shuts-append (spaced (sign Colon)) (type_pieces ty) (shuts-spaced (sign Colon))

item-number : (z : ℤ) (ty : TypeText) → IsShortInteger z → IsReadType ty → Item (e.number z ++ a.typed ty)
item-number z ty h k = record {
  sound = sound-divides (e.number z) (a.typed ty) (sound-integer z h) (sound-typed ty k) (divides-typed ty);
  opens = opens-append (e.number z) (a.typed ty) (opens-integer z h) (opens-shuts (a.typed ty) (shuts-typed ty));
}

item-quoted : (text : List ℕ) → IsWord kinds.Quoted (codes "\"" ++ text ++ codes "\"") → Item (a.quoted text)
unfolding a.quoted Tame spelt token goes_on_as_size in_class
item-quoted text w =
    item-shut (token kinds.Quoted (codes "\"" ++ text ++ codes "\"")) (sound-token kinds.Quoted (codes "\"" ++ text ++ codes "\"") tt w) (λ rest. refl)

at_no_digit : in_class classes.Digit 64 ≡ false
unfolding in_class
at_no_digit = refl

hash_no_digit : in_class classes.Digit 35 ≡ false
unfolding in_class
hash_no_digit = refl

shuts-symbol : (text : List ℕ) → IsWord kinds.SymId text → Shuts (token kinds.SymId text)
shuts-symbol text w =
    let two : 2 ≤ length text = w.spells.spelled.1 in
    shuts-token kinds.SymId text (omega arith) (ap (in_class classes.Digit) (w.spells.spelled.0) ∙ at_no_digit) (ap (λ c. c == 93) (w.spells.spelled.0))

shuts-hash : (text : List ℕ) → IsWord kinds.HashId text → Shuts (token kinds.HashId text)
shuts-hash text w =
    let two : 2 ≤ length text = w.spells.spelled.1 in
    shuts-token kinds.HashId text (omega arith) (ap (in_class classes.Digit) (w.spells.spelled.0) ∙ hash_no_digit) (ap (λ c. c == 93) (w.spells.spelled.0))

item-symbol : (text : List ℕ) → IsWord kinds.SymId text → Item (token kinds.SymId text)
unfolding Tame
item-symbol text w = item-shut (token kinds.SymId text) (sound-token kinds.SymId text tt w) (shuts-symbol text w)

item-hash : (text : List ℕ) → IsWord kinds.HashId text → Item (token kinds.HashId text)
unfolding Tame
item-hash text w = item-shut (token kinds.HashId text) (sound-token kinds.HashId text tt w) (shuts-hash text w)

-- a word or a name, and `<`
free-begin : (ps : List Piece) → Sound ps → Free (ps ++ sign OpenAngle)
free-begin ps h = sound-free ps (sign OpenAngle) h free-open_angle divides-open_angle

item-hashed : (text : List ℕ) (words : List (List ℕ)) → IsWord kinds.HashId text → All (IsWord kinds.Word) words → Item (a.hashed text words)
unfolding a.hashed
item-hashed text words w h =
    let name : List Piece = token kinds.HashId text in
    let several : List Piece = commas (map plain words) in
    item-shut (name ++ sign OpenAngle ++ several ++ sign CloseAngle)
    (sound-divides (name ++ sign OpenAngle ++ several) (sign CloseAngle)
    (free-sound (name ++ sign OpenAngle) several (free-begin name (item-hash text w).sound)
    (sound-commas (map plain words) (all_mapped (IsWord kinds.Word) Sound plain sound-word words h)))
    sound-close_angle divides-close_angle)
    (shuts-append (name ++ sign OpenAngle ++ several) (sign CloseAngle)
    (shuts-append (name ++ sign OpenAngle) several (shuts-append name (sign OpenAngle) (shuts-hash text w))))

sound-numbers : (numbers : List ℤ) → All IsShortInteger numbers → Sound (a.numbers_behind numbers)
unfolding a.numbers_behind
sound-numbers [] h = sound-none
sound-numbers (n ∷ ns) h =
    free-sound colon (commas (map e.number (n ∷ ns))) free-colon
    (sound-commas (map e.number (n ∷ ns)) (all_mapped IsShortInteger Sound e.number sound-integer (n ∷ ns) h))

keeps-numbers : (numbers : List ℤ) → Keeps (a.numbers_behind numbers)
unfolding a.numbers_behind
keeps-numbers [] = keeps-none
keeps-numbers (n ∷ ns) =
    keeps-divides (colon ++ commas (map e.number (n ∷ ns))) (divides-append colon (commas (map e.number (n ∷ ns))) divides-colon)

item-array : (elem : TypeText) (numbers : List ℤ) → IsReadType elem → All IsShortInteger numbers → Item (a.array_of elem numbers)
unfolding a.array_of
item-array elem numbers h k =
    let begin : List Piece = plain (codes "array") ++ sign OpenAngle in
    let last : List Piece = a.numbers_behind numbers in
    item-shut (begin ++ type_pieces elem ++ last ++ sign CloseAngle)
    (sound-divides (begin ++ type_pieces elem ++ last) (sign CloseAngle)
    (sound-append (begin ++ type_pieces elem) last
    (free-sound begin (type_pieces elem) (free-begin (plain (codes "array")) (sound-word (codes "array") array_word)) (sound-type elem h))
    (sound-numbers numbers k) (keeps-numbers numbers))
    sound-close_angle divides-close_angle)
    (shuts-append (begin ++ type_pieces elem ++ last) (sign CloseAngle)
    (shuts-append (begin ++ type_pieces elem) last
    (shuts-append begin (type_pieces elem)
    (shuts-append (plain (codes "array")) (sign OpenAngle) (shuts-word (codes "array") array_word)))))

item-dense : (x : Element) (ty : TypeText) → IsReadElement x → IsReadType ty → Item (a.dense_of x ty)
unfolding a.dense_of
item-dense x ty h k =
    let begin : List Piece = plain (codes "dense") ++ sign OpenAngle in
    let elem : List Piece = a.element_pieces x in
    item-shut (begin ++ elem ++ sign CloseAngle ++ a.typed ty)
    (sound-divides (begin ++ elem ++ sign CloseAngle) (a.typed ty)
    (sound-divides (begin ++ elem) (sign CloseAngle)
    (free-sound begin elem (free-begin (plain (codes "dense")) (sound-word (codes "dense") dense_word)) (item-element x h).sound)
    sound-close_angle divides-close_angle)
    (sound-typed ty k) (divides-typed ty))
    (shuts-append (begin ++ elem ++ sign CloseAngle) (a.typed ty)
    (shuts-append (begin ++ elem) (sign CloseAngle)
    (shuts-append begin elem
    (shuts-append (plain (codes "dense")) (sign OpenAngle) (shuts-word (codes "dense") dense_word)))))

item-none : Item []
item-none = record { sound = sound-none; opens = opens-none }

-- ---- entries
pub free-equal : Free (spaced (sign Equal))
unfolding Tame
free-equal = free-spaced (sign Equal) (sound-sign Equal tt)

sound-assigned : (o : Option (List Piece)) → Item (a.or_nothing o) → Sound (a.assigned o)
unfolding a.assigned
sound-assigned None h = sound-none
sound-assigned (Some ps) h = free-sound (spaced (sign Equal)) ps free-equal h.sound

keeps-assigned : (o : Option (List Piece)) → Keeps (a.assigned o)
unfolding a.assigned
keeps-assigned None = keeps-none
keeps-assigned (Some ps) =
    keeps-divides (spaced (sign Equal) ++ ps) (divides-append (spaced (sign Equal)) ps (divides-spaced (sign Equal)))

sound-entry : (n : Named) → IsWord kinds.Word (out-Named n).name → Item (a.attribute (out-Named n).value) → Sound (a.entry_pieces n)
sound-entry n w h =
    let name : List Piece = plain (out-Named n).name in
    let value : Option (List Piece) = a.attr_of (out-Named n).value in
    subst Sound (sym (entry-opened n))
    (sound-append name (a.assigned value) (sound-word (out-Named n).name w) (sound-assigned value h) (keeps-assigned value))

-- ---- attributes
abbrev ItemIf : Option (List Piece) → Type 0
ItemIf o = Item (a.or_nothing o)

mutual
  unfolding AllOf

  item-attr : (x : Attr) → IsReadAttr x → Item (a.attribute x)
  item-attr _ (number z ty h k) = subst ItemIf (sym (attr-number z ty)) (item-number z ty h k)
  item-attr _ (truth b) = subst ItemIf (sym (attr-bool b)) (item-truth b)
  item-attr _ (quoted text w) = subst ItemIf (sym (attr-quoted text)) (item-quoted text w)
  item-attr _ (symbol text w) = subst ItemIf (sym (attr-symbol text)) (item-symbol text w)
  item-attr _ (typed ty h) = subst ItemIf (sym (attr-type ty)) (item-type ty h)
  item-attr _ (mapped m h) = subst ItemIf (sym (attr-map m)) (item-map m h)
  item-attr _ (bounded s h) = subst ItemIf (sym (attr-set s)) (item-set s h)
  item-attr _ (alias text w) = subst ItemIf (sym (attr-aliasuse text)) (item-hash text w)
  item-attr _ (hashed text words w h) = subst ItemIf (sym (attr-hash text words)) (item-hashed text words w h)
  item-attr _ (list items h) = subst ItemIf (sym (attr-list items)) (item-square (map a.attribute items) (item-attrs items h))
  item-attr _ (dictionary entries h) = subst ItemIf (sym (attr-dictionary entries)) (item-curly (map a.entry_pieces entries) (sound-entries entries h))
  item-attr _ (array elem numbers h k) = subst ItemIf (sym (attr-array elem numbers)) (item-array elem numbers h k)
  item-attr _ (dense x ty h k) = subst ItemIf (sym (attr-dense x ty)) (item-dense x ty h k)
  item-attr _ lone = subst ItemIf (sym attr-unit) item-none

  item-attrs : (xs : List Attr) → AreReadAttrs xs → AllOf Item (map a.attribute xs)
  item-attrs _ no_attrs = tt
  item-attrs _ (one_attr_more x xs h k) = (item-attr x h, item-attrs xs k)

  sound-entries : (ns : List Named) → AreReadEntries ns → AllOf Sound (map a.entry_pieces ns)
  sound-entries _ no_entries = tt
  sound-entries _ (one_entry_more n ns w h k) = (sound-entry n w (item-attr (out-Named n).value h), sound-entries ns k)

pub attributes-law : AttributesLaw
attributes-law x h = (item-attr x h).sound

-- ---- dictionaries
read-chosen : (b : Bool) (ns ms : List Named) → AreReadEntries ns → AreReadEntries ms → AreReadEntries (cond b ns ms)
read-chosen true ns ms h k = h
read-chosen false ns ms h k = k

read-inserted : (n : Named) → IsWord kinds.Word (out-Named n).name → IsReadAttr (out-Named n).value
    → (ns : List Named) → AreReadEntries ns → AreReadEntries (d.inserted n ns)
unfolding d.inserted
read-inserted n w h _ no_entries = one_entry_more n [] w h no_entries
read-inserted n w h _ (one_entry_more m ms v g k) =
    read-chosen (d.stands_before (out-Named n).name (out-Named m).name) (n ∷ m ∷ ms) (m ∷ d.inserted n ms)
    (one_entry_more n (m ∷ ms) w h (one_entry_more m ms v g k))
    (one_entry_more m (d.inserted n ms) v g (read-inserted n w h ms k))

read-ordered : (ordered ns : List Named) → AreReadEntries ordered → AreReadEntries ns → AreReadEntries (d.ordered_onto ordered ns)
unfolding d.ordered_onto
read-ordered ordered _ h no_entries = h
read-ordered ordered _ h (one_entry_more n ns w g k) = read-ordered (d.inserted n ordered) ns (read-inserted n w g ordered h) k

pub dictionaries-law : DictionariesLaw
dictionaries-law ns h = sound-commas (map a.entry_pieces (d.in_order ns)) (sound-entries (d.in_order ns) (read-ordered [] ns no_entries h))
