-- The parts of lines of operations that were read are spaced.
use Rattle.std.proofs.Common.{◌≡◌, ℕ, ℤ, pos, true, List, [], ◌∷◌, ◌++◌, drop, map, Option, Some, None, refl, codes, arith}
use Rattle.std.specs.Ordering.{int_eq}
use Rattle.std.specs.List.{All}
use Rattle.std.proofs.lemmas.List.Elements.{All-head, All-tail, All-drop}
use Rattle.av_lex.specs.declared.token.Kind.TheVariants as kinds
use Rattle.av_lex.specs.declared.token.Sign.TheVariants.{OpenAngle, CloseAngle, OpenCurly, CloseCurly, OpenSquare, CloseSquare, Colon, Equal, Arrow}
use Rattle.av_lex.specs.Bytes.{in_class}
use Rattle.av_tree.specs.declared.written.TypeText.{TypeText}
use Rattle.av_tree.specs.declared.written.MapText.{MapText}
use Rattle.av_tree.specs.declared.attribute.Attr.{Attr}
use Rattle.av_tree.specs.declared.attribute.Named.{Named}
use Rattle.av_tree.specs.declared.node.BodyArg.{BodyArg}
use Rattle.av_printer.specs.Pieces.{Piece, spelt, space, token, sign, plain, colon, spaced, commas}
use Rattle.av_printer.specs.Types.{type_pieces, one_or_several}
use Rattle.av_printer.specs.Expressions.{number, value, before, from, how_many, result_name, subscripts, expression, leaf, dim_values, sym_values}
use Rattle.av_printer.specs.Dictionaries.{dictionary}
use Rattle.av_printer.specs.Operations as o
use Rattle.av_print_laws.specs.Spacing.{begins_apart, lengthens, lengthens_sign, IsWord}
use Rattle.av_print_laws.specs.ReadTypes.{AreReadTypes, none, more}
use Rattle.av_print_laws.specs.ReadExpressions.{IsShortInteger, IsValue}
use Rattle.av_print_laws.specs.ReadAttributes.{AreReadEntries}
use Rattle.av_print_laws.specs.ReadNodes.{IsCount, IsResult, IsReadArg, IsReadTypeIf}
use Rattle.av_print_laws.proofs.Parts.{Free, Sound, Divides, Keeps, AllOf, Tail, Tame, free-append, free-sound, sound-append, sound-free, sound-of_free, divides-append, keeps-divides, free-none, sound-none, keeps-none, free-space, divides-space, free-token, sound-token, sound-word, sound-number, sound-question, free-open_angle, free-open_curly, free-close_curly, divides-close_curly, sound-close_angle, free-colon, divides-colon, free-arrow, free-spaced, free-in_round, all_mapped, sound-commas, tail-none, tail-divides, sound-tail}
use Rattle.av_print_laws.proofs.Words.{is_word}
use Rattle.av_print_laws.proofs.Firsts.{divides-in_round, divides-spaced}
use Rattle.av_print_laws.proofs.TypeParts.{sound-type, sound-types, sound-one_or_several}
use Rattle.av_print_laws.proofs.ExprParts.{either, free-colon_alone, sound-integer, sound-value, sound-subscripts}
use Rattle.av_print_laws.proofs.AttrParts.{free-equal, attributes-law, dictionaries-law}
use Rattle.av_print_laws.proofs.Said.{IsReadIf, IsReadMapIf}

-- ---- words
func_word : IsWord kinds.Word (codes "func.func")
unfolding in_class
func_word = is_word (codes "func.func") refl

attributes_word : IsWord kinds.Word (codes "attributes")
unfolding in_class
attributes_word = is_word (codes "attributes") refl

step_word : IsWord kinds.Word (codes "step")
unfolding in_class
step_word = is_word (codes "step") refl

iter_args_word : IsWord kinds.Word (codes "iter_args")
unfolding in_class
iter_args_word = is_word (codes "iter_args") refl

-- ---- signs between blanks
pub free-between_colon : Free (spaced (sign Colon))
free-between_colon = free-spaced (sign Colon) (sound-of_free (sign Colon) free-colon_alone)

pub free-between_arrow : Free (spaced (sign Arrow))
free-between_arrow = free-spaced (sign Arrow) (sound-of_free (sign Arrow) free-arrow)

-- a blank and what stands behind it
tail-space : (ps : List Piece) → Sound ps → Tail (space ++ ps)
tail-space ps h = tail-divides (space ++ ps) (free-sound space ps free-space h) (divides-append space ps divides-space)

-- a word and a blank
pub free-word : (text : List ℕ) → IsWord kinds.Word text → Free (plain text ++ space)
free-word text w = sound-free (plain text) space (sound-word text w) free-space divides-space

sound-name : (text : List ℕ) → IsWord kinds.ValId text → Sound (token kinds.ValId text)
unfolding Tame
sound-name text w = sound-token kinds.ValId text tt w

-- ---- results
count_apart : (c : ℕ) → c ≡ 58 → (rest : List ℕ) → begins_apart (c ∷ rest) ≡ true
unfolding in_class
count_apart c h rest = rw h

sound-how_many : (text : List ℕ) → IsCount text → Sound (how_many text)
unfolding how_many lengthens lengthens_sign
sound-how_many [] h = sound-none
sound-how_many (c ∷ cs) h =
    free-sound (token (kinds.Sign Colon) (c ∷ [])) (token kinds.Number cs)
    (free-token (kinds.Sign Colon) (c ∷ []) (λ rest. refl) h.0) (sound-number cs h.1)

keeps-how_many : (text : List ℕ) → IsCount text → Keeps (how_many text)
unfolding how_many spelt token
keeps-how_many [] h rest a = a
keeps-how_many (c ∷ cs) h rest a = count_apart c (h.0.spells.spelled.1 0 (omega arith)) ((cs ++ []) ++ rest)

sound-result : (text : List ℕ) → IsResult text → Sound (result_name text)
sound-result text h =
    sound-append (token kinds.ValId (before 58 text)) (how_many (from 58 text))
    (sound-name (before 58 text) h.0) (sound-how_many (from 58 text) h.1) (keeps-how_many (from 58 text) h.1)

pub free-results_before : (results : List (List ℕ)) → All IsResult results → Free (o.results_before results)
unfolding o.results_before
free-results_before [] h = free-none
free-results_before (first ∷ others) h =
    sound-free (commas (map result_name (first ∷ others))) (spaced (sign Equal))
    (sound-commas (map result_name (first ∷ others)) (all_mapped IsResult Sound result_name sound-result (first ∷ others) h))
    free-equal (divides-spaced (sign Equal))

-- ---- arguments
sound-argument : (a : BodyArg) → IsReadArg a → Sound (o.argument a)
unfolding o.argument
sound-argument a h =
    free-sound (token kinds.ValId a.name ++ colon) (type_pieces a.ty)
    (sound-free (token kinds.ValId a.name) colon (sound-name a.name h.0) free-colon divides-colon) (sound-type a.ty h.1)

pub free-arguments : (args : List BodyArg) → All IsReadArg args → Free (o.arguments_pieces args)
unfolding o.arguments_pieces
free-arguments args h =
    free-in_round (commas (map o.argument args))
    (sound-commas (map o.argument args) (all_mapped IsReadArg Sound o.argument sound-argument args h))

pub divides-arguments : (args : List BodyArg) → Divides (o.arguments_pieces args)
unfolding o.arguments_pieces
divides-arguments args = divides-in_round (commas (map o.argument args))

-- ---- values and types
pub sound-values : (values : List (List ℕ)) → All IsValue values → Sound (o.values_pieces values)
unfolding o.values_pieces
sound-values values h = sound-commas (map value values) (all_mapped IsValue Sound value sound-value values h)

pub free-values_in_round : (values : List (List ℕ)) → All IsValue values → Free (o.values_in_round values)
unfolding o.values_in_round
free-values_in_round values h = free-in_round (o.values_pieces values) (sound-values values h)

pub sound-known_type : (ty : Option TypeText) → IsReadTypeIf ty → Sound (o.known_type ty)
unfolding o.known_type
sound-known_type None h = sound-question
sound-known_type (Some ty) h = sound-type ty h

pub sound-known_types : (types : List (Option TypeText)) → All IsReadTypeIf types → Sound (o.known_types types)
unfolding o.known_types
sound-known_types types h =
    sound-commas (map o.known_type types) (all_mapped IsReadTypeIf Sound o.known_type sound-known_type types h)

pub free-known_in_round : (types : List (Option TypeText)) → All IsReadTypeIf types → Free (o.known_in_round types)
unfolding o.known_in_round
free-known_in_round types h = free-in_round (o.known_types types) (sound-known_types types h)

pub tail-values_behind : (values : List (List ℕ)) (types : List (Option TypeText)) → All IsValue values → All IsReadTypeIf types
    → Tail (o.values_behind values types)
unfolding o.values_behind
tail-values_behind [] types h k = tail-none
tail-values_behind (first ∷ others) types h k =
    let several : List Piece = o.values_pieces (first ∷ others) in
    let behind : List Piece = spaced (sign Colon) in
    tail-divides (space ++ several ++ behind ++ o.known_types types)
    (free-sound (space ++ several ++ behind) (o.known_types types)
    (sound-free (space ++ several) behind (free-sound space several free-space (sound-values (first ∷ others) h)) free-between_colon (divides-spaced (sign Colon)))
    (sound-known_types types k))
    (divides-append (space ++ several ++ behind) (o.known_types types)
    (divides-append (space ++ several) behind (divides-append space several divides-space)))

-- ---- marks and properties
pub free-marks : (entries : List Named) → AreReadEntries entries → Free (o.marks_behind entries)
unfolding o.marks_behind
free-marks [] h = free-none
free-marks (first ∷ others) h =
    let several : List Piece = dictionary (first ∷ others) in
    sound-free (space ++ sign OpenCurly ++ several) (sign CloseCurly)
    (free-sound (space ++ sign OpenCurly) several (free-append space (sign OpenCurly) free-space free-open_curly) (dictionaries-law (first ∷ others) h))
    free-close_curly divides-close_curly

pub keeps-marks : (entries : List Named) → Keeps (o.marks_behind entries)
unfolding o.marks_behind
keeps-marks [] = keeps-none
keeps-marks (first ∷ others) =
    let several : List Piece = dictionary (first ∷ others) in
    keeps-divides (space ++ sign OpenCurly ++ several ++ sign CloseCurly)
    (divides-append (space ++ sign OpenCurly ++ several) (sign CloseCurly)
    (divides-append (space ++ sign OpenCurly) several (divides-append space (sign OpenCurly) divides-space)))

pub tail-marks : (entries : List Named) → AreReadEntries entries → Tail (o.marks_behind entries)
tail-marks entries h = record { sound = sound-of_free (o.marks_behind entries) (free-marks entries h); keeps = keeps-marks entries }

pub tail-properties : (entries : List Named) → AreReadEntries entries → Tail (o.properties_behind entries)
unfolding o.properties_behind
tail-properties [] h = tail-none
tail-properties (first ∷ others) h =
    let begin : List Piece = space ++ sign OpenAngle ++ sign OpenCurly in
    let several : List Piece = dictionary (first ∷ others) in
    tail-divides (begin ++ several ++ sign CloseCurly ++ sign CloseAngle)
    (free-sound (begin ++ several ++ sign CloseCurly) (sign CloseAngle)
    (sound-free (begin ++ several) (sign CloseCurly)
    (free-sound begin several
    (free-append (space ++ sign OpenAngle) (sign OpenCurly) (free-append space (sign OpenAngle) free-space free-open_angle) free-open_curly)
    (dictionaries-law (first ∷ others) h))
    free-close_curly divides-close_curly)
    sound-close_angle)
    (divides-append (begin ++ several ++ sign CloseCurly) (sign CloseAngle)
    (divides-append (begin ++ several) (sign CloseCurly)
    (divides-append begin several
    (divides-append (space ++ sign OpenAngle) (sign OpenCurly) (divides-append space (sign OpenAngle) divides-space)))))

-- ---- functions
pub tail-results_behind : (types : List TypeText) → AreReadTypes types → Tail (o.results_behind types)
unfolding o.results_behind
tail-results_behind _ none = tail-none
tail-results_behind _ (more ty types h k) =
    let several : List Piece = one_or_several (map type_pieces (ty ∷ types)) in
    tail-divides (spaced (sign Arrow) ++ several)
    (free-sound (spaced (sign Arrow)) several free-between_arrow (sound-one_or_several (map type_pieces (ty ∷ types)) (sound-types (ty ∷ types) (more ty types h k))))
    (divides-append (spaced (sign Arrow)) several (divides-spaced (sign Arrow)))

pub sound-function_name : (text : List ℕ) → IsWord kinds.SymId (codes "@" ++ text) → Sound (o.function_name text)
unfolding o.function_name Tame
sound-function_name text w =
    free-sound (plain (codes "func.func") ++ space) (token kinds.SymId (codes "@" ++ text))
    (free-word (codes "func.func") func_word) (sound-token kinds.SymId (codes "@" ++ text) tt w)

pub tail-attributes_word : (entries : List Named) → Tail (o.attributes_word entries)
unfolding o.attributes_word
tail-attributes_word [] = tail-none
tail-attributes_word (first ∷ others) = tail-space (plain (codes "attributes")) (sound-word (codes "attributes") attributes_word)

-- ---- constants
pub sound-constant_value : (a : Option Attr) → IsReadIf a → Sound (o.constant_value a)
unfolding o.constant_value
sound-constant_value None h = sound-none
sound-constant_value (Some a) h = attributes-law a h

-- ---- loops
pub sound-variable : (args : List BodyArg) → All IsReadArg args → Sound (o.variable args)
unfolding o.variable
sound-variable [] h = sound-none
sound-variable (a ∷ args) h = sound-name a.name (All-head IsReadArg a args h).0

written_step : (z : ℤ) → IsShortInteger z → Tail (space ++ plain (codes "step") ++ space ++ number z)
written_step z h =
    let begin : List Piece = space ++ plain (codes "step") in
    tail-divides (begin ++ space ++ number z)
    (free-sound (begin ++ space) (number z)
    (sound-free begin space (free-sound space (plain (codes "step")) free-space (sound-word (codes "step") step_word)) free-space divides-space)
    (sound-integer z h))
    (divides-append (begin ++ space) (number z) (divides-append begin space (divides-append space (plain (codes "step")) divides-space)))

pub tail-step_behind : (z : ℤ) → IsShortInteger z → Tail (o.step_behind z)
unfolding o.step_behind
tail-step_behind z h =
    either Tail (int_eq z (pos 1)) [] (space ++ plain (codes "step") ++ space ++ number z) (λ b. tail-none) (λ b. written_step z h)

sound-carried_pair : (a : BodyArg) (v : List ℕ) → IsReadArg a → IsValue v → Sound (o.carried_pair a v)
unfolding o.carried_pair
sound-carried_pair a v h k =
    free-sound (token kinds.ValId a.name ++ spaced (sign Equal)) (value v)
    (sound-free (token kinds.ValId a.name) (spaced (sign Equal)) (sound-name a.name h.0) free-equal (divides-spaced (sign Equal)))
    (sound-value v k)

sound-carried : (args : List BodyArg) (values : List (List ℕ)) → All IsReadArg args → All IsValue values → AllOf Sound (o.carried args values)
unfolding o.carried AllOf
sound-carried [] values h k = tt
sound-carried (a ∷ args) [] h k = tt
sound-carried (a ∷ args) (v ∷ values) h k = (
  sound-carried_pair a v (All-head IsReadArg a args h) (All-head IsValue v values k),
  sound-carried args values (All-tail IsReadArg a args h) (All-tail IsValue v values k),
)

free-carried_in_round : (args : List BodyArg) (values : List (List ℕ)) → All IsReadArg args → All IsValue values → Free (o.carried_in_round args values)
unfolding o.carried_in_round
free-carried_in_round args values h k =
    free-in_round (commas (o.carried args values)) (sound-commas (o.carried args values) (sound-carried args values h k))

divides-carried_in_round : (args : List BodyArg) (values : List (List ℕ)) → Divides (o.carried_in_round args values)
unfolding o.carried_in_round
divides-carried_in_round args values = divides-in_round (commas (o.carried args values))

pub tail-carried_behind : (args : List BodyArg) (values : List (List ℕ)) (types : List (Option TypeText))
    → All IsReadArg args → All IsValue values → All IsReadTypeIf types → Tail (o.carried_behind args values types)
unfolding o.carried_behind
tail-carried_behind args [] types h k t = tail-none
tail-carried_behind args (first ∷ others) types h k t =
    let begin : List Piece = space ++ plain (codes "iter_args") in
    let pairs : List Piece = o.carried_in_round (drop 1 args) (first ∷ others) in
    let arrow : List Piece = spaced (sign Arrow) in
    let last : List Piece = o.known_in_round types in
    tail-divides (begin ++ pairs ++ arrow ++ last)
    (sound-of_free (begin ++ pairs ++ arrow ++ last)
    (free-append (begin ++ pairs ++ arrow) last
    (free-append (begin ++ pairs) arrow
    (sound-free begin pairs
    (free-sound space (plain (codes "iter_args")) free-space (sound-word (codes "iter_args") iter_args_word))
    (free-carried_in_round (drop 1 args) (first ∷ others) (All-drop IsReadArg 1 args h) k)
    (divides-carried_in_round (drop 1 args) (first ∷ others)))
    free-between_arrow)
    (free-known_in_round types t)))
    (divides-append (begin ++ pairs ++ arrow) last
    (divides-append (begin ++ pairs) arrow
    (divides-append begin pairs (divides-append space (plain (codes "iter_args")) divides-space))))

-- ---- accesses
pub divides-open_square : (ps : List Piece) → Divides (sign OpenSquare ++ ps)
unfolding spelt sign in_class
divides-open_square ps rest = refl

divides-subscripts : (m : MapText) (values : List (List ℕ)) → Divides (subscripts m values)
unfolding subscripts
divides-subscripts m values =
    let several : List Piece = commas (map (expression (leaf m.dims (dim_values m values) m.syms (sym_values m values))) m.results) in
    divides-append (sign OpenSquare ++ several) (sign CloseSquare) (divides-open_square several)

tail-subscripts_if_any : (m : Option MapText) (values : List (List ℕ)) → IsReadMapIf m → All IsValue values → Tail (o.subscripts_if_any m values)
unfolding o.subscripts_if_any
tail-subscripts_if_any None values h v = tail-none
tail-subscripts_if_any (Some m) values h v = tail-divides (subscripts m values) (sound-subscripts m values h v) (divides-subscripts m values)

pub sound-buffer : (m : Option MapText) (values : List (List ℕ)) → IsReadMapIf m → All IsValue values → Sound (o.buffer m values)
unfolding o.buffer
sound-buffer m [] h v = sound-none
sound-buffer m (first ∷ others) h v =
    sound-tail (value first) (o.subscripts_if_any m others) (sound-value first (All-head IsValue first others v))
    (tail-subscripts_if_any m others h (All-tail IsValue first others v))
