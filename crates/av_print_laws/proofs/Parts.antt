-- Pieces made of parts.
use Rattle.std.proofs.Common.{◌≡◌, ℕ, ◌==◌, ◌||◌, not, Bool, true, false, List, [], ◌∷◌, ◌++◌, map, refl, sym, ◌∙◌, ap, append_assoc, arith}
use Rattle.std.specs.List.{All}
use Rattle.std.proofs.lemmas.Bool.Decides.{nat_tests}
use Rattle.std.proofs.lemmas.List.Elements.{All-head, All-tail}
use Rattle.av_lex.specs.declared.token.Kind.{Kind}
use Rattle.av_lex.specs.declared.token.Kind.TheVariants as kinds
use Rattle.av_lex.specs.declared.token.Sign.{Sign}
use Rattle.av_lex.specs.declared.token.Sign.TheVariants.{OpenRound, CloseRound, OpenCurly, CloseCurly, OpenSquare, CloseSquare, OpenAngle, CloseAngle, Comma, Colon, Equal, Plus, Star, Minus, Question, Arrow, AtLeast, EqualEqual}
use Rattle.av_lex.specs.declared.class.Class.TheVariants as classes
use Rattle.av_lex.specs.Bytes.{in_class}
use Rattle.av_lex.specs.Spellings.{sign_text}
use Rattle.av_printer.specs.Pieces.{Piece, blank, line, word, piece_text, spelt, space, new_line, token, sign, comma, colon, spaced, commas, behind, joined, in_round, in_square, in_curly}
use Rattle.av_print_laws.specs.Spacing.{begins_with, closes_size, goes_on_as_size, lengthens, lengthens_sign, begins_apart, IsWord, SpacedBefore}
use Rattle.av_print_laws.specs.WrittenLaws.{PartsLaw}

-- ---- two parts
spelt-append : (ps qs : List Piece) → spelt (ps ++ qs) ≡ spelt ps ++ spelt qs
unfolding spelt
spelt-append [] qs = refl
spelt-append (p ∷ ps) qs = ap (λ t. piece_text p ++ t) (spelt-append ps qs) ∙ sym (append_assoc (piece_text p) (spelt ps) (spelt qs))

pub spelt-parts : (ps qs : List Piece) (rest : List ℕ) → spelt (ps ++ qs) ++ rest ≡ spelt ps ++ (spelt qs ++ rest)
spelt-parts ps qs rest = ap (λ t. t ++ rest) (spelt-append ps qs) ∙ append_assoc (spelt ps) (spelt qs) rest

pub parts-law : PartsLaw
unfolding SpacedBefore spelt
parts-law [] qs rest h k = k
parts-law (blank ∷ ps) qs rest h k = parts-law ps qs rest h k
parts-law (line depth ∷ ps) qs rest h k = parts-law ps qs rest h k
parts-law (word kind text ∷ ps) qs rest h k = (h.0, ap (lengthens kind) (spelt-parts ps qs rest) ∙ h.1, parts-law ps qs rest h.2 k)

-- ---- what pieces ask of the text behind them, and give to the text before them

-- spaced before each text
abbrev pub Free : List Piece → Type 0
Free ps = (rest : List ℕ) → SpacedBefore ps rest

-- spaced before each text that begins apart
abbrev pub Sound : List Piece → Type 0
Sound ps = (rest : List ℕ) → begins_apart rest ≡ true → SpacedBefore ps rest

-- beginning apart, whatever stands behind
abbrev pub Divides : List Piece → Type 0
Divides ps = (rest : List ℕ) → begins_apart (spelt ps ++ rest) ≡ true

-- beginning apart where the text behind does
abbrev pub Keeps : List Piece → Type 0
Keeps ps = (rest : List ℕ) → begins_apart rest ≡ true → begins_apart (spelt ps ++ rest) ≡ true

-- behind a `[` not going on as a size where the text behind doesn't
abbrev pub Opens : List Piece → Type 0
Opens ps = (rest : List ℕ) → goes_on_as_size rest ≡ false → goes_on_as_size (spelt ps ++ rest) ≡ false

pub free-append : (ps qs : List Piece) → Free ps → Free qs → Free (ps ++ qs)
free-append ps qs h k rest = parts-law ps qs rest (h (spelt qs ++ rest)) (k rest)

pub free-sound : (ps qs : List Piece) → Free ps → Sound qs → Sound (ps ++ qs)
free-sound ps qs h k rest a = parts-law ps qs rest (h (spelt qs ++ rest)) (k rest a)

pub sound-append : (ps qs : List Piece) → Sound ps → Sound qs → Keeps qs → Sound (ps ++ qs)
sound-append ps qs h k b rest a = parts-law ps qs rest (h (spelt qs ++ rest) (b rest a)) (k rest a)

pub sound-free : (ps qs : List Piece) → Sound ps → Free qs → Divides qs → Free (ps ++ qs)
sound-free ps qs h k b rest = parts-law ps qs rest (h (spelt qs ++ rest) (b rest)) (k rest)

pub sound-divides : (ps qs : List Piece) → Sound ps → Sound qs → Divides qs → Sound (ps ++ qs)
sound-divides ps qs h k b rest a = parts-law ps qs rest (h (spelt qs ++ rest) (b rest)) (k rest a)

pub divides-append : (ps qs : List Piece) → Divides ps → Divides (ps ++ qs)
divides-append ps qs h rest = ap begins_apart (spelt-parts ps qs rest) ∙ h (spelt qs ++ rest)

pub keeps-append : (ps qs : List Piece) → Keeps ps → Keeps qs → Keeps (ps ++ qs)
keeps-append ps qs h k rest a = ap begins_apart (spelt-parts ps qs rest) ∙ h (spelt qs ++ rest) (k rest a)

pub opens-append : (ps qs : List Piece) → Opens ps → Opens qs → Opens (ps ++ qs)
opens-append ps qs h k rest a = ap goes_on_as_size (spelt-parts ps qs rest) ∙ h (spelt qs ++ rest) (k rest a)

pub sound-of_free : (ps : List Piece) → Free ps → Sound ps
sound-of_free ps h rest a = h rest

pub keeps-divides : (ps : List Piece) → Divides ps → Keeps ps
keeps-divides ps h rest a = h rest

-- ---- nothing and gaps
pub free-none : Free []
unfolding SpacedBefore
free-none rest = tt

pub sound-none : Sound []
sound-none = sound-of_free [] free-none

pub keeps-none : Keeps []
unfolding spelt
keeps-none rest a = a

pub opens-none : Opens []
unfolding spelt
opens-none rest a = a

pub free-space : Free space
unfolding SpacedBefore space
free-space rest = tt

pub divides-space : Divides space
unfolding spelt space in_class
divides-space rest = refl

pub opens-space : Opens space
unfolding spelt space in_class goes_on_as_size
opens-space rest a = refl

pub free-new_line : (depth : ℕ) → Free (new_line depth)
unfolding SpacedBefore new_line
free-new_line depth rest = tt

pub divides-new_line : (depth : ℕ) → Divides (new_line depth)
unfolding spelt new_line in_class
divides-new_line depth rest = refl

-- ---- words
word_before : (kind : Kind) (text rest : List ℕ) → IsWord kind text → lengthens kind rest ≡ false → SpacedBefore (token kind text) rest
unfolding SpacedBefore spelt token
word_before kind text rest h k = (h, k, tt)

-- what begins apart lengthens no word of the kind
unfoldable pub Tame : Kind → Type 0
Tame (kinds.Sign Minus) = ⊥
Tame (kinds.Sign OpenSquare) = ⊥
Tame _ = Unit {0}

apart_no_name : (byte : ℕ) → not (in_class classes.Name byte || (byte == 61)) ≡ true → in_class classes.Name byte ≡ false
apart_no_name byte h = grind (arith, nat_tests)

apart_no_word : (byte : ℕ) → not (in_class classes.Name byte || (byte == 61)) ≡ true → in_class classes.Word byte ≡ false
unfolding in_class
apart_no_word byte h = grind (arith, nat_tests)

apart_no_number : (byte : ℕ) → not (in_class classes.Name byte || (byte == 61)) ≡ true → in_class classes.Digit byte || (byte == 120) ≡ false
unfolding in_class
apart_no_number byte h = grind (arith, nat_tests)

apart_no_x : (byte : ℕ) → not (in_class classes.Name byte || (byte == 61)) ≡ true → (byte == 120) ≡ false
unfolding in_class
apart_no_x byte h = grind (arith, nat_tests)

apart_no_equal : (byte : ℕ) → not (in_class classes.Name byte || (byte == 61)) ≡ true → (byte == 61) ≡ false
apart_no_equal byte h = grind (arith, nat_tests)

apart_with : (is : ℕ → Bool) (rest : List ℕ) → ((byte : ℕ) → not (in_class classes.Name byte || (byte == 61)) ≡ true → is byte ≡ false)
    → begins_apart rest ≡ true → begins_with is rest ≡ false
apart_with is [] f a = refl
apart_with is (byte ∷ rest) f a = f byte a

apart_stops : (kind : Kind) → Tame kind → (rest : List ℕ) → begins_apart rest ≡ true → lengthens kind rest ≡ false
unfolding Tame lengthens lengthens_sign
apart_stops kinds.Word t rest a = apart_with (in_class classes.Word) rest apart_no_word a
apart_stops kinds.Number t rest a = apart_with (λ byte. in_class classes.Digit byte || (byte == 120)) rest apart_no_number a
apart_stops kinds.DimX t rest a = refl
apart_stops kinds.ScalX t rest a = refl
apart_stops kinds.ValId t rest a = apart_with (in_class classes.Name) rest apart_no_name a
apart_stops kinds.SymId t rest a = apart_with (in_class classes.Name) rest apart_no_name a
apart_stops kinds.HashId t rest a = apart_with (in_class classes.Name) rest apart_no_name a
apart_stops kinds.CaretId t rest a = apart_with (in_class classes.Name) rest apart_no_name a
apart_stops kinds.Quoted t rest a = refl
apart_stops (kinds.Sign OpenSquare) t rest a = absurd t
apart_stops (kinds.Sign Minus) t rest a = absurd t
apart_stops (kinds.Sign CloseAngle) t rest a = apart_with (λ byte. byte == 61) rest apart_no_equal a
apart_stops (kinds.Sign Equal) t rest a = apart_with (λ byte. byte == 61) rest apart_no_equal a
apart_stops (kinds.Sign Question) t rest a = apart_with (λ byte. byte == 120) rest apart_no_x a
apart_stops (kinds.Sign OpenRound) t rest a = refl
apart_stops (kinds.Sign CloseRound) t rest a = refl
apart_stops (kinds.Sign OpenCurly) t rest a = refl
apart_stops (kinds.Sign CloseCurly) t rest a = refl
apart_stops (kinds.Sign CloseSquare) t rest a = refl
apart_stops (kinds.Sign OpenAngle) t rest a = refl
apart_stops (kinds.Sign Comma) t rest a = refl
apart_stops (kinds.Sign Colon) t rest a = refl
apart_stops (kinds.Sign Plus) t rest a = refl
apart_stops (kinds.Sign Star) t rest a = refl
apart_stops (kinds.Sign Arrow) t rest a = refl
apart_stops (kinds.Sign AtLeast) t rest a = refl
apart_stops (kinds.Sign EqualEqual) t rest a = refl

pub sound-token : (kind : Kind) (text : List ℕ) → Tame kind → IsWord kind text → Sound (token kind text)
sound-token kind text t h rest a = word_before kind text rest h (apart_stops kind t rest a)

pub sound-word : (text : List ℕ) → IsWord kinds.Word text → Sound (token kinds.Word text)
unfolding Tame
sound-word text h = sound-token kinds.Word text tt h

pub sound-number : (text : List ℕ) → IsWord kinds.Number text → Sound (token kinds.Number text)
unfolding Tame
sound-number text h = sound-token kinds.Number text tt h

pub free-size : (text : List ℕ) → IsWord kinds.DimX text → Free (token kinds.DimX text)
unfolding lengthens
free-size text h rest = word_before kinds.DimX text rest h refl

pub free-scale : (text : List ℕ) → IsWord kinds.ScalX text → Free (token kinds.ScalX text)
unfolding lengthens
free-scale text h rest = word_before kinds.ScalX text rest h refl

-- words that nothing lengthens
pub free-token : (kind : Kind) (text : List ℕ) → ((rest : List ℕ) → lengthens kind rest ≡ false) → IsWord kind text → Free (token kind text)
free-token kind text stop h rest = word_before kind text rest h (stop rest)

-- ---- signs
pub sign_word : (s : Sign) → IsWord (kinds.Sign s) (sign_text s)
sign_word s = record { spells = record { within = omega arith; spelled = (refl, λ i below. refl) }; short = tt }

pub sign_before : (s : Sign) (rest : List ℕ) → lengthens_sign s rest ≡ false → SpacedBefore (sign s) rest
unfolding SpacedBefore spelt sign lengthens
sign_before s rest h = (sign_word s, h, tt)

pub sound-sign : (s : Sign) → Tame (kinds.Sign s) → Sound (sign s)
unfolding SpacedBefore spelt sign
sound-sign s t rest a = (sign_word s, apart_stops (kinds.Sign s) t rest a, tt)

-- signs that nothing lengthens
pub free-sign : (s : Sign) → ((rest : List ℕ) → lengthens_sign s rest ≡ false) → Free (sign s)
free-sign s h rest = sign_before s rest (h rest)

pub free-open_round : Free (sign OpenRound)
unfolding lengthens_sign
free-open_round = free-sign OpenRound (λ rest. refl)

pub free-close_round : Free (sign CloseRound)
unfolding lengthens_sign
free-close_round = free-sign CloseRound (λ rest. refl)

pub free-open_curly : Free (sign OpenCurly)
unfolding lengthens_sign
free-open_curly = free-sign OpenCurly (λ rest. refl)

pub free-close_curly : Free (sign CloseCurly)
unfolding lengthens_sign
free-close_curly = free-sign CloseCurly (λ rest. refl)

pub free-close_square : Free (sign CloseSquare)
unfolding lengthens_sign
free-close_square = free-sign CloseSquare (λ rest. refl)

pub free-open_angle : Free (sign OpenAngle)
unfolding lengthens_sign
free-open_angle = free-sign OpenAngle (λ rest. refl)

pub sound-close_angle : Sound (sign CloseAngle)
unfolding Tame
sound-close_angle = sound-sign CloseAngle tt

pub sound-question : Sound (sign Question)
unfolding Tame
sound-question = sound-sign Question tt

pub free-comma : Free comma
unfolding lengthens_sign
free-comma = free-append (sign Comma) space (free-sign Comma (λ rest. refl)) free-space

pub free-colon : Free colon
unfolding lengthens_sign
free-colon = free-append (sign Colon) space (free-sign Colon (λ rest. refl)) free-space

pub free-arrow : Free (sign Arrow)
unfolding lengthens_sign
free-arrow = free-sign Arrow (λ rest. refl)

-- a sign begins apart unless it is `-`, `->`, `=` or `==`
pub divides-sign : (s : Sign) → ((rest : List ℕ) → begins_apart (sign_text s ++ rest) ≡ true) → Divides (sign s)
unfolding spelt sign
divides-sign s h rest = ap begins_apart (append_assoc (sign_text s) [] rest) ∙ h rest

pub divides-close_round : Divides (sign CloseRound)
unfolding in_class
divides-close_round = divides-sign CloseRound (λ rest. refl)

pub divides-close_curly : Divides (sign CloseCurly)
unfolding in_class
divides-close_curly = divides-sign CloseCurly (λ rest. refl)

pub divides-close_square : Divides (sign CloseSquare)
unfolding in_class
divides-close_square = divides-sign CloseSquare (λ rest. refl)

pub divides-open_round : Divides (sign OpenRound)
unfolding in_class
divides-open_round = divides-sign OpenRound (λ rest. refl)

pub divides-open_angle : Divides (sign OpenAngle)
unfolding in_class
divides-open_angle = divides-sign OpenAngle (λ rest. refl)

pub divides-close_angle : Divides (sign CloseAngle)
unfolding in_class
divides-close_angle = divides-sign CloseAngle (λ rest. refl)

pub divides-comma : Divides comma
unfolding in_class
divides-comma = divides-append (sign Comma) space (divides-sign Comma (λ rest. refl))

pub divides-colon : Divides colon
unfolding in_class
divides-colon = divides-append (sign Colon) space (divides-sign Colon (λ rest. refl))

pub opens-sign : (s : Sign) → ((rest : List ℕ) → goes_on_as_size (sign_text s ++ rest) ≡ false) → Opens (sign s)
unfolding spelt sign
opens-sign s h rest a = ap goes_on_as_size (append_assoc (sign_text s) [] rest) ∙ h rest

pub opens-comma : Opens comma
unfolding goes_on_as_size in_class
opens-comma = opens-append (sign Comma) space (opens-sign Comma (λ rest. refl)) opens-space

pub opens-question : Opens (sign Question)
unfolding goes_on_as_size in_class
opens-question = opens-sign Question (λ rest. refl)

-- ---- brackets and blanks around
pub free-spaced : (ps : List Piece) → Sound ps → Free (spaced ps)
free-spaced ps h = sound-free (space ++ ps) space (free-sound space ps free-space h) free-space divides-space

pub free-in_round : (ps : List Piece) → Sound ps → Free (in_round ps)
free-in_round ps h =
    sound-free (sign OpenRound ++ ps) (sign CloseRound) (free-sound (sign OpenRound) ps free-open_round h) free-close_round divides-close_round

pub free-in_curly : (ps : List Piece) → Sound ps → Free (in_curly ps)
free-in_curly ps h =
    sound-free (sign OpenCurly ++ ps) (sign CloseCurly) (free-sound (sign OpenCurly) ps free-open_curly h) free-close_curly divides-close_curly

close_stops : (rest : List ℕ) → begins_apart rest ≡ true → closes_size (93 ∷ rest) ≡ false
close_stops rest a = apart_with (λ next. next == 120) rest apart_no_x a

square_stops : (rest : List ℕ) → begins_apart rest ≡ true → goes_on_as_size (93 ∷ rest) ≡ false
unfolding goes_on_as_size in_class
square_stops rest a = close_stops rest a

spelt-square : (rest : List ℕ) → spelt (sign CloseSquare) ++ rest ≡ 93 ∷ rest
unfolding spelt sign
spelt-square rest = refl

pub sound-in_square : (ps : List Piece) → Sound ps → Opens ps → Sound (in_square ps)
unfolding lengthens_sign
sound-in_square ps h o rest a =
    let close : List ℕ = spelt (sign CloseSquare) ++ rest in
    parts-law (sign OpenSquare ++ ps) (sign CloseSquare) rest
    (parts-law (sign OpenSquare) ps close
    (sign_before OpenSquare (spelt ps ++ close) (o close (ap goes_on_as_size (spelt-square rest) ∙ square_stops rest a)))
    (h close (divides-close_square rest)))
    (free-close_square rest)

-- ---- several
unfoldable pub AllOf : (List Piece → Type 0) → List (List Piece) → Type 0
AllOf P [] = Unit {0}
AllOf P (ps ∷ others) = P ps × AllOf P others

pub all_mapped : {A : Type 0} (P : A → Type 0) (Q : List Piece → Type 0) (f : A → List Piece) → ((x : A) → P x → Q (f x))
    → (xs : List A) → All P xs → AllOf Q (map f xs)
unfolding AllOf
all_mapped P Q f h [] a = tt
all_mapped P Q f h (x ∷ xs) a = (h x (All-head P x xs a), all_mapped P Q f h xs (All-tail P x xs a))

keeps-behind : (others : List (List Piece)) → Keeps (behind others)
unfolding behind
keeps-behind [] = keeps-none
keeps-behind (next ∷ others) =
    keeps-append (comma ++ next) (behind others) (keeps-divides (comma ++ next) (divides-append comma next divides-comma)) (keeps-behind others)

sound-behind : (others : List (List Piece)) → AllOf Sound others → Sound (behind others)
unfolding behind AllOf
sound-behind [] h = sound-none
sound-behind (next ∷ others) h =
    sound-append (comma ++ next) (behind others) (free-sound comma next free-comma h.0) (sound-behind others h.1) (keeps-behind others)

pub sound-commas : (several : List (List Piece)) → AllOf Sound several → Sound (commas several)
unfolding commas AllOf
sound-commas [] h = sound-none
sound-commas (first ∷ others) h = sound-append first (behind others) h.0 (sound-behind others h.1) (keeps-behind others)

opens-behind : (others : List (List Piece)) → AllOf Opens others → Opens (behind others)
unfolding behind AllOf
opens-behind [] h = opens-none
opens-behind (next ∷ others) h =
    opens-append (comma ++ next) (behind others) (opens-append comma next opens-comma h.0) (opens-behind others h.1)

pub opens-commas : (several : List (List Piece)) → AllOf Opens several → Opens (commas several)
unfolding commas AllOf
opens-commas [] h = opens-none
opens-commas (first ∷ others) h = opens-append first (behind others) h.0 (opens-behind others h.1)

pub free-joined : (several : List (List Piece)) → AllOf Free several → Free (joined several)
unfolding joined AllOf
free-joined [] h = free-none
free-joined (first ∷ others) h = free-append first (joined others) h.0 (free-joined others h.1)

-- ---- what can stand behind all that is spaced before what begins apart
pub record Tail (ps : List Piece) : Type 0 where
  pub sound : Sound ps
  pub keeps : Keeps ps

pub tail-none : Tail []
tail-none = record { sound = sound-none; keeps = keeps-none }

pub tail-divides : (ps : List Piece) → Sound ps → Divides ps → Tail ps
tail-divides ps h d = record { sound = h; keeps = keeps-divides ps d }

pub sound-tail : (ps qs : List Piece) → Sound ps → Tail qs → Sound (ps ++ qs)
sound-tail ps qs h t = sound-append ps qs h t.sound t.keeps

pub tail-append : (ps qs : List Piece) → Tail ps → Tail qs → Tail (ps ++ qs)
tail-append ps qs h t = record { sound = sound-tail ps qs h.sound t; keeps = keeps-append ps qs h.keeps t.keeps }

pub tail-joined : (several : List (List Piece)) → AllOf Tail several → Tail (joined several)
unfolding joined AllOf
tail-joined [] h = tail-none
tail-joined (first ∷ others) h = tail-append first (joined others) h.0 (tail-joined others h.1)

pub tail-behind : (others : List (List Piece)) → AllOf Sound others → Tail (behind others)
tail-behind others h = record { sound = sound-behind others h; keeps = keeps-behind others }
