-- What the first byte of pieces is not.
use Rattle.std.proofs.Common.{◌≡◌, ℕ, ◌≤◌, ◌==◌, List, [], ◌∷◌, ◌++◌, length, true, false, refl, ◌∙◌, ap, append_assoc, arith}
use Rattle.std.specs.Prelude.{slice_index}
use Rattle.std.proofs.lemmas.Bool.Decides.{nat_tests}
use Rattle.av_lex.specs.declared.token.Kind.{Kind}
use Rattle.av_lex.specs.declared.token.Kind.TheVariants as kinds
use Rattle.av_lex.specs.declared.token.Sign.TheVariants.{OpenRound, CloseRound, Minus}
use Rattle.av_lex.specs.declared.class.Class.TheVariants as classes
use Rattle.av_lex.specs.Bytes.{in_class}
use Rattle.av_printer.specs.Pieces.{Piece, spelt, space, token, sign, spaced, in_round}
use Rattle.av_print_laws.specs.Spacing.{begins_with, closes_size, goes_on_as_size, IsWord}
use Rattle.av_print_laws.proofs.Longest.{size_closes}
use Rattle.av_print_laws.proofs.Parts.{spelt-parts, Divides, Opens, divides-append, divides-space}

-- the pieces don't go on as a size behind a `[`
abbrev pub Shuts : List Piece → Type 0
Shuts ps = (rest : List ℕ) → goes_on_as_size (spelt ps ++ rest) ≡ false

-- nor as `->` behind a `-`
abbrev pub NoAngle : List Piece → Type 0
NoAngle ps = (rest : List ℕ) → begins_with (λ byte. byte == 62) (spelt ps ++ rest) ≡ false

pub shuts-append : (ps qs : List Piece) → Shuts ps → Shuts (ps ++ qs)
shuts-append ps qs h rest = ap goes_on_as_size (spelt-parts ps qs rest) ∙ h (spelt qs ++ rest)

pub no_angle-append : (ps qs : List Piece) → NoAngle ps → NoAngle (ps ++ qs)
no_angle-append ps qs h rest = ap (begins_with (λ byte. byte == 62)) (spelt-parts ps qs rest) ∙ h (spelt qs ++ rest)

pub opens-shuts : (ps : List Piece) → Shuts ps → Opens ps
opens-shuts ps h rest a = h rest

-- ---- by the first byte of a text
shuts_by : (byte : ℕ) (rest : List ℕ) → in_class classes.Digit byte ≡ false → (byte == 93) ≡ false → goes_on_as_size (byte ∷ rest) ≡ false
shuts_by byte rest digit close = size_closes byte rest digit ∙ closed byte rest close
  where
    closed : (byte : ℕ) (rest : List ℕ) → (byte == 93) ≡ false → closes_size (byte ∷ rest) ≡ false
    closed byte rest h = rw h

text-first : (kind : Kind) (text rest : List ℕ) → spelt (token kind text) ++ rest ≡ text ++ rest
unfolding spelt token
text-first kind text rest = append_assoc text [] rest

shuts-text : (text rest : List ℕ) → 1 ≤ length text → in_class classes.Digit (slice_index text 0) ≡ false → (slice_index text 0 == 93) ≡ false
    → goes_on_as_size (text ++ rest) ≡ false
shuts-text [] rest some digit close = absurd (omega arith)
shuts-text (c ∷ cs) rest some digit close = shuts_by c (cs ++ rest) digit close

no_angle-text : (text rest : List ℕ) → 1 ≤ length text → (slice_index text 0 == 62) ≡ false → begins_with (λ byte. byte == 62) (text ++ rest) ≡ false
no_angle-text [] rest some angle = absurd (omega arith)
no_angle-text (c ∷ cs) rest some angle = angle

pub shuts-token : (kind : Kind) (text : List ℕ) → 1 ≤ length text → in_class classes.Digit (slice_index text 0) ≡ false → (slice_index text 0 == 93) ≡ false
    → Shuts (token kind text)
shuts-token kind text some digit close rest = ap goes_on_as_size (text-first kind text rest) ∙ shuts-text text rest some digit close

no_angle-token : (kind : Kind) (text : List ℕ) → 1 ≤ length text → (slice_index text 0 == 62) ≡ false → NoAngle (token kind text)
no_angle-token kind text some angle rest = ap (begins_with (λ byte. byte == 62)) (text-first kind text rest) ∙ no_angle-text text rest some angle

start_no_digit : (c : ℕ) → in_class classes.WordStart c ≡ true → in_class classes.Digit c ≡ false
unfolding in_class
start_no_digit c h = grind (arith, nat_tests)

start_no_close : (c : ℕ) → in_class classes.WordStart c ≡ true → (c == 93) ≡ false
unfolding in_class
start_no_close c h = grind (arith, nat_tests)

start_no_angle : (c : ℕ) → in_class classes.WordStart c ≡ true → (c == 62) ≡ false
unfolding in_class
start_no_angle c h = grind (arith, nat_tests)

digit_no_angle : (c : ℕ) → in_class classes.Digit c ≡ true → (c == 62) ≡ false
unfolding in_class
digit_no_angle c h = grind (arith, nat_tests)

percent_no_digit : in_class classes.Digit 37 ≡ false
unfolding in_class
percent_no_digit = refl

pub shuts-word : (text : List ℕ) → IsWord kinds.Word text → Shuts (token kinds.Word text)
shuts-word text w =
    shuts-token kinds.Word text (w.spells.spelled.0) (start_no_digit _ (w.spells.spelled.1)) (start_no_close _ (w.spells.spelled.1))

pub no_angle-word : (text : List ℕ) → IsWord kinds.Word text → NoAngle (token kinds.Word text)
no_angle-word text w = no_angle-token kinds.Word text (w.spells.spelled.0) (start_no_angle _ (w.spells.spelled.1))

pub no_angle-number : (text : List ℕ) → IsWord kinds.Number text → NoAngle (token kinds.Number text)
no_angle-number text w =
    let some : 1 ≤ length text = w.spells.spelled.0 in
    no_angle-token kinds.Number text some (digit_no_angle _ (w.spells.spelled.1 0 (omega arith) (omega arith)))

pub shuts-value : (text : List ℕ) → IsWord kinds.ValId text → Shuts (token kinds.ValId text)
shuts-value text w =
    let two : 2 ≤ length text = w.spells.spelled.1 in
    shuts-token kinds.ValId text (omega arith)
    (ap (in_class classes.Digit) (w.spells.spelled.0) ∙ percent_no_digit)
    (ap (λ c. c == 93) (w.spells.spelled.0))

pub no_angle-value : (text : List ℕ) → IsWord kinds.ValId text → NoAngle (token kinds.ValId text)
no_angle-value text w =
    let two : 2 ≤ length text = w.spells.spelled.1 in
    no_angle-token kinds.ValId text (omega arith) (ap (λ c. c == 62) (w.spells.spelled.0))

-- ---- by the first piece
shuts-open_round : Shuts (sign OpenRound)
unfolding spelt sign goes_on_as_size in_class
shuts-open_round rest = refl

no_angle-open_round : NoAngle (sign OpenRound)
unfolding spelt sign
no_angle-open_round rest = refl

divides-open : Divides (sign OpenRound)
unfolding spelt sign in_class
divides-open rest = refl

pub shuts-minus : Shuts (sign Minus)
unfolding spelt sign goes_on_as_size in_class
shuts-minus rest = refl

pub shuts-in_round : (ps : List Piece) → Shuts (in_round ps)
shuts-in_round ps = shuts-append (sign OpenRound ++ ps) (sign CloseRound) (shuts-append (sign OpenRound) ps shuts-open_round)

pub no_angle-in_round : (ps : List Piece) → NoAngle (in_round ps)
no_angle-in_round ps = no_angle-append (sign OpenRound ++ ps) (sign CloseRound) (no_angle-append (sign OpenRound) ps no_angle-open_round)

pub divides-in_round : (ps : List Piece) → Divides (in_round ps)
divides-in_round ps = divides-append (sign OpenRound ++ ps) (sign CloseRound) (divides-append (sign OpenRound) ps divides-open)

shuts-space : Shuts space
unfolding spelt space goes_on_as_size in_class
shuts-space rest = refl

pub shuts-spaced : (ps : List Piece) → Shuts (spaced ps)
shuts-spaced ps = shuts-append (space ++ ps) space (shuts-append space ps shuts-space)

pub divides-spaced : (ps : List Piece) → Divides (spaced ps)
divides-spaced ps = divides-append (space ++ ps) space (divides-append space ps divides-space)
