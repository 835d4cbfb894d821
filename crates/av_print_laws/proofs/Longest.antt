-- A word is the longest token where it stands, if what follows doesn't lengthen it.
use Rattle.std.proofs.Common.{◌≡◌, ℕ, zero, suc, ◌+◌, ◌<◌, ◌≤◌, ◌==◌, ◌||◌, inl, inr, List, [], ◌∷◌, ◌++◌, Bool, length, true, false, refl, sym, ◌∙◌, ap, subst, arith}
use Rattle.std.specs.Prelude.{slice_index}
use Rattle.std.proofs.lemmas.Bool.{cases_Bool, false≢true}
use Rattle.std.proofs.lemmas.Bool.Decides.{nat_tests}
use Rattle.std.proofs.lemmas.List.{get_or_append_left, get_or-append_right, length-append, ext_get_or}
use Rattle.av_lex.specs.declared.token.Kind.{Kind}
use Rattle.av_lex.specs.declared.token.Kind.TheVariants as kinds
use Rattle.av_lex.specs.declared.token.Sign.{Sign}
use Rattle.av_lex.specs.declared.token.Sign.TheVariants.{OpenRound, CloseRound, OpenCurly, CloseCurly, OpenSquare, CloseSquare, OpenAngle, CloseAngle, Comma, Colon, Equal, Plus, Star, Minus, Question, Arrow, AtLeast, EqualEqual}
use Rattle.av_lex.specs.declared.class.Class.{Class}
use Rattle.av_lex.specs.declared.class.Class.TheVariants as classes
use Rattle.av_lex.specs.Bytes.{in_class, Run}
use Rattle.av_lex.specs.Spellings.{sign_text, Spelling, Longest, Named, Sized}
use Rattle.av_lex.specs.Steps.{IsNameOf}
use Rattle.av_lex.proofs.Runs.{not_in, x_no_digit, bracket_no_digit, quote_not_quoted}
use Rattle.av_lex.proofs.KindOf.{kind_of, mark_kind, single_kind, kind_at}
use Rattle.av_lex.proofs.NextTokens.{only_kind, word_longest, number_longest, size_longest, scal_longest, open_longest, pair_longer, pair_shorter, minus_pair, greater_pair, equal_pair, question_pair}
use Rattle.av_lex.proofs.BadBytes.{digits_longest, name_longest, quoted_longest}
use Rattle.av_print_laws.specs.Spacing.{begins_with, closes_size, goes_on_as_size, lengthens_sign, lengthens}

-- ---- a text and what follows it
pub front : (text rest : List ℕ) (i : ℕ) → i < length text → slice_index (text ++ rest) i ≡ slice_index text i
front text rest i below = get_or_append_left text rest 0 i below

pub next : (text rest : List ℕ) → slice_index (text ++ rest) (length text) ≡ slice_index rest 0
next text rest = get_or-append_right text rest (length text) (length text) 0 refl (omega arith) ∙ ap (λ (k : ℕ). slice_index rest k) (omega arith)

pub whole : (text rest : List ℕ) → length text ≤ length (text ++ rest)
whole text rest = omega (arith, length-append text rest)

pub run_front : (class : Class) (text rest : List ℕ) (a b : ℕ) → b ≤ length text → Run class text a b → Run class (text ++ rest) a b
run_front class text rest a b within run i from below =
    ap (in_class class) (front text rest i (omega arith)) ∙ run i from below

run_after : (class : Class) (r : List ℕ) (a b c : ℕ) → a ≤ b → Run class r a c → Run class r b c
run_after class r a b c h run i from below = run i (omega arith) below

first_not : (is : ℕ → Bool) (rest : List ℕ) → begins_with is rest ≡ false → 0 < length rest → is (slice_index rest 0) ≡ false
first_not is [] h some = absurd (omega arith)
first_not is (byte ∷ rest) h some = h

-- the byte behind the text isn't one of these
stops : (is : ℕ → Bool) (text rest : List ℕ) → begins_with is rest ≡ false → length text < length (text ++ rest)
    → is (slice_index (text ++ rest) (length text)) ≡ false
stops is text rest h inside = ap is (next text rest) ∙ first_not is rest h (omega (arith, length-append text rest))

neither : (a b : Bool) → a || b ≡ false → (a ≡ false) × (b ≡ false)
neither true b h = absurd (false≢true (sym h))
neither false b h = (refl, h)

not_this : (a b : ℕ) → (a == b) ≡ false → a ≡ b → ⊥
not_this a b h e = absurd (grind (arith, nat_tests))

name_no_digit : (c : ℕ) → in_class classes.Name c ≡ false → in_class classes.Digit c ≡ false
unfolding in_class
name_no_digit c h = grind (arith, nat_tests)

-- ---- kinds with one byte or more of their own
words : (text rest : List ℕ) → Spelling kinds.Word text (length text) → begins_with (in_class classes.Word) rest ≡ false
    → Longest kinds.Word (text ++ rest) (length text)
words text rest h stop =
    let some : 1 ≤ length text = h.0 in
    word_longest (text ++ rest) (length text) (ap (in_class classes.WordStart) (front text rest 0 (omega arith)) ∙ h.1) some (whole text rest)
    (run_front classes.Word text rest 1 (length text) (omega arith) h.2)
    (stops (in_class classes.Word) text rest stop)

numbers : (text rest : List ℕ) → Spelling kinds.Number text (length text) → begins_with (λ byte. in_class classes.Digit byte || (byte == 120)) rest ≡ false
    → Longest kinds.Number (text ++ rest) (length text)
numbers text rest h stop =
    let some : 1 ≤ length text = h.0 in
    let run : Run classes.Digit (text ++ rest) 0 (length text) = run_front classes.Digit text rest 0 (length text) (omega arith) h.1 in
    let both_not = λ (inside : length text < length (text ++ rest)). neither _ _ (stops (λ byte. in_class classes.Digit byte || (byte == 120)) text rest stop inside) in
    number_longest (text ++ rest) (length text) (run 0 (omega arith) (omega arith)) some (whole text rest)
    (run_after classes.Digit (text ++ rest) 0 1 (length text) (omega arith) run)
    (λ inside. (both_not inside).0)
    (λ inside. not_this _ 120 (both_not inside).1)

sizes : (text rest : List ℕ) → Sized text (length text) → Longest kinds.DimX (text ++ rest) (length text)
sizes text rest (inl h) =
    let long : length text ≡ h.0 + 1 = h.1 in
    let some : 1 ≤ h.0 = h.2 in
    let total = whole text rest in
    let run : Run classes.Digit (text ++ rest) 0 h.0 = run_front classes.Digit text rest 0 h.0 (omega arith) h.3 in
    let here : slice_index (text ++ rest) h.0 ≡ 120 = front text rest h.0 (omega arith) ∙ h.4 in
    subst (λ (n : ℕ). Longest kinds.DimX (text ++ rest) n) (sym long)
    (size_longest (text ++ rest) h.0 (run 0 (omega arith) (omega arith)) some (omega arith)
    (run_after classes.Digit (text ++ rest) 0 1 h.0 (omega arith) run)
    (λ inside. not_in classes.Digit _ 120 here x_no_digit) here)
sizes text rest (inr h) =
    let long : length text ≡ 2 = h.0 in
    let total = whole text rest in
    subst (λ (n : ℕ). Longest kinds.DimX (text ++ rest) n) (sym long)
    (pair_longer (text ++ rest) 63 120 _ kinds.DimX question_pair (front text rest 0 (omega arith) ∙ h.1) (omega arith) (front text rest 1 (omega arith) ∙ h.2))

scales : (text rest : List ℕ) → Spelling kinds.ScalX text (length text) → Longest kinds.ScalX (text ++ rest) (length text)
scales text rest h =
    let long : length text ≡ h.0 + 2 = h.1 in
    let some : 2 ≤ h.0 = h.2 in
    let total = whole text rest in
    let close : slice_index (text ++ rest) h.0 ≡ 93 = front text rest h.0 (omega arith) ∙ h.5 in
    subst (λ (n : ℕ). Longest kinds.ScalX (text ++ rest) n) (sym long)
    (scal_longest (text ++ rest) h.0 (front text rest 0 (omega arith) ∙ h.3) (omega arith) (omega arith)
    (run_front classes.Digit text rest 1 h.0 (omega arith) h.4)
    (λ inside. not_in classes.Digit _ 93 close bracket_no_digit) close (front text rest (h.0 + 1) (omega arith) ∙ h.6))

quotes : (text rest : List ℕ) → Spelling kinds.Quoted text (length text) → Longest kinds.Quoted (text ++ rest) (length text)
quotes text rest h =
    let long : length text ≡ h.0 + 1 = h.1 in
    let some : 1 ≤ h.0 = h.2 in
    let total = whole text rest in
    let close : slice_index (text ++ rest) h.0 ≡ 34 = front text rest h.0 (omega arith) ∙ h.5 in
    subst (λ (n : ℕ). Longest kinds.Quoted (text ++ rest) n) (sym long)
    (quoted_longest (text ++ rest) h.0 (front text rest 0 (omega arith) ∙ h.3) some (omega arith)
    (run_front classes.Quoted text rest 1 h.0 (omega arith) h.4)
    (λ inside. not_in classes.Quoted _ 34 close quote_not_quoted) close)

names : (kind : Kind) (text rest : List ℕ) (mark : ℕ) → Named mark text (length text)
    → (slice_index (text ++ rest) 0 ≡ mark → IsNameOf kind (slice_index (text ++ rest) 0))
    → begins_with (in_class classes.Name) rest ≡ false → Longest kind (text ++ rest) (length text)
names kind text rest mark h is stop =
    let two : 2 ≤ length text = h.1 in
    let first = is (front text rest 0 (omega arith) ∙ h.0) in
    elim h.2 [
      | inl digits ↦
          (let run : Run classes.Digit (text ++ rest) 1 (length text) = run_front classes.Digit text rest 1 (length text) (omega arith) digits in
          digits_longest kind (text ++ rest) (length text) first (run 1 (omega arith) (omega arith)) two (whole text rest)
          (run_after classes.Digit (text ++ rest) 1 2 (length text) (omega arith) run)
          (λ inside. name_no_digit _ (stops (in_class classes.Name) text rest stop inside)))
      | inr name ↦
          name_longest kind (text ++ rest) (length text) first (ap (in_class classes.NameStart) (front text rest 1 (omega arith)) ∙ name.0) two (whole text rest)
          (run_front classes.Name text rest 2 (length text) (omega arith) name.1)
          (stops (in_class classes.Name) text rest stop)
    ]

-- ---- signs
sign_is : (s : Sign) (text : List ℕ) → Spelling (kinds.Sign s) text (length text) → text ≡ sign_text s
sign_is s text h = ext_get_or 0 text (sign_text s) h.0 h.1

single : (s : Sign) (c : ℕ) (rest : List ℕ) → sign_text s ≡ c ∷ [] → ((z n : ℕ) → kind_of c z n ≡ kinds.Sign s) → Longest (kinds.Sign s) (c ∷ rest) 1
single s c rest text which =
    only_kind (kinds.Sign s) (c ∷ rest) 1
    (record { within = omega arith; spelled = (sym (ap length text), λ i below. spelled i below) })
    (λ o m h. kind_at c o (c ∷ rest) m refl h ∙ which _ m)
    (λ m h. let one : m ≡ length (sign_text s) = h.spelled.0 in let e : length (sign_text s) ≡ 1 = ap length text in omega arith)
  where
    spelled : (i : ℕ) → i < 1 → slice_index (c ∷ rest) i ≡ slice_index (sign_text s) i
    spelled i below =
        let none : i ≡ 0 = omega arith in
        ap (λ (k : ℕ). slice_index (c ∷ rest) k) none
        ∙ sym (ap (λ (k : ℕ). slice_index (sign_text s) k) none ∙ ap (λ (t : List ℕ). slice_index t 0) text)

-- where the digits at the begin of a text stop that doesn't go on as a size
record Stop (rest : List ℕ) : Type 0 where
  pub at : ℕ
  pub run : Run classes.Digit rest 0 at
  pub stop : at < length rest → in_class classes.Digit (slice_index rest at) ≡ false
  pub no_size : suc at < length rest → slice_index rest at ≡ 93 → slice_index rest (suc at) ≡ 120 → ⊥

digit_more : (byte : ℕ) (rest : List ℕ) (d : ℕ) → in_class classes.Digit byte ≡ true → Run classes.Digit rest 0 d → Run classes.Digit (byte ∷ rest) 0 (suc d)
digit_more byte rest d h run zero from below = h
digit_more byte rest d h run (suc i) from below = run i (omega arith) (omega arith)

no_close : (byte : ℕ) (rest : List ℕ) → closes_size (byte ∷ rest) ≡ false → 1 < length (byte ∷ rest) → byte ≡ 93 → slice_index rest 0 ≡ 120 → ⊥
no_close byte [] h inside close x = absurd (omega arith)
no_close byte (next ∷ rest) h inside close x = absurd (grind (arith, nat_tests))

pub size_stops : (byte : ℕ) (rest : List ℕ) → in_class classes.Digit byte ≡ true → goes_on_as_size (byte ∷ rest) ≡ goes_on_as_size rest
unfolding goes_on_as_size
size_stops byte rest h = rw h

pub size_closes : (byte : ℕ) (rest : List ℕ) → in_class classes.Digit byte ≡ false → goes_on_as_size (byte ∷ rest) ≡ closes_size (byte ∷ rest)
unfolding goes_on_as_size
size_closes byte rest h = rw h

digits_stop : (rest : List ℕ) → goes_on_as_size rest ≡ false → Stop rest
digits_stop [] h = record {
  at = 0;
  run = λ i from below. absurd (omega arith);
  stop = λ inside. absurd (omega arith);
  no_size = λ inside close x. omega arith;
}
digits_stop (byte ∷ rest) h = elim (cases_Bool (in_class classes.Digit byte)) [
  | inl digit ↦ (let s = digits_stop rest (sym (size_stops byte rest digit) ∙ h) in record {
    at = suc s.at;
    run = digit_more byte rest s.at digit s.run;
    stop = λ inside. s.stop (omega arith);
    no_size = λ inside. s.no_size (omega arith);
  })
  | inr other ↦ record {
    at = 0;
    run = λ i from below. absurd (omega arith);
    stop = λ inside. other;
    no_size = no_close byte rest (sym (size_closes byte rest other) ∙ h);
  }
]

open_square : (rest : List ℕ) → goes_on_as_size rest ≡ false → Longest (kinds.Sign OpenSquare) (91 ∷ rest) 1
open_square rest h =
    let s = digits_stop rest h in
    open_longest (91 ∷ rest) (suc s.at) (omega arith) refl (omega arith) (shifted s.at s.run) (λ inside. s.stop (omega arith))
    (λ some inside close x. s.no_size (omega arith) close (ap (λ (k : ℕ). slice_index (91 ∷ rest) k) (more s.at) ∙ x))
  where
    shifted : (d : ℕ) → Run classes.Digit rest 0 d → Run classes.Digit (91 ∷ rest) 1 (suc d)
    shifted d run zero from below = absurd (omega arith)
    shifted d run (suc i) from below = run i (omega arith) (omega arith)

    more : (d : ℕ) → suc (suc d) ≡ suc d + 1
    more d = omega arith

signs : (s : Sign) (rest : List ℕ) → lengthens_sign s rest ≡ false → Longest (kinds.Sign s) (sign_text s ++ rest) (length (sign_text s))
unfolding lengthens_sign kind_of mark_kind single_kind in_class
signs OpenRound rest h = single OpenRound 40 rest refl (λ z n. refl)
signs CloseRound rest h = single CloseRound 41 rest refl (λ z n. refl)
signs OpenCurly rest h = single OpenCurly 123 rest refl (λ z n. refl)
signs CloseCurly rest h = single CloseCurly 125 rest refl (λ z n. refl)
signs OpenSquare rest h = open_square rest h
signs CloseSquare rest h = single CloseSquare 93 rest refl (λ z n. refl)
signs OpenAngle rest h = single OpenAngle 60 rest refl (λ z n. refl)
signs CloseAngle rest h = pair_shorter (62 ∷ rest) 62 61 _ _ greater_pair refl (omega arith) (λ more e. not_this _ 61 (first_not (λ byte. byte == 61) rest h (omega arith)) e)
signs Comma rest h = single Comma 44 rest refl (λ z n. refl)
signs Colon rest h = single Colon 58 rest refl (λ z n. refl)
signs Equal rest h = pair_shorter (61 ∷ rest) 61 61 _ _ equal_pair refl (omega arith) (λ more e. not_this _ 61 (first_not (λ byte. byte == 61) rest h (omega arith)) e)
signs Plus rest h = single Plus 43 rest refl (λ z n. refl)
signs Star rest h = single Star 42 rest refl (λ z n. refl)
signs Minus rest h = pair_shorter (45 ∷ rest) 45 62 _ _ minus_pair refl (omega arith) (λ more e. not_this _ 62 (first_not (λ byte. byte == 62) rest h (omega arith)) e)
signs Question rest h = pair_shorter (63 ∷ rest) 63 120 _ _ question_pair refl (omega arith) (λ more e. not_this _ 120 (first_not (λ byte. byte == 120) rest h (omega arith)) e)
signs Arrow rest h = pair_longer (45 ∷ 62 ∷ rest) 45 62 _ _ minus_pair refl (omega arith) refl
signs AtLeast rest h = pair_longer (62 ∷ 61 ∷ rest) 62 61 _ _ greater_pair refl (omega arith) refl
signs EqualEqual rest h = pair_longer (61 ∷ 61 ∷ rest) 61 61 _ _ equal_pair refl (omega arith) refl

sign_longest : (s : Sign) (text rest : List ℕ) → text ≡ sign_text s → lengthens_sign s rest ≡ false → Longest (kinds.Sign s) (text ++ rest) (length text)
sign_longest s text rest e h = subst (λ (t : List ℕ). Longest (kinds.Sign s) (t ++ rest) (length t)) (sym e) (signs s rest h)

-- ---- every kind
pub longest : (kind : Kind) (text rest : List ℕ) → Spelling kind text (length text) → lengthens kind rest ≡ false → Longest kind (text ++ rest) (length text)
unfolding lengthens
longest kinds.Word text rest s h = words text rest s h
longest kinds.Number text rest s h = numbers text rest s h
longest kinds.DimX text rest s h = sizes text rest s
longest kinds.ScalX text rest s h = scales text rest s
longest kinds.ValId text rest s h = names kinds.ValId text rest 37 s (λ e. e) h
longest kinds.SymId text rest s h = names kinds.SymId text rest 64 s (λ e. e) h
longest kinds.HashId text rest s h = names kinds.HashId text rest 35 s (λ e. e) h
longest kinds.CaretId text rest s h = names kinds.CaretId text rest 94 s (λ e. e) h
longest kinds.Quoted text rest s h = quotes text rest s
longest (kinds.Sign sign) text rest s h = sign_longest sign text rest (sign_is sign text s) h
