-- Classes of bytes and runs.
use Rattle.std.proofs.Common.{◌≡◌, ℕ, ◌+◌, ◌<◌, ◌≤◌, ◌⊎◌, ◌==◌, inl, inr, List, ◌++◌, length, take, true, false, refl, sym, ◌∙◌, ap, subst, arith}
use Rattle.std.specs.Prelude.{slice_index}
use Rattle.std.proofs.lemmas.Bool.{cases_lt, false≢true}
use Rattle.std.proofs.lemmas.Bool.Decides.{nat_tests}
use Rattle.std.proofs.lemmas.List.{get_or-take, get_or-append_right, get_or_append_left, length-take-le}
use Rattle.av_lex.specs.declared.class.Class.{Class}
use Rattle.av_lex.specs.declared.class.Class.TheVariants.{Digit, WordStart, NameStart, Name, Quoted, Comment}
use Rattle.av_lex.specs.Bytes.{in_class, Run}

pub both : {X : Type 0} (class : Class) (c : ℕ) → in_class class c ≡ true → in_class class c ≡ false → X
both class c holds fails = absurd (false≢true (sym fails ∙ holds))

-- a run that ends before a byte of the class goes on to it at least
pub run_stops : (class : Class) (r : List ℕ) (a e m : ℕ) → a ≤ e → in_class class (slice_index r e) ≡ false → Run class r a m → m ≤ e
run_stops class r a e m from stop run = go (cases_lt e m)
  where
    go : (e < m) ⊎ (m ≤ e) → m ≤ e
    go (inl less) = both class (slice_index r e) (run e from less) stop
    go (inr le) = le

-- a run within the text is no longer than one that stops at the end or before another byte
pub run_within : (class : Class) (r : List ℕ) (a e m : ℕ) → a ≤ e
    → (e < length r → in_class class (slice_index r e) ≡ false) → Run class r a m → m ≤ length r → m ≤ e
run_within class r a e m from stop run within = go (cases_lt e m)
  where
    go : (e < m) ⊎ (m ≤ e) → m ≤ e
    go (inl less) = let inside : e < length r = omega arith in both class (slice_index r e) (run e from less) (stop inside)
    go (inr le) = le

-- two runs, of which the first stops and the second is followed by a byte that is not of the class, end alike
pub same_stop : (class : Class) (r : List ℕ) (a e m x : ℕ) → a ≤ e → a ≤ m → m < length r → Run class r a e
    → (e < length r → in_class class (slice_index r e) ≡ false) → Run class r a m → slice_index r m ≡ x → in_class class x ≡ false → m ≡ e
same_stop class r a e m x from from' inside run stop run' here other = go (cases_lt m e)
  where
    go : (m < e) ⊎ (e ≤ m) → m ≡ e
    go (inl less) = both class (slice_index r m) (run m from' less) (ap (in_class class) here ∙ other)
    go (inr le) = let up : m ≤ e = run_within class r a e m from stop run' (omega arith) in omega arith

-- a run after a byte of the class is a run with it
pub run_more : (class : Class) (r : List ℕ) (a e : ℕ) → in_class class (slice_index r a) ≡ true → Run class r (a + 1) e → Run class r a e
run_more class r a e first rest i from below = go (cases_lt a i)
  where
    go : (a < i) ⊎ (i ≤ a) → in_class class (slice_index r i) ≡ true
    go (inl less) = rest i (omega arith) below
    go (inr le) = let same : i ≡ a = omega arith in ap (λ k. in_class class (slice_index r k)) same ∙ first

-- what stands in the kept part of a text
pub kept : (r more : List ℕ) (m i : ℕ) → m ≤ length r → i < m → slice_index (take m r ++ more) i ≡ slice_index r i
kept r more m i within below =
    get_or_append_left (take m r) more 0 i (subst (λ (k : ℕ). i < k) (sym (length-take-le m r within)) below)
    ∙ get_or-take m r i 0 below

-- and behind it
pub behind : (r more : List ℕ) (m : ℕ) → m ≤ length r → slice_index (take m r ++ more) m ≡ slice_index more 0
behind r more m within =
    get_or-append_right (take m r) more m m 0 (length-take-le m r within) (omega arith)
    ∙ ap (λ (k : ℕ). slice_index more k) (omega arith)

pub digit_no_word : (c : ℕ) → in_class Digit c ≡ true → in_class WordStart c ≡ false
unfolding in_class
digit_no_word c h = grind (arith, nat_tests)

pub digit_no_x : (c : ℕ) → in_class Digit c ≡ true → (c == 120) ≡ false
unfolding in_class
digit_no_x c h = grind (arith, nat_tests)

pub name_begins : (c : ℕ) → in_class Name c ≡ false → in_class NameStart c ≡ false
unfolding in_class
name_begins c h = grind (arith, nat_tests)

pub name_start : (c : ℕ) → in_class Digit c ≡ false → in_class Name c ≡ true → in_class NameStart c ≡ true
unfolding in_class
name_start c h part = grind (arith, nat_tests)

pub not_in : (class : Class) (c d : ℕ) → c ≡ d → in_class class d ≡ false → in_class class c ≡ false
not_in class c d same out = ap (in_class class) same ∙ out

pub x_no_digit : in_class Digit 120 ≡ false
unfolding in_class
x_no_digit = refl

pub bracket_no_digit : in_class Digit 93 ≡ false
unfolding in_class
bracket_no_digit = refl

pub question_no_digit : in_class Digit 63 ≡ false
unfolding in_class
question_no_digit = refl

pub quote_not_quoted : in_class Quoted 34 ≡ false
unfolding in_class
quote_not_quoted = refl

pub end_no_comment : in_class Comment 10 ≡ false
unfolding in_class
end_no_comment = refl

pub zero_digit : in_class Digit 48 ≡ true
unfolding in_class
zero_digit = refl

pub start_no_digit : (c : ℕ) → in_class NameStart c ≡ true → in_class Digit c ≡ false
unfolding in_class
start_no_digit c h = grind (arith, nat_tests)
