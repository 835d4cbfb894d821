-- The longest token at the begin of a text, by its first byte.
use Rattle.std.proofs.Common.{◌≡◌, ℕ, ◌+◌, ◌<◌, ◌≤◌, ◌⊎◌, ◌==◌, inl, inr, List, [], ◌∷◌, Bool, length, true, false, cond, refl, sym, ◌∙◌, ap, subst, arith}
use Rattle.std.specs.Prelude.{slice_index}
use Rattle.std.proofs.lemmas.Bool.{cases_lt}
use Rattle.av_lex.specs.declared.token.Kind.{Kind}
use Rattle.av_lex.specs.declared.token.Kind.TheVariants as kinds
use Rattle.av_lex.specs.declared.token.Sign.TheVariants.{OpenSquare, CloseAngle, Equal, Minus, Question, Arrow, AtLeast, EqualEqual}
use Rattle.av_lex.specs.declared.class.Class.TheVariants as classes
use Rattle.av_lex.specs.Bytes.{in_class, Run}
use Rattle.av_lex.specs.Spellings.{Spelling, Spells, Longest, Sized, IsShort, digits_from}
use Rattle.av_lex.specs.declared.step.Step.{Step}
use Rattle.av_lex.specs.declared.step.Step.TheVariants as steps
use Rattle.av_lex.specs.Steps.{Next, Pair}
use Rattle.av_lex.proofs.Runs.{both, run_within, same_stop, run_more, x_no_digit, bracket_no_digit, question_no_digit, digit_no_word}
use Rattle.av_lex.proofs.KindOf.{kind_of, mark_kind, kind_at}

-- which of two kinds it is
cond_is : (k a b : Kind) (t : Bool) → k ≡ cond t a b → (k ≡ a) ⊎ (k ≡ b)
cond_is k a b true h = inl h
cond_is k a b false h = inr h

-- a longest spelling, where every kind that is spelled there is this one, and bounded
pub only_kind : (k : Kind) (r : List ℕ) (n : ℕ) → Spells k r n
    → ((other : Kind) (m : ℕ) → Spells other r m → other ≡ k) → ((m : ℕ) → Spells k r m → m ≤ n) → Longest k r n
only_kind k r n h same bound = record {
  spells = h;
  longest = λ other m s. bound m (subst (λ (o : Kind). Spells o r m) (same other m s) s);
}

-- and of two kinds
only_kinds : (k other : Kind) (r : List ℕ) (n : ℕ) → Spells k r n
    → ((o : Kind) (m : ℕ) → Spells o r m → (o ≡ k) ⊎ (o ≡ other))
    → ((m : ℕ) → Spells k r m → m ≤ n) → ((m : ℕ) → Spells other r m → m ≤ n) → Longest k r n
only_kinds k other r n h which bound bound' = record {
  spells = h;
  longest = λ o m s. elim (which o m s) [
    | inl e ↦ bound m (subst (λ (x : Kind). Spells x r m) e s)
    | inr e ↦ bound' m (subst (λ (x : Kind). Spells x r m) e s)
  ];
}

-- words

word_of : (z n c : ℕ) → in_class classes.WordStart c ≡ true → kind_of c z n ≡ kinds.Word
unfolding kind_of
word_of z n c h = rw h

pub word_longest : (r : List ℕ) (e : ℕ) → in_class classes.WordStart (slice_index r 0) ≡ true → 1 ≤ e → e ≤ length r → Run classes.Word r 1 e
    → (e < length r → in_class classes.Word (slice_index r e) ≡ false) → Longest kinds.Word r e
word_longest r e first some within run stop =
    only_kind kinds.Word r e (record { within = within; spelled = (some, first, run) })
    (λ other m s. kind_at _ other r m refl s ∙ word_of _ m _ first)
    (λ m s. run_within classes.Word r 1 e m some stop (s.spelled.2) s.within)

-- numbers and sizes

number_of : (z n c : ℕ) → in_class classes.Digit c ≡ true → kind_of c z n ≡ cond (z == 120) kinds.DimX kinds.Number
unfolding kind_of
number_of z n c h = let w = digit_no_word c h in rw (w, h)

number_kinds : (r : List ℕ) → in_class classes.Digit (slice_index r 0) ≡ true → (o : Kind) (m : ℕ) → Spells o r m → (o ≡ kinds.DimX) ⊎ (o ≡ kinds.Number)
number_kinds r first o m s = cond_is o kinds.DimX kinds.Number _ (kind_at _ o r m refl s ∙ number_of _ m _ first)

-- a size that begins with a digit is one more than its digits, and `x` follows them
size_ends : (r : List ℕ) (e m : ℕ) → in_class classes.Digit (slice_index r 0) ≡ true → e ≤ length r → Run classes.Digit r 0 e
    → (e < length r → in_class classes.Digit (slice_index r e) ≡ false) → m ≤ length r → Sized r m
    → (m ≡ e + 1) × (slice_index r e ≡ 120)
size_ends r e m first within run stop short (inl h) =
    let long : m ≡ h.0 + 1 = h.1 in
    let same : h.0 ≡ e = same_stop classes.Digit r 0 e h.0 120 (omega arith) (omega arith) (omega arith) run stop h.3 h.4 x_no_digit in
    (omega arith, sym (ap (λ (k : ℕ). slice_index r k) same) ∙ h.4)
size_ends r e m first within run stop short (inr h) = both classes.Digit (slice_index r 0) first (ap (in_class classes.Digit) h.1 ∙ question_no_digit)

pub size_longest : (r : List ℕ) (e : ℕ) → in_class classes.Digit (slice_index r 0) ≡ true → 1 ≤ e → e < length r → Run classes.Digit r 1 e
    → (e < length r → in_class classes.Digit (slice_index r e) ≡ false) → slice_index r e ≡ 120 → Longest kinds.DimX r (e + 1)
size_longest r e first some inside rest stop here =
    let run : Run classes.Digit r 0 e = run_more classes.Digit r 0 e first rest in
    only_kinds kinds.DimX kinds.Number r (e + 1)
    (record { within = omega arith; spelled = inl (e, refl, some, run, here) })
    (number_kinds r first)
    (λ m s. let h = size_ends r e m first (omega arith) run stop s.within s.spelled in let same : m ≡ e + 1 = h.0 in omega arith)
    (λ m s. let up : m ≤ e = run_within classes.Digit r 0 e m (omega arith) stop (s.spelled.1) s.within in omega arith)

pub number_longest : (r : List ℕ) (e : ℕ) → in_class classes.Digit (slice_index r 0) ≡ true → 1 ≤ e → e ≤ length r → Run classes.Digit r 1 e
    → (e < length r → in_class classes.Digit (slice_index r e) ≡ false) → (e < length r → slice_index r e ≡ 120 → ⊥) → Longest kinds.Number r e
number_longest r e first some within rest stop other =
    let run : Run classes.Digit r 0 e = run_more classes.Digit r 0 e first rest in
    only_kinds kinds.Number kinds.DimX r e
    (record { within = within; spelled = (some, run) })
    (λ o m s. elim (number_kinds r first o m s) [ inl x ↦ inr x | inr x ↦ inl x ])
    (λ m s. run_within classes.Digit r 0 e m (omega arith) stop (s.spelled.1) s.within)
    (λ m s.
    let short : m ≤ length r = s.within in
    let h = size_ends r e m first within run stop s.within s.spelled in
    let same : m ≡ e + 1 = h.0 in absurd (other (omega arith) h.1))

-- `[` and scalable sizes

open_of : (z n : ℕ) → kind_of 91 z n ≡ cond (n == 1) (kinds.Sign OpenSquare) kinds.ScalX
unfolding kind_of mark_kind in_class
open_of z n = refl

open_kinds : (r : List ℕ) → slice_index r 0 ≡ 91 → (o : Kind) (m : ℕ) → Spells o r m → (o ≡ kinds.Sign OpenSquare) ⊎ (o ≡ kinds.ScalX)
open_kinds r first o m s = cond_is o _ _ _ (kind_at 91 o r m first s ∙ open_of _ m)

scal_ends : (r : List ℕ) (e m : ℕ) → 1 ≤ e → Run classes.Digit r 1 e
    → (e < length r → in_class classes.Digit (slice_index r e) ≡ false) → Spells kinds.ScalX r m
    → (m ≡ e + 2) × (2 ≤ e) × (slice_index r e ≡ 93) × (slice_index r (e + 1) ≡ 120) × (e + 1 < length r)
scal_ends r e m some run stop s =
    let h = s.spelled in
    let long : m ≡ h.0 + 2 = h.1 in
    let two : 2 ≤ h.0 = h.2 in
    let short : m ≤ length r = s.within in
    let same : h.0 ≡ e = same_stop classes.Digit r 1 e h.0 93 some (omega arith) (omega arith) run stop h.4 h.5 bracket_no_digit in
    (omega arith, omega arith, sym (ap (λ (k : ℕ). slice_index r k) same) ∙ h.5, sym (ap (λ (k : ℕ). slice_index r (k + 1)) same) ∙ h.6, omega arith)

pub scal_longest : (r : List ℕ) (e : ℕ) → slice_index r 0 ≡ 91 → 1 < e → e + 1 < length r → Run classes.Digit r 1 e
    → (e < length r → in_class classes.Digit (slice_index r e) ≡ false) → slice_index r e ≡ 93 → slice_index r (e + 1) ≡ 120 → Longest kinds.ScalX r (e + 2)
scal_longest r e first some inside run stop close x =
    only_kinds kinds.ScalX (kinds.Sign OpenSquare) r (e + 2)
    (record { within = omega arith; spelled = (e, refl, omega arith, first, run, close, x) })
    (λ o m s. elim (open_kinds r first o m s) [ inl i ↦ inr i | inr i ↦ inl i ])
    (λ m s. let h = scal_ends r e m (omega arith) run stop s in let same : m ≡ e + 2 = h.0 in omega arith)
    (λ m s. let one : m ≡ 1 = s.spelled.0 in omega arith)

one_byte : (r text : List ℕ) (n : ℕ) → n ≡ 1 → slice_index r 0 ≡ slice_index text 0 → (i : ℕ) → i < n → slice_index r i ≡ slice_index text i
one_byte r text n one here i below = let none : i ≡ 0 = omega arith in rw none here

pub open_longest : (r : List ℕ) (e : ℕ) → 1 ≤ length r → slice_index r 0 ≡ 91 → 1 ≤ e → Run classes.Digit r 1 e
    → (e < length r → in_class classes.Digit (slice_index r e) ≡ false)
    → (1 < e → e + 1 < length r → slice_index r e ≡ 93 → slice_index r (e + 1) ≡ 120 → ⊥) → Longest (kinds.Sign OpenSquare) r 1
open_longest r e some first from run stop other =
    only_kinds (kinds.Sign OpenSquare) kinds.ScalX r 1
    (record { within = some; spelled = (refl, one_byte r (91 ∷ []) 1 refl first) })
    (open_kinds r first)
    (λ m s. let one : m ≡ 1 = s.spelled.0 in omega arith)
    (λ m s. let h = scal_ends r e m from run stop s in absurd (other h.1 h.4 h.2 h.3))

-- two signs of one first byte

pub pair_longer : (r : List ℕ) (c second : ℕ) (shorter longer : Kind) → Pair c second shorter longer → slice_index r 0 ≡ c
    → 2 ≤ length r → slice_index r 1 ≡ second → Longest longer r 2
pair_longer r c second shorter longer p first some here = record {
  spells = p.long_spelled r some first here;
  longest = λ o m s. elim (p.which r o m first s) [
    | inl e ↦ (let one : m ≡ 1 = e.1 in omega arith)
    | inr e ↦ (let two : m ≡ 2 = e.1 in omega arith)
  ];
}

pub pair_shorter : (r : List ℕ) (c second : ℕ) (shorter longer : Kind) → Pair c second shorter longer → slice_index r 0 ≡ c
    → 1 ≤ length r → (1 < length r → slice_index r 1 ≡ second → ⊥) → Longest shorter r 1
pair_shorter r c second shorter longer p first some other = record {
  spells = p.short_spelled r some first;
  longest = λ o m s. elim (p.which r o m first s) [
    | inl e ↦ (let one : m ≡ 1 = e.1 in omega arith)
    | inr e ↦ (let two : m ≡ 2 = e.1 in let short : m ≤ length r = s.within in absurd (other (omega arith) e.2))
  ];
}

two_bytes : (r text : List ℕ) (n : ℕ) → n ≡ 2 → slice_index r 0 ≡ slice_index text 0 → slice_index r 1 ≡ slice_index text 1
    → (i : ℕ) → i < n → slice_index r i ≡ slice_index text i
two_bytes r text n two here next i below = go (cases_lt 0 i)
  where
    go : (0 < i) ⊎ (i ≤ 0) → slice_index r i ≡ slice_index text i
    go (inl less) = let one : i ≡ 1 = omega arith in rw one next
    go (inr le) = let none : i ≡ 0 = omega arith in rw none here

minus_of : (z n : ℕ) → kind_of 45 z n ≡ cond (n == 1) (kinds.Sign Minus) (kinds.Sign Arrow)
unfolding kind_of mark_kind in_class
minus_of z n = refl

greater_of : (z n : ℕ) → kind_of 62 z n ≡ cond (n == 1) (kinds.Sign CloseAngle) (kinds.Sign AtLeast)
unfolding kind_of mark_kind in_class
greater_of z n = refl

equal_of : (z n : ℕ) → kind_of 61 z n ≡ cond (n == 1) (kinds.Sign Equal) (kinds.Sign EqualEqual)
unfolding kind_of mark_kind in_class
equal_of z n = refl

question_of : (z n : ℕ) → kind_of 63 z n ≡ cond (n == 1) (kinds.Sign Question) kinds.DimX
unfolding kind_of mark_kind in_class
question_of z n = refl

-- the kinds of a pair, where both are known by their spellings
which_of : (c second : ℕ) (shorter longer : Kind)
    → ((z n : ℕ) → kind_of c z n ≡ cond (n == 1) shorter longer)
    → ((r : List ℕ) (n : ℕ) → slice_index r 0 ≡ c → Spelling shorter r n → n ≡ 1)
    → ((r : List ℕ) (n : ℕ) → slice_index r 0 ≡ c → Spelling longer r n → (n ≡ 2) × (slice_index r 1 ≡ second))
    → (r : List ℕ) (o : Kind) (n : ℕ) → slice_index r 0 ≡ c → Spells o r n
    → ((o ≡ shorter) × (n ≡ 1)) ⊎ ((o ≡ longer) × (n ≡ 2) × (slice_index r 1 ≡ second))
which_of c second shorter longer of short long r o n first s =
    elim (cond_is o shorter longer (n == 1) (kind_at c o r n first s ∙ of _ n)) [
      | inl e ↦ inl (e, short r n first (subst (λ (x : Kind). Spelling x r n) e s.spelled))
      | inr e ↦ (let h = long r n first (subst (λ (x : Kind). Spelling x r n) e s.spelled) in inr (e, h.0, h.1))
    ]

second_is : (r : List ℕ) (n c d : ℕ) → (n ≡ 2) × ((i : ℕ) → i < n → slice_index r i ≡ slice_index (c ∷ d ∷ []) i) → (n ≡ 2) × (slice_index r 1 ≡ d)
second_is r n c d h = let two : n ≡ 2 = h.0 in (two, h.1 1 (omega arith))

pub minus_pair : Pair 45 62 (kinds.Sign Minus) (kinds.Sign Arrow)
minus_pair = record {
  which = which_of 45 62 (kinds.Sign Minus) (kinds.Sign Arrow) minus_of (λ r n first h. h.0) (λ r n first h. second_is r n 45 62 h);
  short_spelled = λ r some first. record { within = some; spelled = (refl, one_byte r (45 ∷ []) 1 refl first) };
  long_spelled = λ r some first next. record { within = some; spelled = (refl, two_bytes r (45 ∷ 62 ∷ []) 2 refl first next) };
  short_short = tt;
  short_long = tt;
}

pub greater_pair : Pair 62 61 (kinds.Sign CloseAngle) (kinds.Sign AtLeast)
greater_pair = record {
  which = which_of 62 61 (kinds.Sign CloseAngle) (kinds.Sign AtLeast) greater_of (λ r n first h. h.0) (λ r n first h. second_is r n 62 61 h);
  short_spelled = λ r some first. record { within = some; spelled = (refl, one_byte r (62 ∷ []) 1 refl first) };
  long_spelled = λ r some first next. record { within = some; spelled = (refl, two_bytes r (62 ∷ 61 ∷ []) 2 refl first next) };
  short_short = tt;
  short_long = tt;
}

pub equal_pair : Pair 61 61 (kinds.Sign Equal) (kinds.Sign EqualEqual)
equal_pair = record {
  which = which_of 61 61 (kinds.Sign Equal) (kinds.Sign EqualEqual) equal_of (λ r n first h. h.0) (λ r n first h. second_is r n 61 61 h);
  short_spelled = λ r some first. record { within = some; spelled = (refl, one_byte r (61 ∷ []) 1 refl first) };
  long_spelled = λ r some first next. record { within = some; spelled = (refl, two_bytes r (61 ∷ 61 ∷ []) 2 refl first next) };
  short_short = tt;
  short_long = tt;
}

question_sized : (r : List ℕ) (n : ℕ) → slice_index r 0 ≡ 63 → Sized r n → (n ≡ 2) × (slice_index r 1 ≡ 120)
question_sized r n first (inl h) =
    let some : 1 ≤ h.0 = h.2 in
    both classes.Digit (slice_index r 0) (h.3 0 (omega arith) (omega arith)) (ap (in_class classes.Digit) first ∙ question_no_digit)
question_sized r n first (inr h) = (h.0, h.2)

pub question_pair : Pair 63 120 (kinds.Sign Question) kinds.DimX
question_pair = record {
  which = which_of 63 120 (kinds.Sign Question) kinds.DimX question_of (λ r n first h. h.0) question_sized;
  short_spelled = λ r some first. record { within = some; spelled = (refl, one_byte r (63 ∷ []) 1 refl first) };
  long_spelled = λ r some first next. record { within = some; spelled = inr (refl, first, next) };
  short_short = tt;
  short_long = omega arith;
}

-- signs of one byte that begin nothing else

pub single_of : (z n c : ℕ) (k : Kind) → mark_kind c true ≡ k → mark_kind c false ≡ k → in_class classes.WordStart c ≡ false → in_class classes.Digit c ≡ false → kind_of c z n ≡ k
unfolding kind_of
single_of z n c k one more word digit = rw (word, digit) (go (n == 1))
  where
    go : (b : Bool) → mark_kind c b ≡ k
    go true = one
    go false = more

-- a longest token is the next step, or its digits are too many
pub limited_next : (r : List ℕ) (k : Kind) (n digits from : ℕ) (x : Step) → Longest k r n
    → (38 < digits → x ≡ steps.LongNumber from) → (digits ≤ 38 → x ≡ steps.Token k n)
    → (digits ≤ 38 → IsShort k n) → (38 < digits → IsShort k n → ⊥) → from ≡ digits_from k → Next r x
limited_next r k n digits from x longest long short is not_short begin = elim (cases_lt 38 digits) [
  | inl many ↦ subst (λ (s : Step). Next r s) (sym (long many)) (record { kind = k; size = n; longest = longest; long = not_short many; from = begin })
  | inr few ↦ subst (λ (s : Step). Next r s) (sym (short few)) (longest, is few)
]
