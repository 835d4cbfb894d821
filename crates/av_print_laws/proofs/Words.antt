-- Words of the format, numbers and sizes are words.
use Rattle.std.proofs.Common.{◌≡◌, ℕ, zero, suc, ◌+◌, ◌<◌, ◌≤◌, ◌^◌, ◌&&◌, inl, inr, List, [], ◌∷◌, ◌++◌, Bool, length, true, false, refl, ◌∙◌, ap, arith, append_assoc, codes}
use Rattle.std.specs.Prelude.{slice_index, decimal}
use Rattle.std.specs.List.{list_all}
use Rattle.std.proofs.lemmas.Bool.{cases_lt, false≢true}
use Rattle.std.proofs.lemmas.Bool.Decides.{nat_tests}
use Rattle.std.proofs.lemmas.List.{length-append, get_or-append-add}
use Rattle.std.proofs.lemmas.Fmt.{decimal_by_steps_wide, length-decimal-le_wide}
use Rattle.av_lex.specs.declared.token.Kind.TheVariants as kinds
use Rattle.av_lex.specs.declared.class.Class.TheVariants as classes
use Rattle.av_lex.specs.Bytes.{in_class, Run}
use Rattle.av_derive.specs.ClassOf.{spells_word}
use Rattle.av_printer.specs.Pieces.{spelt, token}
use Rattle.av_print_laws.specs.Spacing.{goes_on_as_size, IsWord}
use Rattle.av_print_laws.specs.ReadTypes.{IsShortNumber}
use Rattle.av_print_laws.proofs.Longest.{next, run_front, size_stops}
use Rattle.av_print_laws.proofs.Parts.{Opens}

-- ---- words
both_true : (a b : Bool) → a && b ≡ true → (a ≡ true) × (b ≡ true)
both_true true b h = (refl, h)
both_true false b h = absurd (false≢true h)

all_words : (cs : List ℕ) → list_all (in_class classes.Word) cs ≡ true → (i : ℕ) → i < length cs → in_class classes.Word (slice_index cs i) ≡ true
all_words [] h i below = absurd (omega arith)
all_words (c ∷ cs) h zero below = (both_true _ _ h).0
all_words (c ∷ cs) h (suc i) below = all_words cs (both_true _ _ h).1 i (omega arith)

behind_first : (c : ℕ) (cs : List ℕ) → list_all (in_class classes.Word) cs ≡ true → Run classes.Word (c ∷ cs) 1 (length (c ∷ cs))
behind_first c cs h zero from below = absurd (omega arith)
behind_first c cs h (suc i) from below = all_words cs h i (omega arith)

pub is_word : (text : List ℕ) → spells_word text ≡ true → IsWord kinds.Word text
is_word [] h = absurd (false≢true h)
is_word (c ∷ cs) h = record {
  spells = record {
    within = omega arith;
    spelled = (omega arith, (both_true _ _ h).0, behind_first c cs (both_true _ _ h).1);
  };
  short = tt;
}

pub memref_word : IsWord kinds.Word (codes "memref")
unfolding in_class
memref_word = is_word (codes "memref") refl

pub vector_word : IsWord kinds.Word (codes "vector")
unfolding in_class
vector_word = is_word (codes "vector") refl

pub strided_word : IsWord kinds.Word (codes "strided")
unfolding in_class
strided_word = is_word (codes "strided") refl

pub offset_word : IsWord kinds.Word (codes "offset")
unfolding in_class
offset_word = is_word (codes "offset") refl

-- ---- numbers
abbrev Digits : List ℕ → Type 0
Digits ds = (1 ≤ length ds) × Run classes.Digit ds 0 (length ds)

digit_is : (d : ℕ) → d < 10 → in_class classes.Digit (48 + d) ≡ true
unfolding in_class
digit_is d h = grind (arith, nat_tests)

digit_push : (ds : List ℕ) (c : ℕ) → in_class classes.Digit c ≡ true → Run classes.Digit ds 0 (length ds)
    → Run classes.Digit (ds ++ c ∷ []) 0 (length (ds ++ c ∷ []))
digit_push ds c h run i from below = elim (cases_lt i (length ds)) [
  | inl less ↦ run_front classes.Digit ds (c ∷ []) 0 (length ds) (omega arith) run i from less
  | inr le ↦
      (let same : i ≡ length ds = omega (arith, length-append ds (c ∷ [])) in
      ap (λ (k : ℕ). in_class classes.Digit (slice_index (ds ++ c ∷ []) k)) same ∙ ap (in_class classes.Digit) (next ds (c ∷ [])) ∙ h)
]

one_digit : (n : ℕ) → n < 10 → Digits ((48 + n) ∷ [])
one_digit n h = (omega arith, digit_push [] (48 + n) (digit_is n h) (λ i from below. absurd (omega arith)))

digits_more : (n : ℕ) (ds : List ℕ) → n < 10 → Digits ds → Digits (ds ++ (48 + n) ∷ [])
digits_more n ds h d =
    let long = length-append ds ((48 + n) ∷ []) in
    (omega arith, digit_push ds (48 + n) (digit_is n h) d.1)

wide : (n : ℕ) → IsShortNumber n → n < 10 ^ 64
wide n h = omega arith

decimal_digits : (n : ℕ) → IsShortNumber n → Digits (decimal n)
decimal_digits n h =
    decimal_by_steps_wide (λ m ds. Digits ds) one_digit (λ m ds many d. digits_more _ ds (omega arith) d) n (wide n h)

decimal_short : (n : ℕ) → IsShortNumber n → length (decimal n) ≤ 38
decimal_short n h = length-decimal-le_wide 38 n (omega arith) h (wide n h)

pub number_word : (n : ℕ) → IsShortNumber n → IsWord kinds.Number (decimal n)
number_word n h = record {
  spells = record { within = omega arith; spelled = decimal_digits n h };
  short = decimal_short n h;
}

size_of : (ds : List ℕ) → Digits ds → length ds ≤ 38 → IsWord kinds.DimX (ds ++ 120 ∷ [])
size_of ds d short =
    let long = length-append ds (120 ∷ []) in
    record {
      spells = record {
        within = omega arith;
        spelled = inl (length ds, long, d.0, run_front classes.Digit ds (120 ∷ []) 0 (length ds) (omega arith) d.1, next ds (120 ∷ []));
      };
      short = omega arith;
    }

pub size_word : (n : ℕ) → IsShortNumber n → IsWord kinds.DimX (decimal n ++ codes "x")
size_word n h = size_of (decimal n) (decimal_digits n h) (decimal_short n h)

pub any_size_word : IsWord kinds.DimX (codes "?x")
any_size_word = record { spells = record { within = omega arith; spelled = inr (refl, refl, refl) }; short = omega arith }

behind_mark : (c : ℕ) (ds : List ℕ) → Run classes.Digit ds 0 (length ds) → Run classes.Digit (c ∷ ds) 1 (length (c ∷ ds))
behind_mark c ds run zero from below = absurd (omega arith)
behind_mark c ds run (suc i) from below = run i (omega arith) (omega arith)

scale_of : (ds : List ℕ) → Digits ds → length ds ≤ 38 → IsWord kinds.ScalX ((91 ∷ ds) ++ 93 ∷ 120 ∷ [])
scale_of ds d short =
    let some : 1 ≤ length ds = d.0 in
    let long = length-append (91 ∷ ds) (93 ∷ 120 ∷ []) in
    record {
      spells = record {
        within = omega arith;
        spelled = (
          length (91 ∷ ds),
          long,
          omega arith,
          refl,
          run_front classes.Digit (91 ∷ ds) (93 ∷ 120 ∷ []) 1 (length (91 ∷ ds)) (omega arith) (behind_mark 91 ds d.1),
          next (91 ∷ ds) (93 ∷ 120 ∷ []),
          get_or-append-add (91 ∷ ds) (93 ∷ 120 ∷ []) 1 0,
        );
      };
      short = omega arith;
    }

pub scale_word : (n : ℕ) → IsShortNumber n → IsWord kinds.ScalX (codes "[" ++ decimal n ++ codes "]x")
scale_word n h = scale_of (decimal n) (decimal_digits n h) (decimal_short n h)

-- digits behind a `[`
digits_open : (ds rest : List ℕ) → Run classes.Digit ds 0 (length ds) → goes_on_as_size (ds ++ rest) ≡ goes_on_as_size rest
digits_open [] rest run = refl
digits_open (d ∷ ds) rest run =
    size_stops d (ds ++ rest) (run 0 (omega arith) (omega arith)) ∙ digits_open ds rest (λ i from below. run (suc i) (omega arith) (omega arith))

pub opens-number : (n : ℕ) → IsShortNumber n → Opens (token kinds.Number (decimal n))
unfolding spelt token
opens-number n h rest a =
    ap goes_on_as_size (append_assoc (decimal n) [] rest) ∙ digits_open (decimal n) rest (decimal_digits n h).1 ∙ a
