-- What follows where all rules hold, and tests of numbers.
use Rattle.std.proofs.Common.{◌≡◌, ◌∙◌, ℕ, ◌<◌, ◌^◌, arith, Bool, true, false, cond, List, [], ◌∷◌, Some, None, length, refl, ap}
use Rattle.std.specs.Prelude.{ℤ, pos, negsuc, neg_ℤ, ◌%◌, ◌≤ℤ◌, ◌<ℤ◌, int_le, int_lt, not, ◌&&◌, ◌==◌, nat_le, T, find, if◌then◌else◌}
use Rattle.std.specs.Option.{option_map}
use Rattle.std.proofs.lemmas.Bool.{ne_eqb, le-leb, lt-ltb}
use Rattle.std.proofs.lemmas.Int.{ints}
use Rattle.av_bits.specs.declared.types.Width.TheVariants.{W32}
use Rattle.av_bits.specs.Pattern.{pattern_of, signed_value}
use Rattle.av_bits.proofs.Values.{value_in_range, pattern_of-signed_value}
use Rattle.av_totree.specs.Constants.{signed_low}
use Rattle.av_verify.specs.Parts.{Rule}
use Rattle.av_verify.specs.Arith.{fits}
use Rattle.av_verify.specs.Codes.{first_failing}
use Rattle.av_verify.specs.Elaboration.{Outcome, checked}
use Rattle.av_verify.specs.Entries.{small_number}

-- ---- rules
abbrev pub AllHold : List Rule → Type 0
AllHold [] = Unit {0}
AllHold (rule ∷ rules) = (rule.holds ≡ true) × AllHold rules

none_fails : (rules : List Rule) → AllHold rules → first_failing rules ≡ None
none_fails [] h = refl
none_fails (rule ∷ rules) h =
    ap (λ b. option_map (λ (r : Rule). r.code) (cond (not b) (Some rule) (find (λ (r : Rule). not r.holds) rules))) h.0 ∙ none_fails rules h.1

pub all_checked : {A : Type 0} (number : ℕ) (rules : List Rule) (outcome : Outcome A) → AllHold rules → checked number (first_failing rules) outcome ≡ outcome
all_checked number rules outcome h = ap (λ failing. checked number failing outcome) (none_fails rules h)

-- ---- tests
pub both_true : (a b : Bool) → a ≡ true → b ≡ true → a && b ≡ true
both_true a b h k = ap (λ x. x && b) h ∙ k

pub some_there : {A : Type 0} (x : A) (xs : List A) → not (length (x ∷ xs) == 0) ≡ true
some_there x xs = ap not (ne_eqb (length (x ∷ xs)) 0 (λ e. omega (arith, e)))

pub two_there : {A : Type 0} (x y : A) (xs : List A) → nat_le 2 (length (x ∷ y ∷ xs)) ≡ true
two_there x y xs = le-leb 2 (length (x ∷ y ∷ xs)) (omega arith)

is_true : (b : Bool) → T b → b ≡ true
is_true true h = refl
is_true false h = absurd h

pub true_le : (x y : ℤ) → x ≤ℤ y → int_le x y ≡ true
true_le x y h = is_true (int_le x y) h.le

pub true_lt : (x y : ℤ) → x <ℤ y → int_lt x y ≡ true
true_lt (pos a) (pos b) h = lt-ltb a b (omega (arith, ints, h))
true_lt (pos a) (negsuc b) h = absurd (omega (arith, ints, h))
true_lt (negsuc a) (pos b) h = refl
true_lt (negsuc a) (negsuc b) h = lt-ltb b a (omega (arith, ints, h))

-- ---- numbers
pub small_mark : (n : ℕ) → n < 2 ^ 64 → small_number (pos n) ≡ Some n
small_mark n h =
    ap (λ b. if b then Some n else None)
    (both_true (int_le (pos 0) (pos n)) (int_lt (pos n) (pos (2 ^ 64))) (true_le (pos 0) (pos n) (omega (arith, ints))) (true_lt (pos n) (pos (2 ^ 64)) (omega (arith, ints))))

module _ (p : ℕ) (below : p < 2 ^ 32) where
  low_is : p % 2 ^ 32 ≡ p
  low_is = omega arith

  low_value : signed_low W32 p ≡ signed_value 32 p
  low_value = ap (signed_value 32) low_is

  pub pattern_fits : fits W32 (signed_low W32 p) ≡ true
  pattern_fits =
      let range = value_in_range W32 p below in
      ap (fits W32) low_value
      ∙ both_true (int_le (neg_ℤ (pos (2 ^ 31))) (signed_value 32 p)) (int_lt (signed_value 32 p) (pos (2 ^ 32)))
      (true_le (neg_ℤ (pos (2 ^ 31))) (signed_value 32 p) range.0)
      (true_lt (signed_value 32 p) (pos (2 ^ 32)) (omega (arith, ints, range.1)))

  pub pattern_again : pattern_of 32 (signed_low W32 p) ≡ p
  pattern_again = ap (pattern_of 32) low_value ∙ pattern_of-signed_value W32 p below
