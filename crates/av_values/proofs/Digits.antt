-- The number of digits, digit by digit from the left.
use Rattle.std.proofs.Common.{◌≡◌, ℕ, ◌+◌, ◌-◌, ◌*◌, ◌^◌, ◌<◌, ◌≤◌, lit≤, min, Bool, List, [], ◌∷◌, ◌++◌, length, get_or, take, refl, sym, ap, ◌∙◌, arith}
use Rattle.std.proofs.lemmas.List.{take_more}
use Rattle.std.proofs.lemmas.Bool.Decides.{nat_tests}
use Rattle.std.proofs.lemmas.Int.Digits.{digits_value-lt}
use Rattle.std.proofs.Math.Nat.{pow-le-pow_right}
use Rattle.std.specs.Prelude.{ℤ}
use Rattle.std.specs.Char.{digit_value}
use Rattle.std.specs.Str.Parse.{AllDigits, digits_value, digits_value_after}
use Rattle.av_values.specs.Numbers.{number_after, number_of, signed, spelled_integer}

number-append : (before : ℕ) (digits : List ℕ) (digit : ℕ) → number_after before (digits ++ digit ∷ []) ≡ number_after before digits * 10 + (digit - 48)
unfolding number_after
number-append before [] digit = refl
number-append before (first ∷ digits) digit = number-append (before * 10 + (first - 48)) digits digit

limited : (number digit limit : ℕ) → min (min (min number limit * 10) limit + digit) limit ≡ min (number * 10 + digit) limit
limited number digit limit = omega arith

pub no_digits : (limit : ℕ) → 0 ≡ min (number_of []) limit
unfolding number_after
no_digits limit = omega arith

-- one digit more, where a limit holds at each digit
pub next_digit : (digits : List ℕ) (i value limit : ℕ) → i < length digits → value ≡ min (number_of (take i digits)) limit
    → min (min (value * 10) limit + (get_or digits i 0 - 48)) limit ≡ min (number_of (take (i + 1) digits)) limit
next_digit digits i value limit h e =
    ap (λ v. min (min (v * 10) limit + (get_or digits i 0 - 48)) limit) e
    ∙ limited (number_of (take i digits)) (get_or digits i 0 - 48) limit
    ∙ ap (λ n. min n limit) (sym (ap number_of (take_more digits i 0 h) ∙ number-append 0 (take i digits) (get_or digits i 0)))

-- What std reads as decimal digits has the same number.
digit_is : (c : ℕ) → digit_value c < 10 → digit_value c ≡ c - 48
digit_is c h = grind (arith, nat_tests)

same_number : (before : ℕ) (digits : List ℕ) → AllDigits 10 digits → number_after before digits ≡ digits_value_after 10 before digits
unfolding number_after
same_number before [] h = refl
same_number before (c ∷ digits) h =
    ap (λ d. number_after (before * 10 + d) digits) (sym (digit_is c h.0)) ∙ same_number (before * 10 + digit_value c) digits h.1

few : (n k : ℕ) → n < 10 ^ k → k ≤ 38 → n < 10 ^ 38
few n k h l = let p : 10 ^ k ≤ 10 ^ 38 = pow-le-pow_right (lit≤ tt) l in omega arith

-- the number of 38 digits is below both limits
few_digits : (digits : List ℕ) → AllDigits 10 digits → length digits ≤ 38 → digits_value 10 digits < 10 ^ 38
few_digits digits h l = few (digits_value 10 digits) (length digits) (digits_value-lt 10 digits h) l

below : (n m most limit : ℕ) → n ≡ min m limit → m ≡ most → most < 10 ^ 38 → 10 ^ 38 ≤ limit → n ≡ most
below n m most limit e f g h = omega arith

pub plain_number : (digits : List ℕ) (n limit : ℕ) → n ≡ min (number_of digits) limit → 10 ^ 38 ≤ limit → AllDigits 10 digits → length digits ≤ 38 → n ≡ digits_value 10 digits
plain_number digits n limit e most h l = below n (number_of digits) (digits_value 10 digits) limit e (same_number 0 digits h) (few_digits digits h l) most

pub plain_integer : (digits : List ℕ) (negative : Bool) (z : ℤ) → z ≡ spelled_integer digits negative → AllDigits 10 digits → length digits ≤ 38 → z ≡ signed negative (digits_value 10 digits)
plain_integer digits negative z e h l = e ∙ ap (signed negative) (plain_number digits (min (number_of digits) (2 ^ 127 - 1)) (2 ^ 127 - 1) refl (lit≤ tt) h l)
