-- The numbers that decimal digits are read as.
use Rattle.std.proofs.Common.{◌≡◌, ℕ, suc, ◌+◌, ◌-◌, ◌*◌, ◌^◌, ◌<◌, ◌≤◌, min, List, [], ◌∷◌, ◌++◌, length, refl, ap, ◌∙◌, arith}
use Rattle.std.specs.Prelude.{◌/◌, ◌%◌, pos, negsuc, false, true, decimal, codes, if◌then◌else◌, ◌==◌, Bool, neg_ℤ}
use Rattle.std.proofs.lemmas.Fmt.{decimal_by_steps_wide}
use Rattle.std.proofs.lemmas.List.{take_at, length-append}
use Rattle.std.proofs.lemmas.Bool.Decides.{nat_tests}
use Rattle.av_tree.specs.declared.written.DimText.TheVariants as dim
use Rattle.av_tree.specs.declared.written.SizeText.TheVariants as size
use Rattle.av_values.specs.Numbers.{number_after, number_of, spelled_number, spelled_integer}
use Rattle.av_values.specs.Spellings.{is_dynamic, before_x, size_of, dim_of, scalable_of}

number-append : (before : ℕ) (digits : List ℕ) (digit : ℕ) → number_after before (digits ++ digit ∷ []) ≡ number_after before digits * 10 + (digit - 48)
unfolding number_after
number-append before [] digit = refl
number-append before (first ∷ digits) digit = number-append (before * 10 + (first - 48)) digits digit

one : (n : ℕ) → n < 10 → number_of ((48 + n) ∷ []) ≡ n
unfolding number_after
one n h = omega arith

more : (n : ℕ) (ds : List ℕ) → 10 ≤ n → number_of ds ≡ n / 10 → number_of (ds ++ (48 + n % 10) ∷ []) ≡ n
more n ds many is =
    let split = number-append 0 ds (48 + n % 10) in
    split ∙ ap (λ k. k * 10 + (48 + n % 10 - 48)) is ∙ omega arith

pub number-decimal : (n : ℕ) → n < 10 ^ 64 → number_of (decimal n) ≡ n
number-decimal n h = decimal_by_steps_wide (λ m ds. number_of ds ≡ m) one more n h

pub spelled-decimal : (n : ℕ) → n < 2 ^ 127 → spelled_number (decimal n) ≡ n
spelled-decimal n h =
    let is : number_of (decimal n) ≡ n = number-decimal n (omega arith) in
    ap (λ k. min k (2 ^ 128 - 1)) is ∙ omega arith

at_most : (n : ℕ) → n < 2 ^ 127 → min (number_of (decimal n)) (2 ^ 127 - 1) ≡ n
at_most n h =
    let is : number_of (decimal n) ≡ n = number-decimal n (omega arith) in
    ap (λ k. min k (2 ^ 127 - 1)) is ∙ omega arith

pub integer-positive : (n : ℕ) → n < 2 ^ 127 → spelled_integer (decimal n) false ≡ pos n
integer-positive n h = ap pos (at_most n h)

pub integer-negative : (n : ℕ) → suc n < 2 ^ 127 → spelled_integer (decimal (suc n)) true ≡ negsuc n
integer-negative n h = ap (λ k. neg_ℤ (pos k)) (at_most (suc n) h)

-- ---- sizes
-- the first byte is no `?`
record Begins (ds : List ℕ) : Type 0 where
  first : ℕ
  bytes : List ℕ
  is : ds ≡ first ∷ bytes
  other : (first == 63) ≡ false

no_mark : (n : ℕ) → n < 10 → ((48 + n) == 63) ≡ false
no_mark n h = grind (arith, nat_tests)

begins_one : (n : ℕ) → n < 10 → Begins ((48 + n) ∷ [])
begins_one n h = record { first = 48 + n; bytes = []; is = refl; other = no_mark n h }

begins_more : (n : ℕ) (ds : List ℕ) → 10 ≤ n → Begins ds → Begins (ds ++ (48 + n % 10) ∷ [])
begins_more n ds many b = record {
  first = b.first;
  bytes = b.bytes ++ (48 + n % 10) ∷ [];
  is = ap (λ l. l ++ (48 + n % 10) ∷ []) b.is;
  other = b.other;
}

-- what stands before the `x`
before-x : (digits : List ℕ) → before_x (digits ++ codes "x") ≡ digits
before-x digits =
    let short : ℕ = length (digits ++ codes "x") - 1 in
    take_at digits (codes "x") short (omega (arith, length-append digits (codes "x")))

begins-decimal : (n : ℕ) → n < 2 ^ 127 → Begins (decimal n)
begins-decimal n h = decimal_by_steps_wide (λ m ds. Begins ds) begins_one begins_more n (omega arith)

-- a decimal number with an `x` behind it isn't `?x`
static : {A : Type 0} (n : ℕ) → n < 2 ^ 127 → (dynamic : A) (fixed : ℕ → A)
    → (if is_dynamic (decimal n ++ codes "x") then dynamic else fixed (spelled_number (before_x (decimal n ++ codes "x")))) ≡ fixed n
static {A} n h dynamic fixed =
    let b : Begins (decimal n) = begins-decimal n h in
    let one : A = fixed (spelled_number (before_x (decimal n ++ codes "x"))) in
    ap (λ ds. if is_dynamic (ds ++ codes "x") then dynamic else one) b.is ∙ ap (λ (c : Bool). if c then dynamic else one) b.other
    ∙ ap (λ ds. fixed (spelled_number ds)) (before-x (decimal n)) ∙ ap fixed (spelled-decimal n h)

pub size-decimal : (n : ℕ) → n < 2 ^ 127 → size_of (decimal n ++ codes "x") ≡ size.Fixed n
size-decimal n h = static n h size.Dynamic size.Fixed

pub dim-decimal : (n : ℕ) → n < 2 ^ 127 → dim_of (decimal n ++ codes "x") ≡ dim.Fixed n
dim-decimal n h = static n h dim.Dynamic dim.Fixed

pub scale-decimal : (n : ℕ) → n < 2 ^ 127 → scalable_of (codes "[" ++ decimal n ++ codes "]x") ≡ dim.Scalable n
scale-decimal n h =
    let short : ℕ = length (decimal n ++ codes "]x") - 2 in
    let long : length (decimal n) ≡ short = omega (arith, length-append (decimal n) (codes "]x")) in
    ap (λ ds. dim.Scalable (spelled_number ds)) (take_at (decimal n) (codes "]x") short long) ∙ ap dim.Scalable (spelled-decimal n h)
