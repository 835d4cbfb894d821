-- The kinds combine patterns in any order and grouping, and have neutral elements.
use Rattle.std.proofs.Common.{◌≡◌, ℕ, ◌+◌, ◌-◌, ◌*◌, ◌%◌, ◌^◌, ◌<◌, ◌⊎◌, inl, inr, min, max, refl, sym, ◌∙◌, ap, arith, Bool, true, false, add_comm}
use Rattle.std.specs.Prelude.{ℤ, pos, neg_ℤ, ◌<ℤ◌, ◌≤ℤ◌, int_lt, if◌then◌else◌, bit_and, bit_or, bit_xor}
use Rattle.std.specs.Int.{bit_at}
use Rattle.std.specs.Int.Bits.{or_zero_l, xor_zero_l, xor_assoc}
use Rattle.std.proofs.Math.Nat.{mod-eq_of_lt, mod-add-mod, add-mod-mod, mul_comm, mul_assoc}
use Rattle.std.proofs.lemmas.Bool.{cases_Bool, cond_both}
use Rattle.std.proofs.lemmas.Nat.{mod_below, pow_pos, and_le_l, and_comm, and_assoc, and_mask, or_lt, or_comm, xor_lt, xor_comm, mul-mod_first, mul-mod_second}
use Rattle.std.proofs.lemmas.Nat.Bits.{bit_at_or, same_from_bits}
use Rattle.std.proofs.lemmas.Int.{ints}
use Rattle.av_bits.specs.declared.types.Width.{Width}
use Rattle.av_bits.specs.declared.types.Kind9.TheVariants.{Add, Mul, And, Or, Xor, Minsi, Minui, Maxsi, Maxui}
use Rattle.av_bits.specs.Pattern.{bits_of, IsPattern, pattern_of}
use Rattle.av_bits.specs.Laws.{value_of, KindLaw}
use Rattle.av_bits.proofs.Values.{halves, signed_value-low, value_in_range, pattern_of-signed_value}
use Rattle.av_bits.proofs.DivisionLaws.{value-least}

or_assoc : (a b c : ℕ) → bit_or (bit_or a b) c ≡ bit_or a (bit_or b c)
or_assoc a b c = same_from_bits _ _ (λ i.
    bit_at_or (bit_or a b) c i
    ∙ ap (λ x. max x (bit_at c i)) (bit_at_or a b i)
    ∙ greatest (bit_at a i) (bit_at b i) (bit_at c i)
    ∙ ap (λ x. max (bit_at a i) x) (sym (bit_at_or b c i))
    ∙ sym (bit_at_or a (bit_or b c) i))
  where
    greatest : (x y z : ℕ) → max (max x y) z ≡ max x (max y z)
    greatest x y z = omega arith

-- ---- the least of two by an order that is a test

abbrev least : (ℕ → ℕ → Bool) → ℕ → ℕ → ℕ
least lt a b = if lt b a then b else a

record IsOrder (lt : ℕ → ℕ → Bool) : Type 0 where
  through : (a b c : ℕ) → lt c b ≡ true → lt b a ≡ true → lt c a ≡ true
  against : (a b c : ℕ) → lt b a ≡ false → lt c b ≡ false → lt c a ≡ false

least_assoc : (lt : ℕ → ℕ → Bool) → IsOrder lt → (a b c : ℕ) → least lt (least lt a b) c ≡ least lt a (least lt b c)
least_assoc lt o a b c = by_tests (cases_Bool (lt b a)) (cases_Bool (lt c b))
  where
    by_tests : (lt b a ≡ true) ⊎ (lt b a ≡ false) → (lt c b ≡ true) ⊎ (lt c b ≡ false) → least lt (least lt a b) c ≡ least lt a (least lt b c)
    by_tests (inl s) (inl t) = let u : lt c a ≡ true = o.through a b c t s in rw (s, t, u) refl
    by_tests (inl s) (inr t) = rw (s, t, s) refl
    by_tests (inr s) (inl t) = rw (s, t) refl
    by_tests (inr s) (inr t) = let u : lt c a ≡ false = o.against a b c s t in rw (s, t, s, u) refl

int_lt-true : (x y : ℤ) → int_lt x y ≡ true → x <ℤ y
int_lt-true x y e = omega (arith, ints)

int_lt-false : (x y : ℤ) → int_lt x y ≡ false → y ≤ℤ x
int_lt-false x y e = omega (arith, ints)

lt-int_lt : (x y : ℤ) → x <ℤ y → int_lt x y ≡ true
lt-int_lt x y l = grind (arith, ints)

le-int_lt : (x y : ℤ) → y ≤ℤ x → int_lt x y ≡ false
le-int_lt x y l = grind (arith, ints)

least_comm : (lt : ℕ → ℕ → Bool) (a b : ℕ) → (lt b a ≡ true → lt a b ≡ true → ⊥) → (lt b a ≡ false → lt a b ≡ false → a ≡ b) → least lt a b ≡ least lt b a
least_comm lt a b both neither = by_tests (cases_Bool (lt b a)) (cases_Bool (lt a b))
  where
    by_tests : (lt b a ≡ true) ⊎ (lt b a ≡ false) → (lt a b ≡ true) ⊎ (lt a b ≡ false) → least lt a b ≡ least lt b a
    by_tests (inl s) (inl t) = absurd (both s t)
    by_tests (inl s) (inr t) = rw (s, t) refl
    by_tests (inr s) (inl t) = rw (s, t) refl
    by_tests (inr s) (inr t) = rw (s, t) (neither s t)

least_neutral : (lt : ℕ → ℕ → Bool) (n a : ℕ) → (lt a n ≡ false → n ≡ a) → least lt n a ≡ a
least_neutral lt n a same = by_tests (cases_Bool (lt a n))
  where
    by_tests : (lt a n ≡ true) ⊎ (lt a n ≡ false) → least lt n a ≡ a
    by_tests (inl s) = rw s refl
    by_tests (inr s) = rw s (same s)

IsPattern-least : (lt : ℕ → ℕ → Bool) (w : Width) (a b : ℕ) → IsPattern w a → IsPattern w b → IsPattern w (least lt a b)
IsPattern-least lt w a b pa pb = cond_both (lt b a) b a (λ x. IsPattern w x) (λ _. pb) (λ _. pa)

-- ---- signed values

abbrev below_signed : Width → ℕ → ℕ → Bool
below_signed w b a = int_lt (value_of w b) (value_of w a)

abbrev above_signed : Width → ℕ → ℕ → Bool
above_signed w b a = int_lt (value_of w a) (value_of w b)

int_order : (x y z : ℤ) → (int_lt z y ≡ true → int_lt y x ≡ true → int_lt z x ≡ true) × (int_lt y x ≡ false → int_lt z y ≡ false → int_lt z x ≡ false)
int_order x y z = (
  λ s t. lt-int_lt z x (omega (arith, ints, int_lt-true z y s, int_lt-true y x t)),
  λ s t. le-int_lt z x (omega (arith, ints, int_lt-false y x s, int_lt-false z y t)),
)

IsOrder-below : (w : Width) → IsOrder (below_signed w)
IsOrder-below w = record {
  through = λ a b c. (int_order (value_of w a) (value_of w b) (value_of w c)).0;
  against = λ a b c. (int_order (value_of w a) (value_of w b) (value_of w c)).1;
}

IsOrder-above : (w : Width) → IsOrder (above_signed w)
IsOrder-above w = record {
  through = λ a b c s t. (int_order (value_of w c) (value_of w b) (value_of w a)).0 t s;
  against = λ a b c s t. (int_order (value_of w c) (value_of w b) (value_of w a)).1 t s;
}

same_from_values : (w : Width) (a b : ℕ) → IsPattern w a → IsPattern w b → value_of w a ≡ value_of w b → a ≡ b
same_from_values w a b pa pb e =
    sym (pattern_of-signed_value w a pa) ∙ ap (pattern_of (bits_of w)) e ∙ pattern_of-signed_value w b pb

int_not_both : (x y : ℤ) → int_lt x y ≡ true → int_lt y x ≡ true → ⊥
int_not_both x y s t = absurd (omega (arith, ints, int_lt-true x y s, int_lt-true y x t))

int_neither : (x y : ℤ) → int_lt x y ≡ false → int_lt y x ≡ false → x ≡ y
int_neither x y s t = omega (arith, ints, int_lt-false x y s, int_lt-false y x t)

value-greatest : (w : Width) → value_of w (2 ^ (bits_of w - 1) - 1) ≡ pos (2 ^ (bits_of w - 1) - 1)
value-greatest w = signed_value-low (bits_of w) (2 ^ (bits_of w - 1) - 1) (omega (arith, pow_pos (bits_of w - 1)))

greatest_or_below : (x n : ℤ) (h : ℕ) → 0 < h → n ≡ pos (h - 1) → x <ℤ pos h → int_lt x n ≡ false → n ≡ x
greatest_or_below x n h p e l s = omega (arith, ints, int_lt-false x n s)

least_or_above : (x n : ℤ) (h : ℕ) → n ≡ neg_ℤ (pos h) → neg_ℤ (pos h) ≤ℤ x → int_lt n x ≡ false → n ≡ x
least_or_above x n h e l s = omega (arith, ints, int_lt-false n x s)

-- ---- each kind

abbrev Combines : (ℕ → ℕ → ℕ) → ℕ → Width → ℕ → ℕ → ℕ → Type 0
Combines f n w a b c =
    IsPattern w (f a b) × (f a b ≡ f b a) × (f (f a b) c ≡ f a (f b c)) × (f n a ≡ a)

combines_sum : (w : Width) (a b c : ℕ) → IsPattern w a → IsPattern w b → IsPattern w c → Combines (λ x y. (x + y) % 2 ^ bits_of w) 0 w a b c
combines_sum w a b c pa pb pc =
    let m : ℕ = 2 ^ bits_of w in (
      mod_below (a + b) m (pow_pos (bits_of w)),
      ap (λ x. x % m) (add_comm a b),
      mod-add-mod (a + b) m c ∙ ap (λ x. x % m) (regroup a b c) ∙ sym (add-mod-mod a (b + c) m),
      ap (λ x. x % m) (plain a) ∙ mod-eq_of_lt pa,
    )
  where
    regroup : (a b c : ℕ) → a + b + c ≡ a + (b + c)
    regroup a b c = omega arith

    plain : (a : ℕ) → 0 + a ≡ a
    plain a = omega arith

combines_product : (w : Width) (a b c : ℕ) → IsPattern w a → IsPattern w b → IsPattern w c → Combines (λ x y. (x * y) % 2 ^ bits_of w) 1 w a b c
combines_product w a b c pa pb pc =
    let m : ℕ = 2 ^ bits_of w in (
      mod_below (a * b) m (pow_pos (bits_of w)),
      ap (λ x. x % m) (mul_comm a b),
      mul-mod_first (a * b) c m ∙ ap (λ x. x % m) (mul_assoc a b c) ∙ sym (mul-mod_second a (b * c) m),
      ap (λ x. x % m) (plain a) ∙ mod-eq_of_lt pa,
    )
  where
    plain : (a : ℕ) → 1 * a ≡ a
    plain a = omega arith

combines_and : (w : Width) (a b c : ℕ) → IsPattern w a → IsPattern w b → IsPattern w c → Combines bit_and (2 ^ bits_of w - 1) w a b c
combines_and w a b c pa pb pc = (
  omega (arith, and_le_l a b),
  and_comm a b,
  and_assoc c a b,
  and_comm (2 ^ bits_of w - 1) a ∙ and_mask a (bits_of w) ∙ mod-eq_of_lt pa,
)

combines_or : (w : Width) (a b c : ℕ) → IsPattern w a → IsPattern w b → IsPattern w c → Combines bit_or 0 w a b c
combines_or w a b c pa pb pc = (or_lt (bits_of w) a b pa pb, or_comm a b, or_assoc a b c, or_zero_l a)

combines_xor : (w : Width) (a b c : ℕ) → IsPattern w a → IsPattern w b → IsPattern w c → Combines bit_xor 0 w a b c
combines_xor w a b c pa pb pc = (xor_lt (bits_of w) a b pa pb, xor_comm a b, xor_assoc a b c, xor_zero_l a)

combines_min : (w : Width) (a b c : ℕ) → IsPattern w a → IsPattern w b → IsPattern w c → Combines min (2 ^ bits_of w - 1) w a b c
combines_min w a b c pa pb pc = (omega arith, omega arith, omega arith, omega arith)

combines_max : (w : Width) (a b c : ℕ) → IsPattern w a → IsPattern w b → IsPattern w c → Combines max 0 w a b c
combines_max w a b c pa pb pc = (omega arith, omega arith, omega arith, omega arith)

combines_min_signed : (w : Width) (a b c : ℕ) → IsPattern w a → IsPattern w b → IsPattern w c
    → Combines (least (below_signed w)) (2 ^ (bits_of w - 1) - 1) w a b c
combines_min_signed w a b c pa pb pc =
    let h : ℕ = 2 ^ (bits_of w - 1) in (
      IsPattern-least (below_signed w) w a b pa pb,
      least_comm (below_signed w) a b
          (int_not_both (value_of w b) (value_of w a))
          (λ s t. sym (same_from_values w b a pb pa (int_neither (value_of w b) (value_of w a) s t))),
      least_assoc (below_signed w) (IsOrder-below w) a b c,
      least_neutral (below_signed w) (h - 1) a
          (λ s. same_from_values w (h - 1) a (omega (arith, halves w, pow_pos (bits_of w - 1))) pa
          (greatest_or_below (value_of w a) (value_of w (h - 1)) h (pow_pos (bits_of w - 1)) (value-greatest w) (value_in_range w a pa).1 s)),
    )

combines_max_signed : (w : Width) (a b c : ℕ) → IsPattern w a → IsPattern w b → IsPattern w c
    → Combines (least (above_signed w)) (2 ^ (bits_of w - 1)) w a b c
combines_max_signed w a b c pa pb pc =
    let h : ℕ = 2 ^ (bits_of w - 1) in (
      IsPattern-least (above_signed w) w a b pa pb,
      least_comm (above_signed w) a b
          (int_not_both (value_of w a) (value_of w b))
          (λ s t. same_from_values w a b pa pb (int_neither (value_of w a) (value_of w b) s t)),
      least_assoc (above_signed w) (IsOrder-above w) a b c,
      least_neutral (above_signed w) h a
          (λ s. same_from_values w h a (omega (arith, halves w, pow_pos (bits_of w - 1))) pa
          (least_or_above (value_of w a) (value_of w h) h (value-least w) (value_in_range w a pa).0 s)),
    )

pub kinds_combine : KindLaw
kinds_combine Add w a b c pa pb pc = let l = combines_sum w a b c pa pb pc in (refl, l.0, l.1, l.2, l.3)
kinds_combine Mul w a b c pa pb pc = let l = combines_product w a b c pa pb pc in (refl, l.0, l.1, l.2, l.3)
kinds_combine And w a b c pa pb pc = let l = combines_and w a b c pa pb pc in (refl, l.0, l.1, l.2, l.3)
kinds_combine Or w a b c pa pb pc = let l = combines_or w a b c pa pb pc in (refl, l.0, l.1, l.2, l.3)
kinds_combine Xor w a b c pa pb pc = let l = combines_xor w a b c pa pb pc in (refl, l.0, l.1, l.2, l.3)
kinds_combine Minsi w a b c pa pb pc = let l = combines_min_signed w a b c pa pb pc in (refl, l.0, l.1, l.2, l.3)
kinds_combine Minui w a b c pa pb pc = let l = combines_min w a b c pa pb pc in (refl, l.0, l.1, l.2, l.3)
kinds_combine Maxsi w a b c pa pb pc = let l = combines_max_signed w a b c pa pb pc in (refl, l.0, l.1, l.2, l.3)
kinds_combine Maxui w a b c pa pb pc = let l = combines_max w a b c pa pb pc in (refl, l.0, l.1, l.2, l.3)
