-- Turns of loops by their numbers.
use Rattle.std.proofs.Common.{◌≡◌, ap, sym, ◌∙◌, refl, subst, ℕ, zero, suc, ◌+◌, ◌*◌, ◌<◌, ◌≤◌, ◌==◌, if◌then◌else◌, List, ◌∷◌, arith}
use Rattle.std.specs.Prelude.{ℤ, pos, ◌+ℤ◌, ◌-ℤ◌, ◌<ℤ◌, ◌≤ℤ◌, ◌↔◌, int_lt, unsigned_abs, Bool, true, false, T}
use Rattle.std.specs.Int.{div_ceil}
use Rattle.std.proofs.Math.Path.{fun_ext}
use Rattle.std.proofs.Math.Nat.{add-mul, lt_of_mul-lt-mul_right, mul-le-mul_right}
use Rattle.std.proofs.lemmas.Bool.Decides.{nat_tests}
use Rattle.std.proofs.lemmas.Grind.{div_ceil_times}
use Rattle.std.proofs.lemmas.Int.{by_lt_z, ints}
use Rattle.av_ir.specs.Run.{Value, Memory, Run, Ending, Body, ends, traps, after, followed}
use Rattle.av_ir.specs.ScalarRun.{index_value, loop_from, turns}

-- ---- which turns come
is_less : (x y : ℤ) → int_lt x y ≡ true → x <ℤ y
is_less x y h = record { lt = subst T (sym h) tt }

is_least : (x y : ℤ) → int_lt x y ≡ false → y ≤ℤ x
is_least x y h = by_lt_z x y (λ l. absurd (subst T h l.lt)) (λ l. l)

module _ (step k : ℕ) (some : 0 < step) where
  first_rounded : (d : ℕ) → k < div_ceil d step → k * step < d
  first_rounded d l =
      let more : (k + 1) * step ≤ div_ceil d step * step = mul-le-mul_right step (omega (arith, l)) in
      let split : (k + 1) * step ≡ k * step + 1 * step = add-mul k 1 step in
      omega (arith, more, split, (div_ceil_times d step some).1)

  then_rounded : (d : ℕ) → k * step < d → k < div_ceil d step
  then_rounded d l = lt_of_mul-lt-mul_right step (omega (arith, l, (div_ceil_times d step some).0))

  not_zero : (step == 0) ≡ false
  not_zero = grind (arith, nat_tests)

  module _ (lower upper : ℤ) where
    counted : Bool → ℕ
    counted b = if b then div_ceil (unsigned_abs (upper -ℤ lower)) step else 0

    turns_are : turns lower upper step ≡ counted (int_lt lower upper)
    unfolding counted
    turns_are = ap (λ b. if b then 0 else (if int_lt lower upper then div_ceil (unsigned_abs (upper -ℤ lower)) step else 0)) not_zero

    distance : lower <ℤ upper → pos (unsigned_abs (upper -ℤ lower)) ≡ upper -ℤ lower
    distance l = omega (arith, ints, l)

    by_test : (b : Bool) → int_lt lower upper ≡ b → (k < counted b) ↔ ((lower +ℤ pos (k * step)) <ℤ upper)
    unfolding counted
    by_test true t =
        let far = distance (is_less lower upper t) in (
          λ l. let near = first_rounded (unsigned_abs (upper -ℤ lower)) l in omega (arith, ints, far, near),
          λ l. then_rounded (unsigned_abs (upper -ℤ lower)) (omega (arith, ints, far, l)),
        )
    by_test false t = (
      λ l. absurd (omega (arith, l)),
      λ l. absurd (let under = is_least lower upper t in omega (arith, ints, under, l)),
    )

pub turn_law : (lower upper : ℤ) (step k : ℕ) → 0 < step → (k < turns lower upper step) ↔ ((lower +ℤ pos (k * step)) <ℤ upper)
turn_law lower upper step k some =
    let P : ℕ → Type 0 = λ n. (k < n) ↔ ((lower +ℤ pos (k * step)) <ℤ upper) in
    subst P (sym (turns_are step k some lower upper)) (by_test step k some lower upper (int_lt lower upper) refl)

-- ---- runs one after the other
after_none : {A : Type 0} (r : Run A) → after 0 r ≡ r
after_none (ends a s) = ap (ends a) (omega arith)
after_none (traps kind number s) = ap (traps kind number) (omega arith)

after_after : {A : Type 0} (m n : ℕ) (r : Run A) → after (m + n) r ≡ after m (after n r)
after_after m n (ends a s) = ap (ends a) (omega arith)
after_after m n (traps kind number s) = ap (traps kind number) (omega arith)

followed_after : {A B : Type 0} (n : ℕ) (r : Run A) (next : A → Run B) → followed (after n r) next ≡ after n (followed r next)
followed_after n (ends a s) next = after_after n s (next a)
followed_after n (traps kind number s) next = refl

pub followed_twice : {A B C : Type 0} (r : Run A) (f : A → Run B) (g : B → Run C) → followed (followed r f) g ≡ followed r (λ a. followed (f a) g)
followed_twice (ends a s) f g = followed_after s (f a) g
followed_twice (traps kind number s) f g = refl

-- ---- where turns stand
module _ (body : Body) (step n : ℕ) where
  abbrev further : ℕ → ℤ → List Value → Memory → Run Ending
  further k at carried memory = followed (loop_from body step k at carried memory) (λ e. loop_from body step n (at +ℤ pos (k * step)) e.handed e.memory)

  pub loop_law : (k : ℕ) (at : ℤ) (carried : List Value) (memory : Memory) → loop_from body step (k + n) at carried memory ≡ further k at carried memory
  loop_law zero at carried memory =
      let here : at ≡ at +ℤ pos (0 * step) = omega (arith, ints) in
      ap (λ m. loop_from body step m at carried memory) (omega arith)
      ∙ ap (λ z. loop_from body step n z carried memory) here
      ∙ sym (after_none (loop_from body step n (at +ℤ pos (0 * step)) carried memory))
  loop_law (suc k) at carried memory =
      let long : suc k + n ≡ suc (k + n) = omega arith in
      let more : (1 + k) * step ≡ 1 * step + k * step = add-mul 1 k step in
      let same : suc k * step ≡ (1 + k) * step = ap (λ j. j * step) (omega arith) in
      let there : at +ℤ pos step +ℤ pos (k * step) ≡ at +ℤ pos (suc k * step) = omega (arith, ints, more, same) in
      ap (λ m. loop_from body step m at carried memory) long
      ∙ ap (followed (after 1 (body (index_value at ∷ carried) memory))) (fun_ext (λ e. loop_law k (at +ℤ pos step) e.handed e.memory))
      ∙ ap (λ z. followed (after 1 (body (index_value at ∷ carried) memory)) (λ e. followed (loop_from body step k (at +ℤ pos step) e.handed e.memory) (λ x. loop_from body step n z x.handed x.memory))) there
      ∙ sym (followed_twice (after 1 (body (index_value at ∷ carried) memory)) (λ e. loop_from body step k (at +ℤ pos step) e.handed e.memory) (λ x. loop_from body step n (at +ℤ pos (suc k * step)) x.handed x.memory))
