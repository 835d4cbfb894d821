-- A test of two lists, place by place.
use Rattle.std.proofs.Common.{◌≡◌, ℕ, zero, suc, ◌+◌, ◌<◌, ◌≤◌, List, [], ◌∷◌, length, get_or, take, Bool, true, false, ◌&&◌, refl, sym, ap, ◌∙◌, arith, add-one}
use Rattle.std.proofs.lemmas.List.{take_all}
use Rattle.av_affine.specs.Forms.{all_same}

pub both_true : (a b : Bool) → a && b ≡ true → (a ≡ true) × (b ≡ true)
both_true true b h = (refl, h)
both_true false b h = absurd (cc)

pub any_default : {A : Type 0} (xs : List A) (i : ℕ) (d e : A) → i < length xs → get_or xs i d ≡ get_or xs i e
any_default [] i d e h = absurd (omega arith)
any_default (x ∷ xs) zero d e h = refl
any_default (x ∷ xs) (suc i) d e h = any_default xs i d e (omega arith)

and_false : (b : Bool) → b && false ≡ false
and_false true = refl
and_false false = refl

module _ {A : Type 0} (test : A → A → Bool) where
  -- of two lengths
  pub unequal_lengths : (xs ys : List A) → (length xs ≡ length ys → ⊥) → all_same test xs ys ≡ false
  unfolding all_same
  unequal_lengths [] [] h = absurd (h refl)
  unequal_lengths [] (y ∷ ys) h = refl
  unequal_lengths (x ∷ xs) [] h = refl
  unequal_lengths (x ∷ xs) (y ∷ ys) h = ap (λ r. test x y && r) (unequal_lengths xs ys (λ e. h (ap suc e))) ∙ and_false (test x y)

  -- a place that fails
  pub fails_somewhere : (xs ys : List A) (i : ℕ) (x y : A) → i < length xs → i < length ys → x ≡ get_or xs i x → y ≡ get_or ys i y
      → test x y ≡ false → all_same test xs ys ≡ false
  unfolding all_same
  fails_somewhere [] ys i x y h k e f t = absurd (omega arith)
  fails_somewhere (a ∷ xs) [] i x y h k e f t = absurd (omega arith)
  fails_somewhere (a ∷ xs) (b ∷ ys) zero x y h k e f t =
      ap (λ r. r && all_same test xs ys) (sym (ap (λ u. test u y) e ∙ ap (test a) f) ∙ t)
  fails_somewhere (a ∷ xs) (b ∷ ys) (suc i) x y h k e f t =
      ap (λ r. test a b && r) (fails_somewhere xs ys i x y (omega arith) (omega arith) e f t) ∙ and_false (test a b)

  -- one place more that passes
  pub same_more : (xs ys : List A) (i : ℕ) (x y : A) → i < length xs → i < length ys → x ≡ get_or xs i x → y ≡ get_or ys i y
      → test x y ≡ true → all_same test (take i xs) (take i ys) ≡ true → all_same test (take (i + 1) xs) (take (i + 1) ys) ≡ true
  unfolding all_same
  same_more xs ys i x y h k e f t s = rw add-one (steps xs ys i h k e f s)
    where
      steps : (xs ys : List A) (i : ℕ) → i < length xs → i < length ys → x ≡ get_or xs i x → y ≡ get_or ys i y
          → all_same test (take i xs) (take i ys) ≡ true → all_same test (take (suc i) xs) (take (suc i) ys) ≡ true
      steps [] ys i h k e f s = absurd (omega arith)
      steps (a ∷ xs) [] i h k e f s = absurd (omega arith)
      steps (a ∷ xs) (b ∷ ys) zero h k e f s = ap (λ r. r && true) (sym (ap (λ u. test u y) e ∙ ap (test a) f) ∙ t)
      steps (a ∷ xs) (b ∷ ys) (suc i) h k e f s =
          let p = both_true (test a b) (all_same test (take i xs) (take i ys)) s in
          ap (λ r. r && all_same test (take (suc i) xs) (take (suc i) ys)) p.0 ∙ steps xs ys i (omega arith) (omega arith) e f p.1

  pub same_whole : (xs ys : List A) (i : ℕ) → length xs ≤ i → length xs ≡ length ys → all_same test (take i xs) (take i ys) ≡ true → all_same test xs ys ≡ true
  same_whole xs ys i h e s = sym (ap (λ us. all_same test us (take i ys)) (take_all i xs h) ∙ ap (all_same test xs) (take_all i ys (omega arith))) ∙ s

  -- the same of elements as slices give them
  pub fails_indexed : (xs ys : List A) (i : ℕ) (d e : A) → i < length xs → i < length ys → test (get_or xs i d) (get_or ys i e) ≡ false → all_same test xs ys ≡ false
  fails_indexed xs ys i d e h k t =
      fails_somewhere xs ys i (get_or xs i d) (get_or ys i e) h k (any_default xs i d (get_or xs i d) h) (any_default ys i e (get_or ys i e) k) t

  pub same_indexed : (xs ys : List A) (i : ℕ) (d e : A) → i < length xs → i < length ys → test (get_or xs i d) (get_or ys i e) ≡ true
      → all_same test (take i xs) (take i ys) ≡ true → all_same test (take (i + 1) xs) (take (i + 1) ys) ≡ true
  same_indexed xs ys i d e h k t s =
      same_more xs ys i (get_or xs i d) (get_or ys i e) h k (any_default xs i d (get_or xs i d) h) (any_default ys i e (get_or ys i e) k) t s
