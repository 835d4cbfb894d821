-- Sums and multiples of normal forms are normal.
use Rattle.std.proofs.Common.{◌≡◌, List, [], ◌∷◌, ◌++◌, Bool, true, false, cond, refl, ap, ◌∙◌, arith}
use Rattle.std.specs.Prelude.{ℤ, pos, ◌+ℤ◌, ◌*ℤ◌}
use Rattle.std.specs.Ordering.{int_eq}
use Rattle.std.proofs.lemmas.Bool.Decides.{nat_tests}
use Rattle.av_affine.specs.declared.expression.Leaf.{Leaf}
use Rattle.av_affine.specs.declared.expression.Leaf.TheVariants.{Dim, Sym}
use Rattle.av_affine.specs.declared.linear.Term.{Term}
use Rattle.av_affine.specs.declared.linear.Opaque.{Opaque, Opaque'}
use Rattle.av_affine.specs.Forms.{same_leaf, same_division, is_before, term_unless_zero, opaque_unless_zero, factor_of, add_term, add_opaque, add_terms, add_opaques, scale_terms, scale_opaques}
use Rattle.av_affine_laws.specs.Normal.{Before, Sorted, Alone, Apart, NormalOpaque, NormalOpaques, with_factor}

-- either side of a choice, by its test
pub choose : {A : Type 0} (P : A → Type 0) (b : Bool) (x y : A) → (b ≡ true → P x) → (b ≡ false → P y) → P (cond b x y)
choose P true x y h k = h refl
choose P false x y h k = k refl

-- ---- the order of leaves
before-trans : (a b c : Leaf) → is_before a b ≡ true → is_before b c ≡ true → is_before a c ≡ true
before-trans (Dim i) (Dim j) (Dim k) h g = grind (arith, nat_tests)
before-trans (Dim i) (Dim j) (Sym k) h g = refl
before-trans (Dim i) (Sym j) (Dim k) h g = absurd (cc)
before-trans (Dim i) (Sym j) (Sym k) h g = refl
before-trans (Sym i) (Dim j) c h g = absurd (cc)
before-trans (Sym i) (Sym j) (Dim k) h g = absurd (cc)
before-trans (Sym i) (Sym j) (Sym k) h g = grind (arith, nat_tests)

before-total : (a b : Leaf) → same_leaf a b ≡ false → is_before a b ≡ false → is_before b a ≡ true
before-total (Dim j) (Dim k) h g = grind (arith, nat_tests)
before-total (Dim j) (Sym k) h g = absurd (cc)
before-total (Sym j) (Dim k) h g = refl
before-total (Sym j) (Sym k) h g = grind (arith, nat_tests)

before-not : (a b : Leaf) → is_before a b ≡ true → (same_leaf b a ≡ false) × (is_before b a ≡ false)
before-not (Dim j) (Dim k) h = (grind (arith, nat_tests), grind (arith, nat_tests))
before-not (Dim j) (Sym k) h = (refl, refl)
before-not (Sym j) (Dim k) h = absurd (cc)
before-not (Sym j) (Sym k) h = (grind (arith, nat_tests), grind (arith, nat_tests))

-- ---- terms
before_all : (a b : Leaf) (ts : List Term) → is_before a b ≡ true → Before b ts → Before a ts
unfolding Before
before_all a b [] h g = tt
before_all a b (t ∷ ts) h g = (before-trans a b t.leaf h g.0, before_all a b ts h g.1)

before-unless : (a leaf : Leaf) (f : ℤ) (ts : List Term) → is_before a leaf ≡ true → Before a ts → Before a (term_unless_zero leaf f ts)
unfolding Before
before-unless a leaf f ts h g =
    choose (Before a) (int_eq f (pos 0)) ts (record { leaf = leaf; factor = f } ∷ ts) (λ e. g) (λ e. (h, g))

sorted-unless : (leaf : Leaf) (f : ℤ) (ts : List Term) → Before leaf ts → Sorted ts → Sorted (term_unless_zero leaf f ts)
unfolding Sorted
sorted-unless leaf f ts h g =
    choose Sorted (int_eq f (pos 0)) ts (record { leaf = leaf; factor = f } ∷ ts) (λ e. g) (λ e. (e, h, g))

before-add : (a : Leaf) (u : Term) (ts : List Term) → is_before a u.leaf ≡ true → Before a ts → Before a (add_term u ts)
unfolding Before add_term
before-add a u [] h g = (h, tt)
before-add a u (t ∷ ts) h g =
    choose (Before a) (same_leaf u.leaf t.leaf) (term_unless_zero t.leaf (t.factor +ℤ u.factor) ts) (cond (is_before u.leaf t.leaf) (u ∷ (t ∷ ts)) (t ∷ add_term u ts))
    (λ e. before-unless a t.leaf (t.factor +ℤ u.factor) ts g.0 g.1)
    (λ e. choose (Before a) (is_before u.leaf t.leaf) (u ∷ (t ∷ ts)) (t ∷ add_term u ts) (λ k. (h, g)) (λ k. (g.0, before-add a u ts h g.1)))

add_term-sorted : (u : Term) (ts : List Term) → int_eq u.factor (pos 0) ≡ false → Sorted ts → Sorted (add_term u ts)
unfolding Before Sorted add_term
add_term-sorted u [] h g = (h, tt, tt)
add_term-sorted u (t ∷ ts) h g =
    choose Sorted (same_leaf u.leaf t.leaf) (term_unless_zero t.leaf (t.factor +ℤ u.factor) ts) (cond (is_before u.leaf t.leaf) (u ∷ (t ∷ ts)) (t ∷ add_term u ts))
    (λ e. sorted-unless t.leaf (t.factor +ℤ u.factor) ts g.1 g.2)
    (λ e. choose Sorted (is_before u.leaf t.leaf) (u ∷ (t ∷ ts)) (t ∷ add_term u ts)
    (λ k. (h, (k, before_all u.leaf t.leaf ts k g.1), g))
    (λ k. (g.0, before-add t.leaf u ts (before-total u.leaf t.leaf e k) g.1, add_term-sorted u ts h g.2)))

pub add_terms-sorted : (ts us : List Term) → Sorted ts → Sorted us → Sorted (add_terms ts us)
unfolding Sorted add_terms
add_terms-sorted ts [] h g = h
add_terms-sorted ts (u ∷ us) h g = add_terms-sorted (add_term u ts) us (add_term-sorted u ts g.0 h) g.2

before-scale : (a : Leaf) (k : ℤ) (ts : List Term) → Before a ts → Before a (scale_terms k ts)
unfolding Before scale_terms
before-scale a k [] h = tt
before-scale a k (t ∷ ts) h = before-unless a t.leaf (t.factor *ℤ k) (scale_terms k ts) h.0 (before-scale a k ts h.1)

pub scale_terms-sorted : (k : ℤ) (ts : List Term) → Sorted ts → Sorted (scale_terms k ts)
unfolding Sorted scale_terms
scale_terms-sorted k [] h = tt
scale_terms-sorted k (t ∷ ts) h =
    sorted-unless t.leaf (t.factor *ℤ k) (scale_terms k ts) (before-scale t.leaf k ts h.1) (scale_terms-sorted k ts h.2)

-- a term after all others goes to the end
before-one : (a : Leaf) (ts : List Term) (u : Term) (us : List Term) → Before a (ts ++ u ∷ us) → is_before a u.leaf ≡ true
unfolding Before
before-one a [] u us h = h.0
before-one a (t ∷ ts) u us h = before-one a ts u us h.1

pub add_term-last : (u : Term) (ts us : List Term) → Sorted (ts ++ u ∷ us) → add_term u ts ≡ ts ++ u ∷ []
unfolding Sorted add_term
add_term-last u [] us h = refl
add_term-last u (t ∷ ts) us h =
    let n = before-not t.leaf u.leaf (before-one t.leaf ts u us h.1) in
    ap (λ b. cond b (term_unless_zero t.leaf (t.factor +ℤ u.factor) ts) (cond (is_before u.leaf t.leaf) (u ∷ (t ∷ ts)) (t ∷ add_term u ts))) n.0
    ∙ ap (λ b. cond b (u ∷ (t ∷ ts)) (t ∷ add_term u ts)) n.1 ∙ ap (λ vs. t ∷ vs) (add_term-last u ts us h.2)

-- ---- opaque terms
alone-factor : (p : Opaque) (os : List Opaque) (f : ℤ) → Alone p os → Alone (with_factor p f) os
unfolding Alone same_division
alone-factor p [] f h = tt
alone-factor (Opaque' j m e g) (Opaque' k l d i ∷ os) f h = (h.0, alone-factor (Opaque' j m e g) os f h.1)

alone-unless : (p o : Opaque) (f : ℤ) (os : List Opaque) → same_division o p ≡ false → Alone p os → Alone p (opaque_unless_zero o f os)
unfolding Alone same_division
alone-unless (Opaque' j m e g) (Opaque' k l d i) f os h a =
    choose (Alone (Opaque' j m e g)) (int_eq f (pos 0)) os (Opaque' k l d f ∷ os) (λ z. a) (λ z. (h, a))

apart-unless : (o : Opaque) (f : ℤ) (os : List Opaque) → Alone o os → Apart os → Apart (opaque_unless_zero o f os)
unfolding Apart
apart-unless (Opaque' k l d i) f os h a =
    choose Apart (int_eq f (pos 0)) os (Opaque' k l d f ∷ os) (λ z. a) (λ z. (alone-factor (Opaque' k l d i) os f h, a))

normal-unless : (o : Opaque) (f : ℤ) (os : List Opaque) → NormalOpaque o → NormalOpaques os → NormalOpaques (opaque_unless_zero o f os)
unfolding NormalOpaque NormalOpaques
normal-unless (Opaque' k l d i) f os h n =
    choose NormalOpaques (int_eq f (pos 0)) os (Opaque' k l d f ∷ os) (λ z. n) (λ z. ((z, h.1, h.2), n))

alone-add : (p o : Opaque) (os : List Opaque) → same_division o p ≡ false → Alone p os → Alone p (add_opaque o os)
unfolding Alone add_opaque
alone-add p o [] h a = (h, tt)
alone-add p o (q ∷ qs) h a =
    choose (Alone p) (same_division o q) (opaque_unless_zero q (factor_of q +ℤ factor_of o) qs) (q ∷ add_opaque o qs)
    (λ e. alone-unless p q (factor_of q +ℤ factor_of o) qs a.0 a.1) (λ e. (a.0, alone-add p o qs h a.1))

add_opaque-apart : (o : Opaque) (os : List Opaque) → Apart os → Apart (add_opaque o os)
unfolding Alone Apart add_opaque
add_opaque-apart o [] a = (tt, tt)
add_opaque-apart o (q ∷ qs) a =
    choose Apart (same_division o q) (opaque_unless_zero q (factor_of q +ℤ factor_of o) qs) (q ∷ add_opaque o qs)
    (λ e. apart-unless q (factor_of q +ℤ factor_of o) qs a.0 a.1) (λ e. (alone-add q o qs e a.0, add_opaque-apart o qs a.1))

add_opaque-normal : (o : Opaque) (os : List Opaque) → NormalOpaque o → NormalOpaques os → NormalOpaques (add_opaque o os)
unfolding NormalOpaques add_opaque
add_opaque-normal o [] h n = (h, tt)
add_opaque-normal o (q ∷ qs) h n =
    choose NormalOpaques (same_division o q) (opaque_unless_zero q (factor_of q +ℤ factor_of o) qs) (q ∷ add_opaque o qs)
    (λ e. normal-unless q (factor_of q +ℤ factor_of o) qs n.0 n.1) (λ e. (n.0, add_opaque-normal o qs h n.1))

pub add_opaques-apart : (ps os : List Opaque) → Apart ps → Apart (add_opaques ps os)
unfolding add_opaques
add_opaques-apart ps [] h = h
add_opaques-apart ps (o ∷ os) h = add_opaques-apart (add_opaque o ps) os (add_opaque-apart o ps h)

pub add_opaques-normal : (ps os : List Opaque) → NormalOpaques ps → NormalOpaques os → NormalOpaques (add_opaques ps os)
unfolding NormalOpaques add_opaques
add_opaques-normal ps [] h n = h
add_opaques-normal ps (o ∷ os) h n = add_opaques-normal (add_opaque o ps) os (add_opaque-normal o ps n.0 h) n.1

alone-scale : (p : Opaque) (k : ℤ) (os : List Opaque) → Alone p os → Alone p (scale_opaques k os)
unfolding Alone scale_opaques
alone-scale p k [] h = tt
alone-scale p k (o ∷ os) h = alone-unless p o (factor_of o *ℤ k) (scale_opaques k os) h.0 (alone-scale p k os h.1)

pub scale_opaques-apart : (k : ℤ) (os : List Opaque) → Apart os → Apart (scale_opaques k os)
unfolding Apart scale_opaques
scale_opaques-apart k [] h = tt
scale_opaques-apart k (o ∷ os) h =
    apart-unless o (factor_of o *ℤ k) (scale_opaques k os) (alone-scale o k os h.0) (scale_opaques-apart k os h.1)

pub scale_opaques-normal : (k : ℤ) (os : List Opaque) → NormalOpaques os → NormalOpaques (scale_opaques k os)
unfolding NormalOpaques scale_opaques
scale_opaques-normal k [] h = tt
scale_opaques-normal k (o ∷ os) h = normal-unless o (factor_of o *ℤ k) (scale_opaques k os) h.0 (scale_opaques-normal k os h.1)

-- an opaque term that is the division of no other goes to the end
alone-one : (p : Opaque) (ps : List Opaque) (o : Opaque) (os : List Opaque) → Alone p (ps ++ o ∷ os) → same_division o p ≡ false
unfolding Alone
alone-one p [] o os h = h.0
alone-one p (q ∷ qs) o os h = alone-one p qs o os h.1

pub add_opaque-last : (o : Opaque) (ps os : List Opaque) → Apart (ps ++ o ∷ os) → add_opaque o ps ≡ ps ++ o ∷ []
unfolding Apart add_opaque
add_opaque-last o [] os h = refl
add_opaque-last o (p ∷ ps) os h =
    ap (λ b. cond b (opaque_unless_zero p (factor_of p +ℤ factor_of o) ps) (p ∷ add_opaque o ps)) (alone-one p ps o os h.0)
    ∙ ap (λ qs. p ∷ qs) (add_opaque-last o ps os h.1)
