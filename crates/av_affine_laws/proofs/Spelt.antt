-- The form of the spelling of a normal form.
use Rattle.std.proofs.Common.{◌≡◌, List, [], ◌∷◌, ◌++◌, cond, Option, Some, None, refl, sym, ap, ◌∙◌, subst, arith, append_assoc}
use Rattle.std.specs.Prelude.{ℤ, pos, ◌+ℤ◌, ◌*ℤ◌, false, true}
use Rattle.std.specs.Ordering.{int_eq}
use Rattle.std.proofs.lemmas.Bool.Decides.{Decides-int_eq}
use Rattle.std.proofs.lemmas.Int.{ints}
use Rattle.std.proofs.lemmas.List.{append-nil}
use denote.Hole.Carrier.{hidden}
use Rattle.av_affine.specs.declared.expression.Leaf.{Leaf}
use Rattle.av_affine.specs.declared.expression.Expr.{Expr}
use Rattle.av_affine.specs.declared.expression.Expr.TheVariants as expr
use Rattle.av_affine.specs.declared.expression.Expr.TheBlock.{shape-the_row-Expr-0, hidden-the_row-Expr-0}
use Rattle.av_affine.specs.declared.linear.DivKind.{DivKind}
use Rattle.av_affine.specs.declared.linear.DivKind.TheVariants.{Mod, Floor, Ceil}
use Rattle.av_affine.specs.declared.linear.Term.{Term}
use Rattle.av_affine.specs.declared.linear.Linear.{Linear, Linear', Row_of-Opaque, end_of-Opaque, more_of-Opaque, items-the_row-Opaque, roll-Linear, rolls-Linear', is-Linear', out-Linear, outs-Linear', out-roll-Linear}
use Rattle.av_affine.specs.declared.linear.Linear.TheBlock.{items_shown-the_row-Opaque-0}
use Rattle.av_affine.specs.declared.linear.Opaque.{Opaque, Opaque'}
use Rattle.av_affine.specs.Forms.{Parts, constant_parts, joined, scaled, product_by, division_of, term_unless_zero, opaque_unless_zero, add_term, add_opaque, add_terms, add_opaques, scale_terms, scale_opaques, parts_of, linear_form}
use Rattle.av_affine.specs.Spelling.{times, plus, division, plus_terms, plus_constant, plus_row, spelled, spelled_opaque}
use Rattle.av_affine_laws.specs.FormLaws.{SpellingFormLaw}
use Rattle.av_affine_laws.specs.Normal.{Sorted, Apart, Varies, Normal, NormalOpaque, NormalRow}
use Rattle.av_affine_laws.proofs.Steps.{choose, add_term-last, add_opaque-last}
use Rattle.av_affine_laws.proofs.Made.{roll-normal, normal-parts}

-- ---- numbers
int_eq-true : (x y : ℤ) → int_eq x y ≡ true → x ≡ y
int_eq-true x y h = (Decides-int_eq x y).0 h

zero_sum : (x : ℤ) → pos 0 +ℤ x ≡ x
zero_sum x = omega (arith, ints)

one_times : (x : ℤ) → pos 1 *ℤ x ≡ x
one_times x = omega (arith, ints)

zero_times : (x : ℤ) → pos 0 *ℤ x ≡ pos 0
zero_times x = omega (arith, ints)

-- ---- the form at each variant that a spelling has
parts_of-Param : (leaf : Leaf) → parts_of (expr.Param leaf) ≡ record { terms = record { leaf = leaf; factor = pos 1 } ∷ []; opaque = []; constant = pos 0 }
unfolding parts_of shape-the_row-Expr-0 hidden-the_row-Expr-0 hidden
parts_of-Param leaf = refl

parts_of-Const : (z : ℤ) → parts_of (expr.Const z) ≡ constant_parts z
unfolding parts_of shape-the_row-Expr-0 hidden-the_row-Expr-0 hidden
parts_of-Const z = refl

parts_of-Add : (a b : Expr) → parts_of (expr.Add a b) ≡ joined (parts_of a) (parts_of b)
unfolding parts_of shape-the_row-Expr-0 hidden-the_row-Expr-0 hidden
parts_of-Add a b = refl

parts_of-Mul : (a b : Expr) → parts_of (expr.Mul a b) ≡ product_by (parts_of b).terms (parts_of b).opaque (parts_of a) (parts_of b)
unfolding parts_of shape-the_row-Expr-0 hidden-the_row-Expr-0 hidden
parts_of-Mul a b = refl

parts_of-division : (kind : DivKind) (a : Expr) (d : ℤ)
    → parts_of (division kind a (expr.Const d)) ≡ division_of (parts_of a).terms (parts_of a).opaque kind (parts_of a) d
unfolding parts_of shape-the_row-Expr-0 hidden-the_row-Expr-0 hidden
parts_of-division Mod a d = refl
parts_of-division Floor a d = refl
parts_of-division Ceil a d = refl

-- ---- sums so far
abbrev so_far : Option Expr → Parts
so_far None = constant_parts (pos 0)
so_far (Some e) = parts_of e

-- a form with the constant 0
abbrev summands : List Term → List Opaque → Parts
summands ts os = record { terms = ts; opaque = os; constant = pos 0 }

abbrev one_term : Leaf → ℤ → Parts
one_term leaf f = summands (record { leaf = leaf; factor = f } ∷ []) []

plus-term : (s : Option Expr) (e : Expr) (t : Term) (ts : List Term) → so_far s ≡ summands ts [] → parts_of e ≡ summands (t ∷ []) []
    → so_far (plus s e) ≡ summands (add_term t ts) []
unfolding add_term add_terms add_opaques
plus-term None e t ts h k = k ∙ ap (λ p. summands (add_term t p.terms) []) h
plus-term (Some s) e t ts h k =
    parts_of-Add s e ∙ ap (λ p. joined p (parts_of e)) h ∙ ap (joined (summands ts [])) k

plus-opaque : (s : Option Expr) (e : Expr) (o : Opaque) (ts : List Term) (os : List Opaque) → so_far s ≡ summands ts os
    → parts_of e ≡ summands [] (o ∷ []) → so_far (plus s e) ≡ summands ts (add_opaque o os)
unfolding add_opaque add_terms add_opaques
plus-opaque None e o ts os h k = k ∙ ap (λ p. summands p.terms (add_opaque o p.opaque)) h
plus-opaque (Some s) e o ts os h k =
    parts_of-Add s e ∙ ap (λ p. joined p (parts_of e)) h ∙ ap (joined (summands ts os)) k

plus-constant : (s : Option Expr) (c : ℤ) (ts : List Term) (os : List Opaque) → so_far s ≡ summands ts os
    → parts_of (plus_constant s c) ≡ record { terms = ts; opaque = os; constant = c }
unfolding add_terms add_opaques
plus-constant None c ts os h = parts_of-Const c ∙ ap (λ p. record { terms = p.terms; opaque = p.opaque; constant = c }) h
plus-constant (Some e) c ts os h =
    let P : Expr → Type 0 = λ x. parts_of x ≡ record { terms = ts; opaque = os; constant = c } in
    choose P (int_eq c (pos 0)) e (expr.Add e (expr.Const c))
    (λ k. h ∙ ap (λ z. record { terms = ts; opaque = os; constant = z }) (sym (int_eq-true c (pos 0) k)))
    (λ k.
    parts_of-Add e (expr.Const c) ∙ ap (λ p. joined p (parts_of (expr.Const c))) h ∙ ap (joined (summands ts os)) (parts_of-Const c)
    ∙ ap (λ z. record { terms = ts; opaque = os; constant = z }) (zero_sum c))

-- ---- products
times-term : (e : Expr) (leaf : Leaf) (f : ℤ) → parts_of e ≡ one_term leaf (pos 1) → int_eq f (pos 0) ≡ false → parts_of (times e f) ≡ one_term leaf f
unfolding scale_terms scale_opaques
times-term e leaf f h n =
    choose (λ x. parts_of x ≡ one_term leaf f) (int_eq f (pos 1)) e (expr.Mul e (expr.Const f))
    (λ k. h ∙ ap (one_term leaf) (sym (int_eq-true f (pos 1) k)))
    (λ k.
    parts_of-Mul e (expr.Const f) ∙ ap (λ q. product_by q.terms q.opaque (parts_of e) q) (parts_of-Const f) ∙ ap (scaled f) h
    ∙ ap (λ z. record { terms = term_unless_zero leaf z []; opaque = []; constant = pos 0 *ℤ f }) (one_times f)
    ∙ ap (λ b. record { terms = cond b [] (record { leaf = leaf; factor = f } ∷ []); opaque = []; constant = pos 0 *ℤ f }) n
    ∙ ap (λ z. record { terms = record { leaf = leaf; factor = f } ∷ []; opaque = []; constant = z }) (zero_times f))

abbrev one_opaque : DivKind → Linear → ℤ → ℤ → Parts
one_opaque k l d f = summands [] (Opaque' k l d f ∷ [])

times-opaque : (e : Expr) (k : DivKind) (l : Linear) (d f : ℤ) → parts_of e ≡ one_opaque k l d (pos 1) → int_eq f (pos 0) ≡ false
    → parts_of (times e f) ≡ one_opaque k l d f
unfolding scale_terms scale_opaques
times-opaque e k l d f h n =
    choose (λ x. parts_of x ≡ one_opaque k l d f) (int_eq f (pos 1)) e (expr.Mul e (expr.Const f))
    (λ i. h ∙ ap (one_opaque k l d) (sym (int_eq-true f (pos 1) i)))
    (λ i.
    parts_of-Mul e (expr.Const f) ∙ ap (λ q. product_by q.terms q.opaque (parts_of e) q) (parts_of-Const f) ∙ ap (scaled f) h
    ∙ ap (λ z. record { terms = []; opaque = opaque_unless_zero (Opaque' k l d (pos 1)) z []; constant = pos 0 *ℤ f }) (one_times f)
    ∙ ap (λ b. record { terms = []; opaque = cond b [] (Opaque' k l d f ∷ []); constant = pos 0 *ℤ f }) n
    ∙ ap (λ z. record { terms = []; opaque = Opaque' k l d f ∷ []; constant = z }) (zero_times f))

division-varies : (ts : List Term) (os : List Opaque) (kind : DivKind) (p : Parts) (d : ℤ) → Varies ts os
    → division_of ts os kind p d ≡ one_opaque kind (roll-Linear p) d (pos 1)
unfolding Varies
division-varies [] [] kind p d h = absurd h
division-varies (t ∷ ts) os kind p d h = refl
division-varies [] (o ∷ os) kind p d h = refl

-- ---- the summands in turn
sorted-one : (ts : List Term) (u : Term) (us : List Term) → Sorted (ts ++ u ∷ us) → int_eq u.factor (pos 0) ≡ false
unfolding Sorted
sorted-one [] u us h = h.0
sorted-one (t ∷ ts) u us h = sorted-one ts u us h.2

terms-parts : (s : Option Expr) (ts us : List Term) → so_far s ≡ summands ts [] → Sorted (ts ++ us) → so_far (plus_terms s us) ≡ summands (ts ++ us) []
unfolding plus_terms
terms-parts s ts [] h n = h ∙ ap (λ vs. summands vs []) (sym (append-nil ts))
terms-parts s ts (u ∷ us) h n =
    let one = times-term (expr.Param u.leaf) u.leaf u.factor (parts_of-Param u.leaf) (sorted-one ts u us n) in
    let here = plus-term s (times (expr.Param u.leaf) u.factor) u ts h one ∙ ap (λ vs. summands vs []) (add_term-last u ts us n) in
    terms-parts (plus s (times (expr.Param u.leaf) u.factor)) (ts ++ u ∷ []) us here (subst Sorted (sym (append_assoc ts (u ∷ []) us)) n)
    ∙ ap (λ vs. summands vs []) (append_assoc ts (u ∷ []) us)

roll-out : (l : Linear) → roll-Linear (out-Linear l) ≡ l
roll-out l = rolls-Linear' (out-Linear l) ∙ sym (is-Linear' l)

mutual
  unfolding spelled spelled_opaque plus_row Normal NormalOpaque NormalRow

  spelled-parts : (l : Linear) → Normal l → parts_of (spelled l) ≡ out-Linear l
  spelled-parts (Linear' ts s row c) h =
      plus-constant (plus_row (plus_terms None ts) row) c ts (items-the_row-Opaque _ row)
      (row-parts (plus_terms None ts) ts [] row (terms-parts None [] ts refl h.0) h.1 h.2)
      ∙ ap (λ os. record { terms = ts; opaque = os; constant = c }) (sym (items_shown-the_row-Opaque-0 s row)) ∙ sym (outs-Linear' ts s row c)

  opaque-parts : (o : Opaque) → NormalOpaque o → parts_of (spelled_opaque o) ≡ summands [] (o ∷ [])
  opaque-parts (Opaque' kind inner d f) h =
      times-opaque (division kind (spelled inner) (expr.Const d)) kind inner d f
      (parts_of-division kind (spelled inner) d
      ∙ ap (λ p. division_of p.terms p.opaque kind p d) (spelled-parts inner h.1)
      ∙ division-varies (out-Linear inner).terms (out-Linear inner).opaque kind (out-Linear inner) d h.2
      ∙ ap (λ l. one_opaque kind l d (pos 1)) (roll-out inner))
      h.0

  row-parts : (s : Option Expr) (ts : List Term) (os : List Opaque) {m : _} (row : Row_of-Opaque m) → so_far s ≡ summands ts os
      → Apart (os ++ items-the_row-Opaque m row) → NormalRow row → so_far (plus_row s row) ≡ summands ts (os ++ items-the_row-Opaque m row)
  row-parts s ts os end_of-Opaque h a n = h ∙ ap (summands ts) (sym (append-nil os))
  row-parts s ts os (more_of-Opaque o rest) h a n =
      let ps = items-the_row-Opaque _ rest in
      let here = plus-opaque s (spelled_opaque o) o ts os h (opaque-parts o n.0) ∙ ap (summands ts) (add_opaque-last o os ps a) in
      row-parts (plus s (spelled_opaque o)) ts (os ++ o ∷ []) rest here (subst Apart (sym (append_assoc os (o ∷ []) ps)) a) n.1
      ∙ ap (summands ts) (append_assoc os (o ∷ []) ps)

pub spelling-form-law : SpellingFormLaw
unfolding linear_form
spelling-form-law e =
    ap roll-Linear (spelled-parts (roll-Linear (parts_of e)) (roll-normal (parts_of e) (normal-parts e)) ∙ out-roll-Linear (parts_of e))
