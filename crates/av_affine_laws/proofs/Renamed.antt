-- What stays when parameters are renamed.
use Rattle.std.proofs.Common.{◌≡◌, ◌+◌, ◌*◌, ◌^◌, ◌≤◌, ◌↔◌, ◌⊎◌, List, [], ◌∷◌, ◌++◌, map, ◌||◌, refl, sym, ap, ap₂, subst, ◌∙◌}
use Rattle.std.specs.Prelude.{ℤ, pos, neg_ℤ, ◌+ℤ◌, ◌-ℤ◌, ◌*ℤ◌, ◌≤ℤ◌, unsigned_abs, IsFalse}
use Rattle.std.specs.List.{AllByRecursion}
use Rattle.std.proofs.lemmas.List.{map-append}
use Rattle.std.proofs.lemmas.List.Elements.{All-from_recursion, recursion_from_All}
use Rattle.av_affine.specs.declared.expression.Leaf.{Leaf}
use Rattle.av_affine.specs.declared.expression.Leaf.TheVariants.{Dim, Sym}
use Rattle.av_affine.specs.declared.expression.Expr.{Expr, Param, Const, Neg', Add', Sub', Mul', Mod', Floor', Ceil', end_of-Expr, more_of-Expr}
use Rattle.av_affine.specs.declared.expression.Expr.TheVariants as expr
use Rattle.av_affine.specs.declared.expression.Expr.TheBlock.{shape-the_row-Expr-0, hidden-the_row-Expr-0}
use denote.Hole.Carrier.{hidden}
use Rattle.av_affine.specs.Values.{leaves, value_of, remainder, floor_quotient, ceil_quotient}
use Rattle.av_affine.specs.Limits.{node_count, has_parameter, constant_value, IsDivisor, IsAffine, bound_of, IsWithin, Admissible}
use Rattle.av_affine_laws.specs.Normalised.{by_kind, occurring, parameter_for, parameters, renamed}
use Rattle.av_affine_laws.specs.NormalisedLaws.{NormalisedLimitsLaw, RenamedLimitsLaw}

-- ---- lists of facts
pub each_left : {X : Type 0} (P : X → Type 0) (xs ys : List X) → AllByRecursion P (xs ++ ys) → AllByRecursion P xs
each_left P [] ys h = tt
each_left P (x ∷ xs) ys h = (h.0, each_left P xs ys h.1)

pub each_right : {X : Type 0} (P : X → Type 0) (xs ys : List X) → AllByRecursion P (xs ++ ys) → AllByRecursion P ys
each_right P [] ys h = h
each_right P (x ∷ xs) ys h = each_right P xs ys h.1

-- ---- values
pub value_of-renamed : (at : Leaf → ℤ) (f : Leaf → Leaf) (e : Expr) → value_of at (renamed f e) ≡ value_of (λ l. at (f l)) e
unfolding value_of renamed shape-the_row-Expr-0 hidden-the_row-Expr-0 hidden
value_of-renamed at f (Param leaf) = refl
value_of-renamed at f (Const z) = refl
value_of-renamed at f (Neg' s (more_of-Expr a end_of-Expr)) = ap neg_ℤ (value_of-renamed at f a)
value_of-renamed at f (Add' s (more_of-Expr a end_of-Expr) t (more_of-Expr b end_of-Expr)) = ap₂ ◌+ℤ◌ (value_of-renamed at f a) (value_of-renamed at f b)
value_of-renamed at f (Sub' s (more_of-Expr a end_of-Expr) t (more_of-Expr b end_of-Expr)) = ap₂ ◌-ℤ◌ (value_of-renamed at f a) (value_of-renamed at f b)
value_of-renamed at f (Mul' s (more_of-Expr a end_of-Expr) t (more_of-Expr b end_of-Expr)) = ap₂ ◌*ℤ◌ (value_of-renamed at f a) (value_of-renamed at f b)
value_of-renamed at f (Mod' s (more_of-Expr a end_of-Expr) t (more_of-Expr b end_of-Expr)) = ap₂ remainder (value_of-renamed at f a) (value_of-renamed at f b)
value_of-renamed at f (Floor' s (more_of-Expr a end_of-Expr) t (more_of-Expr b end_of-Expr)) = ap₂ floor_quotient (value_of-renamed at f a) (value_of-renamed at f b)
value_of-renamed at f (Ceil' s (more_of-Expr a end_of-Expr) t (more_of-Expr b end_of-Expr)) = ap₂ ceil_quotient (value_of-renamed at f a) (value_of-renamed at f b)

-- the value hangs only on those of the parameters that occur
pub value_of-same : (f g : Leaf → ℤ) (e : Expr) → AllByRecursion (λ l. f l ≡ g l) (parameters e) → value_of f e ≡ value_of g e
unfolding value_of parameters
value_of-same f g (Param leaf) h = h.0
value_of-same f g (Const z) h = refl
value_of-same f g (Neg' s (more_of-Expr a end_of-Expr)) h = ap neg_ℤ (value_of-same f g a h)
value_of-same f g (Add' s (more_of-Expr a end_of-Expr) t (more_of-Expr b end_of-Expr)) h =
    ap₂ ◌+ℤ◌ (value_of-same f g a (each_left (λ l. f l ≡ g l) (parameters a) (parameters b) h)) (value_of-same f g b (each_right (λ l. f l ≡ g l) (parameters a) (parameters b) h))
value_of-same f g (Sub' s (more_of-Expr a end_of-Expr) t (more_of-Expr b end_of-Expr)) h =
    ap₂ ◌-ℤ◌ (value_of-same f g a (each_left (λ l. f l ≡ g l) (parameters a) (parameters b) h)) (value_of-same f g b (each_right (λ l. f l ≡ g l) (parameters a) (parameters b) h))
value_of-same f g (Mul' s (more_of-Expr a end_of-Expr) t (more_of-Expr b end_of-Expr)) h =
    ap₂ ◌*ℤ◌ (value_of-same f g a (each_left (λ l. f l ≡ g l) (parameters a) (parameters b) h)) (value_of-same f g b (each_right (λ l. f l ≡ g l) (parameters a) (parameters b) h))
value_of-same f g (Mod' s (more_of-Expr a end_of-Expr) t (more_of-Expr b end_of-Expr)) h =
    ap₂ remainder (value_of-same f g a (each_left (λ l. f l ≡ g l) (parameters a) (parameters b) h)) (value_of-same f g b (each_right (λ l. f l ≡ g l) (parameters a) (parameters b) h))
value_of-same f g (Floor' s (more_of-Expr a end_of-Expr) t (more_of-Expr b end_of-Expr)) h =
    ap₂ floor_quotient (value_of-same f g a (each_left (λ l. f l ≡ g l) (parameters a) (parameters b) h)) (value_of-same f g b (each_right (λ l. f l ≡ g l) (parameters a) (parameters b) h))
value_of-same f g (Ceil' s (more_of-Expr a end_of-Expr) t (more_of-Expr b end_of-Expr)) h =
    ap₂ ceil_quotient (value_of-same f g a (each_left (λ l. f l ≡ g l) (parameters a) (parameters b) h)) (value_of-same f g b (each_right (λ l. f l ≡ g l) (parameters a) (parameters b) h))

-- ---- parameters
pub parameters-renamed : (f : Leaf → Leaf) (e : Expr) → parameters (renamed f e) ≡ map f (parameters e)
unfolding parameters renamed shape-the_row-Expr-0 hidden-the_row-Expr-0 hidden
parameters-renamed f (Param leaf) = refl
parameters-renamed f (Const z) = refl
parameters-renamed f (Neg' s (more_of-Expr a end_of-Expr)) = parameters-renamed f a
parameters-renamed f (Add' s (more_of-Expr a end_of-Expr) t (more_of-Expr b end_of-Expr)) =
    ap₂ ◌++◌ (parameters-renamed f a) (parameters-renamed f b) ∙ sym (map-append f (parameters a) (parameters b))
parameters-renamed f (Sub' s (more_of-Expr a end_of-Expr) t (more_of-Expr b end_of-Expr)) =
    ap₂ ◌++◌ (parameters-renamed f a) (parameters-renamed f b) ∙ sym (map-append f (parameters a) (parameters b))
parameters-renamed f (Mul' s (more_of-Expr a end_of-Expr) t (more_of-Expr b end_of-Expr)) =
    ap₂ ◌++◌ (parameters-renamed f a) (parameters-renamed f b) ∙ sym (map-append f (parameters a) (parameters b))
parameters-renamed f (Mod' s (more_of-Expr a end_of-Expr) t (more_of-Expr b end_of-Expr)) =
    ap₂ ◌++◌ (parameters-renamed f a) (parameters-renamed f b) ∙ sym (map-append f (parameters a) (parameters b))
parameters-renamed f (Floor' s (more_of-Expr a end_of-Expr) t (more_of-Expr b end_of-Expr)) =
    ap₂ ◌++◌ (parameters-renamed f a) (parameters-renamed f b) ∙ sym (map-append f (parameters a) (parameters b))
parameters-renamed f (Ceil' s (more_of-Expr a end_of-Expr) t (more_of-Expr b end_of-Expr)) =
    ap₂ ◌++◌ (parameters-renamed f a) (parameters-renamed f b) ∙ sym (map-append f (parameters a) (parameters b))

-- new names that are the old ones
pub renamed-same : (f : Leaf → Leaf) (e : Expr) → AllByRecursion (λ l. f l ≡ l) (parameters e) → renamed f e ≡ e
unfolding parameters renamed shape-the_row-Expr-0 hidden-the_row-Expr-0 hidden
renamed-same f (Param leaf) h = ap expr.Param h.0
renamed-same f (Const z) h = refl
renamed-same f (Neg' s (more_of-Expr a end_of-Expr)) h = ap expr.Neg (renamed-same f a h)
renamed-same f (Add' s (more_of-Expr a end_of-Expr) t (more_of-Expr b end_of-Expr)) h =
    ap₂ expr.Add (renamed-same f a (each_left (λ l. f l ≡ l) (parameters a) (parameters b) h)) (renamed-same f b (each_right (λ l. f l ≡ l) (parameters a) (parameters b) h))
renamed-same f (Sub' s (more_of-Expr a end_of-Expr) t (more_of-Expr b end_of-Expr)) h =
    ap₂ expr.Sub (renamed-same f a (each_left (λ l. f l ≡ l) (parameters a) (parameters b) h)) (renamed-same f b (each_right (λ l. f l ≡ l) (parameters a) (parameters b) h))
renamed-same f (Mul' s (more_of-Expr a end_of-Expr) t (more_of-Expr b end_of-Expr)) h =
    ap₂ expr.Mul (renamed-same f a (each_left (λ l. f l ≡ l) (parameters a) (parameters b) h)) (renamed-same f b (each_right (λ l. f l ≡ l) (parameters a) (parameters b) h))
renamed-same f (Mod' s (more_of-Expr a end_of-Expr) t (more_of-Expr b end_of-Expr)) h =
    ap₂ expr.Mod (renamed-same f a (each_left (λ l. f l ≡ l) (parameters a) (parameters b) h)) (renamed-same f b (each_right (λ l. f l ≡ l) (parameters a) (parameters b) h))
renamed-same f (Floor' s (more_of-Expr a end_of-Expr) t (more_of-Expr b end_of-Expr)) h =
    ap₂ expr.Floor (renamed-same f a (each_left (λ l. f l ≡ l) (parameters a) (parameters b) h)) (renamed-same f b (each_right (λ l. f l ≡ l) (parameters a) (parameters b) h))
renamed-same f (Ceil' s (more_of-Expr a end_of-Expr) t (more_of-Expr b end_of-Expr)) h =
    ap₂ expr.Ceil (renamed-same f a (each_left (λ l. f l ≡ l) (parameters a) (parameters b) h)) (renamed-same f b (each_right (λ l. f l ≡ l) (parameters a) (parameters b) h))

-- ---- limits
node_count-renamed : (f : Leaf → Leaf) (e : Expr) → node_count (renamed f e) ≡ node_count e
unfolding node_count renamed shape-the_row-Expr-0 hidden-the_row-Expr-0 hidden
node_count-renamed f (Param leaf) = refl
node_count-renamed f (Const z) = refl
node_count-renamed f (Neg' s (more_of-Expr a end_of-Expr)) = ap (◌+ 1) (node_count-renamed f a)
node_count-renamed f (Add' s (more_of-Expr a end_of-Expr) t (more_of-Expr b end_of-Expr)) = ap₂ (λ m n. m + n + 1) (node_count-renamed f a) (node_count-renamed f b)
node_count-renamed f (Sub' s (more_of-Expr a end_of-Expr) t (more_of-Expr b end_of-Expr)) = ap₂ (λ m n. m + n + 1) (node_count-renamed f a) (node_count-renamed f b)
node_count-renamed f (Mul' s (more_of-Expr a end_of-Expr) t (more_of-Expr b end_of-Expr)) = ap₂ (λ m n. m + n + 1) (node_count-renamed f a) (node_count-renamed f b)
node_count-renamed f (Mod' s (more_of-Expr a end_of-Expr) t (more_of-Expr b end_of-Expr)) = ap₂ (λ m n. m + n + 1) (node_count-renamed f a) (node_count-renamed f b)
node_count-renamed f (Floor' s (more_of-Expr a end_of-Expr) t (more_of-Expr b end_of-Expr)) = ap₂ (λ m n. m + n + 1) (node_count-renamed f a) (node_count-renamed f b)
node_count-renamed f (Ceil' s (more_of-Expr a end_of-Expr) t (more_of-Expr b end_of-Expr)) = ap₂ (λ m n. m + n + 1) (node_count-renamed f a) (node_count-renamed f b)

has_parameter-renamed : (f : Leaf → Leaf) (e : Expr) → has_parameter (renamed f e) ≡ has_parameter e
unfolding has_parameter renamed shape-the_row-Expr-0 hidden-the_row-Expr-0 hidden
has_parameter-renamed f (Param leaf) = refl
has_parameter-renamed f (Const z) = refl
has_parameter-renamed f (Neg' s (more_of-Expr a end_of-Expr)) = has_parameter-renamed f a
has_parameter-renamed f (Add' s (more_of-Expr a end_of-Expr) t (more_of-Expr b end_of-Expr)) = ap₂ ◌||◌ (has_parameter-renamed f a) (has_parameter-renamed f b)
has_parameter-renamed f (Sub' s (more_of-Expr a end_of-Expr) t (more_of-Expr b end_of-Expr)) = ap₂ ◌||◌ (has_parameter-renamed f a) (has_parameter-renamed f b)
has_parameter-renamed f (Mul' s (more_of-Expr a end_of-Expr) t (more_of-Expr b end_of-Expr)) = ap₂ ◌||◌ (has_parameter-renamed f a) (has_parameter-renamed f b)
has_parameter-renamed f (Mod' s (more_of-Expr a end_of-Expr) t (more_of-Expr b end_of-Expr)) = ap₂ ◌||◌ (has_parameter-renamed f a) (has_parameter-renamed f b)
has_parameter-renamed f (Floor' s (more_of-Expr a end_of-Expr) t (more_of-Expr b end_of-Expr)) = ap₂ ◌||◌ (has_parameter-renamed f a) (has_parameter-renamed f b)
has_parameter-renamed f (Ceil' s (more_of-Expr a end_of-Expr) t (more_of-Expr b end_of-Expr)) = ap₂ ◌||◌ (has_parameter-renamed f a) (has_parameter-renamed f b)

-- where all parameters are 0, their names don't count
no_values : (k l : Leaf) → leaves [] [] k ≡ leaves [] [] l
no_values (Dim j) (Dim k) = refl
no_values (Dim j) (Sym k) = refl
no_values (Sym j) (Dim k) = refl
no_values (Sym j) (Sym k) = refl

each_any : {X : Type 0} (P : X → Type 0) → ((x : X) → P x) → (xs : List X) → AllByRecursion P xs
each_any P h [] = tt
each_any P h (x ∷ xs) = (h x, each_any P h xs)

constant_value-renamed : (f : Leaf → Leaf) (e : Expr) → constant_value (renamed f e) ≡ constant_value e
constant_value-renamed f e =
    value_of-renamed (leaves [] []) f e
    ∙ value_of-same (λ l. leaves [] [] (f l)) (leaves [] []) e
    (each_any (λ l. leaves [] [] (f l) ≡ leaves [] [] l) (λ l. no_values (f l) l) (parameters e))

bound_of-renamed : (f : Leaf → Leaf) (e : Expr) → bound_of (renamed f e) ≡ bound_of e
unfolding bound_of renamed shape-the_row-Expr-0 hidden-the_row-Expr-0 hidden
bound_of-renamed f (Param leaf) = refl
bound_of-renamed f (Const z) = refl
bound_of-renamed f (Neg' s (more_of-Expr a end_of-Expr)) = bound_of-renamed f a
bound_of-renamed f (Add' s (more_of-Expr a end_of-Expr) t (more_of-Expr b end_of-Expr)) = ap₂ ◌+◌ (bound_of-renamed f a) (bound_of-renamed f b)
bound_of-renamed f (Sub' s (more_of-Expr a end_of-Expr) t (more_of-Expr b end_of-Expr)) = ap₂ ◌+◌ (bound_of-renamed f a) (bound_of-renamed f b)
bound_of-renamed f (Mul' s (more_of-Expr a end_of-Expr) t (more_of-Expr b end_of-Expr)) = ap₂ ◌*◌ (bound_of-renamed f a) (bound_of-renamed f b)
bound_of-renamed f (Mod' s (more_of-Expr a end_of-Expr) t (more_of-Expr b end_of-Expr)) = ap unsigned_abs (constant_value-renamed f b)
bound_of-renamed f (Floor' s (more_of-Expr a end_of-Expr) t (more_of-Expr b end_of-Expr)) = ap (◌+ 1) (bound_of-renamed f a)
bound_of-renamed f (Ceil' s (more_of-Expr a end_of-Expr) t (more_of-Expr b end_of-Expr)) = ap (◌+ 1) (bound_of-renamed f a)

divisor-renamed : (f : Leaf → Leaf) (e : Expr) → IsDivisor (renamed f e) ≡ IsDivisor e
divisor-renamed f e = ap₂ (λ b z. IsFalse b × (pos 1 ≤ℤ z)) (has_parameter-renamed f e) (constant_value-renamed f e)

affine-renamed : (f : Leaf → Leaf) (e : Expr) → IsAffine (renamed f e) ≡ IsAffine e
unfolding IsAffine renamed shape-the_row-Expr-0 hidden-the_row-Expr-0 hidden
affine-renamed f (Param leaf) = refl
affine-renamed f (Const z) = refl
affine-renamed f (Neg' s (more_of-Expr a end_of-Expr)) = affine-renamed f a
affine-renamed f (Add' s (more_of-Expr a end_of-Expr) t (more_of-Expr b end_of-Expr)) = ap₂ (λ A B. A × B) (affine-renamed f a) (affine-renamed f b)
affine-renamed f (Sub' s (more_of-Expr a end_of-Expr) t (more_of-Expr b end_of-Expr)) = ap₂ (λ A B. A × B) (affine-renamed f a) (affine-renamed f b)
affine-renamed f (Mul' s (more_of-Expr a end_of-Expr) t (more_of-Expr b end_of-Expr)) =
    ap₂ (λ A B. A × B × (IsFalse (has_parameter (renamed f a)) ⊎ IsFalse (has_parameter (renamed f b)))) (affine-renamed f a) (affine-renamed f b)
    ∙ ap₂ (λ x y. IsAffine a × IsAffine b × (IsFalse x ⊎ IsFalse y)) (has_parameter-renamed f a) (has_parameter-renamed f b)
affine-renamed f (Mod' s (more_of-Expr a end_of-Expr) t (more_of-Expr b end_of-Expr)) =
    ap₂ (λ A B. A × B × IsDivisor (renamed f b)) (affine-renamed f a) (affine-renamed f b)
    ∙ ap (λ D. IsAffine a × IsAffine b × D) (divisor-renamed f b)
affine-renamed f (Floor' s (more_of-Expr a end_of-Expr) t (more_of-Expr b end_of-Expr)) =
    ap₂ (λ A B. A × B × IsDivisor (renamed f b)) (affine-renamed f a) (affine-renamed f b)
    ∙ ap (λ D. IsAffine a × IsAffine b × D) (divisor-renamed f b)
affine-renamed f (Ceil' s (more_of-Expr a end_of-Expr) t (more_of-Expr b end_of-Expr)) =
    ap₂ (λ A B. A × B × IsDivisor (renamed f b)) (affine-renamed f a) (affine-renamed f b)
    ∙ ap (λ D. IsAffine a × IsAffine b × D) (divisor-renamed f b)

within-renamed : (f : Leaf → Leaf) (e : Expr) → IsWithin (renamed f e) ≡ IsWithin e
unfolding IsWithin renamed shape-the_row-Expr-0 hidden-the_row-Expr-0 hidden
within-renamed f (Param leaf) = refl
within-renamed f (Const z) = refl
within-renamed f (Neg' s (more_of-Expr a end_of-Expr)) = within-renamed f a
within-renamed f (Add' s (more_of-Expr a end_of-Expr) t (more_of-Expr b end_of-Expr)) =
    ap₂ (λ A B. A × B × (bound_of (renamed f a) + bound_of (renamed f b) ≤ 2 ^ 110)) (within-renamed f a) (within-renamed f b)
    ∙ ap₂ (λ m n. IsWithin a × IsWithin b × (m + n ≤ 2 ^ 110)) (bound_of-renamed f a) (bound_of-renamed f b)
within-renamed f (Sub' s (more_of-Expr a end_of-Expr) t (more_of-Expr b end_of-Expr)) =
    ap₂ (λ A B. A × B × (bound_of (renamed f a) + bound_of (renamed f b) ≤ 2 ^ 110)) (within-renamed f a) (within-renamed f b)
    ∙ ap₂ (λ m n. IsWithin a × IsWithin b × (m + n ≤ 2 ^ 110)) (bound_of-renamed f a) (bound_of-renamed f b)
within-renamed f (Mul' s (more_of-Expr a end_of-Expr) t (more_of-Expr b end_of-Expr)) =
    ap₂ (λ A B. A × B × (bound_of (renamed f a) * bound_of (renamed f b) ≤ 2 ^ 110)) (within-renamed f a) (within-renamed f b)
    ∙ ap₂ (λ m n. IsWithin a × IsWithin b × (m * n ≤ 2 ^ 110)) (bound_of-renamed f a) (bound_of-renamed f b)
within-renamed f (Mod' s (more_of-Expr a end_of-Expr) t (more_of-Expr b end_of-Expr)) =
    ap₂ (λ A B. A × B × (unsigned_abs (constant_value (renamed f b)) ≤ 2 ^ 110)) (within-renamed f a) (within-renamed f b)
    ∙ ap (λ z. IsWithin a × IsWithin b × (unsigned_abs z ≤ 2 ^ 110)) (constant_value-renamed f b)
within-renamed f (Floor' s (more_of-Expr a end_of-Expr) t (more_of-Expr b end_of-Expr)) =
    ap₂ (λ A B. A × B × (bound_of (renamed f a) + 1 ≤ 2 ^ 110)) (within-renamed f a) (within-renamed f b)
    ∙ ap (λ n. IsWithin a × IsWithin b × (n + 1 ≤ 2 ^ 110)) (bound_of-renamed f a)
within-renamed f (Ceil' s (more_of-Expr a end_of-Expr) t (more_of-Expr b end_of-Expr)) =
    ap₂ (λ A B. A × B × (bound_of (renamed f a) + 1 ≤ 2 ^ 110)) (within-renamed f a) (within-renamed f b)
    ∙ ap (λ n. IsWithin a × IsWithin b × (n + 1 ≤ 2 ^ 110)) (bound_of-renamed f a)

-- types that are the same hold together
both_ways : (A B : Type 0) → A ≡ B → A ↔ B
both_ways A B h = (subst (λ C. A → C) h (λ x. x), subst (λ C. C → A) h (λ x. x))

pub renamed-limits-law : RenamedLimitsLaw
renamed-limits-law f e =
    (node_count-renamed f e, both_ways _ _ (affine-renamed f e), bound_of-renamed f e, both_ways _ _ (within-renamed f e))

-- ---- a whole map
admissible-renamed : (f : Leaf → Leaf) (e : Expr) → Admissible (renamed f e) ≡ Admissible e
admissible-renamed f e =
    ap (λ n. (n ≤ 64) × IsAffine (renamed f e) × IsWithin (renamed f e)) (node_count-renamed f e)
    ∙ ap₂ (λ A B. (node_count e ≤ 64) × A × B) (affine-renamed f e) (within-renamed f e)

each_admissible : (f : Leaf → Leaf) (es : List Expr) → AllByRecursion Admissible (map (renamed f) es) ≡ AllByRecursion Admissible es
each_admissible f [] = refl
each_admissible f (e ∷ es) = ap₂ (λ A B. A × B) (admissible-renamed f e) (each_admissible f es)

pub normalised-limits-law : NormalisedLimitsLaw
normalised-limits-law m operands =
    let f : Leaf → Leaf = parameter_for (by_kind m operands) (occurring (by_kind m operands) m.results) in
    let same = both_ways _ _ (each_admissible f m.results) in (
      λ h. All-from_recursion Admissible m.results (same.0 (recursion_from_All Admissible (map (renamed f) m.results) h)),
      λ h. All-from_recursion Admissible (map (renamed f) m.results) (same.1 (recursion_from_All Admissible m.results h)),
    )
