-- The form of an expression is normal.
use Rattle.std.proofs.Common.{◌≡◌, List, [], ◌∷◌, refl, sym, subst}
use Rattle.std.specs.Prelude.{ℤ, pos, negsuc}
use Rattle.av_affine.specs.declared.expression.Expr.{Expr, Param, Const, Neg', Add', Sub', Mul', Mod', Floor', Ceil', end_of-Expr, more_of-Expr}
use Rattle.av_affine.specs.declared.linear.DivKind.{DivKind}
use Rattle.av_affine.specs.declared.linear.DivKind.TheVariants.{Mod, Floor, Ceil}
use Rattle.av_affine.specs.declared.linear.Term.{Term}
use Rattle.av_affine.specs.declared.linear.Linear.{Row_of-Opaque, end_of-Opaque, more_of-Opaque, items-the_row-Opaque, items_hidden-the_row-Opaque-0, roll-Linear, rolls-Linear', out-Linear, out-roll-Linear}
use Rattle.av_affine.specs.declared.linear.Linear.TheBlock.{hidden-the_row-Opaque-0}
use Rattle.av_affine.specs.declared.linear.Opaque.{Opaque, Opaque'}
use Rattle.av_affine.specs.Forms.{divide, Parts, constant_parts, joined, scaled, product_by, division_of, parts_of, linear_form}
use Rattle.av_affine_laws.specs.FormLaws.{NormalFormLaw}
use Rattle.av_affine_laws.specs.Normal.{Before, Sorted, Alone, Apart, Varies, Normal, NormalOpaque, NormalRow, NormalOpaques, NormalParts}
use Rattle.av_affine_laws.proofs.Steps.{add_terms-sorted, scale_terms-sorted, add_opaques-apart, add_opaques-normal, scale_opaques-apart, scale_opaques-normal}

-- ---- a form and its parts
row-normal : {m : _} (row : Row_of-Opaque m) → NormalOpaques (items-the_row-Opaque m row) → NormalRow row
unfolding NormalOpaques NormalRow
row-normal end_of-Opaque h = tt
row-normal (more_of-Opaque o rest) h = (h.0, row-normal rest h.1)

pub roll-normal : (p : Parts) → NormalParts p → Normal (roll-Linear p)
unfolding Normal
roll-normal p h =
    let same = sym (items_hidden-the_row-Opaque-0 p.opaque) in
    subst Normal (sym (rolls-Linear' p))
    (h.0, subst Apart same h.1, row-normal (hidden-the_row-Opaque-0 p.opaque) (subst NormalOpaques same h.2))

roll-varies : (p : Parts) → Varies p.terms p.opaque → Varies (out-Linear (roll-Linear p)).terms (out-Linear (roll-Linear p)).opaque
roll-varies p h = subst (λ q. Varies q.terms q.opaque) (sym (out-roll-Linear p)) h

-- ---- sums, multiples and divisions
joined-normal : (p q : Parts) → NormalParts p → NormalParts q → NormalParts (joined p q)
joined-normal p q h g =
    (add_terms-sorted p.terms q.terms h.0 g.0, add_opaques-apart p.opaque q.opaque h.1, add_opaques-normal p.opaque q.opaque h.2 g.2)

scaled-normal : (k : ℤ) (p : Parts) → NormalParts p → NormalParts (scaled k p)
scaled-normal k p h = (scale_terms-sorted k p.terms h.0, scale_opaques-apart k p.opaque h.1, scale_opaques-normal k p.opaque h.2)

product-normal : (ts : List Term) (os : List Opaque) (p q : Parts) → NormalParts p → NormalParts q → NormalParts (product_by ts os p q)
product-normal [] [] p q h g = scaled-normal q.constant p h
product-normal (t ∷ ts) os p q h g = scaled-normal p.constant q g
product-normal [] (o ∷ os) p q h g = scaled-normal p.constant q g

constant-normal : (z : ℤ) → NormalParts (constant_parts z)
unfolding Sorted Apart NormalOpaques
constant-normal z = (tt, tt, tt)

opaque-normal : (kind : DivKind) (p : Parts) (d : ℤ) → NormalParts p → Varies p.terms p.opaque
    → NormalParts (record { terms = []; opaque = Opaque' kind (roll-Linear p) d (pos 1) ∷ []; constant = pos 0 })
unfolding Sorted Alone Apart NormalOpaque NormalOpaques
opaque-normal kind p d h v = (tt, (tt, tt), ((refl, roll-normal p h, roll-varies p v), tt))

division-normal : (ts : List Term) (os : List Opaque) (kind : DivKind) (p : Parts) (d : ℤ) → ts ≡ p.terms → os ≡ p.opaque
    → NormalParts p → NormalParts (division_of ts os kind p d)
unfolding Varies
division-normal [] [] kind p d e f h = constant-normal (divide kind p.constant d)
division-normal (t ∷ ts) os kind p d e f h = opaque-normal kind p d h (subst (λ us. Varies us p.opaque) e tt)
division-normal [] (o ∷ os) kind p d e f h =
    opaque-normal kind p d h (subst (λ us. Varies us p.opaque) e (subst (λ ps. Varies [] ps) f tt))

pub normal-parts : (e : Expr) → NormalParts (parts_of e)
unfolding parts_of Before Sorted Apart NormalOpaques
normal-parts (Param leaf) = ((refl, tt, tt), tt, tt)
normal-parts (Const z) = constant-normal z
normal-parts (Neg' s (more_of-Expr a end_of-Expr)) = scaled-normal (negsuc 0) (parts_of a) (normal-parts a)
normal-parts (Add' s (more_of-Expr a end_of-Expr) t (more_of-Expr b end_of-Expr)) =
    joined-normal (parts_of a) (parts_of b) (normal-parts a) (normal-parts b)
normal-parts (Sub' s (more_of-Expr a end_of-Expr) t (more_of-Expr b end_of-Expr)) =
    joined-normal (parts_of a) (scaled (negsuc 0) (parts_of b)) (normal-parts a) (scaled-normal (negsuc 0) (parts_of b) (normal-parts b))
normal-parts (Mul' s (more_of-Expr a end_of-Expr) t (more_of-Expr b end_of-Expr)) =
    product-normal (parts_of b).terms (parts_of b).opaque (parts_of a) (parts_of b) (normal-parts a) (normal-parts b)
normal-parts (Mod' s (more_of-Expr a end_of-Expr) t (more_of-Expr b end_of-Expr)) =
    division-normal (parts_of a).terms (parts_of a).opaque Mod (parts_of a) (parts_of b).constant refl refl (normal-parts a)
normal-parts (Floor' s (more_of-Expr a end_of-Expr) t (more_of-Expr b end_of-Expr)) =
    division-normal (parts_of a).terms (parts_of a).opaque Floor (parts_of a) (parts_of b).constant refl refl (normal-parts a)
normal-parts (Ceil' s (more_of-Expr a end_of-Expr) t (more_of-Expr b end_of-Expr)) =
    division-normal (parts_of a).terms (parts_of a).opaque Ceil (parts_of a) (parts_of b).constant refl refl (normal-parts a)

pub normal-form-law : NormalFormLaw
unfolding linear_form
normal-form-law e = roll-normal (parts_of e) (normal-parts e)
