-- Linear forms: what they are worth, when they are equal, and the form of an expression.
use Rattle.std.specs.Prelude.{◌≡◌, ℤ, pos, negsuc, ◌+ℤ◌, ◌*ℤ◌, List, [], ◌∷◌, Bool, true, false, ◌&&◌, ◌==◌, nat_lt, if◌then◌else◌}
use Rattle.std.specs.Ordering.{int_eq}
use Rattle.av_affine.specs.declared.expression.Leaf.{Leaf}
use Rattle.av_affine.specs.declared.expression.Leaf.TheVariants.{Dim, Sym}
use Rattle.av_affine.specs.declared.expression.Expr.{Expr, Param, Const, Neg', Add', Sub', Mul', Mod', Floor', Ceil', end_of-Expr, more_of-Expr}
use Rattle.av_affine.specs.declared.linear.DivKind.{DivKind}
use Rattle.av_affine.specs.declared.linear.DivKind.TheVariants.{Mod, Floor, Ceil}
use Rattle.av_affine.specs.declared.linear.Term.{Term}
use Rattle.av_affine.specs.declared.linear.Linear.{Linear, Linear', Linear-F, Row_of-Opaque, end_of-Opaque, more_of-Opaque, roll-Linear}
use Rattle.av_affine.specs.declared.linear.Opaque.{Opaque, Opaque'}
use Rattle.av_affine.specs.Values.{floor_quotient, ceil_quotient, remainder, value_of}
use Rattle.av_affine.specs.Limits.{IsAffine}

-- ---- values

-- what a division gives
abbrev pub divide : DivKind → ℤ → ℤ → ℤ
divide Mod x d = remainder x d
divide Floor x d = floor_quotient x d
divide Ceil x d = ceil_quotient x d

-- the sum of factor times parameter
unfoldable pub terms_value : (Leaf → ℤ) → List Term → ℤ
terms_value at [] = pos 0
terms_value at (t ∷ ts) = at t.leaf *ℤ t.factor +ℤ terms_value at ts

-- the value of a form: the sum of its terms, of factor times opaque value, and of the constant
unfoldable mutual
  pub form_value : (Leaf → ℤ) → Linear → ℤ
  form_value at (Linear' terms s row constant) = terms_value at terms +ℤ row_value at row +ℤ constant

  pub opaque_value : (Leaf → ℤ) → Opaque → ℤ
  opaque_value at (Opaque' kind inner by factor) = divide kind (form_value at inner) by *ℤ factor

  pub row_value : (Leaf → ℤ) → {m : _} → Row_of-Opaque m → ℤ
  row_value at end_of-Opaque = pos 0
  row_value at (more_of-Opaque o rest) = opaque_value at o +ℤ row_value at rest

-- the same sum over a list
unfoldable pub opaques_value : (Leaf → ℤ) → List Opaque → ℤ
opaques_value at [] = pos 0
opaques_value at (o ∷ os) = opaque_value at o +ℤ opaques_value at os

-- ---- equal forms

abbrev pub same_leaf : Leaf → Leaf → Bool
same_leaf (Dim j) (Dim k) = j == k
same_leaf (Dim j) (Sym k) = false
same_leaf (Sym j) (Dim k) = false
same_leaf (Sym j) (Sym k) = j == k

abbrev pub same_kind : DivKind → DivKind → Bool
same_kind Mod Mod = true
same_kind Mod Floor = false
same_kind Mod Ceil = false
same_kind Floor Mod = false
same_kind Floor Floor = true
same_kind Floor Ceil = false
same_kind Ceil Mod = false
same_kind Ceil Floor = false
same_kind Ceil Ceil = true

-- two lists of one length whose elements pass the test, place by place
unfoldable pub all_same : {A : Type 0} → (A → A → Bool) → List A → List A → Bool
all_same test [] [] = true
all_same test [] (y ∷ ys) = false
all_same test (x ∷ xs) [] = false
all_same test (x ∷ xs) (y ∷ ys) = test x y && all_same test xs ys

abbrev pub same_term : Term → Term → Bool
same_term t u = same_leaf t.leaf u.leaf && int_eq t.factor u.factor

abbrev pub same_terms : List Term → List Term → Bool
same_terms ts us = all_same same_term ts us

-- the same terms, opaque terms and constants, in the same order
unfoldable mutual
  pub same_form : Linear → Linear → Bool
  same_form (Linear' ts s row c) (Linear' us t other d) = same_terms ts us && (same_row row other && int_eq c d)

  pub same_opaque : Opaque → Opaque → Bool
  same_opaque (Opaque' k l d f) (Opaque' j m e g) =
      int_eq f g && (same_kind k j && (int_eq d e && same_form l m))

  pub same_row : {m n : _} → Row_of-Opaque m → Row_of-Opaque n → Bool
  same_row end_of-Opaque end_of-Opaque = true
  same_row end_of-Opaque (more_of-Opaque p others) = false
  same_row (more_of-Opaque o rest) end_of-Opaque = false
  same_row (more_of-Opaque o rest) (more_of-Opaque p others) = same_opaque o p && same_row rest others

-- equal but for their factors
unfoldable pub same_division : Opaque → Opaque → Bool
same_division (Opaque' k l d f) (Opaque' j m e g) = same_kind k j && (int_eq d e && same_form l m)

-- ---- sums and multiples of forms

-- the parts of a form
abbrev pub Parts : Type 0
Parts = Linear-F Linear Opaque

abbrev pub constant_parts : ℤ → Parts
constant_parts z = record { terms = []; opaque = []; constant = z }

-- the order of terms: dimensions first
abbrev pub is_before : Leaf → Leaf → Bool
is_before (Dim j) (Dim k) = nat_lt j k
is_before (Dim j) (Sym k) = true
is_before (Sym j) (Dim k) = false
is_before (Sym j) (Sym k) = nat_lt j k

-- a term before others, left out where its factor is zero
abbrev pub term_unless_zero : Leaf → ℤ → List Term → List Term
term_unless_zero leaf f ts = if int_eq f (pos 0) then ts else (record { leaf = leaf; factor = f } ∷ ts)

-- the opaque term with another factor before others, left out where that is zero
abbrev pub opaque_unless_zero : Opaque → ℤ → List Opaque → List Opaque
opaque_unless_zero (Opaque' k l d f) g os = if int_eq g (pos 0) then os else (Opaque' k l d g ∷ os)

abbrev pub factor_of : Opaque → ℤ
factor_of (Opaque' k l d f) = f

-- a term added at its place
unfoldable pub add_term : Term → List Term → List Term
add_term u [] = u ∷ []
add_term u (t ∷ ts) =
    if same_leaf u.leaf t.leaf then term_unless_zero t.leaf (t.factor +ℤ u.factor) ts
    else (if is_before u.leaf t.leaf then u ∷ (t ∷ ts) else (t ∷ add_term u ts))

-- an opaque term added to the equal one, or put at the end
unfoldable pub add_opaque : Opaque → List Opaque → List Opaque
add_opaque o [] = o ∷ []
add_opaque o (p ∷ ps) =
    if same_division o p then opaque_unless_zero p (factor_of p +ℤ factor_of o) ps else (p ∷ add_opaque o ps)

unfoldable pub add_terms : List Term → List Term → List Term
add_terms ts [] = ts
add_terms ts (u ∷ us) = add_terms (add_term u ts) us

unfoldable pub add_opaques : List Opaque → List Opaque → List Opaque
add_opaques ps [] = ps
add_opaques ps (o ∷ os) = add_opaques (add_opaque o ps) os

unfoldable pub scale_terms : ℤ → List Term → List Term
scale_terms k [] = []
scale_terms k (t ∷ ts) = term_unless_zero t.leaf (t.factor *ℤ k) (scale_terms k ts)

unfoldable pub scale_opaques : ℤ → List Opaque → List Opaque
scale_opaques k [] = []
scale_opaques k (o ∷ os) = opaque_unless_zero o (factor_of o *ℤ k) (scale_opaques k os)

abbrev pub joined : Parts → Parts → Parts
joined p q = record {
  terms = add_terms p.terms q.terms;
  opaque = add_opaques p.opaque q.opaque;
  constant = p.constant +ℤ q.constant;
}

abbrev pub scaled : ℤ → Parts → Parts
scaled k p = record {
  terms = scale_terms k p.terms;
  opaque = scale_opaques k p.opaque;
  constant = p.constant *ℤ k;
}

-- a product by the side that is a constant
abbrev pub product_by : List Term → List Opaque → Parts → Parts → Parts
product_by [] [] p q = scaled q.constant p
product_by (t ∷ ts) os p q = scaled p.constant q
product_by [] (o ∷ os) p q = scaled p.constant q

-- a division of a constant is a constant, and any other an opaque term
abbrev pub division_of : List Term → List Opaque → DivKind → Parts → ℤ → Parts
division_of [] [] kind p d = constant_parts (divide kind p.constant d)
division_of (t ∷ ts) os kind p d =
    record { terms = []; opaque = Opaque' kind (roll-Linear p) d (pos 1) ∷ []; constant = pos 0 }
division_of [] (o ∷ os) kind p d =
    record { terms = []; opaque = Opaque' kind (roll-Linear p) d (pos 1) ∷ []; constant = pos 0 }

abbrev pub divided : DivKind → Parts → Parts → Parts
divided kind p q = division_of p.terms p.opaque kind p q.constant

-- ---- the form of an expression, made part by part
unfoldable pub parts_of : Expr → Parts
parts_of (Param leaf) = record { terms = record { leaf = leaf; factor = pos 1 } ∷ []; opaque = []; constant = pos 0 }
parts_of (Const z) = constant_parts z
parts_of (Neg' s (more_of-Expr a end_of-Expr)) = scaled (negsuc 0) (parts_of a)
parts_of (Add' s (more_of-Expr a end_of-Expr) t (more_of-Expr b end_of-Expr)) = joined (parts_of a) (parts_of b)
parts_of (Sub' s (more_of-Expr a end_of-Expr) t (more_of-Expr b end_of-Expr)) =
    joined (parts_of a) (scaled (negsuc 0) (parts_of b))
parts_of (Mul' s (more_of-Expr a end_of-Expr) t (more_of-Expr b end_of-Expr)) =
    product_by (parts_of b).terms (parts_of b).opaque (parts_of a) (parts_of b)
parts_of (Mod' s (more_of-Expr a end_of-Expr) t (more_of-Expr b end_of-Expr)) = divided Mod (parts_of a) (parts_of b)
parts_of (Floor' s (more_of-Expr a end_of-Expr) t (more_of-Expr b end_of-Expr)) = divided Floor (parts_of a) (parts_of b)
parts_of (Ceil' s (more_of-Expr a end_of-Expr) t (more_of-Expr b end_of-Expr)) = divided Ceil (parts_of a) (parts_of b)

unfoldable pub linear_form : Expr → Linear
linear_form e = roll-Linear (parts_of e)

-- the value of a form by its parts
abbrev pub parts_value : (Leaf → ℤ) → Parts → ℤ
parts_value at p = terms_value at p.terms +ℤ opaques_value at p.opaque +ℤ p.constant

-- the form of an affine expression has the expression's value, whatever the parameters are
abbrev pub FormValueLaw : Type 0
FormValueLaw = (e : Expr) → IsAffine e → (at : Leaf → ℤ) → form_value at (linear_form e) ≡ value_of at e
