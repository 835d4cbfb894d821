-- Types that are the same are equal.
use Rattle.std.proofs.Common.{◌≡◌, ◌∙◌, ap, sym, subst, ℕ, List, [], ◌∷◌, if◌then◌else◌, Bool, true, false, refl, arith, nat_eq, ◌&&◌}
use Rattle.std.specs.Prelude.{◌==◌}
use Rattle.std.specs.Bool.{beq}
use Rattle.std.specs.Cmp.Lexicographic.{pointwise}
use Rattle.std.proofs.lemmas.Bool.Decides.{nat_tests}
use Rattle.av_bits.specs.declared.types.Width.{Width}
use Rattle.av_bits.specs.declared.types.Width.TheVariants.{W1, W8, W16, W32, W64}
use Rattle.av_bits.specs.Pattern.{bits_of}
use Rattle.av_ir.specs.declared.ty.Elem.{Elem}
use Rattle.av_ir.specs.declared.ty.Elem.TheVariants.{Int, Index}
use Rattle.av_ir.specs.declared.ty.Extent.{Extent}
use Rattle.av_ir.specs.declared.ty.Extent.TheVariants.{Fixed, Dyn}
use Rattle.av_ir.specs.declared.ty.Ty.{Ty}
use Rattle.av_ir.specs.declared.ty.Ty.TheVariants.{Scalar, MemRef, Vector}
use Rattle.av_shapes.specs.Shape.{ShapeView, shape_eq}
use Rattle.av_types.specs.Relations.{is_elem, is_extent, same_elements, same_sizes, same_type}
use Rattle.av_types.specs.RelationLaws.{SameTypeLaw}

-- the width of so many bits
width_of : ℕ → Width
width_of n = if n == 1 then W1 else (if n == 8 then W8 else (if n == 16 then W16 else (if n == 32 then W32 else W64)))

width_back : (w : Width) → width_of (bits_of w) ≡ w
unfolding width_of
width_back W1 = refl
width_back W8 = refl
width_back W16 = refl
width_back W32 = refl
width_back W64 = refl

same_width : (v w : Width) → bits_of v ≡ bits_of w → v ≡ w
same_width v w e = sym (width_back v) ∙ ap width_of e ∙ width_back w

equal_tests : (n m : ℕ) → (n == m) ≡ true → n ≡ m
equal_tests n m h = grind (arith, nat_tests)

test_itself : (n : ℕ) → (n == n) ≡ true
test_itself n = grind (arith, nat_tests)

same_elem : (a b : Elem) → is_elem a b ≡ true → a ≡ b
same_elem Index Index h = refl
same_elem Index (Int w) h = absurd (cc)
same_elem (Int v) Index h = absurd (cc)
same_elem (Int v) (Int w) h = ap (λ x. Int x) (same_width v w (equal_tests (bits_of v) (bits_of w) h))

elem_itself : (a : Elem) → is_elem a a ≡ true
elem_itself Index = refl
elem_itself (Int w) = test_itself (bits_of w)

same_extent : (a b : Extent) → is_extent a b ≡ true → a ≡ b
same_extent (Fixed n) (Fixed m) h = ap (λ x. Fixed x) (equal_tests n m h)
same_extent (Fixed n) Dyn h = absurd (cc)
same_extent Dyn (Fixed m) h = absurd (cc)
same_extent Dyn Dyn h = refl

extent_itself : (a : Extent) → is_extent a a ≡ true
extent_itself (Fixed n) = test_itself n
extent_itself Dyn = refl

-- lists are equal where they are alike in each place
same_list : {A : Type 0} (E : A → A → Bool) → ((a b : A) → E a b ≡ true → a ≡ b) → (xs ys : List A) → pointwise E xs ys ≡ true → xs ≡ ys
same_list E same [] [] h = refl
same_list E same [] (y ∷ ys) h = absurd (cc)
same_list E same (x ∷ xs) [] h = absurd (cc)
same_list E same (x ∷ xs) (y ∷ ys) h =
    let here : E x y ≡ true = grind arith in
    let there : pointwise E xs ys ≡ true = grind arith in
    ap (λ z. z ∷ xs) (same x y here) ∙ ap (λ zs. y ∷ zs) (same_list E same xs ys there)

list_itself : {A : Type 0} (E : A → A → Bool) → ((a : A) → E a a ≡ true) → (xs : List A) → pointwise E xs xs ≡ true
list_itself E same [] = refl
list_itself E same (x ∷ xs) = grind (arith, same x, list_itself E same xs)

same_bool : (a b : Bool) → beq a b ≡ true → a ≡ b
same_bool a b h = grind arith

bool_itself : (a : Bool) → beq a a ≡ true
bool_itself true = refl
bool_itself false = refl

same_shape : (a b : ShapeView) → shape_eq a b ≡ true → a ≡ b
same_shape a b h =
    let sizes : pointwise nat_eq a.sizes b.sizes ≡ true = grind arith in
    let scalable : beq a.scalable b.scalable ≡ true = grind arith in
    ap (λ (s : List ℕ). record { sizes = s; scalable = a.scalable }) (same_list nat_eq equal_tests a.sizes b.sizes sizes)
    ∙ ap (λ (s : Bool). record { sizes = b.sizes; scalable = s }) (same_bool a.scalable b.scalable scalable)

shape_itself : (a : ShapeView) → shape_eq a a ≡ true
shape_itself a = grind (arith, list_itself nat_eq test_itself a.sizes, bool_itself a.scalable)

first_holds : (a b : Bool) → (a && b) ≡ true → a ≡ true
first_holds a b h = grind arith

second_holds : (a b : Bool) → (a && b) ≡ true → b ≡ true
second_holds a b h = grind arith

both_hold : (a b : Bool) → a ≡ true → b ≡ true → (a && b) ≡ true
both_hold a b h g = grind arith

same : (a b : Ty) → same_sizes a b ≡ true → same_elements a b ≡ true → a ≡ b
same (Scalar x) (Scalar y) h g = ap (λ e. Scalar e) (same_elem x y g)
same (Scalar x) (MemRef ts y) h g = absurd (cc)
same (Scalar x) (Vector t y) h g = absurd (cc)
same (MemRef ss x) (Scalar y) h g = absurd (cc)
same (MemRef ss x) (MemRef ts y) h g =
    ap (λ zs. MemRef zs x) (same_list is_extent same_extent ss ts h) ∙ ap (λ e. MemRef ts e) (same_elem x y g)
same (MemRef ss x) (Vector t y) h g = absurd (cc)
same (Vector s x) (Scalar y) h g = absurd (cc)
same (Vector s x) (MemRef ts y) h g = absurd (cc)
same (Vector s x) (Vector t y) h g = ap (λ z. Vector z x) (same_shape s t h) ∙ ap (λ e. Vector t e) (same_elem x y g)

itself : (a : Ty) → same_type a a ≡ true
itself (Scalar x) = elem_itself x
itself (MemRef ss x) = both_hold (pointwise is_extent ss ss) (is_elem x x) (list_itself is_extent extent_itself ss) (elem_itself x)
itself (Vector s x) = both_hold (shape_eq s s) (is_elem x x) (shape_itself s) (elem_itself x)

pub same_type_law : SameTypeLaw
same_type_law a b = (
  (λ h. same a b (first_holds (same_sizes a b) (same_elements a b) h) (second_holds (same_sizes a b) (same_elements a b) h)),
  (λ e. subst (λ t. same_type a t ≡ true) e (itself a)),
)
