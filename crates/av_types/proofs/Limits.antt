-- The types that written types are, are within the limits.
use Rattle.std.proofs.Common.{◌≡◌, ℕ, ◌<◌, ◌≤◌, Bool, true, false, ◌&&◌, if◌then◌else◌, List, [], ◌∷◌, length, get_or, map, Option, Some, None, refl, subst, arith, zero, suc}
use Rattle.std.specs.Prelude.{nat_le, is_none}
use Rattle.std.specs.List.{list_all}
use Rattle.std.specs.Option.{option_map}
use Rattle.std.proofs.lemmas.Bool.Decides.{nat_tests}
use Rattle.std.proofs.lemmas.List.{length-map}
use Rattle.av_ir.specs.declared.ty.Elem.{Elem}
use Rattle.av_ir.specs.declared.ty.Extent.{Extent}
use Rattle.av_ir.specs.declared.ty.Ty.{Ty}
use Rattle.av_ir.specs.declared.ty.Ty.TheVariants as ty
use Rattle.av_tree.specs.declared.written.SizeText.{SizeText}
use Rattle.av_tree.specs.declared.written.SizeText.TheVariants as size
use Rattle.av_tree.specs.declared.written.LayoutText.{LayoutText}
use Rattle.av_tree.specs.declared.written.TypeText.{Scalar, MemRef, Vector}
use Rattle.av_types.specs.Texts.{elem_of, is_small, is_type}
use Rattle.av_types.specs.Types.{extent_of, is_taken, named_type, shape_of}
use Rattle.av_types.specs.TypeLaws.{IsSmall, IsWithinLimits, TypeLimitsLaw}
use Rattle.av_types.proofs.Sizes.{taken_sizes}

-- a type that is taken, with what was asked of it
taken : (b : Bool) (o : Option Ty) (t : Ty) → (if b then o else None) ≡ Some t → (b ≡ true) × (o ≡ Some t)
taken true o t h = (refl, h)
taken false o t h = absurd (cc)

mapped : (f : Elem → Ty) (o : Option Elem) (t : Ty) → option_map f o ≡ Some t → (e : Elem) × (f e ≡ t)
mapped f (Some e) t h = (e, some_same (f e) t h)
  where
    some_same : (x y : Ty) → Some x ≡ Some y → x ≡ y
    some_same x y g = cc
mapped f None t h = absurd (cc)

small_extent : (s : SizeText) → is_small s ≡ true → IsSmall (extent_of s)
small_extent (size.Fixed n) h = grind (arith, nat_tests)
small_extent size.Dynamic h = tt

small_extents : (sizes : List SizeText) → list_all is_small sizes ≡ true → (k : ℕ) (d : Extent) → k < length (map extent_of sizes)
    → IsSmall (get_or (map extent_of sizes) k d)
small_extents [] h k d below = absurd (omega arith)
small_extents (s ∷ sizes) h zero d below = let here : is_small s ≡ true = grind arith in small_extent s here
small_extents (s ∷ sizes) h (suc k) d below =
    let there : list_all is_small sizes ≡ true = grind arith in small_extents sizes there k d (omega arith)

memref_parts : (known bare : Bool) (sizes : List SizeText) (trailing : Bool)
    → (known && (bare && nat_le (length sizes) 8 && list_all is_small sizes) && trailing) ≡ true
    → (length sizes ≤ 8) × (list_all is_small sizes ≡ true)
memref_parts known bare sizes trailing h = grind (arith, nat_tests)

memref_within : (sizes : List SizeText) (name : List ℕ) (layout : Option LayoutText) → is_taken (MemRef sizes name layout) ≡ true
    → (elem : Elem) → IsWithinLimits (ty.MemRef (map extent_of sizes) elem)
memref_within sizes name layout h elem =
    let p = memref_parts (is_type (MemRef sizes name layout)) (is_none layout) sizes true h in
    let e : length (map extent_of sizes) ≡ length sizes = length-map sizes extent_of in
    (omega (arith, p.0, e), small_extents sizes p.1)

pub type_limits_law : TypeLimitsLaw
type_limits_law (Scalar name) t h =
    let a = taken (is_taken (Scalar name)) (named_type (Scalar name)) t h in
    let m = mapped (λ elem. ty.Scalar elem) (elem_of name) t a.1 in
    subst IsWithinLimits m.1 tt
type_limits_law (MemRef sizes name layout) t h =
    let a = taken (is_taken (MemRef sizes name layout)) (named_type (MemRef sizes name layout)) t h in
    let m = mapped (λ elem. ty.MemRef (map extent_of sizes) elem) (elem_of name) t a.1 in
    subst IsWithinLimits m.1 (memref_within sizes name layout a.0 m.0)
type_limits_law (Vector dims name) t h =
    let a = taken (is_taken (Vector dims name)) (named_type (Vector dims name)) t h in
    let m = mapped (λ elem. ty.Vector (shape_of dims) elem) (elem_of name) t a.1 in
    subst IsWithinLimits m.1 (taken_sizes dims name a.0)
type_limits_law _ t h = absurd (cc)
