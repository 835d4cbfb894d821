-- The sizes of a vector type that is taken are those of a shape.
use Rattle.std.proofs.Common.{drop, take, subst, sym, ◌-◌, ◌≡◌, ℕ, ◌*◌, ◌<◌, ◌≤◌, zero, suc, true, Bool, List, [], ◌∷◌, length, get_or, arith, map, ◌&&◌, nat_lt}
use Rattle.std.specs.Prelude.{nat_le, is_some}
use Rattle.std.proofs.lemmas.List.{length-drop, length-map, take_all}
use Rattle.std.specs.List.{list_all}
use Rattle.std.proofs.Math.Nat.{mul-le-mul}
use Rattle.std.proofs.lemmas.Bool.Decides.{nat_tests}
use Rattle.av_shapes.specs.Shape.{AreSizes, product}
use Rattle.av_shapes.proofs.Products.{factors, le-product_first, le-product_second, rest-positive}
use Rattle.av_tree.specs.declared.written.DimText.{DimText}
use Rattle.av_tree.specs.declared.written.DimText.TheVariants.{Fixed, Dynamic, Scalable}
use Rattle.av_tree.specs.declared.written.TypeText.{Vector}
use Rattle.av_types.specs.Texts.{elem_of, is_positive, is_trailing, size_of}
use Rattle.av_types.specs.Types.{is_taken}

-- a dimension has at most as many places as all together
pub dim_below : (dims : List DimText) (k : ℕ) (d : DimText) → 1 ≤ product (map size_of dims) → k < length dims
    → size_of (get_or dims k d) ≤ product (map size_of dims)
dim_below [] k d positive below = absurd (omega arith)
dim_below (e ∷ dims) zero d positive below =
    le-product_first (size_of e) (product (map size_of dims)) (factors (size_of e) (product (map size_of dims)) positive).1
dim_below (e ∷ dims) (suc k) d positive below =
    let f = factors (size_of e) (product (map size_of dims)) positive in
    omega (arith, dim_below dims k d f.1 (omega arith), le-product_second (size_of e) (product (map size_of dims)) f.0)

one_positive : (d : DimText) → is_positive d ≡ true → 1 ≤ size_of d
one_positive (Fixed n) h = grind (arith, nat_tests)
one_positive (Scalable n) h = grind (arith, nat_tests)
one_positive Dynamic h = absurd (cc)

-- dimensions of at least one have at least one place together
pub all_positive : (dims : List DimText) → list_all is_positive dims ≡ true → 1 ≤ product (map size_of dims)
all_positive [] h = omega arith
all_positive (d ∷ dims) h =
    let here : is_positive d ≡ true = grind arith in
    let there : list_all is_positive dims ≡ true = grind arith in
    let both : 1 * 1 ≤ size_of d * product (map size_of dims) =
    mul-le-mul (one_positive d here) (all_positive dims there) in
    omega arith

-- what is asked of a vector type, one by one
abbrev Asked : List DimText → Type 0
Asked dims =
    (1 ≤ length dims) × (list_all is_positive dims ≡ true) × (length dims ≤ 3) × (product (map size_of dims) ≤ 256)

asked_of : (known : Bool) (dims : List DimText) (trailing : Bool)
    → ((nat_lt 0 (length dims) && known && list_all is_positive dims)
    && (nat_le (length dims) 3 && nat_le (product (map size_of dims)) 256) && trailing) ≡ true → Asked dims
asked_of known dims trailing h = grind (arith, nat_tests)

-- the sizes of a vector type that is taken are those of a shape
pub taken_sizes : (dims : List DimText) (name : List ℕ) → is_taken (Vector dims name) ≡ true → AreSizes (map size_of dims)
taken_sizes dims name h =
    let a = asked_of (is_some (elem_of name)) dims (is_trailing (Vector dims name)) h in
    let e : length (map size_of dims) ≡ length dims = length-map dims size_of in
    (omega arith, omega arith, all_positive dims a.1, a.3)

product_behind : (ns : List ℕ) (k : ℕ) → 1 ≤ product ns → product (drop k ns) ≤ product ns
product_behind ns zero h = omega arith
product_behind [] (suc k) h = omega arith
product_behind (n ∷ ns) (suc k) h =
    let f = factors n (product ns) h in
    omega (arith, product_behind ns k f.1, le-product_second n (product ns) f.0)

-- what is left of the sizes of a shape, if there is something, is a shape's
pub sizes_behind : (ns : List ℕ) (k : ℕ) → AreSizes ns → k < length ns → AreSizes (take (length ns - k) (drop k ns))
sizes_behind ns k are below =
    let e : length (drop k ns) ≡ length ns - k = length-drop k ns in
    let whole : take (length ns - k) (drop k ns) ≡ drop k ns = take_all (length ns - k) (drop k ns) (omega arith) in
    let left : AreSizes (drop k ns) =
    (omega arith, omega (arith, are.1), rest-positive ns k are.2, omega (arith, product_behind ns k are.2, are.3)) in
    subst (λ ms. AreSizes ms) (sym whole) left
