-- The entries of an index as names with their values.
use Rattle.std.proofs.Common.{◌≡◌, List, [], ◌∷◌, Bool, true, false, cond, refl, ap}
use Rattle.std.specs.Prelude.{ℕ, Some, map}
use Rattle.std.specs.Str.{bytes_eq}
use Rattle.std.specs.Map.{lookup}
use Rattle.indexmap.specs.IndexMap.{insert_entry}
use Rattle.av_ir.specs.declared.module.ValueId.{ValueId}
use Rattle.av_verify.specs.Names.{binds, value_named, bound}

pub finds : {K : Type 0} (f : K → List ℕ) (name : List ℕ) (es : List (K × ValueId))
    → lookup (λ k. bytes_eq name (f k)) es ≡ value_named name (map (λ e. binds (f e.0) e.1) es)
finds f name [] = refl
finds f name (e ∷ es) = ap (λ r. cond (bytes_eq name (f e.0)) (Some e.1) r) (finds f name es)

pub inserts : {K : Type 0} (f : K → List ℕ) (key : K) (value : ValueId) (es : List (K × ValueId))
    → map (λ e. binds (f e.0) e.1) (insert_entry (λ a b. bytes_eq (f a) (f b)) es key value) ≡ bound (map (λ e. binds (f e.0) e.1) es) (f key) value
inserts f key value [] = refl
inserts {K} f key value (e ∷ es) = by (inserts f key value es) (bytes_eq (f key) (f e.0))
  where
    by : map (λ x. binds (f x.0) x.1) (insert_entry (λ a b. bytes_eq (f a) (f b)) es key value) ≡ bound (map (λ x. binds (f x.0) x.1) es) (f key) value
        → (same : Bool)
        → map (λ x. binds (f x.0) x.1) (cond same ((e.0, value) ∷ es) (e ∷ insert_entry (λ a b. bytes_eq (f a) (f b)) es key value))
        ≡ cond same (binds (f e.0) value ∷ map (λ x. binds (f x.0) x.1) es) (binds (f e.0) e.1 ∷ bound (map (λ x. binds (f x.0) x.1) es) (f key) value)
    by rest true = refl
    by rest false = ap (λ xs. binds (f e.0) e.1 ∷ xs) rest
