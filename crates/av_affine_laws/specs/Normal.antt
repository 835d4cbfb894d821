-- Normal forms: in order, without zeros, and without two terms that could be one.
use Rattle.std.specs.Prelude.{◌≡◌, ℤ, pos, List, [], ◌∷◌, true, false}
use Rattle.std.specs.Ordering.{int_eq}
use Rattle.av_affine.specs.declared.expression.Leaf.{Leaf}
use Rattle.av_affine.specs.declared.linear.Term.{Term}
use Rattle.av_affine.specs.declared.linear.Linear.{Linear, Linear', Row_of-Opaque, end_of-Opaque, more_of-Opaque, items-the_row-Opaque, out-Linear}
use Rattle.av_affine.specs.declared.linear.Opaque.{Opaque, Opaque'}
use Rattle.av_affine.specs.Forms.{same_division, is_before, Parts}

-- ---- what is normal

-- a leaf is before those of all terms
unfoldable pub Before : Leaf → List Term → Type 0
Before leaf [] = Unit {0}
Before leaf (t ∷ ts) = (is_before leaf t.leaf ≡ true) × Before leaf ts

-- in order of their leaves, so no two of one leaf, and no factor is zero
unfoldable pub Sorted : List Term → Type 0
Sorted [] = Unit {0}
Sorted (t ∷ ts) = (int_eq t.factor (pos 0) ≡ false) × Before t.leaf ts × Sorted ts

-- no opaque term of the list is the division of this one
unfoldable pub Alone : Opaque → List Opaque → Type 0
Alone p [] = Unit {0}
Alone p (o ∷ os) = (same_division o p ≡ false) × Alone p os

-- no two are one division
unfoldable pub Apart : List Opaque → Type 0
Apart [] = Unit {0}
Apart (o ∷ os) = Alone o os × Apart os

-- there is a term or an opaque term
unfoldable pub Varies : List Term → List Opaque → Type 0
Varies [] [] = ⊥
Varies (t ∷ ts) os = Unit {0}
Varies [] (o ∷ os) = Unit {0}

unfoldable mutual
  pub Normal : Linear → Type 0
  Normal (Linear' ts s row c) = Sorted ts × Apart (items-the_row-Opaque _ row) × NormalRow row

  -- the factor is not zero, and the inside is normal and no constant
  pub NormalOpaque : Opaque → Type 0
  NormalOpaque (Opaque' k l d f) = (int_eq f (pos 0) ≡ false) × Normal l × Varies (out-Linear l).terms (out-Linear l).opaque

  pub NormalRow : {m : _} → Row_of-Opaque m → Type 0
  NormalRow end_of-Opaque = Unit {0}
  NormalRow (more_of-Opaque o rest) = NormalOpaque o × NormalRow rest

-- the same over a list
unfoldable pub NormalOpaques : List Opaque → Type 0
NormalOpaques [] = Unit {0}
NormalOpaques (o ∷ os) = NormalOpaque o × NormalOpaques os

-- the opaque term with another factor
abbrev pub with_factor : Opaque → ℤ → Opaque
with_factor (Opaque' k l d f) g = Opaque' k l d g

abbrev pub NormalParts : Parts → Type 0
NormalParts p = Sorted p.terms × Apart p.opaque × NormalOpaques p.opaque
