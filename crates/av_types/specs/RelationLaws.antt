-- What holds of relations of types.
use Rattle.std.specs.Prelude.{◌≡◌, ◌↔◌, true}
use Rattle.av_ir.specs.declared.ty.Ty.{Ty}
use Rattle.av_types.specs.Relations.{same_type}

-- two types are the same exactly where they are equal
abbrev pub SameTypeLaw : Type 0
SameTypeLaw = (a b : Ty) → (same_type a b ≡ true) ↔ (a ≡ b)
