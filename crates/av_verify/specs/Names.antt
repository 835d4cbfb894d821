-- Names and the values that they stand for.
use Rattle.std.specs.Prelude.{ℕ, Bool, List, [], ◌∷◌, map, Option, Some, None, is_some, unwrap_or, if◌then◌else◌}
use Rattle.std.specs.List.{list_all}
use Rattle.std.specs.Str.{bytes_eq}
use Rattle.av_ir.specs.declared.module.ValueId.{ValueId}

-- a name stands for a value
pub record Binding : Type 0 where
  pub name : List ℕ
  pub value : ValueId

abbrev pub binds : List ℕ → ValueId → Binding
binds name value = record { name = name; value = value }

-- the value that a name stands for, if it is one of the names
abbrev pub value_named : List ℕ → List Binding → Option ValueId
value_named name [] = None
value_named name (b ∷ bs) = if bytes_eq name b.name then Some b.value else value_named name bs

abbrev pub is_visible : List Binding → List ℕ → Bool
is_visible names name = is_some (value_named name names)

-- one name more, at the end; a name that stands already gets the value
abbrev pub bound : List Binding → List ℕ → ValueId → List Binding
bound [] name value = binds name value ∷ []
bound (b ∷ bs) name value = if bytes_eq name b.name then binds b.name value ∷ bs else b ∷ bound bs name value

-- the value that a name stands for, and 0 where it isn't visible
abbrev pub value_or_first : List Binding → List ℕ → ValueId
value_or_first names name = unwrap_or (value_named name names) (record { 0 = 0 })

abbrev pub values_named : List Binding → List (List ℕ) → List ValueId
values_named names used = map (value_or_first names) used

abbrev pub are_visible : List Binding → List (List ℕ) → Bool
are_visible names used = list_all (is_visible names) used
