-- What rows of any group do to a stack of values.
use Rattle.std.specs.Prelude.{List, [], ◌∷◌, Option, Some}
use Rattle.av_values.specs.declared.value.Value.{Value}
use Rattle.av_values.specs.Sorts.{Sort, Of, replaced}

-- a value that no others are taken for
abbrev pub put_new : (s : Sort) → Of s → List Value → Option (List Value)
put_new s v = replaced [] s (λ _. Some v)

-- the value on top, as it is
abbrev pub put_same : Sort → List Value → Option (List Value)
put_same s = replaced (s ∷ []) s (λ values. Some values.0)

-- the value on top, together with the one under it
abbrev pub put_before : (first others : Sort) → (Of others → Of first → Of others) → List Value → Option (List Value)
put_before first others join = replaced (first ∷ others ∷ []) others (λ values. Some (join values.1.0 values.0))
