-- The function of a name.
use Rattle.std.specs.Prelude.{◌≡◌, ◌≢◌, ℕ, ◌<◌, List, length, take}
use Rattle.std.specs.List.{All, HoldsAt}
use Rattle.av_ir.specs.declared.module.Func.{Func}

-- the function at this place has the name, and none before it has
pub record IsNamed (funcs : List Func) (name : List ℕ) (place : ℕ) : Type 0 where
  pub within : place < length funcs
  pub named : HoldsAt (λ f. f.name ≡ name) funcs place
  pub first : All (λ f. f.name ≢ name) (take place funcs)
