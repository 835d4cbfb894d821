-- The words of values by number, as an interpreter keeps them.
use Rattle.std.specs.Prelude.{◌≡◌, ℕ, List, [], ◌∷◌, ◌++◌, map, slice_index_or, slice_set}
use Rattle.av_ir.specs.Run.{Value, word, Env}
use Rattle.av_scalar.specs.declared.names.Names.{Names}
use Rattle.av_scalar.specs.declared.names.Change.{Change}

-- the values of words
abbrev pub values : List ℕ → List Value
values ps = map word ps

-- the environment in which these are the words of the values; others are 0
unfoldable pub env_of : Names → Env
env_of names = λ k. word (slice_index_or names.words k 0)

-- words as they were before changes, of which the last is taken back first
abbrev pub unwound : List ℕ → List Change → List ℕ
unwound ws [] = ws
unwound ws (change ∷ changes) = slice_set (unwound ws changes) change.number change.before

-- the changes since then are kept, and taking them back gives the words of then
pub record Since (before now : Names) : Type 0 where
  pub changes : List Change
  pub kept : now.changes ≡ before.changes ++ changes
  pub back : unwound now.words changes ≡ before.words
