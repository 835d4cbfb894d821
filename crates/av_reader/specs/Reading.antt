-- Which tree a text with its tokens is, and where the first wrong token stands.
use Rattle.std.specs.Prelude.{ℕ, ◌≡◌, List, length, take, slice_get, Some}
use Rattle.std.specs.Option.{option_map_or}
use Rattle.av_lex.specs.declared.token.Token.{Token}
use Rattle.av_tree.specs.declared.class.Class.{Class}
use Rattle.av_tree.specs.declared.node.Tree.{Tree}
use Rattle.av_derive.specs.declared.machine.Event.{Event}
use Rattle.av_derive.specs.declared.machine.Limits.{Limits}
use Rattle.av_derive.specs.ClassOf.{classes_of}
use Rattle.av_derive.specs.Derivation.{Derived, IsDeepAt, IsPlainAt, IsWrongAt, Viable}
use Rattle.av_reader.specs.declared.reading.ReadRefusal.{ReadRefusal}
use Rattle.av_reader.specs.declared.reading.ReadRefusal.TheVariants.{NotAModule, TooDeep, NoMemory}
use Rattle.av_reader.specs.Building.{tree_of}

-- the limits of the format: 192 brackets open at once, and 192 signs and words of calculation in one expression
abbrev pub the_limits : Limits
the_limits = record { brackets = 192; signs = 192 }

-- some events derive the tokens within the limits, and make the tree
pub record IsTree (bytes : List ℕ) (tokens : List Token) (tree : Tree) : Type 0 where
  pub events : List Event
  pub derived : Derived the_limits (classes_of bytes tokens) events
  pub makes : tree_of bytes tokens events ≡ Some tree

-- the place of the token of a number; behind the last token the number of bytes
abbrev pub place_at : List ℕ → List Token → ℕ → ℕ
place_at bytes tokens number = option_map_or (λ (token : Token). token.place) (slice_get tokens number) (length bytes)

-- The token of some number stands at this place, or at the end of the text one token more is asked for, and this holds of
-- it. The tokens before it begin some list that is derived within the limits; with it they begin none, or, where one more
-- is asked for, they are not derived themselves.
pub record IsRefusedAt (bytes : List ℕ) (tokens : List Token) (Holds : List Class → ℕ → Type 0) (place : ℕ) : Type 0 where
  pub at : ℕ
  pub stands : place ≡ place_at bytes tokens at
  pub completable : Viable the_limits (take at (classes_of bytes tokens))
  pub wrong : IsWrongAt the_limits (classes_of bytes tokens) at
  pub holds : Holds (classes_of bytes tokens) at

-- what a refusal says: where the first wrong token stands, and that only a limit makes it wrong, it being a bracket or a sign
-- or word of calculation, or that it is not so
abbrev pub IsRefusal : List ℕ → List Token → ReadRefusal → Type 0
IsRefusal bytes tokens (NotAModule place) = IsRefusedAt bytes tokens IsPlainAt place
IsRefusal bytes tokens (TooDeep place) = IsRefusedAt bytes tokens IsDeepAt place
IsRefusal bytes tokens NoMemory = Unit {0}
