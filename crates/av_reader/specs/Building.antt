-- The values and the tree that events make, worked out from the last of them to the first.
use Rattle.std.specs.Prelude.{ℕ, ◌∷◌, List, [], slice_get, Option, Some}
use Rattle.std.specs.Option.{option_map, option_map_or, option_and_then}
use Rattle.av_lex.specs.declared.token.Token.{Token}
use Rattle.av_tree.specs.declared.node.Tree.{Tree}
use Rattle.av_tree.specs.declared.table.Rule.{Rule}
use Rattle.av_tree.specs.declared.table.Rule.TheVariants as rule
use Rattle.av_derive.specs.declared.machine.Event.{Event}
use Rattle.av_derive.specs.declared.machine.Event.TheVariants as event
use Rattle.av_derive.specs.ClassOf.{spelling_of}
use Rattle.av_values.specs.declared.value.Value.{Value}
use Rattle.av_values.specs.declared.value.Value.TheVariants as value
use Rattle.av_values.specs.Made as made
use Rattle.av_values.specs.Sorts.{only_tree}
use Rattle.av_blocks.specs.rows.FileRows as files
use Rattle.av_blocks.specs.rows.FunctionRows as functions
use Rattle.av_blocks.specs.rows.RegionRows as regions
use Rattle.av_blocks.specs.rows.GenericRows as generics
use Rattle.av_parts.specs.rows.TypeRows as types
use Rattle.av_parts.specs.rows.AttributeRows as attributes
use Rattle.av_parts.specs.rows.MapRows as maps
use Rattle.av_parts.specs.rows.ValueRows as values
use Rattle.av_operations.specs.rows.ArithRows as ariths
use Rattle.av_operations.specs.rows.AffineRows as affines
use Rattle.av_parts.specs.rows.SubscriptRows as subscripts

-- what a row whose first token stands at a place does to a stack of values
abbrev pub by_row : Rule → ℕ → List Value → Option (List Value)
by_row (rule.File r) place = files.by_row r place
by_row (rule.Function r) place = functions.by_row r place
by_row (rule.Region r) place = regions.by_row r place
by_row (rule.Generic r) place = generics.by_row r place
by_row (rule.Type r) place = types.by_row r
by_row (rule.Attribute r) place = attributes.by_row r
by_row (rule.Map r) place = maps.by_row r
by_row (rule.Value r) place = values.by_row r
by_row (rule.Arith r) place = ariths.by_row r place
by_row (rule.Affine r) place = affines.by_row r place
by_row (rule.Subscript r) place = subscripts.by_row r
by_row (rule.Operation number) place = made.by_row number place

-- the place of the token of a number; 0 at the end of the tokens
abbrev pub place_of : List Token → ℕ → ℕ
place_of tokens number = option_map_or (λ (token : Token). token.place) (slice_get tokens number) 0

-- what an event does to a stack of values: a token puts its spelling on it, and a row takes the values of its symbols off it and puts on it what it makes of them
abbrev pub by_event : List ℕ → List Token → Event → List Value → Option (List Value)
by_event bytes tokens (event.Token number) under = option_map (λ (token : Token). value.Text (spelling_of bytes token) ∷ under) (slice_get tokens number)
by_event bytes tokens (event.Row r number) under = by_row r (place_of tokens number) under

-- the stack of values that events make, from the last of them to the first
unfoldable pub values_of : List ℕ → List Token → List Event → Option (List Value)
values_of bytes tokens [] = Some []
values_of bytes tokens (next ∷ events) = option_and_then (by_event bytes tokens next) (values_of bytes tokens events)

-- the tree that events make; none where what they make isn't one tree alone
abbrev pub tree_of : List ℕ → List Token → List Event → Option Tree
tree_of bytes tokens events = option_and_then only_tree (values_of bytes tokens events)
