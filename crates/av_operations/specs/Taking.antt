-- What an item of a form, and the parts of a form, take off a stack of values, and what they make of them.
use Rattle.std.specs.Prelude.{ℕ, List, Option}
use Rattle.av_dialects.specs.declared.item.Item.{Item}
use Rattle.av_dialects.specs.Rows.{Part}
use Rattle.av_tree.specs.declared.node.Node.{Node, roll-Node}
use Rattle.av_tree.specs.declared.written.TypeText.{TypeText}
use Rattle.av_tree.specs.Forms.{form_symbols, item_symbols}
use Rattle.av_values.specs.declared.gifts.Gift.{Gift}
use Rattle.av_values.specs.declared.value.Value.{Value}
use Rattle.av_values.specs.Made.{gift_of, made_of, taken}
use Rattle.av_values.specs.Sorts.{sorts_of}

-- what an item gives by the values on the stack, and the values behind
unfoldable pub item_taken : Item → List Value → Option (Gift × List Value)
item_taken i values = taken (sorts_of (item_symbols i)) (gift_of i) values

-- the operation that parts make by the values on the stack, and the values behind
unfoldable pub parts_taken : ℕ → ℕ → List Part → List (Option TypeText) → List Value → Option (Node × List Value)
parts_taken number place ps types values = taken (sorts_of (form_symbols ps)) (λ vs. roll-Node (made_of number place ps types vs)) values
