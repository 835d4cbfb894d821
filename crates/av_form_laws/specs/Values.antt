-- The value that an item of a form has.
use Rattle.std.specs.Prelude.{ℕ, ℤ, List, [], ◌∷◌, Option}
use Rattle.av_tree.specs.declared.written.TypeText.{TypeText}
use Rattle.av_tree.specs.declared.attribute.Named.{Named}
use Rattle.av_tree.specs.declared.node.Node.{Node}
use Rattle.av_values.specs.declared.value.Expression.{Expression}
use Rattle.av_dialects.specs.declared.item.Item.{Item}
use Rattle.av_dialects.specs.declared.item.Item.TheVariants as item
use Rattle.av_dialects.specs.Rows.{Part}
use Rattle.av_form_laws.specs.Attributes.{Applied, Constant}
use Rattle.av_form_laws.specs.Loops.{Carrying}

-- of a form by hand nothing is known, and no operation fits it
abbrev pub Of : Item → Type 0
Of (item.Operand _) = List ℕ
Of item.OptionalOperand = List (List ℕ)
Of item.Operands = List (List ℕ)
Of item.TypedOperands = List (List ℕ) × List TypeText
Of item.Element = List ℕ × List (List ℕ)
Of (item.Type _ _) = TypeText
-- the type of a vector of conditions, and the type of what is chosen
Of item.ChoiceTypes = Option TypeText × TypeText
Of (item.Word _) = List ℕ
Of (item.Angled _) = List ℕ
Of (item.Numbers _) = List ℤ
Of item.Overflow = List (List ℕ)
Of item.Marks = List Named
Of item.Constant = Constant
-- the map or set, and its operands, those of dimensions first
Of item.Map = Applied × List (List ℕ)
Of item.Set = Applied × List (List ℕ)
-- the buffer, and its subscripts
Of item.Access = List ℕ × List Expression
Of item.Counter = List ℕ
-- the map and its operands, also where a bound is a number or a value
Of item.LowerBound = Applied × List (List ℕ)
Of item.UpperBound = Applied × List (List ℕ)
Of item.Step = ℕ
Of item.Carried = List Carrying
Of item.ResultTypes = List TypeText
-- the operations that are written in it
Of item.Region = List Node
Of item.Else = List Node
Of item.ByHand = Unit {0}

-- one value for each part
abbrev pub Values : List Part → Type 0
Values [] = Unit {0}
Values (part ∷ parts) = Of part.1 × Values parts
