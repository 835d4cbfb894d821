-- Where parts of forms end: one token ahead tells it.
use Rattle.std.specs.Prelude.{ℕ, ◌==◌, ◌&&◌, Bool, true, false, not, if◌then◌else◌, List, [], ◌∷◌, ◌++◌}
use Rattle.std.specs.List.{list_any}
use Rattle.av_dialects.specs.declared.item.Item.{Item}
use Rattle.av_dialects.specs.declared.item.Item.TheVariants as item
use Rattle.av_dialects.specs.declared.item.Lead.{Lead}
use Rattle.av_dialects.specs.declared.item.Lead.TheVariants as lead
use Rattle.av_dialects.specs.declared.item.Wanted.{Wanted}
use Rattle.av_dialects.specs.declared.item.Wanted.TheVariants as wanted
use Rattle.av_dialects.specs.Rows.{Part}

-- what tokens tell apart: signs, words of the format, and kinds of other tokens
pub data Start : Type 0 where
  comma colon equal arrow minus open_curly open_square open_angle close_curly : Start
  to step into from overflow iter_args else_word min max : Start
  -- words of types, maps and constants
  scalar memref vector affine_map affine_set dense truth : Start
  -- another word that a property has
  word : Start
  number value hash quoted : Start
  -- the name of an operation
  operation : Start

-- numbers that tell them apart
abbrev pub code : Start → ℕ
code comma = 0
code colon = 1
code equal = 2
code arrow = 3
code minus = 4
code open_curly = 5
code open_square = 6
code open_angle = 7
code close_curly = 8
code to = 9
code step = 10
code into = 11
code from = 12
code overflow = 13
code iter_args = 14
code else_word = 15
code min = 16
code max = 17
code scalar = 18
code memref = 19
code vector = 20
code affine_map = 21
code affine_set = 22
code dense = 23
code truth = 24
code word = 25
code number = 26
code value = 27
code hash = 28
code quoted = 29
code operation = 30

abbrev pub is_among : List Start → Start → Bool
is_among starts s = list_any (λ t. code t == code s) starts

-- whether a token is among both
abbrev pub meets : List Start → List Start → Bool
meets starts others = list_any (is_among others) starts

-- what begins with the sign or word of a lead
abbrev pub behind_lead : Lead → List Start → List Start
behind_lead lead.Nothing starts = starts
behind_lead lead.Blank starts = starts
behind_lead lead.Comma starts = comma ∷ []
behind_lead lead.Colon starts = colon ∷ []
behind_lead lead.Equal starts = equal ∷ []
behind_lead lead.To starts = to ∷ []
behind_lead lead.Step starts = step ∷ []
behind_lead lead.Into starts = into ∷ []
behind_lead lead.From starts = from ∷ []

abbrev pub type_starts : Wanted → List Start
type_starts wanted.Any = scalar ∷ memref ∷ vector ∷ []
type_starts wanted.Buffer = memref ∷ []
type_starts wanted.Vector = vector ∷ []

abbrev pub bound_starts : List Start
bound_starts = number ∷ minus ∷ value ∷ affine_map ∷ hash ∷ []

-- what an item begins with, where it isn't nothing
abbrev pub starts_of : Item → List Start
starts_of item.ByHand = []
starts_of (item.Operand _) = value ∷ []
starts_of item.OptionalOperand = comma ∷ []
starts_of item.Operands = value ∷ []
starts_of item.TypedOperands = value ∷ []
starts_of item.Element = value ∷ []
starts_of (item.Type w _) = type_starts w
starts_of item.ChoiceTypes = type_starts wanted.Any
starts_of (item.Word _) = word ∷ []
starts_of (item.Angled _) = open_angle ∷ []
starts_of (item.Numbers _) = open_square ∷ []
starts_of item.Overflow = overflow ∷ []
starts_of item.Marks = open_curly ∷ []
starts_of item.Constant = number ∷ minus ∷ dense ∷ truth ∷ []
starts_of item.Map = affine_map ∷ hash ∷ []
starts_of item.Set = affine_set ∷ hash ∷ []
starts_of item.Access = value ∷ []
starts_of item.Counter = value ∷ []
starts_of item.LowerBound = max ∷ bound_starts
starts_of item.UpperBound = min ∷ bound_starts
starts_of item.Step = step ∷ []
starts_of item.Carried = iter_args ∷ []
starts_of item.ResultTypes = arrow ∷ []
starts_of item.Region = open_curly ∷ []
starts_of item.Else = else_word ∷ []

-- whether an item may be nothing
abbrev pub is_optional : Item → Bool
is_optional item.OptionalOperand = true
is_optional item.TypedOperands = true
is_optional item.Overflow = true
is_optional item.Marks = true
is_optional item.Step = true
is_optional item.Carried = true
is_optional item.ResultTypes = true
is_optional item.Else = true
is_optional _ = false

-- what an item goes on with at a place where it may end too; behind a value `#` and a number can stand
abbrev pub goes_on_with : Item → List Start
goes_on_with (item.Operand _) = hash ∷ []
goes_on_with item.OptionalOperand = comma ∷ hash ∷ []
goes_on_with item.Operands = comma ∷ hash ∷ []
goes_on_with item.TypedOperands = value ∷ comma ∷ hash ∷ []
goes_on_with item.ChoiceTypes = comma ∷ []
goes_on_with item.Overflow = overflow ∷ []
goes_on_with item.Marks = open_curly ∷ []
goes_on_with item.Map = open_square ∷ []
goes_on_with item.Set = open_square ∷ []
goes_on_with item.LowerBound = open_square ∷ hash ∷ []
goes_on_with item.UpperBound = open_square ∷ hash ∷ []
goes_on_with item.Step = step ∷ []
goes_on_with item.Carried = iter_args ∷ []
goes_on_with item.ResultTypes = arrow ∷ []
goes_on_with item.Else = else_word ∷ []
goes_on_with _ = []

-- what stands behind an operation: another one, perhaps with results, or the end of the region
abbrev pub behind_operation : List Start
behind_operation = operation ∷ quoted ∷ close_curly ∷ value ∷ []

-- a value right behind the word of a terminator belongs to it
abbrev pub behind_terminator : List Start
behind_terminator = operation ∷ quoted ∷ close_curly ∷ []

abbrev pub behind : List Part → List Start
behind ((_, item.TypedOperands) ∷ []) = behind_terminator
behind _ = behind_operation

-- what parts begin with, and this where there are none
abbrev pub starts : List Start → List Part → List Start
starts last [] = last
starts last (part ∷ parts) =
    behind_lead part.0 (starts_of part.1 ++ (if is_optional part.1 then starts last parts else []))

-- no part goes on with what the next one begins with
abbrev pub end_before : List Start → List Part → Bool
end_before last [] = true
end_before last (part ∷ parts) = not (meets (goes_on_with part.1) (starts last parts)) && end_before last parts

abbrev pub end_plainly : List Part → Bool
end_plainly parts = end_before (behind parts) parts
