-- What holds of the whole table, and of forms that are no rows of it.
use Rattle.std.specs.Prelude.{ℕ, ◌≡◌, ◌&&◌, Bool, true, false, List, [], ◌∷◌}
use Rattle.std.specs.List.{list_all, list_any}
use Rattle.av_dialects.specs.declared.item.Item.{Item}
use Rattle.av_dialects.specs.declared.item.Item.TheVariants as item
use Rattle.av_dialects.specs.declared.item.Key.TheVariants as key
use Rattle.av_dialects.specs.declared.item.Lead.TheVariants as lead
use Rattle.av_dialects.specs.declared.item.Results.{Results}
use Rattle.av_dialects.specs.declared.item.Results.TheVariants as results
use Rattle.av_dialects.specs.declared.item.Slot.TheVariants as slot
use Rattle.av_dialects.specs.declared.item.Slots.{Slots}
use Rattle.av_dialects.specs.declared.item.Slots.TheVariants as slots
use Rattle.av_dialects.specs.declared.item.Typing.TheVariants as typing
use Rattle.av_dialects.specs.declared.item.Wanted.TheVariants as wanted
use Rattle.av_dialects.specs.Rows.{Part, HasName, are_distinct, forms, kinds, overflow_flags, predicates, results as result_column}
use Rattle.av_dialects.specs.Ends.{end_plainly}
use Rattle.av_dialects.specs.Types.{types_are_written, all_types_are_written}

-- no two rows have the same name
abbrev pub NamesLaw : Type 0
NamesLaw = (j k : ℕ) (name : List ℕ) → HasName j name → HasName k name → j ≡ k

-- one token ahead tells in each form where its parts end
abbrev pub EndsLaw : Type 0
EndsLaw = list_all end_plainly forms ≡ true

-- each form writes each type that it must write once, and no other
abbrev pub TypesLaw : Type 0
TypesLaw = all_types_are_written result_column forms ≡ true

-- the words of a property differ, too
abbrev pub WordsLaw : Type 0
WordsLaw = (are_distinct predicates ≡ true) × (are_distinct kinds ≡ true) × (are_distinct overflow_flags ≡ true)

-- ---- examples: for each item a form that keeps these rules, and one that doesn't
abbrev pub keeps_rules : Results × List Part → Bool
keeps_rules form = end_plainly form.1 && types_are_written form.0 form.1

abbrev pub input : ℕ → Slots
input place = slots.One (slot.Input place)

abbrev pub typed : Item
typed = item.Operand typing.Written

abbrev pub untyped : Item
untyped = item.Operand typing.Follows

abbrev pub any_type : Slots → Part
any_type s = (lead.Colon, item.Type wanted.Any s)

abbrev pub result_type : Part
result_type = (lead.Colon, item.Type wanted.Vector (slots.One slot.Output))

abbrev pub one : Results
one = results.One typing.Written

abbrev pub forms_that_keep_rules : List (Results × List Part)
forms_that_keep_rules =
    (results.Zero, (lead.Blank, item.ByHand) ∷ [])
    ∷ (results.Zero, (lead.Blank, typed) ∷ any_type (input 0) ∷ [])
    ∷ (results.Zero, (lead.Blank, untyped) ∷ (lead.Nothing, item.OptionalOperand) ∷ [])
    ∷ (one, (lead.Blank, item.Operands) ∷ result_type ∷ [])
    ∷ (results.Zero, (lead.Nothing, item.TypedOperands) ∷ [])
    ∷ (results.Zero, (lead.Blank, untyped) ∷ (lead.Comma, item.Element) ∷ any_type (input 1) ∷ [])
    ∷ (one, result_type ∷ [])
    ∷ (one, (lead.Blank, untyped) ∷ (lead.Comma, typed) ∷ (lead.Comma, typed) ∷ (lead.Colon, item.ChoiceTypes) ∷ [])
    ∷ (one, (lead.Blank, item.Word key.Predicate) ∷ result_type ∷ [])
    ∷ (one, (lead.Blank, item.Angled key.Kind) ∷ result_type ∷ [])
    ∷ (one, (lead.Blank, item.Numbers key.Mask) ∷ result_type ∷ [])
    ∷ (one, (lead.Nothing, item.Overflow) ∷ result_type ∷ [])
    ∷ (one, (lead.Nothing, item.Marks) ∷ result_type ∷ [])
    ∷ (one, (lead.Blank, item.Constant) ∷ [])
    ∷ (results.Zero, (lead.Blank, item.Map) ∷ [])
    ∷ (results.Zero, (lead.Blank, item.Set) ∷ (lead.Blank, item.Region) ∷ [])
    ∷ (results.Zero, (lead.Blank, item.Access) ∷ any_type (input 0) ∷ [])
    ∷ (results.Zero, (lead.Blank, item.Counter) ∷ [])
    ∷ (results.Zero, (lead.Equal, item.LowerBound) ∷ (lead.To, item.UpperBound) ∷ [])
    ∷ (results.Zero, (lead.Nothing, item.Step) ∷ (lead.Blank, item.Region) ∷ [])
    ∷ (results.Several, (lead.Nothing, item.Carried) ∷ (lead.Blank, item.Region) ∷ [])
    ∷ (results.Several, (lead.Nothing, item.ResultTypes) ∷ (lead.Blank, item.Region) ∷ [])
    ∷ (results.Zero, (lead.Blank, item.Region) ∷ (lead.Nothing, item.Else) ∷ [])
    ∷ []

abbrev pub forms_that_break_rules : List (Results × List Part)
forms_that_break_rules =
    -- the types of several results are never written
    (results.Several, (lead.Blank, item.ByHand) ∷ [])
    -- the operand's type is never written; or written twice; or written though it follows; or that of an operand that isn't there
    ∷ (results.Zero, (lead.Blank, typed) ∷ [])
    ∷ (results.Zero, (lead.Blank, typed) ∷ any_type (input 0) ∷ any_type (input 0) ∷ [])
    ∷ (results.Zero, (lead.Blank, untyped) ∷ any_type (input 0) ∷ [])
    ∷ (results.Zero, (lead.Blank, typed) ∷ any_type (input 1) ∷ [])
    -- a comma may belong to either
    ∷ (results.Zero, (lead.Blank, untyped) ∷ (lead.Nothing, item.OptionalOperand) ∷ (lead.Comma, untyped) ∷ [])
    ∷ (results.Zero, (lead.Blank, item.Operands) ∷ (lead.Comma, item.Numbers key.Mask) ∷ [])
    ∷ (one, (lead.Blank, untyped) ∷ (lead.Comma, typed) ∷ (lead.Comma, typed) ∷ (lead.Colon, item.ChoiceTypes) ∷ (lead.Comma, item.Marks) ∷ [])
    -- a value may belong to either
    ∷ (results.Zero, (lead.Nothing, item.TypedOperands) ∷ (lead.Blank, untyped) ∷ [])
    ∷ (results.Zero, (lead.Nothing, item.TypedOperands) ∷ (lead.Blank, item.Counter) ∷ [])
    -- the buffer has no place that its type could be written for
    ∷ (results.Zero, (lead.Blank, item.Operands) ∷ (lead.Blank, item.Element) ∷ any_type (input 1) ∷ [])
    ∷ (results.Zero, (lead.Blank, item.Operands) ∷ (lead.Blank, item.Access) ∷ any_type (input 1) ∷ [])
    -- the result's type is never written
    ∷ (one, (lead.Blank, item.Word key.Predicate) ∷ [])
    ∷ (one, (lead.Blank, item.Angled key.Kind) ∷ [])
    -- a square bracket may belong to either
    ∷ (results.Zero, (lead.Blank, item.Map) ∷ (lead.Nothing, item.Numbers key.Mask) ∷ [])
    ∷ (results.Zero, (lead.Blank, item.Set) ∷ (lead.Nothing, item.Numbers key.Mask) ∷ [])
    ∷ (results.Zero, (lead.Equal, item.LowerBound) ∷ (lead.Nothing, item.Numbers key.Mask) ∷ [])
    ∷ (results.Zero, (lead.To, item.UpperBound) ∷ (lead.Nothing, item.Numbers key.Mask) ∷ [])
    -- a curly bracket may belong to either
    ∷ (results.Zero, (lead.Nothing, item.Marks) ∷ (lead.Blank, item.Region) ∷ [])
    -- the second can't be told from the first
    ∷ (results.Zero, (lead.Nothing, item.Overflow) ∷ (lead.Nothing, item.Overflow) ∷ [])
    ∷ (results.Zero, (lead.Nothing, item.Step) ∷ (lead.Nothing, item.Step) ∷ [])
    ∷ (results.Zero, (lead.Blank, item.Region) ∷ (lead.Nothing, item.Else) ∷ (lead.Nothing, item.Else) ∷ [])
    -- a type is written that isn't asked for
    ∷ (results.Zero, (lead.Blank, item.Constant) ∷ [])
    ∷ (results.Zero, (lead.Nothing, item.Carried) ∷ [])
    ∷ (results.Zero, (lead.Nothing, item.ResultTypes) ∷ [])
    ∷ []

abbrev pub FormExamples : Type 0
FormExamples = (list_all keeps_rules forms_that_keep_rules ≡ true) × (list_any keeps_rules forms_that_break_rules ≡ false)
