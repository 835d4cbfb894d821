-- Operations that fit forms, and others that don't.
use Rattle.std.specs.Prelude.{ℕ, pos, ◌≡◌, true, List, [], ◌∷◌, Option, None, Some, codes}
use Rattle.av_lex.specs.declared.token.Sign.TheVariants as signs
use Rattle.av_tree.specs.declared.written.TypeText.{TypeText}
use Rattle.av_tree.specs.declared.attribute.Named.{Named}
use Rattle.av_tree.specs.declared.node.Body.{Body, roll-Body}
use Rattle.av_tree.specs.declared.node.BodyArg.{BodyArg}
use Rattle.av_tree.specs.declared.node.Node.{Node}
use Rattle.av_tree.specs.declared.written.ExprText.{ExprText}
use Rattle.av_tree.specs.declared.written.ExprText.TheVariants as expr
use Rattle.av_values.specs.Loops.{counter, index_type}
use Rattle.av_values.specs.Nodes.{plain}
use Rattle.av_values.specs.declared.value.LeafKind.TheVariants as kind
use Rattle.av_dialects.specs.declared.item.Item.TheVariants as item
use Rattle.av_dialects.specs.declared.item.Key.{Key}
use Rattle.av_dialects.specs.declared.item.Lead.TheVariants as lead
use Rattle.av_dialects.specs.declared.item.Results.{Results}
use Rattle.av_dialects.specs.declared.item.Results.TheVariants as results
use Rattle.av_dialects.specs.declared.item.Slot.TheVariants as slot
use Rattle.av_dialects.specs.declared.item.Slots.TheVariants as slots
use Rattle.av_dialects.specs.declared.item.Typing.TheVariants as typing
use Rattle.av_dialects.specs.declared.item.Wanted.TheVariants as wanted
use Rattle.av_dialects.specs.Rows.{Part}
use Rattle.av_form_laws.specs.Attributes.{written_map}
use Rattle.av_form_laws.specs.Items.{Fits, IsWanted, applied_entry, give}
use Rattle.av_form_laws.specs.Loops.{number_map, step_entry, value_map}
use Rattle.av_form_laws.specs.Subscripts.{leaf}
use Rattle.av_form_laws.specs.Properties.{is_word_of}
use Rattle.av_form_laws.specs.Rows.{FitsRow, words_of}
use Rattle.av_form_laws.specs.Words.{Word, comma, entries, number, of_type, plain as plain_word, region, sign, subscript, value, variable}
use Rattle.av_values.specs.Gifts.{Line, sizes_entry, unwritten}

-- an operation of these operands and types
abbrev pub line : List (List ℕ) → List (Option TypeText) → List (Option TypeText) → Line
line operands ins outs = record {
  name = codes "d.o";
  place = 0;
  results = [];
  operands = operands;
  properties = [];
  attrs = [];
  regions = [];
  in_types = ins;
  out_types = outs;
}

abbrev pub a : List ℕ
a = codes "%a"

abbrev pub b : List ℕ
b = codes "%b"

abbrev pub c : List ℕ
c = codes "%c"

abbrev pub one : Results
one = results.One typing.Written

-- ---- one operand, and two types: `%a : T to U`
abbrev pub cast : List Part
cast = (lead.Blank, item.Operand typing.Written) ∷ (lead.Colon, item.Type wanted.Any (slots.One (slot.Input 0)))
    ∷ (lead.To, item.Type wanted.Any (slots.One slot.Output)) ∷ []

-- it fits, and is printed so; without operand, without a type, and with an operand too many it doesn't
abbrev pub CastExamples : Type 0
CastExamples = (t u : TypeText) → IsWanted wanted.Any t → IsWanted wanted.Any u
    → FitsRow one cast (line (a ∷ []) (Some t ∷ []) (Some u ∷ []))
    × (words_of cast (line (a ∷ []) (Some t ∷ []) (Some u ∷ [])) ≡ value a ∷ sign signs.Colon ∷ of_type t ∷ plain_word (codes "to") ∷ of_type u ∷ [])
    × ¬ FitsRow one cast (line [] [] (Some u ∷ []))
    × ¬ FitsRow one cast (line (a ∷ []) (None ∷ []) (Some u ∷ []))
    × ¬ FitsRow one cast (line (a ∷ b ∷ []) (Some t ∷ None ∷ []) (Some u ∷ []))

-- ---- operands
abbrev pub perhaps_two : List Part
perhaps_two = (lead.Blank, item.Operand typing.Follows) ∷ (lead.Nothing, item.OptionalOperand) ∷ []

abbrev pub several : List Part
several = (lead.Blank, item.Operands) ∷ []

abbrev pub buffer : List Part
buffer = (lead.Blank, item.Element) ∷ []

abbrev pub OperandExamples : Type 0
OperandExamples =
    FitsRow results.Zero perhaps_two (line (a ∷ []) (None ∷ []) [])
    × FitsRow results.Zero perhaps_two (line (a ∷ b ∷ []) (None ∷ None ∷ []) [])
    × ¬ FitsRow results.Zero perhaps_two (line (a ∷ b ∷ c ∷ []) (None ∷ None ∷ None ∷ []) [])
    × FitsRow results.Zero several (line (a ∷ b ∷ []) (None ∷ None ∷ []) [])
    × ¬ FitsRow results.Zero several (line [] [] [])
    × FitsRow results.Zero buffer (line (a ∷ b ∷ c ∷ []) (None ∷ None ∷ None ∷ []) [])
    × ¬ FitsRow results.Zero buffer (line [] [] [])

-- ---- operands with their types, and the types of a choice
abbrev pub typed : List Part
typed = (lead.Nothing, item.TypedOperands) ∷ []

abbrev pub choice : List Part
choice = (lead.Blank, item.Operand typing.Follows) ∷ (lead.Comma, item.Operand typing.Written) ∷ (lead.Comma, item.Operand typing.Written)
    ∷ (lead.Colon, item.ChoiceTypes) ∷ []

abbrev pub chosen_line : Option TypeText → TypeText → Line
chosen_line condition t = line (a ∷ b ∷ c ∷ []) (condition ∷ Some t ∷ Some t ∷ []) (Some t ∷ [])

-- a condition's type is written where it is a vector alone
abbrev pub TypedExamples : Type 0
TypedExamples = (t v : TypeText) → IsWanted wanted.Any t → IsWanted wanted.Vector v
    → FitsRow results.Zero typed (line [] [] [])
    × FitsRow results.Zero typed (line (a ∷ []) (Some t ∷ []) [])
    × ¬ FitsRow results.Zero typed (line (a ∷ []) [] [])
    × FitsRow one choice (chosen_line None t)
    × FitsRow one choice (chosen_line (Some v) t)
    × ((s : TypeText) → ¬ IsWanted wanted.Vector s → ¬ FitsRow one choice (chosen_line (Some s) t))

-- ---- marks
abbrev pub marked : List Named → Line
marked es = record (line [] [] []) { attrs = es }

-- marks fit a form that has them alone
abbrev pub MarkExamples : Type 0
MarkExamples = (e : Named) → FitsRow results.Zero ((lead.Nothing, item.Marks) ∷ []) (marked (e ∷ [])) × ¬ FitsRow results.Zero [] (marked (e ∷ []))

-- ---- regions
abbrev pub body : List BodyArg → List Node → Body
body args nodes = roll-Body (record { args = args; nodes = nodes })

abbrev pub around : List Body → Line
around bodies = record (line [] [] []) { regions = bodies }

abbrev pub typed_arg : List ℕ → TypeText → BodyArg
typed_arg name t = record { name = name; ty = t }

-- an end of a region from a place of a text, and one that is put in
abbrev pub end : Node
end = plain (codes "affine.yield") 7

abbrev pub end_put_in : Node
end_put_in = plain (codes "affine.yield") 0

abbrev pub looped : List Part
looped = (lead.Blank, item.Counter) ∷ (lead.Blank, item.Region) ∷ []

-- a region of a counter ends; one without an end, with another argument, or with one more doesn't fit, and neither does none
abbrev pub RegionExamples : Type 0
RegionExamples = (t : TypeText) → ¬ (t ≡ index_type)
    → FitsRow results.Zero looped (around (body (counter a ∷ []) (end ∷ []) ∷ []))
    × (words_of looped (around (body (counter a ∷ []) (end ∷ []) ∷ [])) ≡ variable a ∷ region (end ∷ []) ∷ [])
    × FitsRow results.Zero looped (around (body (counter a ∷ []) (end_put_in ∷ []) ∷ []))
    × (words_of looped (around (body (counter a ∷ []) (end_put_in ∷ []) ∷ [])) ≡ variable a ∷ region [] ∷ [])
    × ¬ FitsRow results.Zero looped (around (body (counter a ∷ []) [] ∷ []))
    × ¬ FitsRow results.Zero looped (around (body (typed_arg a t ∷ []) (end ∷ []) ∷ []))
    × ¬ FitsRow results.Zero looped (around (body (counter a ∷ counter b ∷ []) (end ∷ []) ∷ []))
    × ¬ FitsRow results.Zero looped (around [])

abbrev pub branched : List Part
branched = (lead.Blank, item.Region) ∷ (lead.Nothing, item.Else) ∷ []

-- an end that is put in after `else` leaves it out; with one region alone a branch doesn't fit
abbrev pub ElseExamples : Type 0
ElseExamples =
    FitsRow results.Zero branched (around (body [] (end ∷ []) ∷ body [] (end ∷ []) ∷ []))
    × (words_of branched (around (body [] (end ∷ []) ∷ body [] (end ∷ []) ∷ [])) ≡ region (end ∷ []) ∷ plain_word (codes "else") ∷ region (end ∷ []) ∷ [])
    × FitsRow results.Zero branched (around (body [] (end ∷ []) ∷ body [] (end_put_in ∷ []) ∷ []))
    × (words_of branched (around (body [] (end ∷ []) ∷ body [] (end_put_in ∷ []) ∷ [])) ≡ region (end ∷ []) ∷ [])
    × ¬ FitsRow results.Zero branched (around (body [] (end ∷ []) ∷ []))

-- ---- bounds and steps
abbrev pub having : List Named → List (List ℕ) → Line
having es operands = record (line operands (unwritten operands) []) { properties = es }

abbrev pub stepped : List Part
stepped = (lead.Nothing, item.Step) ∷ []

-- a step of 1 isn't written, and without the property an operation doesn't fit
abbrev pub StepExamples : Type 0
StepExamples =
    ((s : ℕ) → FitsRow results.Zero stepped (having (step_entry s ∷ []) []))
    × (words_of stepped (having (step_entry 1 ∷ []) []) ≡ [])
    × (words_of stepped (having (step_entry 2 ∷ []) []) ≡ plain_word (codes "step") ∷ number (pos 2) ∷ [])
    × ¬ FitsRow results.Zero stepped (having [] [])

abbrev pub bounded : List Part
bounded = (lead.Equal, item.LowerBound) ∷ (lead.To, item.UpperBound) ∷ []

-- `= 0 to %b`, with how many operands there are
abbrev pub up_to : List Named → Line
up_to sizes = having (applied_entry (codes "lowerBoundMap") (number_map (pos 0)) ∷ applied_entry (codes "upperBoundMap") value_map ∷ sizes) (b ∷ [])

-- with a size too large and without sizes it doesn't fit
abbrev pub BoundExamples : Type 0
BoundExamples =
    FitsRow results.Zero bounded (up_to (sizes_entry (pos 0 ∷ pos 1 ∷ pos 0 ∷ []) ∷ []))
    × (words_of bounded (up_to (sizes_entry (pos 0 ∷ pos 1 ∷ pos 0 ∷ []) ∷ []))
    ≡ sign signs.Equal ∷ number (pos 0) ∷ plain_word (codes "to") ∷ value b ∷ [])
    × ¬ FitsRow results.Zero bounded (up_to (sizes_entry (pos 0 ∷ pos 2 ∷ pos 0 ∷ []) ∷ []))
    × ¬ FitsRow results.Zero bounded (up_to [])

-- ---- carried values and results
abbrev pub carrying : List Part
carrying = (lead.Nothing, item.Carried) ∷ (lead.Blank, item.Region) ∷ []

abbrev pub carrying_line : TypeText → List BodyArg → Line
carrying_line t args = record (line (c ∷ []) (Some t ∷ []) (Some t ∷ [])) { regions = body args (end ∷ []) ∷ [] }

-- a carried value has an argument of its type
abbrev pub CarriedExamples : Type 0
CarriedExamples = (t : TypeText) → IsWanted wanted.Any t
    → FitsRow results.Several carrying (carrying_line t (typed_arg a t ∷ []))
    × (words_of carrying (carrying_line t (typed_arg a t ∷ []))
    ≡ plain_word (codes "iter_args") ∷ sign signs.OpenRound ∷ variable a ∷ sign signs.Equal ∷ value c ∷ sign signs.CloseRound
    ∷ sign signs.Arrow ∷ sign signs.OpenRound ∷ of_type t ∷ sign signs.CloseRound ∷ region (end ∷ []) ∷ [])
    × ¬ FitsRow results.Several carrying (carrying_line t [])
    × ((u : TypeText) → ¬ (t ≡ u) → ¬ FitsRow results.Several carrying (carrying_line t (typed_arg a u ∷ [])))

abbrev pub resulting : List Part
resulting = (lead.Nothing, item.ResultTypes) ∷ []

-- each type of a result is written
abbrev pub ResultExamples : Type 0
ResultExamples = (t u : TypeText) → IsWanted wanted.Any t → IsWanted wanted.Any u
    → FitsRow results.Several resulting (line [] [] [])
    × FitsRow results.Several resulting (line [] [] (Some t ∷ Some u ∷ []))
    × (words_of resulting (line [] [] (Some t ∷ [])) ≡ sign signs.Arrow ∷ of_type t ∷ [])
    × ¬ FitsRow results.Several resulting (line [] [] (Some t ∷ None ∷ []))

-- ---- subscripts
abbrev pub accessing : List Part
accessing = (lead.Blank, item.Access) ∷ []

abbrev pub access_line : List (List ℕ) → List ExprText → Line
access_line dims exprs =
    having (applied_entry (codes "map") (written_map (record { dims = dims; syms = codes "s0" ∷ []; results = exprs })) ∷ []) (a ∷ b ∷ c ∷ [])

abbrev pub less_one : List ℕ → ExprText
less_one name = expr.Sub (expr.Name name) (expr.Const (pos 1))

-- `%a[%b - 1, symbol(%c)]`; with a parameter of another name, or one that stands nowhere, it doesn't fit
abbrev pub AccessExamples : Type 0
AccessExamples =
    FitsRow results.Zero accessing (access_line (codes "d0" ∷ []) (less_one (codes "d0") ∷ expr.Name (codes "s0") ∷ []))
    × (words_of accessing (access_line (codes "d0" ∷ []) (less_one (codes "d0") ∷ expr.Name (codes "s0") ∷ []))
    ≡ value a ∷ sign signs.OpenSquare ∷ subscript (record { expr = less_one b; leaves = kind.Dimension ∷ [] }) ∷ comma
    ∷ subscript (leaf kind.Symbol c) ∷ sign signs.CloseSquare ∷ [])
    × ¬ FitsRow results.Zero accessing (access_line (codes "d1" ∷ []) (less_one (codes "d1") ∷ expr.Name (codes "s0") ∷ []))
    × ¬ FitsRow results.Zero accessing (access_line (codes "d0" ∷ []) (expr.Name (codes "s0") ∷ []))

-- ---- a whole loop
abbrev pub loop_form : List Part
loop_form =
    (lead.Blank, item.Counter) ∷ (lead.Equal, item.LowerBound) ∷ (lead.To, item.UpperBound) ∷ (lead.Nothing, item.Step)
    ∷ (lead.Nothing, item.Carried) ∷ (lead.Blank, item.Region) ∷ (lead.Nothing, item.Marks) ∷ []

-- `%a = 0 to %b step 2 iter_args(%d = %c) -> (T) {..} {..}`
abbrev pub whole_loop : TypeText → Named → Line
whole_loop t e = record {
  name = codes "affine.for";
  place = 3;
  results = codes "%r" ∷ [];
  operands = b ∷ c ∷ [];
  properties = applied_entry (codes "lowerBoundMap") (number_map (pos 0)) ∷ applied_entry (codes "upperBoundMap") value_map
      ∷ step_entry 2 ∷ sizes_entry (pos 0 ∷ pos 1 ∷ pos 1 ∷ []) ∷ [];
  attrs = e ∷ [];
  regions = body (counter a ∷ typed_arg (codes "%d") t ∷ []) (end ∷ []) ∷ [];
  in_types = None ∷ Some t ∷ [];
  out_types = Some t ∷ [];
}

abbrev pub loop_words : TypeText → Named → List Word
loop_words t e =
    variable a ∷ sign signs.Equal ∷ number (pos 0) ∷ plain_word (codes "to") ∷ value b ∷ plain_word (codes "step") ∷ number (pos 2)
    ∷ plain_word (codes "iter_args") ∷ sign signs.OpenRound ∷ variable (codes "%d") ∷ sign signs.Equal ∷ value c ∷ sign signs.CloseRound
    ∷ sign signs.Arrow ∷ sign signs.OpenRound ∷ of_type t ∷ sign signs.CloseRound ∷ region (end ∷ []) ∷ entries (e ∷ []) ∷ []

abbrev pub LoopExamples : Type 0
LoopExamples = (t : TypeText) (e : Named) → IsWanted wanted.Any t
    → FitsRow results.Several loop_form (whole_loop t e)
    × (words_of loop_form (whole_loop t e) ≡ loop_words t e)

-- ---- words
-- each word that a property may have gives a property that fits
abbrev pub WordsFit : Type 0
WordsFit = (key : Key) (word : List ℕ) → is_word_of key word ≡ true → (k : ℕ) (n : Line)
    → Fits (item.Word key) k (give (item.Word key) word n) × Fits (item.Angled key) k (give (item.Angled key) word n)

abbrev pub LineExamples : Type 0
LineExamples =
    CastExamples × OperandExamples × TypedExamples × MarkExamples × RegionExamples × ElseExamples × StepExamples × BoundExamples × CarriedExamples
    × ResultExamples × AccessExamples × LoopExamples × WordsFit
