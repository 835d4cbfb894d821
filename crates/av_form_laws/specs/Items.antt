-- An item of a form as a lens between an operation and one value: the value, the operation without it, and the value put back.
-- The number is that of the operands that the parts behind the item need in any case.
use Rattle.std.specs.Prelude.{ℕ, ◌≡◌, Bool, true, false, List, [], ◌∷◌, ◌++◌, length, take, drop, Option, None, Some, codes}
use Rattle.std.specs.List.{list_all}
use Rattle.av_tree.specs.declared.written.TypeText.{TypeText, TypeText-F, out-TypeText}
use Rattle.av_tree.specs.declared.written.TypeText.TheOpen as types
use Rattle.av_tree.specs.declared.attribute.Named.{Named}
use Rattle.av_values.specs.Loops.{counter}
use Rattle.av_values.specs.Nodes.{entry}
use Rattle.av_dialects.specs.declared.item.Item.{Item}
use Rattle.av_dialects.specs.declared.item.Item.TheVariants as item
use Rattle.av_dialects.specs.declared.item.Slots.{Slots}
use Rattle.av_dialects.specs.declared.item.Slots.TheVariants as slots
use Rattle.av_dialects.specs.declared.item.Slot.TheVariants as slot
use Rattle.av_dialects.specs.declared.item.Wanted.{Wanted}
use Rattle.av_dialects.specs.declared.item.Wanted.TheVariants as wanted
use Rattle.av_values.specs.declared.value.Expression.{Expression}
use Rattle.av_form_laws.specs.Attributes.{Applied, Constant, applied_attr, constant_attr, constant_type, first_applied, first_constant, is_map, is_set}
use Rattle.av_form_laws.specs.Lines.{at_slot, cleared, first_text, known, type_at}
use Rattle.av_form_laws.specs.Loops.{Carrying, args_of, first_name, first_size, first_step, inits_of, nodes_in, paired, step_entry, types_of, written_in}
use Rattle.av_form_laws.specs.Subscripts.{map_in, numbered_map, numbered_values, subscripts_of}
use Rattle.av_form_laws.specs.Properties.{first_flags, first_word, flag_entries, is_flag, is_word_of, numbers_entry, without_flags, word_entry}
use Rattle.av_form_laws.specs.Values.{Of}
use Rattle.av_values.specs.Gifts.{Line, all_written, args_in, back, end_of, filled, first_numbers, front, last_numbers, put_at_slot, region_of, sizes_entry, unwritten, with_args_in, with_last, with_lower, with_upper}

-- ---- the types of a choice
abbrev pub condition_type : List (Option TypeText) → Option TypeText
condition_type [] = None
condition_type (t ∷ ts) = t

abbrev pub chosen : Slots
chosen = slots.One (slot.Input 1)

abbrev pub choice_types : Option TypeText → TypeText → List (Option TypeText)
choice_types condition t = condition ∷ Some t ∷ Some t ∷ []

-- ---- properties
abbrev pub constant_entry : Constant → Named
constant_entry c = entry (codes "value") (constant_attr c)

abbrev pub applied_entry : List ℕ → Applied → Named
applied_entry name a = entry name (applied_attr a)

-- ---- bounds
-- how many operands the next bound has, and its map with them
abbrev pub bound_size : Line → ℕ
bound_size n = first_size (last_numbers n.properties)

abbrev pub bound_taken : Line → Applied × List (List ℕ)
bound_taken n = (first_applied n.properties, take (bound_size n) n.operands)

-- ---- subscripts
abbrev pub access_taken : ℕ → Line → List ℕ × List Expression
access_taken k n = (first_text n.operands, subscripts_of (map_in (first_applied n.properties)) (front k (drop 1 n.operands)))

-- ---- the value of an item
abbrev pub taken : (i : Item) → ℕ → Line → Of i
taken (item.Operand _) k n = first_text n.operands
taken item.OptionalOperand k n = front k n.operands
taken item.Operands k n = front k n.operands
taken item.TypedOperands k n = (front k n.operands, known n.in_types)
taken item.Element k n = (first_text n.operands, front k (drop 1 n.operands))
taken (item.Type w s) k n = type_at s n
taken item.ChoiceTypes k n = (condition_type n.in_types, type_at chosen n)
taken (item.Word key) k n = first_word n.properties
taken (item.Angled key) k n = first_word n.properties
taken (item.Numbers key) k n = first_numbers n.properties
taken item.Overflow k n = first_flags n.properties
taken item.Marks k n = n.attrs
taken item.Constant k n = first_constant n.properties
taken item.Map k n = (first_applied n.properties, front k n.operands)
taken item.Set k n = (first_applied n.properties, front k n.operands)
taken item.Access k n = access_taken k n
taken item.Counter k n = first_name (args_in n.regions)
taken item.LowerBound k n = bound_taken n
taken item.UpperBound k n = bound_taken n
taken item.Step k n = first_step n.properties
taken item.Carried k n = paired (args_in n.regions) (front k n.operands)
taken item.ResultTypes k n = known n.out_types
taken item.Region k n = written_in (end_of n.name) (nodes_in n.regions)
taken item.Else k n = written_in (end_of n.name) (nodes_in n.regions)
taken item.ByHand k n = tt

-- ---- the operation without it
abbrev pub rest : Item → ℕ → Line → Line
rest (item.Operand _) k n = record n { operands = drop 1 n.operands }
rest item.OptionalOperand k n = record n { operands = back k n.operands }
rest item.Operands k n = record n { operands = back k n.operands }
rest item.TypedOperands k n = record n { operands = back k n.operands; in_types = unwritten n.operands }
rest item.Element k n = record n { operands = back k (drop 1 n.operands) }
rest (item.Type w s) k n = cleared s n
rest item.ChoiceTypes k n = record n { in_types = None ∷ None ∷ None ∷ []; out_types = None ∷ [] }
rest (item.Word key) k n = record n { properties = drop 1 n.properties }
rest (item.Angled key) k n = record n { properties = drop 1 n.properties }
rest (item.Numbers key) k n = record n { properties = drop 1 n.properties }
rest item.Overflow k n = record n { properties = without_flags n.properties }
rest item.Marks k n = record n { attrs = [] }
rest item.Constant k n = record n { properties = drop 1 n.properties; out_types = None ∷ [] }
rest item.Map k n = record n { operands = back k n.operands; properties = drop 1 n.properties }
rest item.Set k n = record n { operands = back k n.operands; properties = drop 1 n.properties }
rest item.Access k n = record n { operands = back k (drop 1 n.operands); properties = drop 1 n.properties }
rest item.Counter k n = record n { regions = with_args_in (drop 1 (args_in n.regions)) n.regions }
rest item.LowerBound k n = record n {
  operands = drop (bound_size n) n.operands;
  properties = front 1 (drop 1 n.properties) ++ sizes_entry (drop 1 (last_numbers n.properties)) ∷ [];
}
rest item.UpperBound k n = record n { operands = drop (bound_size n) n.operands; properties = front 1 (drop 1 n.properties) }
rest item.Step k n = record n { properties = drop 1 n.properties }
rest item.Carried k n = record n {
  operands = back k n.operands;
  regions = with_args_in [] n.regions;
  in_types = with_last (unwritten (front k n.operands)) n.in_types;
  out_types = [];
}
rest item.ResultTypes k n = record n { out_types = [] }
rest item.Region k n = record n { regions = drop 1 n.regions }
rest item.Else k n = record n { regions = drop 1 n.regions }
rest item.ByHand k n = n

-- ---- the value put back
abbrev pub give : (i : Item) → Of i → Line → Line
give (item.Operand _) v n = record n { operands = v ∷ n.operands }
give item.OptionalOperand vs n = record n { operands = vs ++ n.operands }
give item.Operands vs n = record n { operands = vs ++ n.operands }
give item.TypedOperands (vs, ts) n = record n { operands = vs ++ n.operands; in_types = all_written ts }
give item.Element (buffer, indices) n = record n { operands = buffer ∷ (indices ++ n.operands) }
give (item.Type w s) t n = filled s t n
give item.ChoiceTypes (condition, t) n = record n { in_types = choice_types condition t; out_types = Some t ∷ [] }
give (item.Word key) word n = record n { properties = word_entry key word ∷ n.properties }
give (item.Angled key) word n = record n { properties = word_entry key word ∷ n.properties }
give (item.Numbers key) numbers n = record n { properties = numbers_entry key numbers ∷ n.properties }
give item.Overflow flags n = record n { properties = flag_entries flags ++ n.properties }
give item.Marks entries n = record n { attrs = entries }
give item.Constant c n = record n { properties = constant_entry c ∷ n.properties; out_types = constant_type c ∷ [] }
give item.Map (a, vs) n = record n { operands = vs ++ n.operands; properties = applied_entry (codes "map") a ∷ n.properties }
give item.Set (a, vs) n = record n { operands = vs ++ n.operands; properties = applied_entry (codes "condition") a ∷ n.properties }
give item.Access (buffer, subscripts) n = record n {
  operands = buffer ∷ (numbered_values subscripts ++ n.operands);
  properties = applied_entry (codes "map") (numbered_map subscripts) ∷ n.properties;
}
give item.Counter name n = record n { regions = with_args_in (counter name ∷ args_in n.regions) n.regions }
give item.LowerBound (a, vs) n = record n { operands = vs ++ n.operands; properties = with_lower (applied_attr a) (length vs) n.properties }
give item.UpperBound (a, vs) n = record n { operands = vs ++ n.operands; properties = with_upper (applied_attr a) (length vs) (length n.operands) n.properties }
give item.Step s n = record n { properties = step_entry s ∷ n.properties }
give item.Carried cs n = record n {
  operands = inits_of cs ++ n.operands;
  regions = with_args_in (args_of cs ++ args_in n.regions) n.regions;
  in_types = with_last (all_written (types_of cs)) n.in_types;
  out_types = all_written (types_of cs);
}
give item.ResultTypes ts n = record n { out_types = all_written ts }
give item.Region nodes n = record n { regions = region_of n.name nodes ∷ n.regions }
give item.Else nodes n = record n { regions = region_of n.name nodes ∷ n.regions }
give item.ByHand v n = n

-- a type that isn't written yet for each operand of the value
abbrev pub opened : (i : Item) → Of i → List (Option TypeText)
opened (item.Operand _) v = None ∷ []
opened item.OptionalOperand vs = unwritten vs
opened item.Operands vs = unwritten vs
opened item.TypedOperands (vs, ts) = unwritten vs
opened item.Element (buffer, indices) = None ∷ unwritten indices
opened item.Map (a, vs) = unwritten vs
opened item.Set (a, vs) = unwritten vs
opened item.Access (buffer, subscripts) = None ∷ unwritten (numbered_values subscripts)
opened item.LowerBound (a, vs) = unwritten vs
opened item.UpperBound (a, vs) = unwritten vs
opened item.Carried cs = unwritten (inits_of cs)
opened _ v = []

-- ---- an operation that has what the item is
abbrev pub HasFirst : {A : Type 0} → List A → Type 0
HasFirst [] = ⊥
HasFirst (x ∷ xs) = Unit {0}

abbrev pub HasAtMostOne : {A : Type 0} → List A → Type 0
HasAtMostOne [] = Unit {0}
HasAtMostOne (x ∷ xs) = xs ≡ []

-- types of values: none for no values, and else at least one
abbrev pub AreTypes : List (List ℕ) → List TypeText → Type 0
AreTypes [] ts = ts ≡ []
AreTypes (v ∷ vs) ts = HasFirst ts

abbrev pub is_wanted : Wanted → TypeText-F TypeText → Bool
is_wanted wanted.Any (types.Func _ _) = false
is_wanted wanted.Any _ = true
is_wanted wanted.Buffer (types.MemRef _ _ _) = true
is_wanted wanted.Buffer _ = false
is_wanted wanted.Vector (types.Vector _ _) = true
is_wanted wanted.Vector _ = false

abbrev pub IsWanted : Wanted → TypeText → Type 0
IsWanted w t = is_wanted w (out-TypeText t) ≡ true

-- the type stands at each slot; of two that are one slot only the first has it
abbrev pub StandsAt : Slots → TypeText → Line → Type 0
StandsAt (slots.One a) t n = at_slot a n ≡ Some (Some t)
StandsAt (slots.Two a b) t n = (at_slot a n ≡ Some (Some t)) × (at_slot b (put_at_slot a None n) ≡ Some (Some t))
StandsAt (slots.Three a b c) t n =
    (at_slot a n ≡ Some (Some t)) × (at_slot b (put_at_slot a None n) ≡ Some (Some t))
    × (at_slot c (put_at_slot b None (put_at_slot a None n)) ≡ Some (Some t))

-- a condition's type is written where it is a vector
abbrev pub IsCondition : Option TypeText → Type 0
IsCondition None = Unit {0}
IsCondition (Some c) = IsWanted wanted.Vector c

-- a constant's type, where it is written
abbrev pub IsTypeOf : Option TypeText → Type 0
IsTypeOf None = Unit {0}
IsTypeOf (Some t) = IsWanted wanted.Any t

abbrev pub AreWanted : List TypeText → Type 0
AreWanted ts = list_all (λ (t : TypeText). is_wanted wanted.Any (out-TypeText t)) ts ≡ true

-- the first region is that of the operations that are written in it, and has no argument left
abbrev pub HasRegion : Line → Type 0
HasRegion n = n.regions ≡ region_of n.name (written_in (end_of n.name) (nodes_in n.regions)) ∷ drop 1 n.regions

-- the map and the operands are those of these subscripts
abbrev pub AreNumbered : List Expression → ℕ → Line → Type 0
AreNumbered subscripts k n = (front k (drop 1 n.operands) ≡ numbered_values subscripts)
    × (n.properties ≡ applied_entry (codes "map") (numbered_map subscripts) ∷ drop 1 n.properties)

-- the arguments, the operands and both lists of types are those of carried values
abbrev pub AreCarried : List Carrying → ℕ → Line → Type 0
AreCarried cs k n = (args_in n.regions ≡ args_of cs) × (front k n.operands ≡ inits_of cs)
    × (n.in_types ≡ with_last (all_written (types_of cs)) n.in_types) × (n.out_types ≡ all_written (types_of cs))

abbrev pub Fits : Item → ℕ → Line → Type 0
Fits (item.Operand _) k n = HasFirst n.operands
Fits item.OptionalOperand k n = HasAtMostOne (front k n.operands)
Fits item.Operands k n = HasFirst (front k n.operands)
Fits item.TypedOperands k n =
    (n.in_types ≡ all_written (known n.in_types)) × AreTypes (front k n.operands) (known n.in_types) × AreWanted (known n.in_types)
Fits item.Element k n = HasFirst n.operands
Fits (item.Type w s) k n = IsWanted w (type_at s n) × StandsAt s (type_at s n) n
Fits item.ChoiceTypes k n =
    IsCondition (condition_type n.in_types) × IsWanted wanted.Any (type_at chosen n)
    × (n.in_types ≡ choice_types (condition_type n.in_types) (type_at chosen n)) × (n.out_types ≡ Some (type_at chosen n) ∷ [])
Fits (item.Word key) k n =
    (is_word_of key (first_word n.properties) ≡ true) × (n.properties ≡ word_entry key (first_word n.properties) ∷ drop 1 n.properties)
Fits (item.Angled key) k n =
    (is_word_of key (first_word n.properties) ≡ true) × (n.properties ≡ word_entry key (first_word n.properties) ∷ drop 1 n.properties)
Fits (item.Numbers key) k n = n.properties ≡ numbers_entry key (first_numbers n.properties) ∷ drop 1 n.properties
Fits item.Overflow k n =
    (list_all is_flag (first_flags n.properties) ≡ true) × (n.properties ≡ flag_entries (first_flags n.properties) ++ without_flags n.properties)
Fits item.Marks k n = Unit {0}
Fits item.Constant k n =
    IsTypeOf (constant_type (first_constant n.properties)) × (n.out_types ≡ constant_type (first_constant n.properties) ∷ [])
    × (n.properties ≡ constant_entry (first_constant n.properties) ∷ drop 1 n.properties)
Fits item.Map k n =
    (is_map (first_applied n.properties) ≡ true)
    × (n.properties ≡ applied_entry (codes "map") (first_applied n.properties) ∷ drop 1 n.properties)
Fits item.Set k n =
    (is_set (first_applied n.properties) ≡ true)
    × (n.properties ≡ applied_entry (codes "condition") (first_applied n.properties) ∷ drop 1 n.properties)
Fits item.Access k n = HasFirst n.operands × AreNumbered (access_taken k n).1 k n
Fits item.Counter k n = args_in n.regions ≡ counter (first_name (args_in n.regions)) ∷ drop 1 (args_in n.regions)
Fits item.LowerBound k n =
    (is_map (bound_taken n).0 ≡ true)
    × (n.properties ≡ with_lower (applied_attr (bound_taken n).0) (length (bound_taken n).1) (front 1 (drop 1 n.properties) ++ sizes_entry (drop 1 (last_numbers n.properties)) ∷ []))
Fits item.UpperBound k n =
    (is_map (bound_taken n).0 ≡ true)
    × (n.properties
    ≡ with_upper (applied_attr (bound_taken n).0) (length (bound_taken n).1) (length (drop (bound_size n) n.operands)) (front 1 (drop 1 n.properties)))
Fits item.Step k n = n.properties ≡ step_entry (first_step n.properties) ∷ drop 1 n.properties
Fits item.Carried k n = AreCarried (paired (args_in n.regions) (front k n.operands)) k n × AreWanted (types_of (paired (args_in n.regions) (front k n.operands)))
Fits item.ResultTypes k n = (n.out_types ≡ all_written (known n.out_types)) × AreWanted (known n.out_types)
Fits item.Region k n = HasRegion n
Fits item.Else k n = HasRegion n
Fits item.ByHand k n = ⊥
