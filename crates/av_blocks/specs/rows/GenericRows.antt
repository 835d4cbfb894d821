-- What the rows of the generic form make of the values of their symbols. A list holds its last item first.
use Rattle.std.specs.Prelude.{ℕ, List, [], ◌∷◌, ◌++◌, reverse, Option, Some}
use Rattle.av_tree.specs.declared.table.generic.GenericRule.{GenericRule}
use Rattle.av_tree.specs.declared.table.generic.GenericRule.TheVariants as generic_rule
use Rattle.av_tree.specs.declared.node.Body.{roll-Body}
use Rattle.av_tree.specs.rows.GenericRows.{symbols_of, name_of}
use Rattle.av_values.specs.Forms.{generic_of}
use Rattle.av_values.specs.Spellings.{unquoted}
use Rattle.av_values.specs.declared.value.Value.{Value}
use Rattle.av_values.specs.Sorts.{All, Of, replaced, sort_of, sorts_of}

abbrev pub made : (r : GenericRule) → ℕ → All (sorts_of (symbols_of r)) → Of (sort_of (name_of r))
made generic_rule.GenericForm place (string, (parts, _)) = generic_of (unquoted string) parts place
made generic_rule.WholeGeneric place (operands, (properties, (regions, (attrs, (ins, (outs, _)))))) = record {
  operands = reverse operands;
  properties = reverse properties;
  regions = reverse regions;
  attrs = reverse attrs;
  in_types = reverse ins;
  out_types = reverse outs;
}
made generic_rule.NoProperties place _ = []
made generic_rule.WrittenProperties place (entries, _) = entries
made generic_rule.NoRegions place _ = []
made generic_rule.WrittenRegions place (body, (others, _)) = others ++ body ∷ []
made generic_rule.NoMoreRegions place _ = []
made generic_rule.NextRegion place (body, (others, _)) = others ++ body ∷ []
made generic_rule.LabelledRegion place (args, (nodes, _)) = roll-Body (record { args = reverse args; nodes = reverse nodes })
made generic_rule.NoLabel place _ = []
made generic_rule.BlockLabel place (label, (args, _)) = args
made generic_rule.NoArguments place _ = []
made generic_rule.FirstArgument place (name, (type, (others, _))) = others ++ record { name = name; ty = type } ∷ []
made generic_rule.NoMoreArguments place _ = []
made generic_rule.NextArgument place (name, (type, (others, _))) = others ++ record { name = name; ty = type } ∷ []

-- what a row whose first token stands at a place does to a stack of values
abbrev pub by_row : GenericRule → ℕ → List Value → Option (List Value)
by_row r place = replaced (sorts_of (symbols_of r)) (sort_of (name_of r)) (λ values. Some (made r place values))
