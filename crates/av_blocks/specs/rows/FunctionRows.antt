-- What the rows of modules and functions make of the values of their symbols. A list holds its last item first.
use Rattle.std.specs.Prelude.{ℕ, List, [], ◌∷◌, ◌++◌, codes, drop, reverse, Option, Some}
use Rattle.av_tree.specs.declared.table.functions.FunctionRule.{FunctionRule}
use Rattle.av_tree.specs.declared.table.functions.FunctionRule.TheVariants as functions_rule
use Rattle.av_tree.specs.rows.FunctionRows.{symbols_of, name_of}
use Rattle.av_tree.specs.declared.attribute.Attr.TheVariants as attr
use Rattle.av_values.specs.Nodes.{entry}
use Rattle.av_values.specs.Operations.{function_of, module_of}
use Rattle.av_values.specs.declared.value.Value.{Value}
use Rattle.av_values.specs.Sorts.{All, Of, replaced, sort_of, sorts_of}

abbrev pub made : (r : FunctionRule) → ℕ → All (sorts_of (symbols_of r)) → Of (sort_of (name_of r))
made functions_rule.BuiltinModule place (properties, (attrs, (nodes, _))) = module_of (reverse properties) (reverse attrs) nodes place
made functions_rule.NoSymbol place _ = []
made functions_rule.WrittenSymbol place (symbol, _) = entry (codes "sym_name") (attr.Quoted (drop 1 symbol)) ∷ []
made functions_rule.FuncFunc place (properties, (symbol, (args, (results, (attrs, (nodes, _)))))) = function_of properties symbol args results attrs nodes place
made functions_rule.NoVisibility place _ = []
made functions_rule.WrittenVisibility place (word, _) = entry (codes "sym_visibility") (attr.Quoted word) ∷ []
made functions_rule.NoFunctionArguments place _ = []
made functions_rule.FirstFunctionArgument place (arg, (others, _)) = others ++ arg ∷ []
made functions_rule.NoMoreFunctionArguments place _ = []
made functions_rule.NextFunctionArgument place (arg, (others, _)) = others ++ arg ∷ []
made functions_rule.ArgumentOfFunction place (name, (type, (attrs, _))) = record { name = name; ty = type }
made functions_rule.ModuleForm place (node, _) = node
made functions_rule.FunctionForm place (node, _) = node

-- what a row whose first token stands at a place does to a stack of values
abbrev pub by_row : FunctionRule → ℕ → List Value → Option (List Value)
by_row r place = replaced (sorts_of (symbols_of r)) (sort_of (name_of r)) (λ values. Some (made r place values))
