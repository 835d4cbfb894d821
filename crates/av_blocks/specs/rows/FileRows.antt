-- What the rows of files make of the values of their symbols. A list holds its last item first.
use Rattle.std.specs.Prelude.{ℕ, List, [], ◌∷◌, ◌++◌, codes, reverse, Option, Some}
use Rattle.av_tree.specs.declared.table.file.FileRule.{FileRule}
use Rattle.av_tree.specs.declared.table.file.FileRule.TheVariants as file_rule
use Rattle.av_tree.specs.rows.FileRows.{symbols_of, name_of}
use Rattle.av_values.specs.Forms.{completed, generic_of}
use Rattle.av_values.specs.Operations.{named, root_of}
use Rattle.av_values.specs.Spellings.{unquoted}
use Rattle.av_values.specs.declared.value.Value.{Value}
use Rattle.av_values.specs.Sorts.{All, Of, replaced, sort_of, sorts_of}

abbrev pub made : (r : FileRule) → ℕ → All (sorts_of (symbols_of r)) → Of (sort_of (name_of r))
made file_rule.WholeFile place (aliases, (nodes, _)) = record { aliases = reverse aliases; root = root_of nodes }
made file_rule.NoMoreAliases place _ = []
made file_rule.NextAlias place (name, (value, (others, _))) = others ++ record { name = name; value = value } ∷ []
made file_rule.AliasOfMap place (map, _) = map
made file_rule.AliasOfSet place (set, _) = set
made file_rule.NoContent place _ = []
made file_rule.NamedContent place (results, (first, _)) = first.others ++ named first.node (reverse results) place ∷ []
made file_rule.PlainContent place (first, _) = first.others ++ first.node ∷ []
made file_rule.OnlyModule place (node, _) = record { node = node; others = [] }
made file_rule.OnlyGenericModule place (string, (parts, _)) = record { node = generic_of (unquoted string) parts place; others = [] }
made file_rule.FirstFunction place (node, (others, _)) = record { node = node; others = others }
made file_rule.NoMoreFunctions place _ = []
made file_rule.NextNamedFunction place (results, (node, (others, _))) = others ++ named node (reverse results) place ∷ []
made file_rule.NextFunction place (node, (others, _)) = others ++ node ∷ []
made file_rule.WrittenFunction place (node, _) = node
made file_rule.GenericFunction place (string, (parts, _)) = generic_of (unquoted string) parts place

-- what a row whose first token stands at a place does to a stack of values
abbrev pub by_row : FileRule → ℕ → List Value → Option (List Value)
by_row r place = replaced (sorts_of (symbols_of r)) (sort_of (name_of r)) (λ values. Some (made r place values))
