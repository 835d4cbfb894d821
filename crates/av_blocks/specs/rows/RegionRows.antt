-- What the rows of operations in regions make of the values of their symbols. A list holds its last item first.
use Rattle.std.specs.Prelude.{ℕ, List, [], ◌∷◌, ◌++◌, reverse, Option, Some}
use Rattle.av_tree.specs.declared.table.regions.RegionRule.{RegionRule}
use Rattle.av_tree.specs.declared.table.regions.RegionRule.TheVariants as regions_rule
use Rattle.av_tree.specs.rows.RegionRows.{symbols_of, name_of}
use Rattle.av_values.specs.Forms.{completed}
use Rattle.av_values.specs.Operations.{named, no_values, terminator_of}
use Rattle.av_values.specs.declared.value.Value.{Value}
use Rattle.av_values.specs.Sorts.{All, Of, replaced, sort_of, sorts_of}

abbrev pub made : (r : RegionRule) → ℕ → All (sorts_of (symbols_of r)) → Of (sort_of (name_of r))
made regions_rule.NoMoreOperations place _ = []
made regions_rule.WithResults place (results, (first, _)) = first.others ++ named first.node (reverse results) place ∷ []
made regions_rule.WithoutResults place (first, _) = first.others ++ completed first.node ∷ []
made regions_rule.PlainOperation place (node, (others, _)) = record { node = node; others = others }
made regions_rule.TerminatorOperation place (word, (rest, _)) = record { node = terminator_of word rest.values place; others = rest.nodes }
made regions_rule.TerminatorWithValues place (values, (nodes, _)) = record { values = values; nodes = nodes }
made regions_rule.TerminatorLast place _ = record { values = no_values; nodes = [] }
made regions_rule.TerminatorThenOperation place (first, _) = record { values = no_values; nodes = first.others ++ completed first.node ∷ [] }
made regions_rule.ValuesAndTypes place (value, (values, (type, (types, _)))) = record { values = values ++ value ∷ []; types = types ++ type ∷ [] }
made regions_rule.NamedRegion place (nodes, _) = nodes

-- what a row whose first token stands at a place does to a stack of values
abbrev pub by_row : RegionRule → ℕ → List Value → Option (List Value)
by_row r place = replaced (sorts_of (symbols_of r)) (sort_of (name_of r)) (λ values. Some (made r place values))
