-- What holds of all forms that are made of parts.
use Rattle.std.specs.Prelude.{◌≡◌, List}
use Rattle.av_tree.specs.declared.node.Node.{Node, out-Node, roll-Node}
use Rattle.av_dialects.specs.declared.item.Results.{Results}
use Rattle.av_dialects.specs.Rows.{Part}
use Rattle.av_form_laws.specs.Grammar.{Makes}
use Rattle.av_form_laws.specs.Rows.{FitsRow, head_of, made, values_of, words_of}

-- the words that are printed for an operation that fits its form are words of the form, and have the values from which reading makes
-- the operation again
abbrev pub FormLaw : Type 0
FormLaw = (r : Results) (ps : List Part) (node : Node) → FitsRow r ps (out-Node node)
    → Makes ps (words_of ps (out-Node node)) (values_of ps (out-Node node))
    × (roll-Node (made (head_of (out-Node node)) r ps (values_of ps (out-Node node))) ≡ node)
