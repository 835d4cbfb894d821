-- Texts, and nodes and entries made of them.
use Rattle.std.specs.Prelude.{ℕ, List, [], ◌++◌}
use Rattle.std.specs.Fmt.{decimal}
use Rattle.av_tree.specs.declared.attribute.Attr.{Attr}
use Rattle.av_tree.specs.declared.attribute.Named.{Named, roll-Named}
use Rattle.av_tree.specs.declared.node.Node.{Node, roll-Node}

-- a text with a number in decimal digits at its end
abbrev pub numbered : List ℕ → ℕ → List ℕ
numbered front n = front ++ decimal n

-- an entry of a dictionary
abbrev pub entry : List ℕ → Attr → Named
entry name value = roll-Named (record { name = name; value = value })
