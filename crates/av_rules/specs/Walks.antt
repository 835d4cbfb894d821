-- What holds of the walk over a tree.
use Rattle.std.specs.Prelude.{◌≡◌, length}
use Rattle.av_tree.specs.declared.node.Tree.{Tree}
use Rattle.av_rules.specs.declared.mode.Mode.{Mode}
use Rattle.av_rules.specs.Sites.{operations_in, sites}

-- each operation of the tree has one place in the walk
abbrev pub AllSitesLaw : Type 0
AllSitesLaw = (tree : Tree) (mode : Mode) → length (sites tree mode) ≡ operations_in tree.root
