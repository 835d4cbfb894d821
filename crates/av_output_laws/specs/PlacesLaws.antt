-- What holds of trees without places.
use Rattle.std.specs.Prelude.{◌≡◌}
use Rattle.av_tree.specs.declared.node.Tree.{Tree}
use Rattle.av_read_laws.specs.Places.{unplaced}
use Rattle.av_verify.specs.declared.module.Mode.{Mode}
use Rattle.av_verify.specs.Elaboration.{elaborated}

-- the places of operations make no difference to the module of a tree, nor to what fails and how
abbrev pub PlacesLaw : Type 0
PlacesLaw = (tree : Tree) (mode : Mode) → elaborated (unplaced tree) mode ≡ elaborated tree mode
