-- A bare operation, and entries of dictionaries.
use Rattle.std.specs.Prelude.{ℕ, List, []}
use Rattle.av_tree.specs.declared.node.Node.{Node, roll-Node}
use Rattle.av_tree.specs.declared.attribute.Attr.{Attr}
use Rattle.av_tree.specs.declared.attribute.Named.{Named, roll-Named}

-- an operation of this name that is written at this place, and nothing else of it
unfoldable pub plain : List ℕ → ℕ → Node
plain name place = roll-Node (record {
  name = name;
  place = place;
  results = [];
  operands = [];
  properties = [];
  attrs = [];
  regions = [];
  in_types = [];
  out_types = [];
})

-- an entry of a dictionary
abbrev pub entry : List ℕ → Attr → Named
entry name value = roll-Named (record { name = name; value = value })
