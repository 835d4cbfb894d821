-- Trees without the places of their operations.
use Rattle.av_tree.specs.declared.node.Node.{Node, Node-F, fold-Node, roll-Node}
use Rattle.av_tree.specs.declared.node.Body.{Body, Body-F, fold-Body, roll-Body}
use Rattle.av_tree.specs.declared.node.Tree.{Tree}

abbrev pub body_step : Body-F Body Node → Body
body_step body = roll-Body body

abbrev pub node_step : Node-F Body Node → Node
node_step node = roll-Node (record node { place = 0 })

-- an operation with 0 for its place and the places in it
unfoldable pub unplaced_node : Node → Node
unplaced_node = fold-Node Body Node body_step node_step

-- the same of a region
unfoldable pub unplaced_body : Body → Body
unplaced_body = fold-Body Body Node body_step node_step

-- the same of a tree
abbrev pub unplaced : Tree → Tree
unplaced tree = record tree { root = unplaced_node tree.root }
