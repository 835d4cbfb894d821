-- What suits the forms of their own suits each form.
use Rattle.std.proofs.Common.{List, ℕ}
use Rattle.av_tree.specs.declared.attribute.Named.{Named}
use Rattle.av_tree.specs.declared.node.Node.{Node, out-Node}
use Rattle.av_tree.specs.declared.node.Body.{Body, out-Body}
use Rattle.av_printer.specs.declared.form.Form.{Form}
use Rattle.av_printer.specs.declared.form.Form.TheVariants as forms
use Rattle.av_print_laws.specs.ReadNodes.{HasSymbol, IsReadLine, IsReadNode, node, AreReadBodies, no_bodies, one_body_more, AreReadNodes, no_nodes, one_node_more}
use Rattle.av_print_laws.specs.WrittenTrees.{FormsLaw}

symbol-each : (form : Form) (name : List ℕ) (properties : List Named) → HasSymbol forms.Named name properties → HasSymbol form name properties
symbol-each forms.Named name properties s = s
symbol-each forms.Generic name properties s = tt

line-each : (form : Form) (n : Node) → IsReadLine forms.Named (out-Node n) → IsReadLine form (out-Node n)
line-each form n l = record {
  named = l.named;
  makes = l.makes;
  uses = l.uses;
  says = l.says;
  marked = l.marked;
  takes = l.takes;
  gives = l.gives;
  symbol = symbol-each form (out-Node n).name (out-Node n).properties l.symbol;
}

mutual
  node-each : (form : Form) (n : Node) → IsReadNode forms.Named n → IsReadNode form n
  node-each form _ (node n l bodies) = node n (line-each form n l) (bodies-each form (out-Node n).regions bodies)

  bodies-each : (form : Form) (bodies : List Body) → AreReadBodies forms.Named bodies → AreReadBodies form bodies
  bodies-each form _ no_bodies = no_bodies
  bodies-each form _ (one_body_more b rest h k l) =
      one_body_more b rest h (nodes-each form (out-Body b).nodes k) (bodies-each form rest l)

  nodes-each : (form : Form) (nodes : List Node) → AreReadNodes forms.Named nodes → AreReadNodes form nodes
  nodes-each form _ no_nodes = no_nodes
  nodes-each form _ (one_node_more n rest h k) = one_node_more n rest (node-each form n h) (nodes-each form rest k)

pub forms-law : FormsLaw
forms-law root h form = node-each form root h
