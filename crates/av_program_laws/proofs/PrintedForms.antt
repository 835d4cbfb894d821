-- What can be spelled with operations in forms of their own can be spelled in either form.
use Rattle.std.proofs.Common.{ℕ, List}
use Rattle.av_tree.specs.declared.attribute.Named.{Named}
use Rattle.av_tree.specs.declared.node.Node.{Node, Node-F, out-Node}
use Rattle.av_tree.specs.declared.node.Body.{Body, out-Body}
use Rattle.av_printer.specs.declared.form.Form.{Form}
use Rattle.av_printer.specs.declared.form.Form.TheVariants as forms
use Rattle.av_program_laws.specs.WrittenTrees.{written_tree}
use Rattle.av_print_laws.specs.ReadNodes.{HasSymbol, IsReadLine, IsReadNode, node, AreReadBodies, no_bodies, one_body_more, AreReadNodes, no_nodes, one_node_more}
use Rattle.av_program_laws.specs.PrintedLaws.{PrintedLaw}
use Rattle.av_program_laws.proofs.PrintedWalks.{printed_named}

symbol-in : (form : Form) (name : List ℕ) (properties : List Named) → HasSymbol forms.Named name properties → HasSymbol form name properties
symbol-in forms.Named name properties s = s
symbol-in forms.Generic name properties s = tt

line-in : (form : Form) (x : Node-F Body Node) → IsReadLine forms.Named x → IsReadLine form x
line-in form x l = record {
  named = l.named;
  makes = l.makes;
  uses = l.uses;
  says = l.says;
  marked = l.marked;
  takes = l.takes;
  gives = l.gives;
  symbol = symbol-in form x.name x.properties l.symbol;
}

mutual
  node-in : (form : Form) (n : Node) → IsReadNode forms.Named n → IsReadNode form n
  node-in form _ (node n l bodies) = node n (line-in form (out-Node n) l) (bodies-in form (out-Node n).regions bodies)

  bodies-in : (form : Form) (bodies : List Body) → AreReadBodies forms.Named bodies → AreReadBodies form bodies
  bodies-in form _ no_bodies = no_bodies
  bodies-in form _ (one_body_more b rest h k l) = one_body_more b rest h (nodes-in form (out-Body b).nodes k) (bodies-in form rest l)

  nodes-in : (form : Form) (nodes : List Node) → AreReadNodes forms.Named nodes → AreReadNodes form nodes
  nodes-in form _ no_nodes = no_nodes
  nodes-in form _ (one_node_more n rest h k) = one_node_more n rest (node-in form n h) (nodes-in form rest k)

pub printed : PrintedLaw
printed form p sound = node-in form (written_tree p).root (printed_named p sound)
