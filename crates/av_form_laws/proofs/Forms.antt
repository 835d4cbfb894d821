-- What is printed for an operation that fits its form is read as the operation.
use Rattle.std.proofs.Common.{ap, ◌∙◌}
use Rattle.av_tree.specs.declared.node.Node.{out-Node, roll-Node, roll-out-Node}
use Rattle.av_form_laws.specs.FormLaws.{FormLaw}
use Rattle.av_form_laws.specs.Rows.{blank, head_of}
use Rattle.av_form_laws.proofs.Given.{made-whole, makes}
use Rattle.av_values.specs.Gifts.{unwritten}

pub form-law : FormLaw
form-law r ps node h = (
  makes ps (blank (head_of (out-Node node)) r (unwritten (out-Node node).operands)) (out-Node node) h,
  ap roll-Node (made-whole r ps (out-Node node) h) ∙ roll-out-Node node,
)
