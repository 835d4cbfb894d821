-- Equal numbers are those of one class.
use Rattle.std.proofs.Common.{◌∙◌, sym, subst, IsTrue, ◌≡◌, true}
use Rattle.std.proofs.lemmas.Bool.{false≢true}
use Rattle.av_tree.specs.declared.class.Class.{Class}
use Rattle.av_tree.specs.Sets.{is_same_class}
use Rattle.av_tree.proofs.Choice.{same-as-itself, same-class}
use Rattle.av_derive.proofs.machine.is_same.Goals as goal

pub returns-clause-same : goal.returns-clause-same
returns-clause-same c e = same-class c.args.left c.args.right (sym c.have_same_numbers.ensures ∙ e)

pub returns-clause-other : goal.returns-clause-other
returns-clause-other c e same =
    let alike : is_same_class c.args.left c.args.right ≡ true = subst (λ (k : Class). IsTrue (is_same_class c.args.left k)) same (same-as-itself c.args.left) in
    false≢true (sym e ∙ (c.have_same_numbers.ensures ∙ alike))
