use Rattle.std.proofs.Common.{◌∙◌, ap, sym, List, ℕ}
use Rattle.av_verify.specs.Maps.{parameter, renamed}
use Rattle.av_tree.specs.declared.written.ExprText.{ExprText}
use Rattle.av_verify.proofs.TextVariants.{renamed-Name}
use Rattle.av_verify.proofs.maps.+renaming.Goals as goal

pub renamed-returns-in-Name : goal.renamed-returns-in-Name
renamed-returns-in-Name t c =
    c.parameter.ensures
    ∙ ap (λ (n : List ℕ). parameter c.args.map.now c.args.operands.now c.args.used.now n) c.as_slice.ensures
    ∙ sym (renamed-Name c.args.map.now c.args.operands.now c.args.used.now c.in-Name.name)
    ∙ sym (ap (λ (e : ExprText). renamed c.args.map.now c.args.operands.now c.args.used.now e) c.in-Name.is)
