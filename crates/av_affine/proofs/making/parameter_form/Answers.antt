use Rattle.std.proofs.Common.{[], ◌∷◌, ◌++◌, sym, ◌∙◌, ap}
use Rattle.std.specs.Prelude.{pos}
use Rattle.av_affine.specs.declared.linear.Linear.{roll-Linear}
use Rattle.av_affine.proofs.FormParts.{form-Param}
use Rattle.av_affine.proofs.making.parameter_form.Goals as goal

pub returns : goal.returns
returns c =
    ap (λ ts. roll-Linear (record { terms = ts; opaque = c.new.result; constant = pos 0 }))
    (c.in_ok-push.ensures.ok ∙ ap (λ us. us ++ (record { leaf = c.args.leaf; factor = pos 1 } ∷ [])) c.new-terms.ensures)
    ∙ ap (λ os. roll-Linear (record { terms = record { leaf = c.args.leaf; factor = pos 1 } ∷ []; opaque = os; constant = pos 0 })) c.new.ensures
    ∙ sym (form-Param c.args.leaf)
