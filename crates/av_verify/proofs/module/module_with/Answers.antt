use Rattle.std.proofs.Common.{rules, ◌∙◌, [], ◌∷◌, ap, sym, subst}
use Rattle.std.proofs.lemmas.Result.{err_from_is_err_and}
use Rattle.av_verify.specs.Elaboration.{IsRefused, gives, next}
use Rattle.av_verify.proofs.Outcomes.{refused_next}
use Rattle.av_verify.proofs.Wholes.{module_is}
use Rattle.av_verify.proofs.module.module_with.Goals as goal

pub returns-in_err-func : goal.returns-in_err-func
returns-in_err-func c =
    let p = err_from_is_err_and c.from_residual-in_err-func.result c.from_residual-in_err-func.ensures.1 in
    rw (p.1, p.2)
    (subst (λ o. IsRefused o c.in_err-func.field-0.0)
    (sym (module_is c.args.mode.now c.args.node.now c.most_regions.result c.new_scope-scope.result c.take_number.new.owners c.most_regions.ensures c.new_scope-scope.ensures (search rules)))
    (refused_next _ _ c.in_err-func.field-0.0 c.in_err-func.ensures))

pub returns : goal.returns
returns c =
    module_is c.args.mode.now c.args.node.now c.most_regions.result c.new_scope-scope.result c.take_number.new.owners c.most_regions.ensures c.new_scope-scope.ensures (search rules)
    ∙ ap (λ o. next o (λ s. gives (record { funcs = s.given ∷ []; owners = s.scope.owners }))) c.in_ok-func.ensures
    ∙ ap (λ fs. gives (record { funcs = fs; owners = c.function.new.scope.owners })) (search rules)
