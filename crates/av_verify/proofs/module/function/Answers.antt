use Rattle.std.proofs.Common.{rules, ◌∙◌, ap, sym, subst}
use Rattle.std.proofs.lemmas.Result.{err_from_is_err_and}
use Rattle.av_tree.specs.declared.node.Node.{out-Node}
use Rattle.av_verify.specs.Codes.{first_failing}
use Rattle.av_verify.specs.Elaboration.{IsRefused, step}
use Rattle.av_verify.specs.Modules.{function_rules}
use Rattle.av_verify.proofs.Outcomes.{refuses}
use Rattle.av_verify.proofs.Wholes.{function_is, refused_inside, given_inside}
use Rattle.av_verify.proofs.module.function.Goals as goal

pub returns-in_err-ask_function : goal.returns-in_err-ask_function
returns-in_err-ask_function c =
    let p = err_from_is_err_and c.from_residual-in_err-ask_function.result c.from_residual-in_err-ask_function.ensures.1 in
    rw (p.1, p.2)
    (subst (λ o. IsRefused o c.in_err-ask_function.field-0.0)
    (sym (function_is c.args.room c.args.scope.now c.args.node.now c.in_ok-number.number c.take_number.new.owners c.in_ok-new.new (out-Node c.args.node.now).regions c.in_ok-number.ensures.number c.in_ok-number.ensures.owner (search rules) (search rules)))
    (refuses c.in_ok-number.number (first_failing (function_rules c.in_ok-new.new c.args.node.now)) c.in_err-ask_function.field-0.0 _ c.in_err-ask_function.ensures))

pub returns-in_err-body : goal.returns-in_err-body
returns-in_err-body c =
    let p = err_from_is_err_and c.from_residual-in_err-body.result c.from_residual-in_err-body.ensures.1 in
    rw (p.1, p.2)
    (subst (λ o. IsRefused o c.in_err-body.field-0.0)
    (sym (function_is c.args.room c.args.scope.now c.args.node.now c.in_ok-number.number c.take_number.new.owners c.in_ok-new.new c.as_slice-2.result.now c.in_ok-number.ensures.number c.in_ok-number.ensures.owner (search rules) (search rules)))
    (refused_inside c.in_ok-number.number (first_failing (function_rules c.in_ok-new.new c.args.node.now)) _ _ c.in_err-body.field-0.0 c.in_ok-ask_function.ensures.0 c.in_err-body.ensures))

pub returns : goal.returns
returns c =
    (function_is c.args.room c.args.scope.now c.args.node.now c.in_ok-number.number c.take_number.new.owners c.in_ok-new.new c.as_slice-2.result.now c.in_ok-number.ensures.number c.in_ok-number.ensures.owner (search rules) (search rules))
    ∙ given_inside c.in_ok-number.number (first_failing (function_rules c.in_ok-new.new c.args.node.now)) _ _ _ c.in_ok-ask_function.ensures.0 c.in_ok-body.ensures
    ∙ ap (λ f. step f c.only_region.new.scope) (search rules)
