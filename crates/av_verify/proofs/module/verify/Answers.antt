use Rattle.std.proofs.Common.{sym, subst}
use Rattle.std.proofs.lemmas.Result.{err_from_is_err_and}
use Rattle.std.specs.Option.{option_copied}
use Rattle.av_verify.specs.Elaboration.{Ends}
use Rattle.av_verify.proofs.Wholes.{tree_refused, tree_passed}
use Rattle.av_verify.proofs.module.verify.Goals as goal

pub returns-in_err-ask_module : goal.returns-in_err-ask_module
returns-in_err-ask_module c =
    let p = err_from_is_err_and c.from_residual.result c.from_residual.ensures.1 in
    rw (p.1, p.2)
    (tree_refused c.args.tree.now c.args.mode.now _ c.in_err-ask_module.ensures)

pub returns : goal.returns
returns c =
    subst (λ o. Ends o c.module_of.result)
    (sym (tree_passed c.args.tree.now c.args.mode.now (option_copied c.only_function.result) c.in_ok-ask_module.ensures.0 c.only_function.ensures))
    c.module_of.ensures
