-- A loop whose other rules hold fails by the limit.
use Rattle.std.proofs.Common.{rules, false, sym, subst}
use Rattle.std.proofs.lemmas.Result.{err_from_is_err_and}
use Rattle.av_ir.specs.declared.module.Op.{Op}
use Rattle.av_verify.specs.Elaboration.{Step, IsRefused, fails, loop_of}
use Rattle.av_verify.proofs.Outcomes.{refused}
use Rattle.av_verify.proofs.Walks.{loop_refused, loop_passed}
use Rattle.av_verify.proofs.operations.loop_without_room.Goals as goal

pub returns-in_err-ask_loop : goal.returns-in_err-ask_loop
unfolding loop_of
returns-in_err-ask_loop c =
    let p = err_from_is_err_and c.from_residual-in_err-ask_loop.result c.from_residual-in_err-ask_loop.ensures.1 in
    rw (p.1, p.2)
    (loop_refused false (λ inner bodies. fails c.args.number 17) c.args.number c.args.scope.now c.args.node.now c.as_slice-3.result.now c.in_ok-new.new _
    (search rules) (search rules) c.in_err-ask_loop.ensures)

pub returns : goal.returns
unfolding loop_of
returns c =
    subst (λ o. IsRefused o c.bad.result)
    (sym (loop_passed false (λ inner bodies. fails c.args.number 17) c.args.number c.args.scope.now c.args.node.now c.as_slice-3.result.now c.in_ok-new.new
    (search rules) (search rules) c.in_ok-ask_loop.ensures.0))
    (refused (Step Op) c.args.number 17 c.bad.result c.bad.ensures)
