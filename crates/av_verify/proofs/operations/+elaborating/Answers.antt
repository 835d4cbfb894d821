-- Each step of the walk, by what its parts give.
use Rattle.std.proofs.Common.{rules, ◌∙◌, true, sym, subst}
use Rattle.std.proofs.lemmas.Result.{err_from_is_err_and}
use Rattle.av_ir.specs.declared.module.Op.{Op}
use Rattle.av_ir.specs.declared.ty.Ty.TheVariants as ty
use Rattle.av_verify.specs.declared.refusal.Code.TheVariants as code
use Rattle.av_verify.specs.declared.rows.Row.{Row}
use Rattle.av_verify.specs.declared.rows.Row.TheVariants.{Return, Yield}
use Rattle.av_verify.specs.declared.scope.Role.TheVariants.{Plain, Dimension}
use Rattle.av_verify.specs.Accesses.{load_rules, load_op, loaded_elem, store_rules, store_op}
use Rattle.av_verify.specs.Arith.{constant_rules, constant_op, constant_elem, binary_rules, binary_op, left_elem}
use Rattle.av_verify.specs.Codes.{first_failing, number_of_code}
use Rattle.av_verify.specs.Elaboration.{Step, Elaborates, IsRefused, known_with, loop_of, operation_with, only_region, region_with}
use Rattle.av_verify.specs.Ends.{end_rules, end_op}
use Rattle.av_verify.specs.Results.{result_name}
use Rattle.av_verify.specs.Scopes.{defined}
use Rattle.av_verify.proofs.Outcomes.{asked_ends, asked_stays, refused}
use Rattle.av_verify.proofs.Walks.{loop_refused, loop_refused_inside, loop_given, loop_more, operation_row, operation_unknown, region_refused, region_given}
use Rattle.av_verify.proofs.operations.+elaborating.Goals as goal

pub known-returns-in-Constant : goal.known-returns-in-Constant
unfolding known_with
known-returns-in-Constant t c =
    subst (λ (row : Row). Elaborates (known_with (loop_of c.args.room) row c.args.number c.args.is_last c.args.scope.now c.args.node.now) c.constant.result c.constant.new.scope) (sym c.in-Constant.is)
    (asked_ends c.args.number (first_failing (constant_rules c.args.scope.now c.args.node.now)) c.constant.result (constant_op c.args.scope.now c.args.node.now c.args.number) (defined c.args.scope.now (result_name c.args.node.now) (ty.Scalar (constant_elem c.args.node.now)) Plain) c.constant.new.scope c.constant.ensures.op c.constant.ensures.scope)

pub known-returns-in-Binary : goal.known-returns-in-Binary
unfolding known_with
known-returns-in-Binary t c =
    subst (λ (row : Row). Elaborates (known_with (loop_of c.args.room) row c.args.number c.args.is_last c.args.scope.now c.args.node.now) c.binary.result c.binary.new.scope) (sym c.in-Binary.is)
    (asked_ends c.args.number (first_failing (binary_rules c.in-Binary.op c.args.scope.now c.args.node.now)) c.binary.result (binary_op c.in-Binary.op c.args.scope.now c.args.node.now c.args.number) (defined c.args.scope.now (result_name c.args.node.now) (ty.Scalar (left_elem c.args.scope.now c.args.node.now)) Plain) c.binary.new.scope c.binary.ensures.op c.binary.ensures.scope)

pub known-returns-in-Load : goal.known-returns-in-Load
unfolding known_with
known-returns-in-Load t c =
    subst (λ (row : Row). Elaborates (known_with (loop_of c.args.room) row c.args.number c.args.is_last c.args.scope.now c.args.node.now) c.load.result c.load.new.scope) (sym c.in-Load.is)
    (asked_ends c.args.number (first_failing (load_rules c.args.scope.now c.args.node.now)) c.load.result (load_op c.args.scope.now c.args.node.now c.args.number) (defined c.args.scope.now (result_name c.args.node.now) (ty.Scalar (loaded_elem c.args.scope.now c.args.node.now)) Plain) c.load.new.scope c.load.ensures.op c.load.ensures.scope)

pub known-returns-in-Store : goal.known-returns-in-Store
unfolding known_with
known-returns-in-Store t c =
    subst (λ (row : Row). Elaborates (known_with (loop_of c.args.room) row c.args.number c.args.is_last c.args.scope.now c.args.node.now) c.store.result c.args.scope.now) (sym c.in-Store.is)
    (asked_stays c.args.number (first_failing (store_rules c.args.scope.now c.args.node.now)) c.store.result (store_op c.args.scope.now c.args.node.now c.args.number) c.args.scope.now c.store.ensures)

pub known-returns-in-Return : goal.known-returns-in-Return
unfolding known_with
known-returns-in-Return t c =
    subst (λ (row : Row). Elaborates (known_with (loop_of c.args.room) row c.args.number c.args.is_last c.args.scope.now c.args.node.now) c.terminator.result c.args.scope.now) (sym c.in-Return.is)
    (asked_stays c.args.number (first_failing (end_rules Return c.args.is_last c.args.scope.now c.args.node.now)) c.terminator.result (end_op Return c.args.scope.now c.args.node.now c.args.number) c.args.scope.now c.terminator.ensures)

pub known-returns-in-Yield : goal.known-returns-in-Yield
unfolding known_with
known-returns-in-Yield t c =
    subst (λ (row : Row). Elaborates (known_with (loop_of c.args.room) row c.args.number c.args.is_last c.args.scope.now c.args.node.now) c.terminator-in-Yield.result c.args.scope.now) (sym c.in-Yield.is)
    (asked_stays c.args.number (first_failing (end_rules Yield c.args.is_last c.args.scope.now c.args.node.now)) c.terminator-in-Yield.result (end_op Yield c.args.scope.now c.args.node.now c.args.number) c.args.scope.now c.terminator-in-Yield.ensures)

pub known-returns-in-Module : goal.known-returns-in-Module
unfolding known_with
known-returns-in-Module t c =
    subst (λ (row : Row). IsRefused (known_with (loop_of c.args.room) row c.args.number c.args.is_last c.args.scope.now c.args.node.now) c.bad.result) (sym c.in-Module.is)
    (refused (Step Op) c.args.number (number_of_code code.Place) c.bad.result c.bad.ensures)

pub known-returns-in-Function : goal.known-returns-in-Function
unfolding known_with
known-returns-in-Function t c =
    subst (λ (row : Row). IsRefused (known_with (loop_of c.args.room) row c.args.number c.args.is_last c.args.scope.now c.args.node.now) c.bad-in-Function.result) (sym c.in-Function.is)
    (refused (Step Op) c.args.number (number_of_code code.Place) c.bad-in-Function.result c.bad-in-Function.ensures)

pub known-returns-in-Loop : goal.known-returns-in-Loop
unfolding known_with
known-returns-in-Loop t c =
    subst (λ (row : Row). Elaborates (known_with (loop_of c.args.room) row c.args.number c.args.is_last c.args.scope.now c.args.node.now) c.affine_for.result c.affine_for.new.scope) (sym c.in-Loop.is)
    (c.affine_for.ensures)

pub loop_with_room-returns-in_err-ask_loop : goal.loop_with_room-returns-in_err-ask_loop
loop_with_room-returns-in_err-ask_loop t c =
    let p = err_from_is_err_and c.from_residual-in_err-ask_loop.result c.from_residual-in_err-ask_loop.ensures.1 in
    rw (p.1, p.2)
    (subst (λ o. IsRefused o c.in_err-ask_loop.field-0.0) (sym (loop_more c.args.room c.args.number c.args.scope.now c.args.node.now))
    (loop_refused true (only_region (region_with (operation_with (loop_of c.args.room)) Dimension)) c.args.number c.args.scope.now c.args.node.now c.as_slice-3.result.now c.in_ok-new.new _ (search rules) (search rules) c.in_err-ask_loop.ensures))

pub loop_with_room-returns-in_err-inside : goal.loop_with_room-returns-in_err-inside
loop_with_room-returns-in_err-inside t c =
    let p = err_from_is_err_and c.from_residual-in_err-inside.result c.from_residual-in_err-inside.ensures.1 in
    rw (p.1, p.2)
    (subst (λ o. IsRefused o c.in_err-inside.field-0.0) (sym (loop_more c.args.room c.args.number c.args.scope.now c.args.node.now))
    (loop_refused_inside true (only_region (region_with (operation_with (loop_of c.args.room)) Dimension)) c.args.number c.args.scope.now c.args.node.now c.as_slice-3.result.now c.in_ok-new.new _ c.as_slice-4.result.now (search rules) (search rules) (search rules) c.in_ok-ask_loop.ensures.0 c.in_err-inside.ensures))

pub loop_with_room-returns : goal.loop_with_room-returns
loop_with_room-returns t c =
    (loop_more c.args.room c.args.number c.args.scope.now c.args.node.now)
    ∙ loop_given true (only_region (region_with (operation_with (loop_of c.args.room)) Dimension)) c.args.number c.args.scope.now c.args.node.now c.as_slice-3.result.now c.in_ok-new.new c.in_ok-inside.inside c.in_ok-loop_op.field-0 c.only_region.new.scope c.as_slice-4.result.now (search rules) (search rules) (search rules) c.in_ok-ask_loop.ensures.0 c.in_ok-inside.ensures (search rules)

pub operation-returns-in-Some : goal.operation-returns-in-Some
operation-returns-in-Some t c =
    subst (λ o. Elaborates o c.known.result c.known.new.scope) (sym (operation_row (loop_of c.args.room) c.args.is_last c.args.scope.now c.args.node.now c.in_ok-number.number c.take_number.new.owners c.in-Some.row (search rules) c.in_ok-number.ensures.number c.in_ok-number.ensures.owner)) c.known.ensures

pub operation-returns-in-None : goal.operation-returns-in-None
operation-returns-in-None t c =
    subst (λ o. IsRefused o c.bad.result) (sym (operation_unknown (loop_of c.args.room) c.args.is_last c.args.scope.now c.args.node.now c.in_ok-number.number c.take_number.new.owners (search rules) c.in_ok-number.ensures.number)) (refused (Step Op) c.in_ok-number.number 1 c.bad.result c.bad.ensures)

pub region-returns-in_err-ops : goal.region-returns-in_err-ops
region-returns-in_err-ops t c =
    let p = err_from_is_err_and c.from_residual-in_err-ops.result c.from_residual-in_err-ops.ensures.1 in
    rw (p.1, p.2) (region_refused (operation_with (loop_of c.args.room)) c.args.role c.args.scope.now c.add_arguments.new.scope c.args.body.now _ (search rules) (search rules))

pub region-returns : goal.region-returns
region-returns t c =
    region_given (operation_with (loop_of c.args.room)) c.args.role c.args.scope.now c.add_arguments.new.scope c.args.body.now c.in_ok-args.args c.in_ok-ops.ops c.region_of.result c.operations.new.scope _ (search rules) (search rules) (search rules) c.region_of.ensures (search rules)
