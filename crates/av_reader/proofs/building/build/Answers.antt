use Rattle.av_reader.proofs.Worked.{handed_on, no-values, none-worked, one-worked}
use Rattle.av_reader.proofs.building.build.Goals as goal

pub loop-event-init : goal.loop-event-init
loop-event-init c = none-worked c.args.bytes.now c.args.tokens.now c.args.events.items _ c.new-stack.ensures

pub loop-event-preserved : goal.loop-event-preserved
loop-event-preserved c =
    one-worked c.args.bytes.now c.args.tokens.now c.args.events.items _ _ _ _ _ c.in-Some.ensures.items c.in_ok-work_out.ensures.ok c.loop-event.invariant

pub returns-in_err-work_out-clause-misshapen : goal.returns-in_err-work_out-clause-misshapen
returns-in_err-work_out-clause-misshapen c =
    handed_on _ c.from_residual.result c.in_err-work_out.field-0.0 _ c.from_residual.ensures.1
    (λ m. no-values c.args.bytes.now c.args.tokens.now c.args.events.items _ _ _ _ c.in-Some.ensures.items (c.in_err-work_out.ensures.misshapen m) c.loop-event.invariant)
