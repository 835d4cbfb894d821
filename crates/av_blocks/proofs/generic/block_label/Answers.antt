use Rattle.std.proofs.Common.{refl}
use Rattle.av_values.proofs.Replacing.{replaced-end, replaced-top, replaced-none, at_fault}
use Rattle.av_blocks.proofs.generic.block_label.Goals as goal

pub returns-clause-ok : goal.returns-clause-ok
returns-clause-ok c = replaced-top _ _ _ _ _ _ _ _ c.in_ok-_label.ensures.ok (replaced-top _ _ _ _ _ _ _ _ c.in_ok-args.ensures.ok (replaced-end _ _ _ _ _ refl c.in_ok-push_args.ensures.ok))

pub returns-in_err-args-clause-misshapen : goal.returns-in_err-args-clause-misshapen
returns-in_err-args-clause-misshapen c = at_fault _ c.from_residual-in_err-args.result _ (replaced-top _ _ _ _ _ _ _ _ c.in_ok-_label.ensures.ok (replaced-none _ _ _ _ _ c.in_err-args.ensures.err))
