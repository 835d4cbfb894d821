use Rattle.av_top.proofs.Endings.{not_built_sinks}
use Rattle.av_top.proofs.command.work_out.Goals as goal

pub returns-in-Err-NotBuilt-clause-sinks : goal.returns-in-Err-NotBuilt-clause-sinks
returns-in-Err-NotBuilt-clause-sinks g c = not_built_sinks c.refuse.result _ _ _ _ _ _ c.refuse.ensures
