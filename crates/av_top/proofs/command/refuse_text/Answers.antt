use Rattle.std.proofs.Common.{◌∙◌}
use Rattle.av_top.proofs.Endings.{with_line}
use Rattle.av_top.proofs.command.refuse_text.Goals as goal

pub returns-in-Ok : goal.returns-in-Ok
returns-in-Ok g c = with_line _ _ _ _ _ _ _ _ (c.as_slice.ensures.value ∙ c.in-Ok.ensures) c.refuse.ensures
