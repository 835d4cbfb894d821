use Rattle.std.proofs.Common.{refl}
use Rattle.av_values.proofs.Replacing.{replaced-end}
use Rattle.av_parts.proofs.types.no_offset.Goals as goal

pub returns-clause-ok : goal.returns-clause-ok
returns-clause-ok c = replaced-end _ _ _ _ _ refl c.in_ok-push_size.ensures.ok
