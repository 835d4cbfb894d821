use Rattle.std.proofs.Common.{refl}
use Rattle.av_values.proofs.Replacing.{replaced-end, replaced-top}
use Rattle.av_parts.proofs.attributes.same_text.Goals as goal

pub returns-clause-ok : goal.returns-clause-ok
returns-clause-ok c = replaced-top _ _ _ _ _ _ _ _ c.in_ok-text.ensures.ok (replaced-end _ _ _ _ _ refl c.in_ok-push_text.ensures.ok)
