use Rattle.std.proofs.Common.{refl}
use Rattle.av_values.proofs.Replacing.{replaced-end, replaced-top}
use Rattle.av_parts.proofs.attributes.alias_attribute.Goals as goal

pub returns-clause-ok : goal.returns-clause-ok
returns-clause-ok c = replaced-top _ _ _ _ _ _ _ _ c.in_ok-name.ensures.ok (replaced-end _ _ _ _ _ refl c.in_ok-push_attr.ensures.ok)
