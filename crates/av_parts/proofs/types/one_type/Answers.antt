use Rattle.std.proofs.Common.{refl}
use Rattle.av_values.proofs.Replacing.{replaced-end, replaced-top}
use Rattle.av_parts.proofs.types.one_type.Goals as goal

pub returns-clause-ok : goal.returns-clause-ok
returns-clause-ok c = replaced-top _ _ _ _ _ _ _ _ c.in_ok-ty.ensures.ok (replaced-end _ _ _ _ _ refl (rw (c.in_ok-push_types.ensures.ok, c.in_ok-types.ensures.ok, c.new.ensures)))
