use Rattle.std.proofs.Common.{refl}
use Rattle.av_values.proofs.Replacing.{replaced-end}
use Rattle.av_parts.proofs.attributes.no_number_type.Goals as goal

pub returns-clause-ok : goal.returns-clause-ok
returns-clause-ok c = replaced-end _ _ _ _ _ refl (rw (c.in_ok-push_ty.ensures.ok, c.in_ok-name.ensures.ok))
