use Rattle.std.proofs.Common.{refl}
use Rattle.av_values.proofs.Replacing.{replaced-end, replaced-top, replaced-none, at_fault}
use Rattle.av_parts.proofs.attributes.hash_attribute.Goals as goal

pub returns-clause-ok : goal.returns-clause-ok
returns-clause-ok c = replaced-top _ _ _ _ _ _ _ _ c.in_ok-name.ensures.ok (replaced-top _ _ _ _ _ _ _ _ c.in_ok-words.ensures.ok (replaced-end _ _ _ _ _ refl (rw (c.in_ok-push_attr.ensures.ok, c.hash_of-attr.ensures))))

pub returns-in_err-words-clause-misshapen : goal.returns-in_err-words-clause-misshapen
returns-in_err-words-clause-misshapen c = at_fault _ c.from_residual-in_err-words.result _ (replaced-top _ _ _ _ _ _ _ _ c.in_ok-name.ensures.ok (replaced-none _ _ _ _ _ c.in_err-words.ensures.err))
