use Rattle.std.proofs.Common.{refl}
use Rattle.av_values.proofs.Replacing.{replaced-end, replaced-top}
use Rattle.av_operations.proofs.arith.dense_constant.Goals as goal

pub returns-clause-ok : goal.returns-clause-ok
returns-clause-ok c = replaced-top _ _ _ _ _ _ _ _ c.in_ok-dense.ensures.ok (replaced-end _ _ _ _ _ refl (rw (c.in_ok-push_constant.ensures.ok, c.in_ok-constant.ensures.ok)))
