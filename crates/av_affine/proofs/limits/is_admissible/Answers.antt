use Rattle.std.proofs.Common.{arith}
use Rattle.av_affine.proofs.Found.{tested-found, tested-sound}
use Rattle.av_affine.proofs.limits.is_admissible.Goals as goal

pub returns-then-nodes-le-MAX_NODES : goal.returns-then-nodes-le-MAX_NODES
returns-then-nodes-le-MAX_NODES c = (
  (λ h. let s = tested-sound c.args.e.now c.bound.result c.is_some.result c.bound.ensures c.is_some.ensures h in (omega arith, s.0, s.1)),
  (λ h. tested-found c.args.e.now c.bound.result c.is_some.result c.bound.ensures c.is_some.ensures (h.1, h.2)),
)
