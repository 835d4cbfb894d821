use Rattle.std.proofs.Common.{arith}
use Rattle.av_ir.specs.Values.{Agrees}
use Rattle.av_ir.proofs.Pairs.{in_pairs}
use Rattle.av_ir.proofs.fitting.all_agree.Goals as goal

pub returns-then-extents-sizes : goal.returns-then-extents-sizes
returns-then-extents-sizes c = (λ t. absurd (grind arith), λ h. let e = in_pairs Agrees c.args.extents.now c.args.sizes.now h in absurd (omega arith))
