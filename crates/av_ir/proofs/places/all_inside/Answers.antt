use Rattle.std.proofs.Common.{sym, arith}
use Rattle.av_ir.proofs.Insides.{other-number}
use Rattle.av_ir.proofs.places.all_inside.Goals as goal

pub returns-then-sizes-at : goal.returns-then-sizes-at
returns-then-sizes-at c = sym (other-number c.args.sizes.now c.args.at.now (λ e. omega arith))
