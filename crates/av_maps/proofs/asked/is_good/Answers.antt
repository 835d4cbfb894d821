use Rattle.std.proofs.Common.{arith}
use Rattle.av_maps.proofs.Variants.{admissible_test}
use Rattle.av_maps.proofs.asked.is_good.Goals as goal

pub returns-then-has_own : goal.returns-then-has_own
returns-then-has_own c =
    let test = admissible_test c.args.e.now c.is_admissible.result c.is_admissible.ensures in grind (arith, test, c.has_own.ensures)
