use Rattle.std.proofs.Common.{arith, ap, length}
use Rattle.av_ir.specs.declared.module.Region.{out-Region}
use Rattle.av_ir.specs.Values.{SuitsValue}
use Rattle.av_ir.proofs.Pairs.{in_pairs}
use Rattle.av_ir.proofs.fitting.fits.Goals as goal

pub returns-then-ids-list : goal.returns-then-ids-list
returns-then-ids-list c = (
  λ t. absurd (grind arith),
  λ h.
      let e = in_pairs (SuitsValue c.args.f.now.values) (out-Region c.args.f.now.body).args c.args.args.now.list h.suit in
      let a = ap length c.as_slice-ids.ensures in
      let b = ap length c.as_slice-list.ensures in
      absurd (omega arith),
)
