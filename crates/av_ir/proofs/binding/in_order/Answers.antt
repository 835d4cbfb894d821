use Rattle.std.proofs.Common.{arith, ◌∙◌}
use Rattle.std.specs.List.{range_with_len}
use Rattle.std.proofs.lemmas.List.{map-id}
use Rattle.std.proofs.lemmas.List.FromFn.{fill_by_all}
use Rattle.av_ir.proofs.binding.in_order.Goals as goal

pub returns : goal.returns
returns c = λ t.
    fill_by_all (λ k. k) c.args.at.now c.args.count 0 (omega arith) (λ k h. c.loop-place.invariant k (omega arith))
    ∙ map-id (range_with_len 0 c.args.count)
