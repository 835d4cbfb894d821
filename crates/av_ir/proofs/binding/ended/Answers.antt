use Rattle.std.proofs.Common.{◌≡◌, ap, sym, ◌∙◌, arith, length}
use Rattle.std.specs.List.{range_with_len}
use Rattle.av_ir.proofs.Memories.{all-in_order}
use Rattle.av_ir.proofs.binding.ended.Goals as goal

pub returns-then-in_order : goal.returns-then-in_order
returns-then-in_order c =
    let same : c.args.b.at ≡ range_with_len 0 (length c.args.b.memory) = sym c.as_slice.ensures ∙ c.in_order.ensures (grind arith) ∙ ap (range_with_len 0) c.len.ensures in
    ap (λ bs. record { buffers = bs; results = c.args.results }) (all-in_order c.args.b.memory c.args.b.at same)
