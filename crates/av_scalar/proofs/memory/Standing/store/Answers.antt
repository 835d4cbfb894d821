use Rattle.std.proofs.Common.{List, ℕ, ap}
use Rattle.std.proofs.Math.Seq.{map-set_same}
use Rattle.av_ir.specs.declared.run.Buffer.{Buffer}
use Rattle.av_scalar.proofs.memory.Standing.store.Goals as goal

sizes : Buffer → List ℕ
sizes b = b.sizes

pub returns-then-buffer-len-clause-sizes : goal.returns-then-buffer-len-clause-sizes
unfolding sizes
returns-then-buffer-len-clause-sizes c =
    let is = c.index_mut.ensures.value in
    map-set_same sizes c.args.memory.now.items c.buffer-buffer.result (record { sizes = c.index_mut.result.now.sizes; cells = c.put.new.words }) c.index_mut.result.now (ap sizes is)
