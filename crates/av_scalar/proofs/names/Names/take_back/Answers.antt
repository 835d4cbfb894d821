use Rattle.std.proofs.Common.{◌∙◌, arith}
use Rattle.av_scalar.proofs.Bindings.{one_back, mark_kept}
use Rattle.av_scalar.proofs.names.Names.take_back.Goals as goal

pub loop-self-preserved-in-Some : goal.loop-self-preserved-in-Some
loop-self-preserved-in-Some c = record {
  words =
      one_back c.loop-self.self.changes c.pop.new.self c.in-Some.change c.args.mark c.in-Some.ensures (omega arith) c.loop-self.self.words c.put.new.words
      c.put.ensures ∙ c.loop-self.invariant.words;
  changes = mark_kept c.loop-self.self.changes c.pop.new.self c.in-Some.change c.args.mark c.in-Some.ensures (omega arith) ∙ c.loop-self.invariant.changes;
}
