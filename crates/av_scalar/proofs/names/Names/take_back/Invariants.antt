use Rattle.std.proofs.Common.{◌≡◌, drop, take, length}
use Rattle.av_scalar.specs.Names.{unwound}
use Rattle.av_scalar.proofs.names.Names.take_back.Given as goal

abbrev pub invariant-loop-self : goal.invariant-loop-self
invariant-loop-self l = record {
  words : unwound l.self.words (drop l.mark l.self.changes) ≡ unwound l.fn.self.words (drop l.mark l.fn.self.changes);
  changes : take l.mark l.self.changes ≡ take l.mark l.fn.self.changes;
}

abbrev pub decreases-loop-self : goal.decreases-loop-self
decreases-loop-self l = length l.self.changes
