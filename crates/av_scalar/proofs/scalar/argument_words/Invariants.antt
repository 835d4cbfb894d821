use Rattle.std.proofs.Common.{◌≡◌, ◌≤◌, ◌++◌, drop}
use Rattle.av_ir.specs.ScalarRun.{argument_values}
use Rattle.av_scalar.specs.Names.{values}
use Rattle.av_scalar.proofs.scalar.argument_words.Given as goal

-- the words so far, and those of the arguments to come
abbrev pub invariant-loop-arg : goal.invariant-loop-arg
invariant-loop-arg l = record {
  words : values l.words ++ argument_values l.memrefs (drop l.arg-index l.args) ≡ argument_values 0 l.args;
  few : l.memrefs ≤ l.arg-index;
}
