use Rattle.std.proofs.Common.{◌≡◌, drop}
use Rattle.av_totree.specs.Names.{with_several}
use Rattle.av_totree.proofs.names.Names.put_several.Given as goal

abbrev pub invariant-loop-place : goal.invariant-loop-place
invariant-loop-place l = record {
  names : with_several l.operation l.place (drop l.place l.values) l.self.names ≡ with_several l.operation 0 l.values l.initial.self.names;
  arguments : l.self.arguments ≡ l.initial.self.arguments;
  operations : l.self.operations ≡ l.initial.self.operations;
}
