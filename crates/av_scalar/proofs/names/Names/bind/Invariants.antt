use Rattle.std.proofs.Common.{◌≡◌, drop}
use Rattle.av_ir.specs.Run.{bind_values}
use Rattle.av_scalar.specs.Names.{Since, env_of, values}
use Rattle.av_scalar.proofs.names.Names.bind.Given as goal

abbrev pub invariant-loop-place : goal.invariant-loop-place
invariant-loop-place l = record {
  env : bind_values (env_of l.self) (drop l.place l.ids) (values (drop l.place l.words)) ≡ bind_values (env_of l.fn.self) l.ids (values l.words);
  since : Since l.fn.self l.self;
}
