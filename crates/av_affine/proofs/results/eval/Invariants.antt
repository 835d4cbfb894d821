use Rattle.std.proofs.Common.{◌≡◌, take}
use Rattle.std.specs.List.{All}
use Rattle.av_affine.specs.Values.{leaves}
use Rattle.av_affine.specs.Results.{GivesIndex, values_of}
use Rattle.av_affine.proofs.results.eval.Given as goal

abbrev pub invariant-loop-e : goal.invariant-loop-e
invariant-loop-e l = record {
  items : l.values.items ≡ values_of (leaves l.dims l.syms) (take l.e-index l.map.results);
  within : All (GivesIndex (leaves l.dims l.syms)) (take l.e-index l.map.results);
  room : l.values.capacity ≡ 8;
}
