use Rattle.std.proofs.Common.{◌≡◌, get_or, take, drop, fold}
use Rattle.std.specs.Prelude.{pos}
use Rattle.std.specs.Int.{int_max}
use Rattle.av_scalar.proofs.bounds.greatest.Given as goal

abbrev pub invariant-loop-number : goal.invariant-loop-number
invariant-loop-number l = record {
  rest : l.number-items ≡ drop 1 l.numbers;
  best : l.best ≡ fold int_max (get_or l.numbers 0 (pos 0)) (take l.number-index (drop 1 l.numbers));
}
