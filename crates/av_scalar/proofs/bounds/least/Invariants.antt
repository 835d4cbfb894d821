use Rattle.std.proofs.Common.{◌≡◌, get_or, take, drop, fold}
use Rattle.std.specs.Prelude.{pos}
use Rattle.std.specs.Int.{int_min}
use Rattle.av_scalar.proofs.bounds.least.Given as goal

abbrev pub invariant-loop-number : goal.invariant-loop-number
invariant-loop-number l = record {
  rest : l.number-items ≡ drop 1 l.numbers;
  best : l.best ≡ fold int_min (get_or l.numbers 0 (pos 0)) (take l.number-index (drop 1 l.numbers));
}
