use Rattle.std.proofs.Common.{◌≡◌, drop, fold}
use Rattle.av_top.specs.Values.{greater, most_of}
use Rattle.av_top.proofs.answer.most_values.Given as goal

abbrev pub invariant-loop-func : goal.invariant-loop-func
invariant-loop-func l = fold greater l.most (drop l.func-index l.fn.funcs) ≡ most_of l.fn.funcs
