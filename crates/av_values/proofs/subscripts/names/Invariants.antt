use Rattle.std.proofs.Common.{◌≡◌}
use Rattle.av_values.specs.Accesses.{first_names}
use Rattle.av_values.proofs.subscripts.names.Given as goal

abbrev pub invariant-loop-number : goal.invariant-loop-number
invariant-loop-number l = l.names ≡ first_names l.letter l.number
