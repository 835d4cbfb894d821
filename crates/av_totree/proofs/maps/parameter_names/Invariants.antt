use Rattle.std.proofs.Common.{◌≡◌}
use Rattle.av_totree.specs.Texts.{numbered}
use Rattle.av_totree.specs.Maps.{names_of}
use Rattle.av_totree.proofs.maps.parameter_names.Given as goal

abbrev pub invariant-loop-number : goal.invariant-loop-number
invariant-loop-number l = l.names ≡ names_of (numbered l.letter) l.number
