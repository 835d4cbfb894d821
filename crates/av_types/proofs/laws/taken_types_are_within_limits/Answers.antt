use Rattle.av_types.proofs.Limits.{type_limits_law}
use Rattle.av_types.proofs.laws.taken_types_are_within_limits.Goals as goal

pub returns : goal.returns
returns c = type_limits_law
