use Rattle.av_types.proofs.Same.{same_type_law}
use Rattle.av_types.proofs.laws.same_types_are_equal.Goals as goal

pub returns : goal.returns
returns c = same_type_law
