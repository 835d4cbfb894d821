use Rattle.std.proofs.Common.{refl}
use Rattle.av_types.proofs.laws.some_types.Goals as goal

pub returns : goal.returns
returns c = (
  (refl, (refl, refl, refl)),
  (refl, (refl, refl, refl)),
  (refl, (refl, refl, refl)),
  ((refl, refl, refl), (refl, refl, refl), (refl, refl, refl), (refl, refl, refl)),
  (refl, refl),
)
