use Rattle.av_affine_laws.proofs.Examples.{normalised-examples}
use Rattle.av_affine_laws.proofs.some_normalised_maps.Goals as goal

pub returns : goal.returns
returns c = normalised-examples
