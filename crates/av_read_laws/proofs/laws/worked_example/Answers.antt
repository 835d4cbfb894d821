use Rattle.av_read_laws.proofs.Example.{example}
use Rattle.av_read_laws.proofs.laws.worked_example.Goals as goal

pub returns : goal.returns
returns c = example
