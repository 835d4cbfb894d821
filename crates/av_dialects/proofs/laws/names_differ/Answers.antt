use Rattle.av_dialects.proofs.Names.{names-law}
use Rattle.av_dialects.proofs.laws.names_differ.Goals as goal

pub returns : goal.returns
returns c = names-law
