use Rattle.av_rules.proofs.Read.{views-law}
use Rattle.av_rules.proofs.laws.views_agree.Goals as goal

pub returns : goal.returns
returns c = views-law
