use Rattle.av_rules.proofs.Walk.{all-sites-law}
use Rattle.av_rules.proofs.laws.all_sites.Goals as goal

pub returns : goal.returns
returns c = all-sites-law
