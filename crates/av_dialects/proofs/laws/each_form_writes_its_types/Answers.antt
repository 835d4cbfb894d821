use Rattle.av_dialects.proofs.Whole.{types-law}
use Rattle.av_dialects.proofs.laws.each_form_writes_its_types.Goals as goal

pub returns : goal.returns
returns c = types-law
