use Rattle.av_dialects.proofs.Whole.{form-examples}
use Rattle.av_dialects.proofs.laws.some_forms.Goals as goal

pub returns : goal.returns
returns c = form-examples
