use Rattle.av_form_laws.proofs.Examples.{line-examples}
use Rattle.av_form_laws.proofs.some_operations_fit.Goals as goal

pub returns : goal.returns
returns c = line-examples
