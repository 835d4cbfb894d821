use Rattle.av_print_laws.proofs.EachForm.{forms-law}
use Rattle.av_print_laws.proofs.each_form_can_be_spelled.Goals as goal

pub returns : goal.returns
returns c = forms-law
