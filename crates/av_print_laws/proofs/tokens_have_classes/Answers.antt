use Rattle.av_print_laws.proofs.TextsOf.{classes-law}
use Rattle.av_print_laws.proofs.tokens_have_classes.Goals as goal

pub returns : goal.returns
returns c = classes-law
