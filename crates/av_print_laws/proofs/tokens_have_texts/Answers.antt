use Rattle.av_print_laws.proofs.TextsOf.{spellings-law}
use Rattle.av_print_laws.proofs.tokens_have_texts.Goals as goal

pub returns : goal.returns
returns c = spellings-law
