use Rattle.av_print_laws.proofs.Lexing.{no-other-law}
use Rattle.av_print_laws.proofs.no_other_tokens.Goals as goal

pub returns : goal.returns
returns c = no-other-law
