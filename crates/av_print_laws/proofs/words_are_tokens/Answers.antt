use Rattle.av_print_laws.proofs.Lexing.{tokens-law}
use Rattle.av_print_laws.proofs.words_are_tokens.Goals as goal

pub returns : goal.returns
returns c = tokens-law
