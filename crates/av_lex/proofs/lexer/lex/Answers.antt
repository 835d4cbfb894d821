use Rattle.av_lex.proofs.OneReading.{only_tokens, only_fault}
use Rattle.av_lex.proofs.lexer.lex.Goals as goal

pub returns : goal.returns
returns c = record { found = c.scan.ensures; only_tokens = only_tokens _ _ c.scan.ensures; only_fault = only_fault _ _ c.scan.ensures }
