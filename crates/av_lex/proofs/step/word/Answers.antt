use Rattle.av_lex.proofs.NextTokens.{word_longest}
use Rattle.av_lex.proofs.step.word.Goals as goal

pub returns : goal.returns
returns c = (word_longest _ _ c.requires.first c.run_end-end.ensures.from c.run_end-end.ensures.within c.run_end-end.ensures.run c.run_end-end.ensures.stop, tt)
