use Rattle.std.proofs.Common.{ℕ, List, MatchOption, subst}
use Rattle.av_top.specs.Request.{AsksNothing, IsVectorize}
use Rattle.av_top.proofs.Words.{four_texts}
use Rattle.av_top.proofs.request.request_of.Goals as goal

pub returns-in-len4 : goal.returns-in-len4
returns-in-len4 c =
    let Answers : List (List ℕ) → Type 0 = λ ts. MatchOption c.generic_request.result (AsksNothing ts) (λ r. IsVectorize ts r) in
    subst Answers
    (four_texts c.args.words.now _ _ _ _ _ _ _ _ c.in-len4.len_at_least c.in-len4.len_below
    c.command-item-then-words-lt5.is c.option-item-then-words-lt5.is c.size-item-then-words-lt5.is c.last-item.is
    c.as_bytes-in-len4.ensures.value c.as_bytes-in-len4-2.ensures.value c.as_bytes-in-len4-3.ensures.value c.as_bytes-in-len4-4.ensures.value)
    c.generic_request.ensures
