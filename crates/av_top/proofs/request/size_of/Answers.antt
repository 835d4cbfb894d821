use Rattle.av_top.proofs.Words.{option_then, one_digit_of, one_digit_spells}
use Rattle.av_top.proofs.request.size_of.Goals as goal

pub returns-in-len1 : goal.returns-in-len1
returns-in-len1 c =
    let xs = c.args.text.now in
    option_then c.one_digit.result c.one_digit.ensures
    (λ no n low high e. let h = one_digit_of xs n c.in-len1.len_below e in no n low h.0 h.1)
    (λ n h. one_digit_spells xs n c.in-len1.len_at_least c.in-len1.len_below h)
