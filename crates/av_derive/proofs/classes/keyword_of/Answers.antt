-- A word is looked up among the keywords of about its length alone.
use Rattle.std.proofs.Common.{◌∙◌, arith}
use Rattle.av_derive.specs.ClassOf.{keywords}
use Rattle.av_derive.proofs.Keywords.{found-within, none-longer}
use Rattle.av_derive.proofs.classes.keyword_of.Goals as goal

pub returns-in-0-to-2 : goal.returns-in-0-to-2
returns-in-0-to-2 c = c.keyword_to_two.ensures ∙ found-within 0 2 keywords _ (omega arith) (omega arith)

pub returns-in-3 : goal.returns-in-3
returns-in-3 c = c.keyword_of_three.ensures ∙ found-within 3 3 keywords _ (omega arith) (omega arith)

pub returns-in-4 : goal.returns-in-4
returns-in-4 c = c.keyword_of_four.ensures ∙ found-within 4 4 keywords _ (omega arith) (omega arith)

pub returns-in-5 : goal.returns-in-5
returns-in-5 c = c.keyword_of_five.ensures ∙ found-within 5 5 keywords _ (omega arith) (omega arith)

pub returns-in-6 : goal.returns-in-6
returns-in-6 c = c.keyword_of_six.ensures ∙ found-within 6 6 keywords _ (omega arith) (omega arith)

pub returns-in-7-to-9 : goal.returns-in-7-to-9
returns-in-7-to-9 c = c.keyword_to_nine.ensures ∙ found-within 7 9 keywords _ (omega arith) (omega arith)

pub returns-in-10-to-13 : goal.returns-in-10-to-13
returns-in-10-to-13 c = c.keyword_to_thirteen.ensures ∙ found-within 10 13 keywords _ (omega arith) (omega arith)

pub returns-in_default : goal.returns-in_default
returns-in_default c = none-longer _ (omega arith)
