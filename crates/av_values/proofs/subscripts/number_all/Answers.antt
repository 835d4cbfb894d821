use Rattle.std.proofs.Common.{sym, ◌∙◌}
use Rattle.av_values.specs.Accesses.{turned}
use Rattle.av_values.proofs.Numbered.{next_subscript, subscripts_end}
use Rattle.av_values.proofs.subscripts.number_all.Goals as goal

pub loop-subscript-preserved : goal.loop-subscript-preserved
loop-subscript-preserved c =
    next_subscript c.loop-subscript.results c.push.new.self c.loop-subscript.subscripts c.pop.new.self c.in-Some.subscript (turned c.loop-subscript.leaves) (turned c.number_one.new.leaves) c.in_ok-result.result
    c.in_ok-push.ensures.ok c.in-Some.ensures c.in_ok-result.ensures.ok
    ∙ c.loop-subscript.invariant

pub returns-clause-ok : goal.returns-clause-ok
returns-clause-ok c = sym c.loop-subscript.invariant ∙ subscripts_end c.loop-subscript.results c.loop-subscript.subscripts (turned c.loop-subscript.leaves) c.in_default.ensures.0
