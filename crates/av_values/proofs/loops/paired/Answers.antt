use Rattle.std.proofs.Common.{reverse, sym, ap, ◌∙◌}
use Rattle.av_values.specs.Loops.{with_pairs}
use Rattle.av_values.proofs.NodeParts.{next_pair, no_pair, no_type}
use Rattle.av_values.proofs.loops.paired.Goals as goal

pub returns-in_default-pop-clause-ok : goal.returns-in_default-pop-clause-ok
returns-in_default-pop-clause-ok c =
    sym (no_pair c.loop-ty.lists c.loop-ty.pairs c.loop-ty.types c.pop.new.self c.in-Some.ty c.in_default-pop.ensures.0 c.in-Some.ensures) ∙ c.loop-ty.invariant

pub loop-ty-preserved : goal.loop-ty-preserved
loop-ty-preserved c =
    ap (λ lists. with_pairs lists (reverse c.pop-in-Some.new.self) (reverse c.pop.new.self)) c.in_ok-push_pair.ensures.ok
    ∙ next_pair c.loop-ty.lists c.loop-ty.pairs c.pop-in-Some.new.self c.in-Some-pop.pair c.loop-ty.types c.pop.new.self c.in-Some.ty c.in-Some-pop.ensures c.in-Some.ensures
    ∙ c.loop-ty.invariant

pub returns-clause-ok : goal.returns-clause-ok
returns-clause-ok c = sym (no_type c.loop-ty.lists c.loop-ty.pairs c.loop-ty.types c.in_default.ensures.0) ∙ c.loop-ty.invariant
