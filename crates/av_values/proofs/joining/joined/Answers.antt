use Rattle.std.proofs.Common.{List, reverse, ap, sym, ◌∙◌}
use Rattle.av_values.specs.declared.value.Part.{Part}
use Rattle.av_values.specs.Expressions.{joined_left}
use Rattle.av_values.proofs.Chains.{next_part, no_parts}
use Rattle.av_values.proofs.joining.joined.Goals as goal

pub loop-part-preserved : goal.loop-part-preserved
loop-part-preserved c =
    ap (λ e. joined_left e (reverse c.pop.new.self)) c.in_ok-whole.ensures.ok
    ∙ next_part c.loop-part.whole c.loop-part.parts c.pop.new.self c.in-Some.part c.in-Some.ensures
    ∙ c.loop-part.invariant

pub returns-clause-ok : goal.returns-clause-ok
returns-clause-ok c =
    sym (ap (λ (ps : List Part). joined_left c.loop-part.whole (reverse ps)) c.in_default.ensures.0 ∙ no_parts c.loop-part.whole) ∙ c.loop-part.invariant
