use Rattle.av_top.proofs.Decisions.{bad_text_only, decided_of, done_of, ended_of, no_text_of, no_text_only, not_built_only, says, too_large_only}
use Rattle.av_top.proofs.command.affvec.Goals as goal

pub returns-in-Some-clause-too_large : goal.returns-in-Some-clause-too_large
returns-in-Some-clause-too_large g c = λ request bytes asks.
    says _ _ request bytes (decided_of _ _ _ _ request bytes c.in-Some.ensures c.perform.ensures.decided asks)

pub returns-in-Some-clause-too_large_only : goal.returns-in-Some-clause-too_large_only
returns-in-Some-clause-too_large_only g c = λ request bytes asks many stayed.
    too_large_only _ request bytes (ended_of _ request bytes _ _ _ _ (decided_of _ _ _ _ request bytes c.in-Some.ensures c.perform.ensures.decided asks) c.perform.ensures.usage c.perform.ensures.input stayed) many

pub returns-in-Some-clause-bad_text : goal.returns-in-Some-clause-bad_text
returns-in-Some-clause-bad_text g c = λ request bytes place fault asks.
    says _ _ request bytes (decided_of _ _ _ _ request bytes c.in-Some.ensures c.perform.ensures.decided asks)

pub returns-in-Some-clause-bad_text_only : goal.returns-in-Some-clause-bad_text_only
returns-in-Some-clause-bad_text_only g c = λ request bytes place fault asks amiss stayed.
    bad_text_only _ request bytes place fault (ended_of _ request bytes _ _ _ _ (decided_of _ _ _ _ request bytes c.in-Some.ensures c.perform.ensures.decided asks) c.perform.ensures.usage c.perform.ensures.input stayed) amiss

pub returns-in-Some-clause-no_text : goal.returns-in-Some-clause-no_text
returns-in-Some-clause-no_text g c = λ request bytes asks.
    no_text_of _ request bytes (decided_of _ _ _ _ request bytes c.in-Some.ensures c.perform.ensures.decided asks)

pub returns-in-Some-clause-no_text_only : goal.returns-in-Some-clause-no_text_only
returns-in-Some-clause-no_text_only g c = λ request bytes asks none stayed.
    no_text_only _ request bytes (ended_of _ request bytes _ _ _ _ (decided_of _ _ _ _ request bytes c.in-Some.ensures c.perform.ensures.decided asks) c.perform.ensures.usage c.perform.ensures.input stayed) none

pub returns-in-Some-clause-not_built : goal.returns-in-Some-clause-not_built
returns-in-Some-clause-not_built g c = λ request bytes asks.
    says _ _ request bytes (decided_of _ _ _ _ request bytes c.in-Some.ensures c.perform.ensures.decided asks)

pub returns-in-Some-clause-not_built_only : goal.returns-in-Some-clause-not_built_only
returns-in-Some-clause-not_built_only g c = λ request bytes asks other stayed.
    not_built_only _ request bytes (ended_of _ request bytes _ _ _ _ (decided_of _ _ _ _ request bytes c.in-Some.ensures c.perform.ensures.decided asks) c.perform.ensures.usage c.perform.ensures.input stayed) other

pub returns-in-Some-clause-done : goal.returns-in-Some-clause-done
returns-in-Some-clause-done g c = λ request bytes asks first stayed.
    done_of _ request bytes _ _ _ _ _ _ _ _ _ _ (ended_of _ request bytes _ _ _ _ (decided_of _ _ _ _ request bytes c.in-Some.ensures c.perform.ensures.decided asks) c.perform.ensures.usage c.perform.ensures.input stayed.input)
    c.perform.ensures.sinks first stayed
