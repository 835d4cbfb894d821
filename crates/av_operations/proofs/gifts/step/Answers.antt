use Rattle.std.proofs.Common.{rules}
use Rattle.std.specs.Prelude.{FitsSigned}
use Rattle.std.proofs.lemmas.Int.{to_z-of_z}
use mir.Syntax.{w128}
use Rattle.av_operations.specs.Taking.{item_taken}
use Rattle.av_operations.proofs.Items.{one-taken}
use Rattle.av_operations.proofs.gifts.step.Goals as goal

pub returns-clause-ok : goal.returns-clause-ok
unfolding item_taken
returns-clause-ok c =
    let f : FitsSigned w128 c.in_ok-by.by = search rules in
    one-taken _ _ _ _ _ _ c.in_ok-by.ensures.ok (rw (c.in_ok-gift.ensures.ok, c.in_ok-value.ensures.ok, to_z-of_z w128 c.in_ok-by.by f))
