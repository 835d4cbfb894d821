use Rattle.std.proofs.Common.{inl, inr}
use Rattle.av_values.proofs.Replacing.{at_fault}
use Rattle.av_operations.specs.Taking.{item_taken}
use Rattle.av_operations.proofs.Items.{none-taken, one-missing, one-taken}
use Rattle.av_operations.proofs.gifts.word.Goals as goal

pub returns-in_err-word-in-Predicate-clause-misshapen : goal.returns-in_err-word-in-Predicate-clause-misshapen
unfolding item_taken
returns-in_err-word-in-Predicate-clause-misshapen c = at_fault _ c.from_residual.result _ (rw c.in-Predicate.is (one-missing _ _ _ _ c.in_err-word-in-Predicate.ensures.err))

pub returns-in_err-word-in-Kind-clause-misshapen : goal.returns-in_err-word-in-Kind-clause-misshapen
unfolding item_taken
returns-in_err-word-in-Kind-clause-misshapen c = at_fault _ c.from_residual-in_err-word-in-Kind.result _ (rw c.in-Kind.is (one-missing _ _ _ _ c.in_err-word-in-Kind.ensures.err))

pub returns-in_ok-gift-in-Predicate-clause-ok : goal.returns-in_ok-gift-in-Predicate-clause-ok
unfolding item_taken
returns-in_ok-gift-in-Predicate-clause-ok c =
    rw c.in-Predicate.is (one-taken _ _ _ _ _ _ c.in_ok-word-in-Predicate.ensures.ok (rw (c.in_ok-gift-in-Predicate.ensures.ok, c.in_ok-value-in-Predicate.ensures.ok)))

pub returns-in_ok-gift-in-Kind-clause-ok : goal.returns-in_ok-gift-in-Kind-clause-ok
unfolding item_taken
returns-in_ok-gift-in-Kind-clause-ok c =
    rw c.in-Kind.is (one-taken _ _ _ _ _ _ c.in_ok-word-in-Kind.ensures.ok (rw (c.in_ok-gift-in-Kind.ensures.ok, c.in_ok-value-in-Kind.ensures.ok)))

pub returns-in-StaticPosition-clause-ok : goal.returns-in-StaticPosition-clause-ok
unfolding item_taken
returns-in-StaticPosition-clause-ok c = elim c.in-StaticPosition.is [
  | inl e ↦ rw e (none-taken _ _ _ (rw (c.operands_alone.ensures, c.new.ensures)))
  | inr e ↦ rw e (none-taken _ _ _ (rw (c.operands_alone.ensures, c.new.ensures)))
]
