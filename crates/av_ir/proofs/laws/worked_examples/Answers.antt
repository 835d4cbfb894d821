use Rattle.std.proofs.Common.{refl}
use Rattle.av_affine.specs.Values.{value_of}
use Rattle.av_ir.proofs.laws.worked_examples.Goals as goal

pub returns-clause-load : goal.returns-clause-load
unfolding value_of
returns-clause-load c = λ number. record { last = refl; behind = refl; negative = refl; far = refl; farther = refl }

pub returns-clause-by_operands : goal.returns-clause-by_operands
unfolding value_of
returns-clause-by_operands c = λ number. record { loads = refl; behind = refl; negative = refl; stores = refl; not_stored = refl; size = refl; no_size = refl; below = refl }

pub returns-clause-arith : goal.returns-clause-arith
unfolding value_of
returns-clause-arith c = λ number. record { wraps_at_32 = refl; wraps_at_64 = refl; divides_by_zero = refl; signed = refl; unsigned = refl; second = refl; third = refl; by_sign = refl; by_zeros = refl; cut = refl; to_index = refl; to_index_unsigned = refl }

pub returns-clause-mapped : goal.returns-clause-mapped
unfolding value_of
returns-clause-mapped c = λ number. record { applied = refl; least = refl; greatest = refl; too_great = refl }

pub returns-clause-looped : goal.returns-clause-looped
unfolding value_of
returns-clause-looped c = λ number. record { three_turns = refl; no_turn = refl; from_above = refl; lower_first = refl }

pub returns-clause-branched : goal.returns-clause-branched
unfolding value_of
returns-clause-branched c = λ number. record { holds = refl; negative = refl; not_zero = refl }
