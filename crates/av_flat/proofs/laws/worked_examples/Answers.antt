use Rattle.std.proofs.Common.{refl}
use Rattle.av_flat.proofs.laws.worked_examples.Goals as goal

pub returns-clause-elements : goal.returns-clause-elements
returns-clause-elements c = λ number. record { splat = refl; fixed = refl; each = refl; wraps = refl; one_trap = refl; compares = refl; selects = refl; by_one = refl; casts = refl }

pub returns-clause-rows : goal.returns-clause-rows
returns-clause-rows c = λ number. record { loads = refl; one_outside = refl; from_below = refl; stores = refl; not_stored = refl; masked = refl; on_outside = refl; masked_store = refl }

pub returns-clause-indexed : goal.returns-clause-indexed
returns-clause-indexed c = λ number. record { gathers = refl; off = refl; outside = refl; scatters = refl }

pub returns-clause-on_lanes : goal.returns-clause-on_lanes
returns-clause-on_lanes c = λ number. record { scalar = refl; stretched = refl; mask = refl; no_mask = refl; full_mask = refl; sum = refl; onto = refl; least = refl; extracts = refl; whole = refl; inserts = refl; shuffles = refl; steps = refl; scale = refl }

pub returns-clause-looped : goal.returns-clause-looped
returns-clause-looped c = λ number. record { three_turns = refl; from_above = refl; no_step = refl; backward = refl }
