-- each call goes one size further in; the parts that are left follow those that are made
use Rattle.std.proofs.Common.{◌≡◌, ◌+◌, ◌-◌, ◌*◌, ◌/◌, ◌++◌, length, map}
use Rattle.av_totree.specs.Constants.{nested_of, pieces}
use Rattle.av_totree.proofs.constants.+nesting.Given as goal

abbrev pub decreases-nested : goal.decreases-nested
decreases-nested l = 2 * length l.sizes.now

abbrev pub decreases-parts : goal.decreases-parts
decreases-parts l = 2 * length l.sizes.now + 1

abbrev pub invariant-parts-loop-done : goal.invariant-parts-loop-done
invariant-parts-loop-done l =
    l.parts ++ map (nested_of l.sizes l.elem) (pieces (l.count - l._done) l.each l.others)
    ≡ map (nested_of l.sizes l.elem) (pieces l.count (length l.patterns / l.count) l.patterns)
