use Rattle.std.proofs.Common.{◌≡◌, ◌/◌, ap, ◌∙◌, sym, length}
use Rattle.std.specs.Prelude.{unwrap_or}
use Rattle.av_tree.specs.declared.attribute.Element.TheVariants as element
use Rattle.av_totree.specs.Constants.{nested_of, one_of, element_of}
use Rattle.av_totree.proofs.Nested.{at_start, one_more_part, no_part_left, nested_empty, nested_parts}
use Rattle.av_totree.proofs.constants.+nesting.Goals as goal

pub nested-returns-in-empty : goal.nested-returns-in-empty
nested-returns-in-empty t c =
    c.element.ensures ∙ ap element_of c.value_of.ensures
    ∙ nested_empty c.args.sizes.now c.args.elem c.args.patterns.now c.unwrap_or.result c.in-empty.len_below
    (c.unwrap_or.ensures ∙ ap (λ o. unwrap_or o 0) (c.copied.ensures ∙ c.first.ensures.value))

pub nested-returns-in_ok-parts-in-len1-up : goal.nested-returns-in_ok-parts-in-len1-up
nested-returns-in_ok-parts-in-len1-up t c =
    ap element.List c.in_ok-parts-in-len1-up.ensures ∙ nested_parts c.args.sizes.now c.args.elem c.args.patterns.now c.in-len1-up.len_at_least

pub parts-loop-done-init : goal.parts-loop-done-init
parts-loop-done-init t c =
    at_start (nested_of c.args.sizes.now c.args.elem) c.args.count c.from.result c.max.result c.args.patterns.now c.new-parts.result c.new-parts.ensures
    c.from.ensures c.max.ensures

pub parts-loop-done-preserved : goal.parts-loop-done-preserved
parts-loop-done-preserved t c =
    one_more_part (nested_of c.args.sizes.now c.args.elem) c.args.count c.loop-done._done (length c.args.patterns.now / c.max.result) c.min.result
    c.loop-done.others.now c.split_at.result.0.now c.split_at.result.1.now c.loop-done.parts c.push.new.self _ c.in_ok-nested.field-0
    c.loop-done-test.true c.min.ensures c.split_at.ensures.front c.split_at.ensures.back c.in_ok-nested.ensures c.in_ok-push.ensures.ok
    c.loop-done.invariant

pub parts-returns : goal.parts-returns
parts-returns t c =
    no_part_left (nested_of c.args.sizes.now c.args.elem) c.args.count c.loop-done._done (length c.args.patterns.now / c.max.result)
    c.loop-done.others.now c.loop-done.parts _ c.loop-done-test.false c.loop-done.invariant
