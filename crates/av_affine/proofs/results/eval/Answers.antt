use Rattle.std.proofs.Common.{refl, arith, subst, sym, rules, ◌∙◌}
use Rattle.av_affine.specs.Values.{leaves, value_of}
use Rattle.av_affine.specs.Results.{IsIndex, GivesIndex}
use Rattle.av_affine.proofs.Listed.{fails_at, holds_more}
use Rattle.av_affine.proofs.Indices.{index_kept, pushed}
use Rattle.av_affine.proofs.results.eval.Goals as goal

pub returns-in_err-value-clause-range : goal.returns-in_err-value-clause-range
returns-in_err-value-clause-range c = (
  (λ h. absurd (search rules)),
  (λ h. absurd (fails_at (GivesIndex (leaves c.args.dims.now c.args.syms.now)) c.args.map.now.results c.as_slice-e-items.result.now c.loop-e.e-index
      c.as_slice-e-items.ensures c.e-item.result c.loop-e-test.true c.e-item.is
      (λ p. let t = c.in_err-value.ensures.range.1 p in grind arith) h)),
)

pub loop-e-preserved : goal.loop-e-preserved
loop-e-preserved c =
    let gives : GivesIndex (leaves c.args.dims.now c.args.syms.now) c.e-item.result = c.in_ok-value.ensures.range.0 refl in
    let same = c.in_ok-value.ensures.value in
    let kept = index_kept c.in_ok-value.value (subst IsIndex (sym same) gives) in
    record {
      items = pushed (value_of (leaves c.args.dims.now c.args.syms.now)) c.args.map.now.results c.as_slice-e-items.result.now c.loop-e.e-index
          c.as_slice-e-items.ensures c.e-item.result c.in_ok-value.value _ c.loop-e.values.items c.push_reserved.new.self.items
          c.loop-e-test.true c.e-item.is same kept c.loop-e.invariant.items c.push_reserved.ensures.items;
      within = holds_more (GivesIndex (leaves c.args.dims.now c.args.syms.now)) c.args.map.now.results c.as_slice-e-items.result.now c.loop-e.e-index
          c.as_slice-e-items.ensures c.e-item.result c.loop-e-test.true c.e-item.is gives c.loop-e.invariant.within;
      room = c.push_reserved.ensures.capacity ∙ c.loop-e.invariant.room;
    }
