use Rattle.std.specs.Prelude.{unsigned_abs, map, pos}
use Rattle.std.proofs.Common.{sym, ap, ◌∙◌, arith, ◌≡◌, refl, get_or}
use Rattle.av_shapes.proofs.PlaceLemmas.{nothing_read}
use Rattle.av_ir.proofs.Insides.{inside-within, one_more, found_place, subscript_kept}
use Rattle.av_ir.proofs.places.place_of.Goals as goal

pub loop-dimension-init : goal.loop-dimension-init
loop-dimension-init c =
    let within = inside-within c.args.sizes.now c.args.at.now (sym c.all_inside.ensures ∙ c.if-not-all_inside.false) in nothing_read c.args.sizes.now (map unsigned_abs c.args.at.now) within

pub overflow_mul-place : goal.overflow_mul-place
overflow_mul-place c = let h = one_more c.args.sizes.now c.args.at.now c.loop-dimension.dimension c.loop-dimension.place _ _ (sym c.all_inside.ensures ∙ c.if-not-all_inside.false) (omega arith) refl refl c.loop-dimension.invariant in omega (arith, h.below)

pub overflow_add-place : goal.overflow_add-place
overflow_add-place c = let h = one_more c.args.sizes.now c.args.at.now c.loop-dimension.dimension c.loop-dimension.place _ _ (sym c.all_inside.ensures ∙ c.if-not-all_inside.false) (omega arith) refl refl c.loop-dimension.invariant in omega (arith, h.below)

pub loop-dimension-preserved : goal.loop-dimension-preserved
loop-dimension-preserved c = let h = one_more c.args.sizes.now c.args.at.now c.loop-dimension.dimension c.loop-dimension.place _ _ (sym c.all_inside.ensures ∙ c.if-not-all_inside.false) (omega arith) refl refl c.loop-dimension.invariant in
    let k = subscript_kept (get_or c.args.at.now c.loop-dimension.dimension (pos 0)) (omega (arith, h.below)) in
    let e : c.unsigned_abs.result ≡ unsigned_abs (get_or c.args.at.now c.loop-dimension.dimension (pos 0)) =
    c.unsigned_abs.ensures.value ∙ ap unsigned_abs k in rw e h.digit

pub returns : goal.returns
returns c = sym (found_place c.args.sizes.now c.args.at.now c.loop-dimension.dimension c.loop-dimension.place (sym c.all_inside.ensures ∙ c.if-not-all_inside.false) (omega arith) c.loop-dimension.invariant)
