use Rattle.std.proofs.Common.{◌≡◌, ◌+◌, ◌++◌, map, [], ◌∷◌, ap, ◌∙◌, arith, sym}
use Rattle.std.specs.List.{range_with_len}
use Rattle.std.proofs.lemmas.List.FromFn.{map-range_with_len_more}
use Rattle.av_totree.specs.Texts.{numbered}
use Rattle.av_totree.proofs.maps.parameter_names.Goals as goal

pub loop-number-preserved : goal.loop-number-preserved
loop-number-preserved c =
    let e : map (numbered c.args.letter.now) (range_with_len 0 (c.loop-number.number + 1)) ≡ map (numbered c.args.letter.now) (range_with_len 0 c.loop-number.number) ++ numbered c.args.letter.now c.loop-number.number ∷ [] =
    map-range_with_len_more (numbered c.args.letter.now) 0 c.loop-number.number c.loop-number.number (omega arith) in
    c.in_ok-push.ensures.ok ∙ ap (λ x. c.loop-number.names ++ x ∷ []) c.in_ok-numbered.ensures
    ∙ ap (λ l. l ++ numbered c.args.letter.now c.loop-number.number ∷ []) c.loop-number.invariant ∙ sym e
