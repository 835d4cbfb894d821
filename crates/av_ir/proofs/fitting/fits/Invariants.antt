use Rattle.std.proofs.Common.{◌≡◌, ◌↔◌, ◌+◌, ◌^◌, ◌≤◌, drop}
use Rattle.std.specs.List.{AllZip}
use Rattle.av_ir.specs.Values.{SuitsValue, elements}
use Rattle.av_ir.proofs.fitting.fits.Given as goal

-- what is left has to suit, and its elements are added to those counted
abbrev pub invariant-loop-place : goal.invariant-loop-place
invariant-loop-place l = record {
  suit :
      AllZip (SuitsValue l.f.values) (drop l.place l.ids) (drop l.place l.list) ↔ AllZip (SuitsValue l.f.values) l.ids l.list;
  counted : l.all + elements (drop l.place l.list) ≡ elements l.list;
  few : l.all ≤ 2 ^ 26;
}
