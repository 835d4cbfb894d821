-- An operation or a region that is put together of its parts is the marked one.
use Rattle.std.proofs.Common.{◌≡◌, ap, sym, ◌∙◌, ℕ, ◌+◌, List, map}
use Rattle.av_ir.specs.declared.module.ValueId.{ValueId}
use Rattle.av_ir.specs.declared.module.OpKind.{OpKind}
use Rattle.av_ir.specs.declared.module.Marks.{Marks}
use Rattle.av_ir.specs.declared.module.Op.{Op, out-Op, roll-Op, fold_out-Op}
use Rattle.av_ir.specs.declared.module.Region.{Region, out-Region, roll-Region, fold_out-Region}
use Rattle.av_ir.specs.Marks.{Made, Making, in_turn, marks_of, own_loops, mark_op, mark_region, marked_op, marked_region}

module _ (op : Op) (loops : ℕ) where
  marked_op-out : let x = out-Op op in
      marked_op op loops ≡ mark_op (record {
        number = x.number;
        kind = x.kind;
        operands = x.operands;
        results = x.results;
        regions = map marked_region x.regions;
        marks = x.marks;
      }) loops
  unfolding marked_op marked_region
  marked_op-out = ap (λ f. f loops) (fold_out-Op (Making Op) (Making Region) mark_op mark_region op)

  module _ (regions : List Region) (start : ℕ) (is : regions ≡ (out-Op op).regions) (begins : start ≡ loops + own_loops (out-Op op).kind) where
    inside : in_turn (map marked_region regions) start ≡ in_turn (map marked_region (out-Op op).regions) (loops + own_loops (out-Op op).kind)
    inside = ap (λ rs. in_turn (map marked_region rs) start) is ∙ ap (in_turn (map marked_region (out-Op op).regions)) begins

    pub op_made : (kind : OpKind) (operands results : List ValueId) (copies : List Region) (marks : Marks)
        → kind ≡ (out-Op op).kind → operands ≡ (out-Op op).operands → results ≡ (out-Op op).results
        → copies ≡ (in_turn (map marked_region regions) start).made
        → marks ≡ marks_of (out-Op op).kind loops (out-Op op).number (out-Op op).marks.distinct
        → roll-Op (record {
          number = (out-Op op).number;
          kind = kind;
          operands = operands;
          results = results;
          regions = copies;
          marks = marks;
        }) ≡ (marked_op op loops).made
    op_made kind operands results copies marks a b d e h = let f = marked_op-out in let g = inside in cc

    pub op_counted : (more : ℕ) → more ≡ (in_turn (map marked_region regions) start).loops → more ≡ (marked_op op loops).loops
    op_counted more h = h ∙ ap (λ (m : Made (List Region)). m.loops) inside ∙ sym (ap (λ (m : Made Op). m.loops) marked_op-out)

module _ (region : Region) (loops : ℕ) where
  marked_region-out : let x = out-Region region in
      marked_region region loops ≡ mark_region (record { args = x.args; ops = map marked_op x.ops }) loops
  unfolding marked_op marked_region
  marked_region-out = ap (λ f. f loops) (fold_out-Region (Making Op) (Making Region) mark_op mark_region region)

  module _ (ops : List Op) (is : ops ≡ (out-Region region).ops) where
    pub region_made : (args : List ValueId) (copies : List Op) → args ≡ (out-Region region).args
        → copies ≡ (in_turn (map marked_op ops) loops).made → roll-Region (record { args = args; ops = copies }) ≡ (marked_region region loops).made
    region_made args copies a e = let f = marked_region-out in cc

    pub region_counted : (more : ℕ) → more ≡ (in_turn (map marked_op ops) loops).loops → more ≡ (marked_region region loops).loops
    region_counted more h = let f = marked_region-out in cc
