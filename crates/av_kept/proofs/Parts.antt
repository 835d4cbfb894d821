-- An operation that is made of its parts is well formed and of Scalar mode, and so is a region.
use Rattle.std.proofs.Common.{ℕ, List, sym, subst}
use Rattle.std.specs.List.{All}
use Rattle.std.proofs.lemmas.List.Elements.{All-weaker}
use Rattle.av_ir.specs.declared.module.ValueId.{ValueId}
use Rattle.av_ir.specs.declared.module.Marks.{Marks}
use Rattle.av_ir.specs.declared.module.OpKind.{OpKind}
use Rattle.av_ir.specs.declared.module.Op.{Op, Op-F, roll-Op, out-roll-Op}
use Rattle.av_ir.specs.declared.module.Region.{Region, Region-F, roll-Region, out-roll-Region}
use Rattle.av_ir.specs.WellFormed.{HasUsableMaps, AreValues, IsScalarKind, IsScalarOp, IsScalarRegion, IsWellFormedOp, IsWellFormedRegion}
use Rattle.av_scalar.proofs.Opened.{formed_if, region_formed_if}
use Rattle.av_flat.proofs.ScalarParts.{scalar_if, region_scalar_if}
use Rattle.av_verify.specs.Elaboration.{region_of}
use Rattle.av_verify.specs.Ops.{op_of}

abbrev pub IsGoodOp : ℕ → Op → Type 0
IsGoodOp count op = IsWellFormedOp count op × IsScalarOp op

abbrev pub IsGoodRegion : ℕ → Region → Type 0
IsGoodRegion count region = IsWellFormedRegion count region × IsScalarRegion region

formed_op : (count : ℕ) (x : Op-F Op Region) → HasUsableMaps x.kind → AreValues count x.results → All (IsWellFormedRegion count) x.regions → IsWellFormedOp count (roll-Op x)
formed_op count x maps results regions =
    let same = sym (out-roll-Op x) in
    formed_if count (roll-Op x)
    (subst (λ (y : Op-F Op Region). HasUsableMaps y.kind) same maps)
    (subst (λ (y : Op-F Op Region). AreValues count y.results) same results)
    (subst (λ (y : Op-F Op Region). All (IsWellFormedRegion count) y.regions) same regions)

pub good_op : (count number : ℕ) (kind : OpKind) (operands results : List ValueId) (regions : List Region) (marks : Marks)
    → HasUsableMaps kind → IsScalarKind kind → AreValues count results → All (IsGoodRegion count) regions
    → IsGoodOp count (op_of number kind operands results regions marks)
unfolding op_of
good_op count number kind operands results regions marks maps scalar named inside =
    let x : Op-F Op Region = record { number = number; kind = kind; operands = operands; results = results; regions = regions; marks = marks } in (
      formed_op count x maps named (All-weaker (IsGoodRegion count) (IsWellFormedRegion count) (λ r h. h.0) regions inside),
      scalar_if x scalar (All-weaker (IsGoodRegion count) IsScalarRegion (λ r h. h.1) regions inside),
    )

formed_region : (count : ℕ) (x : Region-F Op Region) → AreValues count x.args → All (IsWellFormedOp count) x.ops → IsWellFormedRegion count (roll-Region x)
formed_region count x args ops =
    let same = sym (out-roll-Region x) in
    region_formed_if count (roll-Region x)
    (subst (λ (y : Region-F Op Region). AreValues count y.args) same args)
    (subst (λ (y : Region-F Op Region). All (IsWellFormedOp count) y.ops) same ops)

pub good_region : (count : ℕ) (args : List ValueId) (ops : List Op) → AreValues count args → All (IsGoodOp count) ops → IsGoodRegion count (region_of args ops)
good_region count args ops named good = (
  formed_region count (record { args = args; ops = ops }) named (All-weaker (IsGoodOp count) (IsWellFormedOp count) (λ op h. h.0) ops good),
  region_scalar_if (record { args = args; ops = ops }) (All-weaker (IsGoodOp count) IsScalarOp (λ op h. h.1) ops good),
)
