use Rattle.std.proofs.Common.{◌≡◌, drop, ap, ◌∙◌}
use Rattle.std.proofs.lemmas.Result.{IfOk-weaker}
use Rattle.av_ir.specs.ScalarRun.{operands_of}
use Rattle.av_scalar.specs.Names.{values}
use Rattle.av_scalar.proofs.Parts.{behind_map}
use Rattle.av_scalar.proofs.bounds.carried.Goals as goal

pub returns : goal.returns
returns c =
    let first = behind_map c.args.lower.now c.args.operands.now c.behind.result.now c.behind-rest.result.now c.behind.ensures c.behind-rest.ensures in
    let second = behind_map c.args.upper.now c.behind-rest.result.now c.behind-2.result.now c.behind-3.result.now c.behind-2.ensures c.behind-3.ensures in
    IfOk-weaker c.from_slice.result (λ ws. ws ≡ c.behind-3.result.now)
    (λ ws. values ws ≡ drop (operands_of c.args.upper.now) (drop (operands_of c.args.lower.now) (values c.args.operands.now)))
    (λ ws same. ap values same ∙ second ∙ ap (drop (operands_of c.args.upper.now)) first)
    c.from_slice.ensures
