use Rattle.std.proofs.Common.{sym, subst}
use Rattle.std.specs.Option.{option_copied}
use Rattle.av_ir.specs.declared.module.Module as ir
use Rattle.av_verify.specs.Elaboration.{IsRefused, module_of}
use Rattle.av_verify.proofs.Outcomes.{refused}
use Rattle.av_verify.proofs.module.module_of.Goals as goal

pub returns-in-None : goal.returns-in-None
unfolding module_of
returns-in-None c =
    subst (λ n. IsRefused (module_of c.args.mode.now (option_copied n)) c.bad.result) (sym c.in-None.is)
    (refused ir.Module 0 18 c.bad.result c.bad.ensures)
