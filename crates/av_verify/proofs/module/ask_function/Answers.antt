use Rattle.std.proofs.Common.{rules, ◌∙◌, ap, subst}
use Rattle.std.specs.Prelude.{codes}
use Rattle.av_verify.specs.declared.refusal.Code.TheVariants as code
use Rattle.av_verify.specs.Codes.{Asked, asks, first_failing}
use Rattle.av_verify.specs.Loops.{end_with}
use Rattle.av_verify.proofs.Wholes.{rules_are}
use Rattle.av_verify.proofs.module.ask_function.Goals as goal

pub returns : goal.returns
returns c =
    subst (λ rs. Asked c.args.number (first_failing rs) c.ask_all.result (λ u. Unit {0}))
    (rules_are c.args.new c.args.node.now c.asks.result c.asks-2.result c.asks-3.result c.asks-4.result c.asks-5.result c.asks-6.result c.asks-7.result c.asks-8.result c.asks-9.result c.asks-10.result c.asks-11.result
    (search rules) (search rules) (search rules) (search rules) (search rules) (search rules) (search rules) (c.asks-8.ensures ∙ ap (asks code.Terminator) (c.end_with.ensures ∙ ap (end_with (codes "func.return")) c.as_slice-3.ensures)) (search rules) (search rules) (search rules))
    c.ask_all.ensures
