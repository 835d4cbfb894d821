use Rattle.av_printer.specs.Expressions.{leaf, expression}
use Rattle.av_printer.proofs.Steps.{commas-turn}
use Rattle.av_printer.proofs.subscripts.print_expressions.Goals as goal

pub loop-i-preserved : goal.loop-i-preserved
loop-i-preserved c =
    commas-turn (expression (leaf c.args.leaves.now.dims.now c.args.leaves.now.dim_values.now c.args.leaves.now.syms.now c.args.leaves.now.sym_values.now)) c.args.exprs.now c.loop-i.i _ _ c.push_bytes.new.self c.loop-i.out c.push_comma_after.new.self c.print_expression.new.out c.loop-i-test.true c.index-exprs-i.is c.loop-i.invariant c.in_ok-push_comma_after.ensures c.in_ok-print_expression.ensures
