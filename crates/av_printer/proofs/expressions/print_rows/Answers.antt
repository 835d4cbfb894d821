use Rattle.av_printer.specs.Expressions.{row_pieces}
use Rattle.av_printer.proofs.Steps.{commas-turn}
use Rattle.av_printer.proofs.expressions.print_rows.Goals as goal

pub loop-i-preserved : goal.loop-i-preserved
loop-i-preserved c =
    commas-turn row_pieces c.args.rows.now c.loop-i.i _ _ c.push_bytes.new.self c.loop-i.out c.push_comma_after.new.self c.print_row.new.out c.loop-i-test.true c.index-rows-i.is c.loop-i.invariant c.in_ok-push_comma_after.ensures c.in_ok-print_row.ensures
