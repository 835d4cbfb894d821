use Rattle.av_printer.specs.Attributes.{element_pieces}
use Rattle.av_printer.proofs.Steps.{commas-turn}
use Rattle.av_printer.proofs.attributes.+elements.Goals as goal

pub print_elements-loop-i-preserved : goal.print_elements-loop-i-preserved
print_elements-loop-i-preserved t c =
    commas-turn element_pieces c.args.items.now c.loop-i.i _ _ c.push_bytes.new.self c.loop-i.out c.push_comma_after.new.self c.print_element.new.out c.loop-i-test.true c.index-items-i.is c.loop-i.invariant c.in_ok-push_comma_after.ensures c.in_ok-print_element.ensures
