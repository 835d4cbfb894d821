use Rattle.av_printer.specs.Attributes.{attribute, entry_pieces}
use Rattle.av_printer.proofs.Steps.{commas-turn}
use Rattle.av_printer.proofs.attributes.+attributing.Goals as goal

pub print_list-loop-i-preserved : goal.print_list-loop-i-preserved
print_list-loop-i-preserved t c =
    commas-turn attribute c.args.items.now c.loop-i.i _ _ c.push_bytes.new.self c.loop-i.out c.push_comma_after.new.self c.print_attribute.new.out c.loop-i-test.true c.index-items-i.is c.loop-i.invariant c.in_ok-push_comma_after.ensures c.in_ok-print_attribute.ensures

pub print_entries-loop-i-preserved : goal.print_entries-loop-i-preserved
print_entries-loop-i-preserved t c =
    commas-turn entry_pieces c.args.entries.now c.loop-i.i _ _ c.push_bytes.new.self c.loop-i.out c.push_comma_after.new.self c.print_entry.new.out c.loop-i-test.true c.index-entries-i.is c.loop-i.invariant c.in_ok-push_comma_after.ensures c.in_ok-print_entry.ensures
