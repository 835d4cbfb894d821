-- Each row was compared with its name.
use Rattle.av_tree.proofs.Lighter.{lighter}
use Rattle.av_tree.proofs.table.push_symbols.Goals as goal

pub returns-clause-lighter : goal.returns-clause-lighter
returns-clause-lighter c = lighter c.args.rule
