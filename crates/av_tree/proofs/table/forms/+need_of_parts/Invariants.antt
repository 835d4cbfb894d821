use Rattle.std.proofs.Common.{length}
use Rattle.av_tree.proofs.table.forms.+need_of_parts.Given as goal

abbrev pub decreases-need_of_parts : goal.decreases-need_of_parts
decreases-need_of_parts l = length l.parts.now
