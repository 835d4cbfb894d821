use Rattle.std.proofs.Common.{length}
use Rattle.av_tree.proofs.table.forms.+push_form.Given as goal

abbrev pub decreases-push_form : goal.decreases-push_form
decreases-push_form l = length l.parts.now
