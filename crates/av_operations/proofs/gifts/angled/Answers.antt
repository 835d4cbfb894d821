use Rattle.av_operations.proofs.Items.{angled-as-word}
use Rattle.av_operations.proofs.gifts.angled.Goals as goal

pub returns-clause-ok : goal.returns-clause-ok
returns-clause-ok c = rw (angled-as-word c.args.key c.args.stack.now) c.word.ensures.ok

pub returns-clause-misshapen : goal.returns-clause-misshapen
returns-clause-misshapen c = rw (angled-as-word c.args.key c.args.stack.now) c.word.ensures.misshapen
