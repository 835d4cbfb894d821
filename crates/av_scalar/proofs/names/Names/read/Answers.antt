use Rattle.std.proofs.Common.{arith}
use Rattle.av_scalar.specs.Names.{env_of}
use Rattle.av_scalar.proofs.Bindings.{read_more}
use Rattle.av_scalar.proofs.names.Names.read.Goals as goal

pub loop-id-preserved : goal.loop-id-preserved
unfolding env_of
loop-id-preserved c =
    read_more c.args.self.now c.args.ids.now c.loop-id.id-index c.word.result c.loop-id.words c.push.new.self (omega arith) c.word.ensures c.in_ok-push.ensures.ok c.loop-id.invariant
