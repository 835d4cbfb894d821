use Rattle.std.proofs.Common.{◌∙◌, ap, get_or}
use Rattle.std.proofs.Math.Path.{fun_ext}
use Rattle.av_ir.specs.Run.{word}
use Rattle.av_scalar.specs.Names.{env_of}
use Rattle.av_scalar.proofs.Bindings.{no_words}
use Rattle.av_scalar.proofs.names.Names.new.Goals as goal

pub returns-clause-env : goal.returns-clause-env
unfolding env_of
returns-clause-env c = fun_ext (λ k. ap word (ap (λ l. get_or l k 0) c.loop-value.invariant ∙ no_words c.loop-value._value k))
