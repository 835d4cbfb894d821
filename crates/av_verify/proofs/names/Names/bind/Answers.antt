use Rattle.std.proofs.Common.{◌∙◌, ap}
use Rattle.std.specs.Prelude.{map}
use Rattle.av_verify.specs.Names.{binds, bound}
use Rattle.av_verify.proofs.Bindings.{inserts}
use Rattle.av_verify.proofs.names.Names.bind.Goals as goal

pub returns : goal.returns
returns c =
    ap (map (λ e. binds e.0.items e.1)) c.in_ok-_before.ensures.entries
    ∙ inserts (λ k. k.items) c.args.name c.args.value c.self.inside.index.entries
    ∙ ap (λ names. bound names c.args.name.items c.args.value) c.self.view_is
