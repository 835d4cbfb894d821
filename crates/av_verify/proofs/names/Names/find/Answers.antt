use Rattle.std.proofs.Common.{◌∙◌, ap}
use Rattle.av_verify.specs.Names.{value_named}
use Rattle.av_verify.proofs.Bindings.{finds}
use Rattle.av_verify.proofs.names.Names.find.Goals as goal

pub returns : goal.returns
returns c =
    c.copied.ensures ∙ c.get.ensures.value ∙ finds (λ k. k.items) c.args.name.now c.self.inside.index.entries
    ∙ ap (value_named c.args.name.now) c.self.view_is
