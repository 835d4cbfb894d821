use Rattle.std.proofs.Common.{◌∙◌, ap, sym, take}
use Rattle.std.specs.Prelude.{map}
use Rattle.std.proofs.lemmas.List.{take-map}
use Rattle.av_verify.specs.Names.{binds}
use Rattle.av_verify.proofs.names.Names.truncate.Goals as goal

pub returns : goal.returns
returns c =
    ap (map (λ e. binds e.0.items e.1)) c.truncate.ensures.entries
    ∙ sym (take-map (λ e. binds e.0.items e.1) c.args.len c.self.inside.index.entries)
    ∙ ap (take c.args.len) c.self.view_is
