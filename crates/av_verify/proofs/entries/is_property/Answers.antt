use Rattle.std.proofs.Common.{◌∙◌, ap}
use Rattle.std.specs.List.{list_any}
use Rattle.std.specs.Str.{bytes_eq}
use Rattle.av_verify.proofs.Behind.{any_names}
use Rattle.av_verify.proofs.entries.is_property.Goals as goal

pub returns : goal.returns
returns c =
    c.is_among.ensures ∙ any_names (λ one. bytes_eq one c.args.name.now) c.properties_of.result.now
    ∙ ap (list_any (λ one. bytes_eq one c.args.name.now)) c.properties_of.ensures
