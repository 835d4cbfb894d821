use Rattle.std.proofs.Common.{◌∙◌, ap}
use Rattle.std.specs.List.{list_all}
use Rattle.av_verify.specs.Entries.{is_once}
use Rattle.av_verify.proofs.Behind.{all_names}
use Rattle.av_verify.proofs.entries.has_each_once.Goals as goal

pub returns : goal.returns
returns c =
    c.are_once.ensures ∙ all_names (λ name. is_once name c.args.node.now) c.properties_of.result.now
    ∙ ap (list_all (λ name. is_once name c.args.node.now)) c.properties_of.ensures
