use Rattle.std.proofs.Common.{◌∙◌, ap}
use Rattle.std.specs.Prelude.{is_some}
use Rattle.std.specs.List.{list_all}
use Rattle.av_verify.specs.Entries.{entry_of}
use Rattle.av_verify.proofs.Behind.{all_names}
use Rattle.av_verify.proofs.entries.has_needed.Goals as goal

pub returns : goal.returns
returns c =
    c.has_all.ensures ∙ all_names (λ name. is_some (entry_of name c.args.node.now)) c.properties_of.result.now
    ∙ ap (list_all (λ name. is_some (entry_of name c.args.node.now))) c.properties_of.ensures
