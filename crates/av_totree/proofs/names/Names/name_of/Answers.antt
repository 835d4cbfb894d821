use Rattle.std.proofs.Common.{◌∙◌, ap, sym}
use Rattle.std.specs.Prelude.{codes}
use Rattle.std.specs.Option.{option_copied}
use Rattle.av_totree.proofs.Unnamed.{without_name}
use Rattle.av_totree.proofs.names.Names.name_of.Goals as goal

pub returns-in-None : goal.returns-in-None
returns-in-None c =
    without_name c.text_of.result c.args.self.now.names c.args.value.0 (codes "%") c.text_of.ensures
    (sym c.get.ensures.value ∙ ap option_copied c.in-None.is)
