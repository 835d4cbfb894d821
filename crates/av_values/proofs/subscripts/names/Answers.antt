use Rattle.std.proofs.Common.{◌∙◌}
use Rattle.av_values.proofs.Numbered.{no_names, one_more_name}
use Rattle.av_values.proofs.subscripts.names.Goals as goal

pub loop-number-init : goal.loop-number-init
loop-number-init c = c.new-names.ensures ∙ no_names c.args.letter.now

pub loop-number-preserved : goal.loop-number-preserved
loop-number-preserved c =
    c.in_ok-push.ensures.ok
    ∙ one_more_name c.args.letter.now c.loop-number.number c.loop-number.names c.in_ok-parameter_name.field-0 c.loop-number.invariant c.in_ok-parameter_name.ensures.ok
