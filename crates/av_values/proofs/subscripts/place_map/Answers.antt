use Rattle.std.proofs.Common.{reverse, rules, sym, subst}
use Rattle.av_values.specs.declared.subscripts.Numbering.{Numbering}
use Rattle.av_values.specs.Meanings.{IsFaithful}
use Rattle.av_values.proofs.Faithful.{faithful}
use Rattle.av_values.proofs.subscripts.place_map.Goals as goal

pub returns-clause-ok : goal.returns-clause-ok
returns-clause-ok c = search rules

pub returns-clause-faithful : goal.returns-clause-faithful
returns-clause-faithful c =
    subst (λ (n : Numbering). IsFaithful n (reverse c.args.subscripts)) (sym (returns-clause-ok c)) (faithful (reverse c.args.subscripts))
