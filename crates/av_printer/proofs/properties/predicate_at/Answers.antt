use Rattle.std.proofs.Common.{ℤ, ap, ◌∙◌}
use Rattle.std.proofs.lemmas.Int.{to_z-of_z}
use mir.Syntax.{w128}
use Rattle.av_dialects.specs.Rows.{predicates}
use Rattle.av_printer.specs.Parts.{place_of, word_at}
use Rattle.av_printer.proofs.properties.predicate_at.Goals as goal

pub returns-in-Some : goal.returns-in-Some
unfolding predicates
returns-in-Some c =
    c.word_at.ensures ∙ ap (word_at predicates) (c.in-Some.ensures ∙ ap (λ (z : ℤ). place_of z) (to_z-of_z w128 c.args.value c.ranges.value))
