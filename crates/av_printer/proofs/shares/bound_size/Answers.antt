use Rattle.std.proofs.Common.{ℕ, List, ap, ◌∙◌}
use Rattle.std.specs.Prelude.{codes, option_copied}
use Rattle.av_tree.specs.declared.attribute.Named.{Named}
use Rattle.av_tree.specs.declared.node.Node.{out-Node}
use Rattle.av_printer.specs.Operations.{property}
use Rattle.av_printer.specs.Parts.{bound_place, counted, size_of}
use Rattle.av_printer.proofs.shares.bound_size.Goals as goal

pub returns : goal.returns
returns c =
    let own = (out-Node c.args.node.now).properties in
    let place = bound_place c.args.lower in
    let known = counted place (property own (codes "operandSegmentSizes")) in
    c.size_of.ensures
    ∙ ap (λ (k : ℕ). size_of k (option_copied c.property.result)) (c.counted.ensures ∙ ap (λ (k : ℕ). counted k (option_copied c.property-counts.result)) c.bound_place.ensures
    ∙ ap (counted place) (c.property-counts.ensures ∙ ap (λ (es : List Named). property es (codes "operandSegmentSizes")) c.as_slice-properties.ensures))
    ∙ ap (size_of known) (c.property.ensures ∙ ap (λ (es : List Named). property es c.bound_name.result.now) c.as_slice-properties.ensures ∙ ap (property own) c.bound_name.ensures)
