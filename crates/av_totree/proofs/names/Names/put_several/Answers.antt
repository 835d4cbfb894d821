use Rattle.std.proofs.Common.{ap, ◌∙◌}
use Rattle.av_totree.specs.declared.names.Names.{Names}
use Rattle.av_totree.specs.Names.{with_several}
use Rattle.av_totree.proofs.Several.{several_more, several_all}
use Rattle.av_totree.proofs.names.Names.put_several.Goals as goal

pub loop-place-preserved : goal.loop-place-preserved
loop-place-preserved c = record {
  names =
      several_more c.args.operation c.loop-place.place c.args.values.now c.loop-place.self.names _ c.in_ok-name.name _ _ c.loop-place-test.true
      c.in_ok-name.ensures (ap (λ (n : Names). n.names) c.put.ensures) c.loop-place.invariant.names;
  arguments = ap (λ (n : Names). n.arguments) c.put.ensures ∙ c.loop-place.invariant.arguments;
  operations = ap (λ (n : Names). n.operations) c.put.ensures ∙ c.loop-place.invariant.operations;
}

pub returns : goal.returns
returns c =
    let names = several_all c.args.operation c.loop-place.place c.args.values.now c.loop-place.self.names _ c.loop-place-test.false c.loop-place.invariant.names in
    let arguments = c.loop-place.invariant.arguments in
    let operations = c.loop-place.invariant.operations in
    ap (λ l. record { names = l; arguments = c.loop-place.self.arguments; operations = c.loop-place.self.operations }) names
    ∙ ap (λ l. record { names = with_several c.args.operation 0 c.args.values.now c.args.self.now.names; arguments = l; operations = c.loop-place.self.operations }) arguments
    ∙ ap (λ l. record { names = with_several c.args.operation 0 c.args.values.now c.args.self.now.names; arguments = c.args.self.now.arguments; operations = l }) operations
