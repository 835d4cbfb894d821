use Rattle.av_totree.specs.Names.{naming_of}
use Rattle.av_totree.specs.Trees.{make_argument}
use Rattle.av_totree.proofs.MadeNodes.{any_default}
use Rattle.av_totree.proofs.Turns.{made_more, made_all, named_all}
use Rattle.av_totree.proofs.operations.arguments.Goals as goal

pub loop-value-preserved : goal.loop-value-preserved
loop-value-preserved c =
    made_more (make_argument c.args.types.now) c.args.values.now (naming_of c.args.names.now) c.loop-value.value-index _ c.loop-value.args c.push.new.self
    c.in_ok-argument.field-0 (naming_of c.loop-value.names) (naming_of c.argument.new.names)
    c.loop-value-test.true (any_default c.args.values.now c.loop-value.value-index _ _ c.loop-value-test.true) c.in_ok-argument.ensures.made c.in_ok-argument.ensures.naming c.in_ok-push.ensures.ok c.loop-value.invariant

pub returns-clause-made : goal.returns-clause-made
returns-clause-made c = made_all _ _ _ c.loop-value.value-index _ _ c.loop-value-test.false c.loop-value.invariant

pub returns-clause-naming : goal.returns-clause-naming
returns-clause-naming c = named_all _ _ _ c.loop-value.value-index _ _ c.loop-value-test.false c.loop-value.invariant
