use Rattle.av_blocks.proofs.generic.reduce_generic.Goals as goal

pub returns-in-WholeGeneric-clause-ok : goal.returns-in-WholeGeneric-clause-ok
returns-in-WholeGeneric-clause-ok c = rw c.in-WholeGeneric.is c.whole_generic.ensures.ok

pub returns-in-WholeGeneric-clause-misshapen : goal.returns-in-WholeGeneric-clause-misshapen
returns-in-WholeGeneric-clause-misshapen c = rw c.in-WholeGeneric.is c.whole_generic.ensures.misshapen

pub returns-in-NoProperties-clause-ok : goal.returns-in-NoProperties-clause-ok
returns-in-NoProperties-clause-ok c = rw c.in-NoProperties.is c.no_entries.ensures.ok

pub returns-in-NoProperties-clause-misshapen : goal.returns-in-NoProperties-clause-misshapen
returns-in-NoProperties-clause-misshapen c = rw c.in-NoProperties.is c.no_entries.ensures.misshapen

pub returns-in-WrittenProperties-clause-ok : goal.returns-in-WrittenProperties-clause-ok
returns-in-WrittenProperties-clause-ok c = rw c.in-WrittenProperties.is c.same_entries.ensures.ok

pub returns-in-WrittenProperties-clause-misshapen : goal.returns-in-WrittenProperties-clause-misshapen
returns-in-WrittenProperties-clause-misshapen c = rw c.in-WrittenProperties.is c.same_entries.ensures.misshapen

pub returns-in-NoRegions-clause-ok : goal.returns-in-NoRegions-clause-ok
returns-in-NoRegions-clause-ok c = rw c.in-NoRegions.is c.no_bodies.ensures.ok

pub returns-in-NoRegions-clause-misshapen : goal.returns-in-NoRegions-clause-misshapen
returns-in-NoRegions-clause-misshapen c = rw c.in-NoRegions.is c.no_bodies.ensures.misshapen

pub returns-in-NoMoreRegions-clause-ok : goal.returns-in-NoMoreRegions-clause-ok
returns-in-NoMoreRegions-clause-ok c = rw c.in-NoMoreRegions.is c.no_bodies-in-NoMoreRegions.ensures.ok

pub returns-in-NoMoreRegions-clause-misshapen : goal.returns-in-NoMoreRegions-clause-misshapen
returns-in-NoMoreRegions-clause-misshapen c = rw c.in-NoMoreRegions.is c.no_bodies-in-NoMoreRegions.ensures.misshapen

pub returns-in-WrittenRegions-clause-ok : goal.returns-in-WrittenRegions-clause-ok
returns-in-WrittenRegions-clause-ok c = rw c.in-WrittenRegions.is c.body_before.ensures.ok

pub returns-in-WrittenRegions-clause-misshapen : goal.returns-in-WrittenRegions-clause-misshapen
returns-in-WrittenRegions-clause-misshapen c = rw c.in-WrittenRegions.is c.body_before.ensures.misshapen

pub returns-in-NextRegion-clause-ok : goal.returns-in-NextRegion-clause-ok
returns-in-NextRegion-clause-ok c = rw c.in-NextRegion.is c.body_before-in-NextRegion.ensures.ok

pub returns-in-NextRegion-clause-misshapen : goal.returns-in-NextRegion-clause-misshapen
returns-in-NextRegion-clause-misshapen c = rw c.in-NextRegion.is c.body_before-in-NextRegion.ensures.misshapen

pub returns-in-LabelledRegion-clause-ok : goal.returns-in-LabelledRegion-clause-ok
returns-in-LabelledRegion-clause-ok c = rw c.in-LabelledRegion.is c.labelled_region.ensures.ok

pub returns-in-LabelledRegion-clause-misshapen : goal.returns-in-LabelledRegion-clause-misshapen
returns-in-LabelledRegion-clause-misshapen c = rw c.in-LabelledRegion.is c.labelled_region.ensures.misshapen

pub returns-in-NoLabel-clause-ok : goal.returns-in-NoLabel-clause-ok
returns-in-NoLabel-clause-ok c = rw c.in-NoLabel.is c.no_arguments.ensures.ok

pub returns-in-NoLabel-clause-misshapen : goal.returns-in-NoLabel-clause-misshapen
returns-in-NoLabel-clause-misshapen c = rw c.in-NoLabel.is c.no_arguments.ensures.misshapen

pub returns-in-BlockLabel-clause-ok : goal.returns-in-BlockLabel-clause-ok
returns-in-BlockLabel-clause-ok c = rw c.in-BlockLabel.is c.block_label.ensures.ok

pub returns-in-BlockLabel-clause-misshapen : goal.returns-in-BlockLabel-clause-misshapen
returns-in-BlockLabel-clause-misshapen c = rw c.in-BlockLabel.is c.block_label.ensures.misshapen

pub returns-in-NoArguments-clause-ok : goal.returns-in-NoArguments-clause-ok
returns-in-NoArguments-clause-ok c = rw c.in-NoArguments.is c.no_arguments-in-NoArguments.ensures.ok

pub returns-in-NoArguments-clause-misshapen : goal.returns-in-NoArguments-clause-misshapen
returns-in-NoArguments-clause-misshapen c = rw c.in-NoArguments.is c.no_arguments-in-NoArguments.ensures.misshapen

pub returns-in-NoMoreArguments-clause-ok : goal.returns-in-NoMoreArguments-clause-ok
returns-in-NoMoreArguments-clause-ok c = rw c.in-NoMoreArguments.is c.no_arguments-in-NoMoreArguments.ensures.ok

pub returns-in-NoMoreArguments-clause-misshapen : goal.returns-in-NoMoreArguments-clause-misshapen
returns-in-NoMoreArguments-clause-misshapen c = rw c.in-NoMoreArguments.is c.no_arguments-in-NoMoreArguments.ensures.misshapen

pub returns-in-FirstArgument-clause-ok : goal.returns-in-FirstArgument-clause-ok
returns-in-FirstArgument-clause-ok c = rw c.in-FirstArgument.is c.argument_before.ensures.ok

pub returns-in-FirstArgument-clause-misshapen : goal.returns-in-FirstArgument-clause-misshapen
returns-in-FirstArgument-clause-misshapen c = rw c.in-FirstArgument.is c.argument_before.ensures.misshapen

pub returns-in-NextArgument-clause-ok : goal.returns-in-NextArgument-clause-ok
returns-in-NextArgument-clause-ok c = rw c.in-NextArgument.is c.argument_before-in-NextArgument.ensures.ok

pub returns-in-NextArgument-clause-misshapen : goal.returns-in-NextArgument-clause-misshapen
returns-in-NextArgument-clause-misshapen c = rw c.in-NextArgument.is c.argument_before-in-NextArgument.ensures.misshapen
