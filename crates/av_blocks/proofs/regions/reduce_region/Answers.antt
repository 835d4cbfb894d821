use Rattle.av_blocks.proofs.regions.reduce_region.Goals as goal

pub returns-in-NoMoreOperations-clause-ok : goal.returns-in-NoMoreOperations-clause-ok
returns-in-NoMoreOperations-clause-ok c = rw c.in-NoMoreOperations.is c.no_nodes.ensures.ok

pub returns-in-NoMoreOperations-clause-misshapen : goal.returns-in-NoMoreOperations-clause-misshapen
returns-in-NoMoreOperations-clause-misshapen c = rw c.in-NoMoreOperations.is c.no_nodes.ensures.misshapen

pub returns-in-WithoutResults-clause-ok : goal.returns-in-WithoutResults-clause-ok
returns-in-WithoutResults-clause-ok c = rw c.in-WithoutResults.is c.without_results.ensures.ok

pub returns-in-WithoutResults-clause-misshapen : goal.returns-in-WithoutResults-clause-misshapen
returns-in-WithoutResults-clause-misshapen c = rw c.in-WithoutResults.is c.without_results.ensures.misshapen

pub returns-in-NamedRegion-clause-ok : goal.returns-in-NamedRegion-clause-ok
returns-in-NamedRegion-clause-ok c = rw c.in-NamedRegion.is c.same_nodes.ensures.ok

pub returns-in-NamedRegion-clause-misshapen : goal.returns-in-NamedRegion-clause-misshapen
returns-in-NamedRegion-clause-misshapen c = rw c.in-NamedRegion.is c.same_nodes.ensures.misshapen

pub returns-in-PlainOperation-clause-ok : goal.returns-in-PlainOperation-clause-ok
returns-in-PlainOperation-clause-ok c = rw c.in-PlainOperation.is c.onward.ensures.ok

pub returns-in-PlainOperation-clause-misshapen : goal.returns-in-PlainOperation-clause-misshapen
returns-in-PlainOperation-clause-misshapen c = rw c.in-PlainOperation.is c.onward.ensures.misshapen

pub returns-in-TerminatorWithValues-clause-ok : goal.returns-in-TerminatorWithValues-clause-ok
returns-in-TerminatorWithValues-clause-ok c = rw c.in-TerminatorWithValues.is c.terminator_with_values.ensures.ok

pub returns-in-TerminatorWithValues-clause-misshapen : goal.returns-in-TerminatorWithValues-clause-misshapen
returns-in-TerminatorWithValues-clause-misshapen c = rw c.in-TerminatorWithValues.is c.terminator_with_values.ensures.misshapen

pub returns-in-TerminatorLast-clause-ok : goal.returns-in-TerminatorLast-clause-ok
returns-in-TerminatorLast-clause-ok c = rw c.in-TerminatorLast.is c.terminator_last.ensures.ok

pub returns-in-TerminatorLast-clause-misshapen : goal.returns-in-TerminatorLast-clause-misshapen
returns-in-TerminatorLast-clause-misshapen c = rw c.in-TerminatorLast.is c.terminator_last.ensures.misshapen

pub returns-in-TerminatorThenOperation-clause-ok : goal.returns-in-TerminatorThenOperation-clause-ok
returns-in-TerminatorThenOperation-clause-ok c = rw c.in-TerminatorThenOperation.is c.terminator_then_operation.ensures.ok

pub returns-in-TerminatorThenOperation-clause-misshapen : goal.returns-in-TerminatorThenOperation-clause-misshapen
returns-in-TerminatorThenOperation-clause-misshapen c = rw c.in-TerminatorThenOperation.is c.terminator_then_operation.ensures.misshapen

pub returns-in-ValuesAndTypes-clause-ok : goal.returns-in-ValuesAndTypes-clause-ok
returns-in-ValuesAndTypes-clause-ok c = rw c.in-ValuesAndTypes.is c.values_and_types.ensures.ok

pub returns-in-ValuesAndTypes-clause-misshapen : goal.returns-in-ValuesAndTypes-clause-misshapen
returns-in-ValuesAndTypes-clause-misshapen c = rw c.in-ValuesAndTypes.is c.values_and_types.ensures.misshapen
