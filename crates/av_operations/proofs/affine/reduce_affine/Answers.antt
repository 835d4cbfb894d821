use Rattle.av_operations.proofs.affine.reduce_affine.Goals as goal

pub returns-in-GreatestOf-clause-ok : goal.returns-in-GreatestOf-clause-ok
returns-in-GreatestOf-clause-ok c = rw c.in-GreatestOf.is c.same_map_use.ensures.ok

pub returns-in-GreatestOf-clause-misshapen : goal.returns-in-GreatestOf-clause-misshapen
returns-in-GreatestOf-clause-misshapen c = rw c.in-GreatestOf.is c.same_map_use.ensures.misshapen

pub returns-in-PlainLowerBound-clause-ok : goal.returns-in-PlainLowerBound-clause-ok
returns-in-PlainLowerBound-clause-ok c = rw c.in-PlainLowerBound.is c.same_map_use-in-PlainLowerBound.ensures.ok

pub returns-in-PlainLowerBound-clause-misshapen : goal.returns-in-PlainLowerBound-clause-misshapen
returns-in-PlainLowerBound-clause-misshapen c = rw c.in-PlainLowerBound.is c.same_map_use-in-PlainLowerBound.ensures.misshapen

pub returns-in-LeastOf-clause-ok : goal.returns-in-LeastOf-clause-ok
returns-in-LeastOf-clause-ok c = rw c.in-LeastOf.is c.same_map_use-in-LeastOf.ensures.ok

pub returns-in-LeastOf-clause-misshapen : goal.returns-in-LeastOf-clause-misshapen
returns-in-LeastOf-clause-misshapen c = rw c.in-LeastOf.is c.same_map_use-in-LeastOf.ensures.misshapen

pub returns-in-PlainUpperBound-clause-ok : goal.returns-in-PlainUpperBound-clause-ok
returns-in-PlainUpperBound-clause-ok c = rw c.in-PlainUpperBound.is c.same_map_use-in-PlainUpperBound.ensures.ok

pub returns-in-PlainUpperBound-clause-misshapen : goal.returns-in-PlainUpperBound-clause-misshapen
returns-in-PlainUpperBound-clause-misshapen c = rw c.in-PlainUpperBound.is c.same_map_use-in-PlainUpperBound.ensures.misshapen

pub returns-in-MapBound-clause-ok : goal.returns-in-MapBound-clause-ok
returns-in-MapBound-clause-ok c = rw c.in-MapBound.is c.same_map_use-in-MapBound.ensures.ok

pub returns-in-MapBound-clause-misshapen : goal.returns-in-MapBound-clause-misshapen
returns-in-MapBound-clause-misshapen c = rw c.in-MapBound.is c.same_map_use-in-MapBound.ensures.misshapen

pub returns-in-NumberBound-clause-ok : goal.returns-in-NumberBound-clause-ok
returns-in-NumberBound-clause-ok c = rw c.in-NumberBound.is c.number_bound.ensures.ok

pub returns-in-NumberBound-clause-misshapen : goal.returns-in-NumberBound-clause-misshapen
returns-in-NumberBound-clause-misshapen c = rw c.in-NumberBound.is c.number_bound.ensures.misshapen

pub returns-in-ValueBound-clause-ok : goal.returns-in-ValueBound-clause-ok
returns-in-ValueBound-clause-ok c = rw c.in-ValueBound.is c.value_bound.ensures.ok

pub returns-in-ValueBound-clause-misshapen : goal.returns-in-ValueBound-clause-misshapen
returns-in-ValueBound-clause-misshapen c = rw c.in-ValueBound.is c.value_bound.ensures.misshapen

pub returns-in-NoStep-clause-ok : goal.returns-in-NoStep-clause-ok
returns-in-NoStep-clause-ok c = rw c.in-NoStep.is c.no_step.ensures.ok

pub returns-in-NoStep-clause-misshapen : goal.returns-in-NoStep-clause-misshapen
returns-in-NoStep-clause-misshapen c = rw c.in-NoStep.is c.no_step.ensures.misshapen

pub returns-in-WrittenStep-clause-ok : goal.returns-in-WrittenStep-clause-ok
returns-in-WrittenStep-clause-ok c = rw c.in-WrittenStep.is c.written_step.ensures.ok

pub returns-in-WrittenStep-clause-misshapen : goal.returns-in-WrittenStep-clause-misshapen
returns-in-WrittenStep-clause-misshapen c = rw c.in-WrittenStep.is c.written_step.ensures.misshapen

pub returns-in-NoIterArgs-clause-ok : goal.returns-in-NoIterArgs-clause-ok
returns-in-NoIterArgs-clause-ok c = rw c.in-NoIterArgs.is c.none_carried.ensures.ok

pub returns-in-NoIterArgs-clause-misshapen : goal.returns-in-NoIterArgs-clause-misshapen
returns-in-NoIterArgs-clause-misshapen c = rw c.in-NoIterArgs.is c.none_carried.ensures.misshapen

pub returns-in-NoCarried-clause-ok : goal.returns-in-NoCarried-clause-ok
returns-in-NoCarried-clause-ok c = rw c.in-NoCarried.is c.none_carried-in-NoCarried.ensures.ok

pub returns-in-NoCarried-clause-misshapen : goal.returns-in-NoCarried-clause-misshapen
returns-in-NoCarried-clause-misshapen c = rw c.in-NoCarried.is c.none_carried-in-NoCarried.ensures.misshapen

pub returns-in-NoMoreCarried-clause-ok : goal.returns-in-NoMoreCarried-clause-ok
returns-in-NoMoreCarried-clause-ok c = rw c.in-NoMoreCarried.is c.none_carried-in-NoMoreCarried.ensures.ok

pub returns-in-NoMoreCarried-clause-misshapen : goal.returns-in-NoMoreCarried-clause-misshapen
returns-in-NoMoreCarried-clause-misshapen c = rw c.in-NoMoreCarried.is c.none_carried-in-NoMoreCarried.ensures.misshapen

pub returns-in-WrittenIterArgs-clause-ok : goal.returns-in-WrittenIterArgs-clause-ok
returns-in-WrittenIterArgs-clause-ok c = rw c.in-WrittenIterArgs.is c.same_carried.ensures.ok

pub returns-in-WrittenIterArgs-clause-misshapen : goal.returns-in-WrittenIterArgs-clause-misshapen
returns-in-WrittenIterArgs-clause-misshapen c = rw c.in-WrittenIterArgs.is c.same_carried.ensures.misshapen

pub returns-in-FirstCarried-clause-ok : goal.returns-in-FirstCarried-clause-ok
returns-in-FirstCarried-clause-ok c = rw c.in-FirstCarried.is c.carried.ensures.ok

pub returns-in-FirstCarried-clause-misshapen : goal.returns-in-FirstCarried-clause-misshapen
returns-in-FirstCarried-clause-misshapen c = rw c.in-FirstCarried.is c.carried.ensures.misshapen

pub returns-in-NextCarried-clause-ok : goal.returns-in-NextCarried-clause-ok
returns-in-NextCarried-clause-ok c = rw c.in-NextCarried.is c.carried-in-NextCarried.ensures.ok

pub returns-in-NextCarried-clause-misshapen : goal.returns-in-NextCarried-clause-misshapen
returns-in-NextCarried-clause-misshapen c = rw c.in-NextCarried.is c.carried-in-NextCarried.ensures.misshapen

pub returns-in-MapWritten-clause-ok : goal.returns-in-MapWritten-clause-ok
returns-in-MapWritten-clause-ok c = rw c.in-MapWritten.is c.map_written.ensures.ok

pub returns-in-MapWritten-clause-misshapen : goal.returns-in-MapWritten-clause-misshapen
returns-in-MapWritten-clause-misshapen c = rw c.in-MapWritten.is c.map_written.ensures.misshapen

pub returns-in-DimensionOperands-clause-ok : goal.returns-in-DimensionOperands-clause-ok
returns-in-DimensionOperands-clause-ok c = rw c.in-DimensionOperands.is c.dimension_operands.ensures.ok

pub returns-in-DimensionOperands-clause-misshapen : goal.returns-in-DimensionOperands-clause-misshapen
returns-in-DimensionOperands-clause-misshapen c = rw c.in-DimensionOperands.is c.dimension_operands.ensures.misshapen

pub returns-in-NoSymbolOperands-clause-ok : goal.returns-in-NoSymbolOperands-clause-ok
returns-in-NoSymbolOperands-clause-ok c = rw c.in-NoSymbolOperands.is c.no_texts.ensures.ok

pub returns-in-NoSymbolOperands-clause-misshapen : goal.returns-in-NoSymbolOperands-clause-misshapen
returns-in-NoSymbolOperands-clause-misshapen c = rw c.in-NoSymbolOperands.is c.no_texts.ensures.misshapen

pub returns-in-WrittenSymbolOperands-clause-ok : goal.returns-in-WrittenSymbolOperands-clause-ok
returns-in-WrittenSymbolOperands-clause-ok c = rw c.in-WrittenSymbolOperands.is c.same_texts.ensures.ok

pub returns-in-WrittenSymbolOperands-clause-misshapen : goal.returns-in-WrittenSymbolOperands-clause-misshapen
returns-in-WrittenSymbolOperands-clause-misshapen c = rw c.in-WrittenSymbolOperands.is c.same_texts.ensures.misshapen

pub returns-in-MapByAlias-clause-ok : goal.returns-in-MapByAlias-clause-ok
returns-in-MapByAlias-clause-ok c = rw c.in-MapByAlias.is c.map_by_alias.ensures.ok

pub returns-in-MapByAlias-clause-misshapen : goal.returns-in-MapByAlias-clause-misshapen
returns-in-MapByAlias-clause-misshapen c = rw c.in-MapByAlias.is c.map_by_alias.ensures.misshapen

pub returns-in-SetWritten-clause-ok : goal.returns-in-SetWritten-clause-ok
returns-in-SetWritten-clause-ok c = rw c.in-SetWritten.is c.map_written-in-SetWritten.ensures.ok

pub returns-in-SetWritten-clause-misshapen : goal.returns-in-SetWritten-clause-misshapen
returns-in-SetWritten-clause-misshapen c = rw c.in-SetWritten.is c.map_written-in-SetWritten.ensures.misshapen

pub returns-in-SetByAlias-clause-ok : goal.returns-in-SetByAlias-clause-ok
returns-in-SetByAlias-clause-ok c = rw c.in-SetByAlias.is c.map_by_alias-in-SetByAlias.ensures.ok

pub returns-in-SetByAlias-clause-misshapen : goal.returns-in-SetByAlias-clause-misshapen
returns-in-SetByAlias-clause-misshapen c = rw c.in-SetByAlias.is c.map_by_alias-in-SetByAlias.ensures.misshapen

pub returns-in-NoElse-clause-ok : goal.returns-in-NoElse-clause-ok
returns-in-NoElse-clause-ok c = rw c.in-NoElse.is c.no_nodes.ensures.ok

pub returns-in-NoElse-clause-misshapen : goal.returns-in-NoElse-clause-misshapen
returns-in-NoElse-clause-misshapen c = rw c.in-NoElse.is c.no_nodes.ensures.misshapen

pub returns-in-WrittenElse-clause-ok : goal.returns-in-WrittenElse-clause-ok
returns-in-WrittenElse-clause-ok c = rw c.in-WrittenElse.is c.same_nodes.ensures.ok

pub returns-in-WrittenElse-clause-misshapen : goal.returns-in-WrittenElse-clause-misshapen
returns-in-WrittenElse-clause-misshapen c = rw c.in-WrittenElse.is c.same_nodes.ensures.misshapen
