use Rattle.av_parts.proofs.types.reduce_type.Goals as goal

pub returns-in-WrittenResultTypes-clause-ok : goal.returns-in-WrittenResultTypes-clause-ok
returns-in-WrittenResultTypes-clause-ok c = rw c.in-WrittenResultTypes.is c.same_types-in-WrittenResultTypes.ensures.ok

pub returns-in-WrittenResultTypes-clause-misshapen : goal.returns-in-WrittenResultTypes-clause-misshapen
returns-in-WrittenResultTypes-clause-misshapen c = rw c.in-WrittenResultTypes.is c.same_types-in-WrittenResultTypes.ensures.misshapen

pub returns-in-NoTypes-clause-ok : goal.returns-in-NoTypes-clause-ok
returns-in-NoTypes-clause-ok c = rw c.in-NoTypes.is c.no_types.ensures.ok

pub returns-in-NoTypes-clause-misshapen : goal.returns-in-NoTypes-clause-misshapen
returns-in-NoTypes-clause-misshapen c = rw c.in-NoTypes.is c.no_types.ensures.misshapen

pub returns-in-NoMoreTypes-clause-ok : goal.returns-in-NoMoreTypes-clause-ok
returns-in-NoMoreTypes-clause-ok c = rw c.in-NoMoreTypes.is c.no_types-in-NoMoreTypes.ensures.ok

pub returns-in-NoMoreTypes-clause-misshapen : goal.returns-in-NoMoreTypes-clause-misshapen
returns-in-NoMoreTypes-clause-misshapen c = rw c.in-NoMoreTypes.is c.no_types-in-NoMoreTypes.ensures.misshapen

pub returns-in-NoResultTypes-clause-ok : goal.returns-in-NoResultTypes-clause-ok
returns-in-NoResultTypes-clause-ok c = rw c.in-NoResultTypes.is c.no_types-in-NoResultTypes.ensures.ok

pub returns-in-NoResultTypes-clause-misshapen : goal.returns-in-NoResultTypes-clause-misshapen
returns-in-NoResultTypes-clause-misshapen c = rw c.in-NoResultTypes.is c.no_types-in-NoResultTypes.ensures.misshapen

pub returns-in-FirstType-clause-ok : goal.returns-in-FirstType-clause-ok
returns-in-FirstType-clause-ok c = rw c.in-FirstType.is c.type_before.ensures.ok

pub returns-in-FirstType-clause-misshapen : goal.returns-in-FirstType-clause-misshapen
returns-in-FirstType-clause-misshapen c = rw c.in-FirstType.is c.type_before.ensures.misshapen

pub returns-in-TileType-clause-ok : goal.returns-in-TileType-clause-ok
returns-in-TileType-clause-ok c = rw c.in-TileType.is c.same_type-in-TileType.ensures.ok

pub returns-in-TileType-clause-misshapen : goal.returns-in-TileType-clause-misshapen
returns-in-TileType-clause-misshapen c = rw c.in-TileType.is c.same_type-in-TileType.ensures.misshapen

pub returns-in-NoStrides-clause-ok : goal.returns-in-NoStrides-clause-ok
returns-in-NoStrides-clause-ok c = rw c.in-NoStrides.is c.no_sizes-in-NoStrides.ensures.ok

pub returns-in-NoStrides-clause-misshapen : goal.returns-in-NoStrides-clause-misshapen
returns-in-NoStrides-clause-misshapen c = rw c.in-NoStrides.is c.no_sizes-in-NoStrides.ensures.misshapen

pub returns-in-NoMoreStrides-clause-ok : goal.returns-in-NoMoreStrides-clause-ok
returns-in-NoMoreStrides-clause-ok c = rw c.in-NoMoreStrides.is c.no_sizes-in-NoMoreStrides.ensures.ok

pub returns-in-NoMoreStrides-clause-misshapen : goal.returns-in-NoMoreStrides-clause-misshapen
returns-in-NoMoreStrides-clause-misshapen c = rw c.in-NoMoreStrides.is c.no_sizes-in-NoMoreStrides.ensures.misshapen

pub returns-in-NextStride-clause-ok : goal.returns-in-NextStride-clause-ok
returns-in-NextStride-clause-ok c = rw c.in-NextStride.is c.stride_before-in-NextStride.ensures.ok

pub returns-in-NextStride-clause-misshapen : goal.returns-in-NextStride-clause-misshapen
returns-in-NextStride-clause-misshapen c = rw c.in-NextStride.is c.stride_before-in-NextStride.ensures.misshapen
