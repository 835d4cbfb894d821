use Rattle.av_blocks.proofs.files.reduce_file.Goals as goal

pub returns-in-WholeFile-clause-ok : goal.returns-in-WholeFile-clause-ok
returns-in-WholeFile-clause-ok c = rw c.in-WholeFile.is c.whole_file.ensures.ok

pub returns-in-WholeFile-clause-misshapen : goal.returns-in-WholeFile-clause-misshapen
returns-in-WholeFile-clause-misshapen c = rw c.in-WholeFile.is c.whole_file.ensures.misshapen

pub returns-in-NoMoreAliases-clause-ok : goal.returns-in-NoMoreAliases-clause-ok
returns-in-NoMoreAliases-clause-ok c = rw c.in-NoMoreAliases.is c.no_aliases.ensures.ok

pub returns-in-NoMoreAliases-clause-misshapen : goal.returns-in-NoMoreAliases-clause-misshapen
returns-in-NoMoreAliases-clause-misshapen c = rw c.in-NoMoreAliases.is c.no_aliases.ensures.misshapen

pub returns-in-NoContent-clause-ok : goal.returns-in-NoContent-clause-ok
returns-in-NoContent-clause-ok c = rw c.in-NoContent.is c.no_nodes.ensures.ok

pub returns-in-NoContent-clause-misshapen : goal.returns-in-NoContent-clause-misshapen
returns-in-NoContent-clause-misshapen c = rw c.in-NoContent.is c.no_nodes.ensures.misshapen

pub returns-in-NoMoreFunctions-clause-ok : goal.returns-in-NoMoreFunctions-clause-ok
returns-in-NoMoreFunctions-clause-ok c = rw c.in-NoMoreFunctions.is c.no_nodes-in-NoMoreFunctions.ensures.ok

pub returns-in-NoMoreFunctions-clause-misshapen : goal.returns-in-NoMoreFunctions-clause-misshapen
returns-in-NoMoreFunctions-clause-misshapen c = rw c.in-NoMoreFunctions.is c.no_nodes-in-NoMoreFunctions.ensures.misshapen

pub returns-in-NamedContent-clause-ok : goal.returns-in-NamedContent-clause-ok
returns-in-NamedContent-clause-ok c = rw c.in-NamedContent.is c.with_results.ensures.ok

pub returns-in-NamedContent-clause-misshapen : goal.returns-in-NamedContent-clause-misshapen
returns-in-NamedContent-clause-misshapen c = rw c.in-NamedContent.is c.with_results.ensures.misshapen

pub returns-in-PlainContent-clause-ok : goal.returns-in-PlainContent-clause-ok
returns-in-PlainContent-clause-ok c = rw c.in-PlainContent.is c.plain_content.ensures.ok

pub returns-in-PlainContent-clause-misshapen : goal.returns-in-PlainContent-clause-misshapen
returns-in-PlainContent-clause-misshapen c = rw c.in-PlainContent.is c.plain_content.ensures.misshapen

pub returns-in-WrittenFunction-clause-ok : goal.returns-in-WrittenFunction-clause-ok
returns-in-WrittenFunction-clause-ok c = rw c.in-WrittenFunction.is c.same_node.ensures.ok

pub returns-in-WrittenFunction-clause-misshapen : goal.returns-in-WrittenFunction-clause-misshapen
returns-in-WrittenFunction-clause-misshapen c = rw c.in-WrittenFunction.is c.same_node.ensures.misshapen

pub returns-in-OnlyModule-clause-ok : goal.returns-in-OnlyModule-clause-ok
returns-in-OnlyModule-clause-ok c = rw c.in-OnlyModule.is c.only_module.ensures.ok

pub returns-in-OnlyModule-clause-misshapen : goal.returns-in-OnlyModule-clause-misshapen
returns-in-OnlyModule-clause-misshapen c = rw c.in-OnlyModule.is c.only_module.ensures.misshapen

pub returns-in-FirstFunction-clause-ok : goal.returns-in-FirstFunction-clause-ok
returns-in-FirstFunction-clause-ok c = rw c.in-FirstFunction.is c.onward.ensures.ok

pub returns-in-FirstFunction-clause-misshapen : goal.returns-in-FirstFunction-clause-misshapen
returns-in-FirstFunction-clause-misshapen c = rw c.in-FirstFunction.is c.onward.ensures.misshapen

pub returns-in-NextFunction-clause-ok : goal.returns-in-NextFunction-clause-ok
returns-in-NextFunction-clause-ok c = rw c.in-NextFunction.is c.node_before.ensures.ok

pub returns-in-NextFunction-clause-misshapen : goal.returns-in-NextFunction-clause-misshapen
returns-in-NextFunction-clause-misshapen c = rw c.in-NextFunction.is c.node_before.ensures.misshapen

pub returns-in-NextAlias-clause-ok : goal.returns-in-NextAlias-clause-ok
returns-in-NextAlias-clause-ok c = rw c.in-NextAlias.is c.alias_before.ensures.ok

pub returns-in-NextAlias-clause-misshapen : goal.returns-in-NextAlias-clause-misshapen
returns-in-NextAlias-clause-misshapen c = rw c.in-NextAlias.is c.alias_before.ensures.misshapen

pub returns-in-AliasOfMap-clause-ok : goal.returns-in-AliasOfMap-clause-ok
returns-in-AliasOfMap-clause-ok c = rw c.in-AliasOfMap.is c.same_attr.ensures.ok

pub returns-in-AliasOfMap-clause-misshapen : goal.returns-in-AliasOfMap-clause-misshapen
returns-in-AliasOfMap-clause-misshapen c = rw c.in-AliasOfMap.is c.same_attr.ensures.misshapen

pub returns-in-AliasOfSet-clause-ok : goal.returns-in-AliasOfSet-clause-ok
returns-in-AliasOfSet-clause-ok c = rw c.in-AliasOfSet.is c.same_attr-in-AliasOfSet.ensures.ok

pub returns-in-AliasOfSet-clause-misshapen : goal.returns-in-AliasOfSet-clause-misshapen
returns-in-AliasOfSet-clause-misshapen c = rw c.in-AliasOfSet.is c.same_attr-in-AliasOfSet.ensures.misshapen

pub returns-in-GenericFunction-clause-ok : goal.returns-in-GenericFunction-clause-ok
returns-in-GenericFunction-clause-ok c = rw c.in-GenericFunction.is c.generic_form.ensures.ok

pub returns-in-GenericFunction-clause-misshapen : goal.returns-in-GenericFunction-clause-misshapen
returns-in-GenericFunction-clause-misshapen c = rw c.in-GenericFunction.is c.generic_form.ensures.misshapen
