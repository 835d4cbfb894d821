use Rattle.av_blocks.proofs.files.reduce_function.Goals as goal

pub returns-in-NoSymbol-clause-ok : goal.returns-in-NoSymbol-clause-ok
returns-in-NoSymbol-clause-ok c = rw c.in-NoSymbol.is c.no_entries.ensures.ok

pub returns-in-NoSymbol-clause-misshapen : goal.returns-in-NoSymbol-clause-misshapen
returns-in-NoSymbol-clause-misshapen c = rw c.in-NoSymbol.is c.no_entries.ensures.misshapen

pub returns-in-NoVisibility-clause-ok : goal.returns-in-NoVisibility-clause-ok
returns-in-NoVisibility-clause-ok c = rw c.in-NoVisibility.is c.no_entries-in-NoVisibility.ensures.ok

pub returns-in-NoVisibility-clause-misshapen : goal.returns-in-NoVisibility-clause-misshapen
returns-in-NoVisibility-clause-misshapen c = rw c.in-NoVisibility.is c.no_entries-in-NoVisibility.ensures.misshapen

pub returns-in-WrittenSymbol-clause-ok : goal.returns-in-WrittenSymbol-clause-ok
returns-in-WrittenSymbol-clause-ok c = rw c.in-WrittenSymbol.is c.written_symbol.ensures.ok

pub returns-in-WrittenSymbol-clause-misshapen : goal.returns-in-WrittenSymbol-clause-misshapen
returns-in-WrittenSymbol-clause-misshapen c = rw c.in-WrittenSymbol.is c.written_symbol.ensures.misshapen

pub returns-in-WrittenVisibility-clause-ok : goal.returns-in-WrittenVisibility-clause-ok
returns-in-WrittenVisibility-clause-ok c = rw c.in-WrittenVisibility.is c.written_visibility.ensures.ok

pub returns-in-WrittenVisibility-clause-misshapen : goal.returns-in-WrittenVisibility-clause-misshapen
returns-in-WrittenVisibility-clause-misshapen c = rw c.in-WrittenVisibility.is c.written_visibility.ensures.misshapen

pub returns-in-NoFunctionArguments-clause-ok : goal.returns-in-NoFunctionArguments-clause-ok
returns-in-NoFunctionArguments-clause-ok c = rw c.in-NoFunctionArguments.is c.no_arguments.ensures.ok

pub returns-in-NoFunctionArguments-clause-misshapen : goal.returns-in-NoFunctionArguments-clause-misshapen
returns-in-NoFunctionArguments-clause-misshapen c = rw c.in-NoFunctionArguments.is c.no_arguments.ensures.misshapen

pub returns-in-NoMoreFunctionArguments-clause-ok : goal.returns-in-NoMoreFunctionArguments-clause-ok
returns-in-NoMoreFunctionArguments-clause-ok c = rw c.in-NoMoreFunctionArguments.is c.no_arguments-in-NoMoreFunctionArguments.ensures.ok

pub returns-in-NoMoreFunctionArguments-clause-misshapen : goal.returns-in-NoMoreFunctionArguments-clause-misshapen
returns-in-NoMoreFunctionArguments-clause-misshapen c = rw c.in-NoMoreFunctionArguments.is c.no_arguments-in-NoMoreFunctionArguments.ensures.misshapen

pub returns-in-FirstFunctionArgument-clause-ok : goal.returns-in-FirstFunctionArgument-clause-ok
returns-in-FirstFunctionArgument-clause-ok c = rw c.in-FirstFunctionArgument.is c.argument_before.ensures.ok

pub returns-in-FirstFunctionArgument-clause-misshapen : goal.returns-in-FirstFunctionArgument-clause-misshapen
returns-in-FirstFunctionArgument-clause-misshapen c = rw c.in-FirstFunctionArgument.is c.argument_before.ensures.misshapen

pub returns-in-NextFunctionArgument-clause-ok : goal.returns-in-NextFunctionArgument-clause-ok
returns-in-NextFunctionArgument-clause-ok c = rw c.in-NextFunctionArgument.is c.argument_before-in-NextFunctionArgument.ensures.ok

pub returns-in-NextFunctionArgument-clause-misshapen : goal.returns-in-NextFunctionArgument-clause-misshapen
returns-in-NextFunctionArgument-clause-misshapen c = rw c.in-NextFunctionArgument.is c.argument_before-in-NextFunctionArgument.ensures.misshapen

pub returns-in-ArgumentOfFunction-clause-ok : goal.returns-in-ArgumentOfFunction-clause-ok
returns-in-ArgumentOfFunction-clause-ok c = rw c.in-ArgumentOfFunction.is c.argument.ensures.ok

pub returns-in-ArgumentOfFunction-clause-misshapen : goal.returns-in-ArgumentOfFunction-clause-misshapen
returns-in-ArgumentOfFunction-clause-misshapen c = rw c.in-ArgumentOfFunction.is c.argument.ensures.misshapen

pub returns-in-ModuleForm-clause-ok : goal.returns-in-ModuleForm-clause-ok
returns-in-ModuleForm-clause-ok c = rw c.in-ModuleForm.is c.same_node.ensures.ok

pub returns-in-ModuleForm-clause-misshapen : goal.returns-in-ModuleForm-clause-misshapen
returns-in-ModuleForm-clause-misshapen c = rw c.in-ModuleForm.is c.same_node.ensures.misshapen

pub returns-in-FunctionForm-clause-ok : goal.returns-in-FunctionForm-clause-ok
returns-in-FunctionForm-clause-ok c = rw c.in-FunctionForm.is c.same_node-in-FunctionForm.ensures.ok

pub returns-in-FunctionForm-clause-misshapen : goal.returns-in-FunctionForm-clause-misshapen
returns-in-FunctionForm-clause-misshapen c = rw c.in-FunctionForm.is c.same_node-in-FunctionForm.ensures.misshapen
