use Rattle.av_parts.proofs.expressions.reduce_subscript.Goals as goal

pub returns-in-NoSubscripts-clause-ok : goal.returns-in-NoSubscripts-clause-ok
returns-in-NoSubscripts-clause-ok c = rw c.in-NoSubscripts.is c.no_expressions.ensures.ok

pub returns-in-NoSubscripts-clause-misshapen : goal.returns-in-NoSubscripts-clause-misshapen
returns-in-NoSubscripts-clause-misshapen c = rw c.in-NoSubscripts.is c.no_expressions.ensures.misshapen

pub returns-in-FirstSubscript-clause-ok : goal.returns-in-FirstSubscript-clause-ok
returns-in-FirstSubscript-clause-ok c = rw c.in-FirstSubscript.is c.expression_before.ensures.ok

pub returns-in-FirstSubscript-clause-misshapen : goal.returns-in-FirstSubscript-clause-misshapen
returns-in-FirstSubscript-clause-misshapen c = rw c.in-FirstSubscript.is c.expression_before.ensures.misshapen

pub returns-in-NoMoreSubscripts-clause-ok : goal.returns-in-NoMoreSubscripts-clause-ok
returns-in-NoMoreSubscripts-clause-ok c = rw c.in-NoMoreSubscripts.is c.no_expressions-in-NoMoreSubscripts.ensures.ok

pub returns-in-NoMoreSubscripts-clause-misshapen : goal.returns-in-NoMoreSubscripts-clause-misshapen
returns-in-NoMoreSubscripts-clause-misshapen c = rw c.in-NoMoreSubscripts.is c.no_expressions-in-NoMoreSubscripts.ensures.misshapen

pub returns-in-NextSubscript-clause-ok : goal.returns-in-NextSubscript-clause-ok
returns-in-NextSubscript-clause-ok c = rw c.in-NextSubscript.is c.expression_before-in-NextSubscript.ensures.ok

pub returns-in-NextSubscript-clause-misshapen : goal.returns-in-NextSubscript-clause-misshapen
returns-in-NextSubscript-clause-misshapen c = rw c.in-NextSubscript.is c.expression_before-in-NextSubscript.ensures.misshapen

pub returns-in-WholeSubscript-clause-ok : goal.returns-in-WholeSubscript-clause-ok
returns-in-WholeSubscript-clause-ok c = rw c.in-WholeSubscript.is c.whole.ensures.ok

pub returns-in-WholeSubscript-clause-misshapen : goal.returns-in-WholeSubscript-clause-misshapen
returns-in-WholeSubscript-clause-misshapen c = rw c.in-WholeSubscript.is c.whole.ensures.misshapen

pub returns-in-NoMoreSubscriptTerms-clause-ok : goal.returns-in-NoMoreSubscriptTerms-clause-ok
returns-in-NoMoreSubscriptTerms-clause-ok c = rw c.in-NoMoreSubscriptTerms.is c.no_parts.ensures.ok

pub returns-in-NoMoreSubscriptTerms-clause-misshapen : goal.returns-in-NoMoreSubscriptTerms-clause-misshapen
returns-in-NoMoreSubscriptTerms-clause-misshapen c = rw c.in-NoMoreSubscriptTerms.is c.no_parts.ensures.misshapen

pub returns-in-PlusSubscriptTerm-clause-ok : goal.returns-in-PlusSubscriptTerm-clause-ok
returns-in-PlusSubscriptTerm-clause-ok c = rw c.in-PlusSubscriptTerm.is c.part_before.ensures.ok

pub returns-in-PlusSubscriptTerm-clause-misshapen : goal.returns-in-PlusSubscriptTerm-clause-misshapen
returns-in-PlusSubscriptTerm-clause-misshapen c = rw c.in-PlusSubscriptTerm.is c.part_before.ensures.misshapen

pub returns-in-MinusSubscriptTerm-clause-ok : goal.returns-in-MinusSubscriptTerm-clause-ok
returns-in-MinusSubscriptTerm-clause-ok c = rw c.in-MinusSubscriptTerm.is c.part_before-in-MinusSubscriptTerm.ensures.ok

pub returns-in-MinusSubscriptTerm-clause-misshapen : goal.returns-in-MinusSubscriptTerm-clause-misshapen
returns-in-MinusSubscriptTerm-clause-misshapen c = rw c.in-MinusSubscriptTerm.is c.part_before-in-MinusSubscriptTerm.ensures.misshapen

pub returns-in-WholeSubscriptTerm-clause-ok : goal.returns-in-WholeSubscriptTerm-clause-ok
returns-in-WholeSubscriptTerm-clause-ok c = rw c.in-WholeSubscriptTerm.is c.whole-in-WholeSubscriptTerm.ensures.ok

pub returns-in-WholeSubscriptTerm-clause-misshapen : goal.returns-in-WholeSubscriptTerm-clause-misshapen
returns-in-WholeSubscriptTerm-clause-misshapen c = rw c.in-WholeSubscriptTerm.is c.whole-in-WholeSubscriptTerm.ensures.misshapen

pub returns-in-NoMoreSubscriptFactors-clause-ok : goal.returns-in-NoMoreSubscriptFactors-clause-ok
returns-in-NoMoreSubscriptFactors-clause-ok c = rw c.in-NoMoreSubscriptFactors.is c.no_parts-in-NoMoreSubscriptFactors.ensures.ok

pub returns-in-NoMoreSubscriptFactors-clause-misshapen : goal.returns-in-NoMoreSubscriptFactors-clause-misshapen
returns-in-NoMoreSubscriptFactors-clause-misshapen c = rw c.in-NoMoreSubscriptFactors.is c.no_parts-in-NoMoreSubscriptFactors.ensures.misshapen

pub returns-in-TimesSubscriptFactor-clause-ok : goal.returns-in-TimesSubscriptFactor-clause-ok
returns-in-TimesSubscriptFactor-clause-ok c = rw c.in-TimesSubscriptFactor.is c.part_before-in-TimesSubscriptFactor.ensures.ok

pub returns-in-TimesSubscriptFactor-clause-misshapen : goal.returns-in-TimesSubscriptFactor-clause-misshapen
returns-in-TimesSubscriptFactor-clause-misshapen c = rw c.in-TimesSubscriptFactor.is c.part_before-in-TimesSubscriptFactor.ensures.misshapen

pub returns-in-DivisionSubscriptFactor-clause-ok : goal.returns-in-DivisionSubscriptFactor-clause-ok
returns-in-DivisionSubscriptFactor-clause-ok c = rw c.in-DivisionSubscriptFactor.is c.division_before.ensures.ok

pub returns-in-DivisionSubscriptFactor-clause-misshapen : goal.returns-in-DivisionSubscriptFactor-clause-misshapen
returns-in-DivisionSubscriptFactor-clause-misshapen c = rw c.in-DivisionSubscriptFactor.is c.division_before.ensures.misshapen

pub returns-in-NumberSubscriptFactor-clause-ok : goal.returns-in-NumberSubscriptFactor-clause-ok
returns-in-NumberSubscriptFactor-clause-ok c = rw c.in-NumberSubscriptFactor.is c.constant.ensures.ok

pub returns-in-NumberSubscriptFactor-clause-misshapen : goal.returns-in-NumberSubscriptFactor-clause-misshapen
returns-in-NumberSubscriptFactor-clause-misshapen c = rw c.in-NumberSubscriptFactor.is c.constant.ensures.misshapen

pub returns-in-PlainSubscriptFactor-clause-ok : goal.returns-in-PlainSubscriptFactor-clause-ok
returns-in-PlainSubscriptFactor-clause-ok c = rw c.in-PlainSubscriptFactor.is c.same_expression.ensures.ok

pub returns-in-PlainSubscriptFactor-clause-misshapen : goal.returns-in-PlainSubscriptFactor-clause-misshapen
returns-in-PlainSubscriptFactor-clause-misshapen c = rw c.in-PlainSubscriptFactor.is c.same_expression.ensures.misshapen

pub returns-in-MinusSubscriptFactor-clause-ok : goal.returns-in-MinusSubscriptFactor-clause-ok
returns-in-MinusSubscriptFactor-clause-ok c = rw c.in-MinusSubscriptFactor.is c.same_expression-in-MinusSubscriptFactor.ensures.ok

pub returns-in-MinusSubscriptFactor-clause-misshapen : goal.returns-in-MinusSubscriptFactor-clause-misshapen
returns-in-MinusSubscriptFactor-clause-misshapen c = rw c.in-MinusSubscriptFactor.is c.same_expression-in-MinusSubscriptFactor.ensures.misshapen

pub returns-in-NegativeSubscriptNumber-clause-ok : goal.returns-in-NegativeSubscriptNumber-clause-ok
returns-in-NegativeSubscriptNumber-clause-ok c = rw c.in-NegativeSubscriptNumber.is c.constant-in-NegativeSubscriptNumber.ensures.ok

pub returns-in-NegativeSubscriptNumber-clause-misshapen : goal.returns-in-NegativeSubscriptNumber-clause-misshapen
returns-in-NegativeSubscriptNumber-clause-misshapen c = rw c.in-NegativeSubscriptNumber.is c.constant-in-NegativeSubscriptNumber.ensures.misshapen

pub returns-in-NegatedSubscriptBase-clause-ok : goal.returns-in-NegatedSubscriptBase-clause-ok
returns-in-NegatedSubscriptBase-clause-ok c = rw c.in-NegatedSubscriptBase.is c.negated.ensures.ok

pub returns-in-NegatedSubscriptBase-clause-misshapen : goal.returns-in-NegatedSubscriptBase-clause-misshapen
returns-in-NegatedSubscriptBase-clause-misshapen c = rw c.in-NegatedSubscriptBase.is c.negated.ensures.misshapen

pub returns-in-DimensionValue-clause-ok : goal.returns-in-DimensionValue-clause-ok
returns-in-DimensionValue-clause-ok c = rw c.in-DimensionValue.is c.leaf.ensures.ok

pub returns-in-DimensionValue-clause-misshapen : goal.returns-in-DimensionValue-clause-misshapen
returns-in-DimensionValue-clause-misshapen c = rw c.in-DimensionValue.is c.leaf.ensures.misshapen

pub returns-in-SymbolValue-clause-ok : goal.returns-in-SymbolValue-clause-ok
returns-in-SymbolValue-clause-ok c = rw c.in-SymbolValue.is c.leaf-in-SymbolValue.ensures.ok

pub returns-in-SymbolValue-clause-misshapen : goal.returns-in-SymbolValue-clause-misshapen
returns-in-SymbolValue-clause-misshapen c = rw c.in-SymbolValue.is c.leaf-in-SymbolValue.ensures.misshapen

pub returns-in-SubscriptInBrackets-clause-ok : goal.returns-in-SubscriptInBrackets-clause-ok
returns-in-SubscriptInBrackets-clause-ok c = rw c.in-SubscriptInBrackets.is c.whole-in-SubscriptInBrackets.ensures.ok

pub returns-in-SubscriptInBrackets-clause-misshapen : goal.returns-in-SubscriptInBrackets-clause-misshapen
returns-in-SubscriptInBrackets-clause-misshapen c = rw c.in-SubscriptInBrackets.is c.whole-in-SubscriptInBrackets.ensures.misshapen
