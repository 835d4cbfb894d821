use Rattle.av_parts.proofs.expressions.reduce_map.Goals as goal

pub returns-in-NoSymbolNames-clause-ok : goal.returns-in-NoSymbolNames-clause-ok
returns-in-NoSymbolNames-clause-ok c = rw c.in-NoSymbolNames.is c.no_texts.ensures.ok

pub returns-in-NoSymbolNames-clause-misshapen : goal.returns-in-NoSymbolNames-clause-misshapen
returns-in-NoSymbolNames-clause-misshapen c = rw c.in-NoSymbolNames.is c.no_texts.ensures.misshapen

pub returns-in-WrittenSymbolNames-clause-ok : goal.returns-in-WrittenSymbolNames-clause-ok
returns-in-WrittenSymbolNames-clause-ok c = rw c.in-WrittenSymbolNames.is c.same_texts.ensures.ok

pub returns-in-WrittenSymbolNames-clause-misshapen : goal.returns-in-WrittenSymbolNames-clause-misshapen
returns-in-WrittenSymbolNames-clause-misshapen c = rw c.in-WrittenSymbolNames.is c.same_texts.ensures.misshapen

pub returns-in-NoWords-clause-ok : goal.returns-in-NoWords-clause-ok
returns-in-NoWords-clause-ok c = rw c.in-NoWords.is c.no_texts-in-NoWords.ensures.ok

pub returns-in-NoWords-clause-misshapen : goal.returns-in-NoWords-clause-misshapen
returns-in-NoWords-clause-misshapen c = rw c.in-NoWords.is c.no_texts-in-NoWords.ensures.misshapen

pub returns-in-FirstWord-clause-ok : goal.returns-in-FirstWord-clause-ok
returns-in-FirstWord-clause-ok c = rw c.in-FirstWord.is c.text_before.ensures.ok

pub returns-in-FirstWord-clause-misshapen : goal.returns-in-FirstWord-clause-misshapen
returns-in-FirstWord-clause-misshapen c = rw c.in-FirstWord.is c.text_before.ensures.misshapen

pub returns-in-NoMoreWords-clause-ok : goal.returns-in-NoMoreWords-clause-ok
returns-in-NoMoreWords-clause-ok c = rw c.in-NoMoreWords.is c.no_texts-in-NoMoreWords.ensures.ok

pub returns-in-NoMoreWords-clause-misshapen : goal.returns-in-NoMoreWords-clause-misshapen
returns-in-NoMoreWords-clause-misshapen c = rw c.in-NoMoreWords.is c.no_texts-in-NoMoreWords.ensures.misshapen

pub returns-in-NextWord-clause-ok : goal.returns-in-NextWord-clause-ok
returns-in-NextWord-clause-ok c = rw c.in-NextWord.is c.text_before-in-NextWord.ensures.ok

pub returns-in-NextWord-clause-misshapen : goal.returns-in-NextWord-clause-misshapen
returns-in-NextWord-clause-misshapen c = rw c.in-NextWord.is c.text_before-in-NextWord.ensures.misshapen

pub returns-in-FirstExpression-clause-ok : goal.returns-in-FirstExpression-clause-ok
returns-in-FirstExpression-clause-ok c = rw c.in-FirstExpression.is c.expression_before.ensures.ok

pub returns-in-FirstExpression-clause-misshapen : goal.returns-in-FirstExpression-clause-misshapen
returns-in-FirstExpression-clause-misshapen c = rw c.in-FirstExpression.is c.expression_before.ensures.misshapen

pub returns-in-NoMoreExpressions-clause-ok : goal.returns-in-NoMoreExpressions-clause-ok
returns-in-NoMoreExpressions-clause-ok c = rw c.in-NoMoreExpressions.is c.no_expressions-in-NoMoreExpressions.ensures.ok

pub returns-in-NoMoreExpressions-clause-misshapen : goal.returns-in-NoMoreExpressions-clause-misshapen
returns-in-NoMoreExpressions-clause-misshapen c = rw c.in-NoMoreExpressions.is c.no_expressions-in-NoMoreExpressions.ensures.misshapen

pub returns-in-WholeExpression-clause-ok : goal.returns-in-WholeExpression-clause-ok
returns-in-WholeExpression-clause-ok c = rw c.in-WholeExpression.is c.whole.ensures.ok

pub returns-in-WholeExpression-clause-misshapen : goal.returns-in-WholeExpression-clause-misshapen
returns-in-WholeExpression-clause-misshapen c = rw c.in-WholeExpression.is c.whole.ensures.misshapen

pub returns-in-PlusTerm-clause-ok : goal.returns-in-PlusTerm-clause-ok
returns-in-PlusTerm-clause-ok c = rw c.in-PlusTerm.is c.part_before.ensures.ok

pub returns-in-PlusTerm-clause-misshapen : goal.returns-in-PlusTerm-clause-misshapen
returns-in-PlusTerm-clause-misshapen c = rw c.in-PlusTerm.is c.part_before.ensures.misshapen

pub returns-in-MinusTerm-clause-ok : goal.returns-in-MinusTerm-clause-ok
returns-in-MinusTerm-clause-ok c = rw c.in-MinusTerm.is c.part_before-in-MinusTerm.ensures.ok

pub returns-in-MinusTerm-clause-misshapen : goal.returns-in-MinusTerm-clause-misshapen
returns-in-MinusTerm-clause-misshapen c = rw c.in-MinusTerm.is c.part_before-in-MinusTerm.ensures.misshapen

pub returns-in-NoMoreFactors-clause-ok : goal.returns-in-NoMoreFactors-clause-ok
returns-in-NoMoreFactors-clause-ok c = rw c.in-NoMoreFactors.is c.no_parts-in-NoMoreFactors.ensures.ok

pub returns-in-NoMoreFactors-clause-misshapen : goal.returns-in-NoMoreFactors-clause-misshapen
returns-in-NoMoreFactors-clause-misshapen c = rw c.in-NoMoreFactors.is c.no_parts-in-NoMoreFactors.ensures.misshapen

pub returns-in-TimesFactor-clause-ok : goal.returns-in-TimesFactor-clause-ok
returns-in-TimesFactor-clause-ok c = rw c.in-TimesFactor.is c.part_before-in-TimesFactor.ensures.ok

pub returns-in-TimesFactor-clause-misshapen : goal.returns-in-TimesFactor-clause-misshapen
returns-in-TimesFactor-clause-misshapen c = rw c.in-TimesFactor.is c.part_before-in-TimesFactor.ensures.misshapen

pub returns-in-NumberFactor-clause-ok : goal.returns-in-NumberFactor-clause-ok
returns-in-NumberFactor-clause-ok c = rw c.in-NumberFactor.is c.constant.ensures.ok

pub returns-in-NumberFactor-clause-misshapen : goal.returns-in-NumberFactor-clause-misshapen
returns-in-NumberFactor-clause-misshapen c = rw c.in-NumberFactor.is c.constant.ensures.misshapen

pub returns-in-MinusFactor-clause-ok : goal.returns-in-MinusFactor-clause-ok
returns-in-MinusFactor-clause-ok c = rw c.in-MinusFactor.is c.same_expression-in-MinusFactor.ensures.ok

pub returns-in-MinusFactor-clause-misshapen : goal.returns-in-MinusFactor-clause-misshapen
returns-in-MinusFactor-clause-misshapen c = rw c.in-MinusFactor.is c.same_expression-in-MinusFactor.ensures.misshapen

pub returns-in-NegativeNumber-clause-ok : goal.returns-in-NegativeNumber-clause-ok
returns-in-NegativeNumber-clause-ok c = rw c.in-NegativeNumber.is c.constant-in-NegativeNumber.ensures.ok

pub returns-in-NegativeNumber-clause-misshapen : goal.returns-in-NegativeNumber-clause-misshapen
returns-in-NegativeNumber-clause-misshapen c = rw c.in-NegativeNumber.is c.constant-in-NegativeNumber.ensures.misshapen

pub returns-in-DivisionName-clause-ok : goal.returns-in-DivisionName-clause-ok
returns-in-DivisionName-clause-ok c = rw c.in-DivisionName.is c.parameter-in-DivisionName.ensures.ok

pub returns-in-DivisionName-clause-misshapen : goal.returns-in-DivisionName-clause-misshapen
returns-in-DivisionName-clause-misshapen c = rw c.in-DivisionName.is c.parameter-in-DivisionName.ensures.misshapen

pub returns-in-InBrackets-clause-ok : goal.returns-in-InBrackets-clause-ok
returns-in-InBrackets-clause-ok c = rw c.in-InBrackets.is c.whole-in-InBrackets.ensures.ok

pub returns-in-InBrackets-clause-misshapen : goal.returns-in-InBrackets-clause-misshapen
returns-in-InBrackets-clause-misshapen c = rw c.in-InBrackets.is c.whole-in-InBrackets.ensures.misshapen

pub returns-in-NoMoreSetRows-clause-ok : goal.returns-in-NoMoreSetRows-clause-ok
returns-in-NoMoreSetRows-clause-ok c = rw c.in-NoMoreSetRows.is c.no_rows-in-NoMoreSetRows.ensures.ok

pub returns-in-NoMoreSetRows-clause-misshapen : goal.returns-in-NoMoreSetRows-clause-misshapen
returns-in-NoMoreSetRows-clause-misshapen c = rw c.in-NoMoreSetRows.is c.no_rows-in-NoMoreSetRows.ensures.misshapen

pub returns-in-NextSetRow-clause-ok : goal.returns-in-NextSetRow-clause-ok
returns-in-NextSetRow-clause-ok c = rw c.in-NextSetRow.is c.row_before-in-NextSetRow.ensures.ok

pub returns-in-NextSetRow-clause-misshapen : goal.returns-in-NextSetRow-clause-misshapen
returns-in-NextSetRow-clause-misshapen c = rw c.in-NextSetRow.is c.row_before-in-NextSetRow.ensures.misshapen
