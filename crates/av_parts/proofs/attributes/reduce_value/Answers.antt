use Rattle.av_parts.proofs.attributes.reduce_value.Goals as goal

pub returns-in-OneResult-clause-ok : goal.returns-in-OneResult-clause-ok
returns-in-OneResult-clause-ok c = rw c.in-OneResult.is c.no_text-in-OneResult.ensures.ok

pub returns-in-OneResult-clause-misshapen : goal.returns-in-OneResult-clause-misshapen
returns-in-OneResult-clause-misshapen c = rw c.in-OneResult.is c.no_text-in-OneResult.ensures.misshapen

pub returns-in-NoValues-clause-ok : goal.returns-in-NoValues-clause-ok
returns-in-NoValues-clause-ok c = rw c.in-NoValues.is c.no_texts.ensures.ok

pub returns-in-NoValues-clause-misshapen : goal.returns-in-NoValues-clause-misshapen
returns-in-NoValues-clause-misshapen c = rw c.in-NoValues.is c.no_texts.ensures.misshapen

pub returns-in-NoMoreValues-clause-ok : goal.returns-in-NoMoreValues-clause-ok
returns-in-NoMoreValues-clause-ok c = rw c.in-NoMoreValues.is c.no_texts-in-NoMoreValues.ensures.ok

pub returns-in-NoMoreValues-clause-misshapen : goal.returns-in-NoMoreValues-clause-misshapen
returns-in-NoMoreValues-clause-misshapen c = rw c.in-NoMoreValues.is c.no_texts-in-NoMoreValues.ensures.misshapen

pub returns-in-NoMoreResults-clause-ok : goal.returns-in-NoMoreResults-clause-ok
returns-in-NoMoreResults-clause-ok c = rw c.in-NoMoreResults.is c.no_texts-in-NoMoreResults.ensures.ok

pub returns-in-NoMoreResults-clause-misshapen : goal.returns-in-NoMoreResults-clause-misshapen
returns-in-NoMoreResults-clause-misshapen c = rw c.in-NoMoreResults.is c.no_texts-in-NoMoreResults.ensures.misshapen

pub returns-in-FirstValue-clause-ok : goal.returns-in-FirstValue-clause-ok
returns-in-FirstValue-clause-ok c = rw c.in-FirstValue.is c.text_before.ensures.ok

pub returns-in-FirstValue-clause-misshapen : goal.returns-in-FirstValue-clause-misshapen
returns-in-FirstValue-clause-misshapen c = rw c.in-FirstValue.is c.text_before.ensures.misshapen

pub returns-in-NextValue-clause-ok : goal.returns-in-NextValue-clause-ok
returns-in-NextValue-clause-ok c = rw c.in-NextValue.is c.text_before-in-NextValue.ensures.ok

pub returns-in-NextValue-clause-misshapen : goal.returns-in-NextValue-clause-misshapen
returns-in-NextValue-clause-misshapen c = rw c.in-NextValue.is c.text_before-in-NextValue.ensures.misshapen

pub returns-in-ResultNames-clause-ok : goal.returns-in-ResultNames-clause-ok
returns-in-ResultNames-clause-ok c = rw c.in-ResultNames.is c.result_before.ensures.ok

pub returns-in-ResultNames-clause-misshapen : goal.returns-in-ResultNames-clause-misshapen
returns-in-ResultNames-clause-misshapen c = rw c.in-ResultNames.is c.result_before.ensures.misshapen

pub returns-in-NoFurtherValue-clause-ok : goal.returns-in-NoFurtherValue-clause-ok
returns-in-NoFurtherValue-clause-ok c = rw c.in-NoFurtherValue.is c.no_texts-in-NoFurtherValue.ensures.ok

pub returns-in-NoFurtherValue-clause-misshapen : goal.returns-in-NoFurtherValue-clause-misshapen
returns-in-NoFurtherValue-clause-misshapen c = rw c.in-NoFurtherValue.is c.no_texts-in-NoFurtherValue.ensures.misshapen

pub returns-in-NoIntegers-clause-ok : goal.returns-in-NoIntegers-clause-ok
returns-in-NoIntegers-clause-ok c = rw c.in-NoIntegers.is c.no_numbers.ensures.ok

pub returns-in-NoIntegers-clause-misshapen : goal.returns-in-NoIntegers-clause-misshapen
returns-in-NoIntegers-clause-misshapen c = rw c.in-NoIntegers.is c.no_numbers.ensures.misshapen

pub returns-in-NoMoreIntegers-clause-ok : goal.returns-in-NoMoreIntegers-clause-ok
returns-in-NoMoreIntegers-clause-ok c = rw c.in-NoMoreIntegers.is c.no_numbers-in-NoMoreIntegers.ensures.ok

pub returns-in-NoMoreIntegers-clause-misshapen : goal.returns-in-NoMoreIntegers-clause-misshapen
returns-in-NoMoreIntegers-clause-misshapen c = rw c.in-NoMoreIntegers.is c.no_numbers-in-NoMoreIntegers.ensures.misshapen

pub returns-in-FirstInteger-clause-ok : goal.returns-in-FirstInteger-clause-ok
returns-in-FirstInteger-clause-ok c = rw c.in-FirstInteger.is c.number_before.ensures.ok

pub returns-in-FirstInteger-clause-misshapen : goal.returns-in-FirstInteger-clause-misshapen
returns-in-FirstInteger-clause-misshapen c = rw c.in-FirstInteger.is c.number_before.ensures.misshapen

pub returns-in-NextInteger-clause-ok : goal.returns-in-NextInteger-clause-ok
returns-in-NextInteger-clause-ok c = rw c.in-NextInteger.is c.number_before-in-NextInteger.ensures.ok

pub returns-in-NextInteger-clause-misshapen : goal.returns-in-NextInteger-clause-misshapen
returns-in-NextInteger-clause-misshapen c = rw c.in-NextInteger.is c.number_before-in-NextInteger.ensures.misshapen
