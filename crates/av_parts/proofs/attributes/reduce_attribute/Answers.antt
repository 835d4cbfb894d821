use Rattle.av_parts.proofs.attributes.reduce_attribute.Goals as goal

pub returns-in-WrittenNumberType-clause-ok : goal.returns-in-WrittenNumberType-clause-ok
returns-in-WrittenNumberType-clause-ok c = rw c.in-WrittenNumberType.is c.same_type.ensures.ok

pub returns-in-WrittenNumberType-clause-misshapen : goal.returns-in-WrittenNumberType-clause-misshapen
returns-in-WrittenNumberType-clause-misshapen c = rw c.in-WrittenNumberType.is c.same_type.ensures.misshapen

pub returns-in-NoEntries-clause-ok : goal.returns-in-NoEntries-clause-ok
returns-in-NoEntries-clause-ok c = rw c.in-NoEntries.is c.no_entries.ensures.ok

pub returns-in-NoEntries-clause-misshapen : goal.returns-in-NoEntries-clause-misshapen
returns-in-NoEntries-clause-misshapen c = rw c.in-NoEntries.is c.no_entries.ensures.misshapen

pub returns-in-NoMoreEntries-clause-ok : goal.returns-in-NoMoreEntries-clause-ok
returns-in-NoMoreEntries-clause-ok c = rw c.in-NoMoreEntries.is c.no_entries-in-NoMoreEntries.ensures.ok

pub returns-in-NoMoreEntries-clause-misshapen : goal.returns-in-NoMoreEntries-clause-misshapen
returns-in-NoMoreEntries-clause-misshapen c = rw c.in-NoMoreEntries.is c.no_entries-in-NoMoreEntries.ensures.misshapen

pub returns-in-NoDictionary-clause-ok : goal.returns-in-NoDictionary-clause-ok
returns-in-NoDictionary-clause-ok c = rw c.in-NoDictionary.is c.no_entries-in-NoDictionary.ensures.ok

pub returns-in-NoDictionary-clause-misshapen : goal.returns-in-NoDictionary-clause-misshapen
returns-in-NoDictionary-clause-misshapen c = rw c.in-NoDictionary.is c.no_entries-in-NoDictionary.ensures.misshapen

pub returns-in-NoAttributesPart-clause-ok : goal.returns-in-NoAttributesPart-clause-ok
returns-in-NoAttributesPart-clause-ok c = rw c.in-NoAttributesPart.is c.no_entries-in-NoAttributesPart.ensures.ok

pub returns-in-NoAttributesPart-clause-misshapen : goal.returns-in-NoAttributesPart-clause-misshapen
returns-in-NoAttributesPart-clause-misshapen c = rw c.in-NoAttributesPart.is c.no_entries-in-NoAttributesPart.ensures.misshapen

pub returns-in-FirstEntry-clause-ok : goal.returns-in-FirstEntry-clause-ok
returns-in-FirstEntry-clause-ok c = rw c.in-FirstEntry.is c.entry_before.ensures.ok

pub returns-in-FirstEntry-clause-misshapen : goal.returns-in-FirstEntry-clause-misshapen
returns-in-FirstEntry-clause-misshapen c = rw c.in-FirstEntry.is c.entry_before.ensures.misshapen

pub returns-in-WrittenDictionary-clause-ok : goal.returns-in-WrittenDictionary-clause-ok
returns-in-WrittenDictionary-clause-ok c = rw c.in-WrittenDictionary.is c.same_entries.ensures.ok

pub returns-in-WrittenDictionary-clause-misshapen : goal.returns-in-WrittenDictionary-clause-misshapen
returns-in-WrittenDictionary-clause-misshapen c = rw c.in-WrittenDictionary.is c.same_entries.ensures.misshapen

pub returns-in-DictionaryHere-clause-ok : goal.returns-in-DictionaryHere-clause-ok
returns-in-DictionaryHere-clause-ok c = rw c.in-DictionaryHere.is c.same_entries-in-DictionaryHere.ensures.ok

pub returns-in-DictionaryHere-clause-misshapen : goal.returns-in-DictionaryHere-clause-misshapen
returns-in-DictionaryHere-clause-misshapen c = rw c.in-DictionaryHere.is c.same_entries-in-DictionaryHere.ensures.misshapen

pub returns-in-AttributesPart-clause-ok : goal.returns-in-AttributesPart-clause-ok
returns-in-AttributesPart-clause-ok c = rw c.in-AttributesPart.is c.same_entries-in-AttributesPart.ensures.ok

pub returns-in-AttributesPart-clause-misshapen : goal.returns-in-AttributesPart-clause-misshapen
returns-in-AttributesPart-clause-misshapen c = rw c.in-AttributesPart.is c.same_entries-in-AttributesPart.ensures.misshapen

pub returns-in-MapAttribute-clause-ok : goal.returns-in-MapAttribute-clause-ok
returns-in-MapAttribute-clause-ok c = rw c.in-MapAttribute.is c.same_attribute-in-MapAttribute.ensures.ok

pub returns-in-MapAttribute-clause-misshapen : goal.returns-in-MapAttribute-clause-misshapen
returns-in-MapAttribute-clause-misshapen c = rw c.in-MapAttribute.is c.same_attribute-in-MapAttribute.ensures.misshapen

pub returns-in-SetAttribute-clause-ok : goal.returns-in-SetAttribute-clause-ok
returns-in-SetAttribute-clause-ok c = rw c.in-SetAttribute.is c.same_attribute-in-SetAttribute.ensures.ok

pub returns-in-SetAttribute-clause-misshapen : goal.returns-in-SetAttribute-clause-misshapen
returns-in-SetAttribute-clause-misshapen c = rw c.in-SetAttribute.is c.same_attribute-in-SetAttribute.ensures.misshapen

pub returns-in-NoMoreAttributes-clause-ok : goal.returns-in-NoMoreAttributes-clause-ok
returns-in-NoMoreAttributes-clause-ok c = rw c.in-NoMoreAttributes.is c.no_attrs-in-NoMoreAttributes.ensures.ok

pub returns-in-NoMoreAttributes-clause-misshapen : goal.returns-in-NoMoreAttributes-clause-misshapen
returns-in-NoMoreAttributes-clause-misshapen c = rw c.in-NoMoreAttributes.is c.no_attrs-in-NoMoreAttributes.ensures.misshapen

pub returns-in-NextAttribute-clause-ok : goal.returns-in-NextAttribute-clause-ok
returns-in-NextAttribute-clause-ok c = rw c.in-NextAttribute.is c.attr_before-in-NextAttribute.ensures.ok

pub returns-in-NextAttribute-clause-misshapen : goal.returns-in-NextAttribute-clause-misshapen
returns-in-NextAttribute-clause-misshapen c = rw c.in-NextAttribute.is c.attr_before-in-NextAttribute.ensures.misshapen

pub returns-in-NoMoreElements-clause-ok : goal.returns-in-NoMoreElements-clause-ok
returns-in-NoMoreElements-clause-ok c = rw c.in-NoMoreElements.is c.no_elements-in-NoMoreElements.ensures.ok

pub returns-in-NoMoreElements-clause-misshapen : goal.returns-in-NoMoreElements-clause-misshapen
returns-in-NoMoreElements-clause-misshapen c = rw c.in-NoMoreElements.is c.no_elements-in-NoMoreElements.ensures.misshapen

pub returns-in-NextElement-clause-ok : goal.returns-in-NextElement-clause-ok
returns-in-NextElement-clause-ok c = rw c.in-NextElement.is c.element_before-in-NextElement.ensures.ok

pub returns-in-NextElement-clause-misshapen : goal.returns-in-NextElement-clause-misshapen
returns-in-NextElement-clause-misshapen c = rw c.in-NextElement.is c.element_before-in-NextElement.ensures.misshapen

pub returns-in-UnitFunctionType-clause-ok : goal.returns-in-UnitFunctionType-clause-ok
returns-in-UnitFunctionType-clause-ok c = rw c.in-UnitFunctionType.is c.unit_entry-in-UnitFunctionType.ensures.ok

pub returns-in-UnitFunctionType-clause-misshapen : goal.returns-in-UnitFunctionType-clause-misshapen
returns-in-UnitFunctionType-clause-misshapen c = rw c.in-UnitFunctionType.is c.unit_entry-in-UnitFunctionType.ensures.misshapen

pub returns-in-WrittenFunctionType-clause-ok : goal.returns-in-WrittenFunctionType-clause-ok
returns-in-WrittenFunctionType-clause-ok c = rw c.in-WrittenFunctionType.is c.same_attribute-in-WrittenFunctionType.ensures.ok

pub returns-in-WrittenFunctionType-clause-misshapen : goal.returns-in-WrittenFunctionType-clause-misshapen
returns-in-WrittenFunctionType-clause-misshapen c = rw c.in-WrittenFunctionType.is c.same_attribute-in-WrittenFunctionType.ensures.misshapen

pub returns-in-NoFunctionType-clause-ok : goal.returns-in-NoFunctionType-clause-ok
returns-in-NoFunctionType-clause-ok c = rw c.in-NoFunctionType.is c.same_attribute-in-NoFunctionType.ensures.ok

pub returns-in-NoFunctionType-clause-misshapen : goal.returns-in-NoFunctionType-clause-misshapen
returns-in-NoFunctionType-clause-misshapen c = rw c.in-NoFunctionType.is c.same_attribute-in-NoFunctionType.ensures.misshapen
