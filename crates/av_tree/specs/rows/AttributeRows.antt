-- The rows of dictionaries and attributes: the symbols of each, and the name that it is a row of.
use Rattle.std.specs.Prelude.{List, [], ◌∷◌}
use Rattle.av_tree.specs.declared.table.Symbol.{Symbol}
use Rattle.av_tree.specs.declared.table.Symbol.TheVariants as symbol
use Rattle.av_tree.specs.declared.table.Name.{Name}
use Rattle.av_tree.specs.declared.table.Name.TheVariants as name
use Rattle.av_tree.specs.declared.table.attributes.AttributeRule.{AttributeRule}
use Rattle.av_tree.specs.declared.table.attributes.AttributeRule.TheVariants as attributes_rule
use Rattle.av_tree.specs.declared.table.types.TypeName.TheVariants as types_name
use Rattle.av_tree.specs.declared.table.attributes.AttributeName.TheVariants as attributes_name
use Rattle.av_tree.specs.declared.table.maps.MapName.TheVariants as maps_name
use Rattle.av_tree.specs.declared.table.values.ValueName.TheVariants as values_name
use Rattle.av_lex.specs.declared.token.Sign.TheVariants as sign
use Rattle.av_tree.specs.declared.class.Keyword.TheVariants as key
use Rattle.av_tree.specs.declared.table.Test.TheVariants as test
use Rattle.av_tree.specs.declared.class.Class.{Class}
use Rattle.av_tree.specs.declared.class.Class.TheVariants as class
use Rattle.av_tree.specs.declared.table.Rule.{Rule}
use Rattle.av_tree.specs.declared.table.Rule.TheVariants as rule
use Rattle.av_tree.specs.declared.table.attributes.AttributeName.{AttributeName}

abbrev pub symbols_of : AttributeRule → List Symbol
symbols_of attributes_rule.NumberAttribute = (symbol.Rows (name.Value values_name.Integer)) ∷ (symbol.Rows (name.Attribute attributes_name.NumberType)) ∷ []
symbols_of attributes_rule.BoolAttribute = (symbol.Token test.Bool) ∷ []
symbols_of attributes_rule.StringAttribute = (symbol.Token test.String) ∷ []
symbols_of attributes_rule.SymbolAttribute = (symbol.Token test.SymId) ∷ []
symbols_of attributes_rule.TypeAttribute = (symbol.Rows (name.Type types_name.Type)) ∷ []
symbols_of attributes_rule.MapAttribute = (symbol.Rows (name.Map maps_name.AffineMap)) ∷ []
symbols_of attributes_rule.SetAttribute = (symbol.Rows (name.Map maps_name.AffineSet)) ∷ []
symbols_of attributes_rule.AliasAttribute = (symbol.Token test.AliasOnly) ∷ []
symbols_of attributes_rule.HashAttribute = (symbol.Token test.HashWord) ∷ (symbol.Rows (name.Attribute attributes_name.HashWords)) ∷ []
symbols_of attributes_rule.ListAttribute = (symbol.Sign sign.OpenSquare) ∷ (symbol.Rows (name.Attribute attributes_name.Attributes)) ∷ (symbol.Sign sign.CloseSquare) ∷ []
symbols_of attributes_rule.DictionaryAttribute = (symbol.Rows (name.Attribute attributes_name.Dictionary)) ∷ []
symbols_of attributes_rule.ArrayAttribute = (symbol.Word key.Array) ∷ (symbol.Sign sign.OpenAngle) ∷ (symbol.Rows (name.Type types_name.Type)) ∷ (symbol.Rows (name.Attribute attributes_name.ArrayNumbers)) ∷ (symbol.Sign sign.CloseAngle) ∷ []
symbols_of attributes_rule.DenseAttribute = (symbol.Rows (name.Attribute attributes_name.Dense)) ∷ []
symbols_of attributes_rule.NoNumberType = []
symbols_of attributes_rule.WrittenNumberType = (symbol.Sign sign.Colon) ∷ (symbol.Rows (name.Type types_name.Type)) ∷ []
symbols_of attributes_rule.NoHashWords = []
symbols_of attributes_rule.WrittenHashWords = (symbol.Sign sign.OpenAngle) ∷ (symbol.Rows (name.Map maps_name.Words)) ∷ (symbol.Sign sign.CloseAngle) ∷ []
symbols_of attributes_rule.NoAttributes = []
symbols_of attributes_rule.FirstAttribute = (symbol.Rows (name.Attribute attributes_name.Attribute)) ∷ (symbol.Rows (name.Attribute attributes_name.MoreAttributes)) ∷ []
symbols_of attributes_rule.NoMoreAttributes = []
symbols_of attributes_rule.NextAttribute = (symbol.Sign sign.Comma) ∷ (symbol.Rows (name.Attribute attributes_name.Attribute)) ∷ (symbol.Rows (name.Attribute attributes_name.MoreAttributes)) ∷ []
symbols_of attributes_rule.NoArrayNumbers = []
symbols_of attributes_rule.WrittenArrayNumbers = (symbol.Sign sign.Colon) ∷ (symbol.Rows (name.Value values_name.Integer)) ∷ (symbol.Rows (name.Value values_name.MoreIntegers)) ∷ []
symbols_of attributes_rule.DenseElements = (symbol.Word key.Dense) ∷ (symbol.Sign sign.OpenAngle) ∷ (symbol.Rows (name.Attribute attributes_name.Element)) ∷ (symbol.Sign sign.CloseAngle) ∷ (symbol.Sign sign.Colon) ∷ (symbol.Rows (name.Type types_name.Type)) ∷ []
symbols_of attributes_rule.NumberElement = (symbol.Rows (name.Value values_name.Integer)) ∷ []
symbols_of attributes_rule.BoolElement = (symbol.Token test.Bool) ∷ []
symbols_of attributes_rule.ListElement = (symbol.Sign sign.OpenSquare) ∷ (symbol.Rows (name.Attribute attributes_name.Elements)) ∷ (symbol.Sign sign.CloseSquare) ∷ []
symbols_of attributes_rule.NoElements = []
symbols_of attributes_rule.FirstElement = (symbol.Rows (name.Attribute attributes_name.Element)) ∷ (symbol.Rows (name.Attribute attributes_name.MoreElements)) ∷ []
symbols_of attributes_rule.NoMoreElements = []
symbols_of attributes_rule.NextElement = (symbol.Sign sign.Comma) ∷ (symbol.Rows (name.Attribute attributes_name.Element)) ∷ (symbol.Rows (name.Attribute attributes_name.MoreElements)) ∷ []
symbols_of attributes_rule.WrittenDictionary = (symbol.Sign sign.OpenCurly) ∷ (symbol.Rows (name.Attribute attributes_name.Entries)) ∷ (symbol.Sign sign.CloseCurly) ∷ []
symbols_of attributes_rule.NoEntries = []
symbols_of attributes_rule.FirstEntry = (symbol.Rows (name.Attribute attributes_name.Entry)) ∷ (symbol.Rows (name.Attribute attributes_name.MoreEntries)) ∷ []
symbols_of attributes_rule.NoMoreEntries = []
symbols_of attributes_rule.NextEntry = (symbol.Sign sign.Comma) ∷ (symbol.Rows (name.Attribute attributes_name.Entry)) ∷ (symbol.Rows (name.Attribute attributes_name.MoreEntries)) ∷ []
symbols_of attributes_rule.PlainEntry = (symbol.Token test.EntryName) ∷ (symbol.Rows (name.Attribute attributes_name.EntryValue)) ∷ []
symbols_of attributes_rule.FunctionTypeEntry = (symbol.Word key.FunctionType) ∷ (symbol.Rows (name.Attribute attributes_name.FunctionTypeValue)) ∷ []
symbols_of attributes_rule.UnitEntry = []
symbols_of attributes_rule.WrittenEntry = (symbol.Sign sign.Equal) ∷ (symbol.Rows (name.Attribute attributes_name.Attribute)) ∷ []
symbols_of attributes_rule.UnitFunctionType = []
symbols_of attributes_rule.WrittenFunctionType = (symbol.Sign sign.Equal) ∷ (symbol.Rows (name.Attribute attributes_name.AttributeOrFunctionType)) ∷ []
symbols_of attributes_rule.NoFunctionType = (symbol.Rows (name.Attribute attributes_name.Attribute)) ∷ []
symbols_of attributes_rule.FunctionType = (symbol.Sign sign.OpenRound) ∷ (symbol.Rows (name.Type types_name.Types)) ∷ (symbol.Sign sign.CloseRound) ∷ (symbol.Sign sign.Arrow) ∷ (symbol.Rows (name.Type types_name.ResultTypes)) ∷ []
symbols_of attributes_rule.NoDictionary = []
symbols_of attributes_rule.DictionaryHere = (symbol.Rows (name.Attribute attributes_name.Dictionary)) ∷ []
symbols_of attributes_rule.NoAttributesPart = []
symbols_of attributes_rule.AttributesPart = (symbol.Word key.Attributes) ∷ (symbol.Rows (name.Attribute attributes_name.Dictionary)) ∷ []

abbrev pub name_of : AttributeRule → Name
name_of attributes_rule.NumberAttribute = name.Attribute attributes_name.Attribute
name_of attributes_rule.BoolAttribute = name.Attribute attributes_name.Attribute
name_of attributes_rule.StringAttribute = name.Attribute attributes_name.Attribute
name_of attributes_rule.SymbolAttribute = name.Attribute attributes_name.Attribute
name_of attributes_rule.TypeAttribute = name.Attribute attributes_name.Attribute
name_of attributes_rule.MapAttribute = name.Attribute attributes_name.Attribute
name_of attributes_rule.SetAttribute = name.Attribute attributes_name.Attribute
name_of attributes_rule.AliasAttribute = name.Attribute attributes_name.Attribute
name_of attributes_rule.HashAttribute = name.Attribute attributes_name.Attribute
name_of attributes_rule.ListAttribute = name.Attribute attributes_name.Attribute
name_of attributes_rule.DictionaryAttribute = name.Attribute attributes_name.Attribute
name_of attributes_rule.ArrayAttribute = name.Attribute attributes_name.Attribute
name_of attributes_rule.DenseAttribute = name.Attribute attributes_name.Attribute
name_of attributes_rule.NoNumberType = name.Attribute attributes_name.NumberType
name_of attributes_rule.WrittenNumberType = name.Attribute attributes_name.NumberType
name_of attributes_rule.NoHashWords = name.Attribute attributes_name.HashWords
name_of attributes_rule.WrittenHashWords = name.Attribute attributes_name.HashWords
name_of attributes_rule.NoAttributes = name.Attribute attributes_name.Attributes
name_of attributes_rule.FirstAttribute = name.Attribute attributes_name.Attributes
name_of attributes_rule.NoMoreAttributes = name.Attribute attributes_name.MoreAttributes
name_of attributes_rule.NextAttribute = name.Attribute attributes_name.MoreAttributes
name_of attributes_rule.NoArrayNumbers = name.Attribute attributes_name.ArrayNumbers
name_of attributes_rule.WrittenArrayNumbers = name.Attribute attributes_name.ArrayNumbers
name_of attributes_rule.DenseElements = name.Attribute attributes_name.Dense
name_of attributes_rule.NumberElement = name.Attribute attributes_name.Element
name_of attributes_rule.BoolElement = name.Attribute attributes_name.Element
name_of attributes_rule.ListElement = name.Attribute attributes_name.Element
name_of attributes_rule.NoElements = name.Attribute attributes_name.Elements
name_of attributes_rule.FirstElement = name.Attribute attributes_name.Elements
name_of attributes_rule.NoMoreElements = name.Attribute attributes_name.MoreElements
name_of attributes_rule.NextElement = name.Attribute attributes_name.MoreElements
name_of attributes_rule.WrittenDictionary = name.Attribute attributes_name.Dictionary
name_of attributes_rule.NoEntries = name.Attribute attributes_name.Entries
name_of attributes_rule.FirstEntry = name.Attribute attributes_name.Entries
name_of attributes_rule.NoMoreEntries = name.Attribute attributes_name.MoreEntries
name_of attributes_rule.NextEntry = name.Attribute attributes_name.MoreEntries
name_of attributes_rule.PlainEntry = name.Attribute attributes_name.Entry
name_of attributes_rule.FunctionTypeEntry = name.Attribute attributes_name.Entry
name_of attributes_rule.UnitEntry = name.Attribute attributes_name.EntryValue
name_of attributes_rule.WrittenEntry = name.Attribute attributes_name.EntryValue
name_of attributes_rule.UnitFunctionType = name.Attribute attributes_name.FunctionTypeValue
name_of attributes_rule.WrittenFunctionType = name.Attribute attributes_name.FunctionTypeValue
name_of attributes_rule.NoFunctionType = name.Attribute attributes_name.AttributeOrFunctionType
name_of attributes_rule.FunctionType = name.Attribute attributes_name.AttributeOrFunctionType
name_of attributes_rule.NoDictionary = name.Attribute attributes_name.OptionalDictionary
name_of attributes_rule.DictionaryHere = name.Attribute attributes_name.OptionalDictionary
name_of attributes_rule.NoAttributesPart = name.Attribute attributes_name.OptionalAttributes
name_of attributes_rule.AttributesPart = name.Attribute attributes_name.OptionalAttributes

-- the row of a name that can begin with a token of this class, or any of its rows where none can
abbrev pub choice_of : AttributeName → Class → Rule
choice_of attributes_name.Attribute (class.Word key.Bool) = rule.Attribute attributes_rule.BoolAttribute
choice_of attributes_name.Attribute class.QuotedModule = rule.Attribute attributes_rule.StringAttribute
choice_of attributes_name.Attribute class.QuotedFunc = rule.Attribute attributes_rule.StringAttribute
choice_of attributes_name.Attribute class.Quoted = rule.Attribute attributes_rule.StringAttribute
choice_of attributes_name.Attribute class.SymId = rule.Attribute attributes_rule.SymbolAttribute
choice_of attributes_name.Attribute (class.Word key.MemRef) = rule.Attribute attributes_rule.TypeAttribute
choice_of attributes_name.Attribute (class.Word key.Vector) = rule.Attribute attributes_rule.TypeAttribute
choice_of attributes_name.Attribute class.Scalar = rule.Attribute attributes_rule.TypeAttribute
choice_of attributes_name.Attribute (class.Word key.AffineMap) = rule.Attribute attributes_rule.MapAttribute
choice_of attributes_name.Attribute (class.Word key.AffineSet) = rule.Attribute attributes_rule.SetAttribute
choice_of attributes_name.Attribute class.HashDigits = rule.Attribute attributes_rule.AliasAttribute
choice_of attributes_name.Attribute class.HashOther = rule.Attribute attributes_rule.AliasAttribute
choice_of attributes_name.Attribute class.HashWord = rule.Attribute attributes_rule.HashAttribute
choice_of attributes_name.Attribute (class.Sign sign.OpenSquare) = rule.Attribute attributes_rule.ListAttribute
choice_of attributes_name.Attribute (class.Sign sign.OpenCurly) = rule.Attribute attributes_rule.DictionaryAttribute
choice_of attributes_name.Attribute (class.Word key.Array) = rule.Attribute attributes_rule.ArrayAttribute
choice_of attributes_name.Attribute (class.Word key.Dense) = rule.Attribute attributes_rule.DenseAttribute
choice_of attributes_name.Attribute _ = rule.Attribute attributes_rule.NumberAttribute
choice_of attributes_name.NumberType (class.Sign sign.Colon) = rule.Attribute attributes_rule.WrittenNumberType
choice_of attributes_name.NumberType _ = rule.Attribute attributes_rule.NoNumberType
choice_of attributes_name.HashWords (class.Sign sign.OpenAngle) = rule.Attribute attributes_rule.WrittenHashWords
choice_of attributes_name.HashWords _ = rule.Attribute attributes_rule.NoHashWords
choice_of attributes_name.Attributes (class.Sign sign.CloseSquare) = rule.Attribute attributes_rule.NoAttributes
choice_of attributes_name.Attributes _ = rule.Attribute attributes_rule.FirstAttribute
choice_of attributes_name.MoreAttributes (class.Sign sign.Comma) = rule.Attribute attributes_rule.NextAttribute
choice_of attributes_name.MoreAttributes _ = rule.Attribute attributes_rule.NoMoreAttributes
choice_of attributes_name.ArrayNumbers (class.Sign sign.Colon) = rule.Attribute attributes_rule.WrittenArrayNumbers
choice_of attributes_name.ArrayNumbers _ = rule.Attribute attributes_rule.NoArrayNumbers
choice_of attributes_name.Dense _ = rule.Attribute attributes_rule.DenseElements
choice_of attributes_name.Element (class.Word key.Bool) = rule.Attribute attributes_rule.BoolElement
choice_of attributes_name.Element (class.Sign sign.OpenSquare) = rule.Attribute attributes_rule.ListElement
choice_of attributes_name.Element _ = rule.Attribute attributes_rule.NumberElement
choice_of attributes_name.Elements (class.Sign sign.CloseSquare) = rule.Attribute attributes_rule.NoElements
choice_of attributes_name.Elements _ = rule.Attribute attributes_rule.FirstElement
choice_of attributes_name.MoreElements (class.Sign sign.Comma) = rule.Attribute attributes_rule.NextElement
choice_of attributes_name.MoreElements _ = rule.Attribute attributes_rule.NoMoreElements
choice_of attributes_name.Dictionary _ = rule.Attribute attributes_rule.WrittenDictionary
choice_of attributes_name.Entries (class.Sign sign.CloseCurly) = rule.Attribute attributes_rule.NoEntries
choice_of attributes_name.Entries _ = rule.Attribute attributes_rule.FirstEntry
choice_of attributes_name.MoreEntries (class.Sign sign.Comma) = rule.Attribute attributes_rule.NextEntry
choice_of attributes_name.MoreEntries _ = rule.Attribute attributes_rule.NoMoreEntries
choice_of attributes_name.Entry (class.Word key.FunctionType) = rule.Attribute attributes_rule.FunctionTypeEntry
choice_of attributes_name.Entry _ = rule.Attribute attributes_rule.PlainEntry
choice_of attributes_name.EntryValue (class.Sign sign.Equal) = rule.Attribute attributes_rule.WrittenEntry
choice_of attributes_name.EntryValue _ = rule.Attribute attributes_rule.UnitEntry
choice_of attributes_name.FunctionTypeValue (class.Sign sign.Equal) = rule.Attribute attributes_rule.WrittenFunctionType
choice_of attributes_name.FunctionTypeValue _ = rule.Attribute attributes_rule.UnitFunctionType
choice_of attributes_name.AttributeOrFunctionType (class.Sign sign.OpenRound) = rule.Attribute attributes_rule.FunctionType
choice_of attributes_name.AttributeOrFunctionType _ = rule.Attribute attributes_rule.NoFunctionType
choice_of attributes_name.OptionalDictionary (class.Sign sign.OpenCurly) = rule.Attribute attributes_rule.DictionaryHere
choice_of attributes_name.OptionalDictionary _ = rule.Attribute attributes_rule.NoDictionary
choice_of attributes_name.OptionalAttributes (class.Word key.Attributes) = rule.Attribute attributes_rule.AttributesPart
choice_of attributes_name.OptionalAttributes _ = rule.Attribute attributes_rule.NoAttributesPart
