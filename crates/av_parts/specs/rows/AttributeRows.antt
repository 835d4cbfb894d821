-- What the rows of dictionaries and attributes make of the values of their symbols. A list holds its last item first.
use Rattle.std.specs.Prelude.{ℕ, List, [], ◌∷◌, ◌++◌, codes, reverse, Option, None, Some}
use Rattle.av_tree.specs.declared.table.attributes.AttributeRule.{AttributeRule}
use Rattle.av_tree.specs.declared.table.attributes.AttributeRule.TheVariants as attributes_rule
use Rattle.av_tree.specs.rows.AttributeRows.{symbols_of, name_of}
use Rattle.av_tree.specs.declared.attribute.Attr.{Attr}
use Rattle.av_tree.specs.declared.attribute.Attr.TheVariants as attr
use Rattle.av_tree.specs.declared.attribute.Element.TheVariants as element
use Rattle.av_tree.specs.declared.written.TypeText.TheVariants as ty
use Rattle.av_values.specs.Nodes.{entry}
use Rattle.av_values.specs.Spellings.{is_true, unquoted}
use Rattle.av_values.specs.Sorts.{All, Of, replaced, sort_of, sorts_of}
use Rattle.av_values.specs.declared.value.Value.{Value}

-- a name with words in `<` and `>`, or of an alias
abbrev pub hash_of : List ℕ → Option (List (List ℕ)) → Attr
hash_of name (Some words) = attr.Hash name (reverse words)
hash_of name None = attr.AliasUse name

abbrev pub made : (r : AttributeRule) → All (sorts_of (symbols_of r)) → Of (sort_of (name_of r))
made attributes_rule.NumberAttribute (value, (type, _)) = attr.Number value type
made attributes_rule.BoolAttribute (word, _) = attr.Bool (is_true word)
made attributes_rule.StringAttribute (string, _) = attr.Quoted (unquoted string)
made attributes_rule.SymbolAttribute (symbol, _) = attr.Symbol symbol
made attributes_rule.TypeAttribute (type, _) = attr.Type type
made attributes_rule.MapAttribute (map, _) = map
made attributes_rule.SetAttribute (set, _) = set
made attributes_rule.AliasAttribute (name, _) = attr.AliasUse name
made attributes_rule.HashAttribute (name, (words, _)) = hash_of name words
made attributes_rule.ListAttribute (attrs, _) = attr.List (reverse attrs)
made attributes_rule.DictionaryAttribute (entries, _) = attr.Dictionary (reverse entries)
made attributes_rule.ArrayAttribute (type, (numbers, _)) = attr.Array type (reverse numbers)
made attributes_rule.DenseAttribute (dense, _) = attr.Dense dense.elements dense.ty
made attributes_rule.NoNumberType _ = ty.Scalar (codes "i64")
made attributes_rule.WrittenNumberType (type, _) = type
made attributes_rule.NoHashWords _ = None
made attributes_rule.WrittenHashWords (words, _) = Some words
made attributes_rule.NoAttributes _ = []
made attributes_rule.FirstAttribute (one, (others, _)) = others ++ one ∷ []
made attributes_rule.NoMoreAttributes _ = []
made attributes_rule.NextAttribute (one, (others, _)) = others ++ one ∷ []
made attributes_rule.NoArrayNumbers _ = []
made attributes_rule.WrittenArrayNumbers (number, (others, _)) = others ++ number ∷ []
made attributes_rule.DenseElements (elements, (type, _)) = record { elements = elements; ty = type }
made attributes_rule.NumberElement (number, _) = element.Number number
made attributes_rule.BoolElement (word, _) = element.Bool (is_true word)
made attributes_rule.ListElement (elements, _) = element.List (reverse elements)
made attributes_rule.NoElements _ = []
made attributes_rule.FirstElement (one, (others, _)) = others ++ one ∷ []
made attributes_rule.NoMoreElements _ = []
made attributes_rule.NextElement (one, (others, _)) = others ++ one ∷ []
made attributes_rule.WrittenDictionary (entries, _) = entries
made attributes_rule.NoEntries _ = []
made attributes_rule.FirstEntry (one, (others, _)) = others ++ one ∷ []
made attributes_rule.NoMoreEntries _ = []
made attributes_rule.NextEntry (one, (others, _)) = others ++ one ∷ []
made attributes_rule.PlainEntry (name, (value, _)) = entry name value
made attributes_rule.FunctionTypeEntry (value, _) = entry (codes "function_type") value
made attributes_rule.UnitEntry _ = attr.Unit
made attributes_rule.WrittenEntry (value, _) = value
made attributes_rule.UnitFunctionType _ = attr.Unit
made attributes_rule.WrittenFunctionType (value, _) = value
made attributes_rule.NoFunctionType (value, _) = value
made attributes_rule.FunctionType (inputs, (results, _)) = attr.Type (ty.Func (reverse inputs) (reverse results))
made attributes_rule.NoDictionary _ = []
made attributes_rule.DictionaryHere (entries, _) = entries
made attributes_rule.NoAttributesPart _ = []
made attributes_rule.AttributesPart (entries, _) = entries

-- what a row does to a stack of values
abbrev pub by_row : AttributeRule → List Value → Option (List Value)
by_row r = replaced (sorts_of (symbols_of r)) (sort_of (name_of r)) (λ values. Some (made r values))
