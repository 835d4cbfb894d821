-- The sorts of values that rows make, and how a row takes values off the stack and puts one in their place.
use Rattle.std.specs.Prelude.{ℕ, ℤ, Bool, List, [], ◌∷◌, Option, Some, None}
use Rattle.std.specs.Option.{option_map, option_and_then}
use Rattle.av_tree.specs.declared.table.Symbol.{Symbol}
use Rattle.av_tree.specs.declared.table.Symbol.TheVariants as symbol
use Rattle.av_tree.specs.declared.table.Name.{Name}
use Rattle.av_tree.specs.declared.table.Name.TheVariants as name
use Rattle.av_tree.specs.declared.table.file.FileName.TheVariants as file_name
use Rattle.av_tree.specs.declared.table.functions.FunctionName.TheVariants as functions_name
use Rattle.av_tree.specs.declared.table.regions.RegionName.TheVariants as regions_name
use Rattle.av_tree.specs.declared.table.generic.GenericName.TheVariants as generic_name
use Rattle.av_tree.specs.declared.table.types.TypeName.TheVariants as types_name
use Rattle.av_tree.specs.declared.table.attributes.AttributeName.TheVariants as attributes_name
use Rattle.av_tree.specs.declared.table.maps.MapName.TheVariants as maps_name
use Rattle.av_tree.specs.declared.table.values.ValueName.TheVariants as values_name
use Rattle.av_tree.specs.declared.table.arith.ArithName.TheVariants as arith_name
use Rattle.av_tree.specs.declared.table.affine.AffineName.TheVariants as affine_name
use Rattle.av_tree.specs.declared.table.subscripts.SubscriptName.TheVariants as subscripts_name
use Rattle.av_tree.specs.declared.node.Tree.{Tree}
use Rattle.av_tree.specs.declared.node.Node.{Node}
use Rattle.av_tree.specs.declared.node.Body.{Body}
use Rattle.av_tree.specs.declared.node.BodyArg.{BodyArg}
use Rattle.av_tree.specs.declared.written.TypeText.{TypeText}
use Rattle.av_tree.specs.declared.written.SizeText.{SizeText}
use Rattle.av_tree.specs.declared.written.DimText.{DimText}
use Rattle.av_tree.specs.declared.written.RowText.{RowText}
use Rattle.av_tree.specs.declared.written.LayoutText.{LayoutText}
use Rattle.av_tree.specs.declared.attribute.Attr.{Attr}
use Rattle.av_tree.specs.declared.attribute.Named.{Named}
use Rattle.av_tree.specs.declared.attribute.Alias.{Alias}
use Rattle.av_tree.specs.declared.attribute.Element.{Element}
use Rattle.av_values.specs.declared.value.Value.{Value}
use Rattle.av_values.specs.declared.value.Value.TheVariants as value
use Rattle.av_values.specs.declared.value.Onward.{Onward}
use Rattle.av_values.specs.declared.value.Terminated.{Terminated}
use Rattle.av_values.specs.declared.value.TypedValues.{TypedValues}
use Rattle.av_values.specs.declared.value.Constant.{Constant}
use Rattle.av_values.specs.declared.value.Parameters.{Parameters}
use Rattle.av_values.specs.declared.value.Expression.{Expression}
use Rattle.av_values.specs.declared.value.Part.{Part}
use Rattle.av_values.specs.declared.value.MapUse.{MapUse}
use Rattle.av_values.specs.declared.value.Carried.{Carried}
use Rattle.av_values.specs.declared.value.GenericParts.{GenericParts}
use Rattle.av_values.specs.declared.value.Dense.{Dense}
use Rattle.av_values.specs.declared.value.Selected.{Selected}

-- the sort of a value
pub data Sort : Type 0 where
  a_tree : Sort
  a_node : Sort
  a_nodes : Sort
  a_onward : Sort
  a_terminated : Sort
  a_typed_values : Sort
  a_arg : Sort
  a_args : Sort
  a_text : Sort
  a_texts : Sort
  a_number : Sort
  a_constant : Sort
  a_type : Sort
  a_types : Sort
  a_sizes : Sort
  a_layout : Sort
  a_attr : Sort
  a_entry : Sort
  a_entries : Sort
  a_parameters : Sort
  a_expression : Sort
  a_expressions : Sort
  a_parts : Sort
  a_map_use : Sort
  a_carried : Sort
  a_aliases : Sort
  a_generic : Sort
  a_body : Sort
  a_bodies : Sort
  a_attrs : Sort
  a_words : Sort
  a_numbers : Sort
  a_element : Sort
  a_elements : Sort
  a_dense : Sort
  a_dims : Sort
  a_size : Sort
  a_row : Sort
  a_rows : Sort
  a_equal : Sort
  a_selected : Sort
  a_optional_type : Sort

-- the values of a sort; a list among them holds its last item first
abbrev pub Of : Sort → Type 0
Of a_tree = Tree
Of a_node = Node
Of a_nodes = List Node
Of a_onward = Onward
Of a_terminated = Terminated
Of a_typed_values = TypedValues
Of a_arg = BodyArg
Of a_args = List BodyArg
Of a_text = List ℕ
Of a_texts = List (List ℕ)
Of a_number = ℤ
Of a_constant = Constant
Of a_type = TypeText
Of a_types = List TypeText
Of a_sizes = List SizeText
Of a_layout = Option LayoutText
Of a_attr = Attr
Of a_entry = Named
Of a_entries = List Named
Of a_parameters = Parameters
Of a_expression = Expression
Of a_expressions = List Expression
Of a_parts = List Part
Of a_map_use = MapUse
Of a_carried = Carried
Of a_aliases = List Alias
Of a_generic = GenericParts
Of a_body = Body
Of a_bodies = List Body
Of a_attrs = List Attr
Of a_words = Option (List (List ℕ))
Of a_numbers = List ℤ
Of a_element = Element
Of a_elements = List Element
Of a_dense = Dense
Of a_dims = List DimText
Of a_size = SizeText
Of a_row = RowText
Of a_rows = List RowText
Of a_equal = Bool
Of a_selected = Selected
Of a_optional_type = Option TypeText

-- a value of a sort, as one of all values
abbrev pub any : (s : Sort) → Of s → Value
any a_tree v = value.Tree v
any a_node v = value.Node v
any a_nodes v = value.Nodes v
any a_onward v = value.Onward v
any a_terminated v = value.Terminated v
any a_typed_values v = value.TypedValues v
any a_arg v = value.Arg v
any a_args v = value.Args v
any a_text v = value.Text v
any a_texts v = value.Texts v
any a_number v = value.Number v
any a_constant v = value.Constant v
any a_type v = value.Type v
any a_types v = value.Types v
any a_sizes v = value.Sizes v
any a_layout v = value.Layout v
any a_attr v = value.Attr v
any a_entry v = value.Entry v
any a_entries v = value.Entries v
any a_parameters v = value.Parameters v
any a_expression v = value.Expression v
any a_expressions v = value.Expressions v
any a_parts v = value.Parts v
any a_map_use v = value.MapUse v
any a_carried v = value.Carried v
any a_aliases v = value.Aliases v
any a_generic v = value.Generic v
any a_body v = value.Body v
any a_bodies v = value.Bodies v
any a_attrs v = value.Attrs v
any a_words v = value.Words v
any a_numbers v = value.Numbers v
any a_element v = value.Element v
any a_elements v = value.Elements v
any a_dense v = value.Dense v
any a_dims v = value.Dims v
any a_size v = value.Size v
any a_row v = value.Row v
any a_rows v = value.Rows v
any a_equal v = value.Equal v
any a_selected v = value.Selected v
any a_optional_type v = value.OptionalType v

-- the value on top of a stack and those under it, where there is one of this sort
unfoldable pub on_top : (s : Sort) → List Value → Option (Of s × List Value)
on_top a_tree (value.Tree v ∷ under) = Some (v, under)
on_top a_node (value.Node v ∷ under) = Some (v, under)
on_top a_nodes (value.Nodes v ∷ under) = Some (v, under)
on_top a_onward (value.Onward v ∷ under) = Some (v, under)
on_top a_terminated (value.Terminated v ∷ under) = Some (v, under)
on_top a_typed_values (value.TypedValues v ∷ under) = Some (v, under)
on_top a_arg (value.Arg v ∷ under) = Some (v, under)
on_top a_args (value.Args v ∷ under) = Some (v, under)
on_top a_text (value.Text v ∷ under) = Some (v, under)
on_top a_texts (value.Texts v ∷ under) = Some (v, under)
on_top a_number (value.Number v ∷ under) = Some (v, under)
on_top a_constant (value.Constant v ∷ under) = Some (v, under)
on_top a_type (value.Type v ∷ under) = Some (v, under)
on_top a_types (value.Types v ∷ under) = Some (v, under)
on_top a_sizes (value.Sizes v ∷ under) = Some (v, under)
on_top a_layout (value.Layout v ∷ under) = Some (v, under)
on_top a_attr (value.Attr v ∷ under) = Some (v, under)
on_top a_entry (value.Entry v ∷ under) = Some (v, under)
on_top a_entries (value.Entries v ∷ under) = Some (v, under)
on_top a_parameters (value.Parameters v ∷ under) = Some (v, under)
on_top a_expression (value.Expression v ∷ under) = Some (v, under)
on_top a_expressions (value.Expressions v ∷ under) = Some (v, under)
on_top a_parts (value.Parts v ∷ under) = Some (v, under)
on_top a_map_use (value.MapUse v ∷ under) = Some (v, under)
on_top a_carried (value.Carried v ∷ under) = Some (v, under)
on_top a_aliases (value.Aliases v ∷ under) = Some (v, under)
on_top a_generic (value.Generic v ∷ under) = Some (v, under)
on_top a_body (value.Body v ∷ under) = Some (v, under)
on_top a_bodies (value.Bodies v ∷ under) = Some (v, under)
on_top a_attrs (value.Attrs v ∷ under) = Some (v, under)
on_top a_words (value.Words v ∷ under) = Some (v, under)
on_top a_numbers (value.Numbers v ∷ under) = Some (v, under)
on_top a_element (value.Element v ∷ under) = Some (v, under)
on_top a_elements (value.Elements v ∷ under) = Some (v, under)
on_top a_dense (value.Dense v ∷ under) = Some (v, under)
on_top a_dims (value.Dims v ∷ under) = Some (v, under)
on_top a_size (value.Size v ∷ under) = Some (v, under)
on_top a_row (value.Row v ∷ under) = Some (v, under)
on_top a_rows (value.Rows v ∷ under) = Some (v, under)
on_top a_equal (value.Equal v ∷ under) = Some (v, under)
on_top a_selected (value.Selected v ∷ under) = Some (v, under)
on_top a_optional_type (value.OptionalType v ∷ under) = Some (v, under)
on_top s under = None

-- values of these sorts, in order
abbrev pub All : List Sort → Type 0
All [] = Unit {0}
All (s ∷ ss) = Of s × All ss

-- values of these sorts, the first of them on top, are taken off the stack, and what is made of them is put in their place; none where the values aren't of these sorts, or nothing is made of them
unfoldable pub replaced : (ss : List Sort) (s : Sort) → (All ss → Option (Of s)) → List Value → Option (List Value)
replaced [] s make under = option_map (λ (made : Of s). any s made ∷ under) (make tt)
replaced (t ∷ ss) s make under = option_and_then (λ (top : Of t × List Value). replaced ss s (λ others. make (top.0, others)) top.1) (on_top t under)

-- the one tree that a stack of values is; none where no tree is on top, or something lies under it
abbrev pub only_tree : List Value → Option Tree
only_tree (value.Tree tree ∷ []) = Some tree
only_tree values = None

-- the sort of what a row of a name makes
abbrev pub sort_of : Name → Sort
sort_of (name.File file_name.File) = a_tree
sort_of (name.File file_name.Aliases) = a_aliases
sort_of (name.File file_name.Content) = a_nodes
sort_of (name.File file_name.TopLevel) = a_onward
sort_of (name.File file_name.MoreFunctions) = a_nodes
sort_of (name.File file_name.Function) = a_node
sort_of (name.File file_name.MapOrSet) = a_attr
sort_of (name.Function functions_name.Module) = a_node
sort_of (name.Function functions_name.OptionalSymbol) = a_entries
sort_of (name.Function functions_name.NamedFunction) = a_node
sort_of (name.Function functions_name.OptionalVisibility) = a_entries
sort_of (name.Function functions_name.FunctionArguments) = a_args
sort_of (name.Function functions_name.MoreFunctionArguments) = a_args
sort_of (name.Function functions_name.FunctionArgument) = a_arg
sort_of (name.Function functions_name.Form) = a_node
sort_of (name.Region regions_name.Operations) = a_nodes
sort_of (name.Region regions_name.Operation) = a_onward
sort_of (name.Region regions_name.AfterTerminator) = a_terminated
sort_of (name.Region regions_name.TypedValues) = a_typed_values
sort_of (name.Region regions_name.Region) = a_nodes
sort_of (name.Generic generic_name.GenericParts) = a_generic
sort_of (name.Generic generic_name.Properties) = a_entries
sort_of (name.Generic generic_name.Regions) = a_bodies
sort_of (name.Generic generic_name.MoreRegions) = a_bodies
sort_of (name.Generic generic_name.GenericRegion) = a_body
sort_of (name.Generic generic_name.Label) = a_args
sort_of (name.Generic generic_name.Arguments) = a_args
sort_of (name.Generic generic_name.MoreArguments) = a_args
sort_of (name.Type types_name.Type) = a_type
sort_of (name.Type types_name.MemRef) = a_type
sort_of (name.Type types_name.Sizes) = a_sizes
sort_of (name.Type types_name.Types) = a_types
sort_of (name.Type types_name.MoreTypes) = a_types
sort_of (name.Type types_name.ResultTypes) = a_types
sort_of (name.Type types_name.OptionalResultTypes) = a_types
sort_of (name.Type types_name.Layout) = a_layout
sort_of (name.Type types_name.Vector) = a_type
sort_of (name.Type types_name.Dims) = a_dims
sort_of (name.Type types_name.Strides) = a_sizes
sort_of (name.Type types_name.MoreStrides) = a_sizes
sort_of (name.Type types_name.Stride) = a_size
sort_of (name.Type types_name.OptionalOffset) = a_size
sort_of (name.Attribute attributes_name.Attribute) = a_attr
sort_of (name.Attribute attributes_name.NumberType) = a_type
sort_of (name.Attribute attributes_name.Dictionary) = a_entries
sort_of (name.Attribute attributes_name.Entries) = a_entries
sort_of (name.Attribute attributes_name.MoreEntries) = a_entries
sort_of (name.Attribute attributes_name.Entry) = a_entry
sort_of (name.Attribute attributes_name.EntryValue) = a_attr
sort_of (name.Attribute attributes_name.OptionalDictionary) = a_entries
sort_of (name.Attribute attributes_name.OptionalAttributes) = a_entries
sort_of (name.Attribute attributes_name.HashWords) = a_words
sort_of (name.Attribute attributes_name.Attributes) = a_attrs
sort_of (name.Attribute attributes_name.MoreAttributes) = a_attrs
sort_of (name.Attribute attributes_name.ArrayNumbers) = a_numbers
sort_of (name.Attribute attributes_name.Dense) = a_dense
sort_of (name.Attribute attributes_name.Element) = a_element
sort_of (name.Attribute attributes_name.Elements) = a_elements
sort_of (name.Attribute attributes_name.MoreElements) = a_elements
sort_of (name.Attribute attributes_name.FunctionTypeValue) = a_attr
sort_of (name.Attribute attributes_name.AttributeOrFunctionType) = a_attr
sort_of (name.Map maps_name.AffineMap) = a_attr
sort_of (name.Map maps_name.Parameters) = a_parameters
sort_of (name.Map maps_name.SymbolNames) = a_texts
sort_of (name.Map maps_name.Words) = a_texts
sort_of (name.Map maps_name.MoreWords) = a_texts
sort_of (name.Map maps_name.Expressions) = a_expressions
sort_of (name.Map maps_name.MoreExpressions) = a_expressions
sort_of (name.Map maps_name.Expression) = a_expression
sort_of (name.Map maps_name.Sum) = a_parts
sort_of (name.Map maps_name.Term) = a_expression
sort_of (name.Map maps_name.Product) = a_parts
sort_of (name.Map maps_name.Factor) = a_expression
sort_of (name.Map maps_name.Negated) = a_expression
sort_of (name.Map maps_name.Base) = a_expression
sort_of (name.Map maps_name.AffineSet) = a_attr
sort_of (name.Map maps_name.SetRows) = a_rows
sort_of (name.Map maps_name.MoreSetRows) = a_rows
sort_of (name.Map maps_name.SetRow) = a_row
sort_of (name.Map maps_name.RightSide) = a_equal
sort_of (name.Value values_name.Value) = a_text
sort_of (name.Value values_name.ResultNumber) = a_text
sort_of (name.Value values_name.Values) = a_texts
sort_of (name.Value values_name.MoreValues) = a_texts
sort_of (name.Value values_name.Integer) = a_number
sort_of (name.Value values_name.Results) = a_texts
sort_of (name.Value values_name.MoreResults) = a_texts
sort_of (name.Value values_name.ResultCount) = a_text
sort_of (name.Value values_name.OptionalValue) = a_texts
sort_of (name.Value values_name.Integers) = a_numbers
sort_of (name.Value values_name.MoreIntegers) = a_numbers
sort_of (name.Arith arith_name.Constant) = a_constant
sort_of (name.Arith arith_name.OptionalOverflow) = a_entries
sort_of (name.Arith arith_name.MoreOverflowFlags) = a_texts
sort_of (name.Arith arith_name.SelectedTypes) = a_selected
sort_of (name.Arith arith_name.AfterVector) = a_optional_type
sort_of (name.Affine affine_name.LowerBound) = a_map_use
sort_of (name.Affine affine_name.UpperBound) = a_map_use
sort_of (name.Affine affine_name.Bound) = a_map_use
sort_of (name.Affine affine_name.OptionalStep) = a_number
sort_of (name.Affine affine_name.OptionalIterArgs) = a_carried
sort_of (name.Affine affine_name.Carried) = a_carried
sort_of (name.Affine affine_name.MoreCarried) = a_carried
sort_of (name.Affine affine_name.MapUse) = a_map_use
sort_of (name.Affine affine_name.MapOperands) = a_texts
sort_of (name.Affine affine_name.SymbolOperands) = a_texts
sort_of (name.Affine affine_name.SetUse) = a_map_use
sort_of (name.Affine affine_name.OptionalElse) = a_nodes
sort_of (name.Subscript subscripts_name.Subscripts) = a_expressions
sort_of (name.Subscript subscripts_name.MoreSubscripts) = a_expressions
sort_of (name.Subscript subscripts_name.Subscript) = a_expression
sort_of (name.Subscript subscripts_name.SubscriptSum) = a_parts
sort_of (name.Subscript subscripts_name.SubscriptTerm) = a_expression
sort_of (name.Subscript subscripts_name.SubscriptProduct) = a_parts
sort_of (name.Subscript subscripts_name.SubscriptFactor) = a_expression
sort_of (name.Subscript subscripts_name.NegatedSubscript) = a_expression
sort_of (name.Subscript subscripts_name.SubscriptBase) = a_expression

-- the sorts of the values of symbols: a token whose spelling matters is a text, and a sign or a word has no value
abbrev pub sorts_of : List Symbol → List Sort
sorts_of [] = []
sorts_of (symbol.Sign s ∷ ss) = sorts_of ss
sorts_of (symbol.Word w ∷ ss) = sorts_of ss
sorts_of (symbol.Token t ∷ ss) = a_text ∷ sorts_of ss
sorts_of (symbol.Rows x ∷ ss) = sort_of x ∷ sorts_of ss
