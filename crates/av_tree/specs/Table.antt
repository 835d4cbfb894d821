-- The table as a whole, and the weights by which expanding names comes to an end.
use Rattle.std.specs.Prelude.{ℕ, ◌+◌, Bool, true, false, ◌&&◌, ◌||◌, not, List, [], ◌∷◌, nat_lt, if◌then◌else◌}
use Rattle.av_dialects.specs.Rows.{form_of}
use Rattle.av_tree.specs.declared.class.Class.{Class}
use Rattle.av_tree.specs.declared.class.Keyword.TheVariants as key
use Rattle.av_tree.specs.Forms.{form_symbols}
use Rattle.av_tree.specs.declared.table.Symbol.{Symbol}
use Rattle.av_tree.specs.declared.table.Symbol.TheVariants as symbol
use Rattle.av_tree.specs.declared.table.Name.{Name}
use Rattle.av_tree.specs.declared.table.Name.TheVariants as name
use Rattle.av_tree.specs.declared.table.Rule.{Rule}
use Rattle.av_tree.specs.declared.table.Rule.TheVariants as rule
use Rattle.av_tree.specs.declared.table.file.FileName.TheVariants as file_name
use Rattle.av_tree.specs.declared.table.functions.FunctionName.TheVariants as functions_name
use Rattle.av_tree.specs.declared.table.regions.RegionName.TheVariants as regions_name
use Rattle.av_tree.specs.declared.table.generic.GenericName.TheVariants as generic_name
use Rattle.av_tree.specs.declared.table.types.TypeName.TheVariants as types_name
use Rattle.av_tree.specs.declared.table.attributes.AttributeName.TheVariants as attributes_name
use Rattle.av_tree.specs.declared.table.maps.MapName.TheVariants as maps_name
use Rattle.av_tree.specs.declared.table.values.ValueName.TheVariants as values_name
use Rattle.av_tree.specs.declared.table.arith.ArithName.TheVariants as arith_name
use Rattle.av_tree.specs.declared.table.affine.AffineName.TheVariants as affine_name
use Rattle.av_tree.specs.declared.table.subscripts.SubscriptName.TheVariants as subscripts_name
use Rattle.av_tree.specs.rows.FileRows as file
use Rattle.av_tree.specs.rows.FunctionRows as functions
use Rattle.av_tree.specs.rows.RegionRows as regions
use Rattle.av_tree.specs.rows.GenericRows as generic
use Rattle.av_tree.specs.rows.TypeRows as types
use Rattle.av_tree.specs.rows.AttributeRows as attributes
use Rattle.av_tree.specs.rows.MapRows as maps
use Rattle.av_tree.specs.rows.ValueRows as values
use Rattle.av_tree.specs.rows.ArithRows as arith
use Rattle.av_tree.specs.rows.AffineRows as affine
use Rattle.av_tree.specs.rows.SubscriptRows as subscripts

-- the symbols of a row
abbrev pub symbols_of : Rule → List Symbol
symbols_of (rule.File r) = file.symbols_of r
symbols_of (rule.Function r) = functions.symbols_of r
symbols_of (rule.Region r) = regions.symbols_of r
symbols_of (rule.Generic r) = generic.symbols_of r
symbols_of (rule.Type r) = types.symbols_of r
symbols_of (rule.Attribute r) = attributes.symbols_of r
symbols_of (rule.Map r) = maps.symbols_of r
symbols_of (rule.Value r) = values.symbols_of r
symbols_of (rule.Arith r) = arith.symbols_of r
symbols_of (rule.Affine r) = affine.symbols_of r
symbols_of (rule.Subscript r) = subscripts.symbols_of r
symbols_of (rule.Operation n) = symbol.Word (key.Operation n) ∷ form_symbols (form_of n)

-- the name that a row is a row of
abbrev pub name_of : Rule → Name
name_of (rule.File r) = file.name_of r
name_of (rule.Function r) = functions.name_of r
name_of (rule.Region r) = regions.name_of r
name_of (rule.Generic r) = generic.name_of r
name_of (rule.Type r) = types.name_of r
name_of (rule.Attribute r) = attributes.name_of r
name_of (rule.Map r) = maps.name_of r
name_of (rule.Value r) = values.name_of r
name_of (rule.Arith r) = arith.name_of r
name_of (rule.Affine r) = affine.name_of r
name_of (rule.Subscript r) = subscripts.name_of r
name_of (rule.Operation n) = name.Function functions_name.Form

-- the row of a name that can begin with a token of this class, or any of its rows where none can
abbrev pub choice_of : Name → Class → Rule
choice_of (name.File n) c = file.choice_of n c
choice_of (name.Function n) c = functions.choice_of n c
choice_of (name.Region n) c = regions.choice_of n c
choice_of (name.Generic n) c = generic.choice_of n c
choice_of (name.Type n) c = types.choice_of n c
choice_of (name.Attribute n) c = attributes.choice_of n c
choice_of (name.Map n) c = maps.choice_of n c
choice_of (name.Value n) c = values.choice_of n c
choice_of (name.Arith n) c = arith.choice_of n c
choice_of (name.Affine n) c = affine.choice_of n c
choice_of (name.Subscript n) c = subscripts.choice_of n c

-- whether a name derives no tokens too
abbrev pub is_nullable : Name → Bool
is_nullable (name.File file_name.MapOrSet) = false
is_nullable (name.File file_name.TopLevel) = false
is_nullable (name.File file_name.Function) = false
is_nullable (name.File _) = true
is_nullable (name.Function functions_name.Module) = false
is_nullable (name.Function functions_name.NamedFunction) = false
is_nullable (name.Function functions_name.FunctionArgument) = false
is_nullable (name.Function functions_name.Form) = false
is_nullable (name.Function _) = true
is_nullable (name.Region regions_name.Operations) = true
is_nullable (name.Region regions_name.AfterTerminator) = true
is_nullable (name.Region _) = false
is_nullable (name.Generic generic_name.GenericParts) = false
is_nullable (name.Generic generic_name.GenericRegion) = false
is_nullable (name.Generic _) = true
is_nullable (name.Type types_name.Type) = false
is_nullable (name.Type types_name.MemRef) = false
is_nullable (name.Type types_name.Vector) = false
is_nullable (name.Type types_name.ResultTypes) = false
is_nullable (name.Type types_name.Stride) = false
is_nullable (name.Type _) = true
is_nullable (name.Attribute attributes_name.Attribute) = false
is_nullable (name.Attribute attributes_name.Dense) = false
is_nullable (name.Attribute attributes_name.Element) = false
is_nullable (name.Attribute attributes_name.Dictionary) = false
is_nullable (name.Attribute attributes_name.Entry) = false
is_nullable (name.Attribute attributes_name.AttributeOrFunctionType) = false
is_nullable (name.Attribute _) = true
is_nullable (name.Map maps_name.SymbolNames) = true
is_nullable (name.Map maps_name.Words) = true
is_nullable (name.Map maps_name.MoreWords) = true
is_nullable (name.Map maps_name.Expressions) = true
is_nullable (name.Map maps_name.MoreExpressions) = true
is_nullable (name.Map maps_name.SetRows) = true
is_nullable (name.Map maps_name.MoreSetRows) = true
is_nullable (name.Map maps_name.Sum) = true
is_nullable (name.Map maps_name.Product) = true
is_nullable (name.Map _) = false
is_nullable (name.Value values_name.Value) = false
is_nullable (name.Value values_name.Integer) = false
is_nullable (name.Value values_name.Results) = false
is_nullable (name.Value _) = true
is_nullable (name.Arith arith_name.Constant) = false
is_nullable (name.Arith arith_name.SelectedTypes) = false
is_nullable (name.Arith _) = true
is_nullable (name.Affine affine_name.OptionalStep) = true
is_nullable (name.Affine affine_name.OptionalIterArgs) = true
is_nullable (name.Affine affine_name.SymbolOperands) = true
is_nullable (name.Affine affine_name.OptionalElse) = true
is_nullable (name.Affine _) = false
is_nullable (name.Subscript subscripts_name.Subscripts) = true
is_nullable (name.Subscript subscripts_name.MoreSubscripts) = true
is_nullable (name.Subscript subscripts_name.SubscriptSum) = true
is_nullable (name.Subscript subscripts_name.SubscriptProduct) = true
is_nullable (name.Subscript _) = false

-- more names than can be expanded one after another before a token, beginning with this one
abbrev pub weight : Name → ℕ
weight (name.File file_name.File) = 6
weight (name.File file_name.MapOrSet) = 2
weight (name.File file_name.Content) = 4
weight (name.File file_name.TopLevel) = 3
weight (name.File file_name.MoreFunctions) = 3
weight (name.File file_name.Function) = 2
weight (name.File _) = 1
weight (name.Function functions_name.FunctionArguments) = 2
weight (name.Function functions_name.Form) = 2
weight (name.Function _) = 1
weight (name.Region regions_name.Operations) = 4
weight (name.Region regions_name.Operation) = 3
weight (name.Region regions_name.AfterTerminator) = 4
weight (name.Region regions_name.TypedValues) = 2
weight (name.Region _) = 1
weight (name.Generic _) = 1
weight (name.Type types_name.Type) = 2
weight (name.Type types_name.Types) = 3
weight (name.Type types_name.ResultTypes) = 3
weight (name.Type types_name.Strides) = 2
weight (name.Type _) = 1
weight (name.Attribute attributes_name.Attribute) = 3
weight (name.Attribute attributes_name.Attributes) = 4
weight (name.Attribute attributes_name.Element) = 2
weight (name.Attribute attributes_name.Elements) = 3
weight (name.Attribute attributes_name.Entries) = 2
weight (name.Attribute attributes_name.AttributeOrFunctionType) = 4
weight (name.Attribute attributes_name.OptionalDictionary) = 2
weight (name.Attribute _) = 1
weight (name.Map maps_name.Expressions) = 5
weight (name.Map maps_name.SetRows) = 6
weight (name.Map maps_name.SetRow) = 5
weight (name.Map maps_name.Expression) = 4
weight (name.Map maps_name.Term) = 3
weight (name.Map maps_name.Factor) = 2
weight (name.Map maps_name.Negated) = 2
weight (name.Map _) = 1
weight (name.Value values_name.Values) = 2
weight (name.Value values_name.Integers) = 2
weight (name.Value _) = 1
weight (name.Arith arith_name.Constant) = 2
weight (name.Arith arith_name.SelectedTypes) = 2
weight (name.Arith _) = 1
weight (name.Affine affine_name.LowerBound) = 4
weight (name.Affine affine_name.UpperBound) = 4
weight (name.Affine affine_name.Bound) = 3
weight (name.Affine affine_name.MapUse) = 2
weight (name.Affine affine_name.SetUse) = 2
weight (name.Affine _) = 1
weight (name.Subscript subscripts_name.Subscripts) = 6
weight (name.Subscript subscripts_name.Subscript) = 5
weight (name.Subscript subscripts_name.SubscriptTerm) = 4
weight (name.Subscript subscripts_name.SubscriptFactor) = 3
weight (name.Subscript subscripts_name.NegatedSubscript) = 3
weight (name.Subscript subscripts_name.SubscriptBase) = 2
weight (name.Subscript _) = 1

-- whether a token comes from the symbols in any case
abbrev pub has_token : List Symbol → Bool
has_token [] = false
has_token (symbol.Rows n ∷ rest) = not (is_nullable n) || has_token rest
has_token (_ ∷ _) = true

-- the weight of the names up to the first symbol from which a token comes in any case
abbrev pub lead : List Symbol → ℕ
lead [] = 0
lead (symbol.Rows n ∷ rest) = weight n + (if is_nullable n then lead rest else 0)
lead (_ ∷ _) = 0

-- the row weighs less than its name, and gives a token in any case where its name does
abbrev pub is_lighter : Rule → Bool
is_lighter r = nat_lt (lead (symbols_of r)) (weight (name_of r)) && (is_nullable (name_of r) || has_token (symbols_of r))
