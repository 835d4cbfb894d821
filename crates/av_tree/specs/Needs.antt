-- How many brackets a row needs.
use Rattle.std.specs.Prelude.{ℕ}
use Rattle.av_tree.specs.declared.table.Rule.{Rule}
use Rattle.av_tree.specs.declared.table.Rule.TheVariants as rule
use Rattle.av_tree.specs.declared.table.file.FileRule.TheVariants as file
use Rattle.av_tree.specs.declared.table.functions.FunctionRule.TheVariants as functions
use Rattle.av_tree.specs.declared.table.regions.RegionRule.TheVariants as regions
use Rattle.av_tree.specs.declared.table.generic.GenericRule.TheVariants as generic
use Rattle.av_tree.specs.declared.table.types.TypeRule.TheVariants as types
use Rattle.av_tree.specs.declared.table.attributes.AttributeRule.TheVariants as attributes
use Rattle.av_tree.specs.declared.table.maps.MapRule.TheVariants as maps
use Rattle.av_tree.specs.declared.table.arith.ArithRule.TheVariants as arith
use Rattle.av_tree.specs.declared.table.affine.AffineRule.TheVariants as affine
use Rattle.av_tree.specs.declared.table.subscripts.SubscriptRule.TheVariants as subscripts
use Rattle.av_dialects.specs.Rows.{form_of}
use Rattle.av_tree.specs.Forms.{need_of_form}

-- the least number of further brackets that are open at once in whatever a row derives
abbrev pub need_of : Rule → ℕ
need_of (rule.File file.NextAlias) = 2
need_of (rule.File file.AliasOfMap) = 2
need_of (rule.File file.AliasOfSet) = 2
need_of (rule.File file.NamedContent) = 1
need_of (rule.File file.PlainContent) = 1
need_of (rule.File file.OnlyModule) = 1
need_of (rule.File file.OnlyGenericModule) = 1
need_of (rule.File file.FirstFunction) = 1
need_of (rule.File file.NextNamedFunction) = 1
need_of (rule.File file.NextFunction) = 1
need_of (rule.File file.WrittenFunction) = 1
need_of (rule.File file.GenericFunction) = 1
need_of (rule.Function functions.BuiltinModule) = 1
need_of (rule.Function functions.FuncFunc) = 1
need_of (rule.Function functions.ModuleForm) = 1
need_of (rule.Function functions.FunctionForm) = 1
need_of (rule.Region regions.NamedRegion) = 1
need_of (rule.Generic generic.GenericForm) = 1
need_of (rule.Generic generic.WholeGeneric) = 1
need_of (rule.Generic generic.WrittenProperties) = 2
need_of (rule.Generic generic.WrittenRegions) = 2
need_of (rule.Generic generic.NextRegion) = 1
need_of (rule.Generic generic.LabelledRegion) = 1
need_of (rule.Generic generic.BlockLabel) = 1
need_of (rule.Type types.BufferType) = 1
need_of (rule.Type types.TileType) = 1
need_of (rule.Type types.MemRefType) = 1
need_of (rule.Type types.VectorType) = 1
need_of (rule.Type types.ResultTypeList) = 1
need_of (rule.Type types.StridedLayout) = 2
need_of (rule.Attribute attributes.MapAttribute) = 2
need_of (rule.Attribute attributes.SetAttribute) = 2
need_of (rule.Attribute attributes.ListAttribute) = 1
need_of (rule.Attribute attributes.DictionaryAttribute) = 1
need_of (rule.Attribute attributes.ArrayAttribute) = 1
need_of (rule.Attribute attributes.DenseAttribute) = 1
need_of (rule.Attribute attributes.WrittenHashWords) = 1
need_of (rule.Attribute attributes.DenseElements) = 1
need_of (rule.Attribute attributes.ListElement) = 1
need_of (rule.Attribute attributes.WrittenDictionary) = 1
need_of (rule.Attribute attributes.FunctionType) = 1
need_of (rule.Attribute attributes.DictionaryHere) = 1
need_of (rule.Attribute attributes.AttributesPart) = 1
need_of (rule.Map maps.WrittenMap) = 2
need_of (rule.Map maps.WrittenSet) = 2
need_of (rule.Map maps.DimensionNames) = 1
need_of (rule.Map maps.WrittenSymbolNames) = 1
need_of (rule.Map maps.InBrackets) = 1
need_of (rule.Arith arith.DenseConstant) = 1
need_of (rule.Arith arith.WrittenOverflow) = 1
need_of (rule.Arith arith.BufferSelected) = 1
need_of (rule.Arith arith.VectorThenSelected) = 1
need_of (rule.Affine affine.GreatestOf) = 1
need_of (rule.Affine affine.LeastOf) = 1
need_of (rule.Affine affine.MapBound) = 1
need_of (rule.Affine affine.WrittenIterArgs) = 1
need_of (rule.Affine affine.MapWritten) = 2
need_of (rule.Affine affine.MapByAlias) = 1
need_of (rule.Affine affine.SetWritten) = 2
need_of (rule.Affine affine.SetByAlias) = 1
need_of (rule.Affine affine.DimensionOperands) = 1
need_of (rule.Affine affine.WrittenSymbolOperands) = 1
need_of (rule.Affine affine.WrittenElse) = 1
need_of (rule.Subscript subscripts.SymbolValue) = 1
need_of (rule.Subscript subscripts.SubscriptInBrackets) = 1
need_of (rule.Operation n) = need_of_form (form_of n)
need_of _ = 0
