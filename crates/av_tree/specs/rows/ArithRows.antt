-- The rows of operations of the Arith dialect: the symbols of each, and the name that it is a row of.
use Rattle.std.specs.Prelude.{List, [], ◌∷◌}
use Rattle.av_tree.specs.declared.table.Symbol.{Symbol}
use Rattle.av_tree.specs.declared.table.Symbol.TheVariants as symbol
use Rattle.av_tree.specs.declared.table.Name.{Name}
use Rattle.av_tree.specs.declared.table.Name.TheVariants as name
use Rattle.av_tree.specs.declared.table.arith.ArithRule.{ArithRule}
use Rattle.av_tree.specs.declared.table.arith.ArithRule.TheVariants as arith_rule
use Rattle.av_tree.specs.declared.table.types.TypeName.TheVariants as types_name
use Rattle.av_tree.specs.declared.table.attributes.AttributeName.TheVariants as attributes_name
use Rattle.av_tree.specs.declared.table.values.ValueName.TheVariants as values_name
use Rattle.av_tree.specs.declared.table.arith.ArithName.TheVariants as arith_name
use Rattle.av_lex.specs.declared.token.Sign.TheVariants as sign
use Rattle.av_tree.specs.declared.class.Keyword.TheVariants as key
use Rattle.av_tree.specs.declared.table.Test.TheVariants as test
use Rattle.av_tree.specs.declared.class.Class.{Class}
use Rattle.av_tree.specs.declared.class.Class.TheVariants as class
use Rattle.av_tree.specs.declared.table.Rule.{Rule}
use Rattle.av_tree.specs.declared.table.Rule.TheVariants as rule
use Rattle.av_tree.specs.declared.table.arith.ArithName.{ArithName}

abbrev pub symbols_of : ArithRule → List Symbol
symbols_of arith_rule.BoolConstant = (symbol.Token test.Bool) ∷ []
symbols_of arith_rule.NumberConstant = (symbol.Rows (name.Value values_name.Integer)) ∷ (symbol.Sign sign.Colon) ∷ (symbol.Rows (name.Type types_name.Type)) ∷ []
symbols_of arith_rule.DenseConstant = (symbol.Rows (name.Attribute attributes_name.Dense)) ∷ []
symbols_of arith_rule.NoOverflow = []
symbols_of arith_rule.WrittenOverflow = (symbol.Word key.Overflow) ∷ (symbol.Sign sign.OpenAngle) ∷ (symbol.Token test.OverflowFlag) ∷ (symbol.Rows (name.Arith arith_name.MoreOverflowFlags)) ∷ (symbol.Sign sign.CloseAngle) ∷ []
symbols_of arith_rule.NoMoreOverflowFlags = []
symbols_of arith_rule.NextOverflowFlag = (symbol.Sign sign.Comma) ∷ (symbol.Token test.OverflowFlag) ∷ (symbol.Rows (name.Arith arith_name.MoreOverflowFlags)) ∷ []
symbols_of arith_rule.ScalarSelected = (symbol.Token test.Scalar) ∷ []
symbols_of arith_rule.BufferSelected = (symbol.Rows (name.Type types_name.MemRef)) ∷ []
symbols_of arith_rule.VectorThenSelected = (symbol.Rows (name.Type types_name.Vector)) ∷ (symbol.Rows (name.Arith arith_name.AfterVector)) ∷ []
symbols_of arith_rule.OnlySelected = []
symbols_of arith_rule.SelectedByVector = (symbol.Sign sign.Comma) ∷ (symbol.Rows (name.Type types_name.Type)) ∷ []

abbrev pub name_of : ArithRule → Name
name_of arith_rule.BoolConstant = name.Arith arith_name.Constant
name_of arith_rule.NumberConstant = name.Arith arith_name.Constant
name_of arith_rule.DenseConstant = name.Arith arith_name.Constant
name_of arith_rule.NoOverflow = name.Arith arith_name.OptionalOverflow
name_of arith_rule.WrittenOverflow = name.Arith arith_name.OptionalOverflow
name_of arith_rule.NoMoreOverflowFlags = name.Arith arith_name.MoreOverflowFlags
name_of arith_rule.NextOverflowFlag = name.Arith arith_name.MoreOverflowFlags
name_of arith_rule.ScalarSelected = name.Arith arith_name.SelectedTypes
name_of arith_rule.BufferSelected = name.Arith arith_name.SelectedTypes
name_of arith_rule.VectorThenSelected = name.Arith arith_name.SelectedTypes
name_of arith_rule.OnlySelected = name.Arith arith_name.AfterVector
name_of arith_rule.SelectedByVector = name.Arith arith_name.AfterVector

-- the row of a name that can begin with a token of this class, or any of its rows where none can
abbrev pub choice_of : ArithName → Class → Rule
choice_of arith_name.Constant (class.Word key.Bool) = rule.Arith arith_rule.BoolConstant
choice_of arith_name.Constant (class.Word key.Dense) = rule.Arith arith_rule.DenseConstant
choice_of arith_name.Constant _ = rule.Arith arith_rule.NumberConstant
choice_of arith_name.OptionalOverflow (class.Word key.Overflow) = rule.Arith arith_rule.WrittenOverflow
choice_of arith_name.OptionalOverflow _ = rule.Arith arith_rule.NoOverflow
choice_of arith_name.MoreOverflowFlags (class.Sign sign.Comma) = rule.Arith arith_rule.NextOverflowFlag
choice_of arith_name.MoreOverflowFlags _ = rule.Arith arith_rule.NoMoreOverflowFlags
choice_of arith_name.SelectedTypes (class.Word key.MemRef) = rule.Arith arith_rule.BufferSelected
choice_of arith_name.SelectedTypes (class.Word key.Vector) = rule.Arith arith_rule.VectorThenSelected
choice_of arith_name.SelectedTypes _ = rule.Arith arith_rule.ScalarSelected
choice_of arith_name.AfterVector (class.Sign sign.Comma) = rule.Arith arith_rule.SelectedByVector
choice_of arith_name.AfterVector _ = rule.Arith arith_rule.OnlySelected
