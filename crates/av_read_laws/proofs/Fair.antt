-- Which names stand within an expression, and that signs and words of calculation are counted only there.
use Rattle.std.proofs.Common.{ℕ, ◌+◌, Bool, true, false, not, ◌&&◌, ◌||◌, IsTrue, List, [], ◌∷◌, refl}
use Rattle.std.specs.Prelude.{nat_le, if◌then◌else◌}
use Rattle.av_tree.specs.declared.class.Class.TheVariants as class
use Rattle.av_tree.specs.declared.table.Test.{Test}
use Rattle.av_tree.specs.declared.table.Test.TheVariants as test
use Rattle.av_tree.specs.declared.table.Symbol.{Symbol}
use Rattle.av_tree.specs.declared.table.Symbol.TheVariants as symbol
use Rattle.av_tree.specs.declared.table.Name.{Name}
use Rattle.av_tree.specs.declared.table.Name.TheVariants as name
use Rattle.av_tree.specs.declared.table.Rule.{Rule}
use Rattle.av_tree.specs.declared.table.Rule.TheVariants as rule
use Rattle.av_tree.specs.declared.table.file.FileRule.{FileRule}
use Rattle.av_tree.specs.declared.table.file.FileRule.TheVariants as file
use Rattle.av_tree.specs.declared.table.functions.FunctionRule.{FunctionRule}
use Rattle.av_tree.specs.declared.table.functions.FunctionRule.TheVariants as functions
use Rattle.av_tree.specs.declared.table.regions.RegionRule.{RegionRule}
use Rattle.av_tree.specs.declared.table.regions.RegionRule.TheVariants as regions
use Rattle.av_tree.specs.declared.table.generic.GenericRule.{GenericRule}
use Rattle.av_tree.specs.declared.table.generic.GenericRule.TheVariants as generics
use Rattle.av_tree.specs.declared.table.types.TypeRule.{TypeRule}
use Rattle.av_tree.specs.declared.table.types.TypeRule.TheVariants as types
use Rattle.av_tree.specs.declared.table.attributes.AttributeRule.{AttributeRule}
use Rattle.av_tree.specs.declared.table.attributes.AttributeRule.TheVariants as attributes
use Rattle.av_tree.specs.declared.table.maps.MapRule.{MapRule}
use Rattle.av_tree.specs.declared.table.maps.MapRule.TheVariants as maps
use Rattle.av_tree.specs.declared.table.maps.MapName.TheVariants as maps_name
use Rattle.av_tree.specs.declared.table.values.ValueRule.{ValueRule}
use Rattle.av_tree.specs.declared.table.values.ValueRule.TheVariants as values
use Rattle.av_tree.specs.declared.table.values.ValueName.TheVariants as values_name
use Rattle.av_tree.specs.declared.table.arith.ArithRule.{ArithRule}
use Rattle.av_tree.specs.declared.table.arith.ArithRule.TheVariants as arith_rule
use Rattle.av_tree.specs.declared.table.affine.AffineRule.{AffineRule}
use Rattle.av_tree.specs.declared.table.affine.AffineRule.TheVariants as affine
use Rattle.av_tree.specs.declared.table.subscripts.SubscriptRule.{SubscriptRule}
use Rattle.av_tree.specs.declared.table.subscripts.SubscriptRule.TheVariants as subscripts
use Rattle.av_tree.specs.declared.table.subscripts.SubscriptName.TheVariants as subscripts_name
use Rattle.std.specs.List.{list_all}
use Rattle.av_dialects.specs.Rows.{Part, forms}
use Rattle.av_tree.specs.Forms.{form_symbols}
use Rattle.av_tree.proofs.Forms.{of-form}
use Rattle.av_tree.specs.Table.{symbols_of, name_of}
use Rattle.av_tree.specs.Signs.{begins_expression, counts_sign}
use Rattle.av_read_laws.specs.Making.{is_calculation}

-- a name that stands within expressions only
abbrev pub is_deep : Name → Bool
is_deep (name.Map maps_name.Sum) = true
is_deep (name.Map maps_name.Term) = true
is_deep (name.Map maps_name.Product) = true
is_deep (name.Map maps_name.Factor) = true
is_deep (name.Map maps_name.Negated) = true
is_deep (name.Map maps_name.Base) = true
is_deep (name.Subscript subscripts_name.SubscriptSum) = true
is_deep (name.Subscript subscripts_name.SubscriptTerm) = true
is_deep (name.Subscript subscripts_name.SubscriptProduct) = true
is_deep (name.Subscript subscripts_name.SubscriptFactor) = true
is_deep (name.Subscript subscripts_name.NegatedSubscript) = true
is_deep (name.Subscript subscripts_name.SubscriptBase) = true
is_deep _ = false

-- a name that stands within expressions
abbrev pub is_inner : Name → Bool
is_inner (name.Value values_name.Value) = true
is_inner (name.Value values_name.ResultNumber) = true
is_inner x = is_deep x

-- all names among the symbols stand within expressions
abbrev pub all_inner : List Symbol → Bool
all_inner [] = true
all_inner (symbol.Rows x ∷ ss) = is_inner x && all_inner ss
all_inner (_ ∷ ss) = all_inner ss

-- none stands within expressions only
abbrev pub all_outer : List Symbol → Bool
all_outer [] = true
all_outer (symbol.Rows x ∷ ss) = not (is_deep x) && all_outer ss
all_outer (_ ∷ ss) = all_outer ss

abbrev pub one_if : Bool → ℕ
one_if true = 1
one_if false = 0

-- a test that only words of calculation fit
abbrev pub is_calculation_test : Test → Bool
is_calculation_test test.Division = true
is_calculation_test _ = false

-- how many signs and words of calculation the symbols themselves ask for
abbrev pub asked : List Symbol → ℕ
asked [] = 0
asked (symbol.Sign s ∷ ss) = one_if (is_calculation (class.Sign s)) + asked ss
asked (symbol.Word w ∷ ss) = one_if (is_calculation (class.Word w)) + asked ss
asked (symbol.Token t ∷ ss) = one_if (is_calculation_test t) + asked ss
asked (symbol.Rows x ∷ ss) = asked ss

-- A row that is counted asks for a sign or word itself. Within expressions only what stands within them follows, and no
-- other expression begins. Elsewhere nothing is counted, and only where an expression begins what stands within it follows.
abbrev pub is_fair : Rule → Bool
is_fair r =
    nat_le (if counts_sign r then 1 else 0) (asked (symbols_of r))
    && ((not (is_inner (name_of r)) || (all_inner (symbols_of r) && not (begins_expression r)))
    && (is_deep (name_of r) || (if begins_expression r then all_inner (symbols_of r) else all_outer (symbols_of r) && not (counts_sign r))))

fair-file : (r : FileRule) → IsTrue (is_fair (rule.File r))
fair-file file.WholeFile = refl
fair-file _ = refl

fair-function : (r : FunctionRule) → IsTrue (is_fair (rule.Function r))
fair-function functions.BuiltinModule = refl
fair-function _ = refl

fair-region : (r : RegionRule) → IsTrue (is_fair (rule.Region r))
fair-region regions.NoMoreOperations = refl
fair-region _ = refl

fair-generic : (r : GenericRule) → IsTrue (is_fair (rule.Generic r))
fair-generic generics.GenericForm = refl
fair-generic _ = refl

fair-type : (r : TypeRule) → IsTrue (is_fair (rule.Type r))
fair-type types.ScalarType = refl
fair-type _ = refl

fair-attribute : (r : AttributeRule) → IsTrue (is_fair (rule.Attribute r))
fair-attribute attributes.NumberAttribute = refl
fair-attribute _ = refl

fair-map : (r : MapRule) → IsTrue (is_fair (rule.Map r))
fair-map maps.WrittenMap = refl
fair-map _ = refl

fair-value : (r : ValueRule) → IsTrue (is_fair (rule.Value r))
fair-value values.NamedValue = refl
fair-value _ = refl

fair-arith : (r : ArithRule) → IsTrue (is_fair (rule.Arith r))
fair-arith arith_rule.BoolConstant = refl
fair-arith _ = refl

fair-affine : (r : AffineRule) → IsTrue (is_fair (rule.Affine r))
fair-affine affine.GreatestOf = refl
fair-affine _ = refl

fair-subscript : (r : SubscriptRule) → IsTrue (is_fair (rule.Subscript r))
fair-subscript subscripts.NoSubscripts = refl
fair-subscript _ = refl

abbrev is_fair_form : List Part → Bool
is_fair_form ps = nat_le 0 (0 + asked (form_symbols ps)) && (all_outer (form_symbols ps) && true)

fair-forms : IsTrue (list_all is_fair_form forms)
unfolding forms
fair-forms = refl

pub fair : (r : Rule) → IsTrue (is_fair r)
fair (rule.File r) = fair-file r
fair (rule.Function r) = fair-function r
fair (rule.Region r) = fair-region r
fair (rule.Generic r) = fair-generic r
fair (rule.Type r) = fair-type r
fair (rule.Attribute r) = fair-attribute r
fair (rule.Map r) = fair-map r
fair (rule.Value r) = fair-value r
fair (rule.Arith r) = fair-arith r
fair (rule.Affine r) = fair-affine r
fair (rule.Subscript r) = fair-subscript r
fair (rule.Operation n) = of-form is_fair_form refl fair-forms n
