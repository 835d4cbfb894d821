-- One token ahead tells the rows of a name apart: checked for each row and each class.
use Rattle.std.proofs.Common.{◌≡◌, ℕ, zero, suc, Bool, true, false, ◌&&◌, ◌||◌, not, nat_eq, IsTrue, List, [], ◌∷◌, get_or, refl, sym, ◌∙◌, subst}
use Rattle.av_lex.specs.declared.token.Sign.TheVariants as sign
use Rattle.av_tree.specs.declared.class.Class.{Class}
use Rattle.av_tree.specs.declared.class.Class.TheVariants as class
use Rattle.av_tree.specs.declared.class.Keyword.TheVariants as key
use Rattle.av_tree.specs.declared.table.Symbol.{Symbol}
use Rattle.av_tree.specs.declared.table.Symbol.TheVariants as symbol
use Rattle.av_tree.specs.declared.table.Name.{Name}
use Rattle.av_tree.specs.declared.table.Rule.{Rule}
use Rattle.av_tree.specs.declared.table.Rule.TheVariants as rule
use Rattle.av_tree.specs.declared.table.file.FileRule.TheVariants as file
use Rattle.av_tree.specs.declared.table.functions.FunctionRule.TheVariants as functions
use Rattle.av_tree.specs.declared.table.regions.RegionRule.TheVariants as regions
use Rattle.av_tree.specs.declared.table.generic.GenericRule.TheVariants as generic
use Rattle.av_tree.specs.declared.table.types.TypeRule.TheVariants as types
use Rattle.av_tree.specs.declared.table.attributes.AttributeRule.TheVariants as attributes
use Rattle.av_tree.specs.declared.table.maps.MapRule.TheVariants as maps
use Rattle.av_tree.specs.declared.table.values.ValueRule.TheVariants as values
use Rattle.av_tree.specs.declared.table.arith.ArithRule.TheVariants as arith
use Rattle.av_tree.specs.declared.table.affine.AffineRule.TheVariants as affine
use Rattle.av_tree.specs.declared.table.subscripts.SubscriptRule.TheVariants as subscripts
use Rattle.av_tree.specs.Classes.{fits_of}
use Rattle.av_tree.specs.Table.{symbols_of, name_of, choice_of, is_nullable, has_token}
use Rattle.std.proofs.lemmas.Bool.{eqb-true}
use Rattle.std.proofs.Common.{eq-eqb}
use Rattle.av_tree.specs.declared.table.Name.TheVariants as name
use Rattle.av_tree.specs.declared.table.file.FileName.TheVariants as file_name
use Rattle.av_tree.proofs.Lighter.{lighter}
use Rattle.av_tree.specs.Sets.{class_number, operation_in, all_classes, rule_number, operation_of, all_rules, first_of, follow_of, has, is_same_class}
use Rattle.av_tree.specs.declared.table.functions.FunctionName.TheVariants as functions_name
use Rattle.av_dialects.specs.Rows.{Part, form_of, forms}
use Rattle.av_tree.specs.Forms.{form_symbols}
use Rattle.av_tree.proofs.Forms.{of-form}
use Rattle.std.specs.List.{list_all}

unfoldable pub is_same_rule : Rule → Rule → Bool
is_same_rule a b = nat_eq (rule_number a) (rule_number b) && nat_eq (operation_of a) (operation_of b)

abbrev pub implies : Bool → Bool → Bool
implies true b = b
implies false b = true

-- whether a token of the class can come first in the symbols
abbrev pub starts : List Symbol → Class → Bool
starts [] c = false
starts (symbol.Sign s ∷ rest) c = is_same_class (class.Sign s) c
starts (symbol.Word w ∷ rest) c = is_same_class (class.Word w) c
starts (symbol.Token t ∷ rest) c = fits_of t c
starts (symbol.Rows x ∷ rest) c = has (first_of x) c || (is_nullable x && starts rest c)

-- whether a token of the class can come first in the symbols, or after them where they may give none
abbrev pub starts_before : List Symbol → Name → Class → Bool
starts_before rest x c = starts rest c || (not (has_token rest) && has (follow_of x) c)

-- what can come after a name within a row of x is known to come after that name
abbrev pub follows : List Symbol → Name → Class → Bool
follows [] x c = true
follows (symbol.Rows y ∷ rest) x c = implies (starts_before rest x c) (has (follow_of y) c) && follows rest x c
follows (_ ∷ rest) x c = follows rest x c

abbrev pub is_told_apart : Rule → Class → Bool
is_told_apart r c =
    implies (starts (symbols_of r) c) (has (first_of (name_of r)) c) &&
    (implies (starts_before (symbols_of r) (name_of r) c) (is_same_rule (choice_of (name_of r) c) r) &&
    follows (symbols_of r) (name_of r) c)

abbrev all_of : (Class → Bool) → List Class → Bool
all_of p [] = true
all_of p (c ∷ cs) = p c && all_of p cs

abbrev is_told_apart_always : ℕ → Rule → Bool
is_told_apart_always n r = all_of (is_told_apart r) (all_classes n)

pub both : (a b : Bool) → IsTrue (a && b) → IsTrue a × IsTrue b
both true b t = (refl, t)
both false b t = absurd (cc)

pub implied : (a b : Bool) → IsTrue (implies a b) → IsTrue a → IsTrue b
implied true b h t = h
implied false b h t = absurd (cc)

and-both : (a b : Bool) → IsTrue a → IsTrue b → IsTrue (a && b)
and-both true b t u = u
and-both false b t u = absurd (cc)

or-false : (a : Bool) → IsTrue (a || false) → IsTrue a
or-false true t = refl
or-false false t = t

class_at : (c : Class) → get_or (all_classes (operation_in c)) (class_number c) class.End ≡ c
unfolding class_number operation_in all_classes
class_at class.End = refl
class_at (class.Sign sign.OpenRound) = refl
class_at (class.Sign sign.CloseRound) = refl
class_at (class.Sign sign.OpenCurly) = refl
class_at (class.Sign sign.CloseCurly) = refl
class_at (class.Sign sign.OpenSquare) = refl
class_at (class.Sign sign.CloseSquare) = refl
class_at (class.Sign sign.OpenAngle) = refl
class_at (class.Sign sign.CloseAngle) = refl
class_at (class.Sign sign.Comma) = refl
class_at (class.Sign sign.Colon) = refl
class_at (class.Sign sign.Equal) = refl
class_at (class.Sign sign.Plus) = refl
class_at (class.Sign sign.Star) = refl
class_at (class.Sign sign.Minus) = refl
class_at (class.Sign sign.Question) = refl
class_at (class.Sign sign.Arrow) = refl
class_at (class.Sign sign.AtLeast) = refl
class_at (class.Sign sign.EqualEqual) = refl
class_at (class.Word key.Module) = refl
class_at (class.Word key.FuncFunc) = refl
class_at (class.Word key.MemRef) = refl
class_at (class.Word key.Vector) = refl
class_at (class.Word key.Strided) = refl
class_at (class.Word key.Offset) = refl
class_at (class.Word key.AffineMap) = refl
class_at (class.Word key.AffineSet) = refl
class_at (class.Word key.Array) = refl
class_at (class.Word key.Dense) = refl
class_at (class.Word key.FunctionType) = refl
class_at (class.Word key.Symbol) = refl
class_at (class.Word key.Overflow) = refl
class_at (class.Word key.Attributes) = refl
class_at (class.Word key.To) = refl
class_at (class.Word key.Step) = refl
class_at (class.Word key.IterArgs) = refl
class_at (class.Word key.Else) = refl
class_at (class.Word key.Into) = refl
class_at (class.Word key.From) = refl
class_at (class.Word key.Min) = refl
class_at (class.Word key.Max) = refl
class_at (class.Word key.Terminator) = refl
class_at (class.Word key.Bool) = refl
class_at (class.Word key.Visibility) = refl
class_at (class.Word key.OverflowFlag) = refl
class_at (class.Word key.Division) = refl
class_at (class.Word key.Kind) = refl
class_at (class.Word key.Predicate) = refl
class_at class.Scalar = refl
class_at class.OtherWord = refl
class_at class.Zero = refl
class_at class.Positive = refl
class_at class.DimX = refl
class_at class.ScalX = refl
class_at class.ValId = refl
class_at class.SymId = refl
class_at class.HashDigits = refl
class_at class.HashWord = refl
class_at class.HashOther = refl
class_at class.CaretId = refl
class_at class.QuotedModule = refl
class_at class.QuotedFunc = refl
class_at class.Quoted = refl
class_at (class.Word (key.Operation n)) = refl

-- Classes of one number that name one operation are the same.
pub same-number : (a b : Class) → class_number a ≡ class_number b → operation_in a ≡ operation_in b → a ≡ b
same-number a b e f =
    sym (class_at a) ∙ rw (e, f) (class_at b)

pub same-class : (a b : Class) → IsTrue (is_same_class a b) → a ≡ b
unfolding is_same_class
same-class a b t =
    let h = both _ _ t in
    same-number a b (eqb-true (class_number a) (class_number b) h.0) (eqb-true (operation_in a) (operation_in b) h.1)

pub same-as-itself : (c : Class) → IsTrue (is_same_class c c)
unfolding is_same_class
same-as-itself c = and-both _ _ (eq-eqb (class_number c) (class_number c) refl) (eq-eqb (operation_in c) (operation_in c) refl)

-- ---- the rows of operations
implies-so : (a b : Bool) → (IsTrue a → IsTrue b) → IsTrue (implies a b)
implies-so true b f = f refl
implies-so false b f = refl

all-of : (p : Class → Bool) → ((c : Class) → IsTrue (p c)) → (cs : List Class) → IsTrue (all_of p cs)
all-of p f [] = refl
all-of p f (c ∷ cs) = and-both _ _ (f c) (all-of p f cs)

all-at : (p : Class → Bool) (cs : List Class) (k : ℕ) → IsTrue (all_of p cs) → IsTrue (p class.End) → IsTrue (p (get_or cs k class.End))
all-at p [] k h e = e
all-at p (c ∷ cs) zero h e = (both _ _ h).0
all-at p (c ∷ cs) (suc k) h e = all-at p cs k (both _ _ h).1 e

end-first : (n : ℕ) (p : Class → Bool) → IsTrue (all_of p (all_classes n)) → IsTrue (p class.End)
unfolding all_classes
end-first n p h = (both _ _ h).0

for-each : (p : Class → Bool) → ((n : ℕ) → IsTrue (all_of p (all_classes n))) → (c : Class) → IsTrue (p c)
for-each p h c =
    let always : IsTrue (all_of p (all_classes (operation_in c))) = h (operation_in c) in
    subst (λ (k : Class). IsTrue (p k)) (class_at c) (all-at p (all_classes (operation_in c)) (class_number c) always (end-first (operation_in c) p always))

abbrev a_form : Name
a_form = name.Function functions_name.Form

abbrev follows_in_form : ℕ → List Part → Bool
follows_in_form n ps = all_of (λ (c : Class). follows (form_symbols ps) a_form c) (all_classes n)

follows-in-forms : (n : ℕ) → IsTrue (list_all (follows_in_form n) forms)
unfolding forms class_number operation_in all_classes first_of follow_of has is_same_class
follows-in-forms n = refl

follows-in-none : (n : ℕ) → IsTrue (follows_in_form n [])
unfolding all_classes
follows-in-none n = refl

first-of-form : (n : ℕ) → IsTrue (has (first_of a_form) (class.Word (key.Operation n)))
unfolding class_number first_of has
first-of-form n = refl

same-operation : (n : ℕ) → IsTrue (is_same_rule (rule.Operation n) (rule.Operation n))
unfolding rule_number operation_of is_same_rule
same-operation n = eq-eqb n n refl

operation-apart : (n : ℕ) (c : Class) → IsTrue (is_told_apart (rule.Operation n) c)
operation-apart n c =
    let own = λ (t : IsTrue (is_same_class (class.Word (key.Operation n)) c)). same-class (class.Word (key.Operation n)) c t in
    and-both _ _
    (implies-so _ _ (λ t. subst (λ (k : Class). IsTrue (has (first_of a_form) k)) (own t) (first-of-form n)))
    (and-both _ _
    (implies-so _ _ (λ t. subst (λ (k : Class). IsTrue (is_same_rule (choice_of a_form k) (rule.Operation n))) (own (or-false _ t)) (same-operation n)))
    (for-each (λ (k : Class). follows (form_symbols (form_of n)) a_form k)
    (λ m. of-form (follows_in_form m) (follows-in-none m) (follows-in-forms m) n) c))

-- ---- all rows
told_apart_always : (n : ℕ) (r : Rule) → IsTrue (is_told_apart_always n r)
unfolding class_number operation_in all_classes rule_number operation_of first_of follow_of has is_same_class is_same_rule
told_apart_always n (rule.Operation m) = all-of (is_told_apart (rule.Operation m)) (operation-apart m) (all_classes n)
told_apart_always n (rule.File file.WholeFile) = refl
told_apart_always n (rule.File file.NoMoreAliases) = refl
told_apart_always n (rule.File file.NextAlias) = refl
told_apart_always n (rule.File file.AliasOfMap) = refl
told_apart_always n (rule.File file.AliasOfSet) = refl
told_apart_always n (rule.File file.NoContent) = refl
told_apart_always n (rule.File file.NamedContent) = refl
told_apart_always n (rule.File file.PlainContent) = refl
told_apart_always n (rule.File file.OnlyModule) = refl
told_apart_always n (rule.File file.OnlyGenericModule) = refl
told_apart_always n (rule.File file.FirstFunction) = refl
told_apart_always n (rule.File file.NoMoreFunctions) = refl
told_apart_always n (rule.File file.NextNamedFunction) = refl
told_apart_always n (rule.File file.NextFunction) = refl
told_apart_always n (rule.File file.WrittenFunction) = refl
told_apart_always n (rule.File file.GenericFunction) = refl
told_apart_always n (rule.Function functions.BuiltinModule) = refl
told_apart_always n (rule.Function functions.NoSymbol) = refl
told_apart_always n (rule.Function functions.WrittenSymbol) = refl
told_apart_always n (rule.Function functions.FuncFunc) = refl
told_apart_always n (rule.Function functions.NoVisibility) = refl
told_apart_always n (rule.Function functions.WrittenVisibility) = refl
told_apart_always n (rule.Function functions.NoFunctionArguments) = refl
told_apart_always n (rule.Function functions.FirstFunctionArgument) = refl
told_apart_always n (rule.Function functions.NoMoreFunctionArguments) = refl
told_apart_always n (rule.Function functions.NextFunctionArgument) = refl
told_apart_always n (rule.Function functions.ArgumentOfFunction) = refl
told_apart_always n (rule.Function functions.ModuleForm) = refl
told_apart_always n (rule.Function functions.FunctionForm) = refl
told_apart_always n (rule.Region regions.NoMoreOperations) = refl
told_apart_always n (rule.Region regions.WithResults) = refl
told_apart_always n (rule.Region regions.WithoutResults) = refl
told_apart_always n (rule.Region regions.PlainOperation) = refl
told_apart_always n (rule.Region regions.TerminatorOperation) = refl
told_apart_always n (rule.Region regions.TerminatorWithValues) = refl
told_apart_always n (rule.Region regions.TerminatorLast) = refl
told_apart_always n (rule.Region regions.TerminatorThenOperation) = refl
told_apart_always n (rule.Region regions.ValuesAndTypes) = refl
told_apart_always n (rule.Region regions.NamedRegion) = refl
told_apart_always n (rule.Generic generic.GenericForm) = refl
told_apart_always n (rule.Generic generic.WholeGeneric) = refl
told_apart_always n (rule.Generic generic.NoProperties) = refl
told_apart_always n (rule.Generic generic.WrittenProperties) = refl
told_apart_always n (rule.Generic generic.NoRegions) = refl
told_apart_always n (rule.Generic generic.WrittenRegions) = refl
told_apart_always n (rule.Generic generic.NoMoreRegions) = refl
told_apart_always n (rule.Generic generic.NextRegion) = refl
told_apart_always n (rule.Generic generic.LabelledRegion) = refl
told_apart_always n (rule.Generic generic.NoLabel) = refl
told_apart_always n (rule.Generic generic.BlockLabel) = refl
told_apart_always n (rule.Generic generic.NoArguments) = refl
told_apart_always n (rule.Generic generic.FirstArgument) = refl
told_apart_always n (rule.Generic generic.NoMoreArguments) = refl
told_apart_always n (rule.Generic generic.NextArgument) = refl
told_apart_always n (rule.Type types.ScalarType) = refl
told_apart_always n (rule.Type types.BufferType) = refl
told_apart_always n (rule.Type types.TileType) = refl
told_apart_always n (rule.Type types.MemRefType) = refl
told_apart_always n (rule.Type types.NoMoreSizes) = refl
told_apart_always n (rule.Type types.NextSize) = refl
told_apart_always n (rule.Type types.VectorType) = refl
told_apart_always n (rule.Type types.NoMoreDims) = refl
told_apart_always n (rule.Type types.FixedDim) = refl
told_apart_always n (rule.Type types.ScalableDim) = refl
told_apart_always n (rule.Type types.NoTypes) = refl
told_apart_always n (rule.Type types.FirstType) = refl
told_apart_always n (rule.Type types.NoMoreTypes) = refl
told_apart_always n (rule.Type types.NextType) = refl
told_apart_always n (rule.Type types.OneResultType) = refl
told_apart_always n (rule.Type types.ResultTypeList) = refl
told_apart_always n (rule.Type types.NoResultTypes) = refl
told_apart_always n (rule.Type types.WrittenResultTypes) = refl
told_apart_always n (rule.Type types.NoLayout) = refl
told_apart_always n (rule.Type types.StridedLayout) = refl
told_apart_always n (rule.Type types.NoStrides) = refl
told_apart_always n (rule.Type types.FirstStride) = refl
told_apart_always n (rule.Type types.NoMoreStrides) = refl
told_apart_always n (rule.Type types.NextStride) = refl
told_apart_always n (rule.Type types.StaticStride) = refl
told_apart_always n (rule.Type types.DynamicStride) = refl
told_apart_always n (rule.Type types.NoOffset) = refl
told_apart_always n (rule.Type types.WrittenOffset) = refl
told_apart_always n (rule.Attribute attributes.NumberAttribute) = refl
told_apart_always n (rule.Attribute attributes.BoolAttribute) = refl
told_apart_always n (rule.Attribute attributes.StringAttribute) = refl
told_apart_always n (rule.Attribute attributes.SymbolAttribute) = refl
told_apart_always n (rule.Attribute attributes.TypeAttribute) = refl
told_apart_always n (rule.Attribute attributes.MapAttribute) = refl
told_apart_always n (rule.Attribute attributes.SetAttribute) = refl
told_apart_always n (rule.Attribute attributes.AliasAttribute) = refl
told_apart_always n (rule.Attribute attributes.HashAttribute) = refl
told_apart_always n (rule.Attribute attributes.ListAttribute) = refl
told_apart_always n (rule.Attribute attributes.DictionaryAttribute) = refl
told_apart_always n (rule.Attribute attributes.ArrayAttribute) = refl
told_apart_always n (rule.Attribute attributes.DenseAttribute) = refl
told_apart_always n (rule.Attribute attributes.NoNumberType) = refl
told_apart_always n (rule.Attribute attributes.WrittenNumberType) = refl
told_apart_always n (rule.Attribute attributes.NoHashWords) = refl
told_apart_always n (rule.Attribute attributes.WrittenHashWords) = refl
told_apart_always n (rule.Attribute attributes.NoAttributes) = refl
told_apart_always n (rule.Attribute attributes.FirstAttribute) = refl
told_apart_always n (rule.Attribute attributes.NoMoreAttributes) = refl
told_apart_always n (rule.Attribute attributes.NextAttribute) = refl
told_apart_always n (rule.Attribute attributes.NoArrayNumbers) = refl
told_apart_always n (rule.Attribute attributes.WrittenArrayNumbers) = refl
told_apart_always n (rule.Attribute attributes.DenseElements) = refl
told_apart_always n (rule.Attribute attributes.NumberElement) = refl
told_apart_always n (rule.Attribute attributes.BoolElement) = refl
told_apart_always n (rule.Attribute attributes.ListElement) = refl
told_apart_always n (rule.Attribute attributes.NoElements) = refl
told_apart_always n (rule.Attribute attributes.FirstElement) = refl
told_apart_always n (rule.Attribute attributes.NoMoreElements) = refl
told_apart_always n (rule.Attribute attributes.NextElement) = refl
told_apart_always n (rule.Attribute attributes.WrittenDictionary) = refl
told_apart_always n (rule.Attribute attributes.NoEntries) = refl
told_apart_always n (rule.Attribute attributes.FirstEntry) = refl
told_apart_always n (rule.Attribute attributes.NoMoreEntries) = refl
told_apart_always n (rule.Attribute attributes.NextEntry) = refl
told_apart_always n (rule.Attribute attributes.PlainEntry) = refl
told_apart_always n (rule.Attribute attributes.FunctionTypeEntry) = refl
told_apart_always n (rule.Attribute attributes.UnitEntry) = refl
told_apart_always n (rule.Attribute attributes.WrittenEntry) = refl
told_apart_always n (rule.Attribute attributes.UnitFunctionType) = refl
told_apart_always n (rule.Attribute attributes.WrittenFunctionType) = refl
told_apart_always n (rule.Attribute attributes.NoFunctionType) = refl
told_apart_always n (rule.Attribute attributes.FunctionType) = refl
told_apart_always n (rule.Attribute attributes.NoDictionary) = refl
told_apart_always n (rule.Attribute attributes.DictionaryHere) = refl
told_apart_always n (rule.Attribute attributes.NoAttributesPart) = refl
told_apart_always n (rule.Attribute attributes.AttributesPart) = refl
told_apart_always n (rule.Map maps.WrittenMap) = refl
told_apart_always n (rule.Map maps.WrittenSet) = refl
told_apart_always n (rule.Map maps.DimensionNames) = refl
told_apart_always n (rule.Map maps.NoSymbolNames) = refl
told_apart_always n (rule.Map maps.WrittenSymbolNames) = refl
told_apart_always n (rule.Map maps.NoWords) = refl
told_apart_always n (rule.Map maps.FirstWord) = refl
told_apart_always n (rule.Map maps.NoMoreWords) = refl
told_apart_always n (rule.Map maps.NextWord) = refl
told_apart_always n (rule.Map maps.NoExpressions) = refl
told_apart_always n (rule.Map maps.FirstExpression) = refl
told_apart_always n (rule.Map maps.NoMoreExpressions) = refl
told_apart_always n (rule.Map maps.NextExpression) = refl
told_apart_always n (rule.Map maps.NoSetRows) = refl
told_apart_always n (rule.Map maps.FirstSetRow) = refl
told_apart_always n (rule.Map maps.NoMoreSetRows) = refl
told_apart_always n (rule.Map maps.NextSetRow) = refl
told_apart_always n (rule.Map maps.RowOfSet) = refl
told_apart_always n (rule.Map maps.AtLeastZero) = refl
told_apart_always n (rule.Map maps.EqualToZero) = refl
told_apart_always n (rule.Map maps.WholeExpression) = refl
told_apart_always n (rule.Map maps.NoMoreTerms) = refl
told_apart_always n (rule.Map maps.PlusTerm) = refl
told_apart_always n (rule.Map maps.MinusTerm) = refl
told_apart_always n (rule.Map maps.WholeTerm) = refl
told_apart_always n (rule.Map maps.NoMoreFactors) = refl
told_apart_always n (rule.Map maps.TimesFactor) = refl
told_apart_always n (rule.Map maps.DivisionFactor) = refl
told_apart_always n (rule.Map maps.NumberFactor) = refl
told_apart_always n (rule.Map maps.PlainFactor) = refl
told_apart_always n (rule.Map maps.MinusFactor) = refl
told_apart_always n (rule.Map maps.NegativeNumber) = refl
told_apart_always n (rule.Map maps.NegatedBase) = refl
told_apart_always n (rule.Map maps.ParameterName) = refl
told_apart_always n (rule.Map maps.DivisionName) = refl
told_apart_always n (rule.Map maps.InBrackets) = refl
told_apart_always n (rule.Value values.NamedValue) = refl
told_apart_always n (rule.Value values.NoResultNumber) = refl
told_apart_always n (rule.Value values.WrittenResultNumber) = refl
told_apart_always n (rule.Value values.NoValues) = refl
told_apart_always n (rule.Value values.FirstValue) = refl
told_apart_always n (rule.Value values.NoMoreValues) = refl
told_apart_always n (rule.Value values.NextValue) = refl
told_apart_always n (rule.Value values.NoFurtherValue) = refl
told_apart_always n (rule.Value values.FurtherValue) = refl
told_apart_always n (rule.Value values.PlainInteger) = refl
told_apart_always n (rule.Value values.NegativeInteger) = refl
told_apart_always n (rule.Value values.NoIntegers) = refl
told_apart_always n (rule.Value values.FirstInteger) = refl
told_apart_always n (rule.Value values.NoMoreIntegers) = refl
told_apart_always n (rule.Value values.NextInteger) = refl
told_apart_always n (rule.Value values.ResultNames) = refl
told_apart_always n (rule.Value values.NoMoreResults) = refl
told_apart_always n (rule.Value values.NextResult) = refl
told_apart_always n (rule.Value values.OneResult) = refl
told_apart_always n (rule.Value values.CountedResults) = refl
told_apart_always n (rule.Arith arith.BoolConstant) = refl
told_apart_always n (rule.Arith arith.NumberConstant) = refl
told_apart_always n (rule.Arith arith.DenseConstant) = refl
told_apart_always n (rule.Arith arith.NoOverflow) = refl
told_apart_always n (rule.Arith arith.WrittenOverflow) = refl
told_apart_always n (rule.Arith arith.NoMoreOverflowFlags) = refl
told_apart_always n (rule.Arith arith.NextOverflowFlag) = refl
told_apart_always n (rule.Arith arith.ScalarSelected) = refl
told_apart_always n (rule.Arith arith.BufferSelected) = refl
told_apart_always n (rule.Arith arith.VectorThenSelected) = refl
told_apart_always n (rule.Arith arith.OnlySelected) = refl
told_apart_always n (rule.Arith arith.SelectedByVector) = refl
told_apart_always n (rule.Affine affine.GreatestOf) = refl
told_apart_always n (rule.Affine affine.PlainLowerBound) = refl
told_apart_always n (rule.Affine affine.LeastOf) = refl
told_apart_always n (rule.Affine affine.PlainUpperBound) = refl
told_apart_always n (rule.Affine affine.NumberBound) = refl
told_apart_always n (rule.Affine affine.ValueBound) = refl
told_apart_always n (rule.Affine affine.MapBound) = refl
told_apart_always n (rule.Affine affine.NoStep) = refl
told_apart_always n (rule.Affine affine.WrittenStep) = refl
told_apart_always n (rule.Affine affine.NoIterArgs) = refl
told_apart_always n (rule.Affine affine.WrittenIterArgs) = refl
told_apart_always n (rule.Affine affine.NoCarried) = refl
told_apart_always n (rule.Affine affine.FirstCarried) = refl
told_apart_always n (rule.Affine affine.NoMoreCarried) = refl
told_apart_always n (rule.Affine affine.NextCarried) = refl
told_apart_always n (rule.Affine affine.MapWritten) = refl
told_apart_always n (rule.Affine affine.MapByAlias) = refl
told_apart_always n (rule.Affine affine.SetWritten) = refl
told_apart_always n (rule.Affine affine.SetByAlias) = refl
told_apart_always n (rule.Affine affine.DimensionOperands) = refl
told_apart_always n (rule.Affine affine.NoSymbolOperands) = refl
told_apart_always n (rule.Affine affine.WrittenSymbolOperands) = refl
told_apart_always n (rule.Affine affine.NoElse) = refl
told_apart_always n (rule.Affine affine.WrittenElse) = refl
told_apart_always n (rule.Subscript subscripts.NoSubscripts) = refl
told_apart_always n (rule.Subscript subscripts.FirstSubscript) = refl
told_apart_always n (rule.Subscript subscripts.NoMoreSubscripts) = refl
told_apart_always n (rule.Subscript subscripts.NextSubscript) = refl
told_apart_always n (rule.Subscript subscripts.WholeSubscript) = refl
told_apart_always n (rule.Subscript subscripts.NoMoreSubscriptTerms) = refl
told_apart_always n (rule.Subscript subscripts.PlusSubscriptTerm) = refl
told_apart_always n (rule.Subscript subscripts.MinusSubscriptTerm) = refl
told_apart_always n (rule.Subscript subscripts.WholeSubscriptTerm) = refl
told_apart_always n (rule.Subscript subscripts.NoMoreSubscriptFactors) = refl
told_apart_always n (rule.Subscript subscripts.TimesSubscriptFactor) = refl
told_apart_always n (rule.Subscript subscripts.DivisionSubscriptFactor) = refl
told_apart_always n (rule.Subscript subscripts.NumberSubscriptFactor) = refl
told_apart_always n (rule.Subscript subscripts.PlainSubscriptFactor) = refl
told_apart_always n (rule.Subscript subscripts.MinusSubscriptFactor) = refl
told_apart_always n (rule.Subscript subscripts.NegativeSubscriptNumber) = refl
told_apart_always n (rule.Subscript subscripts.NegatedSubscriptBase) = refl
told_apart_always n (rule.Subscript subscripts.DimensionValue) = refl
told_apart_always n (rule.Subscript subscripts.SymbolValue) = refl
told_apart_always n (rule.Subscript subscripts.SubscriptInBrackets) = refl

rule_at : (r : Rule) → get_or (all_rules (operation_of r)) (rule_number r) (rule.File file.WholeFile) ≡ r
unfolding rule_number operation_of all_rules
rule_at (rule.Operation n) = refl
rule_at (rule.File file.WholeFile) = refl
rule_at (rule.File file.NoMoreAliases) = refl
rule_at (rule.File file.NextAlias) = refl
rule_at (rule.File file.AliasOfMap) = refl
rule_at (rule.File file.AliasOfSet) = refl
rule_at (rule.File file.NoContent) = refl
rule_at (rule.File file.NamedContent) = refl
rule_at (rule.File file.PlainContent) = refl
rule_at (rule.File file.OnlyModule) = refl
rule_at (rule.File file.OnlyGenericModule) = refl
rule_at (rule.File file.FirstFunction) = refl
rule_at (rule.File file.NoMoreFunctions) = refl
rule_at (rule.File file.NextNamedFunction) = refl
rule_at (rule.File file.NextFunction) = refl
rule_at (rule.File file.WrittenFunction) = refl
rule_at (rule.File file.GenericFunction) = refl
rule_at (rule.Function functions.BuiltinModule) = refl
rule_at (rule.Function functions.NoSymbol) = refl
rule_at (rule.Function functions.WrittenSymbol) = refl
rule_at (rule.Function functions.FuncFunc) = refl
rule_at (rule.Function functions.NoVisibility) = refl
rule_at (rule.Function functions.WrittenVisibility) = refl
rule_at (rule.Function functions.NoFunctionArguments) = refl
rule_at (rule.Function functions.FirstFunctionArgument) = refl
rule_at (rule.Function functions.NoMoreFunctionArguments) = refl
rule_at (rule.Function functions.NextFunctionArgument) = refl
rule_at (rule.Function functions.ArgumentOfFunction) = refl
rule_at (rule.Function functions.ModuleForm) = refl
rule_at (rule.Function functions.FunctionForm) = refl
rule_at (rule.Region regions.NoMoreOperations) = refl
rule_at (rule.Region regions.WithResults) = refl
rule_at (rule.Region regions.WithoutResults) = refl
rule_at (rule.Region regions.PlainOperation) = refl
rule_at (rule.Region regions.TerminatorOperation) = refl
rule_at (rule.Region regions.TerminatorWithValues) = refl
rule_at (rule.Region regions.TerminatorLast) = refl
rule_at (rule.Region regions.TerminatorThenOperation) = refl
rule_at (rule.Region regions.ValuesAndTypes) = refl
rule_at (rule.Region regions.NamedRegion) = refl
rule_at (rule.Generic generic.GenericForm) = refl
rule_at (rule.Generic generic.WholeGeneric) = refl
rule_at (rule.Generic generic.NoProperties) = refl
rule_at (rule.Generic generic.WrittenProperties) = refl
rule_at (rule.Generic generic.NoRegions) = refl
rule_at (rule.Generic generic.WrittenRegions) = refl
rule_at (rule.Generic generic.NoMoreRegions) = refl
rule_at (rule.Generic generic.NextRegion) = refl
rule_at (rule.Generic generic.LabelledRegion) = refl
rule_at (rule.Generic generic.NoLabel) = refl
rule_at (rule.Generic generic.BlockLabel) = refl
rule_at (rule.Generic generic.NoArguments) = refl
rule_at (rule.Generic generic.FirstArgument) = refl
rule_at (rule.Generic generic.NoMoreArguments) = refl
rule_at (rule.Generic generic.NextArgument) = refl
rule_at (rule.Type types.ScalarType) = refl
rule_at (rule.Type types.BufferType) = refl
rule_at (rule.Type types.TileType) = refl
rule_at (rule.Type types.MemRefType) = refl
rule_at (rule.Type types.NoMoreSizes) = refl
rule_at (rule.Type types.NextSize) = refl
rule_at (rule.Type types.VectorType) = refl
rule_at (rule.Type types.NoMoreDims) = refl
rule_at (rule.Type types.FixedDim) = refl
rule_at (rule.Type types.ScalableDim) = refl
rule_at (rule.Type types.NoTypes) = refl
rule_at (rule.Type types.FirstType) = refl
rule_at (rule.Type types.NoMoreTypes) = refl
rule_at (rule.Type types.NextType) = refl
rule_at (rule.Type types.OneResultType) = refl
rule_at (rule.Type types.ResultTypeList) = refl
rule_at (rule.Type types.NoResultTypes) = refl
rule_at (rule.Type types.WrittenResultTypes) = refl
rule_at (rule.Type types.NoLayout) = refl
rule_at (rule.Type types.StridedLayout) = refl
rule_at (rule.Type types.NoStrides) = refl
rule_at (rule.Type types.FirstStride) = refl
rule_at (rule.Type types.NoMoreStrides) = refl
rule_at (rule.Type types.NextStride) = refl
rule_at (rule.Type types.StaticStride) = refl
rule_at (rule.Type types.DynamicStride) = refl
rule_at (rule.Type types.NoOffset) = refl
rule_at (rule.Type types.WrittenOffset) = refl
rule_at (rule.Attribute attributes.NumberAttribute) = refl
rule_at (rule.Attribute attributes.BoolAttribute) = refl
rule_at (rule.Attribute attributes.StringAttribute) = refl
rule_at (rule.Attribute attributes.SymbolAttribute) = refl
rule_at (rule.Attribute attributes.TypeAttribute) = refl
rule_at (rule.Attribute attributes.MapAttribute) = refl
rule_at (rule.Attribute attributes.SetAttribute) = refl
rule_at (rule.Attribute attributes.AliasAttribute) = refl
rule_at (rule.Attribute attributes.HashAttribute) = refl
rule_at (rule.Attribute attributes.ListAttribute) = refl
rule_at (rule.Attribute attributes.DictionaryAttribute) = refl
rule_at (rule.Attribute attributes.ArrayAttribute) = refl
rule_at (rule.Attribute attributes.DenseAttribute) = refl
rule_at (rule.Attribute attributes.NoNumberType) = refl
rule_at (rule.Attribute attributes.WrittenNumberType) = refl
rule_at (rule.Attribute attributes.NoHashWords) = refl
rule_at (rule.Attribute attributes.WrittenHashWords) = refl
rule_at (rule.Attribute attributes.NoAttributes) = refl
rule_at (rule.Attribute attributes.FirstAttribute) = refl
rule_at (rule.Attribute attributes.NoMoreAttributes) = refl
rule_at (rule.Attribute attributes.NextAttribute) = refl
rule_at (rule.Attribute attributes.NoArrayNumbers) = refl
rule_at (rule.Attribute attributes.WrittenArrayNumbers) = refl
rule_at (rule.Attribute attributes.DenseElements) = refl
rule_at (rule.Attribute attributes.NumberElement) = refl
rule_at (rule.Attribute attributes.BoolElement) = refl
rule_at (rule.Attribute attributes.ListElement) = refl
rule_at (rule.Attribute attributes.NoElements) = refl
rule_at (rule.Attribute attributes.FirstElement) = refl
rule_at (rule.Attribute attributes.NoMoreElements) = refl
rule_at (rule.Attribute attributes.NextElement) = refl
rule_at (rule.Attribute attributes.WrittenDictionary) = refl
rule_at (rule.Attribute attributes.NoEntries) = refl
rule_at (rule.Attribute attributes.FirstEntry) = refl
rule_at (rule.Attribute attributes.NoMoreEntries) = refl
rule_at (rule.Attribute attributes.NextEntry) = refl
rule_at (rule.Attribute attributes.PlainEntry) = refl
rule_at (rule.Attribute attributes.FunctionTypeEntry) = refl
rule_at (rule.Attribute attributes.UnitEntry) = refl
rule_at (rule.Attribute attributes.WrittenEntry) = refl
rule_at (rule.Attribute attributes.UnitFunctionType) = refl
rule_at (rule.Attribute attributes.WrittenFunctionType) = refl
rule_at (rule.Attribute attributes.NoFunctionType) = refl
rule_at (rule.Attribute attributes.FunctionType) = refl
rule_at (rule.Attribute attributes.NoDictionary) = refl
rule_at (rule.Attribute attributes.DictionaryHere) = refl
rule_at (rule.Attribute attributes.NoAttributesPart) = refl
rule_at (rule.Attribute attributes.AttributesPart) = refl
rule_at (rule.Map maps.WrittenMap) = refl
rule_at (rule.Map maps.WrittenSet) = refl
rule_at (rule.Map maps.DimensionNames) = refl
rule_at (rule.Map maps.NoSymbolNames) = refl
rule_at (rule.Map maps.WrittenSymbolNames) = refl
rule_at (rule.Map maps.NoWords) = refl
rule_at (rule.Map maps.FirstWord) = refl
rule_at (rule.Map maps.NoMoreWords) = refl
rule_at (rule.Map maps.NextWord) = refl
rule_at (rule.Map maps.NoExpressions) = refl
rule_at (rule.Map maps.FirstExpression) = refl
rule_at (rule.Map maps.NoMoreExpressions) = refl
rule_at (rule.Map maps.NextExpression) = refl
rule_at (rule.Map maps.NoSetRows) = refl
rule_at (rule.Map maps.FirstSetRow) = refl
rule_at (rule.Map maps.NoMoreSetRows) = refl
rule_at (rule.Map maps.NextSetRow) = refl
rule_at (rule.Map maps.RowOfSet) = refl
rule_at (rule.Map maps.AtLeastZero) = refl
rule_at (rule.Map maps.EqualToZero) = refl
rule_at (rule.Map maps.WholeExpression) = refl
rule_at (rule.Map maps.NoMoreTerms) = refl
rule_at (rule.Map maps.PlusTerm) = refl
rule_at (rule.Map maps.MinusTerm) = refl
rule_at (rule.Map maps.WholeTerm) = refl
rule_at (rule.Map maps.NoMoreFactors) = refl
rule_at (rule.Map maps.TimesFactor) = refl
rule_at (rule.Map maps.DivisionFactor) = refl
rule_at (rule.Map maps.NumberFactor) = refl
rule_at (rule.Map maps.PlainFactor) = refl
rule_at (rule.Map maps.MinusFactor) = refl
rule_at (rule.Map maps.NegativeNumber) = refl
rule_at (rule.Map maps.NegatedBase) = refl
rule_at (rule.Map maps.ParameterName) = refl
rule_at (rule.Map maps.DivisionName) = refl
rule_at (rule.Map maps.InBrackets) = refl
rule_at (rule.Value values.NamedValue) = refl
rule_at (rule.Value values.NoResultNumber) = refl
rule_at (rule.Value values.WrittenResultNumber) = refl
rule_at (rule.Value values.NoValues) = refl
rule_at (rule.Value values.FirstValue) = refl
rule_at (rule.Value values.NoMoreValues) = refl
rule_at (rule.Value values.NextValue) = refl
rule_at (rule.Value values.NoFurtherValue) = refl
rule_at (rule.Value values.FurtherValue) = refl
rule_at (rule.Value values.PlainInteger) = refl
rule_at (rule.Value values.NegativeInteger) = refl
rule_at (rule.Value values.NoIntegers) = refl
rule_at (rule.Value values.FirstInteger) = refl
rule_at (rule.Value values.NoMoreIntegers) = refl
rule_at (rule.Value values.NextInteger) = refl
rule_at (rule.Value values.ResultNames) = refl
rule_at (rule.Value values.NoMoreResults) = refl
rule_at (rule.Value values.NextResult) = refl
rule_at (rule.Value values.OneResult) = refl
rule_at (rule.Value values.CountedResults) = refl
rule_at (rule.Arith arith.BoolConstant) = refl
rule_at (rule.Arith arith.NumberConstant) = refl
rule_at (rule.Arith arith.DenseConstant) = refl
rule_at (rule.Arith arith.NoOverflow) = refl
rule_at (rule.Arith arith.WrittenOverflow) = refl
rule_at (rule.Arith arith.NoMoreOverflowFlags) = refl
rule_at (rule.Arith arith.NextOverflowFlag) = refl
rule_at (rule.Arith arith.ScalarSelected) = refl
rule_at (rule.Arith arith.BufferSelected) = refl
rule_at (rule.Arith arith.VectorThenSelected) = refl
rule_at (rule.Arith arith.OnlySelected) = refl
rule_at (rule.Arith arith.SelectedByVector) = refl
rule_at (rule.Affine affine.GreatestOf) = refl
rule_at (rule.Affine affine.PlainLowerBound) = refl
rule_at (rule.Affine affine.LeastOf) = refl
rule_at (rule.Affine affine.PlainUpperBound) = refl
rule_at (rule.Affine affine.NumberBound) = refl
rule_at (rule.Affine affine.ValueBound) = refl
rule_at (rule.Affine affine.MapBound) = refl
rule_at (rule.Affine affine.NoStep) = refl
rule_at (rule.Affine affine.WrittenStep) = refl
rule_at (rule.Affine affine.NoIterArgs) = refl
rule_at (rule.Affine affine.WrittenIterArgs) = refl
rule_at (rule.Affine affine.NoCarried) = refl
rule_at (rule.Affine affine.FirstCarried) = refl
rule_at (rule.Affine affine.NoMoreCarried) = refl
rule_at (rule.Affine affine.NextCarried) = refl
rule_at (rule.Affine affine.MapWritten) = refl
rule_at (rule.Affine affine.MapByAlias) = refl
rule_at (rule.Affine affine.SetWritten) = refl
rule_at (rule.Affine affine.SetByAlias) = refl
rule_at (rule.Affine affine.DimensionOperands) = refl
rule_at (rule.Affine affine.NoSymbolOperands) = refl
rule_at (rule.Affine affine.WrittenSymbolOperands) = refl
rule_at (rule.Affine affine.NoElse) = refl
rule_at (rule.Affine affine.WrittenElse) = refl
rule_at (rule.Subscript subscripts.NoSubscripts) = refl
rule_at (rule.Subscript subscripts.FirstSubscript) = refl
rule_at (rule.Subscript subscripts.NoMoreSubscripts) = refl
rule_at (rule.Subscript subscripts.NextSubscript) = refl
rule_at (rule.Subscript subscripts.WholeSubscript) = refl
rule_at (rule.Subscript subscripts.NoMoreSubscriptTerms) = refl
rule_at (rule.Subscript subscripts.PlusSubscriptTerm) = refl
rule_at (rule.Subscript subscripts.MinusSubscriptTerm) = refl
rule_at (rule.Subscript subscripts.WholeSubscriptTerm) = refl
rule_at (rule.Subscript subscripts.NoMoreSubscriptFactors) = refl
rule_at (rule.Subscript subscripts.TimesSubscriptFactor) = refl
rule_at (rule.Subscript subscripts.DivisionSubscriptFactor) = refl
rule_at (rule.Subscript subscripts.NumberSubscriptFactor) = refl
rule_at (rule.Subscript subscripts.PlainSubscriptFactor) = refl
rule_at (rule.Subscript subscripts.MinusSubscriptFactor) = refl
rule_at (rule.Subscript subscripts.NegativeSubscriptNumber) = refl
rule_at (rule.Subscript subscripts.NegatedSubscriptBase) = refl
rule_at (rule.Subscript subscripts.DimensionValue) = refl
rule_at (rule.Subscript subscripts.SymbolValue) = refl
rule_at (rule.Subscript subscripts.SubscriptInBrackets) = refl

told-apart : (r : Rule) (c : Class) → IsTrue (is_told_apart r c)
told-apart r c = for-each (is_told_apart r) (λ n. told_apart_always n r) c

pub first-of-row : (r : Rule) (c : Class) → IsTrue (starts (symbols_of r) c) → IsTrue (has (first_of (name_of r)) c)
first-of-row r c = implied _ _ (both _ _ (told-apart r c)).0

same-rule : (a b : Rule) → IsTrue (is_same_rule a b) → a ≡ b
unfolding is_same_rule
same-rule a b t =
    let h = both _ _ t in
    let e : rule_number a ≡ rule_number b = eqb-true (rule_number a) (rule_number b) h.0 in
    let f : operation_of a ≡ operation_of b = eqb-true (operation_of a) (operation_of b) h.1 in
    sym (rule_at a) ∙ rw (e, f) (rule_at b)

-- The row that can begin with the token is the one that is chosen.
pub choice-of-row : (r : Rule) (c : Class) → IsTrue (starts_before (symbols_of r) (name_of r) c) → choice_of (name_of r) c ≡ r
choice-of-row r c t = same-rule _ _ (implied _ _ (both _ _ (both _ _ (told-apart r c)).1).0 t)

pub follows-of-row : (r : Rule) (c : Class) → IsTrue (follows (symbols_of r) (name_of r) c)
follows-of-row r c = (both _ _ (both _ _ (told-apart r c)).1).1

no-token : (nullable token : Bool) → IsTrue (nullable || token) → IsTrue (not token) → IsTrue nullable
no-token true token h t = refl
no-token false true h t = absurd (cc)
no-token false false h t = absurd (cc)

pub nullable-row : (r : Rule) → IsTrue (not (has_token (symbols_of r))) → IsTrue (is_nullable (name_of r))
nullable-row r = no-token _ _ (both _ _ (lighter r)).1

pub after-file : IsTrue (has (follow_of (name.File file_name.File)) class.End)
unfolding has class_number follow_of
after-file = refl
