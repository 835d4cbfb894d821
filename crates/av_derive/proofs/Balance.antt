-- Each row opens as many brackets as it closes, and closes none of those that were open before but where its name does: checked for each row.
use Rattle.std.proofs.Common.{◌≡◌, ℕ, suc, ◌+◌, ◌-◌, ◌≤◌, max, Bool, ◌&&◌, nat_eq, nat_le, IsTrue, List, [], ◌∷◌, ◌++◌, refl, sym, subst, arith}
use Rattle.std.proofs.lemmas.Bool.Decides.{nat_tests}
use Rattle.av_tree.specs.declared.class.Class.{Class}
use Rattle.av_tree.specs.declared.class.Class.TheVariants as class
use Rattle.av_tree.specs.declared.class.Bracket.{Bracket}
use Rattle.av_tree.specs.declared.class.Bracket.TheVariants as bracket
use Rattle.av_tree.specs.declared.table.Symbol.{Symbol}
use Rattle.av_tree.specs.declared.table.Symbol.TheVariants as symbol
use Rattle.av_tree.specs.declared.table.Name.{Name}
use Rattle.av_tree.specs.declared.table.Rule.{Rule}
use Rattle.av_tree.specs.declared.table.Rule.TheVariants as rule
use Rattle.av_tree.specs.declared.table.file.FileRule.TheVariants as file
use Rattle.av_tree.specs.declared.table.functions.FunctionRule.TheVariants as functions
use Rattle.av_tree.specs.declared.table.regions.RegionRule.TheVariants as regions
use Rattle.av_tree.specs.declared.table.generic.GenericRule.TheVariants as generic
use Rattle.av_tree.specs.declared.table.types.TypeRule.TheVariants as types
use Rattle.av_tree.specs.declared.table.attributes.AttributeRule.TheVariants as attributes
use Rattle.av_tree.specs.declared.table.maps.MapRule.TheVariants as maps
use Rattle.av_tree.specs.declared.table.values.ValueRule.TheVariants as values
use Rattle.av_tree.specs.declared.table.arith.ArithRule.TheVariants as arith
use Rattle.av_tree.specs.declared.table.affine.AffineRule.TheVariants as affine
use Rattle.av_tree.specs.declared.table.subscripts.SubscriptRule.TheVariants as subscripts
use Rattle.std.specs.List.{list_all}
use Rattle.av_dialects.specs.Rows.{Part, forms}
use Rattle.av_tree.specs.Forms.{form_symbols}
use Rattle.av_tree.proofs.Forms.{of-form}
use Rattle.av_tree.specs.Table.{symbols_of, name_of}
use Rattle.av_tree.specs.Classes.{bracket_of}
use Rattle.av_tree.specs.Needs.{need_of}
use Rattle.av_tree.proofs.Choice.{both}
use Rattle.av_tree.proofs.Depth.{needed, lift, need-of-symbols, no-bracket}
use Rattle.av_derive.specs.Derivation.{opened}
use Rattle.av_derive.specs.State.{closed_by, Fitting, Room, Fits}

-- how many open brackets are closed before a token that does this, where so many are closed after it
abbrev asked : Bracket → ℕ → ℕ
asked bracket.Opens after = after - 1
asked bracket.Closes after = suc after
asked bracket.None after = after

-- how many of the brackets that were open before are closed at once by these symbols
abbrev dip : List Symbol → ℕ
dip [] = 0
dip (symbol.Sign s ∷ rest) = asked (bracket_of (class.Sign s)) (dip rest)
dip (symbol.Rows x ∷ rest) = max (closed_by x) (dip rest)
dip (_ ∷ rest) = dip rest

abbrev raised : Bracket → ℕ → ℕ
raised bracket.Opens n = suc n
raised _ n = n

abbrev lowered : Bracket → ℕ → ℕ
lowered bracket.Closes n = suc n
lowered _ n = n

abbrev ups : List Symbol → ℕ
ups [] = 0
ups (symbol.Sign s ∷ rest) = raised (bracket_of (class.Sign s)) (ups rest)
ups (_ ∷ rest) = ups rest

abbrev downs : List Symbol → ℕ
downs [] = 0
downs (symbol.Sign s ∷ rest) = lowered (bracket_of (class.Sign s)) (downs rest)
downs (_ ∷ rest) = downs rest

abbrev is_even : Rule → Bool
is_even r = nat_le (dip (symbols_of r)) (closed_by (name_of r)) && nat_eq (downs (symbols_of r)) (ups (symbols_of r))

abbrev is_even_form : List Part → Bool
is_even_form ps = nat_le (dip (form_symbols ps)) 0 && nat_eq (downs (form_symbols ps)) (ups (form_symbols ps))

even-forms : IsTrue (list_all is_even_form forms)
unfolding forms
even-forms = refl

even : (r : Rule) → IsTrue (is_even r)
even (rule.Operation n) = of-form is_even_form refl even-forms n
even (rule.File file.WholeFile) = refl
even (rule.File file.NoMoreAliases) = refl
even (rule.File file.NextAlias) = refl
even (rule.File file.AliasOfMap) = refl
even (rule.File file.AliasOfSet) = refl
even (rule.File file.NoContent) = refl
even (rule.File file.NamedContent) = refl
even (rule.File file.PlainContent) = refl
even (rule.File file.OnlyModule) = refl
even (rule.File file.OnlyGenericModule) = refl
even (rule.File file.FirstFunction) = refl
even (rule.File file.NoMoreFunctions) = refl
even (rule.File file.NextNamedFunction) = refl
even (rule.File file.NextFunction) = refl
even (rule.File file.WrittenFunction) = refl
even (rule.File file.GenericFunction) = refl
even (rule.Function functions.BuiltinModule) = refl
even (rule.Function functions.NoSymbol) = refl
even (rule.Function functions.WrittenSymbol) = refl
even (rule.Function functions.FuncFunc) = refl
even (rule.Function functions.NoVisibility) = refl
even (rule.Function functions.WrittenVisibility) = refl
even (rule.Function functions.NoFunctionArguments) = refl
even (rule.Function functions.FirstFunctionArgument) = refl
even (rule.Function functions.NoMoreFunctionArguments) = refl
even (rule.Function functions.NextFunctionArgument) = refl
even (rule.Function functions.ArgumentOfFunction) = refl
even (rule.Function functions.ModuleForm) = refl
even (rule.Function functions.FunctionForm) = refl
even (rule.Region regions.NoMoreOperations) = refl
even (rule.Region regions.WithResults) = refl
even (rule.Region regions.WithoutResults) = refl
even (rule.Region regions.PlainOperation) = refl
even (rule.Region regions.TerminatorOperation) = refl
even (rule.Region regions.TerminatorWithValues) = refl
even (rule.Region regions.TerminatorLast) = refl
even (rule.Region regions.TerminatorThenOperation) = refl
even (rule.Region regions.ValuesAndTypes) = refl
even (rule.Region regions.NamedRegion) = refl
even (rule.Generic generic.GenericForm) = refl
even (rule.Generic generic.WholeGeneric) = refl
even (rule.Generic generic.NoProperties) = refl
even (rule.Generic generic.WrittenProperties) = refl
even (rule.Generic generic.NoRegions) = refl
even (rule.Generic generic.WrittenRegions) = refl
even (rule.Generic generic.NoMoreRegions) = refl
even (rule.Generic generic.NextRegion) = refl
even (rule.Generic generic.LabelledRegion) = refl
even (rule.Generic generic.NoLabel) = refl
even (rule.Generic generic.BlockLabel) = refl
even (rule.Generic generic.NoArguments) = refl
even (rule.Generic generic.FirstArgument) = refl
even (rule.Generic generic.NoMoreArguments) = refl
even (rule.Generic generic.NextArgument) = refl
even (rule.Type types.ScalarType) = refl
even (rule.Type types.BufferType) = refl
even (rule.Type types.TileType) = refl
even (rule.Type types.MemRefType) = refl
even (rule.Type types.NoMoreSizes) = refl
even (rule.Type types.NextSize) = refl
even (rule.Type types.VectorType) = refl
even (rule.Type types.NoMoreDims) = refl
even (rule.Type types.FixedDim) = refl
even (rule.Type types.ScalableDim) = refl
even (rule.Type types.NoTypes) = refl
even (rule.Type types.FirstType) = refl
even (rule.Type types.NoMoreTypes) = refl
even (rule.Type types.NextType) = refl
even (rule.Type types.OneResultType) = refl
even (rule.Type types.ResultTypeList) = refl
even (rule.Type types.NoResultTypes) = refl
even (rule.Type types.WrittenResultTypes) = refl
even (rule.Type types.NoLayout) = refl
even (rule.Type types.StridedLayout) = refl
even (rule.Type types.NoStrides) = refl
even (rule.Type types.FirstStride) = refl
even (rule.Type types.NoMoreStrides) = refl
even (rule.Type types.NextStride) = refl
even (rule.Type types.StaticStride) = refl
even (rule.Type types.DynamicStride) = refl
even (rule.Type types.NoOffset) = refl
even (rule.Type types.WrittenOffset) = refl
even (rule.Attribute attributes.NumberAttribute) = refl
even (rule.Attribute attributes.BoolAttribute) = refl
even (rule.Attribute attributes.StringAttribute) = refl
even (rule.Attribute attributes.SymbolAttribute) = refl
even (rule.Attribute attributes.TypeAttribute) = refl
even (rule.Attribute attributes.MapAttribute) = refl
even (rule.Attribute attributes.SetAttribute) = refl
even (rule.Attribute attributes.AliasAttribute) = refl
even (rule.Attribute attributes.HashAttribute) = refl
even (rule.Attribute attributes.ListAttribute) = refl
even (rule.Attribute attributes.DictionaryAttribute) = refl
even (rule.Attribute attributes.ArrayAttribute) = refl
even (rule.Attribute attributes.DenseAttribute) = refl
even (rule.Attribute attributes.NoNumberType) = refl
even (rule.Attribute attributes.WrittenNumberType) = refl
even (rule.Attribute attributes.NoHashWords) = refl
even (rule.Attribute attributes.WrittenHashWords) = refl
even (rule.Attribute attributes.NoAttributes) = refl
even (rule.Attribute attributes.FirstAttribute) = refl
even (rule.Attribute attributes.NoMoreAttributes) = refl
even (rule.Attribute attributes.NextAttribute) = refl
even (rule.Attribute attributes.NoArrayNumbers) = refl
even (rule.Attribute attributes.WrittenArrayNumbers) = refl
even (rule.Attribute attributes.DenseElements) = refl
even (rule.Attribute attributes.NumberElement) = refl
even (rule.Attribute attributes.BoolElement) = refl
even (rule.Attribute attributes.ListElement) = refl
even (rule.Attribute attributes.NoElements) = refl
even (rule.Attribute attributes.FirstElement) = refl
even (rule.Attribute attributes.NoMoreElements) = refl
even (rule.Attribute attributes.NextElement) = refl
even (rule.Attribute attributes.WrittenDictionary) = refl
even (rule.Attribute attributes.NoEntries) = refl
even (rule.Attribute attributes.FirstEntry) = refl
even (rule.Attribute attributes.NoMoreEntries) = refl
even (rule.Attribute attributes.NextEntry) = refl
even (rule.Attribute attributes.PlainEntry) = refl
even (rule.Attribute attributes.FunctionTypeEntry) = refl
even (rule.Attribute attributes.UnitEntry) = refl
even (rule.Attribute attributes.WrittenEntry) = refl
even (rule.Attribute attributes.UnitFunctionType) = refl
even (rule.Attribute attributes.WrittenFunctionType) = refl
even (rule.Attribute attributes.NoFunctionType) = refl
even (rule.Attribute attributes.FunctionType) = refl
even (rule.Attribute attributes.NoDictionary) = refl
even (rule.Attribute attributes.DictionaryHere) = refl
even (rule.Attribute attributes.NoAttributesPart) = refl
even (rule.Attribute attributes.AttributesPart) = refl
even (rule.Map maps.WrittenMap) = refl
even (rule.Map maps.WrittenSet) = refl
even (rule.Map maps.DimensionNames) = refl
even (rule.Map maps.NoSymbolNames) = refl
even (rule.Map maps.WrittenSymbolNames) = refl
even (rule.Map maps.NoWords) = refl
even (rule.Map maps.FirstWord) = refl
even (rule.Map maps.NoMoreWords) = refl
even (rule.Map maps.NextWord) = refl
even (rule.Map maps.NoExpressions) = refl
even (rule.Map maps.FirstExpression) = refl
even (rule.Map maps.NoMoreExpressions) = refl
even (rule.Map maps.NextExpression) = refl
even (rule.Map maps.NoSetRows) = refl
even (rule.Map maps.FirstSetRow) = refl
even (rule.Map maps.NoMoreSetRows) = refl
even (rule.Map maps.NextSetRow) = refl
even (rule.Map maps.RowOfSet) = refl
even (rule.Map maps.AtLeastZero) = refl
even (rule.Map maps.EqualToZero) = refl
even (rule.Map maps.WholeExpression) = refl
even (rule.Map maps.NoMoreTerms) = refl
even (rule.Map maps.PlusTerm) = refl
even (rule.Map maps.MinusTerm) = refl
even (rule.Map maps.WholeTerm) = refl
even (rule.Map maps.NoMoreFactors) = refl
even (rule.Map maps.TimesFactor) = refl
even (rule.Map maps.DivisionFactor) = refl
even (rule.Map maps.NumberFactor) = refl
even (rule.Map maps.PlainFactor) = refl
even (rule.Map maps.MinusFactor) = refl
even (rule.Map maps.NegativeNumber) = refl
even (rule.Map maps.NegatedBase) = refl
even (rule.Map maps.ParameterName) = refl
even (rule.Map maps.DivisionName) = refl
even (rule.Map maps.InBrackets) = refl
even (rule.Value values.NamedValue) = refl
even (rule.Value values.NoResultNumber) = refl
even (rule.Value values.WrittenResultNumber) = refl
even (rule.Value values.NoValues) = refl
even (rule.Value values.FirstValue) = refl
even (rule.Value values.NoMoreValues) = refl
even (rule.Value values.NextValue) = refl
even (rule.Value values.NoFurtherValue) = refl
even (rule.Value values.FurtherValue) = refl
even (rule.Value values.PlainInteger) = refl
even (rule.Value values.NegativeInteger) = refl
even (rule.Value values.NoIntegers) = refl
even (rule.Value values.FirstInteger) = refl
even (rule.Value values.NoMoreIntegers) = refl
even (rule.Value values.NextInteger) = refl
even (rule.Value values.ResultNames) = refl
even (rule.Value values.NoMoreResults) = refl
even (rule.Value values.NextResult) = refl
even (rule.Value values.OneResult) = refl
even (rule.Value values.CountedResults) = refl
even (rule.Arith arith.BoolConstant) = refl
even (rule.Arith arith.NumberConstant) = refl
even (rule.Arith arith.DenseConstant) = refl
even (rule.Arith arith.NoOverflow) = refl
even (rule.Arith arith.WrittenOverflow) = refl
even (rule.Arith arith.NoMoreOverflowFlags) = refl
even (rule.Arith arith.NextOverflowFlag) = refl
even (rule.Arith arith.ScalarSelected) = refl
even (rule.Arith arith.BufferSelected) = refl
even (rule.Arith arith.VectorThenSelected) = refl
even (rule.Arith arith.OnlySelected) = refl
even (rule.Arith arith.SelectedByVector) = refl
even (rule.Affine affine.GreatestOf) = refl
even (rule.Affine affine.PlainLowerBound) = refl
even (rule.Affine affine.LeastOf) = refl
even (rule.Affine affine.PlainUpperBound) = refl
even (rule.Affine affine.NumberBound) = refl
even (rule.Affine affine.ValueBound) = refl
even (rule.Affine affine.MapBound) = refl
even (rule.Affine affine.NoStep) = refl
even (rule.Affine affine.WrittenStep) = refl
even (rule.Affine affine.NoIterArgs) = refl
even (rule.Affine affine.WrittenIterArgs) = refl
even (rule.Affine affine.NoCarried) = refl
even (rule.Affine affine.FirstCarried) = refl
even (rule.Affine affine.NoMoreCarried) = refl
even (rule.Affine affine.NextCarried) = refl
even (rule.Affine affine.MapWritten) = refl
even (rule.Affine affine.MapByAlias) = refl
even (rule.Affine affine.SetWritten) = refl
even (rule.Affine affine.SetByAlias) = refl
even (rule.Affine affine.DimensionOperands) = refl
even (rule.Affine affine.NoSymbolOperands) = refl
even (rule.Affine affine.WrittenSymbolOperands) = refl
even (rule.Affine affine.NoElse) = refl
even (rule.Affine affine.WrittenElse) = refl
even (rule.Subscript subscripts.NoSubscripts) = refl
even (rule.Subscript subscripts.FirstSubscript) = refl
even (rule.Subscript subscripts.NoMoreSubscripts) = refl
even (rule.Subscript subscripts.NextSubscript) = refl
even (rule.Subscript subscripts.WholeSubscript) = refl
even (rule.Subscript subscripts.NoMoreSubscriptTerms) = refl
even (rule.Subscript subscripts.PlusSubscriptTerm) = refl
even (rule.Subscript subscripts.MinusSubscriptTerm) = refl
even (rule.Subscript subscripts.WholeSubscriptTerm) = refl
even (rule.Subscript subscripts.NoMoreSubscriptFactors) = refl
even (rule.Subscript subscripts.TimesSubscriptFactor) = refl
even (rule.Subscript subscripts.DivisionSubscriptFactor) = refl
even (rule.Subscript subscripts.NumberSubscriptFactor) = refl
even (rule.Subscript subscripts.PlainSubscriptFactor) = refl
even (rule.Subscript subscripts.MinusSubscriptFactor) = refl
even (rule.Subscript subscripts.NegativeSubscriptNumber) = refl
even (rule.Subscript subscripts.NegatedSubscriptBase) = refl
even (rule.Subscript subscripts.DimensionValue) = refl
even (rule.Subscript subscripts.SymbolValue) = refl
even (rule.Subscript subscripts.SubscriptInBrackets) = refl

sign-fits : (b : Bracket) (most d after dips : ℕ) → d + needed b after ≤ most → asked b dips ≤ d
    → Fitting most d b × (opened b d + after ≤ most) × (dips ≤ opened b d)
sign-fits bracket.Opens most d after dips h k = (omega arith, omega arith, omega arith)
sign-fits bracket.Closes most d after dips h k = (omega arith, omega arith, omega arith)
sign-fits bracket.None most d after dips h k = (tt, h, k)

sign-end : (b : Bracket) (d up down dips : ℕ) → asked b dips ≤ d → (d + raised b up) - lowered b down ≡ (opened b d + up) - down
sign-end bracket.Opens d up down dips k = omega arith
sign-end bracket.Closes d up down dips k = omega arith
sign-end bracket.None d up down dips k = refl

room-rest : (xs ss : List Symbol) (most d : ℕ) → d + lift xs ≤ most → dip xs ≤ d → Room most ((d + ups xs) - downs xs) ss → Room most d (xs ++ ss)
room-rest [] ss most d h k r = let e : (d + 0) - 0 ≡ d = omega arith in subst (λ (v : ℕ). Room most v ss) e r
room-rest (symbol.Sign s ∷ xs) ss most d h k r =
    let b : Bracket = bracket_of (class.Sign s) in
    let f = sign-fits b most d (lift xs) (dip xs) h k in
    let r' : Room most ((opened b d + ups xs) - downs xs) ss = subst (λ (v : ℕ). Room most v ss) (sign-end b d (ups xs) (downs xs) (dip xs) k) r in
    (f.0, room-rest xs ss most (opened b d) f.1 f.2 r')
room-rest (symbol.Rows x ∷ xs) ss most d h k r = (omega arith, omega arith, room-rest xs ss most d (omega arith) (omega arith) r)
room-rest (symbol.Word w ∷ xs) ss most d h k r = room-rest xs ss most d h k r
room-rest (symbol.Token t ∷ xs) ss most d h k r = room-rest xs ss most d h k r

at-most : (a b : ℕ) → IsTrue (nat_le a b) → a ≤ b
at-most a b t = grind (arith, nat_tests)

same-number : (a b : ℕ) → IsTrue (nat_eq a b) → a ≡ b
same-number a b t = grind (arith, nat_tests)

between : (a b c : ℕ) → a ≤ b → b ≤ c → a ≤ c
between a b c h k = omega arith

back : (d up down : ℕ) → down ≡ up → d ≡ (d + up) - down
back d up down e = omega arith

-- A row of a name has room where the name has, and where the row's own need keeps the limit.
pub room-row : (r : Rule) (x : Name) (ss : List Symbol) (most d : ℕ) → name_of r ≡ x → d + need_of r ≤ most
    → Room most d (symbol.Rows x ∷ ss) → Room most d (symbols_of r ++ ss)
room-row r x ss most d e h room =
    let low : dip (symbols_of r) ≤ closed_by (name_of r) = at-most _ _ (both _ _ (even r)).0 in
    let same : downs (symbols_of r) ≡ ups (symbols_of r) = same-number _ _ (both _ _ (even r)).1 in
    let own : closed_by (name_of r) ≤ d = rw e room.1 in
    let needs : d + lift (symbols_of r) ≤ most = rw (← need-of-symbols r) h in
    room-rest (symbols_of r) ss most d needs (between _ _ _ low own) (subst (λ (v : ℕ). Room most v ss) (back d _ _ same) room.2)

-- The symbols after a token have room where those that began with it had.
pub room-token : (s : Symbol) (c : Class) (ss : List Symbol) (most d : ℕ) → Fits s c → Room most d (s ∷ ss) → Room most (opened (bracket_of c) d) ss
room-token (symbol.Sign s) c ss most d e room = subst (λ (v : Class). Room most (opened (bracket_of v) d) ss) (sym e) room.1
room-token (symbol.Word w) c ss most d e room = subst (λ (v : Class). Room most (opened (bracket_of v) d) ss) (sym e) room
room-token (symbol.Token t) c ss most d e room = subst (λ (b : Bracket). Room most (opened b d) ss) (sym (no-bracket t c e)) room
room-token (symbol.Rows x) c ss most d e room = absurd e

-- A sign that has room keeps the limit.
pub sign-within : (b : Bracket) (most d : ℕ) → d ≤ most → Fitting most d b → opened b d ≤ most
sign-within bracket.Opens most d h f = f
sign-within bracket.Closes most d h f = omega arith
sign-within bracket.None most d h f = h
