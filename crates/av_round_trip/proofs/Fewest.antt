-- No words that are read as an expression have fewer pairs of brackets than are printed.
use Rattle.std.proofs.Common.{◌≡◌, ℕ, ◌+◌, ◌≤◌, Bool, true, false, cond, List, [], ◌∷◌, ◌++◌, refl, sym, ap, subst, ◌∙◌, arith}
use Rattle.std.proofs.lemmas.List.{reverse-append}
use Rattle.std.proofs.lemmas.List.Sums.{sum_by-append, sum_by-cons}
use Rattle.std.specs.Prelude.{reverse, Option, Some, None, codes, if◌then◌else◌}
use Rattle.std.specs.Option.{option_and_then}
use Rattle.std.specs.Str.{bytes_eq}
use Rattle.av_lex.specs.declared.token.Sign.TheVariants as signs
use Rattle.av_tree.specs.declared.class.Class.{Class}
use Rattle.av_tree.specs.declared.class.Class.TheVariants as class
use Rattle.av_tree.specs.declared.table.Symbol.{Symbol}
use Rattle.av_tree.specs.declared.table.Symbol.TheVariants as symbol
use Rattle.av_tree.specs.declared.table.Name.{Name}
use Rattle.av_tree.specs.declared.table.Name.TheVariants as name
use Rattle.av_tree.specs.declared.table.Rule.{Rule}
use Rattle.av_tree.specs.declared.table.Rule.TheVariants as rule
use Rattle.av_tree.specs.declared.table.file.FileRule.{FileRule}
use Rattle.av_tree.specs.declared.table.file.FileRule.TheVariants as files
use Rattle.av_tree.specs.declared.table.functions.FunctionRule.{FunctionRule}
use Rattle.av_tree.specs.declared.table.functions.FunctionRule.TheVariants as functions
use Rattle.av_tree.specs.declared.table.regions.RegionRule.{RegionRule}
use Rattle.av_tree.specs.declared.table.regions.RegionRule.TheVariants as regions
use Rattle.av_tree.specs.declared.table.generic.GenericRule.{GenericRule}
use Rattle.av_tree.specs.declared.table.generic.GenericRule.TheVariants as generics
use Rattle.av_tree.specs.declared.table.types.TypeRule.{TypeRule}
use Rattle.av_tree.specs.declared.table.types.TypeRule.TheVariants as types
use Rattle.av_tree.specs.declared.table.attributes.AttributeRule.{AttributeRule}
use Rattle.av_tree.specs.declared.table.attributes.AttributeRule.TheVariants as attributes
use Rattle.av_tree.specs.declared.table.maps.MapRule.{MapRule}
use Rattle.av_tree.specs.declared.table.maps.MapRule.TheVariants as maps
use Rattle.av_tree.specs.declared.table.maps.MapName.TheVariants as maps_name
use Rattle.av_tree.specs.declared.table.values.ValueRule.{ValueRule}
use Rattle.av_tree.specs.declared.table.values.ValueRule.TheVariants as values
use Rattle.av_tree.specs.declared.table.arith.ArithRule.{ArithRule}
use Rattle.av_tree.specs.declared.table.arith.ArithRule.TheVariants as ariths
use Rattle.av_tree.specs.declared.table.affine.AffineRule.{AffineRule}
use Rattle.av_tree.specs.declared.table.affine.AffineRule.TheVariants as affines
use Rattle.av_tree.specs.declared.table.subscripts.SubscriptRule.{SubscriptRule}
use Rattle.av_tree.specs.declared.table.subscripts.SubscriptRule.TheVariants as subscripts
use Rattle.av_tree.specs.Table.{symbols_of, name_of}
use Rattle.av_values.specs.Numbers.{spelled_integer}
use Rattle.av_values.specs.Sorts.{Sort, a_text, a_expression, a_parts, Of, any, All, on_top, replaced, sort_of, sorts_of}
use Rattle.av_values.specs.declared.value.Expression.{Expression}
use Rattle.av_values.specs.declared.value.Operator.TheVariants as operator
use Rattle.av_values.specs.declared.value.Part.{Part}
use Rattle.av_values.specs.declared.value.Value.{Value}
use Rattle.av_values.specs.declared.value.Value.TheVariants as value
use Rattle.av_values.specs.Expressions.{division_of, joined_left}
use Rattle.av_parts.specs.rows.MapRows as parts_of
use Rattle.av_reader.specs.Building as building
use Rattle.av_reader.proofs.Typed.{put}
use Rattle.av_read_laws.specs.Making.{Word, class_of_word, Makes, nothing, by_sign, by_word, by_token, by_row}
use Rattle.av_round_trip.specs.Expressions.{opens_round, brackets_in, bracket, FewestBracketsLaw, NeededBracketsLaw}
use Rattle.av_round_trip.proofs.Pairs.{pairs, pairs-own, pairs-grow, pairs-one, pairs-name, pairs-const, pairs-neg, weight, weights, left-in_sum, left-in_product, joined-pairs}

-- ---- values of symbols
-- where a name stands in an expression: as an item of which a place asks for so much, or behind one
data Place : Type 0 where
  elsewhere : Place
  at : ℕ → Place
  after : ℕ → Place

abbrev place_of : Name → Place
place_of (name.Map maps_name.Base) = at 4
place_of (name.Map maps_name.Factor) = at 3
place_of (name.Map maps_name.Negated) = at 3
place_of (name.Map maps_name.Term) = at 2
place_of (name.Map maps_name.Expression) = at 1
place_of (name.Map maps_name.Product) = after 2
place_of (name.Map maps_name.Sum) = after 1
place_of _ = elsewhere

-- how many pairs are printed in a value there
abbrev cost : Place → Value → ℕ
cost (at asked) (value.Expression e) = pairs asked e.expr
cost (after asked) (value.Parts parts) = weights asked (reverse parts)
cost _ _ = 0

-- how many pairs the symbols write, and are printed in their values
abbrev needs : List Symbol → List Value → ℕ
needs [] vs = 0
needs (symbol.Sign s ∷ ss) vs = cond (opens_round (class.Sign s)) 1 0 + needs ss vs
needs (symbol.Word k ∷ ss) vs = needs ss vs
needs (symbol.Token t ∷ ss) [] = 0
needs (symbol.Token t ∷ ss) (v ∷ vs) = needs ss vs
needs (symbol.Rows x ∷ ss) [] = 0
needs (symbol.Rows x ∷ ss) (v ∷ vs) = cost (place_of x) v + needs ss vs

-- ---- what a row takes off the stack
data IsPlain : Sort → Type 0 where
  a_text_is : IsPlain a_text
  an_expression_is : IsPlain a_expression
  parts_are : IsPlain a_parts

abbrev ArePlain : List Sort → Type 0
ArePlain [] = Unit {0}
ArePlain (s ∷ ss) = IsPlain s × ArePlain ss

some-same : {A : Type 0} (a b : A) → Some a ≡ Some b → a ≡ b
some-same a b e = cc

top-is : {s : Sort} → IsPlain s → (vs : List Value) (top : Of s) (under : List Value) → on_top s vs ≡ Some (top, under) → vs ≡ any s top ∷ under
unfolding on_top
top-is a_text_is (value.Text v ∷ rest) top under e = ap (λ (p : List ℕ × List Value). value.Text p.0 ∷ p.1) (some-same (v, rest) (top, under) e)
top-is a_text_is vs top under e = absurd (cc)
top-is an_expression_is (value.Expression v ∷ rest) top under e =
    ap (λ (p : Expression × List Value). value.Expression p.0 ∷ p.1) (some-same (v, rest) (top, under) e)
top-is an_expression_is vs top under e = absurd (cc)
top-is parts_are (value.Parts v ∷ rest) top under e = ap (λ (p : List Part × List Value). value.Parts p.0 ∷ p.1) (some-same (v, rest) (top, under) e)
top-is parts_are vs top under e = absurd (cc)

-- what lies under the value on top, where there is one of the sort
below : (t : Sort) → IsPlain t → (vs : List Value) (v : Value) (onward : Of t × List Value → Option (List Value)) (found : Option (Of t × List Value))
    → on_top t vs ≡ found → option_and_then onward found ≡ Some (v ∷ []) → (P : List Value → Value → Type 0)
    → ((top : Of t × List Value) → onward top ≡ Some (v ∷ []) → P (any t top.0 ∷ top.1) v) → P vs v
below t plain vs v onward None is e P h = absurd (cc)
below t plain vs v onward (Some top) is e P h = subst (λ (l : List Value). P l v) (sym (top-is plain vs top.0 top.1 is)) (h top e)

-- what holds of values of these sorts and of what a row makes of them holds of all that it takes and makes
taken : (ss : List Sort) (s : Sort) (made : All ss → Of s) (vs : List Value) (v : Value) → ArePlain ss
    → replaced ss s (λ values. Some (made values)) vs ≡ Some (v ∷ [])
    → (P : List Value → Value → Type 0) → ((values : All ss) → P (put ss values []) (any s (made values))) → P vs v
unfolding replaced
taken [] s made vs v plain e P h =
    let none : vs ≡ [] = cc in
    let same : any s (made tt) ≡ v = cc in
    subst (λ (l : List Value). P l v) (sym none) (subst (P []) same (h tt))
taken (t ∷ ss) s made vs v plain e P h =
    below t plain.0 vs v (λ (top : Of t × List Value). replaced ss s (λ others. Some (made (top.0, others))) top.1) (on_top t vs) refl e P
    (λ top g. taken ss s (λ others. made (top.0, others)) top.1 v plain.1 g (λ l w. P (any t top.0 ∷ l) w) (λ others. h (top.0, others)))

-- ---- rows of expressions
abbrev Needs : MapRule → List Value → Value → Type 0
Needs r vs v = cost (place_of (name_of (rule.Map r))) v ≤ needs (symbols_of (rule.Map r)) vs

by_made : (r : MapRule) → ArePlain (sorts_of (symbols_of (rule.Map r)))
    → ((values : All (sorts_of (symbols_of (rule.Map r)))) → Needs r (put (sorts_of (symbols_of (rule.Map r))) values []) (any (sort_of (name_of (rule.Map r))) (parts_of.made r values)))
    → (vs : List Value) (v : Value) → parts_of.by_row r vs ≡ Some (v ∷ []) → Needs r vs v
by_made r plain h vs v e = taken (sorts_of (symbols_of (rule.Map r))) (sort_of (name_of (rule.Map r))) (parts_of.made r) vs v plain e (Needs r) h

one_more : (asked : ℕ) (others : List Part) (p : Part) → weights asked (reverse (others ++ p ∷ [])) ≡ weight asked p + weights asked (reverse others)
unfolding weights
one_more asked others p = ap (weights asked) (reverse-append others (p ∷ []))

division_weight : (floor ceil : Bool) (right : Expression)
    → weight 2 (record { operator = if floor then operator.Floor else (if ceil then operator.Ceil else operator.Mod); right = right }) ≡ pairs 3 right.expr
division_weight true ceil right = omega arith
division_weight false true right = omega arith
division_weight false false right = omega arith

in_sum : (first : Expression) (parts : List Part) → pairs 1 (joined_left first (reverse parts)).expr ≤ pairs 2 first.expr + weights 1 (reverse parts)
in_sum first parts =
    let whole = joined-pairs 1 left-in_sum first (reverse parts) in
    let grow = pairs-grow 1 2 first.expr (omega arith) in
    omega arith

in_product : (first : Expression) (parts : List Part) → pairs 2 (joined_left first (reverse parts)).expr ≤ pairs 3 first.expr + weights 2 (reverse parts)
in_product first parts =
    let whole = joined-pairs 2 left-in_product first (reverse parts) in
    let grow = pairs-grow 2 3 first.expr (omega arith) in
    omega arith

map_needs : (r : MapRule) (vs : List Value) (v : Value) → parts_of.by_row r vs ≡ Some (v ∷ []) → Needs r vs v
unfolding weights
map_needs maps.WholeExpression = by_made maps.WholeExpression (an_expression_is, (parts_are, tt)) (λ values. let h = in_sum values.0 values.1.0 in omega arith)
map_needs maps.NoMoreTerms = by_made maps.NoMoreTerms tt (λ values. omega arith)
map_needs maps.PlusTerm =
    by_made maps.PlusTerm (an_expression_is, (parts_are, tt))
    (λ values. let h = one_more 1 values.1.0 (record { operator = operator.Add; right = values.0 }) in omega arith)
map_needs maps.MinusTerm =
    by_made maps.MinusTerm (an_expression_is, (parts_are, tt))
    (λ values. let h = one_more 1 values.1.0 (record { operator = operator.Sub; right = values.0 }) in omega arith)
map_needs maps.WholeTerm = by_made maps.WholeTerm (an_expression_is, (parts_are, tt)) (λ values. let h = in_product values.0 values.1.0 in omega arith)
map_needs maps.NoMoreFactors = by_made maps.NoMoreFactors tt (λ values. omega arith)
map_needs maps.TimesFactor =
    by_made maps.TimesFactor (an_expression_is, (parts_are, tt))
    (λ values. let h = one_more 2 values.1.0 (record { operator = operator.Mul; right = values.0 }) in omega arith)
map_needs maps.DivisionFactor =
    by_made maps.DivisionFactor (a_text_is, (an_expression_is, (parts_are, tt)))
    (λ values.
    let h = one_more 2 values.1.1.0 (record { operator = division_of values.0; right = values.1.0 }) in
    let w = division_weight (bytes_eq values.0 (codes "floordiv")) (bytes_eq values.0 (codes "ceildiv")) values.1.0 in
    omega arith)
map_needs maps.NumberFactor = by_made maps.NumberFactor (a_text_is, tt) (λ values. let h = pairs-const (spelled_integer values.0 false) in omega arith)
map_needs maps.PlainFactor = by_made maps.PlainFactor (an_expression_is, tt) (λ values. let h = pairs-grow 3 4 values.0.expr (omega arith) in omega arith)
map_needs maps.MinusFactor = by_made maps.MinusFactor (an_expression_is, tt) (λ values. omega arith)
map_needs maps.NegativeNumber = by_made maps.NegativeNumber (a_text_is, tt) (λ values. let h = pairs-const (spelled_integer values.0 true) in omega arith)
map_needs maps.NegatedBase = by_made maps.NegatedBase (an_expression_is, tt) (λ values. let h = pairs-neg values.0.expr in omega arith)
map_needs maps.ParameterName = by_made maps.ParameterName (a_text_is, tt) (λ values. let h = pairs-name values.0 in omega arith)
map_needs maps.DivisionName = by_made maps.DivisionName (a_text_is, tt) (λ values. let h = pairs-name values.0 in omega arith)
map_needs maps.InBrackets =
    by_made maps.InBrackets (an_expression_is, (parts_are, tt))
    (λ values.
    let h = in_sum values.0 values.1.0 in
    let one = pairs-one 1 4 (joined_left values.0 (reverse values.1.0)).expr in
    omega arith)
map_needs r = λ vs v e. omega arith

-- ---- other rows
file-elsewhere : (r : FileRule) → place_of (name_of (rule.File r)) ≡ elsewhere
file-elsewhere files.WholeFile = refl
file-elsewhere _ = refl

function-elsewhere : (r : FunctionRule) → place_of (name_of (rule.Function r)) ≡ elsewhere
function-elsewhere functions.BuiltinModule = refl
function-elsewhere _ = refl

region-elsewhere : (r : RegionRule) → place_of (name_of (rule.Region r)) ≡ elsewhere
region-elsewhere regions.NoMoreOperations = refl
region-elsewhere _ = refl

generic-elsewhere : (r : GenericRule) → place_of (name_of (rule.Generic r)) ≡ elsewhere
generic-elsewhere generics.GenericForm = refl
generic-elsewhere _ = refl

type-elsewhere : (r : TypeRule) → place_of (name_of (rule.Type r)) ≡ elsewhere
type-elsewhere types.ScalarType = refl
type-elsewhere _ = refl

attribute-elsewhere : (r : AttributeRule) → place_of (name_of (rule.Attribute r)) ≡ elsewhere
attribute-elsewhere attributes.NumberAttribute = refl
attribute-elsewhere _ = refl

value-elsewhere : (r : ValueRule) → place_of (name_of (rule.Value r)) ≡ elsewhere
value-elsewhere values.NamedValue = refl
value-elsewhere _ = refl

arith-elsewhere : (r : ArithRule) → place_of (name_of (rule.Arith r)) ≡ elsewhere
arith-elsewhere ariths.BoolConstant = refl
arith-elsewhere _ = refl

affine-elsewhere : (r : AffineRule) → place_of (name_of (rule.Affine r)) ≡ elsewhere
affine-elsewhere affines.GreatestOf = refl
affine-elsewhere _ = refl

subscript-elsewhere : (r : SubscriptRule) → place_of (name_of (rule.Subscript r)) ≡ elsewhere
subscript-elsewhere subscripts.NoSubscripts = refl
subscript-elsewhere _ = refl

nothing_needed : (x : Name) (v : Value) (n : ℕ) → place_of x ≡ elsewhere → cost (place_of x) v ≤ n
nothing_needed x v n is = subst (λ (p : Place). cost p v ≤ n) (sym is) (omega arith)

row_needs : (r : Rule) (vs : List Value) (v : Value) → building.by_row r 0 vs ≡ Some (v ∷ []) → cost (place_of (name_of r)) v ≤ needs (symbols_of r) vs
row_needs (rule.Map r) vs v e = map_needs r vs v e
row_needs (rule.File r) vs v e = nothing_needed (name_of (rule.File r)) v (needs (symbols_of (rule.File r)) vs) (file-elsewhere r)
row_needs (rule.Function r) vs v e = nothing_needed (name_of (rule.Function r)) v (needs (symbols_of (rule.Function r)) vs) (function-elsewhere r)
row_needs (rule.Region r) vs v e = nothing_needed (name_of (rule.Region r)) v (needs (symbols_of (rule.Region r)) vs) (region-elsewhere r)
row_needs (rule.Generic r) vs v e = nothing_needed (name_of (rule.Generic r)) v (needs (symbols_of (rule.Generic r)) vs) (generic-elsewhere r)
row_needs (rule.Type r) vs v e = nothing_needed (name_of (rule.Type r)) v (needs (symbols_of (rule.Type r)) vs) (type-elsewhere r)
row_needs (rule.Attribute r) vs v e = nothing_needed (name_of (rule.Attribute r)) v (needs (symbols_of (rule.Attribute r)) vs) (attribute-elsewhere r)
row_needs (rule.Value r) vs v e = nothing_needed (name_of (rule.Value r)) v (needs (symbols_of (rule.Value r)) vs) (value-elsewhere r)
row_needs (rule.Arith r) vs v e = nothing_needed (name_of (rule.Arith r)) v (needs (symbols_of (rule.Arith r)) vs) (arith-elsewhere r)
row_needs (rule.Affine r) vs v e = nothing_needed (name_of (rule.Affine r)) v (needs (symbols_of (rule.Affine r)) vs) (affine-elsewhere r)
row_needs (rule.Subscript r) vs v e = nothing_needed (name_of (rule.Subscript r)) v (needs (symbols_of (rule.Subscript r)) vs) (subscript-elsewhere r)
row_needs (rule.Operation n) vs v e = nothing_needed (name_of (rule.Operation n)) v (needs (symbols_of (rule.Operation n)) vs) refl

-- ---- all that rows make
one_word : (w : Word) (ws : List Word) → brackets_in (w ∷ ws) ≡ cond (opens_round (class_of_word w)) 1 0 + brackets_in ws
one_word w ws = sum_by-cons (λ (w : Word). cond (opens_round (class_of_word w)) 1 0) w ws

two_lists : (ws others : List Word) → brackets_in (ws ++ others) ≡ brackets_in ws + brackets_in others
two_lists ws others = sum_by-append (λ (w : Word). cond (opens_round (class_of_word w)) 1 0) ws others

written : {most : ℕ} {ss : List Symbol} {ws : List Word} {vs : List Value} → Makes most ss ws vs → needs ss vs ≤ brackets_in ws
written nothing = omega arith
written (by_sign {s = s} {w = w} {ws = ws} is rest) =
    let inner = written rest in
    let word : brackets_in (w ∷ ws) ≡ cond (opens_round (class.Sign s)) 1 0 + brackets_in ws =
    one_word w ws ∙ ap (λ (c : Class). cond (opens_round c) 1 0 + brackets_in ws) is in
    omega arith
written (by_word {w = w} {ws = ws} is rest) =
    let inner = written rest in
    let word = one_word w ws in
    omega arith
written (by_token {w = w} {ws = ws} fits rest) =
    let inner = written rest in
    let word = one_word w ws in
    omega arith
written (by_row {x = x} {ws = ws} {others = others} {v = v} {parts = parts} r is few inner made rest) =
    let own = written inner in
    let behind = written rest in
    let row : cost (place_of x) v ≤ needs (symbols_of r) parts =
    subst (λ (y : Name). cost (place_of y) v ≤ needs (symbols_of r) parts) is (row_needs r parts v made) in
    let both = two_lists ws others in
    omega arith

pub fewest-brackets-law : FewestBracketsLaw
fewest-brackets-law most e ws made =
    let all = written made in
    let own = pairs-own 1 e.expr in
    omega arith

pub needed-brackets-law : NeededBracketsLaw
needed-brackets-law most e before inside behind is made =
    let fewest = fewest-brackets-law most e (before ++ inside ++ behind) made in
    let whole = ap brackets_in is in
    let front = two_lists (before ++ bracket signs.OpenRound ∷ inside) (bracket signs.CloseRound ∷ behind) in
    let head = two_lists before (bracket signs.OpenRound ∷ inside) in
    let opening : brackets_in (bracket signs.OpenRound ∷ inside) ≡ 1 + brackets_in inside = one_word (bracket signs.OpenRound) inside in
    let closing : brackets_in (bracket signs.CloseRound ∷ behind) ≡ 0 + brackets_in behind = one_word (bracket signs.CloseRound) behind in
    let without = two_lists (before ++ inside) behind in
    let short = two_lists before inside in
    absurd (omega arith)
