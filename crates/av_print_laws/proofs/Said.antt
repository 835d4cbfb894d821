-- What attributes that were read say to the lines of operations.
use Rattle.std.proofs.Common.{ℕ, List, Option, Some, None, sym, ◌∙◌, ap, subst, arith}
use Rattle.std.specs.List.{All}
use Rattle.av_lex.specs.declared.token.Kind.TheVariants as kinds
use Rattle.av_tree.specs.declared.written.TypeText.{TypeText, TypeText-F, out-TypeText, out-roll-TypeText}
use Rattle.av_tree.specs.declared.written.TypeText.TheVariants as type_rolls
use Rattle.av_tree.specs.declared.written.TypeText.TheOpen as open_type
use Rattle.av_tree.specs.declared.written.MapText.{MapText}
use Rattle.av_tree.specs.declared.attribute.Attr.{Attr, Attr-F, out-Attr, out-roll-Attr}
use Rattle.av_tree.specs.declared.attribute.Attr.TheVariants as attr_rolls
use Rattle.av_tree.specs.declared.attribute.Attr.TheOpen as open_attr
use Rattle.av_tree.specs.declared.attribute.Named.{Named, out-Named}
use Rattle.av_printer.specs.Expressions.{same}
use Rattle.av_printer.specs.Operations.{property, map_in, map_of, number_in, step_of, results_in_type, results_of_type, results_in, results_of}
use Rattle.av_print_laws.specs.ReadTypes.{IsReadType, AreReadTypes, scalar, mem_ref, vector, func, none}
use Rattle.av_print_laws.specs.Spacing.{IsWord}
use Rattle.av_print_laws.specs.ReadExpressions.{IsShortInteger, IsReadMap, IsReadSet}
use Rattle.av_print_laws.specs.ReadAttributes.{IsReadAttr, number, truth, quoted, symbol, typed, mapped, bounded, alias, hashed, list, dictionary, array, dense, lone, AreReadEntries, no_entries, one_entry_more}
use Rattle.av_print_laws.proofs.ExprParts.{either}

-- ---- one level of an attribute
abbrev pub Says : Attr-F Attr Named → Type 0
Says (open_attr.Map m) = IsReadMap m
Says (open_attr.Set s) = IsReadSet s
Says (open_attr.AliasUse text) = IsWord kinds.HashId text
Says (open_attr.Hash text words) = All (IsWord kinds.Word) words
Says (open_attr.Array elem numbers) = All IsShortInteger numbers
Says (open_attr.Number z ty) = IsShortInteger z
Says (open_attr.Type ty) = IsReadType ty
Says other = Unit {0}

pub says : (a : Attr) → IsReadAttr a → Says (out-Attr a)
says _ (number z ty h k) = subst Says (sym (ap out-Attr (sym (attr_rolls.rolls-Number z ty)) ∙ out-roll-Attr (open_attr.Number z ty))) h
says _ (truth b) = subst Says (sym (ap out-Attr (sym (attr_rolls.rolls-Bool b)) ∙ out-roll-Attr (open_attr.Bool b))) tt
says _ (quoted text w) = subst Says (sym (ap out-Attr (sym (attr_rolls.rolls-Quoted text)) ∙ out-roll-Attr (open_attr.Quoted text))) tt
says _ (symbol text w) = subst Says (sym (ap out-Attr (sym (attr_rolls.rolls-Symbol text)) ∙ out-roll-Attr (open_attr.Symbol text))) tt
says _ (typed ty h) = subst Says (sym (ap out-Attr (sym (attr_rolls.rolls-Type ty)) ∙ out-roll-Attr (open_attr.Type ty))) h
says _ (mapped m h) = subst Says (sym (ap out-Attr (sym (attr_rolls.rolls-Map m)) ∙ out-roll-Attr (open_attr.Map m))) h
says _ (bounded s h) = subst Says (sym (ap out-Attr (sym (attr_rolls.rolls-Set s)) ∙ out-roll-Attr (open_attr.Set s))) h
says _ (alias text w) = subst Says (sym (ap out-Attr (sym (attr_rolls.rolls-AliasUse text)) ∙ out-roll-Attr (open_attr.AliasUse text))) w
says _ (hashed text words w h) = subst Says (sym (ap out-Attr (sym (attr_rolls.rolls-Hash text words)) ∙ out-roll-Attr (open_attr.Hash text words))) h
says _ (list items h) = subst Says (sym (ap out-Attr (sym (attr_rolls.rolls-List items)) ∙ out-roll-Attr (open_attr.List items))) tt
says _ (dictionary entries h) = subst Says (sym (ap out-Attr (sym (attr_rolls.rolls-Dictionary entries)) ∙ out-roll-Attr (open_attr.Dictionary entries))) tt
says _ (array elem numbers h k) = subst Says (sym (ap out-Attr (sym (attr_rolls.rolls-Array elem numbers)) ∙ out-roll-Attr (open_attr.Array elem numbers))) k
says _ (dense x ty h k) = subst Says (sym (ap out-Attr (sym (attr_rolls.rolls-Dense x ty)) ∙ out-roll-Attr (open_attr.Dense x ty))) tt
says _ lone = subst Says (sym (ap out-Attr (sym attr_rolls.rolls-Unit) ∙ out-roll-Attr open_attr.Unit)) tt

-- ---- properties
abbrev pub IsReadIf : Option Attr → Type 0
IsReadIf None = Unit {0}
IsReadIf (Some a) = IsReadAttr a

pub read-property : (name : List ℕ) (es : List Named) → AreReadEntries es → IsReadIf (property es name)
unfolding property
read-property name _ no_entries = tt
read-property name _ (one_entry_more e es w h k) =
    either IsReadIf (same (out-Named e).name name) (Some (out-Named e).value) (property es name) (λ b. h) (λ b. read-property name es k)

-- ---- maps
abbrev pub IsReadMapIf : Option MapText → Type 0
IsReadMapIf None = Unit {0}
IsReadMapIf (Some m) = IsReadMap m

read-map_in : (x : Attr-F Attr Named) → Says x → IsReadMapIf (map_in x)
read-map_in (open_attr.Map m) h = h
read-map_in (open_attr.Number z ty) h = tt
read-map_in (open_attr.Bool b) h = tt
read-map_in (open_attr.Quoted text) h = tt
read-map_in (open_attr.Symbol text) h = tt
read-map_in (open_attr.Type ty) h = tt
read-map_in (open_attr.Set s) h = tt
read-map_in (open_attr.AliasUse text) h = tt
read-map_in (open_attr.Hash text words) h = tt
read-map_in (open_attr.List items) h = tt
read-map_in (open_attr.Dictionary entries) h = tt
read-map_in (open_attr.Array elem numbers) h = tt
read-map_in (open_attr.Dense x ty) h = tt
read-map_in open_attr.Unit h = tt

pub read-map_of : (o : Option Attr) → IsReadIf o → IsReadMapIf (map_of o)
unfolding map_of
read-map_of None h = tt
read-map_of (Some a) h = read-map_in (out-Attr a) (says a h)

-- ---- steps
short-one : IsShortInteger (number_in open_attr.Unit)
short-one = omega arith

short-number_in : (x : Attr-F Attr Named) → Says x → IsShortInteger (number_in x)
short-number_in (open_attr.Map m) h = short-one
short-number_in (open_attr.Number z ty) h = h
short-number_in (open_attr.Bool b) h = short-one
short-number_in (open_attr.Quoted text) h = short-one
short-number_in (open_attr.Symbol text) h = short-one
short-number_in (open_attr.Type ty) h = short-one
short-number_in (open_attr.Set s) h = short-one
short-number_in (open_attr.AliasUse text) h = short-one
short-number_in (open_attr.Hash text words) h = short-one
short-number_in (open_attr.List items) h = short-one
short-number_in (open_attr.Dictionary entries) h = short-one
short-number_in (open_attr.Array elem numbers) h = short-one
short-number_in (open_attr.Dense x ty) h = short-one
short-number_in open_attr.Unit h = short-one

pub short-step_of : (o : Option Attr) → IsReadIf o → IsShortInteger (step_of o)
unfolding step_of
short-step_of None h = short-one
short-step_of (Some a) h = short-number_in (out-Attr a) (says a h)

-- ---- results of a function
abbrev ReadsResults : TypeText-F TypeText → Type 0
ReadsResults x = AreReadTypes (results_in_type x)

read-results_of_type : (ty : TypeText) → IsReadType ty → AreReadTypes (results_of_type ty)
unfolding results_of_type
read-results_of_type _ (scalar name w) =
    subst ReadsResults (sym (ap out-TypeText (sym (type_rolls.rolls-Scalar name)) ∙ out-roll-TypeText (open_type.Scalar name))) none
read-results_of_type _ (mem_ref sizes elem at h w l) =
    subst ReadsResults (sym (ap out-TypeText (sym (type_rolls.rolls-MemRef sizes elem at)) ∙ out-roll-TypeText (open_type.MemRef sizes elem at))) none
read-results_of_type _ (vector dims elem h w) =
    subst ReadsResults (sym (ap out-TypeText (sym (type_rolls.rolls-Vector dims elem)) ∙ out-roll-TypeText (open_type.Vector dims elem))) none
read-results_of_type _ (func inputs results h k) =
    subst ReadsResults (sym (ap out-TypeText (sym (type_rolls.rolls-Func inputs results)) ∙ out-roll-TypeText (open_type.Func inputs results))) k

read-results_in : (x : Attr-F Attr Named) → Says x → AreReadTypes (results_in x)
read-results_in (open_attr.Map m) h = none
read-results_in (open_attr.Number z ty) h = none
read-results_in (open_attr.Bool b) h = none
read-results_in (open_attr.Quoted text) h = none
read-results_in (open_attr.Symbol text) h = none
read-results_in (open_attr.Type ty) h = read-results_of_type ty h
read-results_in (open_attr.Set s) h = none
read-results_in (open_attr.AliasUse text) h = none
read-results_in (open_attr.Hash text words) h = none
read-results_in (open_attr.List items) h = none
read-results_in (open_attr.Dictionary entries) h = none
read-results_in (open_attr.Array elem numbers) h = none
read-results_in (open_attr.Dense x ty) h = none
read-results_in open_attr.Unit h = none

pub read-results_of : (o : Option Attr) → IsReadIf o → AreReadTypes (results_of o)
unfolding results_of
read-results_of None h = none
read-results_of (Some a) h = read-results_in (out-Attr a) (says a h)
