-- Nodes of the trees that are printed for sound programs.
use Rattle.std.proofs.Common.{◌≡◌, ℕ, zero, suc, ◌<◌, ◌≤◌, false, List, [], ◌∷◌, ◌++◌, map, length, ◌∙◌, ap, subst, sym, arith, codes}
use Rattle.std.specs.Prelude.{Some, slice_index_or}
use Rattle.std.specs.List.{All}
use Rattle.std.proofs.lemmas.Bool.{false≢true}
use Rattle.std.proofs.lemmas.List.Elements.{All-nil, All-append}
use Rattle.av_lex.specs.declared.token.Kind.TheVariants as kinds
use Rattle.av_ir.specs.declared.ty.Elem.TheVariants.{Index}
use Rattle.av_ir.specs.declared.ty.Ty.{Ty}
use Rattle.av_ir.specs.declared.ty.Ty.TheVariants.{Scalar}
use Rattle.av_tree.specs.declared.attribute.Named.{Named}
use Rattle.av_tree.specs.declared.node.Node.{Node, Node-F, roll-Node, out-roll-Node}
use Rattle.av_tree.specs.declared.node.Body.{Body, Body-F, roll-Body, out-roll-Body}
use Rattle.av_tree.specs.declared.node.BodyArg.{BodyArg}
use Rattle.av_printer.specs.declared.form.Form.TheVariants as forms
use Rattle.av_printer.specs.Expressions.{same}
use Rattle.av_totree.specs.Names.{argument_name, operation_name}
use Rattle.av_totree.specs.Types.{type_of}
use Rattle.av_program_laws.specs.Walks.{Place, type_at, name_at, next, passed, with_result, with_argument}
use Rattle.av_program_laws.specs.WrittenTrees.{node, outer_node}
use Rattle.av_program_laws.proofs.Ahead.{AreBefore, IsNamed, IsNamed-result, IsNamed-argument}
use Rattle.av_print_laws.specs.Spacing.{IsWord}
use Rattle.av_print_laws.specs.ReadTypes.{IsReadType}
use Rattle.av_print_laws.specs.ReadExpressions.{IsValue}
use Rattle.av_print_laws.specs.ReadAttributes.{AreReadEntries, no_entries}
use Rattle.av_print_laws.specs.ReadNodes as read
use Rattle.av_print_laws.specs.ReadNodes.{IsResult, IsReadArg, IsReadTypeIf, HasSymbol, IsReadLine, IsReadNode, AreReadBodies, no_bodies, one_body_more, AreReadNodes, no_nodes, one_node_more}
use Rattle.av_program_laws.proofs.PrintedNames.{IsName, argument_is, operation_is}
use Rattle.av_program_laws.proofs.PrintedParts.{all_cons, all_tail, index_type}

-- ---- rolled nodes and bodies
pub read_rolled : (x : Node-F Body Node) → IsReadLine forms.Named x → AreReadBodies forms.Named x.regions → IsReadNode forms.Named (roll-Node x)
read_rolled x l bodies =
    read.node (roll-Node x) (subst (IsReadLine forms.Named) (sym (out-roll-Node x)) l)
    (subst (λ (y : Node-F Body Node). AreReadBodies forms.Named y.regions) (sym (out-roll-Node x)) bodies)

pub one_body : (args : List BodyArg) (nodes : List Node) → All IsReadArg args → AreReadNodes forms.Named nodes
    → AreReadBodies forms.Named (roll-Body (record { args = args; nodes = nodes }) ∷ [])
one_body args nodes h k =
    let x : Body-F Body Node = record { args = args; nodes = nodes } in
    one_body_more (roll-Body x) [] (subst (λ (y : Body-F Body Node). All IsReadArg y.args) (sym (out-roll-Body x)) h)
    (subst (λ (y : Body-F Body Node). AreReadNodes forms.Named y.nodes) (sym (out-roll-Body x)) k) no_bodies

-- ---- what holds of each place
abbrev pub IsReadTy : Ty → Type 0
IsReadTy ty = IsReadType (type_of ty)

pub record IsGood (place : Place) : Type 0 where
  pub names : All IsName place.names
  pub types : All IsReadTy place.types
  pub named : IsNamed place
  pub loops : place.loops ≤ place.number

name_more : (names : List (List ℕ)) (name : List ℕ) → All IsName names → IsName name → All IsName (names ++ name ∷ [])
name_more names name h k = All-append IsName names (name ∷ []) h (all_cons IsName name [] k (All-nil IsName))

type_more : (types : List Ty) (ty : Ty) → All IsReadTy types → IsReadTy ty → All IsReadTy (types ++ ty ∷ [])
type_more types ty h k = All-append IsReadTy types (ty ∷ []) h (all_cons IsReadTy ty [] k (All-nil IsReadTy))

pub good-result : (ty : Ty) (place : Place) → IsReadTy ty → IsGood place → IsGood (with_result ty place)
unfolding with_result
good-result ty place h good =
    let few : place.loops ≤ place.number = good.loops in
    record {
      names = name_more place.names (operation_name place.operations) good.names (operation_is place.operations);
      types = type_more place.types ty good.types h;
      named = IsNamed-result ty place good.named;
      loops = omega arith;
    }

pub good-argument : (ty : Ty) (place : Place) → IsReadTy ty → IsGood place → IsGood (with_argument ty place)
unfolding with_argument
good-argument ty place h good = record {
  names = name_more place.names (argument_name place.arguments) good.names (argument_is place.arguments);
  types = type_more place.types ty good.types h;
  named = IsNamed-argument ty place good.named;
  loops = good.loops;
}

pub good-passed : (place : Place) → IsGood place → IsGood (passed place)
unfolding passed
good-passed place good =
    let few : place.loops ≤ place.number = good.loops in
    record { names = good.names; types = good.types; named = good.named; loops = omega arith }

-- ---- operands
type_or : (types : List Ty) (v : ℕ) → All IsReadTy types → IsReadTy (slice_index_or types v (Scalar Index))
type_or [] zero h = index_type
type_or [] (suc v) h = index_type
type_or (ty ∷ types) zero h = h 0 ty (omega arith)
type_or (ty ∷ types) (suc v) h = type_or types v (all_tail IsReadTy ty types h)

pub type_read : (place : Place) (v : ℕ) → IsGood place → IsReadTy (type_at place v)
type_read place v good = type_or place.types v good.types

name_read : (place : Place) (v : ℕ) → IsGood place → v < next place → IsName (name_at place v)
name_read place v good below =
    let named : length place.names ≡ length place.types = good.named in
    good.names v (codes "%") (omega arith)

uses_read : (place : Place) (vs : List ℕ) → IsGood place → AreBefore place vs → All IsValue (map (name_at place) vs)
uses_read place [] good before = All-nil IsValue
uses_read place (v ∷ vs) good before =
    all_cons IsValue (name_at place v) (map (name_at place) vs) (name_read place v good before.0).used (uses_read place vs good before.1)

takes_read : (place : Place) (vs : List ℕ) → IsGood place → All IsReadTypeIf (map (λ v. Some (type_of (type_at place v))) vs)
takes_read place [] good = All-nil IsReadTypeIf
takes_read place (v ∷ vs) good =
    all_cons IsReadTypeIf (Some (type_of (type_at place v))) (map (λ v. Some (type_of (type_at place v))) vs) (type_read place v good)
    (takes_read place vs good)

gives_read : (types : List Ty) → All IsReadTy types → All IsReadTypeIf (map (λ ty. Some (type_of ty)) types)
gives_read [] h = All-nil IsReadTypeIf
gives_read (ty ∷ types) h =
    all_cons IsReadTypeIf (Some (type_of ty)) (map (λ ty. Some (type_of ty)) types) (h 0 ty (omega arith)) (gives_read types (all_tail IsReadTy ty types h))

-- ---- nodes
no_symbol : (name : List ℕ) (properties : List Named) → same name (codes "func.func") ≡ false → HasSymbol forms.Named name properties
no_symbol name properties h e = absurd (false≢true (sym h ∙ ap (λ (text : List ℕ). same text (codes "func.func")) e))

module _ (name : List ℕ) (place : Place) (operands : List ℕ) (results : List (List ℕ)) (types : List Ty) (properties marks : List Named) where
  pub node_read : (regions : List Body) → IsGood place → IsWord kinds.Quoted (codes "\"" ++ name ++ codes "\"") → same name (codes "func.func") ≡ false
      → AreBefore place operands → All IsResult results → All IsReadTy types → AreReadEntries properties → AreReadEntries marks
      → AreReadBodies forms.Named regions → IsReadNode forms.Named (node name place operands results types properties marks regions)
  unfolding node
  node_read regions good w other before makes gives says marked bodies = read_rolled (record {
    name = name;
    place = 0;
    results = results;
    operands = map (name_at place) operands;
    properties = properties;
    attrs = marks;
    regions = regions;
    in_types = map (λ v. Some (type_of (type_at place v))) operands;
    out_types = map (λ ty. Some (type_of ty)) types;
  }) (record {
    named = w;
    makes = makes;
    uses = uses_read place operands good before;
    says = says;
    marked = marked;
    takes = takes_read place operands good;
    gives = gives_read types gives;
    symbol = no_symbol name properties other;
  }) bodies

pub outer_read : (name : List ℕ) (properties : List Named) (args : List BodyArg) (nodes : List Node)
    → IsWord kinds.Quoted (codes "\"" ++ name ++ codes "\"") → AreReadEntries properties → HasSymbol forms.Named name properties
    → All IsReadArg args → AreReadNodes forms.Named nodes
    → IsReadNode forms.Named (outer_node name properties (roll-Body (record { args = args; nodes = nodes })))
unfolding outer_node
outer_read name properties args nodes w says symbol h k = read_rolled (record {
  name = name;
  place = 0;
  results = [];
  operands = [];
  properties = properties;
  attrs = [];
  regions = roll-Body (record { args = args; nodes = nodes }) ∷ [];
  in_types = [];
  out_types = [];
}) (record {
  named = w;
  makes = All-nil IsResult;
  uses = All-nil IsValue;
  says = says;
  marked = no_entries;
  takes = All-nil IsReadTypeIf;
  gives = All-nil IsReadTypeIf;
  symbol = symbol;
}) (one_body args nodes h k)
