-- Every operation of a tree, in the order of the text, in its place. Its number is its place in this list.
use Rattle.std.specs.Prelude.{ℕ, zero, suc, ◌+◌, ◌==◌, Bool, true, false, ◌||◌, not, if◌then◌else◌, List, [], ◌∷◌, ◌++◌, length, map, flat_map, Option, Some, None, unwrap_or, codes}
use Rattle.std.specs.Option.{option_and_then, option_map, option_map_or}
use Rattle.std.specs.Str.{bytes_eq}
use Rattle.av_ir.specs.declared.ty.Ty.{Ty}
use Rattle.av_maps.specs.declared.roles.Role.{Role}
use Rattle.av_maps.specs.declared.roles.Role.TheVariants as stands
use Rattle.av_maps.specs.Roles.{applied_role}
use Rattle.av_signatures.specs.declared.signature.Arguments.TheVariants as arguments
use Rattle.av_signatures.specs.declared.signature.Ending.TheVariants as ending
use Rattle.av_signatures.specs.declared.signature.Role.{Role as Held}
use Rattle.av_signatures.specs.declared.signature.Role.TheVariants as role
use Rattle.av_tree.specs.declared.node.Node.{Node, Node', Row_of-Body, end_of-Body, more_of-Body}
use Rattle.av_tree.specs.declared.node.Body.{Body, Body', Row_of-Node, end_of-Node, more_of-Node}
use Rattle.av_tree.specs.declared.node.BodyArg.{BodyArg}
use Rattle.av_tree.specs.declared.node.Tree.{Tree}
use Rattle.av_types.specs.Relations.{same_type}
use Rattle.av_rules.specs.declared.mode.Mode.{Mode}
use Rattle.av_rules.specs.Entries.{entry_of, function_of, text_of}
use Rattle.av_rules.specs.Names.{names_in}
use Rattle.av_rules.specs.Places.{Holder, Site, name_of, site_row}
use Rattle.av_rules.specs.Rows.{Row, is_function, is_module}
use Rattle.av_rules.specs.Scopes.{Scope, Visible, role_named}
use Rattle.av_rules.specs.Typing.{index_type, result_types, spelled, type_in}
use Rattle.av_rules.specs.Views.{Function, fields, inside}

-- ---- what values are in maps
abbrev pub is_index : Option Ty → Bool
is_index t = option_map_or (same_type index_type) t false

-- the site is directly in the body of a function
abbrev pub is_in_function : Site → Bool
is_in_function site = option_map_or (λ (h : Holder). option_map_or (λ (r : Row). is_function r.role) h.row false) site.holder false

-- A result of type `index` is a symbol where it is defined directly in a function's body, or is a constant or a size; that of
-- `affine.apply` is what its operands let it be. Every other result is neither a symbol nor a dimension.
abbrev pub result_role : Site → Option Ty → Role
result_role site t =
    if not (is_index t) then stands.Plain
    else (if is_in_function site || bytes_eq (name_of site) (codes "arith.constant") || bytes_eq (name_of site) (codes "memref.dim") then stands.Symbol
    else (if bytes_eq (name_of site) (codes "affine.apply") then applied_role (map (role_named site.scope) (fields site.node).operands)
    else stands.Plain))

-- ---- definitions
abbrev pub visible : List ℕ → Option Ty → Role → Visible
visible name t r = record { name = name; ty = t; role = r }

-- the results of an operation, in front of what was visible before it
abbrev pub with_results : Site → List (Option Ty) → ℕ → List (List ℕ) → Scope → Scope
with_results site types k [] scope = scope
with_results site types k (name ∷ names) scope =
    with_results site types (k + 1) names (visible name (type_in types k) (result_role site (type_in types k)) ∷ scope)

abbrev pub types_of_results : Site → List (Option Ty)
types_of_results site = unwrap_or (option_and_then (λ row. result_types row site) (site_row site)) []

-- the name of a function, for those after it
abbrev pub function_name : Node → Option (List ℕ)
function_name node = option_and_then text_of (entry_of (codes "sym_name") node)

abbrev pub with_name : Site → List (List ℕ) → List (List ℕ)
with_name site names = if option_map_or (λ row. is_function row.role) (site_row site) false then unwrap_or (option_map (λ n. n ∷ names) (function_name site.node)) names else names

-- what is known behind an operation
abbrev pub behind : Site → Site
behind site = record site {
  scope = with_results site (types_of_results site) 0 (names_in (fields site.node).results) site.scope;
  earlier = with_name site site.earlier;
}

-- ---- regions
-- an argument of a function is a symbol where it is of type `index`; the counter of `affine.for` is a dimension; others are neither
abbrev pub argument_role : Held → ℕ → Option Ty → Role
argument_role (role.Holds count arguments.Inputs e) k t = if is_index t then stands.Symbol else stands.Plain
argument_role (role.Holds count arguments.Turn ending.AffineYield) zero t = stands.Dimension
argument_role _ k t = stands.Plain

-- the arguments of a region, in front of what was visible before it
abbrev pub with_arguments : Held → ℕ → List BodyArg → Scope → Scope
with_arguments held k [] scope = scope
with_arguments held k (arg ∷ args) scope =
    with_arguments held (k + 1) args (visible arg.name (spelled arg.ty) (argument_role held k (spelled arg.ty)) ∷ scope)

-- nothing outside is visible in a function, nor in a module
abbrev pub is_isolated : Held → Bool
is_isolated held = is_function held || is_module held

abbrev pub outside : Held → Scope → Scope
outside held scope = if is_isolated held then [] else scope

-- what an operation is in the nesting of regions; one whose name isn't known is nothing
abbrev pub held_by : Site → Held
held_by site = option_map_or (λ (row : Row). row.role) (site_row site) role.Plain

-- what the terminator of a region hands on: the results of the function, or those of the operation
abbrev pub handed_on : Site → Row → Option (List (Option Ty))
handed_on site row =
    if is_function row.role
    then option_map (λ (f : Function). map spelled f.results) (option_and_then function_of (entry_of (codes "function_type") site.node))
    else result_types row site

-- the place before the first operation of a region
abbrev pub within : Site → Body → Site
within site body = record site {
  holder = Some (record { row = site_row site; hands_on = option_and_then (handed_on site) (site_row site) });
  depth = site.depth + 1;
  scope = with_arguments (held_by site) 0 (inside body).args (outside (held_by site) site.scope);
  earlier = with_name site site.earlier;
}

-- ---- the walk
-- the operations of a region one after the other: each behind the one before it
abbrev pub in_order : (Site → List Site) → Site → List Node → List Site
in_order walk before [] = []
in_order walk before (node ∷ nodes) =
    walk (record before { node = node; is_last = length nodes == 0 })
    ++ in_order walk (behind (record before { node = node })) nodes

-- an operation, and then those of its regions, which may be nested so often
unfoldable pub sites_from : ℕ → Site → List Site
sites_from zero site = site ∷ []
sites_from (suc nested) site =
    site ∷ flat_map (λ body. in_order (sites_from nested) (within site body) (inside body).nodes) (fields site.node).regions

-- how many operations are in an operation, itself included
unfoldable mutual
  pub operations_in : Node → ℕ
  operations_in (Node' name place results operands properties attrs s bodies ins outs) = 1 + operations_in_bodies bodies

  pub operations_in_bodies : {m : _} → Row_of-Body m → ℕ
  operations_in_bodies end_of-Body = 0
  operations_in_bodies (more_of-Body body rest) = operations_within body + operations_in_bodies rest

  pub operations_within : Body → ℕ
  operations_within (Body' args s nodes) = operations_in_nodes nodes

  pub operations_in_nodes : {m : _} → Row_of-Node m → ℕ
  operations_in_nodes end_of-Node = 0
  operations_in_nodes (more_of-Node node rest) = operations_in node + operations_in_nodes rest

-- the module of a tree
abbrev pub first_site : Tree → Mode → Site
first_site tree mode = record {
  node = tree.root;
  holder = None;
  depth = 0;
  is_last = true;
  scope = [];
  earlier = [];
  aliases = tree.aliases;
  mode = mode;
}

-- regions can't be nested more often than there are operations
abbrev pub sites : Tree → Mode → List Site
sites tree mode = sites_from (operations_in tree.root) (first_site tree mode)
