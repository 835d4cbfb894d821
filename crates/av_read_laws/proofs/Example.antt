-- The tree of `module {}`, row by row.
use Rattle.std.proofs.Common.{◌≡◌, ℕ, List, [], ◌∷◌, true, Bool, refl, ap, ◌∙◌, lit≤}
use Rattle.std.specs.Prelude.{codes, if◌then◌else◌, Some}
use Rattle.std.specs.Str.{bytes_eq}
use Rattle.av_lex.specs.declared.token.Kind.TheVariants as kind
use Rattle.av_lex.specs.declared.token.Sign.TheVariants as sign
use Rattle.av_tree.specs.declared.node.Node.{Node, Node-F, out-Node, out-roll-Node}
use Rattle.av_tree.specs.declared.node.Body.{Body}
use Rattle.av_tree.specs.declared.table.Symbol.TheVariants as symbol
use Rattle.av_tree.specs.declared.table.Name.TheVariants as name
use Rattle.av_tree.specs.declared.table.Rule.TheVariants as rule
use Rattle.av_tree.specs.declared.table.file.FileName.TheVariants as file_name
use Rattle.av_tree.specs.declared.table.file.FileRule.TheVariants as file
use Rattle.av_tree.specs.declared.table.functions.FunctionName.TheVariants as functions_name
use Rattle.av_tree.specs.declared.table.functions.FunctionRule.TheVariants as functions
use Rattle.av_tree.specs.declared.table.regions.RegionName.TheVariants as regions_name
use Rattle.av_tree.specs.declared.table.regions.RegionRule.TheVariants as regions
use Rattle.av_tree.specs.declared.table.attributes.AttributeRule.TheVariants as attributes
use Rattle.av_derive.specs.ClassOf.{keywords}
use Rattle.av_values.specs.declared.value.Value.TheVariants as value
use Rattle.av_values.specs.Nodes.{plain}
use Rattle.av_values.specs.Operations.{is_module, module_of, root_of}
use Rattle.av_reader.specs.Building as building
use Rattle.av_values.specs.Sorts.{on_top, replaced}
use Rattle.av_read_laws.specs.Making.{Makes, nothing, by_sign, by_word, by_row}
use Rattle.av_read_laws.specs.Laws.{ExampleLaw, example_words, example_tree}

abbrev module_here : Node
module_here = module_of [] [] [] 0

plain-name : (name : List ℕ) → (out-Node (plain name 0)).name ≡ name
unfolding plain
plain-name name = ap (λ (x : Node-F Body Node). x.name) (out-roll-Node _)

here : is_module (module_here ∷ []) ≡ true
here =
    ap (λ (x : Node-F Body Node). bytes_eq x.name (codes "builtin.module")) (out-roll-Node _)
    ∙ ap (λ (n : List ℕ). bytes_eq n (codes "builtin.module")) (plain-name (codes "builtin.module"))

root : root_of (module_here ∷ []) ≡ module_here
root = ap (λ (b : Bool). if b then module_here else module_of [] [] (module_here ∷ []) 0) here

region : Makes 192 (symbol.Rows (name.Region regions_name.Region) ∷ [])
    ((kind.Sign sign.OpenCurly, codes "{") ∷ (kind.Sign sign.CloseCurly, codes "}") ∷ []) (value.Nodes [] ∷ [])
unfolding replaced on_top
region =
    by_row {ws = (kind.Sign sign.OpenCurly, codes "{") ∷ (kind.Sign sign.CloseCurly, codes "}") ∷ []} {others = []} {parts = value.Nodes [] ∷ []}
    (rule.Region regions.NamedRegion) refl tt
    (by_sign refl (by_row {ws = []} {parts = []} (rule.Region regions.NoMoreOperations) refl tt nothing refl (by_sign refl nothing)))
    refl nothing

module_made : Makes 192 (symbol.Rows (name.Function functions_name.Module) ∷ []) example_words (value.Node module_here ∷ [])
unfolding replaced on_top keywords
module_made =
    by_row {ws = example_words} {others = []} {parts = value.Entries [] ∷ value.Entries [] ∷ value.Nodes [] ∷ []} (rule.Function functions.BuiltinModule) refl tt
    (by_word refl
    (by_row {ws = []} {parts = []} (rule.Function functions.NoSymbol) refl tt nothing refl
    (by_row {ws = []} {parts = []} (rule.Attribute attributes.NoAttributesPart) refl tt nothing refl region)))
    refl nothing

top_level : Makes 192 (symbol.Rows (name.File file_name.TopLevel) ∷ []) example_words (value.Onward (record { node = module_here; others = [] }) ∷ [])
unfolding replaced on_top
top_level =
    by_row {ws = example_words} {others = []} {parts = value.Node module_here ∷ []} (rule.File file.OnlyModule) refl tt module_made refl nothing

content : Makes 192 (symbol.Rows (name.File file_name.Content) ∷ []) example_words (value.Nodes (module_here ∷ []) ∷ [])
unfolding replaced on_top
content =
    by_row {ws = example_words} {others = []} {parts = value.Onward (record { node = module_here; others = [] }) ∷ []} (rule.File file.PlainContent) refl tt top_level refl nothing

whole : building.by_row (rule.File file.WholeFile) 0 (value.Aliases [] ∷ value.Nodes (module_here ∷ []) ∷ []) ≡ Some (value.Tree example_tree ∷ [])
unfolding replaced on_top
whole = ap (λ (node : Node). Some (value.Tree (record { aliases = []; root = node }) ∷ [])) root

pub example : ExampleLaw
unfolding replaced on_top keywords
example = record {
  makes =
      by_row {ws = example_words} {others = []} {parts = value.Aliases [] ∷ value.Nodes (module_here ∷ []) ∷ []} (rule.File file.WholeFile) refl tt
      (by_row {ws = []} {parts = []} (rule.File file.NoMoreAliases) refl tt nothing refl content)
      whole nothing;
  brackets = (lit≤ tt, (lit≤ tt, (lit≤ tt, tt)));
}
