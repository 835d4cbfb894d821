-- Operations in a row, the last one first.
use Rattle.std.proofs.Common.{◌≡◌, ℕ, zero, suc, ◌-◌, Bool, false, ◌&&◌, List, [], ◌∷◌, ◌++◌, length, append-nil, refl, ap, ◌∙◌}
use Rattle.std.proofs.lemmas.List.{reverse-append}
use Rattle.std.specs.Prelude.{Some, codes, slice_get, reverse, if◌then◌else◌}
use Rattle.std.specs.Option.{option_map_or}
use Rattle.std.specs.Str.{bytes_eq}
use Rattle.av_lex.specs.declared.token.Sign.TheVariants as sign
use Rattle.av_tree.specs.declared.node.Node.{Node, Node-F, out-Node, roll-Node, out-roll-Node}
use Rattle.av_tree.specs.declared.node.Body.{Body}
use Rattle.av_tree.specs.declared.table.Symbol.{Symbol}
use Rattle.av_tree.specs.declared.table.Symbol.TheVariants as symbol
use Rattle.av_tree.specs.declared.table.Name.TheVariants as name
use Rattle.av_tree.specs.declared.table.Rule.TheVariants as rule
use Rattle.av_tree.specs.declared.table.regions.RegionName.TheVariants as regions_name
use Rattle.av_tree.specs.declared.table.regions.RegionRule.TheVariants as regions_rule
use Rattle.av_tree.specs.declared.table.values.ValueRule.TheVariants as values_rule
use Rattle.av_derive.specs.ClassOf.{keywords}
use Rattle.av_values.specs.Sorts.{on_top, replaced}
use Rattle.av_values.specs.Nodes.{plain}
use Rattle.av_values.specs.Forms.{completed, is_none, second_ended}
use Rattle.av_values.specs.Loops.{ended, ends_region}
use Rattle.av_values.specs.declared.value.Value.TheVariants as value
use Rattle.av_read_laws.specs.Making.{Word, Makes, nothing, by_sign, by_token, by_row}
use Rattle.av_output_laws.proofs.Parts.{sign_word}
use Rattle.av_round_trip.proofs.Following.{followed, row}
use Rattle.av_output_laws.proofs.Nodes.{bare, named-is, terminator-is}
use Rattle.av_output_laws.proofs.ProgramWords.{plain_word, value_word, result_words}
use Rattle.av_output_laws.proofs.Forms.{Form}

abbrev pub Operations : Symbol
Operations = symbol.Rows (name.Region regions_name.Operations)

-- ---- operations that are no branch
abbrev pub IsNoBranch : Node → Type 0
IsNoBranch node = bytes_eq (out-Node node).name (codes "affine.if") ≡ false

pub no_branch : (x : Node-F Body Node) → bytes_eq x.name (codes "affine.if") ≡ false → IsNoBranch (roll-Node x)
no_branch x h = ap (λ (y : Node-F Body Node). bytes_eq y.name (codes "affine.if")) (out-roll-Node x) ∙ h

-- they stay as they are among others
pub completed-is : (node : Node) → IsNoBranch node → completed node ≡ node
unfolding completed
completed-is node h =
    ap (λ (b : Bool). if b && is_none (out-Node node).out_types then roll-Node (record (out-Node node) { regions = second_ended (out-Node node).regions }) else node) h

-- ---- operations
abbrev pub with_name : Node-F Body Node → List ℕ → Node-F Body Node
with_name x name = record x { results = name ∷ []; place = 0 }

module _ {most : ℕ} {form others : List Word} {nodes : List Node} where
  operation : (node : Node) → Makes most (Form ∷ []) form (value.Node node ∷ []) → Makes most (Operations ∷ []) others (value.Nodes nodes ∷ [])
      → Makes most (symbol.Rows (name.Region regions_name.Operation) ∷ []) (form ++ others) (value.Onward (record { node = node; others = nodes }) ∷ [])
  unfolding replaced on_top
  operation node made rest = row (rule.Region regions_rule.PlainOperation) refl tt (followed made rest) refl

  pub with_result : (x : Node-F Body Node) (text : List ℕ) → Makes most (Form ∷ []) form (value.Node (roll-Node x) ∷ [])
      → Makes most (Operations ∷ []) others (value.Nodes nodes ∷ [])
      → Makes most (Operations ∷ []) (result_words text form ++ others) (value.Nodes (nodes ++ roll-Node (with_name x text) ∷ []) ∷ [])
  unfolding replaced on_top
  with_result x text made rest =
      row (rule.Region regions_rule.WithResults) refl tt
      (by_row {ws = value_word text ∷ sign_word sign.Equal ∷ []} (rule.Value values_rule.ResultNames) refl tt
      (by_token refl (by_row {ws = []} (rule.Value values_rule.OneResult) refl tt nothing refl
      (by_row {ws = []} (rule.Value values_rule.NoMoreResults) refl tt nothing refl (by_sign refl nothing))))
      (ap (λ t. Some (value.Texts (t ∷ []) ∷ [])) (append-nil text))
      (operation (roll-Node x) made rest))
      (ap (λ n. Some (value.Nodes (nodes ++ n ∷ []) ∷ [])) (named-is x text refl))

  pub without_result : (node : Node) → IsNoBranch node → Makes most (Form ∷ []) form (value.Node node ∷ []) → Makes most (Operations ∷ []) others (value.Nodes nodes ∷ [])
      → Makes most (Operations ∷ []) (form ++ others) (value.Nodes (nodes ++ node ∷ []) ∷ [])
  unfolding replaced on_top
  without_result node plain_here made rest =
      row (rule.Region regions_rule.WithoutResults) refl tt (operation node made rest)
      (ap (λ n. Some (value.Nodes (nodes ++ n ∷ []) ∷ [])) (completed-is node plain_here))

module _ {most : ℕ} where
  pub no_operation : Makes most (Operations ∷ []) [] (value.Nodes [] ∷ [])
  unfolding replaced on_top
  no_operation = row (rule.Region regions_rule.NoMoreOperations) refl tt nothing refl

  pub return_last : Makes most (Operations ∷ []) (plain_word (codes "return") ∷ []) (value.Nodes (roll-Node (bare (codes "func.return")) ∷ []) ∷ [])
  unfolding replaced on_top keywords
  return_last =
      row (rule.Region regions_rule.WithoutResults) refl tt
      (row (rule.Region regions_rule.TerminatorOperation) refl tt
      (by_token refl (row (rule.Region regions_rule.TerminatorLast) refl tt nothing refl)) refl)
      (ap (λ n. Some (value.Nodes (n ∷ []) ∷ []))
      (ap completed terminator-is ∙ completed-is (roll-Node (bare (codes "func.return"))) (no_branch (bare (codes "func.return")) refl)))

  -- between curly brackets
  pub made_region : {inside : List Word} {nodes : List Node} → Makes most (Operations ∷ []) inside (value.Nodes nodes ∷ [])
      → Makes most (symbol.Rows (name.Region regions_name.Region) ∷ []) (sign_word sign.OpenCurly ∷ (inside ++ (sign_word sign.CloseCurly ∷ [])))
      (value.Nodes nodes ∷ [])
  unfolding replaced on_top
  made_region made = row (rule.Region regions_rule.NamedRegion) refl tt (by_sign refl (followed made (by_sign refl nothing))) refl

-- ---- nodes from the last to the first
unfoldable pub turned : List Node → List Node
turned [] = []
turned (node ∷ nodes) = turned nodes ++ node ∷ []

pub reverse-turned : (nodes : List Node) → reverse (turned nodes) ≡ nodes
unfolding turned
reverse-turned [] = refl
reverse-turned (node ∷ nodes) = reverse-append (turned nodes) (node ∷ []) ∙ ap (λ l. node ∷ l) (reverse-turned nodes)

-- ---- nodes that end no region
abbrev pub IsOpen : Node → Type 0
IsOpen node = ends_region (out-Node node).name ≡ false

abbrev pub AreOpen : List Node → Type 0
AreOpen [] = Unit {0}
AreOpen (node ∷ nodes) = IsOpen node × AreOpen nodes

open_at : (nodes : List Node) (i : ℕ) → AreOpen nodes
    → option_map_or (λ (node : Node). ends_region (out-Node node).name) (slice_get nodes i) false ≡ false
open_at [] i h = refl
open_at (node ∷ nodes) zero h = h.0
open_at (node ∷ nodes) (suc i) h = open_at nodes i h.1

pub terminated-open : (nodes : List Node) → AreOpen nodes → ended (codes "affine.yield") nodes ≡ nodes ++ plain (codes "affine.yield") 0 ∷ []
unfolding ended
terminated-open nodes h =
    ap (λ (b : Bool). if b then nodes else nodes ++ plain (codes "affine.yield") 0 ∷ []) (open_at nodes (length nodes - 1) h)

pub open_name : (x : Node-F Body Node) → ends_region x.name ≡ false → IsOpen (roll-Node x)
open_name x h = ap (λ (y : Node-F Body Node). ends_region y.name) (out-roll-Node x) ∙ h
