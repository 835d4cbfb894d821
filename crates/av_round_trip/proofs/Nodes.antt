-- Operations in the form that all have in common, as they stand in regions.
use Rattle.std.proofs.Common.{◌≡◌, ℕ, List, [], ◌∷◌, ◌++◌, map, append_assoc, refl, sym, subst, ap, ◌∙◌}
use Rattle.std.specs.Prelude.{reverse, Some}
use Rattle.std.specs.List.{All}
use Rattle.std.proofs.lemmas.List.{reverse-reverse}
use Rattle.av_tree.specs.declared.node.Node.{Node, Node-F, out-Node, roll-Node, out-roll-Node}
use Rattle.av_tree.specs.declared.node.Body.{Body}
use Rattle.av_tree.specs.declared.table.Symbol.TheVariants as symbol
use Rattle.av_tree.specs.declared.table.Test.TheVariants as test
use Rattle.av_tree.specs.declared.table.Name.TheVariants as name
use Rattle.av_tree.specs.declared.table.Rule.TheVariants as rule
use Rattle.av_tree.specs.declared.table.functions.FunctionName.TheVariants as functions_name
use Rattle.av_tree.specs.declared.table.generic.GenericRule.TheVariants as generic_rule
use Rattle.av_tree.specs.declared.table.regions.RegionName.TheVariants as regions_name
use Rattle.av_tree.specs.declared.table.regions.RegionRule.TheVariants as regions_rule
use Rattle.av_printer.specs.declared.form.Form.TheVariants as forms
use Rattle.av_printer.specs.Pieces.{Piece, new_line}
use Rattle.av_printer.specs.Operations.{head_of, common_line, common_end, results_before}
use Rattle.av_printer.specs.Spelling.{common_regions, common_body, node_line, operation_of, on_line}
use Rattle.av_printer.proofs.NodeSteps.{whole-common}
use Rattle.av_values.specs.Forms.{completed}
use Rattle.av_values.specs.Operations.{named}
use Rattle.av_values.specs.Sorts.{on_top, replaced}
use Rattle.av_values.specs.declared.value.Value.TheVariants as value
use Rattle.av_round_trip.specs.Giving.{Gives}
use Rattle.av_round_trip.specs.Trees.{IsNameOfResults, IsComplete, IsWholeLine, as_read, body_as_read}
use Rattle.av_round_trip.proofs.Giving.{none, join, given_as, given_row, given_line}
use Rattle.av_round_trip.proofs.Types.{given_results}
use Rattle.av_round_trip.proofs.Quotes.{in_quotes, quoted_fits}
use Rattle.av_round_trip.proofs.ReadNodes.{layer_as_read, as_read-is, completed-as_read}
use Rattle.av_round_trip.proofs.Parts.{HaveTexts, have_texts, given_named, made-is}
use Rattle.av_round_trip.proofs.Regions.{Operations, EachBody, given_regions}

-- ---- one operation
-- without the names of its results
abbrev pub nameless : Node → Node
nameless node = roll-Node (record (layer_as_read (out-Node node)) { results = [] })

-- the pieces behind the names of results
abbrev pub form_pieces : ℕ → Node → List Piece
form_pieces depth node = common_line (head_of node) ++ common_regions (map (common_body depth) (out-Node node).regions) ++ common_end (head_of node)

pub whole-is : (node : Node) (depth : ℕ) → (operation_of node).whole forms.Generic depth ≡ results_before (out-Node node).results ++ form_pieces depth node
whole-is node depth = whole-common node forms.Generic depth refl

line-is : (node : Node) (depth : ℕ) → node_line forms.Generic depth node ≡ new_line depth ++ (results_before (out-Node node).results ++ form_pieces depth node)
unfolding on_line
line-is node depth = ap (λ (ps : List Piece). new_line depth ++ ps) (whole-is node depth)

-- an operation without results is read with none
pub nameless-is : (node : Node) → (out-Node node).results ≡ [] → nameless node ≡ as_read node
nameless-is node is =
    ap (λ (names : List (List ℕ)). roll-Node (record (layer_as_read (out-Node node)) { results = names })) (sym is) ∙ sym (as_read-is node)

completed-is : (node : Node) → IsComplete node → (out-Node node).results ≡ [] → completed (nameless node) ≡ as_read node
completed-is node complete is = ap completed (nameless-is node is) ∙ completed-as_read node (complete is)

named-is : (node : Node) (names : List (List ℕ)) → (out-Node node).results ≡ names → named (nameless node) (reverse (reverse names)) 0 ≡ as_read node
named-is node names is =
    ap (λ (x : Node-F Body Node). roll-Node (record x { results = reverse (reverse names); place = 0 })) (out-roll-Node (record (layer_as_read (out-Node node)) { results = [] }))
    ∙ ap (λ (found : List (List ℕ)). roll-Node (record (layer_as_read (out-Node node)) { results = found })) (reverse-reverse names ∙ sym is)
    ∙ sym (as_read-is node)

module _ {most : ℕ} (depth : ℕ) (node : Node) (h : IsWholeLine most (out-Node node)) (bodies : EachBody most depth (out-Node node).regions) where
  takes : HaveTexts (out-Node node).in_types
  takes = have_texts (out-Node node).in_types h.takes

  gives : HaveTexts (out-Node node).out_types
  gives = have_texts (out-Node node).out_types h.gives

  pub given_form : Gives most (symbol.Rows (name.Function functions_name.Form) ∷ []) (form_pieces depth node) (value.Node (nameless node) ∷ [])
  unfolding common_line common_end replaced on_top
  given_form =
      let read : List Body = map body_as_read (out-Node node).regions in
      let inner = given_regions depth (out-Node node).regions bodies in
      given_row (rule.Generic generic_rule.GenericForm) refl tt
      (given_named (out-Node node) h takes gives read inner test.String (quoted_fits (in_quotes (out-Node node).name)))
      (ap (λ (n : Node). Some (value.Node n ∷ [])) (made-is (out-Node node) h takes gives read inner))

-- ---- operations in a row
pub no_operation : {most : ℕ} → Gives most (Operations ∷ []) [] (value.Nodes [] ∷ [])
unfolding replaced on_top
no_operation = given_row (rule.Region regions_rule.NoMoreOperations) refl tt none refl

module _ {most : ℕ} (depth : ℕ) (node : Node) {form others : List Piece} {nodes : List Node}
    (made : Gives most (symbol.Rows (name.Function functions_name.Form) ∷ []) form (value.Node (nameless node) ∷ []))
    (rest : Gives most (Operations ∷ []) others (value.Nodes nodes ∷ [])) where
  operation : Gives most (symbol.Rows (name.Region regions_name.Operation) ∷ []) (form ++ others) (value.Onward (record { node = nameless node; others = nodes }) ∷ [])
  unfolding replaced on_top
  operation = given_row (rule.Region regions_rule.PlainOperation) refl tt (join made rest) refl

  without_results : completed (nameless node) ≡ as_read node → Gives most (Operations ∷ []) ((new_line depth ++ form) ++ others) (value.Nodes (nodes ++ as_read node ∷ []) ∷ [])
  unfolding replaced on_top
  without_results is =
      given_as (append_assoc (new_line depth) form others)
      (given_row (rule.Region regions_rule.WithoutResults) refl tt (join (given_line depth) operation)
      (ap (λ (n : Node). Some (value.Nodes (nodes ++ n ∷ []) ∷ [])) is))

  with_results : (first : List ℕ) (names : List (List ℕ)) → All IsNameOfResults (first ∷ names)
      → named (nameless node) (reverse (reverse (first ∷ names))) 0 ≡ as_read node
      → Gives most (Operations ∷ []) ((new_line depth ++ (results_before (first ∷ names) ++ form)) ++ others) (value.Nodes (nodes ++ as_read node ∷ []) ∷ [])
  unfolding replaced on_top
  with_results first names all is =
      given_as (append_assoc (new_line depth) (results_before (first ∷ names) ++ form) others
      ∙ ap (λ (l : List Piece). new_line depth ++ l) (append_assoc (results_before (first ∷ names)) form others))
      (given_row (rule.Region regions_rule.WithResults) refl tt
      (join (given_line depth) (join (given_results first names all) operation))
      (ap (λ (n : Node). Some (value.Nodes (nodes ++ n ∷ []) ∷ [])) is))

module _ {most : ℕ} (depth : ℕ) (node : Node) (complete : IsComplete node) (h : IsWholeLine most (out-Node node))
    (bodies : EachBody most depth (out-Node node).regions) {others : List Piece} {nodes : List Node}
    (rest : Gives most (Operations ∷ []) others (value.Nodes nodes ∷ [])) where
  abbrev line_with : List (List ℕ) → List Piece
  line_with names = (new_line depth ++ (results_before names ++ form_pieces depth node)) ++ others

  by_names : (names : List (List ℕ)) → (out-Node node).results ≡ names → Gives most (Operations ∷ []) (line_with names) (value.Nodes (nodes ++ as_read node ∷ []) ∷ [])
  unfolding results_before
  by_names [] is = without_results depth node (given_form depth node h bodies) rest (completed-is node complete is)
  by_names (first ∷ names) is =
      with_results depth node (given_form depth node h bodies) rest first names (subst (All IsNameOfResults) is h.makes) (named-is node (first ∷ names) is)

  -- one operation more
  pub given_operation : Gives most (Operations ∷ []) (node_line forms.Generic depth node ++ others) (value.Nodes (nodes ++ as_read node ∷ []) ∷ [])
  given_operation = given_as (ap (λ (ps : List Piece). ps ++ others) (line-is node depth)) (by_names (out-Node node).results refl)
