-- Whole trees in the form that all operations have in common.
use Rattle.std.proofs.Common.{◌≡◌, ℕ, ◌+◌, List, [], ◌∷◌, ◌++◌, map, refl, sym, subst, ap, ◌∙◌}
use Rattle.std.specs.Prelude.{if◌then◌else◌, reverse, IsTrue, Some, codes}
use Rattle.std.specs.Str.{bytes_eq}
use Rattle.std.proofs.lemmas.List.{reverse-append}
use Rattle.av_lex.specs.declared.token.Kind.TheVariants as kinds
use Rattle.av_tree.specs.declared.node.Node.{Node, Node-F, out-Node}
use Rattle.av_tree.specs.declared.node.Body.{Body, out-Body}
use Rattle.av_tree.specs.declared.table.Symbol.TheVariants as symbol
use Rattle.av_tree.specs.declared.table.Test.TheVariants as test
use Rattle.av_tree.specs.declared.table.Name.TheVariants as name
use Rattle.av_tree.specs.declared.table.Rule.TheVariants as rule
use Rattle.av_tree.specs.declared.table.file.FileName.TheVariants as file_name
use Rattle.av_tree.specs.declared.table.file.FileRule.TheVariants as file_rule
use Rattle.av_tree.specs.Classes.{fits_of}
use Rattle.av_printer.specs.declared.form.Form.TheVariants as forms
use Rattle.av_printer.specs.Pieces.{Piece, joined, new_line}
use Rattle.av_printer.specs.Operations.{common_line, common_end, results_before}
use Rattle.av_printer.specs.Spelling.{node_line, pieces_of}
use Rattle.av_values.specs.Operations.{root_of, module_of}
use Rattle.av_values.specs.Sorts.{on_top, replaced}
use Rattle.av_values.specs.declared.value.Value.TheVariants as value
use Rattle.av_read_laws.specs.Making.{class_of_word}
use Rattle.av_round_trip.specs.Giving.{Gives}
use Rattle.av_round_trip.specs.Trees.{IsWholeLine, IsWhole, AreWholeBodies, AreWholeNodes, node, no_bodies, one_body_more, no_nodes, one_node_more, as_read, body_as_read, GenericTreesLaw}
use Rattle.av_round_trip.proofs.Giving.{none, join, given_as, given_row, given_line, given_revalued}
use Rattle.av_round_trip.proofs.Quotes.{in_quotes}
use Rattle.av_round_trip.proofs.ReadNodes.{out-as_read}
use Rattle.av_round_trip.proofs.Parts.{HaveTexts, have_texts, given_named, made-is}
use Rattle.av_round_trip.proofs.Regions.{Operations, EachBody, given_regions, given_body}
use Rattle.av_round_trip.proofs.Nodes.{form_pieces, whole-is, nameless-is, no_operation, given_operation}

whole_line : {most : ℕ} (n : Node) → IsWhole most n → IsWholeLine most (out-Node n)
whole_line _ (node n line inside) = line

-- ---- operations and regions
module _ {most : ℕ} where
  mutual
    unfolding joined

    given_inside : (n : Node) → IsWhole most n → (depth : ℕ) → EachBody most depth (out-Node n).regions
    given_inside _ (node n line inside) depth = given_bodies (out-Node n).regions inside depth

    given_bodies : (bodies : List Body) → AreWholeBodies most bodies → (depth : ℕ) → EachBody most depth bodies
    given_bodies _ no_bodies depth = tt
    given_bodies _ (one_body_more b rest args nodes others) depth =
        (given_body depth b args (given_nodes (out-Body b).nodes nodes (depth + 1)), given_bodies rest others depth)

    given_nodes : (nodes : List Node) → AreWholeNodes most nodes → (depth : ℕ)
        → Gives most (Operations ∷ []) (joined (map (node_line forms.Generic depth) nodes)) (value.Nodes (reverse (map as_read nodes)) ∷ [])
    given_nodes _ no_nodes depth = no_operation
    given_nodes _ (one_node_more n rest complete whole others) depth =
        given_revalued (ap value.Nodes (sym (reverse-append (as_read n ∷ []) (map as_read rest))))
        (given_operation depth n complete (whole_line n whole) (given_inside n whole depth) (given_nodes rest others depth))

  -- ---- the file
  module _ (root : Node) (whole : IsWhole most root) (is_module : (out-Node root).name ≡ codes "builtin.module") (no_results : (out-Node root).results ≡ []) where
    fits : IsTrue (fits_of test.ModuleString (class_of_word (kinds.Quoted, in_quotes (out-Node root).name)))
    fits = subst (λ (text : List ℕ). IsTrue (fits_of test.ModuleString (class_of_word (kinds.Quoted, in_quotes text)))) (sym is_module) refl

    takes : HaveTexts (out-Node root).in_types
    takes = have_texts (out-Node root).in_types (whole_line root whole).takes

    gives : HaveTexts (out-Node root).out_types
    gives = have_texts (out-Node root).out_types (whole_line root whole).gives

    top_level : Gives most (symbol.Rows (name.File file_name.TopLevel) ∷ []) (form_pieces 0 root ++ new_line 0)
        (value.Onward (record { node = as_read root; others = [] }) ∷ [])
    unfolding common_line common_end replaced on_top
    top_level =
        let line = whole_line root whole in
        let read : List Body = map body_as_read (out-Node root).regions in
        let inner = given_regions 0 (out-Node root).regions (given_inside root whole 0) in
        given_row (rule.File file_rule.OnlyGenericModule) refl tt
        (join (given_named (out-Node root) line takes gives read inner test.ModuleString fits) (given_line 0))
        (ap (λ (n : Node). Some (value.Onward (record { node = n; others = [] }) ∷ []))
        (made-is (out-Node root) line takes gives read inner ∙ nameless-is root no_results))

    root-is : root_of (as_read root ∷ []) ≡ as_read root
    root-is =
        ap (λ (x : Node-F Body Node). if bytes_eq x.name (codes "builtin.module") then as_read root else module_of [] [] (as_read root ∷ []) 0) (out-as_read root)
        ∙ ap (λ (text : List ℕ). if bytes_eq text (codes "builtin.module") then as_read root else module_of [] [] (as_read root ∷ []) 0) is_module

    pieces-are : pieces_of forms.Generic root ≡ form_pieces 0 root ++ new_line 0
    unfolding results_before
    pieces-are =
        ap (λ (ps : List Piece). ps ++ new_line 0) (whole-is root 0)
        ∙ ap (λ (names : List (List ℕ)). (results_before names ++ form_pieces 0 root) ++ new_line 0) no_results

    given_tree : Gives most (symbol.Rows (name.File file_name.File) ∷ []) (pieces_of forms.Generic root) (value.Tree (record { aliases = []; root = as_read root }) ∷ [])
    unfolding replaced on_top
    given_tree =
        given_as pieces-are
        (given_row (rule.File file_rule.WholeFile) refl tt
        (join (given_row (rule.File file_rule.NoMoreAliases) refl tt none refl)
        (given_row (rule.File file_rule.PlainContent) refl tt top_level refl))
        (ap (λ (n : Node). Some (value.Tree (record { aliases = []; root = n }) ∷ [])) root-is))

pub generic_trees-law : GenericTreesLaw
generic_trees-law most root whole is_module no_results = (given_tree root whole is_module no_results).makes
