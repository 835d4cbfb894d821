use Rattle.std.proofs.Common.{◌≡◌, ◌++◌, ℕ, List, map, Some, ap, ◌∙◌, sym}
use Rattle.av_tree.specs.declared.node.Node.{out-Node}
use Rattle.av_tree.specs.declared.node.Body.{Body}
use Rattle.av_printer.specs.Pieces.{Piece, spelt, joined}
use Rattle.av_printer.specs.Operations.{head_of, results_before}
use Rattle.av_printer.specs.OwnForms.{own_line, own_end}
use Rattle.av_printer.specs.Spelling.{form_of, node_line, own_body, else_body, own_bodies, common_body}
use Rattle.av_printer.proofs.Steps.{commas-turn, joined-turn, then}
use Rattle.av_printer.proofs.NodeSteps.{whole-own, bodies-some}
use Rattle.av_printer.proofs.nodes.+nodes.Goals as goal

pub print_else_regions-loop-region-preserved : goal.print_else_regions-loop-region-preserved
print_else_regions-loop-region-preserved t c =
    joined-turn (else_body c.args.depth) c.args.regions.now c.loop-region.region-index _ _ c.args.out.now c.loop-region.out c.print_else_region.new.out c.loop-region-test.true c.region-item.is c.loop-region.invariant c.in_ok-print_else_region.ensures

pub print_common_regions-loop-i-preserved : goal.print_common_regions-loop-i-preserved
print_common_regions-loop-i-preserved t c =
    commas-turn (common_body c.args.depth) c.args.regions.now c.loop-i.i _ _ c.push_bytes.new.self c.loop-i.out c.push_comma_after.new.self c.print_common_region.new.out c.loop-i-test.true c.index-regions-i.is c.loop-i.invariant c.in_ok-push_comma_after.ensures c.in_ok-print_common_region.ensures

pub print_operations-loop-node-preserved : goal.print_operations-loop-node-preserved
print_operations-loop-node-preserved t c =
    joined-turn (node_line c.args.form c.args.depth) c.args.nodes.now c.loop-node.node-index _ _ c.args.out.now c.loop-node.out c.print_line.new.out c.loop-node-test.true c.node-item.is c.loop-node.invariant c.in_ok-print_line.ensures

pub print_node-returns-in_ok-close_named-in-Some : goal.print_node-returns-in_ok-close_named-in-Some
print_node-returns-in_ok-close_named-in-Some t c =
    let n = c.args.node.now in
    let h = head_of n in
    let d = c.args.depth in
    let r = results_before c.as_slice.result.now in
    let l = own_line c.in-Some.named h in
    let b = joined (own_bodies d c.as_slice-in-Some.result.now) in
    let e = own_end c.in-Some.named h in
    let q : form_of c.args.form (out-Node n).name ≡ Some c.in-Some.named =
    ap (form_of c.args.form) (sym c.as_slice-2.ensures) ∙ sym c.form_for.ensures ∙ c.in-Some.is in
    then c.args.out.now c.print_results.new.out c.close_named.new.out r (l ++ b ++ e) c.in_ok-print_results.ensures
    (then _ _ _ (l ++ b) e (then _ _ _ l b c.in_ok-open_named-in-Some.ensures c.in_ok-print_own_regions-in-Some.ensures) c.in_ok-close_named-in-Some.ensures)
    ∙ ap (λ (p : List Piece). c.args.out.now ++ spelt p)
    (ap (λ (rs : List (List ℕ)). results_before rs ++ (l ++ b ++ e)) c.as_slice.ensures
    ∙ ap (λ (bs : List Body). results_before (out-Node n).results ++ (l ++ joined (own_bodies d bs) ++ e)) c.as_slice-in-Some.ensures
    ∙ sym (whole-own n c.args.form d c.in-Some.named q))

pub print_own_regions-returns-in_ok-print_else_regions-in-len1-up : goal.print_own_regions-returns-in_ok-print_else_regions-in-len1-up
print_own_regions-returns-in_ok-print_else_regions-in-len1-up t c =
    let bs = c.args.regions.now in
    let b = c.first-item.result in
    let d = c.args.depth in
    then _ _ _ (own_body d b) (joined (map (else_body d) c.behind.result.now)) c.in_ok-print_own_region-in-len1-up.ensures c.in_ok-print_else_regions-in-len1-up.ensures
    ∙ ap (λ (p : List Piece). c.args.out.now ++ spelt p)
    (ap (λ (o : List Body). own_body d b ++ joined (map (else_body d) o)) c.behind.ensures ∙ sym (bodies-some d bs b c.in-len1-up.len_at_least c.first-item.is))
