use Rattle.std.proofs.Common.{false, [], ◌∷◌}
use Rattle.av_kept.proofs.EndAlike.{kept_loops}
use Rattle.av_verify.specs.declared.module.Mode.TheVariants.{Scalar}
use Rattle.av_top.specs.FirstPathText.{IsText}
use Rattle.av_top.proofs.Kept.{reads_again}
use Rattle.av_top.proofs.OneModule.{one_answer}
use Rattle.av_top.proofs.Refusing.{handed_on, lex_says, read_says, tree_says}
use Rattle.av_top.proofs.answer.answer.Goals as goal

pub returns-clause-ok : goal.returns-clause-ok
returns-clause-ok c = record {
  input = record {
    text = record {
      few = c.requires.2;
      tokens = c.as_slice.result.now;
      lexed = rw c.as_slice.ensures c.in_ok-tokens.ensures.found;
      tree = c.in_ok-tree.tree;
      is_tree = c.in_ok-tree.ensures.tree;
    };
    result = c.in_ok-module.module;
    is = c.in_ok-module.ensures.ok;
  };
  written = c.in_ok-texts.ensures.text;
  reports = c.in_ok-texts.ensures.report;
  again = reads_again c.args.request c.in_ok-tree.tree c.in_ok-module.module _ c.requires.0 c.in_ok-module.ensures.ok c.in_ok-texts.ensures.few c.in_ok-texts.ensures.text;
  meaning = kept_loops c.in_ok-tree.tree (Scalar (record { sizes = c.args.request.size ∷ []; scalable = false })) c.in_ok-module.module c.in_ok-module.ensures.ok.elaborates;
}

pub returns-clause-only : goal.returns-clause-only
returns-clause-only c =
    let text : IsText c.args.bytes.now = record {
      few = c.requires.2;
      tokens = c.as_slice.result.now;
      lexed = rw c.as_slice.ensures c.in_ok-tokens.ensures.found;
      tree = c.in_ok-tree.tree;
      is_tree = c.in_ok-tree.ensures.tree;
    } in
    one_answer c.args.request c.args.bytes.now text c.in_ok-module.module _ _ c.in_ok-tree.ensures.only c.in_ok-module.ensures.ok c.in_ok-texts.ensures.text c.in_ok-texts.ensures.report

pub returns-in_err-tokens-clause-refused : goal.returns-in_err-tokens-clause-refused
returns-in_err-tokens-clause-refused c =
    handed_on _ _ _ c.from_residual.ensures.1 (lex_says c.args.bytes.now c.args.request.size _ c.requires.2 c.in_err-tokens.ensures.found)

pub returns-in_err-tree-clause-refused : goal.returns-in_err-tree-clause-refused
returns-in_err-tree-clause-refused c =
    handed_on _ _ _ c.from_residual-in_err-tree.ensures.1
    (read_says c.args.bytes.now c.args.request.size c.as_slice.result.now _ c.requires.2 (rw c.as_slice.ensures c.in_ok-tokens.ensures.found) c.in_err-tree.ensures.place)

pub returns-in_err-module-clause-refused : goal.returns-in_err-module-clause-refused
returns-in_err-module-clause-refused c =
    let text : IsText c.args.bytes.now = record {
      few = c.requires.2;
      tokens = c.as_slice.result.now;
      lexed = rw c.as_slice.ensures c.in_ok-tokens.ensures.found;
      tree = c.in_ok-tree.tree;
      is_tree = c.in_ok-tree.ensures.tree;
    } in
    handed_on _ _ _ c.from_residual-in_err-module.ensures.1 (tree_says c.args.bytes.now c.args.request.size text _ c.in_ok-tree.ensures.only c.in_err-module.ensures.refused)
