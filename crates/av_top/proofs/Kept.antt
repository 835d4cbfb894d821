-- What is written reads again as the marked module.
use Rattle.std.proofs.Common.{◌≡◌, ◌≤◌, ◌*◌, ℕ, List, [], ◌∷◌, false, sym, subst, arith}
use Rattle.std.specs.List.{All}
use Rattle.av_output_laws.proofs.Returned.{return_law}
use Rattle.av_output_laws.specs.ReturnLaws.{HasFewValues}
use Rattle.av_output_laws.specs.Returns.{ReadsAgain}
use Rattle.av_tree.specs.declared.node.Tree.{Tree}
use Rattle.av_ir.specs.declared.module.Module.{Module}
use Rattle.av_ir.specs.Marks.{marked_of}
use Rattle.av_top.specs.declared.request.Request.{Request}
use Rattle.av_top.specs.Answer.{printed}
use Rattle.av_top.specs.FirstPathText.{IsModuleOf}

pub reads_again : (request : Request) (tree : Tree) (m : Module) (text : List ℕ) → 1 ≤ request.size → IsModuleOf request.size tree m → All HasFewValues (marked_of m).funcs → text ≡ printed request.form m
    → ReadsAgain text (marked_of m)
reads_again request tree m text some is few written =
    let wide : 1 ≤ request.size * 1 = omega arith in
    let Reads : List ℕ → Type 0 = λ t. ReadsAgain t (marked_of m) in
    subst Reads (sym written) (return_law request.form tree (record { sizes = request.size ∷ []; scalable = false }) m wide is.forms is.elaborates few)
