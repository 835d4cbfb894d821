use Rattle.std.proofs.Common.{ℕ, List, ◌≡◌, ◌<◌, ◌^◌, ◌∙◌, ap, subst}
use Rattle.av_ir.specs.declared.module.Func.{Func}
use Rattle.av_ir.specs.declared.module.Module.{Module}
use Rattle.av_ir.specs.Marks.{marked_of}
use Rattle.av_top.specs.Values.{most_of}
use Rattle.av_top.proofs.Values.{few_values}
use Rattle.av_top.proofs.answer.texts_of.Goals as goal

pub returns-clause-few : goal.returns-clause-few
returns-clause-few c =
    let Small : List Func → Type 0 = λ funcs. most_of funcs < 2 ^ 64 in
    let IsSmall : ℕ → Type 0 = λ n. n < 2 ^ 64 in
    let counted : Small c.as_slice.result.now = subst IsSmall c.most_values-most.ensures c.most_values-most.type_inv in
    let funcs : c.as_slice.result.now ≡ (marked_of c.args.module.now).funcs = c.as_slice.ensures ∙ ap (λ (m : Module). m.funcs) c.in_ok-marked.ensures in
    few_values (marked_of c.args.module.now).funcs (subst Small funcs counted)
