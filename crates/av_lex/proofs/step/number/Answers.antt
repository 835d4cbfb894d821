use Rattle.std.proofs.Common.{◌≡◌, ◌<◌, ◌+◌, length, refl, arith}
use Rattle.std.specs.Prelude.{slice_index}
use Rattle.av_lex.specs.declared.token.Kind.TheVariants as kinds
use Rattle.av_lex.proofs.NextTokens.{size_longest, number_longest, limited_next}
use Rattle.av_lex.proofs.step.number.Goals as goal
use Rattle.av_lex.proofs.step.number.Goals.{else-end-rest-via-then-end-rest+else-rest-end-eq120, else-end-rest-via-else-end-rest}

pub returns-then-rest-end-eq120 : goal.returns-then-rest-end-eq120
returns-then-rest-end-eq120 c =
    limited_next _ kinds.DimX (c.run_end-end.result + 1) c.run_end-end.result 0 _
    (size_longest _ _ c.requires.first c.run_end-end.ensures.from c.if-end-rest.true c.run_end-end.ensures.run c.run_end-end.ensures.stop c.if-rest-end-eq120.true)
    c.limited.ensures.long c.limited.ensures.short (λ few. omega arith) (λ many short. absurd (omega arith)) refl

pub returns-else-end-rest : goal.returns-else-end-rest
returns-else-end-rest c =
    limited_next _ kinds.Number c.run_end-end.result c.run_end-end.result 0 _
    (number_longest _ _ c.requires.first c.run_end-end.ensures.from c.run_end-end.ensures.within c.run_end-end.ensures.run c.run_end-end.ensures.stop no_x)
    c.limited-else-end-rest.ensures.long c.limited-else-end-rest.ensures.short (λ few. omega arith) (λ many short. absurd (omega arith)) refl
  where
    no_x : c.run_end-end.result < length c.args.rest.now → slice_index c.args.rest.now c.run_end-end.result ≡ 120 → ⊥
    no_x inside x = elim c.else-end-rest.branch [
      | else-end-rest-via-then-end-rest+else-rest-end-eq120 w ↦ w.if-rest-end-eq120.false x
      | else-end-rest-via-else-end-rest w ↦ absurd (omega (arith, w.if-end-rest.false))
    ]
