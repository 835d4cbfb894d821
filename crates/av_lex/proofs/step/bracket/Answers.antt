use Rattle.std.proofs.Common.{◌≡◌, ◌<◌, ◌+◌, ◌-◌, length, refl, arith}
use Rattle.std.specs.Prelude.{slice_index}
use Rattle.av_lex.specs.declared.token.Kind.TheVariants as kinds
use Rattle.av_lex.proofs.NextTokens.{scal_longest, open_longest, limited_next}
use Rattle.av_lex.proofs.step.bracket.Goals as goal
use Rattle.av_lex.proofs.step.bracket.Goals.{else-end-gt1-via-then-end-gt1+then-end-rest+then-rest-end-eq93+else-rest-end-eq120, else-end-gt1-via-then-end-gt1+then-end-rest+else-rest-end-eq93, else-end-gt1-via-then-end-gt1+else-end-rest, else-end-gt1-via-else-end-gt1}

pub returns-then-rest-end-eq120 : goal.returns-then-rest-end-eq120
returns-then-rest-end-eq120 c =
    limited_next _ kinds.ScalX (c.run_end-end.result + 2) (c.run_end-end.result - 1) 1 _
    (scal_longest _ _ c.requires.first c.if-end-gt1.true c.if-end-rest.true c.run_end-end.ensures.run c.run_end-end.ensures.stop c.if-rest-end-eq93.true c.if-rest-end-eq120.true)
    c.limited.ensures.long c.limited.ensures.short (λ few. omega arith) (λ many short. absurd (omega arith)) refl

pub returns-else-end-gt1 : goal.returns-else-end-gt1
returns-else-end-gt1 c =
    (open_longest _ _ c.requires.some c.requires.first c.run_end-end.ensures.from c.run_end-end.ensures.run c.run_end-end.ensures.stop no_size, tt)
  where
    no_size : 1 < c.run_end-end.result → c.run_end-end.result + 1 < length c.args.rest.now → slice_index c.args.rest.now c.run_end-end.result ≡ 93
        → slice_index c.args.rest.now (c.run_end-end.result + 1) ≡ 120 → ⊥
    no_size some inside close x = elim c.else-end-gt1.branch [
      | else-end-gt1-via-then-end-gt1+then-end-rest+then-rest-end-eq93+else-rest-end-eq120 w ↦ w.if-rest-end-eq120.false x
      | else-end-gt1-via-then-end-gt1+then-end-rest+else-rest-end-eq93 w ↦ w.if-rest-end-eq93.false close
      | else-end-gt1-via-then-end-gt1+else-end-rest w ↦ absurd (omega (arith, w.if-end-rest.false))
      | else-end-gt1-via-else-end-gt1 w ↦ absurd (omega (arith, w.if-end-gt1.false))
    ]
