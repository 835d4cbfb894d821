use Rattle.std.proofs.Common.{◌≡◌, ◌<◌, length, arith}
use Rattle.std.specs.Prelude.{slice_index}
use Rattle.av_lex.proofs.BadBytes.{quoted_longest, bad_quoted}
use Rattle.av_lex.proofs.step.quoted.Goals as goal
use Rattle.av_lex.proofs.step.quoted.Goals.{else-end-rest-via-then-end-rest+else-rest-end-eq34, else-end-rest-via-else-end-rest}

pub returns-then-rest-end-eq34 : goal.returns-then-rest-end-eq34
returns-then-rest-end-eq34 c =
    (quoted_longest _ _ c.requires.first c.run_end-end.ensures.from c.if-end-rest.true c.run_end-end.ensures.run c.run_end-end.ensures.stop c.if-rest-end-eq34.true, tt)

pub returns-else-end-rest : goal.returns-else-end-rest
returns-else-end-rest c =
    bad_quoted _ _ c.requires.first c.run_end-end.ensures.from c.run_end-end.ensures.within c.run_end-end.ensures.run c.run_end-end.ensures.stop unclosed
  where
    unclosed : c.run_end-end.result < length c.args.rest.now → slice_index c.args.rest.now c.run_end-end.result ≡ 34 → ⊥
    unclosed inside close = elim c.else-end-rest.branch [
      | else-end-rest-via-then-end-rest+else-rest-end-eq34 w ↦ w.if-rest-end-eq34.false close
      | else-end-rest-via-else-end-rest w ↦ absurd (omega (arith, w.if-end-rest.false))
    ]
