use Rattle.std.proofs.Common.{◌≡◌, ◌<◌, length, arith}
use Rattle.std.specs.Prelude.{slice_index}
use Rattle.av_lex.proofs.BadBytes.{comment_separates, bad_slash}
use Rattle.av_lex.proofs.step.comment.Goals as goal
use Rattle.av_lex.proofs.step.comment.Goals.{else-rest-gt1-via-then-rest-gt1+else-rest-eq47, else-rest-gt1-via-else-rest-gt1}

pub returns-then-rest-eq47 : goal.returns-then-rest-eq47
returns-then-rest-eq47 c =
    comment_separates _ _ c.requires.first c.if-rest-eq47.true c.run_end.ensures.from c.run_end.ensures.within c.run_end.ensures.run c.run_end.ensures.stop

pub returns-else-rest-gt1 : goal.returns-else-rest-gt1
returns-else-rest-gt1 c = bad_slash _ c.requires.first alone
  where
    alone : 1 < length c.args.rest.now → slice_index c.args.rest.now 1 ≡ 47 → ⊥
    alone inside slash = elim c.else-rest-gt1.branch [
      | else-rest-gt1-via-then-rest-gt1+else-rest-eq47 w ↦ w.if-rest-eq47.false slash
      | else-rest-gt1-via-else-rest-gt1 w ↦ absurd (omega (arith, w.if-rest-gt1.false))
    ]
