use Rattle.std.proofs.Common.{sym, arith}
use Rattle.av_lex.proofs.BadBytes.{bad_name, digits_longest, name_longest, name_short}
use Rattle.av_lex.proofs.step.name.Goals as goal

pub returns-then-rest-eq1 : goal.returns-then-rest-eq1
returns-then-rest-eq1 c = bad_name c.args.kind _ c.requires.some c.requires.first (λ more. absurd (omega (arith, c.if-rest-eq1.true))) (λ more. absurd (omega (arith, c.if-rest-eq1.true)))

pub returns-then-is_of : goal.returns-then-is_of
returns-then-is_of c = (
  digits_longest c.args.kind _ _ c.requires.first (sym (c.if-is_of.ensures))
      c.run_end-end.ensures.from c.run_end-end.ensures.within c.run_end-end.ensures.run c.run_end-end.ensures.stop,
  name_short _ _ _ c.requires.first,
)

pub returns-then-is_of-2 : goal.returns-then-is_of-2
returns-then-is_of-2 c =
    let end = c.run_end-end-then-is_of-2 in (
      name_longest c.args.kind _ _ c.requires.first (sym (c.if-is_of-2.ensures))
          end.ensures.from end.ensures.within end.ensures.run end.ensures.stop,
      name_short _ _ _ c.requires.first,
    )

pub returns-else-is_of-2 : goal.returns-else-is_of-2
returns-else-is_of-2 c = bad_name c.args.kind _ c.requires.some c.requires.first (λ more. sym (c.if-is_of.ensures)) (λ more. sym (c.if-is_of-2.ensures))
