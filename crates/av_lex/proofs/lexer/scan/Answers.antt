use Rattle.std.proofs.Common.{subst, sym, List, arith}
use Rattle.av_lex.specs.declared.token.Token.{Token}
use Rattle.av_lex.specs.Tokens.{Lexed, start}
use Rattle.av_lex.proofs.Scanning.{within, apart, one_more, bad_here, long_here}
use Rattle.av_lex.proofs.lexer.scan.Goals as goal

pub loop-at-init : goal.loop-at-init
loop-at-init c = record {
  within = omega arith;
  lexed = subst (λ (ts : List Token). Lexed c.args.bytes.now ts 0) (sym c.new-tokens.ensures) start;
}

pub loop-at-preserved-in-Separator : goal.loop-at-preserved-in-Separator
loop-at-preserved-in-Separator c = record {
  within = within _ _ _ _ c.split_at.ensures.back c.loop-at.invariant.within c.in-Separator.ensures.within;
  lexed = apart _ _ _ _ _ c.split_at.ensures.back c.loop-at.invariant.lexed c.in-Separator.ensures;
}

pub loop-at-preserved : goal.loop-at-preserved
loop-at-preserved c = record {
  within = within _ _ _ _ c.split_at.ensures.back c.loop-at.invariant.within c.in-Token.ensures.0.spells.within;
  lexed = one_more _ _ _ _ _ _ _ c.split_at.ensures.back c.loop-at.invariant.lexed c.in-Token.ensures.0 c.in-Token.ensures.1 c.in_ok-push-in-Token.ensures.ok;
}

pub returns-in-BadByte : goal.returns-in-BadByte
returns-in-BadByte c = bad_here _ _ _ _ _ c.split_at.ensures.back c.loop-at.invariant.lexed (omega arith) c.in-BadByte.ensures

pub returns-in-LongNumber : goal.returns-in-LongNumber
returns-in-LongNumber c = long_here _ _ _ _ _ c.split_at.ensures.back c.loop-at.invariant.lexed (omega arith) c.in-LongNumber.ensures
