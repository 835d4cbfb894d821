use Rattle.std.proofs.Common.{length, ◌-◌, ◌≤◌}
use Rattle.av_lex.specs.Tokens.{Lexed}
use Rattle.av_lex.proofs.lexer.scan.Given as goal

abbrev pub invariant-loop-at : goal.invariant-loop-at
invariant-loop-at l = record { within : l.at ≤ length l.bytes; lexed : Lexed l.bytes l.tokens l.at }

abbrev pub decreases-loop-at : goal.decreases-loop-at
decreases-loop-at l = length l.bytes - l.at
