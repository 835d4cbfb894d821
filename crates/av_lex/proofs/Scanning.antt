-- One step more of a text.
use Rattle.std.proofs.Common.{◌≡◌, ℕ, ◌+◌, ◌<◌, ◌≤◌, List, [], ◌∷◌, ◌++◌, length, drop, subst, sym, arith, length-drop}
use Rattle.av_lex.specs.declared.token.Kind.{Kind}
use Rattle.av_lex.specs.declared.token.Token.{Token}
use Rattle.av_lex.specs.declared.token.LexFault.TheVariants.{BadByte, LongNumber}
use Rattle.av_lex.specs.Spellings.{Longest, IsShort, Separates}
use Rattle.av_lex.specs.Tokens.{Lexed, separator, token, BadAt, LongAt, FaultOf, bad, long}

pub within : (b r : List ℕ) (at n : ℕ) → r ≡ drop at b → at ≤ length b → n ≤ length r → at + n ≤ length b
within b r at n e h short =
    let l : n ≤ length (drop at b) = subst (λ (s : List ℕ). n ≤ length s) e short in
    omega (arith, length-drop at b)

pub apart : (b r : List ℕ) (ts : List Token) (at n : ℕ) → r ≡ drop at b → Lexed b ts at → Separates r n → Lexed b ts (at + n)
apart b r ts at n e l s = separator n l (subst (λ (x : List ℕ). Separates x n) e s)

pub one_more : (b r : List ℕ) (ts us : List Token) (at n : ℕ) (k : Kind) → r ≡ drop at b → Lexed b ts at → Longest k r n → IsShort k n
    → us ≡ ts ++ record { kind = k; place = at; length = n } ∷ [] → Lexed b us (at + n)
one_more b r ts us at n k e l h i same =
    subst (λ (vs : List Token). Lexed b vs (at + n)) (sym same) (token k n l (subst (λ (x : List ℕ). Longest k x n) e h) i)

pub bad_here : (b r : List ℕ) (ts : List Token) (at n : ℕ) → r ≡ drop at b → Lexed b ts at → at < length b → BadAt r n → FaultOf b (BadByte (at + n))
bad_here b r ts at n e l lt h = bad n l (omega arith) (subst (λ (x : List ℕ). BadAt x n) e h)

pub long_here : (b r : List ℕ) (ts : List Token) (at n : ℕ) → r ≡ drop at b → Lexed b ts at → at < length b → LongAt r n → FaultOf b (LongNumber (at + n))
long_here b r ts at n e l lt h = long n l (omega arith) (subst (λ (x : List ℕ). LongAt x n) e h)
