-- A text has one list of tokens, or one first fault.
use Rattle.std.proofs.Common.{◌≡◌, ℕ, ◌+◌, ◌≤◌, inl, inr, List, [], ◌∷◌, ◌++◌, length, drop, false, refl, sym, ◌∙◌, ap, subst, arith, length-drop, Result, Ok, Err}
use Rattle.std.specs.Prelude.{slice_index}
use Rattle.std.proofs.lemmas.Bool.{cases_lt}
use Rattle.av_lex.specs.declared.token.Kind.{Kind}
use Rattle.av_lex.specs.declared.token.Kind.TheVariants as kinds
use Rattle.av_lex.specs.declared.token.Token.{Token}
use Rattle.av_lex.specs.declared.token.LexFault.{LexFault}
use Rattle.av_lex.specs.declared.token.LexFault.TheVariants.{BadByte, LongNumber, NoMemory}
use Rattle.av_lex.specs.declared.class.Class.TheVariants as classes
use Rattle.av_lex.specs.Bytes.{in_class}
use Rattle.av_lex.specs.Spellings.{Spelling, Spells, Longest, IsShort, digits_from, Separates, IsComment, IsBlank}
use Rattle.av_lex.specs.Tokens.{Lexed, start, separator, token, Tokens, BadAt, LongAt, FaultOf, bad, long, LexesTo, OnlyTokens, OnlyFault}
use Rattle.av_lex.proofs.KindOf.{kind_of, mark_kind, single_kind, kind_at, at_least_one, one_kind}
use Rattle.av_lex.proofs.Runs.{both, end_no_comment, not_in}

-- two comments at one place are equally long
comment_le : (r : List ℕ) (n m : ℕ) → m ≤ length r → IsComment r n → IsComment r m → m ≤ n
comment_le r n m hm h k = elim (cases_lt n m) [
  | inl lt ↦ (let two : 2 ≤ n = h.0 in both classes.Comment (slice_index r n) (k.3 n two lt) (not_in classes.Comment (slice_index r n) 10 (h.4 (omega arith)) end_no_comment))
  | inr ge ↦ ge
]

blank_no_comment : (c : ℕ) → IsBlank c → c ≡ 47 → ⊥
blank_no_comment c (inl h) e = let a : c ≡ 32 = h in absurd (omega arith)
blank_no_comment c (inr (inl h)) e = let a : c ≡ 9 = h in absurd (omega arith)
blank_no_comment c (inr (inr (inl h))) e = let a : c ≡ 13 = h in absurd (omega arith)
blank_no_comment c (inr (inr (inr h))) e = let a : c ≡ 10 = h in absurd (omega arith)

-- two separators at one place are equally long
pub one_separator : (r : List ℕ) (n m : ℕ) → Separates r n → Separates r m → n ≡ m
one_separator r n m h k = elim h.is [
  | inl b ↦ elim k.is [ inl d ↦ b.0 ∙ sym d.0 | inr d ↦ absurd (blank_no_comment _ b.1 d.1) ]
  | inr b ↦ elim k.is [
    | inl d ↦ absurd (blank_no_comment _ d.1 b.1)
    | inr d ↦ (let le : m ≤ n = comment_le r n m k.within b d in let ge : n ≤ m = comment_le r m n h.within d b in omega arith)
  ]
]

-- what separates is no token
begins_no_word : (c : ℕ) (r : List ℕ) (k : Kind) (m : ℕ) → ((z n : ℕ) → kind_of c z n ≡ kinds.Word) → in_class classes.WordStart c ≡ false
    → slice_index r 0 ≡ c → Spells k r m → ⊥
begins_no_word c r k m word no_start here h =
    let e : k ≡ kinds.Word = kind_at c k r m here h ∙ word _ m in
    let w = subst (λ (x : Kind). Spelling x r m) e h.spelled in
    both classes.WordStart (slice_index r 0) w.1 (ap (in_class classes.WordStart) here ∙ no_start)

space_word : (z n : ℕ) → kind_of 32 z n ≡ kinds.Word
unfolding kind_of mark_kind single_kind in_class
space_word z n = refl

tab_word : (z n : ℕ) → kind_of 9 z n ≡ kinds.Word
unfolding kind_of mark_kind single_kind in_class
tab_word z n = refl

return_word : (z n : ℕ) → kind_of 13 z n ≡ kinds.Word
unfolding kind_of mark_kind single_kind in_class
return_word z n = refl

line_word : (z n : ℕ) → kind_of 10 z n ≡ kinds.Word
unfolding kind_of mark_kind single_kind in_class
line_word z n = refl

slash_word : (z n : ℕ) → kind_of 47 z n ≡ kinds.Word
unfolding kind_of mark_kind single_kind in_class
slash_word z n = refl

space_start : in_class classes.WordStart 32 ≡ false
unfolding in_class
space_start = refl

tab_start : in_class classes.WordStart 9 ≡ false
unfolding in_class
tab_start = refl

return_start : in_class classes.WordStart 13 ≡ false
unfolding in_class
return_start = refl

line_start : in_class classes.WordStart 10 ≡ false
unfolding in_class
line_start = refl

slash_start : in_class classes.WordStart 47 ≡ false
unfolding in_class
slash_start = refl

blank_no_token : (r : List ℕ) (k : Kind) (m : ℕ) → IsBlank (slice_index r 0) → Spells k r m → ⊥
blank_no_token r k m (inl h) s = begins_no_word 32 r k m space_word space_start h s
blank_no_token r k m (inr (inl h)) s = begins_no_word 9 r k m tab_word tab_start h s
blank_no_token r k m (inr (inr (inl h))) s = begins_no_word 13 r k m return_word return_start h s
blank_no_token r k m (inr (inr (inr h))) s = begins_no_word 10 r k m line_word line_start h s

pub separator_no_token : (r : List ℕ) (n m : ℕ) (k : Kind) → Separates r n → Spells k r m → ⊥
separator_no_token r n m k h s = elim h.is [
  | inl b ↦ blank_no_token r k m b.1 s
  | inr b ↦ begins_no_word 47 r k m slash_word slash_start b.1 s
]

-- the longest spelling at a place is one
pub one_longest : (r : List ℕ) (n m : ℕ) (k j : Kind) → Longest k r n → Longest j r m → (n ≡ m) × (k ≡ j)
one_longest r n m k j h g =
    let ge : m ≤ n = h.longest j m g.spells in
    let le : n ≤ m = g.longest k n h.spells in
    let e : n ≡ m = omega arith in
    (e, one_kind k j r m (subst (λ (x : ℕ). Spells k r x) e h.spells) g.spells)

-- the text from a place on, up to another, is these tokens and what separates them
data From (b : List ℕ) : ℕ → List Token → ℕ → Type 0 where
  stop : {p : ℕ} → From b p [] p
  apart : {p q : ℕ} {ts : List Token} (n : ℕ) → Separates (drop p b) n → From b (p + n) ts q → From b p ts q
  next : {p q : ℕ} {ts : List Token} (k : Kind) (n : ℕ) → Longest k (drop p b) n → IsShort k n → From b (p + n) ts q
      → From b p (record { kind = k; place = p; length = n } ∷ ts) q

and_apart : (b : List ℕ) {p q : ℕ} {ts : List Token} (n : ℕ) → From b p ts q → Separates (drop q b) n → From b p ts (q + n)
and_apart b n stop s = apart n s stop
and_apart b n (apart m t f) s = apart m t (and_apart b n f s)
and_apart b n (next k m l i f) s = next k m l i (and_apart b n f s)

and_next : (b : List ℕ) {p q : ℕ} {ts : List Token} (k : Kind) (n : ℕ) → From b p ts q → Longest k (drop q b) n → IsShort k n
    → From b p (ts ++ record { kind = k; place = q; length = n } ∷ []) (q + n)
and_next b k n stop l i = next k n l i stop
and_next b k n (apart m t f) l i = apart m t (and_next b k n f l i)
and_next b k n (next j m h g f) l i = next j m h g (and_next b k n f l i)

from_begin : (b : List ℕ) {p : ℕ} {ts : List Token} → Lexed b ts p → From b 0 ts p
from_begin b start = stop
from_begin b (separator n l s) = and_apart b n (from_begin b l) s
from_begin b (token k n l h i) = and_next b k n (from_begin b l) h i

-- neither a separator nor a token stands at a place
pub record Stuck (b : List ℕ) (p : ℕ) : Type 0 where
  pub separators : (n : ℕ) → Separates (drop p b) n → ⊥
  pub tokens : (k : Kind) (n : ℕ) → Longest k (drop p b) n → IsShort k n → ⊥

-- up to a place where all is stuck there is one reading
one_from : (b : List ℕ) {p q r : ℕ} {ts us : List Token} → From b p us r → Stuck b r → From b p ts q → Stuck b q → (ts ≡ us) × (q ≡ r)
one_from b stop z stop s = (refl, refl)
one_from b stop z (apart n a f) s = absurd (z.separators n a)
one_from b stop z (next k n l i f) s = absurd (z.tokens k n l i)
one_from b (apart m c g) z stop s = absurd (s.separators m c)
one_from b {p} {q} {r} {ts} (apart m c g) z (apart n a f) s =
    let e : n ≡ m = one_separator (drop p b) n m a c in
    one_from b g z (subst (λ (x : ℕ). From b (p + x) ts q) e f) s
one_from b {p} (apart m c g) z (next k n l i f) s = absurd (separator_no_token (drop p b) m n k c l.spells)
one_from b (next j m h o g) z stop s = absurd (s.tokens j m h o)
one_from b {p} (next j m h o g) z (apart n a f) s = absurd (separator_no_token (drop p b) n m j a h.spells)
one_from b {p} {q} (next j m h o g) z (next {ts = vs} k n l i f) s =
    let e = one_longest (drop p b) n m k j l h in
    let rest = one_from b g z (subst (λ (x : ℕ). From b (p + x) vs q) e.0 f) s in
    (same_token p n m k j _ _ e.0 e.1 rest.0, rest.1)
  where
    same_token : (p n m : ℕ) (k j : Kind) (vs ws : List Token) → n ≡ m → k ≡ j → vs ≡ ws
        → record { kind = k; place = p; length = n } ∷ vs ≡ record { kind = j; place = p; length = m } ∷ ws
    same_token p n m k j vs ws x y z = cc

-- at the end of a text and at a fault all is stuck
no_room : (b : List ℕ) (n : ℕ) → n ≤ length (drop (length b) b) → n ≤ 0
no_room b n h = omega (arith, length-drop (length b) b)

some_separator : (r : List ℕ) (n : ℕ) → Separates r n → 1 ≤ n
some_separator r n s = elim s.is [
  | inl h ↦ (let e : n ≡ 1 = h.0 in omega arith)
  | inr h ↦ (let e : 2 ≤ n = h.0 in omega arith)
]

end_stuck : (b : List ℕ) → Stuck b (length b)
end_stuck b = record {
  separators = λ n s. (let a = some_separator (drop (length b) b) n s in let z = no_room b n s.within in absurd (omega arith));
  tokens = λ k n l i. (let a = at_least_one k (drop (length b) b) n l.spells.spelled in let z = no_room b n l.spells.within in absurd (omega arith));
}

bad_stuck : (b : List ℕ) (p n : ℕ) → BadAt (drop p b) n → Stuck b p
bad_stuck b p n h = record {
  separators = λ m s. h.no_separator m s;
  tokens = λ k m l i. h.no_token k m l.spells;
}

long_stuck : (b : List ℕ) (p n : ℕ) → LongAt (drop p b) n → Stuck b p
long_stuck b p n h = record {
  separators = λ m s. separator_no_token (drop p b) m h.size h.kind s h.longest.spells;
  tokens = λ k m l i. (
      let e = one_longest (drop p b) m h.size k h.kind l h.longest in
      h.long (subst (λ (j : Kind). IsShort j h.size) e.1 (subst (λ (x : ℕ). IsShort k x) e.0 i)));
}

same_bad : (r : List ℕ) (n m : ℕ) → BadAt r n → BadAt r m → n ≡ m
same_bad r n m h g =
    let le : m ≤ n = h.furthest m g.begins in
    let ge : n ≤ m = g.furthest n h.begins in
    omega arith

same_long : (r : List ℕ) (n m : ℕ) → LongAt r n → LongAt r m → n ≡ m
same_long r n m h g =
    let e = one_longest r h.size g.size h.kind g.kind h.longest g.longest in
    h.from ∙ ap digits_from e.1 ∙ sym g.from

bad_not_long : (r : List ℕ) (n m : ℕ) → BadAt r n → LongAt r m → ⊥
bad_not_long r n m h g = h.no_token g.kind g.size g.longest.spells

moved_bad : (b : List ℕ) (p q n m : ℕ) → p ≡ q → BadAt (drop p b) n → BadAt (drop q b) m → p + n ≡ q + m
moved_bad b p q n m e h g =
    let same : n ≡ m = same_bad (drop q b) n m (subst (λ (x : ℕ). BadAt (drop x b) n) e h) g in omega arith

moved_long : (b : List ℕ) (p q n m : ℕ) → p ≡ q → LongAt (drop p b) n → LongAt (drop q b) m → p + n ≡ q + m
moved_long b p q n m e h g =
    let same : n ≡ m = same_long (drop q b) n m (subst (λ (x : ℕ). LongAt (drop x b) n) e h) g in omega arith

moved_apart : (b : List ℕ) (p q n m : ℕ) → p ≡ q → BadAt (drop p b) n → LongAt (drop q b) m → ⊥
moved_apart b p q n m e h g = bad_not_long (drop q b) n m (subst (λ (x : ℕ). BadAt (drop x b) n) e h) g

one_place : (b : List ℕ) {p q : ℕ} {ts us : List Token} → Lexed b ts p → Stuck b p → Lexed b us q → Stuck b q → (us ≡ ts) × (q ≡ p)
one_place b l s m z = one_from b (from_begin b l) s (from_begin b m) z

-- a text has one list of tokens
pub one_list : (b : List ℕ) (ts us : List Token) → Tokens b ts → Tokens b us → us ≡ ts
one_list b ts us l m = (one_place b l (end_stuck b) m (end_stuck b)).0

-- or a fault, and not both
pub no_tokens : (b : List ℕ) (f : LexFault) (ts : List Token) → FaultOf b f → Tokens b ts → ⊥
no_tokens b f ts (bad {p = p} n l lt h) m =
    let e : length b ≡ p = (one_place b l (bad_stuck b p n h) m (end_stuck b)).1 in absurd (omega arith)
no_tokens b f ts (long {p = p} n l lt h) m =
    let e : length b ≡ p = (one_place b l (long_stuck b p n h) m (end_stuck b)).1 in absurd (omega arith)

-- and one first fault
pub one_fault : (b : List ℕ) (f g : LexFault) → FaultOf b f → FaultOf b g → g ≡ f
one_fault b f g (bad {p = p} n l lt h) (bad {p = q} m k gt i) =
    ap BadByte (moved_bad b q p m n (one_place b l (bad_stuck b p n h) k (bad_stuck b q m i)).1 i h)
one_fault b f g (bad {p = p} n l lt h) (long {p = q} m k gt i) =
    absurd (moved_apart b p q n m (sym (one_place b l (bad_stuck b p n h) k (long_stuck b q m i)).1) h i)
one_fault b f g (long {p = p} n l lt h) (bad {p = q} m k gt i) =
    absurd (moved_apart b q p m n (one_place b l (long_stuck b p n h) k (bad_stuck b q m i)).1 i h)
one_fault b f g (long {p = p} n l lt h) (long {p = q} m k gt i) =
    ap LongNumber (moved_long b q p m n (one_place b l (long_stuck b p n h) k (long_stuck b q m i)).1 i h)

pub only_tokens : (b : List ℕ) (r : Result (List Token) LexFault) → LexesTo b r → OnlyTokens b r
only_tokens b (Ok ts) l us m = inl (ap Ok (sym (one_list b ts us l m)))
only_tokens b (Err NoMemory) l us m = inr refl
only_tokens b (Err (BadByte p)) l us m = absurd (no_tokens b (BadByte p) us l m)
only_tokens b (Err (LongNumber p)) l us m = absurd (no_tokens b (LongNumber p) us l m)

pub only_fault : (b : List ℕ) (r : Result (List Token) LexFault) → LexesTo b r → OnlyFault b r
only_fault b (Ok ts) l g m = absurd (no_tokens b g ts m l)
only_fault b (Err NoMemory) l g m = inr refl
only_fault b (Err (BadByte p)) l g m = inl (ap Err (sym (one_fault b (BadByte p) g l m)))
only_fault b (Err (LongNumber p)) l g m = inl (ap Err (sym (one_fault b (LongNumber p) g l m)))
