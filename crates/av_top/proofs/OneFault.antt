-- Bytes that are no text have one fault at one place; and a text has none.
use Rattle.std.proofs.Common.{◌≡◌, ℕ, ◌+◌, ◌<◌, ◌≤◌, List, length, take, drop, ◌++◌, refl, sym, ◌∙◌, ap, subst, arith, append_assoc, inl, inr}
use Rattle.std.proofs.lemmas.Bool.{cases_lt}
use Rattle.std.proofs.lemmas.List.{take-append-drop, take-take}
use Rattle.av_lex.specs.declared.token.Token.{Token}
use Rattle.av_lex.specs.declared.token.LexFault.TheVariants as lex
use Rattle.av_lex.specs.Tokens.{FaultOf, Tokens}
use Rattle.av_lex.proofs.OneReading.{no_tokens, one_fault, one_list}
use Rattle.av_tree.specs.declared.class.Class.{Class}
use Rattle.av_derive.specs.declared.machine.Limits.{Limits}
use Rattle.av_derive.specs.ClassOf.{classes_of}
use Rattle.av_derive.specs.Derivation.{Derived, IsDeepAt, IsPlainAt, IsWrongAt, NoneBegins, Viable}
use Rattle.av_reader.specs.declared.reading.ReadRefusal.{ReadRefusal}
use Rattle.av_reader.specs.declared.reading.ReadRefusal.TheVariants as reader
use Rattle.av_reader.specs.Reading.{IsRefusal, IsRefusedAt, place_at, the_limits}
use Rattle.av_reader.proofs.Refusing.{no-tree}
use Rattle.av_top.specs.declared.status.TextFault.{TextFault}
use Rattle.av_top.specs.declared.status.TextFault.TheVariants.{BadByte, LongNumber, NotAModule, TooDeep}
use Rattle.av_top.specs.FirstPathText.{IsText}
use Rattle.av_top.specs.TextFault.{AreRefused, IsAmiss, IsTextFault}

-- ---- the first wrong token
-- classes up to a place, which go on, go on behind each smaller place
goes_on : (limits : Limits) (cs : List Class) (n m : ℕ) → n + 1 ≤ m → NoneBegins limits (take (n + 1) cs) → Viable limits (take m cs) → ⊥
goes_on limits cs n m before none v =
    let begins : take (n + 1) cs ++ drop (n + 1) (take m cs) ≡ take m cs =
    ap (λ (l : List Class). l ++ drop (n + 1) (take m cs)) (sym (take-take (n + 1) m cs before)) ∙ take-append-drop (n + 1) (take m cs) in
    let same : take m cs ++ v.more ≡ take (n + 1) cs ++ (drop (n + 1) (take m cs) ++ v.more) =
    ap (λ (l : List Class). l ++ v.more) (sym begins) ∙ append_assoc (take (n + 1) cs) (drop (n + 1) (take m cs)) v.more in
    let Derives : List Class → Type 0 = λ l. Derived limits l v.events in
    none (drop (n + 1) (take m cs) ++ v.more) v.events (subst Derives same v.derived)

within : (limits : Limits) (cs : List Class) (n : ℕ) → IsWrongAt limits cs n → n ≤ length cs
within limits cs n (inl h) = let a : n < length cs = h.0 in omega arith
within limits cs n (inr h) = let a : n ≡ length cs = h.0 in omega arith

-- what is wrong at a place doesn't go on to a later one
not_before : (limits : Limits) (cs : List Class) (n m : ℕ) → m ≤ length cs → IsWrongAt limits cs n → Viable limits (take m cs) → n < m → ⊥
not_before limits cs n m few (inl h) v before = goes_on limits cs n m (omega arith) h.1 v
not_before limits cs n m few (inr h) v before = let a : n ≡ length cs = h.0 in absurd (omega arith)

one_wrong : (limits : Limits) (cs : List Class) (n m : ℕ) → IsWrongAt limits cs n → Viable limits (take n cs) → IsWrongAt limits cs m → Viable limits (take m cs) → m ≡ n
one_wrong limits cs n m w v x y = elim (cases_lt n m) [
  | inl lt ↦ absurd (not_before limits cs n m (within limits cs m x) w y lt)
  | inr ge ↦ elim (cases_lt m n) [
    | inl lt ↦ absurd (not_before limits cs m n (within limits cs n w) x v lt)
    | inr le ↦ omega arith
  ]
]

-- ---- one refusal of tokens
same_at : (bytes : List ℕ) (tokens : List Token) (P Q : List Class → ℕ → Type 0) (p q : ℕ) (r : IsRefusedAt bytes tokens P p) (s : IsRefusedAt bytes tokens Q q) → s.at ≡ r.at
same_at bytes tokens P Q p q r s = one_wrong the_limits (classes_of bytes tokens) r.at s.at r.wrong r.completable s.wrong s.completable

same_place : (bytes : List ℕ) (tokens : List Token) (P Q : List Class → ℕ → Type 0) (p q : ℕ) → IsRefusedAt bytes tokens P p → IsRefusedAt bytes tokens Q q → q ≡ p
same_place bytes tokens P Q p q r s = s.stands ∙ ap (place_at bytes tokens) (same_at bytes tokens P Q p q r s) ∙ sym r.stands

not_both : (bytes : List ℕ) (tokens : List Token) (p q : ℕ) → IsRefusedAt bytes tokens IsPlainAt p → IsRefusedAt bytes tokens IsDeepAt q → ⊥
not_both bytes tokens p q r s =
    let Deep : ℕ → Type 0 = λ n. IsDeepAt (classes_of bytes tokens) n in
    r.holds (subst Deep (same_at bytes tokens IsPlainAt IsDeepAt p q r s) s.holds)

-- a refusal is of whichever tokens the bytes have
refusal_of : (bytes : List ℕ) (refusal : ReadRefusal) (tokens : List Token) → Tokens bytes tokens → AreRefused bytes refusal → IsRefusal bytes tokens refusal
refusal_of bytes refusal tokens lexed a =
    let Is : List Token → Type 0 = λ ts. IsRefusal bytes ts refusal in
    subst Is (one_list bytes tokens a.tokens lexed a.lexed) a.refused

-- ---- one fault
bad_place : (bytes : List ℕ) (p q : ℕ) → FaultOf bytes (lex.BadByte p) → FaultOf bytes (lex.BadByte q) → q ≡ p
bad_place bytes p q a b = let e : lex.BadByte q ≡ lex.BadByte p = one_fault bytes (lex.BadByte p) (lex.BadByte q) a b in cc

long_place : (bytes : List ℕ) (p q : ℕ) → FaultOf bytes (lex.LongNumber p) → FaultOf bytes (lex.LongNumber q) → q ≡ p
long_place bytes p q a b = let e : lex.LongNumber q ≡ lex.LongNumber p = one_fault bytes (lex.LongNumber p) (lex.LongNumber q) a b in cc

bad_not_long : (bytes : List ℕ) (p q : ℕ) → FaultOf bytes (lex.BadByte p) → FaultOf bytes (lex.LongNumber q) → ⊥
bad_not_long bytes p q a b = let e : lex.LongNumber q ≡ lex.BadByte p = one_fault bytes (lex.BadByte p) (lex.LongNumber q) a b in cc

one_amiss : (bytes : List ℕ) (p q : ℕ) (f g : TextFault) → IsAmiss bytes p f → IsAmiss bytes q g → (q ≡ p) × (g ≡ f)
one_amiss bytes p q BadByte BadByte a b = (bad_place bytes p q a b, refl)
one_amiss bytes p q BadByte LongNumber a b = absurd (bad_not_long bytes p q a b)
one_amiss bytes p q BadByte NotAModule a b = absurd (no_tokens bytes (lex.BadByte p) b.tokens a b.lexed)
one_amiss bytes p q BadByte TooDeep a b = absurd (no_tokens bytes (lex.BadByte p) b.tokens a b.lexed)
one_amiss bytes p q LongNumber BadByte a b = absurd (bad_not_long bytes q p b a)
one_amiss bytes p q LongNumber LongNumber a b = (long_place bytes p q a b, refl)
one_amiss bytes p q LongNumber NotAModule a b = absurd (no_tokens bytes (lex.LongNumber p) b.tokens a b.lexed)
one_amiss bytes p q LongNumber TooDeep a b = absurd (no_tokens bytes (lex.LongNumber p) b.tokens a b.lexed)
one_amiss bytes p q NotAModule BadByte a b = absurd (no_tokens bytes (lex.BadByte q) a.tokens b a.lexed)
one_amiss bytes p q NotAModule LongNumber a b = absurd (no_tokens bytes (lex.LongNumber q) a.tokens b a.lexed)
one_amiss bytes p q NotAModule NotAModule a b = (same_place bytes a.tokens IsPlainAt IsPlainAt p q a.refused (refusal_of bytes (reader.NotAModule q) a.tokens a.lexed b), refl)
one_amiss bytes p q NotAModule TooDeep a b = absurd (not_both bytes a.tokens p q a.refused (refusal_of bytes (reader.TooDeep q) a.tokens a.lexed b))
one_amiss bytes p q TooDeep BadByte a b = absurd (no_tokens bytes (lex.BadByte q) a.tokens b a.lexed)
one_amiss bytes p q TooDeep LongNumber a b = absurd (no_tokens bytes (lex.LongNumber q) a.tokens b a.lexed)
one_amiss bytes p q TooDeep NotAModule a b = absurd (not_both bytes b.tokens q p b.refused (refusal_of bytes (reader.TooDeep p) b.tokens b.lexed a))
one_amiss bytes p q TooDeep TooDeep a b = (same_place bytes a.tokens IsDeepAt IsDeepAt p q a.refused (refusal_of bytes (reader.TooDeep q) a.tokens a.lexed b), refl)

pub one_text_fault : (bytes : List ℕ) (p q : ℕ) (f g : TextFault) → IsTextFault bytes p f → IsTextFault bytes q g → (q ≡ p) × (g ≡ f)
one_text_fault bytes p q f g a b = one_amiss bytes p q f g a.amiss b.amiss

-- ---- and no text
refused_no_tree : (bytes : List ℕ) (P : List Class → ℕ → Type 0) (p : ℕ) (text : IsText bytes) → IsRefusedAt bytes text.tokens P p → ⊥
refused_no_tree bytes P p text r = no-tree bytes text.tokens (classes_of bytes text.tokens) r.at refl r.wrong text.tree text.is_tree

amiss_no_text : (bytes : List ℕ) (p : ℕ) (f : TextFault) → IsAmiss bytes p f → IsText bytes → ⊥
amiss_no_text bytes p BadByte a text = no_tokens bytes (lex.BadByte p) text.tokens a text.lexed
amiss_no_text bytes p LongNumber a text = no_tokens bytes (lex.LongNumber p) text.tokens a text.lexed
amiss_no_text bytes p NotAModule a text = refused_no_tree bytes IsPlainAt p text (refusal_of bytes (reader.NotAModule p) text.tokens text.lexed a)
amiss_no_text bytes p TooDeep a text = refused_no_tree bytes IsDeepAt p text (refusal_of bytes (reader.TooDeep p) text.tokens text.lexed a)

pub fault_no_text : (bytes : List ℕ) (p : ℕ) (f : TextFault) → IsTextFault bytes p f → IsText bytes → ⊥
fault_no_text bytes p f a text = amiss_no_text bytes p f a.amiss text
