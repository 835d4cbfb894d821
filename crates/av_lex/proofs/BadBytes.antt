-- Names, texts in quotes, comments, signs of one byte, and where none of them stands.
use Rattle.std.proofs.Common.{◌≡◌, ℕ, ◌+◌, ◌<◌, ◌≤◌, ◌⊎◌, ◌==◌, inl, inr, List, [], ◌∷◌, ◌++◌, Bool, length, take, true, false, refl, sym, ◌∙◌, ap, subst, arith}
use Rattle.std.specs.Prelude.{slice_index}
use Rattle.std.proofs.lemmas.Bool.{cases_lt, cases_Bool, eqb-true}
use Rattle.std.proofs.lemmas.Bool.Decides.{nat_tests}
use Rattle.std.proofs.lemmas.List.{length-take-le, length-append}
use Rattle.av_lex.specs.declared.token.Kind.{Kind}
use Rattle.av_lex.specs.declared.token.Kind.TheVariants as kinds
use Rattle.av_lex.specs.declared.token.Sign.{Sign}
use Rattle.av_lex.specs.declared.class.Class.TheVariants as classes
use Rattle.av_lex.specs.Bytes.{in_class, Run}
use Rattle.av_lex.specs.Spellings.{sign_text, Spelling, Spells, Longest, Named, Separates, IsBlank, IsShort}
use Rattle.av_lex.specs.Tokens.{Begins, BadAt}
use Rattle.av_lex.specs.Steps.{IsNameOf, NoOther}
use Rattle.av_lex.proofs.Runs.{both, run_within, same_stop, kept, behind, quote_not_quoted, zero_digit, start_no_digit}
use Rattle.av_lex.proofs.KindOf.{kind_of, mark_kind, single_kind, kind_at}
use Rattle.av_lex.proofs.NextTokens.{only_kind}

-- names

is_named : (k : Kind) (mark : ℕ) → IsNameOf k mark → (r : List ℕ) (n : ℕ) → Spelling k r n → Named mark r n
is_named kinds.ValId mark e r n h = subst (λ (c : ℕ). Named c r n) (sym e) h
is_named kinds.SymId mark e r n h = subst (λ (c : ℕ). Named c r n) (sym e) h
is_named kinds.HashId mark e r n h = subst (λ (c : ℕ). Named c r n) (sym e) h
is_named kinds.CaretId mark e r n h = subst (λ (c : ℕ). Named c r n) (sym e) h
is_named kinds.Word mark e r n h = absurd e
is_named kinds.Number mark e r n h = absurd e
is_named kinds.DimX mark e r n h = absurd e
is_named kinds.ScalX mark e r n h = absurd e
is_named kinds.Quoted mark e r n h = absurd e
is_named (kinds.Sign s) mark e r n h = absurd e

names : (k : Kind) (mark : ℕ) → IsNameOf k mark → (r : List ℕ) (n : ℕ) → Named mark r n → Spelling k r n
names kinds.ValId mark e r n h = subst (λ (c : ℕ). Named c r n) e h
names kinds.SymId mark e r n h = subst (λ (c : ℕ). Named c r n) e h
names kinds.HashId mark e r n h = subst (λ (c : ℕ). Named c r n) e h
names kinds.CaretId mark e r n h = subst (λ (c : ℕ). Named c r n) e h
names kinds.Word mark e r n h = absurd e
names kinds.Number mark e r n h = absurd e
names kinds.DimX mark e r n h = absurd e
names kinds.ScalX mark e r n h = absurd e
names kinds.Quoted mark e r n h = absurd e
names (kinds.Sign s) mark e r n h = absurd e

mark_37 : (z n : ℕ) → kind_of 37 z n ≡ kinds.ValId
unfolding kind_of mark_kind in_class
mark_37 z n = refl

mark_64 : (z n : ℕ) → kind_of 64 z n ≡ kinds.SymId
unfolding kind_of mark_kind in_class
mark_64 z n = refl

mark_35 : (z n : ℕ) → kind_of 35 z n ≡ kinds.HashId
unfolding kind_of mark_kind in_class
mark_35 z n = refl

mark_94 : (z n : ℕ) → kind_of 94 z n ≡ kinds.CaretId
unfolding kind_of mark_kind in_class
mark_94 z n = refl

mark_34 : (z n : ℕ) → kind_of 34 z n ≡ kinds.Quoted
unfolding kind_of mark_kind in_class
mark_34 z n = refl

at_name : (k : Kind) (c z n : ℕ) → IsNameOf k c → kind_of c z n ≡ k
at_name kinds.ValId c z n e = ap (λ (b : ℕ). kind_of b z n) e ∙ mark_37 z n
at_name kinds.SymId c z n e = ap (λ (b : ℕ). kind_of b z n) e ∙ mark_64 z n
at_name kinds.HashId c z n e = ap (λ (b : ℕ). kind_of b z n) e ∙ mark_35 z n
at_name kinds.CaretId c z n e = ap (λ (b : ℕ). kind_of b z n) e ∙ mark_94 z n
at_name kinds.Word c z n e = absurd e
at_name kinds.Number c z n e = absurd e
at_name kinds.DimX c z n e = absurd e
at_name kinds.ScalX c z n e = absurd e
at_name kinds.Quoted c z n e = absurd e
at_name (kinds.Sign s) c z n e = absurd e

name_kinds : (k : Kind) (c : ℕ) (r : List ℕ) → IsNameOf k c → slice_index r 0 ≡ c → (o : Kind) (m : ℕ) → Spells o r m → o ≡ k
name_kinds k c r e first o m s = kind_at c o r m first s ∙ at_name k c _ m e

pub digits_longest : (k : Kind) (r : List ℕ) (e : ℕ) → IsNameOf k (slice_index r 0) → in_class classes.Digit (slice_index r 1) ≡ true
    → 2 ≤ e → e ≤ length r → Run classes.Digit r 2 e
    → (e < length r → in_class classes.Digit (slice_index r e) ≡ false) → Longest k r e
digits_longest k r e mark first some within run stop =
    only_kind k r e
    (record { within = within; spelled = names k _ mark r e (refl, some, inl (run_from first run)) })
    (name_kinds k _ r mark refl)
    (λ m s. bound m s.within (is_named k _ mark r m s.spelled))
  where
    run_from : in_class classes.Digit (slice_index r 1) ≡ true → Run classes.Digit r 2 e → Run classes.Digit r 1 e
    run_from here rest i from below = elim (cases_lt 1 i) [
      | inl less ↦ rest i (omega arith) below
      | inr le ↦ (let one : i ≡ 1 = omega arith in ap (λ (k : ℕ). in_class classes.Digit (slice_index r k)) one ∙ here)
    ]

    bound : (m : ℕ) → m ≤ length r → Named (slice_index r 0) r m → m ≤ e
    bound m short h = elim h.2 [
      | inl digits ↦ run_within classes.Digit r 1 e m (omega arith) stop digits short
      | inr other ↦ both classes.Digit (slice_index r 1) first (start_no_digit _ other.0)
    ]

pub name_longest : (k : Kind) (r : List ℕ) (e : ℕ) → IsNameOf k (slice_index r 0) → in_class classes.NameStart (slice_index r 1) ≡ true
    → 2 ≤ e → e ≤ length r → Run classes.Name r 2 e
    → (e < length r → in_class classes.Name (slice_index r e) ≡ false) → Longest k r e
name_longest k r e mark first some within run stop =
    only_kind k r e
    (record { within = within; spelled = names k _ mark r e (refl, some, inr (first, run)) })
    (name_kinds k _ r mark refl)
    (λ m s. bound m s.within (is_named k _ mark r m s.spelled))
  where
    bound : (m : ℕ) → m ≤ length r → Named (slice_index r 0) r m → m ≤ e
    bound m short h = elim h.2 [
      | inl digits ↦ (let two : 2 ≤ m = h.1 in both classes.Digit (slice_index r 1) (digits 1 (omega arith) (omega arith)) (start_no_digit _ first))
      | inr other ↦ run_within classes.Name r 2 e m some stop other.1 short
    ]

-- no separator begins with a byte that is neither blank nor `/`

pub no_separator : (r : List ℕ) → (IsBlank (slice_index r 0) → ⊥) → (slice_index r 0 ≡ 47 → ⊥) → (m : ℕ) → Separates r m → ⊥
no_separator r blank slash m s = elim s.is [
  | inl h ↦ blank h.1
  | inr h ↦ slash h.1
]

blank_is_not : (c d : ℕ) → c ≡ d → (d ≡ 32 → ⊥) → (d ≡ 9 → ⊥) → (d ≡ 13 → ⊥) → (d ≡ 10 → ⊥) → IsBlank c → ⊥
blank_is_not c d e a b f g (inl h) = a (sym e ∙ h)
blank_is_not c d e a b f g (inr (inl h)) = b (sym e ∙ h)
blank_is_not c d e a b f g (inr (inr (inl h))) = f (sym e ∙ h)
blank_is_not c d e a b f g (inr (inr (inr h))) = g (sym e ∙ h)

-- the begin of some token

begins_with : (r more : List ℕ) (n : ℕ) → n ≤ length r → (k : Kind) (m : ℕ) → n ≤ m → m ≤ length (take n r ++ more) → Spelling k (take n r ++ more) m → Begins r n
begins_with r more n within k m covers short h = record {
  within = within;
  more = more;
  kind = k;
  size = m;
  spells = record { within = short; spelled = h };
  covers = covers;
}

long_take : (r more : List ℕ) (n : ℕ) → n ≤ length r → length (take n r ++ more) ≡ n + length more
long_take r more n within = length-append (take n r) more ∙ ap (λ (k : ℕ). k + length more) (length-take-le n r within)

begins_nothing : (r : List ℕ) → Begins r 0
begins_nothing r = begins_with r (48 ∷ []) 0 (omega arith) kinds.Number 1 (omega arith) (omega (arith, long_take r (48 ∷ []) 0 (omega arith))) (omega arith, run)
  where
    run : Run classes.Digit (take 0 r ++ 48 ∷ []) 0 1
    run i from below =
        let none : i ≡ 0 = omega arith in
        ap (λ (k : ℕ). in_class classes.Digit (slice_index (take 0 r ++ 48 ∷ []) k)) none
        ∙ ap (in_class classes.Digit) (behind r (48 ∷ []) 0 (omega arith)) ∙ zero_digit

-- where the first byte begins no token, nothing goes on
pub bad_first : (r : List ℕ) → ((z n : ℕ) → kind_of (slice_index r 0) z n ≡ kinds.Word) → in_class classes.WordStart (slice_index r 0) ≡ false
    → ((m : ℕ) → Separates r m → ⊥) → BadAt r 0
bad_first r word start separate = record {
  no_token = λ k m s. none r k m refl s;
  no_separator = separate;
  begins = begins_nothing r;
  furthest = further;
}
  where
    none : (s : List ℕ) (k : Kind) (m : ℕ) → slice_index s 0 ≡ slice_index r 0 → Spells k s m → ⊥
    none s k m same h =
        let e : k ≡ kinds.Word = kind_at (slice_index r 0) k s m same h ∙ word _ m in
        let w = subst (λ (x : Kind). Spelling x s m) e h.spelled in
        both classes.WordStart (slice_index s 0) w.1 (ap (in_class classes.WordStart) same ∙ start)

    further : (m : ℕ) → Begins r m → m ≤ 0
    further m b = elim (cases_lt 0 m) [
      | inl some ↦ absurd (none (take m r ++ b.more) b.kind b.size (kept r b.more m 0 b.within some) b.spells)
      | inr le ↦ le
    ]

not_blank : (k : Kind) (c : ℕ) → IsNameOf k c → IsBlank c → ⊥
not_blank kinds.ValId c e h = blank_is_not c 37 e (λ x. absurd (omega arith)) (λ x. absurd (omega arith)) (λ x. absurd (omega arith)) (λ x. absurd (omega arith)) h
not_blank kinds.SymId c e h = blank_is_not c 64 e (λ x. absurd (omega arith)) (λ x. absurd (omega arith)) (λ x. absurd (omega arith)) (λ x. absurd (omega arith)) h
not_blank kinds.HashId c e h = blank_is_not c 35 e (λ x. absurd (omega arith)) (λ x. absurd (omega arith)) (λ x. absurd (omega arith)) (λ x. absurd (omega arith)) h
not_blank kinds.CaretId c e h = blank_is_not c 94 e (λ x. absurd (omega arith)) (λ x. absurd (omega arith)) (λ x. absurd (omega arith)) (λ x. absurd (omega arith)) h
not_blank kinds.Word c e h = e
not_blank kinds.Number c e h = e
not_blank kinds.DimX c e h = e
not_blank kinds.ScalX c e h = e
not_blank kinds.Quoted c e h = e
not_blank (kinds.Sign s) c e h = e

not_slash : (k : Kind) (c : ℕ) → IsNameOf k c → c ≡ 47 → ⊥
not_slash kinds.ValId c e h = let e' : c ≡ 37 = e in absurd (omega arith)
not_slash kinds.SymId c e h = let e' : c ≡ 64 = e in absurd (omega arith)
not_slash kinds.HashId c e h = let e' : c ≡ 35 = e in absurd (omega arith)
not_slash kinds.CaretId c e h = let e' : c ≡ 94 = e in absurd (omega arith)
not_slash kinds.Word c e h = e
not_slash kinds.Number c e h = e
not_slash kinds.DimX c e h = e
not_slash kinds.ScalX c e h = e
not_slash kinds.Quoted c e h = e
not_slash (kinds.Sign s) c e h = e

-- where no name follows a mark, nothing goes on behind it
pub bad_name : (k : Kind) (r : List ℕ) → 1 ≤ length r → IsNameOf k (slice_index r 0)
    → (1 < length r → in_class classes.Digit (slice_index r 1) ≡ false) → (1 < length r → in_class classes.NameStart (slice_index r 1) ≡ false) → BadAt r 1
bad_name k r some mark digit start = record {
  no_token = λ o m s. none r o m refl refl s (let two : 2 ≤ m = two_at r o m refl s in let short : m ≤ length r = s.within in omega arith);
  no_separator = no_separator r (not_blank k _ mark) (not_slash k _ mark);
  begins = begins_with r (48 ∷ []) 1 some k 2 (omega arith) (omega (arith, long_take r (48 ∷ []) 1 some)) (names k _ mark _ 2 (kept r (48 ∷ []) 1 0 some (omega arith), omega arith, inl run));
  furthest = further;
}
  where
    named : (s : List ℕ) (o : Kind) (m : ℕ) → slice_index s 0 ≡ slice_index r 0 → Spells o s m → Named (slice_index r 0) s m
    named s o m same h =
        is_named k _ mark s m (subst (λ (x : Kind). Spelling x s m) (name_kinds k _ s mark same o m h) h.spelled)

    two_at : (s : List ℕ) (o : Kind) (m : ℕ) → slice_index s 0 ≡ slice_index r 0 → Spells o s m → 2 ≤ m
    two_at s o m same h = (named s o m same h).1

    none : (s : List ℕ) (o : Kind) (m : ℕ) → slice_index s 0 ≡ slice_index r 0 → slice_index s 1 ≡ slice_index r 1 → Spells o s m → 1 < length r → ⊥
    none s o m same next h long =
        let n = named s o m same h in
        let two : 2 ≤ m = n.1 in
        elim n.2 [
          | inl digits ↦ both classes.Digit (slice_index s 1) (digits 1 (omega arith) (omega arith)) (ap (in_class classes.Digit) next ∙ digit long)
          | inr other ↦ both classes.NameStart (slice_index s 1) other.0 (ap (in_class classes.NameStart) next ∙ start long)
        ]

    run : Run classes.Digit (take 1 r ++ 48 ∷ []) 1 2
    run i from below =
        let one : i ≡ 1 = omega arith in
        ap (λ (k : ℕ). in_class classes.Digit (slice_index (take 1 r ++ 48 ∷ []) k)) one
        ∙ ap (in_class classes.Digit) (behind r (48 ∷ []) 1 some) ∙ zero_digit

    further : (m : ℕ) → Begins r m → m ≤ 1
    further m b = elim (cases_lt 1 m) [
      | inl two ↦ (let short : m ≤ length r = b.within in
          absurd (none (take m r ++ b.more) b.kind b.size (kept r b.more m 0 b.within (omega arith)) (kept r b.more m 1 b.within two) b.spells (omega arith)))
      | inr le ↦ le
    ]

-- texts in quotes

quoted_kinds : (r : List ℕ) → slice_index r 0 ≡ 34 → (o : Kind) (m : ℕ) → Spells o r m → o ≡ kinds.Quoted
quoted_kinds r first o m s = kind_at 34 o r m first s ∙ mark_34 _ m

pub quoted_longest : (r : List ℕ) (e : ℕ) → slice_index r 0 ≡ 34 → 1 ≤ e → e < length r → Run classes.Quoted r 1 e
    → (e < length r → in_class classes.Quoted (slice_index r e) ≡ false) → slice_index r e ≡ 34 → Longest kinds.Quoted r (e + 1)
quoted_longest r e first some inside run stop close =
    only_kind kinds.Quoted r (e + 1)
    (record { within = omega arith; spelled = (e, refl, some, first, run, close) })
    (quoted_kinds r first)
    (λ m s.
    let h = s.spelled in
    let long : m ≡ h.0 + 1 = h.1 in
    let short : m ≤ length r = s.within in
    let same : h.0 ≡ e = same_stop classes.Quoted r 1 e h.0 34 some h.2 (omega arith) run stop h.4 h.5 quote_not_quoted in
    omega arith)

-- a text that agrees with r before place m has no closed quotes of at least m bytes, where m is behind the place where r stops
no_quoted : (r s : List ℕ) (e m : ℕ) (o : Kind) (n : ℕ) → slice_index r 0 ≡ 34 → 1 ≤ e → e < m → m ≤ length r → m ≤ n
    → ((i : ℕ) → i < m → slice_index s i ≡ slice_index r i)
    → (e < length r → in_class classes.Quoted (slice_index r e) ≡ false) → (e < length r → slice_index r e ≡ 34 → ⊥) → Spells o s n → ⊥
no_quoted r s e m o n first some behind_it within covers same stop unclosed h =
    let here : slice_index s 0 ≡ 34 = same 0 (omega arith) ∙ first in
    let q = subst (λ (x : Kind). Spelling x s n) (quoted_kinds s here o n h) h.spelled in
    let long : n ≡ q.0 + 1 = q.1 in
    go q.0 q.4 q.5 (omega arith) (cases_lt e q.0)
  where
    go : (f : ℕ) → Run classes.Quoted s 1 f → slice_index s f ≡ 34 → e ≤ f → (e < f) ⊎ (f ≤ e) → ⊥
    go f run close le (inl less) = both classes.Quoted (slice_index s e) (run e some less) (ap (in_class classes.Quoted) (same e behind_it) ∙ stop (omega arith))
    go f run close le (inr at) =
        let it : e ≡ f = omega arith in
        unclosed (omega arith) (sym (same e behind_it) ∙ ap (λ (k : ℕ). slice_index s k) it ∙ close)

-- an unclosed text in quotes goes on as far as its bytes
pub bad_quoted : (r : List ℕ) (e : ℕ) → slice_index r 0 ≡ 34 → 1 ≤ e → e ≤ length r → Run classes.Quoted r 1 e
    → (e < length r → in_class classes.Quoted (slice_index r e) ≡ false) → (e < length r → slice_index r e ≡ 34 → ⊥) → BadAt r e
bad_quoted r e first some within run stop unclosed = record {
  no_token = none;
  no_separator = no_separator r (blank_is_not _ 34 first (λ x. absurd (omega arith)) (λ x. absurd (omega arith)) (λ x. absurd (omega arith)) (λ x. absurd (omega arith))) (λ x. absurd (omega arith));
  begins = begins_with r (34 ∷ []) e within kinds.Quoted (e + 1) (omega arith) (omega (arith, long_take r (34 ∷ []) e within))
      (e, refl, some, kept r (34 ∷ []) e 0 within (omega arith) ∙ first, run_kept, behind r (34 ∷ []) e within);
  furthest = further;
}
  where
    run_kept : Run classes.Quoted (take e r ++ 34 ∷ []) 1 e
    run_kept i from below = ap (in_class classes.Quoted) (kept r (34 ∷ []) e i within below) ∙ run i from below

    none : (o : Kind) (m : ℕ) → Spells o r m → ⊥
    none o m s =
        let q = subst (λ (x : Kind). Spelling x r m) (quoted_kinds r first o m s) s.spelled in
        let long : m ≡ q.0 + 1 = q.1 in
        let one : 1 ≤ q.0 = q.2 in
        let short : m ≤ length r = s.within in
        let same : q.0 ≡ e = same_stop classes.Quoted r 1 e q.0 34 some one (omega arith) run stop q.4 q.5 quote_not_quoted in
        unclosed (omega arith) (sym (ap (λ (k : ℕ). slice_index r k) same) ∙ q.5)

    further : (m : ℕ) → Begins r m → m ≤ e
    further m b = elim (cases_lt e m) [
      | inl more ↦ absurd (no_quoted r (take m r ++ b.more) e m b.kind b.size first some more b.within b.covers (λ i below. kept r b.more m i b.within below) stop unclosed b.spells)
      | inr le ↦ le
    ]

-- comments

line_end : (c : ℕ) → in_class classes.Comment c ≡ false → c ≡ 10
unfolding in_class
line_end c h = grind (arith, nat_tests)

pub comment_separates : (r : List ℕ) (n : ℕ) → slice_index r 0 ≡ 47 → slice_index r 1 ≡ 47 → 2 ≤ n → n ≤ length r → Run classes.Comment r 2 n
    → (n < length r → in_class classes.Comment (slice_index r n) ≡ false) → Separates r n
comment_separates r n first second some within run stop =
    record { within = within; is = inr (some, first, second, run, λ inside. line_end _ (stop inside)) }

slash_word : (c z n : ℕ) → c ≡ 47 → kind_of c z n ≡ kinds.Word
unfolding kind_of mark_kind single_kind in_class
slash_word c z n e = rw e

slash_start : (c : ℕ) → c ≡ 47 → in_class classes.WordStart c ≡ false
unfolding in_class
slash_start c e = rw e

pub bad_slash : (r : List ℕ) → slice_index r 0 ≡ 47 → (1 < length r → slice_index r 1 ≡ 47 → ⊥) → BadAt r 0
bad_slash r first other = bad_first r (λ z n. slash_word _ z n first) (slash_start _ first) none
  where
    none : (m : ℕ) → Separates r m → ⊥
    none m s = elim s.is [
      | inl h ↦ blank_is_not _ 47 first (λ x. absurd (omega arith)) (λ x. absurd (omega arith)) (λ x. absurd (omega arith)) (λ x. absurd (omega arith)) h.1
      | inr h ↦ (let two : 2 ≤ m = h.0 in let short : m ≤ length r = s.within in other (omega arith) h.2)
    ]

-- signs of one byte

single_only : (s : Sign) (c : ℕ) → sign_text s ≡ c ∷ [] → ((z n : ℕ) → kind_of c z n ≡ kinds.Sign s) → (r : List ℕ) → 1 ≤ length r → slice_index r 0 ≡ c → Longest (kinds.Sign s) r 1
single_only s c text which r some first =
    only_kind (kinds.Sign s) r 1
    (record { within = some; spelled = spelling })
    (λ o m h. kind_at c o r m first h ∙ which _ m)
    (λ m h. let one : m ≡ length (sign_text s) = h.spelled.0 in let e : length (sign_text s) ≡ 1 = ap length text in omega arith)
  where
    spelling : (1 ≡ length (sign_text s)) × ((i : ℕ) → i < 1 → slice_index r i ≡ slice_index (sign_text s) i)
    spelling = (sym (ap length text), λ i below. let none : i ≡ 0 = omega arith in ap (λ (k : ℕ). slice_index r k) none ∙ first ∙ sym (ap (λ (k : ℕ). slice_index (sign_text s) k) none ∙ ap (λ (t : List ℕ). slice_index t 0) text))

pub name_short : (k : Kind) (c n : ℕ) → IsNameOf k c → IsShort k n
name_short kinds.ValId c n e = tt
name_short kinds.SymId c n e = tt
name_short kinds.HashId c n e = tt
name_short kinds.CaretId c n e = tt
name_short kinds.Word c n e = tt
name_short kinds.Number c n e = absurd e
name_short kinds.DimX c n e = absurd e
name_short kinds.ScalX c n e = absurd e
name_short kinds.Quoted c n e = tt
name_short (kinds.Sign s) c n e = tt

not_equal : (a b : ℕ) → (a ≡ b → ⊥) → (a == b) ≡ false
not_equal a b h = elim (cases_Bool (a == b)) [ inl yes_it ↦ absurd (h (eqb-true a b yes_it)) | inr out ↦ out ]

no_sign : (c : ℕ) → (c ≡ 40 → ⊥) → (c ≡ 41 → ⊥) → (c ≡ 123 → ⊥) → (c ≡ 125 → ⊥) → (c ≡ 93 → ⊥) → (c ≡ 60 → ⊥) → (c ≡ 44 → ⊥) → (c ≡ 58 → ⊥) → (c ≡ 43 → ⊥) → (c ≡ 42 → ⊥) → single_kind c ≡ kinds.Word
unfolding single_kind
no_sign c h0 h1 h2 h3 h4 h5 h6 h7 h8 h9 =
    let e0 = not_equal c 40 h0 in
    let e1 = not_equal c 41 h1 in
    let e2 = not_equal c 123 h2 in
    let e3 = not_equal c 125 h3 in
    let e4 = not_equal c 93 h4 in
    let e5 = not_equal c 60 h5 in
    let e6 = not_equal c 44 h6 in
    let e7 = not_equal c 58 h7 in
    let e8 = not_equal c 43 h8 in
    let e9 = not_equal c 42 h9 in
    rw (e0, e1, e2, e3, e4, e5, e6, e7, e8, e9)

no_mark : (c : ℕ) (one : Bool) → NoOther c → single_kind c ≡ kinds.Word → mark_kind c one ≡ kinds.Word
unfolding mark_kind
no_mark c one h single =
    let e0 = not_equal c 37 h.percent in
    let e1 = not_equal c 64 h.at in
    let e2 = not_equal c 35 h.hash in
    let e3 = not_equal c 94 h.caret in
    let e4 = not_equal c 34 h.quote in
    let e5 = not_equal c 63 h.question in
    let e6 = not_equal c 91 h.square in
    let e7 = not_equal c 45 h.minus in
    let e8 = not_equal c 62 h.greater in
    let e9 = not_equal c 61 h.equal in
    rw (e0, e1, e2, e3, e4, e5, e6, e7, e8, e9) single

no_kind : (c z n : ℕ) → NoOther c → single_kind c ≡ kinds.Word → kind_of c z n ≡ kinds.Word
unfolding kind_of
no_kind c z n h single = let w = h.word in let d = h.digit in rw (w, d) (no_mark c (n == 1) h single)

-- a byte that begins nothing
pub bad_single : (r : List ℕ) → NoOther (slice_index r 0)
    → (slice_index r 0 ≡ 40 → ⊥)
    → (slice_index r 0 ≡ 41 → ⊥)
    → (slice_index r 0 ≡ 123 → ⊥)
    → (slice_index r 0 ≡ 125 → ⊥)
    → (slice_index r 0 ≡ 93 → ⊥)
    → (slice_index r 0 ≡ 60 → ⊥)
    → (slice_index r 0 ≡ 44 → ⊥)
    → (slice_index r 0 ≡ 58 → ⊥)
    → (slice_index r 0 ≡ 43 → ⊥)
    → (slice_index r 0 ≡ 42 → ⊥)
    → BadAt r 0
bad_single r h h0 h1 h2 h3 h4 h5 h6 h7 h8 h9 =
    bad_first r (λ z n. no_kind _ z n h (no_sign _ h0 h1 h2 h3 h4 h5 h6 h7 h8 h9)) h.word (no_separator r h.blank h.slash)
