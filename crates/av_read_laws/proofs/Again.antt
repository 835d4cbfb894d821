-- What the rows make of words is what reading makes of their tokens.
use Rattle.std.proofs.Common.{◌≡◌, ℕ, suc, ◌+◌, ◌≤◌, Bool, true, false, cond, not, ◌&&◌, IsTrue, List, [], ◌∷◌, ◌++◌, map, refl, sym, ap, ◌∙◌, subst, arith, append_assoc}
use Rattle.std.proofs.lemmas.List.{map-append}
use Rattle.std.proofs.lemmas.List.Recursion.{is_count_by}
use Rattle.std.specs.Prelude.{count_by, if◌then◌else◌, Option, Some, None, option_map, option_and_then, slice_get}
use Rattle.av_lex.specs.declared.token.Token.{Token}
use Rattle.av_tree.specs.declared.class.Class.{Class}
use Rattle.av_tree.specs.declared.node.Tree.{Tree}
use Rattle.av_tree.specs.declared.table.Symbol.{Symbol}
use Rattle.av_tree.specs.declared.table.Symbol.TheVariants as symbol
use Rattle.av_tree.specs.declared.table.Name.{Name}
use Rattle.av_tree.specs.declared.table.Rule.{Rule}
use Rattle.av_tree.specs.Table.{symbols_of, name_of}
use Rattle.av_tree.specs.Signs.{begins_expression, counts_sign}
use Rattle.av_derive.specs.ClassOf.{classes_of, spelling_of}
use Rattle.av_derive.specs.declared.machine.Event.{Event}
use Rattle.av_derive.specs.declared.machine.Event.TheVariants as event
use Rattle.av_derive.specs.Derivation as derivation
use Rattle.av_derive.specs.Derivation.{Derives, WithinBrackets, WithinSigns, signs_with}
use Rattle.av_derive.specs.State.{signs_after}
use Rattle.av_derive.proofs.Steps.{signs-bound}
use Rattle.av_values.specs.declared.value.Value.{Value}
use Rattle.av_values.specs.declared.value.Value.TheVariants as value
use Rattle.av_values.specs.Sorts.{only_tree}
use Rattle.av_reader.specs.Building.{by_event, by_row, place_of, values_of}
use Rattle.av_read_laws.specs.Making.{Word, words_of, class_of_word, is_calculation, FewSigns, Makes}
use Rattle.av_read_laws.specs.Making as making
use Rattle.av_read_laws.specs.Places.{unplaced}
use Rattle.av_read_laws.specs.Laws.{ReadingLaw}
use Rattle.av_read_laws.proofs.Fair.{is_deep, all_inner, all_outer, one_if, asked}
use Rattle.av_read_laws.proofs.Signs.{signs_in, both, not-true, counted-asked, row-outer, inner, signs-join}
use Rattle.av_read_laws.proofs.Values.{unplaced_value}
use Rattle.av_read_laws.proofs.Rows.{row-unplaced, row-under}

-- ---- derivations one after the other
-- the number of the token behind those of these classes
abbrev after : ℕ → List Class → ℕ
after n [] = n
after n (c ∷ cs) = after (suc n) cs

derives-join : {n : ℕ} {ss : List Symbol} {cs : List Class} {es : List Event} (more : List Symbol) (others : List Class) (rest : List Event)
    → Derives n ss cs es → Derives (after n cs) more others rest → Derives n (ss ++ more) (cs ++ others) (es ++ rest)
derives-join more others rest derivation.nothing_left f = f
derives-join more others rest (derivation.by_sign e d) f = derivation.by_sign e (derives-join more others rest d f)
derives-join more others rest (derivation.by_word e d) f = derivation.by_word e (derives-join more others rest d f)
derives-join more others rest (derivation.by_token e d) f = derivation.by_token e (derives-join more others rest d f)
derives-join {n} more others rest (derivation.by_row {ss = ss} {cs = cs} {es = es} r e d) f =
    derivation.by_row r e (subst (λ (l : List Symbol). Derives n l (cs ++ others) (es ++ rest)) (append_assoc (symbols_of r) ss more) (derives-join more others rest d f))

-- ---- words
-- as many signs and words of calculation are among the words as among their classes
one-more : (b : Bool) (n : ℕ) → one_if b + n ≡ cond b (1 + n) n
one-more true n = refl
one-more false n = omega arith

signs-of : (ws : List Word) → signs_in (map class_of_word ws) ≡ count_by (λ (w : Word). is_calculation (class_of_word w)) ws
signs-of ws =
    is_count_by (λ (l : List Word). signs_in (map class_of_word l)) (λ (w : Word). is_calculation (class_of_word w)) refl
    (λ w l. one-more (is_calculation (class_of_word w)) (signs_in (map class_of_word l))) ws

same-classes : (bytes : List ℕ) (tokens : List Token) → map class_of_word (words_of bytes tokens) ≡ classes_of bytes tokens
same-classes bytes [] = refl
same-classes bytes (token ∷ tokens) = ap (λ (l : List Class). class_of_word (token.kind, spelling_of bytes token) ∷ l) (same-classes bytes tokens)

module _ (bytes : List ℕ) where
  record Token-at (tokens : List Token) (n : ℕ) (w : Word) : Type 0 where
    token : Token
    here : slice_get tokens n ≡ Some token
    is : ◌≡◌ {A = Word} (token.kind, spelling_of bytes token) w

  -- the tokens from a number on have these words
  abbrev At : List Token → ℕ → List Word → Type 0
  At tokens n [] = Unit {0}
  At tokens n (w ∷ ws) = Token-at tokens n w × At tokens (suc n) ws

  at-next : (first : Token) (tokens : List Token) (n : ℕ) (ws : List Word) → At tokens n ws → At (first ∷ tokens) (suc n) ws
  at-next first tokens n [] a = tt
  at-next first tokens n (w ∷ ws) a = (record { token = a.0.token; here = a.0.here; is = a.0.is }, at-next first tokens (suc n) ws a.1)

  at-start : (tokens : List Token) → At tokens 0 (words_of bytes tokens)
  at-start [] = tt
  at-start (token ∷ tokens) =
      (record { token = token; here = refl; is = refl }, at-next token tokens 0 (words_of bytes tokens) (at-start tokens))

  at-parts : (tokens : List Token) (n : ℕ) (ws others : List Word) → At tokens n (ws ++ others)
      → At tokens n ws × At tokens (after n (map class_of_word ws)) others
  at-parts tokens n [] others a = (tt, a)
  at-parts tokens n (w ∷ ws) others a = let rest = at-parts tokens (suc n) ws others a.1 in ((a.0, rest.0), rest.1)

  module _ (tokens : List Token) where
    -- ---- values
    token-under : (o : Option Token) (stack under out : List Value)
        → option_map {U = List Value} (λ (token : Token). value.Text (spelling_of bytes token) ∷ stack) o ≡ Some out
        → option_map {U = List Value} (λ (token : Token). value.Text (spelling_of bytes token) ∷ stack ++ under) o ≡ Some (out ++ under)
    token-under None stack under out e = absurd (cc)
    token-under (Some token) stack under out e =
        let same : value.Text (spelling_of bytes token) ∷ stack ≡ out = cc in
        ap (λ (l : List Value). Some (l ++ under)) same

    event-under : (next : Event) (stack under out : List Value) → by_event bytes tokens next stack ≡ Some out
        → by_event bytes tokens next (stack ++ under) ≡ Some (out ++ under)
    event-under (event.Token n) stack under out e = token-under (slice_get tokens n) stack under out e
    event-under (event.Row r n) stack under out e = row-under r (place_of tokens n) stack under out e

    next-join : (next : Event) (o whole : Option (List Value)) (out under : List Value) → option_and_then (by_event bytes tokens next) o ≡ Some out
        → ((stack : List Value) → o ≡ Some stack → whole ≡ Some (stack ++ under))
        → option_and_then (by_event bytes tokens next) whole ≡ Some (out ++ under)
    next-join next None whole out under e f = absurd (cc)
    next-join next (Some stack) whole out under e f =
        ap (option_and_then (by_event bytes tokens next)) (f stack refl) ∙ event-under next stack under out e

    values-join : (es rest : List Event) (out under : List Value) → values_of bytes tokens es ≡ Some out → values_of bytes tokens rest ≡ Some under
        → values_of bytes tokens (es ++ rest) ≡ Some (out ++ under)
    unfolding values_of
    values-join [] rest out under e f = let none : [] ≡ out = cc in f ∙ ap (λ (l : List Value). Some (l ++ under)) none
    values-join (next ∷ es) rest out under e f =
        next-join next (values_of bytes tokens es) (values_of bytes tokens (es ++ rest)) out under e (λ stack g. values-join es rest stack under g f)

    record One (o : Option (List Value)) (v : Value) : Type 0 where
      placed : Value
      here : o ≡ Some (placed ∷ [])
      same : unplaced_value placed ≡ v

    one : (o : Option (List Value)) (v : Value) → option_map (map unplaced_value) o ≡ Some (v ∷ []) → One o v
    one None v e = absurd (cc)
    one (Some []) v e = absurd (cc)
    one (Some (x ∷ [])) v e = record { placed = x; here = refl; same = cc }
    one (Some (x ∷ y ∷ more)) v e = absurd (cc)

    -- ---- signs
    row-signs : (most before n : ℕ) (r : Rule) (ws : List Word) (es : List Event) (b : Bool) → begins_expression r ≡ b → FewSigns b most ws
        → IsTrue (if b then all_inner (symbols_of r) else all_outer (symbols_of r) && not (counts_sign r))
        → Derives n (symbols_of r) (map class_of_word ws) es
        → (IsTrue (all_outer (symbols_of r)) → (k : ℕ) → k ≤ most → WithinSigns most k es)
        → before ≤ most → (signs_with r before ≤ most) × WithinSigns most (signs_with r before) es
    row-signs most before n r ws es true e few h d outer low =
        let with : signs_with r before ≡ 0 + (if counts_sign r then 1 else 0) = ap (λ (b : Bool). (if b then 0 else before) + (if counts_sign r then 1 else 0)) e in
        let counted : (if counts_sign r then 1 else 0) ≤ asked (symbols_of r) = counted-asked r in
        let number : signs_in (map class_of_word ws) ≡ count_by (λ (w : Word). is_calculation (class_of_word w)) ws = signs-of ws in
        let kept = inner most (signs_with r before) d h (omega (arith, few)) in
        let least : asked (symbols_of r) ≤ signs_in (map class_of_word ws) = kept.least in
        (omega (arith, few), kept.within)
    row-signs most before n r ws es false e few h d outer low =
        let parts = both (all_outer (symbols_of r)) (not (counts_sign r)) h in
        let with : signs_with r before ≡ before + (if counts_sign r then 1 else 0) = ap (λ (b : Bool). (if b then 0 else before) + (if counts_sign r then 1 else 0)) e in
        let none : ◌≡◌ {A = ℕ} (if counts_sign r then 1 else 0) 0 = ap (λ (b : Bool). if b then 1 else 0) (not-true (counts_sign r) parts.1) in
        let same : signs_with r before ≤ most = omega arith in
        (same, outer parts.0 (signs_with r before) same)

    -- ---- reading
    record Read (most n : ℕ) (ss : List Symbol) (ws : List Word) (vs : List Value) : Type 0 where
      events : List Event
      derives : Derives n ss (map class_of_word ws) events
      values : List Value
      gives : values_of bytes tokens events ≡ Some values
      same : map unplaced_value values ≡ vs
      signs : IsTrue (all_outer ss) → (before : ℕ) → before ≤ most → WithinSigns most before events

    token-gives : (n : ℕ) (events : List Event) (values : List Value) (token : Token) → slice_get tokens n ≡ Some token → values_of bytes tokens events ≡ Some values
        → values_of bytes tokens (event.Token n ∷ events) ≡ Some (value.Text (spelling_of bytes token) ∷ values)
    unfolding values_of
    token-gives n events values token e f =
        ap (option_and_then (by_event bytes tokens (event.Token n))) f
        ∙ ap (option_map {U = List Value} (λ (t : Token). value.Text (spelling_of bytes t) ∷ values)) e

    row-gives : (n : ℕ) (r : Rule) (es rest : List Event) (stack under : List Value) (v : Value) → values_of bytes tokens es ≡ Some stack
        → values_of bytes tokens rest ≡ Some under → by_row r (place_of tokens n) stack ≡ Some (v ∷ [])
        → values_of bytes tokens (event.Row r n ∷ (es ++ rest)) ≡ Some (v ∷ under)
    unfolding values_of
    row-gives n r es rest stack under v e f g =
        ap (option_and_then (by_event bytes tokens (event.Row r n))) (values-join es rest stack under e f)
        ∙ row-under r (place_of tokens n) stack under (v ∷ []) g

    with-row : (most n : ℕ) (x : Name) (ss : List Symbol) (ws others : List Word) (vs parts : List Value) (v : Value) (r : Rule)
        → name_of r ≡ x → FewSigns (begins_expression r) most ws → by_row r 0 parts ≡ Some (v ∷ [])
        → Read most n (symbols_of r) ws parts → Read most (after n (map class_of_word ws)) ss others vs
        → Read most n (symbol.Rows x ∷ ss) (ws ++ others) (v ∷ vs)
    with-row most n x ss ws others vs parts v r e few made first rest =
        let place = place_of tokens n in
        let made_here = one (by_row r place first.values) v (row-unplaced r place first.values ∙ ap (by_row r 0) first.same ∙ made) in
        let joined = derives-join ss (map class_of_word others) rest.events first.derives rest.derives in
        record {
          events = event.Row r n ∷ (first.events ++ rest.events);
          derives = derivation.by_row r e (subst (λ (cs : List Class). Derives n (symbols_of r ++ ss) cs (first.events ++ rest.events)) (sym (map-append class_of_word ws others)) joined);
          values = made_here.placed ∷ rest.values;
          gives = row-gives n r first.events rest.events first.values rest.values made_here.placed first.gives rest.gives made_here.here;
          same = ap (λ (w : Value). w ∷ map unplaced_value rest.values) made_here.same ∙ ap (λ (l : List Value). v ∷ l) rest.same;
          signs = λ outer before low.
              let split = both (not (is_deep x)) (all_outer ss) outer in
              let own = row-signs most before n r ws first.events (begins_expression r) refl few
              (row-outer r (subst (λ (y : Name). IsTrue (not (is_deep y))) (sym e) split.0)) first.derives first.signs low in (
                own.0,
                signs-join most (signs_with r before) first.events rest.events own.1
                    (rest.signs split.1 (signs_after (signs_with r before) first.events) (signs-bound most (signs_with r before) first.events own.0 own.1)),
              );
        }

    read : {most : ℕ} {ss : List Symbol} {ws : List Word} {vs : List Value} (n : ℕ) → Makes most ss ws vs → At tokens n ws → Read most n ss ws vs
    unfolding values_of
    read n making.nothing a =
        record { events = []; derives = derivation.nothing_left; values = []; gives = refl; same = refl; signs = λ outer before low. tt }
    read n (making.by_sign e m) a =
        let rest = read (suc n) m a.1 in
        record {
          events = rest.events;
          derives = derivation.by_sign e rest.derives;
          values = rest.values;
          gives = rest.gives;
          same = rest.same;
          signs = rest.signs;
        }
    read n (making.by_word e m) a =
        let rest = read (suc n) m a.1 in
        record {
          events = rest.events;
          derives = derivation.by_word e rest.derives;
          values = rest.values;
          gives = rest.gives;
          same = rest.same;
          signs = rest.signs;
        }
    read n (making.by_token {w = w} e m) a =
        let rest = read (suc n) m a.1 in
        let token = a.0.token in
        record {
          events = event.Token n ∷ rest.events;
          derives = derivation.by_token e rest.derives;
          values = value.Text (spelling_of bytes token) ∷ rest.values;
          gives = token-gives n rest.events rest.values token a.0.here rest.gives;
          same = ap (λ (word : Word). value.Text word.1 ∷ map unplaced_value rest.values) a.0.is ∙ ap (λ (l : List Value). value.Text w.1 ∷ l) rest.same;
          signs = rest.signs;
        }
    read {most} n (making.by_row {x = x} {ss = ss} {ws = ws} {others = others} {vs = vs} {v = v} {parts = parts} r e few m made more) a =
        let split = at-parts tokens n ws others a in
        with-row most n x ss ws others vs parts v r e few made (read n m split.0) (read (after n (map class_of_word ws)) more split.1)

record Placed (v : Value) (tree : Tree) : Type 0 where
  placed : Tree
  is : v ≡ value.Tree placed
  same : unplaced placed ≡ tree

placed-tree : (v : Value) (tree : Tree) → unplaced_value v ≡ value.Tree tree → Placed v tree
placed-tree (value.Tree placed) tree e = record { placed = placed; is = refl; same = cc }
placed-tree v tree e = absurd (cc)

pub reading-law : ReadingLaw
reading-law bytes tokens words tree w made =
    let r = read bytes tokens 0 made.makes (subst (At bytes tokens 0) w (at-start bytes tokens)) in
    let alone = one bytes tokens (Some r.values) (value.Tree tree) (ap Some r.same) in
    let top = placed-tree alone.placed tree alone.same in
    let classes : map class_of_word words ≡ classes_of bytes tokens = ap (map class_of_word) (sym w) ∙ same-classes bytes tokens in
    record {
      read = top.placed;
      is = record {
        events = r.events;
        derived = record {
          derives = subst (λ (cs : List Class). derivation.DerivesFile cs r.events) classes r.derives;
          brackets = subst (WithinBrackets 192 0) classes made.brackets;
          signs = r.signs refl 0 (omega arith);
        };
        makes = ap (option_and_then only_tree) (r.gives ∙ alone.here) ∙ ap (λ (v : Value). only_tree (v ∷ [])) top.is;
      };
      same = top.same;
    }
