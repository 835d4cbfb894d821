-- Operations that fit forms, and others that don't, worked out.
use Rattle.std.proofs.Common.{◌≡◌, ℕ, Bool, true, false, ◌&&◌, ◌||◌, suc, List, [], ◌∷◌, None, Some, refl, ap, sym, subst, ◌∙◌, if◌then◌else◌}
use Rattle.std.specs.Prelude.{codes, pos}
use Rattle.std.specs.List.{list_any}
use Rattle.std.specs.Str.{bytes_eq}
use Rattle.std.proofs.lemmas.Slice.Eq.{bytes_eq-Decides}
use Rattle.av_tree.specs.declared.attribute.Attr.{out-Attr}
use Rattle.av_tree.specs.declared.attribute.Attr.TheVariants as attr
use Rattle.av_tree.specs.declared.attribute.Named.{Named}
use Rattle.av_dialects.specs.declared.item.Key.{Key}
use Rattle.av_dialects.specs.declared.item.Key.TheVariants as key
use Rattle.av_dialects.specs.Rows.{predicates}
use Rattle.av_form_laws.specs.Examples.{CastExamples, LineExamples, MarkExamples, OperandExamples, TypedExamples, WordsFit}
use Rattle.av_form_laws.proofs.WholeLoop.{loop-examples}
use Rattle.av_form_laws.proofs.LoopExamples.{access-examples, bound-examples, carried-examples, else-examples, region-examples, result-examples, step-examples}
use Rattle.av_form_laws.proofs.Entries.{out-hash, out-number}
use Rattle.av_values.proofs.Entries.{value-of}
use Rattle.av_form_laws.specs.Properties.{first_word, is_word_of, long, place_in, word_at, word_entry, word_in}
use Rattle.av_values.specs.Gifts.{Line}

cast-examples : CastExamples
cast-examples t u i j = (
  (tt, ((i, refl), ((j, refl), refl))),
  refl,
  (λ h. h.0),
  (λ h. let e : Some None ≡ Some (Some _) = h.1.0.1 in cc),
  (λ h. let e : _ ∷ [] ≡ [] = ap (λ (m : Line). m.operands) h.1.1.1 in cc),
)

operand-examples : OperandExamples
operand-examples = (
  (tt, (tt, refl)),
  (tt, (refl, refl)),
  (λ h. let e : _ ∷ [] ≡ [] = h.1.0 in cc),
  (tt, refl),
  (λ h. h.0),
  (tt, refl),
  (λ h. h.0),
)

typed-examples : TypedExamples
typed-examples t v i j = (
  ((refl, refl, refl), refl),
  ((refl, tt, ap (λ q. q && true) i), refl),
  (λ h. h.0.1),
  (tt, (tt, (tt, ((tt, i, refl, refl), refl)))),
  (tt, (tt, (tt, ((j, i, refl, refl), refl)))),
  (λ s no h. no h.1.1.1.0.0),
)

mark-examples : MarkExamples
mark-examples e = ((tt, refl), (λ h. let d : _ ∷ [] ≡ [] = ap (λ (m : Line). m.attrs) h in cc))

-- ---- words
one-more : (first : Bool) (word w : List ℕ) (ws : List (List ℕ)) → bytes_eq word w ≡ first → (first || list_any (bytes_eq word) ws) ≡ true
    → (list_any (bytes_eq word) ws ≡ true → word_at ws (place_in ws word) ≡ word)
    → word_at (w ∷ ws) (if first then 0 else suc (place_in ws word)) ≡ word
one-more true word w ws e h others = sym ((bytes_eq-Decides word w).0 e)
one-more false word w ws e h others = others h

word-found : (ws : List (List ℕ)) (word : List ℕ) → list_any (bytes_eq word) ws ≡ true → word_at ws (place_in ws word) ≡ word
word-found [] word h = cc
word-found (w ∷ ws) word h = one-more (bytes_eq word w) word w ws refl h (word-found ws word)

said : (k : Key) (word : List ℕ) → is_word_of k word ≡ true → (es : List Named) → first_word (word_entry k word ∷ es) ≡ word
said key.Predicate word h es =
    ap (λ x. word_in (out-Attr x)) (value-of (codes "predicate") (attr.Number (pos (place_in predicates word)) long))
    ∙ ap word_in (out-number (pos (place_in predicates word)) long) ∙ word-found predicates word h
said key.Kind word h es =
    ap (λ x. word_in (out-Attr x)) (value-of (codes "kind") (attr.Hash (codes "#vector.kind") (word ∷ [])))
    ∙ ap word_in (out-hash (codes "#vector.kind") (word ∷ []))
said key.StaticPosition word h es = cc
said key.Mask word h es = cc

word-fits : (k : Key) (word : List ℕ) → is_word_of k word ≡ true → (es : List Named)
    → (is_word_of k (first_word (word_entry k word ∷ es)) ≡ true)
    × (word_entry k word ∷ es ≡ word_entry k (first_word (word_entry k word ∷ es)) ∷ es)
word-fits k word h es =
    let e : first_word (word_entry k word ∷ es) ≡ word = said k word h es in
    (subst (λ (u : List ℕ). is_word_of k u ≡ true) (sym e) h, ap (λ (u : List ℕ). word_entry k u ∷ es) (sym e))

words-fit : WordsFit
words-fit k word h i n = (word-fits k word h n.properties, word-fits k word h n.properties)

pub line-examples : LineExamples
line-examples = (
  cast-examples,
  operand-examples,
  typed-examples,
  mark-examples,
  region-examples,
  else-examples,
  step-examples,
  bound-examples,
  carried-examples,
  result-examples,
  access-examples,
  loop-examples,
  words-fit,
)
