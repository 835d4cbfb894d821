-- Patterns in pieces, piece after piece.
use Rattle.std.proofs.Common.{◌≡◌, ℕ, zero, suc, ◌+◌, ◌-◌, ◌/◌, ◌<◌, ◌≤◌, max, min, ap, sym, ◌∙◌, refl, List, [], ◌∷◌, ◌++◌, append_assoc, append-nil, length, map, take, drop, get_or, arith, inl, inr}
use Rattle.std.specs.Prelude.{unwrap_or, slice_get}
use Rattle.std.proofs.lemmas.Bool.{cases_lt}
use Rattle.std.proofs.lemmas.List.{take_all, drop_all, drop_more}
use Rattle.av_ir.specs.declared.ty.Elem.{Elem}
use Rattle.av_tree.specs.declared.attribute.Element.{Element}
use Rattle.av_tree.specs.declared.attribute.Element.TheVariants as element
use Rattle.av_totree.specs.Constants.{one_of, element_of, pieces, nested_of}

held_at_one : (n m : ℕ) (ps : List ℕ) → m ≡ max n 1 → pieces n (length ps / m) ps ≡ pieces n (length ps / n) ps
unfolding pieces
held_at_one zero m ps h = refl
held_at_one (suc n) m ps h = let e : m ≡ suc n = omega arith in ap (λ k. pieces (suc n) (length ps / k) ps) e

pub at_start : (f : List ℕ → Element) (n k m : ℕ) (ps : List ℕ) (parts : List Element) → parts ≡ [] → k ≡ n → m ≡ max k 1
    → parts ++ map f (pieces (n - 0) (length ps / m) ps) ≡ map f (pieces n (length ps / n) ps)
at_start f n k m ps parts none same h =
    let e : n - 0 ≡ n = omega arith in
    ap (λ l. l ++ map f (pieces (n - 0) (length ps / m) ps)) none
    ∙ ap (λ j. map f (pieces j (length ps / m) ps)) e
    ∙ ap (map f) (held_at_one n m ps (h ∙ ap (λ j. max j 1) same))

take_held : (each : ℕ) (ps : List ℕ) → take (min each (length ps)) ps ≡ take each ps
take_held each ps = elim (cases_lt (length ps) each) [
  | inl h ↦ take_all (min each (length ps)) ps (omega arith) ∙ sym (take_all each ps (omega arith))
  | inr h ↦ let e : min each (length ps) ≡ each = omega arith in ap (λ k. take k ps) e
]

drop_held : (each : ℕ) (ps : List ℕ) → drop (min each (length ps)) ps ≡ drop each ps
drop_held each ps = elim (cases_lt (length ps) each) [
  | inl h ↦ drop_all (min each (length ps)) ps (omega arith) ∙ sym (drop_all each ps (omega arith))
  | inr h ↦ let e : min each (length ps) ≡ each = omega arith in ap (λ k. drop k ps) e
]

pieces_left : (n done each : ℕ) (ps : List ℕ) → done < n → pieces (n - done) each ps ≡ take each ps ∷ pieces (n - (done + 1)) each (drop each ps)
unfolding pieces
pieces_left n done each ps below = let e : n - done ≡ suc (n - (done + 1)) = omega arith in ap (λ k. pieces k each ps) e

module _ (f : List ℕ → Element) (n done each held : ℕ) (others now later : List ℕ) (parts pushed all : List Element) (part : Element) where
  pub one_more_part : done < n → held ≡ min each (length others) → now ≡ take held others → later ≡ drop held others
      → part ≡ f now → pushed ≡ parts ++ part ∷ []
      → parts ++ map f (pieces (n - done) each others) ≡ all → pushed ++ map f (pieces (n - (done + 1)) each later) ≡ all
  one_more_part below hold front back made push h =
      let first : now ≡ take each others = front ∙ ap (λ k. take k others) hold ∙ take_held each others in
      let behind : later ≡ drop each others = back ∙ ap (λ k. drop k others) hold ∙ drop_held each others in
      ap (λ l. l ++ map f (pieces (n - (done + 1)) each later)) (push ∙ ap (λ p. parts ++ p ∷ []) (made ∙ ap f first))
      ∙ append_assoc parts (f (take each others) ∷ []) (map f (pieces (n - (done + 1)) each later))
      ∙ ap (λ l. parts ++ f (take each others) ∷ map f (pieces (n - (done + 1)) each l)) behind
      ∙ ap (λ l. parts ++ map f l) (sym (pieces_left n done each others below))
      ∙ h

pub no_part_left : (f : List ℕ → Element) (n done each : ℕ) (others : List ℕ) (parts all : List Element) → n ≤ done
    → parts ++ map f (pieces (n - done) each others) ≡ all → parts ≡ all
unfolding pieces
no_part_left f n done each others parts all behind h =
    let e : n - done ≡ 0 = omega arith in sym (append-nil parts) ∙ ap (λ k. parts ++ map f (pieces k each others)) (sym e) ∙ h

first_pattern : (ps : List ℕ) → unwrap_or (slice_get ps 0) 0 ≡ get_or ps 0 0
first_pattern [] = refl
first_pattern (p ∷ ps) = refl

pub nested_empty : (sizes : List ℕ) (elem : Elem) (ps : List ℕ) (p : ℕ) → length sizes < 1 → p ≡ unwrap_or (slice_get ps 0) 0
    → element_of (one_of elem p) ≡ nested_of sizes elem ps
unfolding nested_of
nested_empty [] elem ps p h is = ap (λ q. element_of (one_of elem q)) (is ∙ first_pattern ps)
nested_empty (n ∷ sizes) elem ps p h is = absurd (omega arith)

pub nested_parts : (sizes : List ℕ) (elem : Elem) (ps : List ℕ) → 1 ≤ length sizes
    → element.List (map (nested_of (take (length sizes - 1) (drop 1 sizes)) elem) (pieces (get_or sizes 0 0) (length ps / get_or sizes 0 0) ps))
    ≡ nested_of sizes elem ps
unfolding nested_of
nested_parts [] elem ps h = absurd (omega arith)
nested_parts (n ∷ sizes) elem ps h =
    ap (λ l. element.List (map (nested_of l elem) (pieces n (length ps / n) ps))) (take_all (suc (length sizes) - 1) sizes (omega arith))
