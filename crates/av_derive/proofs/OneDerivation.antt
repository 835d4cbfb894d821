-- The classes of tokens have one derivation at most.
use Rattle.std.proofs.Common.{◌≡◌, ℕ, Bool, true, false, ◌&&◌, ◌||◌, not, ◌⊎◌, inl, inr, IsTrue, List, [], ◌∷◌, ◌++◌, refl, sym, ◌∙◌, ap, subst}
use Rattle.av_tree.specs.declared.class.Class.{Class}
use Rattle.av_tree.specs.declared.class.Class.TheVariants as class
use Rattle.av_tree.specs.declared.table.Symbol.{Symbol}
use Rattle.av_tree.specs.declared.table.Symbol.TheVariants as symbol
use Rattle.av_tree.specs.declared.table.Name.{Name}
use Rattle.av_tree.specs.declared.table.Name.TheVariants as name
use Rattle.av_tree.specs.declared.table.file.FileName.TheVariants as file_name
use Rattle.av_tree.specs.declared.table.Rule.{Rule}
use Rattle.av_tree.specs.Table.{symbols_of, name_of, choice_of, is_nullable, has_token}
use Rattle.av_tree.specs.Sets.{first_of, follow_of, has, is_same_class}
use Rattle.av_tree.proofs.Choice.{starts, starts_before, follows, both, implied, first-of-row, choice-of-row, follows-of-row, nullable-row, same-class, same-as-itself, after-file}
use Rattle.av_derive.specs.declared.machine.Event.{Event}
use Rattle.av_derive.specs.declared.machine.Event.TheVariants as event
use Rattle.av_derive.specs.Derivation.{Derives, DerivesFile, nothing_left, by_sign, by_word, by_token, by_row}
use Rattle.av_derive.specs.State.{ahead, comes_next, Told}

or-cases : (a b : Bool) → IsTrue (a || b) → IsTrue a ⊎ IsTrue b
or-cases true b h = inl refl
or-cases false b h = inr h

or-left : (a b : Bool) → IsTrue a → IsTrue (a || b)
or-left true b h = refl
or-left false b h = absurd (cc)

or-right : (a b : Bool) → IsTrue b → IsTrue (a || b)
or-right true b h = refl
or-right false b h = h

and-both : (a b : Bool) → IsTrue a → IsTrue b → IsTrue (a && b)
and-both true b h k = k
and-both false b h k = absurd (cc)

not-or : (a b : Bool) → IsTrue a → IsTrue (not b) → IsTrue (not (not a || b))
not-or true b h k = k
not-or false b h k = absurd (cc)

next-append : (xs ss : List Symbol) (c : Class) → IsTrue (comes_next (xs ++ ss) c) → IsTrue (starts xs c) ⊎ (IsTrue (not (has_token xs)) × IsTrue (comes_next ss c))
next-append [] ss c h = inr (refl, h)
next-append (symbol.Sign s ∷ xs) ss c h = inl h
next-append (symbol.Word s ∷ xs) ss c h = inl h
next-append (symbol.Token s ∷ xs) ss c h = inl h
next-append (symbol.Rows x ∷ xs) ss c h =
    elim (or-cases (has (first_of x) c) (is_nullable x && comes_next (xs ++ ss) c) h) [
      | inl k ↦ inl (or-left (has (first_of x) c) (is_nullable x && starts xs c) k)
      | inr k ↦
          let parts : IsTrue (is_nullable x) × IsTrue (comes_next (xs ++ ss) c) = both (is_nullable x) (comes_next (xs ++ ss) c) k in
          elim (next-append xs ss c parts.1) [
            | inl s ↦ inl (or-right (has (first_of x) c) (is_nullable x && starts xs c) (and-both (is_nullable x) (starts xs c) parts.0 s))
            | inr s ↦ inr (not-or (is_nullable x) (has_token xs) parts.0 s.0, s.1)
          ]
    ]

row-next : (r : Rule) (ss : List Symbol) (c : Class) → IsTrue (comes_next (symbols_of r ++ ss) c) → IsTrue (comes_next (symbol.Rows (name_of r) ∷ ss) c)
row-next r ss c h =
    elim (next-append (symbols_of r) ss c h) [
      | inl s ↦ or-left (has (first_of (name_of r)) c) (is_nullable (name_of r) && comes_next ss c) (first-of-row r c s)
      | inr s ↦ or-right (has (first_of (name_of r)) c) (is_nullable (name_of r) && comes_next ss c) (and-both (is_nullable (name_of r)) (comes_next ss c) (nullable-row r s.0) s.1)
    ]

pub next-comes : {n : ℕ} {ss : List Symbol} {cs : List Class} {es : List Event} → Derives n ss cs es → IsTrue (comes_next ss (ahead cs))
next-comes nothing_left = same-as-itself class.End
next-comes (by_sign {s = s} e d) = subst (λ (k : Class). IsTrue (is_same_class (class.Sign s) k)) (sym e) (same-as-itself (class.Sign s))
next-comes (by_word {w = w} e d) = subst (λ (k : Class). IsTrue (is_same_class (class.Word w) k)) (sym e) (same-as-itself (class.Word w))
next-comes (by_token f d) = f
next-comes (by_row {ss = ss} {cs = cs} r e d) = subst (λ (x : Name). IsTrue (comes_next (symbol.Rows x ∷ ss) (ahead cs))) e (row-next r ss (ahead cs) (next-comes d))

before-append : (xs ss : List Symbol) (x : Name) (c : Class) → (IsTrue (comes_next ss c) → IsTrue (has (follow_of x) c)) → IsTrue (comes_next (xs ++ ss) c) → IsTrue (starts_before xs x c)
before-append xs ss x c f h =
    elim (next-append xs ss c h) [
      | inl s ↦ or-left (starts xs c) (not (has_token xs) && has (follow_of x) c) s
      | inr s ↦ or-right (starts xs c) (not (has_token xs) && has (follow_of x) c) (and-both (not (has_token xs)) (has (follow_of x) c) s.0 (f s.1))
    ]

-- A row that goes on begins as its table has it.
pub starts-row : (r : Rule) (x : Name) (ss : List Symbol) (c : Class) → name_of r ≡ x → Told (symbol.Rows x ∷ ss)
    → IsTrue (comes_next (symbols_of r ++ ss) c) → IsTrue (starts_before (symbols_of r) (name_of r) c)
starts-row r x ss c e told h =
    before-append (symbols_of r) ss (name_of r) c (subst (λ (y : Name). IsTrue (comes_next ss c) → IsTrue (has (follow_of y) c)) (sym e) (told.0 c)) h

-- The row of the name that stands next is the one that is chosen.
pub chosen : (r : Rule) (x : Name) (ss : List Symbol) (c : Class) → name_of r ≡ x → Told (symbol.Rows x ∷ ss)
    → IsTrue (comes_next (symbols_of r ++ ss) c) → choice_of x c ≡ r
chosen r x ss c e told h = subst (λ (y : Name). choice_of y c ≡ r) e (choice-of-row r c (starts-row r x ss c e told h))

told-append : (x : Name) (xs ss : List Symbol) → ((c : Class) → IsTrue (follows xs x c)) → ((c : Class) → IsTrue (comes_next ss c) → IsTrue (has (follow_of x) c)) → Told ss → Told (xs ++ ss)
told-append x [] ss f g told = told
told-append x (symbol.Sign s ∷ xs) ss f g told = told-append x xs ss f g told
told-append x (symbol.Word s ∷ xs) ss f g told = told-append x xs ss f g told
told-append x (symbol.Token s ∷ xs) ss f g told = told-append x xs ss f g told
told-append x (symbol.Rows y ∷ xs) ss f g told = (
  λ c h. implied (starts_before xs x c) (has (follow_of y) c) (both _ _ (f c)).0 (before-append xs ss x c (g c) h),
  told-append x xs ss (λ c. (both _ _ (f c)).1) g told,
)

pub told-row : (r : Rule) (x : Name) (ss : List Symbol) → name_of r ≡ x → Told (symbol.Rows x ∷ ss) → Told (symbols_of r ++ ss)
told-row r x ss e told =
    told-append (name_of r) (symbols_of r) ss (follows-of-row r)
    (subst (λ (y : Name). (c : Class) → IsTrue (comes_next ss c) → IsTrue (has (follow_of y) c)) (sym e) told.0) told.1

pub one-from : {n : ℕ} {ss : List Symbol} {cs : List Class} {es es' : List Event} → Derives n ss cs es → Derives n ss cs es' → Told ss → es ≡ es'
one-from nothing_left nothing_left told = refl
one-from (by_sign e d) (by_sign e' d') told = one-from d d' told
one-from (by_word e d) (by_word e' d') told = one-from d d' told
one-from (by_token {n = n} f d) (by_token f' d') told = ap (λ (l : List Event). event.Token n ∷ l) (one-from d d' told)
one-from (by_row {n = n} {x = x} {ss = ss} {cs = cs} r e d) (by_row {es = es'} r' e' d') told =
    let same : r' ≡ r = sym (chosen r' x ss (ahead cs) e' told (next-comes d')) ∙ chosen r x ss (ahead cs) e told (next-comes d) in
    let moved : Derives n (symbols_of r ++ ss) cs es' = subst (λ (q : Rule). Derives n (symbols_of q ++ ss) cs es') same d' in
    ap (λ (l : List Event). event.Row r n ∷ l) (one-from d moved (told-row r x ss e told)) ∙ ap (λ (q : Rule). event.Row q n ∷ es') (sym same)

pub told-file : Told (symbol.Rows (name.File file_name.File) ∷ [])
told-file = (λ c h. subst (λ (k : Class). IsTrue (has (follow_of (name.File file_name.File)) k)) (same-class class.End c h) after-file, tt)

pub one-derivation : {cs : List Class} {es es' : List Event} → DerivesFile cs es → DerivesFile cs es' → es ≡ es'
one-derivation d d' = one-from d d' told-file

pub told-tail : (s : Symbol) (ss : List Symbol) → Told (s ∷ ss) → Told ss
told-tail (symbol.Rows x) ss told = told.1
told-tail (symbol.Sign x) ss told = told
told-tail (symbol.Word x) ss told = told
told-tail (symbol.Token x) ss told = told
