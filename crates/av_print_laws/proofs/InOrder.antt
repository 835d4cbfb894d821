-- The entries of a dictionary in order of name.
use Rattle.std.proofs.Common.{◌≡◌, ℕ, zero, suc, ◌+◌, Bool, true, false, List, [], ◌∷◌, ◌++◌, get_or, cond, refl, subst, arith, append-nil}
use Rattle.std.specs.Prelude.{IsPermutation, IsSortedBy}
use Rattle.std.proofs.lemmas.Cmp.{nat_list_cmp_total}
use Rattle.std.proofs.lemmas.List.Sorted.{ranks_by, IsPermutation-refl, IsPermutation-sym, IsPermutation-cons, IsPermutation-trans, IsPermutation-middle, IsPermutation-append_right}
use Rattle.av_tree.specs.declared.attribute.Named.{Named}
use Rattle.av_printer.specs.Dictionaries.{inserted, in_order, ordered_onto, stands_before}
use Rattle.av_print_laws.specs.WrittenLaws.{OrderedEntriesLaw, name_of}

abbrev before : Named → Named → Bool
before x y = stands_before (name_of x) (name_of y)

-- ---- sorted
abbrev FirstNotBefore : Named → List Named → Type 0
FirstNotBefore x [] = Unit {0}
FirstNotBefore x (y ∷ ys) = before y x ≡ false

-- none is before the one that it follows
abbrev Rises : List Named → Type 0
Rises [] = Unit {0}
Rises (x ∷ xs) = FirstNotBefore x xs × Rises xs

sorted : (xs : List Named) → Rises xs → IsSortedBy before xs
sorted [] h k d a b = absurd (omega arith)
sorted (x ∷ []) h k d a b = absurd (omega arith)
sorted (x ∷ y ∷ ys) h zero d a b = h.0
sorted (x ∷ y ∷ ys) h (suc k) d a b =
    let AtNext : ℕ → Type 0 = λ n. before (get_or (x ∷ y ∷ ys) n d) (get_or (y ∷ ys) k d) ≡ false in
    let next : suc (k + 1) ≡ suc k + 1 = omega arith in
    subst AtNext next (sorted (y ∷ ys) h.1 k d (omega arith) (omega arith))

first-chosen : (b : Bool) (e x y : Named) (ys : List Named) → before e x ≡ false → before y x ≡ false → FirstNotBefore x (cond b (e ∷ y ∷ ys) (y ∷ inserted e ys))
first-chosen true e x y ys new old = new
first-chosen false e x y ys new old = old

first-inserted : (e x : Named) (xs : List Named) → before e x ≡ false → FirstNotBefore x xs → FirstNotBefore x (inserted e xs)
unfolding inserted
first-inserted e x [] new old = new
first-inserted e x (y ∷ ys) new old = first-chosen (before e y) e x y ys new old

rises-chosen : (b : Bool) (e x : Named) (xs : List Named) → before e x ≡ b → Rises (x ∷ xs) → Rises (inserted e xs) → Rises (cond b (e ∷ x ∷ xs) (x ∷ inserted e xs))
rises-chosen true e x xs is rises more = ((ranks_by nat_list_cmp_total name_of).one_way e x is, rises)
rises-chosen false e x xs is rises more = (first-inserted e x xs is rises.0, more)

rises-inserted : (e : Named) (xs : List Named) → Rises xs → Rises (inserted e xs)
unfolding inserted
rises-inserted e [] rises = (tt, tt)
rises-inserted e (x ∷ xs) rises = rises-chosen (before e x) e x xs refl rises (rises-inserted e xs rises.1)

rises-onto : (ordered entries : List Named) → Rises ordered → Rises (ordered_onto ordered entries)
unfolding ordered_onto
rises-onto ordered [] rises = rises
rises-onto ordered (e ∷ entries) rises = rises-onto (inserted e ordered) entries (rises-inserted e ordered rises)

-- ---- the same entries
same-chosen : (b : Bool) (e x : Named) (xs : List Named) → IsPermutation (e ∷ xs) (inserted e xs) → IsPermutation (e ∷ x ∷ xs) (cond b (e ∷ x ∷ xs) (x ∷ inserted e xs))
same-chosen true e x xs same = IsPermutation-refl (e ∷ x ∷ xs)
same-chosen false e x xs same = IsPermutation-trans _ _ _ (IsPermutation-middle (e ∷ []) x xs) (IsPermutation-cons x _ _ same)

same-inserted : (e : Named) (xs : List Named) → IsPermutation (e ∷ xs) (inserted e xs)
unfolding inserted
same-inserted e [] = IsPermutation-refl (e ∷ [])
same-inserted e (x ∷ xs) = same-chosen (before e x) e x xs (same-inserted e xs)

same-onto : (ordered entries : List Named) → IsPermutation (entries ++ ordered) (ordered_onto ordered entries)
unfolding ordered_onto
same-onto ordered [] = IsPermutation-refl ordered
same-onto ordered (e ∷ entries) =
    let behind = IsPermutation-sym _ _ (IsPermutation-middle entries e ordered) in
    let placed = IsPermutation-append_right entries _ _ (same-inserted e ordered) in
    IsPermutation-trans _ _ _ behind (IsPermutation-trans _ _ _ placed (same-onto (inserted e ordered) entries))

pub ordered-entries-law : OrderedEntriesLaw
ordered-entries-law entries =
    let Same : List Named → Type 0 = λ l. IsPermutation l (in_order entries) in
    (sorted (in_order entries) (rises-onto [] entries tt), subst Same (append-nil entries) (same-onto [] entries))
