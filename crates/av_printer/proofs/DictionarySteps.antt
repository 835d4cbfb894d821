-- Entries put in order, one by one.
use Rattle.std.proofs.Common.{◌≡◌, ℕ, zero, suc, ◌+◌, ◌<◌, ◌≤◌, true, false, cond, List, [], ◌∷◌, ◌++◌, length, get_or, take, drop, insert, refl, sym, ap, ◌∙◌, arith}
use Rattle.std.proofs.lemmas.List.{drop_all}
use denote.Ref.{Bor}
use Rattle.av_tree.specs.declared.attribute.Named.{Named, out-Named}
use Rattle.av_printer.specs.Dictionaries.{stands_before, inserted, ordered_onto, pointed}

-- where the first i stand before an entry, and that at i doesn't
pub place-here : (xs : List Named) (e x : Named) (i : ℕ) → i < length xs → x ≡ get_or xs i x → true ≡ stands_before (out-Named e).name (out-Named x).name
    → inserted e (drop i xs) ≡ e ∷ drop i xs
unfolding inserted
place-here [] e x i h q b = absurd (omega arith)
place-here (y ∷ xs) e x zero h q b = ap (λ t. cond t (e ∷ y ∷ xs) (y ∷ inserted e xs)) (sym (b ∙ ap (λ z. stands_before (out-Named e).name (out-Named z).name) q))
place-here (y ∷ xs) e x (suc i) h q b = place-here xs e x i (omega arith) q b

place-next : (xs : List Named) (e x : Named) (i : ℕ) → i < length xs → x ≡ get_or xs i x → false ≡ stands_before (out-Named e).name (out-Named x).name
    → take i xs ++ inserted e (drop i xs) ≡ take (suc i) xs ++ inserted e (drop (suc i) xs)
unfolding inserted
place-next [] e x i h q b = absurd (omega arith)
place-next (y ∷ xs) e x zero h q b = ap (λ t. cond t (e ∷ y ∷ xs) (y ∷ inserted e xs)) (sym (b ∙ ap (λ z. stands_before (out-Named e).name (out-Named z).name) q))
place-next (y ∷ xs) e x (suc i) h q b = ap (λ ys. y ∷ ys) (place-next xs e x i (omega arith) q b)

one_more : (i : ℕ) → i + 1 ≡ suc i
one_more i = omega arith

pub place-on : (xs : List Named) (e x : Named) (i : ℕ) → i < length xs → x ≡ get_or xs i x → false ≡ stands_before (out-Named e).name (out-Named x).name
    → take (i + 1) xs ++ inserted e (drop (i + 1) xs) ≡ take i xs ++ inserted e (drop i xs)
place-on xs e x i h q b = ap (λ n. take n xs ++ inserted e (drop n xs)) (one_more i) ∙ sym (place-next xs e x i h q b)

pub place-end : (xs : List Named) (e : Named) (i : ℕ) → length xs ≤ i → inserted e (drop i xs) ≡ e ∷ drop i xs
unfolding inserted
place-end xs e i h = ap (inserted e) (drop_all i xs h) ∙ ap (λ ys. e ∷ ys) (sym (drop_all i xs h))

pub pointed-at : (rs : List (Bor Named)) (i : ℕ) (d : Bor Named) → get_or (pointed rs) i d.now ≡ (get_or rs i d).now
pointed-at [] i d = refl
pointed-at (r ∷ rs) zero d = refl
pointed-at (r ∷ rs) (suc i) d = pointed-at rs i d

pub pointed-length : (rs : List (Bor Named)) → length (pointed rs) ≡ length rs
pointed-length [] = refl
pointed-length (r ∷ rs) = ap suc (pointed-length rs)

pub pointed-insert : (rs : List (Bor Named)) (i : ℕ) (r : Bor Named) → pointed (insert rs i r) ≡ insert (pointed rs) i r.now
pointed-insert rs zero r = refl
pointed-insert [] (suc i) r = refl
pointed-insert (q ∷ rs) (suc i) r = ap (λ ys. q.now ∷ ys) (pointed-insert rs i r)

pub ordered-on : (done es : List Named) (i : ℕ) (e : Named) → i < length es → e ≡ get_or es i e
    → ordered_onto (inserted e done) (drop (i + 1) es) ≡ ordered_onto done (drop i es)
unfolding ordered_onto
ordered-on done [] i e h q = absurd (omega arith)
ordered-on done (x ∷ es) zero e h q = ap (λ y. ordered_onto (inserted y done) es) q
ordered-on done (x ∷ es) (suc i) e h q =
    ap (λ n. ordered_onto (inserted e done) (drop n (x ∷ es))) (one_more (suc i))
    ∙ ap (λ n. ordered_onto (inserted e done) (drop n es)) (sym (one_more i))
    ∙ ordered-on done es i e (omega arith) q

pub ordered-end : (done es : List Named) (i : ℕ) → length es ≤ i → ordered_onto done (drop i es) ≡ done
unfolding ordered_onto
ordered-end done es i h = ap (ordered_onto done) (drop_all i es h)
