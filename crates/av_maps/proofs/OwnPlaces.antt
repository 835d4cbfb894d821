-- Where names differ, each stands at its own place.
use Rattle.std.proofs.Common.{◌≡◌, ℕ, ◌<◌, zero, suc, Bool, true, false, not, List, [], ◌∷◌, length, get_or, Some, None, refl, arith, ap, sym, ◌∙◌, ◌&&◌}
use Rattle.std.specs.List.{position_or_len}
use Rattle.std.specs.Str.{bytes_eq}
use Rattle.std.proofs.lemmas.Bool.Decides.{nat_tests}
use Rattle.std.proofs.lemmas.List.Folds.{list_any_at}
use Rattle.std.proofs.lemmas.List.Sums.{position_or_len_is}
use Rattle.std.proofs.lemmas.Slice.Eq.{bytes_eq-Decides}
use Rattle.av_affine.specs.declared.expression.Leaf.TheVariants.{Dim, Sym}
use Rattle.av_maps.specs.Names.{are_own, is_among, leaf_among, leaf_of, place_of}
use Rattle.av_maps.specs.WrittenLaws.{OwnNumbersLaw}

equal_itself : (xs : List ℕ) → bytes_eq xs xs ≡ true
equal_itself xs = (bytes_eq-Decides xs xs).1 refl

-- a test that would give a false answer
not_so : (b : Bool) (r : Bool) → (b ≡ true → r ≡ true) → r ≡ false → b ≡ false
not_so true r f h = absurd (let g = f refl in grind arith)
not_so false r f h = refl

turned : (xs ys : List ℕ) → bytes_eq xs ys ≡ true → bytes_eq ys xs ≡ true
turned xs ys h = (bytes_eq-Decides ys xs).1 (sym ((bytes_eq-Decides xs ys).0 h))

differ : (xs ys : List ℕ) → bytes_eq xs ys ≡ false → bytes_eq ys xs ≡ false
differ xs ys h = not_so (bytes_eq ys xs) (bytes_eq xs ys) (turned ys xs) h

-- no name is equal to one that isn't among them
not_at : (names : List (List ℕ)) (name : List ℕ) (k : ℕ) (d : List ℕ) → is_among names name ≡ false → k < length names
    → bytes_eq (get_or names k d) name ≡ false
not_at names name k d h below =
    not_so (bytes_eq (get_or names k d) name) (is_among names name) (list_any_at (λ one. bytes_eq one name) names k d below) h

-- what is asked of the first name and of the rest
own_parts : (a b c : Bool) → (not a && not b && c) ≡ true → (a ≡ false) × (b ≡ false) × (c ≡ true)
own_parts true b c h = absurd (grind arith)
own_parts false true c h = absurd (grind arith)
own_parts false false c h = (refl, refl, h)

abbrev parts : (name : List ℕ) (names others : List (List ℕ)) → are_own (name ∷ names) others ≡ true
    → (is_among names name ≡ false) × (is_among others name ≡ false) × (are_own names others ≡ true)
parts name names others h = own_parts (is_among names name) (is_among others name) (are_own names others) h

-- names at two places differ
earlier : (names others : List (List ℕ)) (j k : ℕ) (d : List ℕ) → are_own names others ≡ true → j < k → k < length names
    → bytes_eq (get_or names j d) (get_or names k d) ≡ false
earlier [] others j k d h less below = absurd (omega arith)
earlier (name ∷ names) others j zero d h less below = absurd (omega arith)
earlier (name ∷ names) others zero (suc k) d h less below =
    let p = parts name names others h in
    differ (get_or names k d) name (not_at names name k d p.0 (omega arith))
earlier (name ∷ names) others (suc j) (suc k) d h less below =
    let p = parts name names others h in earlier names others j k d p.2 (omega arith) (omega arith)

-- and none is among the others
apart : (names others : List (List ℕ)) (j k : ℕ) (d : List ℕ) → are_own names others ≡ true → j < length names → k < length others
    → bytes_eq (get_or names j d) (get_or others k d) ≡ false
apart [] others j k d h here there = absurd (omega arith)
apart (name ∷ names) others zero k d h here there =
    let p = parts name names others h in differ (get_or others k d) name (not_at others name k d p.1 there)
apart (name ∷ names) others (suc j) k d h here there =
    let p = parts name names others h in apart names others j k d p.2 (omega arith) there

own_place : (names others : List (List ℕ)) (k : ℕ) (d : List ℕ) → are_own names others ≡ true → k < length names
    → position_or_len (λ one. bytes_eq one (get_or names k d)) names ≡ k
own_place names others k d h below =
    position_or_len_is (λ one. bytes_eq one (get_or names k d)) names k d (omega arith) (λ j less. earlier names others j k d h less below) (λ l. equal_itself (get_or names k d))

no_place : (names others : List (List ℕ)) (k : ℕ) (d : List ℕ) → are_own names others ≡ true → k < length others
    → position_or_len (λ one. bytes_eq one (get_or others k d)) names ≡ length names
no_place names others k d h below =
    position_or_len_is (λ one. bytes_eq one (get_or others k d)) names (length names) d (omega arith) (λ j less. apart names others j k d h less below)
    (λ l. absurd (omega arith))

place_found : (names : List (List ℕ)) (name : List ℕ) (k : ℕ) → position_or_len (λ one. bytes_eq one name) names ≡ k → k < length names
    → place_of names name ≡ Some k
place_found names name k h below = grind (arith, nat_tests)

place_missed : (names : List (List ℕ)) (name : List ℕ) → position_or_len (λ one. bytes_eq one name) names ≡ length names
    → place_of names name ≡ None
place_missed names name h = grind (arith, nat_tests)

dimension_found : (dims syms : List (List ℕ)) (name : List ℕ) (k : ℕ) → place_of dims name ≡ Some k → leaf_of dims syms name ≡ Dim k
dimension_found dims syms name k h = ap (λ o. leaf_among o (place_of syms name) (length dims)) h

symbol_found : (dims syms : List (List ℕ)) (name : List ℕ) (k : ℕ) → place_of dims name ≡ None → place_of syms name ≡ Some k
    → leaf_of dims syms name ≡ Sym k
symbol_found dims syms name k h g =
    ap (λ o. leaf_among o (place_of syms name) (length dims)) h ∙ ap (λ o. leaf_among None o (length dims)) g

two_hold : (a b : Bool) → (a && b) ≡ true → (a ≡ true) × (b ≡ true)
two_hold true b h = (refl, h)
two_hold false b h = absurd (grind arith)

pub own_numbers_law : OwnNumbersLaw
own_numbers_law dims syms h =
    let p = two_hold (are_own dims syms) (are_own syms []) h in (
      (λ k d below. dimension_found dims syms (get_or dims k d) k (place_found dims (get_or dims k d) k (own_place dims syms k d p.0 below) below)),
      (λ k d below. symbol_found dims syms (get_or syms k d) k (place_missed dims (get_or syms k d) (no_place dims syms k d p.0 below))
          (place_found syms (get_or syms k d) k (own_place syms [] k d p.1 below) below)),
    )
