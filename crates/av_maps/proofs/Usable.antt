-- Maps and sets that are taken can be evaluated.
use Rattle.std.proofs.Common.{◌≡◌, ℕ, ◌<◌, ◌≤◌, Bool, true, false, ◌&&◌, List, [], ◌∷◌, length, get_or, map, refl, ap, sym, subst, ◌∙◌, arith}
use Rattle.std.specs.Prelude.{nat_le, is_some}
use Rattle.std.specs.List.{All, list_all}
use Rattle.std.proofs.lemmas.Bool.Decides.{nat_tests}
use Rattle.std.proofs.lemmas.List.{length-map}
use Rattle.std.proofs.lemmas.List.Folds.{list_all_at}
use Rattle.av_affine.specs.declared.expression.Expr.{Expr}
use Rattle.av_affine.specs.declared.expression.SetRow.{SetRow}
use Rattle.av_affine.specs.Finding.{bound_found}
use Rattle.av_affine.specs.Limits.{Admissible, node_count}
use Rattle.av_affine_laws.specs.Normalised.{IsNormal, normalised, parameter_for, renamed, by_kind, occurring}
use Rattle.av_affine_laws.proofs.Normalising.{normalised-is-normal-law}
use Rattle.av_affine_laws.proofs.Renamed.{normalised-limits-law}
use Rattle.av_maps.specs.Applying.{normal_use, numbers, value_of}
use Rattle.av_maps.specs.ApplyingLaws.{NormalUseLaw, UsableMapLaw, UsableSetLaw}
use Rattle.av_maps.specs.Asked.{has_own, is_good}
use Rattle.av_maps.specs.Names.{parameters_differ}
use Rattle.av_maps.specs.Written.{map_of, set_of}
use Rattle.av_maps.proofs.Variants.{test_admissible}

-- what holds of all holds of each
holds_at : {X : Type 0} (p : X → Bool) (xs : List X) (k : ℕ) (d : X) → k < length xs → list_all p xs ≡ true → p (get_or xs k d) ≡ true
holds_at p xs k d below h = by (p (get_or xs k d)) refl
  where
    by : (b : Bool) → p (get_or xs k d) ≡ b → p (get_or xs k d) ≡ true
    by true e = e
    by false e = let g : true ≡ false = sym h ∙ list_all_at p xs k d below e in absurd (grind arith)

second : (a b : Bool) → (a && b) ≡ true → b ≡ true
second a b h = grind arith

good_admissible : (dims syms : ℕ) (e : Expr) → is_good dims syms e ≡ true → Admissible e
good_admissible dims syms e h = test_admissible (has_own dims syms e) (nat_le (node_count e) 64) (is_some (bound_found e)) e refl refl h

all_admissible : (dims syms : ℕ) (es : List Expr) → list_all (is_good dims syms) es ≡ true → All Admissible es
all_admissible dims syms es h = λ k d below. good_admissible dims syms (get_or es k d) (holds_at (is_good dims syms) es k d below h)

few : (n m : ℕ) → nat_le n m ≡ true → n ≤ m
few n m h = grind (arith, nat_tests)

pub usable_map_law : UsableMapLaw
usable_map_law m operands affine short =
    let good = second (parameters_differ m.dims m.syms) (list_all (is_good (length m.dims) (length m.syms)) (map_of m).results) affine in
    let all = all_admissible (length m.dims) (length m.syms) (map_of m).results good in
    let same : length (normal_use (map_of m) operands).map.results ≡ length (map_of m).results =
    length-map (map_of m).results (renamed (parameter_for (by_kind (map_of m) (numbers operands)) (occurring (by_kind (map_of m) (numbers operands)) (map_of m).results))) in
    ((normalised-limits-law (map_of m) (numbers operands)).1 all, subst (λ n. n ≤ 8) (sym same) (few (length (map_of m).results) 8 short))

pub usable_set_law : UsableSetLaw
usable_set_law s affine short =
    let good = second (parameters_differ s.dims s.syms) (list_all (λ row. is_good (length s.dims) (length s.syms) row.left) (set_of s).rows) affine in (
      (λ k d below. good_admissible (length s.dims) (length s.syms) (get_or (set_of s).rows k d).left
          (holds_at (λ (row : SetRow). is_good (length s.dims) (length s.syms) row.left) (set_of s).rows k d below good)),
      few (length (set_of s).rows) 64 short,
    )

-- the numbers of the values of numbers are these
numbers_back : (ns : List ℕ) → numbers (map value_of ns) ≡ ns
numbers_back [] = refl
numbers_back (n ∷ ns) = ap (λ ms. n ∷ ms) (numbers_back ns)

pub normal_use_law : NormalUseLaw
normal_use_law m operands =
    let n = normalised m (numbers operands) in
    subst (λ ns. IsNormal n.map ns) (sym (numbers_back n.operands)) (normalised-is-normal-law m (numbers operands))
