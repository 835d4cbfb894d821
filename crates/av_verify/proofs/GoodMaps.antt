-- A map whose rules hold is within its limits in its normal form.
use Rattle.std.proofs.Common.{◌≡◌, ◌∙◌, ℕ, ◌+◌, ◌≤◌, ◌^◌, arith, Bool, true, false, List, [], length, Option, Some, None, refl, ap}
use Rattle.std.specs.Prelude.{◌&&◌, nat_le, is_some, if◌then◌else◌}
use Rattle.std.specs.List.{All, list_all}
use Rattle.std.proofs.lemmas.Bool.Decides.{nat_tests}
use Rattle.std.proofs.lemmas.List.{length-map}
use Rattle.std.proofs.lemmas.List.Elements.{All-map, All-weaker}
use Rattle.std.proofs.lemmas.List.Sums.{AllPass-from_list_all}
use Rattle.av_affine.specs.declared.expression.Expr.{Expr}
use Rattle.av_affine.specs.declared.expression.Leaf.TheVariants.{Dim}
use Rattle.av_affine.specs.Finding.{bound_found, sum_found}
use Rattle.av_affine.specs.Limits.{node_count, Admissible}
use Rattle.av_affine.proofs.Found.{found-sound}
use Rattle.av_affine.proofs.Variants.{bound_found-Param, bound_found-Const, bound_found-Add, bound_found-Sub, node_count-Param, node_count-Const, node_count-Add, node_count-Sub}
use Rattle.av_ir.specs.declared.module.ValueId.{ValueId}
use Rattle.av_affine.specs.declared.expression.AffMap.{AffMap}
use Rattle.av_ir.specs.WellFormed.{IsUsable}
use Rattle.av_tree.specs.declared.written.ExprText.{ExprText, Name, Const, Neg', Add', Sub', Mul', Mod', Floor', Ceil', end_of-ExprText, more_of-ExprText}
use Rattle.av_tree.specs.declared.written.MapText.{MapText}
use Rattle.av_verify.specs.Accesses.{has_few_results, normal_of}
use Rattle.av_verify.specs.Expressions.{node_count as nodes_of, bound_found as bound_in, is_parameter, is_admissible, are_own, is_affine}
use Rattle.av_verify.specs.Maps.{renamed, normal_map, occurring, parameter_value, place_among}

pub both : (a b : Bool) → a && b ≡ true → (a ≡ true) × (b ≡ true)
both true b h = (refl, h)
both false b h = absurd (cc)

-- ---- expressions
in_bounds : (b : Bool) (bound n : ℕ) → (if b then Some bound else None) ≡ Some n → Some bound ≡ Some n
in_bounds true bound n h = h
in_bounds false bound n h = absurd (cc)

-- what is found of two sides is found of their other forms
both_sides : (x y x' y' : Option ℕ) (j k j' k' n : ℕ)
    → ((p : ℕ) → x ≡ Some p → (x' ≡ Some p) × (j' ≡ j)) → ((q : ℕ) → y ≡ Some q → (y' ≡ Some q) × (k' ≡ k))
    → sum_found x y ≡ Some n → (sum_found x' y' ≡ Some n) × (j' + k' + 1 ≡ j + k + 1)
both_sides (Some p) (Some q) x' y' j k j' k' n left right h =
    let l = left p refl in
    let r = right q refl in
    (ap (λ x. sum_found x y') l.0 ∙ ap (sum_found (Some p)) r.0 ∙ h, omega (arith, l.1, r.1))
both_sides (Some p) None x' y' j k j' k' n left right h = absurd (cc)
both_sides None y x' y' j k j' k' n left right h = absurd (cc)

module _ (m : MapText) (operands used : List ValueId) where
  -- an expression that is within its limits has the same bound and nodes over the places of values
  alike : (e : ExprText) (n : ℕ) → bound_in m e ≡ Some n
      → (bound_found (renamed m operands used e) ≡ Some n) × (node_count (renamed m operands used e) ≡ nodes_of e)
  unfolding bound_in renamed nodes_of
  alike (Name name) n h = (
    bound_found-Param (Dim (place_among used (parameter_value m operands name))) ∙ in_bounds (is_parameter m name) (2 ^ 63) n h,
    node_count-Param (Dim (place_among used (parameter_value m operands name))),
  )
  alike (Const z) n h = (bound_found-Const z ∙ h, node_count-Const z)
  alike (Add' s (more_of-ExprText a end_of-ExprText) t (more_of-ExprText b end_of-ExprText)) n h =
      let sides = both_sides (bound_in m a) (bound_in m b) (bound_found (renamed m operands used a)) (bound_found (renamed m operands used b))
      (nodes_of a) (nodes_of b) (node_count (renamed m operands used a)) (node_count (renamed m operands used b)) n (λ p is. alike a p is) (λ q is. alike b q is) h in (
        bound_found-Add (renamed m operands used a) (renamed m operands used b) ∙ sides.0,
        node_count-Add (renamed m operands used a) (renamed m operands used b) ∙ sides.1,
      )
  alike (Sub' s (more_of-ExprText a end_of-ExprText) t (more_of-ExprText b end_of-ExprText)) n h =
      let sides = both_sides (bound_in m a) (bound_in m b) (bound_found (renamed m operands used a)) (bound_found (renamed m operands used b))
      (nodes_of a) (nodes_of b) (node_count (renamed m operands used a)) (node_count (renamed m operands used b)) n (λ p is. alike a p is) (λ q is. alike b q is) h in (
        bound_found-Sub (renamed m operands used a) (renamed m operands used b) ∙ sides.0,
        node_count-Sub (renamed m operands used a) (renamed m operands used b) ∙ sides.1,
      )
  alike (Neg' s (more_of-ExprText a end_of-ExprText)) n h = absurd (cc)
  alike (Mul' s (more_of-ExprText a end_of-ExprText) t (more_of-ExprText b end_of-ExprText)) n h = absurd (cc)
  alike (Mod' s (more_of-ExprText a end_of-ExprText) t (more_of-ExprText b end_of-ExprText)) n h = absurd (cc)
  alike (Floor' s (more_of-ExprText a end_of-ExprText) t (more_of-ExprText b end_of-ExprText)) n h = absurd (cc)
  alike (Ceil' s (more_of-ExprText a end_of-ExprText) t (more_of-ExprText b end_of-ExprText)) n h = absurd (cc)

  few_nodes : (e : Expr) (count : ℕ) → node_count e ≡ count → nat_le count 64 ≡ true → node_count e ≤ 64
  few_nodes e count same h = grind (arith, nat_tests)

  found_admissible : (e : ExprText) (found : Option ℕ) → bound_in m e ≡ found → nat_le (nodes_of e) 64 && is_some found ≡ true → Admissible (renamed m operands used e)
  found_admissible e (Some n) is h =
      let same = alike e n is in
      let sound = found-sound (renamed m operands used e) n same.0 in
      (few_nodes (renamed m operands used e) (nodes_of e) same.1 (both (nat_le (nodes_of e) 64) true h).0, sound.0.0, sound.0.1)
  found_admissible e None is h = absurd (let no = (both (nat_le (nodes_of e) 64) false h).1 in cc)

  admissible : (e : ExprText) → is_admissible m e ≡ true → Admissible (renamed m operands used e)
  admissible e h = found_admissible e (bound_in m e) refl h

-- ---- maps
few_results : (n : ℕ) → nat_le n 8 ≡ true → n ≤ 8
few_results n h = grind (arith, nat_tests)

map_usable : (m : MapText) (operands : List ValueId) → is_affine (Some m) ≡ true → has_few_results (Some m) ≡ true → IsUsable (normal_map m operands)
map_usable m operands affine few = (
  All-map Admissible (renamed m operands (occurring m operands)) m.results
      (All-weaker (λ e. is_admissible m e ≡ true) (λ e. Admissible (renamed m operands (occurring m operands) e))
      (λ e h. admissible m operands (occurring m operands) e h) m.results
      (AllPass-from_list_all (is_admissible m) m.results (both (list_all (is_admissible m) m.results) (are_own [] m.dims m.syms)
      (both (list_all (is_admissible m) m.results && are_own [] m.dims m.syms) (are_own [] m.syms []) affine).0).0)),
  simp length-map (few_results (length m.results) few),
)

pub usable : (found : Option MapText) (operands : List ValueId) → is_affine found ≡ true → has_few_results found ≡ true → IsUsable (normal_of found operands).map
usable (Some m) operands affine few = map_usable m operands affine few
usable None operands affine few = absurd (cc)
