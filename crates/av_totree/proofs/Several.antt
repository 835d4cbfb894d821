-- Names for several results of an operation, one after the other.
use Rattle.std.proofs.Common.{◌≡◌, ap, sym, ◌∙◌, ℕ, ◌+◌, ◌<◌, ◌≤◌, List, ◌∷◌, length, get_or, drop}
use Rattle.std.proofs.lemmas.List.{drop_more, drop_all}
use Rattle.av_ir.specs.declared.module.ValueId.{ValueId}
use Rattle.av_totree.specs.Names.{with_name, with_several, result_name}

module _ (k i : ℕ) (ids : List ValueId) (names : List (List ℕ)) where
  pub several_more : (d : ValueId) (name : List ℕ) (new all : List (List ℕ)) → i < length ids → name ≡ result_name k i
      → new ≡ with_name names (get_or ids i d) name → with_several k i (drop i ids) names ≡ all
      → with_several k (i + 1) (drop (i + 1) ids) new ≡ all
  unfolding with_several
  several_more d name new all below is put h =
      ap (with_several k (i + 1) (drop (i + 1) ids)) (put ∙ ap (with_name names (get_or ids i d)) is)
      ∙ ap (λ l. with_several k i l names) (sym (drop_more ids i d below)) ∙ h

  pub several_all : (all : List (List ℕ)) → length ids ≤ i → with_several k i (drop i ids) names ≡ all → names ≡ all
  unfolding with_several
  several_all all past h = ap (λ l. with_several k i l names) (sym (drop_all i ids past)) ∙ h
