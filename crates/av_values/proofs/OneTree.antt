-- A stack of values that is one tree.
use Rattle.std.proofs.Common.{◌≡◌, List, [], ◌∷◌, Some, None, refl, ap, ◌∙◌}
use Rattle.std.specs.Prelude.{Result, Ok, Err, OnErr}
use Rattle.av_tree.specs.declared.node.Tree.{Tree}
use Rattle.av_values.specs.declared.stack.Fault.{Fault}
use Rattle.av_values.specs.declared.value.Value.{Value}
use Rattle.av_values.specs.declared.value.Value.TheVariants as value
use Rattle.av_values.specs.Sorts.{a_tree, on_top, only_tree}

some-same : (a b : Tree × List Value) → Some a ≡ Some b → a ≡ b
some-same a b e = cc

pub on-top-tree : (values under : List Value) (tree : Tree) → on_top a_tree values ≡ Some (tree, under) → values ≡ value.Tree tree ∷ under
unfolding on_top
on-top-tree (value.Tree v ∷ rest) under tree e = ap (λ (p : Tree × List Value). value.Tree p.0 ∷ p.1) (some-same (v, rest) (tree, under) e)
on-top-tree values under tree e = absurd (cc)

pub no-top-tree : (values : List Value) → on_top a_tree values ≡ None → only_tree values ≡ None
unfolding on_top
no-top-tree (value.Tree v ∷ rest) e = absurd (cc)
no-top-tree values e = refl

pub one-tree : (values under : List Value) (tree : Tree) → on_top a_tree values ≡ Some (tree, under) → under ≡ [] → only_tree values ≡ Some tree
one-tree values under tree e f = ap only_tree (on-top-tree values under tree e ∙ ap (λ (l : List Value). value.Tree tree ∷ l) f)

pub tree-and-more : (values under more : List Value) (tree : Tree) (next : Value) → on_top a_tree values ≡ Some (tree, under) → under ≡ next ∷ more → only_tree values ≡ None
tree-and-more values under more tree next e f = ap only_tree (on-top-tree values under tree e ∙ ap (λ (l : List Value). value.Tree tree ∷ l) f)

-- a fact that holds anyway holds at a fault
pub on_fault : (T : Type 0) (r : Result T Fault) (Q : Type 0) → Q → OnErr r Q
on_fault T (Ok x) Q q = tt
on_fault T (Err fault) Q q = q
