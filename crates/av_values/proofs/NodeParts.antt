-- Carried values in order, and regions with their ends.
use Rattle.std.proofs.Common.{◌≡◌, ℕ, List, [], ◌∷◌, ◌++◌, reverse, true, false, sym, ap, ◌∙◌}
use Rattle.std.specs.Prelude.{if◌then◌else◌}
use Rattle.std.proofs.lemmas.List.{reverse-append}
use Rattle.av_tree.specs.declared.node.Node.{Node}
use Rattle.av_tree.specs.declared.written.TypeText.{TypeText}
use Rattle.av_values.specs.declared.value.CarriedPair.{CarriedPair}
use Rattle.av_values.specs.declared.loops.CarriedLists.{CarriedLists}
use Rattle.av_values.specs.Nodes.{plain}
use Rattle.av_values.specs.Loops.{ended, has_end, with_pair, with_pairs}

-- the pair and the type that stand last in their lists come first
pub next_pair : (lists : CarriedLists) (pairs under : List CarriedPair) (pair : CarriedPair) (types before : List TypeText) (type : TypeText)
    → pairs ≡ under ++ pair ∷ [] → types ≡ before ++ type ∷ []
    → with_pairs (with_pair lists pair type) (reverse under) (reverse before) ≡ with_pairs lists (reverse pairs) (reverse types)
unfolding with_pairs
next_pair lists pairs under pair types before type e f = sym
    (ap (λ (ps : List CarriedPair). with_pairs lists (reverse ps) (reverse types)) e
    ∙ ap (λ (ts : List TypeText). with_pairs lists (reverse (under ++ pair ∷ [])) (reverse ts)) f
    ∙ ap (λ (ps : List CarriedPair). with_pairs lists ps (reverse (before ++ type ∷ []))) (reverse-append under (pair ∷ []))
    ∙ ap (with_pairs lists (pair ∷ reverse under)) (reverse-append before (type ∷ [])))

pub no_pair : (lists : CarriedLists) (pairs : List CarriedPair) (types before : List TypeText) (type : TypeText)
    → pairs ≡ [] → types ≡ before ++ type ∷ [] → with_pairs lists (reverse pairs) (reverse types) ≡ lists
unfolding with_pairs
no_pair lists pairs types before type e f =
    ap (λ (ps : List CarriedPair). with_pairs lists (reverse ps) (reverse types)) e
    ∙ ap (λ (ts : List TypeText). with_pairs lists [] (reverse ts)) f
    ∙ ap (with_pairs lists []) (reverse-append before (type ∷ []))

pub no_type : (lists : CarriedLists) (pairs : List CarriedPair) (types : List TypeText)
    → types ≡ [] → with_pairs lists (reverse pairs) (reverse types) ≡ lists
unfolding with_pairs
no_type lists pairs types e = ap (λ (ts : List TypeText). with_pairs lists (reverse pairs) (reverse ts)) e

pub end_written : (name : List ℕ) (nodes seen : List Node) → seen ≡ nodes → has_end seen ≡ true → nodes ≡ ended name nodes
unfolding ended
end_written name nodes seen e h = sym (ap (λ b. if b then nodes else nodes ++ plain name 0 ∷ []) (sym (ap has_end e) ∙ h))

pub end_put : (name : List ℕ) (nodes seen : List Node) → seen ≡ nodes → has_end seen ≡ false → nodes ++ plain name 0 ∷ [] ≡ ended name nodes
unfolding ended
end_put name nodes seen e h = sym (ap (λ b. if b then nodes else nodes ++ plain name 0 ∷ []) (sym (ap has_end e) ∙ h))
