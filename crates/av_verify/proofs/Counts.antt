-- The number of operations in a tree, counted up to a greatest number.
use Rattle.std.proofs.Common.{◌≡◌, ◌∙◌, ℕ, ◌+◌, ◌<◌, ◌≤◌, min, arith, List, ◌∷◌, length, map, drop, get_or, ap, sym}
use Rattle.std.specs.Prelude.{sum}
use Rattle.std.proofs.lemmas.List.{drop_more, drop_all}
use Rattle.std.proofs.lemmas.List.Sums.{sum_by-cons}
use Rattle.av_tree.specs.declared.node.Node.{Node, fold_out-Node, out-Node}
use Rattle.av_tree.specs.declared.node.Body.{Body, fold_out-Body, out-Body}
use Rattle.av_verify.specs.Modules.{count_node, count_region, operations_in, operations_within}

pub in_node : (node : Node) → operations_in node ≡ 1 + sum (map operations_within (out-Node node).regions)
unfolding operations_in operations_within
in_node node = fold_out-Node ℕ ℕ count_region count_node node

pub in_body : (body : Body) → operations_within body ≡ sum (map operations_in (out-Body body).nodes)
unfolding operations_in operations_within
in_body body = fold_out-Body ℕ ℕ count_region count_node body

saturates : (count w rest most : ℕ) → min (min (count + min w most) most + rest) most ≡ min (count + (w + rest)) most
saturates count w rest most = omega arith

module _ {A : Type 0} (f : A → ℕ) (xs : List A) (i : ℕ) where
  pub count_more : (x : A) (count each new most whole : ℕ) → i < length xs → x ≡ get_or xs i x → each ≡ min (f x) most → new ≡ min (count + each) most
      → min (count + sum (map f (drop i xs))) most ≡ whole
      → min (new + sum (map f (drop (i + 1) xs))) most ≡ whole
  count_more x count each new most whole below item is added h =
      let here : drop i xs ≡ x ∷ drop (i + 1) xs = drop_more xs i x below ∙ ap (λ y. y ∷ drop (i + 1) xs) (sym item) in
      ap (λ n. min (n + sum (map f (drop (i + 1) xs))) most) (added ∙ ap (λ e. min (count + e) most) is)
      ∙ saturates count (f x) (sum (map f (drop (i + 1) xs))) most
      ∙ ap (λ n. min (count + n) most) (sym (sum_by-cons (λ n. n) (f x) (map f (drop (i + 1) xs))))
      ∙ ap (λ l. min (count + sum (map f l)) most) (sym here) ∙ h

  pub count_all : (count most : ℕ) → length xs ≤ i → count ≤ most
      → min (count + sum (map f (drop i xs))) most ≡ min (sum (map f xs)) most → count ≡ min (sum (map f xs)) most
  count_all count most past within h =
      let gone : sum (map f (drop i xs)) ≡ 0 = ap (λ l. sum (map f l)) (drop_all i xs past) in
      let same : count ≡ min (count + sum (map f (drop i xs))) most = omega (arith, gone, within) in
      same ∙ h

pub one_more : (result within all many most : ℕ) → result ≡ min (within + 1) most → within ≡ min many most → all ≡ 1 + many → result ≡ min all most
one_more result within all many most h w a = omega arith

pub at_most : (new n most : ℕ) → new ≡ min n most → new ≤ most
at_most new n most h = omega arith
