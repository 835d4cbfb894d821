-- Operations without places: each is asked the same, and is the same in a module.
use Rattle.std.proofs.Common.{◌≡◌, ◌∙◌, ℕ, Bool, false, List, [], ◌∷◌, length, map, refl, ap}
use Rattle.std.proofs.lemmas.List.{length-map}
use Rattle.std.proofs.lemmas.Option.{slice_get-map}
use Rattle.std.specs.Prelude.{◌-◌, ◌==◌, ◌&&◌, Option, Some, None, is_some, option_map, slice_get}
use Rattle.std.specs.List.{list_all}
use Rattle.std.specs.Option.{option_map_or}
use Rattle.std.specs.Str.{bytes_eq}
use Rattle.av_tree.specs.declared.node.BodyArg.{BodyArg}
use Rattle.av_tree.specs.declared.written.TypeText.{TypeText}
use Rattle.av_tree.specs.declared.node.Node.{Node, Node-F, out-Node}
use Rattle.av_tree.specs.declared.node.Body.{Body, Body-F, fold_out-Body, out-Body, out-roll-Body}
use Rattle.av_read_laws.specs.Places.{body_step, node_step, unplaced_node, unplaced_body}
use Rattle.av_read_laws.proofs.Nodes.{out-unplaced}
use Rattle.av_verify.specs.FirstPath.{is_last, is_only}
use Rattle.av_verify.specs.Loops.{are_fresh, are_new, end_with, has_one_variable, is_index, with_names}
use Rattle.av_verify.specs.Modules.{are_inputs, only_in, only_node}
use Rattle.av_verify.specs.Names.{Binding}
use Rattle.av_verify.specs.Types.{is_type, is_within_limits}

-- ---- regions
pub out-body : (body : Body) → out-Body (unplaced_body body) ≡ record { args = (out-Body body).args; nodes = map unplaced_node (out-Body body).nodes }
unfolding unplaced_node unplaced_body
out-body body =
    ap out-Body (fold_out-Body Body Node body_step node_step body) ∙ out-roll-Body (record { args = (out-Body body).args; nodes = map unplaced_node (out-Body body).nodes })

-- ---- lists
module _ {A B : Type 0} (f : A → B) where
  pub all-same : (p : B → Bool) (q : A → Bool) → ((a : A) → p (f a) ≡ q a) → (xs : List A) → list_all p (map f xs) ≡ list_all q xs
  all-same p q same [] = refl
  all-same p q same (x ∷ xs) = ap (λ b. b && list_all p (map f xs)) (same x) ∙ ap (λ b. q x && b) (all-same p q same xs)

  pub only-same : (p : B → Bool) (q : A → Bool) → ((a : A) → p (f a) ≡ q a) → (xs : List A) → is_only p (map f xs) ≡ is_only q xs
  only-same p q same [] = refl
  only-same p q same (x ∷ []) = same x
  only-same p q same (x ∷ y ∷ xs) = refl

  at-same : (p : B → Bool) (q : A → Bool) → ((a : A) → p (f a) ≡ q a) → (o : Option A) → option_map_or p (option_map f o) false ≡ option_map_or q o false
  at-same p q same None = refl
  at-same p q same (Some a) = same a

  pub last-same : (p : B → Bool) (q : A → Bool) → ((a : A) → p (f a) ≡ q a) → (xs : List A) → is_last p (map f xs) ≡ is_last q xs
  last-same p q same xs =
      ap (λ n. option_map_or p (slice_get (map f xs) (n - 1)) false) (length-map xs f)
      ∙ ap (λ o. option_map_or p o false) (slice_get-map f xs (length xs - 1))
      ∙ at-same p q same (slice_get xs (length xs - 1))

-- ---- what is asked of regions
pub new-same : (names seen : List Binding) (bodies : List Body) → are_new names seen (map unplaced_body bodies) ≡ are_new names seen bodies
new-same names seen [] = refl
new-same names seen (body ∷ bodies) =
    ap (λ (x : Body-F Body Node). are_fresh names seen x.args && are_new names (with_names seen x.args) (map unplaced_body bodies)) (out-body body)
    ∙ ap (λ b. are_fresh names seen (out-Body body).args && b) (new-same names (with_names seen (out-Body body).args) bodies)

pub name-same : (name : List ℕ) (node : Node) → bytes_eq (out-Node (unplaced_node node)).name name ≡ bytes_eq (out-Node node).name name
name-same name node = ap (λ (x : Node-F Body Node). bytes_eq x.name name) (out-unplaced node)

pub ends-same : (name : List ℕ) (bodies : List Body) → end_with name (map unplaced_body bodies) ≡ end_with name bodies
ends-same name bodies =
    all-same unplaced_body _ _
    (λ body. ap (λ (x : Body-F Body Node). is_last (λ node. bytes_eq (out-Node node).name name) x.nodes) (out-body body)
    ∙ last-same unplaced_node _ _ (name-same name) (out-Body body).nodes)
    bodies

-- what is asked of the arguments of each region, and of the one region
arguments-same : (p : List BodyArg → Bool) (bodies : List Body)
    → list_all (λ body. p (out-Body body).args) (map unplaced_body bodies) ≡ list_all (λ body. p (out-Body body).args) bodies
arguments-same p bodies = all-same unplaced_body _ _ (λ body. ap (λ (x : Body-F Body Node). p x.args) (out-body body)) bodies

only-arguments-same : (p : List BodyArg → Bool) (bodies : List Body)
    → is_only (λ body. p (out-Body body).args) (map unplaced_body bodies) ≡ is_only (λ body. p (out-Body body).args) bodies
only-arguments-same p bodies = only-same unplaced_body _ _ (λ body. ap (λ (x : Body-F Body Node). p x.args) (out-body body)) bodies

pub indices-same : (bodies : List Body)
    → list_all (λ body. list_all is_index (out-Body body).args) (map unplaced_body bodies) ≡ list_all (λ body. list_all is_index (out-Body body).args) bodies
indices-same = arguments-same (λ args. list_all is_index args)

pub limits-same : (bodies : List Body)
    → list_all (λ body. list_all (λ arg. is_within_limits arg.ty) (out-Body body).args) (map unplaced_body bodies)
    ≡ list_all (λ body. list_all (λ arg. is_within_limits arg.ty) (out-Body body).args) bodies
limits-same = arguments-same (λ args. list_all (λ arg. is_within_limits arg.ty) args)

pub types-same : (types : Option (List TypeText)) (bodies : List Body)
    → list_all (λ body. list_all (λ arg. is_type arg.ty) (out-Body body).args && are_inputs types (out-Body body).args) (map unplaced_body bodies)
    ≡ list_all (λ body. list_all (λ arg. is_type arg.ty) (out-Body body).args && are_inputs types (out-Body body).args) bodies
types-same types = arguments-same (λ args. list_all (λ arg. is_type arg.ty) args && are_inputs types args)

pub variable-same : (bodies : List Body) → has_one_variable (map unplaced_body bodies) ≡ has_one_variable bodies
variable-same = only-arguments-same (λ args. length args == 1)

pub plain-same : (bodies : List Body)
    → is_only (λ body. length (out-Body body).args == 0) (map unplaced_body bodies) ≡ is_only (λ body. length (out-Body body).args == 0) bodies
plain-same = only-arguments-same (λ args. length args == 0)

-- ---- the one function
only-node-same : (nodes : List Node) → only_node (map unplaced_node nodes) ≡ option_map unplaced_node (only_node nodes)
only-node-same [] = refl
only-node-same (node ∷ []) = refl
only-node-same (node ∷ other ∷ nodes) = refl

pub only-in-same : (bodies : List Body) → only_in (map unplaced_body bodies) ≡ option_map unplaced_node (only_in bodies)
only-in-same [] = refl
only-in-same (body ∷ []) = ap (λ (x : Body-F Body Node). only_node x.nodes) (out-body body) ∙ only-node-same (out-Body body).nodes
only-in-same (body ∷ other ∷ bodies) = refl

pub is-some-map : {A B : Type 0} (f : A → B) (o : Option A) → is_some (option_map f o) ≡ is_some o
is-some-map f None = refl
is-some-map f (Some a) = refl
