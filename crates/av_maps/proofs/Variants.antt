-- What the definitions give at each variant of an expression.
use Rattle.std.proofs.Common.{◌≡◌, ℕ, refl, List, [], ◌∷◌, ◌++◌, Bool, true, ◌&&◌, arith}
use Rattle.std.specs.Prelude.{ℤ, nat_le, is_some, IsTrue, ◌↔◌, false}
use Rattle.std.proofs.lemmas.Bool.Decides.{nat_tests}
use Rattle.av_affine.specs.Finding.{bound_found}
use Rattle.av_affine.specs.Limits.{Admissible, node_count}
use Rattle.av_affine.proofs.Found.{tested-found, tested-sound}
use Rattle.std.specs.List.{list_all}
use Rattle.av_affine.specs.declared.expression.Leaf.{Leaf}
use Rattle.av_affine.specs.declared.expression.Expr.{Expr}
use Rattle.av_affine.specs.declared.expression.Expr.TheVariants.{Param, Const, Neg, Add, Sub, Mul, Mod, Floor, Ceil}
use Rattle.av_affine.specs.declared.expression.Expr.TheBlock.{shape-the_row-Expr-0, hidden-the_row-Expr-0}
use denote.Hole.Carrier.{hidden}
use Rattle.av_affine_laws.specs.Normalised.{parameters}
use Rattle.av_affine_laws.proofs.NormalisedVariants.{occurs, renames}
use Rattle.av_maps.specs.Asked.{has_own, is_own}

pub ruleset uses = (occurs, renames)

both_own : (dims syms : ℕ) (ls ms : List Leaf) → list_all (is_own dims syms) (ls ++ ms) ≡ (list_all (is_own dims syms) ls && list_all (is_own dims syms) ms)
both_own dims syms [] ms = refl
both_own dims syms (l ∷ ls) ms = grind (arith, both_own dims syms ls ms)

pub own-Param : (dims syms : ℕ) (leaf : Leaf) → has_own dims syms (Param leaf) ≡ is_own dims syms leaf
unfolding has_own parameters shape-the_row-Expr-0 hidden-the_row-Expr-0 hidden
own-Param dims syms leaf = grind arith

pub own-Const : (dims syms : ℕ) (z : ℤ) → has_own dims syms (Const z) ≡ true
unfolding has_own parameters shape-the_row-Expr-0 hidden-the_row-Expr-0 hidden
own-Const dims syms z = refl

pub own-Neg : (dims syms : ℕ) (a : Expr) → has_own dims syms (Neg a) ≡ has_own dims syms a
unfolding has_own parameters shape-the_row-Expr-0 hidden-the_row-Expr-0 hidden
own-Neg dims syms a = refl

pub own-Add : (dims syms : ℕ) (a b : Expr) → has_own dims syms (Add a b) ≡ (has_own dims syms a && has_own dims syms b)
unfolding has_own parameters shape-the_row-Expr-0 hidden-the_row-Expr-0 hidden
own-Add dims syms a b = both_own dims syms (parameters a) (parameters b)

pub own-Sub : (dims syms : ℕ) (a b : Expr) → has_own dims syms (Sub a b) ≡ (has_own dims syms a && has_own dims syms b)
unfolding has_own parameters shape-the_row-Expr-0 hidden-the_row-Expr-0 hidden
own-Sub dims syms a b = both_own dims syms (parameters a) (parameters b)

pub own-Mul : (dims syms : ℕ) (a b : Expr) → has_own dims syms (Mul a b) ≡ (has_own dims syms a && has_own dims syms b)
unfolding has_own parameters shape-the_row-Expr-0 hidden-the_row-Expr-0 hidden
own-Mul dims syms a b = both_own dims syms (parameters a) (parameters b)

pub own-Mod : (dims syms : ℕ) (a b : Expr) → has_own dims syms (Mod a b) ≡ (has_own dims syms a && has_own dims syms b)
unfolding has_own parameters shape-the_row-Expr-0 hidden-the_row-Expr-0 hidden
own-Mod dims syms a b = both_own dims syms (parameters a) (parameters b)

pub own-Floor : (dims syms : ℕ) (a b : Expr) → has_own dims syms (Floor a b) ≡ (has_own dims syms a && has_own dims syms b)
unfolding has_own parameters shape-the_row-Expr-0 hidden-the_row-Expr-0 hidden
own-Floor dims syms a b = both_own dims syms (parameters a) (parameters b)

pub own-Ceil : (dims syms : ℕ) (a b : Expr) → has_own dims syms (Ceil a b) ≡ (has_own dims syms a && has_own dims syms b)
unfolding has_own parameters shape-the_row-Expr-0 hidden-the_row-Expr-0 hidden
own-Ceil dims syms a b = both_own dims syms (parameters a) (parameters b)

pub ruleset owned = (own-Param, own-Const, own-Neg, own-Add, own-Sub, own-Mul, own-Mod, own-Floor, own-Ceil)

-- the test of the limits, as it is asked of an expression
abbrev test : Expr → Bool
test e = nat_le (node_count e) 64 && is_some (bound_found e)

same_bool : (a b : Bool) → (IsTrue a → IsTrue b) → (IsTrue b → IsTrue a) → a ≡ b
same_bool true true f g = refl
same_bool true false f g = absurd (grind arith)
same_bool false true f g = absurd (grind arith)
same_bool false false f g = refl

test_holds : (e : Expr) (few : Bool) (found : Bool) → found ≡ is_some (bound_found e) → few ≡ nat_le (node_count e) 64
    → IsTrue (few && found) → Admissible e
test_holds e true true h k t = let s = tested-sound e (bound_found e) true refl h (grind arith) in (grind (arith, nat_tests), s.0, s.1)
test_holds e true false h k t = absurd (grind arith)
test_holds e false found h k t = absurd (grind arith)

holds_test : (e : Expr) → Admissible e → IsTrue (test e)
holds_test e a =
    let found = tested-found e (bound_found e) (is_some (bound_found e)) refl refl (a.1, a.2) in
    grind (arith, nat_tests)

pub test_admissible : (own few found : Bool) (e : Expr) → found ≡ is_some (bound_found e) → few ≡ nat_le (node_count e) 64
    → (own && few && found) ≡ true → Admissible e
test_admissible own few found e h k t = test_holds e few found h k (grind arith)

-- what the test of the limits answers
pub admissible_test : (e : Expr) (r : Bool) → IsTrue r ↔ Admissible e → r ≡ test e
admissible_test e r (sound, full) =
    same_bool r (test e) (λ t. holds_test e (sound t)) (λ t. full (test_holds e (nat_le (node_count e) 64) (is_some (bound_found e)) refl refl t))
