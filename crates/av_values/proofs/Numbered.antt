-- What an expression's numbering is by those of its sides.
use Rattle.std.proofs.Common.{◌≡◌, ℕ, List, [], ◌∷◌, ◌+◌, ◌++◌, append_assoc, reverse, add-one, refl, sym, ap, ◌∙◌}
use Rattle.std.proofs.lemmas.List.{reverse-append, append-nil}
use Rattle.std.specs.Prelude.{ℤ}
use Rattle.av_tree.specs.declared.written.ExprText.{ExprText}
use Rattle.av_tree.specs.declared.written.ExprText.TheVariants as expr
use Rattle.av_tree.specs.declared.written.ExprText.TheBlock.{shape-the_row-ExprText-0, hidden-the_row-ExprText-0}
use denote.Hole.Carrier.{hidden}
use Rattle.av_values.specs.declared.value.Expression.{Expression}
use Rattle.av_values.specs.declared.subscripts.Leaves.{Leaves}
use Rattle.av_values.specs.Accesses.{name_of, first_names, next_parameter, both, numbered, numbered_all}

pub numbered-Name : (value : List ℕ) (leaves : Leaves) → numbered (expr.Name value) leaves ≡ (let next = next_parameter leaves.kinds value leaves in (expr.Name next.0, next.1))
unfolding numbered shape-the_row-ExprText-0 hidden-the_row-ExprText-0 hidden
numbered-Name value leaves = refl

pub numbered-Const : (z : ℤ) (leaves : Leaves) → numbered (expr.Const z) leaves ≡ (expr.Const z, leaves)
unfolding numbered shape-the_row-ExprText-0 hidden-the_row-ExprText-0 hidden
numbered-Const z leaves = refl

pub numbered-Neg : (a : ExprText) (leaves : Leaves) → numbered (expr.Neg a) leaves ≡ (let side = numbered a leaves in (expr.Neg side.0, side.1))
unfolding numbered shape-the_row-ExprText-0 hidden-the_row-ExprText-0 hidden
numbered-Neg a leaves = refl

pub numbered-Add : (a b : ExprText) (leaves : Leaves) → numbered (expr.Add a b) leaves ≡ both expr.Add (numbered a leaves) (numbered b)
unfolding numbered shape-the_row-ExprText-0 hidden-the_row-ExprText-0 hidden
numbered-Add a b leaves = refl

pub numbered-Sub : (a b : ExprText) (leaves : Leaves) → numbered (expr.Sub a b) leaves ≡ both expr.Sub (numbered a leaves) (numbered b)
unfolding numbered shape-the_row-ExprText-0 hidden-the_row-ExprText-0 hidden
numbered-Sub a b leaves = refl

pub numbered-Mul : (a b : ExprText) (leaves : Leaves) → numbered (expr.Mul a b) leaves ≡ both expr.Mul (numbered a leaves) (numbered b)
unfolding numbered shape-the_row-ExprText-0 hidden-the_row-ExprText-0 hidden
numbered-Mul a b leaves = refl

pub numbered-Mod : (a b : ExprText) (leaves : Leaves) → numbered (expr.Mod a b) leaves ≡ both expr.Mod (numbered a leaves) (numbered b)
unfolding numbered shape-the_row-ExprText-0 hidden-the_row-ExprText-0 hidden
numbered-Mod a b leaves = refl

pub numbered-Floor : (a b : ExprText) (leaves : Leaves) → numbered (expr.Floor a b) leaves ≡ both expr.Floor (numbered a leaves) (numbered b)
unfolding numbered shape-the_row-ExprText-0 hidden-the_row-ExprText-0 hidden
numbered-Floor a b leaves = refl

pub numbered-Ceil : (a b : ExprText) (leaves : Leaves) → numbered (expr.Ceil a b) leaves ≡ both expr.Ceil (numbered a leaves) (numbered b)
unfolding numbered shape-the_row-ExprText-0 hidden-the_row-ExprText-0 hidden
numbered-Ceil a b leaves = refl

both_given : (calculation : ExprText → ExprText → ExprText) (left : ExprText × Leaves) (right : Leaves → ExprText × Leaves) (a b : ExprText) (between after : Leaves)
    → left ≡ (a, between) → right between ≡ (b, after) → both calculation left right ≡ (calculation a b, after)
both_given calculation left right a b between after e f =
    ap (λ (l : ExprText × Leaves). both calculation l right) e ∙ ap (λ (r : ExprText × Leaves). (calculation a r.0, r.1)) f

pub name_given : (e : ExprText) (leaves : Leaves) (value : List ℕ) → e ≡ expr.Name value
    → (name : List ℕ) (after : Leaves) → next_parameter leaves.kinds value leaves ≡ (name, after) → numbered e leaves ≡ (expr.Name name, after)
name_given e leaves value is name after h =
    ap (λ x. numbered x leaves) is ∙ numbered-Name value leaves ∙ ap (λ (p : List ℕ × Leaves). (expr.Name p.0, p.1)) h

pub constant_given : (e : ExprText) (leaves : Leaves) (z : ℤ) → e ≡ expr.Const z → numbered e leaves ≡ (expr.Const z, leaves)
constant_given e leaves z is = ap (λ x. numbered x leaves) is ∙ numbered-Const z leaves

pub negation_given : (e : ExprText) (leaves : Leaves) (a : ExprText) → e ≡ expr.Neg a
    → (c : ExprText) (after : Leaves) → numbered a leaves ≡ (c, after) → numbered e leaves ≡ (expr.Neg c, after)
negation_given e leaves a is c after h =
    ap (λ x. numbered x leaves) is ∙ numbered-Neg a leaves ∙ ap (λ (p : ExprText × Leaves). (expr.Neg p.0, p.1)) h

-- a calculation with two sides
pub sides_given : (calculation : ExprText → ExprText → ExprText) (level : (a b : ExprText) (leaves : Leaves) → numbered (calculation a b) leaves ≡ both calculation (numbered a leaves) (numbered b))
    (e : ExprText) (leaves : Leaves) (a b : ExprText) → e ≡ calculation a b
    → (c d : ExprText) (between after : Leaves) → numbered a leaves ≡ (c, between) → numbered b between ≡ (d, after)
    → numbered e leaves ≡ (calculation c d, after)
sides_given calculation level e leaves a b is c d between after g h =
    ap (λ x. numbered x leaves) is ∙ level a b leaves ∙ both_given calculation (numbered a leaves) (numbered b) c d between after g h

-- the names of parameters, from 0 on
pub no_names : (letter : List ℕ) → [] ≡ first_names letter 0
unfolding first_names
no_names letter = refl

pub one_more_name : (letter : List ℕ) (number : ℕ) (names : List (List ℕ)) (name : List ℕ) → names ≡ first_names letter number → name ≡ name_of letter number
    → names ++ name ∷ [] ≡ first_names letter (number + 1)
unfolding first_names
one_more_name letter number names name e f =
    ap (λ (ns : List (List ℕ)). ns ++ name ∷ []) e ∙ ap (λ (n : List ℕ). first_names letter number ++ n ∷ []) f ∙ ap (first_names letter) (sym (add-one number))

-- All subscripts, where the one that stands last in its list comes first.
abbrev pub behind : List ExprText → List ExprText × Leaves → List ExprText × Leaves
behind results more = (results ++ more.0, more.1)

first_off : (under : List Expression) (s : Expression) (subscripts : List Expression) (leaves : Leaves)
    → subscripts ≡ under ++ s ∷ []
    → numbered_all (reverse subscripts) leaves
    ≡ (let first = numbered s.expr (record leaves { kinds = s.leaves }) in behind (first.0 ∷ []) (numbered_all (reverse under) first.1))
unfolding numbered_all
first_off under s subscripts leaves h =
    ap (λ (ss : List Expression). numbered_all (reverse ss) leaves) h ∙ ap (λ (ss : List Expression). numbered_all ss leaves) (reverse-append under (s ∷ []))

pub next_subscript : (results longer : List ExprText) (subscripts under : List Expression) (s : Expression) (leaves after : Leaves) (e : ExprText)
    → longer ≡ results ++ e ∷ [] → subscripts ≡ under ++ s ∷ [] → numbered s.expr (record leaves { kinds = s.leaves }) ≡ (e, after)
    → behind longer (numbered_all (reverse under) after) ≡ behind results (numbered_all (reverse subscripts) leaves)
next_subscript results longer subscripts under s leaves after e l h g =
    let more = numbered_all (reverse under) after in
    ap (λ (es : List ExprText). behind es more) l
    ∙ ap (λ (es : List ExprText). (es, more.1)) (append_assoc results (e ∷ []) more.0)
    ∙ sym (ap (behind results)
    (first_off under s subscripts leaves h
    ∙ ap (λ (first : ExprText × Leaves). behind (first.0 ∷ []) (numbered_all (reverse under) first.1)) g))

pub subscripts_end : (results : List ExprText) (subscripts : List Expression) (leaves : Leaves) → subscripts ≡ []
    → behind results (numbered_all (reverse subscripts) leaves) ≡ (results, leaves)
unfolding numbered_all
subscripts_end results subscripts leaves h =
    ap (λ (ss : List Expression). behind results (numbered_all (reverse ss) leaves)) h
    ∙ ap (λ (es : List ExprText). (es, leaves)) (append-nil results)
