-- The maps of a program are affine, and in their normal forms.
use Rattle.std.proofs.Common.{◌≡◌, ◌∙◌, ℕ, ◌+◌, ◌^◌, ◌≤◌, arith, Bool, true, cond, List, [], ◌∷◌, Some, None, map, length, refl, ap}
use Rattle.std.specs.Prelude.{ℤ, not, ◌&&◌, nat_lt, nat_le, is_some, unwrap_or, unsigned_abs, slice_get, if◌then◌else◌}
use Rattle.std.proofs.lemmas.Bool.{le-leb, eq-eqb}
use Rattle.av_affine.specs.declared.expression.Expr.{Expr}
use Rattle.av_affine.specs.declared.expression.Expr.TheVariants as expr
use Rattle.av_affine.specs.declared.expression.Leaf.TheVariants.{Dim}
use Rattle.av_affine.specs.Finding.{limited, sum_found}
use Rattle.av_ir.specs.declared.module.ValueId.{ValueId}
use Rattle.av_tree.specs.declared.written.ExprText.{ExprText}
use Rattle.av_tree.specs.declared.written.ExprText.TheVariants as text
use Rattle.av_tree.specs.declared.written.MapText.{MapText}
use Rattle.av_verify.specs.Accesses.{has_few_results}
use Rattle.av_verify.specs.Expressions.{node_count, bound_found, is_admissible, is_affine}
use Rattle.av_verify.specs.Maps.{place_among, occur, renamed, normalised, has_arity, are_map_operands}
use Rattle.av_verify.specs.Parts.{MapUse, Role, Dimension}
use Rattle.av_verify.specs.Scopes.{is_dimension_role}
use Rattle.av_verify.proofs.TextVariants.{node_count-Name, node_count-Const, node_count-Add, node_count-Sub, bound_found-Name, bound_found-Const, bound_found-Add, bound_found-Sub, occur-Name, occur-Const, occur-Add, occur-Sub, renamed-Name, renamed-Const, renamed-Add, renamed-Sub}
use Rattle.av_program_laws.specs.Programs.{Subscript, fixed, variable, plus, minus}
use Rattle.av_program_laws.specs.Modules.{value, loop_variable, subscript_values}
use Rattle.av_program_laws.specs.Modules as modules
use Rattle.av_program_laws.specs.WrittenTrees.{dimension, over, bound_map, subscript_map}
use Rattle.av_program_laws.specs.Sound.{IsBound, IsOffset, IsSoundSubscript}

-- ---- limits
within : (n : ℕ) → n ≤ 2 ^ 110 → limited n ≡ Some n
within n h = ap (λ b. if b then Some n else None) (le-leb n (2 ^ 110) h)

admissible : (m : MapText) (e : ExprText) (n o : ℕ) → node_count e ≡ n → nat_le n 64 ≡ true → bound_found m e ≡ Some o → is_admissible m e ≡ true
admissible m e n o counted small bounded =
    ap (λ k. nat_le k 64 && is_some (bound_found m e)) counted
    ∙ ap (λ b. b && is_some (bound_found m e)) small
    ∙ ap is_some bounded

all_of : (b c d : Bool) → b ≡ true → c ≡ true → d ≡ true → (b && true) && c && d ≡ true
all_of b c d h k l = ap (λ x. (x && true) && c && d) h ∙ ap (λ x. x && d) k ∙ l

pub const_affine : (z : ℤ) → IsBound z → is_affine (Some (bound_map z)) ≡ true
const_affine z bound =
    ap (λ b. (b && true) && true && true) (admissible (bound_map z) (text.Const z) 1 (unsigned_abs z) (node_count-Const z) refl
    (bound_found-Const (bound_map z) z ∙ within (unsigned_abs z) bound))

variable_affine : is_affine (Some (subscript_map variable)) ≡ true
variable_affine =
    ap (λ b. (b && true) && true && true) (admissible (subscript_map variable) (text.Name dimension) 1 (2 ^ 63) (node_count-Name dimension) refl
    (bound_found-Name (subscript_map variable) dimension))

module _ (form : ExprText → ExprText → ExprText)
    (counts : (a b : ExprText) → node_count (form a b) ≡ node_count a + node_count b + 1)
    (bounds : (m : MapText) (a b : ExprText) → bound_found m (form a b) ≡ sum_found (bound_found m a) (bound_found m b)) where
  offset_affine : (z : ℤ) → IsOffset z → is_affine (Some (over (dimension ∷ []) (form (text.Name dimension) (text.Const z)))) ≡ true
  offset_affine z offset =
      let a = text.Name dimension in
      let b = text.Const z in
      let m = over (dimension ∷ []) (form a b) in
      let alone : unsigned_abs z ≤ 2 ^ 110 = omega (arith, offset) in
      let counted : node_count (form a b) ≡ 3 =
      counts a b ∙ ap (λ n. n + node_count b + 1) (node_count-Name dimension) ∙ ap (λ n. 1 + n + 1) (node_count-Const z) in
      let bounded : bound_found m (form a b) ≡ Some (2 ^ 63 + unsigned_abs z) =
      bounds m a b
      ∙ ap (λ o. sum_found o (bound_found m b)) (bound_found-Name m dimension)
      ∙ ap (λ o. sum_found (Some (2 ^ 63)) o) (bound_found-Const m z ∙ within (unsigned_abs z) alone)
      ∙ within (2 ^ 63 + unsigned_abs z) offset in
      ap (λ b. (b && true) && true && true) (admissible m (form a b) 3 (2 ^ 63 + unsigned_abs z) counted refl bounded)

pub affine_map : (at : Subscript) → IsSoundSubscript at → is_affine (Some (subscript_map at)) ≡ true
affine_map (fixed z) h = const_affine z h
affine_map variable h = variable_affine
affine_map (plus z) h = offset_affine text.Add node_count-Add bound_found-Add z h
affine_map (minus z) h = offset_affine text.Sub node_count-Sub bound_found-Sub z h

-- ---- normal forms
place_only : (v : ValueId) → place_among (v ∷ []) v ≡ 0
place_only v = ap (λ b. unwrap_or (cond (nat_lt (cond (not b) (1 + 0) 0) 1) (Some (cond (not b) (1 + 0) 0)) None) 1) (eq-eqb v.0 v.0 refl)

abbrev normal_with : (List ValueId → Expr) → List ValueId → MapUse
normal_with renaming used = record { map = record { dims = length used; syms = 0; results = renaming used ∷ [] }; operands = used }

abbrev normal_here : Expr → List ValueId → MapUse
normal_here e used = record { map = record { dims = length used; syms = 0; results = e ∷ [] }; operands = used }

pub const_normal : (z : ℤ) → normalised (bound_map z) [] ≡ record { map = modules.bound_map z; operands = [] }
const_normal z =
    let m = bound_map z in
    ap (normal_with (λ u. renamed m [] u (text.Const z))) (occur-Const m [] [] z)
    ∙ ap (λ (e : Expr). normal_here e []) (renamed-Const m [] [] z)

variable_normal : (v : ValueId) → normalised (subscript_map variable) (v ∷ []) ≡ record { map = modules.over 1 loop_variable; operands = v ∷ [] }
variable_normal v =
    let m = subscript_map variable in
    let e = text.Name dimension in
    ap (normal_with (λ u. renamed m (v ∷ []) u e)) (occur-Name m (v ∷ []) [] dimension)
    ∙ ap (λ (e : Expr). normal_here e (v ∷ [])) (renamed-Name m (v ∷ []) (v ∷ []) dimension ∙ ap (λ n. expr.Param (Dim n)) (place_only v))

module _ (form : ExprText → ExprText → ExprText) (made : Expr → Expr → Expr)
    (occurs : (m : MapText) (operands used : List ValueId) (a b : ExprText) → occur m operands used (form a b) ≡ occur m operands (occur m operands used a) b)
    (renames : (m : MapText) (operands used : List ValueId) (a b : ExprText) → renamed m operands used (form a b) ≡ made (renamed m operands used a) (renamed m operands used b)) where
  offset_normal : (v : ValueId) (z : ℤ) → normalised (over (dimension ∷ []) (form (text.Name dimension) (text.Const z))) (v ∷ [])
      ≡ record { map = modules.over 1 (made loop_variable (expr.Const z)); operands = v ∷ [] }
  offset_normal v z =
      let a = text.Name dimension in
      let b = text.Const z in
      let m = over (dimension ∷ []) (form a b) in
      let occurring_here : occur m (v ∷ []) [] (form a b) ≡ v ∷ [] =
      occurs m (v ∷ []) [] a b ∙ occur-Const m (v ∷ []) (occur m (v ∷ []) [] a) z ∙ occur-Name m (v ∷ []) [] dimension in
      let variable_here : renamed m (v ∷ []) (v ∷ []) a ≡ loop_variable =
      renamed-Name m (v ∷ []) (v ∷ []) dimension ∙ ap (λ n. expr.Param (Dim n)) (place_only v) in
      let renamed_here : renamed m (v ∷ []) (v ∷ []) (form a b) ≡ made loop_variable (expr.Const z) =
      renames m (v ∷ []) (v ∷ []) a b
      ∙ ap (λ x. made x (renamed m (v ∷ []) (v ∷ []) b)) variable_here
      ∙ ap (made loop_variable) (renamed-Const m (v ∷ []) (v ∷ []) z) in
      ap (normal_with (λ u. renamed m (v ∷ []) u (form a b))) occurring_here
      ∙ ap (λ (e : Expr). normal_here e (v ∷ [])) renamed_here

pub normal_map_is : (counter : ℕ) (at : Subscript)
    → normalised (subscript_map at) (map value (subscript_values counter at)) ≡ record { map = modules.subscript_map at; operands = map value (subscript_values counter at) }
normal_map_is counter (fixed z) = const_normal z
normal_map_is counter variable = variable_normal (value counter)
normal_map_is counter (plus z) = offset_normal text.Add expr.Add occur-Add renamed-Add (value counter) z
normal_map_is counter (minus z) = offset_normal text.Sub expr.Sub occur-Sub renamed-Sub (value counter) z

-- ---- sizes and roles
pub arity_here : (counter : ℕ) (at : Subscript) → has_arity (Some (subscript_map at)) (length (map value (subscript_values counter at))) 1 ≡ true
arity_here counter (fixed z) = refl
arity_here counter variable = refl
arity_here counter (plus z) = refl
arity_here counter (minus z) = refl

pub few_here : (at : Subscript) → has_few_results (Some (subscript_map at)) ≡ true
few_here (fixed z) = refl
few_here variable = refl
few_here (plus z) = refl
few_here (minus z) = refl

pub dimensions_here : (roles : List Role) (counter : ℕ) (at : Subscript) → slice_get roles counter ≡ Some Dimension
    → are_map_operands roles (Some (subscript_map at)) (map value (subscript_values counter at)) ≡ true
dimensions_here roles counter (fixed z) h = refl
dimensions_here roles counter variable h = ap (λ o. is_dimension_role o && true) h
dimensions_here roles counter (plus z) h = ap (λ o. is_dimension_role o && true) h
dimensions_here roles counter (minus z) h = ap (λ o. is_dimension_role o && true) h
