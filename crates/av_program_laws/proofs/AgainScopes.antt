-- The scope at a place of a program whose tree is elaborated.
use Rattle.std.proofs.Common.{◌≡◌, ◌∙◌, ℕ, zero, suc, ◌+◌, ◌<◌, ◌^◌, arith, true, false, List, [], ◌∷◌, ◌++◌, Some, length, length-append, get_or, refl, ap, sym, subst, inl, inr}
use Rattle.std.specs.Prelude.{replicate, is_some, unwrap_or, slice_get, codes}
use Rattle.std.proofs.lemmas.List.{get_or_append_left}
use Rattle.std.proofs.lemmas.Option.{slice_get-get_or}
use Rattle.std.proofs.Math.Seq.{get_or-append_seam}
use Rattle.av_ir.specs.declared.ty.Elem.TheVariants.{Index}
use Rattle.av_ir.specs.declared.ty.Ty.{Ty}
use Rattle.av_ir.specs.declared.ty.Ty.TheVariants.{Scalar}
use Rattle.av_totree.specs.Names.{argument_name, operation_name}
use Rattle.av_verify.specs.Parts.{Role, Scope}
use Rattle.av_verify.specs.Names.{Binding, binds, value_named, is_visible, bound, value_or_first}
use Rattle.av_verify.specs.Scopes.{defined, next_value}
use Rattle.av_verify.specs.Elaboration.{numbered}
use Rattle.av_program_laws.specs.Walks.{Place, name_at, next, with_result, with_argument, passed}
use Rattle.av_program_laws.specs.Modules.{value}
use Rattle.av_program_laws.specs.Sound.{IsAmong, Stands}
use Rattle.av_program_laws.proofs.Ahead.{IsNamed, IsNamed-result, IsNamed-argument}
use Rattle.av_program_laws.proofs.TakenScopes.{among_more, bound_fresh, named_more, named_last, one_more_owner}
use Rattle.av_program_laws.proofs.AgainNames.{AreOld, old_more, old_last, argument_fresh, operation_fresh}

-- ---- lists
pub among_before : (xs ys : List ℕ) (v : ℕ) → IsAmong xs v → IsAmong (xs ++ ys) v
among_before [] ys v h = absurd h
among_before (x ∷ xs) ys v (inl e) = inl e
among_before (x ∷ xs) ys v (inr h) = inr (among_before xs ys v h)

pub among_end : (xs : List ℕ) (v : ℕ) → IsAmong (xs ++ v ∷ []) v
among_end [] v = inl refl
among_end (x ∷ xs) v = inr (among_end xs v)

pub get_before : {A : Type 0} (xs ys : List A) (i : ℕ) (x : A) → slice_get xs i ≡ Some x → slice_get (xs ++ ys) i ≡ Some x
get_before [] ys i x h = absurd (cc)
get_before (a ∷ xs) ys zero x h = h
get_before (a ∷ xs) ys (suc i) x h = get_before xs ys i x h

pub get_end : {A : Type 0} (xs : List A) (x : A) → slice_get (xs ++ x ∷ []) (length xs) ≡ Some x
get_end [] x = refl
get_end (a ∷ xs) x = get_end xs x

-- ---- scopes
-- each of these values is one of so many, and its name stands for it
abbrev pub AreNamed : List ℕ → ℕ → List (List ℕ) → List Binding → Type 0
AreNamed visible n texts names = (v : ℕ) → IsAmong visible v → (v < n) × (value_named (get_or texts v (codes "%")) names ≡ Some (value v))

module _ (visible : List ℕ) (types : List Ty) (texts : List (List ℕ)) (names : List Binding) (each : AreNamed visible (length types) texts names)
    (name : List ℕ) (ty : Ty) (as_many : length texts ≡ length types) (fresh : is_visible names name ≡ false) where
  name_before : (v : ℕ) → v < length types → get_or (texts ++ name ∷ []) v (codes "%") ≡ get_or texts v (codes "%")
  name_before v lt = get_or_append_left texts (name ∷ []) (codes "%") v (omega (arith, lt, as_many))

  name_at_end : get_or (texts ++ name ∷ []) (length types) (codes "%") ≡ name
  name_at_end = ap (λ n. get_or (texts ++ name ∷ []) n (codes "%")) (sym as_many) ∙ get_or-append_seam texts name [] (codes "%")

  named_once_more : AreNamed (visible ++ length types ∷ []) (length (types ++ ty ∷ [])) (texts ++ name ∷ []) (names ++ binds name (value (length types)) ∷ [])
  named_once_more v among = elim (among_more visible (length types) v among) [
    | inl i ↦
        let one = each v i in (
          omega (arith, one.0, length-append types (ty ∷ [])),
          ap (λ n. value_named n (names ++ binds name (value (length types)) ∷ [])) (name_before v one.0)
              ∙ named_more names (binds name (value (length types)) ∷ []) (get_or texts v (codes "%")) (value v) one.1,
        )
    | inr e ↦ (
      omega (arith, e, length-append types (ty ∷ [])),
      ap (λ k. value_named (get_or (texts ++ name ∷ []) k (codes "%")) (names ++ binds name (value (length types)) ∷ [])) (sym e)
          ∙ ap (λ n. value_named n (names ++ binds name (value (length types)) ∷ [])) name_at_end
          ∙ named_last names name (value (length types)) fresh
          ∙ ap (λ k. Some (value k)) e,
    )
  ]

-- operations are numbered, values have their types, and the visible ones their names
pub record Fits (scope : Scope) (visible : List ℕ) (place : Place) : Type 0 where
  pub owners : scope.owners ≡ replicate place.number 0
  pub values : scope.values ≡ place.types
  pub roles : length scope.roles ≡ length place.types
  pub named : IsNamed place
  pub old : AreOld place.arguments place.operations scope.names
  pub each : AreNamed visible (length place.types) place.names scope.names

module _ (scope : Scope) (visible : List ℕ) (place : Place) (h : Fits scope visible place) where
  -- the names with one more
  pub names_with : (name : List ℕ) → is_visible scope.names name ≡ false → bound scope.names name (next_value scope) ≡ scope.names ++ binds name (value (next place)) ∷ []
  names_with name fresh =
      bound_fresh scope.names name (next_value scope) fresh ∙ ap (λ (l : List Ty). scope.names ++ binds name (value (length l)) ∷ []) h.values

  roles_with : (role : Role) (ty : Ty) → length (scope.roles ++ role ∷ []) ≡ length (place.types ++ ty ∷ [])
  roles_with role ty = let same = h.roles in omega (arith, same, length-append scope.roles (role ∷ []), length-append place.types (ty ∷ []))

  pub fits_passed : Fits (numbered scope) visible (passed place)
  unfolding passed
  fits_passed = record {
    owners = one_more_owner scope.owners place.number h.owners;
    values = h.values;
    roles = h.roles;
    named = h.named;
    old = h.old;
    each = h.each;
  }

  pub operation_new : place.arguments < 10 ^ 64 → place.operations < 10 ^ 64 → is_visible scope.names (operation_name place.operations) ≡ false
  operation_new small few = operation_fresh place.arguments place.operations small few scope.names h.old

  pub argument_new : place.arguments < 10 ^ 64 → place.operations < 10 ^ 64 → is_visible scope.names (argument_name place.arguments) ≡ false
  argument_new small few = argument_fresh place.arguments place.operations small few scope.names h.old

  pub fits_result : (ty : Ty) (role : Role) → is_visible scope.names (operation_name place.operations) ≡ false
      → Fits (defined (numbered scope) (operation_name place.operations) ty role) (visible ++ next place ∷ []) (with_result ty place)
  unfolding with_result
  fits_result ty role fresh =
      let name = operation_name place.operations in
      record {
        owners = one_more_owner scope.owners place.number h.owners;
        values = ap (λ (l : List Ty). l ++ ty ∷ []) h.values;
        roles = roles_with role ty;
        named = IsNamed-result ty place h.named;
        old =
            subst (λ (l : List Binding). AreOld place.arguments (place.operations + 1) l) (sym (names_with name fresh))
            (old_last place.arguments (place.operations + 1) scope.names name (value (next place))
            (old_more place.arguments place.operations place.arguments (place.operations + 1) (omega arith) (omega arith) scope.names h.old)
            (inr (place.operations, omega arith, refl)));
        each =
            subst (λ (l : List Binding). AreNamed (visible ++ next place ∷ []) (length (place.types ++ ty ∷ [])) (place.names ++ name ∷ []) l) (sym (names_with name fresh))
            (named_once_more visible place.types place.names scope.names h.each name ty h.named fresh);
      }

  pub fits_argument : (ty : Ty) (role : Role) → is_visible scope.names (argument_name place.arguments) ≡ false
      → Fits (defined scope (argument_name place.arguments) ty role) (visible ++ next place ∷ []) (with_argument ty place)
  unfolding with_argument
  fits_argument ty role fresh =
      let name = argument_name place.arguments in
      record {
        owners = h.owners;
        values = ap (λ (l : List Ty). l ++ ty ∷ []) h.values;
        roles = roles_with role ty;
        named = IsNamed-argument ty place h.named;
        old =
            subst (λ (l : List Binding). AreOld (place.arguments + 1) place.operations l) (sym (names_with name fresh))
            (old_last (place.arguments + 1) place.operations scope.names name (value (next place))
            (old_more place.arguments place.operations (place.arguments + 1) place.operations (omega arith) (omega arith) scope.names h.old)
            (inl (place.arguments, omega arith, refl)));
        each =
            subst (λ (l : List Binding). AreNamed (visible ++ next place ∷ []) (length (place.types ++ ty ∷ [])) (place.names ++ name ∷ []) l) (sym (names_with name fresh))
            (named_once_more visible place.types place.names scope.names h.each name ty h.named fresh);
      }

  -- ---- operands
  module _ (v : ℕ) (among : IsAmong visible v) where
    pub named_here : value_named (name_at place v) scope.names ≡ Some (value v)
    named_here = (h.each v among).1

    pub visible_here : is_visible scope.names (name_at place v) ≡ true
    visible_here = ap is_some named_here

    pub value_here : value_or_first scope.names (name_at place v) ≡ value v
    value_here = ap (λ o. unwrap_or o (record { 0 = 0 })) named_here

  pub typed_here : (v : ℕ) (ty : Ty) → Stands visible place v ty → slice_get scope.values v ≡ Some ty
  typed_here v ty stands =
      ap (λ (l : List Ty). slice_get l v) h.values ∙ slice_get-get_or place.types v (Scalar Index) stands.1 ∙ ap (λ t. Some t) stands.2
