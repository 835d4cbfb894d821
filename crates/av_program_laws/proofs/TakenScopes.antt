-- The scope at a place of a program.
use Rattle.std.proofs.Common.{◌≡◌, ◌∙◌, ℕ, zero, suc, ◌+◌, ◌<◌, arith, Bool, true, false, List, [], ◌∷◌, ◌++◌, Some, None, map, length, length-append, refl, ap, subst, inl, inr}
use Rattle.std.specs.Prelude.{replicate, ◌⊎◌, is_some, unwrap_or, slice_get, if◌then◌else◌}
use Rattle.std.specs.Str.{bytes_eq}
use Rattle.std.proofs.lemmas.List.{replicate-append-replicate, map-append}
use Rattle.av_ir.specs.declared.ty.Ty.{Ty}
use Rattle.av_ir.specs.declared.ty.Ty.TheVariants.{Scalar, MemRef, Vector}
use Rattle.av_ir.specs.declared.module.ValueId.{ValueId}
use Rattle.av_verify.specs.Parts.{Role, Scope}
use Rattle.av_verify.specs.Names.{Binding, binds, value_named, is_visible, bound, value_or_first}
use Rattle.av_verify.specs.Scopes.{defined}
use Rattle.av_verify.specs.Elaboration.{numbered}
use Rattle.av_program_laws.specs.Walks.{Place, buffer, next, with_result, passed}
use Rattle.av_program_laws.specs.Sound.{IsAmong}
use Rattle.av_program_laws.proofs.TakenRules.{own_bytes}

-- ---- names
abbrev pub number_in : Binding → ℕ
number_in b = b.value.0

abbrev pub numbers_in : List Binding → List ℕ
numbers_in names = map number_in names

among_cond : (name : List ℕ) (b : Binding) (bs : List Binding) (same : Bool)
    → (is_visible bs name ≡ true → IsAmong (numbers_in bs) (value_or_first bs name).0)
    → is_some (if same then Some b.value else value_named name bs) ≡ true
    → IsAmong (number_in b ∷ numbers_in bs) (unwrap_or (if same then Some b.value else value_named name bs) (record { 0 = 0 })).0
among_cond name b bs true more h = inl refl
among_cond name b bs false more h = inr (more h)

pub among_visible : (names : List Binding) (name : List ℕ) → is_visible names name ≡ true → IsAmong (numbers_in names) (value_or_first names name).0
among_visible [] name h = absurd (cc)
among_visible (b ∷ bs) name h = among_cond name b bs (bytes_eq name b.name) (among_visible bs name) h

fresh_cond : (name : List ℕ) (v : ValueId) (b : Binding) (bs : List Binding) (same : Bool)
    → (is_visible bs name ≡ false → bound bs name v ≡ bs ++ binds name v ∷ [])
    → is_some (if same then Some b.value else value_named name bs) ≡ false
    → (if same then binds b.name v ∷ bs else b ∷ bound bs name v) ≡ b ∷ (bs ++ binds name v ∷ [])
fresh_cond name v b bs true more h = absurd (cc)
fresh_cond name v b bs false more h = ap (λ l. b ∷ l) (more h)

-- a new name stands at the end
pub bound_fresh : (names : List Binding) (name : List ℕ) (v : ValueId) → is_visible names name ≡ false → bound names name v ≡ names ++ binds name v ∷ []
bound_fresh [] name v h = refl
bound_fresh (b ∷ bs) name v h = fresh_cond name v b bs (bytes_eq name b.name) (bound_fresh bs name v) h

more_cond : (name : List ℕ) (v : ValueId) (b : Binding) (bs others : List Binding) (same : Bool)
    → (value_named name bs ≡ Some v → value_named name (bs ++ others) ≡ Some v)
    → (if same then Some b.value else value_named name bs) ≡ Some v
    → (if same then Some b.value else value_named name (bs ++ others)) ≡ Some v
more_cond name v b bs others true more h = h
more_cond name v b bs others false more h = more h

pub named_more : (names others : List Binding) (name : List ℕ) (v : ValueId) → value_named name names ≡ Some v → value_named name (names ++ others) ≡ Some v
named_more [] others name v h = absurd (cc)
named_more (b ∷ bs) others name v h = more_cond name v b bs others (bytes_eq name b.name) (named_more bs others name v) h

last_cond : (name : List ℕ) (v : ValueId) (b : Binding) (bs : List Binding) (same : Bool)
    → (is_visible bs name ≡ false → value_named name (bs ++ binds name v ∷ []) ≡ Some v)
    → is_some (if same then Some b.value else value_named name bs) ≡ false
    → (if same then Some b.value else value_named name (bs ++ binds name v ∷ [])) ≡ Some v
last_cond name v b bs true more h = absurd (cc)
last_cond name v b bs false more h = more h

pub named_last : (names : List Binding) (name : List ℕ) (v : ValueId) → is_visible names name ≡ false → value_named name (names ++ binds name v ∷ []) ≡ Some v
named_last [] name v h = ap (λ b. if b then Some v else None) (own_bytes name)
named_last (b ∷ bs) name v h = last_cond name v b bs (bytes_eq name b.name) (named_last bs name v) h

-- ---- numbers of values
pub among_more : (xs : List ℕ) (n v : ℕ) → IsAmong (xs ++ n ∷ []) v → IsAmong xs v ⊎ (n ≡ v)
among_more [] n v (inl e) = inr e
among_more [] n v (inr h) = absurd h
among_more (x ∷ xs) n v (inl e) = inl (inl e)
among_more (x ∷ xs) n v (inr h) = elim (among_more xs n v h) [ inl i ↦ inl (inr i) | inr e ↦ inr e ]

-- ---- types
-- the types of values in programs
abbrev pub IsPlain : Ty → Type 0
IsPlain (Scalar elem) = Unit {0}
IsPlain (MemRef extents elem) = (size : ℕ) × (MemRef extents elem ≡ buffer size)
IsPlain (Vector shape elem) = ⊥

abbrev pub ArePlain : List Ty → Type 0
ArePlain [] = Unit {0}
ArePlain (ty ∷ types) = IsPlain ty × ArePlain types

pub plain_more : (types : List Ty) (ty : Ty) → ArePlain types → IsPlain ty → ArePlain (types ++ ty ∷ [])
plain_more [] ty h p = (p, tt)
plain_more (t ∷ types) ty h p = (h.0, plain_more types ty h.1 p)

pub plain_at : (types : List Ty) (v : ℕ) (ty : Ty) → ArePlain types → slice_get types v ≡ Some ty → IsPlain ty
plain_at [] v ty h e = absurd (cc)
plain_at (t ∷ types) zero ty h e = let same : t ≡ ty = cc in subst IsPlain same h.0
plain_at (t ∷ types) (suc v) ty h e = plain_at types v ty h.1 e

-- ---- scopes
-- operations are numbered, the values have their types, and the visible ones their names
pub record Matches (scope : Scope) (visible : List ℕ) (place : Place) : Type 0 where
  pub owners : scope.owners ≡ replicate place.number 0
  pub values : scope.values ≡ place.types
  pub names : numbers_in scope.names ≡ visible
  pub below : (v : ℕ) → IsAmong visible v → v < length place.types
  pub plain : ArePlain place.types

pub one_more_owner : (owners : List ℕ) (n : ℕ) → owners ≡ replicate n 0 → owners ++ 0 ∷ [] ≡ replicate (n + 1) 0
one_more_owner owners n h = ap (λ l. l ++ 0 ∷ []) h ∙ replicate-append-replicate n 1 0

pub below_more : (visible : List ℕ) (types : List Ty) (ty : Ty) → ((v : ℕ) → IsAmong visible v → v < length types)
    → (v : ℕ) → IsAmong (visible ++ length types ∷ []) v → v < length (types ++ ty ∷ [])
below_more visible types ty h v among =
    elim (among_more visible (length types) v among) [
      | inl i ↦ let below : v < length types = h v i in omega (arith, length-append types (ty ∷ []))
      | inr e ↦ omega (arith, e, length-append types (ty ∷ []))
    ]

pub names_more : (names : List Binding) (visible : List ℕ) (values types : List Ty) (name : List ℕ) → numbers_in names ≡ visible → values ≡ types
    → is_visible names name ≡ false → numbers_in (bound names name (record { 0 = length values })) ≡ visible ++ length types ∷ []
names_more names visible values types name h same fresh =
    ap numbers_in (bound_fresh names name (record { 0 = length values }) fresh)
    ∙ map-append number_in names (binds name (record { 0 = length values }) ∷ [])
    ∙ ap (λ l. l ++ length values ∷ []) h
    ∙ ap (λ (l : List Ty). visible ++ length l ∷ []) same

module _ (scope : Scope) (visible : List ℕ) (place : Place) (h : Matches scope visible place) where
  pub matches_result : (name : List ℕ) (ty : Ty) (role : Role) → is_visible scope.names name ≡ false → IsPlain ty
      → Matches (defined (numbered scope) name ty role) (visible ++ next place ∷ []) (with_result ty place)
  unfolding with_result
  matches_result name ty role fresh plain = record {
    owners = one_more_owner scope.owners place.number h.owners;
    values = ap (λ (l : List Ty). l ++ ty ∷ []) h.values;
    names = names_more scope.names visible scope.values place.types name h.names h.values fresh;
    below = below_more visible place.types ty h.below;
    plain = plain_more place.types ty h.plain plain;
  }

  pub matches_passed : Matches (numbered scope) visible (passed place)
  unfolding passed
  matches_passed = record {
    owners = one_more_owner scope.owners place.number h.owners;
    values = h.values;
    names = h.names;
    below = h.below;
    plain = h.plain;
  }
