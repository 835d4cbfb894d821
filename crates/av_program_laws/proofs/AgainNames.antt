-- Names differ: each from those before it.
use Rattle.std.proofs.Common.{◌≡◌, ◌∙◌, ℕ, ◌+◌, ◌<◌, ◌≤◌, ◌^◌, arith, Bool, true, false, cond, List, [], ◌∷◌, ◌++◌, Some, None, length, take, drop, refl, ap, sym, subst, inl, inr}
use Rattle.std.specs.Prelude.{◌⊎◌, ◌==◌, not, nat_lt, is_some, unwrap_or, codes, if◌then◌else◌}
use Rattle.std.specs.Fmt.{decimal}
use Rattle.std.specs.List.{position_or_len}
use Rattle.std.specs.Str.{bytes_eq}
use Rattle.std.specs.Str.Parse.{AllDigits, digits_value}
use Rattle.std.specs.Char.{digit_value}
use Rattle.std.proofs.lemmas.Bool.{ne_eqb}
use Rattle.std.proofs.lemmas.Fmt.{decimal_is_IsNumeral_wide}
use Rattle.std.proofs.lemmas.Slice.Eq.{bytes_eq-Decides}
use Rattle.std.proofs.Math.Seq.{drop-length, take-length}
use Rattle.av_totree.specs.Names.{argument_name, operation_name}
use Rattle.av_verify.specs.Names.{Binding, binds, value_named, is_visible}
use Rattle.av_verify.specs.Results.{colon, counts_one, stands_for_one, used_as, use_name}
use Rattle.av_ir.specs.declared.module.ValueId.{ValueId}

-- ---- bytes
pub other_bytes : (a b : List ℕ) → (a ≡ b → ⊥) → bytes_eq a b ≡ false
other_bytes a b differ = by (bytes_eq a b) refl
  where
    by : (t : Bool) → bytes_eq a b ≡ t → bytes_eq a b ≡ false
    by true h = absurd (differ ((bytes_eq-Decides a b).0 h))
    by false h = h

-- ---- numbers in decimal digits
same_number : (m n : ℕ) → m < 10 ^ 64 → n < 10 ^ 64 → decimal m ≡ decimal n → m ≡ n
same_number m n p q e = sym (decimal_is_IsNumeral_wide m p).1 ∙ ap (digits_value 10) e ∙ (decimal_is_IsNumeral_wide n q).1

all_digits : (n : ℕ) → n < 10 ^ 64 → AllDigits 10 (decimal n)
all_digits n h = (decimal_is_IsNumeral_wide n h).0.1

no_letter : (rest digits : List ℕ) → AllDigits 10 digits → 97 ∷ rest ≡ digits → ⊥
no_letter rest digits all e =
    let first : AllDigits 10 (97 ∷ rest) = subst (λ (ds : List ℕ). AllDigits 10 ds) (sym e) all in
    let below : digit_value 97 < 10 = first.0 in
    omega (arith, below)

-- ---- names before a place
-- the name of an argument or an operation, where there are so many
abbrev pub IsOld : ℕ → ℕ → List ℕ → Type 0
IsOld arguments operations name =
    ((k : ℕ) × (k < arguments) × (name ≡ argument_name k)) ⊎ ((k : ℕ) × (k < operations) × (name ≡ operation_name k))

abbrev pub AreOld : ℕ → ℕ → List Binding → Type 0
AreOld arguments operations [] = Unit {0}
AreOld arguments operations (b ∷ bs) = IsOld arguments operations b.name × AreOld arguments operations bs

pub old_more : (a o c p : ℕ) → a ≤ c → o ≤ p → (bs : List Binding) → AreOld a o bs → AreOld c p bs
old_more a o c p more_a more_o [] h = tt
old_more a o c p more_a more_o (b ∷ bs) h = (by h.0, old_more a o c p more_a more_o bs h.1)
  where
    by : IsOld a o b.name → IsOld c p b.name
    by (inl x) = inl (x.0, omega (arith, x.1, more_a), x.2)
    by (inr x) = inr (x.0, omega (arith, x.1, more_o), x.2)

pub old_last : (a o : ℕ) (bs : List Binding) (name : List ℕ) (v : ValueId) → AreOld a o bs → IsOld a o name → AreOld a o (bs ++ binds name v ∷ [])
old_last a o [] name v h one = (one, tt)
old_last a o (b ∷ bs) name v h one = (h.0, old_last a o bs name v h.1 one)

fresh_cond : (name : List ℕ) (b : Binding) (bs : List Binding) (same : Bool) → same ≡ false → is_visible bs name ≡ false
    → is_some (if same then Some b.value else value_named name bs) ≡ false
fresh_cond name b bs true e h = absurd (cc)
fresh_cond name b bs false e h = h

-- a name that none of these is isn't visible
fresh_name : (a o : ℕ) (name : List ℕ) → ((other : List ℕ) → IsOld a o other → name ≡ other → ⊥) → (bs : List Binding) → AreOld a o bs → is_visible bs name ≡ false
fresh_name a o name differs [] h = refl
fresh_name a o name differs (b ∷ bs) h =
    fresh_cond name b bs (bytes_eq name b.name) (other_bytes name b.name (differs b.name h.0)) (fresh_name a o name differs bs h.1)

module _ (a o : ℕ) (small : a < 10 ^ 64) (few : o < 10 ^ 64) where
  next_argument : (other : List ℕ) → IsOld a o other → argument_name a ≡ other → ⊥
  next_argument other (inl x) e =
      let same : decimal a ≡ decimal x.0 = ap (drop 4) (e ∙ x.2) in
      let k : a ≡ x.0 = same_number a x.0 small (omega (arith, x.1, small)) same in omega (arith, k, x.1)
  next_argument other (inr x) e =
      let same : 97 ∷ codes "rg" ++ decimal a ≡ decimal x.0 = ap (drop 1) (e ∙ x.2) in
      no_letter (codes "rg" ++ decimal a) (decimal x.0) (all_digits x.0 (omega (arith, x.1, few))) same

  next_operation : (other : List ℕ) → IsOld a o other → operation_name o ≡ other → ⊥
  next_operation other (inl x) e =
      let same : decimal o ≡ 97 ∷ codes "rg" ++ decimal x.0 = ap (drop 1) (e ∙ x.2) in
      no_letter (codes "rg" ++ decimal x.0) (decimal o) (all_digits o few) (sym same)
  next_operation other (inr x) e =
      let same : decimal o ≡ decimal x.0 = ap (drop 1) (e ∙ x.2) in
      let k : o ≡ x.0 = same_number o x.0 few (omega (arith, x.1, few)) same in omega (arith, k, x.1)

  pub argument_fresh : (bs : List Binding) → AreOld a o bs → is_visible bs (argument_name a) ≡ false
  argument_fresh = fresh_name a o (argument_name a) next_argument

  pub operation_fresh : (bs : List Binding) → AreOld a o bs → is_visible bs (operation_name o) ≡ false
  operation_fresh = fresh_name a o (operation_name o) next_operation

-- ---- a name stands for one result
abbrev is_colon : ℕ → Bool
is_colon byte = byte == 58

digit_is_no_colon : (c : ℕ) → digit_value c < 10 → is_colon c ≡ false
digit_is_no_colon c h = ne_eqb c 58 (λ e. let k : digit_value 58 < 10 = subst (λ (x : ℕ). digit_value x < 10) e h in omega (arith, k))

all_before : (ds : List ℕ) → AllDigits 10 ds → position_or_len is_colon ds ≡ length ds
all_before [] h = refl
all_before (c ∷ ds) h =
    ap (λ b. cond (not b) (1 + position_or_len is_colon ds) 0) (digit_is_no_colon c h.0)
    ∙ omega (arith, all_before ds h.1)

module _ (k : ℕ) (few : k < 10 ^ 64) where
  abbrev name : List ℕ
  name = operation_name k

  no_colon : colon name ≡ length name
  no_colon =
      let n = position_or_len is_colon name in
      let all : n ≡ length name = omega (arith, all_before (decimal k) (all_digits k few)) in
      by (nat_lt n (length name)) n all
    where
      by : (b : Bool) (n : ℕ) → n ≡ length name → unwrap_or (cond b (Some n) None) (length name) ≡ length name
      by true n all = all
      by false n all = refl

  nothing_behind : drop (colon name) name ≡ []
  nothing_behind = ap (λ n. drop n name) no_colon ∙ drop-length name

  pub one_named : stands_for_one name ≡ true
  one_named = ap counts_one nothing_behind

  pub used_itself : use_name name ≡ name
  used_itself = ap (used_as (take (colon name) name)) nothing_behind ∙ ap (λ n. take n name) no_colon ∙ take-length name
