-- The subscripts that are taken, and the bounds of loops.
use Rattle.std.proofs.Common.{◌≡◌, ◌∙◌, ℕ, ◌+◌, ◌^◌, ◌≤◌, arith, Bool, true, false, cond, List, [], ◌∷◌, Some, None, map, length, refl, ap, sym, subst}
use Rattle.std.specs.Prelude.{ℤ, Option, not, nat_lt, nat_le, ◌==◌, is_some, unwrap_or, unsigned_abs, position, if◌then◌else◌}
use Rattle.std.specs.List.{list_all}
use Rattle.std.specs.Str.{bytes_eq}
use Rattle.std.proofs.lemmas.Bool.{leb-true, eq-eqb, eqb-true}
use Rattle.av_affine.specs.declared.expression.Expr.{Expr}
use Rattle.av_affine.specs.declared.expression.Expr.TheVariants as expr
use Rattle.av_affine.specs.declared.expression.Leaf.TheVariants.{Dim}
use Rattle.av_affine.specs.Finding.{limited, sum_found}
use Rattle.av_ir.specs.declared.module.ValueId.{ValueId}
use Rattle.av_tree.specs.declared.written.ExprText.{ExprText, ExprText-F, out-ExprText, roll-ExprText, roll-out-ExprText}
use Rattle.av_tree.specs.declared.written.ExprText.TheOpen as open_text
use Rattle.av_tree.specs.declared.written.ExprText.TheVariants as text
use Rattle.av_tree.specs.declared.written.ExprText.TheVariants.{rolls-Name, rolls-Const, rolls-Add, rolls-Sub}
use Rattle.av_tree.specs.declared.written.MapText.{MapText}
use Rattle.av_verify.specs.Parts.{MapUse}
use Rattle.av_verify.specs.Expressions.{is_parameter, bound_found, is_admissible, is_affine}
use Rattle.av_verify.specs.FirstPath.{has_no_parameter, is_variable, is_offset, is_subscript, is_number, has_plain_subscript, is_constant_bound}
use Rattle.av_verify.specs.Maps.{value_at, parameter_value, place_among, with_value, occur, renamed, normalised}
use Rattle.av_verify.specs.Names.{Binding, value_named, values_named}
use Rattle.av_verify.proofs.TextVariants.{bound_found-Name, bound_found-Const, bound_found-Add, bound_found-Sub, occur-Name, occur-Const, occur-Add, occur-Sub, renamed-Name, renamed-Const, renamed-Add, renamed-Sub}
use Rattle.av_program_laws.specs.Programs.{Subscript, fixed, variable, plus, minus}
use Rattle.av_program_laws.specs.Modules.{value, over, loop_variable, bound_map, subscript_map, subscript_values}
use Rattle.av_program_laws.specs.Sound.{IsBound, IsOffset, IsSoundSubscript}
use Rattle.av_program_laws.proofs.TakenRules.{both, same_bytes, only_one}

-- ---- expressions, by their outermost forms
is_const : (e : ExprText) (z : ℤ) → out-ExprText e ≡ open_text.Const z → e ≡ text.Const z
is_const e z h = sym (roll-out-ExprText e) ∙ ap roll-ExprText h ∙ rolls-Const z

is_name : (e : ExprText) (name : List ℕ) → out-ExprText e ≡ open_text.Name name → e ≡ text.Name name
is_name e name h = sym (roll-out-ExprText e) ∙ ap roll-ExprText h ∙ rolls-Name name

is_add : (e a b : ExprText) → out-ExprText e ≡ open_text.Add a b → e ≡ text.Add a b
is_add e a b h = sym (roll-out-ExprText e) ∙ ap roll-ExprText h ∙ rolls-Add a b

is_sub : (e a b : ExprText) → out-ExprText e ≡ open_text.Sub a b → e ≡ text.Sub a b
is_sub e a b h = sym (roll-out-ExprText e) ∙ ap roll-ExprText h ∙ rolls-Sub a b

-- ---- bounds
limited_cond : (n : ℕ) (b : Bool) → nat_le n (2 ^ 110) ≡ b → is_some (if b then Some n else None) ≡ true → n ≤ 2 ^ 110
limited_cond n true e h = leb-true n (2 ^ 110) e
limited_cond n false e h = absurd (cc)

limited_within : (n : ℕ) → is_some (limited n) ≡ true → n ≤ 2 ^ 110
limited_within n h = limited_cond n (nat_le n (2 ^ 110)) refl h

sum_cond : (x n : ℕ) (p q : Bool)
    → is_some (sum_found (if p then Some x else None) (if q then Some n else None)) ≡ true → is_some (limited (x + n)) ≡ true
sum_cond x n true true h = h
sum_cond x n true false h = absurd (cc)
sum_cond x n false q h = absurd (cc)

sum_within : (p : Bool) (n : ℕ) → is_some (sum_found (if p then Some (2 ^ 63) else None) (limited n)) ≡ true → 2 ^ 63 + n ≤ 2 ^ 110
sum_within p n h = limited_within (2 ^ 63 + n) (sum_cond (2 ^ 63) n p (nat_le n (2 ^ 110)) h)

const_within : (m : MapText) (z : ℤ) → is_admissible m (text.Const z) ≡ true → IsBound z
const_within m z h =
    let found = (both _ _ h).1 in
    limited_within (unsigned_abs z) (subst (λ (o : Option ℕ). is_some o ≡ true) (bound_found-Const m z) found)

module _ (form : ExprText → ExprText → ExprText)
    (bounded : (m : MapText) (a b : ExprText) → bound_found m (form a b) ≡ sum_found (bound_found m a) (bound_found m b)) where
  offset_within : (m : MapText) (name : List ℕ) (z : ℤ) → is_admissible m (form (text.Name name) (text.Const z)) ≡ true → IsOffset z
  offset_within m name z h =
      let found = (both _ _ h).1 in
      let same : bound_found m (form (text.Name name) (text.Const z)) ≡ sum_found (if is_parameter m name then Some (2 ^ 63) else None) (limited (unsigned_abs z)) =
      bounded m (text.Name name) (text.Const z)
      ∙ ap (λ o. sum_found o (bound_found m (text.Const z))) (bound_found-Name m name)
      ∙ ap (λ o. sum_found (if is_parameter m name then Some (2 ^ 63) else None) o) (bound_found-Const m z) in
      sum_within (is_parameter m name) (unsigned_abs z) (subst (λ (o : Option ℕ). is_some o ≡ true) same found)

-- ---- normal forms
position_only : {A : Type 0} (p : A → Bool) (x : A) → p x ≡ true → position p (x ∷ []) ≡ Some 0
position_only p x h = ap (λ b. cond (nat_lt (cond (not b) (1 + 0) 0) 1) (Some (cond (not b) (1 + 0) 0)) None) h

abbrev map_text : List (List ℕ) → ExprText → MapText
map_text dims e = record { dims = dims; syms = []; results = e ∷ [] }

-- the one value is that of the one parameter
parameter_only : (d name : List ℕ) (e : ExprText) (v : ValueId) → bytes_eq d name ≡ true → parameter_value (map_text (d ∷ []) e) (v ∷ []) name ≡ v
parameter_only d name e v h = ap (value_at (v ∷ [])) (position_only (λ one. bytes_eq one name) d h)

place_only : (v : ValueId) → place_among (v ∷ []) v ≡ 0
place_only v = ap (λ (o : Option ℕ). unwrap_or o 1) (position_only (λ (one : ValueId). one.0 == v.0) v (eq-eqb v.0 v.0 refl))

-- the map and the values, from the value of the one name
abbrev normal_form : (Expr → Expr) → ValueId → MapUse
normal_form form w = record {
  map = record { dims = length (with_value [] w); syms = 0; results = form (expr.Param (Dim (place_among (with_value [] w) w))) ∷ [] };
  operands = with_value [] w;
}

normal_only : (form : Expr → Expr) (w v : ValueId) → w ≡ v → normal_form form w ≡ record { map = over 1 (form loop_variable); operands = v ∷ [] }
normal_only form w v h =
    ap (normal_form form) h
    ∙ ap (λ (n : ℕ). let used : MapUse = record { map = record { dims = 1; syms = 0; results = form (expr.Param (Dim n)) ∷ [] }; operands = v ∷ [] } in used) (place_only v)

abbrev normal_with : (List ValueId → Expr) → List ValueId → MapUse
normal_with renaming used = record { map = record { dims = length used; syms = 0; results = renaming used ∷ [] }; operands = used }

normal_const : (z : ℤ) → normalised (map_text [] (text.Const z)) [] ≡ record { map = over 0 (expr.Const z); operands = [] }
normal_const z =
    ap (λ (used : List ValueId). normal_with (λ u. renamed (map_text [] (text.Const z)) [] u (text.Const z)) used) (occur-Const (map_text [] (text.Const z)) [] [] z)
    ∙ ap (λ (e : Expr). let used : MapUse = record { map = over 0 e; operands = [] } in used) (renamed-Const (map_text [] (text.Const z)) [] [] z)

module _ (d name : List ℕ) (v : ValueId) (same : bytes_eq d name ≡ true) where
  normal_name : normalised (map_text (d ∷ []) (text.Name name)) (v ∷ []) ≡ record { map = over 1 loop_variable; operands = v ∷ [] }
  normal_name =
      let m = map_text (d ∷ []) (text.Name name) in
      let w = parameter_value m (v ∷ []) name in
      ap (λ (used : List ValueId). normal_with (λ u. renamed m (v ∷ []) u (text.Name name)) used) (occur-Name m (v ∷ []) [] name)
      ∙ ap (λ (e : Expr). let used : MapUse = record { map = record { dims = length (with_value [] w); syms = 0; results = e ∷ [] }; operands = with_value [] w } in used)
      (renamed-Name m (v ∷ []) (with_value [] w) name)
      ∙ normal_only (λ e. e) w v (parameter_only d name (text.Name name) v same)

  module _ (form : ExprText → ExprText → ExprText) (made : Expr → Expr → Expr)
      (occurs : (m : MapText) (operands used : List ValueId) (a b : ExprText) → occur m operands used (form a b) ≡ occur m operands (occur m operands used a) b)
      (renames : (m : MapText) (operands used : List ValueId) (a b : ExprText) → renamed m operands used (form a b) ≡ made (renamed m operands used a) (renamed m operands used b)) where
    normal_offset : (z : ℤ) → normalised (map_text (d ∷ []) (form (text.Name name) (text.Const z))) (v ∷ []) ≡ record { map = over 1 (made loop_variable (expr.Const z)); operands = v ∷ [] }
    normal_offset z =
        let e = form (text.Name name) (text.Const z) in
        let m = map_text (d ∷ []) e in
        let w = parameter_value m (v ∷ []) name in
        let occurring_here : occur m (v ∷ []) [] e ≡ with_value [] w =
        occurs m (v ∷ []) [] (text.Name name) (text.Const z)
        ∙ occur-Const m (v ∷ []) (occur m (v ∷ []) [] (text.Name name)) z
        ∙ occur-Name m (v ∷ []) [] name in
        let renamed_here : renamed m (v ∷ []) (with_value [] w) e ≡ made (expr.Param (Dim (place_among (with_value [] w) w))) (expr.Const z) =
        renames m (v ∷ []) (with_value [] w) (text.Name name) (text.Const z)
        ∙ ap (λ a. made a (renamed m (v ∷ []) (with_value [] w) (text.Const z))) (renamed-Name m (v ∷ []) (with_value [] w) name)
        ∙ ap (made (expr.Param (Dim (place_among (with_value [] w) w)))) (renamed-Const m (v ∷ []) (with_value [] w) z) in
        ap (λ (used : List ValueId). normal_with (λ u. renamed m (v ∷ []) u e) used) occurring_here
        ∙ ap (λ (r : Expr). let used : MapUse = record { map = record { dims = length (with_value [] w); syms = 0; results = r ∷ [] }; operands = with_value [] w } in used) renamed_here
        ∙ normal_only (λ a. made a (expr.Const z)) w v (parameter_only d name e v same)

-- ---- maps
no_list : {A : Type 0} (xs : List A) → (length xs == 0) ≡ true → xs ≡ []
no_list [] h = refl
no_list (x ∷ xs) h = let e : length (x ∷ xs) ≡ 0 = eqb-true (length (x ∷ xs)) 0 h in absurd (omega (arith, e))

abbrev with_parts : List (List ℕ) → List (List ℕ) → List ExprText → MapText
with_parts dims syms results = record { dims = dims; syms = syms; results = results }

map_is : (m : MapText) (dims : List (List ℕ)) (e : ExprText) → m.dims ≡ dims → m.syms ≡ [] → m.results ≡ e ∷ [] → m ≡ map_text dims e
map_is m dims e a b c =
    ap (λ ds. with_parts ds m.syms m.results) a ∙ ap (λ ss. with_parts dims ss m.results) b ∙ ap (λ rs. with_parts dims [] rs) c

admissible_here : (m : MapText) (e f : ExprText) → is_affine (Some m) ≡ true → m.results ≡ e ∷ [] → e ≡ f → is_admissible m f ≡ true
admissible_here m e f h r same =
    let all : list_all (is_admissible m) m.results ≡ true = (both _ _ (both _ _ h).0).0 in
    let one : list_all (is_admissible m) (e ∷ []) ≡ true = subst (λ (rs : List ExprText). list_all (is_admissible m) rs ≡ true) r all in
    subst (λ (x : ExprText). is_admissible m x ≡ true) same (both _ _ one).0

-- the map of a number
const_map : (m : MapText) (e : ExprText) (z : ℤ) → is_affine (Some m) ≡ true → m.results ≡ e ∷ [] → out-ExprText e ≡ open_text.Const z → has_no_parameter m ≡ true
    → IsBound z × (normalised m [] ≡ record { map = over 0 (expr.Const z); operands = [] })
const_map m e z affine r out none =
    let same : e ≡ text.Const z = is_const e z out in
    let parts = both _ _ none in
    let is : m ≡ map_text [] (text.Const z) = map_is m [] e (no_list m.dims parts.0) (no_list m.syms parts.1) r ∙ ap (map_text []) same in
    (const_within m z (admissible_here m e (text.Const z) affine r same), ap (λ n. normalised n []) is ∙ normal_const z)

-- ---- bounds of loops
pub record IsBoundMap (m : MapText) : Type 0 where
  pub number : ℤ
  pub within : IsBound number
  pub normal : normalised m [] ≡ record { map = bound_map number; operands = [] }

bound_of : (m : MapText) (e : ExprText) (x : ExprText-F ExprText) → is_affine (Some m) ≡ true → m.results ≡ e ∷ [] → has_no_parameter m ≡ true
    → out-ExprText e ≡ x → is_number x ≡ true → IsBoundMap m
bound_of m e (open_text.Const z) affine r none out h = let both_facts = const_map m e z affine r out none in record { number = z; within = both_facts.0; normal = both_facts.1 }
bound_of m e (open_text.Name name) affine r none out h = absurd (cc)
bound_of m e (open_text.Neg a) affine r none out h = absurd (cc)
bound_of m e (open_text.Add a b) affine r none out h = absurd (cc)
bound_of m e (open_text.Sub a b) affine r none out h = absurd (cc)
bound_of m e (open_text.Mul a b) affine r none out h = absurd (cc)
bound_of m e (open_text.Mod a b) affine r none out h = absurd (cc)
bound_of m e (open_text.Floor a b) affine r none out h = absurd (cc)
bound_of m e (open_text.Ceil a b) affine r none out h = absurd (cc)

pub bound_taken : (m : MapText) → is_affine (Some m) ≡ true → is_constant_bound (Some m) ≡ true → IsBoundMap m
bound_taken m affine h =
    let parts = both _ _ h in
    let one = only_one (λ (e : ExprText). is_number (out-ExprText e)) m.results parts.1 in
    bound_of m one.0 (out-ExprText one.0) affine one.1 parts.0 refl one.2

-- ---- subscripts
-- the values of a subscript in the loop of a counter, by the names of its values
pub record IsPlainMap (counter : ℕ) (m : MapText) (values : List ValueId) : Type 0 where
  pub at : Subscript
  pub sound : IsSoundSubscript at
  pub normal : normalised m values ≡ record { map = subscript_map at; operands = map value (subscript_values counter at) }

module _ (counter : ℕ) (names : List Binding) (variable_name : List ℕ) (here : value_named variable_name names ≡ Some (value counter)) (m : MapText) (used : List (List ℕ))
    (affine : is_affine (Some m) ≡ true) where
  -- one value, which is the counter, and one parameter
  record IsCounted (name : List ℕ) : Type 0 where
    dimension : List ℕ
    alone : bytes_eq dimension name ≡ true
    dims : m.dims ≡ dimension ∷ []
    syms : m.syms ≡ []
    values : values_named names used ≡ value counter ∷ []

  counted_of : (name : List ℕ) → is_variable m used variable_name name ≡ true → IsCounted name
  counted_of name h =
      let parts = both _ _ h in
      let first = both _ _ parts.0 in
      let dim = only_one (λ n. bytes_eq n name) m.dims first.1 in
      let one = only_one (λ n. bytes_eq n variable_name) used parts.1 in
      let same : one.0 ≡ variable_name = same_bytes one.0 variable_name one.2 in
      record {
        dimension = dim.0;
        alone = dim.2;
        dims = dim.1;
        syms = no_list m.syms first.0;
        values =
            ap (values_named names) one.1
            ∙ ap (λ (n : List ℕ). unwrap_or (value_named n names) (record { 0 = 0 }) ∷ []) same
            ∙ ap (λ (o : Option ValueId). unwrap_or o (record { 0 = 0 }) ∷ []) here;
      }

  offset_of : (form : ExprText → ExprText → ExprText) (made : Expr → Expr → Expr) (at : ℤ → Subscript)
      → ((m : MapText) (a b : ExprText) → bound_found m (form a b) ≡ sum_found (bound_found m a) (bound_found m b))
      → ((m : MapText) (operands used : List ValueId) (a b : ExprText) → occur m operands used (form a b) ≡ occur m operands (occur m operands used a) b)
      → ((m : MapText) (operands used : List ValueId) (a b : ExprText) → renamed m operands used (form a b) ≡ made (renamed m operands used a) (renamed m operands used b))
      → ((z : ℤ) → IsOffset z → IsSoundSubscript (at z))
      → ((z : ℤ) → subscript_map (at z) ≡ over 1 (made loop_variable (expr.Const z)))
      → ((z : ℤ) → subscript_values counter (at z) ≡ counter ∷ [])
      → (e l r : ExprText) (a b : ExprText-F ExprText) → m.results ≡ e ∷ [] → e ≡ form l r → out-ExprText l ≡ a → out-ExprText r ≡ b
      → is_offset m used variable_name a b ≡ true → IsPlainMap counter m (values_named names used)
  offset_of form made at bounded occurs renames sound mapped valued e l r (open_text.Name name) (open_text.Const z) results is left right h =
      let c = counted_of name h in
      let whole : e ≡ form (text.Name name) (text.Const z) = is ∙ ap (λ x. form x r) (is_name l name left) ∙ ap (form (text.Name name)) (is_const r z right) in
      let same : m ≡ map_text (c.dimension ∷ []) (form (text.Name name) (text.Const z)) =
      map_is m (c.dimension ∷ []) e c.dims c.syms results ∙ ap (map_text (c.dimension ∷ [])) whole in
      record {
        at = at z;
        sound = sound z (offset_within form bounded m name z (admissible_here m e (form (text.Name name) (text.Const z)) affine results whole));
        normal =
            ap (normalised m) c.values
            ∙ ap (λ n. normalised n (value counter ∷ [])) same
            ∙ normal_offset c.dimension name (value counter) c.alone form made occurs renames z
            ∙ ap (λ f. let u : MapUse = record { map = f; operands = value counter ∷ [] } in u) (sym (mapped z))
            ∙ ap (λ (vs : List ℕ). let u : MapUse = record { map = subscript_map (at z); operands = map value vs } in u) (sym (valued z));
      }
  offset_of form made at bounded occurs renames sound mapped valued e l r (open_text.Name name) _ results is left right h = absurd (cc)
  offset_of form made at bounded occurs renames sound mapped valued e l r _ b results is left right h = absurd (cc)

  subscript_of : (e : ExprText) (x : ExprText-F ExprText) → m.results ≡ e ∷ [] → out-ExprText e ≡ x → is_subscript m used variable_name x ≡ true
      → IsPlainMap counter m (values_named names used)
  subscript_of e (open_text.Const z) results out h =
      let parts = both _ _ h in
      let facts = const_map m e z affine results out parts.0 in
      record {
        at = fixed z;
        sound = facts.0;
        normal = ap (λ (us : List (List ℕ)). normalised m (values_named names us)) (no_list used parts.1) ∙ facts.1;
      }
  subscript_of e (open_text.Name name) results out h =
      let c = counted_of name h in
      let same : m ≡ map_text (c.dimension ∷ []) (text.Name name) =
      map_is m (c.dimension ∷ []) e c.dims c.syms results ∙ ap (map_text (c.dimension ∷ [])) (is_name e name out) in
      record {
        at = variable;
        sound = tt;
        normal =
            ap (normalised m) c.values
            ∙ ap (λ n. normalised n (value counter ∷ [])) same
            ∙ normal_name c.dimension name (value counter) c.alone;
      }
  subscript_of e (open_text.Add l r) results out h =
      offset_of text.Add expr.Add plus bound_found-Add occur-Add renamed-Add (λ z o. o) (λ z. refl) (λ z. refl) e l r (out-ExprText l) (out-ExprText r) results (is_add e l r out) refl refl h
  subscript_of e (open_text.Sub l r) results out h =
      offset_of text.Sub expr.Sub minus bound_found-Sub occur-Sub renamed-Sub (λ z o. o) (λ z. refl) (λ z. refl) e l r (out-ExprText l) (out-ExprText r) results (is_sub e l r out) refl refl h
  subscript_of e (open_text.Neg a) results out h = absurd (cc)
  subscript_of e (open_text.Mul a b) results out h = absurd (cc)
  subscript_of e (open_text.Mod a b) results out h = absurd (cc)
  subscript_of e (open_text.Floor a b) results out h = absurd (cc)
  subscript_of e (open_text.Ceil a b) results out h = absurd (cc)

  pub subscript_taken : has_plain_subscript used variable_name (Some m) ≡ true → IsPlainMap counter m (values_named names used)
  subscript_taken h =
      let one = only_one (λ (e : ExprText). is_subscript m used variable_name (out-ExprText e)) m.results h in
      subscript_of one.0 (out-ExprText one.0) one.1 refl one.2
