-- What an item is printed with is what it may be.
use Rattle.std.proofs.Common.{◌≡◌, ℕ, Bool, true, false, ◌&&◌, List, [], ◌∷◌, ◌++◌, length, take, drop, map, zero, suc, if◌then◌else◌, Option, None, Some, refl, sym, subst}
use Rattle.std.proofs.lemmas.List.{append-nil, take-append-drop}
use Rattle.std.proofs.lemmas.Slice.Eq.{bytes_eq-Decides}
use Rattle.std.specs.Prelude.{codes}
use Rattle.std.specs.Str.{bytes_eq}
use Rattle.std.specs.List.{list_all}
use Rattle.av_tree.specs.declared.written.TypeText.{TypeText, out-TypeText}
use Rattle.av_tree.specs.declared.attribute.Named.{Named}
use Rattle.av_tree.specs.declared.node.Node.{Node}
use Rattle.av_tree.specs.declared.written.ExprText.{Const, ExprText, Name}
use Rattle.av_tree.specs.declared.written.ExprText.TheVariants as expr
use Rattle.av_tree.specs.declared.written.MapText.{MapText}
use Rattle.av_dialects.specs.declared.item.Item.{Item}
use Rattle.av_dialects.specs.declared.item.Item.TheVariants as item
use Rattle.av_dialects.specs.declared.item.Wanted.TheVariants as wanted
use Rattle.av_form_laws.specs.Items.{IsTypeOf, AreTypes, AreWanted, bound_taken, Fits, HasAtMostOne, HasFirst, IsCondition, IsWanted, condition_type, chosen, is_wanted, taken}
use Rattle.av_form_laws.specs.Attributes.{Applied, Constant, alias, constant_type, dimensions_of, first_applied, first_constant, is_map, of_elements, of_number, truth, written_map, written_set}
use Rattle.av_form_laws.specs.Grammar.{Bounds, HasType, a_region, access, alone, an_else, applied_words, bound_words, by_choice, by_map, by_number, by_value, carried, carried_type, carrying_words, choice_of, counter, else_words, iter_words, lower_bound, no_carried, no_else, no_results, no_step, one_result, or_else, result_words, results, step, step_words, upper_bound, MapOperands, constant_words, dense_constant, dimensions, false_alone, in_round, map_applied, number_constant, operand_words, set_applied, true_alone, with_symbols, Always, Any, Gives, IsFlag, Several, a_type, a_word, angled, chosen_alone, chosen_by, choice_words, element, mark_words, marks, no_marks, no_operand, no_overflow, no_typed, none, numbers, one, one_more, operand, operand_more, operands, overflow, overflow_words, some, spell, typed, typed_words}
use Rattle.av_form_laws.specs.Lines.{first_text, known, type_at}
use Rattle.av_form_laws.specs.Properties.{first_flags, first_word, is_flag}
use Rattle.av_form_laws.specs.Words.{Word, behind_commas, between_commas, number, of_type, plain, single, subscript, value}
use Rattle.av_form_laws.specs.Loops.{Carrying, first_name, first_step, nodes_in, paired, types_of, written_in}
use Rattle.av_form_laws.specs.Subscripts.{IsSubscript, leaf_in, map_in, subscripts_of, with_leaves}
use Rattle.av_form_laws.proofs.Subscripts.{subscript-is}
use Rattle.av_values.specs.Gifts.{Line, args_in, end_of, first_numbers, front}

-- ---- lists
abbrev Each : {A : Type 0} → (A → Type 0) → List A → Type 0
Each May [] = Unit {0}
Each May (a ∷ others) = May a × Each May others

always-each : {A : Type 0} (xs : List A) → Each Always xs
always-each [] = tt
always-each (x ∷ xs) = (tt, always-each xs)

both : (a b : Bool) → (a && b) ≡ true → (a ≡ true) × (b ≡ true)
both true b h = (refl, h)
both false b h = cc

passing-each : {A : Type 0} (p : A → Bool) (xs : List A) → list_all p xs ≡ true → Each (λ x. p x ≡ true) xs
passing-each p [] h = tt
passing-each p (x ∷ xs) h = ((both (p x) (list_all p xs) h).0, passing-each p xs ((both (p x) (list_all p xs) h).1))

several-from : {A : Type 0} (w : A → List Word) (May : A → Type 0) (a : A) (others : List A) → Each May (a ∷ others)
    → Several w May (between_commas w (a ∷ others)) (a ∷ others)
several-from w May a [] h = one a h.0
several-from w May a (b ∷ others) h = one_more a (between_commas w (b ∷ others)) (b ∷ others) h.0 (several-from w May b others h.1)

any-from : {A : Type 0} (w : A → List Word) (May : A → Type 0) (xs : List A) → Each May xs → Any w May (between_commas w xs) xs
any-from w May [] h = none
any-from w May (x ∷ xs) h = some (between_commas w (x ∷ xs)) (x ∷ xs) (several-from w May x xs h)

always-any : {A : Type 0} (w : A → List Word) (xs : List A) → Any w Always (between_commas w xs) xs
always-any w xs = any-from w Always xs (always-each xs)

-- ---- items that may be more or less
optional-gives : (vs : List (List ℕ)) → HasAtMostOne vs → Gives item.OptionalOperand (behind_commas value vs) vs
optional-gives [] h = no_operand
optional-gives (v ∷ []) h = operand_more v
optional-gives (v ∷ u ∷ us) h = absurd (let e : u ∷ us ≡ [] = h in cc)

operands-give : (vs : List (List ℕ)) → HasFirst vs → Gives item.Operands (between_commas (single value) vs) vs
operands-give [] h = absurd h
operands-give (v ∷ vs) h = operands (between_commas (single value) (v ∷ vs)) (v ∷ vs) (several-from (single value) Always v vs (always-each (v ∷ vs)))

typed-gives : (vs : List (List ℕ)) (ts : List TypeText) → AreTypes vs ts → list_all (λ (t : TypeText). is_wanted wanted.Any (out-TypeText t)) ts ≡ true
    → Gives item.TypedOperands (typed_words vs ts) (vs, ts)
typed-gives [] [] h all = no_typed
typed-gives [] (t ∷ ts) h all = absurd (let e : t ∷ ts ≡ [] = h in cc)
typed-gives (v ∷ vs) [] h all = absurd h
typed-gives (v ∷ vs) (t ∷ ts) h all =
    typed (between_commas (single value) (v ∷ vs)) (between_commas (single of_type) (t ∷ ts)) (v ∷ vs) (t ∷ ts)
    (several-from (single value) Always v vs (always-each (v ∷ vs)))
    (several-from (single of_type) (IsWanted wanted.Any) t ts (passing-each (λ (u : TypeText). is_wanted wanted.Any (out-TypeText u)) (t ∷ ts) all))

choice-gives : (c : Option TypeText) (t : TypeText) → IsCondition c → IsWanted wanted.Any t → Gives item.ChoiceTypes (choice_words c t) (c, t)
choice-gives None t h i = chosen_alone t i
choice-gives (Some c) t h i = chosen_by c t h i

overflow-gives : (flags : List (List ℕ)) → list_all is_flag flags ≡ true → Gives item.Overflow (overflow_words flags) flags
overflow-gives [] h = no_overflow
overflow-gives (flag ∷ flags) h =
    overflow (between_commas (single plain) (flag ∷ flags)) (flag ∷ flags) (several-from (single plain) IsFlag flag flags (passing-each is_flag (flag ∷ flags) h))

marks-give : (es : List Named) → Gives item.Marks (mark_words es) es
marks-give [] = no_marks
marks-give (e ∷ es) = marks (e ∷ es)

constant-gives : (c : Constant) → IsTypeOf (constant_type c) → Gives item.Constant (constant_words c) c
constant-gives (of_number z t) h = number_constant z t h
constant-gives (of_elements e t) h = dense_constant e t h
constant-gives (truth true) h = true_alone
constant-gives (truth false) h = false_alone

operands-of : (vs ss : List (List ℕ)) → MapOperands (operand_words vs ss) (vs ++ ss)
operands-of vs [] = subst (MapOperands (in_round (between_commas (single value) vs))) (sym (append-nil vs)) (dimensions (between_commas (single value) vs) vs (always-any (single value) vs))
operands-of vs (s ∷ ss) =
    with_symbols (between_commas (single value) vs) (between_commas (single value) (s ∷ ss)) vs (s ∷ ss) (always-any (single value) vs) (always-any (single value) (s ∷ ss))

all-operands : (d : ℕ) (vs : List (List ℕ)) → MapOperands (operand_words (take d vs) (drop d vs)) vs
all-operands d vs = subst (MapOperands (operand_words (take d vs) (drop d vs))) (take-append-drop d vs) (operands-of (take d vs) (drop d vs))

-- ---- bounds
-- a word that stands for a whole bound is one that a bound may be
module _ (choice : List ℕ) where
  map-of : List (List ℕ) → List (List ℕ) → List ExprText → Applied
  map-of dims syms rs = written_map (record { dims = dims; syms = syms; results = rs })

  lone-value : (s name v : List ℕ) (first second : Bool) → bytes_eq s (codes "s0") ≡ first → bytes_eq name (codes "s0") ≡ second → (w : Word)
      → (if first && second then Some (value v) else None) ≡ Some w → Bounds choice (w ∷ []) (map-of [] (s ∷ []) (expr.Name name ∷ []), v ∷ [])
  unfolding map-of
  lone-value s name v true true e f w h =
      let is : value v ≡ w = cc in
      subst (λ (u : Word). Bounds choice (u ∷ []) (map-of [] (s ∷ []) (expr.Name name ∷ []), v ∷ [])) is
      (subst (λ (t : List ℕ). Bounds choice (value v ∷ []) (map-of [] (t ∷ []) (expr.Name name ∷ []), v ∷ [])) (sym ((bytes_eq-Decides s (codes "s0")).0 e))
      (subst (λ (t : List ℕ). Bounds choice (value v ∷ []) (map-of [] (codes "s0" ∷ []) (expr.Name t ∷ []), v ∷ [])) (sym ((bytes_eq-Decides name (codes "s0")).0 f))
      (by_value v)))
  lone-value s name v true false e f w h = cc
  lone-value s name v false second e f w h = cc

  lone-bound : (dims syms : List (List ℕ)) (rs : List ExprText) (vs : List (List ℕ)) (w : Word) → alone dims syms rs vs ≡ Some w
      → Bounds choice (w ∷ []) (map-of dims syms rs, vs)
  unfolding map-of
  lone-bound [] [] (Const z ∷ []) [] w h =
      let is : number z ≡ w = cc in subst (λ (u : Word). Bounds choice (u ∷ []) (map-of [] [] (expr.Const z ∷ []), [])) is (by_number z)
  lone-bound [] (s ∷ []) (Name name ∷ []) (v ∷ []) w h =
      lone-value s name v (bytes_eq s (codes "s0")) (bytes_eq name (codes "s0")) refl refl w h
  lone-bound _ _ _ _ w h = cc

  or-words : (o : Option Word) (ws : List Word) (v : Applied × List (List ℕ)) → ((w : Word) → o ≡ Some w → Bounds choice (w ∷ []) v) → Bounds choice ws v
      → Bounds choice (or_else o ws) v
  or-words (Some w) ws v f d = f w refl
  or-words None ws v f d = d

  chosen-words : (rs : List ExprText) (a : Applied) (vs : List (List ℕ)) → is_map a ≡ true
      → Bounds choice (choice_of choice rs ++ applied_words a vs) (a, vs)
  chosen-words (e ∷ []) a vs h = by_map a _ vs h (all-operands (dimensions_of a (length vs)) vs)
  chosen-words [] a vs h = by_choice a _ vs h (all-operands (dimensions_of a (length vs)) vs)
  chosen-words (e ∷ f ∷ es) a vs h = by_choice a _ vs h (all-operands (dimensions_of a (length vs)) vs)

  bound-gives : (a : Applied) (vs : List (List ℕ)) → is_map a ≡ true → Bounds choice (bound_words choice a vs) (a, vs)
  unfolding map-of
  bound-gives (written_map m) vs h =
      or-words (alone m.dims m.syms m.results vs) _ (written_map m, vs) (λ w e. lone-bound m.dims m.syms m.results vs w e)
      (chosen-words m.results (written_map m) vs h)
  bound-gives (written_set s) vs h = cc
  bound-gives (alias name) vs h = by_map (alias name) _ vs h (all-operands (dimensions_of (alias name) (length vs)) vs)

-- ---- steps, carried values, results and regions
step-gives : (s : ℕ) → Gives item.Step (step_words s) s
step-gives zero = step zero
step-gives (suc zero) = no_step
step-gives (suc (suc s)) = step (suc (suc s))

carried-each : (cs : List Carrying) → AreWanted (types_of cs) → Each HasType cs
carried-each [] h = tt
carried-each (c ∷ cs) h =
    let split = both (is_wanted wanted.Any (out-TypeText c.0.ty)) (list_all (λ (t : TypeText). is_wanted wanted.Any (out-TypeText t)) (types_of cs)) h in
    (split.0, carried-each cs split.1)

carried-gives : (cs : List Carrying) → AreWanted (types_of cs) → Gives item.Carried (iter_words cs) cs
carried-gives [] h = no_carried
carried-gives (c ∷ cs) h =
    carried (between_commas carrying_words (c ∷ cs)) (between_commas carried_type (c ∷ cs)) (c ∷ cs)
    (always-any carrying_words (c ∷ cs)) (any-from carried_type HasType (c ∷ cs) (carried-each (c ∷ cs) h))

wanted-each : (ts : List TypeText) → AreWanted ts → Each (IsWanted wanted.Any) ts
wanted-each ts h = passing-each (λ (t : TypeText). is_wanted wanted.Any (out-TypeText t)) ts h

results-give : (ts : List TypeText) → AreWanted ts → Gives item.ResultTypes (result_words ts) ts
results-give [] h = no_results
results-give (t ∷ []) h = one_result t ((wanted-each (t ∷ []) h).0)
results-give (t ∷ u ∷ ts) h =
    results (between_commas (single of_type) (t ∷ u ∷ ts)) (t ∷ u ∷ ts) (any-from (single of_type) (IsWanted wanted.Any) (t ∷ u ∷ ts) (wanted-each (t ∷ u ∷ ts) h))

else-gives : (nodes : List Node) → Gives item.Else (else_words nodes) nodes
else-gives [] = no_else
else-gives (node ∷ nodes) = an_else (node ∷ nodes)

-- ---- subscripts
subscript-each : (m : MapText) (values : List (List ℕ)) (es : List ExprText) → Each IsSubscript (map (with_leaves (leaf_in m values)) es)
subscript-each m values [] = tt
subscript-each m values (e ∷ es) = (subscript-is m values e, subscript-each m values es)

-- ---- each item
pub gives : (i : Item) (k : ℕ) (n : Line) → Fits i k n → Gives i (spell i (taken i k n)) (taken i k n)
gives (item.Operand t) k n h = operand t (first_text n.operands)
gives item.OptionalOperand k n h = optional-gives (front k n.operands) h
gives item.Operands k n h = operands-give (front k n.operands) h
gives item.TypedOperands k n h = typed-gives (front k n.operands) (known n.in_types) h.1 h.2
gives item.Element k n h =
    element (first_text n.operands) (between_commas (single value) (front k (drop 1 n.operands))) (front k (drop 1 n.operands))
    (always-any (single value) (front k (drop 1 n.operands)))
gives (item.Type w s) k n h = a_type w s (type_at s n) h.0
gives item.ChoiceTypes k n h = choice-gives (condition_type n.in_types) (type_at chosen n) h.0 h.1
gives (item.Word key) k n h = a_word key (first_word n.properties) h.0
gives (item.Angled key) k n h = angled key (first_word n.properties) h.0
gives (item.Numbers key) k n h =
    numbers key (between_commas (single number) (first_numbers n.properties)) (first_numbers n.properties) (always-any (single number) (first_numbers n.properties))
gives item.Overflow k n h = overflow-gives (first_flags n.properties) h.0
gives item.Marks k n h = marks-give n.attrs
gives item.Constant k n h = constant-gives (first_constant n.properties) h.0
gives item.Map k n h =
    map_applied (first_applied n.properties) _ (front k n.operands) h.0
    (all-operands (dimensions_of (first_applied n.properties) (length (front k n.operands))) (front k n.operands))
gives item.Set k n h =
    set_applied (first_applied n.properties) _ (front k n.operands) h.0
    (all-operands (dimensions_of (first_applied n.properties) (length (front k n.operands))) (front k n.operands))
gives item.Access k n h =
    let s = subscripts_of (map_in (first_applied n.properties)) (front k (drop 1 n.operands)) in
    access (first_text n.operands) (between_commas (single subscript) s) s
    (any-from (single subscript) IsSubscript s (subscript-each (map_in (first_applied n.properties)) (front k (drop 1 n.operands)) (map_in (first_applied n.properties)).results))
gives item.Counter k n h = counter (first_name (args_in n.regions))
gives item.LowerBound k n h = lower_bound _ (bound_taken n) (bound-gives (codes "max") (bound_taken n).0 (bound_taken n).1 h.0)
gives item.UpperBound k n h = upper_bound _ (bound_taken n) (bound-gives (codes "min") (bound_taken n).0 (bound_taken n).1 h.0)
gives item.Step k n h = step-gives (first_step n.properties)
gives item.Carried k n h = carried-gives (paired (args_in n.regions) (front k n.operands)) h.1
gives item.ResultTypes k n h = results-give (known n.out_types) h.1
gives item.Region k n h = a_region (written_in (end_of n.name) (nodes_in n.regions))
gives item.Else k n h = else-gives (written_in (end_of n.name) (nodes_in n.regions))
gives item.ByHand k n h = absurd h
