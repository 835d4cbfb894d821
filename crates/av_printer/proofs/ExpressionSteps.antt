-- The spelling of each kind of expression, and of names and values.
use Rattle.std.proofs.Common.{◌≡◌, ℕ, zero, suc, ◌+◌, ◌<◌, ◌≤◌, ℤ, pos, negsuc, Bool, true, false, cond, eqb, List, [], ◌∷◌, ◌++◌, length, get_or, drop, map, slice_get, Option, Some, None, refl, sym, ap, ◌∙◌, codes, decimal, arith}
use Rattle.std.specs.Fmt.{signed_decimal}
use Rattle.std.proofs.lemmas.List.{drop_all}
use Rattle.std.proofs.lemmas.Option.{slice_get_past}
use Rattle.av_lex.specs.declared.token.Kind.TheVariants as kinds
use Rattle.av_lex.specs.declared.token.Sign.TheVariants.{Colon, Plus, Minus, Star}
use Rattle.av_tree.specs.declared.written.ExprText.{ExprText, Name, Const, Neg, Add, Sub, Mul, Mod, Floor, Ceil, fold-ExprText, fold-roll-ExprText, out-roll-ExprText}
use Rattle.av_tree.specs.declared.written.ExprText.TheVariants.{rolls-Name, rolls-Const, rolls-Neg, rolls-Add, rolls-Sub, rolls-Mul, rolls-Mod, rolls-Floor, rolls-Ceil}
use Rattle.av_tree.specs.declared.written.ExprText.TheOpen as open_expr
use Rattle.av_tree.specs.declared.written.MapText.{MapText}
use Rattle.av_printer.specs.Pieces.{Piece, spelt, token, sign, plain, commas, behind, comma, in_round, in_square}
use Rattle.av_printer.specs.Expressions.{number, before, from, which, how_many, value, result_name, square_if_any, same, placed, leaf_of, leaf, Part, side, sum, product, part_step, part_of, lone_symbol, first_value, map_use, constant_bound, named_bound, single_bound_of, single_bound, several_bound, bound_by}
use Rattle.av_printer.proofs.Steps.{spelt-append, spelt-token, spelt-sign, spelt-none}

-- ---- numbers and names
pub spelt-number : (z : ℤ) → spelt (number z) ≡ signed_decimal z
unfolding number
spelt-number (pos n) = spelt-token kinds.Number (decimal n)
spelt-number (negsuc n) =
    spelt-append (sign Minus) (token kinds.Number (decimal (suc n)))
    ∙ ap (λ t. t ++ spelt (token kinds.Number (decimal (suc n)))) (spelt-sign Minus)
    ∙ ap (λ t. 45 ∷ t) (spelt-token kinds.Number (decimal (suc n)))

split-at : (mark : ℕ) (text : List ℕ) → before mark text ++ from mark text ≡ text
unfolding before from
split-at mark [] = refl
split-at mark (c ∷ cs) =
    elim (eqb c mark) as (λ b. (cond b [] (c ∷ before mark cs)) ++ (cond b (c ∷ cs) (from mark cs)) ≡ c ∷ cs)
    [ true ↦ refl | false ↦ ap (λ t. c ∷ t) (split-at mark cs) ]

spelt-which : (text : List ℕ) → spelt (which text) ≡ text
unfolding which
spelt-which [] = spelt-none
spelt-which (c ∷ cs) = spelt-token kinds.HashId (c ∷ cs)

spelt-how_many : (c : ℕ) (cs : List ℕ) → spelt (how_many (c ∷ cs)) ≡ c ∷ cs
unfolding how_many
spelt-how_many c cs = spelt-append (token (kinds.Sign Colon) (c ∷ [])) (token kinds.Number cs)
    ∙ ap (λ t. t ++ spelt (token kinds.Number cs)) (spelt-token (kinds.Sign Colon) (c ∷ []))
    ∙ ap (λ t. c ∷ t) (spelt-token kinds.Number cs)

spelt-counted : (text : List ℕ) → spelt (how_many text) ≡ text
unfolding how_many
spelt-counted [] = spelt-none
spelt-counted (c ∷ cs) = spelt-how_many c cs

pub spelt-value : (text : List ℕ) → spelt (value text) ≡ text
spelt-value text =
    spelt-append (token kinds.ValId (before 35 text)) (which (from 35 text))
    ∙ ap (λ t. t ++ spelt (which (from 35 text))) (spelt-token kinds.ValId (before 35 text))
    ∙ ap (λ t. before 35 text ++ t) (spelt-which (from 35 text))
    ∙ split-at 35 text

pub spelt-result : (text : List ℕ) → spelt (result_name text) ≡ text
spelt-result text =
    spelt-append (token kinds.ValId (before 58 text)) (how_many (from 58 text))
    ∙ ap (λ t. t ++ spelt (how_many (from 58 text))) (spelt-token kinds.ValId (before 58 text))
    ∙ ap (λ t. before 58 text ++ t) (spelt-counted (from 58 text))
    ∙ split-at 58 text

-- ---- lists of names, by their bytes alone
module _ (f g : List ℕ → List Piece) (same_bytes : (t : List ℕ) → spelt (f t) ≡ spelt (g t)) where
  behind-alike : (ts : List (List ℕ)) → spelt (behind (map f ts)) ≡ spelt (behind (map g ts))
  unfolding behind
  behind-alike [] = refl
  behind-alike (t ∷ ts) =
      spelt-append (comma ++ f t) (behind (map f ts))
      ∙ ap (λ s. s ++ spelt (behind (map f ts))) (spelt-append comma (f t) ∙ ap (λ s. spelt comma ++ s) (same_bytes t) ∙ sym (spelt-append comma (g t)))
      ∙ ap (λ s. spelt (comma ++ g t) ++ s) (behind-alike ts)
      ∙ sym (spelt-append (comma ++ g t) (behind (map g ts)))

  pub commas-alike : (ts : List (List ℕ)) → spelt (commas (map f ts)) ≡ spelt (commas (map g ts))
  unfolding commas behind
  commas-alike [] = refl
  commas-alike (t ∷ ts) =
      spelt-append (f t) (behind (map f ts))
      ∙ ap (λ s. s ++ spelt (behind (map f ts))) (same_bytes t)
      ∙ ap (λ s. spelt (g t) ++ s) (behind-alike ts)
      ∙ sym (spelt-append (g t) (behind (map g ts)))

pub commas-values : (ts : List (List ℕ)) → spelt (commas (map value ts)) ≡ spelt (commas (map plain ts))
commas-values = commas-alike value plain (λ t. spelt-value t ∙ sym (spelt-token kinds.Word t))

pub commas-results : (ts : List (List ℕ)) → spelt (commas (map result_name ts)) ≡ spelt (commas (map plain ts))
commas-results = commas-alike result_name plain (λ t. spelt-result t ∙ sym (spelt-token kinds.Word t))

pub square-none : {A : Type 0} (f : A → List Piece) (xs : List A) → length xs ≡ 0 → square_if_any (map f xs) ≡ []
unfolding square_if_any
square-none f [] e = refl
square-none f (x ∷ xs) e = absurd (omega arith)

pub square-some : {A : Type 0} (f : A → List Piece) (xs : List A) → 0 < length xs → square_if_any (map f xs) ≡ in_square (commas (map f xs))
unfolding square_if_any
square-some f [] h = absurd (omega arith)
square-some f (x ∷ xs) h = refl

pub square-values : (ts : List (List ℕ)) → spelt (square_if_any (map value ts)) ≡ spelt (square_if_any (map plain ts))
unfolding square_if_any
square-values [] = refl
square-values (t ∷ ts) = grind (arith, spelt-append, commas-values (t ∷ ts))

-- ---- names in expressions
pub leaf-dim : (v name : List ℕ) (other : Option (List ℕ)) → spelt (leaf_of (Some v) other name) ≡ v
unfolding leaf_of
leaf-dim v name other = spelt-value v

pub leaf-sym : (v name : List ℕ) → leaf_of None (Some v) name ≡ plain (codes "symbol") ++ in_round (value v)
unfolding leaf_of
leaf-sym v name = refl

pub leaf-name : (name : List ℕ) → leaf_of None None name ≡ plain name
unfolding leaf_of
leaf-name name = refl

pub first-none : (vs : List (List ℕ)) → length vs ≡ 0 → spelt (first_value vs) ≡ []
unfolding first_value
first-none [] e = spelt-none
first-none (v ∷ vs) e = absurd (omega arith)

pub first-some : (vs : List (List ℕ)) (v : List ℕ) → 1 ≤ length vs → v ≡ get_or vs 0 v → spelt (first_value vs) ≡ v
unfolding first_value
first-some [] v h e = absurd (omega arith)
first-some (w ∷ vs) v h e = spelt-value w ∙ sym e

-- ---- expressions
pub of-name : (f : List ℕ → List Piece) (name : List ℕ) → part_of f (Name name) ≡ record { strength = 4; pieces = f name }
unfolding part_of
of-name f name =
    ap (fold-ExprText Part (part_step f)) (sym (rolls-Name name)) ∙ fold-roll-ExprText Part (part_step f) (open_expr.Name name)

pub of-const : (f : List ℕ → List Piece) (c : ℤ) → part_of f (Const c) ≡ record { strength = 3; pieces = number c }
unfolding part_of
of-const f c =
    ap (fold-ExprText Part (part_step f)) (sym (rolls-Const c)) ∙ fold-roll-ExprText Part (part_step f) (open_expr.Const c)

pub of-neg : (f : List ℕ → List Piece) (a : ExprText) → part_of f (Neg a) ≡ record { strength = 3; pieces = sign Minus ++ side 4 (part_of f a) }
unfolding part_of
of-neg f a =
    ap (fold-ExprText Part (part_step f)) (sym (rolls-Neg a)) ∙ fold-roll-ExprText Part (part_step f) (open_expr.Neg a)

pub of-add : (f : List ℕ → List Piece) (a b : ExprText) → part_of f (Add a b) ≡ sum (sign Plus) (part_of f a) (part_of f b)
unfolding part_of
of-add f a b =
    ap (fold-ExprText Part (part_step f)) (sym (rolls-Add a b)) ∙ fold-roll-ExprText Part (part_step f) (open_expr.Add a b)

pub of-sub : (f : List ℕ → List Piece) (a b : ExprText) → part_of f (Sub a b) ≡ sum (sign Minus) (part_of f a) (part_of f b)
unfolding part_of
of-sub f a b =
    ap (fold-ExprText Part (part_step f)) (sym (rolls-Sub a b)) ∙ fold-roll-ExprText Part (part_step f) (open_expr.Sub a b)

pub of-mul : (f : List ℕ → List Piece) (a b : ExprText) → part_of f (Mul a b) ≡ product (sign Star) (part_of f a) (part_of f b)
unfolding part_of
of-mul f a b =
    ap (fold-ExprText Part (part_step f)) (sym (rolls-Mul a b)) ∙ fold-roll-ExprText Part (part_step f) (open_expr.Mul a b)

pub of-mod : (f : List ℕ → List Piece) (a b : ExprText) → part_of f (Mod a b) ≡ product (plain (codes "mod")) (part_of f a) (part_of f b)
unfolding part_of
of-mod f a b =
    ap (fold-ExprText Part (part_step f)) (sym (rolls-Mod a b)) ∙ fold-roll-ExprText Part (part_step f) (open_expr.Mod a b)

pub of-floor : (f : List ℕ → List Piece) (a b : ExprText) → part_of f (Floor a b) ≡ product (plain (codes "floordiv")) (part_of f a) (part_of f b)
unfolding part_of
of-floor f a b =
    ap (fold-ExprText Part (part_step f)) (sym (rolls-Floor a b)) ∙ fold-roll-ExprText Part (part_step f) (open_expr.Floor a b)

pub of-ceil : (f : List ℕ → List Piece) (a b : ExprText) → part_of f (Ceil a b) ≡ product (plain (codes "ceildiv")) (part_of f a) (part_of f b)
unfolding part_of
of-ceil f a b =
    ap (fold-ExprText Part (part_step f)) (sym (rolls-Ceil a b)) ∙ fold-roll-ExprText Part (part_step f) (open_expr.Ceil a b)

-- ---- places of names
placed-none : (ps : List (List ℕ)) (name : List ℕ) → placed ps [] name ≡ None
unfolding placed
placed-none [] name = refl
placed-none (p ∷ ps) name = refl

pub placed-found : (ps vs : List (List ℕ)) (name p : List ℕ) (i : ℕ) → i < length ps → p ≡ get_or ps i p → true ≡ same p name
    → placed (drop i ps) (drop i vs) name ≡ slice_get vs i
unfolding placed
placed-found [] vs name p i h e q = absurd (omega arith)
placed-found (x ∷ ps) [] name p zero h e q = refl
placed-found (x ∷ ps) (v ∷ vs) name p zero h e q =
    ap (λ b. cond b (Some v) (placed ps vs name)) (sym (q ∙ ap (λ y. same y name) e))
placed-found (x ∷ ps) [] name p (suc i) h e q = placed-none (drop i ps) name
placed-found (x ∷ ps) (v ∷ vs) name p (suc i) h e q = placed-found ps vs name p i (omega arith) e q

slice-at : {A : Type 0} (vs : List A) (i : ℕ) (v : A) → i < length vs → v ≡ get_or vs i v → slice_get vs i ≡ Some v
slice-at [] i v h e = absurd (omega arith)
slice-at (x ∷ vs) zero v h e = ap (λ y. Some y) (sym e)
slice-at (x ∷ vs) (suc i) v h e = slice-at vs i v (omega arith) e

pub placed-some : (ps vs : List (List ℕ)) (name p v : List ℕ) (i : ℕ) → i < length ps → p ≡ get_or ps i p → true ≡ same p name
    → i < length vs → v ≡ get_or vs i v → placed (drop i ps) (drop i vs) name ≡ Some v
placed-some ps vs name p v i h e q k f = placed-found ps vs name p i h e q ∙ slice-at vs i v k f

pub placed-past : (ps vs : List (List ℕ)) (name p : List ℕ) (i : ℕ) → i < length ps → p ≡ get_or ps i p → true ≡ same p name
    → length vs ≤ i → placed (drop i ps) (drop i vs) name ≡ None
placed-past ps vs name p i h e q k = placed-found ps vs name p i h e q ∙ slice_get_past vs i k

placed-next : (ps vs : List (List ℕ)) (name p : List ℕ) (i : ℕ) → i < length ps → p ≡ get_or ps i p → false ≡ same p name
    → placed (drop i ps) (drop i vs) name ≡ placed (drop (suc i) ps) (drop (suc i) vs) name
unfolding placed
placed-next [] vs name p i h e q = absurd (omega arith)
placed-next (x ∷ ps) [] name p zero h e q = sym (placed-none ps name)
placed-next (x ∷ ps) (v ∷ vs) name p zero h e q =
    ap (λ b. cond b (Some v) (placed ps vs name)) (sym (q ∙ ap (λ y. same y name) e))
placed-next (x ∷ ps) [] name p (suc i) h e q = placed-none (drop i ps) name ∙ sym (placed-none (drop (suc i) ps) name)
placed-next (x ∷ ps) (v ∷ vs) name p (suc i) h e q = placed-next ps vs name p i (omega arith) e q

one_more : (i : ℕ) → i + 1 ≡ suc i
one_more i = omega arith

pub placed-on : (ps vs : List (List ℕ)) (name p : List ℕ) (i : ℕ) → i < length ps → p ≡ get_or ps i p → false ≡ same p name
    → placed (drop (i + 1) ps) (drop (i + 1) vs) name ≡ placed (drop i ps) (drop i vs) name
placed-on ps vs name p i h e q =
    ap (λ n. placed (drop n ps) (drop n vs) name) (one_more i) ∙ sym (placed-next ps vs name p i h e q)

pub placed-end : (ps vs : List (List ℕ)) (name : List ℕ) (i : ℕ) → length ps ≤ i → placed (drop i ps) (drop i vs) name ≡ None
unfolding placed
placed-end ps vs name i h = ap (λ rest. placed rest (drop i vs) name) (drop_all i ps h)

-- ---- bounds
pub lone-one : (ds ss : List (List ℕ)) (name s : List ℕ) → length ds ≡ 0 → 1 ≤ length ss → length ss < 2 → s ≡ get_or ss 0 s
    → lone_symbol ds ss name ≡ same s name
unfolding lone_symbol
lone-one (d ∷ ds) ss name s h low high e = absurd (omega arith)
lone-one [] [] name s h low high e = absurd (omega arith)
lone-one [] (x ∷ []) name s h low high e = ap (λ y. same y name) (sym e)
lone-one [] (x ∷ y ∷ ss) name s h low high e = absurd (omega arith)

pub lone-dims : (ds ss : List (List ℕ)) (name : List ℕ) → 0 < length ds → lone_symbol ds ss name ≡ false
unfolding lone_symbol
lone-dims [] ss name h = absurd (omega arith)
lone-dims (d ∷ ds) ss name h = refl

pub lone-none : (ds ss : List (List ℕ)) (name : List ℕ) → length ss < 1 → lone_symbol ds ss name ≡ false
unfolding lone_symbol
lone-none (d ∷ ds) ss name h = refl
lone-none [] [] name h = refl
lone-none [] (x ∷ ss) name h = absurd (omega arith)

pub lone-many : (ds ss : List (List ℕ)) (name : List ℕ) → 2 ≤ length ss → lone_symbol ds ss name ≡ false
unfolding lone_symbol
lone-many (d ∷ ds) ss name h = refl
lone-many [] [] name h = refl
lone-many [] (x ∷ []) name h = absurd (omega arith)
lone-many [] (x ∷ y ∷ ss) name h = refl

pub bound-one : (lower : Bool) (m : MapText) (operands : List (List ℕ)) (es : List ExprText) (e : ExprText) → 1 ≤ length es → length es < 2 → e ≡ get_or es 0 e
    → bound_by lower m operands es ≡ single_bound m operands e
unfolding bound_by
bound-one lower m operands [] e low high q = absurd (omega arith)
bound-one lower m operands (x ∷ []) e low high q = ap (single_bound m operands) (sym q)
bound-one lower m operands (x ∷ y ∷ es) e low high q = absurd (omega arith)

pub bound-none : (lower : Bool) (m : MapText) (operands : List (List ℕ)) (es : List ExprText) → length es < 1
    → bound_by lower m operands es ≡ several_bound lower m operands
unfolding bound_by
bound-none lower m operands [] high = refl
bound-none lower m operands (x ∷ es) high = absurd (omega arith)

pub bound-many : (lower : Bool) (m : MapText) (operands : List (List ℕ)) (es : List ExprText) → 2 ≤ length es
    → bound_by lower m operands es ≡ several_bound lower m operands
unfolding bound_by
bound-many lower m operands [] low = absurd (omega arith)
bound-many lower m operands (x ∷ []) low = absurd (omega arith)
bound-many lower m operands (x ∷ y ∷ es) low = refl

pub single-name : (m : MapText) (operands : List (List ℕ)) (name : List ℕ) → single_bound m operands (Name name) ≡ named_bound m operands name
unfolding single_bound
single-name m operands name =
    ap (single_bound m operands) (sym (rolls-Name name)) ∙ ap (single_bound_of m operands) (out-roll-ExprText (open_expr.Name name))

pub single-const : (m : MapText) (operands : List (List ℕ)) (c : ℤ) → single_bound m operands (Const c) ≡ constant_bound m operands c
unfolding single_bound
single-const m operands c =
    ap (single_bound m operands) (sym (rolls-Const c)) ∙ ap (single_bound_of m operands) (out-roll-ExprText (open_expr.Const c))

pub single-neg : (m : MapText) (operands : List (List ℕ)) (a : ExprText) → single_bound m operands (Neg a) ≡ map_use m operands
unfolding single_bound
single-neg m operands a =
    ap (single_bound m operands) (sym (rolls-Neg a)) ∙ ap (single_bound_of m operands) (out-roll-ExprText (open_expr.Neg a))

pub single-add : (m : MapText) (operands : List (List ℕ)) (a b : ExprText) → single_bound m operands (Add a b) ≡ map_use m operands
unfolding single_bound
single-add m operands a b =
    ap (single_bound m operands) (sym (rolls-Add a b)) ∙ ap (single_bound_of m operands) (out-roll-ExprText (open_expr.Add a b))

pub single-sub : (m : MapText) (operands : List (List ℕ)) (a b : ExprText) → single_bound m operands (Sub a b) ≡ map_use m operands
unfolding single_bound
single-sub m operands a b =
    ap (single_bound m operands) (sym (rolls-Sub a b)) ∙ ap (single_bound_of m operands) (out-roll-ExprText (open_expr.Sub a b))

pub single-mul : (m : MapText) (operands : List (List ℕ)) (a b : ExprText) → single_bound m operands (Mul a b) ≡ map_use m operands
unfolding single_bound
single-mul m operands a b =
    ap (single_bound m operands) (sym (rolls-Mul a b)) ∙ ap (single_bound_of m operands) (out-roll-ExprText (open_expr.Mul a b))

pub single-mod : (m : MapText) (operands : List (List ℕ)) (a b : ExprText) → single_bound m operands (Mod a b) ≡ map_use m operands
unfolding single_bound
single-mod m operands a b =
    ap (single_bound m operands) (sym (rolls-Mod a b)) ∙ ap (single_bound_of m operands) (out-roll-ExprText (open_expr.Mod a b))

pub single-floor : (m : MapText) (operands : List (List ℕ)) (a b : ExprText) → single_bound m operands (Floor a b) ≡ map_use m operands
unfolding single_bound
single-floor m operands a b =
    ap (single_bound m operands) (sym (rolls-Floor a b)) ∙ ap (single_bound_of m operands) (out-roll-ExprText (open_expr.Floor a b))

pub single-ceil : (m : MapText) (operands : List (List ℕ)) (a b : ExprText) → single_bound m operands (Ceil a b) ≡ map_use m operands
unfolding single_bound
single-ceil m operands a b =
    ap (single_bound m operands) (sym (rolls-Ceil a b)) ∙ ap (single_bound_of m operands) (out-roll-ExprText (open_expr.Ceil a b))

pub ruleset expression_steps = (spelt-number, of-name, of-const, of-neg, of-add, of-sub, of-mul, of-mod, of-floor, of-ceil, square-none, square-some)

pub ruleset leaf_steps = (spelt-value, leaf-dim, leaf-sym, leaf-name, first-none, first-some, commas-values, square-values)

pub ruleset lone_steps = (lone-one, lone-dims, lone-none, lone-many)

pub ruleset bound_steps = (bound-one, bound-none, bound-many, single-name, single-const, single-neg, single-add, single-sub, single-mul, single-mod, single-floor, single-ceil)

pub ruleset placed_steps = (placed-some, placed-past, placed-on, placed-end)

-- names that stay as they are
pub own-names : (dims dim_values syms sym_values : List (List ℕ)) → dims ≡ [] → syms ≡ [] → leaf dims dim_values syms sym_values ≡ plain
unfolding placed leaf_of
own-names dims dim_values syms sym_values d s =
    ap (λ ds. leaf ds dim_values syms sym_values) d ∙ ap (λ ss. leaf [] dim_values ss sym_values) s

pub ruleset result_steps = (spelt-result, commas-results)
