-- The map of an access has the values of its subscripts.
use Rattle.std.proofs.Common.{◌≡◌, ℕ, suc, List, [], ◌∷◌, ◌++◌, length, map, reverse, add-one, refl, sym, ap, ◌∙◌}
use Rattle.std.proofs.lemmas.List.{map-append, length-append, reverse-append, reverse-reverse}
use Rattle.std.specs.Prelude.{ℤ, neg_ℤ, ◌+ℤ◌, ◌-ℤ◌, ◌*ℤ◌, codes}
use Rattle.av_affine.specs.Values.{floor_quotient, ceil_quotient, remainder}
use Rattle.av_tree.specs.declared.written.ExprText.{ExprText, Name, Const, Neg', Add', Sub', Mul', Mod', Floor', Ceil', end_of-ExprText, more_of-ExprText}
use Rattle.av_tree.specs.declared.written.ExprText.TheVariants as expr
use Rattle.av_tree.specs.declared.written.ExprText.TheBlock.{shape-the_row-ExprText-0, hidden-the_row-ExprText-0}
use denote.Hole.Carrier.{hidden}
use Rattle.av_values.specs.declared.value.LeafKind.{LeafKind}
use Rattle.av_values.specs.declared.value.LeafKind.TheVariants.{Dimension, Symbol}
use Rattle.av_values.specs.declared.value.Expression.{Expression}
use Rattle.av_values.specs.declared.subscripts.Leaves.{Leaves}
use Rattle.av_values.specs.Accesses.{name_of, next_parameter, both, numbered, numbered_all, first_names, numbering_of, no_leaves, numbering}
use Rattle.av_values.specs.Meanings.{text_value, IsFaithful}

last_same : {A : Type 0} (xs ys : List A) (x y : A) → xs ++ x ∷ [] ≡ ys ++ y ∷ [] → (xs ≡ ys) × (x ≡ y)
last_same {A} xs ys x y h =
    let turned : x ∷ reverse xs ≡ y ∷ reverse ys = sym (reverse-append xs (x ∷ [])) ∙ ap reverse h ∙ reverse-append ys (y ∷ []) in
    let rest : reverse xs ≡ reverse ys = cc in
    let last : x ≡ y = cc in
    (sym (reverse-reverse xs) ∙ ap reverse rest ∙ reverse-reverse ys, last)

module _ (values parameters : List ℕ → ℤ) where
  -- the parameters of a letter have the values of their operands
  Stand : List ℕ → List (List ℕ) → Type 0
  Stand letter operands = map parameters (first_names letter (length operands)) ≡ map values operands

  one_stands : (letter : List ℕ) (operands : List (List ℕ)) (value : List ℕ) → Stand letter (operands ++ value ∷ [])
      → Stand letter operands × (parameters (name_of letter (length operands)) ≡ values value)
  unfolding Stand first_names
  one_stands letter operands value h =
      let longer : length (operands ++ value ∷ []) ≡ suc (length operands) = length-append operands (value ∷ []) ∙ add-one (length operands) in
      last_same (map parameters (first_names letter (length operands))) (map values operands) (parameters (name_of letter (length operands))) (values value)
      (sym (map-append parameters (first_names letter (length operands)) (name_of letter (length operands) ∷ []))
      ∙ sym (ap (λ n. map parameters (first_names letter n)) longer)
      ∙ h
      ∙ map-append values operands (value ∷ []))

  AllStand : Leaves → Type 0
  AllStand leaves = Stand (codes "d") leaves.dims × Stand (codes "s") leaves.syms

  -- what stood before stands, and the numbered expression has the value
  record Kept (before : Leaves) (made : ExprText × Leaves) (value : ℤ) : Type 0 where
    stood : AllStand made.1 → AllStand before
    same : AllStand made.1 → text_value parameters made.0 ≡ value

  value-Name : (name : List ℕ) → text_value parameters (expr.Name name) ≡ parameters name
  unfolding text_value shape-the_row-ExprText-0 hidden-the_row-ExprText-0 hidden
  value-Name name = refl

  value-Const : (z : ℤ) → text_value parameters (expr.Const z) ≡ z
  unfolding text_value shape-the_row-ExprText-0 hidden-the_row-ExprText-0 hidden
  value-Const z = refl

  value-Neg : (a : ExprText) → text_value parameters (expr.Neg a) ≡ neg_ℤ (text_value parameters a)
  unfolding text_value shape-the_row-ExprText-0 hidden-the_row-ExprText-0 hidden
  value-Neg a = refl

  name_kept : (kinds : List LeafKind) (value : List ℕ) (before : Leaves)
      → Kept before (let next = next_parameter kinds value before in (expr.Name next.0, next.1)) (values value)
  unfolding AllStand
  name_kept [] value before = record {
    stood = λ k. ((one_stands (codes "d") before.dims value k.0).0, k.1);
    same = λ k. value-Name (name_of (codes "d") (length before.dims)) ∙ (one_stands (codes "d") before.dims value k.0).1;
  }
  name_kept (Dimension ∷ kinds) value before = record {
    stood = λ k. ((one_stands (codes "d") before.dims value k.0).0, k.1);
    same = λ k. value-Name (name_of (codes "d") (length before.dims)) ∙ (one_stands (codes "d") before.dims value k.0).1;
  }
  name_kept (Symbol ∷ kinds) value before = record {
    stood = λ k. (k.0, (one_stands (codes "s") before.syms value k.1).0);
    same = λ k. value-Name (name_of (codes "s") (length before.syms)) ∙ (one_stands (codes "s") before.syms value k.1).1;
  }

  constant_kept : (z : ℤ) (before : Leaves) → Kept before (expr.Const z, before) z
  constant_kept z before = record { stood = λ k. k; same = λ k. value-Const z }

  negation_kept : (before : Leaves) (side : ExprText × Leaves) (x : ℤ) → Kept before side x → Kept before (expr.Neg side.0, side.1) (neg_ℤ x)
  negation_kept before side x a = record { stood = a.stood; same = λ k. value-Neg side.0 ∙ ap neg_ℤ (a.same k) }

  -- a calculation of two sides
  module _ (calculation : ExprText → ExprText → ExprText) (on : ℤ → ℤ → ℤ)
      (level : (c d : ExprText) → text_value parameters (calculation c d) ≡ on (text_value parameters c) (text_value parameters d)) where
    both_kept : (before : Leaves) (left : ExprText × Leaves) (right : Leaves → ExprText × Leaves) (x y : ℤ)
        → Kept before left x → Kept left.1 (right left.1) y → Kept before (both calculation left right) (on x y)
    both_kept before left right x y a b = record {
      stood = λ k. a.stood (b.stood k);
      same = λ k. level left.0 (right left.1).0 ∙ ap (λ u. on u (text_value parameters (right left.1).0)) (a.same (b.stood k)) ∙ ap (on x) (b.same k);
    }

  value-Add : (a b : ExprText) → text_value parameters (expr.Add a b) ≡ text_value parameters a +ℤ text_value parameters b
  unfolding text_value shape-the_row-ExprText-0 hidden-the_row-ExprText-0 hidden
  value-Add a b = refl

  value-Sub : (a b : ExprText) → text_value parameters (expr.Sub a b) ≡ text_value parameters a -ℤ text_value parameters b
  unfolding text_value shape-the_row-ExprText-0 hidden-the_row-ExprText-0 hidden
  value-Sub a b = refl

  value-Mul : (a b : ExprText) → text_value parameters (expr.Mul a b) ≡ text_value parameters a *ℤ text_value parameters b
  unfolding text_value shape-the_row-ExprText-0 hidden-the_row-ExprText-0 hidden
  value-Mul a b = refl

  value-Mod : (a b : ExprText) → text_value parameters (expr.Mod a b) ≡ remainder (text_value parameters a) (text_value parameters b)
  unfolding text_value shape-the_row-ExprText-0 hidden-the_row-ExprText-0 hidden
  value-Mod a b = refl

  value-Floor : (a b : ExprText) → text_value parameters (expr.Floor a b) ≡ floor_quotient (text_value parameters a) (text_value parameters b)
  unfolding text_value shape-the_row-ExprText-0 hidden-the_row-ExprText-0 hidden
  value-Floor a b = refl

  value-Ceil : (a b : ExprText) → text_value parameters (expr.Ceil a b) ≡ ceil_quotient (text_value parameters a) (text_value parameters b)
  unfolding text_value shape-the_row-ExprText-0 hidden-the_row-ExprText-0 hidden
  value-Ceil a b = refl

  kept : (source : ExprText) (before : Leaves) → Kept before (numbered source before) (text_value values source)
  unfolding numbered text_value
  kept (Name value) before = name_kept before.kinds value before
  kept (Const z) before = constant_kept z before
  kept (Neg' s (more_of-ExprText a end_of-ExprText)) before = negation_kept before (numbered a before) (text_value values a) (kept a before)
  kept (Add' s (more_of-ExprText a end_of-ExprText) t (more_of-ExprText b end_of-ExprText)) before =
      both_kept expr.Add (λ (x y : ℤ). x +ℤ y) value-Add before (numbered a before) (numbered b) (text_value values a) (text_value values b) (kept a before) (kept b (numbered a before).1)
  kept (Sub' s (more_of-ExprText a end_of-ExprText) t (more_of-ExprText b end_of-ExprText)) before =
      both_kept expr.Sub (λ (x y : ℤ). x -ℤ y) value-Sub before (numbered a before) (numbered b) (text_value values a) (text_value values b) (kept a before) (kept b (numbered a before).1)
  kept (Mul' s (more_of-ExprText a end_of-ExprText) t (more_of-ExprText b end_of-ExprText)) before =
      both_kept expr.Mul (λ (x y : ℤ). x *ℤ y) value-Mul before (numbered a before) (numbered b) (text_value values a) (text_value values b) (kept a before) (kept b (numbered a before).1)
  kept (Mod' s (more_of-ExprText a end_of-ExprText) t (more_of-ExprText b end_of-ExprText)) before =
      both_kept expr.Mod remainder value-Mod before (numbered a before) (numbered b) (text_value values a) (text_value values b) (kept a before) (kept b (numbered a before).1)
  kept (Floor' s (more_of-ExprText a end_of-ExprText) t (more_of-ExprText b end_of-ExprText)) before =
      both_kept expr.Floor floor_quotient value-Floor before (numbered a before) (numbered b) (text_value values a) (text_value values b) (kept a before) (kept b (numbered a before).1)
  kept (Ceil' s (more_of-ExprText a end_of-ExprText) t (more_of-ExprText b end_of-ExprText)) before =
      both_kept expr.Ceil ceil_quotient value-Ceil before (numbered a before) (numbered b) (text_value values a) (text_value values b) (kept a before) (kept b (numbered a before).1)

  -- all subscripts
  record AllKept (before : Leaves) (made : List ExprText × Leaves) (subscripts : List Expression) : Type 0 where
    stood : AllStand made.1 → AllStand before
    same : AllStand made.1 → map (λ (e : ExprText). text_value parameters e) made.0 ≡ map (λ (s : Expression). text_value values s.expr) subscripts

  first_kept : (before : Leaves) (first : ExprText × Leaves) (more : List ExprText × Leaves) (s : Expression) (rest : List Expression)
      → Kept (record before { kinds = s.leaves }) first (text_value values s.expr) → AllKept first.1 more rest → AllKept before (first.0 ∷ more.0, more.1) (s ∷ rest)
  unfolding AllStand
  first_kept before first more s rest a b = record {
    stood = λ k. a.stood (b.stood k);
    same = λ k. ap (λ z. z ∷ map (λ (e : ExprText). text_value parameters e) more.0) (a.same (b.stood k)) ∙ ap (λ zs. text_value values s.expr ∷ zs) (b.same k);
  }

  all_kept : (subscripts : List Expression) (before : Leaves) → AllKept before (numbered_all subscripts before) subscripts
  unfolding numbered_all
  all_kept [] before = record { stood = λ k. k; same = λ k. refl }
  all_kept (s ∷ rest) before =
      let start = record before { kinds = s.leaves } in
      let first = numbered s.expr start in
      first_kept before first (numbered_all rest first.1) s rest (kept s.expr start) (all_kept rest first.1)

  map_kept : (made : List ExprText × Leaves) (subscripts : List Expression) → AllKept no_leaves made subscripts
      → map parameters (numbering_of made.0 made.1).map.dims ≡ map values (numbering_of made.0 made.1).dims
      → map parameters (numbering_of made.0 made.1).map.syms ≡ map values (numbering_of made.0 made.1).syms
      → map (λ (e : ExprText). text_value parameters e) made.0 ≡ map (λ (s : Expression). text_value values s.expr) subscripts
  unfolding AllStand Stand
  map_kept made subscripts kept dims syms = kept.same (dims, syms)

pub faithful : (subscripts : List Expression) → IsFaithful (numbering subscripts) subscripts
faithful subscripts values parameters dims syms =
    map_kept values parameters (numbered_all subscripts no_leaves) subscripts (all_kept values parameters subscripts no_leaves) dims syms
