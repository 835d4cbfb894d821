-- What is spelled so far, place by place.
use Rattle.std.proofs.Common.{◌≡◌, ℕ, ◌+◌, ◌<◌, ◌≤◌, List, length, get_or, drop, Option, None, refl, sym, ap, ◌∙◌, add-one}
use Rattle.std.proofs.Math.Seq.{drop-cons}
use Rattle.std.proofs.lemmas.List.{drop_all}
use Rattle.av_affine.specs.declared.expression.Expr.{Expr}
use Rattle.av_affine.specs.declared.expression.Expr.TheVariants as expr
use Rattle.av_affine.specs.declared.linear.Term.{Term}
use Rattle.av_affine.specs.declared.linear.Linear.{Linear, Row_of-Opaque, end_of-Opaque, more_of-Opaque, items-the_row-Opaque, items_hidden-the_row-Opaque-0, out-Linear, is-Linear'}
use Rattle.av_affine.specs.declared.linear.Linear.TheBlock.{hidden-the_row-Opaque-0}
use Rattle.av_affine.specs.declared.linear.Opaque.{Opaque, out-Opaque, is-Opaque'}
use Rattle.av_affine.specs.Spelling.{times, plus, division, plus_terms, plus_constant, plus_row, plus_opaques, spelled, spelled_opaque}

row-spelled : (s : Option Expr) {m : _} (row : Row_of-Opaque m) → plus_row s row ≡ plus_opaques s (items-the_row-Opaque m row)
unfolding plus_row plus_opaques
row-spelled s end_of-Opaque = refl
row-spelled s (more_of-Opaque o rest) = row-spelled (plus s (spelled_opaque o)) rest

pub spelled-opened : (l : Linear) → spelled l
    ≡ plus_constant (plus_opaques (plus_terms None (out-Linear l).terms) (out-Linear l).opaque) (out-Linear l).constant
unfolding spelled
spelled-opened l =
    ap spelled (is-Linear' l)
    ∙ ap (λ s. plus_constant s (out-Linear l).constant)
    (row-spelled (plus_terms None (out-Linear l).terms) (hidden-the_row-Opaque-0 (out-Linear l).opaque)
    ∙ ap (plus_opaques (plus_terms None (out-Linear l).terms)) (items_hidden-the_row-Opaque-0 (out-Linear l).opaque))

pub spelled_opaque-opened : (o : Opaque) → spelled_opaque o
    ≡ times (division (out-Opaque o).kind (spelled (out-Opaque o).inner) (expr.Const (out-Opaque o).by)) (out-Opaque o).factor
unfolding spelled_opaque
spelled_opaque-opened o = ap spelled_opaque (is-Opaque' o)

pub terms_on : (s : Option Expr) (ts : List Term) (i : ℕ) (d : Term) → i < length ts
    → plus_terms (plus s (times (expr.Param (get_or ts i d).leaf) (get_or ts i d).factor)) (drop (i + 1) ts) ≡ plus_terms s (drop i ts)
unfolding plus_terms
terms_on s ts i d h =
    ap (λ n. plus_terms (plus s (times (expr.Param (get_or ts i d).leaf) (get_or ts i d).factor)) (drop n ts)) (add-one i)
    ∙ sym (ap (plus_terms s) (drop-cons ts i d h))

pub terms_end : (s : Option Expr) (ts : List Term) (i : ℕ) → length ts ≤ i → plus_terms s (drop i ts) ≡ s
unfolding plus_terms
terms_end s ts i h = ap (plus_terms s) (drop_all i ts h)

pub opaques_on : (s : Option Expr) (os : List Opaque) (i : ℕ) (d : Opaque) → i < length os
    → plus_opaques (plus s (spelled_opaque (get_or os i d))) (drop (i + 1) os) ≡ plus_opaques s (drop i os)
unfolding plus_opaques
opaques_on s os i d h =
    ap (λ n. plus_opaques (plus s (spelled_opaque (get_or os i d))) (drop n os)) (add-one i)
    ∙ sym (ap (plus_opaques s) (drop-cons os i d h))

pub opaques_end : (s : Option Expr) (os : List Opaque) (i : ℕ) → length os ≤ i → plus_opaques s (drop i os) ≡ s
unfolding plus_opaques
opaques_end s os i h = ap (plus_opaques s) (drop_all i os h)
