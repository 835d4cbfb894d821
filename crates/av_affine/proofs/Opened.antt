-- What the tests of forms give by the parts of the forms.
use Rattle.std.proofs.Common.{◌≡◌, ◌&&◌, refl, sym, ap, ◌∙◌}
use Rattle.std.specs.Ordering.{int_eq}
use Rattle.av_affine.specs.declared.linear.Linear.{Linear, Linear', Row_of-Opaque, end_of-Opaque, more_of-Opaque, items-the_row-Opaque, items_hidden-the_row-Opaque-0, out-Linear, is-Linear'}
use Rattle.av_affine.specs.declared.linear.Linear.TheBlock.{shape-the_row-Opaque-0, hidden-the_row-Opaque-0}
use Rattle.av_affine.specs.declared.linear.Opaque.{Opaque, Opaque', out-Opaque, is-Opaque'}
use Rattle.av_affine.specs.Forms.{same_kind, same_terms, same_form, same_opaque, same_row, same_division, all_same}

same_row-items : {m n : _} (row : Row_of-Opaque m) (other : Row_of-Opaque n)
    → same_row row other ≡ all_same same_opaque (items-the_row-Opaque m row) (items-the_row-Opaque n other)
unfolding same_row all_same
same_row-items end_of-Opaque end_of-Opaque = refl
same_row-items end_of-Opaque (more_of-Opaque p others) = refl
same_row-items (more_of-Opaque o rest) end_of-Opaque = refl
same_row-items (more_of-Opaque o rest) (more_of-Opaque p others) = ap (λ r. same_opaque o p && r) (same_row-items rest others)

pub same_form-opened : (a b : Linear) → same_form a b
    ≡ (same_terms (out-Linear a).terms (out-Linear b).terms
    && (all_same same_opaque (out-Linear a).opaque (out-Linear b).opaque && int_eq (out-Linear a).constant (out-Linear b).constant))
unfolding same_form
same_form-opened a b =
    ap (λ l. same_form l b) (is-Linear' a) ∙ ap (same_form (Linear' (out-Linear a).terms (shape-the_row-Opaque-0 (out-Linear a).opaque) (hidden-the_row-Opaque-0 (out-Linear a).opaque) (out-Linear a).constant)) (is-Linear' b)
    ∙ ap (λ r. same_terms (out-Linear a).terms (out-Linear b).terms && (r && int_eq (out-Linear a).constant (out-Linear b).constant))
    (same_row-items (hidden-the_row-Opaque-0 (out-Linear a).opaque) (hidden-the_row-Opaque-0 (out-Linear b).opaque)
    ∙ ap (λ os. all_same same_opaque os (items-the_row-Opaque _ (hidden-the_row-Opaque-0 (out-Linear b).opaque))) (items_hidden-the_row-Opaque-0 (out-Linear a).opaque)
    ∙ ap (all_same same_opaque (out-Linear a).opaque) (items_hidden-the_row-Opaque-0 (out-Linear b).opaque))

pub same_division-opened : (a b : Opaque) → same_division a b
    ≡ (same_kind (out-Opaque a).kind (out-Opaque b).kind
    && (int_eq (out-Opaque a).by (out-Opaque b).by && same_form (out-Opaque a).inner (out-Opaque b).inner))
unfolding same_division
same_division-opened a b =
    ap (λ o. same_division o b) (is-Opaque' a)
    ∙ ap (same_division (Opaque' (out-Opaque a).kind (out-Opaque a).inner (out-Opaque a).by (out-Opaque a).factor)) (is-Opaque' b)

pub same_opaque-opened : (a b : Opaque) → same_opaque a b ≡ (int_eq (out-Opaque a).factor (out-Opaque b).factor && same_division a b)
unfolding same_opaque same_division
same_opaque-opened a b =
    ap (λ o. same_opaque o b) (is-Opaque' a)
    ∙ ap (same_opaque (Opaque' (out-Opaque a).kind (out-Opaque a).inner (out-Opaque a).by (out-Opaque a).factor)) (is-Opaque' b)
    ∙ ap (λ r. int_eq (out-Opaque a).factor (out-Opaque b).factor && r) (sym (same_division-opened a b))

pub ruleset opened = (same_form-opened, same_opaque-opened, same_division-opened)
