use Rattle.std.proofs.Common.{◌∙◌, rules, ap, sym, subst, arith}
use Rattle.std.specs.Prelude.{negsuc, FitsSigned}
use Rattle.std.proofs.lemmas.Int.{to_z-of_z}
use mir.Syntax.{w128}
use Rattle.av_affine.specs.declared.expression.Expr.{the_lemmas}
use Rattle.av_affine.specs.declared.linear.Linear.{roll-Linear}
use Rattle.av_affine.specs.Limits.{constant_value}
use Rattle.av_affine.specs.Forms.{constant_parts, scaled, parts_of, linear_form}
use Rattle.av_affine.proofs.Variants.{IsSound, sound-Neg, sound-Add, sound-Sub, sound-Mul, sound-Mod, sound-Floor, sound-Ceil}
use Rattle.av_affine.proofs.FormParts.{form-Const, form-Neg, form-Add, form-Sub, form-Mul, form-Mod, form-Floor, form-Ceil, out_of, out_form, form_room, form_limit, negated_room, product_room, if_ok_same, sum_form, times_form, divided_form}
use Rattle.av_affine.proofs.making.+making.Goals as goal

pub negated-scaled-requires : goal.negated-scaled-requires
negated-scaled-requires t c =
    let room = form_limit c.in_ok-form.form c.args.e.now (c.in_ok-form.ensures ∙ ap linear_form c.get.ensures) (c.requires.affine, c.requires.within) in omega arith

pub negated-returns : goal.negated-returns
negated-returns t c =
    if_ok_same c.scaled.result _ _ (ap (λ p. roll-Linear (scaled (negsuc 0) p)) (out_form c.in_ok-form.form c.args.e.now (c.in_ok-form.ensures ∙ ap linear_form c.get.ensures))) c.scaled.ensures

pub division-divided-requires-clause-bound : goal.division-divided-requires-clause-bound
division-divided-requires-clause-bound t c = form_limit c.in_ok-form.form c.args.a.now (c.in_ok-form.ensures ∙ ap linear_form c.get.ensures) c.requires.left

pub division-returns : goal.division-returns
division-returns t c =
    if_ok_same c.divided.result _ _
    (divided_form c.in_ok-form.form c.args.a.now c.args.b.now c.args.kind c.value_at.result (c.in_ok-form.ensures ∙ ap linear_form c.get.ensures) c.requires.divisor c.requires.right (c.value_at.ensures.value ∙ ap constant_value c.get-2.ensures))
    c.divided.ensures

pub form_of-returns-in-Const : goal.form_of-returns-in-Const
form_of-returns-in-Const t c =
    let f : FitsSigned w128 c.in-Const.value = search rules in
    c.constant_form.ensures ∙ ap (λ z. roll-Linear (constant_parts z)) (to_z-of_z w128 c.in-Const.value f)
    ∙ sym (ap linear_form c.in-Const.is ∙ form-Const c.in-Const.value)

pub form_of-negated-requires : goal.form_of-negated-requires
form_of-negated-requires t c =
    let p : IsSound c.in-Neg.a = sound-Neg c.in-Neg.a (subst IsSound c.in-Neg.is (c.requires.affine, c.requires.within)) in
    (search (rules, the_lemmas), (p.0, p.1))

pub form_of-returns-in-Neg : goal.form_of-returns-in-Neg
form_of-returns-in-Neg t c =
    if_ok_same c.negated.result _ _ (sym (ap linear_form c.in-Neg.is ∙ form-Neg c.in-Neg.a)) c.negated.ensures

pub form_of-held_form-requires : goal.form_of-held_form-requires
form_of-held_form-requires t c = let p = sound-Add c.in-Add.a c.in-Add.b (subst IsSound c.in-Add.is (c.requires.affine, c.requires.within)) in (search (rules, the_lemmas), (p.0.0, p.0.1))

pub form_of-held_form-requires-in-Add : goal.form_of-held_form-requires-in-Add
form_of-held_form-requires-in-Add t c = let p = sound-Add c.in-Add.a c.in-Add.b (subst IsSound c.in-Add.is (c.requires.affine, c.requires.within)) in (search (rules, the_lemmas), (p.1.0, p.1.1))

pub form_of-held_form-requires-in-Sub : goal.form_of-held_form-requires-in-Sub
form_of-held_form-requires-in-Sub t c = let p = sound-Sub c.in-Sub.a c.in-Sub.b (subst IsSound c.in-Sub.is (c.requires.affine, c.requires.within)) in (search (rules, the_lemmas), (p.0.0, p.0.1))

pub form_of-negated-requires-in-Sub : goal.form_of-negated-requires-in-Sub
form_of-negated-requires-in-Sub t c = let p = sound-Sub c.in-Sub.a c.in-Sub.b (subst IsSound c.in-Sub.is (c.requires.affine, c.requires.within)) in (search (rules, the_lemmas), (p.1.0, p.1.1))

pub form_of-held_form-requires-in-Mul : goal.form_of-held_form-requires-in-Mul
form_of-held_form-requires-in-Mul t c = let p = sound-Mul c.in-Mul.a c.in-Mul.b (subst IsSound c.in-Mul.is (c.requires.affine, c.requires.within)) in (search (rules, the_lemmas), (p.0.0, p.0.1))

pub form_of-held_form-requires-in-Mul-2 : goal.form_of-held_form-requires-in-Mul-2
form_of-held_form-requires-in-Mul-2 t c = let p = sound-Mul c.in-Mul.a c.in-Mul.b (subst IsSound c.in-Mul.is (c.requires.affine, c.requires.within)) in (search (rules, the_lemmas), (p.1.0, p.1.1))

pub form_of-joined-requires : goal.form_of-joined-requires
form_of-joined-requires t c =
    let p = sound-Add c.in-Add.a c.in-Add.b (subst IsSound c.in-Add.is (c.requires.affine, c.requires.within)) in
    let l = form_room c.in_ok-left-in-Add.left c.in-Add.a c.in_ok-left-in-Add.ensures p.0 in
    let r = form_room c.in_ok-right-in-Add.right c.in-Add.b c.in_ok-right-in-Add.ensures p.1 in
    omega (arith, p.2)

pub form_of-returns-in_ok-right-in-Add : goal.form_of-returns-in_ok-right-in-Add
form_of-returns-in_ok-right-in-Add t c =
    if_ok_same c.joined.result _ _
    (sum_form c.in_ok-left-in-Add.left c.in_ok-right-in-Add.right (parts_of c.in-Add.a) (parts_of c.in-Add.b)
    (out_form c.in_ok-left-in-Add.left c.in-Add.a c.in_ok-left-in-Add.ensures) (out_form c.in_ok-right-in-Add.right c.in-Add.b c.in_ok-right-in-Add.ensures)
    ∙ sym (ap linear_form c.in-Add.is ∙ form-Add c.in-Add.a c.in-Add.b)) c.joined.ensures

pub form_of-joined-requires-in-Sub : goal.form_of-joined-requires-in-Sub
form_of-joined-requires-in-Sub t c =
    let p = sound-Sub c.in-Sub.a c.in-Sub.b (subst IsSound c.in-Sub.is (c.requires.affine, c.requires.within)) in
    let l = form_room c.in_ok-left-in-Sub.left c.in-Sub.a c.in_ok-left-in-Sub.ensures p.0 in
    let r = negated_room c.in_ok-right-in-Sub.right c.in-Sub.b c.in_ok-right-in-Sub.ensures p.1 in
    omega (arith, p.2)

pub form_of-returns-in_ok-right-in-Sub : goal.form_of-returns-in_ok-right-in-Sub
form_of-returns-in_ok-right-in-Sub t c =
    if_ok_same c.joined-in-Sub.result _ _
    (sum_form c.in_ok-left-in-Sub.left c.in_ok-right-in-Sub.right (parts_of c.in-Sub.a) (scaled (negsuc 0) (parts_of c.in-Sub.b))
    (out_form c.in_ok-left-in-Sub.left c.in-Sub.a c.in_ok-left-in-Sub.ensures) (out_of c.in_ok-right-in-Sub.right (scaled (negsuc 0) (parts_of c.in-Sub.b)) c.in_ok-right-in-Sub.ensures)
    ∙ sym (ap linear_form c.in-Sub.is ∙ form-Sub c.in-Sub.a c.in-Sub.b)) c.joined-in-Sub.ensures

pub form_of-product_form-requires : goal.form_of-product_form-requires
form_of-product_form-requires t c =
    let p = sound-Mul c.in-Mul.a c.in-Mul.b (subst IsSound c.in-Mul.is (c.requires.affine, c.requires.within)) in
    product_room c.in_ok-left-in-Mul.left c.in_ok-right-in-Mul.right c.in-Mul.a c.in-Mul.b c.in_ok-left-in-Mul.ensures c.in_ok-right-in-Mul.ensures p.0 p.1 p.2

pub form_of-returns-in_ok-right-in-Mul : goal.form_of-returns-in_ok-right-in-Mul
form_of-returns-in_ok-right-in-Mul t c =
    if_ok_same c.product_form.result _ _
    (times_form c.in_ok-left-in-Mul.left c.in_ok-right-in-Mul.right (parts_of c.in-Mul.a) (parts_of c.in-Mul.b)
    (out_form c.in_ok-left-in-Mul.left c.in-Mul.a c.in_ok-left-in-Mul.ensures) (out_form c.in_ok-right-in-Mul.right c.in-Mul.b c.in_ok-right-in-Mul.ensures)
    ∙ sym (ap linear_form c.in-Mul.is ∙ form-Mul c.in-Mul.a c.in-Mul.b)) c.product_form.ensures

pub form_of-division-requires : goal.form_of-division-requires
form_of-division-requires t c = let p = sound-Mod c.in-Mod.a c.in-Mod.b (subst IsSound c.in-Mod.is (c.requires.affine, c.requires.within)) in (search (rules, the_lemmas), (p.0, (p.1, p.3)))

pub form_of-returns-in-Mod : goal.form_of-returns-in-Mod
form_of-returns-in-Mod t c =
    if_ok_same c.division.result _ _ (sym (ap linear_form c.in-Mod.is ∙ form-Mod c.in-Mod.a c.in-Mod.b)) c.division.ensures

pub form_of-division-requires-in-Floor : goal.form_of-division-requires-in-Floor
form_of-division-requires-in-Floor t c = let p = sound-Floor c.in-Floor.a c.in-Floor.b (subst IsSound c.in-Floor.is (c.requires.affine, c.requires.within)) in (search (rules, the_lemmas), (p.0, (p.1, p.3)))

pub form_of-returns-in-Floor : goal.form_of-returns-in-Floor
form_of-returns-in-Floor t c =
    if_ok_same c.division-in-Floor.result _ _ (sym (ap linear_form c.in-Floor.is ∙ form-Floor c.in-Floor.a c.in-Floor.b)) c.division-in-Floor.ensures

pub form_of-division-requires-in-Ceil : goal.form_of-division-requires-in-Ceil
form_of-division-requires-in-Ceil t c = let p = sound-Ceil c.in-Ceil.a c.in-Ceil.b (subst IsSound c.in-Ceil.is (c.requires.affine, c.requires.within)) in (search (rules, the_lemmas), (p.0, (p.1, p.3)))

pub form_of-returns-in-Ceil : goal.form_of-returns-in-Ceil
form_of-returns-in-Ceil t c =
    if_ok_same c.division-in-Ceil.result _ _ (sym (ap linear_form c.in-Ceil.is ∙ form-Ceil c.in-Ceil.a c.in-Ceil.b)) c.division-in-Ceil.ensures
