-- The value of each variant, from the values of its parts.
use Rattle.std.proofs.Common.{rules, subst}
use Rattle.av_affine.specs.declared.expression.Expr.{the_lemmas}
use Rattle.av_affine.specs.Values.{leaves}
use Rattle.av_affine.proofs.Variants.{IsSound, sound-Neg, sound-Add, sound-Sub, sound-Mul, sound-Mod, sound-Floor, sound-Ceil}
use Rattle.av_affine.proofs.Bounded.{again, valued-Param, valued-Const, room-Neg, room-Add, room-Sub, room-Mul, room-Ceil, divisor-Mod, divisor-Floor, divisor-Ceil, valued-Neg, valued-Add, valued-Sub, valued-Mul, valued-Mod, valued-Floor, valued-Ceil}
use Rattle.av_affine.proofs.values.+valuing.Goals as goal

pub value_at-returns-in-Param-clause-value : goal.value_at-returns-in-Param-clause-value
value_at-returns-in-Param-clause-value t c =
    (again (leaves c.args.dims.now c.args.syms.now) c.args.e.now c.leaf_value.result (c.requires.affine, c.requires.within) (valued-Param (leaves c.args.dims.now c.args.syms.now) c.args.e.now c.in-Param.leaf c.leaf_value.result c.in-Param.is c.leaf_value.ensures.value c.leaf_value.ensures.bound)).value

pub value_at-returns-in-Param-clause-bound : goal.value_at-returns-in-Param-clause-bound
value_at-returns-in-Param-clause-bound t c =
    (again (leaves c.args.dims.now c.args.syms.now) c.args.e.now c.leaf_value.result (c.requires.affine, c.requires.within) (valued-Param (leaves c.args.dims.now c.args.syms.now) c.args.e.now c.in-Param.leaf c.leaf_value.result c.in-Param.is c.leaf_value.ensures.value c.leaf_value.ensures.bound)).bound

pub value_at-returns-in-Const-clause-value : goal.value_at-returns-in-Const-clause-value
value_at-returns-in-Const-clause-value t c =
    (again (leaves c.args.dims.now c.args.syms.now) c.args.e.now c.in-Const.value (c.requires.affine, c.requires.within) (valued-Const (leaves c.args.dims.now c.args.syms.now) c.args.e.now c.in-Const.value c.in-Const.is)).value

pub value_at-returns-in-Const-clause-bound : goal.value_at-returns-in-Const-clause-bound
value_at-returns-in-Const-clause-bound t c =
    (again (leaves c.args.dims.now c.args.syms.now) c.args.e.now c.in-Const.value (c.requires.affine, c.requires.within) (valued-Const (leaves c.args.dims.now c.args.syms.now) c.args.e.now c.in-Const.value c.in-Const.is)).bound

pub value_at-held_value-requires : goal.value_at-held_value-requires
value_at-held_value-requires t c =
    let p : IsSound c.in-Neg.a = sound-Neg c.in-Neg.a (subst IsSound c.in-Neg.is (c.requires.affine, c.requires.within)) in
    (search (rules, the_lemmas), (p.0, p.1))

pub value_at-negation-requires : goal.value_at-negation-requires
value_at-negation-requires t c =
    room-Neg (leaves c.args.dims.now c.args.syms.now) c.args.e.now c.in-Neg.a c.held_value.result c.in-Neg.is (c.requires.affine, c.requires.within)
    (record { value = c.held_value.ensures.value; bound = c.held_value.ensures.bound })

pub value_at-returns-in-Neg-clause-value : goal.value_at-returns-in-Neg-clause-value
value_at-returns-in-Neg-clause-value t c =
    (again (leaves c.args.dims.now c.args.syms.now) c.args.e.now _ (c.requires.affine, c.requires.within) (valued-Neg (leaves c.args.dims.now c.args.syms.now) c.args.e.now c.in-Neg.a c.held_value.result c.in-Neg.is (c.requires.affine, c.requires.within)
    (record { value = c.held_value.ensures.value; bound = c.held_value.ensures.bound }) c.negation.result c.negation.ensures)).value

pub value_at-returns-in-Neg-clause-bound : goal.value_at-returns-in-Neg-clause-bound
value_at-returns-in-Neg-clause-bound t c =
    (again (leaves c.args.dims.now c.args.syms.now) c.args.e.now _ (c.requires.affine, c.requires.within) (valued-Neg (leaves c.args.dims.now c.args.syms.now) c.args.e.now c.in-Neg.a c.held_value.result c.in-Neg.is (c.requires.affine, c.requires.within)
    (record { value = c.held_value.ensures.value; bound = c.held_value.ensures.bound }) c.negation.result c.negation.ensures)).bound

pub value_at-held_value-requires-in-Add : goal.value_at-held_value-requires-in-Add
value_at-held_value-requires-in-Add t c =
    let p = sound-Add c.in-Add.a c.in-Add.b (subst IsSound c.in-Add.is (c.requires.affine, c.requires.within)) in
    (search (rules, the_lemmas), (p.0.0, p.0.1))

pub value_at-held_value-requires-in-Add-2 : goal.value_at-held_value-requires-in-Add-2
value_at-held_value-requires-in-Add-2 t c =
    let p = sound-Add c.in-Add.a c.in-Add.b (subst IsSound c.in-Add.is (c.requires.affine, c.requires.within)) in
    (search (rules, the_lemmas), (p.1.0, p.1.1))

pub value_at-sum-requires : goal.value_at-sum-requires
value_at-sum-requires t c = room-Add (leaves c.args.dims.now c.args.syms.now) c.args.e.now c.in-Add.a c.in-Add.b c.held_value-in-Add.result c.held_value-in-Add-2.result c.in-Add.is (c.requires.affine, c.requires.within)
    (record { value = c.held_value-in-Add.ensures.value; bound = c.held_value-in-Add.ensures.bound })
    (record { value = c.held_value-in-Add-2.ensures.value; bound = c.held_value-in-Add-2.ensures.bound })

pub value_at-returns-in-Add-clause-value : goal.value_at-returns-in-Add-clause-value
value_at-returns-in-Add-clause-value t c =
    (again (leaves c.args.dims.now c.args.syms.now) c.args.e.now _ (c.requires.affine, c.requires.within) (valued-Add (leaves c.args.dims.now c.args.syms.now) c.args.e.now c.in-Add.a c.in-Add.b c.held_value-in-Add.result c.held_value-in-Add-2.result c.in-Add.is (c.requires.affine, c.requires.within)
    (record { value = c.held_value-in-Add.ensures.value; bound = c.held_value-in-Add.ensures.bound })
    (record { value = c.held_value-in-Add-2.ensures.value; bound = c.held_value-in-Add-2.ensures.bound }) c.sum.result c.sum.ensures)).value

pub value_at-returns-in-Add-clause-bound : goal.value_at-returns-in-Add-clause-bound
value_at-returns-in-Add-clause-bound t c =
    (again (leaves c.args.dims.now c.args.syms.now) c.args.e.now _ (c.requires.affine, c.requires.within) (valued-Add (leaves c.args.dims.now c.args.syms.now) c.args.e.now c.in-Add.a c.in-Add.b c.held_value-in-Add.result c.held_value-in-Add-2.result c.in-Add.is (c.requires.affine, c.requires.within)
    (record { value = c.held_value-in-Add.ensures.value; bound = c.held_value-in-Add.ensures.bound })
    (record { value = c.held_value-in-Add-2.ensures.value; bound = c.held_value-in-Add-2.ensures.bound }) c.sum.result c.sum.ensures)).bound

pub value_at-held_value-requires-in-Sub : goal.value_at-held_value-requires-in-Sub
value_at-held_value-requires-in-Sub t c =
    let p = sound-Sub c.in-Sub.a c.in-Sub.b (subst IsSound c.in-Sub.is (c.requires.affine, c.requires.within)) in
    (search (rules, the_lemmas), (p.0.0, p.0.1))

pub value_at-held_value-requires-in-Sub-2 : goal.value_at-held_value-requires-in-Sub-2
value_at-held_value-requires-in-Sub-2 t c =
    let p = sound-Sub c.in-Sub.a c.in-Sub.b (subst IsSound c.in-Sub.is (c.requires.affine, c.requires.within)) in
    (search (rules, the_lemmas), (p.1.0, p.1.1))

pub value_at-difference-requires : goal.value_at-difference-requires
value_at-difference-requires t c = room-Sub (leaves c.args.dims.now c.args.syms.now) c.args.e.now c.in-Sub.a c.in-Sub.b c.held_value-in-Sub.result c.held_value-in-Sub-2.result c.in-Sub.is (c.requires.affine, c.requires.within)
    (record { value = c.held_value-in-Sub.ensures.value; bound = c.held_value-in-Sub.ensures.bound })
    (record { value = c.held_value-in-Sub-2.ensures.value; bound = c.held_value-in-Sub-2.ensures.bound })

pub value_at-returns-in-Sub-clause-value : goal.value_at-returns-in-Sub-clause-value
value_at-returns-in-Sub-clause-value t c =
    (again (leaves c.args.dims.now c.args.syms.now) c.args.e.now _ (c.requires.affine, c.requires.within) (valued-Sub (leaves c.args.dims.now c.args.syms.now) c.args.e.now c.in-Sub.a c.in-Sub.b c.held_value-in-Sub.result c.held_value-in-Sub-2.result c.in-Sub.is (c.requires.affine, c.requires.within)
    (record { value = c.held_value-in-Sub.ensures.value; bound = c.held_value-in-Sub.ensures.bound })
    (record { value = c.held_value-in-Sub-2.ensures.value; bound = c.held_value-in-Sub-2.ensures.bound }) c.difference.result c.difference.ensures)).value

pub value_at-returns-in-Sub-clause-bound : goal.value_at-returns-in-Sub-clause-bound
value_at-returns-in-Sub-clause-bound t c =
    (again (leaves c.args.dims.now c.args.syms.now) c.args.e.now _ (c.requires.affine, c.requires.within) (valued-Sub (leaves c.args.dims.now c.args.syms.now) c.args.e.now c.in-Sub.a c.in-Sub.b c.held_value-in-Sub.result c.held_value-in-Sub-2.result c.in-Sub.is (c.requires.affine, c.requires.within)
    (record { value = c.held_value-in-Sub.ensures.value; bound = c.held_value-in-Sub.ensures.bound })
    (record { value = c.held_value-in-Sub-2.ensures.value; bound = c.held_value-in-Sub-2.ensures.bound }) c.difference.result c.difference.ensures)).bound

pub value_at-held_value-requires-in-Mul : goal.value_at-held_value-requires-in-Mul
value_at-held_value-requires-in-Mul t c =
    let p = sound-Mul c.in-Mul.a c.in-Mul.b (subst IsSound c.in-Mul.is (c.requires.affine, c.requires.within)) in
    (search (rules, the_lemmas), (p.0.0, p.0.1))

pub value_at-held_value-requires-in-Mul-2 : goal.value_at-held_value-requires-in-Mul-2
value_at-held_value-requires-in-Mul-2 t c =
    let p = sound-Mul c.in-Mul.a c.in-Mul.b (subst IsSound c.in-Mul.is (c.requires.affine, c.requires.within)) in
    (search (rules, the_lemmas), (p.1.0, p.1.1))

pub value_at-product-requires : goal.value_at-product-requires
value_at-product-requires t c = room-Mul (leaves c.args.dims.now c.args.syms.now) c.args.e.now c.in-Mul.a c.in-Mul.b c.held_value-in-Mul.result c.held_value-in-Mul-2.result c.in-Mul.is (c.requires.affine, c.requires.within)
    (record { value = c.held_value-in-Mul.ensures.value; bound = c.held_value-in-Mul.ensures.bound })
    (record { value = c.held_value-in-Mul-2.ensures.value; bound = c.held_value-in-Mul-2.ensures.bound })

pub value_at-returns-in-Mul-clause-value : goal.value_at-returns-in-Mul-clause-value
value_at-returns-in-Mul-clause-value t c =
    (again (leaves c.args.dims.now c.args.syms.now) c.args.e.now _ (c.requires.affine, c.requires.within) (valued-Mul (leaves c.args.dims.now c.args.syms.now) c.args.e.now c.in-Mul.a c.in-Mul.b c.held_value-in-Mul.result c.held_value-in-Mul-2.result c.in-Mul.is (c.requires.affine, c.requires.within)
    (record { value = c.held_value-in-Mul.ensures.value; bound = c.held_value-in-Mul.ensures.bound })
    (record { value = c.held_value-in-Mul-2.ensures.value; bound = c.held_value-in-Mul-2.ensures.bound }) c.product.result c.product.ensures)).value

pub value_at-returns-in-Mul-clause-bound : goal.value_at-returns-in-Mul-clause-bound
value_at-returns-in-Mul-clause-bound t c =
    (again (leaves c.args.dims.now c.args.syms.now) c.args.e.now _ (c.requires.affine, c.requires.within) (valued-Mul (leaves c.args.dims.now c.args.syms.now) c.args.e.now c.in-Mul.a c.in-Mul.b c.held_value-in-Mul.result c.held_value-in-Mul-2.result c.in-Mul.is (c.requires.affine, c.requires.within)
    (record { value = c.held_value-in-Mul.ensures.value; bound = c.held_value-in-Mul.ensures.bound })
    (record { value = c.held_value-in-Mul-2.ensures.value; bound = c.held_value-in-Mul-2.ensures.bound }) c.product.result c.product.ensures)).bound

pub value_at-held_value-requires-in-Mod : goal.value_at-held_value-requires-in-Mod
value_at-held_value-requires-in-Mod t c =
    let p = sound-Mod c.in-Mod.a c.in-Mod.b (subst IsSound c.in-Mod.is (c.requires.affine, c.requires.within)) in
    (search (rules, the_lemmas), (p.0.0, p.0.1))

pub value_at-held_value-requires-in-Mod-2 : goal.value_at-held_value-requires-in-Mod-2
value_at-held_value-requires-in-Mod-2 t c =
    let p = sound-Mod c.in-Mod.a c.in-Mod.b (subst IsSound c.in-Mod.is (c.requires.affine, c.requires.within)) in
    (search (rules, the_lemmas), (p.1.0, p.1.1))

pub value_at-remainder_of-requires : goal.value_at-remainder_of-requires
value_at-remainder_of-requires t c = divisor-Mod (leaves c.args.dims.now c.args.syms.now) c.args.e.now c.in-Mod.a c.in-Mod.b c.held_value-in-Mod.result c.held_value-in-Mod-2.result c.in-Mod.is (c.requires.affine, c.requires.within)
    (record { value = c.held_value-in-Mod.ensures.value; bound = c.held_value-in-Mod.ensures.bound })
    (record { value = c.held_value-in-Mod-2.ensures.value; bound = c.held_value-in-Mod-2.ensures.bound })

pub value_at-returns-in-Mod-clause-value : goal.value_at-returns-in-Mod-clause-value
value_at-returns-in-Mod-clause-value t c =
    (again (leaves c.args.dims.now c.args.syms.now) c.args.e.now _ (c.requires.affine, c.requires.within) (valued-Mod (leaves c.args.dims.now c.args.syms.now) c.args.e.now c.in-Mod.a c.in-Mod.b c.held_value-in-Mod.result c.held_value-in-Mod-2.result c.in-Mod.is (c.requires.affine, c.requires.within)
    (record { value = c.held_value-in-Mod.ensures.value; bound = c.held_value-in-Mod.ensures.bound })
    (record { value = c.held_value-in-Mod-2.ensures.value; bound = c.held_value-in-Mod-2.ensures.bound }) c.remainder_of.result c.remainder_of.ensures)).value

pub value_at-returns-in-Mod-clause-bound : goal.value_at-returns-in-Mod-clause-bound
value_at-returns-in-Mod-clause-bound t c =
    (again (leaves c.args.dims.now c.args.syms.now) c.args.e.now _ (c.requires.affine, c.requires.within) (valued-Mod (leaves c.args.dims.now c.args.syms.now) c.args.e.now c.in-Mod.a c.in-Mod.b c.held_value-in-Mod.result c.held_value-in-Mod-2.result c.in-Mod.is (c.requires.affine, c.requires.within)
    (record { value = c.held_value-in-Mod.ensures.value; bound = c.held_value-in-Mod.ensures.bound })
    (record { value = c.held_value-in-Mod-2.ensures.value; bound = c.held_value-in-Mod-2.ensures.bound }) c.remainder_of.result c.remainder_of.ensures)).bound

pub value_at-held_value-requires-in-Floor : goal.value_at-held_value-requires-in-Floor
value_at-held_value-requires-in-Floor t c =
    let p = sound-Floor c.in-Floor.a c.in-Floor.b (subst IsSound c.in-Floor.is (c.requires.affine, c.requires.within)) in
    (search (rules, the_lemmas), (p.0.0, p.0.1))

pub value_at-held_value-requires-in-Floor-2 : goal.value_at-held_value-requires-in-Floor-2
value_at-held_value-requires-in-Floor-2 t c =
    let p = sound-Floor c.in-Floor.a c.in-Floor.b (subst IsSound c.in-Floor.is (c.requires.affine, c.requires.within)) in
    (search (rules, the_lemmas), (p.1.0, p.1.1))

pub value_at-floor_of-requires : goal.value_at-floor_of-requires
value_at-floor_of-requires t c = divisor-Floor (leaves c.args.dims.now c.args.syms.now) c.args.e.now c.in-Floor.a c.in-Floor.b c.held_value-in-Floor.result c.held_value-in-Floor-2.result c.in-Floor.is (c.requires.affine, c.requires.within)
    (record { value = c.held_value-in-Floor.ensures.value; bound = c.held_value-in-Floor.ensures.bound })
    (record { value = c.held_value-in-Floor-2.ensures.value; bound = c.held_value-in-Floor-2.ensures.bound })

pub value_at-returns-in-Floor-clause-value : goal.value_at-returns-in-Floor-clause-value
value_at-returns-in-Floor-clause-value t c =
    (again (leaves c.args.dims.now c.args.syms.now) c.args.e.now _ (c.requires.affine, c.requires.within) (valued-Floor (leaves c.args.dims.now c.args.syms.now) c.args.e.now c.in-Floor.a c.in-Floor.b c.held_value-in-Floor.result c.held_value-in-Floor-2.result c.in-Floor.is (c.requires.affine, c.requires.within)
    (record { value = c.held_value-in-Floor.ensures.value; bound = c.held_value-in-Floor.ensures.bound })
    (record { value = c.held_value-in-Floor-2.ensures.value; bound = c.held_value-in-Floor-2.ensures.bound }) c.floor_of.result c.floor_of.ensures)).value

pub value_at-returns-in-Floor-clause-bound : goal.value_at-returns-in-Floor-clause-bound
value_at-returns-in-Floor-clause-bound t c =
    (again (leaves c.args.dims.now c.args.syms.now) c.args.e.now _ (c.requires.affine, c.requires.within) (valued-Floor (leaves c.args.dims.now c.args.syms.now) c.args.e.now c.in-Floor.a c.in-Floor.b c.held_value-in-Floor.result c.held_value-in-Floor-2.result c.in-Floor.is (c.requires.affine, c.requires.within)
    (record { value = c.held_value-in-Floor.ensures.value; bound = c.held_value-in-Floor.ensures.bound })
    (record { value = c.held_value-in-Floor-2.ensures.value; bound = c.held_value-in-Floor-2.ensures.bound }) c.floor_of.result c.floor_of.ensures)).bound

pub value_at-held_value-requires-in-Ceil : goal.value_at-held_value-requires-in-Ceil
value_at-held_value-requires-in-Ceil t c =
    let p = sound-Ceil c.in-Ceil.a c.in-Ceil.b (subst IsSound c.in-Ceil.is (c.requires.affine, c.requires.within)) in
    (search (rules, the_lemmas), (p.0.0, p.0.1))

pub value_at-held_value-requires-in-Ceil-2 : goal.value_at-held_value-requires-in-Ceil-2
value_at-held_value-requires-in-Ceil-2 t c =
    let p = sound-Ceil c.in-Ceil.a c.in-Ceil.b (subst IsSound c.in-Ceil.is (c.requires.affine, c.requires.within)) in
    (search (rules, the_lemmas), (p.1.0, p.1.1))

pub value_at-ceil_of-requires-clause-bound : goal.value_at-ceil_of-requires-clause-bound
value_at-ceil_of-requires-clause-bound t c = room-Ceil (leaves c.args.dims.now c.args.syms.now) c.args.e.now c.in-Ceil.a c.in-Ceil.b c.held_value-in-Ceil.result c.held_value-in-Ceil-2.result c.in-Ceil.is (c.requires.affine, c.requires.within)
    (record { value = c.held_value-in-Ceil.ensures.value; bound = c.held_value-in-Ceil.ensures.bound })
    (record { value = c.held_value-in-Ceil-2.ensures.value; bound = c.held_value-in-Ceil-2.ensures.bound })

pub value_at-ceil_of-requires-clause-divisor : goal.value_at-ceil_of-requires-clause-divisor
value_at-ceil_of-requires-clause-divisor t c = divisor-Ceil (leaves c.args.dims.now c.args.syms.now) c.args.e.now c.in-Ceil.a c.in-Ceil.b c.held_value-in-Ceil.result c.held_value-in-Ceil-2.result c.in-Ceil.is (c.requires.affine, c.requires.within)
    (record { value = c.held_value-in-Ceil.ensures.value; bound = c.held_value-in-Ceil.ensures.bound })
    (record { value = c.held_value-in-Ceil-2.ensures.value; bound = c.held_value-in-Ceil-2.ensures.bound })

pub value_at-returns-in-Ceil-clause-value : goal.value_at-returns-in-Ceil-clause-value
value_at-returns-in-Ceil-clause-value t c =
    (again (leaves c.args.dims.now c.args.syms.now) c.args.e.now _ (c.requires.affine, c.requires.within) (valued-Ceil (leaves c.args.dims.now c.args.syms.now) c.args.e.now c.in-Ceil.a c.in-Ceil.b c.held_value-in-Ceil.result c.held_value-in-Ceil-2.result c.in-Ceil.is (c.requires.affine, c.requires.within)
    (record { value = c.held_value-in-Ceil.ensures.value; bound = c.held_value-in-Ceil.ensures.bound })
    (record { value = c.held_value-in-Ceil-2.ensures.value; bound = c.held_value-in-Ceil-2.ensures.bound }) c.ceil_of.result c.ceil_of.ensures)).value

pub value_at-returns-in-Ceil-clause-bound : goal.value_at-returns-in-Ceil-clause-bound
value_at-returns-in-Ceil-clause-bound t c =
    (again (leaves c.args.dims.now c.args.syms.now) c.args.e.now _ (c.requires.affine, c.requires.within) (valued-Ceil (leaves c.args.dims.now c.args.syms.now) c.args.e.now c.in-Ceil.a c.in-Ceil.b c.held_value-in-Ceil.result c.held_value-in-Ceil-2.result c.in-Ceil.is (c.requires.affine, c.requires.within)
    (record { value = c.held_value-in-Ceil.ensures.value; bound = c.held_value-in-Ceil.ensures.bound })
    (record { value = c.held_value-in-Ceil-2.ensures.value; bound = c.held_value-in-Ceil-2.ensures.bound }) c.ceil_of.result c.ceil_of.ensures)).bound
