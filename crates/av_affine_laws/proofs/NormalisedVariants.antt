-- What the values that occur and other names are at each variant of an expression, for the proofs of callers.
use Rattle.std.proofs.Common.{◌≡◌, refl}
use Rattle.std.specs.Prelude.{ℤ}
use Rattle.av_affine.specs.declared.expression.Leaf.{Leaf}
use Rattle.av_affine.specs.declared.expression.Expr.{Expr}
use Rattle.av_affine.specs.declared.expression.Expr.TheVariants.{Param, Const, Neg, Add, Sub, Mul, Mod, Floor, Ceil}
use Rattle.av_affine.specs.declared.expression.Expr.TheBlock.{shape-the_row-Expr-0, hidden-the_row-Expr-0}
use denote.Hole.Carrier.{hidden}
use Rattle.av_affine_laws.specs.Normalised.{Operands, with_parameter, occur, renamed}

pub occur-Param : (given used : Operands) (leaf : Leaf) → occur given used (Param leaf) ≡ with_parameter given used leaf
unfolding occur shape-the_row-Expr-0 hidden-the_row-Expr-0 hidden
occur-Param given used leaf = refl

pub occur-Const : (given used : Operands) (z : ℤ) → occur given used (Const z) ≡ used
unfolding occur shape-the_row-Expr-0 hidden-the_row-Expr-0 hidden
occur-Const given used z = refl

pub occur-Neg : (given used : Operands) (a : Expr) → occur given used (Neg a) ≡ occur given used a
unfolding occur shape-the_row-Expr-0 hidden-the_row-Expr-0 hidden
occur-Neg given used a = refl

pub occur-Add : (given used : Operands) (a b : Expr) → occur given used (Add a b) ≡ occur given (occur given used a) b
unfolding occur shape-the_row-Expr-0 hidden-the_row-Expr-0 hidden
occur-Add given used a b = refl

pub occur-Sub : (given used : Operands) (a b : Expr) → occur given used (Sub a b) ≡ occur given (occur given used a) b
unfolding occur shape-the_row-Expr-0 hidden-the_row-Expr-0 hidden
occur-Sub given used a b = refl

pub occur-Mul : (given used : Operands) (a b : Expr) → occur given used (Mul a b) ≡ occur given (occur given used a) b
unfolding occur shape-the_row-Expr-0 hidden-the_row-Expr-0 hidden
occur-Mul given used a b = refl

pub occur-Mod : (given used : Operands) (a b : Expr) → occur given used (Mod a b) ≡ occur given (occur given used a) b
unfolding occur shape-the_row-Expr-0 hidden-the_row-Expr-0 hidden
occur-Mod given used a b = refl

pub occur-Floor : (given used : Operands) (a b : Expr) → occur given used (Floor a b) ≡ occur given (occur given used a) b
unfolding occur shape-the_row-Expr-0 hidden-the_row-Expr-0 hidden
occur-Floor given used a b = refl

pub occur-Ceil : (given used : Operands) (a b : Expr) → occur given used (Ceil a b) ≡ occur given (occur given used a) b
unfolding occur shape-the_row-Expr-0 hidden-the_row-Expr-0 hidden
occur-Ceil given used a b = refl

pub renamed-Param : (f : Leaf → Leaf) (leaf : Leaf) → renamed f (Param leaf) ≡ Param (f leaf)
unfolding renamed shape-the_row-Expr-0 hidden-the_row-Expr-0 hidden
renamed-Param f leaf = refl

pub renamed-Const : (f : Leaf → Leaf) (z : ℤ) → renamed f (Const z) ≡ Const z
unfolding renamed shape-the_row-Expr-0 hidden-the_row-Expr-0 hidden
renamed-Const f z = refl

pub renamed-Neg : (f : Leaf → Leaf) (a : Expr) → renamed f (Neg a) ≡ Neg (renamed f a)
unfolding renamed shape-the_row-Expr-0 hidden-the_row-Expr-0 hidden
renamed-Neg f a = refl

pub renamed-Add : (f : Leaf → Leaf) (a b : Expr) → renamed f (Add a b) ≡ Add (renamed f a) (renamed f b)
unfolding renamed shape-the_row-Expr-0 hidden-the_row-Expr-0 hidden
renamed-Add f a b = refl

pub renamed-Sub : (f : Leaf → Leaf) (a b : Expr) → renamed f (Sub a b) ≡ Sub (renamed f a) (renamed f b)
unfolding renamed shape-the_row-Expr-0 hidden-the_row-Expr-0 hidden
renamed-Sub f a b = refl

pub renamed-Mul : (f : Leaf → Leaf) (a b : Expr) → renamed f (Mul a b) ≡ Mul (renamed f a) (renamed f b)
unfolding renamed shape-the_row-Expr-0 hidden-the_row-Expr-0 hidden
renamed-Mul f a b = refl

pub renamed-Mod : (f : Leaf → Leaf) (a b : Expr) → renamed f (Mod a b) ≡ Mod (renamed f a) (renamed f b)
unfolding renamed shape-the_row-Expr-0 hidden-the_row-Expr-0 hidden
renamed-Mod f a b = refl

pub renamed-Floor : (f : Leaf → Leaf) (a b : Expr) → renamed f (Floor a b) ≡ Floor (renamed f a) (renamed f b)
unfolding renamed shape-the_row-Expr-0 hidden-the_row-Expr-0 hidden
renamed-Floor f a b = refl

pub renamed-Ceil : (f : Leaf → Leaf) (a b : Expr) → renamed f (Ceil a b) ≡ Ceil (renamed f a) (renamed f b)
unfolding renamed shape-the_row-Expr-0 hidden-the_row-Expr-0 hidden
renamed-Ceil f a b = refl

-- each definition at all variants, for the tactics
pub ruleset occurs = (occur-Param, occur-Const, occur-Neg, occur-Add, occur-Sub, occur-Mul, occur-Mod, occur-Floor, occur-Ceil)

pub ruleset renames = (renamed-Param, renamed-Const, renamed-Neg, renamed-Add, renamed-Sub, renamed-Mul, renamed-Mod, renamed-Floor, renamed-Ceil)
