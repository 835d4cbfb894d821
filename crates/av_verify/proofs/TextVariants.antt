-- What the definitions give at each variant of a written expression.
use Rattle.std.proofs.Common.{◌≡◌, ℕ, ◌+◌, ◌^◌, Some, None, refl, List, if◌then◌else◌}
use Rattle.std.specs.Prelude.{ℤ, pos, unsigned_abs}
use Rattle.av_affine.specs.Finding.{limited, sum_found}
use Rattle.av_affine.specs.declared.expression.Expr.TheVariants as expr
use Rattle.av_ir.specs.declared.module.ValueId.{ValueId}
use Rattle.av_tree.specs.declared.written.MapText.{MapText}
use Rattle.av_tree.specs.declared.written.ExprText.{ExprText}
use Rattle.av_tree.specs.declared.written.ExprText.TheVariants as text
use Rattle.av_tree.specs.declared.written.ExprText.TheBlock.{shape-the_row-ExprText-0, hidden-the_row-ExprText-0}
use denote.Hole.Carrier.{hidden}
use Rattle.av_verify.specs.Expressions.{node_count, bound_found, is_parameter}
use Rattle.av_verify.specs.Maps.{occur, renamed, with_value, parameter, parameter_value}

pub node_count-Name : (name : List ℕ) → node_count (text.Name name) ≡ 1
unfolding node_count shape-the_row-ExprText-0 hidden-the_row-ExprText-0 hidden
node_count-Name name = refl

pub node_count-Const : (z : ℤ) → node_count (text.Const z) ≡ 1
unfolding node_count shape-the_row-ExprText-0 hidden-the_row-ExprText-0 hidden
node_count-Const z = refl

pub node_count-Neg : (a : ExprText) → node_count (text.Neg a) ≡ node_count a + 1
unfolding node_count shape-the_row-ExprText-0 hidden-the_row-ExprText-0 hidden
node_count-Neg a = refl

pub node_count-Add : (a : ExprText) (b : ExprText) → node_count (text.Add a b) ≡ node_count a + node_count b + 1
unfolding node_count shape-the_row-ExprText-0 hidden-the_row-ExprText-0 hidden
node_count-Add a b = refl

pub node_count-Sub : (a : ExprText) (b : ExprText) → node_count (text.Sub a b) ≡ node_count a + node_count b + 1
unfolding node_count shape-the_row-ExprText-0 hidden-the_row-ExprText-0 hidden
node_count-Sub a b = refl

pub node_count-Mul : (a : ExprText) (b : ExprText) → node_count (text.Mul a b) ≡ node_count a + node_count b + 1
unfolding node_count shape-the_row-ExprText-0 hidden-the_row-ExprText-0 hidden
node_count-Mul a b = refl

pub node_count-Mod : (a : ExprText) (b : ExprText) → node_count (text.Mod a b) ≡ node_count a + node_count b + 1
unfolding node_count shape-the_row-ExprText-0 hidden-the_row-ExprText-0 hidden
node_count-Mod a b = refl

pub node_count-Floor : (a : ExprText) (b : ExprText) → node_count (text.Floor a b) ≡ node_count a + node_count b + 1
unfolding node_count shape-the_row-ExprText-0 hidden-the_row-ExprText-0 hidden
node_count-Floor a b = refl

pub node_count-Ceil : (a : ExprText) (b : ExprText) → node_count (text.Ceil a b) ≡ node_count a + node_count b + 1
unfolding node_count shape-the_row-ExprText-0 hidden-the_row-ExprText-0 hidden
node_count-Ceil a b = refl

pub bound_found-Name : (m : MapText) (name : List ℕ) → bound_found m (text.Name name) ≡ if is_parameter m name then Some (2 ^ 63) else None
unfolding bound_found shape-the_row-ExprText-0 hidden-the_row-ExprText-0 hidden
bound_found-Name m name = refl

pub bound_found-Const : (m : MapText) (z : ℤ) → bound_found m (text.Const z) ≡ limited (unsigned_abs z)
unfolding bound_found shape-the_row-ExprText-0 hidden-the_row-ExprText-0 hidden
bound_found-Const m z = refl

pub bound_found-Neg : (m : MapText) (a : ExprText) → bound_found m (text.Neg a) ≡ None
unfolding bound_found shape-the_row-ExprText-0 hidden-the_row-ExprText-0 hidden
bound_found-Neg m a = refl

pub bound_found-Add : (m : MapText) (a : ExprText) (b : ExprText) → bound_found m (text.Add a b) ≡ sum_found (bound_found m a) (bound_found m b)
unfolding bound_found shape-the_row-ExprText-0 hidden-the_row-ExprText-0 hidden
bound_found-Add m a b = refl

pub bound_found-Sub : (m : MapText) (a : ExprText) (b : ExprText) → bound_found m (text.Sub a b) ≡ sum_found (bound_found m a) (bound_found m b)
unfolding bound_found shape-the_row-ExprText-0 hidden-the_row-ExprText-0 hidden
bound_found-Sub m a b = refl

pub bound_found-Mul : (m : MapText) (a : ExprText) (b : ExprText) → bound_found m (text.Mul a b) ≡ None
unfolding bound_found shape-the_row-ExprText-0 hidden-the_row-ExprText-0 hidden
bound_found-Mul m a b = refl

pub bound_found-Mod : (m : MapText) (a : ExprText) (b : ExprText) → bound_found m (text.Mod a b) ≡ None
unfolding bound_found shape-the_row-ExprText-0 hidden-the_row-ExprText-0 hidden
bound_found-Mod m a b = refl

pub bound_found-Floor : (m : MapText) (a : ExprText) (b : ExprText) → bound_found m (text.Floor a b) ≡ None
unfolding bound_found shape-the_row-ExprText-0 hidden-the_row-ExprText-0 hidden
bound_found-Floor m a b = refl

pub bound_found-Ceil : (m : MapText) (a : ExprText) (b : ExprText) → bound_found m (text.Ceil a b) ≡ None
unfolding bound_found shape-the_row-ExprText-0 hidden-the_row-ExprText-0 hidden
bound_found-Ceil m a b = refl

pub occur-Name : (m : MapText) (operands used : List ValueId) (name : List ℕ) → occur m operands used (text.Name name) ≡ with_value used (parameter_value m operands name)
unfolding occur shape-the_row-ExprText-0 hidden-the_row-ExprText-0 hidden
occur-Name m operands used name = refl

pub occur-Const : (m : MapText) (operands used : List ValueId) (z : ℤ) → occur m operands used (text.Const z) ≡ used
unfolding occur shape-the_row-ExprText-0 hidden-the_row-ExprText-0 hidden
occur-Const m operands used z = refl

pub occur-Neg : (m : MapText) (operands used : List ValueId) (a : ExprText) → occur m operands used (text.Neg a) ≡ used
unfolding occur shape-the_row-ExprText-0 hidden-the_row-ExprText-0 hidden
occur-Neg m operands used a = refl

pub occur-Add : (m : MapText) (operands used : List ValueId) (a : ExprText) (b : ExprText) → occur m operands used (text.Add a b) ≡ occur m operands (occur m operands used a) b
unfolding occur shape-the_row-ExprText-0 hidden-the_row-ExprText-0 hidden
occur-Add m operands used a b = refl

pub occur-Sub : (m : MapText) (operands used : List ValueId) (a : ExprText) (b : ExprText) → occur m operands used (text.Sub a b) ≡ occur m operands (occur m operands used a) b
unfolding occur shape-the_row-ExprText-0 hidden-the_row-ExprText-0 hidden
occur-Sub m operands used a b = refl

pub occur-Mul : (m : MapText) (operands used : List ValueId) (a : ExprText) (b : ExprText) → occur m operands used (text.Mul a b) ≡ used
unfolding occur shape-the_row-ExprText-0 hidden-the_row-ExprText-0 hidden
occur-Mul m operands used a b = refl

pub occur-Mod : (m : MapText) (operands used : List ValueId) (a : ExprText) (b : ExprText) → occur m operands used (text.Mod a b) ≡ used
unfolding occur shape-the_row-ExprText-0 hidden-the_row-ExprText-0 hidden
occur-Mod m operands used a b = refl

pub occur-Floor : (m : MapText) (operands used : List ValueId) (a : ExprText) (b : ExprText) → occur m operands used (text.Floor a b) ≡ used
unfolding occur shape-the_row-ExprText-0 hidden-the_row-ExprText-0 hidden
occur-Floor m operands used a b = refl

pub occur-Ceil : (m : MapText) (operands used : List ValueId) (a : ExprText) (b : ExprText) → occur m operands used (text.Ceil a b) ≡ used
unfolding occur shape-the_row-ExprText-0 hidden-the_row-ExprText-0 hidden
occur-Ceil m operands used a b = refl

pub renamed-Name : (m : MapText) (operands used : List ValueId) (name : List ℕ) → renamed m operands used (text.Name name) ≡ parameter m operands used name
unfolding renamed shape-the_row-ExprText-0 hidden-the_row-ExprText-0 hidden
renamed-Name m operands used name = refl

pub renamed-Const : (m : MapText) (operands used : List ValueId) (z : ℤ) → renamed m operands used (text.Const z) ≡ expr.Const z
unfolding renamed shape-the_row-ExprText-0 hidden-the_row-ExprText-0 hidden
renamed-Const m operands used z = refl

pub renamed-Neg : (m : MapText) (operands used : List ValueId) (a : ExprText) → renamed m operands used (text.Neg a) ≡ expr.Const (pos 0)
unfolding renamed shape-the_row-ExprText-0 hidden-the_row-ExprText-0 hidden
renamed-Neg m operands used a = refl

pub renamed-Add : (m : MapText) (operands used : List ValueId) (a : ExprText) (b : ExprText) → renamed m operands used (text.Add a b) ≡ expr.Add (renamed m operands used a) (renamed m operands used b)
unfolding renamed shape-the_row-ExprText-0 hidden-the_row-ExprText-0 hidden
renamed-Add m operands used a b = refl

pub renamed-Sub : (m : MapText) (operands used : List ValueId) (a : ExprText) (b : ExprText) → renamed m operands used (text.Sub a b) ≡ expr.Sub (renamed m operands used a) (renamed m operands used b)
unfolding renamed shape-the_row-ExprText-0 hidden-the_row-ExprText-0 hidden
renamed-Sub m operands used a b = refl

pub renamed-Mul : (m : MapText) (operands used : List ValueId) (a : ExprText) (b : ExprText) → renamed m operands used (text.Mul a b) ≡ expr.Const (pos 0)
unfolding renamed shape-the_row-ExprText-0 hidden-the_row-ExprText-0 hidden
renamed-Mul m operands used a b = refl

pub renamed-Mod : (m : MapText) (operands used : List ValueId) (a : ExprText) (b : ExprText) → renamed m operands used (text.Mod a b) ≡ expr.Const (pos 0)
unfolding renamed shape-the_row-ExprText-0 hidden-the_row-ExprText-0 hidden
renamed-Mod m operands used a b = refl

pub renamed-Floor : (m : MapText) (operands used : List ValueId) (a : ExprText) (b : ExprText) → renamed m operands used (text.Floor a b) ≡ expr.Const (pos 0)
unfolding renamed shape-the_row-ExprText-0 hidden-the_row-ExprText-0 hidden
renamed-Floor m operands used a b = refl

pub renamed-Ceil : (m : MapText) (operands used : List ValueId) (a : ExprText) (b : ExprText) → renamed m operands used (text.Ceil a b) ≡ expr.Const (pos 0)
unfolding renamed shape-the_row-ExprText-0 hidden-the_row-ExprText-0 hidden
renamed-Ceil m operands used a b = refl

pub ruleset counts = (node_count-Name, node_count-Const, node_count-Neg, node_count-Add, node_count-Sub, node_count-Mul, node_count-Mod, node_count-Floor, node_count-Ceil)

pub ruleset found = (bound_found-Name, bound_found-Const, bound_found-Neg, bound_found-Add, bound_found-Sub, bound_found-Mul, bound_found-Mod, bound_found-Floor, bound_found-Ceil)

pub ruleset occurs = (occur-Name, occur-Const, occur-Neg, occur-Add, occur-Sub, occur-Mul, occur-Mod, occur-Floor, occur-Ceil)

pub ruleset renames = (renamed-Name, renamed-Const, renamed-Neg, renamed-Add, renamed-Sub, renamed-Mul, renamed-Mod, renamed-Floor, renamed-Ceil)
