-- Expanding a name by a lighter row lowers what weighs on the stack.
use Rattle.std.proofs.Common.{◌≡◌, ℕ, ◌+◌, ◌<◌, Bool, true, false, ◌&&◌, ◌||◌, not, cond, List, [], ◌∷◌, ◌++◌, IsTrue, refl, nat_lt, arith}
use Rattle.std.proofs.lemmas.Bool.Decides.{nat_tests}
use Rattle.av_tree.specs.declared.table.Symbol.{Symbol}
use Rattle.av_tree.specs.declared.table.Symbol.TheVariants as symbol
use Rattle.av_tree.specs.declared.table.Rule.{Rule}
use Rattle.av_tree.specs.Table.{lead, has_token, is_nullable, weight, is_lighter, symbols_of, name_of}

lead_of : (nullable token : Bool) (w r y z : ℕ) → z ≡ cond token r (r + y) → w + cond nullable z 0 ≡ cond (not nullable || token) (w + cond nullable r 0) ((w + cond nullable r 0) + y)
lead_of true true w r y z e = omega arith
lead_of true false w r y z e = omega arith
lead_of false true w r y z e = refl
lead_of false false w r y z e = refl

pub lead-append : (xs ys : List Symbol) → lead (xs ++ ys) ≡ cond (has_token xs) (lead xs) (lead xs + lead ys)
lead-append [] ys = omega arith
lead-append (symbol.Rows n ∷ rest) ys = lead_of (is_nullable n) (has_token rest) (weight n) (lead rest) (lead ys) (lead (rest ++ ys)) (lead-append rest ys)
lead-append (symbol.Sign s ∷ rest) ys = refl
lead-append (symbol.Word s ∷ rest) ys = refl
lead-append (symbol.Token s ∷ rest) ys = refl

lighter_of : (nullable token : Bool) (w r y z : ℕ) → z ≡ cond token r (r + y) → r < w → IsTrue (nullable || token) → z < w + cond nullable y 0
lighter_of true true w r y z e lt t = omega arith
lighter_of true false w r y z e lt t = omega arith
lighter_of false true w r y z e lt t = omega arith
lighter_of false false w r y z e lt t = absurd (cc)

both : (a b : Bool) → IsTrue (a && b) → IsTrue a × IsTrue b
both true b t = (refl, t)
both false b t = absurd (cc)

less : (a b : ℕ) → IsTrue (nat_lt a b) → a < b
less a b t = grind (arith, nat_tests)

pub expanded : (r : Rule) (below : List Symbol) → IsTrue (is_lighter r) → lead (symbols_of r ++ below) < lead (symbol.Rows (name_of r) ∷ below)
expanded r below t =
    let parts : IsTrue (nat_lt (lead (symbols_of r)) (weight (name_of r))) × IsTrue (is_nullable (name_of r) || has_token (symbols_of r)) = both _ _ t in
    lighter_of (is_nullable (name_of r)) (has_token (symbols_of r)) (weight (name_of r)) (lead (symbols_of r)) (lead below)
    (lead (symbols_of r ++ below)) (lead-append (symbols_of r) below) (less _ _ parts.0) parts.1
