-- The count of signs and words of calculation that the events of a derivation keep.
use Rattle.std.proofs.Common.{◌≡◌, ℕ, ◌+◌, ◌≤◌, Bool, true, false, not, ◌&&◌, ◌||◌, IsTrue, List, [], ◌∷◌, ◌++◌, refl, sym, ap, subst, arith}
use Rattle.std.proofs.lemmas.Bool.Decides.{nat_tests}
use Rattle.std.specs.Prelude.{nat_le, if◌then◌else◌}
use Rattle.av_tree.specs.declared.class.Class.{Class}
use Rattle.av_tree.specs.declared.class.Class.TheVariants as class
use Rattle.av_tree.specs.declared.class.Keyword.TheVariants as key
use Rattle.av_tree.specs.declared.table.Test.{Test}
use Rattle.av_tree.specs.declared.table.Test.TheVariants as test
use Rattle.av_tree.specs.declared.table.Symbol.{Symbol}
use Rattle.av_tree.specs.declared.table.Symbol.TheVariants as symbol
use Rattle.av_tree.specs.declared.table.Name.{Name}
use Rattle.av_tree.specs.declared.table.Rule.{Rule}
use Rattle.av_tree.specs.Table.{symbols_of, name_of}
use Rattle.av_tree.specs.Classes.{fits_of}
use Rattle.av_tree.specs.Signs.{begins_expression, counts_sign}
use Rattle.av_derive.specs.declared.machine.Event.{Event}
use Rattle.av_derive.specs.declared.machine.Event.TheVariants as event
use Rattle.av_derive.specs.Derivation.{Derives, nothing_left, by_sign, by_word, by_token, by_row, signs_with, WithinSigns}
use Rattle.av_derive.specs.State.{signs_after}
use Rattle.av_read_laws.specs.Making.{is_calculation}
use Rattle.av_read_laws.proofs.Fair.{is_deep, is_inner, all_inner, all_outer, one_if, is_calculation_test, asked, fair}

-- how many signs and words of calculation are among the classes
abbrev pub signs_in : List Class → ℕ
signs_in [] = 0
signs_in (c ∷ cs) = one_if (is_calculation c) + signs_in cs

pub both : (a b : Bool) → IsTrue (a && b) → IsTrue a × IsTrue b
both true b h = (refl, h)
both false b h = absurd (cc)

and-both : (a b : Bool) → IsTrue a → IsTrue b → IsTrue (a && b)
and-both true b h k = k
and-both false b h k = absurd (cc)

second : (a b : Bool) → IsTrue a → IsTrue (not a || b) → IsTrue b
second true b h k = k
second false b h k = absurd (cc)

other : (a b : Bool) → IsTrue (not a) → IsTrue (a || b) → IsTrue b
other true b h k = absurd (cc)
other false b h k = k

pub not-true : (a : Bool) → IsTrue (not a) → a ≡ false
not-true true h = absurd (cc)
not-true false h = refl

at-most : (a b : ℕ) → IsTrue (nat_le a b) → a ≤ b
at-most a b h = grind (arith, nat_tests)

-- a row that is counted asks for a sign or word itself
pub counted-asked : (r : Rule) → (if counts_sign r then 1 else 0) ≤ asked (symbols_of r)
counted-asked r = at-most _ _ (both (nat_le (if counts_sign r then 1 else 0) (asked (symbols_of r))) _ (fair r)).0

-- within an expression only what stands within it follows, and no other begins
pub row-inner : (r : Rule) → IsTrue (is_inner (name_of r)) → IsTrue (all_inner (symbols_of r)) × (begins_expression r ≡ false)
row-inner r h =
    let parts = both _ _ (both (nat_le (if counts_sign r then 1 else 0) (asked (symbols_of r))) _ (fair r)).1 in
    let inner = both (all_inner (symbols_of r)) (not (begins_expression r)) (second (is_inner (name_of r)) _ h parts.0) in
    (inner.0, not-true (begins_expression r) inner.1)

-- elsewhere what stands within an expression follows where one begins, and nothing is counted where none does
pub row-outer : (r : Rule) → IsTrue (not (is_deep (name_of r)))
    → IsTrue (if begins_expression r then all_inner (symbols_of r) else all_outer (symbols_of r) && not (counts_sign r))
row-outer r h =
    let parts = both _ _ (both (nat_le (if counts_sign r then 1 else 0) (asked (symbols_of r))) _ (fair r)).1 in
    other (is_deep (name_of r)) _ h parts.1

pub inner-append : (xs ss : List Symbol) → IsTrue (all_inner xs) → IsTrue (all_inner ss) → IsTrue (all_inner (xs ++ ss))
inner-append [] ss h k = k
inner-append (symbol.Sign s ∷ xs) ss h k = inner-append xs ss h k
inner-append (symbol.Word w ∷ xs) ss h k = inner-append xs ss h k
inner-append (symbol.Token t ∷ xs) ss h k = inner-append xs ss h k
inner-append (symbol.Rows x ∷ xs) ss h k =
    let parts = both (is_inner x) (all_inner xs) h in
    and-both (is_inner x) (all_inner (xs ++ ss)) parts.0 (inner-append xs ss parts.1 k)

asked-append : (xs ss : List Symbol) → asked (xs ++ ss) ≡ asked xs + asked ss
asked-append [] ss = omega arith
asked-append (symbol.Sign s ∷ xs) ss = omega (arith, asked-append xs ss)
asked-append (symbol.Word w ∷ xs) ss = omega (arith, asked-append xs ss)
asked-append (symbol.Token t ∷ xs) ss = omega (arith, asked-append xs ss)
asked-append (symbol.Rows x ∷ xs) ss = asked-append xs ss

-- a word that fits the test of divisions is one of calculation
test-asked : (t : Test) (c : Class) → IsTrue (fits_of t c) → one_if (is_calculation_test t) ≤ one_if (is_calculation c)
test-asked test.Division (class.Word key.Division) h = omega arith
test-asked test.Division c h = absurd (cc)
test-asked t c h = omega arith

-- the events of symbols within an expression keep its limit
pub record Inner (most before : ℕ) (ss : List Symbol) (cs : List Class) (es : List Event) : Type 0 where
  pub least : asked ss ≤ signs_in cs
  pub within : WithinSigns most before es
  pub after : signs_after before es + asked ss ≤ before + signs_in cs

-- of a derivation from symbols within an expression
pub inner : {n : ℕ} {ss : List Symbol} {cs : List Class} {es : List Event} (most before : ℕ) → Derives n ss cs es → IsTrue (all_inner ss)
    → before + signs_in cs ≤ most + asked ss → Inner most before ss cs es
inner most before nothing_left h k = record { least = omega arith; within = tt; after = omega arith }
inner most before (by_sign {s = s} {c = c} e d) h k =
    let same : one_if (is_calculation c) ≡ one_if (is_calculation (class.Sign s)) = ap (λ (x : Class). one_if (is_calculation x)) e in
    let rest = inner most before d h (omega arith) in
    record { least = omega (arith, rest.least); within = rest.within; after = omega (arith, rest.after) }
inner most before (by_word {w = w} {c = c} e d) h k =
    let same : one_if (is_calculation c) ≡ one_if (is_calculation (class.Word w)) = ap (λ (x : Class). one_if (is_calculation x)) e in
    let rest = inner most before d h (omega arith) in
    record { least = omega (arith, rest.least); within = rest.within; after = omega (arith, rest.after) }
inner most before (by_token {t = t} {c = c} e d) h k =
    let less : one_if (is_calculation_test t) ≤ one_if (is_calculation c) = test-asked t c e in
    let rest = inner most before d h (omega arith) in
    record { least = omega (arith, rest.least); within = rest.within; after = omega (arith, rest.after) }
inner most before (by_row {x = x} {ss = ss} {cs = cs} r e d) h k =
    let parts = both (is_inner x) (all_inner ss) h in
    let row = row-inner r (subst (λ (y : Name). IsTrue (is_inner y)) (sym e) parts.0) in
    let counted : (if counts_sign r then 1 else 0) ≤ asked (symbols_of r) = counted-asked r in
    let with : signs_with r before ≡ before + (if counts_sign r then 1 else 0) =
    ap (λ (b : Bool). (if b then 0 else before) + (if counts_sign r then 1 else 0)) row.1 in
    let joined : asked (symbols_of r ++ ss) ≡ asked (symbols_of r) + asked ss = asked-append (symbols_of r) ss in
    let rest = inner most (signs_with r before) d (inner-append (symbols_of r) ss row.0 parts.1) (omega arith) in
    let least : asked (symbols_of r ++ ss) ≤ signs_in cs = rest.least in
    record { least = omega arith; within = (omega arith, rest.within); after = omega (arith, rest.after) }

pub signs-join : (most before : ℕ) (es rest : List Event) → WithinSigns most before es → WithinSigns most (signs_after before es) rest
    → WithinSigns most before (es ++ rest)
signs-join most before [] rest w v = v
signs-join most before (event.Token k ∷ es) rest w v = signs-join most before es rest w v
signs-join most before (event.Row r k ∷ es) rest w v = (w.0, signs-join most (signs_with r before) es rest w.1 v)
