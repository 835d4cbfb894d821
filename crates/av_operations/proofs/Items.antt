-- What an item takes off a stack: one value, or two.
use Rattle.std.proofs.Common.{◌≡◌, List, [], ◌∷◌, Some, None, refl}
use Rattle.av_dialects.specs.declared.item.Item.TheVariants as item
use Rattle.av_dialects.specs.declared.item.Key.{Key}
use Rattle.av_dialects.specs.declared.item.Key.TheVariants as key
use Rattle.av_dialects.specs.declared.item.Slots.{Slots}
use Rattle.av_dialects.specs.declared.item.Wanted.{Wanted}
use Rattle.av_dialects.specs.declared.item.Wanted.TheVariants as wanted
use Rattle.av_operations.specs.Taking.{item_taken}
use Rattle.av_tree.specs.declared.written.TypeText.{TypeText}
use Rattle.av_values.specs.declared.gifts.Change.TheVariants as change
use Rattle.av_values.specs.declared.gifts.Gift.{Gift}
use Rattle.av_values.specs.declared.value.Value.{Value}
use Rattle.av_values.specs.Made.{gift, taken}
use Rattle.av_values.specs.Sorts.{Sort, Of, All, a_type, on_top}
use Rattle.av_values.proofs.Taking.{taken-end, taken-none, taken-top}

pub one-taken : {A : Type 0} (t : Sort) (make : Of t × Unit {0} → A) (top : Of t) (made : A) (before under : List Value)
    → on_top t before ≡ Some (top, under) → make (top, tt) ≡ made → taken (t ∷ []) make before ≡ Some (made, under)
one-taken t make top made before under e f = taken-top t [] make top before under _ e (taken-end _ made under under f refl)

pub two-taken : {A : Type 0} (t s : Sort) (make : Of t × (Of s × Unit {0}) → A) (top : Of t) (next : Of s) (made : A) (before between under : List Value)
    → on_top t before ≡ Some (top, between) → on_top s between ≡ Some (next, under) → make (top, (next, tt)) ≡ made
    → taken (t ∷ s ∷ []) make before ≡ Some (made, under)
two-taken t s make top next made before between under e f g = taken-top t (s ∷ []) make top before between _ e (one-taken s _ next made between under f g)

pub one-missing : {A : Type 0} (t : Sort) (ss : List Sort) (make : Of t × All ss → A) (before : List Value) → on_top t before ≡ None → taken (t ∷ ss) make before ≡ None
one-missing t ss make before e = taken-none t ss make before e

pub next-missing : {A : Type 0} (t s : Sort) (ss : List Sort) (make : Of t × (Of s × All ss) → A) (top : Of t) (before between : List Value)
    → on_top t before ≡ Some (top, between) → on_top s between ≡ None → taken (t ∷ s ∷ ss) make before ≡ None
next-missing t s ss make top before between e f = taken-top t (s ∷ ss) make top before between None e (taken-none s ss _ between f)

-- without values
pub none-taken : {A : Type 0} (make : Unit {0} → A) (made : A) (values : List Value) → make tt ≡ made → taken [] make values ≡ Some (made, values)
none-taken make made values e = taken-end make made values values e refl

pub ruleset taking = (one-taken, two-taken, one-missing, next-missing)

-- a word in angle brackets is one without them
pub angled-as-word : (k : Key) (values : List Value) → item_taken (item.Angled k) values ≡ item_taken (item.Word k) values
unfolding item_taken
angled-as-word key.Predicate values = refl
angled-as-word key.Kind values = refl
angled-as-word key.StaticPosition values = refl
angled-as-word key.Mask values = refl

-- a type of any kind is one value
pub type-taken : (w : Wanted) (s : Slots) (type : TypeText) (made : Gift) (before under : List Value) → on_top a_type before ≡ Some (type, under)
    → gift [] (change.Filled s type) ≡ made → item_taken (item.Type w s) before ≡ Some (made, under)
unfolding item_taken
type-taken wanted.Any s type made before under e f = one-taken a_type _ type made before under e f
type-taken wanted.Buffer s type made before under e f = one-taken a_type _ type made before under e f
type-taken wanted.Vector s type made before under e f = one-taken a_type _ type made before under e f

pub type-missing : (w : Wanted) (s : Slots) (before : List Value) → on_top a_type before ≡ None → item_taken (item.Type w s) before ≡ None
unfolding item_taken
type-missing wanted.Any s before e = one-missing a_type [] _ before e
type-missing wanted.Buffer s before e = one-missing a_type [] _ before e
type-missing wanted.Vector s before e = one-missing a_type [] _ before e
