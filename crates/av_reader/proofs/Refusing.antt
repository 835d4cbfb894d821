-- What is told of a text that is refused, and that it is no tree; and that a text that isn't is one tree.
use Rattle.std.proofs.Common.{◌≡◌, ◌≢◌, ℕ, ◌+◌, inl, inr, List, Some, None, length, take, drop, refl, sym, ap, subst, ◌∙◌, arith}
use Rattle.std.proofs.lemmas.List.{take-append-drop, length-map}
use Rattle.av_lex.specs.declared.token.Token.{Token}
use Rattle.av_tree.specs.declared.class.Class.{Class}
use Rattle.av_tree.specs.declared.node.Tree.{Tree}
use Rattle.av_derive.specs.declared.machine.Event.{Event}
use Rattle.av_derive.specs.declared.machine.Limits.{Limits}
use Rattle.av_derive.specs.ClassOf.{classes_of}
use Rattle.av_derive.specs.declared.machine.Stop.{Stop}
use Rattle.av_derive.specs.declared.machine.Stop.TheVariants as stop
use Rattle.av_derive.specs.Derivation.{Derived, DerivesFile, IsDeepAt, IsOnly, IsPlainAt, IsWrongAt, Viable}
use Rattle.av_reader.specs.declared.reading.ReadRefusal.{ReadRefusal}
use Rattle.av_reader.specs.declared.reading.ReadRefusal.TheVariants as refusal
use Rattle.av_reader.specs.Building.{tree_of}
use Rattle.av_reader.specs.Reading.{IsRefusal, IsTree, place_at, the_limits}
use Rattle.av_reader.proofs.Typed.{makes-tree}

none-derived : (limits : Limits) (cs : List Class) (at : ℕ) (es : List Event) → IsWrongAt limits cs at → Derived limits cs es → ⊥
none-derived limits cs at es w d =
    elim w [
      | inl begins ↦ begins.1 (drop (at + 1) cs) es (subst (λ (l : List Class). Derived limits l es) (sym (take-append-drop (at + 1) cs)) d)
      | inr all ↦ all.1 es d
    ]

pub no-tree : (bytes : List ℕ) (tokens : List Token) (cs : List Class) (at : ℕ) → cs ≡ classes_of bytes tokens → IsWrongAt the_limits cs at
    → (tree : Tree) → IsTree bytes tokens tree → ⊥
no-tree bytes tokens cs at e w tree t =
    none-derived the_limits cs at t.events w (subst (λ (l : List Class). Derived the_limits l t.events) (sym e) t.derived)

some-same : (a b : Tree) → Some a ≡ Some b → a ≡ b
some-same a b e = cc

pub is-tree : (bytes : List ℕ) (tokens : List Token) (cs : List Class) (es : List Event) (tree : Tree) → cs ≡ classes_of bytes tokens → Derived the_limits cs es
    → tree_of bytes tokens es ≡ Some tree → IsTree bytes tokens tree
is-tree bytes tokens cs es tree e d m = record { events = es; derived = subst (λ (l : List Class). Derived the_limits l es) e d; makes = m }

pub only-tree : (bytes : List ℕ) (tokens : List Token) (cs : List Class) (es : List Event) (tree : Tree) → cs ≡ classes_of bytes tokens → IsOnly cs es
    → tree_of bytes tokens es ≡ Some tree → (other : Tree) → IsTree bytes tokens other → other ≡ tree
only-tree bytes tokens cs es tree e only m other t =
    let d : DerivesFile cs t.events = subst (λ (l : List Class). DerivesFile l t.events) (sym e) t.derived.derives in
    some-same other tree (sym t.makes ∙ ap (tree_of bytes tokens) (only t.events d) ∙ m)

some-none : (a : Tree) → Some a ≡ None → ⊥
some-none a e = absurd (cc)

pub not-none : (bytes : List ℕ) (tokens : List Token) (cs : List Class) (es : List Event) → cs ≡ classes_of bytes tokens → DerivesFile cs es
    → tree_of bytes tokens es ≡ None → ⊥
not-none bytes tokens cs es e d none =
    let all : length cs ≡ length tokens = ap (λ (l : List Class). length l) e ∙ length-map tokens _ in
    let m = makes-tree bytes tokens cs es (omega arith) d in
    some-none m.tree (sym m.makes ∙ none)

wrong-told : (bytes : List ℕ) (tokens : List Token) (cs : List Class) (at place : ℕ) → cs ≡ classes_of bytes tokens → place ≡ place_at bytes tokens at
    → IsWrongAt the_limits cs at → Viable the_limits (take at cs) → IsPlainAt cs at → IsRefusal bytes tokens (refusal.NotAModule place)
wrong-told bytes tokens cs at place e stands w v k = record {
  at = at;
  stands = stands;
  completable = subst (λ (l : List Class). Viable the_limits (take at l)) e v;
  wrong = subst (λ (l : List Class). IsWrongAt the_limits l at) e w;
  holds = subst (λ (l : List Class). IsPlainAt l at) e k;
}

deep-told : (bytes : List ℕ) (tokens : List Token) (cs : List Class) (at place : ℕ) → cs ≡ classes_of bytes tokens → place ≡ place_at bytes tokens at
    → IsWrongAt the_limits cs at → Viable the_limits (take at cs) → IsDeepAt cs at → IsRefusal bytes tokens (refusal.TooDeep place)
deep-told bytes tokens cs at place e stands w v k = record {
  at = at;
  stands = stands;
  completable = subst (λ (l : List Class). Viable the_limits (take at l)) e v;
  wrong = subst (λ (l : List Class). IsWrongAt the_limits l at) e w;
  holds = subst (λ (l : List Class). IsDeepAt l at) e k;
}

wrong-is : stop.Wrong ≢ stop.NoMemory
wrong-is e = absurd (cc)

deep-is : stop.TooDeep ≢ stop.NoMemory
deep-is e = absurd (cc)

pub told : (bytes : List ℕ) (tokens : List Token) (cs : List Class) (at place : ℕ) (why : Stop) (told_of : ReadRefusal)
    → cs ≡ classes_of bytes tokens → place ≡ place_at bytes tokens at
    → (why ≡ stop.Wrong → told_of ≡ refusal.NotAModule place) → (why ≡ stop.TooDeep → told_of ≡ refusal.TooDeep place) → (why ≡ stop.NoMemory → told_of ≡ refusal.NoMemory)
    → (why ≢ stop.NoMemory → IsWrongAt the_limits cs at) → (why ≢ stop.NoMemory → Viable the_limits (take at cs))
    → (why ≡ stop.TooDeep → IsDeepAt cs at) → (why ≡ stop.Wrong → IsPlainAt cs at) → IsRefusal bytes tokens told_of
told bytes tokens cs at place stop.Wrong told_of e stands f g h w v deep plain =
    subst (λ (r : ReadRefusal). IsRefusal bytes tokens r) (sym (f refl)) (wrong-told bytes tokens cs at place e stands (w wrong-is) (v wrong-is) (plain refl))
told bytes tokens cs at place stop.TooDeep told_of e stands f g h w v deep plain =
    subst (λ (r : ReadRefusal). IsRefusal bytes tokens r) (sym (g refl)) (deep-told bytes tokens cs at place e stands (w deep-is) (v deep-is) (deep refl))
told bytes tokens cs at place stop.NoMemory told_of e stands f g h w v deep plain =
    subst (λ (r : ReadRefusal). IsRefusal bytes tokens r) (sym (h refl)) tt

pub memory-told : (bytes : List ℕ) (tokens : List Token) (told_of : ReadRefusal) → told_of ≡ refusal.NoMemory → IsRefusal bytes tokens told_of
memory-told bytes tokens told_of e = subst (λ (r : ReadRefusal). IsRefusal bytes tokens r) (sym e) tt
