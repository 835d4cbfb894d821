-- Rules are asked in the order of their codes, so the first that fails has the smallest code of those that fail.
use Rattle.std.proofs.Common.{◌≡◌, ℕ, ◌<◌, ◌≤◌, Bool, true, false, ◌&&◌, nat_lt, List, [], ◌∷◌, length, Option, None, Some, MatchOption, refl, sym, subst, arith}
use Rattle.std.specs.Prelude.{Contains}
use Rattle.std.specs.List.{All}
use Rattle.std.proofs.lemmas.List.Elements.{All-nil, All-cons, All-weaker, Contains-append_right}
use Rattle.av_verify.specs.declared.refusal.Code.{Code}
use Rattle.av_verify.specs.declared.refusal.Rule.{Rule}
use Rattle.av_verify.specs.Accesses.{load_rules, store_rules}
use Rattle.av_verify.specs.Arith.{constant_rules, binary_rules}
use Rattle.av_verify.specs.Codes.{asks, first_failing, number_of_code}
use Rattle.av_verify.specs.Ends.{end_rules}
use Rattle.av_verify.specs.Loops.{loop_rules}
use Rattle.av_verify.specs.Modules.{function_rules, module_rules}
use Rattle.av_verify.specs.Smallest.{AreAsked, IsSmallest, SmallestCodeLaw, of_module, of_function, of_loop, of_constant, of_binary, of_load, of_store, of_end}

-- codes rise from rule to rule, above n
abbrev rise : ℕ → List Rule → Bool
rise n [] = true
rise n (rule ∷ rules) = nat_lt n (number_of_code rule.code) && rise (number_of_code rule.code) rules

abbrev Above : ℕ → Rule → Type 0
Above n rule = n < number_of_code rule.code

both : (m n : ℕ) (b : Bool) → (nat_lt m n && b) ≡ true → (m < n) × (b ≡ true)
both m n b h = grind arith

above : (n : ℕ) (rules : List Rule) → rise n rules ≡ true → All (Above n) rules
above n [] h = All-nil (Above n)
above n (rule ∷ rules) h =
    let parts = both n (number_of_code rule.code) (rise (number_of_code rule.code) rules) h in
    let first : n < number_of_code rule.code = parts.0 in
    All-cons (Above n) rule rules first
    (All-weaker (Above (number_of_code rule.code)) (Above n) (λ other more. omega (arith, first, more)) rules (above (number_of_code rule.code) rules parts.1))

-- ---- the first that fails
abbrev Holding : List Rule → Type 0
Holding = All (λ rule. rule.holds ≡ true)

abbrev NotBelow : Code → Rule → Type 0
NotBelow failing other = other.holds ≡ false → number_of_code failing ≤ number_of_code other.code

abbrev Says : List Rule → Type 0
Says rules = MatchOption (first_failing rules) (Holding rules) (IsSmallest rules)

weaker : {X : Type 0} (o : Option X) (P P' : Type 0) (Q Q' : X → Type 0) → (P → P') → ((x : X) → Q x → Q' x) → MatchOption o P Q → MatchOption o P' Q'
weaker None P P' Q Q' f g h = f h
weaker (Some x) P P' Q Q' f g h = g x h

behind : (c failing : Code) (rules : List Rule) → IsSmallest rules failing → IsSmallest (asks c true ∷ rules) failing
behind c failing rules s = record {
  rule = s.rule;
  among = Contains-append_right (asks c true ∷ []) rules s.rule s.among;
  fails = s.fails;
  code = s.code;
  smallest = All-cons (NotBelow failing) (asks c true) rules (λ no. cc) s.smallest;
}

at_first : (c : Code) (b : Bool) (rules : List Rule) → All (Above (number_of_code c)) rules → Says rules → Says (asks c b ∷ rules)
at_first c true rules over says =
    weaker (first_failing rules) (Holding rules) (Holding (asks c true ∷ rules)) (IsSmallest rules) (IsSmallest (asks c true ∷ rules))
    (All-cons (λ rule. rule.holds ≡ true) (asks c true) rules refl) (λ failing. behind c failing rules) says
at_first c false rules over says = record {
  rule = asks c false;
  among = (0, omega arith, refl);
  fails = refl;
  code = refl;
  smallest = All-cons (NotBelow c) (asks c false) rules (λ no. omega arith)
      (All-weaker (Above (number_of_code c)) (NotBelow c) (λ other more no. omega (arith, more)) rules over);
}

smallest : (n : ℕ) (rules : List Rule) → rise n rules ≡ true → Says rules
smallest n [] h = All-nil _
smallest n (rule ∷ rules) h =
    let parts = both n (number_of_code rule.code) (rise (number_of_code rule.code) rules) h in
    at_first rule.code rule.holds rules (above (number_of_code rule.code) rules parts.1) (smallest (number_of_code rule.code) rules parts.1)

-- ---- the rules that are asked
of_these : (rules these : List Rule) → rules ≡ these → rise 0 these ≡ true → Says rules
of_these rules these is h = subst Says (sym is) (smallest 0 these h)

pub smallest-code-law : SmallestCodeLaw
smallest-code-law rules (of_module root mode is) = of_these rules (module_rules root mode) is refl
smallest-code-law rules (of_function new node is) = of_these rules (function_rules new node) is refl
smallest-code-law rules (of_loop new has_room scope node operands is) = of_these rules (loop_rules new has_room scope node operands) is refl
smallest-code-law rules (of_constant scope node is) = of_these rules (constant_rules scope node) is refl
smallest-code-law rules (of_binary op scope node is) = of_these rules (binary_rules op scope node) is refl
smallest-code-law rules (of_load scope node is) = of_these rules (load_rules scope node) is refl
smallest-code-law rules (of_store scope node is) = of_these rules (store_rules scope node) is refl
smallest-code-law rules (of_end row is_last scope node is) = of_these rules (end_rules row is_last scope node) is refl
