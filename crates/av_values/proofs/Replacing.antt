-- How values are taken off a stack one by one, and what is made of them put in their place.
use Rattle.std.proofs.Common.{◌≡◌, List, [], ◌∷◌, Option, Some, None, sym, ap, ◌∙◌}
use Rattle.std.specs.Option.{option_map, option_and_then}
use Rattle.std.specs.Prelude.{Result, Ok, Err, IfErr}
use Rattle.av_values.specs.declared.stack.Fault.{Fault}
use Rattle.av_values.specs.declared.stack.Fault.TheVariants.{Misshapen}
use Rattle.av_values.specs.declared.value.Value.{Value}
use Rattle.av_values.specs.Sorts.{Sort, Of, All, any, on_top, replaced}

pub replaced-end : (s : Sort) (make : Unit {0} → Option (Of s)) (made : Of s) (under after : List Value)
    → make tt ≡ Some made → after ≡ any s made ∷ under → replaced [] s make under ≡ Some after
unfolding replaced
replaced-end s make made under after e f = ap (option_map (λ (v : Of s). any s v ∷ under)) e ∙ ap Some (sym f)

pub replaced-top : (t : Sort) (ss : List Sort) (s : Sort) (make : Of t × All ss → Option (Of s)) (top : Of t) (before under : List Value) (after : Option (List Value))
    → on_top t before ≡ Some (top, under) → replaced ss s (λ others. make (top, others)) under ≡ after → replaced (t ∷ ss) s make before ≡ after
unfolding replaced
replaced-top t ss s make top before under after e f =
    ap (option_and_then (λ (v : Of t × List Value). replaced ss s (λ others. make (v.0, others)) v.1)) e ∙ f

pub replaced-none : (t : Sort) (ss : List Sort) (s : Sort) (make : Of t × All ss → Option (Of s)) (before : List Value)
    → on_top t before ≡ None → replaced (t ∷ ss) s make before ≡ None
unfolding replaced
replaced-none t ss s make before e =
    ap (option_and_then (λ (v : Of t × List Value). replaced ss s (λ others. make (v.0, others)) v.1)) e

pub ruleset replacing = (replaced-end, replaced-top, replaced-none)

-- a fact that holds anyway holds at a fault
pub at_fault : (T : Type 0) (r : Result T Fault) (Q : Type 0) → Q → IfErr r (λ fault. fault ≡ Misshapen → Q)
at_fault T (Ok x) Q q = tt
at_fault T (Err fault) Q q = λ e. q
