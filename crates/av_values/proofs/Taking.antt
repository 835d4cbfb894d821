-- How values are taken off a stack one by one, those of some symbols and then those of others.
use Rattle.std.proofs.Common.{◌≡◌, List, [], ◌∷◌, ◌++◌, Option, Some, None, refl, ap, ◌∙◌}
use Rattle.std.specs.Option.{option_map, option_and_then}
use Rattle.av_tree.specs.declared.table.Symbol.{Symbol}
use Rattle.av_tree.specs.declared.table.Symbol.TheVariants as symbol
use Rattle.av_values.specs.declared.value.Value.{Value}
use Rattle.av_values.specs.Made.{split, taken}
use Rattle.av_values.specs.Sorts.{Sort, Of, All, any, on_top, replaced, sort_of, sorts_of, a_text}

pub taken-end : {A : Type 0} (make : Unit {0} → A) (made : A) (under after : List Value) → make tt ≡ made → under ≡ after → taken [] make under ≡ Some (made, after)
unfolding taken
taken-end make made under after e f = rw (e, f) refl

pub taken-top : {A : Type 0} (t : Sort) (ss : List Sort) (make : Of t × All ss → A) (top : Of t) (before under : List Value) (after : Option (A × List Value))
    → on_top t before ≡ Some (top, under) → taken ss (λ others. make (top, others)) under ≡ after → taken (t ∷ ss) make before ≡ after
unfolding taken
taken-top t ss make top before under after e f =
    ap (option_and_then (λ (v : Of t × List Value). taken ss (λ others. make (v.0, others)) v.1)) e ∙ f

pub taken-none : {A : Type 0} (t : Sort) (ss : List Sort) (make : Of t × All ss → A) (before : List Value) → on_top t before ≡ None → taken (t ∷ ss) make before ≡ None
unfolding taken
taken-none t ss make before e =
    ap (option_and_then (λ (v : Of t × List Value). taken ss (λ others. make (v.0, others)) v.1)) e

pub ruleset taking = (taken-end, taken-top, taken-none)

-- ---- one value after another
through : {T P Q : Type 0} (o : Option T) (f : T → Option P) (g : T → Option Q) (want : P) (after : Option Q)
    → ((top : T) → f top ≡ Some want → g top ≡ after) → option_and_then f o ≡ Some want → option_and_then g o ≡ after
through None f g want after h e = absurd (cc)
through (Some top) f g want after h e = h top e

through-none : {T P Q : Type 0} (o : Option T) (f : T → Option P) (g : T → Option Q)
    → ((top : T) → f top ≡ None → g top ≡ None) → option_and_then f o ≡ None → option_and_then g o ≡ None
through-none None f g h e = refl
through-none (Some top) f g h e = h top e

mapped : {T P Q : Type 0} (o : Option T) (f : T → Option P) (g : T → Option Q) (m : P → Q)
    → ((top : T) → g top ≡ option_map m (f top)) → option_and_then g o ≡ option_map m (option_and_then f o)
mapped None f g m h = refl
mapped (Some top) f g m h = h top

-- values are replaced by what is made of them as they are taken
pub replaced-taken : {A : Type 0} (ss : List Sort) (s : Sort) (f : A → Of s) (make : All ss → A) (under : List Value)
    → replaced ss s (λ vs. Some (f (make vs))) under ≡ option_map (λ (t : A × List Value). any s (f t.0) ∷ t.1) (taken ss make under)
unfolding replaced taken
replaced-taken [] s f make under = refl
replaced-taken (t ∷ ss) s f make under = mapped (on_top t under) _ _ _ (λ top. replaced-taken ss s f (λ others. make (top.0, others)) top.1)

same-start : {A B : Type 0} (ss : List Sort) (make : A → All ss → B) (first got : A) (before under : List Value) (after : Option (B × List Value))
    → ◌≡◌ {A = Option (A × List Value)} (Some (first, before)) (Some (got, under)) → taken ss (make got) under ≡ after → taken ss (make first) before ≡ after
same-start {A = A} ss make first got before under after e f = ap (option_and_then (λ (t : A × List Value). taken ss (make t.0) t.1)) e ∙ f

-- values of symbols one behind another: those of the first are taken, and then those of the others
pub taken-behind : {A B : Type 0} (xs ys : List Symbol) (first : All (sorts_of xs) → A) (make : A → All (sorts_of ys) → B) (got : A) (before under : List Value)
    (after : Option (B × List Value)) → taken (sorts_of xs) first before ≡ Some (got, under) → taken (sorts_of ys) (make got) under ≡ after
    → taken (sorts_of (xs ++ ys)) (λ vs. let both = split xs ys vs in make (first both.0) both.1) before ≡ after
unfolding taken
taken-behind [] ys first make got before under after e f = same-start (sorts_of ys) make (first tt) got before under after e f
taken-behind (symbol.Sign s ∷ xs) ys first make got before under after e f = taken-behind xs ys first make got before under after e f
taken-behind (symbol.Word w ∷ xs) ys first make got before under after e f = taken-behind xs ys first make got before under after e f
taken-behind (symbol.Token t ∷ xs) ys first make got before under after e f =
    through (on_top a_text before) _ _ (got, under) after (λ top k. taken-behind xs ys (λ others. first (top.0, others)) make got top.1 under after k f) e
taken-behind (symbol.Rows x ∷ xs) ys first make got before under after e f =
    through (on_top (sort_of x) before) _ _ (got, under) after (λ top k. taken-behind xs ys (λ others. first (top.0, others)) make got top.1 under after k f) e

-- where those of the first aren't there, nothing is made
pub taken-not-behind : {A B : Type 0} (xs ys : List Symbol) (first : All (sorts_of xs) → A) (make : A → All (sorts_of ys) → B) (before : List Value)
    → taken (sorts_of xs) first before ≡ None → taken (sorts_of (xs ++ ys)) (λ vs. let both = split xs ys vs in make (first both.0) both.1) before ≡ None
unfolding taken
taken-not-behind [] ys first make before e = absurd (cc)
taken-not-behind (symbol.Sign s ∷ xs) ys first make before e = taken-not-behind xs ys first make before e
taken-not-behind (symbol.Word w ∷ xs) ys first make before e = taken-not-behind xs ys first make before e
taken-not-behind (symbol.Token t ∷ xs) ys first make before e =
    through-none (on_top a_text before) _ _ (λ top k. taken-not-behind xs ys (λ others. first (top.0, others)) make top.1 k) e
taken-not-behind (symbol.Rows x ∷ xs) ys first make before e =
    through-none (on_top (sort_of x) before) _ _ (λ top k. taken-not-behind xs ys (λ others. first (top.0, others)) make top.1 k) e
