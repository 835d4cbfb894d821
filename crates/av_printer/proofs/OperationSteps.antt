-- The spelling of the parts of operations.
use Rattle.std.proofs.Common.{◌≡◌, ℕ, zero, suc, ◌+◌, ◌<◌, ◌≤◌, ℤ, pos, true, false, cond, List, [], ◌∷◌, ◌++◌, length, get_or, take, drop, min, map, append_assoc, Option, Some, None, refl, sym, ap, ◌∙◌, codes, arith}
use Rattle.std.proofs.lemmas.List.{drop_all}
use Rattle.av_lex.specs.declared.token.Kind.TheVariants as kinds
use Rattle.av_lex.specs.declared.token.Sign.TheVariants.{OpenAngle, CloseAngle, OpenCurly, CloseCurly, Colon, Arrow, Question}
use Rattle.av_tree.specs.declared.written.TypeText.{TypeText, TypeText-F, out-TypeText, roll-TypeText, out-roll-TypeText, roll-out-TypeText}
use Rattle.av_tree.specs.declared.written.TypeText as type_named
use Rattle.av_tree.specs.declared.written.TypeText.TheVariants as type_rolls
use Rattle.av_tree.specs.declared.written.TypeText.TheOpen as open_type
use Rattle.av_tree.specs.declared.attribute.Attr.{Attr, Attr-F, out-Attr, roll-Attr, out-roll-Attr, roll-out-Attr}
use Rattle.av_tree.specs.declared.attribute.Attr as attr_named
use Rattle.av_tree.specs.declared.attribute.Attr.TheVariants as attr_rolls
use Rattle.av_tree.specs.declared.attribute.Attr.TheOpen as open_attr
use Rattle.av_tree.specs.declared.node.Node.{Node, out-Node}
use Rattle.av_tree.specs.declared.node.Body.{Body, out-Body}
use Rattle.av_tree.specs.declared.written.MapText.{MapText}
use Rattle.av_tree.specs.declared.attribute.Named.{Named, out-Named}
use Rattle.av_tree.specs.declared.node.BodyArg.{BodyArg}
use Rattle.av_printer.specs.Pieces.{spelt, space, token, sign, plain, comma_after, spaced, commas}
use Rattle.av_printer.specs.Types.{type_pieces, one_or_several}
use Rattle.av_printer.specs.Expressions.{value, same}
use Rattle.av_printer.specs.Dictionaries.{dictionary}
use Rattle.av_printer.specs.Operations.{first_of, arguments_of, property, values_pieces, known_type, known_types, known_in_round, properties_behind, marks_behind, text_in, text_of, map_in, map_of, number_in, step_of, results_in_type, results_of_type, results_in, results_of, results_behind, attributes_word, values_behind, variable, carried_pair, carried, carried_in_round, carried_behind, subscripts_if_any, buffer}
use Rattle.av_printer.proofs.Steps.{spelt-append, commas-push}

pub properties-none : (es : List Named) → length es ≡ 0 → properties_behind es ≡ []
unfolding properties_behind
properties-none [] h = refl
properties-none (e ∷ es) h = absurd (omega arith)

pub properties-some : (es : List Named) → 0 < length es
    → properties_behind es ≡ space ++ sign OpenAngle ++ sign OpenCurly ++ dictionary es ++ sign CloseCurly ++ sign CloseAngle
unfolding properties_behind
properties-some [] h = absurd (omega arith)
properties-some (e ∷ es) h = refl

pub marks-none : (es : List Named) → length es ≡ 0 → marks_behind es ≡ []
unfolding marks_behind
marks-none [] h = refl
marks-none (e ∷ es) h = absurd (omega arith)

pub marks-some : (es : List Named) → 0 < length es → marks_behind es ≡ space ++ sign OpenCurly ++ dictionary es ++ sign CloseCurly
unfolding marks_behind
marks-some [] h = absurd (omega arith)
marks-some (e ∷ es) h = refl

pub known-none : known_type None ≡ sign Question
unfolding known_type
known-none = refl

pub known-some : (ty : TypeText) → known_type (Some ty) ≡ type_pieces ty
unfolding known_type
known-some ty = refl

-- ---- what stands behind
pub results-none : (ts : List TypeText) → length ts ≡ 0 → results_behind ts ≡ []
unfolding results_behind
results-none [] h = refl
results-none (t ∷ ts) h = absurd (omega arith)

pub results-some : (ts : List TypeText) → 0 < length ts → results_behind ts ≡ spaced (sign Arrow) ++ one_or_several (map type_pieces ts)
unfolding results_behind
results-some [] h = absurd (omega arith)
results-some (t ∷ ts) h = refl

pub word-none : (es : List Named) → length es ≡ 0 → attributes_word es ≡ []
unfolding attributes_word
word-none [] h = refl
word-none (e ∷ es) h = absurd (omega arith)

pub word-some : (es : List Named) → 0 < length es → attributes_word es ≡ space ++ plain (codes "attributes")
unfolding attributes_word
word-some [] h = absurd (omega arith)
word-some (e ∷ es) h = refl

pub values-none : (vs : List (List ℕ)) (ts : List (Option TypeText)) → length vs ≡ 0 → values_behind vs ts ≡ []
unfolding values_behind
values-none [] ts h = refl
values-none (v ∷ vs) ts h = absurd (omega arith)

pub values-some : (vs : List (List ℕ)) (ts : List (Option TypeText)) → 0 < length vs
    → values_behind vs ts ≡ space ++ values_pieces vs ++ spaced (sign Colon) ++ known_types ts
unfolding values_behind
values-some [] ts h = absurd (omega arith)
values-some (v ∷ vs) ts h = refl

pub variable-none : (args : List BodyArg) → length args ≡ 0 → variable args ≡ []
unfolding variable
variable-none [] h = refl
variable-none (a ∷ args) h = absurd (omega arith)

pub variable-some : (args : List BodyArg) (a : BodyArg) → 1 ≤ length args → a ≡ get_or args 0 a → variable args ≡ token kinds.ValId a.name
unfolding variable
variable-some [] a h e = absurd (omega arith)
variable-some (x ∷ args) a h e = ap (λ (y : BodyArg). token kinds.ValId y.name) (sym e)

pub carried-none : (args : List BodyArg) (vs : List (List ℕ)) (ts : List (Option TypeText)) → length vs ≡ 0 → carried_behind args vs ts ≡ []
unfolding carried_behind
carried-none args [] ts h = refl
carried-none args (v ∷ vs) ts h = absurd (omega arith)

pub carried-some : (args : List BodyArg) (vs : List (List ℕ)) (ts : List (Option TypeText)) → 0 < length vs
    → carried_behind args vs ts ≡ space ++ plain (codes "iter_args") ++ carried_in_round (drop 1 args) vs ++ spaced (sign Arrow) ++ known_in_round ts
unfolding carried_behind
carried-some args [] ts h = absurd (omega arith)
carried-some args (v ∷ vs) ts h = refl

pub buffer-none : (m : Option MapText) (vs : List (List ℕ)) → length vs ≡ 0 → buffer m vs ≡ []
unfolding buffer
buffer-none m [] h = refl
buffer-none m (v ∷ vs) h = absurd (omega arith)

pub buffer-some : (m : Option MapText) (vs : List (List ℕ)) (v : List ℕ) → 1 ≤ length vs → v ≡ get_or vs 0 v
    → buffer m vs ≡ value v ++ subscripts_if_any m (drop 1 vs)
unfolding buffer
buffer-some m [] v h e = absurd (omega arith)
buffer-some m (x ∷ vs) v h e = ap (λ y. value y ++ subscripts_if_any m vs) (sym e)

-- ---- properties and arguments
one_more : (i : ℕ) → i + 1 ≡ suc i
one_more i = omega arith

pub property-found : (es : List Named) (name : List ℕ) (e : Named) (i : ℕ) → i < length es → e ≡ get_or es i e → true ≡ same (out-Named e).name name
    → property (drop i es) name ≡ Some (out-Named e).value
unfolding property
property-found [] name e i h q b = absurd (omega arith)
property-found (x ∷ es) name e zero h q b =
    ap (λ y. cond (same (out-Named y).name name) (Some (out-Named y).value) (property es name)) (sym q)
    ∙ ap (λ t. cond t (Some (out-Named e).value) (property es name)) (sym b)
property-found (x ∷ es) name e (suc i) h q b = property-found es name e i (omega arith) q b

property-next : (es : List Named) (name : List ℕ) (e : Named) (i : ℕ) → i < length es → e ≡ get_or es i e → false ≡ same (out-Named e).name name
    → property (drop i es) name ≡ property (drop (suc i) es) name
unfolding property
property-next [] name e i h q b = absurd (omega arith)
property-next (x ∷ es) name e zero h q b =
    ap (λ y. cond (same (out-Named y).name name) (Some (out-Named y).value) (property es name)) (sym q)
    ∙ ap (λ t. cond t (Some (out-Named e).value) (property es name)) (sym b)
property-next (x ∷ es) name e (suc i) h q b = property-next es name e i (omega arith) q b

pub property-on : (es : List Named) (name : List ℕ) (e : Named) (i : ℕ) → i < length es → e ≡ get_or es i e → false ≡ same (out-Named e).name name
    → property (drop (i + 1) es) name ≡ property (drop i es) name
property-on es name e i h q b = ap (λ n. property (drop n es) name) (one_more i) ∙ sym (property-next es name e i h q b)

pub property-end : (es : List Named) (name : List ℕ) (i : ℕ) → length es ≤ i → property (drop i es) name ≡ None
unfolding property
property-end es name i h = ap (λ rest. property rest name) (drop_all i es h)

first-args : (bs : List Body) (b : Body) → 1 ≤ length bs → b ≡ get_or bs 0 b → first_of (map (λ (body : Body). (out-Body body).args) bs) ≡ (out-Body b).args
first-args [] b h e = absurd (omega arith)
first-args (x ∷ bs) b h e = ap (λ body. (out-Body body).args) (sym e)

no-args : (bs : List Body) → length bs ≡ 0 → first_of (map (λ (body : Body). (out-Body body).args) bs) ≡ []
no-args [] h = refl
no-args (x ∷ bs) h = absurd (omega arith)

pub arguments-first : (node : Node) (b : Body) → 1 ≤ length (out-Node node).regions → b ≡ get_or (out-Node node).regions 0 b
    → arguments_of node ≡ (out-Body b).args
arguments-first node b h e = first-args (out-Node node).regions b h e

pub arguments-none : (node : Node) → length (out-Node node).regions ≡ 0 → arguments_of node ≡ []
arguments-none node h = no-args (out-Node node).regions h

-- ---- what attributes say
pub text-none : text_of None ≡ []
unfolding text_of
text-none = refl

pub text-some : (t : List ℕ) → text_of (Some (attr_named.Quoted t)) ≡ t
unfolding text_of
text-some t =
    ap (λ a. text_of (Some a)) (sym (attr_rolls.rolls-Quoted t)) ∙ ap text_in (out-roll-Attr (open_attr.Quoted t))

pub map_of-none : map_of None ≡ None
unfolding map_of
map_of-none = refl

pub map_of-some : (m : MapText) → map_of (Some (attr_named.Map m)) ≡ Some m
unfolding map_of
map_of-some m =
    ap (λ a. map_of (Some a)) (sym (attr_rolls.rolls-Map m)) ∙ ap map_in (out-roll-Attr (open_attr.Map m))

pub step-none : step_of None ≡ pos 1
unfolding step_of
step-none = refl

pub step-some : (z : ℤ) (ty : TypeText) → step_of (Some (attr_named.Number z ty)) ≡ z
unfolding step_of
step-some z ty =
    ap (λ a. step_of (Some a)) (sym (attr_rolls.rolls-Number z ty)) ∙ ap number_in (out-roll-Attr (open_attr.Number z ty))

pub results_of-none : results_of None ≡ []
unfolding results_of
results_of-none = refl

pub results_of-some : (ty : TypeText) → results_of (Some (attr_named.Type ty)) ≡ results_of_type ty
unfolding results_of
results_of-some ty =
    ap (λ a. results_of (Some a)) (sym (attr_rolls.rolls-Type ty)) ∙ ap results_in (out-roll-Attr (open_attr.Type ty))

pub results-func : (inputs results : List TypeText) → results_of_type (type_named.Func inputs results) ≡ results
unfolding results_of_type
results-func inputs results =
    ap results_of_type (sym (type_rolls.rolls-Func inputs results)) ∙ ap results_in_type (out-roll-TypeText (open_type.Func inputs results))

text-in : (x : Attr-F Attr Named) → ((t : List ℕ) → x ≡ open_attr.Quoted t → ⊥) → text_in x ≡ []
text-in (open_attr.Quoted t) h = absurd (h t refl)
text-in other h = refl

pub text-other : (a : Attr) → ((t : List ℕ) → a ≡ attr_named.Quoted t → ⊥) → text_of (Some a) ≡ []
unfolding text_of
text-other a h = text-in (out-Attr a) (λ t e. h t (sym (roll-out-Attr a) ∙ ap roll-Attr e ∙ attr_rolls.rolls-Quoted t))

map_of-in : (x : Attr-F Attr Named) → ((m : MapText) → x ≡ open_attr.Map m → ⊥) → map_in x ≡ None
map_of-in (open_attr.Map m) h = absurd (h m refl)
map_of-in other h = refl

pub map_of-other : (a : Attr) → ((m : MapText) → a ≡ attr_named.Map m → ⊥) → map_of (Some a) ≡ None
unfolding map_of
map_of-other a h = map_of-in (out-Attr a) (λ m e. h m (sym (roll-out-Attr a) ∙ ap roll-Attr e ∙ attr_rolls.rolls-Map m))

step-in : (x : Attr-F Attr Named) → ((z : ℤ) (ty : TypeText) → x ≡ open_attr.Number z ty → ⊥) → number_in x ≡ pos 1
step-in (open_attr.Number z ty) h = absurd (h z ty refl)
step-in other h = refl

pub step-other : (a : Attr) → ((z : ℤ) (ty : TypeText) → a ≡ attr_named.Number z ty → ⊥) → step_of (Some a) ≡ pos 1
unfolding step_of
step-other a h = step-in (out-Attr a) (λ z ty e. h z ty (sym (roll-out-Attr a) ∙ ap roll-Attr e ∙ attr_rolls.rolls-Number z ty))

results_of-in : (x : Attr-F Attr Named) → ((ty : TypeText) → x ≡ open_attr.Type ty → ⊥) → results_in x ≡ []
results_of-in (open_attr.Type ty) h = absurd (h ty refl)
results_of-in other h = refl

pub results_of-other : (a : Attr) → ((ty : TypeText) → a ≡ attr_named.Type ty → ⊥) → results_of (Some a) ≡ []
unfolding results_of
results_of-other a h = results_of-in (out-Attr a) (λ ty e. h ty (sym (roll-out-Attr a) ∙ ap roll-Attr e ∙ attr_rolls.rolls-Type ty))

func-in : (x : TypeText-F TypeText) → ((inputs results : List TypeText) → x ≡ open_type.Func inputs results → ⊥) → results_in_type x ≡ []
func-in (open_type.Func inputs results) h = absurd (h inputs results refl)
func-in other h = refl

pub func-other : (t : TypeText) → ((inputs results : List TypeText) → t ≡ type_named.Func inputs results → ⊥) → results_of_type t ≡ []
unfolding results_of_type
func-other t h = func-in (out-TypeText t) (λ inputs results e. h inputs results (sym (roll-out-TypeText t) ∙ ap roll-TypeText e ∙ type_rolls.rolls-Func inputs results))

pub results_behind-empty : results_behind [] ≡ []
unfolding results_behind
results_behind-empty = refl

-- ---- pairs
carried-next : (args : List BodyArg) (vs : List (List ℕ)) (i : ℕ) (a : BodyArg) (v : List ℕ) → i < length args → i < length vs
    → a ≡ get_or args i a → v ≡ get_or vs i v
    → carried (take (suc i) args) (take (suc i) vs) ≡ carried (take i args) (take i vs) ++ carried_pair a v ∷ []
unfolding carried
carried-next [] vs i a v h k e f = absurd (omega arith)
carried-next (x ∷ args) [] i a v h k e f = absurd (omega arith)
carried-next (x ∷ args) (y ∷ vs) zero a v h k e f = ap (λ b. carried_pair b y ∷ []) (sym e) ∙ ap (λ u. carried_pair a u ∷ []) (sym f)
carried-next (x ∷ args) (y ∷ vs) (suc i) a v h k e f = ap (λ ps. carried_pair x y ∷ ps) (carried-next args vs i a v (omega arith) (omega arith) e f)

carried-more : (args : List BodyArg) (vs : List (List ℕ)) (i : ℕ) (a : BodyArg) (v : List ℕ) → i < length args → i < length vs
    → a ≡ get_or args i a → v ≡ get_or vs i v
    → carried (take (i + 1) args) (take (i + 1) vs) ≡ carried (take i args) (take i vs) ++ carried_pair a v ∷ []
carried-more args vs i a v h k e f = ap (λ n. carried (take n args) (take n vs)) (one_more i) ∙ carried-next args vs i a v h k e f

carried-length : (args : List BodyArg) (vs : List (List ℕ)) (i : ℕ) → i < length args → i < length vs → length (carried (take i args) (take i vs)) ≡ i
unfolding carried
carried-length [] vs i h k = absurd (omega arith)
carried-length (x ∷ args) [] i h k = absurd (omega arith)
carried-length (x ∷ args) (y ∷ vs) zero h k = refl
carried-length (x ∷ args) (y ∷ vs) (suc i) h k = ap suc (carried-length args vs i (omega arith) (omega arith))

pub carried-all : (args : List BodyArg) (vs : List (List ℕ)) (n : ℕ) → min (length args) (length vs) ≤ n → carried (take n args) (take n vs) ≡ carried args vs
unfolding carried
carried-all [] vs zero h = refl
carried-all [] vs (suc n) h = refl
carried-all (x ∷ args) [] zero h = refl
carried-all (x ∷ args) [] (suc n) h = refl
carried-all (x ∷ args) (y ∷ vs) zero h = absurd (omega arith)
carried-all (x ∷ args) (y ∷ vs) (suc n) h = ap (λ ps. carried_pair x y ∷ ps) (carried-all args vs n (omega arith))

pub carried-begun : spelt (commas (carried [] [])) ≡ []
unfolding carried commas spelt
carried-begun = refl

-- a turn over pairs
pub pairs-turn : (args : List BodyArg) (vs : List (List ℕ)) (i : ℕ) (a : BodyArg) (v : List ℕ) (w x y z : List ℕ) → i < length args → i < length vs
    → a ≡ get_or args i a → v ≡ get_or vs i v
    → x ≡ w ++ spelt (commas (carried (take i args) (take i vs))) → y ≡ x ++ spelt (comma_after i) → z ≡ y ++ spelt (carried_pair a v)
    → z ≡ w ++ spelt (commas (carried (take (i + 1) args) (take (i + 1) vs)))
pairs-turn args vs i a v w x y z h k e f ex ey ez =
    ez ∙ ap (λ t. t ++ spelt (carried_pair a v)) (ey ∙ ap (λ t. t ++ spelt (comma_after i)) ex)
    ∙ append_assoc (w ++ spelt (commas (carried (take i args) (take i vs)))) (spelt (comma_after i)) (spelt (carried_pair a v))
    ∙ append_assoc w (spelt (commas (carried (take i args) (take i vs)))) (spelt (comma_after i) ++ spelt (carried_pair a v))
    ∙ ap (λ t. w ++ t)
    (ap (λ t. spelt (commas (carried (take i args) (take i vs))) ++ t)
    (ap (λ n. spelt (comma_after n) ++ spelt (carried_pair a v)) (sym (carried-length args vs i h k))
    ∙ sym (spelt-append (comma_after (length (carried (take i args) (take i vs)))) (carried_pair a v)))
    ∙ sym (spelt-append (commas (carried (take i args) (take i vs))) (comma_after (length (carried (take i args) (take i vs))) ++ carried_pair a v))
    ∙ ap spelt (sym (commas-push (carried (take i args) (take i vs)) (carried_pair a v)) ∙ ap commas (sym (carried-more args vs i a v h k e f))))

pub ruleset dictionary_steps = (properties-none, properties-some, marks-none, marks-some)

pub ruleset known_steps = (known-none, known-some)

pub ruleset behind_steps = (results-none, results-some, word-none, word-some, values-none, values-some, variable-none, variable-some, carried-none, carried-some, buffer-none, buffer-some)

pub ruleset property_steps = (property-found, property-on, property-end)

pub ruleset argument_steps = (arguments-first, arguments-none)

pub ruleset text_steps = (text-none, text-some, text-other)

pub ruleset map_steps = (map_of-none, map_of-some, map_of-other)

pub ruleset step_steps = (step-none, step-some, step-other)

pub ruleset result_steps = (results_of-none, results_of-some, results-func, results_of-other, func-other, results_behind-empty)

pub ruleset carried_steps = (carried-all, carried-begun)
