-- Arguments of a region that are taken and put back, and lists that are split from behind.
use Rattle.std.proofs.Common.{arith, ◌≡◌, ℕ, ◌+◌, ◌-◌, List, [], ◌∷◌, ◌++◌, length, take, drop, Option, refl, ap, sym, ◌∙◌}
use Rattle.std.proofs.lemmas.List.{length-append, take_at, drop_at}
use Rattle.av_tree.specs.declared.attribute.Named.{Named}
use Rattle.av_tree.specs.declared.node.Body.{Body, Body-F, out-Body, out-roll-Body, roll-Body, roll-out-Body}
use Rattle.av_tree.specs.declared.node.BodyArg.{BodyArg}
use Rattle.av_tree.specs.declared.node.Node.{Node}
use Rattle.av_tree.specs.declared.written.TypeText.{TypeText}
use Rattle.av_values.specs.Gifts.{Line, args_in, back, front, with_args_in, with_last}

-- ---- lists
all-but : {A : Type 0} (xs ys : List A) → length (xs ++ ys) - length ys ≡ length xs
all-but xs ys = let e : length (xs ++ ys) ≡ length xs + length ys = length-append xs ys in omega arith

pub front-append : {A : Type 0} (xs ys : List A) → front (length ys) (xs ++ ys) ≡ xs
front-append xs ys = ap (λ k. take k (xs ++ ys)) (all-but xs ys) ∙ take_at xs ys (length xs) refl

pub back-append : {A : Type 0} (xs ys : List A) → back (length ys) (xs ++ ys) ≡ ys
back-append xs ys = ap (λ k. drop k (xs ++ ys)) (all-but xs ys) ∙ drop_at xs ys (length xs) refl

-- of two lists of one length that are put last only the second stays
pub last-twice : (own others ts : List (Option TypeText)) → length own ≡ length others → with_last own (with_last others ts) ≡ with_last own ts
last-twice own others ts e =
    ap (λ k. front k (front (length others) ts ++ others) ++ own) e
    ∙ ap (λ us. us ++ own) (front-append (front (length others) ts) others)
    ∙ ap (λ k. front k ts ++ own) (sym e)

-- other types put last
pub last-types : (own others ts : List (Option TypeText)) → length own ≡ length others → with_last own (ts ++ others) ≡ ts ++ own
last-types own others ts e = ap (λ k. front k (ts ++ others) ++ own) e ∙ ap (λ us. us ++ own) (front-append ts others)

-- ---- lines
pub line-same : (n : Line) (ops : List (List ℕ)) (props : List Named) (bodies : List Body) (ins outs : List (Option TypeText))
    → ops ≡ n.operands → props ≡ n.properties → bodies ≡ n.regions → ins ≡ n.in_types → outs ≡ n.out_types
    → record n { operands = ops; properties = props; regions = bodies; in_types = ins; out_types = outs } ≡ n
line-same n ops props bodies ins outs e d f g h =
    ap (λ xs. let m : Line = record n { operands = xs; properties = props; regions = bodies; in_types = ins; out_types = outs } in m) e
    ∙ ap (λ xs. let m : Line = record n { properties = xs; regions = bodies; in_types = ins; out_types = outs } in m) d
    ∙ ap (λ xs. let m : Line = record n { regions = xs; in_types = ins; out_types = outs } in m) f
    ∙ ap (λ xs. let m : Line = record n { in_types = xs; out_types = outs } in m) g
    ∙ ap (λ xs. let m : Line = record n { out_types = xs } in m) h

-- ---- arguments
pub args-given : (args : List BodyArg) (body : Body) (bodies : List Body) → args_in (with_args_in args (body ∷ bodies)) ≡ args
args-given args body bodies = ap (λ (b : Body-F Body Node). b.args) (out-roll-Body (record (out-Body body) { args = args }))

args-twice : (args others : List BodyArg) (bodies : List Body) → with_args_in args (with_args_in others bodies) ≡ with_args_in args bodies
args-twice args others [] = refl
args-twice args others (body ∷ bodies) =
    ap (λ (b : Body-F Body Node). roll-Body (record b { args = args }) ∷ bodies) (out-roll-Body (record (out-Body body) { args = others }))

own-args : (bodies : List Body) → with_args_in (args_in bodies) bodies ≡ bodies
own-args [] = refl
own-args (body ∷ bodies) = ap (λ b. b ∷ bodies) (roll-out-Body body)

-- the first arguments, put back before the others
pub args-back : (own others : List BodyArg) (bodies : List Body) → args_in bodies ≡ own ++ others
    → with_args_in (own ++ args_in (with_args_in others bodies)) (with_args_in others bodies) ≡ bodies
args-back own others [] h = refl
args-back own others (body ∷ bodies) h =
    ap (λ args. with_args_in (own ++ args) (with_args_in others (body ∷ bodies))) (args-given others body bodies)
    ∙ args-twice (own ++ others) others (body ∷ bodies) ∙ ap (λ args. with_args_in args (body ∷ bodies)) (sym h) ∙ own-args (body ∷ bodies)
