-- The spelling of operations and regions, one level at a time.
use Rattle.std.proofs.Common.{◌≡◌, ℕ, zero, suc, ◌+◌, ◌<◌, ◌≤◌, ◌&&◌, true, false, cond, List, [], ◌∷◌, ◌++◌, length, get_or, drop, map, Some, None, refl, sym, ap, ◌∙◌, codes, arith}
use Rattle.std.proofs.lemmas.List.{drop_all}
use Rattle.av_lex.specs.declared.token.Kind.TheVariants as kinds
use Rattle.av_lex.specs.declared.token.Sign.TheVariants.{OpenCurly, CloseCurly, Colon, Equal}
use Rattle.av_tree.specs.declared.node.BodyArg.{BodyArg}
use Rattle.av_tree.specs.declared.node.Node.{Node, fold_out-Node, out-Node}
use Rattle.av_tree.specs.declared.node.Body.{Body, fold_out-Body, out-Body}
use Rattle.av_printer.specs.declared.form.Form.{Form}
use Rattle.av_printer.specs.declared.form.Form.TheVariants as forms
use Rattle.av_printer.specs.declared.named.NamedForm.{NamedForm}
use Rattle.av_printer.specs.Pieces.{Piece, space, token, sign, plain, spaced, commas, joined, new_line, in_round}
use Rattle.av_printer.specs.Expressions.{result_name}
use Rattle.av_printer.specs.Operations.{first_of, head_of, common_line, common_end, results_before, arguments_pieces}
use Rattle.av_printer.specs.OwnForms.{own_line, own_end}
use Rattle.av_printer.specs.Spelling.{Operation, Region, is_yield, is_silent, on_line, left_out, all_silent, region_step, own_region, else_region, own_regions, label, common_region, common_regions, form_of, by_form, operation_step, operation_of, region_of, node_line, own_body, else_body, own_bodies, common_body}

-- ---- one level
args-of : (b : Body) → (region_of b).args ≡ (out-Body b).args
unfolding region_of
args-of b = ap (λ (r : Region). r.args) (fold_out-Body Region Operation region_step operation_step b)

mapped_twice : {A B C : Type 0} (f : A → B) (g : B → C) (xs : List A) → map g (map f xs) ≡ map (λ x. g (f x)) xs
mapped_twice f g [] = refl
mapped_twice f g (x ∷ xs) = ap (λ ys. g (f x) ∷ ys) (mapped_twice f g xs)

pub lines-of : (b : Body) (form : Form) (depth : ℕ) → (region_of b).lines form depth ≡ joined (map (node_line form depth) (out-Body b).nodes)
unfolding region_of operation_of
lines-of b form depth =
    ap (λ (r : Region). r.lines form depth) (fold_out-Body Region Operation region_step operation_step b)
    ∙ ap joined (mapped_twice operation_of (on_line form depth) (out-Body b).nodes)

pub silent-of : (n : Node) → (operation_of n).silent ≡ is_silent (out-Node n).name (out-Node n).operands
unfolding operation_of
silent-of n = ap (λ (o : Operation). o.silent) (fold_out-Node Region Operation region_step operation_step n)

all-args : (bs : List Body) → first_of (map (λ (r : Region). r.args) (map region_of bs)) ≡ first_of (map (λ (b : Body). (out-Body b).args) bs)
all-args [] = refl
all-args (b ∷ bs) = args-of b

pub whole-of : (n : Node) (form : Form) (depth : ℕ)
    → (operation_of n).whole form depth ≡ results_before (out-Node n).results ++ by_form (form_of form (out-Node n).name) (head_of n) (map region_of (out-Node n).regions) depth
unfolding operation_of region_of
whole-of n form depth =
    ap (λ (o : Operation). o.whole form depth) (fold_out-Node Region Operation region_step operation_step n)
    ∙ ap (λ args. results_before (out-Node n).results ++ by_form (form_of form (out-Node n).name) (record (head_of n) { arguments = args }) (map region_of (out-Node n).regions) depth)
    (all-args (out-Node n).regions)

bodies-own : (depth : ℕ) (bs : List Body) → own_regions depth (map region_of bs) ≡ own_bodies depth bs
bodies-own depth [] = refl
bodies-own depth (b ∷ bs) = ap (λ rs. own_body depth b ∷ rs) (mapped_twice region_of (else_region depth) bs)

pub whole-own : (n : Node) (form : Form) (depth : ℕ) (named : NamedForm) → form_of form (out-Node n).name ≡ Some named
    → (operation_of n).whole form depth ≡ results_before (out-Node n).results
    ++ (own_line named (head_of n) ++ joined (own_bodies depth (out-Node n).regions) ++ own_end named (head_of n))
unfolding by_form
whole-own n form depth named e =
    whole-of n form depth
    ∙ ap (λ f. results_before (out-Node n).results ++ by_form f (head_of n) (map region_of (out-Node n).regions) depth) e
    ∙ ap (λ rs. results_before (out-Node n).results ++ (own_line named (head_of n) ++ joined rs ++ own_end named (head_of n)))
    (bodies-own depth (out-Node n).regions)

pub whole-common : (n : Node) (form : Form) (depth : ℕ) → form_of form (out-Node n).name ≡ None
    → (operation_of n).whole form depth ≡ results_before (out-Node n).results
    ++ (common_line (head_of n) ++ common_regions (map (common_body depth) (out-Node n).regions) ++ common_end (head_of n))
unfolding by_form
whole-common n form depth e =
    whole-of n form depth
    ∙ ap (λ f. results_before (out-Node n).results ++ by_form f (head_of n) (map region_of (out-Node n).regions) depth) e
    ∙ ap (λ rs. results_before (out-Node n).results ++ (common_line (head_of n) ++ common_regions rs ++ common_end (head_of n)))
    (mapped_twice region_of (common_region depth) (out-Node n).regions)

-- ---- regions
pub region-silent : (b : Body) → (region_of b).silent ≡ all_silent (map operation_of (out-Body b).nodes)
unfolding region_of operation_of
region-silent b = ap (λ (r : Region). r.silent) (fold_out-Body Region Operation region_step operation_step b)

pub silent-found : (ns : List Node) (n : Node) (i : ℕ) → i < length ns → n ≡ get_or ns i n → false ≡ is_silent (out-Node n).name (out-Node n).operands
    → all_silent (map operation_of (drop i ns)) ≡ false
unfolding all_silent
silent-found [] n i h e f = absurd (omega arith)
silent-found (x ∷ ns) n zero h e f = ap (λ b. b && all_silent (map operation_of ns)) (ap (λ y. (operation_of y).silent) (sym e) ∙ silent-of n ∙ sym f)
silent-found (x ∷ ns) n (suc i) h e f = silent-found ns n i (omega arith) e f

silent-next : (ns : List Node) (n : Node) (i : ℕ) → i < length ns → n ≡ get_or ns i n → true ≡ is_silent (out-Node n).name (out-Node n).operands
    → all_silent (map operation_of (drop i ns)) ≡ all_silent (map operation_of (drop (suc i) ns))
unfolding all_silent
silent-next [] n i h e t = absurd (omega arith)
silent-next (x ∷ ns) n zero h e t = ap (λ b. b && all_silent (map operation_of ns)) (ap (λ y. (operation_of y).silent) (sym e) ∙ silent-of n ∙ sym t)
silent-next (x ∷ ns) n (suc i) h e t = silent-next ns n i (omega arith) e t

one_more : (i : ℕ) → i + 1 ≡ suc i
one_more i = omega arith

pub silent-on : (ns : List Node) (n : Node) (i : ℕ) → i < length ns → n ≡ get_or ns i n → true ≡ is_silent (out-Node n).name (out-Node n).operands
    → all_silent (map operation_of (drop (i + 1) ns)) ≡ all_silent (map operation_of (drop i ns))
silent-on ns n i h e t = ap (λ k. all_silent (map operation_of (drop k ns))) (one_more i) ∙ sym (silent-next ns n i h e t)

pub silent-end : (ns : List Node) (i : ℕ) → length ns ≤ i → all_silent (map operation_of (drop i ns)) ≡ true
unfolding all_silent
silent-end ns i h = ap (λ rest. all_silent (map operation_of rest)) (drop_all i ns h)

pub bodies-none : (depth : ℕ) (bs : List Body) → length bs ≡ 0 → joined (own_bodies depth bs) ≡ []
unfolding joined
bodies-none depth [] h = refl
bodies-none depth (b ∷ bs) h = absurd (omega arith)

pub bodies-some : (depth : ℕ) (bs : List Body) (b : Body) → 1 ≤ length bs → b ≡ get_or bs 0 b
    → joined (own_bodies depth bs) ≡ own_body depth b ++ joined (map (else_body depth) (drop 1 bs))
unfolding joined
bodies-some depth [] b h e = absurd (omega arith)
bodies-some depth (x ∷ bs) b h e = ap (λ y. own_body depth y ++ joined (map (else_body depth) bs)) (sym e)

pub else-none : (depth : ℕ) (b : Body) → true ≡ (region_of b).silent → else_body depth b ≡ []
unfolding else_region
else-none depth b e = ap (λ t. cond t [] (space ++ plain (codes "else") ++ own_body depth b)) (sym e)

pub else-some : (depth : ℕ) (b : Body) → false ≡ (region_of b).silent → else_body depth b ≡ space ++ plain (codes "else") ++ own_body depth b
unfolding else_region
else-some depth b e = ap (λ t. cond t [] (space ++ plain (codes "else") ++ own_body depth b)) (sym e)

pub ruleset branch_steps = (bodies-none, bodies-some, else-none, else-some)

pub ruleset region_silent_steps = (region-silent, silent-found, silent-on, silent-end)

pub own-of : (depth : ℕ) (b : Body) → own_region depth (region_of b)
    ≡ space ++ sign OpenCurly ++ joined (map (node_line forms.Named (depth + 1)) (out-Body b).nodes) ++ new_line depth ++ sign CloseCurly
unfolding own_region
own-of depth b = ap (λ ps. space ++ sign OpenCurly ++ ps ++ new_line depth ++ sign CloseCurly) (lines-of b forms.Named (depth + 1))

pub common-of : (depth : ℕ) (b : Body) → common_region depth (region_of b)
    ≡ sign OpenCurly ++ label depth (out-Body b).args ++ joined (map (node_line forms.Generic (depth + 1)) (out-Body b).nodes) ++ new_line depth ++ sign CloseCurly
unfolding common_region
common-of depth b =
    ap (λ args. sign OpenCurly ++ label depth args ++ (region_of b).lines forms.Generic (depth + 1) ++ new_line depth ++ sign CloseCurly) (args-of b)
    ∙ ap (λ ps. sign OpenCurly ++ label depth (out-Body b).args ++ ps ++ new_line depth ++ sign CloseCurly) (lines-of b forms.Generic (depth + 1))

pub regions-none : (f : Body → List Piece) (bs : List Body) → length bs ≡ 0 → common_regions (map f bs) ≡ []
unfolding common_regions
regions-none f [] h = refl
regions-none f (b ∷ bs) h = absurd (omega arith)

pub regions-some : (f : Body → List Piece) (bs : List Body) → 0 < length bs → common_regions (map f bs) ≡ space ++ in_round (commas (map f bs))
unfolding common_regions
regions-some f [] h = absurd (omega arith)
regions-some f (b ∷ bs) h = refl

pub label-none : (depth : ℕ) (args : List BodyArg) → length args ≡ 0 → label depth args ≡ []
unfolding label
label-none depth [] h = refl
label-none depth (a ∷ args) h = absurd (omega arith)

pub label-some : (depth : ℕ) (args : List BodyArg) → 0 < length args
    → label depth args ≡ new_line depth ++ token kinds.CaretId (codes "^bb0") ++ arguments_pieces args ++ sign Colon
unfolding label
label-some depth [] h = absurd (omega arith)
label-some depth (a ∷ args) h = refl

-- ---- lines
pub line-out : (form : Form) (depth : ℕ) (o : Operation) → true ≡ left_out form o → on_line form depth o ≡ []
unfolding on_line
line-out form depth o e = ap (λ b. cond b [] (new_line depth ++ o.whole form depth)) (sym e)

pub line-in : (form : Form) (depth : ℕ) (o : Operation) → false ≡ left_out form o → on_line form depth o ≡ new_line depth ++ o.whole form depth
unfolding on_line
line-in form depth o e = ap (λ b. cond b [] (new_line depth ++ o.whole form depth)) (sym e)

pub silent-empty : (name : List ℕ) (vs : List (List ℕ)) → length vs ≡ 0 → is_silent name vs ≡ is_yield name
unfolding is_silent
silent-empty name [] h = refl
silent-empty name (v ∷ vs) h = absurd (omega arith)

pub silent-full : (name : List ℕ) (vs : List (List ℕ)) → 0 < length vs → is_silent name vs ≡ false
unfolding is_silent
silent-full name [] h = absurd (omega arith)
silent-full name (v ∷ vs) h = refl

pub results-none : (rs : List (List ℕ)) → length rs ≡ 0 → results_before rs ≡ []
unfolding results_before
results-none [] h = refl
results-none (r ∷ rs) h = absurd (omega arith)

pub results-some : (rs : List (List ℕ)) → 0 < length rs → results_before rs ≡ commas (map result_name rs) ++ spaced (sign Equal)
unfolding results_before
results-some [] h = absurd (omega arith)
results-some (r ∷ rs) h = refl

pub ruleset results_steps = (results-none, results-some)

pub ruleset label_steps = (label-none, label-some)

pub ruleset silent_steps = (silent-empty, silent-full, silent-of)

pub ruleset line_steps = (line-out, line-in)

pub ruleset node_steps = (whole-own, whole-common)

pub ruleset region_steps = (own-of, common-of, regions-none, regions-some)
