-- Parts of loops and branches, and subscripts, that fit, and others that don't, worked out.
use Rattle.std.proofs.Common.{◌≡◌, ℕ, Bool, true, false, ◌&&◌, List, [], ◌∷◌, ◌++◌, drop, None, Some, refl, ap, sym, subst, ◌∙◌}
use Rattle.std.specs.Fmt.{digits}
use Rattle.std.specs.Str.{bytes_eq}
use Rattle.std.specs.Prelude.{ℤ, codes}
use Rattle.av_tree.specs.declared.attribute.Named.{Named}
use Rattle.av_tree.specs.declared.node.Body.{Body, Body-F, out-roll-Body, roll-Body}
use Rattle.av_tree.specs.declared.node.BodyArg.{BodyArg}
use Rattle.av_tree.specs.declared.node.Node.{Node, out-roll-Node}
use Rattle.av_tree.specs.declared.written.ExprText.{ExprText}
use Rattle.av_tree.specs.declared.written.ExprText.TheVariants as expr
use Rattle.av_tree.specs.declared.written.TypeText.{TypeText, out-TypeText}
use Rattle.av_dialects.specs.declared.item.Results.TheVariants as results
use Rattle.av_dialects.specs.declared.item.Wanted.TheVariants as wanted
use Rattle.av_values.specs.Loops.{counter, ended, index_type}
use Rattle.av_values.specs.Nodes.{plain}
use Rattle.av_values.specs.Accesses.{first_names, numbered, numbered_all}
use Rattle.av_values.specs.declared.value.Expression.{Expression}
use Rattle.av_tree.specs.declared.written.ExprText.TheBlock.{shape-the_row-ExprText-0, hidden-the_row-ExprText-0}
use denote.Hole.Carrier.{hidden}
use Rattle.av_form_laws.specs.Examples.{AccessExamples, BoundExamples, CarriedExamples, ElseExamples, RegionExamples, ResultExamples, StepExamples, a, access_line, around, b, body, branched, c, carrying, carrying_line, end, end_put_in, less_one, looped, typed_arg}
use Rattle.av_form_laws.specs.Attributes.{Applied, first_applied, written_map}
use Rattle.av_form_laws.specs.Items.{AreWanted, HasRegion, applied_entry, is_wanted}
use Rattle.av_form_laws.specs.Lines.{first_text}
use Rattle.av_form_laws.specs.Loops.{args_of, first_name, inits_of, nodes_in, paired, step_entry, types_of, written_in}
use Rattle.av_form_laws.specs.Subscripts.{map_in, numbered_map, numbered_values, subscripts_of, with_leaves}
use Rattle.av_form_laws.specs.Grammar.{else_words, in_square, iter_words, step_words}
use Rattle.av_form_laws.specs.Rows.{FitsRow, words_of}
use Rattle.av_form_laws.specs.Words.{between_commas, region, single, subscript, value, variable}
use Rattle.av_form_laws.proofs.Entries.{first-applied, out-map, step-first}
use Rattle.av_values.proofs.Entries.{out-array}
use Rattle.av_values.specs.Gifts.{Line, all_written, args_in, end_of, first_numbers, with_args_in, with_last}

-- ---- regions
abbrev pub yield : List ℕ
yield = codes "affine.yield"

pub args-are : (args : List BodyArg) (nodes : List Node) (bodies : List Body) → args_in (body args nodes ∷ bodies) ≡ args
args-are args nodes bodies = ap (λ (b : Body-F Body Node). b.args) (out-roll-Body (record { args = args; nodes = nodes }))

pub nodes-are : (args : List BodyArg) (nodes : List Node) (bodies : List Body) → nodes_in (body args nodes ∷ bodies) ≡ nodes
nodes-are args nodes bodies = ap (λ (b : Body-F Body Node). b.nodes) (out-roll-Body (record { args = args; nodes = nodes }))

pub others-are : (args others : List BodyArg) (nodes : List Node) (bodies : List Body)
    → with_args_in others (body args nodes ∷ bodies) ≡ body others nodes ∷ bodies
others-are args others nodes bodies =
    ap (λ (b : Body-F Body Node). roll-Body (record b { args = others }) ∷ bodies) (out-roll-Body (record { args = args; nodes = nodes }))

-- a region without arguments, and one that ends so
pub region-is : (nodes : List Node) (bodies : List Body) → ended yield (written_in yield nodes) ≡ nodes → HasRegion (around (body [] nodes ∷ bodies))
region-is nodes bodies h =
    ap (λ ns. roll-Body (record { args = []; nodes = ns }) ∷ bodies) (sym h ∙ ap (λ ns. ended yield (written_in yield ns)) (sym (nodes-are [] nodes bodies)))

region-args : (n : Line) → HasRegion n → args_in n.regions ≡ []
region-args n h = ap args_in h ∙ args-are [] _ (drop 1 n.regions)

region-nodes : (n : Line) → HasRegion n → nodes_in n.regions ≡ ended (end_of n.name) (written_in (end_of n.name) (nodes_in n.regions))
region-nodes n h = ap nodes_in h ∙ nodes-are [] _ (drop 1 n.regions)

pub end-stays : ended yield (written_in yield (end ∷ [])) ≡ end ∷ []
unfolding ended plain
end-stays = simp out-roll-Node refl

end-put-in : ended yield (written_in yield (end_put_in ∷ [])) ≡ end_put_in ∷ []
unfolding ended plain
end-put-in = simp out-roll-Node refl

pub written-end : written_in yield (end ∷ []) ≡ end ∷ []
unfolding plain
written-end = simp out-roll-Node refl

nothing-written : written_in yield (end_put_in ∷ []) ≡ []
unfolding plain
nothing-written = simp out-roll-Node refl

looped-fits : (nodes : List Node) → ended yield (written_in yield nodes) ≡ nodes → FitsRow results.Zero looped (around (body (counter a ∷ []) nodes ∷ []))
looped-fits nodes h = (
  subst (λ xs. xs ≡ counter (first_name xs) ∷ drop 1 xs) (sym (args-are (counter a ∷ []) nodes [])) refl,
  (
    subst (λ bodies. HasRegion (around bodies))
        (sym (ap (λ xs. with_args_in (drop 1 xs) (body (counter a ∷ []) nodes ∷ [])) (args-are (counter a ∷ []) nodes []) ∙ others-are (counter a ∷ []) [] nodes []))
        (region-is nodes [] h),
    refl,
  ),
)

looped-words : (nodes written : List Node) → written_in yield nodes ≡ written
    → words_of looped (around (body (counter a ∷ []) nodes ∷ [])) ≡ variable a ∷ region written ∷ []
looped-words nodes written h =
    ap (λ xs. variable (first_name xs) ∷ region (written_in yield (nodes_in (with_args_in (drop 1 xs) (body (counter a ∷ []) nodes ∷ [])))) ∷ [])
    (args-are (counter a ∷ []) nodes [])
    ∙ ap (λ bodies. variable a ∷ region (written_in yield (nodes_in bodies)) ∷ []) (others-are (counter a ∷ []) [] nodes [])
    ∙ ap (λ ns. variable a ∷ region (written_in yield ns) ∷ []) (nodes-are [] nodes []) ∙ ap (λ ns. variable a ∷ region ns ∷ []) h

first-type : List BodyArg → TypeText
first-type [] = index_type
first-type (arg ∷ args) = arg.ty

-- what is left of the region behind the counter
left : List BodyArg → List Node → List Body
left args nodes = with_args_in (drop 1 (args_in (body args nodes ∷ []))) (body args nodes ∷ [])

left-is : (args : List BodyArg) (nodes : List Node) → left args nodes ≡ body (drop 1 args) nodes ∷ []
unfolding left
left-is args nodes =
    ap (λ xs. with_args_in (drop 1 xs) (body args nodes ∷ [])) (args-are args nodes []) ∙ others-are args (drop 1 args) nodes []

pub region-examples : RegionExamples
unfolding left first-type ended
region-examples t other = (
  looped-fits (end ∷ []) end-stays,
  looped-words (end ∷ []) (end ∷ []) written-end,
  looped-fits (end_put_in ∷ []) end-put-in,
  looped-words (end_put_in ∷ []) [] nothing-written,
  (λ h.
      let empty : nodes_in (left (counter a ∷ []) []) ≡ [] = ap nodes_in (left-is (counter a ∷ []) []) ∙ nodes-are [] [] [] in
      let d : [] ≡ end_put_in ∷ [] = sym empty ∙ region-nodes (around (left (counter a ∷ []) [])) h.1.0 ∙ ap (λ ns. ended yield (written_in yield ns)) empty in
      cc),
  (λ h. other (sym (ap first-type (args-are _ (end ∷ []) [])) ∙ ap first-type h.0)),
  (λ h.
      let d : _ ∷ [] ≡ [] = sym (ap args_in (left-is _ (end ∷ [])) ∙ args-are _ (end ∷ []) []) ∙ region-args (around (left _ (end ∷ []))) h.1.0 in
      cc),
  (λ h. let d : [] ≡ _ ∷ _ = h.0 in cc),
)

-- ---- branches
branched-fits : (nodes others : List Node) → ended yield (written_in yield nodes) ≡ nodes → ended yield (written_in yield others) ≡ others
    → FitsRow results.Zero branched (around (body [] nodes ∷ body [] others ∷ []))
branched-fits nodes others g h = (region-is nodes (body [] others ∷ []) g, (region-is others [] h, refl))

branched-words : (nodes others written more : List Node) → written_in yield nodes ≡ written → written_in yield others ≡ more
    → words_of branched (around (body [] nodes ∷ body [] others ∷ [])) ≡ region written ∷ (else_words more ++ [])
branched-words nodes others written more g h =
    ap (λ ns. region (written_in yield ns) ∷ (else_words (written_in yield (nodes_in (body [] others ∷ []))) ++ [])) (nodes-are [] nodes (body [] others ∷ []))
    ∙ ap (λ ns. region (written_in yield nodes) ∷ (else_words (written_in yield ns) ++ [])) (nodes-are [] others [])
    ∙ ap (λ ns. region ns ∷ (else_words (written_in yield others) ++ [])) g ∙ ap (λ ns. region written ∷ (else_words ns ++ [])) h

pub else-examples : ElseExamples
else-examples = (
  branched-fits (end ∷ []) (end ∷ []) end-stays end-stays,
  branched-words (end ∷ []) (end ∷ []) (end ∷ []) (end ∷ []) written-end written-end,
  branched-fits (end ∷ []) (end_put_in ∷ []) end-stays end-put-in,
  branched-words (end ∷ []) (end_put_in ∷ []) (end ∷ []) [] written-end nothing-written,
  (λ h. let d : [] ≡ _ ∷ _ = h.1.0 in cc),
)

-- ---- steps and bounds
pub step-examples : StepExamples
step-examples = (
  (λ s. (ap (λ k. step_entry k ∷ []) (sym (step-first s [])), refl)),
  ap (λ s. step_words s ++ []) (step-first 1 []),
  ap (λ s. step_words s ++ []) (step-first 2 []),
  (λ h. let d : [] ≡ _ ∷ _ = h.0 in cc),
)

pub bound-examples : BoundExamples
bound-examples = (
  ((simp out-map refl, simp (out-map, out-array) refl), ((simp out-map refl, simp (out-map, out-array) refl), simp out-array refl)),
  simp (out-map, out-array) refl,
  (λ h. let d = simp out-array at (ap {A = List Named} {B = List ℤ} (λ es. first_numbers (drop 1 es)) h.1.0.1) in cc),
  (λ h. let d = simp (out-map, out-array) at (ap {A = List Named} {B = List ℤ} (λ es. first_numbers (drop 1 es)) h.0.1) in cc),
)

-- ---- carried values
-- what fits where the region has these arguments
abbrev CarriedBy : TypeText → List BodyArg → Type 0
CarriedBy t args =
    ((args ≡ args_of (paired args (c ∷ []))) × (c ∷ [] ≡ inits_of (paired args (c ∷ [])))
    × (Some t ∷ [] ≡ with_last (all_written (types_of (paired args (c ∷ [])))) (Some t ∷ []))
    × (Some t ∷ [] ≡ all_written (types_of (paired args (c ∷ [])))))
    × AreWanted (types_of (paired args (c ∷ [])))

carrying-words : (t : TypeText) (args : List BodyArg)
    → words_of carrying (carrying_line t args) ≡ iter_words (paired args (c ∷ [])) ++ region (end ∷ []) ∷ []
carrying-words t args =
    ap (λ xs. iter_words (paired xs (c ∷ [])) ++ region (written_in yield (nodes_in (with_args_in [] (body args (end ∷ []) ∷ [])))) ∷ [])
    (args-are args (end ∷ []) [])
    ∙ ap (λ bodies. iter_words (paired args (c ∷ [])) ++ region (written_in yield (nodes_in bodies)) ∷ []) (others-are args [] (end ∷ []) [])
    ∙ ap (λ ns. iter_words (paired args (c ∷ [])) ++ region (written_in yield ns) ∷ []) (nodes-are [] (end ∷ []) [])
    ∙ ap (λ ns. iter_words (paired args (c ∷ [])) ++ region ns ∷ []) written-end

pub carried-examples : CarriedExamples
carried-examples t i = (
  (
    subst (CarriedBy t) (sym (args-are (typed_arg a t ∷ []) (end ∷ []) [])) ((refl, refl, refl, refl), ap (λ q. q && true) i),
    (subst (λ bodies. HasRegion (around bodies)) (sym (others-are (typed_arg a t ∷ []) [] (end ∷ []) [])) (region-is (end ∷ []) [] end-stays), refl),
  ),
  carrying-words t (typed_arg a t ∷ []),
  (λ h. let d : c ∷ [] ≡ [] = (subst (CarriedBy t) (args-are [] (end ∷ []) []) h.0).0.1 in cc),
  (λ u other h.
      let d : Some t ∷ [] ≡ Some u ∷ [] = (subst (CarriedBy t) (args-are (typed_arg a u ∷ []) (end ∷ []) []) h.0).0.3 in
      let same : t ≡ u = cc in
      other same),
)

both-true : (p q : Bool) → p ≡ true → q ≡ true → (p && (q && true)) ≡ true
both-true true true i j = refl
both-true true false i j = j
both-true false q i j = i

pub result-examples : ResultExamples
result-examples t u i j = (
  ((refl, refl), refl),
  ((refl, both-true (is_wanted wanted.Any (out-TypeText t)) (is_wanted wanted.Any (out-TypeText u)) i j), refl),
  refl,
  (λ h. let d : Some t ∷ None ∷ [] ≡ Some t ∷ [] = h.0.0 in cc),
)

-- ---- subscripts
-- the subscripts where this is the map, and what fits then
abbrev behind : Applied → List Expression
behind x = subscripts_of (map_in x) (b ∷ c ∷ [])

abbrev AccessBy : List Named → Applied → Type 0
AccessBy es x = Unit {0} × ((b ∷ c ∷ [] ≡ numbered_values (behind x)) × (es ≡ applied_entry (codes "map") (numbered_map (behind x)) ∷ []))

abbrev a_map_of : List (List ℕ) → List ExprText → Applied
a_map_of dims exprs = written_map (record { dims = dims; syms = codes "s0" ∷ []; results = exprs })

map-is : (dims : List (List ℕ)) (exprs : List ExprText) → first_applied (access_line dims exprs).properties ≡ a_map_of dims exprs
map-is dims exprs = first-applied (codes "map") (a_map_of dims exprs) []

-- a map that fits is the one of its subscripts
own-map : (dims : List (List ℕ)) (exprs : List ExprText) → AccessBy (access_line dims exprs).properties (a_map_of dims exprs)
    → a_map_of dims exprs ≡ numbered_map (behind (a_map_of dims exprs))
own-map dims exprs h = sym (map-is dims exprs) ∙ ap first_applied h.1.1 ∙ first-applied (codes "map") (numbered_map (behind (a_map_of dims exprs))) []

others-differ : codes "d1" ∷ [] ≡ codes "d0" ∷ [] → ⊥
others-differ h = let d : false ≡ true = ap (λ names. bytes_eq (first_text names) (codes "d0")) h in cc

pub access-examples : AccessExamples
unfolding with_leaves numbered numbered_all first_names digits shape-the_row-ExprText-0 hidden-the_row-ExprText-0 hidden
access-examples = (
  (
    subst (AccessBy (access_line (codes "d0" ∷ []) (less_one (codes "d0") ∷ expr.Name (codes "s0") ∷ [])).properties)
        (sym (map-is (codes "d0" ∷ []) (less_one (codes "d0") ∷ expr.Name (codes "s0") ∷ []))) (tt, (refl, refl)),
    refl,
  ),
  ap (λ x. value a ∷ (in_square (between_commas (single subscript) (behind x)) ++ [])) (map-is (codes "d0" ∷ []) (less_one (codes "d0") ∷ expr.Name (codes "s0") ∷ [])),
  (λ h.
      let fits = subst (AccessBy _) (map-is (codes "d1" ∷ []) (less_one (codes "d1") ∷ expr.Name (codes "s0") ∷ [])) h.0 in
      others-differ (ap (λ x. (map_in x).dims) (own-map (codes "d1" ∷ []) (less_one (codes "d1") ∷ expr.Name (codes "s0") ∷ []) fits))),
  (λ h.
      let d : b ∷ c ∷ [] ≡ c ∷ [] = (subst (AccessBy _) (map-is (codes "d0" ∷ []) (expr.Name (codes "s0") ∷ [])) h.0).1.0 in
      cc),
)
