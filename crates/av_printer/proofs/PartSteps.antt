-- The spelling of parts of forms.
use Rattle.std.proofs.Common.{◌≡◌, ℕ, zero, suc, ◌+◌, ◌-◌, ◌<◌, ◌≤◌, ℤ, pos, true, false, cond, Bool, List, [], ◌∷◌, ◌++◌, length, get_or, take, drop, map, append_assoc, Option, Some, None, refl, sym, ap, ◌∙◌, arith}
use Rattle.av_lex.specs.declared.token.Kind.TheVariants as kinds
use Rattle.av_lex.specs.declared.token.Sign.TheVariants.{Arrow}
use Rattle.std.specs.Prelude.{if◌then◌else◌, codes}
use Rattle.av_tree.specs.declared.written.SizeText.{SizeText}
use Rattle.av_tree.specs.declared.written.DimText.{DimText}
use Rattle.av_tree.specs.declared.written.LayoutText.{LayoutText}
use Rattle.av_tree.specs.declared.written.MapText.{MapText}
use Rattle.av_tree.specs.declared.written.SetText.{SetText}
use Rattle.av_tree.specs.declared.written.TypeText.{TypeText, out-TypeText, out-roll-TypeText}
use Rattle.av_tree.specs.declared.written.TypeText as type_named
use Rattle.av_tree.specs.declared.written.TypeText.TheVariants as type_rolls
use Rattle.av_tree.specs.declared.written.TypeText.TheOpen as open_type
use Rattle.av_tree.specs.declared.attribute.Attr.{Attr, Attr-F, out-Attr, roll-Attr, out-roll-Attr, roll-out-Attr}
use Rattle.av_tree.specs.declared.attribute.Attr as attr_named
use Rattle.av_tree.specs.declared.attribute.Attr.TheVariants as attr_rolls
use Rattle.av_tree.specs.declared.attribute.Attr.TheOpen as open_attr
use Rattle.av_tree.specs.declared.attribute.Named.{Named}
use Rattle.std.proofs.lemmas.List.{drop_all}
use Rattle.av_dialects.specs.declared.item.Item.{Item}
use Rattle.av_dialects.specs.declared.item.Item.TheVariants as item
use Rattle.av_dialects.specs.Rows.{Part}
use Rattle.av_dialects.specs.Types.{needs, takes, takes_more}
use Rattle.av_printer.specs.Pieces.{spelt, space, token, sign, plain, comma, spaced, commas, behind, in_square}
use Rattle.av_printer.specs.Types.{type_pieces}
use Rattle.av_printer.specs.Expressions.{number, value, map_use, set_use, bound}
use Rattle.av_printer.specs.Operations.{Head, values_pieces, values_in_round, known_type, known_results}
use Rattle.av_printer.specs.Parts.{element, first_known, is_vector, condition_type, selected_types, written_results, applied_in, applied, predicate_at, word_if_any, word_in, word_of, angled, angled_in, angled_of, flags, flags_in, flags_of, numbers_in, numbers, natural, counted_in, counted, size_in, size_of, alias_bound, bound_in, bound_of, share, is_region, before_regions, behind_seen, part_pieces, parts_pieces}
use Rattle.av_printer.proofs.Steps.{spelt-append, spelt-token, spelt-none}
use Rattle.av_printer.proofs.ExpressionSteps.{spelt-value}

-- ---- several or none
pub element-none : (vs : List (List ℕ)) → length vs ≡ 0 → element vs ≡ []
unfolding element
element-none [] h = refl
element-none (v ∷ vs) h = absurd (omega arith)

pub element-some : (vs : List (List ℕ)) (v : List ℕ) → 1 ≤ length vs → v ≡ get_or vs 0 v → element vs ≡ value v ++ in_square (values_pieces (drop 1 vs))
unfolding element
element-some [] v h e = absurd (omega arith)
element-some (x ∷ vs) v h e = ap (λ y. value y ++ in_square (values_pieces vs)) (sym e)

pub first-none : (ts : List (Option TypeText)) → length ts ≡ 0 → first_known ts ≡ []
unfolding first_known
first-none [] h = refl
first-none (t ∷ ts) h = absurd (omega arith)

pub first-some : (ts : List (Option TypeText)) (t : Option TypeText) → 1 ≤ length ts → t ≡ get_or ts 0 t → first_known ts ≡ known_type t
unfolding first_known
first-some [] t h e = absurd (omega arith)
first-some (x ∷ ts) t h e = ap known_type (sym e)

pub selected-none : (ts : List (Option TypeText)) → length ts ≡ 0 → selected_types ts ≡ []
unfolding selected_types
selected-none [] h = refl
selected-none (t ∷ ts) h = absurd (omega arith)

pub selected-some : (ts : List (Option TypeText)) (t : Option TypeText) → 1 ≤ length ts → t ≡ get_or ts 0 t
    → selected_types ts ≡ condition_type t ++ first_known (drop 1 ts)
unfolding selected_types
selected-some [] t h e = absurd (omega arith)
selected-some (x ∷ ts) t h e = ap (λ y. condition_type y ++ first_known ts) (sym e)

pub results-none : (ts : List (Option TypeText)) → length ts ≡ 0 → written_results ts ≡ []
unfolding written_results
results-none [] h = refl
results-none (t ∷ ts) h = absurd (omega arith)

pub results-some : (ts : List (Option TypeText)) → 0 < length ts → written_results ts ≡ spaced (sign Arrow) ++ known_results ts
unfolding written_results
results-some [] h = absurd (omega arith)
results-some (t ∷ ts) h = refl

pub ruleset part_steps = (element-none, element-some, first-none, first-some, selected-none, selected-some, results-none, results-some)

-- ---- types of conditions
pub vector-scalar : (name : List ℕ) → is_vector (out-TypeText (type_named.Scalar name)) ≡ false
vector-scalar name =
    ap (λ (t : TypeText). is_vector (out-TypeText t)) (sym (type_rolls.rolls-Scalar name)) ∙ ap is_vector (out-roll-TypeText (open_type.Scalar name))

pub vector-memref : (sizes : List SizeText) (elem : List ℕ) (at : Option LayoutText) → is_vector (out-TypeText (type_named.MemRef sizes elem at)) ≡ false
vector-memref sizes elem at =
    ap (λ (t : TypeText). is_vector (out-TypeText t)) (sym (type_rolls.rolls-MemRef sizes elem at)) ∙ ap is_vector (out-roll-TypeText (open_type.MemRef sizes elem at))

pub vector-vector : (dims : List DimText) (elem : List ℕ) → is_vector (out-TypeText (type_named.Vector dims elem)) ≡ true
vector-vector dims elem =
    ap (λ (t : TypeText). is_vector (out-TypeText t)) (sym (type_rolls.rolls-Vector dims elem)) ∙ ap is_vector (out-roll-TypeText (open_type.Vector dims elem))

pub vector-func : (inputs results : List TypeText) → is_vector (out-TypeText (type_named.Func inputs results)) ≡ false
vector-func inputs results =
    ap (λ (t : TypeText). is_vector (out-TypeText t)) (sym (type_rolls.rolls-Func inputs results)) ∙ ap is_vector (out-roll-TypeText (open_type.Func inputs results))

pub ruleset vector_steps = (vector-scalar, vector-memref, vector-vector, vector-func)

pub condition-none : condition_type None ≡ []
unfolding condition_type
condition-none = refl

pub condition-vector : (ty : TypeText) → true ≡ is_vector (out-TypeText ty) → condition_type (Some ty) ≡ type_pieces ty ++ comma
unfolding condition_type
condition-vector ty e = ap (λ b. cond b (type_pieces ty ++ comma) []) (sym e)

pub condition-other : (ty : TypeText) → false ≡ is_vector (out-TypeText ty) → condition_type (Some ty) ≡ []
unfolding condition_type
condition-other ty e = ap (λ b. cond b (type_pieces ty ++ comma) []) (sym e)

pub ruleset condition_steps = (condition-none, condition-vector, condition-other)

-- ---- maps and sets with their operands
pub applied-none : (vs : List (List ℕ)) → applied None vs ≡ []
unfolding applied
applied-none vs = refl

pub applied-map : (m : MapText) (vs : List (List ℕ)) → applied (Some (attr_named.Map m)) vs ≡ map_use m vs
unfolding applied
applied-map m vs =
    ap (λ a. applied (Some a) vs) (sym (attr_rolls.rolls-Map m)) ∙ ap (applied_in vs) (out-roll-Attr (open_attr.Map m))

pub applied-set : (s : SetText) (vs : List (List ℕ)) → applied (Some (attr_named.Set s)) vs ≡ set_use s vs
unfolding applied
applied-set s vs =
    ap (λ a. applied (Some a) vs) (sym (attr_rolls.rolls-Set s)) ∙ ap (applied_in vs) (out-roll-Attr (open_attr.Set s))

pub applied-alias : (name : List ℕ) (vs : List (List ℕ)) → applied (Some (attr_named.AliasUse name)) vs ≡ token kinds.HashId name ++ values_in_round vs
unfolding applied
applied-alias name vs =
    ap (λ a. applied (Some a) vs) (sym (attr_rolls.rolls-AliasUse name)) ∙ ap (applied_in vs) (out-roll-Attr (open_attr.AliasUse name))

applied-in : (x : Attr-F Attr Named) (vs : List (List ℕ)) → ((m : MapText) → x ≡ open_attr.Map m → ⊥) → ((s : SetText) → x ≡ open_attr.Set s → ⊥)
    → ((name : List ℕ) → x ≡ open_attr.AliasUse name → ⊥) → applied_in vs x ≡ []
applied-in (open_attr.Map m) vs f g h = absurd (f m refl)
applied-in (open_attr.Set s) vs f g h = absurd (g s refl)
applied-in (open_attr.AliasUse name) vs f g h = absurd (h name refl)
applied-in other vs f g h = refl

pub applied-other : (a : Attr) (vs : List (List ℕ)) → ((m : MapText) → a ≡ attr_named.Map m → ⊥) → ((s : SetText) → a ≡ attr_named.Set s → ⊥)
    → ((name : List ℕ) → a ≡ attr_named.AliasUse name → ⊥) → applied (Some a) vs ≡ []
unfolding applied
applied-other a vs f g h =
    applied-in (out-Attr a) vs
    (λ m e. f m (sym (roll-out-Attr a) ∙ ap roll-Attr e ∙ attr_rolls.rolls-Map m))
    (λ s e. g s (sym (roll-out-Attr a) ∙ ap roll-Attr e ∙ attr_rolls.rolls-Set s))
    (λ name e. h name (sym (roll-out-Attr a) ∙ ap roll-Attr e ∙ attr_rolls.rolls-AliasUse name))

pub ruleset applied_steps = (applied-none, applied-map, applied-set, applied-alias)

-- ---- words of properties
pub word-none : spelt (word_of None) ≡ []
unfolding word_of
word-none = spelt-none

spelt-word : (text : List ℕ) → spelt (word_if_any text) ≡ text
unfolding word_if_any
spelt-word [] = spelt-none
spelt-word (c ∷ cs) = spelt-token kinds.Word (c ∷ cs)

pub word-some : (z : ℤ) (ty : TypeText) → spelt (word_of (Some (attr_named.Number z ty))) ≡ predicate_at z
unfolding word_of
word-some z ty =
    ap (λ a. spelt (word_of (Some a))) (sym (attr_rolls.rolls-Number z ty)) ∙ ap (λ x. spelt (word_in x)) (out-roll-Attr (open_attr.Number z ty))
    ∙ spelt-word (predicate_at z)

word-in : (x : Attr-F Attr Named) → ((z : ℤ) (ty : TypeText) → x ≡ open_attr.Number z ty → ⊥) → spelt (word_in x) ≡ []
word-in (open_attr.Number z ty) h = absurd (h z ty refl)
word-in other h = spelt-none

pub word-other : (a : Attr) → ((z : ℤ) (ty : TypeText) → a ≡ attr_named.Number z ty → ⊥) → spelt (word_of (Some a)) ≡ []
unfolding word_of
word-other a h = word-in (out-Attr a) (λ z ty e. h z ty (sym (roll-out-Attr a) ∙ ap roll-Attr e ∙ attr_rolls.rolls-Number z ty))

pub ruleset word_steps = (word-none, word-some)

-- ---- words of hashes
pub angled-none : angled_of None ≡ []
unfolding angled_of
angled-none = refl

pub angled-some : (name : List ℕ) (words : List (List ℕ)) → angled_of (Some (attr_named.Hash name words)) ≡ angled words
unfolding angled_of
angled-some name words =
    ap (λ a. angled_of (Some a)) (sym (attr_rolls.rolls-Hash name words)) ∙ ap angled_in (out-roll-Attr (open_attr.Hash name words))

angled-in : (x : Attr-F Attr Named) → ((name : List ℕ) (words : List (List ℕ)) → x ≡ open_attr.Hash name words → ⊥) → angled_in x ≡ []
angled-in (open_attr.Hash name words) h = absurd (h name words refl)
angled-in other h = refl

pub angled-other : (a : Attr) → ((name : List ℕ) (words : List (List ℕ)) → a ≡ attr_named.Hash name words → ⊥) → angled_of (Some a) ≡ []
unfolding angled_of
angled-other a h = angled-in (out-Attr a) (λ name words e. h name words (sym (roll-out-Attr a) ∙ ap roll-Attr e ∙ attr_rolls.rolls-Hash name words))

pub ruleset angled_steps = (angled-none, angled-some)

pub flags-none : flags_of None ≡ []
unfolding flags_of
flags-none = refl

pub flags-some : (name : List ℕ) (words : List (List ℕ)) → flags_of (Some (attr_named.Hash name words)) ≡ flags words
unfolding flags_of
flags-some name words =
    ap (λ a. flags_of (Some a)) (sym (attr_rolls.rolls-Hash name words)) ∙ ap flags_in (out-roll-Attr (open_attr.Hash name words))

flags-in : (x : Attr-F Attr Named) → ((name : List ℕ) (words : List (List ℕ)) → x ≡ open_attr.Hash name words → ⊥) → flags_in x ≡ []
flags-in (open_attr.Hash name words) h = absurd (h name words refl)
flags-in other h = refl

pub flags-other : (a : Attr) → ((name : List ℕ) (words : List (List ℕ)) → a ≡ attr_named.Hash name words → ⊥) → flags_of (Some a) ≡ []
unfolding flags_of
flags-other a h = flags-in (out-Attr a) (λ name words e. h name words (sym (roll-out-Attr a) ∙ ap roll-Attr e ∙ attr_rolls.rolls-Hash name words))

pub flags-empty : (words : List (List ℕ)) → length words ≡ 0 → flags words ≡ []
unfolding flags
flags-empty [] h = refl
flags-empty (w ∷ words) h = absurd (omega arith)

pub flags-full : (words : List (List ℕ)) → 0 < length words → flags words ≡ space ++ plain (codes "overflow") ++ angled words
unfolding flags
flags-full [] h = absurd (omega arith)
flags-full (w ∷ words) h = refl

pub ruleset flag_steps = (flags-none, flags-some, flags-empty, flags-full)

-- ---- numbers
pub numbers-none : numbers None ≡ []
unfolding numbers
numbers-none = refl

pub numbers-some : (elem : TypeText) (ns : List ℤ) → numbers (Some (attr_named.Array elem ns)) ≡ in_square (commas (map number ns))
unfolding numbers
numbers-some elem ns =
    ap (λ a. numbers (Some a)) (sym (attr_rolls.rolls-Array elem ns)) ∙ ap numbers_in (out-roll-Attr (open_attr.Array elem ns))

numbers-in : (x : Attr-F Attr Named) → ((elem : TypeText) (ns : List ℤ) → x ≡ open_attr.Array elem ns → ⊥) → numbers_in x ≡ []
numbers-in (open_attr.Array elem ns) h = absurd (h elem ns refl)
numbers-in other h = refl

pub numbers-other : (a : Attr) → ((elem : TypeText) (ns : List ℤ) → a ≡ attr_named.Array elem ns → ⊥) → numbers (Some a) ≡ []
unfolding numbers
numbers-other a h = numbers-in (out-Attr a) (λ elem ns e. h elem ns (sym (roll-out-Attr a) ∙ ap roll-Attr e ∙ attr_rolls.rolls-Array elem ns))

pub ruleset number_steps = (numbers-none, numbers-some)

-- ---- bounds of loops
pub bound-none : (lower : Bool) (vs : List (List ℕ)) → bound_of lower None vs ≡ []
unfolding bound_of
bound-none lower vs = refl

pub bound-map : (lower : Bool) (m : MapText) (vs : List (List ℕ)) → bound_of lower (Some (attr_named.Map m)) vs ≡ bound lower m vs
unfolding bound_of
bound-map lower m vs =
    ap (λ a. bound_of lower (Some a) vs) (sym (attr_rolls.rolls-Map m)) ∙ ap (bound_in lower vs) (out-roll-Attr (open_attr.Map m))

pub bound-alias : (lower : Bool) (name : List ℕ) (vs : List (List ℕ)) → bound_of lower (Some (attr_named.AliasUse name)) vs
    ≡ alias_bound lower name vs
unfolding bound_of
bound-alias lower name vs =
    ap (λ a. bound_of lower (Some a) vs) (sym (attr_rolls.rolls-AliasUse name)) ∙ ap (bound_in lower vs) (out-roll-Attr (open_attr.AliasUse name))

bound-in : (lower : Bool) (x : Attr-F Attr Named) (vs : List (List ℕ)) → ((m : MapText) → x ≡ open_attr.Map m → ⊥)
    → ((name : List ℕ) → x ≡ open_attr.AliasUse name → ⊥) → bound_in lower vs x ≡ []
bound-in lower (open_attr.Map m) vs f h = absurd (f m refl)
bound-in lower (open_attr.AliasUse name) vs f h = absurd (h name refl)
bound-in lower other vs f h = refl

pub bound-other : (lower : Bool) (a : Attr) (vs : List (List ℕ)) → ((m : MapText) → a ≡ attr_named.Map m → ⊥)
    → ((name : List ℕ) → a ≡ attr_named.AliasUse name → ⊥) → bound_of lower (Some a) vs ≡ []
unfolding bound_of
bound-other lower a vs f h =
    bound-in lower (out-Attr a) vs
    (λ m e. f m (sym (roll-out-Attr a) ∙ ap roll-Attr e ∙ attr_rolls.rolls-Map m))
    (λ name e. h name (sym (roll-out-Attr a) ∙ ap roll-Attr e ∙ attr_rolls.rolls-AliasUse name))

pub ruleset bound_of_steps = (bound-none, bound-map, bound-alias)

-- how many operands a bound takes
pub counted-none : (place : ℕ) → counted place None ≡ 0
unfolding counted
counted-none place = refl

pub counted-some : (place : ℕ) (elem : TypeText) (ns : List ℤ) → counted place (Some (attr_named.Array elem ns)) ≡ natural (get_or ns place (pos 0))
unfolding counted
counted-some place elem ns =
    ap (λ a. counted place (Some a)) (sym (attr_rolls.rolls-Array elem ns)) ∙ ap (counted_in place) (out-roll-Attr (open_attr.Array elem ns))

counted-in : (place : ℕ) (x : Attr-F Attr Named) → ((elem : TypeText) (ns : List ℤ) → x ≡ open_attr.Array elem ns → ⊥) → counted_in place x ≡ 0
counted-in place (open_attr.Array elem ns) h = absurd (h elem ns refl)
counted-in place other h = refl

pub counted-other : (place : ℕ) (a : Attr) → ((elem : TypeText) (ns : List ℤ) → a ≡ attr_named.Array elem ns → ⊥) → counted place (Some a) ≡ 0
unfolding counted
counted-other place a h = counted-in place (out-Attr a) (λ elem ns e. h elem ns (sym (roll-out-Attr a) ∙ ap roll-Attr e ∙ attr_rolls.rolls-Array elem ns))

pub size-none : (known : ℕ) → size_of known None ≡ 0
unfolding size_of
size-none known = refl

pub size-map : (known : ℕ) (m : MapText) → size_of known (Some (attr_named.Map m)) ≡ length m.dims + length m.syms
unfolding size_of
size-map known m = ap (λ a. size_of known (Some a)) (sym (attr_rolls.rolls-Map m)) ∙ ap (size_in known) (out-roll-Attr (open_attr.Map m))

pub size-alias : (known : ℕ) (name : List ℕ) → size_of known (Some (attr_named.AliasUse name)) ≡ known
unfolding size_of
size-alias known name = ap (λ a. size_of known (Some a)) (sym (attr_rolls.rolls-AliasUse name)) ∙ ap (size_in known) (out-roll-Attr (open_attr.AliasUse name))

size-in : (known : ℕ) (x : Attr-F Attr Named) → ((m : MapText) → x ≡ open_attr.Map m → ⊥)
    → ((name : List ℕ) → x ≡ open_attr.AliasUse name → ⊥) → size_in known x ≡ 0
size-in known (open_attr.Map m) f h = absurd (f m refl)
size-in known (open_attr.AliasUse name) f h = absurd (h name refl)
size-in known other f h = refl

pub size-other : (known : ℕ) (a : Attr) → ((m : MapText) → a ≡ attr_named.Map m → ⊥)
    → ((name : List ℕ) → a ≡ attr_named.AliasUse name → ⊥) → size_of known (Some a) ≡ 0
unfolding size_of
size-other known a f h =
    size-in known (out-Attr a)
    (λ m e. f m (sym (roll-out-Attr a) ∙ ap roll-Attr e ∙ attr_rolls.rolls-Map m))
    (λ name e. h name (sym (roll-out-Attr a) ∙ ap roll-Attr e ∙ attr_rolls.rolls-AliasUse name))

pub ruleset size_steps = (counted-none, counted-some, size-none, size-map, size-alias)

-- ---- regions
region-first : (part : Part) (parts : List Part) → is_region part.1 ≡ true → before_regions (part ∷ parts) ≡ []
unfolding before_regions
region-first part parts e = ap (λ b. cond b [] (part ∷ before_regions parts)) e

no-region : (part : Part) (parts : List Part) → is_region part.1 ≡ false → before_regions (part ∷ parts) ≡ part ∷ before_regions parts
unfolding before_regions
no-region part parts e = ap (λ b. cond b [] (part ∷ before_regions parts)) e

-- as far as no region is met, parts are before one
pub before-found : (parts : List Part) (d : Part) (i : ℕ) → i < length parts → true ≡ is_region (get_or parts i d).1
    → take i parts ++ before_regions (drop i parts) ≡ take i parts
before-found [] d i h f = absurd (omega arith)
before-found (x ∷ parts) d zero h f = region-first x parts (sym f)
before-found (x ∷ parts) d (suc i) h f = ap (λ ps. x ∷ ps) (before-found parts d i (omega arith) f)

pub before-next : (parts : List Part) (d : Part) (i : ℕ) → i < length parts → false ≡ is_region (get_or parts i d).1
    → take i parts ++ before_regions (drop i parts) ≡ take (suc i) parts ++ before_regions (drop (suc i) parts)
before-next [] d i h f = absurd (omega arith)
before-next (x ∷ parts) d zero h f = no-region x parts (sym f)
before-next (x ∷ parts) d (suc i) h f = ap (λ ps. x ∷ ps) (before-next parts d i (omega arith) f)

pub before-all : (parts : List Part) (i : ℕ) → length parts ≤ i → take i parts ++ before_regions (drop i parts) ≡ parts
unfolding before_regions
before-all [] zero h = refl
before-all [] (suc i) h = refl
before-all (x ∷ parts) zero h = absurd (omega arith)
before-all (x ∷ parts) (suc i) h = ap (λ ps. x ∷ ps) (before-all parts i (omega arith))

-- the first of the parts that are left decides
pub behind-region : (seen : Bool) (parts : List Part) (d : Part) (i : ℕ) → i < length parts → true ≡ is_region (get_or parts i d).1
    → behind_seen seen (drop i parts) ≡ behind_seen true (drop (suc i) parts)
unfolding behind_seen
behind-region seen [] d i h f = absurd (omega arith)
behind-region seen (x ∷ parts) d zero h f = ap (λ b. cond b (behind_seen true parts) (cond seen (x ∷ parts) (behind_seen false parts))) (sym f)
behind-region seen (x ∷ parts) d (suc i) h f = behind-region seen parts d i (omega arith) f

pub behind-other : (seen : Bool) (parts : List Part) (d : Part) (i : ℕ) → i < length parts → false ≡ is_region (get_or parts i d).1
    → behind_seen seen (drop i parts) ≡ cond seen (drop i parts) (behind_seen false (drop (suc i) parts))
unfolding behind_seen
behind-other seen [] d i h f = absurd (omega arith)
behind-other seen (x ∷ parts) d zero h f = ap (λ b. cond b (behind_seen true parts) (cond seen (x ∷ parts) (behind_seen false parts))) (sym f)
behind-other seen (x ∷ parts) d (suc i) h f = behind-other seen parts d i (omega arith) f

pub behind-none : (seen : Bool) (parts : List Part) (i : ℕ) → length parts ≤ i → behind_seen seen (drop i parts) ≡ []
unfolding behind_seen
behind-none seen parts i h = ap (behind_seen seen) (drop_all i parts h)

pub one_more : (i : ℕ) → i + 1 ≡ suc i
one_more i = omega arith

-- ---- several parts
pub share-other : (h : Head) (i : Item) (left needed : ℕ) → (i ≡ item.LowerBound → ⊥) → (i ≡ item.UpperBound → ⊥)
    → share h i left needed ≡ (if takes_more i then left - needed else takes i)
share-other h item.LowerBound left needed f g = absurd (f refl)
share-other h item.UpperBound left needed f g = absurd (g refl)
share-other h other left needed f g = refl

-- one more part, with what it takes
pub parts-turn : (h : Head) (parts : List Part) (d : Part) (i : ℕ) (left taken others : List (List ℕ)) (out next whole : List ℕ)
    → i < length parts
    → taken ≡ take (share h (get_or parts i d).1 (length left) (needs (drop (suc i) parts))) left
    → others ≡ drop (share h (get_or parts i d).1 (length left) (needs (drop (suc i) parts))) left
    → next ≡ out ++ spelt (part_pieces h (get_or parts i d) taken)
    → out ++ spelt (parts_pieces h (drop i parts) left) ≡ whole → next ++ spelt (parts_pieces h (drop (suc i) parts) others) ≡ whole
unfolding parts_pieces
parts-turn h [] d i left taken others out next whole lt t o n w = absurd (omega arith)
parts-turn h (x ∷ parts) d zero left taken others out next whole lt t o n w =
    let k : ℕ = share h x.1 (length left) (needs parts) in
    ap (λ ps. ps ++ spelt (parts_pieces h parts others)) n
    ∙ append_assoc out (spelt (part_pieces h x taken)) (spelt (parts_pieces h parts others))
    ∙ ap (λ ps. out ++ ps) (sym (spelt-append (part_pieces h x taken) (parts_pieces h parts others)))
    ∙ ap (λ vs. out ++ spelt (part_pieces h x vs ++ parts_pieces h parts others)) t
    ∙ ap (λ vs. out ++ spelt (part_pieces h x (take k left) ++ parts_pieces h parts vs)) o
    ∙ w
parts-turn h (x ∷ parts) d (suc i) left taken others out next whole lt t o n w =
    parts-turn h parts d i left taken others out next whole (omega arith) t o n w

pub no_parts : (h : Head) (parts : List Part) (i : ℕ) (left : List (List ℕ)) → length parts ≤ i → spelt (parts_pieces h (drop i parts) left) ≡ []
unfolding parts_pieces
no_parts h parts i left over = ap (λ ps. spelt (parts_pieces h ps left)) (drop_all i parts over) ∙ spelt-none

-- ---- more values
spelt-comma : spelt comma ≡ codes ", "
unfolding spelt sign space
spelt-comma = refl

pub more-turn : (vs : List (List ℕ)) (v : List ℕ) (i : ℕ) (out begun next whole : List ℕ) → i < length vs → v ≡ get_or vs i v
    → begun ≡ out ++ codes ", " → next ≡ begun ++ v
    → out ++ spelt (behind (map value (drop i vs))) ≡ whole → next ++ spelt (behind (map value (drop (suc i) vs))) ≡ whole
unfolding behind
more-turn [] v i out begun next whole lt e b n w = absurd (omega arith)
more-turn (x ∷ vs) v zero out begun next whole lt e b n w =
    let others = behind (map value vs) in
    ap (λ t. t ++ spelt others) (n ∙ ap (λ t. t ++ v) b ∙ ap (λ t. out ++ codes ", " ++ t) (e ∙ sym (spelt-value x)))
    ∙ ap (λ t. out ++ t ++ spelt (value x) ++ spelt others) (sym spelt-comma)
    ∙ ap (λ t. t ++ spelt others) (append_assoc out (spelt comma) (spelt (value x)) ∙ ap (λ t. out ++ t) (sym (spelt-append comma (value x))))
    ∙ append_assoc out (spelt (comma ++ value x)) (spelt others)
    ∙ ap (λ t. out ++ t) (sym (spelt-append (comma ++ value x) others))
    ∙ w
more-turn (x ∷ vs) v (suc i) out begun next whole lt e b n w = more-turn vs v i out begun next whole (omega arith) e b n w

pub no_more : (vs : List (List ℕ)) (i : ℕ) → length vs ≤ i → spelt (behind (map value (drop i vs))) ≡ []
unfolding behind
no_more vs i over = ap (λ rest. spelt (behind (map value rest))) (drop_all i vs over) ∙ spelt-none
