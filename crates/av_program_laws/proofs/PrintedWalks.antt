-- The trees that are printed for sound programs can be read.
use Rattle.std.proofs.Common.{◌≡◌, ℕ, ◌+◌, ◌<◌, ◌≤◌, ◌^◌, false, cond, List, [], ◌∷◌, ◌++◌, length, refl, ◌∙◌, ap, subst, sym, arith, codes}
use Rattle.std.specs.Prelude.{ℤ, Some}
use Rattle.std.specs.List.{All, range_with_len}
use Rattle.std.proofs.lemmas.Bool.{false≢true}
use Rattle.std.proofs.lemmas.List.Elements.{All-nil}
use Rattle.av_lex.specs.declared.token.Kind.TheVariants as kinds
use Rattle.av_lex.specs.Bytes.{in_class}
use Rattle.av_ir.specs.declared.ty.Elem.TheVariants.{Index}
use Rattle.av_ir.specs.declared.ty.Ty.{Ty}
use Rattle.av_ir.specs.declared.ty.Ty.TheVariants.{Scalar}
use Rattle.av_tree.specs.declared.attribute.Attr.{Attr, out-Attr, out-roll-Attr}
use Rattle.av_tree.specs.declared.attribute.Attr.TheVariants as attr
use Rattle.av_tree.specs.declared.attribute.Attr.TheOpen as open_attr
use Rattle.av_tree.specs.declared.attribute.Named.{Named, Named-F, out-roll-Named}
use Rattle.av_printer.specs.declared.form.Form.TheVariants as forms
use Rattle.av_printer.specs.Expressions.{same}
use Rattle.av_printer.specs.Operations.{property, text_of, text_in}
use Rattle.av_totree.specs.Names.{argument_name, operation_name}
use Rattle.av_program_laws.specs.Programs.{Subscript, fixed, variable, plus, minus, Line, constant, sum, load, store, Step, single, counted, Program}
use Rattle.av_program_laws.specs.Walks.{Place, element, buffer, type_at, next, passed, with_result, with_argument, after_line, after_lines, inside, after_step, after_steps, after_buffers, first_place, body_place}
use Rattle.av_program_laws.specs.Modules.{subscript_values}
use Rattle.av_program_laws.specs.WrittenTrees.{entry, mark, next_name, constant_node, constant_attr, map_entry, subscript_map, line_node, end_node, line_nodes, argument, loop_properties, loop_body, step_node, step_nodes, arguments, function_properties, function_node, written_tree}
use Rattle.av_program_laws.specs.Sound.{IsSoundLine, visible_after, AreSoundLines, IsSoundStep, visible_behind, AreSoundSteps, IsSound}
use Rattle.av_program_laws.proofs.Ahead.{AreBefore, next-result, next-argument, next-passed}
use Rattle.av_print_laws.specs.Spacing.{IsWord}
use Rattle.av_print_laws.specs.ReadAttributes as attributes
use Rattle.av_print_laws.specs.ReadAttributes.{AreReadEntries, no_entries}
use Rattle.av_print_laws.specs.ReadNodes.{IsResult, IsReadArg, HasSymbol, IsReadNode, AreReadBodies, no_bodies, AreReadNodes, no_nodes, one_node_more}
use Rattle.av_print_laws.proofs.Words.{is_word}
use Rattle.av_program_laws.proofs.PrintedNames.{argument_is, operation_is, symbol_word, quoted_word, quotes_word}
use Rattle.av_program_laws.proofs.PrintedParts.{all_cons, all_tail, index_type, element_type, buffer_type, function_type, entry_more, mark_read, constant_read, access_read, loop_read}
use Rattle.av_program_laws.proofs.PrintedNodes.{IsReadTy, IsGood, good-result, good-argument, good-passed, type_read, node_read, outer_read, one_body}

-- ---- places
good-line : (line : Line) (place : Place) → IsGood place → IsGood (after_line line place)
unfolding after_line
good-line (constant pattern) place good = good-result element place element_type good
good-line (sum left right) place good = good-result (type_at place left) place (type_read place left good) good
good-line (load from at) place good = good-result element place element_type good
good-line (store stored into at) place good = good-passed place good

good-lines : (lines : List Line) (place : Place) → IsGood place → IsGood (after_lines lines place)
unfolding after_lines
good-lines [] place good = good
good-lines (line ∷ lines) place good = good-lines lines (after_line line place) (good-line line place good)

good-inside : (place : Place) → IsGood place → IsGood (inside place)
unfolding inside
good-inside place good =
    let few : place.loops ≤ place.number = good.loops in
    good-argument (Scalar Index) (record place { number = place.number + 1; loops = place.loops + 1 }) index_type
    (record { names = good.names; types = good.types; named = good.named; loops = omega arith })

good-step : (step : Step) (place : Place) → IsGood place → IsGood (after_step step place)
unfolding after_step
good-step (single pattern) place good = good-result element place element_type good
good-step (counted lower upper lines) place good =
    good-passed (after_lines lines (inside place)) (good-lines lines (inside place) (good-inside place good))

good-buffers : (sizes : List ℕ) (place : Place) → All (λ size. size < 2 ^ 31) sizes → IsGood place → IsGood (after_buffers sizes place)
unfolding after_buffers
good-buffers [] place h good = good
good-buffers (size ∷ sizes) place h good =
    good-buffers sizes (with_argument (buffer size) place) (all_tail (λ size. size < 2 ^ 31) size sizes h)
    (good-argument (buffer size) place (buffer_type size (h 0 0 (omega arith))) good)

good-first : IsGood first_place
good-first = record { names = λ k d below. absurd (omega arith); types = λ k d below. absurd (omega arith); named = refl; loops = omega arith }

-- ---- numbers only grow
number-line : (line : Line) (place : Place) → (after_line line place).number ≡ place.number + 1
unfolding after_line with_result passed
number-line (constant pattern) place = refl
number-line (sum left right) place = refl
number-line (load from at) place = refl
number-line (store stored into at) place = refl

number-lines : (lines : List Line) (place : Place) → place.number ≤ (after_lines lines place).number
unfolding after_lines
number-lines [] place = omega arith
number-lines (line ∷ lines) place = omega (arith, number-line line place, number-lines lines (after_line line place))

number-inside : (place : Place) → (inside place).number ≡ place.number + 1
unfolding inside with_argument
number-inside place = refl

number-passed : (place : Place) → (passed place).number ≡ place.number + 1
unfolding passed
number-passed place = refl

number-single : (pattern : ℕ) (place : Place) → (after_step (single pattern) place).number ≡ place.number + 1
unfolding after_step with_result
number-single pattern place = refl

number-counted : (lower upper : ℤ) (lines : List Line) (place : Place)
    → (after_step (counted lower upper lines) place).number ≡ (after_lines lines (inside place)).number + 1
unfolding after_step passed
number-counted lower upper lines place = refl

number-step : (step : Step) (place : Place) → place.number + 1 ≤ (after_step step place).number
number-step (single pattern) place = omega (arith, number-single pattern place)
number-step (counted lower upper lines) place =
    omega (arith, number-counted lower upper lines place, number-lines lines (inside place), number-inside place)

number-steps : (steps : List Step) (place : Place) → place.number ≤ (after_steps steps place).number
unfolding after_steps
number-steps [] place = omega arith
number-steps (step ∷ steps) place = omega (arith, number-step step place, number-steps steps (after_step step place))

-- ---- values only grow
next-line : (line : Line) (place : Place) → next place ≤ next (after_line line place)
unfolding after_line
next-line (constant pattern) place = omega (arith, next-result element place)
next-line (sum left right) place = omega (arith, next-result (type_at place left) place)
next-line (load from at) place = omega (arith, next-result element place)
next-line (store stored into at) place = omega (arith, next-passed place)

next-inside : (place : Place) → next (inside place) ≡ next place + 1
unfolding inside
next-inside place = next-argument (Scalar Index) (record place { number = place.number + 1; loops = place.loops + 1 })

before_subscript : (counter : ℕ) (at : Subscript) (place : Place) → counter < next place → AreBefore place (subscript_values counter at)
before_subscript counter (fixed z) place lt = tt
before_subscript counter variable place lt = (lt, tt)
before_subscript counter (plus z) place lt = (lt, tt)
before_subscript counter (minus z) place lt = (lt, tt)

-- ---- nodes
no_types : All IsReadTy []
no_types = All-nil IsReadTy

one_type : (ty : Ty) → IsReadTy ty → All IsReadTy (ty ∷ [])
one_type ty h = all_cons IsReadTy ty [] h (All-nil IsReadTy)

no_results : All IsResult []
no_results = All-nil IsResult

one_result : (place : Place) → All IsResult (next_name place)
one_result place = all_cons IsResult (operation_name place.operations) [] (operation_is place.operations).made (All-nil IsResult)

constant_line : (pattern : ℕ) (place : Place) → IsGood place → IsReadNode forms.Named (constant_node pattern place)
unfolding constant_node in_class
constant_line pattern place good =
    node_read (codes "arith.constant") place [] (next_name place) (element ∷ []) (entry (codes "value") (constant_attr pattern) ∷ []) [] [] good
    (quotes_word (codes "arith.constant") refl) refl tt (one_result place) (one_type element element_type) (constant_read pattern) no_entries no_bodies

access_mark : (place : Place) → place.number < 2 ^ 64 → AreReadEntries (mark (codes "affvec.of") place.number)
unfolding in_class
access_mark place few = mark_read (codes "affvec.of") place.number (is_word (codes "affvec.of") refl) few

line_read : (counter : ℕ) (line : Line) (place : Place) (visible : List ℕ) → IsGood place → counter < next place → place.number < 2 ^ 64
    → IsSoundLine visible place line → IsReadNode forms.Named (line_node counter line place)
unfolding line_node IsSoundLine in_class
line_read counter (constant pattern) place visible good lt few sound = constant_line pattern place good
line_read counter (sum left right) place visible good lt few sound =
    node_read (codes "arith.addi") place (left ∷ right ∷ []) (next_name place) (type_at place left ∷ []) [] [] [] good
    (quotes_word (codes "arith.addi") refl) refl (sound.1.1, (sound.2.1, tt)) (one_result place)
    (one_type (type_at place left) (type_read place left good)) no_entries no_entries no_bodies
line_read counter (load from at) place visible good lt few sound =
    node_read (codes "affine.load") place (from ∷ subscript_values counter at) (next_name place) (element ∷ [])
    (map_entry (codes "map") (subscript_map at) ∷ []) (mark (codes "affvec.of") place.number) [] good
    (quotes_word (codes "affine.load") refl) refl (sound.0.1.1, before_subscript counter at place lt) (one_result place)
    (one_type element element_type) (access_read at sound.1) (access_mark place few) no_bodies
line_read counter (store stored into at) place visible good lt few sound =
    node_read (codes "affine.store") place (stored ∷ into ∷ subscript_values counter at) [] []
    (map_entry (codes "map") (subscript_map at) ∷ []) (mark (codes "affvec.of") place.number) [] good
    (quotes_word (codes "affine.store") refl) refl (sound.0.1, (sound.1.1.1, before_subscript counter at place lt)) no_results
    no_types (access_read at sound.2) (access_mark place few) no_bodies

end_read : (name : List ℕ) (place : Place) → IsGood place → IsWord kinds.Quoted (codes "\"" ++ name ++ codes "\"")
    → same name (codes "func.func") ≡ false → IsReadNode forms.Named (end_node name place)
unfolding end_node
end_read name place good w other =
    node_read name place [] [] [] [] [] [] good w other tt no_results no_types no_entries no_entries no_bodies

lines_read : (counter : ℕ) (lines : List Line) (place : Place) (visible : List ℕ) → IsGood place → counter < next place
    → (after_lines lines place).number < 2 ^ 64 → AreSoundLines visible place lines → AreReadNodes forms.Named (line_nodes counter lines place)
unfolding after_lines AreSoundLines line_nodes in_class
lines_read counter [] place visible good lt few sound =
    one_node_more (end_node (codes "affine.yield") place) []
    (end_read (codes "affine.yield") place good (quotes_word (codes "affine.yield") refl) refl) no_nodes
lines_read counter (line ∷ lines) place visible good lt few sound =
    let here : place.number < 2 ^ 64 = omega (arith, number-line line place, number-lines lines (after_line line place)) in
    let below : counter < next (after_line line place) = omega (arith, next-line line place) in
    one_node_more (line_node counter line place) (line_nodes counter lines (after_line line place))
    (line_read counter line place visible good lt here sound.0)
    (lines_read counter lines (after_line line place) (visible_after line place visible) (good-line line place good) below few sound.1)

-- ---- arguments
argument_read : (k : ℕ) (ty : Ty) → IsReadTy ty → IsReadArg (argument (argument_name k) ty)
argument_read k ty h = ((argument_is k).word, h)

arguments_read : (k : ℕ) (sizes : List ℕ) → All (λ size. size < 2 ^ 31) sizes → All IsReadArg (arguments k sizes)
unfolding arguments
arguments_read k [] h = All-nil IsReadArg
arguments_read k (size ∷ sizes) h =
    all_cons IsReadArg (argument (argument_name k) (buffer size)) (arguments (k + 1) sizes)
    (argument_read k (buffer size) (buffer_type size (h 0 0 (omega arith))))
    (arguments_read (k + 1) sizes (all_tail (λ size. size < 2 ^ 31) size sizes h))

-- ---- steps
loop_mark : (place : Place) → place.loops < 2 ^ 64 → AreReadEntries (mark (codes "affvec.loop") place.loops)
unfolding in_class
loop_mark place few = mark_read (codes "affvec.loop") place.loops (is_word (codes "affvec.loop") refl) few

region_read : (lines : List Line) (place : Place) (visible : List ℕ) → IsGood place → (after_lines lines (inside place)).number < 2 ^ 64
    → AreSoundLines visible (inside place) lines
    → AreReadBodies forms.Named (loop_body (line_nodes (length place.types) lines (inside place)) place ∷ [])
unfolding loop_body
region_read lines place visible good few sound =
    let below : length place.types < next (inside place) = omega (arith, next-inside place) in
    one_body (argument (argument_name place.arguments) (Scalar Index) ∷ []) (line_nodes (length place.types) lines (inside place))
    (all_cons IsReadArg (argument (argument_name place.arguments) (Scalar Index)) []
    (argument_read place.arguments (Scalar Index) index_type) (All-nil IsReadArg))
    (lines_read (length place.types) lines (inside place) visible (good-inside place good) below few sound)

step_read : (step : Step) (place : Place) (visible : List ℕ) → IsGood place → (after_step step place).number < 2 ^ 64
    → IsSoundStep visible place step → IsReadNode forms.Named (step_node step place)
unfolding step_node IsSoundStep in_class
step_read (single pattern) place visible good few sound = constant_line pattern place good
step_read (counted lower upper lines) place visible good few sound =
    let loops : place.loops ≤ place.number = good.loops in
    let within : (after_lines lines (inside place)).number < 2 ^ 64 = omega (arith, number-counted lower upper lines place) in
    let here : place.loops < 2 ^ 64 = omega (arith, number-lines lines (inside place), number-inside place) in
    node_read (codes "affine.for") place [] [] [] (loop_properties lower upper) (mark (codes "affvec.loop") place.loops)
    (loop_body (line_nodes (length place.types) lines (inside place)) place ∷ []) good
    (quotes_word (codes "affine.for") refl) refl tt no_results no_types (loop_read lower upper sound.0 sound.1) (loop_mark place here)
    (region_read lines place (visible ++ next place ∷ []) good within sound.2)

steps_read : (steps : List Step) (place : Place) (visible : List ℕ) → IsGood place → (after_steps steps place).number < 2 ^ 64
    → AreSoundSteps visible place steps → AreReadNodes forms.Named (step_nodes steps place)
unfolding after_steps AreSoundSteps step_nodes in_class
steps_read [] place visible good few sound =
    one_node_more (end_node (codes "func.return") place) []
    (end_read (codes "func.return") place good (quotes_word (codes "func.return") refl) refl) no_nodes
steps_read (step ∷ steps) place visible good few sound =
    let here : (after_step step place).number < 2 ^ 64 = omega (arith, number-steps steps (after_step step place)) in
    one_node_more (step_node step place) (step_nodes steps (after_step step place))
    (step_read step place visible good here sound.0)
    (steps_read steps (after_step step place) (visible_behind step place visible) (good-step step place good) few sound.1)

-- ---- the function and the module
pub property-first : (first name : List ℕ) (value : Attr) (rest : List Named)
    → property (entry first value ∷ rest) name ≡ cond (same first name) (Some value) (property rest name)
unfolding property
property-first first name value rest =
    ap (λ (e : Named-F Attr Named). cond (same e.name name) (Some e.value) (property rest name)) (out-roll-Named (record { name = first; value = value }))

text-quoted : (name : List ℕ) → text_of (Some (attr.Quoted name)) ≡ name
unfolding text_of
text-quoted name = ap text_in (ap out-Attr (sym (attr.rolls-Quoted name)) ∙ out-roll-Attr (open_attr.Quoted name))

symbol_there : (p : Program) → text_of (property (function_properties p) (codes "sym_name")) ≡ p.name
symbol_there p =
    ap text_of (property-first (codes "function_type") (codes "sym_name") _ (entry (codes "sym_name") (attr.Quoted p.name) ∷ []))
    ∙ ap text_of (property-first (codes "sym_name") (codes "sym_name") (attr.Quoted p.name) []) ∙ text-quoted p.name

function_symbol : (p : Program) → IsSound p → HasSymbol forms.Named (codes "func.func") (function_properties p)
function_symbol p sound e =
    subst (λ (text : List ℕ). IsWord kinds.SymId (codes "@" ++ text)) (sym (symbol_there p)) (symbol_word p.name sound.name)

function_says : (p : Program) → IsSound p → AreReadEntries (function_properties p)
unfolding in_class
function_says p sound =
    entry_more (codes "function_type") _ (entry (codes "sym_name") (attr.Quoted p.name) ∷ []) (is_word (codes "function_type") refl)
    (function_type p.sizes sound.sizes)
    (entry_more (codes "sym_name") (attr.Quoted p.name) [] (is_word (codes "sym_name") refl)
    (attributes.quoted p.name (quoted_word p.name sound.name)) no_entries)

function_read : (p : Program) → IsSound p → IsReadNode forms.Named (function_node p)
unfolding in_class
function_read p sound =
    outer_read (codes "func.func") (function_properties p) (arguments 0 p.sizes) (step_nodes p.steps (body_place p))
    (quotes_word (codes "func.func") refl) (function_says p sound) (function_symbol p sound) (arguments_read 0 p.sizes sound.sizes)
    (steps_read p.steps (body_place p) (range_with_len 0 (length p.sizes)) (good-buffers p.sizes first_place sound.sizes good-first) sound.few sound.steps)

module_symbol : HasSymbol forms.Named (codes "builtin.module") []
module_symbol e = absurd (false≢true (ap (λ (text : List ℕ). same text (codes "func.func")) e))

-- with operations in forms of their own
pub printed_named : (p : Program) → IsSound p → IsReadNode forms.Named (written_tree p).root
unfolding in_class
printed_named p sound =
    outer_read (codes "builtin.module") [] [] (function_node p ∷ []) (quotes_word (codes "builtin.module") refl) no_entries module_symbol
    (All-nil IsReadArg) (one_node_more (function_node p) [] (function_read p sound) no_nodes)
