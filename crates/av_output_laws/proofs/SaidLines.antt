-- The words of lines.
use Rattle.std.proofs.Common.{◌≡◌, ℕ, ◌-◌, length, take, Bool, true, false, List, [], ◌∷◌, ◌++◌, map, append_assoc, refl, sym, ap, ◌∙◌}
use Rattle.std.specs.Prelude.{if◌then◌else◌, Some, codes}
use Rattle.av_bits.specs.declared.types.Width.TheVariants.{W32}
use Rattle.av_lex.specs.declared.token.Kind.TheVariants as kinds
use Rattle.av_lex.specs.declared.token.Sign.TheVariants as signs
use Rattle.av_ir.specs.declared.ty.Ty.{Ty}
use Rattle.av_tree.specs.declared.attribute.Attr.TheVariants as attr
use Rattle.av_tree.specs.declared.attribute.Named.{Named}
use Rattle.av_tree.specs.declared.node.Node.{Node, Node-F, roll-Node, out-roll-Node}
use Rattle.av_tree.specs.declared.node.Body.{Body, out-Body}
use Rattle.av_printer.specs.declared.form.Form.TheVariants as forms
use Rattle.av_printer.specs.declared.named.NamedForm.{NamedForm}
use Rattle.av_printer.specs.declared.named.NamedForm.TheVariants as own
use Rattle.av_printer.specs.Pieces.{Piece, new_line, joined}
use Rattle.av_printer.specs.Expressions.{first_value, value, subscripts}
use Rattle.av_dialects.specs.declared.item.Lead.TheVariants as lead
use Rattle.av_dialects.specs.Rows.{names, forms as table}
use Rattle.av_printer.specs.OwnForms.{own_form, own_line, own_end}
use Rattle.av_printer.specs.Parts.{before_regions, behind_seen, form_line, form_end, first_word, parts_pieces, part_pieces, flags_of}
use Rattle.av_printer.specs.Operations.{Head, first_of, results_before, property, map_of, subscripts_if_any, buffer}
use Rattle.av_printer.specs.Spelling.{on_line, is_silent, is_yield, operation_of, node_line, own_bodies}
use Rattle.av_printer.proofs.NodeSteps.{silent-of, whole-own}
use Rattle.av_printer.proofs.OperationSteps.{map_of-some}
use Rattle.av_totree.specs.Constants.{signed_low}
use Rattle.av_totree.specs.Names.{operation_name}
use Rattle.av_totree.specs.Types.{type_of}
use Rattle.av_program_laws.specs.Programs.{Subscript, fixed, variable, plus, minus, Line, constant, sum, load, store}
use Rattle.av_program_laws.specs.Walks.{Place, element, type_at, name_at, after_line}
use Rattle.av_program_laws.specs.Modules.{subscript_values}
use Rattle.av_program_laws.specs.WrittenTrees.{entry, constant_attr, map_entry, subscript_map, mark, next_name, node, constant_node, end_node, line_node, line_nodes}
use Rattle.av_read_laws.specs.Making.{Word}
use Rattle.av_output_laws.proofs.Parts.{sign_word, number_words, mark_words}
use Rattle.av_output_laws.proofs.PlainNames.{HasPlain, plain_operation, plain-line}
use Rattle.av_output_laws.proofs.Saying.{Says, none, also, said_as, saying, token_said, new_line_said, value_said}
use Rattle.av_output_laws.proofs.SaidParts.{results_said, first_type_said, marks_said, property_first, constant_value_said, subscripts_said}
use Rattle.av_output_laws.proofs.SaidForms.{led, all_taken}
use Rattle.av_output_laws.proofs.Subscripts.{subscript_words, dims_in}
use Rattle.av_output_laws.proofs.ProgramWords.{value_word, plain_word, type_words, line_words, lines_words}

-- ---- operations
abbrev pub head_at : Node-F Body Node → Head
head_at x = record {
  name = x.name;
  results = x.results;
  operands = x.operands;
  properties = x.properties;
  attrs = x.attrs;
  in_types = x.in_types;
  out_types = x.out_types;
  arguments = first_of (map (λ (body : Body). (out-Body body).args) x.regions);
}

-- an operation in its own form
abbrev pub own_pieces : NamedForm → ℕ → Node-F Body Node → List Piece
own_pieces named depth x =
    results_before x.results ++ (own_line named (head_at x) ++ joined (own_bodies depth x.regions) ++ own_end named (head_at x))

pub whole_is : (x : Node-F Body Node) (named : NamedForm) (depth : ℕ) → own_form x.name ≡ Some named
    → (operation_of (roll-Node x)).whole forms.Named depth ≡ own_pieces named depth x
whole_is x named depth is =
    whole-own (roll-Node x) forms.Named depth named (ap (λ (y : Node-F Body Node). own_form y.name) (out-roll-Node x) ∙ is)
    ∙ ap (own_pieces named depth) (out-roll-Node x)

silent_is : (x : Node-F Body Node) → (operation_of (roll-Node x)).silent ≡ is_silent x.name x.operands
silent_is x = silent-of (roll-Node x) ∙ ap (λ (y : Node-F Body Node). is_silent y.name y.operands) (out-roll-Node x)

pub operation_said : (x : Node-F Body Node) (named : NamedForm) (depth : ℕ) → own_form x.name ≡ Some named → is_silent x.name x.operands ≡ false
    → {f : List Word → List Word} → Says (own_pieces named depth x) f → Says (node_line forms.Named depth (roll-Node x)) f
unfolding on_line
operation_said x named depth is loud said =
    said_as (ap (λ (b : Bool). if b then [] else new_line depth ++ (operation_of (roll-Node x)).whole forms.Named depth) (silent_is x ∙ loud)
    ∙ ap (λ ps. new_line depth ++ ps) (whole_is x named depth is))
    (also (new_line_said depth) said)

pub silent_said : (x : Node-F Body Node) (depth : ℕ) → is_silent x.name x.operands ≡ true → Says (node_line forms.Named depth (roll-Node x)) (λ ws. ws)
unfolding on_line
silent_said x depth is =
    said_as (ap (λ (b : Bool). if b then [] else new_line depth ++ (operation_of (roll-Node x)).whole forms.Named depth) (silent_is x ∙ is)) none

-- ---- layers
abbrev pub written_layer : List ℕ → Place → List ℕ → List (List ℕ) → List Ty → List Named → List Named → List Body → Node-F Body Node
written_layer name place operands results types properties marks regions = record {
  name = name;
  place = 0;
  results = results;
  operands = map (name_at place) operands;
  properties = properties;
  attrs = marks;
  regions = regions;
  in_types = map (λ value. Some (type_of (type_at place value))) operands;
  out_types = map (λ ty. Some (type_of ty)) types;
}

-- ---- constants
pub constant_said : (pattern : ℕ) (place : Place) (depth : ℕ)
    → Says (node_line forms.Named depth (constant_node pattern place))
    (λ ws. value_word (operation_name place.operations) ∷ sign_word signs.Equal ∷ plain_word (codes "arith.constant")
    ∷ (number_words (signed_low W32 pattern) ++ (sign_word signs.Colon ∷ plain_word (codes "i32") ∷ ws)))
unfolding constant_node node own_form is_silent is_yield joined names table before_regions behind_seen form_line form_end first_word parts_pieces part_pieces
constant_said pattern place depth =
    operation_said (written_layer (codes "arith.constant") place [] (next_name place) (element ∷ []) (entry (codes "value") (constant_attr pattern) ∷ []) [] [])
    (own.Row _) depth refl refl
    (also (results_said (operation_name place.operations) (plain_operation place.operations))
    (also (also (also (token_said kinds.Word (codes "arith.constant"))
    (also (led lead.Blank (constant_value_said (signed_low W32 pattern))) none)) none) none))

-- ---- sums
sum_said : (left right : ℕ) (place : Place) (depth : ℕ) → HasPlain place
    → Says (node_line forms.Named depth (roll-Node (written_layer (codes "arith.addi") place (left ∷ right ∷ []) (next_name place) (type_at place left ∷ []) [] [] [])))
    (λ ws. value_word (operation_name place.operations) ∷ sign_word signs.Equal ∷ plain_word (codes "arith.addi") ∷ value_word (name_at place left)
    ∷ sign_word signs.Comma ∷ value_word (name_at place right) ∷ sign_word signs.Colon ∷ (type_words (type_at place left) ++ ws))
unfolding own_form is_silent is_yield joined first_value flags_of property names table before_regions behind_seen form_line form_end first_word parts_pieces part_pieces
sum_said left right place depth all =
    operation_said (written_layer (codes "arith.addi") place (left ∷ right ∷ []) (next_name place) (type_at place left ∷ []) [] [] []) (own.Row _) depth refl refl
    (also (results_said (operation_name place.operations) (plain_operation place.operations))
    (also (also (also (token_said kinds.Word (codes "arith.addi"))
    (also (led lead.Blank (value_said (name_at place left) (all left)))
    (also (led lead.Comma (value_said (name_at place right) (all right)))
    (also (led lead.Nothing none)
    (also (led lead.Colon (first_type_said (type_at place left) _)) none))))) none) none))

-- ---- accesses
operands_are : (counter : ℕ) (at : Subscript) (place : Place) → map (name_at place) (subscript_values counter at) ≡ dims_in (name_at place counter) at
operands_are counter (fixed z) place = refl
operands_are counter variable place = refl
operands_are counter (plus z) place = refl
operands_are counter (minus z) place = refl

map_there : (at : Subscript) → map_of (property (map_entry (codes "map") (subscript_map at) ∷ []) (codes "map")) ≡ Some (subscript_map at)
map_there at = ap map_of (property_first (codes "map") (attr.Map (subscript_map at)) [] refl) ∙ map_of-some (subscript_map at)

-- a buffer with its subscript, by all operands that are left
access_said : (from counter : ℕ) (at : Subscript) (place : Place) → HasPlain place
    → let operands : List (List ℕ) = map (name_at place) (from ∷ subscript_values counter at) in
    Says (buffer (map_of (property (map_entry (codes "map") (subscript_map at) ∷ []) (codes "map"))) (take (length operands - 0) operands))
    (λ ws. value_word (name_at place from) ∷ sign_word signs.OpenSquare ∷ (subscript_words (name_at place counter) at ++ (sign_word signs.CloseSquare ∷ ws)))
unfolding buffer subscripts_if_any
access_said from counter at place all =
    let operands : List (List ℕ) = map (name_at place) (from ∷ subscript_values counter at) in
    said_as (ap (buffer (map_of (property (map_entry (codes "map") (subscript_map at) ∷ []) (codes "map")))) (all_taken operands)
    ∙ ap (λ m. buffer m operands) (map_there at)
    ∙ ap (λ values. value (name_at place from) ++ subscripts (subscript_map at) values) (operands_are counter at place))
    (also (value_said (name_at place from) (all from)) (subscripts_said at (name_at place counter) (all counter)))

load_said : (from counter : ℕ) (at : Subscript) (place : Place) (depth : ℕ) → HasPlain place
    → Says (node_line forms.Named depth (roll-Node (written_layer (codes "affine.load") place (from ∷ subscript_values counter at) (next_name place) (element ∷ [])
    (map_entry (codes "map") (subscript_map at) ∷ []) (mark (codes "affvec.of") place.number) [])))
    (λ ws. value_word (operation_name place.operations) ∷ sign_word signs.Equal ∷ plain_word (codes "affine.load") ∷ value_word (name_at place from)
    ∷ sign_word signs.OpenSquare ∷ (subscript_words (name_at place counter) at ++ (sign_word signs.CloseSquare
    ∷ (mark_words (codes "affvec.of") place.number ++ (sign_word signs.Colon ∷ (type_words (type_at place from) ++ ws))))))
unfolding own_form is_silent joined names table before_regions behind_seen form_line form_end first_word parts_pieces part_pieces
load_said from counter at place depth all =
    operation_said (written_layer (codes "affine.load") place (from ∷ subscript_values counter at) (next_name place) (element ∷ [])
    (map_entry (codes "map") (subscript_map at) ∷ []) (mark (codes "affvec.of") place.number) []) (own.Row _) depth refl refl
    (also (results_said (operation_name place.operations) (plain_operation place.operations))
    (also (also (also (token_said kinds.Word (codes "affine.load"))
    (also (led lead.Blank (access_said from counter at place all))
    (also (led lead.Nothing (marks_said (codes "affvec.of") place.number))
    (also (led lead.Colon (first_type_said (type_at place from) _)) none)))) none) none))

store_said : (stored into counter : ℕ) (at : Subscript) (place : Place) (depth : ℕ) → HasPlain place
    → Says (node_line forms.Named depth (roll-Node (written_layer (codes "affine.store") place (stored ∷ into ∷ subscript_values counter at) [] []
    (map_entry (codes "map") (subscript_map at) ∷ []) (mark (codes "affvec.of") place.number) [])))
    (λ ws. plain_word (codes "affine.store") ∷ value_word (name_at place stored) ∷ sign_word signs.Comma ∷ value_word (name_at place into)
    ∷ sign_word signs.OpenSquare ∷ (subscript_words (name_at place counter) at ++ (sign_word signs.CloseSquare
    ∷ (mark_words (codes "affvec.of") place.number ++ (sign_word signs.Colon ∷ (type_words (type_at place into) ++ ws))))))
unfolding own_form is_silent results_before joined first_value names table before_regions behind_seen form_line form_end first_word parts_pieces part_pieces
store_said stored into counter at place depth all =
    operation_said (written_layer (codes "affine.store") place (stored ∷ into ∷ subscript_values counter at) [] []
    (map_entry (codes "map") (subscript_map at) ∷ []) (mark (codes "affvec.of") place.number) []) (own.Row _) depth refl refl
    (also none
    (also (also (also (token_said kinds.Word (codes "affine.store"))
    (also (led lead.Blank (value_said (name_at place stored) (all stored)))
    (also (led lead.Comma (access_said into counter at place all))
    (also (led lead.Nothing (marks_said (codes "affvec.of") place.number))
    (also (led lead.Colon (first_type_said (type_at place into) _)) none))))) none) none))

-- ---- lines
line_said : (counter : ℕ) (line : Line) (place : Place) (depth : ℕ) → HasPlain place
    → Says (node_line forms.Named depth (line_node counter line place)) (λ ws. line_words counter line place ++ ws)
unfolding line_node node
line_said counter (constant pattern) place depth all =
    saying (λ ws. ap (λ l. value_word (operation_name place.operations) ∷ sign_word signs.Equal ∷ plain_word (codes "arith.constant") ∷ l)
    (sym (append_assoc (number_words (signed_low W32 pattern)) (sign_word signs.Colon ∷ plain_word (codes "i32") ∷ []) ws)))
    (constant_said pattern place depth)
line_said counter (sum left right) place depth all = sum_said left right place depth all
line_said counter (load from at) place depth all =
    saying (λ ws. ap (λ l. value_word (operation_name place.operations) ∷ sign_word signs.Equal ∷ plain_word (codes "affine.load")
    ∷ value_word (name_at place from) ∷ sign_word signs.OpenSquare ∷ l)
    (sym (append_assoc (subscript_words (name_at place counter) at) _ ws)))
    (load_said from counter at place depth all)
line_said counter (store stored into at) place depth all =
    saying (λ ws. ap (λ l. plain_word (codes "affine.store") ∷ value_word (name_at place stored) ∷ sign_word signs.Comma
    ∷ value_word (name_at place into) ∷ sign_word signs.OpenSquare ∷ l)
    (sym (append_assoc (subscript_words (name_at place counter) at) _ ws)))
    (store_said stored into counter at place depth all)

-- the end of a loop isn't printed
yield_said : (place : Place) (depth : ℕ) → Says (node_line forms.Named depth (end_node (codes "affine.yield") place)) (λ ws. ws)
unfolding end_node node is_silent is_yield
yield_said place depth = silent_said (written_layer (codes "affine.yield") place [] [] [] [] [] []) depth refl

pub lines_said : (counter : ℕ) (lines : List Line) (place : Place) (depth : ℕ) → HasPlain place
    → Says (joined (map (node_line forms.Named depth) (line_nodes counter lines place))) (λ ws. lines_words counter lines place ++ ws)
unfolding joined line_nodes lines_words
lines_said counter [] place depth all = also (yield_said place depth) none
lines_said counter (line ∷ lines) place depth all =
    saying (λ ws. sym (append_assoc (line_words counter line place) (lines_words counter lines (after_line line place)) ws))
    (also (line_said counter line place depth all) (lines_said counter lines (after_line line place) depth (plain-line line place all)))
