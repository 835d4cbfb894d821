-- The lines of a loop are read as their nodes.
use Rattle.std.proofs.Common.{◌≡◌, ℕ, ◌^◌, ◌<◌, ◌≤◌, false, List, [], ◌∷◌, ◌++◌, refl, subst, ap, arith}
use Rattle.std.specs.Prelude.{Some, None, codes}
use Rattle.av_bits.specs.declared.types.Width.TheVariants.{W32}
use Rattle.av_tree.specs.declared.node.Node.{Node, Node-F, roll-Node}
use Rattle.av_tree.specs.declared.node.Body.{Body}
use Rattle.av_tree.specs.declared.attribute.Attr.TheVariants as attr
use Rattle.av_tree.specs.declared.written.TypeText.TheVariants as ty
use Rattle.av_values.specs.Loops.{ends_region}
use Rattle.av_values.specs.Nodes.{plain}
use Rattle.av_values.specs.declared.value.Value.TheVariants as value
use Rattle.av_printer.specs.declared.form.Form.TheVariants as forms
use Rattle.av_totree.specs.Constants.{signed_low}
use Rattle.av_totree.specs.Names.{operation_name}
use Rattle.av_totree.specs.Types.{type_of}
use Rattle.av_program_laws.specs.Programs.{fixed, variable, plus, minus, Line, constant, sum, load, store}
use Rattle.av_program_laws.specs.Walks.{Place, type_at, name_at, after_line, after_lines}
use Rattle.av_program_laws.specs.WrittenTrees.{entry, mark, constant_node, end_node}
use Rattle.av_program_laws.specs.WrittenTrees as written
use Rattle.av_program_laws.specs.ReadTrees.{node, line_node, line_nodes}
use Rattle.av_program_laws.specs.Sound.{IsSoundLine, AreSoundLines, visible_after}
use Rattle.av_read_laws.specs.Making.{Word, Makes}
use Rattle.av_round_trip.proofs.Following.{revalued}
use Rattle.av_output_laws.proofs.Nodes.{layer, access_layer}
use Rattle.av_output_laws.proofs.ProgramWords.{line_words, lines_words}
use Rattle.av_output_laws.proofs.Forms.{constant_form, sum_form, load_form, store_form}
use Rattle.av_output_laws.proofs.Bounds.{small_constant, read_subscript, HasSmall, small-line, number-line, number-lines}
use Rattle.av_output_laws.proofs.Operations.{Operations, with_name, with_result, without_result, no_operation, turned, AreOpen, IsOpen, no_branch, open_name}

-- ---- layers
abbrev pub i32_constant : ℕ → Node-F Body Node
i32_constant pattern =
    layer (codes "arith.constant") [] [] (entry (codes "value") (attr.Number (signed_low W32 pattern) (ty.Scalar (codes "i32"))) ∷ []) [] []
    (Some (ty.Scalar (codes "i32")) ∷ [])

-- the layer of the node of a line
abbrev line_layer : ℕ → Line → Place → Node-F Body Node
line_layer counter (constant pattern) place = i32_constant pattern
line_layer counter (sum left right) place =
    layer (codes "arith.addi") [] (name_at place left ∷ name_at place right ∷ []) [] []
    (Some (type_of (type_at place left)) ∷ Some (type_of (type_at place left)) ∷ []) (Some (type_of (type_at place left)) ∷ [])
line_layer counter (load from at) place =
    access_layer (codes "affine.load") [] [] (name_at place from) at (name_at place counter) (type_of (type_at place from))
    (mark (codes "affvec.of") place.number) (None ∷ [])
line_layer counter (store stored into at) place =
    access_layer (codes "affine.store") (name_at place stored ∷ []) (None ∷ []) (name_at place into) at (name_at place counter)
    (type_of (type_at place into)) (mark (codes "affvec.of") place.number) []

pub constant_is : (pattern : ℕ) (place : Place) → roll-Node (with_name (i32_constant pattern) (operation_name place.operations)) ≡ constant_node pattern place
unfolding constant_node written.node
constant_is pattern place = refl

-- with its result, where it has one
abbrev named_layer : ℕ → Line → Place → Node-F Body Node
named_layer counter (constant pattern) place = with_name (line_layer counter (constant pattern) place) (operation_name place.operations)
named_layer counter (sum left right) place = with_name (line_layer counter (sum left right) place) (operation_name place.operations)
named_layer counter (load from at) place = with_name (line_layer counter (load from at) place) (operation_name place.operations)
named_layer counter (store stored into at) place = line_layer counter (store stored into at) place

line_is : (counter : ℕ) (line : Line) (place : Place) → roll-Node (named_layer counter line place) ≡ line_node forms.Named counter line place
unfolding line_node node
line_is counter (constant pattern) place = constant_is pattern place
line_is counter (sum left right) place = refl
line_is counter (load from (fixed z)) place = refl
line_is counter (load from variable) place = refl
line_is counter (load from (plus z)) place = refl
line_is counter (load from (minus z)) place = refl
line_is counter (store stored into (fixed z)) place = refl
line_is counter (store stored into variable) place = refl
line_is counter (store stored into (plus z)) place = refl
line_is counter (store stored into (minus z)) place = refl

name_open : (counter : ℕ) (line : Line) (place : Place) → ends_region (named_layer counter line place).name ≡ false
name_open counter (constant pattern) place = refl
name_open counter (sum left right) place = refl
name_open counter (load from at) place = refl
name_open counter (store stored into at) place = refl

open_line : (counter : ℕ) (line : Line) (place : Place) → IsOpen (line_node forms.Named counter line place)
open_line counter line place =
    subst IsOpen (line_is counter line place) (open_name (named_layer counter line place) (name_open counter line place))

-- ---- lines
unfoldable pub front_nodes : ℕ → List Line → Place → List Node
front_nodes counter [] place = []
front_nodes counter (line ∷ lines) place = line_node forms.Named counter line place ∷ front_nodes counter lines (after_line line place)

pub open_front : (counter : ℕ) (lines : List Line) (place : Place) → AreOpen (front_nodes counter lines place)
unfolding front_nodes
open_front counter [] place = tt
open_front counter (line ∷ lines) place = (open_line counter line place, open_front counter lines (after_line line place))

end_is : (name : List ℕ) (place : Place) → plain name 0 ≡ end_node name place
unfolding plain end_node written.node
end_is name place = refl

pub line_nodes-front : (counter : ℕ) (lines : List Line) (place : Place)
    → front_nodes counter lines place ++ plain (codes "affine.yield") 0 ∷ [] ≡ line_nodes forms.Named counter lines place
unfolding front_nodes line_nodes
line_nodes-front counter [] place = ap (λ n. n ∷ []) (end_is (codes "affine.yield") place)
line_nodes-front counter (line ∷ lines) place =
    ap (λ nodes. line_node forms.Named counter line place ∷ nodes) (line_nodes-front counter lines (after_line line place))

module _ {most : ℕ} (two : 2 ≤ most) where
  made_line : (counter : ℕ) (line : Line) (place : Place) (visible : List ℕ) → HasSmall place → IsSoundLine visible place line → place.number < 2 ^ 64
      → {others : List Word} {nodes : List Node} → Makes most (Operations ∷ []) others (value.Nodes nodes ∷ [])
      → Makes most (Operations ∷ []) (line_words counter line place ++ others) (value.Nodes (nodes ++ roll-Node (named_layer counter line place) ∷ []) ∷ [])
  unfolding IsSoundLine
  made_line counter (constant pattern) place visible small sound few rest =
      with_result (line_layer counter (constant pattern) place) (operation_name place.operations)
      (constant_form (signed_low W32 pattern) (small_constant pattern)) rest
  made_line counter (sum left right) place visible small sound few rest =
      with_result (line_layer counter (sum left right) place) (operation_name place.operations)
      (sum_form (name_at place left) (name_at place right) (type_at place left) sound.0 sound.1.2) rest
  made_line counter (load from at) place visible small sound few rest =
      with_result (line_layer counter (load from at) place) (operation_name place.operations)
      (load_form (name_at place from) (name_at place counter) at place.number sound.0.0 two (read_subscript at sound.1) few
      (small from sound.0.0 sound.0.1.2) (type_at place from) sound.0.1.2) rest
  made_line counter (store stored into at) place visible small sound few rest =
      without_result (roll-Node (line_layer counter (store stored into at) place)) (no_branch _ refl)
      (store_form (name_at place into) (name_at place counter) at place.number sound.1.0 two (read_subscript at sound.2) few
      (small into sound.1.0 sound.1.1.2) (name_at place stored) (type_at place into) sound.1.1.2) rest

  -- the nodes of lines, without the end
  pub made_lines : (counter : ℕ) (lines : List Line) (place : Place) (visible : List ℕ) → HasSmall place → AreSoundLines visible place lines
      → (after_lines lines place).number < 2 ^ 64
      → Makes most (Operations ∷ []) (lines_words counter lines place) (value.Nodes (turned (front_nodes counter lines place)) ∷ [])
  unfolding lines_words AreSoundLines after_lines turned front_nodes
  made_lines counter [] place visible small sound few = no_operation
  made_lines counter (line ∷ lines) place visible small sound few =
      let here : place.number < 2 ^ 64 = omega (arith, number-line line place, number-lines lines (after_line line place)) in
      revalued (ap (λ n. value.Nodes (turned (front_nodes counter lines (after_line line place)) ++ n ∷ []) ∷ []) (line_is counter line place))
      (made_line counter line place visible small sound.0 here
      (made_lines counter lines (after_line line place) (visible_after line place visible) (small-line line place small) sound.1 few))
