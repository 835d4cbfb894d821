-- The text of a module of nothing with marks, and what is read of it.
use Rattle.std.proofs.Common.{◌≡◌, ℕ, zero, suc, ◌<◌, ◌&&◌, Bool, true, false, List, [], ◌∷◌, ◌++◌, length, map, refl, sym, subst, ap, ◌∙◌, arith, lit≤, length-append}
use Rattle.std.specs.Prelude.{slice_index, Option, codes}
use Rattle.std.specs.List.{All, list_all}
use Rattle.std.proofs.lemmas.List.Elements.{All-nil}
use Rattle.av_lex.specs.declared.token.Kind.TheVariants as kinds
use Rattle.av_lex.specs.declared.token.Sign.TheVariants as signs
use Rattle.av_lex.specs.declared.class.Class.TheVariants as classes
use Rattle.av_lex.specs.Bytes.{in_class, Run}
use Rattle.av_tree.specs.declared.attribute.Attr.{Attr}
use Rattle.av_tree.specs.declared.attribute.Attr as attrs
use Rattle.av_tree.specs.declared.attribute.Named.{Named, Named-F, out-roll-Named}
use Rattle.av_tree.specs.declared.node.Node.{Node, Node-F, roll-Node, out-roll-Node}
use Rattle.av_tree.specs.declared.node.Body.{Body, Body-F, out-Body, roll-Body, out-roll-Body}
use Rattle.av_dialects.specs.Rows.{names}
use Rattle.av_derive.specs.ClassOf.{keywords}
use Rattle.av_derive.specs.Derivation.{WithinBrackets}
use Rattle.av_printer.specs.declared.form.Form.TheVariants as forms
use Rattle.av_printer.specs.Pieces.{Piece, margin, spelt, space, new_line, token, sign, plain, commas, joined}
use Rattle.av_printer.specs.Types.{one_or_several}
use Rattle.av_printer.specs.Attributes.{attr_of, assigned, entry_pieces}
use Rattle.av_printer.specs.Dictionaries.{ordered_onto, inserted}
use Rattle.av_printer.specs.Operations.{Head, first_of, results_before, common_line, common_end, quoted_name, values_in_round, values_pieces, properties_behind, marks_behind, signature, known_in_round, known_types, known_results}
use Rattle.av_printer.specs.Spelling.{common_body, common_regions, label, node_line, pieces_of, spelling}
use Rattle.av_printer.proofs.NodeSteps.{common-of}
use Rattle.av_print_laws.specs.Spacing.{IsWord, words_of}
use Rattle.av_print_laws.specs.ReadAttributes as read_attributes
use Rattle.av_print_laws.specs.ReadAttributes.{IsReadAttr, AreReadEntries}
use Rattle.av_print_laws.specs.ReadNodes as read_nodes
use Rattle.av_print_laws.specs.ReadNodes.{IsReadLine, IsReadNode, AreReadBodies, IsResult, IsReadTypeIf, IsReadArg}
use Rattle.av_print_laws.specs.ReadExpressions.{IsValue}
use Rattle.av_print_laws.proofs.AttrEquations.{attr-unit, entry-opened}
use Rattle.av_print_laws.proofs.Longest.{next, run_front}
use Rattle.av_print_laws.proofs.Words.{is_word}
use Rattle.av_read_laws.specs.Making.{class_of_word}
use Rattle.av_round_trip.specs.Types.{IsNameOfValue}
use Rattle.av_round_trip.specs.Attributes.{IsEntryValue, AreEntries}
use Rattle.av_round_trip.specs.Attributes as attributes
use Rattle.av_round_trip.specs.Trees.{IsNameOfResults, IsKnownType, IsWholeLine, IsWholeArg, IsWhole, AreWholeBodies, as_read, body_as_read}
use Rattle.av_round_trip.specs.Trees as trees
use Rattle.av_round_trip.specs.Laws.{mark, example_layer, example_module, ExampleLaw}
use Rattle.av_round_trip.proofs.ReadNodes.{layer_as_read, as_read-is, body_as_read-is}
use Rattle.av_round_trip.proofs.Nodes.{whole-is}

abbrev marks : List Named
marks = mark (codes "b") ∷ mark (codes "a") ∷ []

abbrev in_name_order : List Named
in_name_order = mark (codes "a") ∷ mark (codes "b") ∷ []

abbrev here : Node-F Body Node
here = example_layer marks 7

abbrev nothing_inside : Body-F Body Node
nothing_inside = record { args = []; nodes = [] }

-- ---- as it is read
empty-is : body_as_read (roll-Body nothing_inside) ≡ roll-Body nothing_inside
empty-is =
    body_as_read-is (roll-Body nothing_inside)
    ∙ ap (λ (b : Body-F Body Node). roll-Body (record b { nodes = map as_read b.nodes })) (out-roll-Body nothing_inside)

read-is : as_read (example_module marks 7) ≡ example_module in_name_order 0
unfolding ordered_onto inserted denote.Hole.Carrier.out denote.Hole.Carrier.roll
read-is =
    as_read-is (roll-Node here) ∙ ap (λ (x : Node-F Body Node). roll-Node (layer_as_read x)) (out-roll-Node here)
    ∙ ap (λ (b : Body). roll-Node (record (example_layer in_name_order 0) { regions = b ∷ [] })) empty-is

-- ---- its pieces
mark-is : (text : List ℕ) → entry_pieces (mark text) ≡ plain text
unfolding assigned token
mark-is text =
    entry-opened (mark text) ∙ ap (λ (e : Named-F Attr Named). plain e.name ++ assigned (attr_of e.value)) (out-roll-Named (record { name = text; value = attrs.Unit }))
    ∙ ap (λ (o : Option (List Piece)). plain text ++ assigned o) attr-unit

abbrev region_of : Body-F Body Node → List Piece
region_of b = sign signs.OpenCurly ++ label 0 b.args ++ joined (map (node_line forms.Generic 1) b.nodes) ++ new_line 0 ++ sign signs.CloseCurly

region-is : common_body 0 (roll-Body nothing_inside) ≡ region_of nothing_inside
region-is = common-of 0 (roll-Body nothing_inside) ∙ ap region_of (out-roll-Body nothing_inside)

abbrev head : Node-F Body Node → Head
head x = record {
  name = x.name;
  results = x.results;
  operands = x.operands;
  properties = x.properties;
  attrs = x.attrs;
  in_types = x.in_types;
  out_types = x.out_types;
  arguments = first_of (map (λ (b : Body). (out-Body b).args) x.regions);
}

abbrev level : Node-F Body Node → List Piece
level x = (results_before x.results ++ (common_line (head x) ++ common_regions (map (common_body 0) x.regions) ++ common_end (head x))) ++ new_line 0

-- with these pieces of its region and its marks
abbrev with_pieces : List Piece → List Piece → List Piece → List Piece
with_pieces region a b =
    (quoted_name (codes "builtin.module") ++ values_in_round [] ++ properties_behind [] ++ common_regions (region ∷ [])
    ++ ((space ++ sign signs.OpenCurly ++ commas (a ∷ b ∷ []) ++ sign signs.CloseCurly) ++ signature [] [])) ++ new_line 0

level-is : level here ≡ with_pieces (common_body 0 (roll-Body nothing_inside)) (entry_pieces (mark (codes "a"))) (entry_pieces (mark (codes "b")))
unfolding results_before common_line common_end marks_behind ordered_onto inserted denote.Hole.Carrier.out denote.Hole.Carrier.roll
level-is = refl

abbrev shown : List Piece
shown = with_pieces (region_of nothing_inside) (plain (codes "a")) (plain (codes "b"))

pieces-are : pieces_of forms.Generic (example_module marks 7) ≡ shown
pieces-are =
    ap (λ (ps : List Piece). ps ++ new_line 0) (whole-is (roll-Node here) 0) ∙ ap level (out-roll-Node here) ∙ level-is
    ∙ ap (λ (ps : List Piece). with_pieces ps (entry_pieces (mark (codes "a"))) (entry_pieces (mark (codes "b")))) region-is
    ∙ ap (λ (ps : List Piece). with_pieces (region_of nothing_inside) ps (entry_pieces (mark (codes "b")))) (mark-is (codes "a"))
    ∙ ap (λ (ps : List Piece). with_pieces (region_of nothing_inside) (plain (codes "a")) ps) (mark-is (codes "b"))

spelled-is : spelling forms.Generic (record { aliases = []; root = example_module marks 7 }) ≡ codes "\"builtin.module\"() ({\n}) {a, b} : () -> ()\n"
unfolding spelling spelt margin space new_line token sign commas joined quoted_name values_in_round values_pieces properties_behind common_regions label signature known_in_round known_types known_results one_or_several
spelled-is = ap spelt pieces-are

brackets : WithinBrackets 192 0 (map class_of_word (words_of (pieces_of forms.Generic (example_module marks 7))))
unfolding words_of keywords names space new_line token sign commas joined quoted_name values_in_round values_pieces properties_behind common_regions label signature known_in_round known_types known_results one_or_several
brackets =
    subst (λ (ps : List Piece). WithinBrackets 192 0 (map class_of_word (words_of ps))) (sym pieces-are) (
      lit≤ tt,
      (lit≤ tt, (lit≤ tt, (lit≤ tt, (lit≤ tt, (lit≤ tt, (lit≤ tt, (lit≤ tt, (lit≤ tt, (lit≤ tt, (lit≤ tt, (lit≤ tt, (lit≤ tt, (lit≤ tt, (lit≤ tt, (lit≤ tt, (lit≤ tt, (lit≤ tt, tt))))))))))))))))),
    )

-- ---- its words
both_true : (a b : Bool) → a && b ≡ true → (a ≡ true) × (b ≡ true)
both_true true b h = (refl, h)
both_true false b h = absurd (cc)

all_at : (cs : List ℕ) → list_all (in_class classes.Quoted) cs ≡ true → (i : ℕ) → i < length cs → in_class classes.Quoted (slice_index cs i) ≡ true
all_at [] h i below = absurd (omega arith)
all_at (c ∷ cs) h zero below = (both_true _ _ h).0
all_at (c ∷ cs) h (suc i) below = all_at cs (both_true _ _ h).1 i (omega arith)

run_at : (cs : List ℕ) → list_all (in_class classes.Quoted) cs ≡ true → Run classes.Quoted (34 ∷ cs) 1 (length (34 ∷ cs))
run_at cs h zero above below = absurd (omega arith)
run_at cs h (suc i) above below = all_at cs h i (omega arith)

quoted_word : (cs : List ℕ) → list_all (in_class classes.Quoted) cs ≡ true → IsWord kinds.Quoted (codes "\"" ++ cs ++ codes "\"")
quoted_word cs h =
    let long = length-append (34 ∷ cs) (34 ∷ []) in
    record {
      spells = record {
        within = omega arith;
        spelled = (
          length (34 ∷ cs),
          long,
          omega arith,
          refl,
          run_front classes.Quoted (34 ∷ cs) (34 ∷ []) 1 (length (34 ∷ cs)) (omega arith) (run_at cs h),
          next (34 ∷ cs) (34 ∷ []),
        );
      };
      short = tt;
    }

module_word : IsWord kinds.Quoted (codes "\"" ++ codes "builtin.module" ++ codes "\"")
unfolding in_class
module_word = quoted_word (codes "builtin.module") refl

a_word : IsWord kinds.Word (codes "a")
unfolding in_class
a_word = is_word (codes "a") refl

b_word : IsWord kinds.Word (codes "b")
unfolding in_class
b_word = is_word (codes "b") refl

-- ---- it can be read
mark_spelled : (text : List ℕ) (rest : List Named) → IsWord kinds.Word text → AreReadEntries rest → AreReadEntries (mark text ∷ rest)
mark_spelled text rest word h =
    let e : Named-F Attr Named = record { name = text; value = attrs.Unit } in
    read_attributes.one_entry_more (mark text) rest (subst (λ (x : Named-F Attr Named). IsWord kinds.Word x.name) (sym (out-roll-Named e)) word)
    (subst (λ (x : Named-F Attr Named). IsReadAttr x.value) (sym (out-roll-Named e)) read_attributes.lone) h

mark_read : (most : ℕ) (text : List ℕ) (rest : List Named) → AreEntries most rest → AreEntries most (mark text ∷ rest)
mark_read most text rest h =
    let e : Named-F Attr Named = record { name = text; value = attrs.Unit } in
    attributes.one_entry_more (mark text) rest (subst (λ (x : Named-F Attr Named). IsEntryValue most x.name x.value) (sym (out-roll-Named e)) (attributes.unit text)) h

body_spelled : AreReadBodies forms.Generic (roll-Body nothing_inside ∷ [])
body_spelled =
    let out = sym (out-roll-Body nothing_inside) in
    read_nodes.one_body_more (roll-Body nothing_inside) [] (subst (λ (b : Body-F Body Node). All IsReadArg b.args) out (All-nil IsReadArg))
    (subst (λ (b : Body-F Body Node). read_nodes.AreReadNodes forms.Generic b.nodes) out read_nodes.no_nodes) read_nodes.no_bodies

body_read : (most : ℕ) → AreWholeBodies most (roll-Body nothing_inside ∷ [])
body_read most =
    let out = sym (out-roll-Body nothing_inside) in
    trees.one_body_more (roll-Body nothing_inside) [] (subst (λ (b : Body-F Body Node). All IsWholeArg b.args) out (All-nil IsWholeArg))
    (subst (λ (b : Body-F Body Node). trees.AreWholeNodes most b.nodes) out trees.no_nodes) trees.no_bodies

line_spelled : IsReadLine forms.Generic here
line_spelled = record {
  named = module_word;
  makes = All-nil IsResult;
  uses = All-nil IsValue;
  says = read_attributes.no_entries;
  marked = mark_spelled (codes "b") _ b_word (mark_spelled (codes "a") [] a_word read_attributes.no_entries);
  takes = All-nil IsReadTypeIf;
  gives = All-nil IsReadTypeIf;
  symbol = tt;
}

line_read : (most : ℕ) → IsWholeLine most here
line_read most = record {
  makes = All-nil IsNameOfResults;
  uses = All-nil IsNameOfValue;
  says = attributes.no_entries;
  marked = mark_read most (codes "b") _ (mark_read most (codes "a") [] attributes.no_entries);
  takes = All-nil IsKnownType;
  gives = All-nil IsKnownType;
}

spelled_node : IsReadNode forms.Generic (example_module marks 7)
spelled_node =
    let out = sym (out-roll-Node here) in
    read_nodes.node (roll-Node here) (subst (IsReadLine forms.Generic) out line_spelled) (subst (λ (x : Node-F Body Node). AreReadBodies forms.Generic x.regions) out body_spelled)

whole_node : (most : ℕ) → IsWhole most (example_module marks 7)
whole_node most =
    let out = sym (out-roll-Node here) in
    trees.node (roll-Node here) (subst (IsWholeLine most) out (line_read most)) (subst (λ (x : Node-F Body Node). AreWholeBodies most x.regions) out (body_read most))

pub example : ExampleLaw
example = record {
  readable = record {
    spelled = spelled_node;
    whole = whole_node 192;
    named = ap (λ (x : Node-F Body Node). x.name) (out-roll-Node here);
    alone = ap (λ (x : Node-F Body Node). x.results) (out-roll-Node here);
    brackets = brackets;
  };
  spelled = spelled-is;
  read = read-is;
}
