-- What trees are made of beside operations, and what stands behind the name of an operation in the form that all have in common.
use Rattle.std.proofs.Common.{◌≡◌, ℕ, List, [], ◌∷◌, ◌++◌, map, append_assoc, refl, sym, ap, ◌∙◌}
use Rattle.std.specs.Prelude.{reverse, IsTrue, Option, Some}
use Rattle.std.specs.List.{All}
use Rattle.std.proofs.lemmas.List.{reverse-reverse}
use Rattle.std.proofs.lemmas.List.Elements.{All-nil, All-cons, All-head, All-tail}
use Rattle.av_lex.specs.declared.token.Kind.TheVariants as kinds
use Rattle.av_lex.specs.declared.token.Sign.TheVariants as signs
use Rattle.av_tree.specs.declared.attribute.Named.{Named}
use Rattle.av_tree.specs.declared.node.Node.{Node, Node-F, roll-Node}
use Rattle.av_tree.specs.declared.node.Body.{Body}
use Rattle.av_tree.specs.declared.written.TypeText.{TypeText}
use Rattle.av_tree.specs.declared.table.Symbol.TheVariants as symbol
use Rattle.av_tree.specs.declared.table.Test.{Test}
use Rattle.av_tree.specs.declared.table.Name.TheVariants as name
use Rattle.av_tree.specs.declared.table.Rule.TheVariants as rule
use Rattle.av_tree.specs.declared.table.generic.GenericName.TheVariants as generic_name
use Rattle.av_tree.specs.declared.table.generic.GenericRule.TheVariants as generic_rule
use Rattle.av_tree.specs.declared.table.types.TypeName.TheVariants as types_name
use Rattle.av_tree.specs.declared.table.values.ValueName.TheVariants as values_name
use Rattle.av_tree.specs.Classes.{fits_of}
use Rattle.av_printer.specs.Pieces.{Piece, token, commas}
use Rattle.av_printer.specs.Types.{type_pieces, one_or_several}
use Rattle.av_printer.specs.Dictionaries.{in_order}
use Rattle.av_printer.specs.Operations.{known_type, known_types, known_in_round, known_results, values_pieces, values_in_round, properties_behind, marks_behind, quoted_name, signature}
use Rattle.av_values.specs.Forms.{generic_of}
use Rattle.av_values.specs.Spellings.{unquoted}
use Rattle.av_values.specs.Sorts.{on_top, replaced}
use Rattle.av_values.specs.declared.value.GenericParts.{GenericParts}
use Rattle.av_values.specs.declared.value.Value.TheVariants as value
use Rattle.av_read_laws.specs.Making.{class_of_word}
use Rattle.av_round_trip.specs.Giving.{Gives}
use Rattle.av_round_trip.specs.Types.{IsType, IsNameOfValue}
use Rattle.av_round_trip.specs.Trees.{IsKnownType, known, IsWholeLine, PropertiesLaw, MarksLaw}
use Rattle.av_round_trip.proofs.Giving.{join, given_as, given_row, given_spaced, given_token, given_round}
use Rattle.av_round_trip.proofs.Types.{many_values-law, integers-law, types-law, many_types-law, result_types-law}
use Rattle.av_round_trip.proofs.Maps.{maps-law, sets-law}
use Rattle.av_round_trip.proofs.Dictionaries.{properties-law, marks-law}
use Rattle.av_round_trip.proofs.Quotes.{in_quotes, unquoted-is}
use Rattle.av_round_trip.proofs.ReadNodes.{layer_as_read}

-- ---- dictionaries behind operations
given_properties : PropertiesLaw
given_properties = properties-law types-law many_types-law result_types-law integers-law maps-law sets-law

given_marks : MarksLaw
given_marks = marks-law types-law many_types-law result_types-law integers-law maps-law sets-law

-- ---- types that the tree has
record HasText (type : Option TypeText) : Type 0 where
  text : TypeText
  read : IsType text
  is : type ≡ Some text

pub record HaveTexts (types : List (Option TypeText)) : Type 0 where
  pub texts : List TypeText
  pub all : All IsType texts
  pub are : types ≡ map (λ (t : TypeText). Some t) texts

has_text : (type : Option TypeText) → IsKnownType type → HasText type
has_text _ (known t h) = record { text = t; read = h; is = refl }

pub have_texts : (types : List (Option TypeText)) → All IsKnownType types → HaveTexts types
have_texts [] all = record { texts = []; all = All-nil IsType; are = refl }
have_texts (type ∷ types) all =
    let first = has_text type (All-head IsKnownType type types all) in
    let others = have_texts types (All-tail IsKnownType type types all) in
    record {
      texts = first.text ∷ others.texts;
      all = All-cons IsType first.text others.texts first.read others.all;
      are = ap (λ t. t ∷ types) first.is ∙ ap (λ ts. Some first.text ∷ ts) others.are;
    }

known-pieces : (texts : List TypeText) → map known_type (map (λ (t : TypeText). Some t) texts) ≡ map type_pieces texts
unfolding known_type
known-pieces [] = refl
known-pieces (t ∷ texts) = ap (λ pieces. type_pieces t ∷ pieces) (known-pieces texts)

pieces-are : (types : List (Option TypeText)) (have : HaveTexts types) → map known_type types ≡ map type_pieces have.texts
pieces-are types have = ap (map known_type) have.are ∙ known-pieces have.texts

module _ {most : ℕ} (types : List (Option TypeText)) (have : HaveTexts types) where
  given_known : Gives most (symbol.Rows (name.Type types_name.Types) ∷ []) (known_types types) (value.Types (reverse have.texts) ∷ [])
  unfolding known_types
  given_known = given_as (ap commas (pieces-are types have)) (many_types-law most have.texts have.all)

  given_known_results : Gives most (symbol.Rows (name.Type types_name.ResultTypes) ∷ []) (known_results types) (value.Types (reverse have.texts) ∷ [])
  unfolding known_results
  given_known_results = given_as (ap one_or_several (pieces-are types have)) (result_types-law most have.texts have.all)

given_operands : {most : ℕ} (operands : List (List ℕ)) → All IsNameOfValue operands
    → Gives most (symbol.Rows (name.Value values_name.Values) ∷ []) (values_pieces operands) (value.Texts (reverse operands) ∷ [])
unfolding values_pieces
given_operands {most} operands all = many_values-law most operands all

-- ---- the parts behind the name
abbrev parts_of : List (List ℕ) → List Named → List Body → List Named → List TypeText → List TypeText → GenericParts
parts_of operands properties regions marks inputs outputs =
    record { operands = operands; properties = properties; regions = regions; attrs = marks; in_types = inputs; out_types = outputs }

-- each list is turned twice
turned-twice : (operands : List (List ℕ)) (properties : List Named) (regions : List Body) (marks : List Named) (inputs outputs : List TypeText)
    → parts_of (reverse (reverse operands)) (reverse (reverse properties)) (reverse (reverse regions)) (reverse (reverse marks)) (reverse (reverse inputs)) (reverse (reverse outputs))
    ≡ parts_of operands properties regions marks inputs outputs
turned-twice operands properties regions marks inputs outputs = simp reverse-reverse refl

-- the line of an operation behind the names of its results
regrouped : (q v p r e : List Piece) → (((q ++ v) ++ p) ++ r) ++ e ≡ q ++ (((v ++ p) ++ r) ++ e)
regrouped q v p r e =
    ap (λ (l : List Piece). (l ++ r) ++ e) (append_assoc q v p) ∙ ap (λ (l : List Piece). l ++ e) (append_assoc q (v ++ p) r) ∙ append_assoc q ((v ++ p) ++ r) e

module _ {most : ℕ} (x : Node-F Body Node) (h : IsWholeLine most x) (takes : HaveTexts x.in_types) (gives : HaveTexts x.out_types)
    {regions : List Piece} (bodies : List Body)
    (inner : Gives most (symbol.Rows (name.Generic generic_name.Regions) ∷ []) regions (value.Bodies (reverse bodies) ∷ [])) where
  abbrev parts_pieces : List Piece
  parts_pieces =
      ((values_in_round x.operands ++ properties_behind x.properties) ++ regions) ++ (marks_behind x.attrs ++ signature x.in_types x.out_types)

  abbrev pub parts_read : GenericParts
  parts_read = parts_of x.operands (in_order x.properties) bodies (in_order x.attrs) takes.texts gives.texts

  given_parts : Gives most (symbol.Rows (name.Generic generic_name.GenericParts) ∷ []) parts_pieces (value.Generic parts_read ∷ [])
  unfolding values_in_round signature known_in_round replaced on_top
  given_parts =
      given_row (rule.Generic generic_rule.WholeGeneric) refl tt
      (join (join (join (given_round (given_operands x.operands h.uses)) (given_properties most x.properties h.says)) inner)
      (join (given_marks most x.attrs h.marked)
      (join (join (join (given_spaced signs.Colon) (given_round (given_known x.in_types takes))) (given_spaced signs.Arrow)) (given_known_results x.out_types gives))))
      (ap (λ (parts : GenericParts). Some (value.Generic parts ∷ [])) (turned-twice x.operands (in_order x.properties) bodies (in_order x.attrs) takes.texts gives.texts))

  abbrev pub form_pieces : List Piece
  form_pieces =
      ((quoted_name x.name ++ values_in_round x.operands ++ properties_behind x.properties) ++ regions)
      ++ (marks_behind x.attrs ++ signature x.in_types x.out_types)

  -- the name and the parts, where the name fits a test of a row
  pub given_named : (t : Test) → IsTrue (fits_of t (class_of_word (kinds.Quoted, in_quotes x.name)))
      → Gives most (symbol.Token t ∷ symbol.Rows (name.Generic generic_name.GenericParts) ∷ []) form_pieces (value.Text (in_quotes x.name) ∷ value.Generic parts_read ∷ [])
  unfolding quoted_name
  given_named t fits =
      given_as (regrouped (token kinds.Quoted (in_quotes x.name)) (values_in_round x.operands) (properties_behind x.properties) regions
      (marks_behind x.attrs ++ signature x.in_types x.out_types))
      (join (given_token t kinds.Quoted (in_quotes x.name) fits) given_parts)

  -- the operation of this name and these parts
  abbrev pub nameless : Node
  nameless = roll-Node (record (layer_as_read x) { results = []; regions = bodies })

  pub made-is : generic_of (unquoted (in_quotes x.name)) parts_read 0 ≡ nameless
  made-is =
      ap (λ (t : List ℕ). generic_of t parts_read 0) (unquoted-is x.name)
      ∙ ap (λ (ins : List (Option TypeText)). roll-Node (record (layer_as_read x) { results = []; regions = bodies; in_types = ins; out_types = map (λ (t : TypeText). Some t) gives.texts })) (sym takes.are)
      ∙ ap (λ (outs : List (Option TypeText)). roll-Node (record (layer_as_read x) { results = []; regions = bodies; out_types = outs })) (sym gives.are)
