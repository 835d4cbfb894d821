-- Regions in the form that all operations have in common.
use Rattle.std.proofs.Common.{◌≡◌, ℕ, ◌+◌, List, [], ◌∷◌, ◌++◌, map, append_assoc, refl, sym, ap, ◌∙◌}
use Rattle.std.specs.Prelude.{reverse, Some, codes}
use Rattle.std.specs.List.{All}
use Rattle.std.proofs.lemmas.List.{reverse-append, reverse-reverse}
use Rattle.av_lex.specs.declared.token.Kind.TheVariants as kinds
use Rattle.av_lex.specs.declared.token.Sign.TheVariants as signs
use Rattle.av_tree.specs.declared.node.Node.{Node}
use Rattle.av_tree.specs.declared.node.Body.{Body, out-Body, roll-Body}
use Rattle.av_tree.specs.declared.node.BodyArg.{BodyArg}
use Rattle.av_tree.specs.declared.table.Symbol.{Symbol}
use Rattle.av_tree.specs.declared.table.Symbol.TheVariants as symbol
use Rattle.av_tree.specs.declared.table.Test.TheVariants as test
use Rattle.av_tree.specs.declared.table.Name.TheVariants as name
use Rattle.av_tree.specs.declared.table.Rule.TheVariants as rule
use Rattle.av_tree.specs.declared.table.generic.GenericName.TheVariants as generic_name
use Rattle.av_tree.specs.declared.table.generic.GenericRule.TheVariants as generic_rule
use Rattle.av_tree.specs.declared.table.regions.RegionName.TheVariants as regions_name
use Rattle.av_tree.specs.declared.table.types.TypeName.TheVariants as types_name
use Rattle.av_printer.specs.declared.form.Form.TheVariants as forms
use Rattle.av_printer.specs.Pieces.{comma, commas, behind, joined}
use Rattle.av_printer.specs.Operations.{argument, arguments_pieces}
use Rattle.av_printer.specs.Spelling.{label, common_regions, common_body, node_line}
use Rattle.av_printer.proofs.NodeSteps.{common-of}
use Rattle.av_values.specs.Sorts.{on_top, replaced}
use Rattle.av_values.specs.declared.value.Value.{Value}
use Rattle.av_values.specs.declared.value.Value.TheVariants as value
use Rattle.av_round_trip.specs.Giving.{Gives}
use Rattle.av_round_trip.specs.Trees.{IsWholeArg, as_read, body_as_read}
use Rattle.av_round_trip.proofs.Giving.{none, join, given_as, given_row, given_space, given_line, given_sign, given_token, given_colon, given_comma, given_round, Every, ListRows, given_all}
use Rattle.av_round_trip.proofs.Types.{types-law}
use Rattle.av_round_trip.proofs.ReadNodes.{body_as_read-is}

abbrev pub Operations : Symbol
Operations = symbol.Rows (name.Region regions_name.Operations)

-- ---- regions in a row
-- each region is read
abbrev pub EachBody : ℕ → ℕ → List Body → Type 0
EachBody most depth bodies =
    Every most (symbol.Rows (name.Generic generic_name.GenericRegion) ∷ []) (common_body depth) (λ (b : Body). value.Body (body_as_read b) ∷ []) bodies

-- one region more, as the rows put it
turned : (first : Body) (others : List Body) → reverse (map body_as_read others) ++ body_as_read first ∷ [] ≡ reverse (map body_as_read (first ∷ others))
turned first others = sym (reverse-append (body_as_read first ∷ []) (map body_as_read others))

module _ {most : ℕ} (depth : ℕ) where
  more_regions : (bodies : List Body) → EachBody most depth bodies
      → Gives most (symbol.Rows (name.Generic generic_name.MoreRegions) ∷ []) (behind (map (common_body depth) bodies)) (value.Bodies (reverse (map body_as_read bodies)) ∷ [])
  unfolding behind replaced on_top
  more_regions [] each = given_row (rule.Generic generic_rule.NoMoreRegions) refl tt none refl
  more_regions (b ∷ bodies) each =
      given_row (rule.Generic generic_rule.NextRegion) refl tt
      (given_as (append_assoc comma (common_body depth b) (behind (map (common_body depth) bodies)))
      (join given_comma (join each.0 (more_regions bodies each.1))))
      (ap (λ (l : List Body). Some (value.Bodies l ∷ [])) (turned b bodies))

  pub given_regions : (bodies : List Body) → EachBody most depth bodies
      → Gives most (symbol.Rows (name.Generic generic_name.Regions) ∷ []) (common_regions (map (common_body depth) bodies))
      (value.Bodies (reverse (map body_as_read bodies)) ∷ [])
  unfolding common_regions commas replaced on_top
  given_regions [] each = given_row (rule.Generic generic_rule.NoRegions) refl tt none refl
  given_regions (b ∷ bodies) each =
      given_row (rule.Generic generic_rule.WrittenRegions) refl tt
      (join given_space (given_round (join each.0 (more_regions bodies each.1))))
      (ap (λ (l : List Body). Some (value.Bodies l ∷ [])) (turned b bodies))

-- ---- one region
abbrev argument_symbols : List Symbol
argument_symbols = symbol.Token test.ValId ∷ symbol.Sign signs.Colon ∷ symbol.Rows (name.Type types_name.Type) ∷ []

abbrev argument_values : BodyArg → List Value
argument_values a = value.Text a.name ∷ value.Type a.ty ∷ []

module _ {most : ℕ} where
  given_argument : (a : BodyArg) → IsWholeArg a → Gives most argument_symbols (argument a) (argument_values a)
  unfolding argument
  given_argument a h = join (join (given_token test.ValId kinds.ValId a.name refl) given_colon) (types-law most a.ty h)

  argument_rows : ListRows most argument_symbols (name.Generic generic_name.Arguments) (name.Generic generic_name.MoreArguments) argument_values value.Args
  unfolding replaced on_top
  argument_rows = record {
    no_front = given_row (rule.Generic generic_rule.NoArguments) refl tt none refl;
    no_more = given_row (rule.Generic generic_rule.NoMoreArguments) refl tt none refl;
    first = λ x xs inner. given_row (rule.Generic generic_rule.FirstArgument) refl tt inner refl;
    next = λ x xs inner. given_row (rule.Generic generic_rule.NextArgument) refl tt inner refl;
  }

  given_label : (depth : ℕ) (args : List BodyArg) → All IsWholeArg args
      → Gives most (symbol.Rows (name.Generic generic_name.Label) ∷ []) (label depth args) (value.Args (reverse args) ∷ [])
  unfolding label arguments_pieces replaced on_top
  given_label depth [] all = given_row (rule.Generic generic_rule.NoLabel) refl tt none refl
  given_label depth (first ∷ others) all =
      given_row (rule.Generic generic_rule.BlockLabel) refl tt
      (join
      (join (join (given_line depth) (given_token test.CaretId kinds.CaretId (codes "^bb0") refl))
      (given_round (given_all argument_rows argument given_argument (first ∷ others) all)))
      (given_sign signs.Colon))
      refl

  pub given_body : (depth : ℕ) (body : Body) → All IsWholeArg (out-Body body).args
      → Gives most (Operations ∷ []) (joined (map (node_line forms.Generic (depth + 1)) (out-Body body).nodes))
      (value.Nodes (reverse (map as_read (out-Body body).nodes)) ∷ [])
      → Gives most (symbol.Rows (name.Generic generic_name.GenericRegion) ∷ []) (common_body depth body) (value.Body (body_as_read body) ∷ [])
  unfolding replaced on_top
  given_body depth body all inner =
      let args = (out-Body body).args in
      let nodes : List Node = map as_read (out-Body body).nodes in
      given_as (common-of depth body)
      (given_row (rule.Generic generic_rule.LabelledRegion) refl tt
      (join (join (join (join (given_sign signs.OpenCurly) (given_label depth args all)) inner) (given_line depth)) (given_sign signs.CloseCurly))
      (ap (λ (found : List BodyArg). Some (value.Body (roll-Body (record { args = found; nodes = reverse (reverse nodes) })) ∷ [])) (reverse-reverse args)
      ∙ ap (λ (ns : List Node). Some (value.Body (roll-Body (record { args = args; nodes = ns })) ∷ [])) (reverse-reverse nodes)
      ∙ ap (λ (b : Body). Some (value.Body b ∷ [])) (sym (body_as_read-is body))))
