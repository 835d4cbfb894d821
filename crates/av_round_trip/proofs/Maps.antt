-- Maps and sets are read as they are printed.
use Rattle.std.proofs.Common.{◌≡◌, ℕ, Bool, true, false, List, [], ◌∷◌, ◌++◌, map, refl, sym, ap, ◌∙◌, codes}
use Rattle.std.proofs.lemmas.List.{reverse-reverse, map-append}
use Rattle.std.specs.Prelude.{reverse, Some}
use Rattle.std.specs.List.{All}
use Rattle.av_lex.specs.declared.token.Kind.TheVariants as kinds
use Rattle.av_lex.specs.declared.token.Sign.TheVariants as signs
use Rattle.av_tree.specs.declared.class.Keyword.TheVariants as key
use Rattle.av_tree.specs.declared.table.Symbol.TheVariants as symbol
use Rattle.av_tree.specs.declared.table.Test.TheVariants as test
use Rattle.av_tree.specs.declared.table.Name.TheVariants as name
use Rattle.av_tree.specs.declared.table.Rule.TheVariants as rule
use Rattle.av_tree.specs.declared.table.maps.MapName.TheVariants as maps_name
use Rattle.av_tree.specs.declared.table.maps.MapRule.TheVariants as maps_rule
use Rattle.av_tree.specs.declared.attribute.Attr.TheVariants as attr
use Rattle.av_tree.specs.declared.written.ExprText.{ExprText}
use Rattle.av_tree.specs.declared.written.MapText.{MapText}
use Rattle.av_tree.specs.declared.written.RowText.{RowText}
use Rattle.av_tree.specs.declared.written.SetText.{SetText}
use Rattle.av_derive.specs.ClassOf.{keywords}
use Rattle.av_printer.specs.Pieces.{plain, commas}
use Rattle.av_printer.specs.Expressions.{expression, parameters, square_if_any, map_pieces, comparison, row_pieces, set_pieces}
use Rattle.av_values.specs.Sorts.{on_top, replaced}
use Rattle.av_values.specs.declared.value.Expression.{Expression}
use Rattle.av_values.specs.declared.value.Value.{Value}
use Rattle.av_values.specs.declared.value.Value.TheVariants as value
use Rattle.av_parts.specs.rows.MapRows.{map_of, set_of}
use Rattle.av_read_laws.proofs.Nodes.{map-reverse}
use Rattle.av_round_trip.specs.Giving.{Gives}
use Rattle.av_round_trip.specs.Expressions.{IsExpression, IsMap, IsRow, IsSet, MapsLaw, SetsLaw}
use Rattle.av_round_trip.proofs.Giving.{none, join, given_row, given_sign, given_word, given_token, given_spaced, given_round, ListRows, Every, given_commas, given_all}
use Rattle.av_round_trip.proofs.Expressions.{rows, whole, word-fits, given_expression}

-- ---- lists
abbrev text_values : List ℕ → List Value
text_values text = value.Text text ∷ []

abbrev expression_values : ExprText → List Value
expression_values e = value.Expression (whole e) ∷ []

abbrev expressions : List ExprText → Value
expressions es = value.Expressions (map whole es)

one_more : (es : List ExprText) (e : ExprText) → map whole es ++ whole e ∷ [] ≡ map whole (es ++ e ∷ [])
one_more es e = sym (map-append whole es (e ∷ []))

exprs_of_wholes : (es : List ExprText) → map (λ (e : Expression). e.expr) (map whole es) ≡ es
exprs_of_wholes [] = refl
exprs_of_wholes (e ∷ es) = ap (λ l. e ∷ l) (exprs_of_wholes es)

results_again : (es : List ExprText) → map (λ (e : Expression). e.expr) (reverse (map whole (reverse es))) ≡ es
results_again es =
    ap (map (λ (e : Expression). e.expr)) (sym (map-reverse whole (reverse es)) ∙ ap (map whole) (reverse-reverse es)) ∙ exprs_of_wholes es

map_again : (m : MapText) → map_of (record { dims = reverse m.dims; syms = reverse m.syms }) (map whole (reverse m.results)) ≡ m
map_again m =
    ap (λ (dims : List (List ℕ)). record { dims = dims; syms = reverse (reverse m.syms); results = map (λ (e : Expression). e.expr) (reverse (map whole (reverse m.results))) }) (reverse-reverse m.dims)
    ∙ ap (λ (syms : List (List ℕ)). record { dims = m.dims; syms = syms; results = map (λ (e : Expression). e.expr) (reverse (map whole (reverse m.results))) }) (reverse-reverse m.syms)
    ∙ ap (λ (results : List ExprText). record { dims = m.dims; syms = m.syms; results = results }) (results_again m.results)

abbrev row_values : RowText → List Value
row_values r = value.Row r ∷ []

set_again : (s : SetText) → set_of (record { dims = reverse s.dims; syms = reverse s.syms }) (reverse s.rows) ≡ s
set_again s =
    ap (λ (dims : List (List ℕ)). record { dims = dims; syms = reverse (reverse s.syms); rows = reverse (reverse s.rows) }) (reverse-reverse s.dims)
    ∙ ap (λ (syms : List (List ℕ)). record { dims = s.dims; syms = syms; rows = reverse (reverse s.rows) }) (reverse-reverse s.syms)
    ∙ ap (λ (rs : List RowText). record { dims = s.dims; syms = s.syms; rows = rs }) (reverse-reverse s.rows)

every_word : (most : ℕ) (texts : List (List ℕ)) → Every most (symbol.Token test.Word ∷ []) plain text_values texts
every_word most [] = tt
every_word most (text ∷ texts) = (given_token test.Word kinds.Word text (word-fits text), every_word most texts)

-- ---- parameters
module _ {most : ℕ} where
  word_rows : ListRows most (symbol.Token test.Word ∷ []) (name.Map maps_name.Words) (name.Map maps_name.MoreWords) text_values value.Texts
  unfolding replaced on_top
  word_rows = record {
    no_front = given_row (rule.Map maps_rule.NoWords) refl tt none refl;
    no_more = given_row (rule.Map maps_rule.NoMoreWords) refl tt none refl;
    first = λ word others inner. given_row (rule.Map maps_rule.FirstWord) refl tt inner refl;
    next = λ word others inner. given_row (rule.Map maps_rule.NextWord) refl tt inner refl;
  }

  pub given_names : (texts : List (List ℕ)) → Gives most (rows maps_name.Words ∷ []) (commas (map plain texts)) (value.Texts (reverse texts) ∷ [])
  given_names texts = given_commas word_rows plain texts (every_word most texts)

  given_symbols : (syms : List (List ℕ)) → Gives most (rows maps_name.SymbolNames ∷ []) (square_if_any (map plain syms)) (value.Texts (reverse syms) ∷ [])
  unfolding square_if_any replaced on_top
  given_symbols [] = given_row (rule.Map maps_rule.NoSymbolNames) refl tt none refl
  given_symbols (first ∷ others) =
      given_row (rule.Map maps_rule.WrittenSymbolNames) refl tt
      (join (join (given_sign signs.OpenSquare) (given_names (first ∷ others))) (given_sign signs.CloseSquare)) refl

  given_parameters : (dims syms : List (List ℕ))
      → Gives most (rows maps_name.Parameters ∷ []) (parameters dims syms) (value.Parameters (record { dims = reverse dims; syms = reverse syms }) ∷ [])
  unfolding parameters replaced on_top
  given_parameters dims syms = given_row (rule.Map maps_rule.DimensionNames) refl tt (join (given_round (given_names dims)) (given_symbols syms)) refl

  -- ---- maps
  expression_rows : ListRows most (rows maps_name.Expression ∷ []) (name.Map maps_name.Expressions) (name.Map maps_name.MoreExpressions) expression_values expressions
  unfolding replaced on_top
  expression_rows = record {
    no_front = given_row (rule.Map maps_rule.NoExpressions) refl tt none refl;
    no_more = given_row (rule.Map maps_rule.NoMoreExpressions) refl tt none refl;
    first = λ e es inner. given_row (rule.Map maps_rule.FirstExpression) refl tt inner (ap (λ (l : List Expression). Some (value.Expressions l ∷ [])) (one_more es e));
    next = λ e es inner. given_row (rule.Map maps_rule.NextExpression) refl tt inner (ap (λ (l : List Expression). Some (value.Expressions l ∷ [])) (one_more es e));
  }

  given_expressions : (es : List ExprText) → All (IsExpression most) es
      → Gives most (rows maps_name.Expressions ∷ []) (commas (map (expression plain) es)) (value.Expressions (map whole (reverse es)) ∷ [])
  given_expressions es h = given_all expression_rows (expression plain) given_expression es h

  pub given_map : (m : MapText) → IsMap most m → Gives most (rows maps_name.AffineMap ∷ []) (map_pieces m) (value.Attr (attr.Map m) ∷ [])
  unfolding map_pieces replaced on_top keywords
  given_map m h =
      given_row (rule.Map maps_rule.WrittenMap) refl tt
      (join
      (join
      (join (join (join (given_word key.AffineMap (codes "affine_map") refl) (given_sign signs.OpenAngle)) (given_parameters m.dims m.syms)) (given_spaced signs.Arrow))
      (given_round (given_expressions m.results h)))
      (given_sign signs.CloseAngle))
      (ap (λ (n : MapText). Some (value.Attr (attr.Map n) ∷ [])) (map_again m))

  -- ---- sets
  given_comparison : (equal : Bool) → Gives most (rows maps_name.RightSide ∷ []) (comparison equal) (value.Equal equal ∷ [])
  unfolding replaced on_top
  given_comparison true = given_row (rule.Map maps_rule.EqualToZero) refl tt (join (given_spaced signs.EqualEqual) (given_token test.Zero kinds.Number (codes "0") refl)) refl
  given_comparison false = given_row (rule.Map maps_rule.AtLeastZero) refl tt (join (given_spaced signs.AtLeast) (given_token test.Zero kinds.Number (codes "0") refl)) refl

  given_set_row : (r : RowText) → IsRow most r → Gives most (rows maps_name.SetRow ∷ []) (row_pieces r) (value.Row r ∷ [])
  unfolding row_pieces replaced on_top
  given_set_row r h = given_row (rule.Map maps_rule.RowOfSet) refl tt (join (given_expression r.left h) (given_comparison r.equal)) refl

  set_row_rows : ListRows most (rows maps_name.SetRow ∷ []) (name.Map maps_name.SetRows) (name.Map maps_name.MoreSetRows) row_values value.Rows
  unfolding replaced on_top
  set_row_rows = record {
    no_front = given_row (rule.Map maps_rule.NoSetRows) refl tt none refl;
    no_more = given_row (rule.Map maps_rule.NoMoreSetRows) refl tt none refl;
    first = λ r rs inner. given_row (rule.Map maps_rule.FirstSetRow) refl tt inner refl;
    next = λ r rs inner. given_row (rule.Map maps_rule.NextSetRow) refl tt inner refl;
  }

  pub given_set : (s : SetText) → IsSet most s → Gives most (rows maps_name.AffineSet ∷ []) (set_pieces s) (value.Attr (attr.Set s) ∷ [])
  unfolding set_pieces replaced on_top keywords
  given_set s h =
      given_row (rule.Map maps_rule.WrittenSet) refl tt
      (join
      (join
      (join (join (join (given_word key.AffineSet (codes "affine_set") refl) (given_sign signs.OpenAngle)) (given_parameters s.dims s.syms)) (given_spaced signs.Colon))
      (given_round (given_all set_row_rows row_pieces given_set_row s.rows h)))
      (given_sign signs.CloseAngle))
      (ap (λ (t : SetText). Some (value.Attr (attr.Set t) ∷ [])) (set_again s))

pub maps-law : MapsLaw
maps-law most m h = given_map m h

pub sets-law : SetsLaw
sets-law most s h = given_set s h
