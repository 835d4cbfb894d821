-- Elements that are printed and read again as themselves.
use Rattle.std.proofs.Common.{◌≡◌, ℕ, Bool, true, false, List, [], ◌∷◌, refl, ap}
use Rattle.std.proofs.lemmas.List.{reverse-reverse}
use Rattle.std.specs.Prelude.{if◌then◌else◌, Some, codes}
use Rattle.av_lex.specs.declared.token.Kind.TheVariants as kinds
use Rattle.av_tree.specs.declared.attribute.Element.{Element}
use Rattle.av_tree.specs.declared.attribute.Element as elements
use Rattle.av_tree.specs.declared.table.Symbol.{Symbol}
use Rattle.av_tree.specs.declared.table.Symbol.TheVariants as symbol
use Rattle.av_tree.specs.declared.table.Test.TheVariants as test
use Rattle.av_tree.specs.declared.table.Name.TheVariants as name
use Rattle.av_tree.specs.declared.table.Rule.TheVariants as rule
use Rattle.av_tree.specs.declared.table.attributes.AttributeName.TheVariants as attributes_name
use Rattle.av_tree.specs.declared.table.attributes.AttributeRule.TheVariants as attributes_rule
use Rattle.av_printer.specs.Attributes.{truth, element_pieces}
use Rattle.av_values.specs.Sorts.{on_top, replaced}
use Rattle.av_values.specs.Spellings.{is_true}
use Rattle.av_values.specs.declared.value.Value.TheVariants as value
use Rattle.av_print_laws.proofs.AttrEquations.{element-number, element-bool, element-list}
use Rattle.av_round_trip.specs.Giving.{Gives}
use Rattle.av_round_trip.specs.Types.{IntegersLaw}
use Rattle.av_round_trip.specs.Attributes.{IsElement, AreElements, number_element, truth_element, list_element, no_elements, one_element_more}
use Rattle.av_round_trip.proofs.Giving.{none, given_as, given_row, given_token, given_square, Every, ListRows, given_commas}
use Rattle.av_round_trip.proofs.WordTests.{fits_truth}

-- ---- `true` and `false`
abbrev pub truth_word : Bool → List ℕ
truth_word b = if b then codes "true" else codes "false"

pub is_true-word : (b : Bool) → is_true (truth_word b) ≡ b
is_true-word true = refl
is_true-word false = refl

pub given_truth : {most : ℕ} (b : Bool) → Gives most (symbol.Token test.Bool ∷ []) (truth b) (value.Text (truth_word b) ∷ [])
unfolding truth
given_truth b = given_token test.Bool kinds.Word (truth_word b) (fits_truth b)

-- ---- elements
abbrev an_element : List Symbol
an_element = symbol.Rows (name.Attribute attributes_name.Element) ∷ []

abbrev EachElement : ℕ → List Element → Type 0
EachElement most es = Every most an_element element_pieces (λ (e : Element). value.Element e ∷ []) es

module _ {most : ℕ} where
  element_rows : ListRows most an_element (name.Attribute attributes_name.Elements) (name.Attribute attributes_name.MoreElements)
      (λ (e : Element). value.Element e ∷ []) value.Elements
  unfolding replaced on_top
  element_rows = record {
    no_front = given_row (rule.Attribute attributes_rule.NoElements) refl tt none refl;
    no_more = given_row (rule.Attribute attributes_rule.NoMoreElements) refl tt none refl;
    first = λ x xs inner. given_row (rule.Attribute attributes_rule.FirstElement) refl tt inner refl;
    next = λ x xs inner. given_row (rule.Attribute attributes_rule.NextElement) refl tt inner refl;
  }

  given_list : (items : List Element) → EachElement most items → Gives most an_element (element_pieces (elements.List items)) (value.Element (elements.List items) ∷ [])
  unfolding replaced on_top
  given_list items each =
      given_as (element-list items)
      (given_row (rule.Attribute attributes_rule.ListElement) refl tt
      (given_square (given_commas element_rows element_pieces items each))
      (ap (λ (es : List Element). Some (value.Element (elements.List es) ∷ [])) (reverse-reverse items)))

module _ (integers : IntegersLaw) (most : ℕ) where
  mutual
    unfolding replaced on_top

    pub given_element : (e : Element) → IsElement e → Gives most an_element (element_pieces e) (value.Element e ∷ [])
    given_element _ (number_element z h) =
        given_as (element-number z) (given_row (rule.Attribute attributes_rule.NumberElement) refl tt (integers most z h) refl)
    given_element _ (truth_element b) =
        given_as (element-bool b)
        (given_row (rule.Attribute attributes_rule.BoolElement) refl tt (given_truth b)
        (ap (λ (c : Bool). Some (value.Element (elements.Bool c) ∷ [])) (is_true-word b)))
    given_element _ (list_element items h) = given_list items (given_elements items h)

    given_elements : (es : List Element) → AreElements es → EachElement most es
    given_elements _ no_elements = tt
    given_elements _ (one_element_more e es h k) = (given_element e h, given_elements es k)
