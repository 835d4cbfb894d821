-- Dictionaries, marks and properties that are printed and read again as themselves.
use Rattle.std.proofs.Common.{ℕ, Bool, true, false, cond, List, [], ◌∷◌, ◌++◌, refl, ap}
use Rattle.std.specs.Prelude.{reverse}
use Rattle.av_lex.specs.declared.token.Sign.TheVariants as signs
use Rattle.av_tree.specs.declared.attribute.Named.{Named, out-Named}
use Rattle.av_tree.specs.declared.table.Symbol.TheVariants as symbol
use Rattle.av_tree.specs.declared.table.Name.TheVariants as name
use Rattle.av_tree.specs.declared.table.Rule.TheVariants as rule
use Rattle.av_tree.specs.declared.table.attributes.AttributeName.TheVariants as attributes_name
use Rattle.av_tree.specs.declared.table.attributes.AttributeRule.TheVariants as attributes_rule
use Rattle.av_tree.specs.declared.table.generic.GenericRule.TheVariants as generic_rule
use Rattle.av_printer.specs.Pieces.{Piece, space, sign}
use Rattle.av_printer.specs.Attributes.{entry_pieces}
use Rattle.av_printer.specs.Dictionaries.{stands_before, inserted, in_order, ordered_onto, dictionary}
use Rattle.av_printer.specs.Operations.{marks_behind, properties_behind}
use Rattle.av_values.specs.Sorts.{on_top, replaced}
use Rattle.av_values.specs.declared.value.Value.TheVariants as value
use Rattle.av_round_trip.specs.Giving.{Gives}
use Rattle.av_round_trip.specs.Types.{TypesLaw, ManyTypesLaw, ResultTypesLaw, IntegersLaw}
use Rattle.av_round_trip.specs.Expressions.{MapsLaw, SetsLaw}
use Rattle.av_round_trip.specs.Attributes.{IsEntryValue, AreEntries, DictionariesLaw, no_entries, one_entry_more}
use Rattle.av_round_trip.specs.Trees.{MarksLaw, PropertiesLaw}
use Rattle.av_round_trip.proofs.Giving.{none, join, given_as, given_row, given_space, given_sign, given_commas}
use Rattle.av_round_trip.proofs.Attributes.{regrouped, entry_rows, given_braces, given_entries}

-- ---- entries in order of name
module _ {most : ℕ} where
  chosen : (b : Bool) (ns ms : List Named) → AreEntries most ns → AreEntries most ms → AreEntries most (cond b ns ms)
  chosen true ns ms h k = h
  chosen false ns ms h k = k

  are-inserted : (n : Named) → IsEntryValue most (out-Named n).name (out-Named n).value → (ns : List Named) → AreEntries most ns → AreEntries most (inserted n ns)
  unfolding inserted
  are-inserted n h _ no_entries = one_entry_more n [] h no_entries
  are-inserted n h _ (one_entry_more m ms g k) =
      chosen (stands_before (out-Named n).name (out-Named m).name) (n ∷ m ∷ ms) (m ∷ inserted n ms)
      (one_entry_more n (m ∷ ms) h (one_entry_more m ms g k))
      (one_entry_more m (inserted n ms) g (are-inserted n h ms k))

  are-onto : (ordered ns : List Named) → AreEntries most ordered → AreEntries most ns → AreEntries most (ordered_onto ordered ns)
  unfolding ordered_onto
  are-onto ordered _ h no_entries = h
  are-onto ordered _ h (one_entry_more n ns g k) = are-onto (inserted n ordered) ns (are-inserted n g ordered h) k

  pub are-in_order : (ns : List Named) → AreEntries most ns → AreEntries most (in_order ns)
  are-in_order ns h = are-onto [] ns no_entries h

-- ---- laws
module _ (types : TypesLaw) (many : ManyTypesLaw) (results : ResultTypesLaw) (integers : IntegersLaw) (maps : MapsLaw) (sets : SetsLaw) where
  pub dictionaries-law : DictionariesLaw
  dictionaries-law most entries h =
      given_commas entry_rows entry_pieces (in_order entries) (given_entries types many results integers maps sets most (in_order entries) (are-in_order entries h))

  -- in curly brackets
  given_ordered : (most : ℕ) (entries : List Named) → AreEntries most entries
      → Gives most (symbol.Rows (name.Attribute attributes_name.Dictionary) ∷ []) (sign signs.OpenCurly ++ dictionary entries ++ sign signs.CloseCurly)
      (value.Entries (reverse (in_order entries)) ∷ [])
  given_ordered most entries h =
      given_braces (in_order entries) (given_entries types many results integers maps sets most (in_order entries) (are-in_order entries h))

  pub marks-law : MarksLaw
  unfolding marks_behind ordered_onto replaced on_top
  marks-law most [] h = given_row (rule.Attribute attributes_rule.NoDictionary) refl tt none refl
  marks-law most (e ∷ entries) h =
      given_as (regrouped space (sign signs.OpenCurly) (dictionary (e ∷ entries)) (sign signs.CloseCurly))
      (given_row (rule.Attribute attributes_rule.DictionaryHere) refl tt (join given_space (given_ordered most (e ∷ entries) h)) refl)

  pub properties-law : PropertiesLaw
  unfolding properties_behind ordered_onto replaced on_top
  properties-law most [] h = given_row (rule.Generic generic_rule.NoProperties) refl tt none refl
  properties-law most (e ∷ entries) h =
      given_as
      (ap (λ (ps : List Piece). ps ++ sign signs.CloseAngle)
      (regrouped (space ++ sign signs.OpenAngle) (sign signs.OpenCurly) (dictionary (e ∷ entries)) (sign signs.CloseCurly)))
      (given_row (rule.Generic generic_rule.WrittenProperties) refl tt
      (join (join (join given_space (given_sign signs.OpenAngle)) (given_ordered most (e ∷ entries) h)) (given_sign signs.CloseAngle)) refl)
