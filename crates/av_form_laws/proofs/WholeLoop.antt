-- A whole loop that fits its form, part by part.
use Rattle.std.proofs.Common.{◌≡◌, true, ◌&&◌, List, [], ◌∷◌, ◌++◌, drop, None, Some, refl, ap, sym, subst, ◌∙◌}
use Rattle.std.specs.Prelude.{codes, pos}
use Rattle.av_tree.specs.declared.attribute.Named.{Named}
use Rattle.av_tree.specs.declared.node.Body.{Body}
use Rattle.av_tree.specs.declared.node.BodyArg.{BodyArg}
use Rattle.av_tree.specs.declared.written.TypeText.{TypeText}
use Rattle.av_values.specs.Loops.{counter}
use Rattle.av_dialects.specs.declared.item.Item.TheVariants as item
use Rattle.av_dialects.specs.declared.item.Lead.TheVariants as lead
use Rattle.av_dialects.specs.declared.item.Results.TheVariants as results
use Rattle.av_dialects.specs.Rows.{Part}
use Rattle.av_dialects.specs.Types.{needs}
use Rattle.av_form_laws.specs.Examples.{LoopExamples, a, b, body, c, end, loop_form, loop_words, typed_arg, whole_loop}
use Rattle.av_form_laws.specs.Grammar.{spell}
use Rattle.av_form_laws.specs.Items.{AreWanted, Fits, applied_entry, rest, taken}
use Rattle.av_form_laws.specs.Loops.{args_of, first_name, inits_of, number_map, paired, step_entry, types_of, value_map, written_in}
use Rattle.av_form_laws.specs.Rows.{Whole, blank, head_of, words_of}
use Rattle.av_form_laws.specs.Values.{Of}
use Rattle.av_form_laws.specs.Words.{Word, lead_words}
use Rattle.av_form_laws.proofs.Entries.{out-map, step-first}
use Rattle.av_values.proofs.Entries.{out-array}
use Rattle.av_form_laws.proofs.LoopExamples.{args-are, end-stays, nodes-are, others-are, region-is, written-end, yield}
use Rattle.av_values.specs.Gifts.{Line, all_written, args_in, sizes_entry, unwritten, with_args_in, with_last}

-- the operation has these parts and nothing besides, and these are its words
abbrev Fitting : List Part → Line → Line → List Word → Type 0
Fitting ps empty n ws = Whole ps empty n × (words_of ps n ≡ ws)

-- one part, and those behind it
next : (p : Part) (ps : List Part) (empty n m : Line) (v : Of p.1) (ws : List Word) → Fits p.1 (needs ps) n → taken p.1 (needs ps) n ≡ v
    → rest p.1 (needs ps) n ≡ m → Fitting ps empty m ws → Fitting (p ∷ ps) empty n (lead_words p.0 ++ (spell p.1 v ++ ws))
next p ps empty n m v ws f t e later = (
  (f, subst (Whole ps empty) (sym e) later.0),
  ap (λ x. lead_words p.0 ++ (spell p.1 x ++ words_of ps (rest p.1 (needs ps) n))) t
      ∙ ap (λ x. lead_words p.0 ++ (spell p.1 v ++ words_of ps x)) e
      ∙ ap (λ us. lead_words p.0 ++ (spell p.1 v ++ us)) later.1,
)

-- the form from a part on
abbrev from_marks : List Part
from_marks = (lead.Nothing, item.Marks) ∷ []

abbrev from_region : List Part
from_region = (lead.Blank, item.Region) ∷ from_marks

abbrev from_carried : List Part
from_carried = (lead.Nothing, item.Carried) ∷ from_region

abbrev from_step : List Part
from_step = (lead.Nothing, item.Step) ∷ from_carried

abbrev from_upper : List Part
from_upper = (lead.To, item.UpperBound) ∷ from_step

abbrev from_lower : List Part
from_lower = (lead.Equal, item.LowerBound) ∷ from_upper

module _ (t : TypeText) (e : Named) where
  abbrev loop : Line
  loop = whole_loop t e

  abbrev carried : BodyArg
  carried = typed_arg (codes "%d") t

  abbrev upper : Named
  upper = applied_entry (codes "upperBoundMap") value_map

  -- without the counter, without bounds and step, and without carried values
  abbrev uncounted : Line
  uncounted = record loop { regions = body (carried ∷ []) (end ∷ []) ∷ [] }

  abbrev unbounded : Line
  unbounded = record uncounted { properties = upper ∷ step_entry 2 ∷ sizes_entry (pos 1 ∷ pos 1 ∷ []) ∷ [] }

  abbrev stepping : Line
  stepping = record uncounted { operands = c ∷ []; properties = step_entry 2 ∷ [] }

  abbrev carrying : Line
  carrying = record uncounted { operands = c ∷ []; properties = [] }

  abbrev bare : Line
  bare = record carrying { operands = []; regions = body [] (end ∷ []) ∷ []; in_types = None ∷ None ∷ []; out_types = [] }

  abbrev CarriedBy : List BodyArg → Type 0
  CarriedBy args =
      ((args ≡ args_of (paired args (c ∷ []))) × (c ∷ [] ≡ inits_of (paired args (c ∷ [])))
      × (None ∷ Some t ∷ [] ≡ with_last (all_written (types_of (paired args (c ∷ [])))) (None ∷ Some t ∷ []))
      × (Some t ∷ [] ≡ all_written (types_of (paired args (c ∷ [])))))
      × AreWanted (types_of (paired args (c ∷ [])))

  abbrev both : List BodyArg
  both = counter a ∷ carried ∷ []

  counter-left : with_args_in (drop 1 (args_in (body both (end ∷ []) ∷ []))) (body both (end ∷ []) ∷ []) ≡ body (carried ∷ []) (end ∷ []) ∷ []
  counter-left = ap (λ xs. with_args_in (drop 1 xs) (body both (end ∷ []) ∷ [])) (args-are both (end ∷ []) []) ∙ others-are both (carried ∷ []) (end ∷ []) []

  fitting : AreWanted (t ∷ []) → Fitting loop_form (blank (head_of loop) results.Several (unwritten loop.operands)) loop (loop_words t e)
  fitting i =
      next (lead.Blank, item.Counter) from_lower _ loop uncounted a _
      (subst (λ xs. xs ≡ counter (first_name xs) ∷ drop 1 xs) (sym (args-are both (end ∷ []) [])) refl) (ap first_name (args-are both (end ∷ []) []))
      (ap (λ (bodies : List Body). let m : Line = record loop { regions = bodies } in m) counter-left)
      (next (lead.Equal, item.LowerBound) from_upper _ uncounted unbounded (number_map (pos 0), []) _ (simp out-map refl, simp (out-map, out-array) refl) (simp (out-map, out-array) refl) (simp out-array refl)
      (next (lead.To, item.UpperBound) from_step _ unbounded stepping (value_map, b ∷ []) _ (simp out-map refl, simp (out-map, out-array) refl) (simp (out-map, out-array) refl) (simp out-array refl)
      (next (lead.Nothing, item.Step) from_carried _ stepping carrying 2 _ (ap (λ k. step_entry k ∷ []) (sym (step-first 2 []))) (step-first 2 []) refl
      (next (lead.Nothing, item.Carried) from_region _ carrying bare ((carried, c) ∷ []) _
      (subst CarriedBy (sym (args-are (carried ∷ []) (end ∷ []) [])) ((refl, refl, refl, refl), i))
      (ap (λ xs. paired xs (c ∷ [])) (args-are (carried ∷ []) (end ∷ []) []))
      (ap (λ (bodies : List Body). let m : Line = record bare { regions = bodies } in m) (others-are (carried ∷ []) [] (end ∷ []) []))
      (next (lead.Blank, item.Region) from_marks _ bare (record bare { regions = [] }) (end ∷ []) _ (region-is (end ∷ []) [] end-stays)
      (ap (written_in yield) (nodes-are [] (end ∷ []) []) ∙ written-end) refl
      (next (lead.Nothing, item.Marks) [] _ (record bare { regions = [] }) (record bare { regions = []; attrs = [] }) (e ∷ []) [] tt refl refl (refl, refl)))))))

pub loop-examples : LoopExamples
loop-examples t e i = fitting t e (ap (λ q. q && true) i)
