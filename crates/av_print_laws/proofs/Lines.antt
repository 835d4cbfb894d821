-- The lines of operations that were read are spaced.
use Rattle.std.proofs.Common.{◌≡◌, ℕ, List, [], ◌++◌, map, Some, refl, codes}
use Rattle.std.proofs.lemmas.List.Elements.{All-nil}
use Rattle.av_lex.specs.declared.token.Kind.TheVariants as kinds
use Rattle.av_lex.specs.declared.token.Sign.TheVariants.{Colon, Arrow}
use Rattle.av_lex.specs.Bytes.{in_class}
use Rattle.av_printer.specs.declared.form.Form.TheVariants as forms
use Rattle.av_printer.specs.declared.named.NamedForm.{NamedForm}
use Rattle.av_printer.specs.declared.named.NamedForm.TheVariants as own
use Rattle.av_printer.specs.Pieces.{Piece, sign, plain, spaced}
use Rattle.av_printer.specs.Operations as o
use Rattle.av_printer.specs.OwnForms as f
use Rattle.av_dialects.specs.Rows.{form_of}
use Rattle.av_printer.specs.Parts.{parts_pieces, before_regions, behind_regions, first_word, form_line, form_end}
use Rattle.av_print_laws.specs.Spacing.{lengthens, IsWord}
use Rattle.av_print_laws.specs.ReadExpressions.{IsValue}
use Rattle.av_print_laws.specs.ReadNodes.{IsReadTypeIf, HasSymbol}
use Rattle.av_print_laws.proofs.Parts.{Free, Sound, Tail, free-append, free-sound, sound-of_free, sound-divides, divides-append, free-token, sound-word, all_mapped, tail-none, tail-divides, sound-tail, tail-append}
use Rattle.av_print_laws.proofs.Words.{is_word}
use Rattle.av_print_laws.proofs.Firsts.{divides-spaced}
use Rattle.av_print_laws.proofs.TypeParts.{sound-one_or_several}
use Rattle.av_print_laws.proofs.Said.{IsReadIf, read-property, read-results_of}
use Rattle.av_print_laws.proofs.LineParts.{free-between_colon, free-between_arrow, free-arguments, divides-arguments, free-values_in_round, sound-known_type, free-known_in_round, tail-marks, tail-properties, tail-results_behind, sound-function_name, tail-attributes_word}
use Rattle.av_print_laws.proofs.Names.{function-name, row-word}
use Rattle.av_print_laws.proofs.Heads.{ReadHead}
use Rattle.av_print_laws.proofs.FormParts.{before-fit, behind-fit, tail-parts}

-- ---- words
module_word : IsWord kinds.Word (codes "module")
unfolding in_class
module_word = is_word (codes "module") refl

-- what a form of its own asks besides
abbrev pub Suits : NamedForm → o.Head → Type 0
Suits own.Module h = Unit {0}
Suits own.Function h = IsWord kinds.SymId (codes "@" ++ o.text_of (o.property h.properties (codes "sym_name")))
Suits (own.Row number) h = IsWord kinds.Word (first_word h.name)

pub suits : (form : NamedForm) (h : o.Head) → HasSymbol forms.Named h.name h.properties → f.own_form h.name ≡ Some form → Suits form h
suits own.Module h s e = tt
suits own.Function h s e = s (function-name h.name e)
suits (own.Row number) h s e = row-word h.name number e

module _ (h : o.Head) (r : ReadHead h) where
  read-property_of : (name : List ℕ) → IsReadIf (o.property h.properties name)
  read-property_of name = read-property name h.properties r.says

  sound-function_line : Suits own.Function h → Sound (o.function_line h)
  unfolding o.function_line
  sound-function_line s =
      let begin : List Piece = o.function_name (o.text_of (o.property h.properties (codes "sym_name"))) in
      let args : List Piece = o.arguments_pieces h.arguments in
      let results : List Piece = o.results_behind (o.results_of (o.property h.properties (codes "function_type"))) in
      let attributes : List Piece = o.attributes_word h.attrs in
      sound-tail (begin ++ args ++ results ++ attributes) (o.marks_behind h.attrs)
      (sound-tail (begin ++ args ++ results) attributes
      (sound-tail (begin ++ args) results
      (sound-divides begin args
      (sound-function_name (o.text_of (o.property h.properties (codes "sym_name"))) s)
      (sound-of_free args (free-arguments h.arguments r.within)) (divides-arguments h.arguments))
      (tail-results_behind (o.results_of (o.property h.properties (codes "function_type")))
      (read-results_of (o.property h.properties (codes "function_type")) (read-property_of (codes "function_type")))))
      (tail-attributes_word h.attrs))
      (tail-marks h.attrs r.marked)

  pub sound-own_line : (form : NamedForm) → Suits form h → Sound (f.own_line form h)
  unfolding form_line
  sound-own_line own.Module s = sound-word (codes "module") module_word
  sound-own_line own.Function s = sound-function_line s
  sound-own_line (own.Row number) s =
      sound-tail (plain (first_word h.name)) (parts_pieces h (before_regions (form_of number)) h.operands) (sound-word (first_word h.name) s)
      (tail-parts h r (before_regions (form_of number)) (before-fit number) h.operands r.uses)

  pub tail-own_end : (form : NamedForm) → Tail (f.own_end form h)
  unfolding form_end
  tail-own_end own.Module = tail-none
  tail-own_end own.Function = tail-none
  tail-own_end (own.Row number) = tail-parts h r (behind_regions (form_of number)) (behind-fit number) [] (All-nil IsValue)

  -- ---- the form that all have in common
  free-quoted_name : Free (o.quoted_name h.name)
  unfolding o.quoted_name lengthens
  free-quoted_name = free-token kinds.Quoted (codes "\"" ++ h.name ++ codes "\"") (λ rest. refl) r.named

  pub sound-common_line : Sound (o.common_line h)
  unfolding o.common_line
  sound-common_line =
      sound-tail (o.quoted_name h.name ++ o.values_in_round h.operands) (o.properties_behind h.properties)
      (sound-of_free (o.quoted_name h.name ++ o.values_in_round h.operands)
      (free-append (o.quoted_name h.name) (o.values_in_round h.operands) free-quoted_name (free-values_in_round h.operands r.uses)))
      (tail-properties h.properties r.says)

  sound-known_results : Sound (o.known_results h.out_types)
  unfolding o.known_results
  sound-known_results =
      sound-one_or_several (map o.known_type h.out_types) (all_mapped IsReadTypeIf Sound o.known_type sound-known_type h.out_types r.gives)

  tail-signature : Tail (o.signature h.in_types h.out_types)
  unfolding o.signature
  tail-signature =
      let inputs : List Piece = o.known_in_round h.in_types in
      let results : List Piece = o.known_results h.out_types in
      tail-divides (spaced (sign Colon) ++ inputs ++ spaced (sign Arrow) ++ results)
      (free-sound (spaced (sign Colon) ++ inputs ++ spaced (sign Arrow)) results
      (free-append (spaced (sign Colon) ++ inputs) (spaced (sign Arrow))
      (free-append (spaced (sign Colon)) inputs free-between_colon (free-known_in_round h.in_types r.takes)) free-between_arrow)
      sound-known_results)
      (divides-append (spaced (sign Colon) ++ inputs ++ spaced (sign Arrow)) results
      (divides-append (spaced (sign Colon) ++ inputs) (spaced (sign Arrow))
      (divides-append (spaced (sign Colon)) inputs (divides-spaced (sign Colon)))))

  pub tail-common_end : Tail (o.common_end h)
  unfolding o.common_end
  tail-common_end = tail-append (o.marks_behind h.attrs) (o.signature h.in_types h.out_types) (tail-marks h.attrs r.marked) tail-signature
