-- The nodes that rows make of the words of lines.
use Rattle.std.proofs.Common.{◌≡◌, ℕ, ◌^◌, ◌<◌, ◌≤◌, List, [], ◌∷◌, refl, sym, ap, ◌∙◌, arith}
use Rattle.std.specs.Prelude.{ℤ, unsigned_abs, Some, None, codes}
use Rattle.av_ir.specs.declared.ty.Elem.{Elem}
use Rattle.av_ir.specs.declared.ty.Ty.{Ty}
use Rattle.av_ir.specs.declared.ty.Ty.TheVariants.{Scalar}
use Rattle.av_tree.specs.declared.attribute.Attr.TheVariants as attr
use Rattle.av_tree.specs.declared.node.Node.{Node, roll-Node}
use Rattle.av_tree.specs.declared.written.TypeText.{TypeText, fold-roll-TypeText}
use Rattle.av_tree.specs.declared.written.TypeText.TheVariants as ty
use Rattle.av_tree.specs.declared.written.TypeText.TheVariants.{rolls-Scalar, rolls-MemRef}
use Rattle.av_tree.specs.declared.written.TypeText.TheOpen as open_type
use Rattle.av_tree.specs.declared.table.Symbol.{Symbol}
use Rattle.av_tree.specs.declared.table.Symbol.TheVariants as symbol
use Rattle.av_tree.specs.declared.table.Name.TheVariants as name
use Rattle.av_tree.specs.declared.table.Rule.TheVariants as rule
use Rattle.av_tree.specs.declared.table.functions.FunctionName.TheVariants as functions_name
use Rattle.av_tree.specs.declared.table.arith.ArithRule.TheVariants as arith_rule
use Rattle.av_derive.specs.ClassOf.{keywords}
use Rattle.av_dialects.specs.Rows.{forms, names}
use Rattle.av_printer.specs.Pieces.{Piece, joined, token, sign as sign_pieces}
use Rattle.av_printer.specs.Types.{type_pieces, type_step, layout_behind}
use Rattle.av_print_laws.specs.Spacing as spacing
use Rattle.av_values.specs.Sorts.{on_top, replaced}
use Rattle.av_values.specs.declared.value.Value.TheVariants as value
use Rattle.av_totree.specs.Types.{type_of, elem_name}
use Rattle.av_program_laws.specs.Programs.{Subscript}
use Rattle.av_program_laws.specs.Walks.{buffer}
use Rattle.av_program_laws.specs.WrittenTrees.{entry, mark}
use Rattle.av_read_laws.specs.Making.{Makes, nothing, by_sign, by_word, by_row}
use Rattle.av_output_laws.proofs.Parts.{made_integer, made_value, made_scalar, made_buffer, buffer_words, made_mark, class-elem}
use Rattle.av_round_trip.proofs.Following.{followed, row, respelled, revalued}
use Rattle.av_output_laws.proofs.Subscripts.{IsReadSubscript, made_subscripts}
use Rattle.av_output_laws.proofs.Nodes.{layer, access_layer, constant-row, load-row, store-row, sum-row}
use Rattle.av_output_laws.proofs.ProgramWords.{plain_word, type_words, constant_words, sum_words, load_words, store_words}

-- ---- types
pub scalar_words : (elem : Elem) → type_words (Scalar elem) ≡ plain_word (elem_name elem) ∷ []
unfolding type_pieces spacing.words_of token
scalar_words elem = ap spacing.words_of
    (ap type_pieces (sym (rolls-Scalar (elem_name elem))) ∙ fold-roll-TypeText (List Piece) type_step (open_type.Scalar (elem_name elem)))

pub buffer_words-is : (size : ℕ) → type_words (buffer size) ≡ buffer_words size
unfolding type_pieces spacing.words_of token sign_pieces joined layout_behind
buffer_words-is size = ap spacing.words_of
    (ap type_pieces (sym (rolls-MemRef _ (codes "i32") None)) ∙ fold-roll-TypeText (List Piece) type_step (open_type.MemRef _ (codes "i32") None))

-- ---- forms
abbrev pub Form : Symbol
Form = symbol.Rows (name.Function functions_name.Form)

abbrev i32 : TypeText
i32 = ty.Scalar (codes "i32")

-- the nodes that they make
abbrev pub constant_made : ℤ → Node
constant_made z = roll-Node (layer (codes "arith.constant") [] [] (entry (codes "value") (attr.Number z i32) ∷ []) [] [] (Some i32 ∷ []))

abbrev pub sum_made : List ℕ → List ℕ → TypeText → Node
sum_made left right type =
    roll-Node (layer (codes "arith.addi") [] (left ∷ right ∷ []) [] [] (Some type ∷ Some type ∷ []) (Some type ∷ []))

abbrev pub load_made : List ℕ → List ℕ → Subscript → ℕ → TypeText → Node
load_made buffer text at number type =
    roll-Node (access_layer (codes "affine.load") [] [] buffer at text type (mark (codes "affvec.of") number) (None ∷ []))

abbrev pub store_made : List ℕ → List ℕ → List ℕ → Subscript → ℕ → TypeText → Node
store_made stored buffer text at number type =
    roll-Node (access_layer (codes "affine.store") (stored ∷ []) (None ∷ []) buffer at text type (mark (codes "affvec.of") number) [])

module _ {most : ℕ} where
  pub constant_form : (z : ℤ) → unsigned_abs z < 2 ^ 127
      → Makes most (Form ∷ []) (constant_words z) (value.Node (constant_made z) ∷ [])
  unfolding replaced on_top keywords forms names
  constant_form z h =
      row (rule.Operation 3) refl tt
      (by_word refl (row (rule.Arith arith_rule.NumberConstant) refl tt
      (made_integer z h (by_sign refl (made_scalar (codes "i32") refl nothing))) refl))
      (constant-row z i32)

  sum_here : (left right : List ℕ) (elem : Elem)
      → Makes most (Form ∷ []) (sum_words left right (plain_word (elem_name elem) ∷ []))
      (value.Node (sum_made left right (type_of (Scalar elem))) ∷ [])
  unfolding replaced on_top keywords forms names
  sum_here left right elem =
      row (rule.Operation 4) refl tt
      (by_word refl (made_value left (by_sign refl (made_value right
      (by_row {ws = []} (rule.Arith arith_rule.NoOverflow) refl tt nothing refl
      (by_sign refl (made_scalar (elem_name elem) (class-elem elem) nothing)))))))
      (sum-row left right (type_of (Scalar elem)))

  pub sum_form : (left right : List ℕ) (t : Ty) (elem : Elem) → t ≡ Scalar elem
      → Makes most (Form ∷ []) (sum_words left right (type_words t))
      (value.Node (sum_made left right (type_of t)) ∷ [])
  sum_form left right t elem is =
      revalued (ap (λ (t : Ty). value.Node (sum_made left right (type_of t)) ∷ []) (sym is))
      (respelled (ap (sum_words left right) (sym (ap type_words is ∙ scalar_words elem))) (sum_here left right elem))

  module _ (buffer_name text : List ℕ) (at : Subscript) (number size : ℕ) (two : 2 ≤ most) (read : IsReadSubscript at) (few : number < 2 ^ 64) (small : size < 2 ^ 31) where
    load_here : Makes most (Form ∷ []) (load_words buffer_name text at number (buffer_words size))
        (value.Node (load_made buffer_name text at number (type_of (buffer size))) ∷ [])
    unfolding replaced on_top keywords forms names
    load_here =
        row (rule.Operation 37) refl tt
        (by_word refl (made_value buffer_name (by_sign refl
        (followed (made_subscripts text at two read)
        (by_sign refl (made_mark (codes "affvec.of") number refl few (by_sign refl (made_buffer size (omega arith) nothing))))))))
        (load-row buffer_name text at (mark (codes "affvec.of") number) (type_of (buffer size)))

    pub load_form : (t : Ty) → t ≡ buffer size → Makes most (Form ∷ []) (load_words buffer_name text at number (type_words t))
        (value.Node (load_made buffer_name text at number (type_of t)) ∷ [])
    load_form t is =
        revalued (ap (λ (t : Ty). value.Node (load_made buffer_name text at number (type_of t)) ∷ []) (sym is))
        (respelled (ap (load_words buffer_name text at number) (sym (ap type_words is ∙ buffer_words-is size))) load_here)

    store_here : (stored : List ℕ) → Makes most (Form ∷ []) (store_words stored buffer_name text at number (buffer_words size))
        (value.Node (store_made stored buffer_name text at number (type_of (buffer size))) ∷ [])
    unfolding replaced on_top keywords forms names
    store_here stored =
        row (rule.Operation 38) refl tt
        (by_word refl (made_value stored (by_sign refl (made_value buffer_name (by_sign refl
        (followed (made_subscripts text at two read)
        (by_sign refl (made_mark (codes "affvec.of") number refl few (by_sign refl (made_buffer size (omega arith) nothing))))))))))
        (store-row stored buffer_name text at (mark (codes "affvec.of") number) (type_of (buffer size)))

    pub store_form : (stored : List ℕ) (t : Ty) → t ≡ buffer size → Makes most (Form ∷ []) (store_words stored buffer_name text at number (type_words t))
        (value.Node (store_made stored buffer_name text at number (type_of t)) ∷ [])
    store_form stored t is =
        revalued (ap (λ (t : Ty). value.Node (store_made stored buffer_name text at number (type_of t)) ∷ []) (sym is))
        (respelled (ap (store_words stored buffer_name text at number) (sym (ap type_words is ∙ buffer_words-is size))) (store_here stored))
