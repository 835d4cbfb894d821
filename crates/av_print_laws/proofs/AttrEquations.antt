-- What each kind of attribute spells.
use Rattle.std.proofs.Common.{◌≡◌, ℕ, ℤ, Bool, List, [], ◌∷◌, ◌++◌, map, Option, Some, None, refl, sym, ap, ◌∙◌}
use Rattle.av_lex.specs.declared.token.Kind.TheVariants as kinds
use Rattle.av_tree.specs.declared.written.TypeText.{TypeText}
use Rattle.av_tree.specs.declared.written.MapText.{MapText}
use Rattle.av_tree.specs.declared.written.SetText.{SetText}
use Rattle.av_tree.specs.declared.attribute.Element.{Element, fold-Element, fold-roll-Element}
use Rattle.av_tree.specs.declared.attribute.Element as element_named
use Rattle.av_tree.specs.declared.attribute.Element.TheVariants as element_rolls
use Rattle.av_tree.specs.declared.attribute.Element.TheOpen as open_element
use Rattle.av_tree.specs.declared.attribute.Attr.{Attr, fold-Attr, fold-roll-Attr}
use Rattle.av_tree.specs.declared.attribute.Attr as attr_named
use Rattle.av_tree.specs.declared.attribute.Attr.TheVariants as attr_rolls
use Rattle.av_tree.specs.declared.attribute.Attr.TheOpen as open_attr
use Rattle.av_tree.specs.declared.attribute.Named.{Named, fold_out-Named, out-Named}
use Rattle.av_printer.specs.Pieces.{Piece, token, plain, commas, in_square, in_curly}
use Rattle.av_printer.specs.Types.{type_pieces}
use Rattle.av_printer.specs.Expressions.{number, map_pieces, set_pieces}
use Rattle.av_printer.specs.Attributes.{truth, element_step, element_pieces, typed, quoted, hashed, array_of, dense_of, or_nothing, assigned, attr_step, entry_step, attr_of, attribute, entry_pieces}

-- ---- elements
pub element-number : (z : ℤ) → element_pieces (element_named.Number z) ≡ number z
unfolding element_pieces
element-number z =
    ap (fold-Element (List Piece) element_step) (sym (element_rolls.rolls-Number z)) ∙ fold-roll-Element (List Piece) element_step (open_element.Number z)

pub element-bool : (b : Bool) → element_pieces (element_named.Bool b) ≡ truth b
unfolding element_pieces
element-bool b =
    ap (fold-Element (List Piece) element_step) (sym (element_rolls.rolls-Bool b)) ∙ fold-roll-Element (List Piece) element_step (open_element.Bool b)

pub element-list : (es : List Element) → element_pieces (element_named.List es) ≡ in_square (commas (map element_pieces es))
unfolding element_pieces
element-list es =
    ap (fold-Element (List Piece) element_step) (sym (element_rolls.rolls-List es)) ∙ fold-roll-Element (List Piece) element_step (open_element.List es)

-- ---- attributes
mapped_twice : {A B C : Type 0} (f : A → B) (g : B → C) (xs : List A) → map g (map f xs) ≡ map (λ x. g (f x)) xs
mapped_twice f g [] = refl
mapped_twice f g (x ∷ xs) = ap (λ ys. g (f x) ∷ ys) (mapped_twice f g xs)

pub attr-number : (z : ℤ) (ty : TypeText) → attr_of (attr_named.Number z ty) ≡ Some (number z ++ typed ty)
unfolding attr_of
attr-number z ty =
    ap (fold-Attr (Option (List Piece)) (List Piece) attr_step entry_step) (sym (attr_rolls.rolls-Number z ty))
    ∙ fold-roll-Attr (Option (List Piece)) (List Piece) attr_step entry_step (open_attr.Number z ty)

pub attr-bool : (b : Bool) → attr_of (attr_named.Bool b) ≡ Some (truth b)
unfolding attr_of
attr-bool b =
    ap (fold-Attr (Option (List Piece)) (List Piece) attr_step entry_step) (sym (attr_rolls.rolls-Bool b))
    ∙ fold-roll-Attr (Option (List Piece)) (List Piece) attr_step entry_step (open_attr.Bool b)

pub attr-quoted : (text : List ℕ) → attr_of (attr_named.Quoted text) ≡ Some (quoted text)
unfolding attr_of
attr-quoted text =
    ap (fold-Attr (Option (List Piece)) (List Piece) attr_step entry_step) (sym (attr_rolls.rolls-Quoted text))
    ∙ fold-roll-Attr (Option (List Piece)) (List Piece) attr_step entry_step (open_attr.Quoted text)

pub attr-symbol : (name : List ℕ) → attr_of (attr_named.Symbol name) ≡ Some (token kinds.SymId name)
unfolding attr_of
attr-symbol name =
    ap (fold-Attr (Option (List Piece)) (List Piece) attr_step entry_step) (sym (attr_rolls.rolls-Symbol name))
    ∙ fold-roll-Attr (Option (List Piece)) (List Piece) attr_step entry_step (open_attr.Symbol name)

pub attr-aliasuse : (name : List ℕ) → attr_of (attr_named.AliasUse name) ≡ Some (token kinds.HashId name)
unfolding attr_of
attr-aliasuse name =
    ap (fold-Attr (Option (List Piece)) (List Piece) attr_step entry_step) (sym (attr_rolls.rolls-AliasUse name))
    ∙ fold-roll-Attr (Option (List Piece)) (List Piece) attr_step entry_step (open_attr.AliasUse name)

pub attr-type : (ty : TypeText) → attr_of (attr_named.Type ty) ≡ Some (type_pieces ty)
unfolding attr_of
attr-type ty =
    ap (fold-Attr (Option (List Piece)) (List Piece) attr_step entry_step) (sym (attr_rolls.rolls-Type ty))
    ∙ fold-roll-Attr (Option (List Piece)) (List Piece) attr_step entry_step (open_attr.Type ty)

pub attr-map : (m : MapText) → attr_of (attr_named.Map m) ≡ Some (map_pieces m)
unfolding attr_of
attr-map m =
    ap (fold-Attr (Option (List Piece)) (List Piece) attr_step entry_step) (sym (attr_rolls.rolls-Map m))
    ∙ fold-roll-Attr (Option (List Piece)) (List Piece) attr_step entry_step (open_attr.Map m)

pub attr-set : (s : SetText) → attr_of (attr_named.Set s) ≡ Some (set_pieces s)
unfolding attr_of
attr-set s =
    ap (fold-Attr (Option (List Piece)) (List Piece) attr_step entry_step) (sym (attr_rolls.rolls-Set s))
    ∙ fold-roll-Attr (Option (List Piece)) (List Piece) attr_step entry_step (open_attr.Set s)

pub attr-hash : (name : List ℕ) (words : List (List ℕ)) → attr_of (attr_named.Hash name words) ≡ Some (hashed name words)
unfolding attr_of
attr-hash name words =
    ap (fold-Attr (Option (List Piece)) (List Piece) attr_step entry_step) (sym (attr_rolls.rolls-Hash name words))
    ∙ fold-roll-Attr (Option (List Piece)) (List Piece) attr_step entry_step (open_attr.Hash name words)

pub attr-list : (items : List Attr) → attr_of (attr_named.List items) ≡ Some (in_square (commas (map attribute items)))
unfolding attr_of
attr-list items =
    ap (fold-Attr (Option (List Piece)) (List Piece) attr_step entry_step) (sym (attr_rolls.rolls-List items))
    ∙ fold-roll-Attr (Option (List Piece)) (List Piece) attr_step entry_step (open_attr.List items)
    ∙ ap (λ ps. Some (in_square (commas ps))) (mapped_twice attr_of or_nothing items)

pub attr-dictionary : (entries : List Named) → attr_of (attr_named.Dictionary entries) ≡ Some (in_curly (commas (map entry_pieces entries)))
unfolding attr_of entry_pieces
attr-dictionary entries =
    ap (fold-Attr (Option (List Piece)) (List Piece) attr_step entry_step) (sym (attr_rolls.rolls-Dictionary entries))
    ∙ fold-roll-Attr (Option (List Piece)) (List Piece) attr_step entry_step (open_attr.Dictionary entries)

pub attr-array : (elem : TypeText) (numbers : List ℤ) → attr_of (attr_named.Array elem numbers) ≡ Some (array_of elem numbers)
unfolding attr_of
attr-array elem numbers =
    ap (fold-Attr (Option (List Piece)) (List Piece) attr_step entry_step) (sym (attr_rolls.rolls-Array elem numbers))
    ∙ fold-roll-Attr (Option (List Piece)) (List Piece) attr_step entry_step (open_attr.Array elem numbers)

pub attr-dense : (elements : Element) (ty : TypeText) → attr_of (attr_named.Dense elements ty) ≡ Some (dense_of elements ty)
unfolding attr_of
attr-dense elements ty =
    ap (fold-Attr (Option (List Piece)) (List Piece) attr_step entry_step) (sym (attr_rolls.rolls-Dense elements ty))
    ∙ fold-roll-Attr (Option (List Piece)) (List Piece) attr_step entry_step (open_attr.Dense elements ty)

pub attr-unit : attr_of (attr_named.Unit) ≡ None
unfolding attr_of
attr-unit =
    ap (fold-Attr (Option (List Piece)) (List Piece) attr_step entry_step) (sym attr_rolls.rolls-Unit)
    ∙ fold-roll-Attr (Option (List Piece)) (List Piece) attr_step entry_step open_attr.Unit

-- ---- entries
pub entry-opened : (e : Named) → entry_pieces e ≡ plain (out-Named e).name ++ assigned (attr_of (out-Named e).value)
unfolding entry_pieces attr_of
entry-opened e = fold_out-Named (Option (List Piece)) (List Piece) attr_step entry_step e
