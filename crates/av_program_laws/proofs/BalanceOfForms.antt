-- The brackets of forms of the table of operations, by their parts.
use Rattle.std.proofs.Common.{ℕ, zero, suc, ◌+◌, ◌≡◌, List, [], ◌∷◌, length, take, drop, refl, sym, subst, arith, codes}
use Rattle.std.proofs.lemmas.List.{drop-drop}
use Rattle.av_lex.specs.declared.token.Sign.TheVariants.{Colon, Equal}
use Rattle.av_dialects.specs.declared.item.Item.{Item}
use Rattle.av_dialects.specs.declared.item.Lead.{Lead}
use Rattle.av_dialects.specs.declared.item.Lead.TheVariants as lead
use Rattle.av_dialects.specs.Rows.{Part}
use Rattle.av_dialects.specs.Types.{needs}
use Rattle.av_printer.specs.Pieces.{Piece}
use Rattle.av_printer.specs.Operations.{Head}
use Rattle.av_printer.specs.Parts.{lead_pieces, item_pieces, part_pieces, parts_pieces, share, before_regions, behind_regions, first_word, form_line, form_end}
use Rattle.av_program_laws.proofs.Balance.{Moves, with, nothing, plain_moves, sign_moves, space_moves, spaced_moves, comma_moves}

lead_moves : (k : ℕ) (l : Lead) → Moves k 0 (lead_pieces l)
lead_moves k lead.Nothing = nothing k
lead_moves k lead.Blank = space_moves k
lead_moves k lead.Comma = comma_moves k
lead_moves k lead.Colon = spaced_moves (sign_moves k Colon refl)
lead_moves k lead.Equal = spaced_moves (sign_moves k Equal refl)
lead_moves k lead.To = spaced_moves (plain_moves k (codes "to"))
lead_moves k lead.Step = spaced_moves (plain_moves k (codes "step"))
lead_moves k lead.Into = spaced_moves (plain_moves k (codes "into"))
lead_moves k lead.From = spaced_moves (plain_moves k (codes "from"))

-- an item moves so with whatever it takes of these operands
abbrev pub ItemMoves : ℕ → Head → List (List ℕ) → Item → Type 0
ItemMoves k h operands i = (n m : ℕ) → Moves k 0 (item_pieces h i (take n (drop m operands)))

abbrev pub ItemsMove : ℕ → Head → List (List ℕ) → List Part → Type 0
ItemsMove k h operands [] = Unit {0}
ItemsMove k h operands (part ∷ parts) = ItemMoves k h operands part.1 × ItemsMove k h operands parts

none_taken : (n m : ℕ) → take {A = List ℕ} n (drop m []) ≡ []
none_taken zero m = refl
none_taken (suc n) zero = refl
none_taken (suc n) (suc m) = refl

-- where there are no operands
pub without_operands : {k : ℕ} (spell : List (List ℕ) → List Piece) → Moves k 0 (spell []) → (n m : ℕ) → Moves k 0 (spell (take n (drop m [])))
without_operands {k} spell moves n m = subst (λ (vs : List (List ℕ)). Moves k 0 (spell vs)) (sym (none_taken n m)) moves

pub parts_move : (k : ℕ) (h : Head) (operands : List (List ℕ)) (parts : List Part) → ItemsMove k h operands parts
    → (m : ℕ) → Moves k 0 (parts_pieces h parts (drop m operands))
unfolding parts_pieces part_pieces
parts_move k h operands [] items m = nothing k
parts_move k h operands (part ∷ parts) items m =
    let taken : ℕ = share h part.1 (length (drop m operands)) (needs parts) in
    with (with (lead_moves k part.0) (items.0 taken m) (omega arith))
    (subst (λ (vs : List (List ℕ)). Moves k 0 (parts_pieces h parts vs)) (sym (drop-drop taken m operands)) (parts_move k h operands parts items.1 (m + taken)))
    (omega arith)

-- the line and the end of a form
pub line_moves : (k : ℕ) (h : Head) (parts : List Part) → ItemsMove k h h.operands (before_regions parts) → Moves k 0 (form_line parts h)
unfolding form_line
line_moves k h parts items = with (plain_moves k (first_word h.name)) (parts_move k h h.operands (before_regions parts) items 0) (omega arith)

pub end_moves : (k : ℕ) (h : Head) (parts : List Part) → ItemsMove k h [] (behind_regions parts) → Moves k 0 (form_end parts h)
unfolding form_end
end_moves k h parts items = parts_move k h [] (behind_regions parts) items 0
