-- The words of forms of the table of operations, by their parts.
use Rattle.std.proofs.Common.{◌≡◌, ℕ, zero, suc, ◌-◌, List, [], ◌∷◌, ◌++◌, length, take, drop, refl, ap, ◌∙◌, arith}
use Rattle.std.proofs.lemmas.List.{take_all}
use Rattle.std.specs.Prelude.{codes}
use Rattle.av_lex.specs.declared.token.Kind.TheVariants as kinds
use Rattle.av_lex.specs.declared.token.Sign.TheVariants as signs
use Rattle.av_dialects.specs.declared.item.Lead.{Lead}
use Rattle.av_dialects.specs.declared.item.Lead.TheVariants as lead
use Rattle.av_dialects.specs.Rows.{Part}
use Rattle.av_dialects.specs.Types.{needs}
use Rattle.av_printer.specs.Pieces.{Piece}
use Rattle.av_printer.specs.Operations.{Head}
use Rattle.av_printer.specs.Parts.{lead_pieces, part_pieces, parts_pieces, share}
use Rattle.av_read_laws.specs.Making.{Word}
use Rattle.av_output_laws.proofs.Parts.{sign_word}
use Rattle.av_output_laws.proofs.ProgramWords.{plain_word}
use Rattle.av_output_laws.proofs.Saying.{Says, none, also, token_said, sign_said, space_said, spaced_said}

-- ---- what stands before a part
abbrev lead_words : Lead → List Word
lead_words lead.Nothing = []
lead_words lead.Blank = []
lead_words lead.Comma = sign_word signs.Comma ∷ []
lead_words lead.Colon = sign_word signs.Colon ∷ []
lead_words lead.Equal = sign_word signs.Equal ∷ []
lead_words lead.To = plain_word (codes "to") ∷ []
lead_words lead.Step = plain_word (codes "step") ∷ []
lead_words lead.Into = plain_word (codes "into") ∷ []
lead_words lead.From = plain_word (codes "from") ∷ []

lead_said : (l : Lead) → Says (lead_pieces l) (λ ws. lead_words l ++ ws)
lead_said lead.Nothing = none
lead_said lead.Blank = space_said
lead_said lead.Comma = also (sign_said signs.Comma) space_said
lead_said lead.Colon = spaced_said signs.Colon
lead_said lead.Equal = spaced_said signs.Equal
lead_said lead.To = also (also space_said (token_said kinds.Word (codes "to"))) space_said
lead_said lead.Step = also (also space_said (token_said kinds.Word (codes "step"))) space_said
lead_said lead.Into = also (also space_said (token_said kinds.Word (codes "into"))) space_said
lead_said lead.From = also (also space_said (token_said kinds.Word (codes "from"))) space_said

-- an item behind its lead
pub led : (l : Lead) {ps : List Piece} {f : List Word → List Word} → Says ps f → Says (lead_pieces l ++ ps) (λ ws. lead_words l ++ f ws)
led l said = also (lead_said l) said

-- ---- operands
-- an item that takes all that are left
pub all_taken : (operands : List (List ℕ)) → take (length operands - 0) operands ≡ operands
all_taken operands = take_all (length operands - 0) operands (omega arith)

-- where no operand is left, none is taken
abbrev pub parts_alone : Head → List Part → List Piece
parts_alone h [] = []
parts_alone h (part ∷ parts) = part_pieces h part [] ++ parts_alone h parts

none_taken : (n : ℕ) → take {A = List ℕ} n [] ≡ []
none_taken zero = refl
none_taken (suc n) = refl

none_left : (n : ℕ) → drop {A = List ℕ} n [] ≡ []
none_left zero = refl
none_left (suc n) = refl

pub without_operands : (h : Head) (parts : List Part) → parts_pieces h parts [] ≡ parts_alone h parts
unfolding parts_pieces
without_operands h [] = refl
without_operands h (part ∷ parts) =
    let taken : ℕ = share h part.1 0 (needs parts) in
    ap (λ (vs : List (List ℕ)). part_pieces h part vs ++ parts_pieces h parts (drop taken [])) (none_taken taken)
    ∙ ap (λ (vs : List (List ℕ)). part_pieces h part [] ++ parts_pieces h parts vs) (none_left taken)
    ∙ ap (λ ps. part_pieces h part [] ++ ps) (without_operands h parts)
