-- Parts one behind another.
use Rattle.std.proofs.Common.{◌≡◌, List, [], ◌∷◌, ◌++◌, Option, refl, ap, sym, ◌∙◌}
use Rattle.av_tree.specs.declared.written.TypeText.{TypeText}
use Rattle.av_dialects.specs.declared.item.Results.{Results}
use Rattle.av_dialects.specs.Rows.{Part}
use Rattle.av_dialects.specs.Types.{needs}
use Rattle.av_form_laws.specs.Grammar.{Makes, nothing, part, spell}
use Rattle.av_form_laws.specs.Items.{give, opened, rest, taken}
use Rattle.av_form_laws.specs.Rows.{FitsRow, Whole, all_opened, blank, given, head_of, made, values_of, words_of}
use Rattle.av_form_laws.proofs.Lenses.{give-taken, opened-taken}
use Rattle.av_form_laws.proofs.Printed.{gives}
use Rattle.av_values.specs.Gifts.{Line, unwritten}

pub makes : (ps : List Part) (empty n : Line) → Whole ps empty n → Makes ps (words_of ps n) (values_of ps n)
makes [] empty n h = nothing
makes (p ∷ ps) empty n h =
    part p ps (spell p.1 (taken p.1 (needs ps) n)) (words_of ps (rest p.1 (needs ps) n)) (taken p.1 (needs ps) n) (values_of ps (rest p.1 (needs ps) n))
    (gives p.1 (needs ps) n h.0) (makes ps empty (rest p.1 (needs ps) n) h.1)

given-whole : (ps : List Part) (empty n : Line) → Whole ps empty n → given ps (values_of ps n) empty ≡ n
given-whole [] empty n h = sym h
given-whole (p ∷ ps) empty n h =
    ap (give p.1 (taken p.1 (needs ps) n)) (given-whole ps empty (rest p.1 (needs ps) n) h.1) ∙ give-taken p.1 (needs ps) n h.0

all-opened : (ps : List Part) (empty n : Line) → empty.operands ≡ [] → Whole ps empty n → all_opened ps (values_of ps n) ≡ unwritten n.operands
all-opened [] empty n e h = ap unwritten (sym (ap (λ (m : Line). m.operands) h ∙ e))
all-opened (p ∷ ps) empty n e h =
    ap (λ ts. opened p.1 (taken p.1 (needs ps) n) ++ ts) (all-opened ps empty (rest p.1 (needs ps) n) e h.1)
    ∙ opened-taken p.1 (needs ps) n h.0

pub made-whole : (r : Results) (ps : List Part) (n : Line) → FitsRow r ps n → made (head_of n) r ps (values_of ps n) ≡ n
made-whole r ps n h =
    ap (λ (ts : List (Option TypeText)). given ps (values_of ps n) (blank (head_of n) r ts))
    (all-opened ps (blank (head_of n) r (unwritten n.operands)) n refl h)
    ∙ given-whole ps (blank (head_of n) r (unwritten n.operands)) n h
