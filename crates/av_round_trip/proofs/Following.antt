-- Values that are made one after the other.
use Rattle.std.proofs.Common.{◌≡◌, ℕ, List, [], ◌∷◌, ◌++◌, append_assoc, append-nil, sym, subst}
use Rattle.std.specs.Prelude.{Some}
use Rattle.av_tree.specs.declared.table.Symbol.{Symbol}
use Rattle.av_tree.specs.declared.table.Symbol.TheVariants as symbol
use Rattle.av_tree.specs.declared.table.Name.{Name}
use Rattle.av_tree.specs.declared.table.Rule.{Rule}
use Rattle.av_tree.specs.Table.{symbols_of, name_of}
use Rattle.av_tree.specs.Signs.{begins_expression}
use Rattle.av_values.specs.declared.value.Value.{Value}
use Rattle.av_reader.specs.Building as building
use Rattle.av_read_laws.specs.Making.{Word, FewSigns, Makes, nothing, by_sign, by_word, by_token, by_row}

-- symbols after others give their words after those of the others
pub followed : {most : ℕ} {ss others : List Symbol} {ws behind : List Word} {vs under : List Value}
    → Makes most ss ws vs → Makes most others behind under → Makes most (ss ++ others) (ws ++ behind) (vs ++ under)
followed nothing rest = rest
followed (by_sign is first) rest = by_sign is (followed first rest)
followed (by_word is first) rest = by_word is (followed first rest)
followed (by_token fits first) rest = by_token fits (followed first rest)
followed {most} {others = others} {behind = behind} {under = under} (by_row {x = x} {ss = ss} {ws = ws} {others = more} {vs = vs} {v = v} r is few inner made first) rest =
    subst (λ l. Makes most (symbol.Rows x ∷ (ss ++ others)) l (v ∷ (vs ++ under))) (sym (append_assoc ws more behind))
    (by_row r is few inner made (followed first rest))

-- one row alone
pub row : {most : ℕ} {x : Name} {ws : List Word} {v : Value} {parts : List Value} (r : Rule) → name_of r ≡ x → FewSigns (begins_expression r) most ws
    → Makes most (symbols_of r) ws parts → building.by_row r 0 parts ≡ Some (v ∷ []) → Makes most (symbol.Rows x ∷ []) ws (v ∷ [])
row {most} {x} {ws} {v} r is few inner made =
    subst (λ l. Makes most (symbol.Rows x ∷ []) l (v ∷ [])) (append-nil ws) (by_row r is few inner made nothing)

-- no words behind others
pub closed : {most : ℕ} {ss : List Symbol} {ws : List Word} {vs : List Value} → Makes most ss (ws ++ []) vs → Makes most ss ws vs
closed {most} {ss} {ws} {vs} made = subst (λ l. Makes most ss l vs) (append-nil ws) made

-- the same words, and the same value
pub respelled : {most : ℕ} {ss : List Symbol} {ws others : List Word} {vs : List Value} → ws ≡ others → Makes most ss ws vs → Makes most ss others vs
respelled {most} {ss} {ws} {others} {vs} is made = subst (λ l. Makes most ss l vs) is made

pub revalued : {most : ℕ} {ss : List Symbol} {ws : List Word} {vs others : List Value} → vs ≡ others → Makes most ss ws vs → Makes most ss ws others
revalued {most} {ss} {ws} is made = subst (λ values. Makes most ss ws values) is made
