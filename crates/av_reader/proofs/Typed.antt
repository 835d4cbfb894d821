-- A derivation puts values of its symbols' sorts on the stack.
use Rattle.std.proofs.Common.{◌≡◌, ℕ, zero, suc, ◌+◌, ◌<◌, ◌≤◌, List, [], ◌∷◌, ◌++◌, Option, Some, length, refl, sym, ap, subst, ◌∙◌, arith}
use Rattle.std.specs.Prelude.{slice_get}
use Rattle.std.specs.Option.{option_map, option_and_then}
use Rattle.std.proofs.lemmas.List.{append-nil}
use Rattle.av_lex.specs.declared.token.Token.{Token}
use Rattle.av_tree.specs.declared.class.Class.{Class}
use Rattle.av_tree.specs.declared.node.Tree.{Tree}
use Rattle.av_tree.specs.declared.table.Name.{Name}
use Rattle.av_tree.specs.declared.table.Rule.{Rule}
use Rattle.av_tree.specs.declared.table.Rule.TheVariants as rule
use Rattle.av_tree.specs.declared.table.Symbol.{Symbol}
use Rattle.av_tree.specs.declared.table.Symbol.TheVariants as symbol
use Rattle.av_tree.specs.declared.table.Test.{Test}
use Rattle.av_tree.specs.Table.{symbols_of, name_of}
use Rattle.av_derive.specs.declared.machine.Event.{Event}
use Rattle.av_derive.specs.declared.machine.Event.TheVariants as event
use Rattle.av_derive.specs.ClassOf.{spelling_of}
use Rattle.av_derive.specs.Derivation.{Derives, DerivesFile, nothing_left, by_sign, by_word, by_token}
use Rattle.av_derive.specs.Derivation as derivation
use Rattle.av_values.specs.declared.value.Value.{Value}
use Rattle.av_values.specs.declared.value.Value.TheVariants as value
use Rattle.av_values.specs.Sorts.{Sort, Of, All, any, on_top, only_tree, replaced, sort_of, sorts_of, a_tree, a_node, a_nodes, a_onward, a_terminated, a_typed_values, a_arg, a_args, a_text, a_texts, a_number, a_constant, a_type, a_types, a_sizes, a_layout, a_attr, a_entry, a_entries, a_parameters, a_expression, a_expressions, a_parts, a_map_use, a_carried, a_aliases, a_generic, a_body, a_bodies, a_attrs, a_words, a_numbers, a_element, a_elements, a_dense, a_dims, a_size, a_row, a_rows, a_equal, a_selected, a_optional_type}
use Rattle.av_reader.specs.Building.{by_event, by_row, place_of, values_of, tree_of}
use Rattle.av_blocks.specs.rows.FileRows as files
use Rattle.av_blocks.specs.rows.FunctionRows as functions
use Rattle.av_blocks.specs.rows.RegionRows as regions
use Rattle.av_blocks.specs.rows.GenericRows as generics
use Rattle.av_parts.specs.rows.TypeRows as types
use Rattle.av_parts.specs.rows.AttributeRows as attributes
use Rattle.av_parts.specs.rows.MapRows as maps
use Rattle.av_parts.specs.rows.ValueRows as values
use Rattle.av_operations.specs.rows.ArithRows as ariths
use Rattle.av_values.specs.Made as operations
use Rattle.av_operations.specs.rows.AffineRows as affines
use Rattle.av_parts.specs.rows.SubscriptRows as subscripts
use Rattle.av_values.proofs.Replacing.{replaced-end, replaced-top}
use Rattle.av_reader.proofs.Worked.{one-more}

-- the stack with values of these sorts on it, the first of them on top
abbrev pub put : (ss : List Sort) → All ss → List Value → List Value
put [] vs under = under
put (s ∷ ss) vs under = any s vs.0 ∷ put ss vs.1 under

top-any : (s : Sort) (v : Of s) (under : List Value) → on_top s (any s v ∷ under) ≡ Some (v, under)
unfolding on_top
top-any a_tree v under = refl
top-any a_node v under = refl
top-any a_nodes v under = refl
top-any a_onward v under = refl
top-any a_terminated v under = refl
top-any a_typed_values v under = refl
top-any a_arg v under = refl
top-any a_args v under = refl
top-any a_text v under = refl
top-any a_texts v under = refl
top-any a_number v under = refl
top-any a_constant v under = refl
top-any a_type v under = refl
top-any a_types v under = refl
top-any a_sizes v under = refl
top-any a_layout v under = refl
top-any a_attr v under = refl
top-any a_entry v under = refl
top-any a_entries v under = refl
top-any a_parameters v under = refl
top-any a_expression v under = refl
top-any a_expressions v under = refl
top-any a_parts v under = refl
top-any a_map_use v under = refl
top-any a_carried v under = refl
top-any a_aliases v under = refl
top-any a_generic v under = refl
top-any a_body v under = refl
top-any a_bodies v under = refl
top-any a_attrs v under = refl
top-any a_words v under = refl
top-any a_numbers v under = refl
top-any a_element v under = refl
top-any a_elements v under = refl
top-any a_dense v under = refl
top-any a_dims v under = refl
top-any a_size v under = refl
top-any a_row v under = refl
top-any a_rows v under = refl
top-any a_equal v under = refl
top-any a_selected v under = refl
top-any a_optional_type v under = refl

-- what is made of the values on top takes their place
replaced-put : (ss : List Sort) (s : Sort) (make : All ss → Option (Of s)) (vs : All ss) (made : Of s) (under : List Value) → make vs ≡ Some made
    → replaced ss s make (put ss vs under) ≡ Some (any s made ∷ under)
replaced-put [] s make vs made under e = replaced-end s make made under (any s made ∷ under) e refl
replaced-put (t ∷ ss) s make vs made under e =
    replaced-top t ss s make vs.0 (any t vs.0 ∷ put ss vs.1 under) (put ss vs.1 under) (Some (any s made ∷ under))
    (top-any t vs.0 (put ss vs.1 under)) (replaced-put ss s (λ others. make (vs.0, others)) vs.1 made under e)

-- a row makes a value of its name's sort of values of its symbols' sorts
pub record Makes (r : Rule) (x : Name) (place : ℕ) (vs : All (sorts_of (symbols_of r))) (under : List Value) : Type 0 where
  pub made : Of (sort_of x)
  pub replaces : by_row r place (put (sorts_of (symbols_of r)) vs under) ≡ Some (any (sort_of x) made ∷ under)

makes : (r : Rule) (place : ℕ) (vs : All (sorts_of (symbols_of r))) (under : List Value) → Makes r (name_of r) place vs under
makes (rule.File r) place vs under = record { made = files.made r place vs; replaces = replaced-put _ _ _ vs _ under refl }
makes (rule.Function r) place vs under = record { made = functions.made r place vs; replaces = replaced-put _ _ _ vs _ under refl }
makes (rule.Region r) place vs under = record { made = regions.made r place vs; replaces = replaced-put _ _ _ vs _ under refl }
makes (rule.Generic r) place vs under = record { made = generics.made r place vs; replaces = replaced-put _ _ _ vs _ under refl }
makes (rule.Type r) place vs under = record { made = types.made r vs; replaces = replaced-put _ _ _ vs _ under refl }
makes (rule.Attribute r) place vs under = record { made = attributes.made r vs; replaces = replaced-put _ _ _ vs _ under refl }
makes (rule.Map r) place vs under = record { made = maps.made r vs; replaces = replaced-put _ _ _ vs _ under refl }
makes (rule.Value r) place vs under = record { made = values.made r vs; replaces = replaced-put _ _ _ vs _ under refl }
makes (rule.Arith r) place vs under = record { made = ariths.made r place vs; replaces = replaced-put _ _ _ vs _ under refl }
makes (rule.Affine r) place vs under = record { made = affines.made r place vs; replaces = replaced-put _ _ _ vs _ under refl }
makes (rule.Subscript r) place vs under = record { made = subscripts.made r vs; replaces = replaced-put _ _ _ vs _ under refl }
makes (rule.Operation number) place vs under = record { made = operations.made number place vs; replaces = replaced-put _ _ _ vs _ under refl }

makes-name : (r : Rule) (x : Name) (place : ℕ) (vs : All (sorts_of (symbols_of r))) (under : List Value) → name_of r ≡ x → Makes r x place vs under
makes-name r x place vs under e = subst (λ (y : Name). Makes r y place vs under) e (makes r place vs under)

-- values of symbols one after the other
pub record Halves (xs ys : List Symbol) (vs : All (sorts_of (xs ++ ys))) (under : List Value) : Type 0 where
  pub first : All (sorts_of xs)
  pub second : All (sorts_of ys)
  pub same : put (sorts_of (xs ++ ys)) vs under ≡ put (sorts_of xs) first (put (sorts_of ys) second under)

halves : (xs ys : List Symbol) (vs : All (sorts_of (xs ++ ys))) (under : List Value) → Halves xs ys vs under
halves [] ys vs under = record { first = tt; second = vs; same = refl }
halves (symbol.Sign s ∷ xs) ys vs under = let h = halves xs ys vs under in record { first = h.first; second = h.second; same = h.same }
halves (symbol.Word w ∷ xs) ys vs under = let h = halves xs ys vs under in record { first = h.first; second = h.second; same = h.same }
halves (symbol.Token t ∷ xs) ys vs under =
    let h = halves xs ys vs.1 under in
    record { first = (vs.0, h.first); second = h.second; same = ap (λ (l : List Value). any a_text vs.0 ∷ l) h.same }
halves (symbol.Rows x ∷ xs) ys vs under =
    let h = halves xs ys vs.1 under in
    record { first = (vs.0, h.first); second = h.second; same = ap (λ (l : List Value). any (sort_of x) vs.0 ∷ l) h.same }

-- the events put values of the symbols' sorts on the stack
pub record Puts (bytes : List ℕ) (tokens : List Token) (ss : List Symbol) (es rest : List Event) (under : List Value) : Type 0 where
  pub values : All (sorts_of ss)
  pub puts : values_of bytes tokens (es ++ rest) ≡ Some (put (sorts_of ss) values under)

get-within : (tokens : List Token) (n : ℕ) → n < length tokens → (token : Token) × (slice_get tokens n ≡ Some token)
get-within [] n h = absurd (omega arith)
get-within (t ∷ tokens) zero h = (t, refl)
get-within (t ∷ tokens) (suc n) h = get-within tokens n (omega arith)

puts-token : (bytes : List ℕ) (tokens : List Token) (n : ℕ) (token : Token) (es : List Event) (below : List Value) → slice_get tokens n ≡ Some token
    → values_of bytes tokens es ≡ Some below → values_of bytes tokens (event.Token n ∷ es) ≡ Some (any a_text (spelling_of bytes token) ∷ below)
puts-token bytes tokens n token es below e f =
    one-more bytes tokens (event.Token n) es below _ f (ap (option_map (λ (t : Token). value.Text (spelling_of bytes t) ∷ below)) e)

after-row : (bytes : List ℕ) (tokens : List Token) (n : ℕ) (r : Rule) (x : Name) (ss : List Symbol) (es rest : List Event) (under : List Value)
    → name_of r ≡ x → Puts bytes tokens (symbols_of r ++ ss) es rest under → Puts bytes tokens (symbol.Rows x ∷ ss) (event.Row r n ∷ es) rest under
after-row bytes tokens n r x ss es rest under e p =
    let h = halves (symbols_of r) ss p.values under in
    let below : List Value = put (sorts_of ss) h.second under in
    let m = makes-name r x (place_of tokens n) h.first below e in
    record {
      values = (m.made, h.second);
      puts = one-more bytes tokens (event.Row r n) (es ++ rest) (put (sorts_of (symbols_of r)) h.first below) _ (p.puts ∙ ap Some h.same) m.replaces;
    }

after-token : (bytes : List ℕ) (tokens : List Token) (n : ℕ) (t : Test) (ss : List Symbol) (es rest : List Event) (under : List Value)
    → n < length tokens → Puts bytes tokens ss es rest under → Puts bytes tokens (symbol.Token t ∷ ss) (event.Token n ∷ es) rest under
after-token bytes tokens n t ss es rest under h p =
    let g = get-within tokens n h in
    record {
      values = (spelling_of bytes g.0, p.values);
      puts = puts-token bytes tokens n g.0 (es ++ rest) (put (sorts_of ss) p.values under) g.1 p.puts;
    }

nothing-put : (bytes : List ℕ) (tokens : List Token) (rest : List Event) (under : List Value) → values_of bytes tokens rest ≡ Some under → Puts bytes tokens [] [] rest under
nothing-put bytes tokens rest under e = record { values = tt; puts = e }

pub typed : {n : ℕ} {ss : List Symbol} {cs : List Class} {es : List Event} (bytes : List ℕ) (tokens : List Token) (rest : List Event) (under : List Value)
    → Derives n ss cs es → n + length cs ≤ length tokens → values_of bytes tokens rest ≡ Some under → Puts bytes tokens ss es rest under
typed bytes tokens rest under nothing_left h f = nothing-put bytes tokens rest under f
typed bytes tokens rest under (by_sign e d) h f =
    let p = typed bytes tokens rest under d (omega arith) f in record { values = p.values; puts = p.puts }
typed bytes tokens rest under (by_word e d) h f =
    let p = typed bytes tokens rest under d (omega arith) f in record { values = p.values; puts = p.puts }
typed bytes tokens rest under (by_token {n = n} {t = t} {ss = ss} {es = es} e d) h f =
    after-token bytes tokens n t ss es rest under (omega arith) (typed bytes tokens rest under d (omega arith) f)
typed bytes tokens rest under (derivation.by_row {n = n} {x = x} {ss = ss} {es = es} r e d) h f =
    after-row bytes tokens n r x ss es rest under e (typed bytes tokens rest under d h f)

-- the one value of a file is a tree
pub record MakesTree (bytes : List ℕ) (tokens : List Token) (es : List Event) : Type 0 where
  pub tree : Tree
  pub makes : tree_of bytes tokens es ≡ Some tree

no-values : (bytes : List ℕ) (tokens : List Token) → values_of bytes tokens [] ≡ Some []
unfolding values_of
no-values bytes tokens = refl

-- the events of a file's derivation make a tree
pub makes-tree : (bytes : List ℕ) (tokens : List Token) (cs : List Class) (es : List Event) → length cs ≤ length tokens → DerivesFile cs es → MakesTree bytes tokens es
makes-tree bytes tokens cs es h d =
    let p = typed bytes tokens [] [] d (omega arith) (no-values bytes tokens) in
    let e : es ++ [] ≡ es = append-nil es in
    record {
      tree = p.values.0;
      makes = ap (option_and_then only_tree) (ap (values_of bytes tokens) (sym e) ∙ p.puts);
    }
