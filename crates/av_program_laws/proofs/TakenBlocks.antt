-- The blocks of loops that are taken are lines.
use Rattle.std.proofs.Common.{◌≡◌, ◌∙◌, ℕ, ◌+◌, ◌≤◌, arith, Bool, true, false, List, [], ◌∷◌, ◌++◌, append_assoc, append-nil, Some, None, map, length, refl, ap, sym, subst, inl, inr}
use Rattle.std.specs.Prelude.{◌⊎◌, ◌&&◌, ◌||◌, ◌==◌, Option, codes}
use Rattle.std.specs.Prelude.{sum as total}
use Rattle.std.proofs.lemmas.Bool.{eqb-true}
use Rattle.std.proofs.lemmas.List.Sums.{sum_by-cons}
use Rattle.av_bits.specs.declared.types.BinOp.TheVariants.{Addi}
use Rattle.av_ir.specs.declared.module.ValueId.{ValueId}
use Rattle.av_ir.specs.declared.module.OpKind.{OpKind}
use Rattle.av_ir.specs.declared.module.OpKind.TheVariants.{FuncReturn, AffineYield}
use Rattle.av_ir.specs.declared.module.Op.{Op}
use Rattle.av_ir.specs.Marks.{Made, in_turn, marked_op}
use Rattle.av_tree.specs.declared.node.Node.{Node, out-Node}
use Rattle.av_verify.specs.Parts.{Code, Row, Return, Constant, Binary, Yield, Load, Store, Scope}
use Rattle.av_verify.specs.Arith.{operands_of, constant_rules, binary_rules}
use Rattle.av_verify.specs.Accesses.{load_rules, store_rules}
use Rattle.av_verify.specs.Codes.{first_failing}
use Rattle.av_verify.specs.Elaboration.{Outcome, gives, checked, Step, step, in_order, numbered, known_with, operation_with}
use Rattle.av_verify.specs.Ends.{end_op, end_rules}
use Rattle.av_verify.specs.FirstPath.{is_named, is_bare, is_end, is_block, is_in_loop, is_plain_constant, is_plain_access}
use Rattle.av_verify.specs.Modules.{operations_in}
use Rattle.av_verify.specs.Names.{Binding, value_named, values_named}
use Rattle.av_verify.specs.Ops.{op_of, no_marks}
use Rattle.av_verify.specs.Rows.{row_of}
use Rattle.av_verify.proofs.Counts.{in_node}
use Rattle.av_verify.proofs.Walks.{operation_row}
use Rattle.av_program_laws.specs.Programs.{Line}
use Rattle.av_program_laws.specs.Walks.{Place, passed, after_line, after_lines}
use Rattle.av_program_laws.specs.Modules.{value, op, line_op, line_ops}
use Rattle.av_program_laws.specs.Sound.{AreSoundLines, visible_after}
use Rattle.av_program_laws.proofs.TakenRules.{both, same_bytes, next_gives, checked_gives, given_is}
use Rattle.av_program_laws.proofs.TakenScopes.{named_more, Matches, matches_passed}
use Rattle.av_program_laws.proofs.TakenWalks.{line_number, no_block, last_of_block, first_of_block}
use Rattle.av_program_laws.proofs.TakenLines.{flat_op, here, IsLined, constant_taken, sum_taken, load_taken, store_taken}

-- ---- steps of the walk
four : (a b c d : Bool) → a || b || c || d ≡ true → (a ≡ true) ⊎ ((b ≡ true) ⊎ ((c ≡ true) ⊎ (d ≡ true)))
four true b c d h = inl refl
four false true c d h = inr (inl refl)
four false false true d h = inr (inr (inl refl))
four false false false d h = inr (inr (inr h))

-- what a step gives, where its rules hold
pub step_taken : (P : Op → Scope → Type 0) (number : ℕ) (failing : Option Code) (one : Op) (after : Scope) (s : Step Op)
    → (failing ≡ None → P one after) → checked number failing (step one after) ≡ gives s → P s.given s.scope
step_taken P number failing one after s taken h =
    let p = checked_gives number failing (step one after) s h in
    subst (λ (x : Step Op). P x.given x.scope) (given_is (record { given = one; scope = after }) s p.1) (taken p.0)

pub made_first : (one : Op) (ops : List Op) (loops between behind : ℕ) (a : Op) (as' : List Op)
    → marked_op one loops ≡ record { made = a; loops = between }
    → in_turn (map marked_op ops) between ≡ record { made = as'; loops = behind }
    → in_turn (map marked_op (one ∷ ops)) loops ≡ record { made = a ∷ as'; loops = behind }
unfolding in_turn
made_first one ops loops between behind a as' h k =
    ap (λ (first : Made Op). let others = in_turn (map marked_op ops) first.loops in let m : Made (List Op) = record { made = first.made ∷ others.made; loops = others.loops } in m) h
    ∙ ap (λ (others : Made (List Op)). let m : Made (List Op) = record { made = a ∷ others.made; loops = others.loops } in m) k

pub made_none : (loops : ℕ) → in_turn (map marked_op []) loops ≡ record { made = []; loops = loops }
unfolding in_turn
made_none loops = refl

module _ (loop : ℕ → Scope → Node → Outcome (Step Op)) (is_last : Bool) (scope : Scope) (node : Node) (s : Step Op)
    (given : operation_with loop is_last scope node ≡ gives s) where
  pub row_given : (name : List ℕ) (row : Row) → is_named name node ≡ true → row_of name ≡ Some row
      → known_with loop row (length scope.owners) is_last (numbered scope) node ≡ gives s
  row_given name row named is =
      sym (operation_row loop is_last scope node (length scope.owners) (scope.owners ++ 0 ∷ []) row (ap row_of (same_bytes (out-Node node).name name named) ∙ is) refl refl)
      ∙ given

-- ---- ends
-- an operation ends a region, and gives nothing
pub record IsEnded (kind : OpKind) (scope after : Scope) (visible : List ℕ) (place : Place) (one : Op) : Type 0 where
  pub made : (loops : ℕ) → marked_op one loops ≡ record { made = op place.number kind [] [] [] no_marks; loops = loops }
  pub behind : Matches after visible (passed place)
  pub same : after.names ≡ scope.names

pub no_operands : {A : Type 0} (xs : List A) → (length xs == 0) ≡ true → xs ≡ []
no_operands [] h = refl
no_operands (x ∷ xs) h = let e : length (x ∷ xs) ≡ 0 = eqb-true (length (x ∷ xs)) 0 h in absurd (omega (arith, e))

module _ (scope : Scope) (visible : List ℕ) (place : Place) (h : Matches scope visible place) (number : ℕ) (counted : number ≡ length scope.owners) where
  at_place : number ≡ place.number
  at_place = here 0 scope visible place number h counted

  yielded : (operands : List ValueId) → operands ≡ [] → IsEnded AffineYield scope (numbered scope) visible place (op_of number AffineYield operands [] [] no_marks)
  yielded operands are = record {
    made = λ loops. flat_op AffineYield no_marks loops refl number place.number operands [] [] [] at_place are refl;
    behind = matches_passed scope visible place h;
    same = refl;
  }

  returned : (operands : List ValueId) → operands ≡ [] → IsEnded FuncReturn scope (numbered scope) visible place (op_of number FuncReturn operands [] [] no_marks)
  returned operands are = record {
    made = λ loops. flat_op FuncReturn no_marks loops refl number place.number operands [] [] [] at_place are refl;
    behind = matches_passed scope visible place h;
    same = refl;
  }

module _ (loop : ℕ → Scope → Node → Outcome (Step Op)) (is_last : Bool) (scope : Scope) (visible : List ℕ) (place : Place) (h : Matches scope visible place)
    (node : Node) (s : Step Op) (given : operation_with loop is_last scope node ≡ gives s) where
  none_of : (name : List ℕ) → is_end name node ≡ true → operands_of (numbered scope) node ≡ []
  none_of name is = ap (values_named scope.names) (no_operands (out-Node node).operands (both _ _ is).1)

  named_of : (name : List ℕ) → is_end name node ≡ true → is_named name node ≡ true
  named_of name is = (both _ _ (both _ _ (both _ _ is).0).0).0

  pub yield_taken : is_end (codes "affine.yield") node ≡ true → IsEnded AffineYield scope s.scope visible place s.given
  unfolding known_with
  yield_taken is =
      step_taken (λ one after. IsEnded AffineYield scope after visible place one) (length scope.owners) (first_failing (end_rules Yield is_last (numbered scope) node))
      (end_op Yield (numbered scope) node (length scope.owners)) (numbered scope) s
      (λ none. yielded scope visible place h (length scope.owners) refl (operands_of (numbered scope) node) (none_of (codes "affine.yield") is))
      (row_given loop is_last scope node s given (codes "affine.yield") Yield (named_of (codes "affine.yield") is) refl)

  pub return_taken : is_end (codes "func.return") node ≡ true → IsEnded FuncReturn scope s.scope visible place s.given
  unfolding known_with
  return_taken is =
      step_taken (λ one after. IsEnded FuncReturn scope after visible place one) (length scope.owners) (first_failing (end_rules Return is_last (numbered scope) node))
      (end_op Return (numbered scope) node (length scope.owners)) (numbered scope) s
      (λ none. returned scope visible place h (length scope.owners) refl (operands_of (numbered scope) node) (none_of (codes "func.return") is))
      (row_given loop is_last scope node s given (codes "func.return") Return (named_of (codes "func.return") is) refl)

  -- ---- lines
  module _ (counter : ℕ) (variable : List ℕ) (counted_by : value_named variable scope.names ≡ Some (value counter)) where
    abbrev Lined : Op → Scope → Type 0
    Lined one after = IsLined counter scope after visible place one

    pub constant_lined : is_plain_constant node ≡ true → IsLined counter scope s.scope visible place s.given
    unfolding known_with
    constant_lined is =
        step_taken Lined (length scope.owners) (first_failing (constant_rules (numbered scope) node)) _ _ s
        (constant_taken counter scope visible place (length scope.owners) h refl node is)
        (row_given loop is_last scope node s given (codes "arith.constant") Constant (both _ _ (both _ _ is).0).0 refl)

    sum_lined : is_bare (codes "arith.addi") node ≡ true → IsLined counter scope s.scope visible place s.given
    unfolding known_with
    sum_lined is =
        step_taken Lined (length scope.owners) (first_failing (binary_rules Addi (numbered scope) node)) _ _ s
        (sum_taken counter scope visible place (length scope.owners) h refl node)
        (row_given loop is_last scope node s given (codes "arith.addi") (Binary Addi) (both _ _ (both _ _ is).0).0 refl)

    load_lined : is_named (codes "affine.load") node && is_plain_access Load 1 variable node ≡ true → IsLined counter scope s.scope visible place s.given
    unfolding known_with
    load_lined is =
        step_taken Lined (length scope.owners) (first_failing (load_rules (numbered scope) node)) _ _ s
        (load_taken counter scope visible place (length scope.owners) h refl variable counted_by node (both _ _ is).1)
        (row_given loop is_last scope node s given (codes "affine.load") Load (both _ _ is).0 refl)

    store_lined : is_named (codes "affine.store") node && is_plain_access Store 2 variable node ≡ true → IsLined counter scope s.scope visible place s.given
    unfolding known_with
    store_lined is =
        step_taken Lined (length scope.owners) (first_failing (store_rules (numbered scope) node)) _ _ s
        (store_taken counter scope visible place (length scope.owners) h refl variable counted_by node (both _ _ is).1)
        (row_given loop is_last scope node s given (codes "affine.store") Store (both _ _ is).0 refl)

    pub line_taken : is_in_loop variable node ≡ true → IsLined counter scope s.scope visible place s.given
    unfolding is_in_loop
    line_taken is =
        elim (four (is_plain_constant node) (is_bare (codes "arith.addi") node) (is_named (codes "affine.load") node && is_plain_access Load 1 variable node)
        (is_named (codes "affine.store") node && is_plain_access Store 2 variable node) is) [
          | inl a ↦ constant_lined a
          | inr others ↦ elim others [
            | inl b ↦ sum_lined b
            | inr more ↦ elim more [ inl c ↦ load_lined c | inr d ↦ store_lined d ]
          ]
        ]

-- ---- blocks
pub some_operations : (node : Node) → 1 ≤ operations_in node
some_operations node = omega (arith, in_node node)

-- operations of a loop's block are those of lines and an end
pub record AreLined (counter : ℕ) (scope after : Scope) (visible : List ℕ) (place : Place) (nodes : List Node) (ops : List Op) : Type 0 where
  pub lines : List Line
  pub sound : AreSoundLines visible place lines
  pub made : (loops : ℕ) → in_turn (map marked_op ops) loops ≡ record { made = line_ops counter lines place; loops = loops }
  pub seen : List ℕ
  pub behind : Matches after seen (passed (after_lines lines place))
  pub more : List Binding
  pub longer : after.names ≡ scope.names ++ more
  pub few : (after_lines lines place).number + 1 ≤ place.number + total (map operations_in nodes)

module _ (loop : ℕ → Scope → Node → Outcome (Step Op)) (counter : ℕ) (variable : List ℕ) where
  ends_lined : (scope after : Scope) (visible : List ℕ) (place : Place) (node : Node) (one : Op)
      → IsEnded AffineYield scope after visible place one → AreLined counter scope after visible place (node ∷ []) (one ∷ [])
  unfolding AreSoundLines line_ops after_lines
  ends_lined scope after visible place node one h = record {
    lines = [];
    sound = tt;
    made = λ loops. made_first one [] loops loops loops (op place.number AffineYield [] [] [] no_marks) [] (h.made loops) (made_none loops);
    seen = visible;
    behind = h.behind;
    more = [];
    longer = h.same ∙ sym (append-nil scope.names);
    few = omega (arith, some_operations node, sum_by-cons (λ (n : ℕ). n) (operations_in node) []);
  }

  goes_lined : (scope between after : Scope) (visible : List ℕ) (place : Place) (node : Node) (nodes : List Node) (one : Op) (ops : List Op)
      → (l : IsLined counter scope between visible place one)
      → AreLined counter between after (visible_after l.line place visible) (after_line l.line place) nodes ops
      → AreLined counter scope after visible place (node ∷ nodes) (one ∷ ops)
  unfolding AreSoundLines line_ops after_lines
  goes_lined scope between after visible place node nodes one ops l h = record {
    lines = l.line ∷ h.lines;
    sound = (l.sound, h.sound);
    made = λ loops. made_first one ops loops loops loops (line_op counter l.line place) (line_ops counter h.lines (after_line l.line place)) (l.made loops) (h.made loops);
    seen = h.seen;
    behind = h.behind;
    more = l.more ++ h.more;
    longer = h.longer ∙ ap (λ ns. ns ++ h.more) l.longer ∙ append_assoc scope.names l.more h.more;
    few = omega (arith, h.few, line_number l.line place, some_operations node, sum_by-cons (λ (n : ℕ). n) (operations_in node) (map operations_in nodes));
  }

  -- what a block gives, after what is done
  pub record Lines (done : List Op) (scope : Scope) (visible : List ℕ) (place : Place) (nodes : List Node) (s : Step (List Op)) : Type 0 where
    pub ops : List Op
    pub given : s.given ≡ done ++ ops
    pub lined : AreLined counter scope s.scope visible place nodes ops

  pub lines_taken : (nodes : List Node) (done : List Op) (scope : Scope) (visible : List ℕ) (place : Place) (s : Step (List Op))
      → Matches scope visible place → value_named variable scope.names ≡ Some (value counter)
      → is_block (is_in_loop variable) (is_end (codes "affine.yield")) nodes ≡ true
      → in_order (operation_with loop) done scope nodes ≡ gives s → Lines done scope visible place nodes s
  lines_taken [] done scope visible place s h counted block given =
      absurd (no_block (is_in_loop variable) (is_end (codes "affine.yield")) block)
  lines_taken (node ∷ []) done scope visible place s h counted block given =
      let n = next_gives (operation_with loop true scope node) _ s given in
      let e = yield_taken loop true scope visible place h node n.0 n.1 (last_of_block (is_in_loop variable) (is_end (codes "affine.yield")) node block) in
      subst (λ (x : Step (List Op)). Lines done scope visible place (node ∷ []) x)
      (given_is (record { given = done ++ n.0.given ∷ []; scope = n.0.scope }) s n.2)
      (record { ops = n.0.given ∷ []; given = refl; lined = ends_lined scope n.0.scope visible place node n.0.given e })
  lines_taken (node ∷ other ∷ nodes) done scope visible place s h counted block given =
      let b = first_of_block (is_in_loop variable) (is_end (codes "affine.yield")) node other nodes block in
      let n = next_gives (operation_with loop (length (node ∷ other ∷ nodes) == 1) scope node) _ s given in
      let l = line_taken loop (length (node ∷ other ∷ nodes) == 1) scope visible place h node n.0 n.1 counter variable counted b.0 in
      let still : value_named variable n.0.scope.names ≡ Some (value counter) =
      subst (λ (ns : List Binding). value_named variable ns ≡ Some (value counter)) (sym l.longer) (named_more scope.names l.more variable (value counter) counted) in
      let rest = lines_taken (other ∷ nodes) (done ++ n.0.given ∷ []) n.0.scope (visible_after l.line place visible) (after_line l.line place) s l.behind still b.1 n.2 in
      record {
        ops = n.0.given ∷ rest.ops;
        given = rest.given ∙ append_assoc done (n.0.given ∷ []) rest.ops;
        lined = goes_lined scope n.0.scope s.scope visible place node (other ∷ nodes) n.0.given rest.ops l rest.lined;
      }
