-- The operations of a loop that are taken are those of lines.
use Rattle.std.proofs.Common.{◌≡◌, ◌∙◌, ℕ, ◌+◌, ◌<◌, ◌≤◌, ◌^◌, arith, true, false, List, [], ◌∷◌, ◌++◌, Some, None, map, length, drop, refl, ap, sym, subst}
use Rattle.std.specs.Prelude.{ℤ, pos, not, ◌==◌, nat_le, Option, is_some, unwrap_or, slice_get, codes}
use Rattle.std.specs.Option.{option_and_then, option_map_or}
use Rattle.std.proofs.lemmas.Bool.{eqb-true, leb-true}
use Rattle.std.proofs.lemmas.List.{length-replicate, append-nil}
use Rattle.std.proofs.lemmas.Option.{get_or_from_slice_get}
use Rattle.av_bits.specs.declared.types.Width.{Width}
use Rattle.av_bits.specs.declared.types.Width.TheVariants.{W1, W8, W16, W32, W64}
use Rattle.av_bits.specs.declared.types.BinOp.TheVariants.{Addi}
use Rattle.av_bits.specs.Pattern.{bits_of}
use Rattle.av_bits.proofs.Values.{IsPattern-pattern_of}
use Rattle.av_ir.specs.Values.{width_of}
use Rattle.av_ir.specs.declared.ty.Elem.{Elem}
use Rattle.av_ir.specs.declared.ty.Elem.TheVariants.{Int, Index}
use Rattle.av_ir.specs.declared.ty.Extent.{Extent}
use Rattle.av_ir.specs.declared.ty.Ty.{Ty}
use Rattle.av_ir.specs.declared.ty.Ty.TheVariants as ty
use Rattle.av_ir.specs.declared.module.ValueId.{ValueId}
use Rattle.av_ir.specs.declared.module.Const.TheVariants.{Splat}
use Rattle.av_ir.specs.declared.module.OpKind.{OpKind}
use Rattle.av_ir.specs.declared.module.OpKind.TheVariants.{ArithConstant, ArithBinary, AffineLoad, AffineStore}
use Rattle.av_ir.specs.declared.module.Marks.{Marks}
use Rattle.av_ir.specs.declared.module.Op.{Op, roll-Op}
use Rattle.av_ir.specs.Marks.{Made, in_turn, own_loops, marked_op}
use Rattle.av_ir.specs.Marks.{marks_of as made_marks}
use Rattle.av_ir.proofs.MarkedLevels.{marked_op-roll}
use Rattle.av_tree.specs.declared.attribute.Attr.{Attr}
use Rattle.av_tree.specs.declared.attribute.Attr.TheVariants.{Number}
use Rattle.av_tree.specs.declared.node.Node.{Node, out-Node}
use Rattle.av_tree.specs.declared.written.MapText.{MapText}
use Rattle.av_tree.specs.declared.written.TypeText.{Scalar}
use Rattle.av_verify.specs.Parts.{MapUse, Role, Plain, Scope, Load, Store}
use Rattle.av_verify.specs.Accesses.{operand_type, is_buffer, elem_of_buffer, access_map, normal_of, after_first, load_rules, load_op, loaded_elem, stores_elem, store_rules, store_op}
use Rattle.av_verify.specs.Arith.{written_result, value_agrees, constant_elem, constant_rules, constant_op, constant_pattern, operands_of, scalar_at, first_elem, left_elem, alike, are_alike, binary_rules, binary_op}
use Rattle.av_verify.specs.Codes.{first_failing}
use Rattle.av_verify.specs.Elaboration.{numbered}
use Rattle.av_verify.specs.Entries.{entry_of, number_of, marks_of}
use Rattle.av_verify.specs.Expressions.{is_affine}
use Rattle.av_verify.specs.FirstPath.{is_plain_number, is_plain_constant, is_plain_access, has_plain_subscript}
use Rattle.av_verify.specs.Names.{Binding, binds, value_named, is_visible, are_visible, value_or_first, values_named}
use Rattle.av_verify.specs.Ops.{op_of, no_marks}
use Rattle.av_verify.specs.Results.{result_name}
use Rattle.av_verify.specs.Scopes.{defined, next_value}
use Rattle.av_verify.specs.Types.{is_elem, scalar_of}
use Rattle.av_program_laws.specs.Programs.{Line, constant, sum, load, store}
use Rattle.av_program_laws.specs.Walks.{Place, element, buffer, next, with_result, after_line}
use Rattle.av_program_laws.specs.Modules.{value, op, subscript_map, subscript_values, line_op}
use Rattle.av_program_laws.specs.Sound.{IsAmong, Stands, IsSoundLine, visible_after}
use Rattle.av_program_laws.proofs.TakenRules.{both, denied, found, same_bytes, all_hold}
use Rattle.av_program_laws.proofs.TakenScopes.{among_visible, bound_fresh, IsPlain, plain_at, Matches, matches_result, matches_passed}
use Rattle.av_program_laws.proofs.TakenSubscripts.{IsPlainMap, subscript_taken}

-- ---- operations without regions
module _ (kind : OpKind) (marks : Marks) (loops : ℕ) (none : own_loops kind ≡ 0) where
  flat_marked : (number : ℕ) (operands results : List ValueId)
      → marked_op (op_of number kind operands results [] marks) loops
      ≡ record {
        made = roll-Op (record { number = number; kind = kind; operands = operands; results = results; regions = []; marks = made_marks kind loops number marks.distinct });
        loops = loops;
      }
  unfolding op_of in_turn
  flat_marked number operands results =
      let counted : loops + own_loops kind ≡ loops = omega (arith, none) in
      marked_op-roll (record { number = number; kind = kind; operands = operands; results = results; regions = []; marks = marks }) loops
      ∙ ap (λ (n : ℕ). let m : Made Op = record {
        made = roll-Op (record { number = number; kind = kind; operands = operands; results = results; regions = []; marks = made_marks kind loops number marks.distinct });
        loops = n;
      } in m) counted

  pub flat_op : (number n : ℕ) (operands results : List ValueId) (ins outs : List ℕ) → number ≡ n → operands ≡ map value ins → results ≡ map value outs
      → marked_op (op_of number kind operands results [] marks) loops ≡ record { made = op n kind ins outs [] (made_marks kind loops n marks.distinct); loops = loops }
  unfolding op
  flat_op number n operands results ins outs a b c =
      ap (λ k. marked_op (op_of k kind operands results [] marks) loops) a
      ∙ ap (λ l. marked_op (op_of n kind l results [] marks) loops) b
      ∙ ap (λ l. marked_op (op_of n kind (map value ins) l [] marks) loops) c
      ∙ flat_marked n (map value ins) (map value outs)

-- ---- types
same_width : (v w : Width) → (bits_of v == bits_of w) ≡ true → v ≡ w
same_width W1 W1 h = refl
same_width W8 W8 h = refl
same_width W16 W16 h = refl
same_width W32 W32 h = refl
same_width W64 W64 h = refl
same_width _ _ h = absurd (cc)

pub same_elem : (a b : Elem) → is_elem a b ≡ true → a ≡ b
same_elem Index Index h = refl
same_elem (Int v) (Int w) h = ap (λ x. Int x) (same_width v w h)
same_elem Index (Int w) h = absurd (cc)
same_elem (Int v) Index h = absurd (cc)

plain_number : (entry : Option Attr) → is_plain_number entry ≡ true → (z : ℤ) × (entry ≡ Some (Number z (Scalar (codes "i32"))))
plain_number (Some (Number z (Scalar name))) h = (z, ap (λ n. Some (Number z (Scalar n))) (same_bytes name (codes "i32") h))
plain_number _ h = absurd (cc)

elem_i32 : (written : Option Elem) (z : ℤ) → value_agrees written (Some (Number z (Scalar (codes "i32")))) ≡ true → unwrap_or written Index ≡ Int W32
elem_i32 None z h = absurd (cc)
elem_i32 (Some elem) z h = same_elem elem (Int W32) h

alike_is : (a b : Option Elem) → alike a b ≡ true → (elem : Elem) × (a ≡ Some elem) × (b ≡ Some elem)
alike_is (Some a) (Some b) h = (b, ap (λ x. Some x) (same_elem a b h), refl)
alike_is (Some a) None h = absurd (cc)
alike_is None b h = absurd (cc)

scalar_is : (o : Option Ty) (elem : Elem) → option_and_then scalar_of o ≡ Some elem → o ≡ Some (ty.Scalar elem)
scalar_is None elem h = absurd (cc)
scalar_is (Some (ty.Scalar e)) elem h = let same : e ≡ elem = cc in ap (λ x. Some (ty.Scalar x)) same
scalar_is (Some (ty.MemRef extents e)) elem h = absurd (cc)
scalar_is (Some (ty.Vector shape e)) elem h = absurd (cc)

buffer_is : (o : Option Ty) → is_buffer o ≡ true → (extents : List Extent) × (elem : Elem) × (o ≡ Some (ty.MemRef extents elem))
buffer_is None h = absurd (cc)
buffer_is (Some (ty.Scalar e)) h = absurd (cc)
buffer_is (Some (ty.MemRef extents e)) h = (extents, e, refl)
buffer_is (Some (ty.Vector shape e)) h = absurd (cc)

stored_elem : (elem : Elem) (o : Option Elem) → option_map_or (is_elem elem) o false ≡ true → o ≡ Some elem
stored_elem elem None h = absurd (cc)
stored_elem elem (Some e) h = ap (λ x. Some x) (sym (same_elem elem e h))

-- ---- operands
pair_of : {A : Type 0} (xs : List A) → (length xs == 2) ≡ true → (a : A) × (b : A) × (xs ≡ a ∷ b ∷ [])
pair_of [] h = let e = eqb-true 0 2 h in absurd (omega (arith, e))
pair_of (a ∷ []) h = let e = eqb-true (length (a ∷ [])) 2 h in absurd (omega (arith, e))
pair_of (a ∷ b ∷ []) h = (a, b, refl)
pair_of (a ∷ b ∷ c ∷ cs) h = let e = eqb-true (length (a ∷ b ∷ c ∷ cs)) 2 h in absurd (omega (arith, e))

one_of : {A : Type 0} (xs : List A) → not (length xs == 0) ≡ true → (a : A) × (rest : List A) × (xs ≡ a ∷ rest)
one_of [] h = absurd (cc)
one_of (a ∷ rest) h = (a, rest, refl)

two_of : {A : Type 0} (xs : List A) → nat_le 2 (length xs) ≡ true → (a : A) × (b : A) × (rest : List A) × (xs ≡ a ∷ b ∷ rest)
two_of [] h = let e : 2 ≤ 0 = leb-true 2 0 h in absurd (omega (arith, e))
two_of (a ∷ []) h = let e = leb-true 2 (length (a ∷ [])) h in absurd (omega (arith, e))
two_of (a ∷ b ∷ rest) h = (a, b, rest, refl)

-- ---- lines
-- an operation is a line's, but for its marks
pub record IsLined (counter : ℕ) (scope after : Scope) (visible : List ℕ) (place : Place) (one : Op) : Type 0 where
  pub line : Line
  pub sound : IsSoundLine visible place line
  pub made : (loops : ℕ) → marked_op one loops ≡ record { made = line_op counter line place; loops = loops }
  pub behind : Matches after (visible_after line place visible) (after_line line place)
  pub more : List Binding
  pub longer : after.names ≡ scope.names ++ more

module _ (counter : ℕ) (scope : Scope) (visible : List ℕ) (place : Place) (number : ℕ) (h : Matches scope visible place) (counted : number ≡ length scope.owners) where
  pub here : number ≡ place.number
  here = counted ∙ ap length h.owners ∙ length-replicate place.number 0

  pub next_here : next_value (numbered scope) ∷ [] ≡ map value (next place ∷ [])
  next_here = ap (λ (l : List Ty). value (length l) ∷ []) h.values

  -- a visible value of a type
  pub stands : (name : List ℕ) (t : Ty) → is_visible scope.names name ≡ true → slice_get scope.values (value_or_first scope.names name).0 ≡ Some t
      → Stands visible place (value_or_first scope.names name).0 t
  stands name t seen typed =
      let v = (value_or_first scope.names name).0 in
      let among = subst (λ (l : List ℕ). IsAmong l v) h.names (among_visible scope.names name seen) in
      let typed_here : slice_get place.types v ≡ Some t = subst (λ (l : List Ty). slice_get l v ≡ Some t) h.values typed in
      (among, h.below v among, get_or_from_slice_get place.types v t (ty.Scalar Index) typed_here)

  -- a visible buffer
  pub stands_buffer : (name : List ℕ) → is_visible scope.names name ≡ true → is_buffer (slice_get scope.values (value_or_first scope.names name).0) ≡ true
      → (size : ℕ) × (slice_get scope.values (value_or_first scope.names name).0 ≡ Some (buffer size)) × Stands visible place (value_or_first scope.names name).0 (buffer size)
  stands_buffer name seen buffered =
      let v = (value_or_first scope.names name).0 in
      let b = buffer_is (slice_get scope.values v) buffered in
      let typed : slice_get place.types v ≡ Some (ty.MemRef b.0 b.1) = subst (λ (l : List Ty). slice_get l v ≡ Some (ty.MemRef b.0 b.1)) h.values b.2 in
      let plain : IsPlain (ty.MemRef b.0 b.1) = plain_at place.types v (ty.MemRef b.0 b.1) h.plain typed in
      let whole : slice_get scope.values v ≡ Some (buffer plain.0) = b.2 ∙ ap (λ t. Some t) plain.1 in
      (plain.0, whole, stands name (buffer plain.0) seen whole)

  result_lined : (line : Line) (name : List ℕ) (t : Ty) (role : Role) (one : Op) → is_visible scope.names name ≡ false → IsPlain t
      → IsSoundLine visible place line → after_line line place ≡ with_result t place → visible_after line place visible ≡ visible ++ next place ∷ []
      → ((loops : ℕ) → marked_op one loops ≡ record { made = line_op counter line place; loops = loops })
      → IsLined counter scope (defined (numbered scope) name t role) visible place one
  result_lined line name t role one fresh plain sound after seen made = record {
    line = line;
    sound = sound;
    made = made;
    behind =
        subst (λ (p : Place). Matches (defined (numbered scope) name t role) (visible_after line place visible) p) (sym after)
        (subst (λ (l : List ℕ). Matches (defined (numbered scope) name t role) l (with_result t place)) (sym seen)
        (matches_result scope visible place h name t role fresh plain));
    more = binds name (next_value scope) ∷ [];
    longer = bound_fresh scope.names name (next_value scope) fresh;
  }

  -- ---- constants
  constant_line : (name : List ℕ) (elem : Elem) (role : Role) (pattern : ℕ) → is_visible scope.names name ≡ false → elem ≡ Int W32 → pattern < 2 ^ 32
      → IsLined counter scope (defined (numbered scope) name (ty.Scalar elem) role) visible place
      (op_of number (ArithConstant (Splat pattern)) [] (next_value (numbered scope) ∷ []) [] no_marks)
  unfolding line_op after_line IsSoundLine
  constant_line name elem role pattern fresh is below =
      subst (λ (e : Elem). IsLined counter scope (defined (numbered scope) name (ty.Scalar e) role) visible place
      (op_of number (ArithConstant (Splat pattern)) [] (next_value (numbered scope) ∷ []) [] no_marks)) (sym is)
      (result_lined (constant pattern) name element role
      (op_of number (ArithConstant (Splat pattern)) [] (next_value (numbered scope) ∷ []) [] no_marks) fresh tt below refl refl
      (λ loops. flat_op (ArithConstant (Splat pattern)) no_marks loops refl number place.number [] (next_value (numbered scope) ∷ []) [] (next place ∷ []) here refl next_here))

  -- a constant has a new name, the type i32, and a pattern of it
  pub record IsConstant (node : Node) : Type 0 where
    pub fresh : is_visible scope.names (result_name node) ≡ false
    pub typed : constant_elem node ≡ Int W32
    pub below : constant_pattern node < 2 ^ 32

  pub constant_is : (node : Node) → is_plain_constant node ≡ true → first_failing (constant_rules (numbered scope) node) ≡ None → IsConstant node
  constant_is node plain none =
      let rules = all_hold (constant_rules (numbered scope) node) none in
      let entry = plain_number (entry_of (codes "value") node) (both _ _ plain).1 in
      let agrees = (both _ _ rules.1.1.1.0).0 in
      let typed : constant_elem node ≡ Int W32 =
      elem_i32 (written_result (out-Node node).out_types) entry.0 (subst (λ (o : Option Attr). value_agrees (written_result (out-Node node).out_types) o ≡ true) entry.1 agrees) in
      record {
        fresh = denied _ rules.1.1.0;
        typed = typed;
        below =
            subst (λ (e : Elem). constant_pattern node < 2 ^ bits_of (width_of e)) typed
            (IsPattern-pattern_of (bits_of (width_of (constant_elem node))) (unwrap_or (number_of (entry_of (codes "value") node)) (pos 0)));
      }

  pub constant_taken : (node : Node) → is_plain_constant node ≡ true → first_failing (constant_rules (numbered scope) node) ≡ None
      → IsLined counter scope (defined (numbered scope) (result_name node) (ty.Scalar (constant_elem node)) Plain) visible place (constant_op (numbered scope) node number)
  constant_taken node plain none =
      let c = constant_is node plain none in
      constant_line (result_name node) (constant_elem node) Plain (constant_pattern node) c.fresh c.typed c.below

  -- ---- sums
  sum_line : (name : List ℕ) (role : Role) (l r : ValueId) (elem left : Elem) (operands : List ValueId) → is_visible scope.names name ≡ false
      → operands ≡ l ∷ r ∷ [] → left ≡ elem → Stands visible place l.0 (ty.Scalar elem) → Stands visible place r.0 (ty.Scalar elem)
      → IsLined counter scope (defined (numbered scope) name (ty.Scalar left) role) visible place
      (op_of number (ArithBinary Addi) operands (next_value (numbered scope) ∷ []) [] no_marks)
  unfolding line_op after_line IsSoundLine
  sum_line name role l r elem left operands fresh are is first second =
      subst (λ (e : Elem). IsLined counter scope (defined (numbered scope) name (ty.Scalar e) role) visible place
      (op_of number (ArithBinary Addi) operands (next_value (numbered scope) ∷ []) [] no_marks)) (sym is)
      (result_lined (sum l.0 r.0) name (ty.Scalar elem) role
      (op_of number (ArithBinary Addi) operands (next_value (numbered scope) ∷ []) [] no_marks) fresh tt (elem, first, second)
      (ap (λ t. with_result t place) first.2) refl
      (λ loops. flat_op (ArithBinary Addi) no_marks loops refl number place.number operands (next_value (numbered scope) ∷ []) (l.0 ∷ r.0 ∷ []) (next place ∷ []) here are next_here))

  pub sum_taken : (node : Node) → first_failing (binary_rules Addi (numbered scope) node) ≡ None
      → IsLined counter scope (defined (numbered scope) (result_name node) (ty.Scalar (left_elem (numbered scope) node)) Plain) visible place (binary_op Addi (numbered scope) node number)
  sum_taken node none =
      let rules = all_hold (binary_rules Addi (numbered scope) node) none in
      let names = pair_of (out-Node node).operands rules.0 in
      let l = value_or_first scope.names names.0 in
      let r = value_or_first scope.names names.1 in
      let are : operands_of (numbered scope) node ≡ l ∷ r ∷ [] = ap (values_named scope.names) names.2 in
      let seen : are_visible scope.names (names.0 ∷ names.1 ∷ []) ≡ true = subst (λ (ns : List (List ℕ)). are_visible scope.names ns ≡ true) names.2 rules.1.1.0 in
      let alike_here : are_alike scope.values (l ∷ r ∷ []) ≡ true =
      subst (λ (vs : List ValueId). are_alike scope.values vs ≡ true) are (both _ _ (both _ _ rules.1.1.1.1.0).0).0 in
      let same = alike_is (scalar_at scope.values l) (scalar_at scope.values r) alike_here in
      let left : left_elem (numbered scope) node ≡ same.0 = ap (first_elem scope.values) are ∙ ap (λ o. unwrap_or o Index) same.1 in
      sum_line (result_name node) Plain l r same.0 (left_elem (numbered scope) node) (operands_of (numbered scope) node) (denied _ rules.1.1.1.0) are left
      (stands names.0 (ty.Scalar same.0) (both _ _ seen).0 (scalar_is _ same.0 same.1))
      (stands names.1 (ty.Scalar same.0) (both _ _ (both _ _ seen).1).0 (scalar_is _ same.0 same.2))

  -- ---- loads
  load_line : (name : List ℕ) (role : Role) (from : ValueId) (size : ℕ) (elem : Elem) (marks : Marks) (m : MapText) (values : List ValueId) (used : MapUse)
      → is_visible scope.names name ≡ false → elem ≡ Int W32 → Stands visible place from.0 (buffer size) → marks.distinct ≡ false
      → (plain : IsPlainMap counter m values)
      → used ≡ record { map = subscript_map plain.at; operands = from ∷ map value (subscript_values counter plain.at) }
      → IsLined counter scope (defined (numbered scope) name (ty.Scalar elem) role) visible place
      (op_of number (AffineLoad used.map) used.operands (next_value (numbered scope) ∷ []) [] marks)
  unfolding line_op after_line IsSoundLine
  load_line name role from size elem marks m values used fresh is first plainly plain are =
      let at = plain.at in
      let operands = from ∷ map value (subscript_values counter at) in
      let one = op_of number (AffineLoad (subscript_map at)) operands (next_value (numbered scope) ∷ []) [] marks in
      let lined : IsLined counter scope (defined (numbered scope) name element role) visible place one =
      result_lined (load from.0 at) name element role one fresh tt ((size, first), plain.sound) refl refl
      (λ loops.
      flat_op (AffineLoad (subscript_map at)) marks loops refl number place.number operands (next_value (numbered scope) ∷ [])
      (from.0 ∷ subscript_values counter at) (next place ∷ []) here refl next_here
      ∙ ap (λ b. let m : Made Op = record {
        made = op place.number (AffineLoad (subscript_map at)) (from.0 ∷ subscript_values counter at) (next place ∷ []) [] (made_marks (AffineLoad (subscript_map at)) loops place.number b);
        loops = loops;
      } in m) plainly) in
      subst (λ (e : Elem). IsLined counter scope (defined (numbered scope) name (ty.Scalar e) role) visible place
      (op_of number (AffineLoad used.map) used.operands (next_value (numbered scope) ∷ []) [] marks)) (sym is)
      (subst (λ (u : MapUse). IsLined counter scope (defined (numbered scope) name element role) visible place
      (op_of number (AffineLoad u.map) u.operands (next_value (numbered scope) ∷ []) [] marks)) (sym are) lined)

  module _ (variable : List ℕ) (counted_by : value_named variable scope.names ≡ Some (value counter)) where
    -- the map of an access, in its normal form behind its first operands
    map_taken : (node : Node) (first : ℕ) (names : List (List ℕ)) → drop first (out-Node node).operands ≡ names
        → has_plain_subscript (drop first (out-Node node).operands) variable (access_map node) ≡ true → is_some (access_map node) ≡ true → is_affine (access_map node) ≡ true
        → (m : MapText) × (plain : IsPlainMap counter m (values_named scope.names names))
        × (normal_of (access_map node) (values_named scope.names names) ≡ record { map = subscript_map plain.at; operands = map value (subscript_values counter plain.at) })
    map_taken node first names are plain some affine =
        let m = found (access_map node) some in
        let plain_here : has_plain_subscript names variable (Some m.0) ≡ true =
        subst (λ (o : Option MapText). has_plain_subscript names variable o ≡ true) m.1
        (subst (λ (ns : List (List ℕ)). has_plain_subscript ns variable (access_map node) ≡ true) are plain) in
        let affine_here : is_affine (Some m.0) ≡ true = subst (λ (o : Option MapText). is_affine o ≡ true) m.1 affine in
        let taken = subscript_taken counter scope.names variable counted_by m.0 names affine_here plain_here in
        (m.0, taken, ap (λ o. normal_of o (values_named scope.names names)) m.1 ∙ taken.normal)

    pub load_taken : (node : Node) → is_plain_access Load 1 variable node ≡ true → first_failing (load_rules (numbered scope) node) ≡ None
        → IsLined counter scope (defined (numbered scope) (result_name node) (ty.Scalar (loaded_elem (numbered scope) node)) Plain) visible place (load_op (numbered scope) node number)
    load_taken node plain none =
        let rules = all_hold (load_rules (numbered scope) node) none in
        let names = one_of (out-Node node).operands rules.0 in
        let v = value_or_first scope.names names.0 in
        let rest = values_named scope.names names.1 in
        let are : operands_of (numbered scope) node ≡ v ∷ rest = ap (values_named scope.names) names.2 in
        let seen : are_visible scope.names (names.0 ∷ names.1) ≡ true = subst (λ (ns : List (List ℕ)). are_visible scope.names ns ≡ true) names.2 rules.1.1.0 in
        let buffered : is_buffer (slice_get scope.values v.0) ≡ true =
        subst (λ (vs : List ValueId). is_buffer (operand_type scope.values vs 0) ≡ true) are (both _ _ (both _ _ rules.1.1.1.1.0).0).0 in
        let b = stands_buffer names.0 (both _ _ seen).0 buffered in
        let elem : loaded_elem (numbered scope) node ≡ Int W32 =
        ap (λ (vs : List ValueId). elem_of_buffer (operand_type scope.values vs 0)) are ∙ ap elem_of_buffer b.1 in
        let taken = map_taken node 1 names.1 (ap (λ (ns : List (List ℕ)). drop 1 ns) names.2) (both _ _ plain).1 (both _ _ rules.1.1.1.1.1.1.0).1 rules.1.1.1.1.1.1.1.1.1.1.0 in
        let used = after_first 1 (operands_of (numbered scope) node) (normal_of (access_map node) (drop 1 (operands_of (numbered scope) node))) in
        let same : used ≡ record { map = subscript_map taken.1.at; operands = v ∷ map value (subscript_values counter taken.1.at) } =
        ap (λ (vs : List ValueId). after_first 1 vs (normal_of (access_map node) (drop 1 vs))) are ∙ ap (after_first 1 (v ∷ rest)) taken.2 in
        load_line (result_name node) Plain v b.0 (loaded_elem (numbered scope) node) (marks_of Load node) taken.0 rest used (denied _ rules.1.1.1.0) elem b.2 refl taken.1 same

    -- ---- stores
    store_line : (stored into : ValueId) (size : ℕ) (marks : Marks) (m : MapText) (values : List ValueId) (used : MapUse)
        → Stands visible place stored.0 element → Stands visible place into.0 (buffer size) → marks.distinct ≡ false
        → (plain : IsPlainMap counter m values)
        → used ≡ record { map = subscript_map plain.at; operands = stored ∷ into ∷ map value (subscript_values counter plain.at) }
        → IsLined counter scope (numbered scope) visible place (op_of number (AffineStore used.map) used.operands [] [] marks)
    unfolding line_op after_line IsSoundLine
    store_line stored into size marks m values used first second plainly plain are =
        let at = plain.at in
        let operands = stored ∷ into ∷ map value (subscript_values counter at) in
        let one = op_of number (AffineStore (subscript_map at)) operands [] [] marks in
        let lined : IsLined counter scope (numbered scope) visible place one =
        record {
          line = store stored.0 into.0 at;
          sound = (first, (size, second), plain.sound);
          made = λ loops.
              flat_op (AffineStore (subscript_map at)) marks loops refl number place.number operands [] (stored.0 ∷ into.0 ∷ subscript_values counter at) [] here refl refl
              ∙ ap (λ b. let m : Made Op = record {
                made = op place.number (AffineStore (subscript_map at)) (stored.0 ∷ into.0 ∷ subscript_values counter at) [] [] (made_marks (AffineStore (subscript_map at)) loops place.number b);
                loops = loops;
              } in m) plainly;
          behind = matches_passed scope visible place h;
          more = [];
          longer = sym (append-nil scope.names);
        } in
        subst (λ (u : MapUse). IsLined counter scope (numbered scope) visible place (op_of number (AffineStore u.map) u.operands [] [] marks)) (sym are) lined

    pub store_taken : (node : Node) → is_plain_access Store 2 variable node ≡ true → first_failing (store_rules (numbered scope) node) ≡ None
        → IsLined counter scope (numbered scope) visible place (store_op (numbered scope) node number)
    store_taken node plain none =
        let rules = all_hold (store_rules (numbered scope) node) none in
        let names = two_of (out-Node node).operands rules.0 in
        let s = value_or_first scope.names names.0 in
        let v = value_or_first scope.names names.1 in
        let rest = values_named scope.names names.2 in
        let are : operands_of (numbered scope) node ≡ s ∷ v ∷ rest = ap (values_named scope.names) names.3 in
        let seen : are_visible scope.names (names.0 ∷ names.1 ∷ names.2) ≡ true = subst (λ (ns : List (List ℕ)). are_visible scope.names ns ≡ true) names.3 rules.1.1.0 in
        let types = both _ _ (both _ _ (both _ _ rules.1.1.1.0).0).0 in
        let buffered : is_buffer (slice_get scope.values v.0) ≡ true =
        subst (λ (vs : List ValueId). is_buffer (operand_type scope.values vs 1) ≡ true) are types.0 in
        let b = stands_buffer names.1 (both _ _ (both _ _ seen).1).0 buffered in
        let stores : stores_elem scope.values (s ∷ v ∷ rest) ≡ true = subst (λ (vs : List ValueId). stores_elem scope.values vs ≡ true) are types.1 in
        let stores_i32 : option_map_or (is_elem (Int W32)) (option_and_then scalar_of (slice_get scope.values s.0)) false ≡ true =
        subst (λ (o : Option Ty). option_map_or (is_elem (elem_of_buffer o)) (option_and_then scalar_of (slice_get scope.values s.0)) false ≡ true) b.1 stores in
        let typed = scalar_is (slice_get scope.values s.0) (Int W32) (stored_elem (Int W32) _ stores_i32) in
        let taken = map_taken node 2 names.2 (ap (λ (ns : List (List ℕ)). drop 2 ns) names.3) (both _ _ plain).1 (both _ _ rules.1.1.1.1.1.0).1 rules.1.1.1.1.1.1.1.1.1.0 in
        let used = after_first 2 (operands_of (numbered scope) node) (normal_of (access_map node) (drop 2 (operands_of (numbered scope) node))) in
        let same : used ≡ record { map = subscript_map taken.1.at; operands = s ∷ v ∷ map value (subscript_values counter taken.1.at) } =
        ap (λ (vs : List ValueId). after_first 2 vs (normal_of (access_map node) (drop 2 vs))) are ∙ ap (after_first 2 (s ∷ v ∷ rest)) taken.2 in
        store_line s v b.0 (marks_of Store node) taken.0 rest used (stands names.0 element (both _ _ seen).0 typed) b.2 refl taken.1 same
