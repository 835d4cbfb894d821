-- Places of a program, and those behind them.
use Rattle.std.proofs.Common.{◌≡◌, ◌∙◌, ℕ, ◌+◌, ◌<◌, ◌≤◌, ◌^◌, arith, List, [], ◌∷◌, ◌++◌, append_assoc, append-nil, length, length-append, get_or, refl, ap, sym}
use Rattle.std.specs.Prelude.{codes}
use Rattle.std.proofs.lemmas.List.{get_or_append_left}
use Rattle.av_ir.specs.declared.ty.Elem.TheVariants.{Index}
use Rattle.av_ir.specs.declared.ty.Ty.{Ty}
use Rattle.av_ir.specs.declared.ty.Ty.TheVariants.{Scalar}
use Rattle.av_totree.specs.Names.{argument_name, operation_name}
use Rattle.av_verify.specs.Names.{Binding, value_named}
use Rattle.av_program_laws.specs.Programs.{Line, constant, sum, load, store, Step, single, counted, Program}
use Rattle.av_program_laws.specs.Walks.{Place, element, buffer, type_at, with_result, with_argument, passed, after_line, after_lines, inside, after_step, after_steps, after_buffers, first_place, body_place, last_place}
use Rattle.av_program_laws.specs.Sound.{IsSound}
use Rattle.av_program_laws.proofs.AgainScopes.{AreNamed}
use Rattle.av_program_laws.proofs.AgainLines.{IsSmall}

-- ---- a place and one behind it
pub record IsBefore (a b : Place) : Type 0 where
  pub number : a.number ≤ b.number
  pub loops : a.loops ≤ b.loops
  pub arguments : a.arguments ≤ b.arguments
  pub operations : a.operations ≤ b.operations
  pub types : List Ty
  pub typed : b.types ≡ a.types ++ types
  pub names : List (List ℕ)
  pub named : b.names ≡ a.names ++ names

pub before_trans : (a b c : Place) → IsBefore a b → IsBefore b c → IsBefore a c
before_trans a b c h k = record {
  number = let x = h.number in let y = k.number in omega (arith, x, y);
  loops = let x = h.loops in let y = k.loops in omega (arith, x, y);
  arguments = let x = h.arguments in let y = k.arguments in omega (arith, x, y);
  operations = let x = h.operations in let y = k.operations in omega (arith, x, y);
  types = h.types ++ k.types;
  typed = k.typed ∙ ap (λ l. l ++ k.types) h.typed ∙ append_assoc a.types h.types k.types;
  names = h.names ++ k.names;
  named = k.named ∙ ap (λ l. l ++ k.names) h.named ∙ append_assoc a.names h.names k.names;
}

pub before_itself : (a : Place) → IsBefore a a
before_itself a = record {
  number = omega arith;
  loops = omega arith;
  arguments = omega arith;
  operations = omega arith;
  types = [];
  typed = sym (append-nil a.types);
  names = [];
  named = sym (append-nil a.names);
}

before_result : (ty : Ty) (place : Place) → IsBefore place (with_result ty place)
unfolding with_result
before_result ty place = record {
  number = omega arith;
  loops = omega arith;
  arguments = omega arith;
  operations = omega arith;
  types = ty ∷ [];
  typed = refl;
  names = operation_name place.operations ∷ [];
  named = refl;
}

before_argument : (ty : Ty) (place : Place) → IsBefore place (with_argument ty place)
unfolding with_argument
before_argument ty place = record {
  number = omega arith;
  loops = omega arith;
  arguments = omega arith;
  operations = omega arith;
  types = ty ∷ [];
  typed = refl;
  names = argument_name place.arguments ∷ [];
  named = refl;
}

pub before_passed : (place : Place) → IsBefore place (passed place)
unfolding passed
before_passed place = record {
  number = omega arith;
  loops = omega arith;
  arguments = omega arith;
  operations = omega arith;
  types = [];
  typed = sym (append-nil place.types);
  names = [];
  named = sym (append-nil place.names);
}

pub before_inside : (place : Place) → IsBefore place (inside place)
unfolding inside with_argument
before_inside place = record {
  number = omega arith;
  loops = omega arith;
  arguments = omega arith;
  operations = omega arith;
  types = Scalar Index ∷ [];
  typed = refl;
  names = argument_name place.arguments ∷ [];
  named = refl;
}

pub before_line : (line : Line) (place : Place) → IsBefore place (after_line line place)
unfolding after_line
before_line (constant pattern) place = before_result element place
before_line (sum left right) place = before_result (type_at place left) place
before_line (load from at) place = before_result element place
before_line (store stored into at) place = before_passed place

pub before_lines : (lines : List Line) (place : Place) → IsBefore place (after_lines lines place)
unfolding after_lines
before_lines [] place = before_itself place
before_lines (line ∷ lines) place =
    before_trans place (after_line line place) (after_lines lines (after_line line place)) (before_line line place) (before_lines lines (after_line line place))

-- a loop's place, and the one behind it
pub before_end : (lines : List Line) (place : Place) → IsBefore place (passed (after_lines lines (inside place)))
before_end lines place =
    let behind = after_lines lines (inside place) in
    before_trans place behind (passed behind) (before_trans place (inside place) behind (before_inside place) (before_lines lines (inside place))) (before_passed behind)

pub before_step : (step : Step) (place : Place) → IsBefore place (after_step step place)
unfolding after_step
before_step (single pattern) place = before_result element place
before_step (counted lower upper lines) place = before_end lines place

pub before_steps : (steps : List Step) (place : Place) → IsBefore place (after_steps steps place)
unfolding after_steps
before_steps [] place = before_itself place
before_steps (step ∷ steps) place =
    before_trans place (after_step step place) (after_steps steps (after_step step place)) (before_step step place) (before_steps steps (after_step step place))

pub before_buffers : (sizes : List ℕ) (place : Place) → IsBefore place (after_buffers sizes place)
unfolding after_buffers
before_buffers [] place = before_itself place
before_buffers (size ∷ sizes) place =
    before_trans place (with_argument (buffer size) place) (after_buffers sizes (with_argument (buffer size) place)) (before_argument (buffer size) place)
    (before_buffers sizes (with_argument (buffer size) place))

pub small_before : (a b : Place) → IsBefore a b → IsSmall b → IsSmall a
small_before a b h small = record {
  arguments = let x = h.arguments in let y = small.arguments in omega (arith, x, y);
  operations = let x = h.operations in let y = small.operations in omega (arith, x, y);
  number = let x = h.number in let y = small.number in omega (arith, x, y);
  loops = let x = h.loops in let y = small.loops in omega (arith, x, y);
}

-- the names of values stay
pub named_behind : (visible : List ℕ) (names : List Binding) (a b : Place) → IsBefore a b → length a.names ≡ length a.types
    → AreNamed visible (length a.types) a.names names → AreNamed visible (length b.types) b.names names
named_behind visible names a b h as_many each v among =
    let one = each v among in
    let lt : v < length a.types = one.0 in
    let typed : length b.types ≡ length (a.types ++ h.types) = ap (λ (l : List Ty). length l) h.typed in (
      omega (arith, lt, typed, length-append a.types h.types),
      ap (λ l. value_named (get_or l v (codes "%")) names) h.named
          ∙ ap (λ n. value_named n names) (get_or_append_left a.names h.names (codes "%") v (omega (arith, lt, as_many)))
          ∙ one.1,
    )

-- ---- counts
-- fewer operations have names than there are, and arguments are buffers and the variables of loops
abbrev Counts : ℕ → Place → Type 0
Counts buffers place = (place.operations ≤ place.number) × (place.loops ≤ place.number) × (place.arguments ≤ buffers + place.loops)

module _ (buffers : ℕ) where
  counts_line : (line : Line) (place : Place) → Counts buffers place → Counts buffers (after_line line place)
  unfolding after_line with_result passed
  counts_line (constant pattern) place h = (omega (arith, h.0), omega (arith, h.1), h.2)
  counts_line (sum left right) place h = (omega (arith, h.0), omega (arith, h.1), h.2)
  counts_line (load from at) place h = (omega (arith, h.0), omega (arith, h.1), h.2)
  counts_line (store stored into at) place h = (omega (arith, h.0), omega (arith, h.1), h.2)

  counts_lines : (lines : List Line) (place : Place) → Counts buffers place → Counts buffers (after_lines lines place)
  unfolding after_lines
  counts_lines [] place h = h
  counts_lines (line ∷ lines) place h = counts_lines lines (after_line line place) (counts_line line place h)

  counts_inside : (place : Place) → Counts buffers place → Counts buffers (inside place)
  unfolding inside with_argument
  counts_inside place h = (omega (arith, h.0), omega (arith, h.1), omega (arith, h.2))

  counts_passed : (place : Place) → Counts buffers place → Counts buffers (passed place)
  unfolding passed
  counts_passed place h = (omega (arith, h.0), omega (arith, h.1), h.2)

  counts_step : (step : Step) (place : Place) → Counts buffers place → Counts buffers (after_step step place)
  unfolding after_step with_result
  counts_step (single pattern) place h = (omega (arith, h.0), omega (arith, h.1), h.2)
  counts_step (counted lower upper lines) place h =
      counts_passed (after_lines lines (inside place)) (counts_lines lines (inside place) (counts_inside place h))

  counts_steps : (steps : List Step) (place : Place) → Counts buffers place → Counts buffers (after_steps steps place)
  unfolding after_steps
  counts_steps [] place h = h
  counts_steps (step ∷ steps) place h = counts_steps steps (after_step step place) (counts_step step place h)

abbrev Begins : ℕ → Place → Type 0
Begins buffers place = (place.operations ≡ 0) × (place.loops ≡ 0) × (place.arguments ≤ buffers)

counts_buffers : (sizes : List ℕ) (n : ℕ) (place : Place) → Begins n place → Begins (n + length sizes) (after_buffers sizes place)
unfolding after_buffers with_argument
counts_buffers [] n place h = (h.0, h.1, omega (arith, h.2))
counts_buffers (size ∷ sizes) n place h =
    let rest = counts_buffers sizes (n + 1) (with_argument (buffer size) place) (h.0, h.1, omega (arith, h.2)) in
    (rest.0, rest.1, omega (arith, rest.2))

pub small_places : (p : Program) → IsSound p → length p.sizes < 2 ^ 64 → IsSmall (last_place p)
small_places p sound narrow =
    let begins = counts_buffers p.sizes 0 first_place (refl, refl, omega arith) in
    let c = counts_steps (length p.sizes) p.steps (body_place p) (omega (arith, begins.0), omega (arith, begins.1), omega (arith, begins.1, begins.2)) in
    let few = sound.few in
    record {
      arguments = omega (arith, c.1, c.2, few, narrow);
      operations = omega (arith, c.0, few);
      number = few;
      loops = omega (arith, c.1, few);
    }

-- ---- values
buffers_typed : (sizes : List ℕ) (place : Place) → length (after_buffers sizes place).types ≡ length place.types + length sizes
unfolding after_buffers with_argument
buffers_typed [] place = omega arith
buffers_typed (size ∷ sizes) place =
    omega (arith, buffers_typed sizes (with_argument (buffer size) place), length-append place.types (buffer size ∷ []))

-- buffers are values
pub sizes_within : (p : Program) → length p.sizes ≤ length (last_place p).types
sizes_within p =
    let b = before_steps p.steps (body_place p) in
    let typed : length (last_place p).types ≡ length ((body_place p).types ++ b.types) = ap (λ (l : List Ty). length l) b.typed in
    omega (arith, typed, length-append (body_place p).types b.types, buffers_typed p.sizes first_place)
