-- The names of a function's values, given in the order of the text.
use Rattle.std.specs.Prelude.{ℕ, ◌+◌, List, [], ◌∷◌, ◌++◌, map, length, slice_index_or, slice_set, slice_get, Option, codes}
use Rattle.std.specs.Option.{option_map}
use Rattle.av_ir.specs.declared.ty.Ty.{Ty}
use Rattle.av_ir.specs.declared.module.ValueId.{ValueId}
use Rattle.av_tree.specs.declared.written.TypeText.{TypeText}
use Rattle.av_totree.specs.declared.names.Names.{Names}
use Rattle.av_totree.specs.Texts.{numbered}
use Rattle.av_totree.specs.Types.{type_of}

-- the name of each value so far, and how many arguments of blocks and how many operations with results have theirs
pub record Naming : Type 0 where
  pub names : List (List ℕ)
  pub arguments : ℕ
  pub operations : ℕ

abbrev pub naming_of : Names → Naming
naming_of n = record { names = n.names; arguments = length n.arguments; operations = length n.operations }

-- a value has the name % until it is met
abbrev pub first_naming : List Ty → Naming
first_naming types = record { names = map (λ ty. codes "%") types; arguments = 0; operations = 0 }

abbrev pub name_of : Naming → ValueId → List ℕ
name_of naming id = slice_index_or naming.names id.0 (codes "%")

-- %arg0, %arg1, ..
abbrev pub argument_name : ℕ → List ℕ
argument_name k = numbered (codes "%arg") k

-- %0, %1, .. for an operation with one result; its results are %0#0, %0#1, .. where there are several
abbrev pub operation_name : ℕ → List ℕ
operation_name k = numbered (codes "%") k

abbrev pub result_name : ℕ → ℕ → List ℕ
result_name k place = numbered (operation_name k ++ codes "#") place

abbrev pub with_name : List (List ℕ) → ValueId → List ℕ → List (List ℕ)
with_name names id name = slice_set names id.0 name

abbrev pub with_argument : ValueId → Naming → Naming
with_argument id naming = record {
  names = with_name naming.names id (argument_name naming.arguments);
  arguments = naming.arguments + 1;
  operations = naming.operations;
}

-- several results of an operation, from a place on
unfoldable pub with_several : ℕ → ℕ → List ValueId → List (List ℕ) → List (List ℕ)
with_several k place [] names = names
with_several k place (id ∷ ids) names = with_several k (place + 1) ids (with_name names id (result_name k place))

abbrev pub next_operation : Naming → List (List ℕ) → Naming
next_operation naming names = record { names = names; arguments = naming.arguments; operations = naming.operations + 1 }

abbrev pub with_results : List ValueId → Naming → Naming
with_results [] naming = naming
with_results (id ∷ []) naming = next_operation naming (with_name naming.names id (operation_name naming.operations))
with_results (first ∷ second ∷ ids) naming =
    next_operation naming (with_several naming.operations 0 (first ∷ second ∷ ids) naming.names)

-- what stands before the =: the only result, or %3:2 for two results of operation 3
abbrev pub result_texts : List ValueId → ℕ → List (List ℕ)
result_texts [] k = []
result_texts (id ∷ []) k = operation_name k ∷ []
result_texts (first ∷ second ∷ ids) k = numbered (operation_name k ++ codes ":") (length (first ∷ second ∷ ids)) ∷ []

abbrev pub written_type : List Ty → ValueId → Option TypeText
written_type types id = option_map type_of (slice_get types id.0)
