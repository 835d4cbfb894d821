-- The words of a program are read as its tree.
use Rattle.std.proofs.Common.{◌≡◌, ℕ, suc, ◌+◌, ◌^◌, ◌<◌, ◌≤◌, List, [], ◌∷◌, ◌++◌, map, refl, sym, ap, ◌∙◌, arith}
use Rattle.std.proofs.lemmas.List.{reverse-append}
use Rattle.std.specs.Str.{bytes_eq}
use Rattle.std.specs.Prelude.{if◌then◌else◌, reverse, Some, codes}
use Rattle.std.specs.List.{All}
use Rattle.av_lex.specs.declared.token.Kind.TheVariants as kinds
use Rattle.av_lex.specs.declared.token.Sign.TheVariants as sign
use Rattle.av_tree.specs.declared.attribute.Attr.TheVariants as attr
use Rattle.av_tree.specs.declared.attribute.Named.{Named}
use Rattle.av_tree.specs.declared.node.Node.{Node, Node-F, out-Node, roll-Node, out-roll-Node}
use Rattle.av_tree.specs.declared.node.Body.{Body, roll-Body}
use Rattle.av_tree.specs.declared.node.BodyArg.{BodyArg}
use Rattle.av_tree.specs.declared.written.TypeText.{TypeText}
use Rattle.av_tree.specs.declared.written.TypeText.TheVariants as ty
use Rattle.av_tree.specs.declared.table.Symbol.TheVariants as symbol
use Rattle.av_tree.specs.declared.table.Name.TheVariants as name
use Rattle.av_tree.specs.declared.table.Rule.TheVariants as rule
use Rattle.av_tree.specs.declared.table.file.FileName.TheVariants as file_name
use Rattle.av_tree.specs.declared.table.file.FileRule.TheVariants as file_rule
use Rattle.av_tree.specs.declared.table.functions.FunctionName.TheVariants as functions_name
use Rattle.av_tree.specs.declared.table.functions.FunctionRule.TheVariants as functions_rule
use Rattle.av_tree.specs.declared.table.attributes.AttributeRule.TheVariants as attributes_rule
use Rattle.av_tree.specs.declared.table.types.TypeRule.TheVariants as types_rule
use Rattle.av_derive.specs.ClassOf.{keywords}
use Rattle.av_values.specs.Sorts.{on_top, replaced}
use Rattle.av_values.specs.Nodes.{plain}
use Rattle.av_values.specs.Operations.{function_of, module_of, root_of}
use Rattle.av_values.specs.declared.value.Value.TheVariants as value
use Rattle.av_printer.specs.declared.form.Form.TheVariants as forms
use Rattle.av_totree.specs.Names.{argument_name}
use Rattle.av_totree.specs.Types.{type_of}
use Rattle.av_program_laws.specs.Programs.{Program}
use Rattle.av_program_laws.specs.Walks.{Place, buffer, with_argument, after_buffers, first_place, body_place}
use Rattle.av_program_laws.specs.WrittenTrees.{entry, argument, arguments, outer_node}
use Rattle.av_program_laws.specs.ReadTrees.{step_nodes, function_node, read_tree}
use Rattle.av_program_laws.specs.Sound.{IsSound}
use Rattle.av_read_laws.specs.Making.{Word, Makes, nothing, by_sign, by_word, by_token, by_row}
use Rattle.av_output_laws.proofs.Parts.{sign_word, made_buffer}
use Rattle.av_round_trip.proofs.Following.{followed, row, closed, respelled}
use Rattle.av_output_laws.proofs.Nodes.{via, plain-is}
use Rattle.av_output_laws.proofs.ProgramWords.{argument_words, arguments_words, more_arguments_words, function_words, steps_words, program_words}
use Rattle.av_output_laws.proofs.Forms.{Form, buffer_words-is}
use Rattle.av_output_laws.proofs.Bounds.{HasSmall, HasFewLoops, IsSmallAs, small-argument}
use Rattle.av_output_laws.proofs.Operations.{Operations, IsNoBranch, no_branch, without_result, no_operation, made_region, turned, reverse-turned}
use Rattle.av_output_laws.proofs.Steps.{made_steps}

-- ---- arguments
unfoldable pub turned_arguments : List BodyArg → List BodyArg
turned_arguments [] = []
turned_arguments (arg ∷ args) = turned_arguments args ++ arg ∷ []

reverse-arguments : (args : List BodyArg) → reverse (turned_arguments args) ≡ args
unfolding turned_arguments
reverse-arguments [] = refl
reverse-arguments (arg ∷ args) = reverse-append (turned_arguments args) (arg ∷ []) ∙ ap (λ l. arg ∷ l) (reverse-arguments args)

argument_types : (number : ℕ) (sizes : List ℕ) → map (λ (arg : BodyArg). arg.ty) (arguments number sizes) ≡ map (λ size. type_of (buffer size)) sizes
unfolding arguments
argument_types number [] = refl
argument_types number (size ∷ sizes) = ap (λ types. type_of (buffer size) ∷ types) (argument_types (number + 1) sizes)

abbrev AreSmall : List ℕ → Type 0
AreSmall sizes = All (λ (size : ℕ). size < 2 ^ 31) sizes

first_small : (size : ℕ) (sizes : List ℕ) → AreSmall (size ∷ sizes) → size < 2 ^ 31
first_small size sizes small = small 0 size (omega arith)

others_small : (size : ℕ) (sizes : List ℕ) → AreSmall (size ∷ sizes) → AreSmall sizes
others_small size sizes small k d below = small (suc k) d (omega arith)

module _ {most : ℕ} where
  argument_here : (number size : ℕ) → size < 2 ^ 31
      → Makes most (symbol.Rows (name.Function functions_name.FunctionArgument) ∷ []) (argument_words number size)
      (value.Arg (argument (argument_name number) (buffer size)) ∷ [])
  unfolding replaced on_top keywords
  argument_here number size h =
      respelled (ap (λ type. (kinds.ValId, argument_name number) ∷ sign_word sign.Colon ∷ type) (sym (buffer_words-is size)))
      (row (rule.Function functions_rule.ArgumentOfFunction) refl tt
      (by_token refl (by_sign refl
      (closed (followed (row (rule.Type types_rule.BufferType) refl tt (made_buffer size (omega arith) nothing) refl)
      (row (rule.Attribute attributes_rule.NoDictionary) refl tt nothing refl))))) refl)

  more_arguments : (number : ℕ) (sizes : List ℕ) → AreSmall sizes
      → Makes most (symbol.Rows (name.Function functions_name.MoreFunctionArguments) ∷ []) (more_arguments_words number sizes)
      (value.Args (turned_arguments (arguments number sizes)) ∷ [])
  unfolding replaced on_top more_arguments_words arguments turned_arguments
  more_arguments number [] small = row (rule.Function functions_rule.NoMoreFunctionArguments) refl tt nothing refl
  more_arguments number (size ∷ sizes) small =
      row (rule.Function functions_rule.NextFunctionArgument) refl tt
      (by_sign refl (followed (argument_here number size (first_small size sizes small)) (more_arguments (number + 1) sizes (others_small size sizes small)))) refl

  all_arguments : (number : ℕ) (sizes : List ℕ) → AreSmall sizes
      → Makes most (symbol.Rows (name.Function functions_name.FunctionArguments) ∷ []) (arguments_words number sizes)
      (value.Args (turned_arguments (arguments number sizes)) ∷ [])
  unfolding replaced on_top arguments_words arguments turned_arguments
  all_arguments number [] small = row (rule.Function functions_rule.NoFunctionArguments) refl tt nothing refl
  all_arguments number (size ∷ sizes) small =
      row (rule.Function functions_rule.FirstFunctionArgument) refl tt
      (followed (argument_here number size (first_small size sizes small)) (more_arguments (number + 1) sizes (others_small size sizes small))) refl

-- ---- a node around one region
outer_is : (name : List ℕ) (properties : List Named) (body : Body)
    → roll-Node (record (out-Node (plain name 0)) { properties = properties; attrs = []; regions = body ∷ [] }) ≡ outer_node name properties body
unfolding outer_node
outer_is name properties body =
    via (λ (x : Node-F Body Node). record x { properties = properties; attrs = []; regions = body ∷ [] }) _ (plain-is name)

-- ---- the function
module _ (p : Program) where
  -- with arguments and their types, and operations
  abbrev with_parts : List BodyArg → List TypeText → List Node → Node
  with_parts args types nodes =
      outer_node (codes "func.func") (entry (codes "function_type") (attr.Type (ty.Func types [])) ∷ entry (codes "sym_name") (attr.Quoted p.name) ∷ [])
      (roll-Body (record { args = args; nodes = nodes }))

  abbrev types_in : List BodyArg → List TypeText
  types_in args = map (λ (arg : BodyArg). arg.ty) args

  function_is : function_of [] (codes "@" ++ p.name) (turned_arguments (arguments 0 p.sizes)) [] [] (turned (step_nodes forms.Named p.steps (body_place p))) 0
      ≡ function_node forms.Named p
  function_is =
      let args = turned_arguments (arguments 0 p.sizes) in
      let nodes = turned (step_nodes forms.Named p.steps (body_place p)) in
      outer_is (codes "func.func") _ _
      ∙ ap (λ args. with_parts args (types_in args) (reverse nodes)) (reverse-arguments (arguments 0 p.sizes))
      ∙ ap (λ types. with_parts (arguments 0 p.sizes) types (reverse nodes)) (argument_types 0 p.sizes)
      ∙ ap (with_parts (arguments 0 p.sizes) (map (λ size. type_of (buffer size)) p.sizes)) (reverse-turned (step_nodes forms.Named p.steps (body_place p)))

small_buffer : (size : ℕ) → size < 2 ^ 31 → IsSmallAs (buffer size)
small_buffer size h other is = let e : size ≡ other = cc in omega arith

small_buffers : (sizes : List ℕ) (place : Place) → AreSmall sizes → HasSmall place → HasSmall (after_buffers sizes place)
unfolding after_buffers
small_buffers [] place small has = has
small_buffers (size ∷ sizes) place small has =
    small_buffers sizes (with_argument (buffer size) place) (others_small size sizes small) (small-argument (buffer size) place has (small_buffer size (first_small size sizes small)))

few_buffers : (sizes : List ℕ) (place : Place) → HasFewLoops place → HasFewLoops (after_buffers sizes place)
unfolding after_buffers with_argument
few_buffers [] place few = few
few_buffers (size ∷ sizes) place few = few_buffers sizes (with_argument (buffer size) place) few

no_buffers : HasSmall first_place
no_buffers v size is = absurd (cc)

module _ {most : ℕ} (two : 2 ≤ most) (p : Program) (sound : IsSound p) where
  abbrev inside_words : List Word
  inside_words = steps_words p.steps (body_place p)

  abbrev inside_nodes : List Node
  inside_nodes = turned (step_nodes forms.Named p.steps (body_place p))

  steps_made : Makes most (Operations ∷ []) inside_words (value.Nodes inside_nodes ∷ [])
  steps_made =
      made_steps two p.steps (body_place p) _ (small_buffers p.sizes first_place sound.sizes no_buffers) (few_buffers p.sizes first_place (omega arith))
      sound.steps sound.few

  function_made : Makes most (symbol.Rows (name.Function functions_name.NamedFunction) ∷ []) (function_words p.name (arguments_words 0 p.sizes) inside_words)
      (value.Node (function_node forms.Named p) ∷ [])
  unfolding replaced on_top keywords
  function_made =
      row (rule.Function functions_rule.FuncFunc) refl tt
      (by_word refl (by_row {ws = []} (rule.Function functions_rule.NoVisibility) refl tt nothing refl
      (by_token refl (by_sign refl (followed (all_arguments 0 p.sizes sound.sizes)
      (by_sign refl (by_row {ws = []} (rule.Type types_rule.NoResultTypes) refl tt nothing refl
      (by_row {ws = []} (rule.Attribute attributes_rule.NoAttributesPart) refl tt nothing refl (made_region steps_made)))))))))
      (ap (λ n. Some (value.Node n ∷ [])) (function_is p))

  no_branch_here : IsNoBranch (function_node forms.Named p)
  unfolding outer_node
  no_branch_here = no_branch _ refl

  form_made : Makes most (Form ∷ []) (function_words p.name (arguments_words 0 p.sizes) inside_words) (value.Node (function_node forms.Named p) ∷ [])
  unfolding replaced on_top
  form_made = row (rule.Function functions_rule.FunctionForm) refl tt function_made refl

  abbrev root : Node
  root = outer_node (codes "builtin.module") [] (roll-Body (record { args = []; nodes = function_node forms.Named p ∷ [] }))

  module_made : Makes most (symbol.Rows (name.Function functions_name.Module) ∷ []) (program_words p) (value.Node root ∷ [])
  unfolding replaced on_top keywords
  module_made =
      row (rule.Function functions_rule.BuiltinModule) refl tt
      (by_word refl (by_row {ws = []} (rule.Function functions_rule.NoSymbol) refl tt nothing refl
      (by_row {ws = []} (rule.Attribute attributes_rule.NoAttributesPart) refl tt nothing refl
      (made_region {inside = function_words p.name (arguments_words 0 p.sizes) inside_words} (closed (without_result (function_node forms.Named p) no_branch_here form_made no_operation))))))
      (ap (λ n. Some (value.Node n ∷ [])) (outer_is (codes "builtin.module") _ _))

  root_is : root_of (root ∷ []) ≡ root
  unfolding outer_node
  root_is = ap (λ (x : Node-F Body Node). if bytes_eq x.name (codes "builtin.module") then root else module_of [] [] (root ∷ []) 0) (out-roll-Node _)

  pub program_made : Makes most (symbol.Rows (name.File file_name.File) ∷ []) (program_words p) (value.Tree (read_tree forms.Named p) ∷ [])
  unfolding replaced on_top
  program_made =
      row (rule.File file_rule.WholeFile) refl tt
      (by_row {ws = []} (rule.File file_rule.NoMoreAliases) refl tt nothing refl
      (row (rule.File file_rule.PlainContent) refl tt (row (rule.File file_rule.OnlyModule) refl tt module_made refl) refl))
      (ap (λ n. Some (value.Tree (record { aliases = []; root = n }) ∷ [])) root_is)
