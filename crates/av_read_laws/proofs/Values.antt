-- The values on a stack without places, and how rows take them off it.
use Rattle.std.proofs.Common.{◌≡◌, List, [], ◌∷◌, ◌++◌, map, refl, sym, ap, ◌∙◌}
use Rattle.std.specs.Prelude.{Option, Some, None, option_map, option_and_then}
use Rattle.av_values.specs.declared.value.Value.{Value}
use Rattle.av_values.specs.declared.value.Value.TheVariants as value
use Rattle.av_values.specs.declared.value.Onward.{Onward}
use Rattle.av_values.specs.declared.value.Terminated.{Terminated}
use Rattle.av_values.specs.declared.value.GenericParts.{GenericParts}
use Rattle.av_values.specs.Sorts.{Sort, a_tree, a_node, a_nodes, a_onward, a_terminated, a_typed_values, a_arg, a_args, a_text, a_texts, a_number, a_constant, a_type, a_types, a_sizes, a_layout, a_attr, a_entry, a_entries, a_parameters, a_expression, a_expressions, a_parts, a_map_use, a_carried, a_aliases, a_generic, a_body, a_bodies, a_attrs, a_words, a_numbers, a_element, a_elements, a_dense, a_dims, a_size, a_row, a_rows, a_equal, a_selected, a_optional_type, Of, All, any, on_top, replaced}
use Rattle.av_read_laws.specs.Places.{unplaced_body, unplaced_node, unplaced}

abbrev pub unplaced_onward : Onward → Onward
unplaced_onward onward = record { node = unplaced_node onward.node; others = map unplaced_node onward.others }

abbrev pub unplaced_terminated : Terminated → Terminated
unplaced_terminated terminated = record { values = terminated.values; nodes = map unplaced_node terminated.nodes }

abbrev pub unplaced_generic : GenericParts → GenericParts
unplaced_generic parts = record parts { regions = map unplaced_body parts.regions }

abbrev pub unplaced_value : Value → Value
unplaced_value (value.Tree tree) = value.Tree (unplaced tree)
unplaced_value (value.Node node) = value.Node (unplaced_node node)
unplaced_value (value.Nodes nodes) = value.Nodes (map unplaced_node nodes)
unplaced_value (value.Onward onward) = value.Onward (unplaced_onward onward)
unplaced_value (value.Terminated terminated) = value.Terminated (unplaced_terminated terminated)
unplaced_value (value.Generic parts) = value.Generic (unplaced_generic parts)
unplaced_value (value.Body body) = value.Body (unplaced_body body)
unplaced_value (value.Bodies bodies) = value.Bodies (map unplaced_body bodies)
unplaced_value v = v

-- the same of a value of a sort
abbrev pub unplaced_of : (s : Sort) → Of s → Of s
unplaced_of a_tree tree = unplaced tree
unplaced_of a_node node = unplaced_node node
unplaced_of a_nodes nodes = map unplaced_node nodes
unplaced_of a_onward onward = unplaced_onward onward
unplaced_of a_terminated terminated = unplaced_terminated terminated
unplaced_of a_generic parts = unplaced_generic parts
unplaced_of a_body body = unplaced_body body
unplaced_of a_bodies bodies = map unplaced_body bodies
unplaced_of s v = v

abbrev pub unplaced_all : (ss : List Sort) → All ss → All ss
unplaced_all [] values = tt
unplaced_all (s ∷ ss) values = (unplaced_of s values.0, unplaced_all ss values.1)

pub any-unplaced : (s : Sort) (v : Of s) → any s (unplaced_of s v) ≡ unplaced_value (any s v)
any-unplaced a_tree v = refl
any-unplaced s v = refl

-- ---- the value on top
none-on-top : (s : Sort) → on_top s [] ≡ None
unfolding on_top
none-on-top a_tree = refl
none-on-top s = refl

-- what lies under the values stays there
top-under : (s : Sort) (v : Value) (rest under : List Value)
    → on_top s (v ∷ rest ++ under) ≡ option_map (λ (top : Of s × List Value). (top.0, top.1 ++ under)) (on_top s (v ∷ rest))
unfolding on_top
top-under a_tree (value.Tree v) rest under = refl
top-under a_node (value.Node v) rest under = refl
top-under a_nodes (value.Nodes v) rest under = refl
top-under a_onward (value.Onward v) rest under = refl
top-under a_terminated (value.Terminated v) rest under = refl
top-under a_typed_values (value.TypedValues v) rest under = refl
top-under a_arg (value.Arg v) rest under = refl
top-under a_args (value.Args v) rest under = refl
top-under a_text (value.Text v) rest under = refl
top-under a_texts (value.Texts v) rest under = refl
top-under a_number (value.Number v) rest under = refl
top-under a_constant (value.Constant v) rest under = refl
top-under a_type (value.Type v) rest under = refl
top-under a_types (value.Types v) rest under = refl
top-under a_sizes (value.Sizes v) rest under = refl
top-under a_layout (value.Layout v) rest under = refl
top-under a_attr (value.Attr v) rest under = refl
top-under a_entry (value.Entry v) rest under = refl
top-under a_entries (value.Entries v) rest under = refl
top-under a_parameters (value.Parameters v) rest under = refl
top-under a_expression (value.Expression v) rest under = refl
top-under a_expressions (value.Expressions v) rest under = refl
top-under a_parts (value.Parts v) rest under = refl
top-under a_map_use (value.MapUse v) rest under = refl
top-under a_carried (value.Carried v) rest under = refl
top-under a_aliases (value.Aliases v) rest under = refl
top-under a_generic (value.Generic v) rest under = refl
top-under a_body (value.Body v) rest under = refl
top-under a_bodies (value.Bodies v) rest under = refl
top-under a_attrs (value.Attrs v) rest under = refl
top-under a_words (value.Words v) rest under = refl
top-under a_numbers (value.Numbers v) rest under = refl
top-under a_element (value.Element v) rest under = refl
top-under a_elements (value.Elements v) rest under = refl
top-under a_dense (value.Dense v) rest under = refl
top-under a_dims (value.Dims v) rest under = refl
top-under a_size (value.Size v) rest under = refl
top-under a_row (value.Row v) rest under = refl
top-under a_rows (value.Rows v) rest under = refl
top-under a_equal (value.Equal v) rest under = refl
top-under a_selected (value.Selected v) rest under = refl
top-under a_optional_type (value.OptionalType v) rest under = refl
top-under s v rest under = refl

on_top-under : (s : Sort) (values under : List Value)
    → (top : Of s × List Value) → on_top s values ≡ Some top → on_top s (values ++ under) ≡ Some (top.0, top.1 ++ under)
on_top-under s [] under top e = absurd (let none : on_top s [] ≡ None = none-on-top s in cc)
on_top-under s (v ∷ rest) under top e =
    top-under s v rest under ∙ ap (option_map {U = Of s × List Value} (λ (top : Of s × List Value). (top.0, top.1 ++ under))) e

-- the value on top is without places what it was with them
top-unplaced : (s : Sort) (v : Value) (rest : List Value)
    → on_top s (unplaced_value v ∷ map unplaced_value rest)
    ≡ option_map (λ (top : Of s × List Value). (unplaced_of s top.0, map unplaced_value top.1)) (on_top s (v ∷ rest))
unfolding on_top
top-unplaced a_tree (value.Tree v) rest = refl
top-unplaced a_node (value.Node v) rest = refl
top-unplaced a_nodes (value.Nodes v) rest = refl
top-unplaced a_onward (value.Onward v) rest = refl
top-unplaced a_terminated (value.Terminated v) rest = refl
top-unplaced a_typed_values (value.TypedValues v) rest = refl
top-unplaced a_arg (value.Arg v) rest = refl
top-unplaced a_args (value.Args v) rest = refl
top-unplaced a_text (value.Text v) rest = refl
top-unplaced a_texts (value.Texts v) rest = refl
top-unplaced a_number (value.Number v) rest = refl
top-unplaced a_constant (value.Constant v) rest = refl
top-unplaced a_type (value.Type v) rest = refl
top-unplaced a_types (value.Types v) rest = refl
top-unplaced a_sizes (value.Sizes v) rest = refl
top-unplaced a_layout (value.Layout v) rest = refl
top-unplaced a_attr (value.Attr v) rest = refl
top-unplaced a_entry (value.Entry v) rest = refl
top-unplaced a_entries (value.Entries v) rest = refl
top-unplaced a_parameters (value.Parameters v) rest = refl
top-unplaced a_expression (value.Expression v) rest = refl
top-unplaced a_expressions (value.Expressions v) rest = refl
top-unplaced a_parts (value.Parts v) rest = refl
top-unplaced a_map_use (value.MapUse v) rest = refl
top-unplaced a_carried (value.Carried v) rest = refl
top-unplaced a_aliases (value.Aliases v) rest = refl
top-unplaced a_generic (value.Generic v) rest = refl
top-unplaced a_body (value.Body v) rest = refl
top-unplaced a_bodies (value.Bodies v) rest = refl
top-unplaced a_attrs (value.Attrs v) rest = refl
top-unplaced a_words (value.Words v) rest = refl
top-unplaced a_numbers (value.Numbers v) rest = refl
top-unplaced a_element (value.Element v) rest = refl
top-unplaced a_elements (value.Elements v) rest = refl
top-unplaced a_dense (value.Dense v) rest = refl
top-unplaced a_dims (value.Dims v) rest = refl
top-unplaced a_size (value.Size v) rest = refl
top-unplaced a_row (value.Row v) rest = refl
top-unplaced a_rows (value.Rows v) rest = refl
top-unplaced a_equal (value.Equal v) rest = refl
top-unplaced a_selected (value.Selected v) rest = refl
top-unplaced a_optional_type (value.OptionalType v) rest = refl
top-unplaced s v rest = refl

on_top-unplaced : (s : Sort) (values : List Value)
    → on_top s (map unplaced_value values)
    ≡ option_map (λ (top : Of s × List Value). (unplaced_of s top.0, map unplaced_value top.1)) (on_top s values)
on_top-unplaced s [] =
    none-on-top s
    ∙ sym (ap (option_map {U = Of s × List Value} (λ (top : Of s × List Value). (unplaced_of s top.0, map unplaced_value top.1))) (none-on-top s))
on_top-unplaced s (v ∷ rest) = top-unplaced s v rest

-- ---- what a row replaces
put-under : (s : Sort) (made : Option (Of s)) (values under out : List Value)
    → option_map {U = List Value} (λ (v : Of s). any s v ∷ values) made ≡ Some out
    → option_map {U = List Value} (λ (v : Of s). any s v ∷ values ++ under) made ≡ Some (out ++ under)
put-under s None values under out e = absurd (cc)
put-under s (Some v) values under out e =
    let same : any s v ∷ values ≡ out = cc in
    ap (λ (l : List Value). Some (l ++ under)) same

taken-under : (s : Sort) (top : Option (Of s × List Value)) (before under out : List Value) (rest : Of s × List Value → Option (List Value))
    → top ≡ on_top s before
    → option_and_then rest top ≡ Some out
    → ((t : Of s × List Value) → rest t ≡ Some out → rest (t.0, t.1 ++ under) ≡ Some (out ++ under))
    → option_and_then rest (on_top s (before ++ under)) ≡ Some (out ++ under)
taken-under s None before under out rest t e f = absurd (cc)
taken-under s (Some top) before under out rest t e f =
    ap (option_and_then rest) (on_top-under s before under top (sym t)) ∙ f top e

-- a row does the same where more lies under the values
pub replaced-under : (ss : List Sort) (s : Sort) (make : All ss → Option (Of s)) (values under out : List Value)
    → replaced ss s make values ≡ Some out → replaced ss s make (values ++ under) ≡ Some (out ++ under)
unfolding replaced
replaced-under [] s make values under out e = put-under s (make tt) values under out e
replaced-under (t ∷ ss) s make values under out e =
    taken-under t (on_top t values) values under out (λ (top : Of t × List Value). replaced ss s (λ others. make (top.0, others)) top.1) refl e
    (λ top g. replaced-under ss s (λ others. make (top.0, others)) top.1 under out g)

put-unplaced : (s : Sort) (made later : Option (Of s)) (values : List Value) → option_map (unplaced_of s) made ≡ later
    → option_map (map unplaced_value) (option_map {U = List Value} (λ (v : Of s). any s v ∷ values) made)
    ≡ option_map {U = List Value} (λ (v : Of s). any s v ∷ map unplaced_value values) later
put-unplaced s None later values e = ap (option_map {U = List Value} (λ (v : Of s). any s v ∷ map unplaced_value values)) e
put-unplaced s (Some v) later values e =
    ap (λ (w : Value). Some (w ∷ map unplaced_value values)) (sym (any-unplaced s v))
    ∙ ap (option_map {U = List Value} (λ (v : Of s). any s v ∷ map unplaced_value values)) e

taken-unplaced : (s : Sort) (top : Option (Of s × List Value)) (rest later : Of s × List Value → Option (List Value))
    → ((t : Of s × List Value) → option_map (map unplaced_value) (rest t) ≡ later (unplaced_of s t.0, map unplaced_value t.1))
    → option_map (map unplaced_value) (option_and_then rest top)
    ≡ option_and_then later (option_map (λ (t : Of s × List Value). (unplaced_of s t.0, map unplaced_value t.1)) top)
taken-unplaced s None rest later f = refl
taken-unplaced s (Some top) rest later f = f top

-- a row does without places what it does with them, if what it makes doesn't look at them
pub replaced-unplaced : (ss : List Sort) (s : Sort) (make later : All ss → Option (Of s)) (values : List Value)
    → ((parts : All ss) → option_map (unplaced_of s) (make parts) ≡ later (unplaced_all ss parts))
    → option_map (map unplaced_value) (replaced ss s make values) ≡ replaced ss s later (map unplaced_value values)
unfolding replaced
replaced-unplaced [] s make later values f = put-unplaced s (make tt) (later tt) values (f tt)
replaced-unplaced (t ∷ ss) s make later values f =
    taken-unplaced t (on_top t values) (λ (top : Of t × List Value). replaced ss s (λ others. make (top.0, others)) top.1)
    (λ (top : Of t × List Value). replaced ss s (λ others. later (top.0, others)) top.1)
    (λ top. replaced-unplaced ss s (λ others. make (top.0, others)) (λ others. later (unplaced_of t top.0, others)) top.1
    (λ others. f (top.0, others)))
    ∙ ap (option_and_then (λ (top : Of t × List Value). replaced ss s (λ others. later (top.0, others)) top.1)) (sym (on_top-unplaced t values))
