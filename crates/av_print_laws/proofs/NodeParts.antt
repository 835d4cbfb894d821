-- The pieces of trees that were read are spaced.
use Rattle.std.proofs.Common.{◌≡◌, ℕ, zero, suc, ◌+◌, inr, List, [], ◌∷◌, ◌++◌, map, Option, Some, None, refl, sym, subst, codes, arith}
use Rattle.std.specs.List.{All}
use Rattle.std.proofs.lemmas.List.Elements.{All-nil}
use Rattle.av_lex.specs.declared.token.Kind.TheVariants as kinds
use Rattle.av_lex.specs.declared.token.Sign.TheVariants.{OpenCurly, CloseCurly, Colon}
use Rattle.av_lex.specs.declared.class.Class.TheVariants as classes
use Rattle.av_lex.specs.Bytes.{in_class, Run}
use Rattle.av_tree.specs.declared.attribute.Named.{Named}
use Rattle.av_tree.specs.declared.node.BodyArg.{BodyArg}
use Rattle.av_tree.specs.declared.node.Node.{Node, out-Node}
use Rattle.av_tree.specs.declared.node.Body.{Body, out-Body}
use Rattle.av_printer.specs.declared.form.Form.{Form}
use Rattle.av_printer.specs.declared.form.Form.TheVariants as forms
use Rattle.av_printer.specs.declared.named.NamedForm.{NamedForm}
use Rattle.av_printer.specs.Pieces.{Piece, space, new_line, token, sign, plain, commas, joined, in_round}
use Rattle.av_printer.specs.OwnForms.{own_line, own_end, own_form}
use Rattle.av_printer.specs.Operations.{Head, first_of, head_of, common_line, common_end, results_before, arguments_pieces}
use Rattle.av_printer.specs.Spelling.{Operation, on_line, left_out, else_region, label, common_regions, form_of, operation_of, region_of, node_line, own_body, else_body, own_bodies, common_body}
use Rattle.av_printer.proofs.NodeSteps.{whole-own, whole-common, own-of, common-of}
use Rattle.av_print_laws.specs.Spacing.{IsWord}
use Rattle.av_print_laws.specs.ReadNodes.{IsReadArg, HasSymbol, IsReadLine, IsReadNode, node, AreReadBodies, no_bodies, one_body_more, AreReadNodes, no_nodes, one_node_more}
use Rattle.av_print_laws.specs.WrittenLaws.{TreesLaw}
use Rattle.av_print_laws.proofs.Parts.{Free, Sound, AllOf, Tail, Tame, free-append, free-sound, sound-free, sound-of_free, divides-append, free-none, free-space, divides-space, free-new_line, divides-new_line, sound-token, free-open_curly, free-close_curly, free-in_round, sound-commas, tail-none, tail-divides, sound-tail, tail-append, tail-joined, sound-word}
use Rattle.av_print_laws.proofs.ExprParts.{either, free-colon_alone}
use Rattle.av_print_laws.proofs.LineParts.{free-results_before, free-arguments, divides-arguments}
use Rattle.av_print_laws.proofs.Heads.{ReadHead}
use Rattle.av_print_laws.proofs.Words.{is_word}
use Rattle.av_print_laws.proofs.Lines.{suits, sound-own_line, tail-own_end, sound-common_line, tail-common_end}

-- ---- heads
read-arguments : (form : Form) (bodies : List Body) → AreReadBodies form bodies
    → All IsReadArg (first_of (map (λ (body : Body). (out-Body body).args) bodies))
read-arguments form _ no_bodies = All-nil IsReadArg
read-arguments form _ (one_body_more b rest h k l) = h

read-head : (form : Form) (n : Node) → IsReadLine form (out-Node n) → AreReadBodies form (out-Node n).regions → ReadHead (head_of n)
read-head form n l bodies = record {
  named = l.named;
  uses = l.uses;
  says = l.says;
  marked = l.marked;
  takes = l.takes;
  gives = l.gives;
  within = read-arguments form (out-Node n).regions bodies;
}

-- ---- what is asked where a tree suits a form, and its lines are spelled in the same one or in that of all
abbrev Within : Form → Form → Type 0
Within forms.Generic form = Unit {0}
Within forms.Named forms.Named = Unit {0}
Within forms.Named forms.Generic = ⊥

symbol-within : (asked form : Form) (name : List ℕ) (properties : List Named) → Within asked form → HasSymbol form name properties
    → HasSymbol asked name properties
symbol-within forms.Generic form name properties w s = tt
symbol-within forms.Named forms.Named name properties w s = s
symbol-within forms.Named forms.Generic name properties w s = absurd w

-- ---- the label of a region
block_run : Run classes.Name (codes "^bb0") 2 4
unfolding in_class
block_run zero from below = absurd (omega arith)
block_run (suc zero) from below = absurd (omega arith)
block_run (suc (suc zero)) from below = refl
block_run (suc (suc (suc zero))) from below = refl
block_run (suc (suc (suc (suc i)))) from below = absurd (omega arith)

block_word : IsWord kinds.CaretId (codes "^bb0")
unfolding in_class
block_word = record {
  spells = record { within = omega arith; spelled = (refl, omega arith, inr (refl, block_run)) };
  short = tt;
}

free-label : (depth : ℕ) (args : List BodyArg) → All IsReadArg args → Free (label depth args)
unfolding label Tame
free-label depth [] h = free-none
free-label depth (first ∷ others) h =
    let name : List Piece = token kinds.CaretId (codes "^bb0") in
    let args : List Piece = arguments_pieces (first ∷ others) in
    free-append (new_line depth ++ name ++ args) (sign Colon)
    (sound-free (new_line depth ++ name) args
    (free-sound (new_line depth) name (free-new_line depth) (sound-token kinds.CaretId (codes "^bb0") tt block_word))
    (free-arguments (first ∷ others) h) (divides-arguments (first ∷ others)))
    free-colon_alone

-- ---- lines
tail-on_line : (form : Form) (depth : ℕ) (op : Operation) → Sound (op.whole form depth) → Tail (on_line form depth op)
unfolding on_line
tail-on_line form depth op h =
    either Tail (left_out form op) [] (new_line depth ++ op.whole form depth) (λ b. tail-none)
    (λ b. tail-divides (new_line depth ++ op.whole form depth)
    (free-sound (new_line depth) (op.whole form depth) (free-new_line depth) h)
    (divides-append (new_line depth) (op.whole form depth) (divides-new_line depth)))

-- ---- regions
-- the lines of a region, and its end
free-lines : (depth : ℕ) (begin lines : List Piece) → Free begin → Tail lines → Free (begin ++ lines ++ new_line depth ++ sign CloseCurly)
free-lines depth begin lines h t =
    free-append (begin ++ lines ++ new_line depth) (sign CloseCurly)
    (sound-free (begin ++ lines) (new_line depth) (free-sound begin lines h t.sound) (free-new_line depth) (divides-new_line depth))
    free-close_curly

tail-own : (depth : ℕ) (b : Body) → Tail (joined (map (node_line forms.Named (depth + 1)) (out-Body b).nodes)) → Tail (own_body depth b)
tail-own depth b t =
    let begin : List Piece = space ++ sign OpenCurly in
    let lines : List Piece = joined (map (node_line forms.Named (depth + 1)) (out-Body b).nodes) in
    subst Tail (sym (own-of depth b))
    (tail-divides (begin ++ lines ++ new_line depth ++ sign CloseCurly)
    (sound-of_free (begin ++ lines ++ new_line depth ++ sign CloseCurly)
    (free-lines depth begin lines (free-append space (sign OpenCurly) free-space free-open_curly) t))
    (divides-append (begin ++ lines ++ new_line depth) (sign CloseCurly)
    (divides-append (begin ++ lines) (new_line depth)
    (divides-append begin lines (divides-append space (sign OpenCurly) divides-space)))))

else_word : IsWord kinds.Word (codes "else")
unfolding in_class
else_word = is_word (codes "else") refl

-- a region behind `else`, which may not be there
tail-else : (depth : ℕ) (b : Body) → Tail (own_body depth b) → Tail (else_body depth b)
unfolding else_region
tail-else depth b t =
    let word : List Piece = space ++ plain (codes "else") in
    either Tail (region_of b).silent [] (word ++ own_body depth b) (λ e. tail-none)
    (λ e. tail-append word (own_body depth b)
    (tail-divides word (free-sound space (plain (codes "else")) free-space (sound-word (codes "else") else_word)) (divides-append space (plain (codes "else")) divides-space)) t)

tail-elses : (depth : ℕ) (bodies : List Body) → AllOf Tail (map (own_body depth) bodies) → AllOf Tail (map (else_body depth) bodies)
unfolding AllOf
tail-elses depth [] h = tt
tail-elses depth (b ∷ bodies) h = (tail-else depth b h.0, tail-elses depth bodies h.1)

tail-own_bodies : (depth : ℕ) (bodies : List Body) → AllOf Tail (map (own_body depth) bodies) → AllOf Tail (own_bodies depth bodies)
unfolding AllOf
tail-own_bodies depth [] h = tt
tail-own_bodies depth (b ∷ bodies) h = (h.0, tail-elses depth bodies h.1)

sound-common : (depth : ℕ) (b : Body) → All IsReadArg (out-Body b).args
    → Tail (joined (map (node_line forms.Generic (depth + 1)) (out-Body b).nodes)) → Sound (common_body depth b)
sound-common depth b h t =
    let begin : List Piece = sign OpenCurly ++ label depth (out-Body b).args in
    let lines : List Piece = joined (map (node_line forms.Generic (depth + 1)) (out-Body b).nodes) in
    subst Sound (sym (common-of depth b))
    (sound-of_free (begin ++ lines ++ new_line depth ++ sign CloseCurly)
    (free-lines depth begin lines (free-append (sign OpenCurly) (label depth (out-Body b).args) free-open_curly (free-label depth (out-Body b).args h)) t))

tail-common_regions : (regions : List (List Piece)) → AllOf Sound regions → Tail (common_regions regions)
unfolding common_regions
tail-common_regions [] h = tail-none
tail-common_regions (first ∷ others) h =
    let several : List Piece = in_round (commas (first ∷ others)) in
    tail-divides (space ++ several)
    (sound-of_free (space ++ several) (free-append space several free-space (free-in_round (commas (first ∷ others)) (sound-commas (first ∷ others) h))))
    (divides-append space several divides-space)

-- ---- operations
-- the regions of an operation as its own form spells them
abbrev OwnBodies : Form → ℕ → List Body → Type 0
OwnBodies forms.Named depth bodies = AllOf Tail (map (own_body depth) bodies)
OwnBodies forms.Generic depth bodies = Unit {0}

module _ (n : Node) (r : ReadHead (head_of n)) (results : Free (results_before (out-Node n).results)) where
  sound-own_node : (depth : ℕ) (named : NamedForm) → own_form (out-Node n).name ≡ Some named
      → HasSymbol forms.Named (out-Node n).name (out-Node n).properties
      → AllOf Tail (map (own_body depth) (out-Node n).regions) → Sound ((operation_of n).whole forms.Named depth)
  sound-own_node depth named e s t =
      let h : Head = head_of n in
      let regions : List Piece = joined (own_bodies depth (out-Node n).regions) in
      subst Sound (sym (whole-own n forms.Named depth named e))
      (free-sound (results_before (out-Node n).results) (own_line named h ++ regions ++ own_end named h) results
      (sound-tail (own_line named h ++ regions) (own_end named h)
      (sound-tail (own_line named h) regions (sound-own_line h r named (suits named h s e))
      (tail-joined (own_bodies depth (out-Node n).regions) (tail-own_bodies depth (out-Node n).regions t)))
      (tail-own_end h r named)))

  sound-common_node : (form : Form) (depth : ℕ) → form_of form (out-Node n).name ≡ None
      → AllOf Sound (map (common_body depth) (out-Node n).regions) → Sound ((operation_of n).whole form depth)
  sound-common_node form depth e t =
      let h : Head = head_of n in
      let regions : List Piece = common_regions (map (common_body depth) (out-Node n).regions) in
      subst Sound (sym (whole-common n form depth e))
      (free-sound (results_before (out-Node n).results) (common_line h ++ regions ++ common_end h) results
      (sound-tail (common_line h ++ regions) (common_end h)
      (sound-tail (common_line h) regions (sound-common_line h r)
      (tail-common_regions (map (common_body depth) (out-Node n).regions) t))
      (tail-common_end h r)))

  sound-by_form : (f : Option NamedForm) (depth : ℕ) → own_form (out-Node n).name ≡ f
      → HasSymbol forms.Named (out-Node n).name (out-Node n).properties
      → AllOf Tail (map (own_body depth) (out-Node n).regions) → AllOf Sound (map (common_body depth) (out-Node n).regions)
      → Sound ((operation_of n).whole forms.Named depth)
  sound-by_form (Some named) depth e s t u = sound-own_node depth named e s t
  sound-by_form None depth e s t u = sound-common_node forms.Named depth e u

  sound-whole : (asked : Form) (depth : ℕ) → HasSymbol asked (out-Node n).name (out-Node n).properties
      → OwnBodies asked depth (out-Node n).regions → AllOf Sound (map (common_body depth) (out-Node n).regions)
      → Sound ((operation_of n).whole asked depth)
  sound-whole forms.Named depth s t u = sound-by_form (own_form (out-Node n).name) depth refl s t u
  sound-whole forms.Generic depth s t u = sound-common_node forms.Generic depth refl u

mutual
  unfolding AllOf

  sound-node : (form : Form) (n : Node) → IsReadNode form n → (asked : Form) → Within asked form → (depth : ℕ)
      → Sound ((operation_of n).whole asked depth)
  sound-node form _ (node n l bodies) asked w depth =
      sound-whole n (read-head form n l bodies) (free-results_before (out-Node n).results l.makes) asked depth
      (symbol-within asked form (out-Node n).name (out-Node n).properties w l.symbol)
      (own-bodies form (out-Node n).regions bodies asked w depth)
      (common-bodies form (out-Node n).regions bodies depth)

  own-bodies : (form : Form) (bodies : List Body) → AreReadBodies form bodies → (asked : Form) → Within asked form → (depth : ℕ)
      → OwnBodies asked depth bodies
  own-bodies form _ no_bodies forms.Named w depth = tt
  own-bodies form _ no_bodies forms.Generic w depth = tt
  own-bodies form _ (one_body_more b rest h k l) forms.Named w depth = (
    tail-own depth b (tail-joined (map (node_line forms.Named (depth + 1)) (out-Body b).nodes) (tail-nodes form (out-Body b).nodes k forms.Named w (depth + 1))),
    own-bodies form rest l forms.Named w depth,
  )
  own-bodies form _ (one_body_more b rest h k l) forms.Generic w depth = tt

  common-bodies : (form : Form) (bodies : List Body) → AreReadBodies form bodies → (depth : ℕ) → AllOf Sound (map (common_body depth) bodies)
  common-bodies form _ no_bodies depth = tt
  common-bodies form _ (one_body_more b rest h k l) depth = (
    sound-common depth b h (tail-joined (map (node_line forms.Generic (depth + 1)) (out-Body b).nodes) (tail-nodes form (out-Body b).nodes k forms.Generic tt (depth + 1))),
    common-bodies form rest l depth,
  )

  tail-nodes : (form : Form) (nodes : List Node) → AreReadNodes form nodes → (asked : Form) → Within asked form → (depth : ℕ)
      → AllOf Tail (map (node_line asked depth) nodes)
  tail-nodes form _ no_nodes asked w depth = tt
  tail-nodes form _ (one_node_more n rest h k) asked w depth =
      (tail-on_line asked depth (operation_of n) (sound-node form n h asked w depth), tail-nodes form rest k asked w depth)

within-itself : (form : Form) → Within form form
within-itself forms.Named = tt
within-itself forms.Generic = tt

pub trees-law : TreesLaw
trees-law form root h =
    sound-free ((operation_of root).whole form 0) (new_line 0) (sound-node form root h form (within-itself form) 0) (free-new_line 0) (divides-new_line 0) []
