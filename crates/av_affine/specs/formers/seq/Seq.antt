-- `Seq` as a container through which a type may reach itself. Its value is the list of its elements, so each part is the
-- list's own; what is left to show is that the struct lays its elements out as the `Vec` in it does.
use mathlib.Core.Path.{◌≡◌, refl, sym}
use mathlib.Core.List.{List, []}
use mathlib.Core.Former.{Former, this, list, via, children}
use base.Stored.{code_map}
use denote.RattleType.{RattleType}
use denote.HoleLaws.{Alike}
use denote.HolePlaces.{Recodes, struct_places, laid}
use denote.Hole.Carrier.{listed, list-listed}
use denote.Hole.Fix.{over}
use denote.Param.Weighed.{Weighed, w_list}
use denote.Model.Placed.{view_places}
use Rattle.std.specs.formers.vec.Vec as vector
use Rattle.std.specs.declared.alloc.Global.{Global}
use Rattle.std.specs.contracts.alloc.Global as global
use Rattle.std.specs.contracts.impls.GlobalAllocator.TheImpl.{ghosts}
use Rattle.av_affine.specs.declared.seq.Seq.TheInside.{Inside}
use Rattle.av_affine.specs.declared.seq.Seq.TheView.{view, invariant}
use Rattle.av_affine.specs.contracts.seq.Seq as outside
use Rattle.av_affine.specs.contracts.seq.Seq.TheInside as inside

abbrev pub the_former : Former {0} → Former {0}
the_former former = list former

abbrev pub the_weighed : {g : Former {0}} → Weighed g → Weighed (the_former g)
the_weighed weighed = w_list weighed

abbrev pub the_items : (X : Type 0) → List X → List X
the_items X elements = elements

pub the_items_listed : (X : Type 0) (elements : List X) → listed _ (children (the_former this) X elements) ≡ the_items X elements
the_items_listed X elements = list-listed X elements

-- a list of nothing holds nothing
pub the_empty : List ⊥
the_empty = []

-- the one field, as it holds the elements
abbrev stored : Former {0}
stored = via (vector.the_former this Global) Inside (λ X s. s.list) (λ X v. record { list = v }) (λ X s. refl) (λ X v. refl)

module _ (R R' : RattleType) (h : R.Denot → R'.Denot) where
  pub the_codes_placed : Recodes R R' h → Recodes (outside.the_row R) (outside.the_row R') ((the_former this).map R.Denot R'.Denot h)
  the_codes_placed same elements = sym (code_map R.coded.code R'.coded.code h (λ x. sym (same x)) elements)

  pub the_places : Alike R R' h → Alike (outside.the_row R) (outside.the_row R') ((the_former this).map R.Denot R'.Denot h)
  the_places alike =
      let in_vector = vector.the_places global.the_row ghosts R R' h alike in
      view_places stored (list this) view (λ X Y k s. refl) (λ X s. refl) R.Denot R'.Denot h
      (outside.the_row R).coded (outside.the_row R').coded (invariant R.Denot) (invariant R'.Denot)
      (λ s p q. refl) (λ s p q. refl) (λ s p. tt) (λ s p. tt) (over (inside.the_row R)) (over (inside.the_row R'))
      (struct_places (inside.the_type R) (inside.the_type R') (vector.mapped h, tt) _ (λ s. refl) refl (laid _ _ _ in_vector, tt))
