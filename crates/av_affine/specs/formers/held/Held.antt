-- `Held` as a container through which a type may reach itself. Its value is the one value that it holds.
use mathlib.Core.Path.{refl}
use mathlib.Core.Former.{Former, this, const, pair, via}
use base.Stored.{gnil}
use base.Fml.{ftrue}
use denote.RattleType.{RattleType}
use denote.Memory.{part_of}
use denote.RawPtr.{Ptr}
use denote.Sharing.{nothing}
use denote.HoleLaws.{Alike}
use denote.HolePlaces.{Recodes, struct_places, laid, one_value}
use denote.Hole.Fix.{over}
use denote.Param.Weighed.{Weighed}
use denote.Model.Placed.{view_places}
use Rattle.std.specs.declared.boxed.Box.{Box}
use Rattle.std.specs.contracts.boxed.Box as boxed
use Rattle.std.specs.declared.alloc.Global.{Global}
use Rattle.std.specs.contracts.alloc.Global as global
use Rattle.std.specs.contracts.impls.GlobalAllocator.TheImpl.{ghosts}
use Rattle.av_affine.specs.declared.held.Held.TheInside.{Inside}
use Rattle.av_affine.specs.declared.held.Held.TheView.{view, invariant}
use Rattle.av_affine.specs.contracts.held.Held as outside
use Rattle.av_affine.specs.contracts.held.Held.TheInside as inside

abbrev pub the_former : Former {0} → Former {0}
the_former former = former

abbrev pub the_weighed : {g : Former {0}} → Weighed g → Weighed (the_former g)
the_weighed weighed = weighed

-- where the box lies and the value in it
abbrev stored : Former {0}
stored = via (pair (const (Ptr × Global)) this) Inside
    (λ X s. ((s.place.ptr, s.place.alloc), s.place.value))
    (λ X v. record { place = record { ptr = v.0.0; alloc = v.0.1; value = v.1 } }) (λ X s. refl) (λ X v. refl)

abbrev holding : {X Y : Type 0} → Box X Global → Y → Box Y Global
holding b y = record { ptr = b.ptr; alloc = b.alloc; value = y }

abbrev boxed_row : RattleType → RattleType
boxed_row R = boxed.the_row R global.the_row ghosts

module _ (R R' : RattleType) (h : R.Denot → R'.Denot) where
  pub the_codes_placed : Recodes R R' h → Recodes (outside.the_row R) (outside.the_row R') ((the_former this).map R.Denot R'.Denot h)
  the_codes_placed same value = same value

  in_box : Alike R R' h → Alike (boxed_row R) (boxed_row R') (λ b. holding b (h b.value))
  unfolding part_of
  in_box alike = record {
    mir_same = λ i. (boxed_row (one_value R (alike.mir_same i) (λ _. ftrue) (λ _ _. nothing) gnil)).mir;
    own_same = λ b i. (boxed_row (one_value R (alike.mir_same i) (alike.own_same b.value i) (alike.shr_same b.value i) gnil)).own_val (holding b tt);
    shr_same = λ b i. (boxed_row (one_value R (alike.mir_same i) (alike.own_same b.value i) (alike.shr_same b.value i) gnil)).shr_at (holding b tt);
  }

  pub the_places : Alike R R' h → Alike (outside.the_row R) (outside.the_row R') ((the_former this).map R.Denot R'.Denot h)
  the_places alike =
      view_places stored this view (λ X Y k s. refl) (λ X s. refl) R.Denot R'.Denot h
      (outside.the_row R).coded (outside.the_row R').coded (invariant R.Denot) (invariant R'.Denot)
      (λ s p q. refl) (λ s p q. refl) (λ s p. tt) (λ s p. tt) (over (inside.the_row R)) (over (inside.the_row R'))
      (struct_places (inside.the_type R) (inside.the_type R') ((λ b. holding b (h b.value)), tt) _ (λ s. refl) refl
      (laid _ _ _ (in_box alike), tt))
