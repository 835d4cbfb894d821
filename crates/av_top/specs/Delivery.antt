-- What a delivery leaves in the output and the notes.
use Rattle.std.specs.Prelude.{ℕ, List, Option}
use Rattle.av_top.specs.Outcome.{Same, Delivered, Undelivered}
use Rattle.av_top.specs.declared.delivery.Delivery.{Delivery}
use Rattle.av_top.specs.declared.delivery.Delivery.TheVariants.{Done, Fault, NoMemory}

-- both texts whole, or the fault's part of them, or nothing
abbrev pub DeliveryEnds : Delivery → (held held' : Option (List ℕ)) (faults faults' : ℕ) (noted noted' : Option (List ℕ)) (nfaults nfaults' : ℕ) (text report : List ℕ) → Type 0
DeliveryEnds Done h h' f f' n n' nf nf' text report = Delivered h h' f f' n n' nf nf' text report
DeliveryEnds Fault h h' f f' n n' nf nf' text report = Undelivered h h' f f' n n' nf nf' text report
DeliveryEnds NoMemory h h' f f' n n' nf nf' text report = Same h h' f f' × Same n n' nf nf'
