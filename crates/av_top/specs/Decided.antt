-- How the status depends on the bytes of the input.
use Rattle.std.specs.Prelude.{◌≡◌, ℕ, List, Option, Some}
use Rattle.av_io.specs.Devices.{Rose}
use Rattle.av_top.specs.declared.request.Request.{Request}
use Rattle.av_top.specs.declared.status.TextFault.{TextFault}
use Rattle.av_top.specs.declared.status.Status.{Status}
use Rattle.av_top.specs.declared.status.Status.TheVariants.{Done, BadUsage, BadText, ReadFault, WriteFault, NoMemory, TooLarge, NotBuilt}
use Rattle.av_top.specs.FirstPathText.{IsFirstPathText, IsTooLarge, IsUnbuilt}
use Rattle.av_top.specs.Request.{IsVectorize}
use Rattle.av_top.specs.TextFault.{IsTextFault}

-- The words ask for this, and the source tells that these bytes are left of it.
pub record Asks (texts : List (List ℕ)) (left : Option (List ℕ)) (request : Request) (bytes : List ℕ) : Type 0 where
  pub words : IsVectorize texts request
  pub told : left ≡ Some bytes

-- No read and no write failed: none of the three counts of faults rose.
pub record NoFault (faults faults' wfaults wfaults' nfaults nfaults' : ℕ) : Type 0 where
  pub input : Rose faults faults' → ⊥
  pub output : Rose wfaults wfaults' → ⊥
  pub notes : Rose nfaults nfaults' → ⊥

-- a text is bad, at some place and for some fault
pub record IsBadText (status : Status) : Type 0 where
  pub place : ℕ
  pub fault : TextFault
  pub is : status ≡ BadText place fault

-- what a status says of the bytes that were left of the input
abbrev pub Decided : Status → Request → List ℕ → Type 0
Decided Done request bytes = IsFirstPathText request.size bytes
Decided WriteFault request bytes = IsFirstPathText request.size bytes
Decided (BadText place fault) request bytes = IsTextFault bytes place fault
Decided TooLarge request bytes = IsTooLarge bytes
Decided NotBuilt request bytes = IsUnbuilt request.size bytes
Decided BadUsage request bytes = Unit {0}
Decided ReadFault request bytes = Unit {0}
Decided NoMemory request bytes = Unit {0}
