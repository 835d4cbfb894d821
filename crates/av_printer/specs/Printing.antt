-- What printing leaves in a sink, which held `held` and had counted `faults` before.
use Rattle.std.specs.Prelude.{◌≡◌, ℕ, ◌≤◌, List, length, take, Option}
use Rattle.std.specs.Io.KnownBytes.{Appends}
use Rattle.av_io.specs.Devices.{Rose}

-- it is as it was
pub record Same (held held' : Option (List ℕ)) (faults faults' : ℕ) : Type 0 where
  pub bytes : held' ≡ held
  pub count : faults' ≡ faults

-- it took a whole text, without a fault
pub record Whole (text : List ℕ) (held held' : Option (List ℕ)) (faults faults' : ℕ) : Type 0 where
  pub bytes : Appends held held' text
  pub count : faults' ≡ faults

-- it took the first bytes of a text, and then its count of faults rose
pub record Part (text : List ℕ) (held held' : Option (List ℕ)) (faults faults' : ℕ) : Type 0 where
  pub bytes : (n : ℕ) × (n ≤ length text) × Appends held held' (take n text)
  pub count : Rose faults faults'
