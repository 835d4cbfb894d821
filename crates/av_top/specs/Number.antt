-- The number that the program exits with.
use Rattle.std.specs.Prelude.{ℕ}
use Rattle.av_top.specs.declared.status.Status.{Status}
use Rattle.av_top.specs.declared.status.Status.TheVariants.{Done, BadUsage, BadText, ReadFault, WriteFault, NoMemory, TooLarge, NotBuilt}

-- the numbers are the product's own, and stay with their statuses
abbrev pub number_of : Status → ℕ
number_of Done = 0
number_of BadUsage = 1
number_of (BadText place fault) = 2
number_of ReadFault = 4
number_of WriteFault = 5
number_of NoMemory = 6
number_of TooLarge = 10
number_of NotBuilt = 11
