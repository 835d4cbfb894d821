-- What a command that worked its answer out says of its input, its output and its notes together.
use Rattle.std.specs.Prelude.{◌≡◌, ℕ, List, Option}
use Rattle.std.specs.Io.KnownBytes.{Consumes, IsAtEnd}
use Rattle.av_top.specs.declared.request.Request.{Request}
use Rattle.av_top.specs.Answer.{Answers}

-- the two texts that answer these bytes, and no others do, were delivered as is said
pub record DeliversAnswer (request : Request) (bytes : List ℕ) (AreDelivered : List ℕ → List ℕ → Type 0) : Type 0 where
  pub text : List ℕ
  pub report : List ℕ
  pub answers : Answers request bytes text report
  pub only : (text' report' : List ℕ) → Answers request bytes text' report' → (text' ≡ text) × (report' ≡ report)
  pub delivered : AreDelivered text report

-- all that was left of the input was taken, and its answer was delivered as is said
pub record Answered (request : Request) (left left' : Option (List ℕ)) (AreDelivered : List ℕ → List ℕ → Type 0) : Type 0 where
  pub bytes : List ℕ
  pub taken : Consumes left left' bytes
  pub ends : IsAtEnd left'
  pub delivers : DeliversAnswer request bytes AreDelivered
