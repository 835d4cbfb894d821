-- Programs of the forms that are taken: one function over buffers of i32, with constants, and loops of plain operations.
use Rattle.std.specs.Prelude.{ℕ, ℤ, List}

-- the one subscript of an access: a number, the variable of the loop around it, or that with a number added or taken away
pub data Subscript : Type 0 where
  fixed : ℤ → Subscript
  variable : Subscript
  plus : ℤ → Subscript
  minus : ℤ → Subscript

-- an operation in a loop; values are named by their numbers, and a constant by its pattern
pub data Line : Type 0 where
  constant : ℕ → Line
  -- of two values
  sum : ℕ → ℕ → Line
  -- from a buffer
  load : ℕ → Subscript → Line
  -- of a value into a buffer
  store : ℕ → ℕ → Subscript → Line

-- an operation of the function: a constant, or a loop from a number to below another
pub data Step : Type 0 where
  single : ℕ → Step
  counted : ℤ → ℤ → List Line → Step

-- the name of the function, the sizes of its buffers, and its operations
pub record Program : Type 0 where
  pub name : List ℕ
  pub sizes : List ℕ
  pub steps : List Step
