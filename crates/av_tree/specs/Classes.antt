-- What a class of tokens is: which tests it may stand for, and what it does to the brackets.
use Rattle.std.specs.Prelude.{Bool, true, false}
use Rattle.av_lex.specs.declared.token.Sign.TheVariants as sign
use Rattle.av_tree.specs.declared.class.Class.{Class}
use Rattle.av_tree.specs.declared.class.Class.TheVariants as class
use Rattle.av_tree.specs.declared.class.Keyword.TheVariants as key
use Rattle.av_tree.specs.declared.class.Bracket.{Bracket}
use Rattle.av_tree.specs.declared.class.Bracket.TheVariants as bracket
use Rattle.av_tree.specs.declared.table.Test.{Test}
use Rattle.av_tree.specs.declared.table.Test.TheVariants as test

-- any word
abbrev pub is_word : Class → Bool
is_word (class.Word _) = true
is_word class.Scalar = true
is_word class.OtherWord = true
is_word _ = false

-- any word but those of divisions
abbrev pub is_parameter : Class → Bool
is_parameter (class.Word key.Division) = false
is_parameter c = is_word c

-- any word but `function_type`
abbrev pub is_entry_name : Class → Bool
is_entry_name (class.Word key.FunctionType) = false
is_entry_name c = is_word c

-- whether a token of the class may stand for the test
abbrev pub fits_of : Test → Class → Bool
fits_of test.Number class.Zero = true
fits_of test.Number class.Positive = true
fits_of test.Zero class.Zero = true
fits_of test.DimX class.DimX = true
fits_of test.ScalX class.ScalX = true
fits_of test.Scalar class.Scalar = true
fits_of test.ValId class.ValId = true
fits_of test.SymId class.SymId = true
fits_of test.CaretId class.CaretId = true
fits_of test.HashDigits class.HashDigits = true
fits_of test.HashWord class.HashWord = true
fits_of test.HashId class.HashDigits = true
fits_of test.HashId class.HashWord = true
fits_of test.HashId class.HashOther = true
fits_of test.AliasOnly class.HashDigits = true
fits_of test.AliasOnly class.HashOther = true
fits_of test.String class.QuotedModule = true
fits_of test.String class.QuotedFunc = true
fits_of test.String class.Quoted = true
fits_of test.ModuleString class.QuotedModule = true
fits_of test.FuncString class.QuotedFunc = true
fits_of test.Word c = is_word c
fits_of test.Parameter c = is_parameter c
fits_of test.EntryName c = is_entry_name c
fits_of test.Terminator (class.Word key.Terminator) = true
fits_of test.Predicate (class.Word key.Predicate) = true
fits_of test.Kind (class.Word key.Kind) = true
fits_of test.Bool (class.Word key.Bool) = true
fits_of test.Visibility (class.Word key.Visibility) = true
fits_of test.OverflowFlag (class.Word key.OverflowFlag) = true
fits_of test.Division (class.Word key.Division) = true
fits_of _ _ = false

-- what a token of the class does to the brackets that are open
abbrev pub bracket_of : Class → Bracket
bracket_of (class.Sign sign.OpenRound) = bracket.Opens
bracket_of (class.Sign sign.OpenCurly) = bracket.Opens
bracket_of (class.Sign sign.OpenSquare) = bracket.Opens
bracket_of (class.Sign sign.OpenAngle) = bracket.Opens
bracket_of (class.Sign sign.CloseRound) = bracket.Closes
bracket_of (class.Sign sign.CloseCurly) = bracket.Closes
bracket_of (class.Sign sign.CloseSquare) = bracket.Closes
bracket_of (class.Sign sign.CloseAngle) = bracket.Closes
bracket_of _ = bracket.None
