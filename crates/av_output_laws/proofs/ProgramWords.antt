-- The words that are printed for a program.
use Rattle.std.specs.Prelude.{ℕ, ◌+◌, ℤ, List, [], ◌∷◌, ◌++◌, codes}
use Rattle.av_bits.specs.declared.types.Width.TheVariants.{W32}
use Rattle.av_lex.specs.declared.token.Kind.TheVariants as kinds
use Rattle.av_lex.specs.declared.token.Sign.TheVariants as sign
use Rattle.av_ir.specs.declared.ty.Ty.{Ty}
use Rattle.av_printer.specs.Types.{type_pieces}
use Rattle.av_print_laws.specs.Spacing as spacing
use Rattle.av_totree.specs.Constants.{signed_low}
use Rattle.av_totree.specs.Names.{argument_name, operation_name}
use Rattle.av_totree.specs.Types.{type_of}
use Rattle.av_program_laws.specs.Programs.{Subscript, Line, constant, sum, load, store, Step, single, counted, Program}
use Rattle.av_program_laws.specs.Walks.{Place, buffer, type_at, name_at, next, after_line, inside, after_step, body_place}
use Rattle.av_read_laws.specs.Making.{Word}
use Rattle.av_output_laws.proofs.Parts.{sign_word, number_words, mark_words}
use Rattle.av_output_laws.proofs.Subscripts.{subscript_words}

abbrev pub plain_word : List ℕ → Word
plain_word text = (kinds.Word, text)

abbrev pub value_word : List ℕ → Word
value_word text = (kinds.ValId, text)

abbrev pub type_words : Ty → List Word
type_words ty = spacing.words_of (type_pieces (type_of ty))

-- ---- operations beside their results
abbrev pub constant_words : ℤ → List Word
constant_words z = plain_word (codes "arith.constant") ∷ (number_words z ++ (sign_word sign.Colon ∷ plain_word (codes "i32") ∷ []))

abbrev pub sum_words : List ℕ → List ℕ → List Word → List Word
sum_words left right type =
    plain_word (codes "arith.addi") ∷ value_word left ∷ sign_word sign.Comma ∷ value_word right ∷ sign_word sign.Colon ∷ type

-- a buffer, the subscript with its variable, a mark and a type
abbrev pub access_words : List ℕ → List ℕ → Subscript → ℕ → List Word → List Word
access_words buffer text at number type =
    value_word buffer ∷ sign_word sign.OpenSquare ∷ (subscript_words text at
    ++ (sign_word sign.CloseSquare ∷ (mark_words (codes "affvec.of") number ++ (sign_word sign.Colon ∷ type))))

abbrev pub load_words : List ℕ → List ℕ → Subscript → ℕ → List Word → List Word
load_words buffer text at number type = plain_word (codes "affine.load") ∷ access_words buffer text at number type

abbrev pub store_words : List ℕ → List ℕ → List ℕ → Subscript → ℕ → List Word → List Word
store_words stored buffer text at number type =
    plain_word (codes "affine.store") ∷ value_word stored ∷ sign_word sign.Comma ∷ access_words buffer text at number type

abbrev pub result_words : List ℕ → List Word → List Word
result_words name form = value_word name ∷ sign_word sign.Equal ∷ form

-- ---- lines
abbrev pub line_words : ℕ → Line → Place → List Word
line_words counter (constant pattern) place = result_words (operation_name place.operations) (constant_words (signed_low W32 pattern))
line_words counter (sum left right) place =
    result_words (operation_name place.operations) (sum_words (name_at place left) (name_at place right) (type_words (type_at place left)))
line_words counter (load from at) place =
    result_words (operation_name place.operations)
    (load_words (name_at place from) (name_at place counter) at place.number (type_words (type_at place from)))
line_words counter (store stored into at) place =
    store_words (name_at place stored) (name_at place into) (name_at place counter) at place.number (type_words (type_at place into))

unfoldable pub lines_words : ℕ → List Line → Place → List Word
lines_words counter [] place = []
lines_words counter (line ∷ lines) place = line_words counter line place ++ lines_words counter lines (after_line line place)

-- ---- steps
abbrev pub loop_words : List ℕ → ℤ → ℤ → List Word → ℕ → List Word
loop_words name lower upper inside number =
    plain_word (codes "affine.for") ∷ value_word name ∷ sign_word sign.Equal ∷ (number_words lower ++ (plain_word (codes "to") ∷ (number_words upper
    ++ (sign_word sign.OpenCurly ∷ (inside ++ (sign_word sign.CloseCurly ∷ mark_words (codes "affvec.loop") number))))))

abbrev pub step_words : Step → Place → List Word
step_words (single pattern) place = result_words (operation_name place.operations) (constant_words (signed_low W32 pattern))
step_words (counted lower upper lines) place =
    loop_words (argument_name place.arguments) lower upper (lines_words (next place) lines (inside place)) place.loops

unfoldable pub steps_words : List Step → Place → List Word
steps_words [] place = plain_word (codes "return") ∷ []
steps_words (step ∷ steps) place = step_words step place ++ steps_words steps (after_step step place)

-- ---- the function and the module
abbrev pub argument_words : ℕ → ℕ → List Word
argument_words number size = value_word (argument_name number) ∷ sign_word sign.Colon ∷ type_words (buffer size)

unfoldable pub more_arguments_words : ℕ → List ℕ → List Word
more_arguments_words number [] = []
more_arguments_words number (size ∷ sizes) =
    sign_word sign.Comma ∷ (argument_words number size ++ more_arguments_words (number + 1) sizes)

unfoldable pub arguments_words : ℕ → List ℕ → List Word
arguments_words number [] = []
arguments_words number (size ∷ sizes) = argument_words number size ++ more_arguments_words (number + 1) sizes

abbrev pub function_words : List ℕ → List Word → List Word → List Word
function_words name arguments inside =
    plain_word (codes "func.func") ∷ (kinds.SymId, codes "@" ++ name) ∷ sign_word sign.OpenRound ∷ (arguments
    ++ (sign_word sign.CloseRound ∷ sign_word sign.OpenCurly ∷ (inside ++ (sign_word sign.CloseCurly ∷ []))))

abbrev pub program_words : Program → List Word
program_words p =
    plain_word (codes "module") ∷ sign_word sign.OpenCurly
    ∷ (function_words p.name (arguments_words 0 p.sizes) (steps_words p.steps (body_place p)) ++ (sign_word sign.CloseCurly ∷ []))
