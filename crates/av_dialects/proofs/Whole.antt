-- What is computed of the whole table.
use Rattle.std.proofs.Common.{refl}
use Rattle.av_dialects.specs.Rows.{forms, kinds, overflow_flags, predicates, results}
use Rattle.av_dialects.specs.TableLaws.{EndsLaw, FormExamples, TypesLaw, WordsLaw}

pub ends-law : EndsLaw
unfolding forms
ends-law = refl

pub types-law : TypesLaw
unfolding forms results
types-law = refl

pub words-law : WordsLaw
unfolding predicates kinds overflow_flags
words-law = (refl, refl, refl)

pub form-examples : FormExamples
form-examples = (refl, refl)
