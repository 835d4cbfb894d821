-- What is computed of the whole table.
use Rattle.std.proofs.Common.{refl}
use Rattle.av_dialects.specs.Rows.{forms, names as dialect_names, results}
use Rattle.av_signatures.specs.Rows.{demands, dropped, dropped_of_functions, names, operands, properties, sources}
use Rattle.av_signatures.specs.TableLaws.{KeysLaw, PlacesLaw, PropertiesLaw, RowsLaw}

pub rows-law : RowsLaw
unfolding names dialect_names sources results
rows-law = (refl, refl)

pub properties-law : PropertiesLaw
unfolding properties dropped dropped_of_functions
properties-law = refl

pub keys-law : KeysLaw
unfolding properties forms
keys-law = refl

pub places-law : PlacesLaw
unfolding operands sources demands properties
places-law = refl
