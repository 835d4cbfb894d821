use Rattle.av_dialects.proofs.Names.{what-is-found}
use Rattle.av_dialects.proofs.table.number_in.Goals as goal

pub returns-clause-found : goal.returns-clause-found
returns-clause-found c =
    what-is-found (λ row. row.0.now) c.args.name.now c.args.rows.now c.place_of.result c.place_of.ensures.found c.place_of.ensures.within
