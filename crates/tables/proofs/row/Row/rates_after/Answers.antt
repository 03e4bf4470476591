use Rattle.tables.proofs.Valuing.{meant}
use Rattle.tables.proofs.row.Row.rates_after.Goals as goal

pub returns-clause-meaning : goal.returns-clause-meaning
returns-clause-meaning c = meant c.args.self c.args.years c.rates.result c.requires c.rates.ensures
