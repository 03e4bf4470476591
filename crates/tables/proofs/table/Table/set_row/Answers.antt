use Rattle.tables.proofs.Entries.{fit_set}
use Rattle.tables.proofs.table.Table.set_row.Goals as goal

pub invariant_of-self-clause-fit : goal.invariant_of-self-clause-fit
invariant_of-self-clause-fit c = fit_set c.args.self.now.rows _ c.args.row c.args.self.now.fit c.if-not-is_in_range.ensures
