use Rattle.std.proofs.Common.{rules}
use Rattle.tables.proofs.OneTree.{one_tree}
use Rattle.tables.proofs.TableLaws.{accepts}
use Rattle.tables.proofs.table.Table.check.Goals as goal

pub returns-then-not-is_table-clause-accepts : goal.returns-then-not-is_table-clause-accepts
returns-then-not-is_table-clause-accepts c = accepts c.args.points c.args.rows.now _ (search rules)

pub returns-then-not-is_table-clause-one_tree : goal.returns-then-not-is_table-clause-one_tree
returns-then-not-is_table-clause-one_tree c = one_tree c.args.rows.now

pub returns-then-points-gt-MOST_POINTS-clause-accepts : goal.returns-then-points-gt-MOST_POINTS-clause-accepts
returns-then-points-gt-MOST_POINTS-clause-accepts c = accepts c.args.points c.args.rows.now _ (search rules)

pub returns-then-points-gt-MOST_POINTS-clause-one_tree : goal.returns-then-points-gt-MOST_POINTS-clause-one_tree
returns-then-points-gt-MOST_POINTS-clause-one_tree c = one_tree c.args.rows.now

pub returns-clause-accepts : goal.returns-clause-accepts
returns-clause-accepts c = accepts c.args.points c.args.rows.now _ (search rules)

pub returns-clause-one_tree : goal.returns-clause-one_tree
returns-clause-one_tree c = one_tree c.args.rows.now
