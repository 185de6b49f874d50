use Rattle.std.proofs.Common.{sym}
use Rattle.std.proofs.lemmas.List.{set_past}
use Rattle.reader.proofs.reader.put_row.Goals as goal

pub returns-else-slot-rows : goal.returns-else-slot-rows
returns-else-slot-rows c = sym (set_past _ _ _ c.if-slot-rows.false)
