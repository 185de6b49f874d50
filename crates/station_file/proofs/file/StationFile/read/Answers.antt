use Rattle.std.proofs.Common.{sym, ap, ◌∙◌}
use Rattle.station_file.specs.Reading.{reading}
use Rattle.station_file.proofs.Back.{file-back}
use Rattle.station_file.proofs.Only.{file-only}
use Rattle.station_file.proofs.file.StationFile.read.Goals as goal

pub returns-clause-back : goal.returns-clause-back
returns-clause-back c = λ f file. c.fields_of.ensures ∙ ap reading file.laid ∙ file-back f file.right

pub returns-clause-only : goal.returns-clause-only
returns-clause-only c = λ f told. file-only c.args.bytes.now f (λ i. (c.type_inv.bytes i).fits) (sym c.fields_of.ensures ∙ told)
