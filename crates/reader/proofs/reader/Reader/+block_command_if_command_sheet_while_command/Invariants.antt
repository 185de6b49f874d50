-- The measure is the bytes left, then the level.
use Rattle.std.proofs.Common.{◌+◌, ◌-◌, ◌*◌, length}
use Rattle.reader.proofs.reader.Reader.+block_command_if_command_sheet_while_command.Given as goal

abbrev pub decreases-block : goal.decreases-block
decreases-block l = 4 * (length l.self.now.text.now - l.self.now.progress.position.at)

abbrev pub decreases-if_command : goal.decreases-if_command
decreases-if_command l = 4 * (length l.self.now.text.now - l.self.now.progress.position.at) + 1

abbrev pub decreases-while_command : goal.decreases-while_command
decreases-while_command l = 4 * (length l.self.now.text.now - l.self.now.progress.position.at) + 1

abbrev pub decreases-command : goal.decreases-command
decreases-command l = 4 * (length l.self.now.text.now - l.self.now.progress.position.at) + 2

abbrev pub decreases-sheet : goal.decreases-sheet
decreases-sheet l = 4 * (length l.self.now.text.now - l.self.now.progress.position.at) + 3
