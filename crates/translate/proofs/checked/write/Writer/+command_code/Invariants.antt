use Rattle.std.proofs.Common.{◌+◌, ◌*◌}
use Rattle.translate.proofs.checked.write.Writer.+command_code.Given as goal

abbrev pub decreases-write_command : goal.decreases-write_command
decreases-write_command l = 4 * l.n + 3

abbrev pub decreases-write_commands : goal.decreases-write_commands
decreases-write_commands l = 4 * l.commands.end + 2

abbrev pub decreases-write_routine : goal.decreases-write_routine
decreases-write_routine l = 4 * l.end + 1

abbrev pub decreases-write_routines : goal.decreases-write_routines
decreases-write_routines l = 4 * l.routines.end + 2
