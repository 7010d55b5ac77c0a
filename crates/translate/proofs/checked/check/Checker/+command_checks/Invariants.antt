use Rattle.std.proofs.Common.{◌+◌, ◌*◌}
use Rattle.translate.proofs.checked.check.Checker.+command_checks.Given as goal

abbrev pub decreases-check_command : goal.decreases-check_command
decreases-check_command l = 4 * l.n + 3

abbrev pub decreases-check_commands : goal.decreases-check_commands
decreases-check_commands l = 4 * l.commands.end + 2

abbrev pub decreases-check_routine : goal.decreases-check_routine
decreases-check_routine l = 4 * l.end + 1

abbrev pub decreases-check_routines : goal.decreases-check_routines
decreases-check_routines l = 4 * l.routines.end + 2
