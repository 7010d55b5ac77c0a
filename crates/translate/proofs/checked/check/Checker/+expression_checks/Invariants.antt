use Rattle.std.proofs.Common.{◌+◌, ◌*◌}
use Rattle.translate.proofs.checked.check.Checker.+expression_checks.Given as goal

abbrev pub decreases-check_args : goal.decreases-check_args
decreases-check_args l = 4 * l.args.end

abbrev pub decreases-check_expr : goal.decreases-check_expr
decreases-check_expr l = 4 * l.n + 1
