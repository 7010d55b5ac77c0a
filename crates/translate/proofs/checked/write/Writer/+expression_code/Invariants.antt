use Rattle.std.proofs.Common.{◌+◌, ◌*◌}
use Rattle.translate.proofs.checked.write.Writer.+expression_code.Given as goal

abbrev pub decreases-write_args : goal.decreases-write_args
decreases-write_args l = 4 * l.args.end

abbrev pub decreases-write_expr : goal.decreases-write_expr
decreases-write_expr l = 4 * l.n + 1
