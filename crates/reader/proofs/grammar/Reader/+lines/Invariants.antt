use Rattle.std.proofs.Common.{ℕ, ◌+◌, ◌*◌}
use Rattle.reader.specs.declared.grammar.begins.Line.{Line}
use Rattle.reader.specs.declared.grammar.begins.Line.TheVariants.{Command, Expr, Prefix}
use Rattle.reader.specs.declared.grammar.operators.Level.{Level}
use Rattle.reader.specs.declared.grammar.operators.Level.TheVariants.{Or, And, Term, Factor}
use Rattle.reader.specs.Looking.{unread, Went, Grew}
use Rattle.reader.proofs.grammar.Reader.+lines.Given as goal

-- how many calls may come before a word is passed
abbrev pub in_line : Line → ℕ
in_line Command = 2
in_line Expr = 15
in_line Prefix = 3

abbrev pub at_level : Level → ℕ
at_level Or = 12
at_level And = 10
at_level Term = 7
at_level Factor = 5

abbrev pub decreases-act : goal.decreases-act
decreases-act l = 18 * unread l.self.now + 0

abbrev pub decreases-answer : goal.decreases-answer
decreases-answer l = 18 * unread l.self.now + 0

abbrev pub decreases-args : goal.decreases-args
decreases-args l = 18 * unread l.self.now + 17

abbrev pub decreases-assign : goal.decreases-assign
decreases-assign l = 18 * unread l.self.now + 0

abbrev pub decreases-atom : goal.decreases-atom
decreases-atom l = 18 * unread l.self.now + 1

abbrev pub decreases-bind : goal.decreases-bind
decreases-bind l = 18 * unread l.self.now + 0

abbrev pub decreases-block : goal.decreases-block
decreases-block l = 18 * unread l.self.now + 0

abbrev pub decreases-body : goal.decreases-body
decreases-body l = 18 * unread l.self.now + 4

abbrev pub decreases-brackets : goal.decreases-brackets
decreases-brackets l = 18 * unread l.self.now + 0

abbrev pub decreases-call : goal.decreases-call
decreases-call l = 18 * unread l.self.now + 0

abbrev pub decreases-choice : goal.decreases-choice
decreases-choice l = 18 * unread l.self.now + 0

abbrev pub decreases-command : goal.decreases-command
decreases-command l = 18 * unread l.self.now + 1

abbrev pub decreases-commands : goal.decreases-commands
decreases-commands l = 18 * unread l.self.now + 4

abbrev pub decreases-compared : goal.decreases-compared
decreases-compared l = 18 * unread l.self.now + 0

abbrev pub decreases-datum : goal.decreases-datum
decreases-datum l = 18 * unread l.self.now + 0

abbrev pub decreases-declaration : goal.decreases-declaration
decreases-declaration l = 18 * unread l.self.now + 1

abbrev pub decreases-declared : goal.decreases-declared
decreases-declared l = 18 * unread l.self.now + 2

abbrev pub decreases-expr : goal.decreases-expr
decreases-expr l = 18 * unread l.self.now + 14

abbrev pub decreases-grouped : goal.decreases-grouped
decreases-grouped l = 18 * unread l.self.now + (at_level l.level + 1)

abbrev pub decreases-line : goal.decreases-line
decreases-line l = 18 * unread l.self.now + in_line l.line

abbrev pub decreases-named_atom : goal.decreases-named_atom
decreases-named_atom l = 18 * unread l.self.now + 0

abbrev pub decreases-prefix : goal.decreases-prefix
decreases-prefix l = 18 * unread l.self.now + 2

abbrev pub decreases-repeat : goal.decreases-repeat
decreases-repeat l = 18 * unread l.self.now + 0

abbrev pub decreases-routine : goal.decreases-routine
decreases-routine l = 18 * unread l.self.now + 0

abbrev pub decreases-side : goal.decreases-side
decreases-side l = 18 * unread l.self.now + at_level l.level

abbrev pub decreases-test : goal.decreases-test
decreases-test l = 18 * unread l.self.now + 9

abbrev pub decreases-unary : goal.decreases-unary
decreases-unary l = 18 * unread l.self.now + 0

abbrev pub invariant-args-loop-self : goal.invariant-args-loop-self
invariant-args-loop-self l = Went l.initial.self l.self × Grew l.initial.self l.self

abbrev pub decreases-args-loop-self : goal.decreases-args-loop-self
decreases-args-loop-self l = unread l.self

abbrev pub invariant-commands-loop-self : goal.invariant-commands-loop-self
invariant-commands-loop-self l = Went l.initial.self l.self × Grew l.initial.self l.self

abbrev pub decreases-commands-loop-self : goal.decreases-commands-loop-self
decreases-commands-loop-self l = unread l.self

abbrev pub invariant-declared-loop-label : goal.invariant-declared-loop-label
invariant-declared-loop-label l = Went l.initial.self l.self × Grew l.initial.self l.self

abbrev pub decreases-declared-loop-label : goal.decreases-declared-loop-label
decreases-declared-loop-label l = unread l.self

abbrev pub invariant-grouped-loop-label : goal.invariant-grouped-loop-label
invariant-grouped-loop-label l = Went l.initial.self l.self × Grew l.initial.self l.self

abbrev pub decreases-grouped-loop-label : goal.decreases-grouped-loop-label
decreases-grouped-loop-label l = unread l.self
