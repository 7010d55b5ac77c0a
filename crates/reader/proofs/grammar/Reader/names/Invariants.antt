use Rattle.std.proofs.Common.{◌≡◌}
use Rattle.reader.specs.Looking.{unread, Went}
use Rattle.reader.proofs.grammar.Reader.names.Given as goal

abbrev pub invariant-loop-self : goal.invariant-loop-self
invariant-loop-self l = Went l.initial.self l.self × (l.self.tree ≡ l.initial.self.tree)

abbrev pub decreases-loop-self : goal.decreases-loop-self
decreases-loop-self l = unread l.self
