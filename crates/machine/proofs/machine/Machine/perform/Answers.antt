use Rattle.std.proofs.Common.{rules}
use Rattle.meaning.specs.Tree.{minus, negate, add, sub, mul, equal, less}
use Rattle.meaning.specs.Operators.{worked, conjoined, disjoined, with_sign}
use Rattle.machine.proofs.machine.Machine.perform.Goals as goal

pub returns-in-Minus : goal.returns-in-Minus
returns-in-Minus g c = let did = c.unary.ensures (with_sign minus) (λ v r e. e.1) in search rules

pub returns-in-Not : goal.returns-in-Not
returns-in-Not g c = let did = c.unary-in-Not.ensures (with_sign negate) (λ v r e. e.1) in search rules

pub returns-in-Add : goal.returns-in-Add
returns-in-Add g c = let did = c.binary.ensures (worked add) (λ u v r e. e.2) in search rules

pub returns-in-Sub : goal.returns-in-Sub
returns-in-Sub g c = let did = c.binary-in-Sub.ensures (worked sub) (λ u v r e. e.2) in search rules

pub returns-in-Mul : goal.returns-in-Mul
returns-in-Mul g c = let did = c.binary-in-Mul.ensures (worked mul) (λ u v r e. e.2) in search rules

pub returns-in-Equal : goal.returns-in-Equal
returns-in-Equal g c = let did = c.binary-in-Equal.ensures (worked equal) (λ u v r e. e.2) in search rules

pub returns-in-Less : goal.returns-in-Less
returns-in-Less g c = let did = c.binary-in-Less.ensures (worked less) (λ u v r e. e.2) in search rules

pub returns-in-And : goal.returns-in-And
returns-in-And g c = let did = c.binary-in-And.ensures conjoined (λ u v r e. e.2) in search rules

pub returns-in-Or : goal.returns-in-Or
returns-in-Or g c = let did = c.binary-in-Or.ensures disjoined (λ u v r e. e.2) in search rules
