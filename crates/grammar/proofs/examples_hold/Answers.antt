use mathlib.Core.Path.{refl}
use Rattle.grammar.proofs.examples_hold.Goals as goal

pub returns : goal.returns
returns c = (refl, refl, refl, refl, refl, (refl, refl), (refl, refl, refl), (refl, refl, refl))
