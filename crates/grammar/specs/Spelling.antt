-- Whether words are a text is a matter of their kinds, not of their bytes and places.
use Rattle.std.specs.Prelude.{ℕ, ◌≡◌, List, [], ◌∷◌}
use Rattle.lang.specs.declared.word.Kind.{Kind}
use Rattle.meaning.specs.Tree.{Command}
use Rattle.grammar.specs.Words.{Word}
use Rattle.grammar.specs.Grammar.{Text}

abbrev pub kinds : List Word → List Kind
kinds [] = []
kinds (w ∷ ws) = w.kind ∷ kinds ws

-- words of the same kinds as a text's are a text, with the nest kept as there
abbrev pub KindsSuffice : Type 0
KindsSuffice = (k : ℕ) (ws vs : List Word) (t : Command) → kinds ws ≡ kinds vs → Text k ws t → (u : Command) × Text k vs u
