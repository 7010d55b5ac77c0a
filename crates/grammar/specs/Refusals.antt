-- Where a text leaves the grammar, and where it passes the greatest nest.
use Rattle.std.specs.Prelude.{suc, ◌≡◌, List, [], ◌∷◌, ◌++◌, length}
use Rattle.meaning.specs.Tree.{Command}
use Rattle.grammar.specs.Words.{Word}
use Rattle.grammar.specs.Grammar.{Text}

-- the words u go on to a text, in which each line that begins in u keeps the nest
abbrev pub Viable : List Word → Type 0
Viable u = (vs : List Word) × (t : Command) × Text (suc (length vs)) (u ++ vs) t

-- with the first word of r after it, or as it ends where r is empty, u goes on to no text, whatever the nest
abbrev pub NoMore : List Word → List Word → Type 0
NoMore u [] = (t : Command) → Text (suc (length u)) u t → ⊥
NoMore u (w ∷ ws) = (vs : List Word) (t : Command) → Text (suc (length (u ++ w ∷ vs))) (u ++ w ∷ vs) t → ⊥

-- 7: the words ws leave the grammar where r begins: what stands before goes on to a text, and with the first word of r it does not
pub record Leaves (ws r : List Word) : Type 0 where
  pub before : List Word
  pub split : before ++ r ≡ ws
  pub viable : Viable before
  pub no_more : NoMore before r

-- 8: r begins with the first word at which a line of nest 65 begins: with that word what stands before it goes on to a text in which
-- each line that begins earlier keeps the nest, and to none in which each line that begins there or earlier does
pub record TooDeep (ws r : List Word) : Type 0 where
  pub before : List Word
  pub word : Word
  pub after : List Word
  pub here : r ≡ word ∷ after
  pub split : before ++ r ≡ ws
  pub so_far : (vs : List Word) × (t : Command) × Text (suc (length (word ∷ vs))) (before ++ word ∷ vs) t
  pub no_more : (vs : List Word) (t : Command) → Text (length (word ∷ vs)) (before ++ word ∷ vs) t → ⊥
