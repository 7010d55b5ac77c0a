-- What reading answers, by which texts there are.
use Rattle.std.specs.Prelude.{ℕ, ◌≡◌, List, ◌↔◌, ◌⊎◌}
use Rattle.lang.specs.declared.refusal.Refusal.TheVariants.{Unexpected, NestTooDeep}
use Rattle.meaning.specs.Tree.{Command}
use Rattle.grammar.specs.Words.{Word}
use Rattle.grammar.specs.Grammar.{Text}
use Rattle.grammar.specs.Refusals.{Leaves, TooDeep}
use Rattle.grammar.specs.Machine.{fine, bad}
use Rattle.grammar.specs.Table.{reading}

-- Words are read as a tree exactly if they are a text of it, they are refused by 7 (Unexpected) exactly where they leave the grammar and by 8
-- (NestTooDeep) exactly where they pass the greatest nest; one of the three is always so; and they are a text of one tree at most, whatever the nest.
pub record Decides (ws : List Word) : Type 0 where
  pub accepts : (t : Command) → Text 0 ws t ↔ (reading ws ≡ fine t)
  pub seven : (r : List Word) → Leaves ws r ↔ (reading ws ≡ bad Unexpected r)
  pub eight : (r : List Word) → TooDeep ws r ↔ (reading ws ≡ bad NestTooDeep r)
  pub always : ((t : Command) × Text 0 ws t) ⊎ (((r : List Word) × Leaves ws r) ⊎ ((r : List Word) × TooDeep ws r))
  pub one_tree : (j k : ℕ) (t u : Command) → Text j ws t → Text k ws u → t ≡ u

abbrev pub ReadingDecides : Type 0
ReadingDecides = (ws : List Word) → Decides ws
