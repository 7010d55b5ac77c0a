-- The machine line by line, as a reader with one function for each line goes: each law holds for whatever is to come after the line.
use Rattle.std.specs.Prelude.{◌<◌, ◌≡◌, Bool, true, false, cond, ◌↔◌, nat_le, List, [], ◌∷◌}
use Rattle.lang.specs.declared.word.Kind.{Kind}
use Rattle.lang.specs.declared.refusal.Refusal.TheVariants.{Unexpected, NestTooDeep}
use Rattle.lang.specs.Kinds.{same_kind}
use Rattle.meaning.specs.Tree.{no_args, arg, no_data, no_routines, Command, no_commands, then}
use Rattle.grammar.specs.Words.{Word, Is}
use Rattle.grammar.specs.Grammar.{Line, Tree, command_line, in_command, block_line, data_line, routines_line, commands_line, datum_line, routine_line, args_line, some_args, expr_line, in_expr, either_line, both_line, test_line, sum_line, product_line, prefix_line, in_prefix, atom_line}
use Rattle.grammar.specs.Machine.{Part, tok, line, leave, depth, Means, Alts, over, empty, word, begins, enters, Out, bad, skip, nothing, run}
use Rattle.grammar.specs.Table.{Row, the, data_more, routines_more, commands_more, args_more, or_more, and_more, test_rest, sum_more, product_more, Meant, rules}

-- whether a word of a kind begins one of some alternatives
abbrev pub starts : {l : Row} → Alts Meant l → Kind → Bool
starts over k = false
starts (empty t) k = false
starts (word j ps b more) k = cond (same_kind j k) true (starts more k)
starts (begins inner ps b more) k = cond (starts inner k) true (starts more k)
starts (enters inner b) k = starts inner k

-- the machine on the words ws with the parts ps to come
abbrev pub onward : (ws : List Word) (ps : List (Part Row)) → (Means Meant ps → Command) → Out Command
onward ws ps f = run Meant rules ws ps f

-- the machine after the word w
abbrev pub after : (w : Word) (ws : List Word) (ps : List (Part Row)) → (Means Meant ps → Command) → Out Command
after w ws ps f = cond (nat_le (depth ps) 64) (onward ws ps f) (bad NestTooDeep (w ∷ ws))

-- a word that has to come is there, or another is, or there is none
pub record HasToCome (j : Kind) (ps : List (Part Row)) (f : Means Meant (tok j ∷ ps) → Command) : Type 0 where
  pub comes : (w : Word) (ws : List Word) → w.kind ≡ j → onward (w ∷ ws) (tok j ∷ ps) f ≡ after w ws ps (λ a. f (w, a))
  pub other : (w : Word) (ws : List Word) → same_kind j w.kind ≡ false → onward (w ∷ ws) (tok j ∷ ps) f ≡ bad Unexpected (w ∷ ws)
  pub ended : onward [] (tok j ∷ ps) f ≡ bad Unexpected []

-- a word that does not begin a line, and the end: the line is read as nothing, or refused
pub record Unbegun (l : Row) (ps : List (Part Row)) (f : Means Meant (line l ∷ ps) → Command) : Type 0 where
  pub at_word : (w : Word) (ws : List Word) → starts (rules l) w.kind ≡ false
      → onward (w ∷ ws) (line l ∷ ps) f ≡ skip (nothing Meant (rules l)) (w ∷ ws) (λ t. onward (w ∷ ws) ps (λ a. f (t, a)))
  pub at_end : onward [] (line l ∷ ps) f ≡ skip (nothing Meant (rules l)) [] (λ t. onward [] ps (λ a. f (t, a)))

-- a line that a word begins inside more than 64 lines is refused
abbrev pub BegunTooDeep : Type 0
BegunTooDeep = (l : Row) (w : Word) (ws : List Word) (ps : List (Part Row)) (f : Means Meant (line l ∷ ps) → Command)
    → starts (rules l) w.kind ≡ true → 64 < depth ps → onward (w ∷ ws) (line l ∷ ps) f ≡ bad NestTooDeep (w ∷ ws)

-- a line that counts is what stands inside it, and then it is left
pub record Counts (ws : List Word) (ps : List (Part Row)) : Type 0 where
  pub command : (f : Means Meant (line (the command_line) ∷ ps) → Command) → onward ws (line (the command_line) ∷ ps) f ≡ onward ws (line (the in_command) ∷ leave ∷ ps) f
  pub expr : (f : Means Meant (line (the expr_line) ∷ ps) → Command) → onward ws (line (the expr_line) ∷ ps) f ≡ onward ws (line (the in_expr) ∷ leave ∷ ps) f
  pub prefix : (f : Means Meant (line (the prefix_line) ∷ ps) → Command) → onward ws (line (the prefix_line) ∷ ps) f ≡ onward ws (line (the in_prefix) ∷ leave ∷ ps) f
  pub left : (f : Means Meant ps → Command) → onward ws (leave ∷ ps) f ≡ onward ws ps f

-- the line l is its first operand m and what follows that, r
abbrev pub Operand : (l m r : Row) → (Word → Meant m → Meant r → Meant l) → Type 0
Operand l m r b = (w : Word) (ws : List Word) (ps : List (Part Row)) (f : Means Meant (line l ∷ ps) → Command)
    → onward (w ∷ ws) (line l ∷ ps) f ≡ onward (w ∷ ws) (line m ∷ line r ∷ ps) (λ a. f (b w a.0 a.1.0, a.1.1))

pub record Operands : Type 0 where
  pub either : Operand (the either_line) (the both_line) or_more (λ w t f. f w.place t)
  pub both : Operand (the both_line) (the test_line) and_more (λ w t f. f w.place t)
  pub test : Operand (the test_line) (the sum_line) test_rest (λ w t f. f w.place t)
  pub sum : Operand (the sum_line) (the product_line) sum_more (λ w t f. f w.place t)
  pub product : Operand (the product_line) (the prefix_line) product_more (λ w t f. f w.place t)
  pub args : Operand (the some_args) (the expr_line) args_more (λ w t f. f (arg no_args t))

-- the line l, where a word begins m, is m
abbrev pub PassesTo : (l m : Line) → (Tree m → Tree l) → Type 0
PassesTo l m b = (w : Word) (ws : List Word) (ps : List (Part Row)) (f : Means Meant (line (the l) ∷ ps) → Command) → starts (rules (the m)) w.kind ≡ true
    → onward (w ∷ ws) (line (the l) ∷ ps) f ≡ onward (w ∷ ws) (line (the m) ∷ ps) (λ a. f (b a.0, a.1))

pub record Passing : Type 0 where
  pub block : PassesTo in_command block_line (λ t. t)
  pub either : PassesTo in_expr either_line (λ t. t)
  pub atom : PassesTo in_prefix atom_line (λ t. t)
  pub args : PassesTo args_line some_args (λ t. t)

-- the list l, where a word begins its first m, is that and what goes on with it, r
abbrev pub Listed : (l m r : Row) → (Meant m → Meant r → Meant l) → Type 0
Listed l m r b = (w : Word) (ws : List Word) (ps : List (Part Row)) (f : Means Meant (line l ∷ ps) → Command) → starts (rules m) w.kind ≡ true
    → onward (w ∷ ws) (line l ∷ ps) f ≡ onward (w ∷ ws) (line m ∷ line r ∷ ps) (λ a. f (b a.0 a.1.0, a.1.1))

pub record Lists : Type 0 where
  pub data_first : Listed (the data_line) (the datum_line) data_more (λ d f. f (d no_data))
  pub data_next : Listed data_more (the datum_line) data_more (λ d f ds. f (d ds))
  pub routines_first : Listed (the routines_line) (the routine_line) routines_more (λ d f. f (d no_routines))
  pub routines_next : Listed routines_more (the routine_line) routines_more (λ d f rs. f (d rs))
  pub commands_first : Listed (the commands_line) (the command_line) commands_more (λ c f. f (then no_commands c))
  pub commands_next : Listed commands_more (the command_line) commands_more (λ c f cs. f (then cs c))

-- all of it, and that a word is of a kind exactly if its kind is that one
pub record LinesHold : Type 0 where
  pub kind_is : (k : Kind) (w : Word) → Is k w ↔ (w.kind ≡ k)
  pub has_to_come : (j : Kind) (ps : List (Part Row)) (f : Means Meant (tok j ∷ ps) → Command) → HasToCome j ps f
  pub unbegun : (l : Row) (ps : List (Part Row)) (f : Means Meant (line l ∷ ps) → Command) → Unbegun l ps f
  pub too_deep : BegunTooDeep
  pub counts : (ws : List Word) (ps : List (Part Row)) → Counts ws ps
  pub operands : Operands
  pub passing : Passing
  pub lists : Lists
