-- What the table derives the grammar reads.
use mathlib.Core.List.{List, ◌∷◌}
use Prim.Native.Nat.{ℕ, zero, suc, ◌+◌, ◌<◌}
use native.Mathlib.Omega.{arith}
use Rattle.lang.specs.declared.word.Kind.TheVariants.{Name}
use Rattle.meaning.specs.Tree.{Place, Expr}
use Rattle.grammar.specs.Words.{Word, Is}
use Rattle.grammar.specs.Grammar as g
use Rattle.grammar.specs.Grammar.{Line, command_line, in_command, block_line, data_line, routines_line, commands_line, datum_line, routine_line, names_line, more_names, args_line, some_args, expr_line, in_expr, either_line, both_line, test_line, sum_line, product_line, prefix_line, in_prefix, atom_line, Tree, Reads}
use Rattle.grammar.specs.Table.{Row, the, data_more, routines_more, commands_more, args_more, or_more, and_more, test_rest, sum_more, product_more, atom_rest, Meant, rules}
use Rattle.grammar.proofs.Derive.{Goal, alts, D, nil, a_tok, a_line, a_leave, here-empty, here-word, here-line, here_enter, later_word, later_line}

abbrev T : ℕ → (g : Goal Meant) → List Word → List Word → Rattle.grammar.proofs.Derive.Meant g → Type 0
T k g ws r a = D Meant rules k g ws r a

-- what goes on with a list makes a longer one of it
abbrev Longer : ℕ → (l : Line) → ℕ → List Word → List Word → (Tree l → Tree l) → Type 0
Longer k l n us r f = (ws : List Word) (t : Tree l) → Reads k l n ws us t → Reads k l n ws r (f t)

-- what goes on with a first operand makes a larger one of it
abbrev Onward : ℕ → (a b : Line) → (Expr → Tree a) → (Expr → Tree b) → ℕ → List Word → List Word → (Place → Expr → Expr) → Type 0
Onward k a b x y n us r f = (w : Word) (ws : List Word) (t : Expr) → Reads k a n (w ∷ ws) us (x t) → Reads k b n (w ∷ ws) r (y (f w.place t))

abbrev Outof : ℕ → (l : Row) → ℕ → List Word → List Word → Meant l → Type 0
Outof k (the l) n ws r t = Reads k l n ws r t
Outof k data_more n us r f = Longer k data_line n us r f
Outof k routines_more n us r f = Longer k routines_line n us r f
Outof k commands_more n us r f = Longer k commands_line n us r f
Outof k args_more n us r f = Longer k some_args n us r f
Outof k or_more n us r f = Onward k either_line either_line (λ t. t) (λ t. t) n us r f
Outof k and_more n us r f = Onward k both_line both_line (λ t. t) (λ t. t) n us r f
Outof k test_rest n us r f = Onward k sum_line test_line (λ t. t) (λ t. t) n us r f
Outof k sum_more n us r f = Onward k sum_line sum_line (λ t. t) (λ t. t) n us r f
Outof k product_more n us r f = Onward k product_line product_line (λ t. t) (λ t. t) n us r f
Outof k atom_rest n us r f = (x : Word) → Is Name x → Reads k atom_line n (x ∷ us) r (f x)

abbrev size : {k : ℕ} {g : Goal Meant} {ws r : List Word} {a : Rattle.grammar.proofs.Derive.Meant g} → T k g ws r a → ℕ
size nil = 0
size (a_tok e d) = suc (size d)
size (a_line d e) = suc (size d + size e)
size (a_leave d) = suc (size d)
size here-empty = 0
size (here-word e d) = suc (size d)
size (here-line d e) = suc (size d + size e)
size (here_enter o d) = suc (size d)
size (later_word d) = suc (size d)
size (later_line d) = suc (size d)

-- the same for what is smaller
abbrev Rec : ℕ → ℕ → Type 0
Rec k m = (l : Row) (n : ℕ) (ws r : List Word) (t : Meant l) (d : T k (alts n (rules l)) ws r t) → size d < m → Outof k l n ws r t

of_command : (k m : ℕ) → Rec k m → {n : ℕ} {ws r : List Word} {t : Meant (the command_line)} (d : T k (alts n (rules (the command_line))) ws r t) → size d < suc m → Outof k (the command_line) n ws r t
of_command k m rec (here_enter o d) lt = g.command o (rec (the in_command) _ _ _ _ d (omega (arith, lt)))

of_in_command : (k m : ℕ) → Rec k m → {n : ℕ} {ws r : List Word} {t : Meant (the in_command)} (d : T k (alts n (rules (the in_command))) ws r t) → size d < suc m → Outof k (the in_command) n ws r t
of_in_command k m rec (here-word x (a_tok v (a_line d (a_tok s nil)))) lt = g.assignment x v (rec (the expr_line) _ _ _ _ d (omega (arith, lt))) s
of_in_command k m rec (later_word (here-word w (a_tok x (a_tok o (a_line d (a_tok c (a_tok s nil))))))) lt = g.call w x o (rec (the args_line) _ _ _ _ d (omega (arith, lt))) c s
of_in_command k m rec (later_word (later_word (here-word w (a_line d (a_tok h (a_line p (a_tok l (a_line q nil)))))))) lt = g.if_command w (rec (the expr_line) _ _ _ _ d (omega (arith, lt))) h (rec (the command_line) _ _ _ _ p (omega (arith, lt))) l (rec (the command_line) _ _ _ _ q (omega (arith, lt)))
of_in_command k m rec (later_word (later_word (later_word (here-word w (a_line d (a_tok h (a_line p nil))))))) lt = g.while_command w (rec (the expr_line) _ _ _ _ d (omega (arith, lt))) h (rec (the command_line) _ _ _ _ p (omega (arith, lt)))
of_in_command k m rec (later_word (later_word (later_word (later_word (here-line d nil))))) lt = g.a_block (rec (the block_line) _ _ _ _ d (omega (arith, lt)))
of_in_command k m rec (later_word (later_word (later_word (later_word (later_line d))))) lt = elim d [ ]

of_block : (k m : ℕ) → Rec k m → {n : ℕ} {ws r : List Word} {t : Meant (the block_line)} (d : T k (alts n (rules (the block_line))) ws r t) → size d < suc m → Outof k (the block_line) n ws r t
of_block k m rec (here-word b (a_line ds (a_line rs (a_line cs (a_tok z nil))))) lt = g.braces b (rec (the data_line) _ _ _ _ ds (omega (arith, lt))) (rec (the routines_line) _ _ _ _ rs (omega (arith, lt))) (rec (the commands_line) _ _ _ _ cs (omega (arith, lt))) z
of_block k m rec (later_word d) lt = elim d [ ]

of_data : (k m : ℕ) → Rec k m → {n : ℕ} {ws r : List Word} {t : Meant (the data_line)} (d : T k (alts n (rules (the data_line))) ws r t) → size d < suc m → Outof k (the data_line) n ws r t
of_data k m rec (here-line d (a_line e nil)) lt = rec data_more _ _ _ _ e (omega (arith, lt)) _ _ (g.data_some g.data_none (rec (the datum_line) _ _ _ _ d (omega (arith, lt))))
of_data k m rec (later_line here-empty) lt = g.data_none

of_data_more : (k m : ℕ) → Rec k m → {n : ℕ} {ws r : List Word} {t : Meant data_more} (d : T k (alts n (rules data_more)) ws r t) → size d < suc m → Outof k data_more n ws r t
of_data_more k m rec (here-line d (a_line e nil)) lt = λ ws t x. rec data_more _ _ _ _ e (omega (arith, lt)) ws _ (g.data_some x (rec (the datum_line) _ _ _ _ d (omega (arith, lt))))
of_data_more k m rec (later_line here-empty) lt = λ ws t x. x

of_routines : (k m : ℕ) → Rec k m → {n : ℕ} {ws r : List Word} {t : Meant (the routines_line)} (d : T k (alts n (rules (the routines_line))) ws r t) → size d < suc m → Outof k (the routines_line) n ws r t
of_routines k m rec (here-line d (a_line e nil)) lt = rec routines_more _ _ _ _ e (omega (arith, lt)) _ _ (g.routines_some g.routines_none (rec (the routine_line) _ _ _ _ d (omega (arith, lt))))
of_routines k m rec (later_line here-empty) lt = g.routines_none

of_routines_more : (k m : ℕ) → Rec k m → {n : ℕ} {ws r : List Word} {t : Meant routines_more} (d : T k (alts n (rules routines_more)) ws r t) → size d < suc m → Outof k routines_more n ws r t
of_routines_more k m rec (here-line d (a_line e nil)) lt = λ ws t x. rec routines_more _ _ _ _ e (omega (arith, lt)) ws _ (g.routines_some x (rec (the routine_line) _ _ _ _ d (omega (arith, lt))))
of_routines_more k m rec (later_line here-empty) lt = λ ws t x. x

of_commands : (k m : ℕ) → Rec k m → {n : ℕ} {ws r : List Word} {t : Meant (the commands_line)} (d : T k (alts n (rules (the commands_line))) ws r t) → size d < suc m → Outof k (the commands_line) n ws r t
of_commands k m rec (here-line d (a_line e nil)) lt = rec commands_more _ _ _ _ e (omega (arith, lt)) _ _ (g.commands_some g.commands_none (rec (the command_line) _ _ _ _ d (omega (arith, lt))))
of_commands k m rec (later_line here-empty) lt = g.commands_none

of_commands_more : (k m : ℕ) → Rec k m → {n : ℕ} {ws r : List Word} {t : Meant commands_more} (d : T k (alts n (rules commands_more)) ws r t) → size d < suc m → Outof k commands_more n ws r t
of_commands_more k m rec (here-line d (a_line e nil)) lt = λ ws t x. rec commands_more _ _ _ _ e (omega (arith, lt)) ws _ (g.commands_some x (rec (the command_line) _ _ _ _ d (omega (arith, lt))))
of_commands_more k m rec (later_line here-empty) lt = λ ws t x. x

of_args : (k m : ℕ) → Rec k m → {n : ℕ} {ws r : List Word} {t : Meant (the args_line)} (d : T k (alts n (rules (the args_line))) ws r t) → size d < suc m → Outof k (the args_line) n ws r t
of_args k m rec (here-line d nil) lt = g.args_some (rec (the some_args) _ _ _ _ d (omega (arith, lt)))
of_args k m rec (later_line here-empty) lt = g.args_none

of_some_args : (k m : ℕ) → Rec k m → {n : ℕ} {ws r : List Word} {t : Meant (the some_args)} (d : T k (alts n (rules (the some_args))) ws r t) → size d < suc m → Outof k (the some_args) n ws r t
of_some_args k m rec (here-line d (a_line e nil)) lt = rec args_more _ _ _ _ e (omega (arith, lt)) _ _ (g.args_first (rec (the expr_line) _ _ _ _ d (omega (arith, lt))))
of_some_args k m rec (later_line d) lt = elim d [ ]

of_args_more : (k m : ℕ) → Rec k m → {n : ℕ} {ws r : List Word} {t : Meant args_more} (d : T k (alts n (rules args_more)) ws r t) → size d < suc m → Outof k args_more n ws r t
of_args_more k m rec (here-word c (a_line d (a_line e nil))) lt = λ ws t x. rec args_more _ _ _ _ e (omega (arith, lt)) ws _ (g.args_comma x c (rec (the expr_line) _ _ _ _ d (omega (arith, lt))))
of_args_more k m rec (later_word here-empty) lt = λ ws t x. x

of_datum : (k m : ℕ) → Rec k m → {n : ℕ} {ws r : List Word} {t : Meant (the datum_line)} (d : T k (alts n (rules (the datum_line))) ws r t) → size d < suc m → Outof k (the datum_line) n ws r t
of_datum k m rec (here-word w (a_tok x (a_tok q (a_line d (a_tok s nil))))) lt = g.constant w x q (rec (the expr_line) _ _ _ _ d (omega (arith, lt))) s
of_datum k m rec (later_word (here-word w (a_tok x (a_tok q (a_line d (a_tok s nil)))))) lt = g.variable w x q (rec (the expr_line) _ _ _ _ d (omega (arith, lt))) s
of_datum k m rec (later_word (later_word d)) lt = elim d [ ]

of_routine : (k m : ℕ) → Rec k m → {n : ℕ} {ws r : List Word} {t : Meant (the routine_line)} (d : T k (alts n (rules (the routine_line))) ws r t) → size d < suc m → Outof k (the routine_line) n ws r t
of_routine k m rec (here-word w (a_tok x (a_tok o (a_line ps (a_tok c (a_tok q (a_line d (a_tok s nil)))))))) lt = g.function w x o (rec (the names_line) _ _ _ _ ps (omega (arith, lt))) c q (rec (the expr_line) _ _ _ _ d (omega (arith, lt))) s
of_routine k m rec (later_word (here-word w (a_tok x (a_tok o (a_line ps (a_tok c (a_line d nil))))))) lt = g.procedure w x o (rec (the names_line) _ _ _ _ ps (omega (arith, lt))) c (rec (the command_line) _ _ _ _ d (omega (arith, lt)))
of_routine k m rec (later_word (later_word d)) lt = elim d [ ]

of_names : (k m : ℕ) → Rec k m → {n : ℕ} {ws r : List Word} {t : Meant (the names_line)} (d : T k (alts n (rules (the names_line))) ws r t) → size d < suc m → Outof k (the names_line) n ws r t
of_names k m rec (here-word x (a_line d nil)) lt = g.names_some x (rec (the more_names) _ _ _ _ d (omega (arith, lt)))
of_names k m rec (later_word here-empty) lt = g.names_none

of_more_names : (k m : ℕ) → Rec k m → {n : ℕ} {ws r : List Word} {t : Meant (the more_names)} (d : T k (alts n (rules (the more_names))) ws r t) → size d < suc m → Outof k (the more_names) n ws r t
of_more_names k m rec (here-word c (a_tok x (a_line d nil))) lt = g.names_comma c x (rec (the more_names) _ _ _ _ d (omega (arith, lt)))
of_more_names k m rec (later_word here-empty) lt = g.names_end

of_expr : (k m : ℕ) → Rec k m → {n : ℕ} {ws r : List Word} {t : Meant (the expr_line)} (d : T k (alts n (rules (the expr_line))) ws r t) → size d < suc m → Outof k (the expr_line) n ws r t
of_expr k m rec (here_enter o d) lt = g.expr o (rec (the in_expr) _ _ _ _ d (omega (arith, lt)))

of_in_expr : (k m : ℕ) → Rec k m → {n : ℕ} {ws r : List Word} {t : Meant (the in_expr)} (d : T k (alts n (rules (the in_expr))) ws r t) → size d < suc m → Outof k (the in_expr) n ws r t
of_in_expr k m rec (here-word w (a_line d (a_tok h (a_line p (a_tok l (a_line q nil)))))) lt = g.if_expr w (rec (the expr_line) _ _ _ _ d (omega (arith, lt))) h (rec (the expr_line) _ _ _ _ p (omega (arith, lt))) l (rec (the expr_line) _ _ _ _ q (omega (arith, lt)))
of_in_expr k m rec (later_word (here-word w (a_tok x (a_tok q (a_line d (a_tok i (a_line b nil))))))) lt = g.let_expr w x q (rec (the expr_line) _ _ _ _ d (omega (arith, lt))) i (rec (the expr_line) _ _ _ _ b (omega (arith, lt)))
of_in_expr k m rec (later_word (later_word (here-line d nil))) lt = g.an_either (rec (the either_line) _ _ _ _ d (omega (arith, lt)))
of_in_expr k m rec (later_word (later_word (later_line d))) lt = elim d [ ]

of_either : (k m : ℕ) → Rec k m → {n : ℕ} {ws r : List Word} {t : Meant (the either_line)} (d : T k (alts n (rules (the either_line))) ws r t) → size d < suc m → Outof k (the either_line) n ws r t
of_either k m rec (here-line d (a_line e nil)) lt = rec or_more _ _ _ _ e (omega (arith, lt)) _ _ _ (g.one_both (rec (the both_line) _ _ _ _ d (omega (arith, lt))))
of_either k m rec (later_line d) lt = elim d [ ]

of_both : (k m : ℕ) → Rec k m → {n : ℕ} {ws r : List Word} {t : Meant (the both_line)} (d : T k (alts n (rules (the both_line))) ws r t) → size d < suc m → Outof k (the both_line) n ws r t
of_both k m rec (here-line d (a_line e nil)) lt = rec and_more _ _ _ _ e (omega (arith, lt)) _ _ _ (g.one_test (rec (the test_line) _ _ _ _ d (omega (arith, lt))))
of_both k m rec (later_line d) lt = elim d [ ]

of_test : (k m : ℕ) → Rec k m → {n : ℕ} {ws r : List Word} {t : Meant (the test_line)} (d : T k (alts n (rules (the test_line))) ws r t) → size d < suc m → Outof k (the test_line) n ws r t
of_test k m rec (here-line d (a_line e nil)) lt = rec test_rest _ _ _ _ e (omega (arith, lt)) _ _ _ (rec (the sum_line) _ _ _ _ d (omega (arith, lt)))
of_test k m rec (later_line d) lt = elim d [ ]

of_sum : (k m : ℕ) → Rec k m → {n : ℕ} {ws r : List Word} {t : Meant (the sum_line)} (d : T k (alts n (rules (the sum_line))) ws r t) → size d < suc m → Outof k (the sum_line) n ws r t
of_sum k m rec (here-line d (a_line e nil)) lt = rec sum_more _ _ _ _ e (omega (arith, lt)) _ _ _ (g.one_product (rec (the product_line) _ _ _ _ d (omega (arith, lt))))
of_sum k m rec (later_line d) lt = elim d [ ]

of_product : (k m : ℕ) → Rec k m → {n : ℕ} {ws r : List Word} {t : Meant (the product_line)} (d : T k (alts n (rules (the product_line))) ws r t) → size d < suc m → Outof k (the product_line) n ws r t
of_product k m rec (here-line d (a_line e nil)) lt = rec product_more _ _ _ _ e (omega (arith, lt)) _ _ _ (g.one_prefix (rec (the prefix_line) _ _ _ _ d (omega (arith, lt))))
of_product k m rec (later_line d) lt = elim d [ ]

of_prefix : (k m : ℕ) → Rec k m → {n : ℕ} {ws r : List Word} {t : Meant (the prefix_line)} (d : T k (alts n (rules (the prefix_line))) ws r t) → size d < suc m → Outof k (the prefix_line) n ws r t
of_prefix k m rec (here_enter o d) lt = g.prefix o (rec (the in_prefix) _ _ _ _ d (omega (arith, lt)))

of_in_prefix : (k m : ℕ) → Rec k m → {n : ℕ} {ws r : List Word} {t : Meant (the in_prefix)} (d : T k (alts n (rules (the in_prefix))) ws r t) → size d < suc m → Outof k (the in_prefix) n ws r t
of_in_prefix k m rec (here-word w (a_line d nil)) lt = g.negative w (rec (the prefix_line) _ _ _ _ d (omega (arith, lt)))
of_in_prefix k m rec (later_word (here-word w (a_line d nil))) lt = g.negated w (rec (the prefix_line) _ _ _ _ d (omega (arith, lt)))
of_in_prefix k m rec (later_word (later_word (here-line d nil))) lt = g.an_atom (rec (the atom_line) _ _ _ _ d (omega (arith, lt)))
of_in_prefix k m rec (later_word (later_word (later_line d))) lt = elim d [ ]

of_atom : (k m : ℕ) → Rec k m → {n : ℕ} {ws r : List Word} {t : Meant (the atom_line)} (d : T k (alts n (rules (the atom_line))) ws r t) → size d < suc m → Outof k (the atom_line) n ws r t
of_atom k m rec (here-word w nil) lt = g.a_number w
of_atom k m rec (later_word (here-word w nil)) lt = g.a_true w
of_atom k m rec (later_word (later_word (here-word w nil))) lt = g.a_false w
of_atom k m rec (later_word (later_word (later_word (here-word w (a_line d nil))))) lt = rec atom_rest _ _ _ _ d (omega (arith, lt)) _ w
of_atom k m rec (later_word (later_word (later_word (later_word (here-word o (a_line d (a_tok c nil))))))) lt = g.brackets o (rec (the expr_line) _ _ _ _ d (omega (arith, lt))) c
of_atom k m rec (later_word (later_word (later_word (later_word (later_word d))))) lt = elim d [ ]

of_or_more : (k m : ℕ) → Rec k m → {n : ℕ} {ws r : List Word} {t : Meant or_more} (d : T k (alts n (rules or_more)) ws r t) → size d < suc m → Outof k or_more n ws r t
of_or_more k m rec (here-word o (a_line d (a_line e nil))) lt = λ w ws t x. rec or_more _ _ _ _ e (omega (arith, lt)) w ws _ (g.or x o (rec (the both_line) _ _ _ _ d (omega (arith, lt))))
of_or_more k m rec (later_word here-empty) lt = λ w ws t x. x

of_and_more : (k m : ℕ) → Rec k m → {n : ℕ} {ws r : List Word} {t : Meant and_more} (d : T k (alts n (rules and_more)) ws r t) → size d < suc m → Outof k and_more n ws r t
of_and_more k m rec (here-word o (a_line d (a_line e nil))) lt = λ w ws t x. rec and_more _ _ _ _ e (omega (arith, lt)) w ws _ (g.and x o (rec (the test_line) _ _ _ _ d (omega (arith, lt))))
of_and_more k m rec (later_word here-empty) lt = λ w ws t x. x

of_test_rest : (k m : ℕ) → Rec k m → {n : ℕ} {ws r : List Word} {t : Meant test_rest} (d : T k (alts n (rules test_rest)) ws r t) → size d < suc m → Outof k test_rest n ws r t
of_test_rest k m rec (here-word o (a_line d nil)) lt = λ w ws t x. g.equals x o (rec (the sum_line) _ _ _ _ d (omega (arith, lt)))
of_test_rest k m rec (later_word (here-word o (a_line d nil))) lt = λ w ws t x. g.is_less x o (rec (the sum_line) _ _ _ _ d (omega (arith, lt)))
of_test_rest k m rec (later_word (later_word here-empty)) lt = λ w ws t x. g.one_sum x

of_sum_more : (k m : ℕ) → Rec k m → {n : ℕ} {ws r : List Word} {t : Meant sum_more} (d : T k (alts n (rules sum_more)) ws r t) → size d < suc m → Outof k sum_more n ws r t
of_sum_more k m rec (here-word o (a_line d (a_line e nil))) lt = λ w ws t x. rec sum_more _ _ _ _ e (omega (arith, lt)) w ws _ (g.plus x o (rec (the product_line) _ _ _ _ d (omega (arith, lt))))
of_sum_more k m rec (later_word (here-word o (a_line d (a_line e nil)))) lt = λ w ws t x. rec sum_more _ _ _ _ e (omega (arith, lt)) w ws _ (g.less_by x o (rec (the product_line) _ _ _ _ d (omega (arith, lt))))
of_sum_more k m rec (later_word (later_word here-empty)) lt = λ w ws t x. x

of_product_more : (k m : ℕ) → Rec k m → {n : ℕ} {ws r : List Word} {t : Meant product_more} (d : T k (alts n (rules product_more)) ws r t) → size d < suc m → Outof k product_more n ws r t
of_product_more k m rec (here-word o (a_line d (a_line e nil))) lt = λ w ws t x. rec product_more _ _ _ _ e (omega (arith, lt)) w ws _ (g.times x o (rec (the prefix_line) _ _ _ _ d (omega (arith, lt))))
of_product_more k m rec (later_word here-empty) lt = λ w ws t x. x

of_atom_rest : (k m : ℕ) → Rec k m → {n : ℕ} {ws r : List Word} {t : Meant atom_rest} (d : T k (alts n (rules atom_rest)) ws r t) → size d < suc m → Outof k atom_rest n ws r t
of_atom_rest k m rec (here-word o (a_line d (a_tok c nil))) lt = λ x n. g.a_call n o (rec (the args_line) _ _ _ _ d (omega (arith, lt))) c
of_atom_rest k m rec (later_word here-empty) lt = λ x n. g.a_name n

out_of : (k m : ℕ) → Rec k m
out_of k zero l n ws r t d lt = absurd (omega (arith, lt))
out_of k (suc m) (the command_line) n ws r t d lt = of_command k m (out_of k m) d lt
out_of k (suc m) (the in_command) n ws r t d lt = of_in_command k m (out_of k m) d lt
out_of k (suc m) (the block_line) n ws r t d lt = of_block k m (out_of k m) d lt
out_of k (suc m) (the data_line) n ws r t d lt = of_data k m (out_of k m) d lt
out_of k (suc m) (the routines_line) n ws r t d lt = of_routines k m (out_of k m) d lt
out_of k (suc m) (the commands_line) n ws r t d lt = of_commands k m (out_of k m) d lt
out_of k (suc m) (the datum_line) n ws r t d lt = of_datum k m (out_of k m) d lt
out_of k (suc m) (the routine_line) n ws r t d lt = of_routine k m (out_of k m) d lt
out_of k (suc m) (the names_line) n ws r t d lt = of_names k m (out_of k m) d lt
out_of k (suc m) (the more_names) n ws r t d lt = of_more_names k m (out_of k m) d lt
out_of k (suc m) (the args_line) n ws r t d lt = of_args k m (out_of k m) d lt
out_of k (suc m) (the some_args) n ws r t d lt = of_some_args k m (out_of k m) d lt
out_of k (suc m) (the expr_line) n ws r t d lt = of_expr k m (out_of k m) d lt
out_of k (suc m) (the in_expr) n ws r t d lt = of_in_expr k m (out_of k m) d lt
out_of k (suc m) (the either_line) n ws r t d lt = of_either k m (out_of k m) d lt
out_of k (suc m) (the both_line) n ws r t d lt = of_both k m (out_of k m) d lt
out_of k (suc m) (the test_line) n ws r t d lt = of_test k m (out_of k m) d lt
out_of k (suc m) (the sum_line) n ws r t d lt = of_sum k m (out_of k m) d lt
out_of k (suc m) (the product_line) n ws r t d lt = of_product k m (out_of k m) d lt
out_of k (suc m) (the prefix_line) n ws r t d lt = of_prefix k m (out_of k m) d lt
out_of k (suc m) (the in_prefix) n ws r t d lt = of_in_prefix k m (out_of k m) d lt
out_of k (suc m) (the atom_line) n ws r t d lt = of_atom k m (out_of k m) d lt
out_of k (suc m) data_more n ws r t d lt = of_data_more k m (out_of k m) d lt
out_of k (suc m) routines_more n ws r t d lt = of_routines_more k m (out_of k m) d lt
out_of k (suc m) commands_more n ws r t d lt = of_commands_more k m (out_of k m) d lt
out_of k (suc m) args_more n ws r t d lt = of_args_more k m (out_of k m) d lt
out_of k (suc m) or_more n ws r t d lt = of_or_more k m (out_of k m) d lt
out_of k (suc m) and_more n ws r t d lt = of_and_more k m (out_of k m) d lt
out_of k (suc m) test_rest n ws r t d lt = of_test_rest k m (out_of k m) d lt
out_of k (suc m) sum_more n ws r t d lt = of_sum_more k m (out_of k m) d lt
out_of k (suc m) product_more n ws r t d lt = of_product_more k m (out_of k m) d lt
out_of k (suc m) atom_rest n ws r t d lt = of_atom_rest k m (out_of k m) d lt

pub out : (k : ℕ) (l : Row) {n : ℕ} {ws r : List Word} {t : Meant l} → T k (alts n (rules l)) ws r t → Outof k l n ws r t
out k l d = out_of k (suc (size d)) l _ _ _ _ d (omega arith)
