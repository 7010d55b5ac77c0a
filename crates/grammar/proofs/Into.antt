-- What the grammar reads the table derives.
use mathlib.Core.Path.{◌≡◌, refl, sym, ◌∙◌}
use mathlib.Core.List.{List, [], ◌∷◌}
use mathlib.Core.Option.{none}
use Prim.Native.Nat.{ℕ}
use native.Mathlib.Omega.{arith}
use Rattle.lang.specs.declared.word.Kind.TheVariants.{Name}
use Rattle.meaning.specs.Tree.{Place, add, sub, mul, Expr, binary, both, either, Args, arg, Data, no_data, Commands, no_commands, Routines, no_routines}
use Rattle.grammar.specs.Words.{Word}
use Rattle.grammar.specs.Grammar as g
use Rattle.grammar.specs.Grammar.{Line, command_line, in_command, block_line, data_line, routines_line, commands_line, datum_line, routine_line, names_line, more_names, args_line, some_args, expr_line, in_expr, either_line, both_line, test_line, sum_line, product_line, prefix_line, in_prefix, atom_line, Tree, Reads}
use Rattle.grammar.specs.Machine.{Part, line, Means, Alts, begins, nothing}
use Rattle.grammar.specs.Table.{Row, the, data_more, routines_more, commands_more, args_more, or_more, and_more, test_rest, sum_more, product_more, Meant, rules, atoms, in_prefixes, prefixes, products, sums, tests, boths, eithers, in_exprs, exprs, arglists, blocks, in_commands, commands, datums, routines}
use Rattle.grammar.proofs.Derive.{Goal, parts, alts, D, nil, a_tok, a_line, here-empty, here-word, here-line, here_enter, later_word, later_line}
use Rattle.grammar.proofs.Forth.{ends_alts}
use Rattle.grammar.proofs.Instance.{ll}

abbrev T : ℕ → (g : Goal Meant) → List Word → List Word → Rattle.grammar.proofs.Derive.Meant g → Type 0
T k g ws r a = D Meant rules k g ws r a

abbrev head : List Word → Word
head [] = record { kind = Name; bytes = []; place = 0 }
head (w ∷ ws) = w

-- a line that grows to the left is read before whatever goes on with it
abbrev Into : ℕ → (l : Line) → ℕ → List Word → List Word → Tree l → Type 0
Into k command_line n ws r t = T k (alts n commands) ws r t
Into k in_command n ws r t = T k (alts n in_commands) ws r t
Into k block_line n ws r t = T k (alts n blocks) ws r t
Into k data_line n ws us t = (r : List Word) (f : Data → Data) → T k (parts n n (line data_more ∷ [])) us r (f, tt) → T k (alts n (rules (the data_line))) ws r (f t)
Into k routines_line n ws us t = (r : List Word) (f : Routines → Routines) → T k (parts n n (line routines_more ∷ [])) us r (f, tt) → T k (alts n (rules (the routines_line))) ws r (f t)
Into k commands_line n ws us t = (r : List Word) (f : Commands → Commands) → T k (parts n n (line commands_more ∷ [])) us r (f, tt) → T k (alts n (rules (the commands_line))) ws r (f t)
Into k datum_line n ws r t = T k (alts n datums) ws r t
Into k routine_line n ws r t = T k (alts n routines) ws r t
Into k names_line n ws r t = T k (alts n (rules (the names_line))) ws r t
Into k more_names n ws r t = T k (alts n (rules (the more_names))) ws r t
Into k args_line n ws r t = T k (alts n (rules (the args_line))) ws r t
Into k some_args n ws us t = (r : List Word) (f : Args → Args) → T k (parts n n (line args_more ∷ [])) us r (f, tt) → T k (alts n arglists) ws r (f t)
Into k expr_line n ws r t = T k (alts n exprs) ws r t
Into k in_expr n ws r t = T k (alts n in_exprs) ws r t
Into k either_line n ws us t = (r : List Word) (f : Place → Expr → Expr) → T k (parts n n (line or_more ∷ [])) us r (f, tt) → T k (alts n eithers) ws r (f (head ws).place t)
Into k both_line n ws us t = (r : List Word) (f : Place → Expr → Expr) → T k (parts n n (line and_more ∷ [])) us r (f, tt) → T k (alts n boths) ws r (f (head ws).place t)
Into k test_line n ws r t = T k (alts n tests) ws r t
Into k sum_line n ws us t = (r : List Word) (f : Place → Expr → Expr) → T k (parts n n (line sum_more ∷ [])) us r (f, tt) → T k (alts n sums) ws r (f (head ws).place t)
Into k product_line n ws us t = (r : List Word) (f : Place → Expr → Expr) → T k (parts n n (line product_more ∷ [])) us r (f, tt) → T k (alts n products) ws r (f (head ws).place t)
Into k prefix_line n ws r t = T k (alts n prefixes) ws r t
Into k in_prefix n ws r t = T k (alts n in_prefixes) ws r t
Into k atom_line n ws r t = T k (alts n atoms) ws r t

-- a line that is not empty, and what follows it
begun : {l : Row} (m : Row) {k n : ℕ} {ps : List (Part Row)} {b : Word → Meant m → Means Meant ps → Meant l} {more : Alts Meant l} {ws us r : List Word} {t : Meant m} {a : Means Meant ps}
    → nothing Meant (rules m) ≡ none → T k (alts n (rules m)) ws us t → T k (parts n n ps) us r a → T k (alts n (begins (rules m) ps b more)) ws r (b (head ws) t a)
begun m {k} {n} {ws = []} {us} {t = t} e d x = let z = (ends_alts Meant rules k n us (rules m) t (ll m) d).1 in let c = sym e ∙ z in let y : ◌≡◌ {A = ℕ} 0 1 = cc in absurd (omega arith)
begun m {ws = w ∷ ws} e d x = here-line d x

no_or : {k n : ℕ} {ws : List Word} → T k (parts n n (line or_more ∷ [])) ws ws ((λ p t. t), tt)
no_or = a_line (later_word here-empty) nil

no_and : {k n : ℕ} {ws : List Word} → T k (parts n n (line and_more ∷ [])) ws ws ((λ p t. t), tt)
no_and = a_line (later_word here-empty) nil

no_sum : {k n : ℕ} {ws : List Word} → T k (parts n n (line sum_more ∷ [])) ws ws ((λ p t. t), tt)
no_sum = a_line (later_word (later_word here-empty)) nil

no_product : {k n : ℕ} {ws : List Word} → T k (parts n n (line product_more ∷ [])) ws ws ((λ p t. t), tt)
no_product = a_line (later_word here-empty) nil

no_test : {k n : ℕ} {ws : List Word} → T k (parts n n (line test_rest ∷ [])) ws ws ((λ p t. t), tt)
no_test = a_line (later_word (later_word here-empty)) nil

no_datum : {k n : ℕ} {ws : List Word} → T k (parts n n (line data_more ∷ [])) ws ws ((λ t. t), tt)
no_datum = a_line (later_line here-empty) nil

no_routine : {k n : ℕ} {ws : List Word} → T k (parts n n (line routines_more ∷ [])) ws ws ((λ t. t), tt)
no_routine = a_line (later_line here-empty) nil

no_command : {k n : ℕ} {ws : List Word} → T k (parts n n (line commands_more ∷ [])) ws ws ((λ t. t), tt)
no_command = a_line (later_line here-empty) nil

no_arg : {k n : ℕ} {ws : List Word} → T k (parts n n (line args_more ∷ [])) ws ws ((λ t. t), tt)
no_arg = a_line (later_word here-empty) nil

-- what goes on with an empty list is a list
data_first : {k h n : ℕ} {ws r : List Word} {a : Means Meant (line data_more ∷ [])} → T k (parts h n (line data_more ∷ [])) ws r a → T k (alts n (rules (the data_line))) ws r (a.0 no_data)
data_first (a_line (here-line d (a_line e nil)) nil) = here-line d (a_line e nil)
data_first (a_line (later_line here-empty) nil) = later_line here-empty

routines_first : {k h n : ℕ} {ws r : List Word} {a : Means Meant (line routines_more ∷ [])} → T k (parts h n (line routines_more ∷ [])) ws r a → T k (alts n (rules (the routines_line))) ws r (a.0 no_routines)
routines_first (a_line (here-line d (a_line e nil)) nil) = here-line d (a_line e nil)
routines_first (a_line (later_line here-empty) nil) = later_line here-empty

commands_first : {k h n : ℕ} {ws r : List Word} {a : Means Meant (line commands_more ∷ [])} → T k (parts h n (line commands_more ∷ [])) ws r a → T k (alts n (rules (the commands_line))) ws r (a.0 no_commands)
commands_first (a_line (here-line d (a_line e nil)) nil) = here-line d (a_line e nil)
commands_first (a_line (later_line here-empty) nil) = later_line here-empty

pub into : {k : ℕ} {l : Line} {n : ℕ} {ws r : List Word} {t : Tree l} → Reads k l n ws r t → Into k l n ws r t
into (g.command o d) = here_enter o (into d)
into (g.a_block d) = later_word (later_word (later_word (later_word (begun (the block_line) refl (into d) nil))))
into (g.assignment x v d s) = here-word x (a_tok v (a_line (into d) (a_tok s nil)))
into (g.call w x o d c s) = later_word (here-word w (a_tok x (a_tok o (a_line (into d) (a_tok c (a_tok s nil))))))
into (g.if_command w d h p l q) = later_word (later_word (here-word w (a_line (into d) (a_tok h (a_line (into p) (a_tok l (a_line (into q) nil)))))))
into (g.while_command w d h p) = later_word (later_word (later_word (here-word w (a_line (into d) (a_tok h (a_line (into p) nil))))))
into (g.braces b ds rs cs z) = here-word b (a_line (into ds _ _ no_datum) (a_line (into rs _ _ no_routine) (a_line (into cs _ _ no_command) (a_tok z nil))))
into g.data_none = λ r f m. data_first m
into (g.data_some ds d) = λ r f m. into ds _ _ (a_line (begun (the datum_line) refl (into d) m) nil)
into g.routines_none = λ r f m. routines_first m
into (g.routines_some ds d) = λ r f m. into ds _ _ (a_line (begun (the routine_line) refl (into d) m) nil)
into g.commands_none = λ r f m. commands_first m
into (g.commands_some ds d) = λ r f m. into ds _ _ (a_line (begun (the command_line) refl (into d) m) nil)
into (g.constant w x q d s) = here-word w (a_tok x (a_tok q (a_line (into d) (a_tok s nil))))
into (g.variable w x q d s) = later_word (here-word w (a_tok x (a_tok q (a_line (into d) (a_tok s nil)))))
into (g.function w x o ps c q d s) = here-word w (a_tok x (a_tok o (a_line (into ps) (a_tok c (a_tok q (a_line (into d) (a_tok s nil)))))))
into (g.procedure w x o ps c d) = later_word (here-word w (a_tok x (a_tok o (a_line (into ps) (a_tok c (a_line (into d) nil))))))
into g.names_none = later_word here-empty
into (g.names_some x d) = here-word x (a_line (into d) nil)
into g.names_end = later_word here-empty
into (g.names_comma c x d) = here-word c (a_tok x (a_line (into d) nil))
into g.args_none = later_line here-empty
into (g.args_some d) = begun (the some_args) refl (into d _ _ no_arg) nil
into (g.args_first d) = λ r f m. begun (the expr_line) refl (into d) m
into (g.args_comma d c e) = λ r f m. into d _ (λ t. f (arg t _)) (a_line (here-word c (a_line (into e) m)) nil)
into (g.expr o d) = here_enter o (into d)
into (g.if_expr w d h p l q) = here-word w (a_line (into d) (a_tok h (a_line (into p) (a_tok l (a_line (into q) nil)))))
into (g.let_expr w x q d i b) = later_word (here-word w (a_tok x (a_tok q (a_line (into d) (a_tok i (a_line (into b) nil))))))
into (g.an_either d) = later_word (later_word (begun (the either_line) refl (into d _ _ no_or) nil))
into (g.one_both d) = λ r f m. begun (the both_line) refl (into d _ _ no_and) m
into (g.or d o e) = λ r f m. into d _ (λ p t. f p (either p t _)) (a_line (here-word o (a_line (into e _ _ no_and) m)) nil)
into (g.one_test d) = λ r f m. begun (the test_line) refl (into d) m
into (g.and d o e) = λ r f m. into d _ (λ p t. f p (both p t _)) (a_line (here-word o (a_line (into e) m)) nil)
into (g.one_sum d) = begun (the sum_line) refl (into d _ _ no_sum) no_test
into (g.equals d o e) = begun (the sum_line) refl (into d _ _ no_sum) (a_line (here-word o (a_line (into e _ _ no_sum) nil)) nil)
into (g.is_less d o e) = begun (the sum_line) refl (into d _ _ no_sum) (a_line (later_word (here-word o (a_line (into e _ _ no_sum) nil))) nil)
into (g.one_product d) = λ r f m. begun (the product_line) refl (into d _ _ no_product) m
into (g.plus d o e) = λ r f m. into d _ (λ p t. f p (binary p add t _)) (a_line (here-word o (a_line (into e _ _ no_product) m)) nil)
into (g.less_by d o e) = λ r f m. into d _ (λ p t. f p (binary p sub t _)) (a_line (later_word (here-word o (a_line (into e _ _ no_product) m))) nil)
into (g.one_prefix d) = λ r f m. begun (the prefix_line) refl (into d) m
into (g.times d o e) = λ r f m. into d _ (λ p t. f p (binary p mul t _)) (a_line (here-word o (a_line (into e) m)) nil)
into (g.prefix o d) = here_enter o (into d)
into (g.negative w d) = here-word w (a_line (into d) nil)
into (g.negated w d) = later_word (here-word w (a_line (into d) nil))
into (g.an_atom d) = later_word (later_word (begun (the atom_line) refl (into d) nil))
into (g.a_number w) = here-word w nil
into (g.a_true w) = later_word (here-word w nil)
into (g.a_false w) = later_word (later_word (here-word w nil))
into (g.a_name w) = later_word (later_word (later_word (here-word w (a_line (later_word here-empty) nil))))
into (g.a_call w o d c) = later_word (later_word (later_word (here-word w (a_line (here-word o (a_line (into d) (a_tok c nil))) nil))))
into (g.brackets o d c) = later_word (later_word (later_word (later_word (here-word o (a_line (into d) (a_tok c nil))))))
