-- The grammar's table: one word ahead decides, and every line has a sample.
use mathlib.Core.Path.{◌≡◌, refl}
use mathlib.Core.Bool.{Bool, true, false, cond}
use mathlib.Core.List.{List, [], ◌∷◌}
use Rattle.lang.specs.declared.word.Kind.{Kind}
use Rattle.lang.specs.declared.word.Kind.TheVariants.{Name, Number, Call, If, Then, Else, While, Do, Const, Var, Fun, Proc, In, Or, And, OpenBrace, CloseBrace, Open, Close, Semicolon, Comma, Equal, Less, Plus, Minus, Times}
use Rattle.lang.specs.Kinds.{same_kind}
use Rattle.grammar.specs.Words.{Word}
use Rattle.grammar.specs.Grammar.{command_line, in_command, block_line, data_line, routines_line, commands_line, datum_line, routine_line, names_line, more_names, args_line, some_args, expr_line, in_expr, either_line, both_line, test_line, sum_line, product_line, prefix_line, in_prefix, atom_line}
use Rattle.grammar.specs.Machine.{line, fine}
use Rattle.grammar.proofs.Stepper.{run}
use Rattle.grammar.specs.Table.{Row, the, data_more, routines_more, commands_more, args_more, or_more, and_more, test_rest, sum_more, product_more, atom_rest, Meant, rules}
use Rattle.grammar.proofs.Forth.{LL, Keeps}
use Rattle.grammar.proofs.Decide.{ll_test, ll_holds, keeps_test, keeps_holds, apart_test}

abbrev among : List Kind → Kind → Bool
among [] k = false
among (j ∷ js) k = cond (same_kind j k) true (among js k)

-- the words that may follow
abbrev after_expr : List Kind
after_expr = Semicolon ∷ Then ∷ Else ∷ Do ∷ In ∷ Close ∷ Comma ∷ []

abbrev after_both : List Kind
after_both = Or ∷ after_expr

abbrev after_test : List Kind
after_test = And ∷ after_both

abbrev after_sum : List Kind
after_sum = Equal ∷ Less ∷ after_test

abbrev after_product : List Kind
after_product = Plus ∷ Minus ∷ after_sum

abbrev after_prefix : List Kind
after_prefix = Times ∷ after_product

abbrev after_routines : List Kind
after_routines = Name ∷ Call ∷ If ∷ While ∷ OpenBrace ∷ CloseBrace ∷ []

abbrev after_data : List Kind
after_data = Fun ∷ Proc ∷ after_routines

abbrev after : Row → List Kind
after (the command_line) = Else ∷ after_data
after (the in_command) = Else ∷ after_data
after (the block_line) = Else ∷ after_data
after (the data_line) = after_data
after (the routines_line) = after_routines
after (the commands_line) = CloseBrace ∷ []
after (the datum_line) = Const ∷ Var ∷ after_data
after (the routine_line) = after_data
after (the names_line) = Close ∷ []
after (the more_names) = Close ∷ []
after (the args_line) = Close ∷ []
after (the some_args) = Close ∷ []
after (the expr_line) = after_expr
after (the in_expr) = after_expr
after (the either_line) = after_expr
after (the both_line) = after_both
after (the test_line) = after_test
after (the sum_line) = after_sum
after (the product_line) = after_product
after (the prefix_line) = after_prefix
after (the in_prefix) = after_prefix
after (the atom_line) = after_prefix
after data_more = after_data
after routines_more = after_routines
after commands_more = CloseBrace ∷ []
after args_more = Close ∷ []
after or_more = after_expr
after and_more = after_both
after test_rest = after_test
after sum_more = after_sum
after product_more = after_product
after atom_rest = after_prefix

abbrev pub follow : Row → Kind → Bool
follow l k = among (after l) k

ll_tests : (l : Row) → ll_test Meant (rules l) ≡ true
ll_tests (the command_line) = refl
ll_tests (the in_command) = refl
ll_tests (the block_line) = refl
ll_tests (the data_line) = refl
ll_tests (the routines_line) = refl
ll_tests (the commands_line) = refl
ll_tests (the datum_line) = refl
ll_tests (the routine_line) = refl
ll_tests (the names_line) = refl
ll_tests (the more_names) = refl
ll_tests (the args_line) = refl
ll_tests (the some_args) = refl
ll_tests (the expr_line) = refl
ll_tests (the in_expr) = refl
ll_tests (the either_line) = refl
ll_tests (the both_line) = refl
ll_tests (the test_line) = refl
ll_tests (the sum_line) = refl
ll_tests (the product_line) = refl
ll_tests (the prefix_line) = refl
ll_tests (the in_prefix) = refl
ll_tests (the atom_line) = refl
ll_tests data_more = refl
ll_tests routines_more = refl
ll_tests commands_more = refl
ll_tests args_more = refl
ll_tests or_more = refl
ll_tests and_more = refl
ll_tests test_rest = refl
ll_tests sum_more = refl
ll_tests product_more = refl
ll_tests atom_rest = refl

pub ll : (l : Row) → LL Meant (rules l)
ll l = ll_holds Meant (rules l) (ll_tests l)

keeps_tests : (l : Row) → keeps_test Meant rules ll follow (follow l) (rules l) ≡ true
keeps_tests (the command_line) = refl
keeps_tests (the in_command) = refl
keeps_tests (the block_line) = refl
keeps_tests (the data_line) = refl
keeps_tests (the routines_line) = refl
keeps_tests (the commands_line) = refl
keeps_tests (the datum_line) = refl
keeps_tests (the routine_line) = refl
keeps_tests (the names_line) = refl
keeps_tests (the more_names) = refl
keeps_tests (the args_line) = refl
keeps_tests (the some_args) = refl
keeps_tests (the expr_line) = refl
keeps_tests (the in_expr) = refl
keeps_tests (the either_line) = refl
keeps_tests (the both_line) = refl
keeps_tests (the test_line) = refl
keeps_tests (the sum_line) = refl
keeps_tests (the product_line) = refl
keeps_tests (the prefix_line) = refl
keeps_tests (the in_prefix) = refl
keeps_tests (the atom_line) = refl
keeps_tests data_more = refl
keeps_tests routines_more = refl
keeps_tests commands_more = refl
keeps_tests args_more = refl
keeps_tests or_more = refl
keeps_tests and_more = refl
keeps_tests test_rest = refl
keeps_tests sum_more = refl
keeps_tests product_more = refl
keeps_tests atom_rest = refl

pub keeps : (l : Row) → Keeps Meant rules ll follow (follow l) (rules l)
keeps l = keeps_holds Meant rules ll follow (follow l) (rules l) (keeps_tests l)

pub apart_tests : (l : Row) → apart_test Meant rules ll follow l ≡ true
apart_tests (the command_line) = refl
apart_tests (the in_command) = refl
apart_tests (the block_line) = refl
apart_tests (the data_line) = refl
apart_tests (the routines_line) = refl
apart_tests (the commands_line) = refl
apart_tests (the datum_line) = refl
apart_tests (the routine_line) = refl
apart_tests (the names_line) = refl
apart_tests (the more_names) = refl
apart_tests (the args_line) = refl
apart_tests (the some_args) = refl
apart_tests (the expr_line) = refl
apart_tests (the in_expr) = refl
apart_tests (the either_line) = refl
apart_tests (the both_line) = refl
apart_tests (the test_line) = refl
apart_tests (the sum_line) = refl
apart_tests (the product_line) = refl
apart_tests (the prefix_line) = refl
apart_tests (the in_prefix) = refl
apart_tests (the atom_line) = refl
apart_tests data_more = refl
apart_tests routines_more = refl
apart_tests commands_more = refl
apart_tests args_more = refl
apart_tests or_more = refl
apart_tests and_more = refl
apart_tests test_rest = refl
apart_tests sum_more = refl
apart_tests product_more = refl
apart_tests atom_rest = refl

abbrev a : Kind → Word
a k = record { kind = k; bytes = []; place = 0 }

abbrev pub sample : Row → List Word
sample (the command_line) = a OpenBrace ∷ a CloseBrace ∷ []
sample (the in_command) = a OpenBrace ∷ a CloseBrace ∷ []
sample (the block_line) = a OpenBrace ∷ a CloseBrace ∷ []
sample (the data_line) = []
sample (the routines_line) = []
sample (the commands_line) = []
sample (the datum_line) = a Const ∷ a Name ∷ a Equal ∷ a Number ∷ a Semicolon ∷ []
sample (the routine_line) = a Proc ∷ a Name ∷ a Open ∷ a Close ∷ a OpenBrace ∷ a CloseBrace ∷ []
sample (the names_line) = []
sample (the more_names) = []
sample (the args_line) = []
sample (the some_args) = a Number ∷ []
sample (the expr_line) = a Number ∷ []
sample (the in_expr) = a Number ∷ []
sample (the either_line) = a Number ∷ []
sample (the both_line) = a Number ∷ []
sample (the test_line) = a Number ∷ []
sample (the sum_line) = a Number ∷ []
sample (the product_line) = a Number ∷ []
sample (the prefix_line) = a Number ∷ []
sample (the in_prefix) = a Number ∷ []
sample (the atom_line) = a Number ∷ []
sample data_more = []
sample routines_more = []
sample commands_more = []
sample args_more = []
sample or_more = []
sample and_more = []
sample test_rest = []
sample sum_more = []
sample product_more = []
sample atom_rest = []

pub sampled : (l : Row) → (t : Meant l) × (run Meant rules (sample l) (line l ∷ []) (λ a. a.0) ≡ fine t)
sampled (the command_line) = (_, refl)
sampled (the in_command) = (_, refl)
sampled (the block_line) = (_, refl)
sampled (the data_line) = (_, refl)
sampled (the routines_line) = (_, refl)
sampled (the commands_line) = (_, refl)
sampled (the datum_line) = (_, refl)
sampled (the routine_line) = (_, refl)
sampled (the names_line) = (_, refl)
sampled (the more_names) = (_, refl)
sampled (the args_line) = (_, refl)
sampled (the some_args) = (_, refl)
sampled (the expr_line) = (_, refl)
sampled (the in_expr) = (_, refl)
sampled (the either_line) = (_, refl)
sampled (the both_line) = (_, refl)
sampled (the test_line) = (_, refl)
sampled (the sum_line) = (_, refl)
sampled (the product_line) = (_, refl)
sampled (the prefix_line) = (_, refl)
sampled (the in_prefix) = (_, refl)
sampled (the atom_line) = (_, refl)
sampled data_more = (_, refl)
sampled routines_more = (_, refl)
sampled commands_more = (_, refl)
sampled args_more = (_, refl)
sampled or_more = (_, refl)
sampled and_more = (_, refl)
sampled test_rest = (_, refl)
sampled sum_more = (_, refl)
sampled product_more = (_, refl)
sampled atom_rest = (_, refl)
