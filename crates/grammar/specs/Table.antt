-- The grammar as a table for the machine: its lines, and rows for what goes on with a list or with a first operand.
use Rattle.std.specs.Prelude.{true, false, List, [], ◌∷◌}
use Rattle.lang.specs.declared.word.Kind.TheVariants.{Name, Number, Call, If, Then, Else, While, Do, Const, Var, Fun, Proc, Let, In, Or, And, Not, True, False, OpenBrace, CloseBrace, Open, Close, Semicolon, Comma, Equal, Less, Plus, Minus, Times, Becomes}
use Rattle.meaning.specs.Tree.{Place, minus, negate, add, sub, mul, equal, less, Expr, number, truth, read, signed, binary, both, either, choose, local, apply, Args, no_args, arg, Data, no_data, const, var, Command, block, assign, perform, fork, while, Commands, no_commands, then, Routines, no_routines, fun, proc}
use Rattle.grammar.specs.Words.{Word, named, parameter, value}
use Rattle.grammar.specs.Grammar.{Line, command_line, in_command, block_line, data_line, routines_line, commands_line, datum_line, routine_line, names_line, more_names, args_line, some_args, expr_line, in_expr, either_line, both_line, test_line, sum_line, product_line, prefix_line, in_prefix, atom_line, Tree}
use Rattle.grammar.specs.Machine.{tok, line, Alts, over, empty, word, begins, enters, Out, run}

pub data Row : Type 0 where
  the : Line → Row
  data_more routines_more commands_more args_more : Row
  or_more and_more test_rest sum_more product_more atom_rest : Row

-- what a row builds: what goes on with a list makes a longer one of it, and what follows a first operand takes the place where that began
abbrev pub Meant : Row → Type 0
Meant (the l) = Tree l
Meant data_more = Data → Data
Meant routines_more = Routines → Routines
Meant commands_more = Commands → Commands
Meant args_more = Args → Args
Meant or_more = Place → Expr → Expr
Meant and_more = Place → Expr → Expr
Meant test_rest = Place → Expr → Expr
Meant sum_more = Place → Expr → Expr
Meant product_more = Place → Expr → Expr
Meant atom_rest = Word → Expr

abbrev pub Rules : Row → Type 0
Rules l = Alts Meant l

abbrev pub atoms : Rules (the atom_line)
atoms =
    word Number [] (λ w a. number w.place (value w))
    (word True [] (λ w a. truth w.place true)
    (word False [] (λ w a. truth w.place false)
    (word Name (line atom_rest ∷ []) (λ w a. a.0 w)
    (word Open (line (the expr_line) ∷ tok Close ∷ []) (λ w a. a.0)
    over))))

abbrev pub in_prefixes : Rules (the in_prefix)
in_prefixes =
    word Minus (line (the prefix_line) ∷ []) (λ w a. signed w.place minus a.0)
    (word Not (line (the prefix_line) ∷ []) (λ w a. signed w.place negate a.0)
    (begins atoms [] (λ w t a. t)
    over))

abbrev pub prefixes : Rules (the prefix_line)
prefixes = enters in_prefixes (λ t. t)

abbrev pub products : Rules (the product_line)
products = begins prefixes (line product_more ∷ []) (λ w t a. a.0 w.place t) over

abbrev pub sums : Rules (the sum_line)
sums = begins products (line sum_more ∷ []) (λ w t a. a.0 w.place t) over

abbrev pub tests : Rules (the test_line)
tests = begins sums (line test_rest ∷ []) (λ w t a. a.0 w.place t) over

abbrev pub boths : Rules (the both_line)
boths = begins tests (line and_more ∷ []) (λ w t a. a.0 w.place t) over

abbrev pub eithers : Rules (the either_line)
eithers = begins boths (line or_more ∷ []) (λ w t a. a.0 w.place t) over

abbrev pub in_exprs : Rules (the in_expr)
in_exprs =
    word If (line (the expr_line) ∷ tok Then ∷ line (the expr_line) ∷ tok Else ∷ line (the expr_line) ∷ [])
    (λ w a. choose w.place a.0 a.1.1.0 a.1.1.1.1.0)
    (word Let (tok Name ∷ tok Equal ∷ line (the expr_line) ∷ tok In ∷ line (the expr_line) ∷ [])
    (λ w a. local w.place a.0.place (named a.0) a.1.1.0 a.1.1.1.1.0)
    (begins eithers [] (λ w t a. t)
    over))

abbrev pub exprs : Rules (the expr_line)
exprs = enters in_exprs (λ t. t)

abbrev pub arglists : Rules (the some_args)
arglists = begins exprs (line args_more ∷ []) (λ w t a. a.0 (arg no_args t)) over

abbrev pub blocks : Rules (the block_line)
blocks = word OpenBrace (line (the data_line) ∷ line (the routines_line) ∷ line (the commands_line) ∷ tok CloseBrace ∷ [])
    (λ w a. block w.place a.0 a.1.0 a.1.1.0) over

abbrev pub in_commands : Rules (the in_command)
in_commands =
    word Name (tok Becomes ∷ line (the expr_line) ∷ tok Semicolon ∷ [])
    (λ w a. assign w.place (named w) a.1.0)
    (word Call (tok Name ∷ tok Open ∷ line (the args_line) ∷ tok Close ∷ tok Semicolon ∷ [])
    (λ w a. perform w.place a.0.place (named a.0) a.1.1.0)
    (word If (line (the expr_line) ∷ tok Then ∷ line (the command_line) ∷ tok Else ∷ line (the command_line) ∷ [])
    (λ w a. fork w.place a.0 a.1.1.0 a.1.1.1.1.0)
    (word While (line (the expr_line) ∷ tok Do ∷ line (the command_line) ∷ [])
    (λ w a. while w.place a.0 a.1.1.0)
    (begins blocks [] (λ w t a. t)
    over))))

abbrev pub commands : Rules (the command_line)
commands = enters in_commands (λ t. t)

abbrev pub datums : Rules (the datum_line)
datums =
    word Const (tok Name ∷ tok Equal ∷ line (the expr_line) ∷ tok Semicolon ∷ [])
    (λ w a ds. const ds w.place a.0.place (named a.0) a.1.1.0)
    (word Var (tok Name ∷ tok Equal ∷ line (the expr_line) ∷ tok Semicolon ∷ [])
    (λ w a ds. var ds w.place a.0.place (named a.0) a.1.1.0)
    over)

abbrev pub routines : Rules (the routine_line)
routines =
    word Fun (tok Name ∷ tok Open ∷ line (the names_line) ∷ tok Close ∷ tok Equal ∷ line (the expr_line) ∷ tok Semicolon ∷ [])
    (λ w a rs. fun rs w.place a.0.place (named a.0) a.1.1.0 a.1.1.1.1.1.0)
    (word Proc (tok Name ∷ tok Open ∷ line (the names_line) ∷ tok Close ∷ line (the command_line) ∷ [])
    (λ w a rs. proc rs w.place a.0.place (named a.0) a.1.1.0 a.1.1.1.1.0)
    over)

abbrev pub rules : (l : Row) → Rules l
rules (the command_line) = commands
rules (the in_command) = in_commands
rules (the block_line) = blocks
rules (the data_line) = begins datums (line data_more ∷ []) (λ w t a. a.0 (t no_data)) (empty no_data)
rules (the routines_line) = begins routines (line routines_more ∷ []) (λ w t a. a.0 (t no_routines)) (empty no_routines)
rules (the commands_line) = begins commands (line commands_more ∷ []) (λ w t a. a.0 (then no_commands t)) (empty no_commands)
rules (the datum_line) = datums
rules (the routine_line) = routines
rules (the names_line) = word Name (line (the more_names) ∷ []) (λ w a. parameter w ∷ a.0) (empty [])
rules (the more_names) = word Comma (tok Name ∷ line (the more_names) ∷ []) (λ w a. parameter a.0 ∷ a.1.0) (empty [])
rules (the args_line) = begins arglists [] (λ w t a. t) (empty no_args)
rules (the some_args) = arglists
rules (the expr_line) = exprs
rules (the in_expr) = in_exprs
rules (the either_line) = eithers
rules (the both_line) = boths
rules (the test_line) = tests
rules (the sum_line) = sums
rules (the product_line) = products
rules (the prefix_line) = prefixes
rules (the in_prefix) = in_prefixes
rules (the atom_line) = atoms
rules data_more = begins datums (line data_more ∷ []) (λ w t a ds. a.0 (t ds)) (empty (λ ds. ds))
rules routines_more = begins routines (line routines_more ∷ []) (λ w t a rs. a.0 (t rs)) (empty (λ rs. rs))
rules commands_more = begins commands (line commands_more ∷ []) (λ w t a cs. a.0 (then cs t)) (empty (λ cs. cs))
rules args_more = word Comma (line (the expr_line) ∷ line args_more ∷ []) (λ w a es. a.1.0 (arg es a.0)) (empty (λ es. es))
rules or_more = word Or (line (the both_line) ∷ line or_more ∷ []) (λ w a p t. a.1.0 p (either p t a.0)) (empty (λ p t. t))
rules and_more = word And (line (the test_line) ∷ line and_more ∷ []) (λ w a p t. a.1.0 p (both p t a.0)) (empty (λ p t. t))
rules test_rest =
    word Equal (line (the sum_line) ∷ []) (λ w a p t. binary p equal t a.0)
    (word Less (line (the sum_line) ∷ []) (λ w a p t. binary p less t a.0)
    (empty (λ p t. t)))
rules sum_more =
    word Plus (line (the product_line) ∷ line sum_more ∷ []) (λ w a p t. a.1.0 p (binary p add t a.0))
    (word Minus (line (the product_line) ∷ line sum_more ∷ []) (λ w a p t. a.1.0 p (binary p sub t a.0))
    (empty (λ p t. t)))
rules product_more = word Times (line (the prefix_line) ∷ line product_more ∷ []) (λ w a p t. a.1.0 p (binary p mul t a.0)) (empty (λ p t. t))
rules atom_rest = word Open (line (the args_line) ∷ tok Close ∷ []) (λ w a x. apply x.place (named x) a.0) (empty (λ x. read x.place (named x)))

-- the words as a rule
abbrev pub reading : List Word → Out Command
reading ws = run Meant rules ws (line (the command_line) ∷ []) (λ a. a.0)
