-- The grammar, line by line, and the tree that each line builds.
use Rattle.std.specs.Prelude.{ℕ, suc, ◌≤◌, true, false, List, [], ◌∷◌, length}
use Rattle.lang.specs.declared.word.Kind.TheVariants.{Name, Number, Call, If, Then, Else, While, Do, Const, Var, Fun, Proc, Let, In, Or, And, Not, True, False, OpenBrace, CloseBrace, Open, Close, Semicolon, Comma, Equal, Less, Plus, Minus, Times, Becomes}
use Rattle.meaning.specs.Tree.{minus, negate, add, sub, mul, equal, less, Expr, number, truth, read, signed, binary, both, either, choose, local, apply, Args, no_args, arg, Parameter, Data, no_data, const, var, Command, block, assign, perform, fork, while, Commands, no_commands, then, Routines, no_routines, fun, proc}
use Rattle.grammar.specs.Words.{Word, Is, named, parameter, value}

-- The lines. A line that counts for the nest has a second one, for what stands inside it. What a list repeats has a line of its own: data,
-- routines and commands are none or more; names and args are none or some, and a name may be followed by more names.
pub data Line : Type 0 where
  command_line in_command block_line data_line routines_line commands_line datum_line routine_line : Line
  names_line more_names args_line some_args : Line
  expr_line in_expr either_line both_line test_line sum_line product_line prefix_line in_prefix atom_line : Line

-- what a line builds; a datum or a routine goes to the end of those before it
abbrev pub Tree : Line → Type 0
Tree command_line = Command
Tree in_command = Command
Tree block_line = Command
Tree data_line = Data
Tree routines_line = Routines
Tree commands_line = Commands
Tree datum_line = Data → Data
Tree routine_line = Routines → Routines
Tree names_line = List Parameter
Tree more_names = List Parameter
Tree args_line = Args
Tree some_args = Args
Tree expr_line = Expr
Tree in_expr = Expr
Tree either_line = Expr
Tree both_line = Expr
Tree test_line = Expr
Tree sum_line = Expr
Tree product_line = Expr
Tree prefix_line = Expr
Tree in_prefix = Expr
Tree atom_line = Expr

-- a line that begins with k words or more unread has a nest of at most 64
abbrev pub Within : ℕ → ℕ → List Word → Type 0
Within k n ws = k ≤ length ws → n ≤ 64

-- Reads k l n ws r t: inside n lines command, expr and prefix, the words ws begin with words of the line l, which build t, and r is what follows;
-- the nest is kept by each line that begins with k words or more unread. With k = 0 that is each line.
pub data Reads (k : ℕ) : (l : Line) → ℕ → List Word → List Word → Tree l → Type 0 where
  -- command: block | name ':=' expr ';' | 'call' name '(' args ')' ';'
  --  | 'if' expr 'then' command 'else' command
  --  | 'while' expr 'do' command
  command : {n : ℕ} {ws r : List Word} {t : Command} → Within k (suc n) ws → Reads k in_command (suc n) ws r t → Reads k command_line n ws r t
  a_block : {n : ℕ} {ws r : List Word} {t : Command} → Reads k block_line n ws r t → Reads k in_command n ws r t
  assignment : {n : ℕ} {x v s : Word} {ws r : List Word} {e : Expr}
      → Is Name x → Is Becomes v → Reads k expr_line n ws (s ∷ r) e → Is Semicolon s
      → Reads k in_command n (x ∷ v ∷ ws) r (assign x.place (named x) e)
  call : {n : ℕ} {w x o c s : Word} {ws r : List Word} {es : Args}
      → Is Call w → Is Name x → Is Open o → Reads k args_line n ws (c ∷ s ∷ r) es → Is Close c → Is Semicolon s
      → Reads k in_command n (w ∷ x ∷ o ∷ ws) r (perform w.place x.place (named x) es)
  if_command : {n : ℕ} {w h l : Word} {ws ps qs r : List Word} {e : Expr} {p q : Command}
      → Is If w → Reads k expr_line n ws (h ∷ ps) e → Is Then h → Reads k command_line n ps (l ∷ qs) p → Is Else l → Reads k command_line n qs r q
      → Reads k in_command n (w ∷ ws) r (fork w.place e p q)
  while_command : {n : ℕ} {w d : Word} {ws ps r : List Word} {e : Expr} {p : Command}
      → Is While w → Reads k expr_line n ws (d ∷ ps) e → Is Do d → Reads k command_line n ps r p
      → Reads k in_command n (w ∷ ws) r (while w.place e p)
  -- block: '{' datum.. routine.. command.. '}'
  braces : {n : ℕ} {b z : Word} {ws us vs r : List Word} {ds : Data} {rs : Routines} {cs : Commands}
      → Is OpenBrace b → Reads k data_line n ws us ds → Reads k routines_line n us vs rs → Reads k commands_line n vs (z ∷ r) cs → Is CloseBrace z
      → Reads k block_line n (b ∷ ws) r (block b.place ds rs cs)
  data_none : {n : ℕ} {ws : List Word} → Reads k data_line n ws ws no_data
  data_some : {n : ℕ} {ws us r : List Word} {ds : Data} {d : Data → Data}
      → Reads k data_line n ws us ds → Reads k datum_line n us r d → Reads k data_line n ws r (d ds)
  routines_none : {n : ℕ} {ws : List Word} → Reads k routines_line n ws ws no_routines
  routines_some : {n : ℕ} {ws us r : List Word} {rs : Routines} {d : Routines → Routines}
      → Reads k routines_line n ws us rs → Reads k routine_line n us r d → Reads k routines_line n ws r (d rs)
  commands_none : {n : ℕ} {ws : List Word} → Reads k commands_line n ws ws no_commands
  commands_some : {n : ℕ} {ws us r : List Word} {cs : Commands} {c : Command}
      → Reads k commands_line n ws us cs → Reads k command_line n us r c → Reads k commands_line n ws r (then cs c)
  -- datum: ('const' | 'var') name '=' expr ';'
  constant : {n : ℕ} {w x q s : Word} {ws r : List Word} {e : Expr}
      → Is Const w → Is Name x → Is Equal q → Reads k expr_line n ws (s ∷ r) e → Is Semicolon s
      → Reads k datum_line n (w ∷ x ∷ q ∷ ws) r (λ ds. const ds w.place x.place (named x) e)
  variable : {n : ℕ} {w x q s : Word} {ws r : List Word} {e : Expr}
      → Is Var w → Is Name x → Is Equal q → Reads k expr_line n ws (s ∷ r) e → Is Semicolon s
      → Reads k datum_line n (w ∷ x ∷ q ∷ ws) r (λ ds. var ds w.place x.place (named x) e)
  -- routine: 'fun' name '(' names ')' '=' expr ';'
  --  | 'proc' name '(' names ')' command
  function : {n : ℕ} {w x o c q s : Word} {ws us r : List Word} {ps : List Parameter} {e : Expr}
      → Is Fun w → Is Name x → Is Open o → Reads k names_line n ws (c ∷ q ∷ us) ps → Is Close c → Is Equal q → Reads k expr_line n us (s ∷ r) e → Is Semicolon s
      → Reads k routine_line n (w ∷ x ∷ o ∷ ws) r (λ rs. fun rs w.place x.place (named x) ps e)
  procedure : {n : ℕ} {w x o c : Word} {ws us r : List Word} {ps : List Parameter} {p : Command}
      → Is Proc w → Is Name x → Is Open o → Reads k names_line n ws (c ∷ us) ps → Is Close c → Reads k command_line n us r p
      → Reads k routine_line n (w ∷ x ∷ o ∷ ws) r (λ rs. proc rs w.place x.place (named x) ps p)
  -- names: (name (',' name)..)?
  names_none : {n : ℕ} {ws : List Word} → Reads k names_line n ws ws []
  names_some : {n : ℕ} {x : Word} {ws r : List Word} {ps : List Parameter} → Is Name x → Reads k more_names n ws r ps → Reads k names_line n (x ∷ ws) r (parameter x ∷ ps)
  names_end : {n : ℕ} {ws : List Word} → Reads k more_names n ws ws []
  names_comma : {n : ℕ} {c x : Word} {ws r : List Word} {ps : List Parameter}
      → Is Comma c → Is Name x → Reads k more_names n ws r ps → Reads k more_names n (c ∷ x ∷ ws) r (parameter x ∷ ps)
  -- args: (expr (',' expr)..)?
  args_none : {n : ℕ} {ws : List Word} → Reads k args_line n ws ws no_args
  args_some : {n : ℕ} {ws r : List Word} {es : Args} → Reads k some_args n ws r es → Reads k args_line n ws r es
  args_first : {n : ℕ} {ws r : List Word} {e : Expr} → Reads k expr_line n ws r e → Reads k some_args n ws r (arg no_args e)
  args_comma : {n : ℕ} {c : Word} {ws us r : List Word} {es : Args} {e : Expr}
      → Reads k some_args n ws (c ∷ us) es → Is Comma c → Reads k expr_line n us r e → Reads k some_args n ws r (arg es e)
  -- expr: 'if' expr 'then' expr 'else' expr
  --  | 'let' name '=' expr 'in' expr | either
  expr : {n : ℕ} {ws r : List Word} {t : Expr} → Within k (suc n) ws → Reads k in_expr (suc n) ws r t → Reads k expr_line n ws r t
  if_expr : {n : ℕ} {w h l : Word} {ws ps qs r : List Word} {e p q : Expr}
      → Is If w → Reads k expr_line n ws (h ∷ ps) e → Is Then h → Reads k expr_line n ps (l ∷ qs) p → Is Else l → Reads k expr_line n qs r q
      → Reads k in_expr n (w ∷ ws) r (choose w.place e p q)
  let_expr : {n : ℕ} {w x q i : Word} {ws us r : List Word} {e b : Expr}
      → Is Let w → Is Name x → Is Equal q → Reads k expr_line n ws (i ∷ us) e → Is In i → Reads k expr_line n us r b
      → Reads k in_expr n (w ∷ x ∷ q ∷ ws) r (local w.place x.place (named x) e b)
  an_either : {n : ℕ} {ws r : List Word} {t : Expr} → Reads k either_line n ws r t → Reads k in_expr n ws r t
  -- An operator stands where its left operand begins: at the first word that is read for it, be it a bracket.
  -- either: both ('or' both)..
  one_both : {n : ℕ} {ws r : List Word} {t : Expr} → Reads k both_line n ws r t → Reads k either_line n ws r t
  or : {n : ℕ} {w o : Word} {ws us r : List Word} {p q : Expr}
      → Reads k either_line n (w ∷ ws) (o ∷ us) p → Is Or o → Reads k both_line n us r q → Reads k either_line n (w ∷ ws) r (either w.place p q)
  -- both: test ('and' test)..
  one_test : {n : ℕ} {ws r : List Word} {t : Expr} → Reads k test_line n ws r t → Reads k both_line n ws r t
  and : {n : ℕ} {w o : Word} {ws us r : List Word} {p q : Expr}
      → Reads k both_line n (w ∷ ws) (o ∷ us) p → Is And o → Reads k test_line n us r q → Reads k both_line n (w ∷ ws) r (both w.place p q)
  -- test: sum | sum '=' sum | sum '<' sum
  one_sum : {n : ℕ} {ws r : List Word} {t : Expr} → Reads k sum_line n ws r t → Reads k test_line n ws r t
  equals : {n : ℕ} {w o : Word} {ws us r : List Word} {p q : Expr}
      → Reads k sum_line n (w ∷ ws) (o ∷ us) p → Is Equal o → Reads k sum_line n us r q → Reads k test_line n (w ∷ ws) r (binary w.place equal p q)
  is_less : {n : ℕ} {w o : Word} {ws us r : List Word} {p q : Expr}
      → Reads k sum_line n (w ∷ ws) (o ∷ us) p → Is Less o → Reads k sum_line n us r q → Reads k test_line n (w ∷ ws) r (binary w.place less p q)
  -- sum: product (('+' | '-') product)..
  one_product : {n : ℕ} {ws r : List Word} {t : Expr} → Reads k product_line n ws r t → Reads k sum_line n ws r t
  plus : {n : ℕ} {w o : Word} {ws us r : List Word} {p q : Expr}
      → Reads k sum_line n (w ∷ ws) (o ∷ us) p → Is Plus o → Reads k product_line n us r q → Reads k sum_line n (w ∷ ws) r (binary w.place add p q)
  less_by : {n : ℕ} {w o : Word} {ws us r : List Word} {p q : Expr}
      → Reads k sum_line n (w ∷ ws) (o ∷ us) p → Is Minus o → Reads k product_line n us r q → Reads k sum_line n (w ∷ ws) r (binary w.place sub p q)
  -- product: prefix ('*' prefix)..
  one_prefix : {n : ℕ} {ws r : List Word} {t : Expr} → Reads k prefix_line n ws r t → Reads k product_line n ws r t
  times : {n : ℕ} {w o : Word} {ws us r : List Word} {p q : Expr}
      → Reads k product_line n (w ∷ ws) (o ∷ us) p → Is Times o → Reads k prefix_line n us r q → Reads k product_line n (w ∷ ws) r (binary w.place mul p q)
  -- prefix: '-' prefix | 'not' prefix | atom
  prefix : {n : ℕ} {ws r : List Word} {t : Expr} → Within k (suc n) ws → Reads k in_prefix (suc n) ws r t → Reads k prefix_line n ws r t
  negative : {n : ℕ} {w : Word} {ws r : List Word} {t : Expr} → Is Minus w → Reads k prefix_line n ws r t → Reads k in_prefix n (w ∷ ws) r (signed w.place minus t)
  negated : {n : ℕ} {w : Word} {ws r : List Word} {t : Expr} → Is Not w → Reads k prefix_line n ws r t → Reads k in_prefix n (w ∷ ws) r (signed w.place negate t)
  an_atom : {n : ℕ} {ws r : List Word} {t : Expr} → Reads k atom_line n ws r t → Reads k in_prefix n ws r t
  -- atom: number | 'true' | 'false' | name | name '(' args ')' | '(' expr ')'
  a_number : {n : ℕ} {w : Word} {ws : List Word} → Is Number w → Reads k atom_line n (w ∷ ws) ws (number w.place (value w))
  a_true : {n : ℕ} {w : Word} {ws : List Word} → Is True w → Reads k atom_line n (w ∷ ws) ws (truth w.place true)
  a_false : {n : ℕ} {w : Word} {ws : List Word} → Is False w → Reads k atom_line n (w ∷ ws) ws (truth w.place false)
  a_name : {n : ℕ} {w : Word} {ws : List Word} → Is Name w → Reads k atom_line n (w ∷ ws) ws (read w.place (named w))
  a_call : {n : ℕ} {w o c : Word} {ws r : List Word} {es : Args}
      → Is Name w → Is Open o → Reads k args_line n ws (c ∷ r) es → Is Close c
      → Reads k atom_line n (w ∷ o ∷ ws) r (apply w.place (named w) es)
  brackets : {n : ℕ} {o c : Word} {ws r : List Word} {t : Expr} → Is Open o → Reads k expr_line n ws (c ∷ r) t → Is Close c → Reads k atom_line n (o ∷ ws) r t

-- the words are one command, with the nest kept by each line that begins with k words or more unread
abbrev pub Text : ℕ → List Word → Command → Type 0
Text k ws t = Reads k command_line 0 ws [] t
