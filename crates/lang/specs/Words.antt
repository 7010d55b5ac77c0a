-- The reserved words.
use Rattle.std.specs.Prelude.{ℕ, cond, List, codes}
use Rattle.lang.specs.Names.{same_bytes}
use Rattle.lang.specs.declared.word.Kind.{Kind}
use Rattle.lang.specs.declared.word.Kind.TheVariants.{Name, Call, If, Then, Else, While, Do, Const, Var, Fun, Proc, Let, In, Or, And, Not, True, False}

abbrev pub command_word : List ℕ → Kind
command_word w =
    cond (same_bytes w (codes "call")) Call
    (cond (same_bytes w (codes "if")) If
    (cond (same_bytes w (codes "then")) Then
    (cond (same_bytes w (codes "else")) Else
    (cond (same_bytes w (codes "while")) While
    (cond (same_bytes w (codes "do")) Do
    Name)))))

abbrev pub block_word : List ℕ → Kind
block_word w =
    cond (same_bytes w (codes "const")) Const
    (cond (same_bytes w (codes "var")) Var
    (cond (same_bytes w (codes "fun")) Fun
    (cond (same_bytes w (codes "proc")) Proc
    (command_word w))))

abbrev pub expr_word : List ℕ → Kind
expr_word w =
    cond (same_bytes w (codes "let")) Let
    (cond (same_bytes w (codes "in")) In
    (cond (same_bytes w (codes "or")) Or
    (cond (same_bytes w (codes "and")) And
    (cond (same_bytes w (codes "not")) Not
    (cond (same_bytes w (codes "true")) True
    (cond (same_bytes w (codes "false")) False
    (block_word w)))))))

-- the kind of a run of name bytes: a reserved word, by its bytes exactly, or a name
abbrev pub reserved : List ℕ → Kind
reserved w = expr_word w
