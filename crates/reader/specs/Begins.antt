-- With which words the lines command, prefix and expr can begin.
use Rattle.std.specs.Prelude.{Bool, true, false}
use Rattle.lang.specs.declared.word.Kind.{Kind}
use Rattle.lang.specs.declared.word.Kind.TheVariants.{Name, Number, Call, If, Then, Else, While, Do, Const, Var, Fun, Proc, Let, In, Or, And, Not, True, False, OpenBrace, CloseBrace, Open, Close, Semicolon, Comma, Equal, Less, Plus, Minus, Times, Becomes}
use Rattle.reader.specs.declared.grammar.begins.Line.{Line}
use Rattle.reader.specs.declared.grammar.begins.Line.TheVariants.{Command, Expr, Prefix}

abbrev pub begins_command : Kind → Bool
begins_command Name = true
begins_command Number = false
begins_command Call = true
begins_command If = true
begins_command Then = false
begins_command Else = false
begins_command While = true
begins_command Do = false
begins_command Const = false
begins_command Var = false
begins_command Fun = false
begins_command Proc = false
begins_command Let = false
begins_command In = false
begins_command Or = false
begins_command And = false
begins_command Not = false
begins_command True = false
begins_command False = false
begins_command OpenBrace = true
begins_command CloseBrace = false
begins_command Open = false
begins_command Close = false
begins_command Semicolon = false
begins_command Comma = false
begins_command Equal = false
begins_command Less = false
begins_command Plus = false
begins_command Minus = false
begins_command Times = false
begins_command Becomes = false

abbrev pub begins_prefix : Kind → Bool
begins_prefix Name = true
begins_prefix Number = true
begins_prefix Call = false
begins_prefix If = false
begins_prefix Then = false
begins_prefix Else = false
begins_prefix While = false
begins_prefix Do = false
begins_prefix Const = false
begins_prefix Var = false
begins_prefix Fun = false
begins_prefix Proc = false
begins_prefix Let = false
begins_prefix In = false
begins_prefix Or = false
begins_prefix And = false
begins_prefix Not = true
begins_prefix True = true
begins_prefix False = true
begins_prefix OpenBrace = false
begins_prefix CloseBrace = false
begins_prefix Open = true
begins_prefix Close = false
begins_prefix Semicolon = false
begins_prefix Comma = false
begins_prefix Equal = false
begins_prefix Less = false
begins_prefix Plus = false
begins_prefix Minus = true
begins_prefix Times = false
begins_prefix Becomes = false

abbrev pub begins_expr : Kind → Bool
begins_expr Name = true
begins_expr Number = true
begins_expr Call = false
begins_expr If = true
begins_expr Then = false
begins_expr Else = false
begins_expr While = false
begins_expr Do = false
begins_expr Const = false
begins_expr Var = false
begins_expr Fun = false
begins_expr Proc = false
begins_expr Let = true
begins_expr In = false
begins_expr Or = false
begins_expr And = false
begins_expr Not = true
begins_expr True = true
begins_expr False = true
begins_expr OpenBrace = false
begins_expr CloseBrace = false
begins_expr Open = true
begins_expr Close = false
begins_expr Semicolon = false
begins_expr Comma = false
begins_expr Equal = false
begins_expr Less = false
begins_expr Plus = false
begins_expr Minus = true
begins_expr Times = false
begins_expr Becomes = false

-- with which words a line can begin
abbrev pub begins : Line → Kind → Bool
begins Command = begins_command
begins Expr = begins_expr
begins Prefix = begins_prefix
