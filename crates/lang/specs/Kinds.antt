-- Kinds of words, told apart by a number.
use Rattle.std.specs.Prelude.{ℕ, Bool, ◌==◌}
use Rattle.lang.specs.declared.word.Kind.{Kind}
use Rattle.lang.specs.declared.word.Kind.TheVariants.{Name, Number, Call, If, Then, Else, While, Do, Const, Var, Fun, Proc, Let, In, Or, And, Not, True, False, OpenBrace, CloseBrace, Open, Close, Semicolon, Comma, Equal, Less, Plus, Minus, Times, Becomes}

abbrev pub code : Kind → ℕ
code Name = 0
code Number = 1
code Call = 2
code If = 3
code Then = 4
code Else = 5
code While = 6
code Do = 7
code Const = 8
code Var = 9
code Fun = 10
code Proc = 11
code Let = 12
code In = 13
code Or = 14
code And = 15
code Not = 16
code True = 17
code False = 18
code OpenBrace = 19
code CloseBrace = 20
code Open = 21
code Close = 22
code Semicolon = 23
code Comma = 24
code Equal = 25
code Less = 26
code Plus = 27
code Minus = 28
code Times = 29
code Becomes = 30

abbrev pub same_kind : Kind → Kind → Bool
same_kind a b = code a == code b
