-- Words and the trees they are read as, or where they are refused.
use Rattle.std.specs.Prelude.{ℕ, zero, suc, ◌+◌, ◌≡◌, true, List, [], ◌∷◌, codes}
use Rattle.lang.specs.declared.word.Kind.{Kind}
use Rattle.lang.specs.declared.word.Kind.TheVariants.{Number, Call, If, Then, Else, While, Do, Const, Var, Fun, Proc, Let, In, And, Not, True, OpenBrace, CloseBrace, Open, Close, Semicolon, Comma, Equal, Less, Plus, Minus, Times, Becomes, Name as Named}
use Rattle.lang.specs.declared.refusal.Refusal.TheVariants.{Unexpected, NestTooDeep}
use Rattle.lang.specs.declared.name.Name.{Name}
use Rattle.lang.specs.Names.{padded}
use Rattle.meaning.specs.Tree.{Place, Expr, minus, negate, add, sub, mul, less, number, truth, read, signed, binary, both, local, apply, no_args, arg, no_data, const, var, block, assign, perform, fork, while, no_commands, then, no_routines, fun, proc}
use Rattle.grammar.specs.Words.{Word}
use Rattle.grammar.specs.Machine.{fine, bad}
use Rattle.grammar.specs.Table.{reading}

-- a mark or a reserved word, whose bytes say no more than its kind
abbrev pub m : Kind → Place → Word
m k p = record { kind = k; bytes = []; place = p }

-- a name and a number, by their bytes
abbrev pub x : List ℕ → Place → Word
x bs p = record { kind = Named; bytes = bs; place = p }

abbrev pub d : List ℕ → Place → Word
d bs p = record { kind = Number; bytes = bs; place = p }

abbrev pub name : List ℕ → Name
name bs = record { bytes = padded bs }

abbrev pub fee : List ℕ
fee = codes "fee"

-- n minus signs from a place on, and the operators that they write
abbrev pub signs : ℕ → Place → List Word → List Word
signs zero p ws = ws
signs (suc n) p ws = m Minus p ∷ signs n (p + 1) ws

abbrev pub negated : ℕ → Place → Expr → Expr
negated zero p e = e
negated (suc n) p e = signed p minus (negated n (p + 1) e)

-- fee := 9 - 4 - 3; operators group to the left
abbrev pub Left : Type 0
Left = reading (x fee 0 ∷ m Becomes 4 ∷ d (codes "9") 7 ∷ m Minus 9 ∷ d (codes "4") 11 ∷ m Minus 13 ∷ d (codes "3") 15 ∷ m Semicolon 16 ∷ [])
    ≡ fine (assign 0 (name fee) (binary 7 sub (binary 7 sub (number 7 9) (number 11 4)) (number 15 3)))

-- fee := ((1 + 1) * 2147483647); the product stands at the inner bracket
abbrev pub Bracketed : Type 0
Bracketed = reading (x fee 0 ∷ m Becomes 4 ∷ m Open 7 ∷ m Open 8 ∷ d (codes "1") 9 ∷ m Plus 11 ∷ d (codes "1") 13 ∷ m Close 14 ∷ m Times 16
    ∷ d (codes "2147483647") 18 ∷ m Close 28 ∷ m Semicolon 29 ∷ [])
    ≡ fine (assign 0 (name fee) (binary 8 mul (binary 9 add (number 9 1) (number 13 1)) (number 18 2147483647)))

-- fee := ((days) + 001); brackets and leading zeros leave no trace but a place
abbrev pub Traceless : Type 0
Traceless = reading (x fee 0 ∷ m Becomes 4 ∷ m Open 7 ∷ m Open 8 ∷ x (codes "days") 9 ∷ m Close 13 ∷ m Plus 15 ∷ d (codes "001") 17 ∷ m Close 20 ∷ m Semicolon 21 ∷ [])
    ≡ fine (assign 0 (name fee) (binary 8 add (read 9 (name (codes "days"))) (number 17 1)))

-- { const a = 1; var b = let t = a in t; fun f(x, y) = x; proc p() {} call p(); fee := f(a, b); }
abbrev pub Block : Type 0
Block = reading (m OpenBrace 0 ∷ m Const 2 ∷ x (codes "a") 8 ∷ m Equal 10 ∷ d (codes "1") 12 ∷ m Semicolon 13
    ∷ m Var 15 ∷ x (codes "b") 19 ∷ m Equal 21 ∷ m Let 23 ∷ x (codes "t") 27 ∷ m Equal 29 ∷ x (codes "a") 31 ∷ m In 33 ∷ x (codes "t") 36 ∷ m Semicolon 37
    ∷ m Fun 39 ∷ x (codes "f") 43 ∷ m Open 44 ∷ x (codes "x") 45 ∷ m Comma 46 ∷ x (codes "y") 48 ∷ m Close 49 ∷ m Equal 51 ∷ x (codes "x") 53 ∷ m Semicolon 54
    ∷ m Proc 56 ∷ x (codes "p") 61 ∷ m Open 62 ∷ m Close 63 ∷ m OpenBrace 65 ∷ m CloseBrace 66
    ∷ m Call 68 ∷ x (codes "p") 73 ∷ m Open 74 ∷ m Close 75 ∷ m Semicolon 76
    ∷ x fee 78 ∷ m Becomes 82 ∷ x (codes "f") 85 ∷ m Open 86 ∷ x (codes "a") 87 ∷ m Comma 88 ∷ x (codes "b") 90 ∷ m Close 91 ∷ m Semicolon 92 ∷ m CloseBrace 94 ∷ [])
    ≡ fine (block 0
    (var (const no_data 2 8 (name (codes "a")) (number 12 1))
    15 19 (name (codes "b")) (local 23 27 (name (codes "t")) (read 31 (name (codes "a"))) (read 36 (name (codes "t")))))
    (proc (fun no_routines 39 43 (name (codes "f")) (record { name = name (codes "x"); place = 45 } ∷ record { name = name (codes "y"); place = 48 } ∷ []) (read 53 (name (codes "x"))))
    56 61 (name (codes "p")) [] (block 65 no_data no_routines no_commands))
    (then (then no_commands (perform 68 73 (name (codes "p")) no_args))
    (assign 78 (name fee) (apply 85 (name (codes "f")) (arg (arg no_args (read 87 (name (codes "a")))) (read 90 (name (codes "b"))))))))

-- if fee < 1 and open then {} else while not true do {}
abbrev pub Branches : Type 0
Branches = reading (m If 0 ∷ x fee 3 ∷ m Less 7 ∷ d (codes "1") 9 ∷ m And 11 ∷ x (codes "open") 15 ∷ m Then 20 ∷ m OpenBrace 25 ∷ m CloseBrace 26
    ∷ m Else 28 ∷ m While 33 ∷ m Not 39 ∷ m True 43 ∷ m Do 48 ∷ m OpenBrace 51 ∷ m CloseBrace 52 ∷ [])
    ≡ fine (fork 0 (both 3 (binary 3 less (read 3 (name fee)) (number 9 1)) (read 15 (name (codes "open")))) (block 25 no_data no_routines no_commands)
    (while 33 (signed 39 negate (truth 43 true)) (block 51 no_data no_routines no_commands)))

-- fee := 1 = 2 = 3; is refused at the second equals sign, and fee := 1 + if open then 1 else 2; at the word if
abbrev pub Unchained : Type 0
Unchained = (reading (x fee 0 ∷ m Becomes 4 ∷ d (codes "1") 7 ∷ m Equal 9 ∷ d (codes "2") 11 ∷ m Equal 13 ∷ d (codes "3") 15 ∷ m Semicolon 16 ∷ [])
    ≡ bad Unexpected (m Equal 13 ∷ d (codes "3") 15 ∷ m Semicolon 16 ∷ []))
    × (reading (x fee 0 ∷ m Becomes 4 ∷ d (codes "1") 7 ∷ m Plus 9 ∷ m If 11 ∷ x (codes "open") 14 ∷ m Then 19 ∷ d (codes "1") 24 ∷ m Else 26 ∷ d (codes "2") 31 ∷ m Semicolon 32 ∷ [])
    ≡ bad Unexpected (m If 11 ∷ x (codes "open") 14 ∷ m Then 19 ∷ d (codes "1") 24 ∷ m Else 26 ∷ d (codes "2") 31 ∷ m Semicolon 32 ∷ []))

-- the empty text, three braces and no more, and a word after the rule
abbrev pub Ends : Type 0
Ends = (reading [] ≡ bad Unexpected [])
    × (reading (m OpenBrace 0 ∷ m OpenBrace 1 ∷ m OpenBrace 2 ∷ []) ≡ bad Unexpected [])
    × (reading (m OpenBrace 0 ∷ m CloseBrace 1 ∷ m Semicolon 2 ∷ []) ≡ bad Unexpected (m Semicolon 2 ∷ []))

-- fee := and 61 signs reach nest 64; with 62 the number is too deep, but a bracket there is refused as no word of an operand
abbrev pub Nested : Type 0
Nested = (reading (x fee 0 ∷ m Becomes 4 ∷ signs 61 7 (d (codes "1") 68 ∷ m Semicolon 69 ∷ [])) ≡ fine (assign 0 (name fee) (negated 61 7 (number 68 1))))
    × (reading (x fee 0 ∷ m Becomes 4 ∷ signs 62 7 (d (codes "1") 69 ∷ m Semicolon 70 ∷ [])) ≡ bad NestTooDeep (d (codes "1") 69 ∷ m Semicolon 70 ∷ []))
    × (reading (x fee 0 ∷ m Becomes 4 ∷ signs 62 7 (m Close 69 ∷ [])) ≡ bad Unexpected (m Close 69 ∷ []))

abbrev pub ExamplesHold : Type 0
ExamplesHold = Left × Bracketed × Traceless × Block × Branches × Unchained × Ends × Nested
