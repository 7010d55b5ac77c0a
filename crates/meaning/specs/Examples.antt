-- Worked examples over one sheet, as trees.
use Rattle.std.specs.Prelude.{◌≡◌, ℕ, zero, suc, ◌+◌, Bool, true, false, List, [], ◌∷◌, map, ℤ, pos, negsuc, Some, None, codes, Option}
use Rattle.std.specs.List.{slice_get}
use Rattle.lang.specs.declared.name.Name.{Name}
use Rattle.lang.specs.Names.{padded}
use Rattle.lang.specs.declared.value.Value.TheVariants.{Number, Truth}
use Rattle.lang.specs.declared.fault.Fault.TheVariants.{Kind, Range}
use Rattle.lang.specs.declared.refusal.Refusal.TheVariants.{NotVisible, NameTwice, WrongSort, WrongCount, ScopesTooDeep, TooManyNames}
use Rattle.lang.specs.declared.refusal.Refused.{Refused}
use Rattle.lang.specs.declared.sheet.Mark.TheVariants.{Given, Kept}
use Rattle.lang.specs.declared.sheet.Entry.{Entry}
use Rattle.lang.specs.declared.instruction.Instruction.TheVariants.{Load}
use Rattle.meaning.specs.Tree.{Place, add, sub, mul, equal, less, number, truth, read, binary, both, choose, local, no_args, no_data, const, var, Command, block, assign, perform, no_commands, then, no_routines, proc, Parameter, while, fun, apply, arg}
use Rattle.meaning.specs.Scopes.{sheet_scope}
use Rattle.meaning.specs.Violations.{refusal}
use Rattle.meaning.specs.Translation.{translated, instructions}
use Rattle.meaning.specs.Uses.{used}
use Rattle.meaning.specs.Runs.{Outcome, done, faulty, Ending, meaning}

abbrev pub named : List ℕ → Name
named bs = record { bytes = padded bs }

abbrev pub days : Name
days = named (codes "days")

abbrev pub fee : Name
fee = named (codes "fee")

abbrev pub a : Name
a = named (codes "a")

abbrev pub b : Name
b = named (codes "b")

abbrev pub p : Name
p = named (codes "p")

abbrev pub q : Name
q = named (codes "q")

-- parameters of one letter each, every second byte from a place on
abbrev pub letters : Place → List ℕ → List Parameter
letters at [] = []
letters at (c ∷ cs) = record { name = named (c ∷ []); place = at } ∷ letters (at + 2) cs

-- days is given, 3; fee and open are kept, here with some values
abbrev pub sheet : ℤ → Bool → List Entry
sheet f o = record { name = days; mark = Given; value = Number (pos 3) }
    ∷ record { name = fee; mark = Kept; value = Number f }
    ∷ record { name = named (codes "open"); mark = Kept; value = Truth o }
    ∷ []

abbrev pub first : List Entry
first = sheet (pos 0) false

-- a rule, with how its run over the first sheet ends
pub record Example : Type 0 where
  pub rule : Command
  pub ends : Outcome
  pub steps : ℕ

abbrev pub fee_is : ℤ → Outcome
fee_is z = done (sheet z false)

-- { const days = days + 1; fee := days; }
abbrev pub hides : Command
hides = block 0 (const no_data 2 8 days (binary 15 add (read 15 days) (number 22 1))) no_routines (then no_commands (assign 25 fee (read 32 days)))

-- fee := let x = 1 in let y = 2 in x;
abbrev pub lets : Name → Name → Command
lets x y = assign 0 fee (local 7 11 x (number 15 1) (local 20 24 y (number 28 2) (read 33 x)))

abbrev pub examples : List Example
examples =
    -- fee := days + 1;
    record { rule = assign 0 fee (binary 7 add (read 7 days) (number 14 1)); ends = fee_is (pos 4); steps = 4 }
    -- {}
    ∷ record { rule = block 0 no_data no_routines no_commands; ends = fee_is (pos 0); steps = 2 }
    ∷ record { rule = hides; ends = fee_is (pos 4); steps = 8 }
    -- { var a = 1; proc p() a := 9; proc q() { var a = 2; call p(); fee := a; } call q(); fee := fee * 10 + a; }
    ∷ record {
      rule = block 0 (var no_data 2 6 a (number 10 1))
          (proc (proc no_routines 13 18 p [] (assign 22 a (number 27 9)))
          30 35 q [] (block 39 (var no_data 41 45 a (number 49 2)) no_routines (then (then no_commands (perform 52 57 p no_args)) (assign 62 fee (read 69 a)))))
          (then (then no_commands (perform 74 79 q no_args)) (assign 84 fee (binary 91 add (binary 91 mul (read 91 fee) (number 97 10)) (read 102 a))));
      ends = fee_is (pos 29);
      steps = 24;
    }
    -- { fee := 5; fee := true; }
    ∷ record { rule = block 0 no_data no_routines (then (then no_commands (assign 2 fee (number 9 5))) (assign 12 fee (truth 19 true))); ends = faulty Kind 12; steps = 5 }
    -- fee := 0 - 2147483647 - 1;
    ∷ record { rule = assign 0 fee (binary 7 sub (binary 7 sub (number 7 0) (number 11 2147483647)) (number 24 1)); ends = fee_is (negsuc 2147483647); steps = 6 }
    ∷ record { rule = lets a b; ends = fee_is (pos 1); steps = 10 }
    -- fee := if days = 4 and 2147483647 + 1 < 0 then 1 else 2;
    ∷ record { rule = assign 0 fee (choose 7 (both 10 (binary 10 equal (read 10 days) (number 17 4)) (binary 23 less (binary 23 add (number 23 2147483647) (number 36 1)) (number 40 0))) (number 47 1) (number 54 2)); ends = faulty Range 23; steps = 6 }
    ∷ []

-- further rules: a loop, and a call whose args are told apart
abbrev pub further : List Example
further =
    -- { var a = 0; while a < 3 do a := a + 1; fee := a; }
    record { rule = block 0 (var no_data 2 6 a (number 10 0)) no_routines (then (then no_commands (while 13 (binary 19 less (read 19 a) (number 23 3)) (assign 28 a (binary 33 add (read 33 a) (number 37 1))))) (assign 40 fee (read 47 a))); ends = fee_is (pos 3); steps = 37 }
    -- { fun p(a, b) = a - b; fee := p(7, 2); }
    ∷ record { rule = block 0 no_data (fun no_routines 2 6 p (record { name = a; place = 8 } ∷ record { name = b; place = 11 } ∷ []) (binary 16 sub (read 16 a) (read 20 b))) (then no_commands (assign 23 fee (apply 30 p (arg (arg no_args (number 32 7)) (number 35 2))))); ends = fee_is (pos 5); steps = 11 }
    ∷ []

-- whether a rule is refused, and how its run ends
abbrev pub told : Command → Option Refused × Ending
told c = (refusal first c, meaning first c)

abbrev pub expected : Example → Option Refused × Ending
expected x = (None, record { outcome = x.ends; steps = x.steps })

-- rules that are refused, each with its violation
abbrev pub refusals : List (Command × Refused)
refusals =
    -- a := 1;
    (assign 0 a (number 5 1), record { why = NotVisible; place = 0 })
    -- { var a = 1; const a = a; }
    ∷ (block 0 (const (var no_data 2 6 a (number 10 1)) 13 19 a (read 23 a)) no_routines no_commands, record { why = NameTwice; place = 19 })
    -- days := 1;
    ∷ (assign 0 days (number 8 1), record { why = WrongSort; place = 0 })
    -- fee := let a = a in a;
    ∷ (assign 0 fee (local 7 11 a (read 15 a) (read 20 a)), record { why = NotVisible; place = 15 })
    -- { const a = p(); fun p() = 1; }
    ∷ (block 0 (const no_data 2 8 a (apply 12 p no_args)) (fun no_routines 17 21 p [] (number 27 1)) no_commands, record { why = NotVisible; place = 12 })
    -- { proc p(a) fee := a; call p(); }
    ∷ (block 0 no_data (proc no_routines 2 7 p (record { name = a; place = 9 } ∷ []) (assign 12 fee (read 19 a))) (then no_commands (perform 22 27 p no_args)), record { why = WrongCount; place = 27 })
    -- { fun p(a,b,c,d,e,g,h,i,j) = 1; }
    ∷ (block 0 no_data (fun no_routines 2 6 p (letters 8 (97 ∷ 98 ∷ 99 ∷ 100 ∷ 101 ∷ 103 ∷ 104 ∷ 105 ∷ 106 ∷ [])) (number 29 1)) no_commands, record { why = TooManyNames; place = 24 })
    ∷ []

-- n blocks, each in the one before: the first at p
abbrev pub nested : ℕ → Place → Command
nested zero p = block p no_data no_routines no_commands
nested (suc n) p = block p no_data no_routines (then no_commands (nested n (suc p)))

-- The examples end as they are said to, and so do the further ones; those with a violation are refused by it; the first LOAD of the constant that hides an entry is 1 0, and came from `days` with no datum visible yet; the nested lets have one code
-- whichever way round their names are; 15 nested blocks pass and 16 are refused at the last.
abbrev pub ExamplesHold : Type 0
ExamplesHold = (map (λ x. told x.rule) examples ≡ map expected examples)
    × (map (λ x. told x.rule) further ≡ map expected further)
    × (map (λ x. refusal first x.0) refusals ≡ map (λ x. Some x.1) refusals)
    × (slice_get (translated first hides) 1 ≡ Some (Load 1 0, 15))
    × (slice_get (used first hides) 1 ≡ Some (Some (days, [] ∷ sheet_scope first)))
    × (instructions (translated first (lets a b)) ≡ instructions (translated first (lets b a)))
    × (refusal first (nested 14 0) ≡ None)
    × (refusal first (nested 15 0) ≡ Some (record { why = ScopesTooDeep; place = 15 }))
