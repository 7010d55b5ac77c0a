-- What the operators do to values. An operator that cannot be done says which fault it is.
use Rattle.std.specs.Prelude.{Bool, cond, not, ◌&&◌, ◌||◌, ℤ, ◌+ℤ◌, ◌-ℤ◌, ◌*ℤ◌, neg_ℤ, Ok, Err, Result, int_le, int_lt}
use Rattle.lang.specs.Values.{in_range}
use Rattle.lang.specs.declared.value.Value.{Value}
use Rattle.lang.specs.declared.value.Value.TheVariants.{Number, Truth}
use Rattle.lang.specs.declared.fault.Fault.{Fault}
use Rattle.lang.specs.declared.fault.Fault.TheVariants as fault
use Rattle.meaning.specs.Tree.{Sign, minus, negate, Operator, add, sub, mul, equal, less}

abbrev pub Worked : Type 0
Worked = Result Value Fault

-- a result has to be a number that there is
abbrev pub ranged : ℤ → Worked
ranged z = cond (in_range z) (Ok (Number z)) (Err fault.Range)

-- whether two numbers are equal
abbrev pub same_z : ℤ → ℤ → Bool
same_z a b = int_le a b && int_le b a

abbrev pub on_numbers : Operator → ℤ → ℤ → Worked
on_numbers add a b = ranged (a +ℤ b)
on_numbers sub a b = ranged (a -ℤ b)
on_numbers mul a b = ranged (a *ℤ b)
on_numbers equal a b = Ok (Truth (same_z a b))
on_numbers less a b = Ok (Truth (int_lt a b))

-- `+`, `-`, `*`, `=` and `<` take numbers
abbrev pub worked : Operator → Value → Value → Worked
worked o (Number a) (Number b) = on_numbers o a b
worked o (Number a) (Truth b) = Err fault.Kind
worked o (Truth a) v = Err fault.Kind

-- `and` and `or` take truths, both of them
abbrev pub conjoined : Value → Value → Worked
conjoined (Truth a) (Truth b) = Ok (Truth (a && b))
conjoined (Truth a) (Number b) = Err fault.Kind
conjoined (Number a) v = Err fault.Kind

abbrev pub disjoined : Value → Value → Worked
disjoined (Truth a) (Truth b) = Ok (Truth (a || b))
disjoined (Truth a) (Number b) = Err fault.Kind
disjoined (Number a) v = Err fault.Kind

abbrev pub with_sign : Sign → Value → Worked
with_sign minus (Number a) = ranged (neg_ℤ a)
with_sign minus (Truth b) = Err fault.Kind
with_sign negate (Number a) = Err fault.Kind
with_sign negate (Truth b) = Ok (Truth (not b))
