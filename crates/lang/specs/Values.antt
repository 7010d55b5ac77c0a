-- Values, their kinds, and the slots that hold them.
use Rattle.std.specs.Prelude.{Bool, true, false, ◌&&◌, ℤ, pos, negsuc, Some, None, Option, int_le}
use Rattle.lang.specs.declared.value.Kind.{Kind}
use Rattle.lang.specs.declared.value.Kind.TheVariants as kind
use Rattle.lang.specs.declared.value.Value.{Value}
use Rattle.lang.specs.declared.value.Value.TheVariants as value
use Rattle.lang.specs.declared.value.Slot.{Slot}
use Rattle.lang.specs.declared.value.Slot.TheVariants as slot

-- the numbers there are: from −2,147,483,648 to 2,147,483,647
abbrev pub in_range : ℤ → Bool
in_range z = int_le (negsuc 2147483647) z && int_le z (pos 2147483647)

-- a value's kind
abbrev pub kind_of : Value → Kind
kind_of (value.Number z) = kind.Number
kind_of (value.Truth b) = kind.Truth

-- the slot that holds a value
abbrev pub slot_of : Value → Slot
slot_of (value.Number z) = slot.Number z
slot_of (value.Truth b) = slot.Truth b

-- the value that a slot holds, if any
abbrev pub value_in : Slot → Option Value
value_in slot.Unset = None
value_in (slot.Number z) = Some (value.Number z)
value_in (slot.Truth b) = Some (value.Truth b)
value_in (slot.Position k) = None

-- whether two values are of one kind
abbrev pub alike : Value → Value → Bool
alike (value.Number y) (value.Number z) = true
alike (value.Number y) (value.Truth b) = false
alike (value.Truth a) (value.Number z) = false
alike (value.Truth a) (value.Truth b) = true
