-- The sheet as a list of entries, and which entries there can be.
use Rattle.std.specs.Prelude.{ℕ, zero, suc, Bool, true, false, cond, ◌&&◌, List, [], ◌∷◌, ◌++◌, length, take, ℤ, pos, negsuc, Some, None, Option, nat_le, slice_set}
use Rattle.std.specs.List.{list_all, list_any, slice_get}
use Rattle.lang.specs.declared.name.Name.{Name}
use Rattle.lang.specs.declared.value.Value.{Value}
use Rattle.lang.specs.declared.value.Value.TheVariants.{Number, Truth}
use Rattle.lang.specs.declared.word.Class.{Class}
use Rattle.lang.specs.declared.word.Class.TheVariants as class
use Rattle.lang.specs.declared.word.Kind.{Kind}
use Rattle.lang.specs.declared.word.Kind.TheVariants as kind
use Rattle.lang.specs.declared.sheet.Mark.{Mark}
use Rattle.lang.specs.declared.sheet.Mark.TheVariants.{Given, Kept}
use Rattle.lang.specs.declared.sheet.Entry.{Entry}
use Rattle.lang.specs.declared.sheet.Sheet.{Sheet}
use Rattle.lang.specs.declared.sheet.Described.{Described}
use Rattle.lang.specs.Bytes.{class as class_of, name_byte}
use Rattle.lang.specs.Names.{same, padded}
use Rattle.lang.specs.Values.{alike, in_range}
use Rattle.lang.specs.Words.{reserved}

-- its entries, numbered from 0
abbrev pub entries_of : Sheet → List Entry
entries_of s = take s.count s.entries

abbrev pub letter_class : Class → Bool
letter_class class.Letter = true
letter_class class.Space = false
letter_class class.Digit = false
letter_class class.Underscore = false
letter_class class.Colon = false
letter_class (class.Mark k) = false
letter_class class.Other = false

abbrev pub is_letter : ℕ → Bool
is_letter b = letter_class (class_of b)

-- all bytes are letters, digits or underscores
abbrev pub all_name : List ℕ → Bool
all_name bs = list_all name_byte bs

abbrev pub plain_word : Kind → Bool
plain_word kind.Name = true
plain_word kind.Number = false
plain_word kind.Call = false
plain_word kind.If = false
plain_word kind.Then = false
plain_word kind.Else = false
plain_word kind.While = false
plain_word kind.Do = false
plain_word kind.Const = false
plain_word kind.Var = false
plain_word kind.Fun = false
plain_word kind.Proc = false
plain_word kind.Let = false
plain_word kind.In = false
plain_word kind.Or = false
plain_word kind.And = false
plain_word kind.Not = false
plain_word kind.True = false
plain_word kind.False = false
plain_word kind.OpenBrace = false
plain_word kind.CloseBrace = false
plain_word kind.Open = false
plain_word kind.Close = false
plain_word kind.Semicolon = false
plain_word kind.Comma = false
plain_word kind.Equal = false
plain_word kind.Less = false
plain_word kind.Plus = false
plain_word kind.Minus = false
plain_word kind.Times = false
plain_word kind.Becomes = false

abbrev pub first_letter : List ℕ → Bool
first_letter [] = false
first_letter (b ∷ bs) = is_letter b

-- a letter, up to 15 more letters, digits or underscores, and no reserved word
abbrev pub is_name : List ℕ → Bool
is_name bs = nat_le (length bs) 16 && (first_letter bs && (all_name bs && plain_word (reserved bs)))

abbrev pub truth_of : ℤ → Option Value
truth_of (pos zero) = Some (Truth false)
truth_of (pos (suc zero)) = Some (Truth true)
truth_of (pos (suc (suc n))) = None
truth_of (negsuc n) = None

-- the value that the host means by a kind (0 number, 1 truth) and a number
abbrev pub value_of : ℕ → ℤ → Option Value
value_of zero z = cond (in_range z) (Some (Number z)) None
value_of (suc zero) z = truth_of z
value_of (suc (suc k)) z = None

-- mark 0 is given, 1 kept
abbrev pub mark_of : ℕ → Option Mark
mark_of zero = Some Given
mark_of (suc zero) = Some Kept
mark_of (suc (suc m)) = None

abbrev pub entry_with : List ℕ → Option Mark → Option Value → Option Entry
entry_with bs None v = None
entry_with bs (Some m) None = None
entry_with bs (Some m) (Some v) = Some (record { name = record { bytes = padded bs }; mark = m; value = v })

-- the entry that the host describes, if its name, mark, kind and value are good
abbrev pub entry_of : Described → Option Entry
entry_of d = cond (is_name d.name.now) (entry_with d.name.now (mark_of d.mark) (value_of d.kind d.value)) None

-- whether an entry has the name
abbrev pub named : Name → List Entry → Bool
named x es = list_any (λ e. same x e.name) es

-- one entry more: at most 32, each with a name of its own
abbrev pub added : List Entry → Entry → Option (List Entry)
added es e = cond (nat_le 32 (length es)) None (cond (named e.name es) None (Some (es ++ (e ∷ []))))

abbrev pub added_to : Option (List Entry) → Option Entry → Option (List Entry)
added_to None o = None
added_to (Some es) None = None
added_to (Some es) (Some e) = added es e

-- the entries that the host describes after those that stand
abbrev pub sheet_after : Option (List Entry) → List Described → Option (List Entry)
sheet_after s [] = s
sheet_after s (d ∷ ds) = sheet_after (added_to s (entry_of d)) ds

-- the sheet that the host describes, if there is one
abbrev pub sheet_from : List Described → Option (List Entry)
sheet_from ds = sheet_after (Some []) ds

-- one entry with another value
abbrev pub with_value : Entry → Value → Entry
with_value e v = record { name = e.name; mark = e.mark; value = v }

-- the entries after entry i, if there is one, is given a value of whichever kind
abbrev pub valued : List Entry → ℕ → Value → List Entry
valued [] i v = []
valued (e ∷ es) zero v = with_value e v ∷ es
valued (e ∷ es) (suc i) v = e ∷ valued es i v

abbrev pub told_at : List Entry → ℕ → Option Entry → Option Value → Option (List Entry)
told_at es i None v = None
told_at es i (Some e) None = None
told_at es i (Some e) (Some v) = cond (alike e.value v) (Some (slice_set es i (with_value e v))) None

-- the entries after entry i is given a value of its kind; no other entry changes
abbrev pub told_value : List Entry → ℕ → Option Value → Option (List Entry)
told_value es i v = told_at es i (slice_get es i) v

abbrev pub told : List Entry → ℕ → ℕ → ℤ → Option (List Entry)
told es i k z = told_value es i (value_of k z)
