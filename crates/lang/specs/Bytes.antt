-- The class of each byte.
use Rattle.std.specs.Prelude.{ℕ, Bool, true, false, cond, ◌&&◌, ◌==◌, nat_le}
use Rattle.lang.specs.declared.word.Kind.TheVariants.{OpenBrace, CloseBrace, Open, Close, Semicolon, Comma, Equal, Less, Plus, Minus, Times}
use Rattle.lang.specs.declared.word.Class.{Class}
use Rattle.lang.specs.declared.word.Class.TheVariants.{Space, Letter, Digit, Underscore, Colon, Mark, Other}

-- the marks, each by its character
abbrev pub mark_class : ℕ → Class
mark_class b =
    cond (b == 123) (Mark OpenBrace)
    (cond (b == 125) (Mark CloseBrace)
    (cond (b == 40) (Mark Open)
    (cond (b == 41) (Mark Close)
    (cond (b == 59) (Mark Semicolon)
    (cond (b == 44) (Mark Comma)
    (cond (b == 61) (Mark Equal)
    (cond (b == 60) (Mark Less)
    (cond (b == 43) (Mark Plus)
    (cond (b == 45) (Mark Minus)
    (cond (b == 42) (Mark Times)
    Other))))))))))

-- bytes 9, 10, 13 and 32 part words; letters a to z and A to Z; digits; the underscore; the colon; the marks
abbrev pub class : ℕ → Class
class b =
    cond (b == 9) Space
    (cond (b == 10) Space
    (cond (b == 13) Space
    (cond (b == 32) Space
    (cond (nat_le 97 b && nat_le b 122) Letter
    (cond (nat_le 65 b && nat_le b 90) Letter
    (cond (nat_le 48 b && nat_le b 57) Digit
    (cond (b == 95) Underscore
    (cond (b == 58) Colon
    (mark_class b)))))))))

-- letters, digits and underscores, of which names are made
abbrev pub in_name : Class → Bool
in_name Space = false
in_name Letter = true
in_name Digit = true
in_name Underscore = true
in_name Colon = false
in_name (Mark k) = false
in_name Other = false

abbrev pub name_byte : ℕ → Bool
name_byte b = in_name (class b)

-- the digits, of which numbers are made
abbrev pub in_number : Class → Bool
in_number Space = false
in_number Letter = false
in_number Digit = true
in_number Underscore = false
in_number Colon = false
in_number (Mark k) = false
in_number Other = false

abbrev pub digit_byte : ℕ → Bool
digit_byte b = in_number (class b)
