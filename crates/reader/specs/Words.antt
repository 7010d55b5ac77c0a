-- How a text is cut into words.
use Rattle.std.specs.Prelude.{◌≡◌, ℕ, zero, suc, ◌-◌, ◌<◌, ◌≤◌, Bool, false, cond, ◌⊎◌, List, [], ◌∷◌, length, take, Some, None, Ok, Err, Option, Result, ◌==◌, nat_le}
use Rattle.std.specs.List.{prefix_len}
use Rattle.lang.specs.declared.word.Kind.{Kind}
use Rattle.lang.specs.declared.word.Kind.TheVariants.{Number, Becomes}
use Rattle.lang.specs.declared.word.Class.{Class}
use Rattle.lang.specs.declared.word.Class.TheVariants.{Space, Letter, Digit, Underscore, Colon, Mark, Other}
use Rattle.lang.specs.declared.refusal.Refusal.{Refusal}
use Rattle.lang.specs.declared.refusal.Refusal.TheVariants.{TextTooLong, BadByte, NameTooLong, NumberTooLarge}
use Rattle.lang.specs.declared.refusal.Refused.{Refused}
use Rattle.lang.specs.Bytes.{class, name_byte, digit_byte}
use Rattle.lang.specs.Words.{reserved}
use Rattle.reader.specs.Numbers.{decimal, fitting}

-- what stands at the front of some bytes: a word's kind and its length, or nothing but a byte that parts words; or why no word stands there
abbrev pub Front : Type 0
Front = Result (Option (Kind × ℕ)) Refusal

-- a name takes its whole run, of 16 bytes at most
abbrev pub name_front : List ℕ → Front
name_front bs = cond (nat_le (prefix_len name_byte bs) 16) (Ok (Some (reserved (take (prefix_len name_byte bs) bs), prefix_len name_byte bs))) (Err NameTooLong)

-- a number takes its whole run, and is judged by its value
abbrev pub number_front : List ℕ → Front
number_front bs = cond (fitting (decimal 0 (take (prefix_len digit_byte bs) bs))) (Ok (Some (Number, prefix_len digit_byte bs))) (Err NumberTooLarge)

abbrev pub equals_next : List ℕ → Bool
equals_next [] = false
equals_next (b ∷ bs) = b == 61

abbrev pub front_as : Class → ℕ → List ℕ → Front
front_as Space b bs = Ok None
front_as Letter b bs = name_front (b ∷ bs)
front_as Digit b bs = number_front (b ∷ bs)
front_as Underscore b bs = Err BadByte
front_as Colon b bs = cond (equals_next bs) (Ok (Some (Becomes, 2))) (Err BadByte)
front_as (Mark k) b bs = Ok (Some (k, 1))
front_as Other b bs = Err BadByte

-- what stands at the front of some bytes
abbrev pub front : List ℕ → Front
front [] = Ok None
front (b ∷ bs) = front_as (class b) b bs

-- a word has a byte at least, and no more than n
abbrev pub Inside : ℕ → Front → Type 0
Inside n (Ok None) = Unit {0}
Inside n (Ok (Some (k, l))) = (0 < l) × (l ≤ n)
Inside n (Err e) = Unit {0}

-- a text's words, each with its kind, its bytes and its place; or those before the first byte of no word, with the refusal
pub data Lexed : Type 0 where
  end : Lexed
  word : Kind → List ℕ → ℕ → Lexed → Lexed
  wrong : Refusal → ℕ → Lexed

-- the bytes, how many of them belong to a word that was met, and the place of the first
abbrev pub lexed : List ℕ → ℕ → ℕ → Lexed
lexed [] j p = end
lexed (b ∷ bs) zero p = elim (front (b ∷ bs)) [ Ok None ↦ lexed bs 0 (suc p) | Ok (Some (k, n)) ↦ word k (take n (b ∷ bs)) p (lexed bs (n - 1) (suc p)) | Err e ↦ wrong e p ]
lexed (b ∷ bs) (suc j) p = lexed bs j (suc p)

-- the words of a whole text
abbrev pub words_of : List ℕ → Lexed
words_of bs = lexed bs 0 0

-- the refusal of a text that has a byte of no word
abbrev pub word_fault : Lexed → Option Refused
word_fault end = None
word_fault (word k bs p l) = word_fault l
word_fault (wrong e p) = Some (record { why = e; place = p })

-- each byte belongs to a word or parts words; or 3, or the first of 4 to 6
abbrev pub Checked : List ℕ → Result (Unit {0}) Refused → Type 0
Checked bs (Ok x) = (length bs ≤ 32768) × (word_fault (words_of bs) ≡ None)
Checked bs (Err r) = ((32768 < length bs) × (r ≡ record { why = TextTooLong; place = 0 })) ⊎ ((length bs ≤ 32768) × (word_fault (words_of bs) ≡ Some r))
