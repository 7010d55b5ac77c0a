-- What reading a text leaves.
use Rattle.std.specs.Prelude.{◌≡◌, ℕ, ◌<◌, ◌≤◌, ◌⊎◌, List, length, Some, None, Ok, Err, Result}
use Rattle.lang.specs.declared.refusal.Refusal.TheVariants.{TextTooLong}
use Rattle.lang.specs.declared.refusal.Refused.{Refused}
use Rattle.reader.specs.declared.tree.Tree.{Tree}
use Rattle.reader.specs.Words.{words_of, word_fault}

-- at most 4,096 nodes stand; or 3, or the first of 4 to 6, or a text whose words are sound is refused
abbrev pub Read : List ℕ → Tree → Result (Unit {0}) Refused → Type 0
Read bs t (Ok x) = (length bs ≤ 32768) × (word_fault (words_of bs) ≡ None) × (t.used ≤ 4096)
Read bs t (Err r) =
    ((32768 < length bs) × (r ≡ record { why = TextTooLong; place = 0 }))
    ⊎ (((length bs ≤ 32768) × (word_fault (words_of bs) ≡ Some r)) ⊎ ((length bs ≤ 32768) × (word_fault (words_of bs) ≡ None)))
