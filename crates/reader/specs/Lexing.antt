-- The word reader over its text.
use Rattle.std.specs.Prelude.{◌≡◌, ℕ, ◌+◌, ◌<◌, List, length, take, Some, None, Ok, Err, Option, Result}
use Rattle.lang.specs.declared.refusal.Refused.{Refused}
use Rattle.reader.specs.declared.words.Word.{Word}
use Rattle.reader.specs.declared.words.Words.{Words}
use Rattle.reader.specs.Words.{Lexed, lexed, end, word, wrong}

-- the words that are still to come
abbrev pub unlexed : Words → Lexed
unlexed w = lexed w.rest.now 0 w.at

-- the length of the text
abbrev pub end_of : Words → ℕ
end_of w = w.at + length w.rest.now

-- at a word the text goes on behind it; at no word it is refused
abbrev pub Next : Words → Words → Result (Option Word) Refused → Type 0
Next a b (Ok None) = (unlexed a ≡ end) × (unlexed b ≡ end)
Next a b (Ok (Some w)) = (unlexed a ≡ word w.kind w.bytes.now w.place (unlexed b)) × (a.at < b.at)
Next a b (Err r) = unlexed a ≡ wrong r.why r.place

-- a text, its first 32,768 bytes at most, from its first one on
abbrev pub Begun : List ℕ → Words → Type 0
Begun bs w = (w.rest.now ≡ take 32768 bs) × (w.at ≡ 0)
