use Rattle.std.proofs.Common.{◌≡◌, length}
use Rattle.reader.specs.Words.{word_fault, words_of}
use Rattle.reader.specs.Lexing.{unlexed}
use Rattle.reader.proofs.words.check_words.Given as goal

abbrev pub invariant-loop : goal.invariant-loop
invariant-loop l = word_fault (unlexed l.words) ≡ word_fault (words_of l.text)

abbrev pub decreases-loop : goal.decreases-loop
decreases-loop l = length l.words.rest.now
