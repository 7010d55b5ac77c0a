use Rattle.std.proofs.Common.{◌≡◌, ◌-◌, ◌≤◌, length, drop}
use Rattle.reader.specs.Lexing.{end_of, unlexed}
use Rattle.reader.proofs.words.Words.next.Given as goal

abbrev pub invariant-loop-place : goal.invariant-loop-place
invariant-loop-place l = record {
  words : unlexed l.initial.self ≡ unlexed l.self;
  rest : l.self.rest.now ≡ drop (l.self.at - l.initial.self.at) l.initial.self.rest.now;
  on : l.initial.self.at ≤ l.self.at;
  whole : end_of l.self ≡ end_of l.initial.self;
}

abbrev pub decreases-loop-place : goal.decreases-loop-place
decreases-loop-place l = length l.self.rest.now
