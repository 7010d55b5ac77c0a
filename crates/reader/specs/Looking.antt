-- The reader of the grammar: what is left to read, and what a line leaves as it was.
use Rattle.std.specs.Prelude.{◌≡◌, ℕ, ◌+◌, ◌-◌, ◌<◌, ◌≤◌, Bool, true, false, cond, length, Some, None, Ok, Err, OnOk, Option, Result}
use Rattle.lang.specs.declared.word.Kind.{Kind}
use Rattle.lang.specs.Kinds.{same_kind}
use Rattle.lang.specs.declared.refusal.Refusal.TheVariants.{Unexpected, NestTooDeep}
use Rattle.lang.specs.declared.refusal.Refused.{Refused}
use Rattle.reader.specs.declared.words.Word.{Word}
use Rattle.reader.specs.declared.words.Words.{Words}
use Rattle.reader.specs.declared.grammar.Reader.{Reader}
use Rattle.reader.specs.declared.tree.Tree.{Tree}
use Rattle.reader.specs.Lexing.{end_of}
use Rattle.reader.specs.Nodes.{node_room}

abbrev pub kind_of : Option Word → Option Kind
kind_of None = None
kind_of (Some w) = Some w.kind

abbrev pub next_is : Option Word → Kind → Bool
next_is None k = false
next_is (Some w) k = same_kind w.kind k

-- whether a line can begin with the word looked at
abbrev pub begun : (Kind → Bool) → Option Word → Bool
begun t None = false
begun t (Some w) = t w.kind

-- the place of a word, or n where there is none
abbrev pub place_or : Option Word → ℕ → ℕ
place_or None n = n
place_or (Some w) n = w.place

-- the place of the word looked at, or the text's length at its end
abbrev pub here_of : Reader → ℕ
here_of r = place_or r.word (end_of r.words)

-- the bytes that are left, and one for the word looked at
unfoldable pub left : Words → Option Word → ℕ
left w None = length w.rest.now
left w (Some x) = length w.rest.now + 1

abbrev pub unread : Reader → ℕ
unread r = left r.words r.word

-- the table keeps its room
abbrev pub Kept : Tree → Tree → Type 0
Kept t u = node_room u ≡ node_room t

-- the table is the same one, and is kept
pub record Grew (a b : Reader) : Type 0 where
  pub same : b.tree.ghost_name ≡ a.tree.ghost_name
  pub kept : Kept a.tree.now b.tree.now

-- a line is read: the nest is as it was, and there is less left
pub record Passed (a b : Reader) : Type 0 where
  pub nest : b.nest ≡ a.nest
  pub fewer : unread b < unread a

-- none or more are read
pub record Went (a b : Reader) : Type 0 where
  pub nest : b.nest ≡ a.nest
  pub fewer : unread b ≤ unread a

-- a line is entered
pub record Entered (a b : Reader) : Type 0 where
  pub nest : b.nest ≡ a.nest + 1
  pub same : unread b ≡ unread a

-- a line is left
pub record Left (a b : Reader) : Type 0 where
  pub nest : b.nest ≡ a.nest - 1
  pub same : unread b ≡ unread a

-- a node is written, and no word read
pub record Ends (a b : Reader) : Type 0 where
  pub words : b.words ≡ a.words
  pub word : b.word ≡ a.word
  pub nest : b.nest ≡ a.nest
  pub tree : Grew a b

-- `Gone`, `Lists`, `Took` and `Ends` relate two states of a reader, so they are clauses and no invariant of one.
-- what a line does to a reader: its table is kept, whatever comes of it; and where the line is there, it is read
pub record Gone {X : Type 0} (a b : Reader) (r : Result X Refused) : Type 0 where
  pub tree : Grew a b
  pub read : OnOk r (Passed a b)

-- what a list of lines does
pub record Lists {X : Type 0} (a b : Reader) (r : Result X Refused) : Type 0 where
  pub tree : Grew a b
  pub read : OnOk r (Went a b)

-- what a word or a list of words does: the table is as it was
pub record Took {X : Type 0} (a b : Reader) (r : Result X Refused) : Type 0 where
  pub tree : b.tree ≡ a.tree
  pub read : OnOk r (Passed a b)

-- a line is entered where it can begin so and fewer than 64 are entered; else 7, or 8, at the word looked at
abbrev pub Entering : Bool → Reader → Reader → Result (Unit {0}) Refused → Type 0
Entering t a b (Ok x) = (t ≡ true) × (a.nest < 64) × Entered a b
Entering t a b (Err e) = cond t ((64 ≤ a.nest) × (e ≡ record { why = NestTooDeep; place = here_of a })) (e ≡ record { why = Unexpected; place = here_of a })
