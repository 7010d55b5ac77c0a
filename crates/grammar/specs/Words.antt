-- The words of a text, as the grammar takes them.
use Rattle.std.specs.Prelude.{ℕ, ◌+◌, ◌-◌, ◌*◌, ◌≡◌, true, List, [], ◌∷◌}
use Rattle.lang.specs.declared.word.Kind.{Kind}
use Rattle.lang.specs.declared.name.Name.{Name}
use Rattle.lang.specs.Kinds.{same_kind}
use Rattle.lang.specs.Names.{padded}
use Rattle.meaning.specs.Tree.{Place, Parameter}

-- a word: its kind, its bytes and its place
pub record Word : Type 0 where
  pub kind : Kind
  pub bytes : List ℕ
  pub place : Place

-- the word w is of the kind k
abbrev pub Is : Kind → Word → Type 0
Is k w = same_kind k w.kind ≡ true

-- the name that a word writes
abbrev pub named : Word → Name
named w = record { bytes = padded w.bytes }

-- a parameter that a word names
abbrev pub parameter : Word → Parameter
parameter w = record { name = named w; place = w.place }

-- digits after a number, in tens
abbrev pub decimal : ℕ → List ℕ → ℕ
decimal n [] = n
decimal n (d ∷ ds) = decimal (n * 10 + (d - 48)) ds

-- the number that a word writes
abbrev pub value : Word → ℕ
value w = decimal 0 w.bytes
