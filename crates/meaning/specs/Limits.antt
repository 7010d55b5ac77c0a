-- The limits of a rule and of a run.
use Rattle.std.specs.Prelude.{ℕ}

-- frames nested in the text, the sheet's among them; names of a block; parameters of a routine
abbrev pub most_nested : ℕ
most_nested = 16

abbrev pub most_names : ℕ
most_names = 64

abbrev pub most_parameters : ℕ
most_parameters = 8

-- steps; frames that stand and their slots; waiting values; return positions
abbrev pub most_steps : ℕ
most_steps = 1000000

abbrev pub most_frames : ℕ
most_frames = 256

abbrev pub most_slots : ℕ
most_slots = 2048

abbrev pub most_values : ℕ
most_values = 512

abbrev pub most_returns : ℕ
most_returns = 256
