-- The links of a static chain.
use Rattle.std.specs.Prelude.{ℕ, List, slice_index}

-- the links of a chain: one for each frame
abbrev pub single : List ℕ → ℕ → ℕ
single ps k = slice_index ps k
