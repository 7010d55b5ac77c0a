-- Names as bytes.
use Rattle.std.specs.Prelude.{ℕ, zero, suc, Bool, true, false, ◌&&◌, List, [], ◌∷◌, ◌==◌}
use Rattle.lang.specs.declared.name.Name.{Name}

-- whether two lists of bytes are equal
abbrev pub same_bytes : List ℕ → List ℕ → Bool
same_bytes [] [] = true
same_bytes [] (y ∷ ys) = false
same_bytes (x ∷ xs) [] = false
same_bytes (x ∷ xs) (y ∷ ys) = x == y && same_bytes xs ys

-- whether two names are equal
abbrev pub same : Name → Name → Bool
same a b = same_bytes a.bytes b.bytes

-- the first n bytes, and zeros where there are fewer
abbrev pub pad_to : ℕ → List ℕ → List ℕ
pad_to zero bs = []
pad_to (suc n) [] = 0 ∷ pad_to n []
pad_to (suc n) (b ∷ bs) = b ∷ pad_to n bs

abbrev pub padded : List ℕ → List ℕ
padded bs = pad_to 16 bs
