-- The number that digits write.
use Rattle.std.specs.Prelude.{ℕ, ◌+◌, ◌-◌, ◌*◌, Bool, cond, List, [], ◌∷◌, ℤ, pos, Some, None, Option, nat_le}

-- digits after a number, in tens
abbrev pub decimal : ℕ → List ℕ → ℕ
decimal n [] = n
decimal n (d ∷ ds) = decimal (n * 10 + (d - 48)) ds

-- a number of a text is at most 2,147,483,647
abbrev pub fitting : ℕ → Bool
fitting n = nat_le n 2147483647

abbrev pub number_of : ℕ → Option ℤ
number_of n = cond (fitting n) (Some (pos n)) None
