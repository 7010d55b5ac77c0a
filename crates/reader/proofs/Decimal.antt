-- The number that digits write only grows.
use Rattle.std.proofs.Common.{◌≡◌, ℕ, ◌+◌, ◌-◌, ◌*◌, ◌<◌, ◌≤◌, cond, List, [], ◌∷◌, length, get_or, drop, pos, Some, None, sym, ap, arith}
use borrow.Author.Tests.{lt-leb}
use Rattle.std.proofs.lemmas.List.{drop_more}
use Rattle.reader.specs.Numbers.{decimal, number_of}

grows : (ds : List ℕ) (n : ℕ) → n ≤ decimal n ds
grows [] n = omega arith
grows (d ∷ ds) n = let h = grows ds (n * 10 + (d - 48)) in omega (arith, h)

-- no number once there is too much
pub past : (ds : List ℕ) (i n : ℕ) → i < length ds → 2147483647 < n * 10 + (get_or ds i 0 - 48) → None ≡ number_of (decimal n (drop i ds))
past ds i n h g =
    let more = ap (decimal n) (drop_more ds i 0 h) in
    let on = grows (drop (i + 1) ds) (n * 10 + (get_or ds i 0 - 48)) in
    sym (ap (λ b. cond b (Some (pos (decimal n (drop i ds)))) None) (lt-leb _ 2147483647 (omega (arith, more, on, g))))
