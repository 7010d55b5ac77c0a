use Rattle.std.proofs.Common.{◌≡◌, ◌-◌, ◌∷◌, [], reverse, length, take, refl, ap, ◌∙◌, arith}
use Rattle.std.proofs.lemmas.List.{reverse-append, length-take-le}
use Rattle.lang.proofs.Held.{newest_last}
use Rattle.lang.proofs.stack.Stack.pop.Goals as goal

pub returns : goal.returns
returns g c =
    let m = c.args.self.now in
    let xs = m.cells.now in
    let x = c.in_ok-newest.newest in
    let h = newest_last xs m.used x m.within c.in_ok-newest.ensures in
    let some = h.0 in
    let l : length (take (m.used - 1) xs) ≡ m.used - 1 = length-take-le (m.used - 1) xs (omega (arith, m.within)) in
    (h.1, ap reverse h.1 ∙ reverse-append (take (m.used - 1) xs) (x ∷ []), refl, omega (arith, m.within))
