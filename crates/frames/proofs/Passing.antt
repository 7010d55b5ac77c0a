-- A passage by the frame meaning alone: each call's answer, and what stands after it.
use Rattle.std.proofs.Common.{◌≡◌, ℕ, ◌<◌, ◌≤◌, length, set, replicate, Some, None, Ok, Err, Result, ap, ◌∙◌, arith, length-set}
use Rattle.std.proofs.lemmas.Bool.Decides.{nat_tests}
use Rattle.std.proofs.lemmas.List.{get_or-set_same, length-replicate}
use Rattle.std.proofs.lemmas.Option.{slice_get-get_or}
use Rattle.lang.specs.declared.value.Slot.{Slot}
use Rattle.lang.specs.declared.value.Slot.TheVariants.{Unset}
use Rattle.lang.specs.declared.refusal.Refusal.{Refusal}
use Rattle.frames.specs.Frames.{Frames, none, ◌▷◌, asked, got, fresh, filled, opened, entered, written, left}
use Rattle.frames.specs.Passages.{passed}

module _ (n o : ℕ) (v : Slot) where
  -- the outer frame as it is opened, and after the write
  abbrev outer : Frames
  outer = none ▷ fresh n None

  abbrev inked : Frames
  inked = none ▷ filled (fresh n None) o v

  wide : length (set (replicate n Unset) o v) ≡ n
  wide = simp (length-set, length-replicate)

  opens : (f : Frames) → f ≡ none → Ok tt ≡ (opened f n).answer → (n ≤ 2048) × ((opened f n).after ≡ outer)
  opens f e a = grind (arith, nat_tests)

  puts : (f : Frames) → f ≡ outer → Ok tt ≡ (written f 0 o v).answer → (o < n) × ((written f 0 o v).after ≡ inked)
  puts f e a = let l = length-replicate n Unset in grind (arith, nat_tests)

  -- the inner frame, whose parent is the outer one
  enters : (f : Frames) → f ≡ inked → n ≤ 2048 → (entered f 0 0).after ≡ inked ▷ fresh 0 (Some 0)
  enters f e h = let w = wide in grind (arith, nat_tests)

  reads : (f : Frames) → f ≡ inked ▷ fresh 0 (Some 0) → o < n → got f 1 o ≡ Ok v
  reads f e h =
      let w = wide in
      let r = length-replicate n Unset in
      ap (λ fs. got fs 1 o) e ∙ ap asked (slice_get-get_or (set (replicate n Unset) o v) o Unset (omega arith)) ∙ ap Ok (get_or-set_same (replicate n Unset) o v Unset (omega arith))

  passed_in : n ≤ 2048 → o < n → passed n o v ≡ record { answer = Ok v; after = inked }
  passed_in a b = grind (arith, nat_tests)

  -- what is read, what the last call leaves, and the whole passage
  pub read_back : (f1 f2 f3 f4 : Frames) → f1 ≡ none → Ok tt ≡ (opened f1 n).answer → f2 ≡ (opened f1 n).after → Ok tt ≡ (written f2 0 o v).answer → f3 ≡ (written f2 0 o v).after → f4 ≡ (entered f3 0 0).after
      → (got f4 1 o ≡ Ok v) × ((left f4).after ≡ inked) × (passed n o v ≡ record { answer = Ok v; after = inked })
  read_back f1 f2 f3 f4 e1 a2 e2 a3 e3 e4 =
      let p2 = opens f1 e1 a2 in
      let p3 = puts f2 (e2 ∙ p2.1) a3 in
      let p4 : f4 ≡ inked ▷ fresh 0 (Some 0) = e4 ∙ enters f3 (e3 ∙ p3.1) p2.0 in
      (reads f4 p4 p3.0, ap (λ fs. (left fs).after) p4, passed_in p2.0 p3.0)

pub not_refused : (r : Result Slot Refusal) (e : Refusal) (v : Slot) → Err e ≡ r → r ≡ Ok v → ⊥
not_refused r e v a b = let q = a ∙ b in let z : ◌≡◌ {A = ℕ} 0 1 = cc in omega arith
