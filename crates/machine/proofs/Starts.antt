-- Lists that a loop fills from the front: a table, and the slots of the first frame.
use Rattle.std.proofs.Common.{◌≡◌, ℕ, ◌+◌, ◌<◌, true, cond, ltb, List, [], ◌∷◌, ◌++◌, map, length, take, get_or, set, None, sym, ap, ◌∙◌, arith}
use Rattle.std.proofs.lemmas.Bool.{lt-ltb}
use Rattle.std.proofs.lemmas.List.{length-map, take_more, take_more_set, get_or-map}
use Rattle.lang.specs.declared.value.Slot.{Slot}
use Rattle.lang.specs.declared.refusal.Refusal.TheVariants.{NoSuchSlot}
use Rattle.frames.specs.Frames.{Frames, none, ◌▷◌, written, done, refused, filled_in}

-- one element more
pub front_more : {X Y : Type 0} (f : X → Y) (ys : List Y) (xs : List X) (i : ℕ) (d : X) → i < length ys → i < length xs → take i ys ≡ take i (map f xs) → take (i + 1) (set ys i (f (get_or xs i d))) ≡ take (i + 1) (map f xs)
front_more f ys xs i d l h e =
    let y = f (get_or xs i d) in
    take_more_set ys i y l ∙ ap (λ zs. zs ++ (y ∷ [])) e ∙ ap (λ z. take i (map f xs) ++ (z ∷ [])) (sym (get_or-map f xs i d y h))
    ∙ sym (take_more (map f xs) i y (omega (arith, h, length-map xs f)))

abbrev pub frame : List Slot → Frames
frame ss = none ▷ record { slots = ss; parent = None }

-- a write to the first frame
pub frame_written : (ss : List Slot) (o : ℕ) (w : Slot) → o < length ss → (written (frame ss) 0 o w).after ≡ frame (set ss o w)
frame_written ss o w h =
    let inside : ltb o (length ss) ≡ true = lt-ltb o (length ss) h in
    ap (λ b. (cond b (done (filled_in 0 o w (frame ss))) (refused NoSuchSlot (frame ss))).after) inside
