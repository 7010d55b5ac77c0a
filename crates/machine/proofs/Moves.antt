-- Values that move into the last frame.
use Rattle.std.proofs.Common.{◌≡◌, ℕ, zero, suc, ◌-◌, ◌<◌, List, [], ◌∷◌, None, refl, ap, arith}
use Rattle.lang.specs.declared.value.Value.{Value}
use Rattle.lang.specs.Values.{slot_of}
use Rattle.frames.specs.Frames.{Frames, written}
use Rattle.meaning.specs.Machine.{moved}

pub moved_none : (n : ℕ) (fs : Frames) → 0 < n → moved n [] fs ≡ None
moved_none zero fs h = absurd (omega arith)
moved_none (suc n) fs h = refl

pub moved_more : (n : ℕ) (v : Value) (vs : List Value) (fs : Frames) → 0 < n → moved n (v ∷ vs) fs ≡ moved (n - 1) vs (written fs 0 (n - 1) (slot_of v)).after
moved_more zero v vs fs h = absurd (omega arith)
moved_more (suc n) v vs fs h = let e : n ≡ suc n - 1 = omega arith in ap (λ j. moved j vs (written fs 0 j (slot_of v)).after) e
