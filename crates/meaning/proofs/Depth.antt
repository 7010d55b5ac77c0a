-- No chain of parents grows past 16 frames, since the frame memory refuses that.
use Rattle.std.proofs.Common.{◌≡◌, ℕ, zero, suc, ◌+◌, ◌≤◌, Bool, true, false, cond, eqb, ltb, leb, Some, None, Option, sym, refl, ap, ◌∙◌, arith, eqb→eq}
use Rattle.lang.specs.declared.value.Slot.{Slot}
use Rattle.lang.specs.declared.refusal.Refusal.TheVariants.{TooManyFrames, TooManySlots, ChainTooDeep}
use Rattle.frames.specs.Frames.{Frame, Frames, none, ◌▷◌, count, total, newest, up_to, walk, refused, done, stands, deep, fresh, grown, filled, filled_in}
use Rattle.meaning.specs.Agreement.{Shallow}
use Rattle.meaning.proofs.Basics.{eqb_same, eqb_less, from_true, not_both}

-- v is the older part of w
pub data Older : Frames → Frames → Type 0 where
  whole : {w : Frames} → Older w w
  deeper : {v w : Frames} {f : Frame} → Older v w → Older v (w ▷ f)
  nothing : {w : Frames} → Older none w

older_count : {v w : Frames} → Older v w → count v ≤ count w
older_count whole = omega arith
older_count (deeper t) = let u = older_count t in omega arith
older_count nothing = omega arith

older_trans : {u v w : Frames} → Older u v → Older v w → Older u w
older_trans t whole = t
older_trans t (deeper u) = deeper (older_trans t u)
older_trans whole nothing = nothing
older_trans nothing nothing = nothing

up_to_older : (j : Option ℕ) (fs : Frames) → Older (up_to j fs) fs
up_to_older None fs = nothing
up_to_older (Some j) none = whole
up_to_older (Some j) (fs ▷ f) = by (eqb j (count fs)) (up_to_older (Some j) fs)
  where
    by : (b : Bool) → Older (up_to (Some j) fs) fs → Older (cond b (fs ▷ f) (up_to (Some j) fs)) (fs ▷ f)
    by true t = whole
    by false t = deeper t

pub walk_older : (h : ℕ) (fs : Frames) → Older (walk h fs) fs
walk_older zero fs = whole
walk_older (suc h) none = nothing
walk_older (suc h) (fs ▷ f) = older_trans (walk_older h (up_to f.parent fs)) (deeper (up_to_older f.parent fs))

up_to-newest : {v w : Frames} → Older v w → up_to (newest v) w ≡ v
up_to-newest {v} {w} whole = by w
  where
    by : (w : Frames) → up_to (newest w) w ≡ w
    by none = refl
    by (w ▷ f) = ap (λ (b : Bool). cond b (w ▷ f) (up_to (Some (count w)) w)) (eqb_same (count w))
up_to-newest nothing = refl
up_to-newest (deeper {v = v} {w = w} {f = f} t) = by v (older_count t) (up_to-newest t)
  where
    by : (v : Frames) → count v ≤ count w → up_to (newest v) w ≡ v → up_to (newest v) (w ▷ f) ≡ v
    by none l e = refl
    by (v ▷ g) l e = ap (λ (b : Bool). cond b (w ▷ f) (up_to (Some (count v)) w)) (eqb_less (count v) (count w) (omega arith)) ∙ e

none-stand : (fs : Frames) → stands fs ≡ false → fs ≡ none
none-stand none e = refl
none-stand (fs ▷ f) e = not_both e

pub grown_shallow : (fs gs : Frames) (n : ℕ) → Older gs fs → Shallow fs → Shallow (grown fs gs n).after
grown_shallow fs gs n t h = by (leb 256 (count fs)) (ltb 2048 (total fs + n)) (deep gs) refl
  where
    by : (a b c : Bool) → deep gs ≡ c → Shallow (cond a (refused TooManyFrames fs) (cond b (refused TooManySlots fs) (cond c (refused ChainTooDeep fs) (done (fs ▷ fresh n (newest gs)))))).after
    by true b c e = h
    by false true c e = h
    by false false true e = h
    by false false false e = (ap (walk 15) (up_to-newest t) ∙ none-stand (walk 15 gs) e, h)

-- a write changes no parent
filled_past : (k o : ℕ) (v : Slot) (fs : Frames) → count fs ≤ k → filled_in k o v fs ≡ fs
filled_past k o v none l = refl
filled_past k o v (fs ▷ f) l = by (eqb k (count fs)) refl (filled_past k o v fs (omega arith))
  where
    by : (b : Bool) → eqb k (count fs) ≡ b → filled_in k o v fs ≡ fs → cond b (fs ▷ filled f o v) (filled_in k o v fs ▷ f) ≡ fs ▷ f
    by true e r = let x = eqb→eq k (count fs) (from_true _ e) in absurd (omega arith)
    by false e r = ap (λ (gs : Frames). gs ▷ f) r

pub filled-count : (k o : ℕ) (v : Slot) (fs : Frames) → count (filled_in k o v fs) ≡ count fs
filled-count k o v none = refl
filled-count k o v (fs ▷ f) = by (eqb k (count fs)) (filled-count k o v fs)
  where
    by : (b : Bool) → count (filled_in k o v fs) ≡ count fs → count (cond b (fs ▷ filled f o v) (filled_in k o v fs ▷ f)) ≡ suc (count fs)
    by true e = refl
    by false e = ap suc e

up_to-filled : (j : Option ℕ) (k o : ℕ) (v : Slot) (fs : Frames) → up_to j (filled_in k o v fs) ≡ filled_in k o v (up_to j fs)
up_to-filled None k o v fs = refl
up_to-filled (Some j) k o v none = refl
up_to-filled (Some j) k o v (fs ▷ f) = by (eqb k (count fs)) refl (up_to-filled (Some j) k o v fs)
  where
    here : (b c : Bool) → eqb k (count fs) ≡ b → up_to (Some j) (filled_in k o v fs) ≡ filled_in k o v (up_to (Some j) fs)
        → cond c (cond b (fs ▷ filled f o v) (filled_in k o v fs ▷ f)) (cond b (up_to (Some j) fs) (up_to (Some j) (filled_in k o v fs))) ≡ filled_in k o v (cond c (fs ▷ f) (up_to (Some j) fs))
    here true true e r = sym (ap (λ (b : Bool). cond b (fs ▷ filled f o v) (filled_in k o v fs ▷ f)) e)
    here true false e r = sym (filled_past k o v (up_to (Some j) fs) (let x = older_count (up_to_older (Some j) fs) in let y = eqb→eq k (count fs) (from_true _ e) in omega arith))
    here false true e r = sym (ap (λ (b : Bool). cond b (fs ▷ filled f o v) (filled_in k o v fs ▷ f)) e)
    here false false e r = r

    by : (b : Bool) → eqb k (count fs) ≡ b → up_to (Some j) (filled_in k o v fs) ≡ filled_in k o v (up_to (Some j) fs) → up_to (Some j) (cond b (fs ▷ filled f o v) (filled_in k o v fs ▷ f)) ≡ filled_in k o v (cond (eqb j (count fs)) (fs ▷ f) (up_to (Some j) fs))
    by true e r = here true (eqb j (count fs)) e r
    by false e r = ap (λ (n : ℕ). cond (eqb j n) (filled_in k o v fs ▷ f) (up_to (Some j) (filled_in k o v fs))) (filled-count k o v fs) ∙ here false (eqb j (count fs)) e r

walk-filled : (h k o : ℕ) (v : Slot) (fs : Frames) → walk h (filled_in k o v fs) ≡ filled_in k o v (walk h fs)
walk-filled zero k o v fs = refl
walk-filled (suc h) k o v none = refl
walk-filled (suc h) k o v (fs ▷ f) = by (eqb k (count fs)) refl (ap (walk h) (up_to-filled f.parent k o v fs) ∙ walk-filled h k o v (up_to f.parent fs))
  where
    by : (b : Bool) → eqb k (count fs) ≡ b → walk h (up_to f.parent (filled_in k o v fs)) ≡ filled_in k o v (walk h (up_to f.parent fs)) → walk (suc h) (cond b (fs ▷ filled f o v) (filled_in k o v fs ▷ f)) ≡ filled_in k o v (walk h (up_to f.parent fs))
    by true e r = sym (filled_past k o v (walk h (up_to f.parent fs)) (let x = older_count (up_to_older f.parent fs) in let y = older_count (walk_older h (up_to f.parent fs)) in let z = eqb→eq k (count fs) (from_true _ e) in omega arith))
    by false e r = r

pub filled_shallow : (k o : ℕ) (v : Slot) (fs : Frames) → Shallow fs → Shallow (filled_in k o v fs)
filled_shallow k o v none h = h
filled_shallow k o v (fs ▷ f) h = by (eqb k (count fs)) (filled_shallow k o v fs h.1)
  where
    by : (b : Bool) → Shallow (filled_in k o v fs) → Shallow (cond b (fs ▷ filled f o v) (filled_in k o v fs ▷ f))
    by true r = h
    by false r = (ap (walk 15) (up_to-filled f.parent k o v fs) ∙ walk-filled 15 k o v (up_to f.parent fs) ∙ ap (filled_in k o v) h.0, r)
