-- Shades of frames: for each slot what it is to the named meaning. With a store they show frames.
use Rattle.std.proofs.Common.{◌≡◌, ℕ, zero, suc, ◌+◌, ◌<◌, ◌≤◌, Bool, true, false, cond, eqb, List, map, length, Some, None, Ok, Option, refl, ap, ◌∙◌, ap₂, arith}
use lib.ListN.{length-map}
use Rattle.std.specs.List.{slice_get}
use Rattle.lang.specs.declared.value.Value.{Value}
use Rattle.lang.specs.declared.value.Slot.{Slot}
use Rattle.lang.specs.declared.value.Slot.TheVariants as slot
use Rattle.lang.specs.declared.refusal.Refusal.{Refusal}
use Rattle.lang.specs.Values.{slot_of}
use Rattle.frames.specs.Frames.{Frame, Frames, none, ◌▷◌, count, total, newest, up_to, walk, asked, last_slot, got, refused, done, filled, filled_in, written}
use Rattle.meaning.specs.Meaning.{Store, value_at}
use Rattle.meaning.proofs.Basics.{eqb_same, eqb_less, ltb_true, none_some, map_o, nth_map}

-- not filled yet, a constant's value, a variable's location, the position of a routine's body
pub data Cell : Type 0 where
  blank : Cell
  fixed : Value → Cell
  located : ℕ → Cell
  entry : ℕ → Cell

abbrev pub show : Store → Cell → Slot
show st blank = slot.Unset
show st (fixed v) = slot_of v
show st (located l) = slot_of (value_at st l)
show st (entry k) = slot.Position k

pub record Shade : Type 0 where
  pub cells : List Cell
  pub parent : Option ℕ

infixl 20 ◌▸◌
pub data Shades : Type 0 where
  empty : Shades
  ◌▸◌ : Shades → Shade → Shades

abbrev pub shade : List Cell → Option ℕ → Shade
shade cl P = record { cells = cl; parent = P }

-- as `count`, `total`, `newest`, `up_to` and `walk` of frames
abbrev pub height : Shades → ℕ
height empty = 0
height (w ▸ f) = suc (height w)

abbrev pub slots : Shades → ℕ
slots empty = 0
slots (w ▸ f) = slots w + length f.cells

abbrev pub last : Shades → Option ℕ
last empty = None
last (w ▸ f) = Some (height w)

abbrev pub down : Option ℕ → Shades → Shades
down None w = empty
down (Some k) empty = empty
down (Some k) (w ▸ f) = cond (eqb k (height w)) (w ▸ f) (down (Some k) w)

abbrev pub out : ℕ → Shades → Shades
out zero w = w
out (suc h) empty = empty
out (suc h) (w ▸ f) = out h (down f.parent w)

abbrev pub cell_at : Shades → ℕ → Option Cell
cell_at empty o = None
cell_at (w ▸ f) o = slice_get f.cells o

abbrev pub shown : Store → Shades → Frames
shown st empty = none
shown st (w ▸ f) = shown st w ▷ record { slots = map (show st) f.cells; parent = f.parent }

pub height-shown : (st : Store) (w : Shades) → count (shown st w) ≡ height w
height-shown st empty = refl
height-shown st (w ▸ f) = ap suc (height-shown st w)

pub slots-shown : (st : Store) (w : Shades) → total (shown st w) ≡ slots w
slots-shown st empty = refl
slots-shown st (w ▸ f) = ap₂ ◌+◌ (slots-shown st w) (length-map f.cells (show st))

pub last-shown : (st : Store) (w : Shades) → newest (shown st w) ≡ last w
last-shown st empty = refl
last-shown st (w ▸ f) = ap {B = Option ℕ} Some (height-shown st w)

pub down-shown : (st : Store) (j : Option ℕ) (w : Shades) → up_to j (shown st w) ≡ shown st (down j w)
down-shown st None w = refl
down-shown st (Some j) empty = refl
down-shown st (Some j) (w ▸ f) = ap (λ (n : ℕ). cond (eqb j n) (shown st (w ▸ f)) (up_to (Some j) (shown st w))) (height-shown st w) ∙ by (eqb j (height w)) (down-shown st (Some j) w)
  where
    by : (b : Bool) → up_to (Some j) (shown st w) ≡ shown st (down (Some j) w) → cond b (shown st (w ▸ f)) (up_to (Some j) (shown st w)) ≡ shown st (cond b (w ▸ f) (down (Some j) w))
    by true t = refl
    by false t = t

pub out_shown : (st : Store) (h : ℕ) (w : Shades) → walk h (shown st w) ≡ shown st (out h w)
out_shown st zero w = refl
out_shown st (suc h) empty = refl
out_shown st (suc h) (w ▸ f) = ap (walk h) (down-shown st f.parent w) ∙ out_shown st h (down f.parent w)

-- reading a slot
pub got_shown : (st : Store) (w : Shades) (h o : ℕ) (c : Cell) → cell_at (out h w) o ≡ Some c → got (shown st w) h o ≡ Ok (show st c)
got_shown st w h o c e = ap (λ (fs : Frames). last_slot fs o) (out_shown st h w) ∙ by (out h w) e
  where
    by : (u : Shades) → cell_at u o ≡ Some c → last_slot (shown st u) o ≡ Ok (show st c)
    by empty e = none_some e
    by (u ▸ f) e = ap asked (nth_map (show st) f.cells o ∙ ap (map_o (show st)) e)

-- v is the older part of w
pub data Part : Shades → Shades → Type 0 where
  whole : {w : Shades} → Part w w
  deeper : {v w : Shades} {f : Shade} → Part v w → Part v (w ▸ f)
  nothing : {w : Shades} → Part empty w

pub part-height : {v w : Shades} → Part v w → height v ≤ height w
part-height whole = omega arith
part-height (deeper t) = let u = part-height t in omega arith
part-height nothing = omega arith

pub part_trans : {u v w : Shades} → Part u v → Part v w → Part u w
part_trans t whole = t
part_trans t (deeper u) = deeper (part_trans t u)
part_trans whole nothing = nothing
part_trans nothing nothing = nothing

pub down-part : (j : Option ℕ) (w : Shades) → Part (down j w) w
down-part None w = nothing
down-part (Some j) empty = whole
down-part (Some j) (w ▸ f) = by (eqb j (height w)) (down-part (Some j) w)
  where
    by : (b : Bool) → Part (down (Some j) w) w → Part (cond b (w ▸ f) (down (Some j) w)) (w ▸ f)
    by true t = whole
    by false t = deeper t

pub out_part : (h : ℕ) (w : Shades) → Part (out h w) w
out_part zero w = whole
out_part (suc h) empty = nothing
out_part (suc h) (w ▸ f) = part_trans (out_part h (down f.parent w)) (deeper (down-part f.parent w))

pub down-last : {v w : Shades} → Part v w → down (last v) w ≡ v
down-last {v} {w} whole = by w
  where
    by : (w : Shades) → down (last w) w ≡ w
    by empty = refl
    by (w ▸ f) = ap (λ (b : Bool). cond b (w ▸ f) (down (Some (height w)) w)) (eqb_same (height w))
down-last nothing = refl
down-last (deeper {v = v} {w = w} {f = f} t) = by v (part-height t) (down-last t)
  where
    by : (v : Shades) → height v ≤ height w → down (last v) w ≡ v → down (last v) (w ▸ f) ≡ v
    by empty l e = refl
    by (v ▸ g) l e = ap (λ (b : Bool). cond b (w ▸ f) (down (Some (height v)) w)) (eqb_less (height v) (height w) (omega arith)) ∙ e

-- writing a slot of the last frame
pub written_last : (fs : Frames) (f : Frame) (o : ℕ) (v : Slot) → o < length f.slots → written (fs ▷ f) 0 o v ≡ done (fs ▷ filled f o v)
written_last fs f o v l = ap (λ (b : Bool). cond b (done (filled_in (count fs) o v (fs ▷ f))) (refused Refusal.NoSuchSlot (fs ▷ f))) (ltb_true o (length f.slots) l)
    ∙ ap (λ (b : Bool). done (cond b (fs ▷ filled f o v) (filled_in (count fs) o v fs ▷ f))) (eqb_same (count fs))
