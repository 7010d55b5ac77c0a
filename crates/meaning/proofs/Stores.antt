-- The store: each location stands in one slot at most, so that a write changes that slot alone.
use Rattle.std.proofs.Common.{◌≡◌, ℕ, zero, suc, ◌+◌, ◌<◌, ◌≤◌, Bool, true, false, cond, eqb, List, [], ◌∷◌, ◌++◌, map, length, set, replicate, Some, Option, sym, refl, ap, ◌∙◌, ap₂, zero-add, arith, eqb→eq, length-append, length-set, get_or-set_other, get_or-set_same}
use lib.ListN.{length-map, get_or-append}
use Rattle.std.specs.List.{slice_get}
use Rattle.lang.specs.declared.value.Value.{Value}
use Rattle.lang.specs.declared.value.Slot.{Slot}
use Rattle.lang.specs.declared.refusal.Refusal.TheVariants.{NoSuchSlot}
use Rattle.lang.specs.Values.{slot_of}
use Rattle.frames.specs.Frames.{Frames, ◌▷◌, count, refused, done, filled_in, written_from, written}
use Rattle.meaning.specs.Meaning.{Store, value_at}
use Rattle.meaning.proofs.Basics.{eqb_same, eqb_less, ltb_true, from_true, none_some, some_is, nth_below}
use Rattle.meaning.proofs.Shades.{Cell, blank, fixed, located, entry, show, Shade, Shades, empty, ◌▸◌, shade, height, out, cell_at, shown, height-shown, out_shown, Part, whole, deeper, nothing, part-height, out_part}

-- how often a location stands in a cell, in cells, in shades
abbrev pub one : ℕ → Cell → ℕ
one l blank = 0
one l (fixed v) = 0
one l (located k) = cond (eqb l k) 1 0
one l (entry k) = 0

abbrev pub occ : ℕ → List Cell → ℕ
occ l [] = 0
occ l (c ∷ cs) = one l c + occ l cs

abbrev pub occs : ℕ → Shades → ℕ
occs l empty = 0
occs l (w ▸ f) = occs l w + occ l f.cells

abbrev pub Sound : Store → Shades → Type 0
Sound st w = (l : ℕ) → (occs l w ≤ 1) × (1 ≤ occs l w → l < length st)

pub one_here : (l : ℕ) → one l (located l) ≡ 1
one_here l = ap (λ (b : Bool). cond {A = ℕ} b 1 0) (eqb_same l)

pub not_one : (m : ℕ) → (1 ≤ m → ⊥) → m ≡ 0
not_one zero h = refl
not_one (suc m) h = absurd (h (omega arith))

show-agree : (st su : Store) (c : Cell) → ((l : ℕ) → 1 ≤ one l c → value_at st l ≡ value_at su l) → show st c ≡ show su c
show-agree st su blank h = refl
show-agree st su (fixed v) h = refl
show-agree st su (located l) h = ap slot_of (h l (let e = one_here l in omega arith))
show-agree st su (entry k) h = refl

cells_agree : (st su : Store) (cs : List Cell) → ((l : ℕ) → 1 ≤ occ l cs → value_at st l ≡ value_at su l) → map (show st) cs ≡ map (show su) cs
cells_agree st su [] h = refl
cells_agree st su (c ∷ cs) h = ap₂ ◌∷◌ (show-agree st su c (λ l k. h l (omega arith))) (cells_agree st su cs (λ l k. h l (omega arith)))

frames-agree : (P : Option ℕ) {fs gs : Frames} {ss us : List Slot} → fs ≡ gs → ss ≡ us → fs ▷ record { slots = ss; parent = P } ≡ gs ▷ record { slots = us; parent = P }
frames-agree P e f = ap₂ (λ (fs : Frames) (ss : List Slot). fs ▷ record { slots = ss; parent = P }) e f

shown-agree : (st su : Store) (w : Shades) → ((l : ℕ) → 1 ≤ occs l w → value_at st l ≡ value_at su l) → shown st w ≡ shown su w
shown-agree st su empty h = refl
shown-agree st su (w ▸ f) h = frames-agree f.parent (shown-agree st su w (λ l k. h l (omega arith))) (cells_agree st su f.cells (λ l k. h l (omega arith)))

occ_has : (l o : ℕ) (cs : List Cell) → slice_get cs o ≡ Some (located l) → 1 ≤ occ l cs
occ_has l o [] e = none_some e
occ_has l zero (c ∷ cs) e = let x : one l c ≡ 1 = ap (one l) (some_is e) ∙ one_here l in omega arith
occ_has l (suc o) (c ∷ cs) e = let x = occ_has l o cs e in omega arith

-- every other location keeps its value
others : (st : Store) (l : ℕ) (v : Value) (n : ℕ → ℕ) → n l ≡ 0 → (k : ℕ) → 1 ≤ n k → value_at (set st l v) k ≡ value_at st k
others st l v n z k h = get_or-set_other st l k v _ (λ e. let x : n k ≡ n l = ap n e in absurd (omega arith))

cells_put : (st : Store) (l : ℕ) (v : Value) → l < length st → (o : ℕ) (cs : List Cell) → slice_get cs o ≡ Some (located l) → occ l cs ≤ 1 → map (show (set st l v)) cs ≡ set (map (show st) cs) o (slot_of v)
cells_put st l v h o [] e k = none_some e
cells_put st l v h zero (c ∷ cs) e k =
    let x : one l c ≡ 1 = ap (one l) (some_is e) ∙ one_here l in
    ap₂ ◌∷◌ (ap (show (set st l v)) (some_is e) ∙ ap slot_of (get_or-set_same st l v _ h)) (cells_agree _ _ cs (others st l v (λ k. occ k cs) (omega arith)))
cells_put st l v h (suc o) (c ∷ cs) e k =
    let x = occ_has l o cs e in
    ap₂ ◌∷◌ (show-agree _ _ c (others st l v (λ k. one k c) (omega arith))) (cells_put st l v h o cs e (omega arith))

occs_has : {u w : Shades} (l o : ℕ) → Part u w → cell_at u o ≡ Some (located l) → 1 ≤ occs l w
occs_has {u} {w} l o whole e = by w e
  where
    by : (w : Shades) → cell_at w o ≡ Some (located l) → 1 ≤ occs l w
    by empty e = none_some e
    by (w ▸ f) e = let x = occ_has l o f.cells e in omega arith
occs_has l o (deeper t) e = let x = occs_has l o t e in omega arith
occs_has l o nothing e = none_some e

-- the number of the last frame
abbrev below : Shades → ℕ
below empty = 0
below (w ▸ f) = height w

shown_put : (st : Store) (l : ℕ) (v : Value) → l < length st → (o : ℕ) {u w : Shades} → Part u w → cell_at u o ≡ Some (located l) → occs l w ≤ 1 → shown (set st l v) w ≡ filled_in (below u) o (slot_of v) (shown st w)
shown_put st l v h o {u} {w} whole e k = by w e k
  where
    by : (w : Shades) → cell_at w o ≡ Some (located l) → occs l w ≤ 1 → shown (set st l v) w ≡ filled_in (below w) o (slot_of v) (shown st w)
    by empty e k = none_some e
    by (w ▸ f) e k =
        let x = occ_has l o f.cells e in
        frames-agree f.parent (shown-agree _ _ w (others st l v (λ k. occs k w) (omega arith))) (cells_put st l v h o f.cells e (omega arith))
        ∙ sym (ap (λ (b : Bool). cond b (shown st w ▷ record { slots = set (map (show st) f.cells) o (slot_of v); parent = f.parent }) (filled_in (height w) o (slot_of v) (shown st w) ▷ record { slots = map (show st) f.cells; parent = f.parent })) (ap (eqb (height w)) (height-shown st w) ∙ eqb_same (height w)))
shown_put st l v h o nothing e k = none_some e
shown_put st l v h o (deeper {v = u} {w = w} {f = f} t) e k = by u e t (shown_put st l v h o t e (omega arith))
  where
    by : (u : Shades) → cell_at u o ≡ Some (located l) → Part u w → shown (set st l v) w ≡ filled_in (below u) o (slot_of v) (shown st w) → shown (set st l v) (w ▸ f) ≡ filled_in (below u) o (slot_of v) (shown st (w ▸ f))
    by empty e t q = none_some e
    by (u ▸ g) e t q =
        let x = occs_has l o t e in
        let y = part-height t in
        frames-agree f.parent q (cells_agree _ _ f.cells (others st l v (λ k. occ k f.cells) (omega arith)))
        ∙ sym (ap (λ (b : Bool). cond b (shown st w ▷ record { slots = set (map (show st) f.cells) o (slot_of v); parent = f.parent }) (filled_in (height u) o (slot_of v) (shown st w) ▷ record { slots = map (show st) f.cells; parent = f.parent })) (ap (eqb (height u)) (height-shown st w) ∙ eqb_less (height u) (height w) (omega arith)))

-- a variable's location is in the store
pub location_fits : (st : Store) (w : Shades) (h o l : ℕ) → Sound st w → cell_at (out h w) o ≡ Some (located l) → l < length st
location_fits st w h o l d e = (d l).1 (occs_has l o (out_part h w) e)

-- a write to a variable's slot is a write to its location
pub written_put : (st : Store) (w : Shades) (h o l : ℕ) (v : Value) → Sound st w → cell_at (out h w) o ≡ Some (located l) → written (shown st w) h o (slot_of v) ≡ done (shown (set st l v) w)
written_put st w h o l v d e = ap (λ (x : Frames). written_from (shown st w) x o (slot_of v)) (out_shown st h w) ∙ by (out h w) (out_part h w) (location_fits st w h o l d e) e
  where
    by : (u : Shades) → Part u w → l < length st → cell_at u o ≡ Some (located l) → written_from (shown st w) (shown st u) o (slot_of v) ≡ done (shown (set st l v) w)
    by empty t q e = none_some e
    by (u ▸ f) t q e =
        ap (λ (b : Bool). cond b (done (filled_in (count (shown st u)) o (slot_of v) (shown st w))) (refused NoSuchSlot (shown st w))) (ltb_true o (length (map (show st) f.cells)) (let x = nth_below f.cells o e in let y = length-map f.cells (show st) in omega arith))
        ∙ ap (λ (k : ℕ). done (filled_in k o (slot_of v) (shown st w))) (height-shown st u)
        ∙ ap done (sym (shown_put st l v q o t e (d l).0))

-- soundness of frames that come and go
pub sound_left : (st : Store) (f : Shade) (w : Shades) → Sound st (w ▸ f) → Sound st w
sound_left st f w d l = let y = d l in (omega arith, λ k. y.1 (omega arith))

pub sound_set : (st : Store) (w : Shades) (k : ℕ) (v : Value) → Sound st w → Sound (set st k v) w
sound_set st w k v d l = ((d l).0, λ q. let x = (d l).1 q in let y = length-set st k v in omega arith)

-- frames that differ by cells with the same locations
pub sound_like : (st : Store) (a b : List Cell) (P Q : Option ℕ) (w : Shades) → ((l : ℕ) → occ l b ≡ occ l a) → Sound st (w ▸ shade a P) → Sound st (w ▸ shade b Q)
sound_like st a b P Q w h d l = let x = h l in let y = d l in (omega arith, λ k. y.1 (omega arith))

-- a frame more with no location
pub sound_more : (st : Store) (a : List Cell) (P : Option ℕ) (w : Shades) → ((l : ℕ) → occ l a ≡ 0) → Sound st w → Sound st (w ▸ shade a P)
sound_more st a P w h d l = let x = h l in let y = d l in (omega arith, λ k. y.1 (omega arith))

pub occ_fixed : (l : ℕ) (us : List Value) → occ l (map fixed us) ≡ 0
occ_fixed l [] = refl
occ_fixed l (u ∷ us) = let x = occ_fixed l us in omega arith

pub occ_blanks : (l k : ℕ) → occ l (replicate k blank) ≡ 0
occ_blanks l zero = refl
occ_blanks l (suc k) = let x = occ_blanks l k in omega arith

pub occ_append : (l : ℕ) (a b : List Cell) → occ l (a ++ b) ≡ occ l a + occ l b
occ_append l [] b = sym (zero-add _)
occ_append l (c ∷ a) b = let x = occ_append l a b in omega arith

pub occ_fill : (l : ℕ) (cl es : List Cell) (c : Cell) → occ l ((cl ++ (c ∷ [])) ++ es) ≡ one l c + occ l (cl ++ (blank ∷ es))
occ_fill l cl es c = let x = occ_append l (cl ++ (c ∷ [])) es in let y = occ_append l cl (c ∷ []) in let z = occ_append l cl (blank ∷ es) in omega arith

-- a new location
pub sound_new : (st : Store) (v : Value) (a b : List Cell) (P : Option ℕ) (w : Shades) → ((l : ℕ) → occ l b ≡ one l (located (length st)) + occ l a) → Sound st (w ▸ shade a P) → Sound (st ++ (v ∷ [])) (w ▸ shade b P)
sound_new st v a b P w h d l = by (eqb l (length st)) refl (h l) (d l)
  where
    by : (q : Bool) → eqb l (length st) ≡ q → occ l b ≡ cond {A = ℕ} q 1 0 + occ l a → (occs l w + occ l a ≤ 1) × (1 ≤ occs l w + occ l a → l < length st) → (occs l w + occ l b ≤ 1) × (1 ≤ occs l w + occ l b → l < length (st ++ (v ∷ [])))
    by true e x y = let z = length-append st (v ∷ []) in let q = eqb→eq l (length st) (from_true _ e) in let none_yet = not_one (occs l w + occ l a) (λ k. let q₂ = y.1 k in omega arith) in (omega arith, λ _. omega arith)
    by false e x y = let z = length-append st (v ∷ []) in (omega arith, λ k. let q = y.1 (omega arith) in omega arith)

pub shown-append : (st : Store) (v : Value) (w : Shades) → Sound st w → shown st w ≡ shown (st ++ (v ∷ [])) w
shown-append st v w d = shown-agree _ _ w (λ l k. sym (get_or-append st (v ∷ []) _ l ((d l).1 k)))

pub value-last : (st : Store) (v : Value) → value_at (st ++ (v ∷ [])) (length st) ≡ v
value-last [] v = refl
value-last (u ∷ st) v = value-last st v
