-- frames that lie in starts and slots, whatever keeps their parents
use Rattle.std.proofs.Common.{◌≡◌, ℕ, zero, suc, ◌+◌, ◌-◌, ◌<◌, ◌≤◌, true, false, cond, eqb, leb, ◌≢◌, List, ◌++◌, length, get_or, take, drop, set, replicate, is_some, Some, None, Option, sym, refl, ap, ◌∙◌, subst, ⊎_elim, add-one, arith}
use Rattle.std.proofs.lemmas.Bool.{cases_lt}
use lib.Seq.{take-set-lt}
use Rattle.std.proofs.lemmas.Slice.{between_is}
use Rattle.std.proofs.lemmas.List.Edits.{length-between, get_or-between}
use Rattle.std.proofs.lemmas.List.{take-take, take_at, drop_at, get_or-set_same, get_or-set_other, take-set-le, drop-set-lt, drop-set-add, length-take-le}
use Rattle.std.proofs.lemmas.Option.{slice_get-get_or, slice_get_past, some_pair_parts, none-some}
use Rattle.std.specs.Option.{option_map}
use Rattle.std.specs.List.{slice_get, between}
use Rattle.std.proofs.lemmas.Bool.Decides.{nat_tests}
use Rattle.lang.specs.declared.value.Slot.{Slot}
use Rattle.lang.specs.declared.value.Slot.TheVariants.{Unset}
use Rattle.lang.specs.declared.refusal.Refusal.TheVariants.{NoSuchSlot, TooManySlots, ChainTooDeep}
use Rattle.frames.specs.Frames.{Frames, none, ◌▷◌, count, total, newest, up_to, walk, asked, last_slot, refused, done, stands, deep, fresh, grown, filled, filled_in, written_from}
use Rattle.frames.specs.Hops.{before, Within, Earlier, hop}
use Rattle.frames.specs.Layout.{laid, frame_at, rises, end_of, part, Placed}
use Rattle.frames.specs.Slots.{frames_in, Room}
use Rattle.frames.specs.declared.slots.FrameSlots.{FrameSlots}
use Rattle.frames.proofs.Hops.{within_before}

nth_between : (sl : List Slot) (s e o : ℕ) (d : Slot) → e ≤ length sl → s + o < e → slice_get (between s e sl) o ≡ Some (get_or sl (s + o) d)
nth_between sl s e o d h l =
    let w = length-between sl s e h in
    slice_get-get_or (between s e sl) o d (omega arith) ∙ ap Some (get_or-between sl s e o d l)

rises-parts : (ss : List ℕ) (m used : ℕ) → rises ss (suc m) used ≡ true → (get_or ss m 0 ≤ used) × (rises ss m (get_or ss m 0) ≡ true)
rises-parts ss m used h = (grind (arith, nat_tests), grind (arith, nat_tests))

end_more : (ss : List ℕ) (n used k : ℕ) → k < n → end_of ss n (get_or ss n 0) k ≡ end_of ss (suc n) used k
end_more ss n used k h = grind (arith, nat_tests)

end_last : (ss : List ℕ) (n used : ℕ) → used ≡ end_of ss (suc n) used n
end_last ss n used = grind (arith, nat_tests)

-- an earlier frame ends at the same place, whatever stands above
end_low : (ss : List ℕ) (n used k p : ℕ) → p < k → k < n → end_of ss k (get_or ss k 0) p ≡ end_of ss n used p
end_low ss zero used k p h l = absurd (omega arith)
end_low ss (suc n) used k p h l = ⊎_elim
    (λ (b : k < n). end_low ss n (get_or ss n 0) k p h b ∙ end_more ss n used p (omega arith))
    (λ (b : n ≤ k). let q : n ≡ k = omega arith in let pn : p < n = omega arith in subst (λ j. end_of ss j (get_or ss j 0) p ≡ end_of ss (suc n) used p) q (end_more ss n used p pn))
    (cases_lt k n)

rises_bounds : (ss : List ℕ) (n used k : ℕ) → rises ss n used ≡ true → k < n → (get_or ss k 0 ≤ end_of ss n used k) × (end_of ss n used k ≤ used)
rises_bounds ss zero used k r h = absurd (omega arith)
rises_bounds ss (suc n) used k r h =
    let p = rises-parts ss n used r in
    ⊎_elim
    (λ (l : k < n).
    let b = rises_bounds ss n (get_or ss n 0) k p.1 l in
    let e = end_more ss n used k l in
    (omega arith, omega arith))
    (λ (l : n ≤ k).
    let q : k ≡ n = omega arith in
    let e = end_last ss n used in
    let f : end_of ss (suc n) used k ≡ end_of ss (suc n) used n = ap (λ j. end_of ss (suc n) used j) q in
    let g : get_or ss k 0 ≡ get_or ss n 0 = ap (λ j. get_or ss j 0) q in
    (omega arith, omega arith))
    (cases_lt k n)

-- where a frame lies, as it was found
abbrev pub Bounds : List ℕ → ℕ → ℕ → Option ℕ → ℕ → ℕ → Type 0
Bounds ss n used frame start end = ◌≡◌ {A = Option (ℕ × ℕ)} (Some (start, end)) (option_map (λ k. (get_or ss k 0, end_of ss n used k)) frame)

pub bounds_fit : (ss : List ℕ) (n used : ℕ) (frame : Option ℕ) (start end : ℕ) → rises ss n used ≡ true → Within frame n → Bounds ss n used frame start end → (start ≤ end) × (end ≤ used)
bounds_fit ss n used None start end r w q = absurd (none-some (start, end) (sym q))
bounds_fit ss n used (Some k) start end r w q =
    let p = some_pair_parts start (get_or ss k 0) end (end_of ss n used k) q in
    let b = rises_bounds ss n used k r w in
    (omega (arith, p.0, p.1, b.0), omega (arith, p.1, b.1))

module _ (up : ℕ → ℕ) (ss : List ℕ) (sl : List Slot) where
  pub count-laid : (n used : ℕ) → count (laid up ss sl n used) ≡ n
  count-laid zero used = refl
  count-laid (suc n) used = ap suc (count-laid n (get_or ss n 0))

  pub total-laid : (n used : ℕ) → rises ss n used ≡ true → used ≤ length sl → total (laid up ss sl n used) ≡ used
  total-laid zero used r h = grind (arith, nat_tests)
  total-laid (suc n) used r h =
      let p = rises-parts ss n used r in
      let t = total-laid n (get_or ss n 0) p.1 (omega arith) in
      let w = length-between sl (get_or ss n 0) used h in
      omega arith

  upto_laid : (n used k : ℕ) → k < n → up_to (Some k) (laid up ss sl n used) ≡ laid up ss sl (suc k) (end_of ss n used k)
  upto_laid zero used k h = absurd (omega arith)
  upto_laid (suc n) used k h =
      let s = get_or ss n 0 in
      let c = count-laid n s in
      ap (λ m. cond (eqb k m) (laid up ss sl (suc n) used) (up_to (Some k) (laid up ss sl n s))) c
      ∙ ⊎_elim
      (λ (l : k < n).
      let e : cond (eqb k n) (laid up ss sl (suc n) used) (up_to (Some k) (laid up ss sl n s)) ≡ up_to (Some k) (laid up ss sl n s) = grind (arith, nat_tests) in
      e ∙ upto_laid n s k l ∙ ap (laid up ss sl (suc k)) (end_more ss n used k l))
      (λ (l : n ≤ k).
      let q : n ≡ k = omega arith in
      let e : cond (eqb k n) (laid up ss sl (suc n) used) (up_to (Some k) (laid up ss sl n s)) ≡ laid up ss sl (suc n) used = grind (arith, nat_tests) in
      e ∙ ap (laid up ss sl (suc n)) (end_last ss n used) ∙ ap (λ j. laid up ss sl (suc j) (end_of ss (suc n) used j)) q)
      (cases_lt k n)

  upto_part : (n used k j : ℕ) → k < n → j ≤ k → up_to (before j) (laid up ss sl k (get_or ss k 0)) ≡ part up ss sl n used (before j)
  upto_part n used k zero h l = refl
  upto_part n used k (suc p) h l = upto_laid k (get_or ss k 0) p (omega arith) ∙ ap (laid up ss sl (suc p)) (end_low ss n used k p (omega arith) h)

  -- one hop from a part
  walk-part : (n used k h : ℕ) → k < n → up k ≤ k → walk (suc h) (part up ss sl n used (Some k)) ≡ walk h (part up ss sl n used (before (up k)))
  walk-part n used k h l e = ap (walk h) (upto_part n used k (up k) l e)

  -- hops from a part are hops by the links
  pub part-hop : (n used : ℕ) → Earlier up n → (h : ℕ) (r : Option ℕ) → Within r n → part up ss sl n used (hop up h r) ≡ walk h (part up ss sl n used r)
  part-hop n used e zero r w = refl
  part-hop n used e (suc h) None w = refl
  part-hop n used e (suc h) (Some k) w =
      let q = e k w in
      part-hop n used e h (before (up k)) (within_before (up k) n (omega arith)) ∙ sym (walk-part n used k h w q)

  pub stands-part : (n used : ℕ) (r : Option ℕ) → stands (part up ss sl n used r) ≡ is_some r
  stands-part n used None = refl
  stands-part n used (Some k) = refl

  pub newest-part : (n used : ℕ) (r : Option ℕ) → newest (part up ss sl n used r) ≡ r
  newest-part n used None = refl
  newest-part n used (Some k) = ap Some (count-laid k (get_or ss k 0))

-- what lies past the frames that stand does not matter
rises-same : (ss ss' : List ℕ) (n used : ℕ) → ((k : ℕ) → k < n → get_or ss' k 0 ≡ get_or ss k 0) → rises ss' n used ≡ rises ss n used
rises-same ss ss' zero used e = refl
rises-same ss ss' (suc n) used e =
    ap (λ s. cond (leb s used) (rises ss' n s) false) (e n (omega arith))
    ∙ ap (λ b. cond (leb (get_or ss n 0) used) b false) (rises-same ss ss' n (get_or ss n 0) (λ k h. e k (omega arith)))

module _ (up up' : ℕ → ℕ) (ss ss' : List ℕ) (sl sl' : List Slot) where
  between_same : (s used : ℕ) → take used sl' ≡ take used sl → between s used sl' ≡ between s used sl
  between_same s used e = between_is sl' s used ∙ ap (drop s) e ∙ sym (between_is sl s used)

  take_same : (s used : ℕ) → s ≤ used → take used sl' ≡ take used sl → take s sl' ≡ take s sl
  take_same s used h e = sym (take-take s used sl' h) ∙ ap (take s) e ∙ take-take s used sl h

  frame_same : (k s used : ℕ) → up' k ≡ up k → get_or ss' k 0 ≡ get_or ss k 0 → take used sl' ≡ take used sl → frame_at up' ss' sl' k used ≡ frame_at up ss sl k used
  frame_same k s used p q e =
      ap (λ x. record { slots = between x used sl'; parent = before (up' k) }) q
      ∙ ap (λ x. record { slots = x; parent = before (up' k) }) (between_same (get_or ss k 0) used e)
      ∙ ap (λ x. record { slots = between (get_or ss k 0) used sl; parent = before x }) p

  laid_same : (n used : ℕ) → ((k : ℕ) → k < n → up' k ≡ up k) → ((k : ℕ) → k < n → get_or ss' k 0 ≡ get_or ss k 0) → take used sl' ≡ take used sl → rises ss n used ≡ true → laid up' ss' sl' n used ≡ laid up ss sl n used
  laid_same zero used p q e r = refl
  laid_same (suc n) used p q e r =
      let b = rises-parts ss n used r in
      let qn : get_or ss' n 0 ≡ get_or ss n 0 = q n (omega arith) in
      ap (λ s. laid up' ss' sl' n s ▷ frame_at up' ss' sl' n used) qn
      ∙ ap (λ xs. xs ▷ frame_at up' ss' sl' n used) (laid_same n (get_or ss n 0) (λ k h. p k (omega arith)) (λ k h. q k (omega arith)) (take_same (get_or ss n 0) used b.0 e) b.1)
      ∙ ap (λ f. laid up ss sl n (get_or ss n 0) ▷ f) (frame_same n used used (p n (omega arith)) qn e)

-- one frame more
pub laid_push : (up up' : ℕ → ℕ) (ss : List ℕ) (sl sl' : List Slot) (n used m : ℕ) (parent : Option ℕ) → n < length ss → used ≤ length sl → before (up' n) ≡ parent → ((k : ℕ) → k < n → up' k ≡ up k)
    → take (used + m) sl' ≡ take used sl ++ replicate m Unset → rises ss n used ≡ true
    → laid up' (set ss n used) sl' (n + 1) (used + m) ≡ laid up ss sl n used ▷ fresh m parent
laid_push up up' ss sl sl' n used m parent hs hu l others' e r =
    let S = set ss n used in
    let start : get_or S n 0 ≡ used = get_or-set_same ss n used 0 hs in
    let front : length (take used sl) ≡ used = length-take-le used sl hu in
    let low : take used sl' ≡ take used sl =
    sym (take-take used (used + m) sl' (omega arith)) ∙ ap (take used) e ∙ take_at (take used sl) (replicate m Unset) used front in
    let high : between used (used + m) sl' ≡ replicate m Unset =
    between_is sl' used (used + m) ∙ ap (drop used) e ∙ drop_at (take used sl) (replicate m Unset) used front in
    let others : (k : ℕ) → k < n → get_or S k 0 ≡ get_or ss k 0 = λ k h. let ne : k ≢ n = omega arith in get_or-set_other ss n k used 0 ne in
    ap (λ j. laid up' S sl' j (used + m)) (add-one n)
    ∙ ap (λ s. laid up' S sl' n s ▷ record { slots = between s (used + m) sl'; parent = before (up' n) }) start
    ∙ ap (λ xs. xs ▷ record { slots = between used (used + m) sl'; parent = before (up' n) }) (laid_same up up' ss S sl sl' n used others' others low r)
    ∙ ap (λ xs. laid up ss sl n used ▷ record { slots = xs; parent = before (up' n) }) high
    ∙ ap (λ p. laid up ss sl n used ▷ fresh m p) l

pub rises_push : (ss : List ℕ) (n used m : ℕ) → n < length ss → rises ss n used ≡ true → rises (set ss n used) (n + 1) (used + m) ≡ true
rises_push ss n used m h r =
    let S = set ss n used in
    let start : get_or S n 0 ≡ used = get_or-set_same ss n used 0 h in
    let others : (k : ℕ) → k < n → get_or S k 0 ≡ get_or ss k 0 = λ k h. let ne : k ≢ n = omega arith in get_or-set_other ss n k used 0 ne in
    let same : rises S n used ≡ true = rises-same ss S n used others ∙ r in
    ap (λ j. rises S j (used + m)) (add-one n)
    ∙ ap (λ s. cond (leb s (used + m)) (rises S n s) false) start
    ∙ grind (arith, nat_tests)

-- one slot written
module _ (up : ℕ → ℕ) (ss : List ℕ) (sl : List Slot) (o : ℕ) (v : Slot) where
  between_below : (s e i : ℕ) → i < s → between s e (set sl i v) ≡ between s e sl
  between_below s e i h = ap (take (e - s)) (drop-set-lt s sl i v h)

  between_put : (s e : ℕ) → s + o < e → between s e (set sl (s + o) v) ≡ set (between s e sl) o v
  between_put s e h = ap (take (e - s)) (drop-set-add s sl o v) ∙ take-set-lt (e - s) (drop s sl) o v (omega arith)

  laid_put : (n used k : ℕ) → rises ss n used ≡ true → k < n → get_or ss k 0 + o < end_of ss n used k
      → laid up ss (set sl (get_or ss k 0 + o) v) n used ≡ filled_in k o v (laid up ss sl n used)
  laid_put zero used k r h l = absurd (omega arith)
  laid_put (suc n) used k r h l =
      let p = rises-parts ss n used r in
      let s = get_or ss n 0 in
      let fs = laid up ss sl n s in
      let f = frame_at up ss sl n used in
      let c : cond (eqb k n) (fs ▷ filled f o v) (filled_in k o v fs ▷ f) ≡ filled_in k o v (fs ▷ f) = ap (λ m. cond (eqb k m) (fs ▷ filled f o v) (filled_in k o v fs ▷ f)) (sym (count-laid up ss sl n s)) in
      ⊎_elim
      (λ (b : k < n).
      let i = get_or ss k 0 + o in
      let e = end_more ss n used k b in
      let q = rises_bounds ss n s k p.1 b in
      let t : filled_in k o v fs ▷ f ≡ cond (eqb k n) (fs ▷ filled f o v) (filled_in k o v fs ▷ f) = grind (arith, nat_tests) in
      ap (λ xs. laid up ss (set sl i v) n s ▷ record { slots = xs; parent = before (up n) }) (between_below s used i (omega arith))
      ∙ ap (λ fs. fs ▷ f) (laid_put n s k p.1 b (omega arith))
      ∙ t ∙ c)
      (λ (b : n ≤ k).
      let q : n ≡ k = omega arith in
      let e = end_last ss n used in
      let x : get_or ss k 0 ≡ s = ap (λ j. get_or ss j 0) (sym q) in
      let l' : s + o < used = let y : end_of ss (suc n) used k ≡ end_of ss (suc n) used n = ap (end_of ss (suc n) used) (sym q) in omega arith in
      let t : fs ▷ filled f o v ≡ cond (eqb k n) (fs ▷ filled f o v) (filled_in k o v fs ▷ f) = grind (arith, nat_tests) in
      ap (λ j. laid up ss (set sl (j + o) v) (suc n) used) x
      ∙ ap (λ xs. laid up ss (set sl (s + o) v) n s ▷ record { slots = xs; parent = before (up n) }) (between_put s used l')
      ∙ ap (λ fs. fs ▷ filled f o v) (laid_same up up ss ss sl (set sl (s + o) v) n s (λ _ _. refl) (λ _ _. refl) (take-set-le s sl (s + o) v (omega arith)) p.1)
      ∙ t ∙ c)
      (cases_lt k n)

-- what is read and written, where a part is known
module _ (up : ℕ → ℕ) (ss : List ℕ) (sl : List Slot) (n used : ℕ) (r : rises ss n used ≡ true) (fit : used ≤ length sl) where
  abbrev whole : Frames
  whole = laid up ss sl n used

  placed_none : (h o : ℕ) → none ≡ walk h whole → Placed up ss sl n used h o None
  placed_none h o e = (ap (λ fs. last_slot fs o) e, λ v. ap (λ fs. written_from whole fs o v) e)

  width_at : (k : ℕ) → k < n → length (between (get_or ss k 0) (end_of ss n used k) sl) ≡ end_of ss n used k - get_or ss k 0
  width_at k h = let b = rises_bounds ss n used k r h in length-between sl (get_or ss k 0) (end_of ss n used k) (omega arith)

  placed_out : (h k o : ℕ) → part up ss sl n used (Some k) ≡ walk h whole → k < n → end_of ss n used k ≤ get_or ss k 0 + o → Placed up ss sl n used h o None
  placed_out h k o e l b =
      let w = width_at k l in
      let xs = between (get_or ss k 0) (end_of ss n used k) sl in (
        ap asked (sym (slice_get_past xs o (omega arith))) ∙ ap (λ fs. last_slot fs o) e,
        λ v. (let q : refused NoSuchSlot whole ≡ written_from whole (part up ss sl n used (Some k)) o v = grind (arith, nat_tests) in q) ∙ ap (λ fs. written_from whole fs o v) e,
      )

  placed_in : (h k o : ℕ) → part up ss sl n used (Some k) ≡ walk h whole → k < n → get_or ss k 0 + o < end_of ss n used k → Placed up ss sl n used h o (Some (get_or ss k 0 + o))
  placed_in h k o e l b =
      let w = width_at k l in
      let q = rises_bounds ss n used k r l in
      let xs = between (get_or ss k 0) (end_of ss n used k) sl in (
        omega arith,
        ap asked (sym (nth_between sl (get_or ss k 0) (end_of ss n used k) o Unset (omega arith) b)) ∙ ap (λ fs. last_slot fs o) e,
        λ v. ap done (laid_put up ss sl o v n used k r l b)
            ∙ ap (λ j. done (filled_in j o v whole)) (sym (count-laid up ss sl k (get_or ss k 0)))
            ∙ (let q : done (filled_in (count (laid up ss sl k (get_or ss k 0))) o v whole) ≡ written_from whole (part up ss sl n used (Some k)) o v = grind (arith, nat_tests) in q)
            ∙ ap (λ fs. written_from whole fs o v) e,
      )

  pub placed_past : (frame : Option ℕ) (h o start end : ℕ) → part up ss sl n used frame ≡ walk h whole → Within frame n → Bounds ss n used frame start end → end ≤ start + o → Placed up ss sl n used h o None
  placed_past None h o start end e w q b = placed_none h o e
  placed_past (Some k) h o start end e w q b = let p = some_pair_parts start (get_or ss k 0) end (end_of ss n used k) q in placed_out h k o e w (omega (arith, p.0, p.1))

  pub placed_some : (frame : Option ℕ) (h o start end : ℕ) → part up ss sl n used frame ≡ walk h whole → Within frame n → Bounds ss n used frame start end → start + o < end → Placed up ss sl n used h o (Some (start + o))
  placed_some None h o start end e w q b = absurd (none-some (start, end) (sym q))
  placed_some (Some k) h o start end e w q b =
      let p = some_pair_parts start (get_or ss k 0) end (end_of ss n used k) q in
      subst (λ x. Placed up ss sl n used h o (Some (x + o))) (sym p.0) (placed_in h k o e w (omega (arith, p.0, p.1)))

-- the order of the refusals
pub grown-wide : (fs gs : Frames) (n : ℕ) → count fs < 256 → 2048 < total fs + n → refused TooManySlots fs ≡ grown fs gs n
grown-wide fs gs n a b = grind (arith, nat_tests)

-- where there is room, only the depth is left to test
module _ (up : ℕ → ℕ) (s : FrameSlots) (n : ℕ) (r : Room s n) (gs : Frames) where
  pub room-deep : deep gs ≡ true → refused ChainTooDeep (frames_in up s) ≡ grown (frames_in up s) gs n
  room-deep d =
      let a = count-laid up s.starts.now s.cells.now s.count s.used in
      let b = total-laid up s.starts.now s.cells.now s.count s.used s.rising (omega (arith, s.small, s.cell_room)) in
      grind (arith, nat_tests, r.frames, r.slots)

  pub room-done : deep gs ≡ false → done (frames_in up s ▷ fresh n (newest gs)) ≡ grown (frames_in up s) gs n
  room-done d =
      let a = count-laid up s.starts.now s.cells.now s.count s.used in
      let b = total-laid up s.starts.now s.cells.now s.count s.used s.rising (omega (arith, s.small, s.cell_room)) in
      grind (arith, nat_tests, r.frames, r.slots)
