-- Every step counts one and keeps the machine within its memory.
use Rattle.std.proofs.Common.{◌≡◌, ℕ, zero, suc, ◌+◌, ◌<◌, ◌≤◌, Bool, true, false, cond, not, T, eqb, ltb, leb, List, [], ◌∷◌, length, ℤ, ◌+ℤ◌, ◌-ℤ◌, ◌*ℤ◌, neg_ℤ, Some, None, Ok, Err, Option, Result, sym, refl, ap, subst, arith, ltb→lt, nltb→le, length-set}
use lib.Dec.{nleb→lt}
use lib.ListN.{length-replicate}
use Rattle.std.specs.List.{slice_get}
use Rattle.lang.specs.declared.value.Value.{Value}
use Rattle.lang.specs.declared.value.Value.TheVariants.{Number, Truth}
use Rattle.lang.specs.declared.value.Slot.{Slot}
use Rattle.lang.specs.declared.value.Slot.TheVariants as slot
use Rattle.lang.specs.Values.{slot_of, value_in, alike, in_range}
use Rattle.lang.specs.declared.fault.Fault.{Fault}
use Rattle.lang.specs.declared.fault.Fault.TheVariants as fault
use Rattle.lang.specs.declared.refusal.Refusal.{Refusal}
use Rattle.lang.specs.declared.refusal.Refusal.TheVariants.{ShortMemory, BadSheet, TextTooLong, BadByte, NameTooLong, NumberTooLarge, Unexpected, NestTooDeep, TooManyNodes, NotVisible, NameTwice, WrongSort, WrongCount, ScopesTooDeep, TooManyNames, RunOpen, NoRule, NoRun, BadEntry, TooManyFrames, TooManySlots, ChainTooDeep, NoSuchSlot}
use Rattle.lang.specs.declared.instruction.Instruction.{Instruction}
use Rattle.lang.specs.declared.instruction.Instruction.TheVariants.{Push, Load, Minus, Not, Add, Sub, Mul, Equal, Less, And, Or, Pick, Fork, Skip, Leave, Again, Open, Fill, Shut, Fun, Proc, Call, Do, Back, Store, Let}
use Rattle.frames.specs.Frames.{Frames, none, ◌▷◌, count, total, newest, walk, got, Built, refused, done, deep, fresh, grown, opened, entered_from, entered, left, filled, filled_in, written_from, written}
use Rattle.meaning.specs.Tree.{Place, Sign, minus, negate, Operator, add, sub, mul, equal, less}
use Rattle.meaning.specs.Limits.{most_steps, most_frames, most_slots, most_values, most_returns}
use Rattle.meaning.specs.Operators.{Worked, ranged, worked, conjoined, disjoined, with_sign}
use Rattle.meaning.specs.Translation.{Code}
use Rattle.meaning.specs.Machine.{Machine, Next, go, stop, ended, stuck, failed, on, pushed, loaded_value, loaded, gives, on_one, on_two, branched, fault_of, refused_by, answered, built, filling, stored_over, stored_in, storing, moved, called_at, called, returned, act, counted, fetched, step}
use Rattle.meaning.specs.Agreement.{fault_at, Shallow, Within}
use Rattle.meaning.proofs.Depth.{Older, whole, walk_older, grown_shallow, filled-count, filled_shallow}

-- frames within their memory
abbrev Fit : Frames → Type 0
Fit fs = (count fs ≤ most_frames) × (total fs ≤ most_slots) × Shallow fs

abbrev Sized : Frames → Type 0
Sized fs = (count fs ≤ most_frames) × (total fs ≤ most_slots)

not_true : (b : Bool) → b ≡ false → T (not b)
not_true b e = subst (λ (b : Bool). T (not b)) (sym e) tt

grown_fit : (fs gs : Frames) (n : ℕ) → Older gs fs → Fit fs → Fit (grown fs gs n).after
grown_fit fs gs n t h = let r = by (leb 256 (count fs)) (ltb 2048 (total fs + n)) (deep gs) refl refl in (r.0, r.1, grown_shallow fs gs n t h.2)
  where
    by : (a b c : Bool) → leb 256 (count fs) ≡ a → ltb 2048 (total fs + n) ≡ b → Sized (cond a (refused TooManyFrames fs) (cond b (refused TooManySlots fs) (cond c (refused ChainTooDeep fs) (done (fs ▷ fresh n (newest gs)))))).after
    by true b c p q = (h.0, h.1)
    by false true c p q = (h.0, h.1)
    by false false true p q = (h.0, h.1)
    by false false false p q = let x = nleb→lt 256 (count fs) (not_true _ p) in let y = nltb→le 2048 (total fs + n) (not_true _ q) in let z = length-replicate n slot.Unset in (omega arith, omega arith)

entered_fit : (fs : Frames) (h n : ℕ) → Fit fs → Fit (entered fs h n).after
entered_fit fs h n x = by (walk h fs) (walk_older h fs)
  where
    by : (gs : Frames) → Older gs fs → Fit (entered_from fs gs n).after
    by none t = x
    by (gs ▷ g) t = grown_fit fs (gs ▷ g) n t x

left_fit : (fs : Frames) → Fit fs → Fit (left fs).after
left_fit none h = h
left_fit (fs ▷ f) h = let x = h.0 in let y = h.1 in (omega arith, omega arith, h.2.1)

filled-total : (k o : ℕ) (v : Slot) (fs : Frames) → total (filled_in k o v fs) ≡ total fs
filled-total k o v none = refl
filled-total k o v (fs ▷ f) = by (eqb k (count fs)) (filled-total k o v fs)
  where
    by : (b : Bool) → total (filled_in k o v fs) ≡ total fs → total (cond b (fs ▷ filled f o v) (filled_in k o v fs ▷ f)) ≡ total fs + length f.slots
    by true e = ap (λ (n : ℕ). total fs + n) (length-set f.slots o v)
    by false e = ap (λ (n : ℕ). n + length f.slots) e

written_fit : (fs : Frames) (h o : ℕ) (v : Slot) → Fit fs → Fit (written fs h o v).after
written_fit fs h o v x = by (walk h fs)
  where
    in_frame : (b : Bool) (k : ℕ) → Fit (cond b (done (filled_in k o v fs)) (refused NoSuchSlot fs)).after
    in_frame true k = let y = filled-count k o v fs in let z = filled-total k o v fs in let a = x.0 in let b = x.1 in (omega arith, omega arith, filled_shallow k o v fs x.2)
    in_frame false k = x

    by : (gs : Frames) → Fit (written_from fs gs o v).after
    by none = x
    by (gs ▷ g) = in_frame (ltb o (length g.slots)) (count gs)

-- what an instruction that is already counted does
data Did (m : Machine) : Next → Type 0 where
  did : {n : Machine} → n.steps ≡ m.steps → (Within m → Within n) → Did m (go n)
  fell : {f : Fault} {p : Place} → fault_at f m.steps ≡ m.steps → Did m (stop f p m.steps)
  hung : Did m stuck

within : (i : ℕ) (vs : List Value) (rs : List ℕ) (fs : Frames) (s : ℕ) → s ≤ most_steps → length vs ≤ most_values → length rs ≤ most_returns → Fit fs → Within (record { at = i; values = vs; returns = rs; frames = fs; steps = s })
within i vs rs fs s n v r h = record { values = v; returns = r; frames = h.0; slots = h.1; chains = h.2; steps = n }

did_on : (i : ℕ) (vs : List Value) (m : Machine) → length vs ≤ length m.values → Did m (on i vs m)
did_on i vs m l = did refl (λ w. within i vs m.returns m.frames m.steps w.steps (let x = w.values in omega arith) w.returns (w.frames, w.slots, w.chains))

did_pushed : (v : Value) (p : Place) (m : Machine) → Did m (pushed v p m)
did_pushed v p m = by (leb most_values (length m.values)) refl
  where
    by : (b : Bool) → leb most_values (length m.values) ≡ b → Did m (cond b (failed fault.Values p m) (on (m.at + 1) (v ∷ m.values) m))
    by true e = fell refl
    by false e = did refl (λ w. within _ _ _ _ _ w.steps (let x = nleb→lt most_values (length m.values) (not_true _ e) in omega arith) w.returns (w.frames, w.slots, w.chains))

did_loaded : (r : Result Slot Refusal) (p : Place) (m : Machine) → Did m (loaded r p m)
did_loaded (Err e) p m = hung
did_loaded (Ok s) p m = by (value_in s)
  where
    by : (o : Option Value) → Did m (loaded_value o p m)
    by None = hung
    by (Some v) = did_pushed v p m

-- no operator ends with fault 26
abbrev Early : Worked → Type 0
Early (Ok v) = Unit {0}
Early (Err f) = (s : ℕ) → fault_at f s ≡ s

ranged_early : (z : ℤ) → Early (ranged z)
ranged_early z = by (in_range z)
  where
    by : (b : Bool) → Early (cond b (Ok (Number z)) (Err fault.Range))
    by true = tt
    by false = λ s. refl

worked_early : (o : Operator) (a b : Value) → Early (worked o a b)
worked_early add (Number a) (Number b) = ranged_early (a +ℤ b)
worked_early sub (Number a) (Number b) = ranged_early (a -ℤ b)
worked_early mul (Number a) (Number b) = ranged_early (a *ℤ b)
worked_early equal (Number a) (Number b) = tt
worked_early less (Number a) (Number b) = tt
worked_early add (Number a) (Truth b) = λ s. refl
worked_early sub (Number a) (Truth b) = λ s. refl
worked_early mul (Number a) (Truth b) = λ s. refl
worked_early equal (Number a) (Truth b) = λ s. refl
worked_early less (Number a) (Truth b) = λ s. refl
worked_early add (Truth a) b = λ s. refl
worked_early sub (Truth a) b = λ s. refl
worked_early mul (Truth a) b = λ s. refl
worked_early equal (Truth a) b = λ s. refl
worked_early less (Truth a) b = λ s. refl

conjoined_early : (a b : Value) → Early (conjoined a b)
conjoined_early (Truth a) (Truth b) = tt
conjoined_early (Truth a) (Number b) = λ s. refl
conjoined_early (Number a) b = λ s. refl

disjoined_early : (a b : Value) → Early (disjoined a b)
disjoined_early (Truth a) (Truth b) = tt
disjoined_early (Truth a) (Number b) = λ s. refl
disjoined_early (Number a) b = λ s. refl

sign_early : (o : Sign) (a : Value) → Early (with_sign o a)
sign_early minus (Number a) = ranged_early (neg_ℤ a)
sign_early minus (Truth a) = λ s. refl
sign_early negate (Number a) = λ s. refl
sign_early negate (Truth a) = tt

did_gives : (g : Worked) (vs : List Value) (p : Place) (m : Machine) → Early g → length vs < length m.values → Did m (gives g vs p m)
did_gives (Ok v) vs p m e l = did_on (m.at + 1) (v ∷ vs) m (omega arith)
did_gives (Err f) vs p m e l = fell (e m.steps)

did_one : (F : Value → Worked) (vs : List Value) (p : Place) (m : Machine) → ((a : Value) → Early (F a)) → length vs ≤ length m.values → Did m (on_one F vs p m)
did_one F [] p m e l = hung
did_one F (v ∷ vs) p m e l = did_gives (F v) vs p m (e v) (omega arith)

did_two : (F : Value → Value → Worked) (vs : List Value) (p : Place) (m : Machine) → ((a b : Value) → Early (F a b)) → length vs ≤ length m.values → Did m (on_two F vs p m)
did_two F [] p m e l = hung
did_two F (b ∷ []) p m e l = hung
did_two F (b ∷ (a ∷ vs)) p m e l = did_gives (F a b) vs p m (e a b) (omega arith)

did_branched : (d : ℕ) (vs : List Value) (p : Place) (m : Machine) → length vs ≤ length m.values → Did m (branched d vs p m)
did_branched d [] p m l = hung
did_branched d (Number z ∷ vs) p m l = fell refl
did_branched d (Truth true ∷ vs) p m l = did_on _ vs m (omega arith)
did_branched d (Truth false ∷ vs) p m l = did_on _ vs m (omega arith)

did_refused : (e : Refusal) (p : Place) (m : Machine) → Did m (refused_by (fault_of e) p m)
did_refused TooManyFrames p m = fell refl
did_refused TooManySlots p m = fell refl
did_refused ShortMemory p m = hung
did_refused BadSheet p m = hung
did_refused TextTooLong p m = hung
did_refused BadByte p m = hung
did_refused NameTooLong p m = hung
did_refused NumberTooLarge p m = hung
did_refused Unexpected p m = hung
did_refused NestTooDeep p m = hung
did_refused TooManyNodes p m = hung
did_refused NotVisible p m = hung
did_refused NameTwice p m = hung
did_refused WrongSort p m = hung
did_refused WrongCount p m = hung
did_refused ScopesTooDeep p m = hung
did_refused TooManyNames p m = hung
did_refused RunOpen p m = hung
did_refused NoRule p m = hung
did_refused NoRun p m = hung
did_refused BadEntry p m = hung
did_refused ChainTooDeep p m = hung
did_refused NoSuchSlot p m = hung

did_answered : (r : Result (Unit {0}) Refusal) (n : Next) (p : Place) (m : Machine) → Did m n → Did m (answered r n p m)
did_answered (Ok u) n p m d = d
did_answered (Err e) n p m d = did_refused e p m

did_built : (i : ℕ) (vs : List Value) (b : Built) (p : Place) (m : Machine) → length vs ≤ length m.values → (Fit m.frames → Fit b.after) → Did m (built i vs b p m)
did_built i vs b p m l h = did_answered b.answer _ p m (did refl (λ w. within i vs m.returns b.after m.steps w.steps (let x = w.values in omega arith) w.returns (h (w.frames, w.slots, w.chains))))

did_filling : (o : ℕ) (vs : List Value) (p : Place) (m : Machine) → length vs ≤ length m.values → Did m (filling o vs p m)
did_filling o [] p m l = hung
did_filling o (v ∷ vs) p m l = did_built _ vs (written m.frames 0 o (slot_of v)) p m (omega arith) (written_fit m.frames 0 o (slot_of v))

did_stored : (r : Result Slot Refusal) (v : Value) (n : Next) (p : Place) (m : Machine) → Did m n → Did m (stored_in r v n p m)
did_stored (Err e) v n p m d = hung
did_stored (Ok s) v n p m d = by (value_in s)
  where
    alikes : (b : Bool) → Did m (cond b n (failed fault.Kind p m))
    alikes true = d
    alikes false = fell refl

    by : (o : Option Value) → Did m (stored_over o v n p m)
    by None = hung
    by (Some u) = alikes (alike u v)

did_storing : (h o : ℕ) (vs : List Value) (p : Place) (m : Machine) → length vs ≤ length m.values → Did m (storing h o vs p m)
did_storing h o [] p m l = hung
did_storing h o (v ∷ vs) p m l = did_stored (got m.frames h o) v _ p m (did_built _ vs (written m.frames h o (slot_of v)) p m (omega arith) (written_fit m.frames h o (slot_of v)))

abbrev Moved : ℕ → Option (List Value × Frames) → Type 0
Moved k None = Unit {0}
Moved k (Some a) = (length a.0 ≤ k) × Fit a.1

moved_fit : (n k : ℕ) (vs : List Value) (fs : Frames) → length vs ≤ k → Fit fs → Moved k (moved n vs fs)
moved_fit zero k vs fs l h = (l, h)
moved_fit (suc n) k [] fs l h = tt
moved_fit (suc n) k (v ∷ vs) fs l h = moved_fit n k vs (written fs 0 n (slot_of v)).after (omega arith) (written_fit fs 0 n (slot_of v) h)

did_called_at : (k : ℕ) (a : Option (List Value × Frames)) (m : Machine) → (Within m → Moved most_values a) → Did m (called_at k a m)
did_called_at k None m h = hung
did_called_at k (Some a) m h = by (ltb (length m.returns) most_returns) refl
  where
    by : (b : Bool) → ltb (length m.returns) most_returns ≡ b → Did m (cond b (go (record { at = k; values = a.0; returns = (m.at + 1) ∷ m.returns; frames = a.1; steps = m.steps })) stuck)
    by true e = did refl (λ w. within _ _ _ _ _ w.steps (h w).0 (ltb→lt _ _ (subst T (sym e) tt)) (h w).1)
    by false e = hung

did_called : (r : Result Slot Refusal) (h n : ℕ) (p : Place) (m : Machine) → Did m (called r h n p m)
did_called (Err e) h n p m = hung
did_called (Ok slot.Unset) h n p m = hung
did_called (Ok (slot.Number z)) h n p m = hung
did_called (Ok (slot.Truth b)) h n p m = hung
did_called (Ok (slot.Position k)) h n p m = did_answered (entered m.frames h n).answer _ p m (did_called_at k (moved n m.values (entered m.frames h n).after) m (λ w. moved_fit n most_values m.values (entered m.frames h n).after w.values (entered_fit m.frames h n (w.frames, w.slots, w.chains))))

did_returned : (rs : List ℕ) (p : Place) (m : Machine) → length rs ≤ length m.returns → Did m (returned rs p m)
did_returned [] p m l = hung
did_returned (k ∷ rs) p m l = did_answered (left m.frames).answer _ p m (did refl (λ w. within _ _ _ _ _ w.steps w.values (let x = w.returns in omega arith) (left_fit m.frames (w.frames, w.slots, w.chains))))

did_act : (c : Instruction) (p : Place) (m : Machine) → Did m (act c p m)
did_act (Push v) p m = did_pushed v p m
did_act (Load h o) p m = did_loaded (got m.frames h o) p m
did_act Minus p m = did_one (with_sign minus) m.values p m (sign_early minus) (omega arith)
did_act Not p m = did_one (with_sign negate) m.values p m (sign_early negate) (omega arith)
did_act Add p m = did_two (worked add) m.values p m (worked_early add) (omega arith)
did_act Sub p m = did_two (worked sub) m.values p m (worked_early sub) (omega arith)
did_act Mul p m = did_two (worked mul) m.values p m (worked_early mul) (omega arith)
did_act Equal p m = did_two (worked equal) m.values p m (worked_early equal) (omega arith)
did_act Less p m = did_two (worked less) m.values p m (worked_early less) (omega arith)
did_act And p m = did_two conjoined m.values p m conjoined_early (omega arith)
did_act Or p m = did_two disjoined m.values p m disjoined_early (omega arith)
did_act (Pick d) p m = did_branched d m.values p m (omega arith)
did_act (Fork d) p m = did_branched d m.values p m (omega arith)
did_act (Leave d) p m = did_branched d m.values p m (omega arith)
did_act (Skip d) p m = did_on _ m.values m (omega arith)
did_act (Again d) p m = did_on _ m.values m (omega arith)
did_act (Open n) p m = did_built _ m.values (opened m.frames n) p m (omega arith) (grown_fit m.frames m.frames n whole)
did_act Let p m = did_built _ m.values (opened m.frames 1) p m (omega arith) (grown_fit m.frames m.frames 1 whole)
did_act Shut p m = did_built _ m.values (left m.frames) p m (omega arith) (left_fit m.frames)
did_act (Fill o b) p m = did_filling o m.values p m (omega arith)
did_act (Fun o d n) p m = did_built _ m.values (written m.frames 0 o (slot.Position (m.at + 1))) p m (omega arith) (written_fit m.frames 0 o _)
did_act (Proc o d n) p m = did_built _ m.values (written m.frames 0 o (slot.Position (m.at + 1))) p m (omega arith) (written_fit m.frames 0 o _)
did_act (Call h o n) p m = did_called (got m.frames h o) h n p m
did_act (Do h o n) p m = did_called (got m.frames h o) h n p m
did_act Back p m = did_returned m.returns p m (omega arith)
did_act (Store h o) p m = did_storing h o m.values p m (omega arith)

-- a step counts one; a fault shows at the step after those done before it
abbrev pub Counts : Machine → Next → Type 0
Counts m (go n) = (n.steps ≡ m.steps + 1) × (Within m → Within n) × (n.steps ≤ most_steps)
Counts m (stop f p t) = (fault_at f t ≡ m.steps + 1) × (m.steps ≤ most_steps → t ≤ most_steps)
Counts m ended = Unit {0}
Counts m stuck = Unit {0}

did_counts : (m : Machine) {n : Next} → m.steps < most_steps → Did (counted m) n → Counts m n
did_counts m l (did e h) = (e, λ w. h (record { values = w.values; returns = w.returns; frames = w.frames; slots = w.slots; chains = w.chains; steps = omega arith }), omega arith)
did_counts m l (fell e) = (e, λ w. omega arith)
did_counts m l hung = tt

pub step_counts : (code : Code) (m : Machine) → Counts m (step code m)
unfolding step
step_counts code m = by (slice_get code m.at)
  where
    limited : (b : Bool) (c : Instruction) (p : Place) → ltb m.steps most_steps ≡ b → Counts m (cond b (act c p (counted m)) (failed fault.Steps p m))
    limited true c p e = did_counts m (ltb→lt m.steps most_steps (subst T (sym e) tt)) (did_act c p (counted m))
    limited false c p e = (refl, λ l. l)

    by : (o : Option (Instruction × Place)) → Counts m (fetched o m)
    by None = tt
    by (Some c) = limited (ltb m.steps most_steps) c.0 c.1 refl
