-- An instruction that the frame memory refuses by anything but 23 and 24 is stuck, and no run is.
use Rattle.std.proofs.Common.{◌≡◌, ℕ, ◌+◌, Bool, true, false, cond, ltb, List, [], ◌∷◌, length, Some, None, Ok, Err, Option, Result, sym, refl, ap, ◌∙◌, subst, inl, inr}
use Rattle.std.specs.List.{slice_get}
use Rattle.lang.specs.declared.value.Value.{Value}
use Rattle.lang.specs.declared.value.Slot.{Slot}
use Rattle.lang.specs.declared.value.Slot.TheVariants as slot
use Rattle.lang.specs.Values.{slot_of}
use Rattle.lang.specs.declared.fault.Fault.TheVariants as fault
use Rattle.lang.specs.declared.refusal.Refusal.{Refusal}
use Rattle.lang.specs.declared.refusal.Refusal.TheVariants.{ShortMemory, BadSheet, TextTooLong, BadByte, NameTooLong, NumberTooLarge, Unexpected, NestTooDeep, TooManyNodes, NotVisible, NameTwice, WrongSort, WrongCount, ScopesTooDeep, TooManyNames, RunOpen, NoRule, NoRun, BadEntry, TooManyFrames, TooManySlots, ChainTooDeep, NoSuchSlot}
use Rattle.lang.specs.declared.instruction.Instruction.{Instruction}
use Rattle.lang.specs.declared.instruction.Instruction.TheVariants.{Push, Load, Minus, Not, Add, Sub, Mul, Equal, Less, And, Or, Pick, Fork, Skip, Leave, Again, Open, Fill, Shut, Fun, Proc, Call, Do, Back, Store, Let}
use Rattle.frames.specs.Frames.{Frames, none, ◌▷◌, count, walk, asked, last_slot, got, refused, done, opened, entered, left, filled_in, written_from, written}
use Rattle.meaning.specs.Tree.{Place}
use Rattle.meaning.specs.Limits.{most_steps}
use Rattle.meaning.specs.Translation.{Code, translated}
use Rattle.meaning.specs.Machine.{Machine, Next, stuck, failed, loaded, fault_of, refused_by, answered, filling, stored_in, storing, called, returned, act, counted, fetched, step, after, goes}
use Rattle.meaning.specs.Runs.{start}
use Rattle.meaning.specs.Agreement.{looking, asks, Serves, ServesAll, FramesServe}
use Rattle.meaning.proofs.Basics.{ltb_true, nth_below}
use Rattle.meaning.proofs.Whole.{runs_cut_lem, never_stuck_lem}

-- a refusal that is no fault is stuck
refused_serves : (e : Refusal) (p : Place) (m : Machine) → (refused_by (fault_of e) p m ≡ stuck → ⊥) → Serves (Err e)
refused_serves TooManyFrames p m h = inl refl
refused_serves TooManySlots p m h = inr refl
refused_serves ShortMemory p m h = absurd (h refl)
refused_serves BadSheet p m h = absurd (h refl)
refused_serves TextTooLong p m h = absurd (h refl)
refused_serves BadByte p m h = absurd (h refl)
refused_serves NameTooLong p m h = absurd (h refl)
refused_serves NumberTooLarge p m h = absurd (h refl)
refused_serves Unexpected p m h = absurd (h refl)
refused_serves NestTooDeep p m h = absurd (h refl)
refused_serves TooManyNodes p m h = absurd (h refl)
refused_serves NotVisible p m h = absurd (h refl)
refused_serves NameTwice p m h = absurd (h refl)
refused_serves WrongSort p m h = absurd (h refl)
refused_serves WrongCount p m h = absurd (h refl)
refused_serves ScopesTooDeep p m h = absurd (h refl)
refused_serves TooManyNames p m h = absurd (h refl)
refused_serves RunOpen p m h = absurd (h refl)
refused_serves NoRule p m h = absurd (h refl)
refused_serves NoRun p m h = absurd (h refl)
refused_serves BadEntry p m h = absurd (h refl)
refused_serves ChainTooDeep p m h = absurd (h refl)
refused_serves NoSuchSlot p m h = absurd (h refl)

answer_serves : (r : Result (Unit {0}) Refusal) (n : Next) (p : Place) (m : Machine) → (answered r n p m ≡ stuck → ⊥) → Serves r
answer_serves (Ok u) n p m h = tt
answer_serves (Err e) n p m h = refused_serves e p m h

-- what a write answers does not depend on what is written
written-answer : (fs : Frames) (h o : ℕ) (v u : Slot) → (written fs h o v).answer ≡ (written fs h o u).answer
written-answer fs h o v u = by (walk h fs)
  where
    in_frame : (b : Bool) (k : ℕ) → (cond b (done (filled_in k o v fs)) (refused NoSuchSlot fs)).answer ≡ (cond b (done (filled_in k o u fs)) (refused NoSuchSlot fs)).answer
    in_frame true k = refl
    in_frame false k = refl

    by : (gs : Frames) → (written_from fs gs o v).answer ≡ (written_from fs gs o u).answer
    by none = refl
    by (gs ▷ g) = in_frame (ltb o (length g.slots)) (count gs)

write_serves : (fs : Frames) (h o : ℕ) (v : Slot) (n : Next) (p : Place) (m : Machine) → (answered (written fs h o v).answer n p m ≡ stuck → ⊥) → Serves (written fs h o slot.Unset).answer
write_serves fs h o v n p m x = subst Serves (written-answer fs h o v slot.Unset) (answer_serves (written fs h o v).answer n p m x)

-- a slot that can be read can be written
abbrev IsErr : Result Slot Refusal → Type 0
IsErr (Ok s) = ⊥
IsErr (Err e) = Unit {0}

read_write : (fs : Frames) (h o : ℕ) (s v : Slot) → got fs h o ≡ Ok s → Serves (written fs h o v).answer
read_write fs h o s v e = by (walk h fs) e
  where
    in_slots : (r : Option Slot) → asked r ≡ Ok s → (t : Slot) × (r ≡ Some t)
    in_slots None e = absurd (subst IsErr e tt)
    in_slots (Some t) e = (t, refl)

    by : (gs : Frames) → last_slot gs o ≡ Ok s → Serves (written_from fs gs o v).answer
    by none e = absurd (subst IsErr e tt)
    by (gs ▷ g) e = subst (λ (b : Bool). Serves (cond b (done (filled_in (count gs) o v fs)) (refused NoSuchSlot fs)).answer) (sym (ltb_true o (length g.slots) (nth_below g.slots o (in_slots (slice_get g.slots o) e).1))) tt

load_serves : (r : Result Slot Refusal) (p : Place) (m : Machine) → (loaded r p m ≡ stuck → ⊥) → Serves (looking r)
load_serves (Ok s) p m h = tt
load_serves (Err e) p m h = absurd (h refl)

fill_serves : (o : ℕ) (vs : List Value) (p : Place) (m : Machine) → (filling o vs p m ≡ stuck → ⊥) → Serves (written m.frames 0 o slot.Unset).answer
fill_serves o [] p m h = absurd (h refl)
fill_serves o (v ∷ vs) p m h = write_serves m.frames 0 o (slot_of v) _ p m h

store_serves : (h o : ℕ) (vs : List Value) (p : Place) (m : Machine) → (storing h o vs p m ≡ stuck → ⊥) → Serves (looking (got m.frames h o)) × Serves (written m.frames h o slot.Unset).answer
store_serves h o [] p m x = absurd (x refl)
store_serves h o (v ∷ vs) p m x = by _ (got m.frames h o) refl x
  where
    by : (n : Next) (r : Result Slot Refusal) → got m.frames h o ≡ r → (stored_in r v n p m ≡ stuck → ⊥) → Serves (looking r) × Serves (written m.frames h o slot.Unset).answer
    by n (Ok s) e x = (tt, read_write m.frames h o s slot.Unset e)
    by n (Err f) e x = absurd (x refl)

call_serves : (r : Result Slot Refusal) (h n : ℕ) (p : Place) (m : Machine) → (called r h n p m ≡ stuck → ⊥) → Serves (looking r) × Serves (entered m.frames h n).answer
call_serves (Err e) h n p m x = absurd (x refl)
call_serves (Ok slot.Unset) h n p m x = absurd (x refl)
call_serves (Ok (slot.Number z)) h n p m x = absurd (x refl)
call_serves (Ok (slot.Truth b)) h n p m x = absurd (x refl)
call_serves (Ok (slot.Position k)) h n p m x = (tt, answer_serves (entered m.frames h n).answer _ p m x)

back_serves : (rs : List ℕ) (p : Place) (m : Machine) → (returned rs p m ≡ stuck → ⊥) → Serves (left m.frames).answer
back_serves [] p m h = absurd (h refl)
back_serves (k ∷ rs) p m h = answer_serves (left m.frames).answer _ p m h

act_serves : (i : Instruction) (p : Place) (m : Machine) → (act i p m ≡ stuck → ⊥) → ServesAll (asks i m.frames)
act_serves (Load h o) p m x = (load_serves (got m.frames h o) p m x, tt)
act_serves (Store h o) p m x = let y = store_serves h o m.values p m x in (y.0, (y.1, tt))
act_serves (Call h o n) p m x = let y = call_serves (got m.frames h o) h n p m x in (y.0, (y.1, tt))
act_serves (Do h o n) p m x = let y = call_serves (got m.frames h o) h n p m x in (y.0, (y.1, tt))
act_serves (Open n) p m x = (answer_serves (opened m.frames n).answer _ p m x, tt)
act_serves Let p m x = (answer_serves (opened m.frames 1).answer _ p m x, tt)
act_serves (Fill o b) p m x = (fill_serves o m.values p m x, tt)
act_serves (Fun o d n) p m x = (write_serves m.frames 0 o (slot.Position (m.at + 1)) _ p m x, tt)
act_serves (Proc o d n) p m x = (write_serves m.frames 0 o (slot.Position (m.at + 1)) _ p m x, tt)
act_serves Shut p m x = (answer_serves (left m.frames).answer _ p m x, tt)
act_serves Back p m x = (back_serves m.returns p m x, tt)
act_serves (Push v) p m x = tt
act_serves (Pick d) p m x = tt
act_serves (Fork d) p m x = tt
act_serves (Skip d) p m x = tt
act_serves (Leave d) p m x = tt
act_serves (Again d) p m x = tt
act_serves Minus p m x = tt
act_serves Not p m x = tt
act_serves Add p m x = tt
act_serves Sub p m x = tt
act_serves Mul p m x = tt
act_serves Equal p m x = tt
act_serves Less p m x = tt
act_serves And p m x = tt
act_serves Or p m x = tt

pub frames_serve_lem : FramesServe
unfolding step goes
frames_serve_lem es c g k m i p e l at = act_serves i p (counted m) moves
  where
    code : Code
    code = translated es c

    acts : step (translated es c) m ≡ act i p (counted m)
    acts = ap (λ (o : Option (Instruction × Place)). fetched o m) at ∙ ap (λ (b : Bool). cond b (act i p (counted m)) (failed fault.Steps p m)) (ltb_true m.steps most_steps l)

    moves : act i p (counted m) ≡ stuck → ⊥
    moves q = never_stuck_lem es c g (k + 1) (runs_cut_lem (translated es c) k 1 (start es) ∙ ap (λ (n : Next). after n (goes (translated es c) 1)) e ∙ ap (λ (n : Next). after n (goes (translated es c) 0)) (acts ∙ q))
