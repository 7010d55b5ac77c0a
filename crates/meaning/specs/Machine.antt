-- The machine on paper: what each instruction does.
use Rattle.std.specs.Prelude.{ℕ, zero, suc, ◌+◌, ◌-◌, true, false, cond, List, [], ◌∷◌, length, Some, None, Ok, Err, Option, Result, nat_le, nat_lt}
use Rattle.std.specs.List.{slice_get}
use Rattle.lang.specs.declared.value.Value.{Value}
use Rattle.lang.specs.declared.value.Value.TheVariants.{Number, Truth}
use Rattle.lang.specs.declared.value.Slot.{Slot}
use Rattle.lang.specs.declared.value.Slot.TheVariants as slot
use Rattle.lang.specs.Values.{slot_of, value_in, alike}
use Rattle.lang.specs.declared.fault.Fault.{Fault}
use Rattle.lang.specs.declared.fault.Fault.TheVariants as fault
use Rattle.lang.specs.declared.refusal.Refusal.{Refusal}
use Rattle.lang.specs.declared.refusal.Refusal.TheVariants.{ShortMemory, BadSheet, TextTooLong, BadByte, NameTooLong, NumberTooLarge, Unexpected, NestTooDeep, TooManyNodes, NotVisible, NameTwice, WrongSort, WrongCount, ScopesTooDeep, TooManyNames, RunOpen, NoRule, NoRun, BadEntry, TooManyFrames, TooManySlots, ChainTooDeep, NoSuchSlot}
use Rattle.lang.specs.declared.instruction.Instruction.{Instruction}
use Rattle.lang.specs.declared.instruction.Instruction.TheVariants.{Push, Load, Minus, Not, Add, Sub, Mul, Equal, Less, And, Or, Pick, Fork, Skip, Leave, Again, Open, Fill, Shut, Fun, Proc, Call, Do, Back, Store, Let}
use Rattle.frames.specs.Frames.{Frames, Built, got, opened, entered, left, written}
use Rattle.meaning.specs.Tree.{Place, minus, negate, add, sub, mul, equal, less}
use Rattle.meaning.specs.Limits.{most_steps, most_values, most_returns}
use Rattle.meaning.specs.Operators.{Worked, worked, conjoined, disjoined, with_sign}
use Rattle.meaning.specs.Translation.{Code}

-- where it is in the code, the waiting values (the last on top), the return positions (the last first), the frames, the steps done
pub record Machine : Type 0 where
  pub at : ℕ
  pub values : List Value
  pub returns : List ℕ
  pub frames : Frames
  pub steps : ℕ

-- What a step leads to: another state; a fault with its place and the steps done; the code's end; or, which no rule's code does, nothing that an
-- instruction says: a value or return position that is missing, a slot that holds something else, a refusal 27 or 28, no room for a return position.
pub data Next : Type 0 where
  go : Machine → Next
  stop : Fault → Place → ℕ → Next
  ended stuck : Next

abbrev pub failed : Fault → Place → Machine → Next
failed f p m = stop f p m.steps

-- goes on at i with the values vs, and with the frames fs
abbrev pub on : ℕ → List Value → Machine → Next
on i vs m = go (record { at = i; values = vs; returns = m.returns; frames = m.frames; steps = m.steps })

abbrev pub on_frames : ℕ → List Value → Frames → Machine → Next
on_frames i vs fs m = go (record { at = i; values = vs; returns = m.returns; frames = fs; steps = m.steps })

-- PUSH and LOAD: a value more, fault 25 where 512 wait
abbrev pub pushed : Value → Place → Machine → Next
pushed v p m = cond (nat_le most_values (length m.values)) (failed fault.Values p m) (on (m.at + 1) (v ∷ m.values) m)

abbrev pub loaded_value : Option Value → Place → Machine → Next
loaded_value None p m = stuck
loaded_value (Some v) p m = pushed v p m

abbrev pub loaded : Result Slot Refusal → Place → Machine → Next
loaded (Err e) p m = stuck
loaded (Ok s) p m = loaded_value (value_in s) p m

-- operators: a result in the place of the operands, or its fault
abbrev pub gives : Worked → List Value → Place → Machine → Next
gives (Ok v) vs p m = on (m.at + 1) (v ∷ vs) m
gives (Err f) vs p m = failed f p m

abbrev pub on_one : (Value → Worked) → List Value → Place → Machine → Next
on_one f [] p m = stuck
on_one f (v ∷ vs) p m = gives (f v) vs p m

abbrev pub on_two : (Value → Value → Worked) → List Value → Place → Machine → Next
on_two f [] p m = stuck
on_two f (b ∷ []) p m = stuck
on_two f (b ∷ (a ∷ vs)) p m = gives (f a b) vs p m

-- PICK, FORK and LEAVE: go on by d if the truth on top is false
abbrev pub branched : ℕ → List Value → Place → Machine → Next
branched d [] p m = stuck
branched d (Number z ∷ vs) p m = failed fault.Kind p m
branched d (Truth true ∷ vs) p m = on (m.at + 1) vs m
branched d (Truth false ∷ vs) p m = on (m.at + d) vs m

-- the fault that a frame memory's refusal is to a run; no run meets the others
abbrev pub fault_of : Refusal → Option Fault
fault_of TooManyFrames = Some fault.Frames
fault_of TooManySlots = Some fault.Slots
fault_of ShortMemory = None
fault_of BadSheet = None
fault_of TextTooLong = None
fault_of BadByte = None
fault_of NameTooLong = None
fault_of NumberTooLarge = None
fault_of Unexpected = None
fault_of NestTooDeep = None
fault_of TooManyNodes = None
fault_of NotVisible = None
fault_of NameTwice = None
fault_of WrongSort = None
fault_of WrongCount = None
fault_of ScopesTooDeep = None
fault_of TooManyNames = None
fault_of RunOpen = None
fault_of NoRule = None
fault_of NoRun = None
fault_of BadEntry = None
fault_of ChainTooDeep = None
fault_of NoSuchSlot = None

abbrev pub refused_by : Option Fault → Place → Machine → Next
refused_by None p m = stuck
refused_by (Some f) p m = failed f p m

-- what follows if the frame memory does what it is asked
abbrev pub answered : Result (Unit {0}) Refusal → Next → Place → Machine → Next
answered (Ok u) n p m = n
answered (Err e) n p m = refused_by (fault_of e) p m

abbrev pub built : ℕ → List Value → Built → Place → Machine → Next
built i vs b p m = answered b.answer (on_frames i vs b.after m) p m

-- FILL: the value on top into slot o of the last frame
abbrev pub filling : ℕ → List Value → Place → Machine → Next
filling o [] p m = stuck
filling o (v ∷ vs) p m = built (m.at + 1) vs (written m.frames 0 o (slot_of v)) p m

-- STORE: the value on top into a slot that holds a value of its kind
abbrev pub stored_over : Option Value → Value → Next → Place → Machine → Next
stored_over None v n p m = stuck
stored_over (Some u) v n p m = cond (alike u v) n (failed fault.Kind p m)

abbrev pub stored_in : Result Slot Refusal → Value → Next → Place → Machine → Next
stored_in (Err e) v n p m = stuck
stored_in (Ok s) v n p m = stored_over (value_in s) v n p m

abbrev pub storing : ℕ → ℕ → List Value → Place → Machine → Next
storing h o [] p m = stuck
storing h o (v ∷ vs) p m = stored_in (got m.frames h o) v (built (m.at + 1) vs (written m.frames h o (slot_of v)) p m) p m

-- CALL and DO: the n values on top move into the new frame, the last first
abbrev pub moved : ℕ → List Value → Frames → Option (List Value × Frames)
moved zero vs fs = Some (vs, fs)
moved (suc n) [] fs = None
moved (suc n) (v ∷ vs) fs = moved n vs (written fs 0 n (slot_of v)).after

abbrev pub called_at : ℕ → Option (List Value × Frames) → Machine → Next
called_at k None m = stuck
called_at k (Some a) m = cond (nat_lt (length m.returns) most_returns) (go (record { at = k; values = a.0; returns = (m.at + 1) ∷ m.returns; frames = a.1; steps = m.steps })) stuck

abbrev pub called : Result Slot Refusal → ℕ → ℕ → Place → Machine → Next
called (Err e) h n p m = stuck
called (Ok slot.Unset) h n p m = stuck
called (Ok (slot.Number z)) h n p m = stuck
called (Ok (slot.Truth b)) h n p m = stuck
called (Ok (slot.Position k)) h n p m = answered (entered m.frames h n).answer (called_at k (moved n m.values (entered m.frames h n).after) m) p m

-- BACK: leaves the frame and returns
abbrev pub returned : List ℕ → Place → Machine → Next
returned [] p m = stuck
returned (k ∷ rs) p m = answered (left m.frames).answer (go (record { at = k; values = m.values; returns = rs; frames = (left m.frames).after; steps = m.steps })) p m

-- what an instruction at place p does
abbrev pub act : Instruction → Place → Machine → Next
act (Push v) p m = pushed v p m
act (Load h o) p m = loaded (got m.frames h o) p m
act Minus p m = on_one (with_sign minus) m.values p m
act Not p m = on_one (with_sign negate) m.values p m
act Add p m = on_two (worked add) m.values p m
act Sub p m = on_two (worked sub) m.values p m
act Mul p m = on_two (worked mul) m.values p m
act Equal p m = on_two (worked equal) m.values p m
act Less p m = on_two (worked less) m.values p m
act And p m = on_two conjoined m.values p m
act Or p m = on_two disjoined m.values p m
act (Pick d) p m = branched d m.values p m
act (Fork d) p m = branched d m.values p m
act (Leave d) p m = branched d m.values p m
act (Skip d) p m = on (m.at + d) m.values m
act (Again d) p m = on (m.at - d) m.values m
act (Open n) p m = built (m.at + 1) m.values (opened m.frames n) p m
act Let p m = built (m.at + 1) m.values (opened m.frames 1) p m
act Shut p m = built (m.at + 1) m.values (left m.frames) p m
act (Fill o b) p m = filling o m.values p m
act (Fun o d n) p m = built (m.at + d) m.values (written m.frames 0 o (slot.Position (m.at + 1))) p m
act (Proc o d n) p m = built (m.at + d) m.values (written m.frames 0 o (slot.Position (m.at + 1))) p m
act (Call h o n) p m = called (got m.frames h o) h n p m
act (Do h o n) p m = called (got m.frames h o) h n p m
act Back p m = returned m.returns p m
act (Store h o) p m = storing h o m.values p m

abbrev pub counted : Machine → Machine
counted m = record { at = m.at; values = m.values; returns = m.returns; frames = m.frames; steps = m.steps + 1 }

-- A step is counted, then checked; with the limit reached it is fault 26, uncounted.
abbrev pub fetched : Option (Instruction × Place) → Machine → Next
fetched None m = ended
fetched (Some c) m = cond (nat_lt m.steps most_steps) (act c.0 c.1 (counted m)) (failed fault.Steps c.1 m)

unfoldable pub step : Code → Machine → Next
step code m = fetched (slice_get code m.at) m

-- k steps, or fewer where the run ends before
abbrev pub after : Next → (Machine → Next) → Next
after (go m) k = k m
after (stop f p s) k = stop f p s
after ended k = ended
after stuck k = stuck

unfoldable pub goes : Code → ℕ → Machine → Next
goes code zero m = go m
goes code (suc k) m = after (step code m) (goes code k)
