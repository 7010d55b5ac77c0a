-- A whole run over a sheet, against the rule's meaning.
use Rattle.std.proofs.Common.{◌≡◌, ℕ, zero, suc, ◌+◌, ◌-◌, ◌<◌, ◌≤◌, List, [], ◌∷◌, map, length, Some, None, Ok, Option, Result, sym, refl, ap, ◌∙◌, subst, ap₂, add-one, arith}
use Rattle.std.specs.List.{slice_get}
use Rattle.std.proofs.lemmas.Option.{slice_get_past}
use Rattle.std.proofs.lemmas.Simd.{map-map}
use Rattle.lang.specs.declared.refusal.Refusal.{Refusal}
use Rattle.lang.specs.declared.value.Value.{Value}
use Rattle.lang.specs.declared.value.Value.TheVariants as value
use Rattle.lang.specs.Values.{slot_of, value_in}
use Rattle.lang.specs.declared.fault.Fault.{Fault}
use Rattle.lang.specs.declared.fault.Fault.TheVariants.{Kind, Range, Frames as FramesFault, Slots, Values, Steps}
use Rattle.lang.specs.declared.sheet.Mark.{Mark}
use Rattle.lang.specs.declared.sheet.Mark.TheVariants.{Given, Kept}
use Rattle.lang.specs.declared.sheet.Entry.{Entry}
use Rattle.lang.specs.Sheets.{valued, with_value}
use Rattle.frames.specs.Frames.{none, ◌▷◌, asked}
use Rattle.meaning.specs.Tree.{Command}
use Rattle.meaning.specs.Limits.{most_steps}
use Rattle.meaning.specs.Violations.{violations}
use Rattle.meaning.specs.Translation.{Code, translated}
use Rattle.meaning.specs.Machine.{Machine, go, ended, after, goes}
use Rattle.meaning.specs.Meaning.{Store, Answer, ok, fault, value_at}
use Rattle.meaning.specs.Runs.{Outcome as End, done, faulty, Ending, ending, ran, meaning, start, sheet_frames, entries_after, entry}
use Rattle.meaning.specs.Agreement.{fault_at, end_at, answer, finished, Leaves}
use Rattle.meaning.proofs.Whole.{code_means_lem, runs_end_lem}
use Rattle.machine.specs.declared.outcome.Outcome.{Outcome}
use Rattle.machine.specs.declared.outcome.Outcome.TheVariants as outcome
use Rattle.machine.specs.declared.outcome.Ran.{Ran}
use Rattle.machine.specs.Shows.{value_got, idle, start_frames}
use Rattle.machine.specs.Runs.{Ends}
use Rattle.machine.specs.Settles.{Kin, Settled}
use Rattle.machine.specs.Whole.{outcome_of, ran_of, entries_left}
use Rattle.machine.proofs.Steps.{step_past, goes-both, goes_then}

-- the entries' values, and the first frame that holds them
abbrev pub values_of : List Entry → List Value
values_of es = map (λ e. e.value) es

-- a run over the entries begins from their values
pub begun : (es : List Entry) (vs : List Value) → vs ≡ values_of es → idle (start_frames vs) ≡ start es
begun es vs e = ap (λ ws. idle (start_frames ws)) e ∙ ap (λ ss. idle (none ▷ record { slots = ss; parent = None })) (map-map slot_of (λ e. e.value) es)

-- the entries of which the first i are those of fs
abbrev pub mixed : ℕ → List Entry → List Entry → List Entry
mixed zero fs es = es
mixed (suc i) fs [] = []
mixed (suc i) [] (e ∷ es) = e ∷ es
mixed (suc i) (f ∷ fs) (e ∷ es) = f ∷ mixed i fs es

value_back : (v : Value) → value_in (slot_of v) ≡ Some v
value_back (value.Number z) = refl
value_back (value.Truth b) = refl

-- what the frame of fs has in slot i
abbrev pub value_at_slot : List Entry → ℕ → Option Value
value_at_slot fs i = value_got (asked (slice_get (map (λ e. slot_of e.value) fs) i))

pub mixed_more : (i : ℕ) (es fs : List Entry) (v : Value) → Kin es fs → Some v ≡ value_at_slot fs i → valued (mixed i fs es) i v ≡ mixed (i + 1) fs es
mixed_more i es fs v k h = more i es fs k h ∙ ap (λ j. mixed j fs es) (sym (add-one i))
  where
    more : (i : ℕ) (es fs : List Entry) → Kin es fs → Some v ≡ value_at_slot fs i → valued (mixed i fs es) i v ≡ mixed (suc i) fs es
    more zero [] [] k h = refl
    more (suc i) [] [] k h = refl
    more i [] (f ∷ fs) k h = absurd k
    more i (e ∷ es) [] k h = absurd k
    more zero (e ∷ es) (f ∷ fs) k h =
        let b = value_back f.value in
        let q : v ≡ f.value = cc in
        ap (λ w. with_value e w ∷ es) q ∙ ap (λ g. g ∷ es) k.0
    more (suc i) (e ∷ es) (f ∷ fs) k h = ap (λ r. f ∷ r) (more i es fs k.1 h)

pub has_value : (i : ℕ) (es fs : List Entry) → Kin es fs → i < length es → None ≡ value_at_slot fs i → ⊥
has_value i [] fs k l h = omega arith
has_value i (e ∷ es) [] k l h = k
has_value zero (e ∷ es) (f ∷ fs) k l h = let b = value_back f.value in let z : ◌≡◌ {A = ℕ} 0 1 = cc in omega arith
has_value (suc i) (e ∷ es) (f ∷ fs) k l h = has_value i es fs k.1 (omega arith) h

pub mixed_all : (n : ℕ) (es fs : List Entry) → Kin es fs → length es ≤ n → mixed n fs es ≡ fs
mixed_all zero [] [] k h = refl
mixed_all (suc n) [] [] k h = refl
mixed_all n [] (f ∷ fs) k h = absurd k
mixed_all n (e ∷ es) [] k h = absurd k
mixed_all zero (e ∷ es) (f ∷ fs) k h = absurd (omega arith)
mixed_all (suc n) (e ∷ es) (f ∷ fs) k h = ap (λ r. f ∷ r) (mixed_all n es fs k.1 (omega arith))

-- the meaning changes values only
kin_after : (l : ℕ) (es : List Entry) (st : Store) → Kin es (entries_after l es st)
kin_after l [] st = tt
kin_after l (e ∷ es) st = by e.mark (kin_after l es st) (kin_after (suc l) es st)
  where
    by : (m : Mark) → Kin es (entries_after l es st) → Kin es (entries_after (suc l) es st) → Kin (e ∷ es) (elim m as (λ _. List Entry) [ Given ↦ e ∷ entries_after l es st | Kept ↦ entry e (value_at st l) ∷ entries_after (suc l) es st ])
    by Given h k = (refl, h)
    by Kept h k = (refl, k)

-- what an outcome of the meaning says of the entries and of the machine that is left
abbrev pub Stands : List Entry → End → Machine → Type 0
Stands es (done fs) b = Kin es fs × (b.frames ≡ sheet_frames fs)
Stands es (faulty f p) b = Unit {0}

abbrev Keeps : List Entry → End → Type 0
Keeps es (done fs) = Kin es fs
Keeps es (faulty f p) = Unit {0}

keeps : (es : List Entry) (a : Answer Store) → Keeps es (ending es a).outcome
keeps es (ok st s) = kin_after 0 es st
keeps es (fault f p s) = tt

pub record Agreed (es : List Entry) (e : End) (t : ℕ) (o : Outcome) (s : ℕ) (b : Machine) : Type 0 where
  pub same : o ≡ outcome_of e
  pub steps : s ≡ t
  pub stands : Stands es e b

answer_stays : (code : Code) (o : End) (t k : ℕ) → after (answer o t) (goes code k) ≡ answer o t
answer_stays code (done es) t k = refl
answer_stays code (faulty f p) t k = refl

-- a run that has ended stays so
stays : (code : Code) (o : End) (t m n : ℕ) (a : Machine) → m ≤ n → goes code m a ≡ answer o t → goes code n a ≡ answer o t
stays code o t m n a h e =
    let q : n ≡ m + (n - m) = omega arith in
    ap (λ j. goes code j a) q ∙ goes-both code m (n - m) a ∙ ap (λ y. after y (goes code (n - m))) e ∙ answer_stays code o t (n - m)

fault_soon : (f : Fault) (t : ℕ) → fault_at f t ≤ t + 1
fault_soon Kind t = omega arith
fault_soon Range t = omega arith
fault_soon FramesFault t = omega arith
fault_soon Slots t = omega arith
fault_soon Values t = omega arith
fault_soon Steps t = omega arith

-- past the code's end no step more is done
over : (code : Code) (s t : ℕ) (a b : Machine) → goes code s a ≡ go b → length code ≤ b.at → s < t → goes code t a ≡ ended
over code s t a b e p h = goes_then code s t a b ended h e (step_past code b (slice_get_past code b.at p))

agreed : (code : Code) (es : List Entry) (e : End) (t s n : ℕ) (o : Outcome) (b : Machine) → t < n → Keeps es e → goes code (end_at e t) (start es) ≡ answer e t → Leaves code es e t → Ends o s code n (start es) b → Agreed es e t o s b
agreed code es (done fs) t s n outcome.Paused b h k x l r =
    let w = stays code (done fs) t (t + 1) n (start es) (omega arith) x in
    absurd (let z : ◌≡◌ {A = ℕ} 0 1 = cc (w, r.0) in omega arith)
agreed code es (done fs) t s n outcome.Done b h k x l r =
    let apart : s < t → ⊥ = λ q. let w = over code s t (start es) b r.0 r.1 q in let z : ◌≡◌ {A = ℕ} 0 1 = cc (w, l) in omega arith in
    let within : length code ≤ length code = omega arith in
    let beyond : t < s → ⊥ = λ q. let w = over code t s (start es) (finished code fs t) l within q in let z : ◌≡◌ {A = ℕ} 0 1 = cc (w, r.0) in omega arith in
    let q : s ≡ t = omega (arith, apart, beyond) in
    let w = sym (ap (λ j. goes code j (start es)) q ∙ l) ∙ r.0 in
    let g : finished code fs t ≡ b = cc w in
    record { same = refl; steps = q; stands = (k, ap (λ m. m.frames) (sym g)) }
agreed code es (done fs) t s n (outcome.Fault f p) b h k x l r =
    let w = stays code (done fs) t (t + 1) n (start es) (omega arith) x in
    absurd (let z : ◌≡◌ {A = ℕ} 0 1 = cc (w, r.0) in omega arith)
agreed code es (done fs) t s n outcome.Stuck b h k x l r =
    let w = stays code (done fs) t (t + 1) n (start es) (omega arith) x in
    absurd (let z : ◌≡◌ {A = ℕ} 0 1 = cc (w, r) in omega arith)
agreed code es (faulty f p) t s n outcome.Paused b h k x l r =
    let w = stays code (faulty f p) t (fault_at f t) n (start es) (omega (arith, fault_soon f t)) x in
    absurd (let z : ◌≡◌ {A = ℕ} 0 1 = cc (w, r.0) in omega arith)
agreed code es (faulty f p) t s n outcome.Done b h k x l r =
    let w = stays code (faulty f p) t (fault_at f t) (n + 1) (start es) (omega (arith, fault_soon f t)) x in
    let v = over code s (n + 1) (start es) b r.0 r.1 (omega (arith, r.3)) in
    absurd (let z : ◌≡◌ {A = ℕ} 0 1 = cc (w, v) in omega arith)
agreed code es (faulty f p) t s n (outcome.Fault g q) b h k x l r =
    let w = sym (stays code (faulty f p) t (fault_at f t) n (start es) (omega (arith, fault_soon f t)) x) ∙ r.0 in
    let d : f ≡ g = cc w in
    let e : p ≡ q = cc w in
    let c : t ≡ 0 + s = cc w in
    record { same = cc; steps = omega arith; stands = tt }
agreed code es (faulty f p) t s n outcome.Stuck b h k x l r =
    let w = stays code (faulty f p) t (fault_at f t) n (start es) (omega (arith, fault_soon f t)) x in
    absurd (let z : ◌≡◌ {A = ℕ} 0 1 = cc (w, r) in omega arith)

-- a run with a step more than there are in any run ends as the meaning does
pub ends_as : (es : List Entry) (c : Command) (s n : ℕ) (o : Outcome) (b : Machine) → violations es c ≡ [] → most_steps < n → Ends o s (translated es c) n (start es) b → Agreed es (meaning es c).outcome (meaning es c).steps o s b
ends_as es c s n o b v h r =
    let m = code_means_lem es c v in
    let most = runs_end_lem es c v in
    agreed (translated es c) es (meaning es c).outcome (meaning es c).steps s n o b (omega arith) (keeps es (ran es c)) m.at_end m.leaves r

pub same_ran : (es : List Entry) (e : Ending) (r : Ran) (b : Machine) → Agreed es e.outcome e.steps r.outcome r.steps b → ◌≡◌ {A = Result Ran Refusal} (Ok r) (Ok (ran_of e))
same_ran es e r b a = ap₂ (λ (o : Outcome) (s : ℕ). Ok (record { outcome = o; steps = s })) a.same a.steps

pub left_as : (es fs : List Entry) (e : End) (t : ℕ) (o : Outcome) (s : ℕ) (b : Machine) → Agreed es e t o s b → Settled o b.frames es fs → fs ≡ entries_left es e
left_as es fs (done gs) t o s b a k = subst (λ (x : Outcome). Settled x b.frames es fs) a.same k gs a.stands.0 a.stands.1
left_as es fs (faulty f p) t o s b a k = subst (λ (x : Outcome). Settled x b.frames es fs) a.same k
