-- Whole runs of a rule over a sheet.
use Rattle.std.proofs.Common.{◌≡◌, ℕ, zero, suc, ◌+◌, ◌-◌, ◌<◌, ◌≤◌, Bool, true, false, cond, T, eqb, leb, List, [], ◌∷◌, map, length, Some, None, Option, sym, refl, ap, ◌∙◌, subst, ap₂, subst₂, add-zero, suc-add, zero-add, arith, eqb→eq, leb→le}
use lib.Dec.{nleb→lt}
use lib.ListN.{length-map}
use Rattle.std.specs.List.{slice_get}
use Rattle.lang.specs.declared.name.Name.{Name}
use Rattle.lang.specs.declared.value.Value.{Value}
use Rattle.lang.specs.declared.value.Slot.{Slot}
use Rattle.lang.specs.Values.{slot_of}
use Rattle.lang.specs.declared.sheet.Mark.{Mark}
use Rattle.lang.specs.declared.sheet.Mark.TheVariants.{Given, Kept as KeptMark}
use Rattle.lang.specs.declared.sheet.Entry.{Entry}
use Rattle.lang.specs.declared.instruction.Instruction.{Instruction}
use Rattle.frames.specs.Frames.{Frames, none, ◌▷◌}
use Rattle.meaning.specs.Tree.{Place, Command}
use Rattle.meaning.specs.Limits.{most_steps, most_slots}
use Rattle.meaning.specs.Scopes.{Names, Scope, Use, mark_sort, sheet_names, sheet_scope, find, hops_of, offset_of}
use Rattle.meaning.specs.Violations.{violations, wrong_c}
use Rattle.meaning.specs.Translation.{Code, code_c, translated}
use Rattle.meaning.specs.Machine.{Machine, Next, go, stop, ended, stuck, fetched, step, after, goes}
use Rattle.meaning.specs.Meaning.{Answer, ok, fault, Meant, a_value, a_location, Bound, Env, Store, value_at, lookup, Room, runs}
use Rattle.meaning.specs.Runs.{sheet_bound, sheet_store, entry as entry_with, entries_after, Outcome, done, faulty, Ending, ending, ran, meaning, sheet_frames, start}
use Rattle.meaning.specs.Uses.{uses_c, used}
use Rattle.meaning.specs.Pairs.{names, scope_of, Stand, Agrees}
use Rattle.meaning.specs.Agreement.{fault_at, end_at, answer, finished, Leaves, RunsAs, CodeMeans, NeverStuck, RunsCut, RunsEnd, Within, MemorySuffices, Leads, PairLaw}
use Rattle.meaning.proofs.Basics.{nth_past, from_true, some_is, none_some}
use Rattle.meaning.proofs.Shades.{Cell, fixed, located, show, Shades, empty, ◌▸◌, shade, shown}
use Rattle.meaning.proofs.Pieces.{Text, At, at_start, length_c}
use Rattle.meaning.proofs.Meets.{mach, Visible, Kept, Keeps, Meets, now, stops, more}
use Rattle.meaning.proofs.Chains.{room_of, Matches}
use Rattle.meaning.proofs.Stores.{occ, Sound, not_one}
use Rattle.meaning.proofs.Commands.{LandsC, lands_c, runs_right}
use Rattle.meaning.proofs.Pairing.{leads}
use Rattle.meaning.proofs.Besides.{Beside1, beside_c, beside_at}
use Rattle.meaning.proofs.Steps.{Counts, step_counts}

-- what the answers of a step are told apart by
abbrev IsGo : Next → Type 0
IsGo (go m) = Unit {0}
IsGo (stop f p s) = ⊥
IsGo ended = ⊥
IsGo stuck = ⊥

abbrev IsStuck : Next → Type 0
IsStuck (go m) = ⊥
IsStuck (stop f p s) = ⊥
IsStuck ended = ⊥
IsStuck stuck = Unit {0}

abbrev machine_in : Machine → Next → Machine
machine_in m (go n) = n
machine_in m (stop f p s) = m
machine_in m ended = m
machine_in m stuck = m

go_is : {m n : Machine} → go m ≡ go n → m ≡ n
go_is {m} {n} e = ap (machine_in m) e

not_go : {A : Type 0} {x : Next} {m : Machine} → (IsGo x → ⊥) → x ≡ go m → A
not_go h e = absurd (h (subst IsGo (sym e) tt))

-- n steps and then k steps are n + k steps
pub runs_cut_lem : RunsCut
unfolding goes
runs_cut_lem code zero k m = ap (λ (n : ℕ). goes code n m) (zero-add k)
runs_cut_lem code (suc n) k m = ap (λ (j : ℕ). goes code j m) (suc-add n k) ∙ by (step code m) (λ m'. runs_cut_lem code n k m')
  where
    by : (x : Next) → ((m' : Machine) → goes code (n + k) m' ≡ after (goes code n m') (goes code k)) → after x (goes code (n + k)) ≡ after (after x (goes code n)) (goes code k)
    by (go m') h = h m'
    by (stop f p s) h = refl
    by ended h = refl
    by stuck h = refl

module _ (t : Text) where
  first_step : (m n : Machine) (k : ℕ) → step t.code m ≡ go n → goes t.code (suc k) m ≡ goes t.code k n
  unfolding goes
  first_step m n k e = ap (λ (x : Next). after x (goes t.code k)) e

  counts_go : (m n : Machine) → step t.code m ≡ go n → n.steps ≡ m.steps + 1
  counts_go m n e = (subst (Counts m) e (step_counts t.code m)).0

  module _ {A : Type 0} (Q : A → ℕ → Machine → Type 0) (final : (a : A) (s : ℕ) (n : Machine) → Q a s n → n.steps ≡ s) where
    -- the step at which the end of a part shows
    abbrev until : Answer A → ℕ
    until (ok a s) = s + 1
    until (fault f p s) = fault_at f s

    -- before it the machine goes on, a step at a time
    goes_on : {m : Machine} {r : Answer A} → Meets t Q m r → (k : ℕ) → k + m.steps < until r → (n : Machine) × (goes t.code k m ≡ go n) × (n.steps ≡ k + m.steps)
    unfolding goes
    goes_on (now {a = a} {s = s} {m = m} q) zero l = (m, refl, omega arith)
    goes_on (now {a = a} {s = s} {m = m} q) (suc k) l = let e = final a s m q in absurd (omega arith)
    goes_on (stops {m = m} w e) zero l = (m, refl, omega arith)
    goes_on (stops {m = m} {f = f} {s = s} w e) (suc k) l = let c : fault_at f s ≡ m.steps + 1 = (subst (Counts m) e (step_counts t.code m)).0 in absurd (omega arith)
    goes_on (more {m = m} w e x) zero l = (m, refl, omega arith)
    goes_on (more {m = m} {k = m'} {r = r} w e x) (suc k) l =
        let c = counts_go m m' e in
        let h = goes_on x k (omega arith) in
        (h.0, first_step m m' k e ∙ h.1, let u = h.2 in omega arith)

    -- the end of a part
    abbrev Ends : Machine → Answer A → Type 0
    Ends m (ok a s) = (n : Machine) × Q a s n × (m.steps ≤ n.steps) × ((k : ℕ) → n.steps ≡ k + m.steps → goes t.code k m ≡ go n)
    Ends m (fault f p s) = (m.steps < fault_at f s) × ((k : ℕ) → fault_at f s ≡ k + m.steps → goes t.code k m ≡ stop f p s)

    onward : (m n : Machine) (r : Answer A) → step t.code m ≡ go n → Ends n r → Ends m r
    onward m n (ok a s) e h = let c = counts_go m n e in (h.0, h.1, (let b = h.2 in omega arith), by)
      where
        by : (k : ℕ) → h.0.steps ≡ k + m.steps → goes t.code k m ≡ go h.0
        by zero l = absurd (let c = counts_go m n e in let b = h.2 in omega arith)
        by (suc k) l = first_step m n k e ∙ h.3 k (let c = counts_go m n e in omega arith)
    onward m n (fault f p s) e h = let c = counts_go m n e in ((let b = h.0 in omega arith), by)
      where
        by : (k : ℕ) → fault_at f s ≡ k + m.steps → goes t.code k m ≡ stop f p s
        by zero l = absurd (let c = counts_go m n e in let b = h.0 in omega arith)
        by (suc k) l = first_step m n k e ∙ h.1 k (let c = counts_go m n e in omega arith)

    ends : {m : Machine} {r : Answer A} → Meets t Q m r → Ends m r
    unfolding goes
    ends (now {m = m} q) = (m, q, omega arith, at_zero)
      where
        at_zero : (k : ℕ) → m.steps ≡ k + m.steps → goes t.code k m ≡ go m
        at_zero zero e = refl
        at_zero (suc k) e = absurd (omega arith)
    ends (stops {m = m} {f = f} {p = p} {s = s} w e) = (omega (arith, shows), by)
      where
        shows : fault_at f s ≡ m.steps + 1
        shows = (subst (Counts m) e (step_counts t.code m)).0

        by : (k : ℕ) → fault_at f s ≡ k + m.steps → goes t.code k m ≡ stop f p s
        by zero l = absurd (omega (arith, shows))
        by (suc k) l = ap (λ (x : Next). after x (goes t.code k)) e
    ends (more {m = m} {k = n} {r = r} w e x) = onward m n r e (ends x)

    -- wherever the run is, the frames stand as the uses say
    during : ((a : A) (s : ℕ) (n : Machine) → Q a s n → (step t.code n ≡ ended) × Keeps t n) → {m : Machine} {r : Answer A} → Meets t Q m r → (k : ℕ) (n : Machine) → goes t.code k m ≡ go n → Keeps t n
    unfolding goes
    during h (now {a = a} {s = s} {m = m} q) zero n e = subst (Keeps t) (go_is e) (h a s m q).1
    during h (now {a = a} {s = s} {m = m} q) (suc k) n e = not_go (λ x. x) (sym (ap (λ (x : Next). after x (goes t.code k)) (h a s m q).0) ∙ e)
    during h (stops w q) zero n e = subst (Keeps t) (go_is e) w
    during h (stops w q) (suc k) n e = not_go (λ x. x) (sym (ap (λ (x : Next). after x (goes t.code k)) q) ∙ e)
    during h (more w q x) zero n e = subst (Keeps t) (go_is e) w
    during h (more {m = m} {k = m'} w q x) (suc k) n e = during h x k n (sym (first_step m m' k q) ∙ e)

-- the sheet's cells
abbrev cells_of : ℕ → List Entry → List Cell
cells_of l [] = []
cells_of l (e ∷ es) = elim e.mark [ Given ↦ fixed e.value ∷ cells_of l es | KeptMark ↦ located l ∷ cells_of (suc l) es ]

-- they show the entries with a store's values
cells-shown : (l : ℕ) (es : List Entry) (st : Store) → map (show st) (cells_of l es) ≡ map (λ e. slot_of e.value) (entries_after l es st)
cells-shown l [] st = refl
cells-shown l (e ∷ es) st = by e.mark (cells-shown l es st) (cells-shown (suc l) es st)
  where
    by : (m : Mark) → map (show st) (cells_of l es) ≡ map (λ e. slot_of e.value) (entries_after l es st) → map (show st) (cells_of (suc l) es) ≡ map (λ e. slot_of e.value) (entries_after (suc l) es st)
        → map (show st) (elim m as (λ _. List Cell) [ Given ↦ fixed e.value ∷ cells_of l es | KeptMark ↦ located l ∷ cells_of (suc l) es ]) ≡ map (λ e. slot_of e.value) (elim m as (λ _. List Entry) [ Given ↦ e ∷ entries_after l es st | KeptMark ↦ entry_with e (value_at st l) ∷ entries_after (suc l) es st ])
    by Given h k = ap (λ (ss : List Slot). slot_of e.value ∷ ss) h
    by KeptMark h k = ap (λ (ss : List Slot). slot_of (value_at st l) ∷ ss) k

sheet-names : (l : ℕ) (es : List Entry) → names (sheet_bound l es) ≡ sheet_names es
sheet-names l [] = refl
sheet-names l (e ∷ es) = by e.mark (sheet-names l es) (sheet-names (suc l) es)
  where
    by : (m : Mark) → names (sheet_bound l es) ≡ sheet_names es → names (sheet_bound (suc l) es) ≡ sheet_names es → names (elim m as (λ _. Bound) [ Given ↦ (e.name, a_value e.value) ∷ sheet_bound l es | KeptMark ↦ (e.name, a_location l) ∷ sheet_bound (suc l) es ]) ≡ (e.name, mark_sort m) ∷ sheet_names es
    by Given h k = ap (λ (ns : Names). (e.name, mark_sort Given) ∷ ns) h
    by KeptMark h k = ap (λ (ns : Names). (e.name, mark_sort KeptMark) ∷ ns) k

sheet_matches : (t : Text) (g : Scope) (l : ℕ) (es : List Entry) → Matches t g (sheet_bound l es) (cells_of l es)
sheet_matches t g l [] = tt
sheet_matches t g l (e ∷ es) = by e.mark (sheet_matches t g l es) (sheet_matches t g (suc l) es)
  where
    by : (m : Mark) → Matches t g (sheet_bound l es) (cells_of l es) → Matches t g (sheet_bound (suc l) es) (cells_of (suc l) es) → Matches t g (elim m as (λ _. Bound) [ Given ↦ (e.name, a_value e.value) ∷ sheet_bound l es | KeptMark ↦ (e.name, a_location l) ∷ sheet_bound (suc l) es ]) (elim m as (λ _. List Cell) [ Given ↦ fixed e.value ∷ cells_of l es | KeptMark ↦ located l ∷ cells_of (suc l) es ])
    by Given h k = (refl, h)
    by KeptMark h k = (refl, k)

cells-length : (l : ℕ) (es : List Entry) → length (cells_of l es) ≡ length es
cells-length l [] = refl
cells-length l (e ∷ es) = by e.mark (cells-length l es) (cells-length (suc l) es)
  where
    by : (m : Mark) → length (cells_of l es) ≡ length es → length (cells_of (suc l) es) ≡ length es → length (elim m as (λ _. List Cell) [ Given ↦ fixed e.value ∷ cells_of l es | KeptMark ↦ located l ∷ cells_of (suc l) es ]) ≡ suc (length es)
    by Given h k = ap suc h
    by KeptMark h k = ap suc k

-- locations from l on, each once
abbrev Once : ℕ → ℕ → ℕ → ℕ → Type 0
Once k l o m = (o ≤ 1) × (1 ≤ o → l ≤ k) × (1 ≤ o → k < l + m)

once_more : (k l o m : ℕ) (b : Bool) → eqb k l ≡ b → Once k (suc l) o m → Once k l (cond {A = ℕ} b 1 0 + o) (suc m)
once_more k l o m true q h = let r = eqb→eq k l (from_true _ q) in let z = not_one o (λ x. let y = h.1 x in omega arith) in (omega arith, λ x. omega arith, λ x. omega arith)
once_more k l o m false q h = (omega arith, λ x. let y = h.1 (omega arith) in omega arith, λ x. let y = h.2 (omega arith) in omega arith)

sheet_once : (k l : ℕ) (es : List Entry) → Once k l (occ k (cells_of l es)) (length (sheet_store es))
sheet_once k l [] = (omega arith, λ x. absurd (omega arith), λ x. absurd (omega arith))
sheet_once k l (e ∷ es) = by e.mark (sheet_once k l es) (sheet_once k (suc l) es)
  where
    by : (m : Mark) → Once k l (occ k (cells_of l es)) (length (sheet_store es)) → Once k (suc l) (occ k (cells_of (suc l) es)) (length (sheet_store es)) → Once k l (occ k (elim m as (λ _. List Cell) [ Given ↦ fixed e.value ∷ cells_of l es | KeptMark ↦ located l ∷ cells_of (suc l) es ])) (length (elim m as (λ _. Store) [ Given ↦ sheet_store es | KeptMark ↦ e.value ∷ sheet_store es ]))
    by Given h g = (omega (arith, h.0), λ x. h.1 (omega arith), λ x. h.2 (omega arith))
    by KeptMark h g = once_more k l _ _ (eqb k l) refl g

-- at first the store gives the entries themselves
entries-first : (l : ℕ) (es : List Entry) (st : Store) → ((k : ℕ) → value_at st (l + k) ≡ value_at (sheet_store es) k) → map (λ e. slot_of e.value) (entries_after l es st) ≡ map (λ e. slot_of e.value) es
entries-first l [] st h = refl
entries-first l (e ∷ es) st h = by e.mark (λ l' h'. entries-first l' es st h') h
  where
    by : (m : Mark) → ((l' : ℕ) → ((k : ℕ) → value_at st (l' + k) ≡ value_at (sheet_store es) k) → map (λ e. slot_of e.value) (entries_after l' es st) ≡ map (λ e. slot_of e.value) es)
        → ((k : ℕ) → value_at st (l + k) ≡ value_at (elim m as (λ _. Store) [ Given ↦ sheet_store es | KeptMark ↦ e.value ∷ sheet_store es ]) k)
        → map (λ e. slot_of e.value) (elim m as (λ _. List Entry) [ Given ↦ e ∷ entries_after l es st | KeptMark ↦ entry_with e (value_at st l) ∷ entries_after (suc l) es st ]) ≡ slot_of e.value ∷ map (λ e. slot_of e.value) es
    by Given r h = ap (λ (ss : List Slot). slot_of e.value ∷ ss) (r l h)
    by KeptMark r h = ap₂ (λ (v : Value) (ss : List Slot). slot_of v ∷ ss) (ap (value_at st) (sym (add-zero l)) ∙ h 0) (r (suc l) (λ k. ap (value_at st) (omega arith) ∙ h (suc k)))

-- one rule over one sheet
module _ (es : List Entry) (c : Command) (right : violations es c ≡ []) where
  abbrev text : Text
  text = record { code = translated es c; uses = used es c }

  abbrev sheet_shades : Shades
  sheet_shades = empty ▸ shade (cells_of 0 es) None

  abbrev Final : Store → ℕ → Machine → Type 0
  Final = LandsC sheet_shades (length (translated es c)) [] [] 0

  sheet-shown : (st : Store) → shown st sheet_shades ≡ sheet_frames (entries_after 0 es st)
  sheet-shown st = ap (λ (ss : List Slot). none ▷ record { slots = ss; parent = None }) (cells-shown 0 es st)

  first-shown : shown (sheet_store es) sheet_shades ≡ sheet_frames es
  first-shown = sheet-shown (sheet_store es) ∙ ap (λ (ss : List Slot). none ▷ record { slots = ss; parent = None }) (entries-first 0 es (sheet_store es) (λ k. ap (value_at (sheet_store es)) (zero-add k)))

  sheet_sound : Sound (sheet_store es) sheet_shades
  sheet_sound k = let h = sheet_once k 0 es in (omega (arith, h.0), λ x. let y = h.2 (omega arith) in omega arith)

  sheet-room : room_of sheet_shades [] ≡ record { frames = 1; slots = length es; waiting = 0 }
  sheet-room = ap (λ (m : ℕ). record { frames = 1; slots = m; waiting = 0 }) (let x = cells-length 0 es in omega arith)

  met : Meets text Final (start es) (ran es c)
  met = subst₂ (λ (r : Room) (fs : Frames). Meets text Final (mach 0 [] [] fs 0) (runs (most_steps + 1) c (sheet_bound 0 es ∷ []) (sheet_store es) r 0)) sheet-room first-shown
      (runs_right text (most_steps + 1) c (sheet_bound 0 es ∷ []) (sheet_store es) sheet_shades [] [] 0 (length (translated es c)) 0 (omega arith, omega arith) (omega arith)
      (subst (λ (ns : Names). wrong_c (ns ∷ []) c ≡ []) (sym (sheet-names 0 es)) right)
      (subst (λ (ns : Names). At text 0 (code_c (ns ∷ []) c) (uses_c (ns ∷ []) c) (length (translated es c))) (sym (sheet-names 0 es)) (at_start text (length_c c (sheet_scope es))))
      (sheet_matches text _ 0 es, tt) sheet_sound)

  final_steps : (st : Store) (s : ℕ) (n : Machine) → Final st s n → n.steps ≡ s
  final_steps st s n (lands_c l d) = refl

  final_ends : (st : Store) (s : ℕ) (n : Machine) → Final st s n → (step (translated es c) n ≡ ended) × Keeps text n
  unfolding step
  final_ends st s n (lands_c l d) = (
    ap (λ (o : Option (Instruction × Place)). fetched o (mach (length (translated es c)) [] [] (shown st sheet_shades) s)) (nth_past (translated es c)),
    subst (λ (o : Option (Option (Name × Scope))). Kept text o (shown st sheet_shades)) (sym (ap (slice_get (used es c)) (sym (length_c c (sheet_scope es))) ∙ nth_past (used es c))) tt,
  )

  final_is : (st : Store) (s : ℕ) (n : Machine) → Final st s n → n ≡ finished (translated es c) (entries_after 0 es st) s
  final_is st s n (lands_c l d) = ap (λ (fs : Frames). mach (length (translated es c)) [] [] fs s) (sheet-shown st)

  runs_as : RunsAs (translated es c) es (meaning es c)
  unfolding goes
  runs_as = by (ran es c) met
    where
      before : (r : Answer Store) → Meets text Final (start es) r → (k : ℕ) → k < until text Final final_steps r → (m : Machine) × (goes (translated es c) k (start es) ≡ go m) × (m.steps ≡ k)
      before r x k l = let h = goes_on text Final final_steps x k (omega arith) in (h.0, h.1, let e = h.2 in omega arith)

      by : (r : Answer Store) → Meets text Final (start es) r → RunsAs (translated es c) es (ending es r)
      by (ok st s) x =
          let h = ends text Final final_steps x in
          let last : goes (translated es c) s (start es) ≡ go h.0 = h.3 s (let e = final_steps st s h.0 h.1 in omega arith) in
          record {
            before = before (ok st s) x;
            at_end = runs_cut_lem (translated es c) s 1 (start es) ∙ ap (λ (n : Next). after n (goes (translated es c) 1)) last ∙ ap (λ (n : Next). after n (goes (translated es c) 0)) (final_ends st s h.0 h.1).0;
            leaves = last ∙ ap go (final_is st s h.0 h.1);
          }
      by (fault f p s) x = record { before = before (fault f p s) x; at_end = (ends text Final final_steps x).1 (fault_at f s) (omega arith); leaves = tt }

pub code_means_lem : CodeMeans
code_means_lem es c g = runs_as es c g

-- the answer of an end is none of a stuck machine
answer_moves : (o : Outcome) (t : ℕ) → answer o t ≡ stuck → ⊥
answer_moves (done es) t e = subst IsStuck (sym e) tt
answer_moves (faulty f p) t e = subst IsStuck (sym e) tt

answer_stays : (code : Code) (o : Outcome) (t k : ℕ) → after (answer o t) (goes code k) ≡ answer o t
answer_stays code (done es) t k = refl
answer_stays code (faulty f p) t k = refl

pub never_stuck_lem : NeverStuck
never_stuck_lem es c g k e = by (leb (end_at o s) k) refl
  where
    o : Outcome
    o = (meaning es c).outcome

    s : ℕ
    s = (meaning es c).steps

    by : (b : Bool) → leb (end_at o s) k ≡ b → ⊥
    by false q = let h = (runs_as es c g).before k (nleb→lt (end_at o s) k (subst (λ (b : Bool). T (mathlib.Core.Bool.not b)) (sym q) tt)) in subst IsStuck (sym e ∙ h.1) tt
    by true q =
        let l = leb→le (end_at o s) k (from_true _ q) in
        answer_moves o s (sym (answer_stays (translated es c) o s (k - end_at o s)) ∙ ap (λ (n : Next). after n (goes (translated es c) (k - end_at o s))) (sym (runs_as es c g).at_end) ∙ sym (runs_cut_lem (translated es c) (end_at o s) (k - end_at o s) (start es)) ∙ ap (λ (j : ℕ). goes (translated es c) j (start es)) (omega arith) ∙ e)

-- within the memory, and within the steps, step by step
abbrev KeptWithin : Next → Type 0
KeptWithin (go n) = Within n
KeptWithin (stop f p s) = Unit {0}
KeptWithin ended = Unit {0}
KeptWithin stuck = Unit {0}

stays_within : (code : Code) (k : ℕ) (m : Machine) → Within m → KeptWithin (goes code k m)
unfolding goes
stays_within code zero m w = w
stays_within code (suc k) m w = by (step code m) (step_counts code m) (λ n v. stays_within code k n v)
  where
    by : (x : Next) → Counts m x → ((n : Machine) → Within n → KeptWithin (goes code k n)) → KeptWithin (after x (goes code k))
    by (go n) q h = h n (q.1 w)
    by (stop f p s) q h = tt
    by ended q h = tt
    by stuck q h = tt

abbrev Below : Next → Type 0
Below (go n) = n.steps ≤ most_steps
Below (stop f p s) = s ≤ most_steps
Below ended = Unit {0}
Below stuck = Unit {0}

stays_below : (code : Code) (k : ℕ) (m : Machine) → m.steps ≤ most_steps → Below (goes code k m)
unfolding goes
stays_below code zero m w = w
stays_below code (suc k) m w = by (step code m) (step_counts code m) (λ n v. stays_below code k n v)
  where
    by : (x : Next) → Counts m x → ((n : Machine) → n.steps ≤ most_steps → Below (goes code k n)) → Below (after x (goes code k))
    by (go n) q h = h n q.2
    by (stop f p s) q h = q.1 w
    by ended q h = tt
    by stuck q h = tt

pub runs_end_lem : RunsEnd
runs_end_lem es c g = by (meaning es c) (runs_as es c g)
  where
    of : (o : Outcome) (s : ℕ) → Leaves (translated es c) es o s → goes (translated es c) (end_at o s) (start es) ≡ answer o s → s ≤ most_steps
    of (done fs) s l e = subst Below l (stays_below (translated es c) s (start es) (omega arith))
    of (faulty f p) s l e = subst Below e (stays_below (translated es c) (fault_at f s) (start es) (omega arith))

    by : (e : Ending) → RunsAs (translated es c) es e → e.steps ≤ most_steps
    by e r = of e.outcome e.steps r.leaves r.at_end

start_within : (es : List Entry) → length es ≤ most_slots → Within (start es)
start_within es l = record { values = omega arith; returns = omega arith; frames = omega arith; slots = (let x = length-map es (λ e. slot_of e.value) in omega arith); chains = (refl, tt); steps = omega arith }

pub memory_suffices_lem : MemorySuffices
memory_suffices_lem es code k m l e = subst KeptWithin e (stays_within code k (start es) (start_within es (omega arith)))

pub pair_law_lem : PairLaw
pair_law_lem es c g k m i p h o e at q =
    let y = beside_at (beside_c c (sheet_scope es)) m.at (i, p) at in
    by y.0 y.1 y.2 (subst (λ (u : Option (Option (Name × Scope))). Kept (text es c g) u m.frames) y.1 (during (text es c g) (Final es c g) (final_steps es c g) (final_ends es c g) (met es c g) k m e))
  where
    code : Code
    code = translated es c

    lead : (x : Name) (s : Scope) (env : Env) (st : Store) (r : Option (Meant × Env)) (u : Option Use) → slice_get (used es c) m.at ≡ Some (Some (x, s)) → scope_of env ≡ s → lookup x env ≡ r → find x s ≡ u → Visible u → Stand (translated es c) st env m.frames → Agrees (translated es c) st m.frames r u → hops_of u ≡ h → offset_of u ≡ o → Leads (translated es c) m (slice_get (used es c) m.at) h o
    lead x s env st None None f a l n v w j b d = absurd v
    lead x s env st (Some r) None f a l n v w j b d = absurd v
    lead x s env st None (Some u) f a l n v w j b d = absurd j
    lead x s env st (Some r) (Some u) f a l n v w j b d = record { name = x; scope = s; from = f; declared = u; visible = n; hops = b; offset = d; env = env; store = st; around = a; stand = w; found = r; looked = l; agree = j }

    by : (y : Option (Name × Scope)) → slice_get (used es c) m.at ≡ Some y → Beside1 i y → Kept (text es c g) (Some y) m.frames → Leads (translated es c) m (slice_get (used es c) m.at) h o
    by None f b w = none_some (sym b ∙ q)
    by (Some y) f b w =
        let pair : (hops_of (find y.0 y.1), offset_of (find y.0 y.1)) ≡ (h, o) = some_is (sym b ∙ q) in
        lead y.0 y.1 w.0 w.1 (lookup y.0 w.0) (find y.0 y.1) f w.2 refl refl w.3 w.4
        (subst (λ (s : Scope). Agrees (translated es c) w.1 m.frames (lookup y.0 w.0) (find y.0 s)) w.2 (leads (translated es c) w.1 y.0 w.0 m.frames w.4))
        (ap (λ (a : ℕ × ℕ). a.0) pair) (ap (λ (a : ℕ × ℕ). a.1) pair)
