-- When the machine, from a state, does what a part of the named meaning answers.
use Rattle.std.proofs.Common.{◌≡◌, ℕ, ◌+◌, ◌<◌, Bool, true, false, cond, not, T, ltb, leb, List, ◌∷◌, Some, None, Option, sym, refl, ap, ◌∙◌, subst, subst₂, ltb→lt}
use lib.Dec.{nleb→lt}
use Rattle.std.specs.List.{slice_get}
use Rattle.lang.specs.declared.name.Name.{Name}
use Rattle.lang.specs.declared.value.Value.{Value}
use Rattle.lang.specs.declared.value.Value.TheVariants.{Number, Truth}
use Rattle.lang.specs.declared.fault.Fault.{Fault}
use Rattle.lang.specs.declared.fault.Fault.TheVariants as fault
use Rattle.lang.specs.declared.refusal.Refusal.TheVariants.{TooManyFrames, TooManySlots, ChainTooDeep}
use Rattle.lang.specs.declared.instruction.Instruction.{Instruction}
use Rattle.frames.specs.Frames.{Frame, Frames, ◌▷◌, count, total, newest, walk, refused, done, deep, fresh, grown, entered_from, entered}
use Rattle.meaning.specs.Tree.{Place}
use Rattle.meaning.specs.Limits.{most_steps, most_frames, most_slots}
use Rattle.meaning.specs.Scopes.{Scope, Use, find}
use Rattle.meaning.specs.Machine.{Machine, Next, go, stop, branched, answered, act, fetched, step}
use Rattle.meaning.specs.Meaning.{Answer, ok, fault as faulted, Run, bind, tick, faults, is_true, Env, Store, Room, opens}
use Rattle.meaning.specs.Uses.{Uses}
use Rattle.meaning.specs.Pairs.{scope_of, Stand}
use Rattle.meaning.proofs.Basics.{not_both, from_true}
use Rattle.meaning.proofs.Pieces.{Text, At, at_head, at_use}

abbrev pub mach : ℕ → List Value → List ℕ → Frames → ℕ → Machine
mach i vs rs fs s = record { at = i; values = vs; returns = rs; frames = fs; steps = s }

abbrev pub Visible : Option Use → Type 0
Visible None = ⊥
Visible (Some u) = Unit {0}

-- at a use the name is visible, and the frames stand for an environment of its scope
abbrev pub Kept : Text → Option (Option (Name × Scope)) → Frames → Type 0
Kept t None fs = Unit {0}
Kept t (Some None) fs = Unit {0}
Kept t (Some (Some u)) fs = (env : Env) × (st : Store) × (scope_of env ≡ u.1) × Visible (find u.0 u.1) × Stand t.code st env fs

module _ (t : Text) where
  abbrev pub Keeps : Machine → Type 0
  Keeps m = Kept t (slice_get t.uses m.at) m.frames

  -- From m the code comes to what the answer says: at a result, a state with Q; at a fault, that fault. At each use on the way the frames stand.
  pub data Meets {A : Type 0} (Q : A → ℕ → Machine → Type 0) : Machine → Answer A → Type 0 where
    now : {a : A} {s : ℕ} {m : Machine} → Q a s m → Meets Q m (ok a s)
    stops : {m : Machine} {f : Fault} {p s : ℕ} → Keeps m → step t.code m ≡ stop f p s → Meets Q m (faulted f p s)
    more : {m k : Machine} {r : Answer A} → Keeps m → step t.code m ≡ go k → Meets Q k r → Meets Q m r

  pub data After {A : Type 0} (Q : A → ℕ → Machine → Type 0) : Next → Answer A → Type 0 where
    went : {m : Machine} {r : Answer A} → Meets Q m r → After Q (go m) r
    halted : {f : Fault} {p s : ℕ} → After Q (stop f p s) (faulted f p s)

  pub meets_bind : {A B : Type 0} {Q : A → ℕ → Machine → Type 0} {R : B → ℕ → Machine → Type 0} {m : Machine} {r : Answer A} {k : A → Run B} → Meets Q m r → ((a : A) (s : ℕ) (n : Machine) → Q a s n → Meets R n (k a s)) → Meets R m (bind r k)
  meets_bind (now q) h = h _ _ _ q
  meets_bind (stops w e) h = stops w e
  meets_bind (more w e x) h = more w e (meets_bind x h)

  pub meets_map : {A : Type 0} {Q R : A → ℕ → Machine → Type 0} {m : Machine} {r : Answer A} → ((a : A) (s : ℕ) (k : Machine) → Q a s k → R a s k) → Meets Q m r → Meets R m r
  meets_map f (now q) = now (f _ _ _ q)
  meets_map f (stops w e) = stops w e
  meets_map f (more w e x) = more w e (meets_map f x)

  pub meets_at : {A : Type 0} {Q : A → ℕ → Machine → Type 0} {i k : ℕ} {vs : List Value} {rs : List ℕ} {fs : Frames} {s : ℕ} {r : Answer A} → i ≡ k → Meets Q (mach k vs rs fs s) r → Meets Q (mach i vs rs fs s) r
  meets_at {A} {Q} {i} {k} {vs} {rs} {fs} {s} {r} e x = subst (λ (i : ℕ). Meets Q (mach i vs rs fs s) r) (sym e) x

  pub after_is : {A : Type 0} {Q : A → ℕ → Machine → Type 0} {x y : Next} {r : Answer A} → x ≡ y → After Q y r → After Q x r
  after_is {A} {Q} {x} {y} {r} e a = subst (λ (z : Next). After Q z r) (sym e) a

  after_meets : {A : Type 0} {Q : A → ℕ → Machine → Type 0} {m : Machine} {x : Next} {r : Answer A} → Keeps m → step t.code m ≡ x → After Q x r → Meets Q m r
  after_meets w e (went x) = more w e x
  after_meets w e halted = stops w e

  -- one instruction against one tick
  meets_tick : {A : Type 0} {Q : A → ℕ → Machine → Type 0} {i : ℕ} {vs : List Value} {rs : List ℕ} {fs : Frames} {s : ℕ} {c : Instruction} {p : Place} (k : Unit {0} → Run A) → Keeps (mach i vs rs fs s) → slice_get t.code i ≡ Some (c, p) → (s < most_steps → After Q (act c p (mach i vs rs fs (s + 1))) (k tt (s + 1))) → Meets Q (mach i vs rs fs s) (bind (tick p s) k)
  unfolding step
  meets_tick {A} {Q} {i} {vs} {rs} {fs} {s} {c} {p} k w e h = by (ltb s most_steps) refl
    where
      steps : (b : Bool) → ltb s most_steps ≡ b → step t.code (mach i vs rs fs s) ≡ cond b (act c p (mach i vs rs fs (s + 1))) (stop fault.Steps p s)
      steps b l = ap (λ (o : Option (Instruction × Place)). fetched o (mach i vs rs fs s)) e ∙ ap (λ (b : Bool). cond b (act c p (mach i vs rs fs (s + 1))) (stop fault.Steps p s)) l

      by : (b : Bool) → ltb s most_steps ≡ b → Meets Q (mach i vs rs fs s) (bind (cond b (ok tt (s + 1)) (faulted fault.Steps p s)) k)
      by true l = after_meets w (steps true l) (h (ltb→lt s most_steps (from_true _ l)))
      by false l = stops w (steps false l)

  keeps_at : (i : ℕ) (fs : Frames) (u : Option (Name × Scope)) → slice_get t.uses i ≡ Some u → Kept t (Some u) fs → Kept t (slice_get t.uses i) fs
  keeps_at i fs u e k = subst (λ (o : Option (Option (Name × Scope))). Kept t o fs) (sym e) k

  -- an instruction without a name, and one that uses a name in an environment
  pub meets_line : {A : Type 0} {Q : A → ℕ → Machine → Type 0} {i j : ℕ} {vs : List Value} {rs : List ℕ} {fs : Frames} {s : ℕ} {c : Instruction} {p : Place} {cs : List (Instruction × Place)} {us : Uses} (k : Unit {0} → Run A) → At t i ((c, p) ∷ cs) (None ∷ us) j → (s < most_steps → After Q (act c p (mach i vs rs fs (s + 1))) (k tt (s + 1))) → Meets Q (mach i vs rs fs s) (bind (tick p s) k)
  meets_line {i = i} {fs = fs} k a h = meets_tick k (keeps_at i fs None (at_use t a) tt) (at_head t a) h

  pub meets_use : {A : Type 0} {Q : A → ℕ → Machine → Type 0} {i j : ℕ} {vs : List Value} {rs : List ℕ} {fs : Frames} {s : ℕ} {c : Instruction} {p : Place} {x : Name} {cs : List (Instruction × Place)} {us : Uses} (k : Unit {0} → Run A) (env : Env) (st : Store) → Visible (find x (scope_of env)) → Stand t.code st env fs → At t i ((c, p) ∷ cs) (Some (x, scope_of env) ∷ us) j → (s < most_steps → After Q (act c p (mach i vs rs fs (s + 1))) (k tt (s + 1))) → Meets Q (mach i vs rs fs s) (bind (tick p s) k)
  meets_use {i = i} {fs = fs} {x = x} k env st v w a h = meets_tick k (keeps_at i fs (Some (x, scope_of env)) (at_use t a) (env, st, refl, v, w)) (at_head t a) h

  pub after-faults : {A : Type 0} {Q : A → ℕ → Machine → Type 0} (b : Bool) (f : Fault) (p s : ℕ) {x : Next} (k : Unit {0} → Run A) → After Q x (k tt s) → After Q (cond b (stop f p s) x) (bind (faults b f p s) k)
  after-faults true f p s k x = halted
  after-faults false f p s k x = x

  pub after_unless : {A : Type 0} {Q : A → ℕ → Machine → Type 0} (b : Bool) (f : Fault) (p s : ℕ) {x : Next} (k : Unit {0} → Run A) → After Q x (k tt s) → After Q (cond b x (stop f p s)) (bind (faults (not b) f p s) k)
  after_unless true f p s k x = x
  after_unless false f p s k x = halted

  -- PICK, FORK and LEAVE
  pub after_branch : {A : Type 0} {Q : A → ℕ → Machine → Type 0} {vs : List Value} {rs : List ℕ} {fs : Frames} {s : ℕ} (i d : ℕ) (v : Value) (p : ℕ) (k : Bool → Run A) → Meets Q (mach (i + 1) vs rs fs s) (k true s) → Meets Q (mach (i + d) vs rs fs s) (k false s) → After Q (branched d (v ∷ vs) p (mach i (v ∷ vs) rs fs s)) (bind (is_true v p s) k)
  after_branch i d (Number z) p k x y = halted
  after_branch i d (Truth true) p k x y = went x
  after_branch i d (Truth false) p k x y = went y

  -- a frame more, whose parent is the last of gs
  pub after-grown : {A : Type 0} {Q : A → ℕ → Machine → Type 0} (n : ℕ) (fs gs : Frames) (r : Room) (p s : ℕ) (m : Machine) (F : Frames → Next) (k : Unit {0} → Run A) → m.steps ≡ s → count fs ≡ r.frames → total fs ≡ r.slots → deep gs ≡ false → (count fs < most_frames → After Q (F (fs ▷ fresh n (newest gs))) (k tt s)) → After Q (answered (grown fs gs n).answer (F (grown fs gs n).after) p m) (bind (opens n r p s) k)
  after-grown {A} {Q} n fs gs r p s m F k z e f d x = subst₂ (λ (a b : ℕ). After Q (answered (grown fs gs n).answer (F (grown fs gs n).after) p m) (bind (bind (faults (leb most_frames a) fault.Frames p s) (λ _. faults (ltb most_slots (b + n)) fault.Slots p)) k)) e f
      (subst (λ (s : ℕ). (count fs < most_frames → After Q (F (fs ▷ fresh n (newest gs))) (k tt s)) → After Q (answered (grown fs gs n).answer (F (grown fs gs n).after) p m) (bind (bind (faults (leb 256 (count fs)) fault.Frames p s) (λ _. faults (ltb 2048 (total fs + n)) fault.Slots p)) k)) z (by (leb 256 (count fs)) (ltb 2048 (total fs + n)) (deep gs) refl d) x)
    where
      by : (a b c : Bool) → leb 256 (count fs) ≡ a → c ≡ false → (count fs < most_frames → After Q (F (fs ▷ fresh n (newest gs))) (k tt m.steps)) → After Q (answered (cond a (refused TooManyFrames fs) (cond b (refused TooManySlots fs) (cond c (refused ChainTooDeep fs) (done (fs ▷ fresh n (newest gs)))))).answer (F (cond a (refused TooManyFrames fs) (cond b (refused TooManySlots fs) (cond c (refused ChainTooDeep fs) (done (fs ▷ fresh n (newest gs)))))).after) p m) (bind (bind (faults a fault.Frames p m.steps) (λ _. faults b fault.Slots p)) k)
      by true b c q h x = halted
      by false true c q h x = halted
      by false false true q h x = not_both h
      by false false false q h x = x (nleb→lt 256 (count fs) (subst (λ (b : Bool). T (not b)) (sym q) tt))

  pub after-entered : {A : Type 0} {Q : A → ℕ → Machine → Type 0} (h n : ℕ) (fs gs : Frames) (g : Frame) (r : Room) (p s : ℕ) (m : Machine) (F : Frames → Next) (k : Unit {0} → Run A) → walk h fs ≡ gs ▷ g → m.steps ≡ s → count fs ≡ r.frames → total fs ≡ r.slots → deep (gs ▷ g) ≡ false → (count fs < most_frames → After Q (F (fs ▷ fresh n (Some (count gs)))) (k tt s)) → After Q (answered (entered fs h n).answer (F (entered fs h n).after) p m) (bind (opens n r p s) k)
  after-entered {A} {Q} h n fs gs g r p s m F k q z e f d x = subst (λ (y : Frames). After Q (answered (entered_from fs y n).answer (F (entered_from fs y n).after) p m) (bind (opens n r p s) k)) (sym q) (after-grown n fs (gs ▷ g) r p s m F k z e f d x)
