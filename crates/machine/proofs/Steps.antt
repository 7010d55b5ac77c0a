-- Code on paper by position, and runs of the machine on paper.
use Rattle.std.proofs.Common.{◌≡◌, ℕ, zero, suc, ◌+◌, ◌-◌, ◌<◌, ◌≤◌, length, Some, None, inl, inr, sym, refl, ap, ◌∙◌, arith}
use Rattle.std.specs.List.{slice_get}
use Rattle.std.specs.Option.{option_map}
use Rattle.std.proofs.lemmas.Option.{slice_get_cases, slice_get-map}
use Rattle.lang.specs.declared.code.Code.{Code as Memory}
use Rattle.lang.specs.declared.instruction.Instruction.{Instruction}
use Rattle.lang.specs.Codes.{instructions_of, places_of}
use Rattle.frames.specs.Frames.{Frames}
use Rattle.meaning.specs.Tree.{Place}
use Rattle.meaning.specs.Translation.{Code}
use Rattle.meaning.specs.Machine.{Machine as State, Next, go, stop, ended, stuck, after, fetched, step, goes}
use Rattle.machine.specs.declared.machine.Machine.{Machine}
use Rattle.machine.specs.Shows.{seen, seen_at}
use Rattle.machine.specs.Runs.{Holds}

-- code in memory has no instruction at i, or has x there
pub none_held : (c : Memory) (ps : Code) (i : ℕ) → Holds c ps → slice_get (instructions_of c) i ≡ None → (slice_get ps i ≡ None) × (length ps ≤ i)
none_held c ps i h e =
    elim (slice_get_cases ps i).1 [
      | inl l ↦
          let q : None ≡ Some l.0.0 = sym e ∙ ap (λ is. slice_get is i) h.whats ∙ slice_get-map (λ l. l.0) ps i ∙ ap (option_map (λ l. l.0)) l.2 in
          let z : ◌≡◌ {A = ℕ} 0 1 = cc q in
          absurd (omega arith)
      | inr l ↦ (l.1, l.0)
    ]

pub some_held : (c : Memory) (ps : Code) (i : ℕ) (x : Instruction) → Holds c ps → slice_get (instructions_of c) i ≡ Some x → (p : Place) × (slice_get ps i ≡ Some (x, p)) × (slice_get (places_of c) i ≡ Some p) × (i < length ps)
some_held c ps i x h e =
    let told = sym e ∙ ap (λ is. slice_get is i) h.whats ∙ slice_get-map (λ l. l.0) ps i in
    elim (slice_get_cases ps i).1 [
      | inl l ↦
          let q : x ≡ l.0.0 = cc (told ∙ ap (option_map (λ l. l.0)) l.2) in
          (l.0.1, l.2 ∙ ap (λ y. Some (y, l.0.1)) (sym q), ap (λ js. slice_get js i) h.wheres ∙ slice_get-map (λ l. l.1) ps i ∙ ap (option_map (λ l. l.1)) l.2, l.1)
      | inr l ↦ let z : ◌≡◌ {A = ℕ} 0 1 = cc (told ∙ ap (option_map (λ l. l.0)) l.1) in absurd (omega arith)
    ]

-- what the machine does at its position i is its step
pub step_of : {F : Type 0} (frames : F → Frames) (ps : Code) (i : ℕ) (m : Machine F) (x : Instruction) (p : Place) (n : Next) → i ≡ m.at → slice_get ps m.at ≡ Some (x, p) → n ≡ fetched (Some (x, p)) (seen_at i frames m) → n ≡ step ps (seen frames m)
unfolding step
step_of frames ps i m x p n q e d = d ∙ ap (λ j. fetched (Some (x, p)) (seen_at j frames m)) q ∙ ap (λ o. fetched o (seen frames m)) (sym e)

pub step_past : (ps : Code) (m : State) → slice_get ps m.at ≡ None → ended ≡ step ps m
unfolding step
step_past ps m e = ap (λ o. fetched o m) (sym e)

pub goes_none : (ps : Code) (m : State) → goes ps 0 m ≡ go m
unfolding goes
goes_none ps m = refl

-- a run in two parts
pub goes-both : (ps : Code) (i j : ℕ) (m : State) → goes ps (i + j) m ≡ after (goes ps i m) (goes ps j)
unfolding goes
goes-both ps zero j m = let e : zero + j ≡ j = omega arith in ap (λ k. goes ps k m) e
goes-both ps (suc i) j m =
    let e : suc i + j ≡ suc (i + j) = omega arith in
    ap (λ k. goes ps k m) e
    ∙ elim (step ps m) as (λ n. after n (goes ps (i + j)) ≡ after (after n (goes ps i)) (goes ps j)) [ go k ↦ goes-both ps i j k | stop f p s ↦ refl | ended ↦ refl | stuck ↦ refl ]

one_more : (ps : Code) (j : ℕ) (m : State) (x : Next) → x ≡ step ps m → goes ps (suc j) m ≡ after x (goes ps j)
unfolding goes
one_more ps j m x e = ap (λ y. after y (goes ps j)) (sym e)

-- a run whose first i steps lead to k goes on as k does
pub goes_then : (ps : Code) (i n : ℕ) (a k : State) (x : Next) → i < n → goes ps i a ≡ go k → x ≡ step ps k → goes ps n a ≡ after x (goes ps (n - i - 1))
goes_then ps i n a k x h e s =
    let q : n ≡ i + suc (n - i - 1) = omega arith in
    ap (λ j. goes ps j a) q ∙ goes-both ps i (suc (n - i - 1)) a ∙ ap (λ y. after y (goes ps (suc (n - i - 1)))) e ∙ one_more ps (n - i - 1) k x s

pub goes_on : (ps : Code) (i : ℕ) (a k b : State) → goes ps i a ≡ go k → go b ≡ step ps k → goes ps (i + 1) a ≡ go b
goes_on ps i a k b e s =
    let h : i < i + 1 = omega arith in
    let q : i + 1 - i - 1 ≡ 0 = omega arith in
    goes_then ps i (i + 1) a k (go b) h e s ∙ ap (λ j. goes ps j b) q ∙ goes_none ps b
