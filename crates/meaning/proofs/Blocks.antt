-- The frame of a block: its data and routines fill it, slot by slot.
use Rattle.std.proofs.Common.{◌≡◌, ℕ, zero, suc, ◌+◌, ◌<◌, ◌≤◌, List, [], ◌∷◌, ◌++◌, map, length, set, replicate, Option, sym, refl, ap, ◌∙◌, subst, ap₂, subst₂, zero-add, arith, length-append}
use lib.ListN.{length-map}
use Rattle.lang.specs.declared.name.Name.{Name}
use Rattle.lang.specs.declared.value.Value.{Value}
use Rattle.lang.specs.declared.value.Slot.{Slot}
use Rattle.lang.specs.declared.value.Slot.TheVariants as slot
use Rattle.lang.specs.declared.instruction.Instruction.TheVariants.{Back}
use Rattle.frames.specs.Frames.{Frames, ◌▷◌, Built, filled, written}
use Rattle.meaning.specs.Tree.{Routines, no_routines, fun, proc, routine_slots}
use Rattle.meaning.specs.Scopes.{Names, Scope, function, procedure, params, routine_names}
use Rattle.meaning.specs.Violations.{wrong_r}
use Rattle.meaning.specs.Translation.{code_e, code_c, code_r}
use Rattle.meaning.specs.Machine.{Machine, go, answered, built}
use Rattle.meaning.specs.Meaning.{Answer, ok, Run, bind, Meant, a_value, a_location, a_function, a_procedure, Bound, Store, inside, declared, declaring}
use Rattle.meaning.specs.Uses.{uses_r}
use Rattle.meaning.specs.Pairs.{sort_of, names}
use Rattle.meaning.proofs.Basics.{nil_left, nil_right, append_assoc, length_snoc}
use Rattle.meaning.proofs.Shades.{Cell, blank, fixed, located, entry, show, Shades, ◌▸◌, shade, height, slots, shown, written_last}
use Rattle.meaning.proofs.Pieces.{Text, At, at_tail, at_end, at_length, split_r}
use Rattle.meaning.proofs.Meets.{mach, Meets, now, After, went, meets_bind, meets_at, after_is, meets_line}
use Rattle.meaning.proofs.Chains.{room_of, Fits, Matches}
use Rattle.meaning.proofs.Stores.{occ, occ_append}
use Rattle.meaning.proofs.Expressions.{framed_fits}

pub names-append : (a b : Bound) → names (a ++ b) ≡ names a ++ names b
names-append [] b = refl
names-append (x ∷ a) b = ap (λ (ns : Names). (x.0, sort_of x.1) ∷ ns) (names-append a b)

pub names-declared : (rs : Routines) → names (declared rs) ≡ routine_names rs
names-declared no_routines = refl
names-declared (fun rs p q x ps e) = names-append (declared rs) _ ∙ ap (λ (ns : Names). ns ++ ((x, function (length ps)) ∷ [])) (names-declared rs)
names-declared (proc rs p q x ps c) = names-append (declared rs) _ ∙ ap (λ (ns : Names). ns ++ ((x, procedure (length ps)) ∷ [])) (names-declared rs)

declared-length : (rs : Routines) → length (declared rs) ≡ routine_slots rs
declared-length no_routines = refl
declared-length (fun rs p q x ps e) = length_snoc (declared rs) _ ∙ ap suc (declared-length rs)
declared-length (proc rs p q x ps c) = length_snoc (declared rs) _ ∙ ap suc (declared-length rs)

-- data, and the cells that they fill
abbrev pub Plain : Meant → Cell → Type 0
Plain (a_value v) c = c ≡ fixed v
Plain (a_location l) c = c ≡ located l
Plain (a_function p ps e) c = ⊥
Plain (a_procedure p ps d) c = ⊥

abbrev pub Plains : Bound → List Cell → Type 0
Plains [] [] = Unit {0}
Plains [] (c ∷ cs) = ⊥
Plains (b ∷ bs) [] = ⊥
Plains (b ∷ bs) (c ∷ cs) = Plain b.1 c × Plains bs cs

pub plains_snoc : (bs : Bound) (cl : List Cell) (x : Name) (b : Meant) (c : Cell) → Plains bs cl → Plain b c → Plains (bs ++ ((x, b) ∷ [])) (cl ++ (c ∷ []))
plains_snoc [] [] x b c h q = (q, tt)
plains_snoc [] (d ∷ cl) x b c h q = absurd h
plains_snoc (e ∷ bs) [] x b c h q = absurd h
plains_snoc (e ∷ bs) (d ∷ cl) x b c h q = (h.0, plains_snoc bs cl x b c h.1 q)

-- a slot more is filled
pub fill_cells : (st : Store) (cl es : List Cell) (c : Cell) → set (map (show st) (cl ++ (blank ∷ es))) (length cl) (show st c) ≡ map (show st) ((cl ++ (c ∷ [])) ++ es)
fill_cells st [] es c = refl
fill_cells st (d ∷ cl) es c = ap (λ (ss : List Slot). show st d ∷ ss) (fill_cells st cl es c)

pub blank_fits : (st : Store) (cl es : List Cell) → length cl < length (map (show st) (cl ++ (blank ∷ es)))
blank_fits st cl es = let x = length-map (cl ++ (blank ∷ es)) (show st) in let y = length-append cl (blank ∷ es) in omega arith

pub filled-length : (cl es : List Cell) (c : Cell) → length ((cl ++ (c ∷ [])) ++ es) ≡ length (cl ++ (blank ∷ es))
filled-length cl es c = let x = length-append (cl ++ (c ∷ [])) es in let y = length-append cl (c ∷ []) in let z = length-append cl (blank ∷ es) in omega arith

pub blanks-shown : (st : Store) (k : ℕ) → replicate k slot.Unset ≡ map (show st) (replicate k blank)
blanks-shown st zero = refl
blanks-shown st (suc k) = ap (λ (ss : List Slot). slot.Unset ∷ ss) (blanks-shown st k)

-- the room in a block of n slots
pub room_in : (w : Shades) (cl : List Cell) (P : Option ℕ) (vs : List Value) (n : ℕ) → length cl ≡ n → room_of (w ▸ shade cl P) vs ≡ inside n (room_of w vs)
room_in w cl P vs n e = ap (λ (m : ℕ). record { frames = suc (height w); slots = slots w + m; waiting = length vs }) e

module _ (t : Text) where
  plain_fits : (g : Scope) (b : Meant) (c : Cell) → Plain b c → Fits t g b c
  plain_fits g (a_value v) c h = h
  plain_fits g (a_location l) c h = h
  plain_fits g (a_function p ps e) c h = absurd h
  plain_fits g (a_procedure p ps d) c h = absurd h

  -- data alone, with slots still to come; and with the routines
  pub plain_matches : (g : Scope) (bs : Bound) (cl es : List Cell) → Plains bs cl → Matches t g bs (cl ++ es)
  plain_matches g [] cl es h = tt
  plain_matches g (b ∷ bs) [] es h = absurd h
  plain_matches g (b ∷ bs) (c ∷ cl) es h = (plain_fits g b.1 c h.0, plain_matches g bs cl es h.1)

  pub block_matches : (g : Scope) (bs : Bound) (cl : List Cell) (more : Bound) (es : List Cell) → Plains bs cl → Matches t g more es → Matches t g (bs ++ more) (cl ++ es)
  block_matches g [] [] more es h m = m
  block_matches g [] (c ∷ cl) more es h m = absurd h
  block_matches g (b ∷ bs) [] more es h m = absurd h
  block_matches g (b ∷ bs) (c ∷ cl) more es h m = (plain_fits g b.1 c h.0, block_matches g bs cl more es h.1 m)

  matches_snoc : (g : Scope) (bs : Bound) (cs : List Cell) (x : Name) (b : Meant) (c : Cell) → length cs ≡ length bs → Matches t g bs cs → Fits t g b c → Matches t g (bs ++ ((x, b) ∷ [])) (cs ++ (c ∷ []))
  matches_snoc g [] [] x b c l m f = (f, tt)
  matches_snoc g [] (d ∷ cs) x b c l m f = absurd (omega arith)
  matches_snoc g (e ∷ bs) [] x b c l m f = absurd (omega arith)
  matches_snoc g (e ∷ bs) (d ∷ cs) x b c l m f = (m.0, matches_snoc g bs cs x b c (omega arith) m.1 f)

  -- The routines' instructions fill their slots with the positions of their bodies; k slots are still to come.
  pub data LandsR (g : Scope) (P : Option ℕ) (w : Shades) (st : Store) (cl : List Cell) (k : ℕ) (rt : Routines) (j : ℕ) (vs : List Value) (rs : List ℕ) (s : ℕ) : Unit {0} → ℕ → Machine → Type 0 where
    lands_r : {u : ℕ} (es : List Cell) → s ≤ u → Matches t g (declared rt) es → length es ≡ routine_slots rt → ((l : ℕ) → occ l es ≡ 0) → LandsR g P w st cl k rt j vs rs s tt u (mach j vs rs (shown st (w ▸ shade (cl ++ (es ++ replicate k blank)) P)) u)

  pub meets_routines : {B : Type 0} {R : B → ℕ → Machine → Type 0} {m : Machine} {q : Answer (Unit {0})} {g : Scope} {P : Option ℕ} {w : Shades} {st : Store} {cl : List Cell} {k : ℕ} {rt : Routines} {j : ℕ} {vs : List Value} {rs : List ℕ} {s : ℕ} (f : Unit {0} → Run B) → Meets t (LandsR g P w st cl k rt j vs rs s) m q → ((u : ℕ) (es : List Cell) → s ≤ u → Matches t g (declared rt) es → length es ≡ routine_slots rt → ((l : ℕ) → occ l es ≡ 0) → Meets t R (mach j vs rs (shown st (w ▸ shade (cl ++ (es ++ replicate k blank)) P)) u) (f tt u)) → Meets t R m (bind q f)
  meets_routines {B} {R} {m} {q} {g} {P} {w} {st} {cl} {k} {rt} {j} {vs} {rs} {s} f x h = meets_bind t x by
    where
      by : (v : Unit {0}) (u : ℕ) (m : Machine) → LandsR g P w st cl k rt j vs rs s v u m → Meets t R m (f v u)
      by v u m (lands_r es l p k y) = h u es l p k y

  -- the position of the next instruction into the next slot
  entry-frames : (st : Store) (w : Shades) (cl es : List Cell) (k i : ℕ) (P : Option ℕ) (n : ℕ) → n ≡ length (cl ++ es)
      → shown st w ▷ filled (record { slots = map (show st) (cl ++ (es ++ (blank ∷ replicate k blank))); parent = P }) n (slot.Position i) ≡ shown st (w ▸ shade (cl ++ ((es ++ (entry i ∷ [])) ++ replicate k blank)) P)
  entry-frames st w cl es k i P n e = ap (λ (ss : List Slot). shown st w ▷ record { slots = ss; parent = P })
      (ap₂ (λ (c : List Cell) (n : ℕ). set (map (show st) c) n (slot.Position i)) (sym (append_assoc cl es (blank ∷ replicate k blank))) e
      ∙ fill_cells st (cl ++ es) (replicate k blank) (entry i)
      ∙ ap (map (show st)) (ap (λ (c : List Cell). c ++ replicate k blank) (append_assoc cl es (entry i ∷ [])) ∙ append_assoc cl (es ++ (entry i ∷ [])) (replicate k blank)))

  entry_act : (d i n : ℕ) (vs : List Value) (rs : List ℕ) (st : Store) (w : Shades) (cl es : List Cell) (k : ℕ) (P : Option ℕ) (s p : ℕ) → n ≡ length (cl ++ es)
      → answered (written (shown st (w ▸ shade (cl ++ (es ++ (blank ∷ replicate k blank))) P)) 0 n (slot.Position (i + 1))).answer (go (mach (i + d) vs rs (written (shown st (w ▸ shade (cl ++ (es ++ (blank ∷ replicate k blank))) P)) 0 n (slot.Position (i + 1))).after s)) p (mach i vs rs (shown st (w ▸ shade (cl ++ (es ++ (blank ∷ replicate k blank))) P)) s)
      ≡ go (mach (i + d) vs rs (shown st (w ▸ shade (cl ++ ((es ++ (entry (i + 1) ∷ [])) ++ replicate k blank)) P)) s)
  entry_act d i n vs rs st w cl es k P s p e =
      ap (λ (b : Built). answered b.answer (go (mach (i + d) vs rs b.after s)) p (mach i vs rs (shown st (w ▸ shade (cl ++ (es ++ (blank ∷ replicate k blank))) P)) s))
      (written_last (shown st w) (record { slots = map (show st) (cl ++ (es ++ (blank ∷ replicate k blank))); parent = P }) n (slot.Position (i + 1))
      (subst (λ (c : List Cell). n < length (map (show st) c)) (append_assoc cl es (blank ∷ replicate k blank)) (let x = blank_fits st (cl ++ es) (replicate k blank) in omega arith)))
      ∙ ap (λ (fs : Frames). go (mach (i + d) vs rs fs s)) (entry-frames st w cl es k (i + 1) P n e)

  -- one routine more
  entry_good : (rt ru : Routines) (z : Name) (b : Meant) (g : Scope) (P : Option ℕ) (w : Shades) (st : Store) (cl es : List Cell) (k n d : ℕ) (vs : List Value) (rs : List ℕ) (i j s u p : ℕ) → declared ru ≡ declared rt ++ ((z, b) ∷ []) → routine_slots ru ≡ suc (routine_slots rt) → n ≡ length cl → i + d ≡ j → s ≤ u → Matches t g (declared rt) es → length es ≡ routine_slots rt → ((l : ℕ) → occ l es ≡ 0) → Fits t g b (entry (i + 1))
      → After t (LandsR g P w st cl k ru j vs rs s) (built (i + d) vs (written (shown st (w ▸ shade (cl ++ (es ++ (blank ∷ replicate k blank))) P)) 0 (n + routine_slots rt) (slot.Position (i + 1))) p (mach i vs rs (shown st (w ▸ shade (cl ++ (es ++ (blank ∷ replicate k blank))) P)) u)) (ok tt u)
  entry_good rt ru z b g P w st cl es k n d vs rs i j s u p e f o x l ms len oc h =
      after_is t (entry_act d i (n + routine_slots rt) vs rs st w cl es k P u p (let v = length-append cl es in omega arith))
      (went (meets_at t x (now (lands_r {u = u} (es ++ (entry (i + 1) ∷ [])) l
      (subst (λ (bs : Bound). Matches t g bs (es ++ (entry (i + 1) ∷ []))) (sym e) (matches_snoc g (declared rt) es z b (entry (i + 1)) (len ∙ sym (declared-length rt)) ms h))
      (length_snoc es _ ∙ ap suc len ∙ sym f) (λ l. let v = occ_append l es (entry (i + 1) ∷ []) in let y = oc l in omega arith)))))

  pub routines_good : (rt : Routines) (k n N : ℕ) (g : Scope) (P : Option ℕ) (w : Shades) (st : Store) (cl : List Cell) (vs : List Value) (rs : List ℕ) (i j s : ℕ) → N ≡ routine_slots rt + k → n ≡ length cl → wrong_r g rt ≡ [] → At t i (code_r n g rt) (uses_r g rt) j → Meets t (LandsR g P w st cl k rt j vs rs s) (mach i vs rs (shown st (w ▸ shade (cl ++ replicate N blank) P)) s) (declaring rt s)
  unfolding code_r uses_r wrong_r
  routines_good no_routines k n N g P w st cl vs rs i j s m e x a =
      subst₂ (λ (j N : ℕ). Meets t (LandsR g P w st cl k no_routines j vs rs s) (mach i vs rs (shown st (w ▸ shade (cl ++ replicate N blank) P)) s) (ok tt s)) (at_end t a) (sym (m ∙ zero-add k)) (now (lands_r {u = s} [] (omega arith) tt refl (λ l. refl)))
  routines_good (fun rt p q z ps b) k n N g P w st cl vs rs i j s m e x a =
      let y = split_r t n g rt a in
      let ends = at_length t (at_tail t y.2) in
      let body-length = length_snoc (code_e (params ps ∷ g) b) (Back, p) in
      let gs = framed_fits p g _ (nil_right (wrong_r g rt) _ x) in
      meets_routines _ (routines_good rt (suc k) n N g P w st cl vs rs i y.0 s (omega arith) e (nil_left _ _ x) y.1) λ u es l ms len oc. meets_line t _ y.2 λ _.
      entry_good rt (fun rt p q z ps b) z (a_function p ps b) g P w st cl es k n (length (code_e (params ps ∷ g) b) + 2) vs rs y.0 j s (u + 1) p refl refl e (omega arith) (omega arith) ms len oc (y.0 + 1, j, refl, at_tail t y.2, gs.0, nil_right _ _ gs.1)
  routines_good (proc rt p q z ps b) k n N g P w st cl vs rs i j s m e x a =
      let y = split_r t n g rt a in
      let ends = at_length t (at_tail t y.2) in
      let body-length = length_snoc (code_c (params ps ∷ g) b) (Back, p) in
      let gs = framed_fits p g _ (nil_right (wrong_r g rt) _ x) in
      meets_routines _ (routines_good rt (suc k) n N g P w st cl vs rs i y.0 s (omega arith) e (nil_left _ _ x) y.1) λ u es l ms len oc. meets_line t _ y.2 λ _.
      entry_good rt (proc rt p q z ps b) z (a_procedure p ps b) g P w st cl es k n (length (code_c (params ps ∷ g) b) + 2) vs rs y.0 j s (u + 1) p refl refl e (omega arith) (omega arith) ms len oc (y.0 + 1, j, refl, at_tail t y.2, gs.0, nil_right _ _ gs.1)
