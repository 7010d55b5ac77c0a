-- The code of a command does what the command means.
use Rattle.std.proofs.Common.{◌≡◌, ℕ, zero, suc, ◌+◌, ◌<◌, ◌≤◌, Bool, true, false, cond, eqb, List, [], ◌∷◌, ◌++◌, map, length, set, replicate, Some, None, Ok, Option, sym, refl, ap, ◌∙◌, subst, ap₂, subst₂, zero-add, arith, eqb→eq, length-append}
use mathlib.Core.List.{reverse_aux}
use lib.ListN.{length-map, length-replicate}
use Rattle.lang.specs.declared.name.Name.{Name}
use Rattle.lang.specs.declared.value.Value.{Value}
use Rattle.lang.specs.declared.value.Slot.{Slot}
use Rattle.lang.specs.Values.{slot_of, alike}
use Rattle.lang.specs.declared.fault.Fault.TheVariants as fault
use Rattle.lang.specs.declared.refusal.Refusal.TheVariants.{WrongCount}
use Rattle.lang.specs.declared.instruction.Binding.TheVariants.{Constant, Variable}
use Rattle.frames.specs.Frames.{Frames, ◌▷◌, got, Built, filled, written}
use Rattle.meaning.specs.Tree.{Place, Expr, Args, args, Data, no_data, const, var, data_slots, Command, block, assign, perform, fork, while, Commands, no_commands, then, Routines, routine_slots}
use Rattle.meaning.specs.Limits.{most_steps}
use Rattle.meaning.specs.Scopes.{Names, constant, variable, procedure, Use, find, hops_of, offset_of, params, data_names, block_names}
use Rattle.meaning.specs.Violations.{wrong, variable_use, as_variable, procedure_use, as_procedure, wrong_e, wrong_a, wrong_d, wrong_n, wrong_c, wrong_s, wrong_r}
use Rattle.meaning.specs.Translation.{code_e, code_a, code_d, code_c, code_s, code_r}
use Rattle.meaning.specs.Machine.{Machine, go, stop, on_frames, answered, stored_over, stored_in, storing, called}
use Rattle.meaning.specs.Meaning.{Answer, ok, Run, bind, Meant, a_value, a_location, a_function, a_procedure, Bound, Env, Store, value_at, lookup, Room, inside, opens, given, Calls, eval_e, eval_a, calls, Runs, eval_d, declared, assigns, enters_c, eval_c, eval_s, runs}
use Rattle.meaning.specs.Uses.{uses_e, uses_a, uses_d, uses_c, uses_s, uses_r}
use Rattle.meaning.specs.Pairs.{sort_of, names, scope_of}
use Rattle.meaning.proofs.Basics.{from_true, cons_nil, nil_left, nil_right, append_nil, length_snoc, value-slot}
use Rattle.meaning.proofs.Shades.{Cell, blank, fixed, located, show, Shades, ◌▸◌, shade, height, last, down, out, cell_at, shown, height-shown, slots-shown, last-shown, got_shown, whole, out_part, down-last}
use Rattle.meaning.proofs.Pieces.{Text, At, at_tail, at_end, at_length, split_e, split_a, split_d, split_c, split_s, split_r}
use Rattle.meaning.proofs.Meets.{mach, Visible, Meets, now, After, went, meets_bind, meets_map, meets_at, after_is, meets_line, meets_use, after_unless, after_branch, after-grown}
use Rattle.meaning.proofs.Chains.{room_of, Fits, Matches, Chain, Seen, seen, chain_stand, chain_deep, last_of}
use Rattle.meaning.proofs.Stores.{Sound, written_put, sound_left, sound_set, sound_like, sound_more, occ_fixed, occ_blanks, occ_append, occ_fill, sound_new, shown-append, value-last}
use Rattle.meaning.proofs.Expressions.{Lands, framed_fits, fill_act, given-names, given-cells, meets_value, meets_args, after-called, Right, good, good_a, calls_right}
use Rattle.meaning.proofs.Blocks.{names-append, names-declared, Plains, plains_snoc, fill_cells, blank_fits, blanks-shown, room_in, plain_matches, block_matches, meets_routines, routines_good}

-- a store in which the same frames stand, at j, no fewer steps
pub data LandsC (w : Shades) (j : ℕ) (vs : List Value) (rs : List ℕ) (s : ℕ) : Store → ℕ → Machine → Type 0 where
  lands_c : {st : Store} {u : ℕ} → s ≤ u → Sound st w → LandsC w j vs rs s st u (mach j vs rs (shown st w) u)

-- the data's names, and the frame that they fill; k slots are still to come
pub data LandsD (ds : Data) (k : ℕ) (P : Option ℕ) (w : Shades) (j : ℕ) (vs : List Value) (rs : List ℕ) (s : ℕ) : Bound × Store → ℕ → Machine → Type 0 where
  lands_d : {bs : Bound} {st : Store} {u : ℕ} (cl : List Cell) → s ≤ u → names bs ≡ data_names ds → Plains bs cl → length cl ≡ data_slots ds → Sound st (w ▸ shade (cl ++ replicate k blank) P) → LandsD ds k P w j vs rs s (bs, st) u (mach j vs rs (shown st (w ▸ shade (cl ++ replicate k blank) P)) u)

procedure_fits : (p m k : ℕ) → procedure_use p m (procedure k) ≡ [] → k ≡ m
procedure_fits p m k e = by (eqb k m) refl e
  where
    by : (b : Bool) → eqb k m ≡ b → cond b [] (wrong p WrongCount) ≡ [] → k ≡ m
    by true q e = eqb→eq k m (from_true _ q)
    by false q e = cons_nil e

variable-visible : (p : Place) (o : Option Use) → as_variable p o ≡ [] → Visible o
variable-visible p None e = cons_nil e
variable-visible p (Some u) e = tt

procedure-visible : (p n : ℕ) (o : Option Use) → as_procedure p n o ≡ [] → Visible o
procedure-visible p n None e = cons_nil e
procedure-visible p n (Some u) e = tt

-- STORE to a variable
store_act : (h o p i : ℕ) (v u : Value) (vs : List Value) (rs : List ℕ) (fs gs : Frames) (s : ℕ) → got fs h o ≡ Ok (slot_of u) → written fs h o (slot_of v) ≡ Rattle.frames.specs.Frames.done gs → storing h o (v ∷ vs) p (mach i (v ∷ vs) rs fs s) ≡ cond (alike u v) (go (mach (i + 1) vs rs gs s)) (stop fault.Kind p s)
store_act h o p i v u vs rs fs gs s e f =
    ap₂ (λ x (b : Built). stored_in x v (answered b.answer (on_frames (i + 1) vs b.after (mach i (v ∷ vs) rs fs s)) p (mach i (v ∷ vs) rs fs s)) p (mach i (v ∷ vs) rs fs s)) e f
    ∙ ap (λ (x : Option Value). stored_over x v (go (mach (i + 1) vs rs gs s)) p (mach i (v ∷ vs) rs fs s)) (value-slot u)

module _ (t : Text) where
  landing_c : {w : Shades} {j : ℕ} {vs : List Value} {rs : List ℕ} {s u : ℕ} {st : Store} (i : ℕ) → i ≡ j → s ≤ u → Sound st w → Meets t (LandsC w j vs rs s) (mach i vs rs (shown st w) u) (ok st u)
  landing_c i e l d = meets_at t e (now (lands_c l d))

  meets_store : {B : Type 0} {R : B → ℕ → Machine → Type 0} {m : Machine} {r : Answer Store} {w : Shades} {j : ℕ} {vs : List Value} {rs : List ℕ} {s : ℕ} (k : Store → Run B) → Meets t (LandsC w j vs rs s) m r → ((st : Store) (u : ℕ) → s ≤ u → Sound st w → Meets t R (mach j vs rs (shown st w) u) (k st u)) → Meets t R m (bind r k)
  meets_store {B} {R} {m} {r} {w} {j} {vs} {rs} {s} k x h = meets_bind t x by
    where
      by : (v : Store) (u : ℕ) (n : Machine) → LandsC w j vs rs s v u n → Meets t R n (k v u)
      by v u n (lands_c l d) = h v u l d

  weaker_c : {w : Shades} {j : ℕ} {vs : List Value} {rs : List ℕ} {s u : ℕ} {m : Machine} {r : Answer Store} → s ≤ u → Meets t (LandsC w j vs rs u) m r → Meets t (LandsC w j vs rs s) m r
  weaker_c {w} {j} {vs} {rs} {s} {u} l x = meets_map t by x
    where
      by : (v : Store) (n : ℕ) (k : Machine) → LandsC w j vs rs u v n k → LandsC w j vs rs s v n k
      by v n k (lands_c q d) = lands_c (omega arith) d

  meets_data : {B : Type 0} {R : B → ℕ → Machine → Type 0} {m : Machine} {q : Answer (Bound × Store)} {ds : Data} {k : ℕ} {P : Option ℕ} {w : Shades} {j : ℕ} {vs : List Value} {rs : List ℕ} {s : ℕ} (f : Bound × Store → Run B) → Meets t (LandsD ds k P w j vs rs s) m q → ((bs : Bound) (st : Store) (u : ℕ) (cl : List Cell) → s ≤ u → names bs ≡ data_names ds → Plains bs cl → length cl ≡ data_slots ds → Sound st (w ▸ shade (cl ++ replicate k blank) P) → Meets t R (mach j vs rs (shown st (w ▸ shade (cl ++ replicate k blank) P)) u) (f (bs, st) u)) → Meets t R m (bind q f)
  meets_data {B} {R} {m} {q} {ds} {k} {P} {w} {j} {vs} {rs} {s} f x h = meets_bind t x by
    where
      by : (v : Bound × Store) (u : ℕ) (m : Machine) → LandsD ds k P w j vs rs s v u m → Meets t R m (f v u)
      by v u m (lands_d {bs = bs} {st = st} cl l e p y d) = h bs st u cl l e p y d

  -- from sound frames that stand for the environment, the piece of code ends with the frames of the command's store, or faults, as the command does
  abbrev pub RightC : Runs → (ℕ → Type 0) → Command → Type 0
  RightC eval early c = (env : Env) (st : Store) (w : Shades) (vs : List Value) (rs : List ℕ) (i j s : ℕ) → early s → length rs < height w → wrong_c (scope_of env) c ≡ [] → At t i (code_c (scope_of env) c) (uses_c (scope_of env) c) j → Chain t env w → Sound st w → Meets t (LandsC w j vs rs s) (mach i vs rs (shown st w) s) (eval c env st (room_of w vs) s)

  module _ (cs : Calls) (rn : Runs) (n : ℕ) (h_e : (e : Expr) → Right t cs (λ s. (most_steps < n + s) × (s ≤ most_steps)) e) (h_c : (c : Command) → RightC rn (λ s. (most_steps < n + s) × (s ≤ most_steps)) c) where
    abbrev GoodC : Command → Type 0
    GoodC c = RightC (eval_c cs rn) (λ s. most_steps ≤ n + s) c

    write_good : (st : Store) (w : Shades) (vs : List Value) (v : Value) (rs : List ℕ) (i j p s u : ℕ) (r : Option (Meant × Env)) (o : Option Use) → s < u → i + 1 ≡ j → Sound st w → Seen t w r o → as_variable p o ≡ [] → After t (LandsC w j vs rs s) (storing (hops_of o) (offset_of o) (v ∷ vs) p (mach i (v ∷ vs) rs (shown st w) u)) (assigns r v st p u)
    write_good st w vs v rs i j p s u None None l ends d x g = cons_nil g
    write_good st w vs v rs i j p s u None (Some o) l ends d x g = absurd x
    write_good st w vs v rs i j p s u (Some a) None l ends d x g = absurd x
    write_good st w vs v rs i j p s u (Some a) (Some o) l ends d x g = by a.0 x.0 x.3
      where
        by : (f : Meant) → o.sort ≡ sort_of f → Fits t (scope_of a.1) f x.1 → After t (LandsC w j vs rs s) (storing o.hops o.offset (v ∷ vs) p (mach i (v ∷ vs) rs (shown st w) u)) (assigns (Some (f, a.1)) v st p u)
        by (a_value y) e f = cons_nil (subst (λ s. variable_use p s ≡ []) e g)
        by (a_function p' ps y) e f = cons_nil (subst (λ s. variable_use p s ≡ []) e g)
        by (a_procedure p' ps y) e f = cons_nil (subst (λ s. variable_use p s ≡ []) e g)
        by (a_location y) e f =
            let here : cell_at (out o.hops w) o.offset ≡ Some (located y) = x.2 ∙ ap {B = Option Cell} Some f in
            after_is t (store_act o.hops o.offset p i v (value_at st y) vs rs (shown st w) (shown (set st y v) w) u (got_shown st w o.hops o.offset (located y) here) (written_put st w o.hops o.offset y v d here))
            (after_unless t (alike (value_at st y) v) fault.Kind p u _ (went (landing_c (i + 1) ends (omega arith) (sound_set st w y v d))))

    assign_good : (p : Place) (z : Name) (e : Expr) → GoodC (assign p z e)
    unfolding code_c uses_c eval_c wrong_c
    assign_good p z e env st w vs rs i j s b q g a c d =
        let x = split_e t (scope_of env) e a in
        meets_value t _ (good t cs n h_e e env st w vs rs i x.0 s b q (nil_right _ _ g) x.1 c) λ v u l. meets_use t _ env st (variable-visible p _ (nil_left _ _ g)) (chain_stand t st env w c) x.2 λ l'.
        write_good st w vs v rs x.0 j p s (u + 1) (lookup z env) (find z (scope_of env)) (omega arith) (at_end t (at_tail t x.2)) d (seen t z env w c) (nil_left _ _ g)

    enter_good : (st : Store) (w : Shades) (us vs : List Value) (rs : List ℕ) (i j p y m s u : ℕ) (r : Option (Meant × Env)) (o : Option Use) → most_steps ≤ n + s → s < u → u ≤ most_steps → length rs < height w → i + 1 ≡ j → length us ≡ m → Sound st w → Seen t w r o → as_procedure y m o ≡ []
        → After t (LandsC w j vs rs s) (called (got (shown st w) (hops_of o) (offset_of o)) (hops_of o) m p (mach i (reverse_aux us vs) rs (shown st w) u)) (bind (opens m (room_of w vs) p u) (λ _. enters_c rn r us st (room_of w vs)))
    enter_good st w us vs rs i j p y m s u None None b l l' q ends k z x g = cons_nil g
    enter_good st w us vs rs i j p y m s u None (Some o) b l l' q ends k z x g = absurd x
    enter_good st w us vs rs i j p y m s u (Some d) None b l l' q ends k z x g = absurd x
    enter_good st w us vs rs i j p y m s u (Some d) (Some o) b l l' q ends k z x g = by d.0 x.0 x.3
      where
        by : (f : Meant) → o.sort ≡ sort_of f → Fits t (scope_of d.1) f x.1 → After t (LandsC w j vs rs s) (called (got (shown st w) o.hops o.offset) o.hops m p (mach i (reverse_aux us vs) rs (shown st w) u)) (bind (opens m (room_of w vs) p u) (λ _. enters_c rn (Some (f, d.1)) us st (room_of w vs)))
        by (a_value v) e f = cons_nil (subst (λ s. procedure_use y m s ≡ []) e g)
        by (a_location v) e f = cons_nil (subst (λ s. procedure_use y m s ≡ []) e g)
        by (a_function p' ps c) e f = cons_nil (subst (λ s. procedure_use y m s ≡ []) e g)
        by (a_procedure p' ps c) e f =
            let fits : length ps ≡ length us = procedure_fits y m (length ps) (subst (λ s. procedure_use y m s ≡ []) e g) ∙ sym k in
            let same_names : names (given ps us) ≡ params ps = given-names ps us fits in
            let body = split_c t (params ps ∷ scope_of d.1) c f.3 in
            let out-is = last_of (out o.hops w) o.offset x.1 x.2 in
            let up : Chain t d.1 (down (last (out o.hops w)) w) = subst (Chain t d.1) (sym (down-last (out_part o.hops w))) x.4 in
            let long : length ps ≡ length (map fixed us) = fits ∙ sym (length-map us fixed) in
            after-called t st w out-is.0 out-is.1 d.1 us vs rs i p m u o.hops o.offset f.0 _ (got_shown st w o.hops o.offset x.1 x.2 ∙ ap (λ (c : Cell). Ok (show st c)) f.2) out-is.2 x.4 f.4 k q
            (rw long (meets_store _ (h_c c (given ps us ∷ d.1) st (w ▸ shade (map fixed us) (last (out o.hops w))) vs ((i + 1) ∷ rs) f.0 body.0 u (omega arith, l') (omega arith) (rw same_names f.5) (rw same_names body.1) (given-cells t _ ps us, up) (sound_more st (map fixed us) (last (out o.hops w)) w (λ l. occ_fixed l us) z)) λ st₂ u₂ l₂ d₂. meets_line t _ body.2 λ _. went
            (landing_c _ ends (omega arith) (sound_left st₂ (shade (map fixed us) (last (out o.hops w))) w d₂))))

    perform_good : (p y : Place) (z : Name) (es : Args) → GoodC (perform p y z es)
    unfolding code_c code_a uses_c uses_a eval_c eval_a wrong_c wrong_a
    perform_good p y z es env st w vs rs i j s b q g a c d =
        let x = split_a t (scope_of env) es a in
        meets_args t _ (good_a t cs n h_e es env st w vs rs i x.0 s b q (nil_right _ _ g) x.1 c) λ us u l k. meets_use t _ env st (procedure-visible y (args es) _ (nil_left _ _ g)) (chain_stand t st env w c) x.2 λ l'.
        enter_good st w us vs rs x.0 j p y (args es) s (u + 1) (lookup z env) (find z (scope_of env)) b (omega arith) (omega arith) q (at_end t (at_tail t x.2)) k d (seen t z env w c) (nil_left _ _ g)

    fork_good : (p : Place) (e : Expr) (c₁ c₂ : Command) → GoodC c₁ → GoodC c₂ → GoodC (fork p e c₁ c₂)
    unfolding code_c uses_c eval_c wrong_c
    fork_good p e c₁ c₂ E F env st w vs rs i j s b q g a c d =
        let x = split_e t (scope_of env) e a in
        let y = split_c t (scope_of env) c₁ (at_tail t x.2) in
        let ends = at_length t (at_tail t y.2) in
        let mid = at_length t y.1 in
        let gs = nil_right (wrong_e (scope_of env) e) _ g in
        meets_value t _ (good t cs n h_e e env st w vs rs i x.0 s b q (nil_left _ _ g) x.1 c) λ v u l. meets_line t _ x.2 λ _. after_branch t x.0 _ v p _
        (meets_store _ (E env st w vs rs (x.0 + 1) y.0 (u + 1) (omega arith) q (nil_left _ _ gs) y.1 c d) λ st₂ u' l' d'. meets_line t _ y.2 λ _. went (landing_c _ (omega arith) (omega arith) d'))
        (meets_at t (omega arith) (weaker_c (omega arith) (F env st w vs rs (y.0 + 1) j (u + 1) (omega arith) q (nil_right _ _ gs) (at_tail t y.2) c d)))

    while_good : (p : Place) (e : Expr) (c₁ : Command) → GoodC c₁ → GoodC (while p e c₁)
    unfolding code_c code_e uses_c uses_e eval_c wrong_c
    while_good p e c₁ E env st w vs rs i j s b q g a c d =
        let x = split_e t (scope_of env) e a in
        let y = split_c t (scope_of env) c₁ (at_tail t x.2) in
        let begin = at_length t x.1 in
        let mid = at_length t y.1 in
        let ends = at_end t (at_tail t y.2) in
        meets_value t _ (good t cs n h_e e env st w vs rs i x.0 s b q (nil_left _ _ g) x.1 c) λ v u l. meets_line t _ x.2 λ _. after_branch t x.0 _ v p _
        (meets_store _ (E env st w vs rs (x.0 + 1) y.0 (u + 1) (omega arith) q (nil_right _ _ g) y.1 c d) λ st₂ u' l' d'. meets_line t _ y.2 λ l₂. went (meets_at t (omega arith) (weaker_c (omega arith) (h_c (while p e c₁) env st₂ w vs rs i j (u' + 1) (omega arith, omega arith) q g a c d'))))
        (landing_c _ (omega arith) (omega arith) d)

    abbrev GoodS : Commands → Type 0
    GoodS c = (env : Env) (st : Store) (w : Shades) (vs : List Value) (rs : List ℕ) (i j s : ℕ) → most_steps ≤ n + s → length rs < height w → wrong_s (scope_of env) c ≡ [] → At t i (code_s (scope_of env) c) (uses_s (scope_of env) c) j → Chain t env w → Sound st w → Meets t (LandsC w j vs rs s) (mach i vs rs (shown st w) s) (eval_s cs rn c env st (room_of w vs) s)

    none_good : GoodS no_commands
    unfolding code_s uses_s eval_s
    none_good env st w vs rs i j s b q g a c d = landing_c i (at_end t a) (omega arith) d

    then_good : (es : Commands) (e : Command) → GoodS es → GoodC e → GoodS (then es e)
    unfolding code_s uses_s eval_s wrong_s
    then_good es e Es E env st w vs rs i j s b q g a c d =
        let x = split_s t (scope_of env) es a in
        meets_store _ (Es env st w vs rs i x.0 s b q (nil_left _ _ g) x.1 c d) λ st₂ u l d'. weaker_c l (E env st₂ w vs rs x.0 j u (omega arith) q (nil_right _ _ g) x.2 c d')

    -- what the two kinds of datum have in common: the value, and FILL
    datum_good : {B : Type 0} {R : B → ℕ → Machine → Type 0} (ds : Data) (e : Expr) (k N : ℕ) (P : Option ℕ) (w : Shades) (env : Env) (vs : List Value) (rs : List ℕ) (i j s : ℕ) (F : Value → Run B) (bs : Bound) (st : Store) (cl : List Cell)
        → most_steps ≤ n + s → length rs < suc (height w) → wrong_e (data_names ds ∷ scope_of env) e ≡ [] → At t i (code_e (data_names ds ∷ scope_of env) e) (uses_e (data_names ds ∷ scope_of env) e) j → Chain t env (down P w) → N ≡ suc (data_slots ds) + k → names bs ≡ data_names ds → Plains bs cl → length cl ≡ data_slots ds
        → ((v : Value) (u : ℕ) → s ≤ u → Meets t R (mach j (v ∷ vs) rs (shown st (w ▸ shade (cl ++ (blank ∷ replicate k blank)) P)) u) (F v u))
        → Meets t R (mach i vs rs (shown st (w ▸ shade (cl ++ (blank ∷ replicate k blank)) P)) s) (bind (eval_e cs e (bs ∷ env) st (inside N (room_of w vs)) s) F)
    datum_good ds e k N P w env vs rs i j s F bs st cl b q g a c m ns pl len h =
        let W : Shades = w ▸ shade (cl ++ (blank ∷ replicate k blank)) P in
        let room : room_of W vs ≡ inside N (room_of w vs) = room_in w (cl ++ (blank ∷ replicate k blank)) P vs N (let x = length-append cl (blank ∷ replicate k blank) in let y = length-replicate k blank in omega arith) in
        meets_value t _ (subst (λ (r : Room). Meets t (Lands j vs rs (shown st W) s) (mach i vs rs (shown st W) s) (eval_e cs e (bs ∷ env) st r s)) room
        (good t cs n h_e e (bs ∷ env) st W vs rs i j s b q (subst (λ (ns : Names). wrong_e (ns ∷ scope_of env) e ≡ []) (sym ns) g) (subst (λ (ns : Names). At t i (code_e (ns ∷ scope_of env) e) (uses_e (ns ∷ scope_of env) e) j) (sym ns) a) (plain_matches t _ bs cl (blank ∷ replicate k blank) pl, c))) h

    filled-shown : (st : Store) (w : Shades) (cl es : List Cell) (c : Cell) (v : Value) (P : Option ℕ) (o : ℕ) → o ≡ length cl → show st c ≡ slot_of v → shown st w ▷ filled (record { slots = map (show st) (cl ++ (blank ∷ es)); parent = P }) o (slot_of v) ≡ shown st (w ▸ shade ((cl ++ (c ∷ [])) ++ es) P)
    filled-shown st w cl es c v P o e f = ap (λ (ss : List Slot). shown st w ▷ record { slots = ss; parent = P }) (ap₂ (λ (n : ℕ) (x : Slot). set (map (show st) (cl ++ (blank ∷ es))) n x) e (sym f) ∙ fill_cells st cl es c)

    data_good : (ds : Data) (k N : ℕ) (P : Option ℕ) (w : Shades) (env : Env) (st : Store) (vs : List Value) (rs : List ℕ) (i j s : ℕ) → most_steps ≤ n + s → length rs < suc (height w) → wrong_d (scope_of env) ds ≡ [] → At t i (code_d (scope_of env) ds) (uses_d (scope_of env) ds) j → Chain t env (down P w) → Sound st w → N ≡ data_slots ds + k
        → Meets t (LandsD ds k P w j vs rs s) (mach i vs rs (shown st (w ▸ shade (replicate N blank) P)) s) (eval_d cs ds env st (inside N (room_of w vs)) s)
    unfolding code_d uses_d eval_d wrong_d
    data_good no_data k N P w env st vs rs i j s b q g a c d m =
        subst₂ (λ (j N : ℕ). Meets t (LandsD no_data k P w j vs rs s) (mach i vs rs (shown st (w ▸ shade (replicate N blank) P)) s) (ok ([], st) s)) (at_end t a) (sym (m ∙ zero-add k)) (now (lands_d {u = s} [] (omega arith) refl tt refl (sound_more st (replicate k blank) P w (λ l. occ_blanks l k) d)))
    data_good (const ds p y x e) k N P w env st vs rs i j s b q g a c d m =
        let z = split_d t (scope_of env) ds a in
        let z₂ = split_e t (data_names ds ∷ scope_of env) e z.2 in
        let gs = nil_left _ _ (nil_right (wrong_d (scope_of env) ds) _ g) in
        meets_data _ (data_good ds (suc k) N P w env st vs rs i z.0 s b q (nil_left _ _ g) z.1 c d (omega arith)) λ bs st₁ u cl l ns pl len d₁.
        datum_good ds e k N P w env vs rs z.0 z₂.0 u _ bs st₁ cl (omega arith) q gs z₂.1 c m ns pl len λ v u₂ l₂. meets_line t _ z₂.2 λ _.
        after_is t (fill_act (data_slots ds) Constant p z₂.0 v vs rs (shown st₁ w) _ (u₂ + 1) (let f = blank_fits st₁ cl (replicate k blank) in omega arith) ∙ ap (λ (fs : Frames). go (mach (z₂.0 + 1) vs rs fs (u₂ + 1))) (filled-shown st₁ w cl (replicate k blank) (fixed v) v P (data_slots ds) (sym len) refl))
        (went (meets_at t (at_end t (at_tail t z₂.2)) (now (lands_d (cl ++ (fixed v ∷ [])) (omega arith) (names-append bs _ ∙ ap (λ (ns : Names). ns ++ ((x, constant) ∷ [])) ns) (plains_snoc bs cl x (a_value v) (fixed v) pl refl) (length_snoc cl (fixed v) ∙ ap suc len)
        (sound_like st₁ (cl ++ (blank ∷ replicate k blank)) ((cl ++ (fixed v ∷ [])) ++ replicate k blank) P P w (λ l. occ_fill l cl (replicate k blank) (fixed v) ∙ zero-add _) d₁)))))
    data_good (var ds p y x e) k N P w env st vs rs i j s b q g a c d m =
        let z = split_d t (scope_of env) ds a in
        let z₂ = split_e t (data_names ds ∷ scope_of env) e z.2 in
        let gs = nil_left _ _ (nil_right (wrong_d (scope_of env) ds) _ g) in
        meets_data _ (data_good ds (suc k) N P w env st vs rs i z.0 s b q (nil_left _ _ g) z.1 c d (omega arith)) λ bs st₁ u cl l ns pl len d₁.
        datum_good ds e k N P w env vs rs z.0 z₂.0 u _ bs st₁ cl (omega arith) q gs z₂.1 c m ns pl len λ v u₂ l₂.
        let W : Shades = w ▸ shade (cl ++ (blank ∷ replicate k blank)) P in
        let su : Store = st₁ ++ (v ∷ []) in
        rw (shown-append st₁ v W d₁) (meets_line t _ z₂.2 λ _.
        after_is t (fill_act (data_slots ds) Variable p z₂.0 v vs rs (shown su w) _ (u₂ + 1) (let f = blank_fits su cl (replicate k blank) in omega arith) ∙ ap (λ (fs : Frames). go (mach (z₂.0 + 1) vs rs fs (u₂ + 1))) (filled-shown su w cl (replicate k blank) (located (length st₁)) v P (data_slots ds) (sym len) (ap slot_of (value-last st₁ v))))
        (went (meets_at t (at_end t (at_tail t z₂.2)) (now (lands_d (cl ++ (located (length st₁) ∷ [])) (omega arith) (names-append bs _ ∙ ap (λ (ns : Names). ns ++ ((x, variable) ∷ [])) ns) (plains_snoc bs cl x (a_location (length st₁)) (located (length st₁)) pl refl) (length_snoc cl (located (length st₁)) ∙ ap suc len)
        (sound_new st₁ v (cl ++ (blank ∷ replicate k blank)) ((cl ++ (located (length st₁) ∷ [])) ++ replicate k blank) P w (λ l. occ_fill l cl (replicate k blank) (located (length st₁))) d₁))))))

    block_good : (p : Place) (ds : Data) (rt : Routines) (es : Commands) → GoodS es → GoodC (block p ds rt es)
    unfolding code_c code_d uses_c uses_d eval_c eval_d wrong_c wrong_d
    block_good p ds rt es Es env st w vs rs i j s b q g a c d =
        let N : ℕ = data_slots ds + routine_slots rt in
        let full : Names = block_names ds rt in
        let x = split_d t (scope_of env) ds (at_tail t a) in
        let y = split_r t (data_slots ds) (full ∷ scope_of env) rt x.2 in
        let z = split_s t (full ∷ scope_of env) es y.2 in
        let gs = framed_fits p (scope_of env) _ g in
        let g₂ = nil_right (wrong_n (data_names ds) rt) _ (nil_right (wrong_d (scope_of env) ds) _ gs.1) in
        let up : Chain t env (down (last w) w) = subst (Chain t env) (sym (down-last whole)) c in
        meets_line t _ a λ _.
        after-grown t N (shown st w) (shown st w) (room_of w vs) p (s + 1) (mach i vs rs (shown st w) (s + 1)) (λ fs. go (mach (i + 1) vs rs fs (s + 1))) _ refl (height-shown st w) (slots-shown st w) (chain_deep t st env w c gs.0) (λ _. went (rw (last-shown st w, blanks-shown st N)
        (meets_data _ (data_good ds (routine_slots rt) N (last w) w env st vs rs (i + 1) x.0 (s + 1) (omega arith) (omega arith) (nil_left _ _ gs.1) x.1 up d refl) λ bs st₁ u₁ cl l₁ ns pl len d₁.
        let same_names : block_names ds rt ≡ names (bs ++ declared rt) = sym (names-append bs (declared rt) ∙ ap₂ ◌++◌ ns (names-declared rt)) in
        meets_routines t _ (routines_good t rt 0 (data_slots ds) (routine_slots rt) (names (bs ++ declared rt) ∷ scope_of env) (last w) w st₁ cl vs rs x.0 y.0 u₁ (omega arith) (sym len) (subst (λ (ns : Names). wrong_r (ns ∷ scope_of env) rt ≡ []) same_names (nil_left _ _ g₂)) (subst (λ (ns : Names). At t x.0 (code_r (data_slots ds) (ns ∷ scope_of env) rt) (uses_r (ns ∷ scope_of env) rt) y.0) same_names y.1)) λ u₂ ec l₂ m₂ k₂ z₂.
        let W₂ : Shades = w ▸ shade (cl ++ (ec ++ [])) (last w) in
        let long = length-append cl (ec ++ []) in
        let longer = length-append ec [] in
        let room₂ : room_of W₂ vs ≡ inside N (room_of w vs) = room_in w (cl ++ (ec ++ [])) (last w) vs N (omega arith) in
        let sound₂ : Sound st₁ W₂ = sound_like st₁ (cl ++ replicate (routine_slots rt) blank) (cl ++ (ec ++ [])) (last w) (last w) w (λ l. let o₁ = occ_append l cl (ec ++ []) in let o₂ = occ_append l ec [] in let o₃ = occ_append l cl (replicate (routine_slots rt) blank) in let o₄ = occ_blanks l (routine_slots rt) in let o₅ = z₂ l in omega arith) d₁ in
        meets_store _ (subst (λ (r : Room). Meets t (LandsC W₂ z.0 vs rs u₂) (mach y.0 vs rs (shown st₁ W₂) u₂) (eval_s cs rn es ((bs ++ declared rt) ∷ env) st₁ r u₂)) room₂
        (Es ((bs ++ declared rt) ∷ env) st₁ W₂ vs rs y.0 z.0 u₂ (omega arith) (omega arith) (subst (λ (ns : Names). wrong_s (ns ∷ scope_of env) es ≡ []) same_names (nil_right _ _ g₂)) (subst (λ (ns : Names). At t y.0 (code_s (ns ∷ scope_of env) es) (uses_s (ns ∷ scope_of env) es) z.0) same_names z.1) (block_matches t _ bs cl (declared rt) (ec ++ []) pl (subst (Matches t _ (declared rt)) (sym (append_nil ec)) m₂), up) sound₂)) λ st₃ u₃ l₃ d₃. meets_line t _ z.2 λ _. went
        (landing_c _ (at_end t (at_tail t z.2)) (omega arith) (sound_left st₃ (shade (cl ++ (ec ++ [])) (last w)) w d₃)))))

    mutual
      good_c : (c : Command) → GoodC c
      good_c (block p ds rt es) = block_good p ds rt es (good_s es)
      good_c (assign p x e) = assign_good p x e
      good_c (perform p q x es) = perform_good p q x es
      good_c (fork p e c d) = fork_good p e c d (good_c c) (good_c d)
      good_c (while p e c) = while_good p e c (good_c c)

      good_s : (c : Commands) → GoodS c
      good_s no_commands = none_good
      good_s (then es e) = then_good es e (good_s es) (good_c e)

  pub runs_right : (n : ℕ) (c : Command) → RightC (runs n) (λ s. (most_steps < n + s) × (s ≤ most_steps)) c
  unfolding runs
  runs_right zero c env st w vs rs i j s b q g a k d = absurd (omega arith)
  runs_right (suc n) c env st w vs rs i j s b q g a k d = good_c (calls n) (runs n) n (calls_right t n) (runs_right n) c env st w vs rs i j s (omega arith) q g a k d
