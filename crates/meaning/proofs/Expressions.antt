-- The code of an expression does what the expression means.
use Rattle.std.proofs.Common.{◌≡◌, ℕ, zero, suc, ◌+◌, ◌<◌, ◌≤◌, Bool, true, false, cond, eqb, ltb, leb, List, [], ◌∷◌, ◌++◌, map, length, set, replicate, Some, None, Ok, Err, Option, sym, refl, ap, ◌∙◌, subst, ap₂, subst₂, zero-add, arith, eqb→eq, ltb→lt, length-append}
use mathlib.Core.List.{reverse_aux}
use lib.ListN.{length-map, length-replicate, length-reverse_aux}
use Rattle.lang.specs.declared.name.Name.{Name}
use Rattle.lang.specs.declared.value.Value.{Value}
use Rattle.lang.specs.declared.value.Slot.{Slot}
use Rattle.lang.specs.declared.value.Slot.TheVariants as slot
use Rattle.lang.specs.Values.{slot_of, value_in}
use Rattle.lang.specs.declared.fault.Fault.TheVariants as fault
use Rattle.lang.specs.declared.refusal.Refusal.TheVariants.{ScopesTooDeep, WrongCount}
use Rattle.lang.specs.declared.refusal.Refused.{Refused}
use Rattle.lang.specs.declared.instruction.Binding.{Binding}
use Rattle.lang.specs.declared.instruction.Binding.TheVariants.{Constant}
use Rattle.lang.specs.declared.instruction.Instruction.{Instruction}
use Rattle.lang.specs.declared.instruction.Instruction.TheVariants.{Fill, And, Or}
use Rattle.frames.specs.Frames.{Frame, Frames, ◌▷◌, count, got, Built, deep, fresh, filled}
use Rattle.meaning.specs.Tree.{Place, Sign, minus, negate, Operator, add, sub, mul, equal, less, Expr, number, truth, read, signed, binary, both, either, choose, local, apply, Args, no_args, arg, args, Parameter}
use Rattle.meaning.specs.Limits.{most_steps, most_nested, most_returns}
use Rattle.meaning.specs.Scopes.{Scope, constant, function, Use, find, hops_of, offset_of, params}
use Rattle.meaning.specs.Violations.{wrong, value_use, as_value, function_use, as_function, framed, wrong_e, wrong_a}
use Rattle.meaning.specs.Operators.{Worked, worked, conjoined, disjoined, with_sign}
use Rattle.meaning.specs.Translation.{line, sign_code, operator_code, code_e, code_a}
use Rattle.meaning.specs.Machine.{Machine, go, stuck, on_frames, pushed, loaded_value, loaded, gives, on_one, on_two, answered, moved, called_at, called, act}
use Rattle.meaning.specs.Meaning.{Answer, ok, Run, bind, ◌>>=◌, ◌>>◌, tick, settle, Meant, a_value, a_location, a_function, a_procedure, Env, Store, value_at, lookup, Room, waits, opens, value_of, given, Calls, enters_e, eval_e, eval_a, calls}
use Rattle.meaning.specs.Uses.{none as no_use, uses_e, uses_a}
use Rattle.meaning.specs.Pairs.{sort_of, names, scope_of}
use Rattle.meaning.proofs.Basics.{from_true, ltb_true, cons_nil, nil_left, nil_right, append_nil, reverse_snoc, length_snoc, value-slot}
use Rattle.meaning.proofs.Shades.{Cell, blank, fixed, show, Shade, Shades, ◌▸◌, shade, height, slots, last, down, out, shown, height-shown, slots-shown, last-shown, out_shown, got_shown, whole, out_part, down-last, written_last}
use Rattle.meaning.proofs.Pieces.{Text, At, at_tail, at_end, at_length, split_e, split_a}
use Rattle.meaning.proofs.Meets.{mach, Visible, Meets, now, After, went, halted, meets_bind, meets_map, meets_at, after_is, meets_line, meets_use, after-faults, after_branch, after-grown, after-entered}
use Rattle.meaning.proofs.Chains.{room_of, Fits, Matches, Chain, Seen, seen, chain_stand, chain_deep, last_of}

-- a value more, at j, no fewer steps
pub data Lands (j : ℕ) (vs : List Value) (rs : List ℕ) (fs : Frames) (s : ℕ) : Value → ℕ → Machine → Type 0 where
  lands : {v : Value} {u : ℕ} → s ≤ u → Lands j vs rs fs s v u (mach j (v ∷ vs) rs fs u)

-- the args' values, the last on top
pub data LandsA (es : Args) (j : ℕ) (vs : List Value) (rs : List ℕ) (fs : Frames) (s : ℕ) : List Value → ℕ → Machine → Type 0 where
  lands_a : {us : List Value} {u : ℕ} → s ≤ u → length us ≡ args es → LandsA es j vs rs fs s us u (mach j (reverse_aux us vs) rs fs u)

-- what the violations of a construct with a frame say of it
pub framed_fits : (p : Place) (g : Scope) (vs : List Refused) → framed p g vs ≡ [] → (length g < most_nested) × (vs ≡ [])
framed_fits p g vs e = by (ltb (length g) most_nested) refl e
  where
    by : (b : Bool) → ltb (length g) most_nested ≡ b → cond b vs (wrong p ScopesTooDeep) ≡ [] → (length g < most_nested) × (vs ≡ [])
    by true q e = (ltb→lt (length g) most_nested (from_true _ q), e)
    by false q e = cons_nil e

sign_act : (o : Sign) (p : Place) (m : Machine) → act (sign_code o) p m ≡ on_one (with_sign o) m.values p m
sign_act minus p m = refl
sign_act negate p m = refl

operator_act : (o : Operator) (p : Place) (m : Machine) → act (operator_code o) p m ≡ on_two (worked o) m.values p m
operator_act add p m = refl
operator_act sub p m = refl
operator_act mul p m = refl
operator_act equal p m = refl
operator_act less p m = refl

pub fill_act : (o : ℕ) (b : Binding) (p i : ℕ) (v : Value) (vs : List Value) (rs : List ℕ) (fs : Frames) (f : Frame) (s : ℕ) → o < length f.slots → act (Fill o b) p (mach i (v ∷ vs) rs (fs ▷ f) s) ≡ go (mach (i + 1) vs rs (fs ▷ filled f o (slot_of v)) s)
fill_act o b p i v vs rs fs f s l = ap (λ (b : Built). answered b.answer (on_frames (i + 1) vs b.after (mach i (v ∷ vs) rs (fs ▷ f) s)) p (mach i (v ∷ vs) rs (fs ▷ f) s)) (written_last fs f o (slot_of v) l)

-- a name without violations is visible
value-visible : (p : Place) (o : Option Use) → as_value p o ≡ [] → Visible o
value-visible p None e = cons_nil e
value-visible p (Some u) e = tt

function-visible : (p n : ℕ) (o : Option Use) → as_function p n o ≡ [] → Visible o
function-visible p n None e = cons_nil e
function-visible p n (Some u) e = tt

-- args move into a new frame
set_unset : (m : ℕ) (ss : List Slot) (v : Slot) → set (replicate (suc m) slot.Unset ++ ss) m v ≡ replicate m slot.Unset ++ (v ∷ ss)
set_unset zero ss v = refl
set_unset (suc m) ss v = ap (λ (r : List Slot). slot.Unset ∷ r) (set_unset m ss v)

unset_length : (m : ℕ) (ss : List Slot) → m < length (replicate (suc m) slot.Unset ++ ss)
unset_length m ss = let x = length-append (replicate (suc m) slot.Unset) ss in let y = length-replicate m slot.Unset in omega arith

moved_more : (us vs : List Value) (m : ℕ) (fs : Frames) (ss : List Slot) (P : Option ℕ) → moved (length us + m) (reverse_aux us vs) (fs ▷ record { slots = replicate (length us + m) slot.Unset ++ ss; parent = P }) ≡ moved m vs (fs ▷ record { slots = replicate m slot.Unset ++ (map slot_of us ++ ss); parent = P })
moved_more [] vs m fs ss P = ap (λ (k : ℕ). moved k vs (fs ▷ record { slots = replicate k slot.Unset ++ ss; parent = P })) (zero-add m)
moved_more (u ∷ us) vs m fs ss P = ap (λ (k : ℕ). moved k (reverse_aux us (u ∷ vs)) (fs ▷ record { slots = replicate k slot.Unset ++ ss; parent = P })) (omega arith)
    ∙ moved_more us (u ∷ vs) (suc m) fs ss P
    ∙ ap (λ (b : Built). moved m vs b.after) (written_last fs (record { slots = replicate (suc m) slot.Unset ++ (map slot_of us ++ ss); parent = P }) m (slot_of u) (unset_length m (map slot_of us ++ ss)))
    ∙ ap (λ (r : List Slot). moved m vs (fs ▷ record { slots = r; parent = P })) (set_unset m (map slot_of us ++ ss) (slot_of u))

moved_all : (us vs : List Value) (n : ℕ) (fs : Frames) (P : Option ℕ) → length us ≡ n → moved n (reverse_aux us vs) (fs ▷ fresh n P) ≡ Some (vs, fs ▷ record { slots = map slot_of us; parent = P })
moved_all us vs n fs P e = ap₂ (λ (k : ℕ) (r : List Slot). moved k (reverse_aux us vs) (fs ▷ record { slots = r; parent = P })) (omega arith) (sym (append_nil (replicate n slot.Unset)) ∙ ap (λ (k : ℕ). replicate k slot.Unset ++ []) (omega arith))
    ∙ moved_more us vs 0 fs [] P
    ∙ ap (λ (r : List Slot). Some (vs, fs ▷ record { slots = r; parent = P })) (append_nil (map slot_of us))

pub fixed_shown : (st : Store) (us : List Value) → map (show st) (map fixed us) ≡ map slot_of us
fixed_shown st [] = refl
fixed_shown st (u ∷ us) = ap (λ (r : List Slot). slot_of u ∷ r) (fixed_shown st us)

pub given-names : (ps : List Parameter) (us : List Value) → length ps ≡ length us → names (given ps us) ≡ params ps
given-names [] us e = refl
given-names (x ∷ ps) [] e = absurd (omega arith)
given-names (x ∷ ps) (u ∷ us) e = ap (λ ns. (x.name, constant) ∷ ns) (given-names ps us (omega arith))

-- a call has as many args as there are parameters
pub count_fits : (p m k : ℕ) → function_use p m (function k) ≡ [] → k ≡ m
count_fits p m k e = by (eqb k m) refl e
  where
    by : (b : Bool) → eqb k m ≡ b → cond b [] (wrong p WrongCount) ≡ [] → k ≡ m
    by true q e = eqb→eq k m (from_true _ q)
    by false q e = cons_nil e

-- rooms
waits-room : (n f k l : ℕ) → waits n (record { frames = f; slots = k; waiting = l }) ≡ record { frames = f; slots = k; waiting = n + l }
waits-room zero f k l = ap (λ (m : ℕ). record { frames = f; slots = k; waiting = m }) (sym (zero-add l))
waits-room (suc n) f k l = ap (λ (m : ℕ). record { frames = f; slots = k; waiting = m }) (ap suc (ap (λ (r : Room). r.waiting) (waits-room n f k l)) ∙ omega arith)

room-args : (w : Shades) (us vs : List Value) (n : ℕ) → length us ≡ n → room_of w (reverse_aux us vs) ≡ waits n (room_of w vs)
room-args w us vs n e = ap (λ (m : ℕ). record { frames = height w; slots = slots w; waiting = m }) (length-reverse_aux us vs ∙ ap (λ (m : ℕ). m + length vs) e) ∙ sym (waits-room n (height w) (slots w) (length vs))

pub given-cells : (t : Text) (g : Scope) (ps : List Parameter) (us : List Value) → Matches t g (given ps us) (map fixed us)
given-cells t g [] us = tt
given-cells t g (x ∷ ps) [] = tt
given-cells t g (x ∷ ps) (u ∷ us) = (refl, given-cells t g ps us)

module _ (t : Text) where
  pub landing : {j : ℕ} {vs : List Value} {rs : List ℕ} {fs : Frames} {s u : ℕ} {v : Value} (i : ℕ) → i ≡ j → s ≤ u → Meets t (Lands j vs rs fs s) (mach i (v ∷ vs) rs fs u) (ok v u)
  landing {j} {vs} {rs} {fs} {s} {u} {v} i e l = meets_at t e (now (lands l))

  pub meets_value : {B : Type 0} {R : B → ℕ → Machine → Type 0} {m : Machine} {r : Answer Value} {j : ℕ} {vs : List Value} {rs : List ℕ} {fs : Frames} {s : ℕ} (k : Value → Run B) → Meets t (Lands j vs rs fs s) m r → ((v : Value) (u : ℕ) → s ≤ u → Meets t R (mach j (v ∷ vs) rs fs u) (k v u)) → Meets t R m (bind r k)
  meets_value {B} {R} {m} {r} {j} {vs} {rs} {fs} {s} k x h = meets_bind t x by
    where
      by : (v : Value) (u : ℕ) (n : Machine) → Lands j vs rs fs s v u n → Meets t R n (k v u)
      by v u n (lands l) = h v u l

  pub meets_args : {B : Type 0} {R : B → ℕ → Machine → Type 0} {m : Machine} {r : Answer (List Value)} {es : Args} {j : ℕ} {vs : List Value} {rs : List ℕ} {fs : Frames} {s : ℕ} (k : List Value → Run B) → Meets t (LandsA es j vs rs fs s) m r → ((us : List Value) (u : ℕ) → s ≤ u → length us ≡ args es → Meets t R (mach j (reverse_aux us vs) rs fs u) (k us u)) → Meets t R m (bind r k)
  meets_args {B} {R} {m} {r} {es} {j} {vs} {rs} {fs} {s} k x h = meets_bind t x by
    where
      by : (v : List Value) (u : ℕ) (n : Machine) → LandsA es j vs rs fs s v u n → Meets t R n (k v u)
      by v u n (lands_a l e) = h v u l e

  pub weaker : {j : ℕ} {vs : List Value} {rs : List ℕ} {fs : Frames} {s u : ℕ} {m : Machine} {r : Answer Value} → s ≤ u → Meets t (Lands j vs rs fs u) m r → Meets t (Lands j vs rs fs s) m r
  weaker {j} {vs} {rs} {fs} {s} {u} l x = meets_map t by x
    where
      by : (v : Value) (n : ℕ) (k : Machine) → Lands j vs rs fs u v n k → Lands j vs rs fs s v n k
      by v n k (lands q) = lands (omega arith)

  after-settle : {j s u : ℕ} {vs : List Value} {rs : List ℕ} {fs : Frames} (i : ℕ) (ws : List Value) (g : Worked) (p : Place) → i + 1 ≡ j → s ≤ u → After t (Lands j vs rs fs s) (gives g vs p (mach i ws rs fs u)) (settle g p u)
  after-settle i ws (Ok w) p e l = went (landing (i + 1) e l)
  after-settle i ws (Err f) p e l = halted

  -- a name's slot gives its value
  name_load : (st : Store) (w : Shades) (p : Place) (m : Machine) (r : Option (Meant × Env)) (o : Option Use) → Seen t w r o → as_value p o ≡ [] → loaded (got (shown st w) (hops_of o) (offset_of o)) p m ≡ pushed (value_of r st) p m
  name_load st w p m None None x g = cons_nil g
  name_load st w p m None (Some u) x g = absurd x
  name_load st w p m (Some b) None x g = absurd x
  name_load st w p m (Some b) (Some u) x g = ap (λ q. loaded q p m) (got_shown st w u.hops u.offset x.1 x.2) ∙ by b.0 x.0 x.3
    where
      by : (d : Meant) → u.sort ≡ sort_of d → Fits t (scope_of b.1) d x.1 → loaded_value (value_in (show st x.1)) p m ≡ pushed (value_of (Some (d, b.1)) st) p m
      by (a_value v) e q = ap (λ (c : Cell). loaded_value (value_in (show st c)) p m) q ∙ ap (λ (o : Option Value). loaded_value o p m) (value-slot v)
      by (a_location l) e q = ap (λ (c : Cell). loaded_value (value_in (show st c)) p m) q ∙ ap (λ (o : Option Value). loaded_value o p m) (value-slot (value_at st l))
      by (a_function q ps f) e q' = cons_nil (subst (λ s. value_use p s ≡ []) e g)
      by (a_procedure q ps f) e q' = cons_nil (subst (λ s. value_use p s ≡ []) e g)

  -- a call: the args move into a frame whose parent has the routine, and the body is gone to
  pub after-called : {A : Type 0} {Q : A → ℕ → Machine → Type 0} (st : Store) (w v : Shades) (f : Shade) (env : Env) (us vs : List Value) (rs : List ℕ) (i p m u h o k : ℕ) (K : Unit {0} → Run A) → got (shown st w) h o ≡ Ok (slot.Position k) → out h w ≡ v ▸ f → Chain t env (out h w) → length (scope_of env) < most_nested → length us ≡ m → length rs < height w
      → Meets t Q (mach k vs ((i + 1) ∷ rs) (shown st (w ▸ shade (map fixed us) (last (out h w)))) u) (K tt u)
      → After t Q (called (got (shown st w) h o) h m p (mach i (reverse_aux us vs) rs (shown st w) u)) (bind (opens m (room_of w vs) p u) K)
  after-called {A} {Q} st w v f env us vs rs i p m u h o k K e z c d l q x =
      subst (λ y. After t Q (called y h m p (mach i (reverse_aux us vs) rs (shown st w) u)) (bind (opens m (room_of w vs) p u) K)) (sym e)
      (after-entered t h m (shown st w) (shown st v) (record { slots = map (show st) f.cells; parent = f.parent }) (room_of w vs) p u (mach i (reverse_aux us vs) rs (shown st w) u) (λ fs. called_at k (moved m (reverse_aux us vs) fs) (mach i (reverse_aux us vs) rs (shown st w) u)) K
      (out_shown st h w ∙ ap (shown st) z) refl (height-shown st w) (slots-shown st w) (subst (λ (y : Shades). deep (shown st y) ≡ false) z (chain_deep t st env (out h w) c d))
      (λ few. after_is t (ap (λ y. called_at k y (mach i (reverse_aux us vs) rs (shown st w) u)) (moved_all us vs m (shown st w) (Some (count (shown st v))) l)
      ∙ ap (λ (b : Bool). cond b (go (mach k vs ((i + 1) ∷ rs) (shown st w ▷ record { slots = map slot_of us; parent = Some (count (shown st v)) }) u)) stuck) (ltb_true (length rs) most_returns (let y = height-shown st w in omega arith)))
      (went (subst₂ (λ (ss : List Slot) (P : Option ℕ). Meets t Q (mach k vs ((i + 1) ∷ rs) (shown st w ▷ record { slots = ss; parent = P }) u) (K tt u)) (fixed_shown st us) (ap last z ∙ sym (last-shown st (v ▸ f))) x))))

  -- from frames that stand for the environment, the piece of code ends with the value on top, or faults, as the expression does
  abbrev pub Right : Calls → (ℕ → Type 0) → Expr → Type 0
  Right eval early e = (env : Env) (st : Store) (w : Shades) (vs : List Value) (rs : List ℕ) (i j s : ℕ) → early s → length rs < height w → wrong_e (scope_of env) e ≡ [] → At t i (code_e (scope_of env) e) (uses_e (scope_of env) e) j → Chain t env w → Meets t (Lands j vs rs (shown st w) s) (mach i vs rs (shown st w) s) (eval e env st (room_of w vs) s)

  module _ (cs : Calls) (n : ℕ) (h : (e : Expr) → Right cs (λ s. (most_steps < n + s) × (s ≤ most_steps)) e) where
    abbrev pub Good : Expr → Type 0
    Good e = Right (eval_e cs) (λ s. most_steps ≤ n + s) e

    number_good : (p : Place) (k : ℕ) → Good (number p k)
    unfolding code_e uses_e eval_e
    number_good p k env st w vs rs i j s b q g a c = meets_line t _ a λ l. after-faults t (leb 512 (length vs)) fault.Values p (s + 1) _ (went (landing (i + 1) (at_end t (at_tail t a)) (omega arith)))

    truth_good : (p : Place) (k : Bool) → Good (truth p k)
    unfolding code_e uses_e eval_e
    truth_good p k env st w vs rs i j s b q g a c = meets_line t _ a λ l. after-faults t (leb 512 (length vs)) fault.Values p (s + 1) _ (went (landing (i + 1) (at_end t (at_tail t a)) (omega arith)))

    read_good : (p : Place) (x : Name) → Good (read p x)
    unfolding code_e uses_e eval_e wrong_e
    read_good p x env st w vs rs i j s b q g a c = meets_use t _ env st (value-visible p _ g) (chain_stand t st env w c) a λ l.
        after_is t (name_load st w p (mach i vs rs (shown st w) (s + 1)) (lookup x env) (find x (scope_of env)) (seen t x env w c) g)
        (after-faults t (leb 512 (length vs)) fault.Values p (s + 1) _ (went (landing (i + 1) (at_end t (at_tail t a)) (omega arith))))

    signed_good : (p : Place) (o : Sign) (e : Expr) → Good e → Good (signed p o e)
    unfolding code_e uses_e eval_e wrong_e
    signed_good p o e E env st w vs rs i j s b q g a c =
        let x = split_e t (scope_of env) e a in
        meets_value _ (E env st w vs rs i x.0 s b q g x.1 c) λ v u l. meets_line t _ x.2 λ _.
        after_is t (sign_act o p _) (after-settle x.0 (v ∷ vs) (with_sign o v) p (at_end t (at_tail t x.2)) (omega arith))

    -- an operator with two operands
    two_good : (p : Place) (k : Instruction) (F : Value → Value → Worked) (e f : Expr) → ((m : Machine) → act k p m ≡ on_two F m.values p m) → Good e → Good f
        → (env : Env) (st : Store) (w : Shades) (vs : List Value) (rs : List ℕ) (i j s : ℕ) → most_steps ≤ n + s → length rs < height w → wrong_e (scope_of env) e ++ wrong_e (scope_of env) f ≡ []
        → At t i (code_e (scope_of env) e ++ (code_e (scope_of env) f ++ line k p)) (uses_e (scope_of env) e ++ (uses_e (scope_of env) f ++ no_use)) j → Chain t env w
        → Meets t (Lands j vs rs (shown st w) s) (mach i vs rs (shown st w) s) (bind (eval_e cs e env st (room_of w vs) s) (λ a. eval_e cs f env st (room_of w (a ∷ vs)) >>= λ b. tick p >> settle (F a b) p))
    two_good p k F e f A E E' env st w vs rs i j s b q g a c =
        let x = split_e t (scope_of env) e a in
        let y = split_e t (scope_of env) f x.2 in
        meets_value _ (E env st w vs rs i x.0 s b q (nil_left _ _ g) x.1 c) λ v u l.
        meets_value _ (E' env st w (v ∷ vs) rs x.0 y.0 u (omega arith) q (nil_right _ _ g) y.1 c) λ v' u' l'. meets_line t _ y.2 λ _.
        after_is t (A _) (after-settle y.0 (v' ∷ (v ∷ vs)) (F v v') p (at_end t (at_tail t y.2)) (omega arith))

    binary_good : (p : Place) (o : Operator) (e f : Expr) → Good e → Good f → Good (binary p o e f)
    unfolding code_e uses_e eval_e wrong_e
    binary_good p o e f E F = two_good p (operator_code o) (worked o) e f (operator_act o p) E F

    both_good : (p : Place) (e f : Expr) → Good e → Good f → Good (both p e f)
    unfolding code_e uses_e eval_e wrong_e
    both_good p e f E F = two_good p And conjoined e f (λ m. refl) E F

    either_good : (p : Place) (e f : Expr) → Good e → Good f → Good (either p e f)
    unfolding code_e uses_e eval_e wrong_e
    either_good p e f E F = two_good p Or disjoined e f (λ m. refl) E F

    choose_good : (p : Place) (d e f : Expr) → Good d → Good e → Good f → Good (choose p d e f)
    unfolding code_e uses_e eval_e wrong_e
    choose_good p d e f D E F env st w vs rs i j s b q g a c =
        let x = split_e t (scope_of env) d a in
        let y = split_e t (scope_of env) e (at_tail t x.2) in
        let ends = at_length t (at_tail t y.2) in
        let mid = at_length t y.1 in
        let gs = nil_right (wrong_e (scope_of env) d) _ g in
        meets_value _ (D env st w vs rs i x.0 s b q (nil_left _ _ g) x.1 c) λ v u l. meets_line t _ x.2 λ _. after_branch t x.0 _ v p _
        (meets_value _ (E env st w vs rs (x.0 + 1) y.0 (u + 1) (omega arith) q (nil_left _ _ gs) y.1 c) λ v' u' l'. meets_line t _ y.2 λ _. went (landing _ (omega arith) (omega arith)))
        (meets_at t (omega arith) (weaker (omega arith) (F env st w vs rs (y.0 + 1) j (u + 1) (omega arith) q (nil_right _ _ gs) (at_tail t y.2) c)))

    local_good : (p z : Place) (x : Name) (e f : Expr) → Good e → Good f → Good (local p z x e f)
    unfolding code_e uses_e eval_e wrong_e
    local_good p z x e f E F env st w vs rs i j s b q g a c =
        let y = split_e t ([] ∷ scope_of env) e (at_tail t a) in
        let k = split_e t (((x, constant) ∷ []) ∷ scope_of env) f (at_tail t y.2) in
        let gs = framed_fits p (scope_of env) _ g in
        let up : Chain t env (down (last w) w) = subst (Chain t env) (sym (down-last whole)) c in
        meets_line t _ a λ _.
        after-grown t 1 (shown st w) (shown st w) (room_of w vs) p (s + 1) (mach i vs rs (shown st w) (s + 1)) (λ fs. go (mach (i + 1) vs rs fs (s + 1))) _ refl (height-shown st w) (slots-shown st w) (chain_deep t st env w c gs.0) (λ _. went (rw (last-shown st w)
        (meets_value _ (E ([] ∷ env) st (w ▸ shade (blank ∷ []) (last w)) vs rs (i + 1) y.0 (s + 1) (omega arith) (omega arith) (nil_left _ _ gs.1) y.1 (tt, up)) λ v u l. meets_line t _ y.2 λ _.
        after_is t (fill_act 0 Constant p y.0 v vs rs (shown st w) (record { slots = slot.Unset ∷ []; parent = last w }) (u + 1) (omega arith)) (went
        (meets_value _ (F (((x, a_value v) ∷ []) ∷ env) st (w ▸ shade (fixed v ∷ []) (last w)) vs rs (y.0 + 1) k.0 (u + 1) (omega arith) (omega arith) (nil_right _ _ gs.1) k.1 ((refl, tt), up)) λ v' u' l'. meets_line t _ k.2 λ _. went
        (landing _ (at_end t (at_tail t k.2)) (omega arith)))))))

    abbrev pub GoodA : Args → Type 0
    GoodA es = (env : Env) (st : Store) (w : Shades) (vs : List Value) (rs : List ℕ) (i j s : ℕ) → most_steps ≤ n + s → length rs < height w → wrong_a (scope_of env) es ≡ [] → At t i (code_a (scope_of env) es) (uses_a (scope_of env) es) j → Chain t env w → Meets t (LandsA es j vs rs (shown st w) s) (mach i vs rs (shown st w) s) (eval_a cs es env st (room_of w vs) s)

    none_good : GoodA no_args
    unfolding code_a uses_a eval_a
    none_good env st w vs rs i j s b q g a c = meets_at t (at_end t a) (now (lands_a (omega arith) refl))

    arg_good : (es : Args) (e : Expr) → GoodA es → Good e → GoodA (arg es e)
    unfolding code_a uses_a eval_a eval_e wrong_a
    arg_good es e Es E env st w vs rs i j s b q g a c =
        let x = split_a t (scope_of env) es a in
        meets_args _ (Es env st w vs rs i x.0 s b q (nil_left _ _ g) x.1 c) λ us u l k.
        meets_value _ (subst (λ (r : Room). Meets t (Lands j (reverse_aux us vs) rs (shown st w) u) (mach x.0 (reverse_aux us vs) rs (shown st w) u) (eval_e cs e env st r u)) (room-args w us vs (args es) k) (E env st w (reverse_aux us vs) rs x.0 j u (omega arith) q (nil_right _ _ g) x.2 c)) λ v u' l'.
        subst (λ (r : List Value). Meets t (LandsA (arg es e) j vs rs (shown st w) s) (mach j r rs (shown st w) u') (ok (us ++ (v ∷ [])) u')) (reverse_snoc us vs v) (now (lands_a (omega arith) (length_snoc us v ∙ ap suc k)))

    call_good : (st : Store) (w : Shades) (us vs : List Value) (rs : List ℕ) (i j p m s u : ℕ) (r : Option (Meant × Env)) (o : Option Use) → most_steps ≤ n + s → s < u → u ≤ most_steps → length rs < height w → i + 1 ≡ j → length us ≡ m → Seen t w r o → as_function p m o ≡ []
        → After t (Lands j vs rs (shown st w) s) (called (got (shown st w) (hops_of o) (offset_of o)) (hops_of o) m p (mach i (reverse_aux us vs) rs (shown st w) u)) (bind (opens m (room_of w vs) p u) (λ _. enters_e cs r us st (room_of w vs)))
    call_good st w us vs rs i j p m s u None None b l l' q ends k x g = cons_nil g
    call_good st w us vs rs i j p m s u None (Some o) b l l' q ends k x g = absurd x
    call_good st w us vs rs i j p m s u (Some d) None b l l' q ends k x g = absurd x
    call_good st w us vs rs i j p m s u (Some d) (Some o) b l l' q ends k x g = by d.0 x.0 x.3
      where
        by : (f : Meant) → o.sort ≡ sort_of f → Fits t (scope_of d.1) f x.1 → After t (Lands j vs rs (shown st w) s) (called (got (shown st w) o.hops o.offset) o.hops m p (mach i (reverse_aux us vs) rs (shown st w) u)) (bind (opens m (room_of w vs) p u) (λ _. enters_e cs (Some (f, d.1)) us st (room_of w vs)))
        by (a_value v) e f = cons_nil (subst (λ s. function_use p m s ≡ []) e g)
        by (a_location v) e f = cons_nil (subst (λ s. function_use p m s ≡ []) e g)
        by (a_procedure p' ps c) e f = cons_nil (subst (λ s. function_use p m s ≡ []) e g)
        by (a_function p' ps c) e f =
            let fits : length ps ≡ length us = count_fits p m (length ps) (subst (λ s. function_use p m s ≡ []) e g) ∙ sym k in
            let same_names : names (given ps us) ≡ params ps = given-names ps us fits in
            let body = split_e t (params ps ∷ scope_of d.1) c f.3 in
            let out-is = last_of (out o.hops w) o.offset x.1 x.2 in
            let up : Chain t d.1 (down (last (out o.hops w)) w) = subst (Chain t d.1) (sym (down-last (out_part o.hops w))) x.4 in
            let long : length ps ≡ length (map fixed us) = fits ∙ sym (length-map us fixed) in
            after-called st w out-is.0 out-is.1 d.1 us vs rs i p m u o.hops o.offset f.0 _ (got_shown st w o.hops o.offset x.1 x.2 ∙ ap (λ (c : Cell). Ok (show st c)) f.2) out-is.2 x.4 f.4 k q
            (rw long (meets_value _ (h c (given ps us ∷ d.1) st (w ▸ shade (map fixed us) (last (out o.hops w))) vs ((i + 1) ∷ rs) f.0 body.0 u (omega arith, l') (omega arith) (rw same_names f.5) (rw same_names body.1) (given-cells t _ ps us, up)) λ v u₂ l₂. meets_line t _ body.2 λ _. went
            (landing _ ends (omega arith))))

    apply_good : (p : Place) (x : Name) (es : Args) → GoodA es → Good (apply p x es)
    unfolding code_e code_a uses_e uses_a eval_e eval_a wrong_e wrong_a
    apply_good p x es Es env st w vs rs i j s b q g a c =
        let y = split_a t (scope_of env) es a in
        meets_args _ (Es env st w vs rs i y.0 s b q (nil_right _ _ g) y.1 c) λ us u l k. meets_use t _ env st (function-visible p (args es) _ (nil_left _ _ g)) (chain_stand t st env w c) y.2 λ l'.
        call_good st w us vs rs y.0 j p (args es) s (u + 1) (lookup x env) (find x (scope_of env)) b (omega arith) (omega arith) q (at_end t (at_tail t y.2)) k (seen t x env w c) (nil_left _ _ g)

    mutual
      pub good : (e : Expr) → Good e
      good (number p k) = number_good p k
      good (truth p k) = truth_good p k
      good (read p x) = read_good p x
      good (signed p o e) = signed_good p o e (good e)
      good (binary p o e f) = binary_good p o e f (good e) (good f)
      good (both p e f) = both_good p e f (good e) (good f)
      good (either p e f) = either_good p e f (good e) (good f)
      good (choose p d e f) = choose_good p d e f (good d) (good e) (good f)
      good (local p q x e f) = local_good p q x e f (good e) (good f)
      good (apply p x es) = apply_good p x es (good_a es)

      pub good_a : (es : Args) → GoodA es
      good_a no_args = none_good
      good_a (arg es e) = arg_good es e (good_a es) (good e)

  pub calls_right : (n : ℕ) (e : Expr) → Right (calls n) (λ s. (most_steps < n + s) × (s ≤ most_steps)) e
  unfolding calls
  calls_right zero e env st w vs rs i j s b q g a c = absurd (omega arith)
  calls_right (suc n) e env st w vs rs i j s b q g a c = good (calls n) n (calls_right n) e env st w vs rs i j s (omega arith) q g a c
