-- Shades that stand for an environment.
use Rattle.std.proofs.Common.{◌≡◌, ℕ, zero, suc, ◌<◌, ◌≤◌, Bool, true, false, cond, List, [], ◌∷◌, ◌++◌, map, length, Some, None, Option, sym, refl, ap, ◌∙◌, subst, arith}
use Rattle.std.specs.List.{slice_get}
use Rattle.lang.specs.declared.name.Name.{Name}
use Rattle.lang.specs.declared.value.Value.{Value}
use Rattle.lang.specs.declared.instruction.Instruction.TheVariants.{Back}
use Rattle.lang.specs.Names.{same}
use Rattle.frames.specs.Frames.{stands, deep}
use Rattle.meaning.specs.Limits.{most_nested}
use Rattle.meaning.specs.Scopes.{Scope, Use, further, among, or_outward, find, params}
use Rattle.meaning.specs.Violations.{wrong_e, wrong_c}
use Rattle.meaning.specs.Translation.{line, code_e, code_c}
use Rattle.meaning.specs.Uses.{none, uses_e, uses_c}
use Rattle.meaning.specs.Meaning.{Meant, a_value, a_location, a_function, a_procedure, Bound, Env, Store, here, or_out, lookup, Room}
use Rattle.meaning.specs.Pairs.{sort_of, names, scope_of, Holds, HoldAll, Stand}
use Rattle.meaning.proofs.Basics.{none_some}
use Rattle.meaning.proofs.Shades.{Cell, fixed, located, entry, show, Shade, Shades, empty, ◌▸◌, height, slots, down, out, cell_at, shown, down-shown, out_shown}
use Rattle.meaning.proofs.Pieces.{Text, At, at_stands}

abbrev pub room_of : Shades → List Value → Room
room_of w vs = record { frames = height w; slots = slots w; waiting = length vs }

pub scope-length : (env : Env) → length (scope_of env) ≡ length env
scope-length [] = refl
scope-length (bs ∷ env) = ap suc (scope-length env)

module _ (t : Text) where
  -- the cell of what a name found in the scope g stands for; a routine's body stands in the code, and has no violations
  abbrev pub Fits : Scope → Meant → Cell → Type 0
  Fits g (a_value v) c = c ≡ fixed v
  Fits g (a_location l) c = c ≡ located l
  Fits g (a_function p ps e) c = (k : ℕ) × (j : ℕ) × (c ≡ entry k) × At t k (code_e (params ps ∷ g) e ++ line Back p) (uses_e (params ps ∷ g) e ++ none) j × (length g < most_nested) × (wrong_e (params ps ∷ g) e ≡ [])
  Fits g (a_procedure p ps d) c = (k : ℕ) × (j : ℕ) × (c ≡ entry k) × At t k (code_c (params ps ∷ g) d ++ line Back p) (uses_c (params ps ∷ g) d ++ none) j × (length g < most_nested) × (wrong_c (params ps ∷ g) d ≡ [])

  abbrev pub Matches : Scope → Bound → List Cell → Type 0
  Matches g [] cs = Unit {0}
  Matches g (b ∷ bs) [] = ⊥
  Matches g (b ∷ bs) (c ∷ cs) = Fits g b.1 c × Matches g bs cs

  -- the environment is that of the last frame
  abbrev pub Chain : Env → Shades → Type 0
  Chain [] empty = Unit {0}
  Chain [] (w ▸ f) = ⊥
  Chain (bs ∷ env) empty = ⊥
  Chain (bs ∷ env) (w ▸ f) = Matches (scope_of (bs ∷ env)) bs f.cells × Chain env (down f.parent w)

  -- what a name finds in a frame's names with their meanings and with their sorts
  abbrev SeenIn : Scope → List Cell → Option Meant → Option Use → Type 0
  SeenIn g cs None None = Unit {0}
  SeenIn g cs None (Some u) = ⊥
  SeenIn g cs (Some b) None = ⊥
  SeenIn g cs (Some b) (Some u) = (u.sort ≡ sort_of b) × (u.hops ≡ 0) × (c : Cell) × (slice_get cs u.offset ≡ Some c) × Fits g b c

  -- and in an environment and its scope
  abbrev pub Seen : Shades → Option (Meant × Env) → Option Use → Type 0
  Seen w None None = Unit {0}
  Seen w None (Some u) = ⊥
  Seen w (Some b) None = ⊥
  Seen w (Some b) (Some u) = (u.sort ≡ sort_of b.0) × (c : Cell) × (cell_at (out u.hops w) u.offset ≡ Some c) × Fits (scope_of b.1) b.0 c × Chain b.1 (out u.hops w)

  seen_in : (g : Scope) (x : Name) (bs : Bound) (cs : List Cell) → Matches g bs cs → SeenIn g cs (here x bs) (among x (names bs))
  seen_in g x [] cs h = tt
  seen_in g x (b ∷ bs) [] h = absurd h
  seen_in g x (b ∷ bs) (c ∷ cs) h = by (same x b.0) (here x bs) (among x (names bs)) (seen_in g x bs cs h.1)
    where
      by : (q : Bool) (r : Option Meant) (o : Option Use) → SeenIn g cs r o → SeenIn g (c ∷ cs) (cond q (Some b.1) r) (cond q (Some (record { sort = sort_of b.1; hops = 0; offset = 0 })) (further o))
      by true r o s = (refl, refl, c, refl, h.0)
      by false None None s = s
      by false None (Some u) s = s
      by false (Some d) None s = s
      by false (Some d) (Some u) s = s

  pub seen : (x : Name) (env : Env) (w : Shades) → Chain env w → Seen w (lookup x env) (find x (scope_of env))
  seen x [] w h = tt
  seen x (bs ∷ env) empty h = absurd h
  seen x (bs ∷ env) (w ▸ f) h = by (here x bs) (among x (names bs)) (seen_in (scope_of (bs ∷ env)) x bs f.cells h.0) (lookup x env) (find x (scope_of env)) (seen x env (down f.parent w) h.1)
    where
      by : (r : Option Meant) (o : Option Use) → SeenIn (scope_of (bs ∷ env)) f.cells r o → (q : Option (Meant × Env)) (n : Option Use) → Seen (down f.parent w) q n → Seen (w ▸ f) (or_out r (bs ∷ env) q) (or_outward o n)
      by None None s None None k = k
      by None None s None (Some u) k = k
      by None None s (Some b) None k = k
      by None None s (Some b) (Some u) k = k
      by None (Some u) s q n k = absurd s
      by (Some b) None s q n k = absurd s
      by (Some b) (Some u) s q n k = (s.0, s.2, subst (λ (h : ℕ). cell_at (out h (w ▸ f)) u.offset ≡ Some s.2) (sym s.1) s.3, s.4, subst (λ (n : ℕ). Chain (bs ∷ env) (out n (w ▸ f))) (sym s.1) h)

  -- the frames that are shown stand for the environment
  fits_hold : (g : Scope) (st : Store) (b : Meant) (c : Cell) → Fits g b c → Holds t.code g st b (show st c)
  fits_hold g st (a_value v) c h = ap (show st) h
  fits_hold g st (a_location l) c h = ap (show st) h
  fits_hold g st (a_function p ps e) c h = (h.0, ap (show st) h.2, at_stands t h.3)
  fits_hold g st (a_procedure p ps d) c h = (h.0, ap (show st) h.2, at_stands t h.3)

  matches_hold : (g : Scope) (st : Store) (bs : Bound) (cs : List Cell) → Matches g bs cs → HoldAll t.code g st bs (map (show st) cs)
  matches_hold g st [] cs h = tt
  matches_hold g st (b ∷ bs) [] h = absurd h
  matches_hold g st (b ∷ bs) (c ∷ cs) h = (fits_hold g st b.1 c h.0, matches_hold g st bs cs h.1)

  pub chain_stand : (st : Store) (env : Env) (w : Shades) → Chain env w → Stand t.code st env (shown st w)
  chain_stand st [] empty h = tt
  chain_stand st [] (w ▸ f) h = absurd h
  chain_stand st (bs ∷ env) empty h = absurd h
  chain_stand st (bs ∷ env) (w ▸ f) h = (matches_hold (scope_of (bs ∷ env)) st bs f.cells h.0, subst (Stand t.code st env) (sym (down-shown st f.parent w)) (chain_stand st env (down f.parent w) h.1))

  -- no more frames outward than the environment has
  chain_out : (env : Env) (w : Shades) (k : ℕ) → Chain env w → length env ≤ k → out k w ≡ empty
  chain_out [] empty zero h l = refl
  chain_out [] empty (suc k) h l = refl
  chain_out [] (w ▸ f) k h l = absurd h
  chain_out (bs ∷ env) empty k h l = absurd h
  chain_out (bs ∷ env) (w ▸ f) zero h l = absurd (omega arith)
  chain_out (bs ∷ env) (w ▸ f) (suc k) h l = chain_out env (down f.parent w) k h.1 (omega arith)

  pub chain_deep : (st : Store) (env : Env) (w : Shades) → Chain env w → length (scope_of env) < most_nested → deep (shown st w) ≡ false
  chain_deep st env w h l = ap stands (out_shown st 15 w ∙ ap (shown st) (chain_out env w 15 h (let e = scope-length env in omega arith)))

-- shades with a cell have a last one
pub last_of : (u : Shades) (o : ℕ) (c : Cell) → cell_at u o ≡ Some c → (v : Shades) × (f : Shade) × (u ≡ v ▸ f)
last_of empty o c e = none_some e
last_of (u ▸ f) o c e = (u, f, refl)
