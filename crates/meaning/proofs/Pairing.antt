-- Where frames stand for an environment, the pairs of names lead to what the names stand for.
use Rattle.std.proofs.Common.{◌≡◌, ℕ, Bool, true, false, cond, List, [], ◌∷◌, Some, None, Option, sym, refl, ap, ◌∙◌, subst}
use Rattle.std.specs.List.{slice_get}
use Rattle.lang.specs.declared.name.Name.{Name}
use Rattle.lang.specs.declared.value.Slot.{Slot}
use Rattle.lang.specs.Names.{same}
use Rattle.frames.specs.Frames.{Frames, none, ◌▷◌, up_to, walk, asked, got}
use Rattle.meaning.specs.Scopes.{Scope, Use, further, among, or_outward, find}
use Rattle.meaning.specs.Translation.{Code}
use Rattle.meaning.specs.Meaning.{Meant, Bound, Env, Store, here, or_out, lookup}
use Rattle.meaning.specs.Pairs.{sort_of, names, scope_of, Holds, HoldAll, Stand, Agrees, PairsLead}

module _ (code : Code) (st : Store) where
  -- within a frame
  abbrev LeadsIn : Scope → List Slot → Option Meant → Option Use → Type 0
  LeadsIn g ss None None = Unit {0}
  LeadsIn g ss None (Some u) = ⊥
  LeadsIn g ss (Some b) None = ⊥
  LeadsIn g ss (Some b) (Some u) = (u.sort ≡ sort_of b) × (u.hops ≡ 0) × (s : Slot) × (slice_get ss u.offset ≡ Some s) × Holds code g st b s

  leads_in : (g : Scope) (x : Name) (bs : Bound) (ss : List Slot) → HoldAll code g st bs ss → LeadsIn g ss (here x bs) (among x (names bs))
  leads_in g x [] ss h = tt
  leads_in g x (b ∷ bs) [] h = absurd h
  leads_in g x (b ∷ bs) (s ∷ ss) h = by (same x b.0) (here x bs) (among x (names bs)) (leads_in g x bs ss h.1)
    where
      by : (q : Bool) (r : Option Meant) (o : Option Use) → LeadsIn g ss r o → LeadsIn g (s ∷ ss) (cond q (Some b.1) r) (cond q (Some (record { sort = sort_of b.1; hops = 0; offset = 0 })) (further o))
      by true r o k = (refl, refl, s, refl, h.0)
      by false None None k = k
      by false None (Some u) k = k
      by false (Some d) None k = k
      by false (Some d) (Some u) k = k

  pub leads : (x : Name) (env : Env) (fs : Frames) → Stand code st env fs → Agrees code st fs (lookup x env) (find x (scope_of env))
  leads x [] fs h = tt
  leads x (bs ∷ env) none h = absurd h
  leads x (bs ∷ env) (fs ▷ f) h = by (here x bs) (among x (names bs)) (leads_in (scope_of (bs ∷ env)) x bs f.slots h.0) (lookup x env) (find x (scope_of env)) (leads x env (up_to f.parent fs) h.1)
    where
      by : (r : Option Meant) (o : Option Use) → LeadsIn (scope_of (bs ∷ env)) f.slots r o → (q : Option (Meant × Env)) (n : Option Use) → Agrees code st (up_to f.parent fs) q n → Agrees code st (fs ▷ f) (or_out r (bs ∷ env) q) (or_outward o n)
      by None None s None None k = k
      by None None s None (Some u) k = k
      by None None s (Some b) None k = k
      by None None s (Some b) (Some u) k = record { sort = k.sort; frame = k.frame; slot = k.slot; read = k.read; holds = k.holds }
      by None (Some u) s q n k = absurd s
      by (Some b) None s q n k = absurd s
      by (Some b) (Some u) s q n k = record {
        sort = s.0;
        frame = subst (λ (n : ℕ). Stand code st (bs ∷ env) (walk n (fs ▷ f))) (sym s.1) h;
        slot = s.2;
        read = ap (λ (n : ℕ). got (fs ▷ f) n u.offset) s.1 ∙ ap asked s.3;
        holds = s.4;
      }

pub pairs_lead_lem : PairsLead
pairs_lead_lem code st env fs h x = leads code st x env fs h
