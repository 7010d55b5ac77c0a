-- The named meaning: what a rule does, by names, an environment and a store. It reads the tree, never the code.
use Rattle.std.specs.Prelude.{ℕ, zero, suc, ◌+◌, Bool, true, false, cond, not, List, [], ◌∷◌, ◌++◌, length, pos, Some, None, Ok, Err, Option, nat_le, nat_lt, slice_index_or, slice_set}
use Rattle.lang.specs.declared.name.Name.{Name}
use Rattle.lang.specs.Names.{same}
use Rattle.lang.specs.declared.value.Value.{Value}
use Rattle.lang.specs.declared.value.Value.TheVariants.{Number, Truth}
use Rattle.lang.specs.declared.fault.Fault.{Fault}
use Rattle.lang.specs.declared.fault.Fault.TheVariants.{Kind, Frames, Slots, Values, Steps}
use Rattle.meaning.specs.Tree.{Place, Expr, number, truth, read, signed, binary, both, either, choose, local, apply, Args, no_args, arg, args, Parameter, Data, no_data, const, var, data_slots, Command, block, assign, perform, fork, while, Commands, no_commands, then, Routines, no_routines, fun, proc, routine_slots}
use Rattle.lang.specs.Values.{alike}
use Rattle.meaning.specs.Operators.{Worked, worked, conjoined, disjoined, with_sign}
use Rattle.meaning.specs.Limits.{most_steps, most_frames, most_slots, most_values}

-- what a part of a run answers: a result, or a fault with its place; and the steps done by then
pub data Answer (A : Type 0) : Type 0 where
  ok : A → ℕ → Answer A
  fault : Fault → Place → ℕ → Answer A

-- a part of a run, from the steps done before it
abbrev pub Run : Type 0 → Type 0
Run A = ℕ → Answer A

abbrev pub bind : {A B : Type 0} → Answer A → (A → Run B) → Answer B
bind (ok a s) k = k a s
bind (fault f p s) k = fault f p s

infixl 10 ◌>>=◌
infixl 10 ◌>>◌
abbrev pub ◌>>=◌ : {A B : Type 0} → Run A → (A → Run B) → Run B
◌>>=◌ m k = λ s. bind (m s) k

abbrev pub ◌>>◌ : {A B : Type 0} → Run A → Run B → Run B
◌>>◌ m k = λ s. bind (m s) (λ _. k)

abbrev pub give : {A : Type 0} → A → Run A
give a = λ s. ok a s

-- a step of the construct at p: counted; with the limit reached it is fault 26, uncounted
abbrev pub tick : Place → Run (Unit {0})
tick p s = cond (nat_lt s most_steps) (ok tt (s + 1)) (fault Steps p s)

-- a check: a fault if the test holds
abbrev pub faults : Bool → Fault → Place → Run (Unit {0})
faults true f p s = fault f p s
faults false f p s = ok tt s

-- an operator's result
abbrev pub settle : Worked → Place → Run Value
settle (Ok v) p s = ok v s
settle (Err f) p s = fault f p s

-- a condition's truth
abbrev pub is_true : Value → Place → Run Bool
is_true (Number z) p s = fault Kind p s
is_true (Truth b) p s = ok b s

-- What a name stands for. A routine has its place, its parameters and its body; its declaring environment begins with the scope that it is found in.
pub data Meant : Type 0 where
  a_value : Value → Meant
  a_location : ℕ → Meant
  a_function : Place → List Parameter → Expr → Meant
  a_procedure : Place → List Parameter → Command → Meant

-- the names of a frame with what they stand for
abbrev pub Bound : Type 0
Bound = List (Name × Meant)

-- the frames' names, the innermost first
abbrev pub Env : Type 0
Env = List Bound

-- the values of the locations
abbrev pub Store : Type 0
Store = List Value

abbrev pub value_at : Store → ℕ → Value
value_at st l = slice_index_or st l (Number (pos 0))

-- the first declaration of a name in a frame
abbrev pub here : Name → Bound → Option Meant
here x [] = None
here x (b ∷ bs) = cond (same x b.0) (Some b.1) (here x bs)

abbrev pub or_out : Option Meant → Env → Option (Meant × Env) → Option (Meant × Env)
or_out None env r = r
or_out (Some b) env r = Some (b, env)

-- the innermost declaration of a name, and the environment that begins with its frame
abbrev pub lookup : Name → Env → Option (Meant × Env)
lookup x [] = None
lookup x (bs ∷ env) = or_out (here x bs) (bs ∷ env) (lookup x env)

-- how many frames, slots and waiting values there are
pub record Room : Type 0 where
  pub frames : ℕ
  pub slots : ℕ
  pub waiting : ℕ

-- n values more wait; a frame more of n slots
abbrev pub waits : ℕ → Room → Room
waits zero r = r
waits (suc n) r = record { frames = r.frames; slots = r.slots; waiting = suc (waits n r).waiting }

abbrev pub inside : ℕ → Room → Room
inside n r = record { frames = suc r.frames; slots = r.slots + n; waiting = r.waiting }

-- the check of a value more, and those of a frame more of n slots
abbrev pub pushes : Room → Place → Run (Unit {0})
pushes r p = faults (nat_le most_values r.waiting) Values p

abbrev pub opens : ℕ → Room → Place → Run (Unit {0})
opens n r p = do
  faults (nat_le most_frames r.frames) Frames p
  faults (nat_lt most_slots (r.slots + n)) Slots p

-- a name as a value; one that has none is never asked for
abbrev pub value_of : Option (Meant × Env) → Store → Value
value_of None st = Number (pos 0)
value_of (Some b) st = elim b.0 [ a_value v ↦ v | a_location l ↦ value_at st l | a_function p ps e ↦ Number (pos 0) | a_procedure p ps c ↦ Number (pos 0) ]

-- parameters stand for the args
abbrev pub given : List Parameter → List Value → Bound
given [] vs = []
given (x ∷ xs) [] = []
given (x ∷ xs) (v ∷ vs) = (x.name, a_value v) ∷ given xs vs

-- how a function's body is run: its environment, the store, the room
abbrev pub Calls : Type 0
Calls = Expr → Env → Store → Room → Run Value

-- a call with the args vs: the body runs in the routine's environment plus the parameters, and then goes back
abbrev pub enters_e : Calls → Option (Meant × Env) → List Value → Store → Room → Run Value
enters_e calls None vs st r = give (Number (pos 0))
enters_e calls (Some b) vs st r = elim b.0 [
  | a_value v ↦ give v
  | a_location l ↦ give (Number (pos 0))
  | a_procedure p ps c ↦ give (Number (pos 0))
  | a_function p ps e ↦ do
    v ← calls e (given ps vs ∷ b.1) st (inside (length ps) r)
    tick p
    give v
]

-- Expressions and args. They read the store and cannot change it.
unfoldable mutual
  pub eval_e : Calls → Expr → Env → Store → Room → Run Value
  eval_e calls (number p n) env st r = do
    tick p
    pushes r p
    give (Number (pos n))
  eval_e calls (truth p b) env st r = do
    tick p
    pushes r p
    give (Truth b)
  eval_e calls (read p x) env st r = do
    tick p
    pushes r p
    give (value_of (lookup x env) st)
  eval_e calls (signed p o e) env st r = do
    a ← eval_e calls e env st r
    tick p
    settle (with_sign o a) p
  eval_e calls (binary p o e f) env st r = do
    a ← eval_e calls e env st r
    b ← eval_e calls f env st (waits 1 r)
    tick p
    settle (worked o a b) p
  eval_e calls (both p e f) env st r = do
    a ← eval_e calls e env st r
    b ← eval_e calls f env st (waits 1 r)
    tick p
    settle (conjoined a b) p
  eval_e calls (either p e f) env st r = do
    a ← eval_e calls e env st r
    b ← eval_e calls f env st (waits 1 r)
    tick p
    settle (disjoined a b) p
  eval_e calls (choose p c e f) env st r = do
    a ← eval_e calls c env st r
    tick p
    b ← is_true a p
    elim b [
      | true ↦ (do
        v ← eval_e calls e env st r
        tick p
        give v)
      | false ↦ eval_e calls f env st r
    ]
  eval_e calls (local p q x e f) env st r = do
    tick p
    opens 1 r p
    a ← eval_e calls e ([] ∷ env) st (inside 1 r)
    tick p
    v ← eval_e calls f (((x, a_value a) ∷ []) ∷ env) st (inside 1 r)
    tick p
    give v
  eval_e calls (apply p x es) env st r = do
    vs ← eval_a calls es env st r
    tick p
    opens (args es) r p
    enters_e calls (lookup x env) vs st r

  pub eval_a : Calls → Args → Env → Store → Room → Run (List Value)
  eval_a calls no_args env st r = give []
  eval_a calls (arg es e) env st r = do
    vs ← eval_a calls es env st r
    v ← eval_e calls e env st (waits (args es) r)
    give (vs ++ (v ∷ []))

-- function bodies, with at most n calls inside one another
unfoldable pub calls : ℕ → Calls
calls zero e env st r = fault Steps 0
calls (suc n) e env st r = eval_e (calls n) e env st r

-- how a procedure's body is run, and a loop once more
abbrev pub Runs : Type 0
Runs = Command → Env → Store → Room → Run Store

-- data, each in the frame with the data before it: a constant is a value, a variable a new location
unfoldable pub eval_d : Calls → Data → Env → Store → Room → Run (Bound × Store)
eval_d calls no_data env st r = give ([], st)
eval_d calls (const ds p q x e) env st r = do
  d ← eval_d calls ds env st r
  v ← eval_e calls e (d.0 ∷ env) d.1 r
  tick p
  give (d.0 ++ ((x, a_value v) ∷ []), d.1)
eval_d calls (var ds p q x e) env st r = do
  d ← eval_d calls ds env st r
  v ← eval_e calls e (d.0 ∷ env) d.1 r
  tick p
  give (d.0 ++ ((x, a_location (length d.1)) ∷ []), d.1 ++ (v ∷ []))

-- what routines declare, and their steps
abbrev pub declared : Routines → Bound
declared no_routines = []
declared (fun rs p q x ps e) = declared rs ++ ((x, a_function p ps e) ∷ [])
declared (proc rs p q x ps c) = declared rs ++ ((x, a_procedure p ps c) ∷ [])

abbrev pub declaring : Routines → Run (Unit {0})
declaring no_routines = give tt
declaring (fun rs p q x ps e) = do
  declaring rs
  tick p
  give tt
declaring (proc rs p q x ps c) = do
  declaring rs
  tick p
  give tt

-- an assignment: fault 21 if the variable's kind would change
abbrev pub assigns : Option (Meant × Env) → Value → Store → Place → Run Store
assigns None v st p = give st
assigns (Some b) v st p = elim b.0 [
  | a_value w ↦ give st
  | a_function q ps e ↦ give st
  | a_procedure q ps c ↦ give st
  | a_location l ↦ do
    faults (not (alike (value_at st l) v)) Kind p
    give (slice_set st l v)
]

abbrev pub enters_c : Runs → Option (Meant × Env) → List Value → Store → Room → Run Store
enters_c runs None vs st r = give st
enters_c runs (Some b) vs st r = elim b.0 [
  | a_value v ↦ give st
  | a_location l ↦ give st
  | a_function p ps e ↦ give st
  | a_procedure p ps c ↦ do
    st ← runs c (given ps vs ∷ b.1) st (inside (length ps) r)
    tick p
    give st
]

unfoldable mutual
  pub eval_c : Calls → Runs → Command → Env → Store → Room → Run Store
  eval_c calls runs (block p ds rs cs) env st r = do
    tick p
    opens (data_slots ds + routine_slots rs) r p
    d ← eval_d calls ds env st (inside (data_slots ds + routine_slots rs) r)
    declaring rs
    st ← eval_s calls runs cs ((d.0 ++ declared rs) ∷ env) d.1 (inside (data_slots ds + routine_slots rs) r)
    tick p
    give st
  eval_c calls runs (assign p x e) env st r = do
    v ← eval_e calls e env st r
    tick p
    assigns (lookup x env) v st p
  eval_c calls runs (perform p q x es) env st r = do
    vs ← eval_a calls es env st r
    tick p
    opens (args es) r p
    enters_c runs (lookup x env) vs st r
  eval_c calls runs (fork p e c d) env st r = do
    a ← eval_e calls e env st r
    tick p
    b ← is_true a p
    elim b [
      | true ↦ (do
        st ← eval_c calls runs c env st r
        tick p
        give st)
      | false ↦ eval_c calls runs d env st r
    ]
  eval_c calls runs (while p e c) env st r = do
    a ← eval_e calls e env st r
    tick p
    b ← is_true a p
    elim b [
      | true ↦ (do
        st ← eval_c calls runs c env st r
        tick p
        runs (while p e c) env st r)
      | false ↦ give st
    ]

  pub eval_s : Calls → Runs → Commands → Env → Store → Room → Run Store
  eval_s calls runs no_commands env st r = give st
  eval_s calls runs (then cs c) env st r = do
    st ← eval_s calls runs cs env st r
    eval_c calls runs c env st r

-- commands, with at most n calls and turns of loops inside and after one another
unfoldable pub runs : ℕ → Runs
runs zero c env st r = fault Steps 0
runs (suc n) c env st r = eval_c (calls n) (runs n) c env st r
