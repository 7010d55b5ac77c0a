-- What is wrong with the names of a tree: all violations, and the one that is answered.
use Rattle.std.specs.Prelude.{◌≡◌, ℕ, Bool, false, cond, ◌&&◌, ◌||◌, List, [], ◌∷◌, ◌++◌, length, Some, None, Option, ◌==◌, nat_lt}
use Rattle.std.specs.List.{slice_get}
use Rattle.lang.specs.declared.name.Name.{Name}
use Rattle.lang.specs.declared.sheet.Entry.{Entry}
use Rattle.lang.specs.declared.refusal.Refusal.{Refusal}
use Rattle.lang.specs.declared.refusal.Refusal.TheVariants.{NotVisible, NameTwice, WrongSort, WrongCount, ScopesTooDeep, TooManyNames}
use Rattle.lang.specs.declared.refusal.Refused.{Refused}
use Rattle.lang.specs.Refusals as refusals
use Rattle.meaning.specs.Limits.{most_nested, most_names, most_parameters}
use Rattle.meaning.specs.Tree.{Place, Expr, number, truth, read, signed, binary, both, either, choose, local, apply, Args, no_args, arg, args, Parameter, Data, no_data, const, var, Command, block, assign, perform, fork, while, Commands, no_commands, then, Routines, no_routines, fun, proc}
use Rattle.meaning.specs.Scopes.{Sort, constant, variable, function, procedure, Names, Scope, Use, among, find, params, data_names, routine_names, block_names, sheet_scope}

abbrev pub wrong : Place → Refusal → List Refused
wrong p e = record { why = e; place = p } ∷ []

-- a name that is read: not visible, or no value
abbrev pub value_use : Place → Sort → List Refused
value_use p constant = []
value_use p variable = []
value_use p (function n) = wrong p WrongSort
value_use p (procedure n) = wrong p WrongSort

abbrev pub as_value : Place → Option Use → List Refused
as_value p None = wrong p NotVisible
as_value p (Some u) = value_use p u.sort

-- a name that is assigned to: not visible, or no variable
abbrev pub variable_use : Place → Sort → List Refused
variable_use p constant = wrong p WrongSort
variable_use p variable = []
variable_use p (function n) = wrong p WrongSort
variable_use p (procedure n) = wrong p WrongSort

abbrev pub as_variable : Place → Option Use → List Refused
as_variable p None = wrong p NotVisible
as_variable p (Some u) = variable_use p u.sort

-- a name that is called with n args in an expression: not visible, no function, or another count
abbrev pub function_use : Place → ℕ → Sort → List Refused
function_use p n constant = wrong p WrongSort
function_use p n variable = wrong p WrongSort
function_use p n (function k) = cond (k == n) [] (wrong p WrongCount)
function_use p n (procedure k) = wrong p WrongSort

abbrev pub as_function : Place → ℕ → Option Use → List Refused
as_function p n None = wrong p NotVisible
as_function p n (Some u) = function_use p n u.sort

-- a name that is called with n args by a command
abbrev pub procedure_use : Place → ℕ → Sort → List Refused
procedure_use p n constant = wrong p WrongSort
procedure_use p n variable = wrong p WrongSort
procedure_use p n (function k) = wrong p WrongSort
procedure_use p n (procedure k) = cond (k == n) [] (wrong p WrongCount)

abbrev pub as_procedure : Place → ℕ → Option Use → List Refused
as_procedure p n None = wrong p NotVisible
as_procedure p n (Some u) = procedure_use p n u.sort

-- a construct at p opens a frame inside those of g: it is the violation if 16 frames stand around it, and then nothing in it is looked at
abbrev pub framed : Place → Scope → List Refused → List Refused
framed p g inner = cond (nat_lt (length g) most_nested) inner (wrong p ScopesTooDeep)

-- what a name doubles in a frame
abbrev pub doubles : Place → Option Use → List Refused
doubles q None = []
doubles q (Some u) = wrong q NameTwice

-- a name more in a frame that has the names ns and room for `most`
abbrev pub declares : ℕ → Place → Name → Names → List Refused
declares most q x ns = doubles q (among x ns) ++ cond (length ns == most) (wrong q TooManyNames) []

abbrev pub wrong_p : Names → List Parameter → List Refused
wrong_p ns [] = []
wrong_p ns (x ∷ xs) = declares most_parameters x.place x.name ns ++ wrong_p (ns ++ ((x.name, constant) ∷ [])) xs

-- A let's value is worked out in the let's frame, where its name is not visible yet.
unfoldable mutual
  pub wrong_e : Scope → Expr → List Refused
  wrong_e g (number p n) = []
  wrong_e g (truth p b) = []
  wrong_e g (read p x) = as_value p (find x g)
  wrong_e g (signed p o e) = wrong_e g e
  wrong_e g (binary p o e f) = wrong_e g e ++ wrong_e g f
  wrong_e g (both p e f) = wrong_e g e ++ wrong_e g f
  wrong_e g (either p e f) = wrong_e g e ++ wrong_e g f
  wrong_e g (choose p c e f) = wrong_e g c ++ (wrong_e g e ++ wrong_e g f)
  wrong_e g (local p q x e f) = framed p g (wrong_e ([] ∷ g) e ++ wrong_e (((x, constant) ∷ []) ∷ g) f)
  wrong_e g (apply p x es) = as_function p (args es) (find x g) ++ wrong_a g es

  pub wrong_a : Scope → Args → List Refused
  wrong_a g no_args = []
  wrong_a g (arg es e) = wrong_a g es ++ wrong_e g e

-- a datum sees the data before it
unfoldable pub wrong_d : Scope → Data → List Refused
wrong_d g no_data = []
wrong_d g (const ds p q x e) = wrong_d g ds ++ (wrong_e (data_names ds ∷ g) e ++ declares most_names q x (data_names ds))
wrong_d g (var ds p q x e) = wrong_d g ds ++ (wrong_e (data_names ds ∷ g) e ++ declares most_names q x (data_names ds))

-- the names of a block's routines, after the names ns of its data
unfoldable pub wrong_n : Names → Routines → List Refused
wrong_n ns no_routines = []
wrong_n ns (fun rs p q x ps e) = wrong_n ns rs ++ declares most_names q x (ns ++ routine_names rs)
wrong_n ns (proc rs p q x ps c) = wrong_n ns rs ++ declares most_names q x (ns ++ routine_names rs)

-- a routine's body and a block's commands see all data and routines of the block
unfoldable mutual
  pub wrong_c : Scope → Command → List Refused
  wrong_c g (block p ds rs cs) = framed p g (wrong_d g ds ++ (wrong_n (data_names ds) rs ++ (wrong_r (block_names ds rs ∷ g) rs ++ wrong_s (block_names ds rs ∷ g) cs)))
  wrong_c g (assign p x e) = as_variable p (find x g) ++ wrong_e g e
  wrong_c g (perform p q x es) = as_procedure q (args es) (find x g) ++ wrong_a g es
  wrong_c g (fork p e c d) = wrong_e g e ++ (wrong_c g c ++ wrong_c g d)
  wrong_c g (while p e c) = wrong_e g e ++ wrong_c g c

  pub wrong_s : Scope → Commands → List Refused
  wrong_s g no_commands = []
  wrong_s g (then cs c) = wrong_s g cs ++ wrong_c g c

  pub wrong_r : Scope → Routines → List Refused
  wrong_r g no_routines = []
  wrong_r g (fun rs p q x ps e) = wrong_r g rs ++ framed p g (wrong_p [] ps ++ wrong_e (params ps ∷ g) e)
  wrong_r g (proc rs p q x ps c) = wrong_r g rs ++ framed p g (wrong_p [] ps ++ wrong_c (params ps ∷ g) c)

-- all violations of a rule over a sheet
abbrev pub violations : List Entry → Command → List Refused
violations es c = wrong_c (sheet_scope es) c

-- the earlier place, then the lower number
abbrev pub earlier : Refused → Refused → Bool
earlier u v = nat_lt u.place v.place || (u.place == v.place && nat_lt (refusals.number u.why) (refusals.number v.why))

abbrev pub lesser : Option Refused → Refused → Option Refused
lesser None v = Some v
lesser (Some u) v = cond (earlier v u) (Some v) (Some u)

-- the least of a list and what was found before
abbrev pub least : Option Refused → List Refused → Option Refused
least found [] = found
least found (v ∷ vs) = least (lesser found v) vs

-- a rule's refusal, if it has one
abbrev pub refusal : List Entry → Command → Option Refused
refusal es c = least None (violations es c)

-- r is one of the violations, and none is earlier
pub record Answers (vs : List Refused) (r : Refused) : Type 0 where
  pub at : ℕ
  pub is : slice_get vs at ≡ Some r
  pub first : (i : ℕ) (v : Refused) → slice_get vs i ≡ Some v → earlier v r ≡ false

abbrev pub Decided : List Refused → Option Refused → Type 0
Decided vs None = vs ≡ []
Decided vs (Some r) = Answers vs r

-- A rule is refused exactly if it has violations, and by the least of them.
abbrev pub RefusalIsLeast : Type 0
RefusalIsLeast = (es : List Entry) (c : Command) → Decided (violations es c) (refusal es c)
