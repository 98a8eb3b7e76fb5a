-- The longest front of a chain from left to right that is a key of its query.
use Rattle.std.specs.Prelude.{ℕ, ◌≡◌, ◌⊎◌, ◌≤◌, Bool, true, false, ◌&&◌, not, List, [], ◌∷◌, drop, length, Option, None, Some, IfSome, Result, Ok, Err, MatchResult}
use Rattle.std.specs.Option.{option_map}
use Rattle.cq_tree.specs.declared.expression.Expr.{Expr}
use Rattle.cq_reading.specs.declared.bound.Found.{Found}
use Rattle.cq_reading.specs.declared.bound.Bound.{Bound}
use Rattle.cq_reading.specs.declared.error.BindError.{BindError}
use Rattle.cq_reading.specs.declared.error.BindError.TheVariants.{Memory}
use Rattle.cq_reading.specs.Steps.{Reading}
use Rattle.cq_reading.specs.Outcomes.{Binds}
use Rattle.cq_reading.specs.Scopes.{Context, plain}
use Rattle.cq_reading.specs.Parts.{Part}
use Rattle.cq_reading.specs.Rules.{nothing, key_column}
use Rattle.cq_reading.specs.Expressions.{reads}
use Rattle.cq_bind_expressions.specs.declared.fronts.Front.{Front}
use Rattle.cq_bind_expressions.specs.declared.fronts.Search.{Search}

-- what a front is read as before any grouping, with what is found by then, where it may be a key and isn't refused
abbrev pub Tried : Type 0
Tried = Option (Bound × Found)

abbrev pub tried : Bool → Result (Bound × Found) BindError → Tried
tried true (Ok p) = Some p
tried true (Err e) = None
tried false o = None

-- the first operand
abbrev pub tried_part : Context → Part → Tried
tried_part cx p = tried (cx.grouped && not p.selects) (reads p (plain cx) nothing)

-- with one operand more
abbrev pub longer : {A : Type 0} → (A → Part) → (Bound → A → Reading Bound) → Tried → A → Tried
longer part step None p = None
longer part step (Some q) p = tried (not (part p).selects) (step q.0 p q.1)

abbrev pub key_in : List Expr → Tried → Option Bound
key_in keys None = None
key_in keys (Some q) = key_column keys q.0

-- a front that is a key, or else the one before
abbrev pub better : {A : Type 0} → A → Option Bound → Option (Bound × A) → Option (Bound × A)
better more (Some b) best = Some (b, more)
better more None best = best

-- the column of the longest front that is a key, and the operands behind it
abbrev pub longest : {A : Type 0} → List Expr → (A → Part) → (Bound → A → Reading Bound) → Option (Bound × List A) → Tried → List A → Option (Bound × List A)
longest keys part step best q [] = best
longest keys part step best q (p ∷ more) = longest keys part step (better more (key_in keys (longer part step q p)) best) (longer part step q p) more

-- ---- as it is computed

-- what is tried, unless memory fails
abbrev pub Finds : Tried → Result (Option Bound) BindError → Found → Type 0
Finds q result new = MatchResult result (λ k. q ≡ option_map (λ b. (b, new)) k) (λ e. e ≡ Memory)

-- what a front is read as, with what is found by then
abbrev pub front_read : Option Bound → Found → Tried
front_read front found = option_map (λ b. (b, found)) front

abbrev pub key_of : List Expr → Option Bound → Option Bound
key_of keys None = None
key_of keys (Some b) = key_column keys b

-- of what has been read
abbrev pub IsTried : Result Bound BindError → Result (Option Bound) BindError → Type 0
IsTried attempt result = (o : Result (Bound × Found) BindError) (new : Found) → Binds o attempt new → Finds (tried true o) result new

-- a front with the operands behind it
abbrev pub behind : {A : Type 0} → List A → Option Front → Option (Bound × List A)
behind rest front = option_map (λ f. (f.column, drop f.taken rest)) front

abbrev pub IsWithin : {A : Type 0} → List A → Option Front → Type 0
IsWithin rest front = IfSome front (λ f. f.taken ≤ length rest)

abbrev pub front_of : Option Bound → ℕ → Option Front → Option Front
front_of (Some b) taken best = Some (record { column = b; taken = taken })
front_of None taken best = best

-- the search with a front that is read as q
abbrev pub GoesOn : List Expr → Tried → ℕ → Option Front → Search → Found → Type 0
GoesOn keys q taken best s new = (q ≡ front_read s.front new) × (s.best ≡ front_of (key_in keys q) taken best)

-- the best front is the one before, or has so many operands
abbrev pub IsAmong : ℕ → Option Front → Option Front → Type 0
IsAmong taken before best = IfSome best (λ f. (f.taken ≡ taken) ⊎ (before ≡ Some f))
