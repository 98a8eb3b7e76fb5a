-- A chain from left to right goes on from its longest front that is a key, or else from its first operand.
use Rattle.std.proofs.Common.{◌≡◌, ℕ, ◌+◌, ◌-◌, ◌<◌, ◌≤◌, Bool, true, false, ◌&&◌, ◌||◌, not, if◌then◌else◌, Option, None, Some, List, [], ◌∷◌, map, drop, take, length, get_or, Result, Ok, Err, refl, sym, subst, ap, ◌∙◌, drop-cons, add-one, arith}
use Rattle.std.specs.Prelude.{MatchResult, IsErrAnd}
use Rattle.std.proofs.Common.{inl, inr}
use Rattle.std.proofs.lemmas.List.{drop_all, length-drop, take_all}
use Rattle.cq_tree.specs.declared.expression.Expr.{Expr}
use Rattle.cq_reading.specs.declared.bound.Found.{Found}
use Rattle.cq_reading.specs.declared.bound.Bound.{Bound}
use Rattle.cq_reading.specs.declared.error.BindError.{BindError}
use Rattle.cq_reading.specs.declared.error.BindError.TheVariants.{Memory}
use Rattle.cq_reading.specs.Steps.{Reading, give, follow, ◌then◌, through}
use Rattle.cq_reading.specs.Outcomes.{Binds}
use Rattle.cq_reading.specs.Scopes.{Context, plain}
use Rattle.cq_reading.specs.Parts.{Part}
use Rattle.cq_reading.specs.Rules as rule
use Rattle.cq_reading.specs.Rules.{key_column}
use Rattle.cq_reading.specs.Expressions.{reads, from_left, further}
use Rattle.cq_bind_expressions.specs.Fronts.{Tried, tried, tried_part, longer, key_in, better, longest, behind, front_of, front_read, GoesOn, IsAmong, IsWithin}
use Rattle.cq_bind_expressions.specs.declared.fronts.Search.{Search}
use Rattle.cq_bind_expressions.specs.declared.fronts.Front.{Front}

-- ---- readings one after the other

follow_give : {A : Type 0} (o : Result (A × Found) BindError) → follow o give ≡ o
follow_give (Ok p) = refl
follow_give (Err e) = refl

follow_twice : {A B C : Type 0} (o : Result (A × Found) BindError) (f : A → Reading B) (g : B → Reading C) → follow (follow o f) g ≡ follow o (λ a. f a then g)
follow_twice (Ok p) f g = refl
follow_twice (Err e) f g = refl

-- ---- keys

behind_key : (t : Bool) (keys : List Expr) (before other : Reading Bound) (found : Found) → (if t then rule.keyed keys before other else other) found ≡ rule.if_key (key_in keys (tried t (before rule.nothing))) other found
behind_key true keys before other found = by (before rule.nothing)
  where
    by : (o : Result (Bound × Found) BindError) → rule.keyed_by keys o other found ≡ rule.if_key (key_in keys (tried true o)) other found
    by (Ok p) = refl
    by (Err e) = refl
behind_key false keys before other found = refl

-- a key, or else the node
reads_by : (cx : Context) (p : Part) (found : Found) → reads p cx found ≡ rule.if_key (key_in cx.keys (tried_part cx p)) (p.node cx) found
reads_by cx p found = behind_key (cx.grouped && not p.selects) cx.keys (p.node (plain cx)) (p.node cx) found

-- ---- fronts

tried_next : (g s t : Bool) (o : Result (Bound × Found) BindError) (f : Bound → Reading Bound) (next : Tried → Tried) → next None ≡ None → ((q : Bound × Found) → next (Some q) ≡ tried (not t) (f q.0 q.1))
    → tried (g && not (s || (t || false))) (follow o f) ≡ next (tried (g && not s) o)
tried_next false s t o f next h k = sym h
tried_next true true t o f next h k = sym h
tried_next true false true (Ok p) f next h k = sym (k p)
tried_next true false false (Ok p) f next h k = sym (k p)
tried_next true false true (Err e) f next h k = sym h
tried_next true false false (Err e) f next h k = sym h

module _ {A : Type 0} (cx : Context) (part : A → Part) (step : Context → Bound → A → Reading Bound) where
  -- a front with one operand more
  tried_longer : (before : Part) (p : A) → tried_part cx (further part step before p) ≡ longer part (step (plain cx)) (tried_part cx before) p
  tried_longer before p = tried_next cx.grouped before.selects (part p).selects (reads before (plain cx) rule.nothing) (λ a. step (plain cx) a p) (λ q. longer part (step (plain cx)) q p) refl (λ q. refl)

  abbrev goes_on : Reading Bound → Option (Bound × List A) → Reading Bound
  goes_on other None = other
  goes_on other (Some front) = through (step cx) front.1 front.0

  -- a front, and then the operands behind it
  further_on : (other : Reading Bound) (before : Part) (p : A) (more : List A) (best : Option (Bound × List A)) (k : Option Bound) (found : Found)
      → follow (reads before cx found) (through (step cx) (p ∷ more)) ≡ goes_on other best found
      → follow (rule.if_key k ((further part step before p).node cx) found) (through (step cx) more) ≡ goes_on other (better more k best) found
  further_on other before p more best None found h = follow_twice (reads before cx found) (λ a. step cx a p) (through (step cx) more) ∙ h
  further_on other before p more best (Some b) found h = refl

  from_front : (other : Reading Bound) (rest : List A) (before : Part) (best : Option (Bound × List A)) → ((found : Found) → follow (reads before cx found) (through (step cx) rest) ≡ goes_on other best found)
      → (found : Found) → reads (from_left part step before rest) cx found ≡ goes_on other (longest cx.keys part (step (plain cx)) best (tried_part cx before) rest) found
  from_front other [] before best h found = sym (follow_give (reads before cx found)) ∙ h found
  from_front other (p ∷ more) before best h found =
      subst (λ q. reads (from_left part step (further part step before p) more) cx found ≡ goes_on other (longest cx.keys part (step (plain cx)) (better more (key_in cx.keys q) best) q more) found) (tried_longer before p)
      (from_front other more (further part step before p) (better more (key_in cx.keys (tried_part cx (further part step before p))) best)
      (λ f. ap (λ o. follow o (through (step cx) more)) (reads_by cx (further part step before p) f) ∙ further_on other before p more best (key_in cx.keys (tried_part cx (further part step before p))) f (h f)) found)

  -- the law
  pub chain_is : (first : Part) (rest : List A) (found : Found)
      → reads (from_left part step first rest) cx found ≡ goes_on (reads first cx then through (step cx) rest) (longest cx.keys part (step (plain cx)) None (tried_part cx first) rest) found
  chain_is first rest found = from_front (reads first cx then through (step cx) rest) rest first None (λ f. refl) found

  pub from_key : (first : Part) (rest : List A) (found : Found) (b : Bound) (more : List A) (res : Result Bound BindError) (new : Found) → Some (b, more) ≡ longest cx.keys part (step (plain cx)) None (tried_part cx first) rest
      → Binds (through (step cx) more b found) res new → Binds (reads (from_left part step first rest) cx found) res new
  from_key first rest found b more res new h w = subst (λ o. Binds o res new) (sym (chain_is first rest found)) (subst (λ z. Binds (goes_on (reads first cx then through (step cx) rest) z found) res new) h w)

  pub from_first : (first : Part) (rest : List A) (found : Found) (res : Result Bound BindError) (new : Found) → None ≡ longest cx.keys part (step (plain cx)) None (tried_part cx first) rest
      → Binds (follow (reads first cx found) (through (step cx) rest)) res new → Binds (reads (from_left part step first rest) cx found) res new
  from_first first rest found res new h w = subst (λ o. Binds o res new) (sym (chain_is first rest found)) (subst (λ z. Binds (goes_on (reads first cx then through (step cx) rest) z found) res new) h w)

-- where no front is tried any more
pub none_longer : {A : Type 0} (keys : List Expr) (part : A → Part) (step : Bound → A → Reading Bound) (best : Option (Bound × List A)) (rest : List A) → longest keys part step best None rest ≡ best
none_longer keys part step best [] = refl
none_longer keys part step best (p ∷ more) = none_longer keys part step best more

-- parts that stand for other items
pub from_left_of : {A B : Type 0} (f : B → A) (part : A → Part) (step : Context → Bound → A → Reading Bound) (before : Part) (rest : List B)
    → from_left part step before (map f rest) ≡ from_left (λ b. part (f b)) (λ cx a b. step cx a (f b)) before rest
from_left_of f part step before [] = refl
from_left_of f part step before (b ∷ more) = from_left_of f part step (further part step before (f b)) more

-- ---- the search for the longest front

behind_better : {A : Type 0} (rest : List A) (k : Option Bound) (n : ℕ) (best : Option Front) → behind rest (front_of k n best) ≡ better (drop n rest) k (behind rest best)
behind_better rest (Some b) n best = refl
behind_better rest None n best = refl

module _ {A : Type 0} (keys : List Expr) (part : A → Part) (step : Bound → A → Reading Bound) (rest : List A) (all : Option (Bound × List A)) (i : ℕ) (q : Tried) (best : Option Front) where
  next : (x d : A) → i < length rest → x ≡ get_or rest i d
      → longest keys part step (behind rest best) q (drop i rest) ≡ longest keys part step (better (drop (i + 1) rest) (key_in keys (longer part step q x)) (behind rest best)) (longer part step q x) (drop (i + 1) rest)
  next x d h k = rw (drop-cons rest i d, ← k, add-one)

  -- one operand more
  pub goes_further : (x d : A) (s : Search) (g : Found) → all ≡ longest keys part step (behind rest best) q (drop i rest) → i < length rest → x ≡ get_or rest i d
      → GoesOn keys (longer part step q x) (i + 1) best s g → all ≡ longest keys part step (behind rest s.best) (front_read s.front g) (drop (i + 1) rest)
  goes_further x d s g h l k go =
      h ∙ next x d l k
      ∙ ap (λ z. longest keys part step z (longer part step q x) (drop (i + 1) rest)) (sym (behind_better rest (key_in keys (longer part step q x)) (i + 1) best) ∙ ap (behind rest) (sym go.1))
      ∙ ap (λ z. longest keys part step (behind rest s.best) z (drop (i + 1) rest)) go.0

  -- after the last
  pub is_last : all ≡ longest keys part step (behind rest best) q (drop i rest) → length rest ≤ i → behind rest best ≡ all
  is_last h l = sym (h ∙ rw (drop_all _ _ l))

pub among_within : {A : Type 0} (rest : List A) (i : ℕ) (before best : Option Front) → IsWithin rest before → i < length rest → IsAmong (i + 1) before best → IsWithin rest best
among_within rest i before None w l a = tt
among_within rest i before (Some f) w l (inl e) = omega arith
among_within rest i before (Some f) w l (inr e) = subst (IsWithin rest) e w

pub binds_chain : {A B : Type 0} (f : B → A) (part : A → Part) (step : Context → Bound → A → Reading Bound) (first : Part) (rest : List B) (cx : Context) (old : Found) (res : Result Bound BindError) (new : Found)
    → Binds (reads (from_left (λ b. part (f b)) (λ cx a b. step cx a (f b)) first rest) cx old) res new → Binds (reads (from_left part step first (map f rest)) cx old) res new
binds_chain f part step first rest cx old res new h = subst (λ p. Binds (reads p cx old) res new) (sym (from_left_of f part step first rest)) h

-- an error that is handed on
pub only_memory : {A : Type 0} (P : A → Type 0) (res : Result A BindError) (e : BindError) → IsErrAnd res (λ y. y ≡ e) → e ≡ Memory → MatchResult res P (λ x. x ≡ Memory)
only_memory P (Ok a) e h m = absurd h
only_memory P (Err x) e h m = h ∙ m

-- ---- from the front that is found, or else from the first operand

module _ {A : Type 0} (cx : Context) (part : A → Part) (step : Context → Bound → A → Reading Bound) (first : Part) (rest : List A) (old : Found) (k : Option Front) where
  pub from_found : (f : Front) (res : Result Bound BindError) (new : Found) → behind rest k ≡ longest cx.keys part (step (plain cx)) None (tried_part cx first) rest → k ≡ Some f
      → Binds (through (step cx) (take (length rest - f.taken) (drop f.taken rest)) f.column old) res new → Binds (reads (from_left part step first rest) cx old) res new
  from_found f res new h e w = from_key cx part step first rest old f.column (drop f.taken rest) res new (subst (λ z. behind rest z ≡ longest cx.keys part (step (plain cx)) None (tried_part cx first) rest) e h)
      (subst (λ xs. Binds (through (step cx) xs f.column old) res new) (take_all (length rest - f.taken) (drop f.taken rest) (omega (arith, length-drop f.taken rest))) w)

  pub from_none : (res : Result Bound BindError) (new : Found) → behind rest k ≡ longest cx.keys part (step (plain cx)) None (tried_part cx first) rest → k ≡ None
      → Binds (follow (reads first cx old) (through (step cx) rest)) res new → Binds (reads (from_left part step first rest) cx old) res new
  from_none res new h e w = from_first cx part step first rest old res new (subst (λ z. behind rest z ≡ longest cx.keys part (step (plain cx)) None (tried_part cx first) rest) e h) w
