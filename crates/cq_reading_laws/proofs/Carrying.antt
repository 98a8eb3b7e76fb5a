-- What the walk over an expression carries from what is found before to what is found afterwards: each law that goes on from step to
-- step, whatever aggregates are found.
use Rattle.std.proofs.Common.{ℕ, zero, suc, Bool, true, false, List, [], ◌∷◌, ◌++◌, Result, Ok, Err, Option, None, Some}
use Rattle.std.specs.Prelude.{⊤, ℤ}
use Rattle.std.specs.List.{AllByRecursion}
use Rattle.cq_tree.specs.declared.expression.Expr.{Expr}
use Rattle.cq_tree.specs.declared.expression.Cond.{Cond}
use Rattle.cq_tree.specs.declared.query.Agg.{Agg}
use Rattle.cq_grammar.specs.declared.expr.AddOperator.{AddOperator}
use Rattle.cq_grammar.specs.declared.expr.AddOperator.TheVariants as add
use Rattle.cq_grammar.specs.declared.expr.MultiplyOperator.{MultiplyOperator}
use Rattle.cq_grammar.specs.declared.expr.MultiplyOperator.TheVariants as multiply
use Rattle.cq_grammar.specs.declared.expr.Aggregate.{Aggregate}
use Rattle.cq_reading.specs.declared.bound.Found.{Found}
use Rattle.cq_reading.specs.declared.bound.Bound.{Bound}
use Rattle.cq_reading.specs.declared.error.BindError.{BindError}
use Rattle.cq_reading.specs.Steps.{Reading, give, refuse, ◌then◌, provided, through, with_next, each}
use Rattle.cq_reading.specs.Widths.{ValueType}
use Rattle.cq_reading.specs.Scopes.{Context, Place, Nowhere, Once, Repeated, found_column, named, named_of}
use Rattle.cq_reading.specs.Rules as rule
use Rattle.cq_reading_laws.proofs.Keeping as keep

-- a law from what is found at one time to what is found later
pub record Law : Type 1 where
  pub Later : Found → Found → Type 0
  pub now : (f : Found) → Later f f
  pub on : (f g h : Found) → Later f g → Later g h → Later f h
  pub aggs : (f : Found) (aggs : List Agg) → Later f (record f { aggs = aggs })

abbrev pub Carried : Law → {A : Type 0} → Found → Result (A × Found) BindError → Type 0
Carried l found o = keep.Kept l.Later l.now l.on (λ later a. ⊤) found o

unfoldable pub Carries : Law → {A : Type 0} → Reading A → Type 0
Carries l r = (found : Found) → Carried l found (r found)

pub carries_give : (l : Law) {A : Type 0} (a : A) → Carries l (give a)
unfolding Carries
carries_give l a found = (l.now found, λ later m. tt)

pub carries_then : (l : Law) {A B : Type 0} (r : Reading A) (f : A → Reading B) → Carries l r → ((a : A) → Carries l (f a)) → Carries l (r then f)
unfolding Carries
carries_then l r f h k found = keep.kept_then l.Later l.now l.on (λ later a. ⊤) (λ later b. ⊤) found (r found) f (h found) (λ a mid m g. k a mid)

pub carries_provided : (l : Law) {A : Type 0} (t : Bool) (e : BindError) (r : Reading A) → Carries l r → Carries l (provided t e r)
unfolding Carries
carries_provided l true e r h found = h found
carries_provided l false e r h found = tt

pub carries_refuse : (l : Law) (A : Type 0) (e : BindError) → Carries l (refuse {A = A} e)
unfolding Carries
carries_refuse l A e found = tt

pub ruleset carrying = (carries_give, carries_then, carries_provided, carries_refuse)

-- ---- the rules

numbers_carry : (l : Law) (e : Expr) (width : ℕ) (fit : Bool) (at : ℕ) → Carries l (rule.numbers e width fit at)
numbers_carry l e width fit at = search carrying

pub added_carries : (l : Law) (o : AddOperator) (a b : Bound) (at : ℕ) → Carries l (rule.added o a b at)
added_carries l add.Plus a b at = search numbers_carry
added_carries l add.Minus a b at = search numbers_carry

pub signed_carries : (l : Law) (o : AddOperator) (a : Bound) (at : ℕ) → Carries l (rule.signed o a at)
signed_carries l add.Plus a at = search numbers_carry
signed_carries l add.Minus a at = search numbers_carry

divided_carries : (l : Law) (make : Expr → ℤ → Expr) (width : ℕ) (a : Bound) (at : ℕ) (c : Option ℤ) → Carries l (rule.divided_by make width a at c)
divided_carries l make width a at None = search carrying
divided_carries l make width a at (Some c) = search carrying

pub multiplied_carries : (l : Law) (o : MultiplyOperator) (a b : Bound) (c : Option ℤ) (at : ℕ) → Carries l (rule.multiplied o a b c at)
multiplied_carries l multiply.Times a b c at = search numbers_carry
multiplied_carries l multiply.Divide a b c at = search (carrying, divided_carries)
multiplied_carries l multiply.Remainder a b c at = search (carrying, divided_carries)

pub condition_carries : (l : Law) (c : Cond) (fit : Bool) (at : ℕ) → Carries l (rule.condition c fit at)
condition_carries l c fit at = search carrying

pub chain_carries : (l : Law) (most : ℕ) (any : Bool) (parts : List rule.ChainPart) → Carries l (rule.chain_of most any parts)
chain_carries l most any [] = carries_give _ _
chain_carries l most any (p ∷ []) = carries_give _ _
chain_carries l zero any (p ∷ q ∷ more) = carries_give _ _
chain_carries l (suc most) any (p ∷ q ∷ more) = search (carrying, chain_carries l most any, condition_carries)

of_type_carries : (l : Law) (t : Option ValueType) (e : Expr) (width at : ℕ) → Carries l (rule.of_type t e width at)
of_type_carries l None e width at = carries_refuse _ _ _
of_type_carries l (Some t) e width at = carries_give _ _

pub chosen_carries : (l : Law) (arms : List rule.Pair) (other : Bound) (at : ℕ) → Carries l (rule.chosen arms other at)
chosen_carries l arms other at = search (carrying, of_type_carries)

pub coalesced_carries : (l : Law) (items : List Bound) (at : ℕ) → Carries l (rule.coalesced items at)
coalesced_carries l items at = search of_type_carries

aggregated_carries : (l : Law) (cx : Context) (a : Agg) (t : ValueType) (width : ℕ) → Carries l (rule.aggregated cx a t width)
unfolding Carries
aggregated_carries l cx a t width found = (l.aggs found (rule.with_aggregate found.aggs a), λ later m. tt)

pub counted_carries : (l : Law) (cx : Context) (at : ℕ) → Carries l (rule.counted cx at)
counted_carries l cx at = search (carrying, aggregated_carries)

pub summed_carries : (l : Law) (cx : Context) (f : Aggregate) (a : Bound) (at : ℕ) → Carries l (rule.summed cx f a at)
summed_carries l cx f a at = search (carrying, aggregated_carries)

pub if_key_carries : (l : Law) (b : Option Bound) (r : Reading Bound) → Carries l r → Carries l (rule.if_key b r)
if_key_carries l None r h = h
if_key_carries l (Some b) r h = carries_give _ b

keyed_by_carries : (l : Law) (keys : List Expr) (o : Result (Bound × Found) BindError) (r : Reading Bound) → Carries l r → Carries l (rule.keyed_by keys o r)
keyed_by_carries l keys (Ok p) r h = if_key_carries _ _ r h
keyed_by_carries l keys (Err e) r h = h

pub keyed_carries : (l : Law) (keys : List Expr) (before r : Reading Bound) → Carries l r → Carries l (rule.keyed keys before r)
unfolding Carries
keyed_carries l keys before r h found = keyed_by_carries l keys (before rule.nothing) r h found

-- ---- names

found_column_carries : (l : Law) (cx : Context) (at : ℕ) (p : Place) → Carries l (found_column cx at p)
found_column_carries l cx at Nowhere = carries_refuse _ _ _
found_column_carries l cx at Repeated = carries_refuse _ _ _
found_column_carries l cx at (Once i) = carries_give _ _

pub named_carries : (l : Law) (cx : Context) (name : List ℕ) (at : ℕ) → Carries l (named cx name at)
named_carries l cx name at = search found_column_carries

pub named_of_carries : (l : Law) (cx : Context) (relation name : List ℕ) (at : ℕ) → Carries l (named_of cx relation name at)
named_of_carries l cx relation name at = search found_column_carries

-- ---- lists of parts

pub carries_through : (l : Law) {S A : Type 0} (r : S → A → Reading S) (items : List A) (s : S) → AllByRecursion (λ a. (t : S) → Carries l (r t a)) items → Carries l (through r items s)
carries_through l r [] s h = carries_give _ s
carries_through l r (a ∷ more) s h = carries_then _ (r s a) (through r more) (h.0 s) (λ t. carries_through _ r more t h.1)

carries_nexts : (l : Law) {A B : Type 0} (r : A → Reading B) (items : List A) → AllByRecursion (λ a. Carries l (r a)) items → AllByRecursion (λ a. (t : List B) → Carries l (with_next r t a)) items
carries_nexts l r [] h = tt
carries_nexts l r (a ∷ more) h = ((λ t. carries_then _ (r a) (λ b. give (t ++ b ∷ [])) h.0 (λ b. carries_give _ _)), carries_nexts _ r more h.1)

pub carries_with_next : (l : Law) {A B : Type 0} (r : A → Reading B) (items : List A) (t : List B) → AllByRecursion (λ a. Carries l (r a)) items → Carries l (through (with_next r) items t)
carries_with_next l r items t h = carries_through _ (with_next r) items t (carries_nexts _ r items h)

pub carries_each : (l : Law) {A B : Type 0} (r : A → Reading B) (items : List A) → AllByRecursion (λ a. Carries l (r a)) items → Carries l (each r items)
carries_each l r items h = carries_with_next _ r items [] h
