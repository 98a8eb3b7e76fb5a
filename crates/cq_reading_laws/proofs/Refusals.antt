-- Over more than one relation an aggregate is refused.
use Rattle.std.proofs.Common.{◌≡◌, ℕ, if◌then◌else◌, Bool, true, false, ◌&&◌, ◌||◌, not, List, [], ◌∷◌, ◌++◌, map, refl, sym, ◌∙◌, ap, subst, Option, None, Some, Result, Ok, Err}
use Rattle.std.specs.Prelude.{⊤}
use Rattle.std.specs.List.{AllByRecursion, list_any}
use Rattle.cq_tree.specs.declared.expression.Expr.{Expr}
use Rattle.cq_grammar.specs.declared.expr.AddOperator.{AddOperator}
use Rattle.cq_grammar.specs.declared.expr.Aggregate.{Aggregate}
use Rattle.cq_reading.specs.declared.bound.Found.{Found}
use Rattle.cq_reading.specs.declared.bound.Bound.{Bound}
use Rattle.cq_reading.specs.declared.error.BindError.{BindError}
use Rattle.cq_reading.specs.declared.error.BindError.TheVariants as error
use Rattle.cq_reading.specs.Steps.{Reading, give, follow, ◌then◌, provided, through, with_next, each}
use Rattle.cq_reading.specs.Scopes.{Context, plain}
use Rattle.cq_reading.specs.Titles as title
use Rattle.cq_reading.specs.Titles.{Form}
use Rattle.cq_reading.specs.Rules as rule
use Rattle.cq_reading.specs.Parts.{Part, LaterPart, AddedPart, MultipliedPart, ArmPart}
use Rattle.cq_reading.specs.Expressions as e
use Rattle.cq_reading.specs.Expressions.{reads, behind_keys}
use Rattle.cq_reading_laws.proofs.Standing.{no_truth}
use Rattle.cq_reading_laws.proofs.CarryingParts.{IfPart}
use Rattle.cq_reading_laws.proofs.FromLeft.{from_left_keeps, from_left_aggregates}

abbrev pub IsRefused : {A : Type 0} → Result (A × Found) BindError → Type 0
IsRefused (Ok p) = ⊥
IsRefused (Err e) = ⊤

unfoldable pub Refuses : {A : Type 0} → Reading A → Type 0
Refuses r = (found : Found) → IsRefused (r found)

refused_on : {A B : Type 0} (o : Result (A × Found) BindError) (f : A → Reading B) → IsRefused o → IsRefused (follow o f)
refused_on (Ok p) f h = absurd h
refused_on (Err e) f h = tt

refused_behind : {A B : Type 0} (o : Result (A × Found) BindError) (f : A → Reading B) → ((a : A) (found : Found) → IsRefused (f a found)) → IsRefused (follow o f)
refused_behind (Ok p) f h = h p.0 p.1
refused_behind (Err e) f h = tt

pub refuses_then : {A B : Type 0} (r : Reading A) (f : A → Reading B) → Refuses r → Refuses (r then f)
unfolding Refuses
refuses_then r f h found = refused_on (r found) f (h found)

pub refuses_behind : {A B : Type 0} (r : Reading A) (f : A → Reading B) → ((a : A) → Refuses (f a)) → Refuses (r then f)
unfolding Refuses
refuses_behind r f h found = refused_behind (r found) f h

pub refuses_provided : {A : Type 0} (t : Bool) (x : BindError) (r : Reading A) → Refuses r → Refuses (provided t x r)
unfolding Refuses
refuses_provided true x r h found = h found
refuses_provided false x r h found = tt

pub refuses_where : {A : Type 0} (t : Bool) (x : BindError) (r : Reading A) → t ≡ false → Refuses (provided t x r)
unfolding Refuses
refuses_where t x r is found = subst (λ b. IsRefused (provided b x r found)) (sym is) tt

pub or_cases : {R : Type 0} (a b : Bool) → (a || b) ≡ true → (a ≡ true → R) → (b ≡ true → R) → R
or_cases true b h k l = k refl
or_cases false b h k l = l h

pub through_refuses : {S A : Type 0} (flag : A → Bool) (r : S → A → Reading S) (items : List A) (s : S) → AllByRecursion (λ a. flag a ≡ true → (t : S) → Refuses (r t a)) items → list_any flag items ≡ true → Refuses (through r items s)
through_refuses flag r [] s h is = absurd (no_truth is)
through_refuses flag r (a ∷ more) s h is = or_cases (flag a) (list_any flag more) is (λ e. refuses_then (r s a) (through r more) (h.0 e s)) (λ e. refuses_behind (r s a) (through r more) (λ t. through_refuses flag r more t h.1 e))

next_refuses : {A B : Type 0} (flag : A → Bool) (r : A → Reading B) (items : List A) → AllByRecursion (λ a. flag a ≡ true → Refuses (r a)) items → AllByRecursion (λ a. flag a ≡ true → (t : List B) → Refuses (with_next r t a)) items
next_refuses flag r [] h = tt
next_refuses flag r (a ∷ more) h = ((λ is t. refuses_then (r a) (λ b. give (t ++ b ∷ [])) (h.0 is)), next_refuses flag r more h.1)

pub any_map : {A B : Type 0} (f : B → Bool) (g : A → B) (xs : List A) → list_any f (map g xs) ≡ list_any (λ x. f (g x)) xs
any_map f g [] = refl
any_map f g (x ∷ xs) = ap (λ b. f (g x) || b) (any_map f g xs)

-- ---- parts

-- a number and a bare name hold no aggregate
abbrev pub FormPlain : Form → Bool → Type 0
FormPlain (title.Number n) a = a ≡ false
FormPlain (title.Name name) a = a ≡ false
FormPlain (title.Signed sign n) a = ⊤
FormPlain title.Other a = ⊤

abbrev pub Refusing : Bool → (Context → Reading Bound) → Type 0
Refusing aggregates r = aggregates ≡ true → (cx : Context) → cx.joined ≡ true → Refuses (r cx)

abbrev pub PartRefuses : Part → Type 0
PartRefuses p = Refusing p.aggregates p.node

keyed_refused : (keys : List Expr) (o : Result (Bound × Found) BindError) (other : Reading Bound) (found : Found) → IsRefused o → IsRefused (other found) → IsRefused (rule.keyed_by keys o other found)
keyed_refused keys (Ok p) other found h k = absurd h
keyed_refused keys (Err x) other found h k = k

by_case : (t : Bool) (r : Context → Reading Bound) (cx : Context) → Refuses (r (plain cx)) → Refuses (r cx) → Refuses (if t then rule.keyed cx.keys (r (plain cx)) (r cx) else r cx)
unfolding Refuses
by_case true r cx h k found = keyed_refused cx.keys (r (plain cx) rule.nothing) (r cx) found (h rule.nothing) (k found)
by_case false r cx h k found = k found

pub reads_refuse : (p : Part) (cx : Context) → PartRefuses p → p.aggregates ≡ true → cx.joined ≡ true → Refuses (reads p cx)
reads_refuse p cx h a j = by_case (cx.grouped && not p.selects) p.node cx (h a (plain cx) j) (h a cx j)

one_of_one : (p : Part) → e.any_aggregates (p ∷ []) ≡ true → p.aggregates ≡ true
one_of_one p is = or_cases p.aggregates false is (λ a. a) (λ a. absurd (no_truth a))

from_left_refuses : {A : Type 0} (part : A → Part) (step : Context → Bound → A → Reading Bound)
    → ((p : A) → PartRefuses (part p) → (part p).aggregates ≡ true → (cx : Context) → cx.joined ≡ true → (x : Bound) → Refuses (step cx x p))
    → (rest : List A) (before : Part) → PartRefuses before → AllByRecursion (λ p. PartRefuses (part p)) rest → PartRefuses (e.from_left part step before rest)
from_left_refuses part step one = from_left_keeps part step PartRefuses (λ before p h k is cx j. or_cases before.aggregates ((part p).aggregates || false) is
    (λ a. refuses_then (reads before cx) (λ x. step cx x p) (reads_refuse before cx h a j))
    (λ a. refuses_behind (reads before cx) (λ x. step cx x p) (λ x. one p k (one_of_one (part p) a) cx j x)))

module _ (cx : Context) (j : cx.joined ≡ true) where
  pub all_refuse : (ps : List Part) → AllByRecursion PartRefuses ps → AllByRecursion (λ p. p.aggregates ≡ true → Refuses (reads p cx)) ps
  all_refuse [] h = tt
  all_refuse (p ∷ more) h = ((λ a. reads_refuse p cx h.0 a j), all_refuse more h.1)

  pub list_refuses : (ps : List Part) → AllByRecursion PartRefuses ps → e.any_aggregates ps ≡ true → Refuses (each (λ p. reads p cx) ps)
  list_refuses ps h is = through_refuses (λ (p : Part). p.aggregates) (with_next (λ p. reads p cx)) ps [] (next_refuses (λ (p : Part). p.aggregates) (λ p. reads p cx) ps (all_refuse ps h)) is

  later_refuse : (rest : List LaterPart) → AllByRecursion (λ l. PartRefuses l.part) rest → AllByRecursion (λ l. l.part.aggregates ≡ true → Refuses (e.read_later cx l)) rest
  later_refuse [] h = tt
  later_refuse (l ∷ more) h = ((λ a. refuses_then (reads l.part cx) (λ b. give (b, l.at)) (reads_refuse l.part cx h.0 a j)), later_refuse more h.1)

  pub chain_refuses : (any : Bool) (first : Part) (rest : List LaterPart) → PartRefuses first → AllByRecursion (λ l. PartRefuses l.part) rest → e.any_aggregates (first ∷ e.parts_behind rest) ≡ true → Refuses (e.chain_reading any first rest cx)
  chain_refuses any first rest h k is = or_cases first.aggregates (e.any_aggregates (e.parts_behind rest)) is
      (λ a. refuses_then (reads first cx) _ (reads_refuse first cx h a j))
      (λ a. refuses_behind (reads first cx) _ (λ x. refuses_then (through (with_next (e.read_later cx)) rest ((x, 0) ∷ [])) (rule.chained any)
      (through_refuses (λ (l : LaterPart). l.part.aggregates) (with_next (e.read_later cx)) rest ((x, 0) ∷ []) (next_refuses (λ (l : LaterPart). l.part.aggregates) (e.read_later cx) rest (later_refuse rest k)) (sym (any_map (λ (p : Part). p.aggregates) (λ (l : LaterPart). l.part) rest) ∙ a))))

  pub sum_refuses : (first : Part) (rest : List AddedPart) → PartRefuses first → AllByRecursion (λ p. PartRefuses p.part) rest → e.any_aggregates (first ∷ map (λ p. p.part) rest) ≡ true → Refuses (e.sum_reading first rest cx)
  sum_refuses first rest h k is = reads_refuse (e.from_left (λ p. p.part) e.with_added first rest) cx
      (from_left_refuses (λ p. p.part) e.with_added (λ p g a c i x. refuses_then (reads p.part c) (λ b. rule.added p.operator x b p.at) (reads_refuse p.part c g a i)) rest first h k)
      (from_left_aggregates (λ p. p.part) e.with_added rest first ∙ is) j

  pub product_refuses : (first : Part) (rest : List MultipliedPart) → PartRefuses first → AllByRecursion (λ p. PartRefuses p.part) rest → e.any_aggregates (first ∷ map (λ p. p.part) rest) ≡ true → Refuses (e.product_reading first rest cx)
  product_refuses first rest h k is = reads_refuse (e.from_left (λ p. p.part) e.with_multiplied first rest) cx
      (from_left_refuses (λ p. p.part) e.with_multiplied (λ p g a c i x. refuses_then (reads p.part c) (λ b. rule.multiplied p.operator x b (title.literal_of p.part.form) p.at) (reads_refuse p.part c g a i)) rest first h k)
      (from_left_aggregates (λ p. p.part) e.with_multiplied rest first ∙ is) j

  pub first_refuses : {B : Type 0} (p : Part) (f : Bound → Reading B) → PartRefuses p → e.any_aggregates (p ∷ []) ≡ true → Refuses (reads p cx then f)
  first_refuses p f h is = refuses_then (reads p cx) f (reads_refuse p cx h (one_of_one p is) j)

  pub group_refuses : (p : Part) → PartRefuses p → e.any_aggregates (p ∷ []) ≡ true → Refuses (reads p cx)
  group_refuses p h is = reads_refuse p cx h (one_of_one p is) j

  pub two_refuse : {B : Type 0} (a b : Part) (f : Bound → Bound → Reading B) → PartRefuses a → PartRefuses b → (a.aggregates || b.aggregates) ≡ true → Refuses (reads a cx then (λ x. reads b cx then f x))
  two_refuse a b f h k is = or_cases a.aggregates b.aggregates is (λ s. refuses_then (reads a cx) _ (reads_refuse a cx h s j)) (λ s. refuses_behind (reads a cx) _ (λ x. refuses_then (reads b cx) (f x) (reads_refuse b cx k s j)))

  pub pair_refuses : {B : Type 0} (a b : Part) (f : Bound → Bound → Reading B) → PartRefuses a → PartRefuses b → e.any_aggregates (a ∷ b ∷ []) ≡ true → Refuses (reads a cx then (λ x. reads b cx then f x))
  pair_refuses a b f h k is = two_refuse a b f h k (or_cases a.aggregates (b.aggregates || false) is (λ s. left a.aggregates b.aggregates s) (λ s. right a.aggregates b.aggregates (one_of_one b s)))
    where
      left : (a b : Bool) → a ≡ true → (a || b) ≡ true
      left true b s = refl
      left false b s = absurd (no_truth s)

      right : (a b : Bool) → b ≡ true → (a || b) ≡ true
      right true b s = refl
      right false b s = s

  pub signed_refuses : (sign : AddOperator) (inner : Part) (form : Form) (at : ℕ) → FormPlain form inner.aggregates → PartRefuses inner → e.any_aggregates (inner ∷ []) ≡ true → Refuses (e.signed_reading sign inner form at cx)
  signed_refuses sign inner (title.Number n) at plain h is = absurd (no_truth (sym plain ∙ one_of_one inner is))
  signed_refuses sign inner (title.Signed s n) at plain h is = first_refuses inner (λ a. rule.signed sign a at) h is
  signed_refuses sign inner (title.Name name) at plain h is = first_refuses inner (λ a. rule.signed sign a at) h is
  signed_refuses sign inner title.Other at plain h is = first_refuses inner (λ a. rule.signed sign a at) h is

  -- ---- aggregates

  not_joined : not cx.joined ≡ false
  not_joined = ap not j

  pub counted_refuses : (at : ℕ) → Refuses (rule.counted cx at)
  counted_refuses at = refuses_provided cx.may_aggregate (error.NotGrouped at) _ (refuses_where (not cx.joined) (error.GroupedJoin at) _ not_joined)

  pub summed_refuses : (f : Aggregate) (a : Bound) (at : ℕ) → Refuses (rule.summed cx f a at)
  summed_refuses f a at = refuses_provided cx.may_aggregate (error.NotGrouped at) _ (refuses_provided (rule.takes f a) (error.Type at) _ (refuses_provided _ (error.TooWide at) _ (refuses_where (not cx.joined) (error.GroupedJoin at) _ not_joined)))

  -- ---- CASE

  abbrev pub ArmRefuses : ArmPart → Type 0
  ArmRefuses a = PartRefuses a.condition × PartRefuses a.result

  abbrev arm_flag : ArmPart → Bool
  arm_flag a = a.condition.aggregates || a.result.aggregates

  arms_refuse : (arms : List ArmPart) → AllByRecursion ArmRefuses arms → AllByRecursion (λ a. arm_flag a ≡ true → Refuses (e.read_arm cx a)) arms
  arms_refuse [] h = tt
  arms_refuse (a ∷ more) h = ((λ is. two_refuse a.condition a.result (λ c r. give (c, r)) h.0.0 h.0.1 is), arms_refuse more h.1)

  arms_cases : (arms : List ArmPart) (rest : List Part) → e.any_aggregates (e.parts_of_arms arms ++ rest) ≡ true → (list_any arm_flag arms || e.any_aggregates rest) ≡ true
  arms_cases [] rest is = is
  arms_cases (a ∷ more) rest is = joined a.condition.aggregates a.result.aggregates (e.any_aggregates (e.parts_of_arms more ++ rest)) (list_any arm_flag more) (e.any_aggregates rest) (arms_cases more rest) is
    where
      joined : (c r tail m o : Bool) → (tail ≡ true → (m || o) ≡ true) → (c || (r || tail)) ≡ true → (((c || r) || m) || o) ≡ true
      joined true r tail m o h is = refl
      joined false true tail m o h is = refl
      joined false false tail m o h is = h is

  else_refuses : (otherwise : Option Part) → IfPart PartRefuses otherwise → e.any_aggregates (e.parts_of_else otherwise) ≡ true → Refuses (e.read_else cx otherwise)
  else_refuses None h is = absurd (no_truth is)
  else_refuses (Some p) h is = group_refuses p h is

  pub case_refuses : (arms : List ArmPart) (otherwise : Option Part) (at : ℕ) → AllByRecursion ArmRefuses arms → IfPart PartRefuses otherwise → e.any_aggregates (e.parts_of_arms arms ++ e.parts_of_else otherwise) ≡ true → Refuses (e.case_reading arms otherwise at cx)
  case_refuses arms otherwise at h k is = or_cases (list_any arm_flag arms) (e.any_aggregates (e.parts_of_else otherwise)) (arms_cases arms (e.parts_of_else otherwise) is)
      (λ a. refuses_then (each (e.read_arm cx) arms) _ (through_refuses arm_flag (with_next (e.read_arm cx)) arms [] (next_refuses arm_flag (e.read_arm cx) arms (arms_refuse arms h)) a))
      (λ a. refuses_behind (each (e.read_arm cx) arms) _ (λ pairs. refuses_then (e.read_else cx otherwise) (λ other. rule.chosen pairs other at) (else_refuses otherwise k a)))
