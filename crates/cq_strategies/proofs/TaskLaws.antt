-- The tasks of a block, as code makes them, and what rows of several can share.
use Rattle.std.proofs.Common.{◌≡◌, ℕ, zero, suc, ◌+◌, Bool, true, false, not, ◌&&◌, ◌||◌, List, [], ◌∷◌, ◌++◌, map, None, refl, sym, ap, ◌∙◌, arith, add-one}
use Rattle.std.proofs.lemmas.List.{map-append}
use Rattle.cq_tree.specs.declared.plan.Task.{Task}
use Rattle.cq_tree.specs.declared.query.Query.{Query, Query', out-Query}
use Rattle.cq_planning.specs.Classes.{first_of_class}
use Rattle.cq_planning.specs.Conjuncts.{conjuncts_of, equalities}
use Rattle.cq_planning.specs.Touched.{numbers}
use Rattle.cq_outline.specs.Tasking.{bucket_tasks, shares_rows}
use Rattle.cq_strategies.specs.Shares.{shares_keys, shares_outputs}

-- ---- tasks

next_number : (n k : ℕ) → numbers n (suc k) ≡ numbers n k ++ (n + k) ∷ []
next_number n zero = let e : n + 0 ≡ n = omega arith in rw e refl
next_number n (suc k) = let e : (n + 1) + k ≡ n + suc k = omega arith in ap (λ (us : List ℕ). n ∷ us) (next_number (n + 1) k ∙ ap (λ (m : ℕ). numbers (n + 1) k ++ m ∷ []) e)

-- one number more
pub one_more : (k : ℕ) → numbers 0 (k + 1) ≡ numbers 0 k ++ k ∷ []
one_more k = let e : 0 + k ≡ k = omega arith in rw add-one (next_number 0 k ∙ ap (λ (m : ℕ). numbers 0 k ++ m ∷ []) e)

abbrev bucket : ℕ → Task
bucket i = record { index = i; group = None }

pub next_bucket : (n : ℕ) (tasks more : List Task) → tasks ≡ bucket_tasks n → more ≡ tasks ++ record { index = n; group = None } ∷ [] → more ≡ bucket_tasks (n + 1)
next_bucket n tasks more is put =
    put ∙ (ap (λ (ts : List Task). ts ++ bucket n ∷ []) is ∙ sym (ap (map bucket) (one_more n) ∙ map-append bucket (numbers 0 n) (n ∷ [])))

-- ---- rows that share a group

either_way : (g k d : Bool) → (not (not g || k) || d) ≡ (g && not k || d)
either_way true true d = refl
either_way true false d = refl
either_way false k d = refl

shares_is : (at : ℕ) (q : Query) → (let first = first_of_class (equalities (conjuncts_of (out-Query q).filter (out-Query q).from)) in (shares_keys first at q || shares_outputs first at q)) ≡ shares_rows at q
unfolding out-Query denote.Hole.Carrier.out
shares_is at (Query' cs ctes ss subs from where_ grouped keys aggs having items shown distinct order limit offset names) = either_way grouped _ _

pub shares_found : (at : ℕ) (q : Query) (first : ℕ → ℕ) (b : Bool) → first ≡ first_of_class (equalities (conjuncts_of (out-Query q).filter (out-Query q).from)) →
    b ≡ (shares_keys first at q || shares_outputs first at q) → b ≡ shares_rows at q
shares_found at q first b is e = e ∙ (ap (λ (f : ℕ → ℕ). shares_keys f at q || shares_outputs f at q) is ∙ shares_is at q)
