-- Lists of columns, one column after another.
use Rattle.std.proofs.Common.{◌≡◌, ℕ, ◌+◌, List, [], ◌∷◌, ◌++◌, filter, nat_eq, refl, if◌then◌else◌, add-one}
use denote.Hole.Carrier.{hidden}
use Rattle.cq_tree.specs.declared.query.Query.{Query, Query', out-Query}
use Rattle.cq_meaning.specs.Queries.{columns_in}
use Rattle.cq_planning.specs.Conjuncts.{conjuncts_of, equalities}
use Rattle.cq_planning.specs.Classes.{first_of_class}
use Rattle.cq_shape.specs.Labels.{up_to, label}
use Rattle.cq_plan.specs.ClassLists.{classes_by, classes_of}
use Rattle.cq_plan.proofs.NumberLaws.{filter_push}

pub members_push : (ls : List ℕ) (first n : ℕ) → filter (λ c. nat_eq (label ls c) first) (up_to (n + 1)) ≡ (if nat_eq (label ls n) first then filter (λ c. nat_eq (label ls c) first) (up_to n) ++ n ∷ [] else filter (λ c. nat_eq (label ls c) first) (up_to n))
members_push ls first n = rw add-one (filter_push (λ c. nat_eq (label ls c) first) (up_to n) n)

pub firsts_push : (ls : List ℕ) (n : ℕ) → filter (λ c. nat_eq (label ls c) c) (up_to (n + 1)) ≡ (if nat_eq (label ls n) n then filter (λ c. nat_eq (label ls c) c) (up_to n) ++ n ∷ [] else filter (λ c. nat_eq (label ls c) c) (up_to n))
firsts_push ls n = rw add-one (filter_push (λ c. nat_eq (label ls c) c) (up_to n) n)

pub classes_is : (q : Query) → classes_of q ≡ classes_by (first_of_class (equalities (conjuncts_of (out-Query q).filter (out-Query q).from))) (columns_in (out-Query q).from)
unfolding out-Query denote.Hole.Carrier.out
classes_is (Query' cs ctes ss subs from filter_ grouped keys aggs having items shown distinct order limit offset names) = refl
