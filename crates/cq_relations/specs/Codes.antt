-- How the parts of a FROM are stored.
use Rattle.std.specs.Prelude.{ℕ, List, Option, refl}
use Rattle.std.specs.Coded.{Coded, code_by, coded×, coded_ℕ, coded_list, coded_option}
use Rattle.cq_planning.specs.Relations.{Distribution, OuterJoin, Relation}
use Rattle.cq_planning.specs.Pushable.{Pushable}

abbrev pub distribution_code : Coded Distribution
distribution_code = code_by (ℕ × ℕ) (coded× coded_ℕ coded_ℕ) (λ d. (d.column, d.colocation)) (λ p. record { column = p.0; colocation = p.1 }) (λ _. refl)

abbrev pub join_code : Coded OuterJoin
join_code = code_by (ℕ × List (ℕ × ℕ)) (coded× coded_ℕ (coded_list (coded× coded_ℕ coded_ℕ))) (λ o. (o.left, o.equalities)) (λ p. record { left = p.0; equalities = p.1 }) (λ _. refl)

abbrev pub relation_code : Coded Relation
relation_code = code_by (ℕ × (Option Distribution × Option OuterJoin)) (coded× coded_ℕ (coded× (coded_option distribution_code) (coded_option join_code)))
    (λ r. (r.start, (r.distribution, r.outer))) (λ p. record { start = p.0; distribution = (p.1).0; outer = (p.1).1 }) (λ _. refl)

abbrev pub pushable_code : Coded Pushable
pushable_code = code_by (ℕ × (ℕ × ℕ)) (coded× coded_ℕ (coded× coded_ℕ coded_ℕ)) (λ p. (p.output, (p.column, p.colocation))) (λ p. record { output = p.0; column = (p.1).0; colocation = (p.1).1 }) (λ _. refl)
