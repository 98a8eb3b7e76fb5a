use Rattle.std.proofs.Common.{rules, ◌≡◌, ℕ, List, length, true, false, nat_eq, sym, ◌∙◌, ap}
use Rattle.std.specs.List.{list_any}
use Rattle.cq_tree.specs.declared.query.Query.{out-Query}
use Rattle.cq_demands.specs.JoinDemands.{is_plain, leaves_from}
use Rattle.cq_planning.specs.Classes.{first_of_class}
use Rattle.cq_planning.specs.Components.{is_one_class}
use Rattle.cq_planning.specs.Conjuncts.{conjuncts_of, equalities}
use Rattle.cq_shape.specs.Labels.{label}
use Rattle.cq_repartition_laws.specs.Keys.{keys_among}
use Rattle.cq_repartition.proofs.KeyLaws.{no_equality, all_keys}
use Rattle.cq_repartition.proofs.keys.keys_of.Goals as goal

pub returns-then-not-has_equality : goal.returns-then-not-has_equality
returns-then-not-has_equality c =
    let q = c.args.query.now in
    let pairs = c.in_ok-pairs.pairs in
    let first = label c.in_ok-labels.labels in
    let plain : c.is_plain.result ≡ is_plain (out-Query q).from = search rules in
    let is : c.is_plain.result ≡ true = search rules in
    let found : pairs ≡ equalities (conjuncts_of (out-Query q).filter (out-Query q).from) = search rules in
    let labelled : first ≡ first_of_class pairs = search rules in
    let has : c.has_equality.result ≡ list_any (λ (e : ℕ × ℕ). is_one_class first c.args.class e.0) pairs = search rules in
    let none : c.has_equality.result ≡ false = search rules in
    no_equality c.args.class q c.is_plain.result c.has_equality.result first pairs plain is found labelled has none

pub returns : goal.returns
returns c =
    let q = c.args.query.now in
    let pairs = c.in_ok-pairs.pairs in
    let first = label c.in_ok-labels.labels in
    let keys = c.in_ok-keys.keys in
    let plain : c.is_plain.result ≡ is_plain (out-Query q).from = search rules in
    let is : c.is_plain.result ≡ true = search rules in
    let found : pairs ≡ equalities (conjuncts_of (out-Query q).filter (out-Query q).from) = search rules in
    let labelled : first ≡ first_of_class pairs = search rules in
    let has : c.has_equality.result ≡ list_any (λ (e : ℕ × ℕ). is_one_class first c.args.class e.0) pairs = search rules in
    let some : c.has_equality.result ≡ true = search rules in
    let are : keys ≡ keys_among first c.args.class (leaves_from (out-Query q).from 0 false) = search rules in
    let filled : nat_eq (length keys) 0 ≡ false = search rules in
    all_keys c.args.class q c.is_plain.result c.has_equality.result first pairs keys plain is found labelled has some are filled
