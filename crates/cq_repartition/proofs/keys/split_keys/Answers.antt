use Rattle.std.proofs.Common.{rules, ◌≡◌, ℕ, List, false, refl, ◌∙◌}
use Rattle.std.specs.Prelude.{IfOk}
use Rattle.std.proofs.lemmas.Result.{IfOk-weaker}
use Rattle.cq_tree.specs.declared.query.Query.{out-Query}
use Rattle.cq_demands.specs.JoinDemands.{leaves_from}
use Rattle.cq_planning.specs.Classes.{first_of_class}
use Rattle.cq_planning.specs.Conjuncts.{conjuncts_of, equalities}
use Rattle.cq_shape.specs.Labels.{label}
use Rattle.cq_repartition_laws.specs.Keys.{keys_among}
use Rattle.cq_repartition.proofs.KeyLaws.{keys_are}
use Rattle.cq_repartition.proofs.keys.split_keys.Goals as goal

pub returns : goal.returns
returns c =
    let q = c.args.query.now in
    let first = label c.in_ok-labels.labels in
    let pairs : List (ℕ × ℕ) = equalities (conjuncts_of (out-Query q).filter (out-Query q).from) in
    let labelled : first ≡ first_of_class pairs = search rules in
    let made : IfOk c.keys_among.result (λ keys. keys ≡ keys_among first c.args.class (leaves_from (out-Query q).from 0 false)) = search rules in
    IfOk-weaker c.keys_among.result _ _ (λ keys e. e ∙ keys_are c.args.class q first pairs refl labelled) made
