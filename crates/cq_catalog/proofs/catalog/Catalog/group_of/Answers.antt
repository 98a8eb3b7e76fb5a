use Rattle.std.proofs.Common.{◌≡◌, ◌∙◌, ◌<◌, ◌≤◌, ◌+◌, length, ap, subst, arith, rules, FitsSigned}
use Rattle.std.specs.Int.{w32}
use Rattle.cq_value.specs.Placement.{token_of}
use Rattle.cq_catalog.specs.Placement.{colocation_at as colocation_in}
use Rattle.cq_catalog.specs.Ranges.{index_in}
use Rattle.cq_catalog.proofs.GroupLaws.{cut_part, cut_length, group_holds, group_index}
use Rattle.cq_catalog.proofs.catalog.Catalog.group_of.Goals as goal

pub index_of-index-requires : goal.index_of-index-requires
index_of-index-requires c = rw c.as_slice.ensures (cut_part _ _ c.colocation_at-colocation.ensures.cut)

below : (c : goal.After-index_of-index) → c.index_of-index.result < c.colocation_at-colocation.result.now.count
below c =
    let l : length c.as_slice.result.now ≡ c.colocation_at-colocation.result.now.count = ap length c.as_slice.ensures ∙ cut_length _ _ c.colocation_at-colocation.ensures.cut in
    let w : c.index_of-index.result < length c.as_slice.result.now = c.index_of-index.ensures.within in
    omega arith

at : (c : goal.After-index_of-index) → c.index_of-index.result ≡ index_in c.colocation_at-colocation.result.now.ends (token_of c.args.value.now)
at c = search rules

fits : (c : goal.After-index_of-index) → FitsSigned w32 (token_of c.args.value.now)
fits c = subst (FitsSigned w32) c.token.ensures (search (rules, c.token.type_inv))

pub overflow_cast-result : goal.overflow_cast-result
overflow_cast-result c =
    let w : c.index_of-index.result < c.colocation_at-colocation.result.now.count = below c in
    let f : c.colocation_at-colocation.result.now.count ≤ 128 = c.colocation_at-colocation.ensures.cut.few in
    omega arith

pub returns-clause-within : goal.returns-clause-within
returns-clause-within c =
    let w : c.index_of-index.result < c.colocation_at-colocation.result.now.count = below c in
    let g : c.colocation_at-colocation.result.now.first_group + c.colocation_at-colocation.result.now.count ≤ c.args.self.now.groups = c.colocation_at-colocation.ensures.cut.within in
    omega arith

pub overflow_add-result : goal.overflow_add-result
overflow_add-result c =
    let w : c.colocation_at-colocation.result.now.first_group + c.index_of-index.result < c.args.self.now.groups = returns-clause-within c in
    let f : c.args.self.now.groups ≤ 512 = c.colocation_at-colocation.ensures.groups in
    omega arith

pub returns-clause-holds : goal.returns-clause-holds
returns-clause-holds c = group_holds c.args.self.now.groups c.colocation_at-colocation.result.now c.colocation_at-colocation.ensures.cut (token_of c.args.value.now) (fits c) c.index_of-index.result (at c) (colocation_in c.args.self.now c.args.table) c.colocation_at-colocation.ensures.value

pub returns-clause-index : goal.returns-clause-index
returns-clause-index c = group_index c.args.self.now.groups c.colocation_at-colocation.result.now c.colocation_at-colocation.ensures.cut (token_of c.args.value.now) (fits c) c.index_of-index.result (at c) (colocation_in c.args.self.now c.args.table) c.colocation_at-colocation.ensures.value
