use Rattle.std.proofs.Common.{◌≡◌, [], ◌∷◌, ◌++◌, take, sym, ap, subst, ◌∙◌, append_assoc}
use Rattle.std.specs.List.Sorted.{IsSorted}
use Rattle.cq_meaning.specs.Sorting.{keys_cmp, placed}
use Rattle.cq_queries.specs.Wanted.{is_before, top_of}
use Rattle.cq_queries.proofs.TopLaws.{top_up, top_next}
use Rattle.cq_queries.proofs.wanted.top_rows.Goals as goal

pub put_among-requires-clause-sorted : goal.put_among-requires-clause-sorted
put_among-requires-clause-sorted c =
    subst (IsSorted (keys_cmp c.args.top.keys.now)) (sym c.loop-row.invariant.2) (top_up c.args.top c.requires c.loop-row.invariant.0)

pub loop-row-preserved : goal.loop-row-preserved
loop-row-preserved c =
    let seen = c.loop-row.invariant.0 in
    let row = c.in-Some.row in
    let left = c.pop.new.self.items in
    let rest : left ++ row ∷ seen ≡ c.args.rows = sym (append_assoc left (row ∷ []) seen) ∙ ap (λ us. us ++ seen) (sym c.in-Some.ensures.items) ∙ c.loop-row.invariant.1 in
    let first : c.put_among.new.first.items ≡ top_of c.args.top (row ∷ seen) =
    c.in_ok-put_among.ensures ∙ (ap (λ us. take c.args.top.most (placed (is_before c.args.top.keys.now) row us)) c.loop-row.invariant.2 ∙ top_next c.args.top row seen) in
    (row ∷ seen, rest, first)
