use Rattle.std.proofs.Common.{◌≡◌, ◌+◌, ◌-◌, [], ◌∷◌, ◌++◌, ◌∙◌, length, set, ap, arith}
use Rattle.std.proofs.lemmas.Result.{on_ok_weaker}
use Rattle.cq_pages.specs.Pages.{pairs_of}
use Rattle.cq_pages.proofs.PageLaws.{row_added}
use Rattle.cq_pages.proofs.pages.add.Goals as goal

pub returns-then-pairs-lt128-clause-ok : goal.returns-then-pairs-lt128-clause-ok
returns-then-pairs-lt128-clause-ok c =
    let pages = c.args.pages.now.items in
    let last : c.len-count.result - 1 + 1 ≡ length pages = let n = c.len-count.ensures in let all = c.args.pages.now.ok.0 in omega (arith, n, all, c.if-count-gt0.true) in
    on_ok_weaker c.push.result (λ e.
    ap (λ ps. pairs_of (set pages (c.len-count.result - 1) ps)) (e ∙ ap (λ ps. ps ++ (c.args.id, c.args.row) ∷ []) c.index_mut.ensures.value)
    ∙ row_added pages (c.len-count.result - 1) _ (c.args.id, c.args.row) last) c.push.ensures.ok
