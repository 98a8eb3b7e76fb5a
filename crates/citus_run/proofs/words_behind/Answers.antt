use Rattle.std.proofs.Common.{◌∙◌}
use Rattle.citus_run.proofs.Taken.{ok_so, drained, all_behind}
use Rattle.citus_run.proofs.words_behind.Goals as goal

pub returns : goal.returns
returns c =
    ok_so _ _ c.collect.result
    (λ words h. h.2.0 ∙ all_behind c.args.args c.next-name.new.self c.next-name.result h.0 c.next-name.ensures.items c.next-name.ensures.cases c.args.args.rest.ok.0 (drained _ c.next-name.new.self h.0 h.1 tt)) c.collect.ensures.ran
