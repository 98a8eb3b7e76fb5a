use Rattle.std.proofs.Common.{rules, ◌≡◌}
use Rattle.clap.specs.Words.{app_of, new_app}
use Rattle.clap.specs.Simple.{on_top}
use Rattle.std.specs.Prelude.{codes, true}
use Rattle.cq_words.proofs.CommandLaws.{added, added_last}
use Rattle.cq_words.proofs.command.chunks.Goals as goal

pub returns-clause-app : goal.returns-clause-app
returns-clause-app c =
    let bare : app_of c.disable_help_flag.result ≡ on_top (λ s. record s { disable_help_flag = true }) (new_app (codes "chunks")) = search rules in
    let one = added _ _ _ _ _ c.in_ok-arg.ensures c.wanted.ensures.local bare c.wanted.ensures.rule in
    let two = added _ _ _ _ _ c.in_ok-arg-2.ensures c.wanted-2.ensures.local one c.wanted-2.ensures.rule in
    added_last _ _ _ _ c.arg-3.result c.arg-3.ensures c.wanted-3.ensures.local two c.wanted-3.ensures.rule
