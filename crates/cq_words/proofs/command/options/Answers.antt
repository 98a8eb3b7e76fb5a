use Rattle.std.proofs.Common.{rules, ◌≡◌}
use Rattle.clap.specs.Words.{app_of}
use Rattle.cq_words.specs.Words as spec
use Rattle.cq_words.proofs.CommandLaws.{added, added_last}
use Rattle.cq_words.proofs.command.options.Goals as goal

pub returns : goal.returns
returns c =
    let bare : app_of c.disable_help_subcommand.result ≡ spec.bare = search rules in
    let one = added _ _ _ _ _ c.in_ok-arg.ensures c.option.ensures.local bare c.option.ensures.rule in
    let two = added _ _ _ _ _ c.in_ok-arg-2.ensures c.flag.ensures.local one c.flag.ensures.rule in
    let three = added _ _ _ _ _ c.in_ok-arg-3.ensures c.flag-2.ensures.local two c.flag-2.ensures.rule in
    let four = added _ _ _ _ _ c.in_ok-arg-4.ensures c.flag-3.ensures.local three c.flag-3.ensures.rule in
    let five = added _ _ _ _ _ c.in_ok-arg-5.ensures c.flag-4.ensures.local four c.flag-4.ensures.rule in
    added_last _ _ _ _ c.arg-6.result c.arg-6.ensures c.flag-5.ensures.local five c.flag-5.ensures.rule
