-- What an argument and a subcommand add to a command.
use Rattle.std.proofs.Common.{◌≡◌, false, Result, Ok, Err, IfOk, ap, ap₂, ◌∙◌}
use Rattle.clap.specs.Words.{AddsArg, AddsSubcommand, App, Rule, app_of, rule_of, with_rule, with_subcommand}
use Rattle.clap.specs.declared.builder.arg.Arg.{Arg}
use Rattle.clap.specs.declared.builder.command.Command.{Command}
use Rattle.clap.specs.declared.builder.command.Command.TheViews.{out-Command}

pub added : (old new : Command) (a : Arg) (app : App) (rule : Rule) → AddsArg old a new → a.global ≡ false → app_of old ≡ app → rule_of a ≡ rule → app_of new ≡ with_rule app rule
added old new a app rule h local e f = h.shape local ∙ ap₂ with_rule e f

pub added_last : {E : Type 0} (old : Command) (a : Arg) (app : App) (rule : Rule) (r : Result Command E) → IfOk r (λ new. AddsArg old a new) → a.global ≡ false → app_of old ≡ app → rule_of a ≡ rule →
    IfOk r (λ new. app_of new ≡ with_rule app rule)
added_last old a app rule (Ok new) h local e f = added old new a app rule h local e f
added_last old a app rule (Err x) h local e f = tt

pub below : {E : Type 0} (old sub : Command) (app sub_app : App) (r : Result Command E) → IfOk r (λ new. AddsSubcommand old sub new) → (out-Command sub).has_globals ≡ false → app_of old ≡ app → app_of sub ≡ sub_app →
    IfOk r (λ new. app_of new ≡ with_subcommand app sub_app.top)
below old sub app sub_app (Ok new) h local e f = h.shape local ∙ ap₂ with_subcommand e (ap (λ (a : App). a.top) f)
below old sub app sub_app (Err x) h local e f = tt
