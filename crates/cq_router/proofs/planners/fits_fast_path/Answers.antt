use Rattle.std.proofs.Common.{◌≡◌, Bool, IfOk, subst}
use Rattle.cq_router.proofs.RoutedLaws.{fits_alone}
use Rattle.cq_router.proofs.planners.fits_fast_path.Goals as goal

pub returns-then-is_alone : goal.returns-then-is_alone
returns-then-is_alone c =
    subst (λ (fits : Bool). IfOk c.is_one_table.result (λ b. b ≡ fits))
    (fits_alone c.args.catalog.now c.args.q.now c.is_alone.result c.is_alone.ensures c.if-is_alone.true) c.is_one_table.ensures
