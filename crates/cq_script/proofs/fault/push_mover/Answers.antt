use Rattle.std.proofs.Common.{◌≡◌, ◌++◌, ℕ, codes, decimal, subst}
use Rattle.std.specs.Prelude.{OnOk}
use Rattle.cq_script.proofs.TextLaws.{put_last}
use Rattle.cq_script.proofs.fault.push_mover.Goals as goal

pub returns : goal.returns
returns c =
    subst (λ (n : ℕ). OnOk c.push_with-2.result (c.push_with-2.new.out.items ≡ c.args.out.now.items ++ (codes "21 moving by " ++ decimal n ++ codes "." ++ decimal c.args.by.statement))) c.from.ensures
    (put_last c.args.out.now.items (codes "21 moving by " ++ decimal c.from.result) (codes ".") (decimal c.args.by.statement) c.push_with.new.out.items c.push_with-2.new.out.items c.push_with-2.result c.in_ok-push_with.ensures c.push_with-2.ensures)
