use Rattle.std.proofs.Common.{◌≡◌, ℕ, Result, Ok, Err, List, ◌++◌, codes, decimal, ap, ◌∙◌, append_assoc}
use Rattle.std.specs.Prelude.{OnOk}
use Rattle.cq_script.specs.Texts.{fatal_line}
use Rattle.cq_script.proofs.fatal.push_line.Goals as goal

behind : {E : Type 0} (before some end first all : List ℕ) (r : Result (Unit {0}) E) → first ≡ before ++ some → OnOk r (all ≡ first ++ end) → OnOk r (all ≡ before ++ (some ++ end))
behind before some end first all (Err e) put h = h
behind before some end first all (Ok u) put h = h ∙ ap (λ v. v ++ end) put ∙ append_assoc before some end

pub returns : goal.returns
unfolding fatal_line
returns c =
    behind c.args.out.now.items (codes "FATAL directive at line " ++ decimal c.args.line) (codes "\n") c.push_with.new.out.items c.push_words.new.out.items c.push_words.result c.in_ok-push_with.ensures c.push_words.ensures
