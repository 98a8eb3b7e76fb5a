-- What a text is read as, in a response.
use Rattle.std.proofs.Common.{◌≡◌, ℕ, List, refl, sym, subst, Ok, Err, Some, None, Result}
use Rattle.cq_tree.specs.declared.statement.Statement.{Statement}
use Rattle.cq_answer.specs.declared.answer.Answer.{Answer}
use Rattle.cq_answer.specs.declared.answer.Answer.TheVariants.{Failed}
use Rattle.cq_answer.specs.declared.fault.Fault.{Fault}
use Rattle.cq_answer.specs.declared.fault.Fault.TheVariants as fault
use Rattle.cq_catalog.specs.Contents.{Contents}
use Rattle.cq_catalog.specs.Whole.{IsWhole}
use Rattle.cq_statement.specs.Finding.{Reads}
use Rattle.cq_statement.specs.Meanings.{Means}
use Rattle.cq_history.specs.Computable.{IsComputable}
use Rattle.cq_bound_laws.specs.Laws.{HasColumns}
use Rattle.cq_bound_laws.proofs.Computable.{texts_compute}
use Rattle.cq_session.specs.Responses.{IsBoundTo}

pub bound_ok : (a : Answer) (s : Statement) (read : Result Statement Fault) → read ≡ Ok s → IsBoundTo (Some s) a read
bound_ok a s read h = subst (λ (r : Result Statement Fault). IsBoundTo (Some s) a r) (sym h) refl

pub bound_err : (f : Fault) (read : Result Statement Fault) → Reads read (Err f) → IsBoundTo None (Failed f) read
bound_err fault.Memory read h = tt
bound_err f read h = subst (λ (r : Result Statement Fault). IsBoundTo None (Failed f) r) (sym h) refl

-- what a text is bound to can be computed and planned
pub computable_read : (c : Contents) (text : List ℕ) (s : Statement) (read : Result Statement Fault) → IsWhole c → HasColumns c → Means text c.tables read → Reads read (Ok s) → IsComputable c s
computable_read c text s read whole columns means is =
    let m = subst (Means text c.tables) is means in
    texts_compute c text m.tree s whole columns (record { words = m.found; cut = m.lexed; accepted = m.spelled }) m.reads
