-- The moves of a session.
use Rattle.std.proofs.Common.{◌≡◌, ◌≢◌, ℕ, false, List, [], ◌∷◌, refl, sym, ◌∙◌, ap, subst}
use Rattle.std.specs.Prelude.{Bool, Option, Some, None, Result, Ok, Err, slice_get}
use Rattle.std.specs.List.{AllByRecursion}
use Rattle.cq_tree.specs.declared.journal.Who.{Who}
use Rattle.cq_tree.specs.declared.statement.Statement.{Statement}
use Rattle.cq_tree.specs.declared.statement.Statement.TheVariants as statement
use Rattle.cq_catalog.specs.Contents.{Contents}
use Rattle.cq_catalog.specs.declared.info.TableInfo.{TableInfo}
use Rattle.cq_answer.specs.declared.answer.Answer.{Answer}
use Rattle.cq_answer.specs.declared.answer.Answer.TheVariants as answer
use Rattle.cq_answer.specs.declared.fault.Fault.{Fault}
use Rattle.cq_answer.specs.declared.answered.Settings.{Settings}
use Rattle.cq_history.specs.Run.{Environment}
use Rattle.cq_session.specs.declared.copying.Reading.{Reading}
use Rattle.cq_session.specs.Responses.{IsReadAs, ReadsAs, IsBoundTo, IsTagged, insertion, insertion_into, is_copy, reading_for, with_data}
use Rattle.cq_session.specs.Shared.{bound_of}
use Rattle.cq_block_laws.specs.Serving.{Opening}
use Rattle.cq_block_move.specs.Benches.{AreUnsent}
use Rattle.cq_block_move.specs.Hands.{IsOpenedOver, IsUntagged}
use Rattle.cq_block.specs.declared.drafts.Draft.{Draft}
use Rattle.cq_block.specs.declared.session.Hands.{Hands}
use Rattle.cq_block.specs.declared.session.ShardMove.{ShardMove}
use Rattle.cq_block.specs.Running.{IsDraftIn, IsOpeningFor, NoneSent, move_by, move_in, who_in}

abbrev statement_of : ShardMove → Statement
statement_of m = statement.Move m.shard m.from m.to

-- ---- its bound form, and how its answer is written

by_move : (s : Statement) (m : ShardMove) → move_by s ≡ Some m → s ≡ statement_of m
by_move (statement.Move shard from to) m e = (let k : record { shard = shard; from = from; to = to } ≡ m = cc in ap statement_of k)
by_move s m e = absurd (cc e)

pub bound_move : (read : Result Reading Fault) (m : ShardMove) → move_in read ≡ Some m → bound_of read ≡ Some (statement.Move m.shard m.from m.to)
bound_move (Ok r) m e = ap Some (by_move r.statement m e)
bound_move (Err f) m e = absurd (cc e)

-- the INSERT of rows is none
not_inserted : (o : Option TableInfo) (table : ℕ) (columns : List ℕ) (csv header : Bool) (bytes : List ℕ) (m : ShardMove) → insertion_into o table columns csv header bytes ≡ Ok (statement_of m) → ⊥
not_inserted None table columns csv header bytes m e = cc e
not_inserted (Some t) table columns csv header bytes m e = no_rows _ e
  where
    no_rows : (rows : _) → insertion table rows ≡ Ok (statement_of m) → ⊥
    no_rows (Ok rows) k = cc k
    no_rows (Err f) k = cc k

not_copied : (bytes : List ℕ) (tables : List TableInfo) (read : Result Statement Fault) (m : ShardMove) → with_data bytes tables read ≡ Ok (statement_of m) → is_copy read ≡ false
not_copied bytes tables (Ok (statement.Copy table columns csv header)) m e = absurd (not_inserted (slice_get tables table) table columns csv header bytes m e)
not_copied bytes tables read m e = refl

untagged : (a : Answer) → IsUntagged a → IsTagged false a
untagged (answer.Tag t) h = absurd h
untagged a h = tt

-- so it is bound to what its text means, and its answer is written as the text's
pub reads_move : (session : ℕ) (text bytes : List ℕ) (tables : List TableInfo) (read : Result Reading Fault) (m : ShardMove) (a : Answer) → move_in read ≡ Some m → IsUntagged a → IsReadAs session text bytes tables read → ReadsAs session (bound_of read) a text bytes tables
reads_move session text bytes tables (Err f) m a e u h = absurd (cc e)
reads_move session text bytes tables (Ok r) m a e u h =
    let is : with_data bytes tables (reading_for session text tables) ≡ Ok (statement_of m) = h.ok ∙ ap Ok (by_move r.statement m e) in record {
      read = reading_for session text tables;
      means = h.means;
      is_bound = subst (IsBoundTo (Some r.statement) a) (sym h.ok) refl;
      is_tagged = subst (λ b. IsTagged b a) (sym (not_copied bytes tables (reading_for session text tables) m is)) (untagged a u);
    }

-- ---- the block

-- it is opened over the catalogue
pub opened_over : (c : Contents) (settings : Settings) (numbers : List ℕ) (o : Opening) → IsOpeningFor c settings numbers o → IsOpenedOver c numbers o
opened_over c settings numbers o for = record { catalog = ap (λ (e : Environment). e.catalog) for.environment; sessions = for.sessions; groups = for.groups }

-- ---- behind it

-- a statement notes nothing for the other ones of its session
pub none_after : {X : Type 0} (c : Contents) (session : ℕ) (d : Draft) (drafts : List Draft) (old new : Hands X) → d.placed.now.session ≡ session → AllByRecursion (IsDraftIn c session) drafts → AllByRecursion (λ (e : Draft). e.placed.now.number ≢ d.placed.now.number) drafts →
    ((other : Who) → other.session ≡ d.placed.now.session → other.statement ≢ d.placed.now.number → AreUnsent other old.benches.items → AreUnsent other new.benches.items) → NoneSent drafts old → NoneSent drafts new
none_after c session d [] old new own of far keeps none = tt
none_after c session d (e ∷ drafts) old new own of far keeps none = (keeps (who_in e) (of.0.own ∙ sym own) far.0 none.0, none_after c session d drafts old new own of.1 far.1 keeps none.1)
