-- What the sessions of a block hold as it is opened.
use Rattle.std.proofs.Common.{◌≡◌, ℕ, List, [], ◌∷◌, length, map, refl, sym, ◌∙◌, ap, subst, Option, Some, None}
use Rattle.std.specs.Prelude.{slice_get}
use Rattle.std.specs.List.{AllZip}
use Rattle.cq_value.proofs.Lists.{append_nil}
use Rattle.atomic_table.specs.Seated.{TableId}
use Rattle.cq_store.specs.Stores.{StoreState}
use Rattle.cq_store.specs.declared.worker.Worker.{Worker}
use Rattle.cq_group.specs.declared.group.GroupState.{GroupState}
use Rattle.cq_group.specs.Groups.{entries_of, journal_of}
use Rattle.cq_group.specs.Resting.{journals_of}
use Rattle.cq_history.specs.Run.{Run, Rules}
use Rattle.cq_history.proofs.Entries.{with_list}
use Rattle.cq_cell.specs.declared.view.Key.{Key}
use Rattle.cq_cell.specs.Cell.{Sat}
use Rattle.cq_cell.specs.Many.{origin_in, IsFirst}
use Rattle.cq_shared.specs.declared.content.Shard.{Shard}
use Rattle.cq_shared.specs.declared.note.Note.{Note}
use Rattle.cq_shared.specs.Terms.{Terms}
use Rattle.cq_shared.specs.Blocks.{IsShared, IsStock}
use Rattle.cq_shared.specs.Errands.{WorkerPass, IsRuledAt}
use Rattle.cq_shared.specs.Seen.{Pass, IsRuled, group_of, seen_since, seen_by}
use Rattle.cq_block_laws.specs.Serving.{Opening, at_first}
use Rattle.cq_block_laws.specs.Closing.{Session}
use Rattle.cq_block_laws.specs.Sessions.{Hands, journals_by, news_of, errands_by, known_by, AreUnder, stores_first, AreFree, HasRun}
use Rattle.cq_block_laws.specs.Laws.{HaveFree}
use Rattle.cq_block_laws.proofs.Places.{zip_back}
use Rattle.cq_block_laws.proofs.Cells.{given_to}
use Rattle.cq_block_laws.proofs.Histories.{IsRow}

module _ {X C : Type 0} where
  -- at first passes have seen the groups' journals alone
  pub first_journals : (numbers : List ℕ) (n : ℕ) (c : C) (groups : List (GroupState X)) (cells : List (TableId × Key (Shard X C))) (row : List (Pass X C)) → AllZip (IsShared c) groups (map origin_in cells) → AllZip (IsFirst numbers n) cells row →
      journals_by row ≡ journals_of groups
  first_journals numbers n c [] [] [] s f = refl
  first_journals numbers n c [] [] (p ∷ row) s f = absurd f
  first_journals numbers n c [] (k ∷ cells) row s f = absurd s
  first_journals numbers n c (g ∷ groups) [] row s f = absurd s
  first_journals numbers n c (g ∷ groups) (k ∷ cells) [] s f = absurd f
  first_journals numbers n c (g ∷ groups) (k ∷ cells) (p ∷ row) s f =
      let here : (seen_by p.place).journal ≡ journal_of g =
      ap (λ (m : Sat (Shard X C) Note). (seen_since (group_of m.0.origin) m.0.news).journal) f.0.me
      ∙ ap (with_list (journal_of k.1.origin.value.group)) (append_nil (entries_of k.1.origin.value.group))
      ∙ ap journal_of s.0.0 in
      let more = first_journals numbers n c groups cells row s.1 f.1 in
      λ i. here i ∷ more i

module _ {X C : Type 0} (state : X → StoreState) (terms : C → Terms) (rules : Rules) (nodes : ℕ) (o : Opening) (opened : List (GroupState X)) (workers : List (Worker X)) (sessions : List Session) (closed : List (GroupState X))
    (returned : List (Worker X)) (h : HasRun state terms rules nodes o opened workers sessions closed returned) (s : Session) (first last : Hands X C) (r : IsRow state terms rules nodes o opened workers sessions closed returned h s first last) where
  -- they have seen no notes of workers
  nothing_noted : (at : ℕ) (p : Option (WorkerPass X C)) → slice_get first.benches at ≡ p → news_of p ≡ []
  nothing_noted at None e = refl
  nothing_noted at (Some p) e = (given_to o.sessions h.opens_workers.stocks h.stalls h.stall_roots h.opens_workers.opened s.number at first.benches p r.benches e).2.news

  pub known_first : o.journals ≡ journals_of opened → known_by first ≡ at_first o
  known_first journals =
      let js : journals_by first.passes ≡ o.journals =
      first_journals o.sessions s.number h.shared_by opened h.cells first.passes (subst (AllZip (IsShared h.shared_by) opened) (sym h.opens.opened.values) h.opens.are) r.firsts ∙ sym journals in
      let none : (at : ℕ) → errands_by first.benches at ≡ [] = (λ at. nothing_noted at (slice_get first.benches at) refl) in
      λ i. record { journals = js i; errands = λ at. none at i }

  pub free_at_first : (run : Run) → HaveFree run o workers → AreFree run o first.benches
  free_at_first run free at p less e =
      let g = given_to o.sessions h.opens_workers.stocks h.stalls h.stall_roots h.opens_workers.opened s.number at first.benches p r.benches e in
      let w = zip_back (IsStock h.shared_by) workers h.opens_workers.stocks at g.0 h.opens_workers.are g.1 in
      ap stores_first g.2.origin ∙ ap (λ (v : Worker X). length v.stores.items) w.2.0 ∙ free at w.0 less w.1

  -- their passes are to cells under the rules of the block
  pub under_first : AreUnder h.shared_by first
  under_first = record { passes = passes; benches = benches }
    where
      passes : (g : ℕ) (p : Pass X C) → slice_get first.passes g ≡ Some p → IsRuled p.place h.shared_by
      passes g p e =
          let x = given_to o.sessions h.opens.shards h.cells h.roots h.opens.opened s.number g first.passes p r.firsts e in
          let b = zip_back (IsShared h.shared_by) opened h.opens.shards g x.0 h.opens.are x.1 in
          (x.0, x.2.origin, b.2.1)

      benches : (at : ℕ) (p : WorkerPass X C) → slice_get first.benches at ≡ Some p → IsRuledAt p.place h.shared_by
      benches at p e =
          let x = given_to o.sessions h.opens_workers.stocks h.stalls h.stall_roots h.opens_workers.opened s.number at first.benches p r.benches e in
          let b = zip_back (IsStock h.shared_by) workers h.opens_workers.stocks at x.0 h.opens_workers.are x.1 in
          (x.0, x.2.origin, b.2.1)
