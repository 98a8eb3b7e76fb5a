-- Where a move found its group: on the node where this was opened, or on one that the terms of sharing reach.
use Rattle.std.proofs.Common.{◌≡◌, ◌≢◌, ◌⊎◌, inl, inr, ◌∙◌, ℕ, List, [], ◌∷◌, ◌++◌, refl, sym, ap, subst, fold, append_assoc, append-nil, Some, None}
use Rattle.std.proofs.lemmas.List.{append_cancel_left}
use Rattle.std.specs.List.{AllByRecursion}
use Rattle.cq_value.proofs.Lists.{all_left}
use Rattle.cq_value.proofs.Truths.{two_ways}
use Rattle.cq_tree.specs.declared.journal.Who.{Who}
use Rattle.cq_tree.specs.declared.journal.Entry.{Entry}
use Rattle.cq_tree.specs.declared.journal.EntryKind.{EntryKind}
use Rattle.cq_journal.specs.Records.{Journal}
use Rattle.cq_journal.specs.Stations.{Station, moved, station_of, node_of, moving_of}
use Rattle.cq_store.specs.Stores.{StoreState}
use Rattle.cq_history.specs.Journals.{Step, made_by, steps_after}
use Rattle.cq_history.proofs.Entries.{with_list, three}
use Rattle.cq_group.specs.Groups.{entries_of, journal_of}
use Rattle.cq_reach.specs.Seen.{Seen}
use Rattle.cq_move.specs.declared.outcome.MoveReport.{MoveReport}
use Rattle.cq_transfer.specs.Entering.{HasMoved}
use Rattle.cq_shared.specs.declared.content.Shard.{Shard}
use Rattle.cq_shared.specs.declared.note.Note.{Note}
use Rattle.cq_shared.specs.Notes.{AllMove, GoesTo, IsShard, MayMove, entries_in}
use Rattle.cq_shared.specs.Seen.{seen_since}
use Rattle.cq_shared.specs.Terms.{Terms}
use Rattle.cq_shared.proofs.Placing.{placed, goes_noted}
use Rattle.cq_shared.proofs.Standing.{step, fold_both}

-- a step of a statement is one of the entries that came to a journal, with those before it
record IsStepIn (j : Journal) (more : List Entry) (s : Step) : Type 0 where
  before : List Entry
  entry : Entry
  after : List Entry
  parts : more ≡ before ++ entry ∷ after
  kind : entry.kind ≡ s.kind
  at : s.before ≡ with_list j (j.entries ++ before)

step_in : (who : Who) (j : Journal) (more : List Entry) (s : Step) (rest : List Step) → s ∷ rest ≡ steps_after who j more → IsStepIn j more s
step_in who j [] s rest is = absurd (cc is)
step_in who j (e ∷ more) s rest is = elim (two_ways (made_by who e)) [
  | inl y ↦
      let first : s ≡ record { before = j; kind = e.kind } = head s _ rest _ (rw y at is) in
      record { before = []; entry = e; after = more; parts = refl; kind = sym (ap (λ (v : Step). v.kind) first); at = ap (λ (v : Step). v.before) first ∙ ap (with_list j) (sym (append-nil j.entries)) }
  | inr n ↦
      let m = step_in who (with_list j (j.entries ++ e ∷ [])) more s rest (rw n at is) in
      record { before = e ∷ m.before; entry = m.entry; after = m.after; parts = ap (λ es. e ∷ es) m.parts; kind = m.kind; at = m.at ∙ ap (with_list j) (three j.entries e m.before) }
]
  where
    head : (a b : Step) (xs ys : List Step) → a ∷ xs ≡ b ∷ ys → a ≡ b
    head a b xs ys e = cc

moves_parted : (s : Station) (xs : List Entry) (e : Entry) (ys : List Entry) → AllMove s (xs ++ e ∷ ys) → AllMove s xs × MayMove (fold step s xs) e.who e.kind
moves_parted s [] e ys all = (tt, all.0)
moves_parted s (x ∷ xs) e ys all = let rest = moves_parted (moved s x.who x.kind) xs e ys all.1 in ((all.0, rest.0), rest.1)

module _ {X C : Type 0} (state : X → StoreState) (terms : C → Terms) (o x : Shard X C) (old new : List Note) (stands : IsShard state terms o x new) (still : moving_of (journal_of o.group) ≡ None)
    (comes : Entry → Type 0) (who : Who) (from to : ℕ) (r : MoveReport) (moves : HasMoved comes who from to r (seen_since (Some o.group) old) (seen_since (Some o.group) new)) where
  abbrev first : Station
  first = station_of (journal_of o.group)

  abbrev known : Journal
  known = (seen_since (Some o.group) old).journal

  at_start : IsStepIn known moves.enters.grown.more moves.start
  at_start = step_in who known moves.enters.grown.more moves.start _ moves.enters.own

  abbrev before_it : List Entry
  before_it = entries_in old ++ at_start.before

  -- all that was noted is what was known, and what came
  grown : entries_in new ≡ entries_in old ++ moves.enters.grown.more
  grown = append_cancel_left (entries_of o.group) (entries_in new) (entries_in old ++ moves.enters.grown.more)
      (ap (λ (v : Seen). v.journal.entries) moves.enters.grown.is ∙ append_assoc (entries_of o.group) (entries_in old) moves.enters.grown.more)

  all : entries_in new ≡ before_it ++ at_start.entry ∷ at_start.after
  all = grown ∙ (ap (λ es. entries_in old ++ es) at_start.parts ∙ sym (append_assoc (entries_in old) at_start.before (at_start.entry ∷ at_start.after)))

  may : AllMove first before_it × MayMove (fold step first before_it) at_start.entry.who at_start.entry.kind
  may = moves_parted first before_it at_start.entry at_start.after (subst (AllMove first) all stands.stands.moves)

  goes : AllByRecursion (λ (e : Entry). GoesTo (terms o.rules.value).reaches e.kind) before_it
  goes = all_left (λ (e : Entry). GoesTo (terms o.rules.value).reaches e.kind) before_it (at_start.entry ∷ at_start.after)
      (subst (AllByRecursion (λ (e : Entry). GoesTo (terms o.rules.value).reaches e.kind)) all (goes_noted (terms o.rules.value) new stands.spares))

  its_node : (fold step first before_it).node ≡ from
  its_node =
      ap (λ (s : Station). s.node)
      (sym (fold_both step (record { node = o.group.journal.opening; moving = None; target = o.group.journal.opening }) (entries_of o.group) before_it)
      ∙ ap (fold step (record { node = o.group.journal.opening; moving = None; target = o.group.journal.opening })) (sym (append_assoc (entries_of o.group) (entries_in old) at_start.before)))
      ∙ (ap node_of (sym at_start.at) ∙ moves.there)

  -- it was on a node
  pub found_somewhere : from ≢ 0
  found_somewhere none =
      let start = subst (λ (k : EntryKind). MayMove (fold step first before_it) at_start.entry.who k) (at_start.kind ∙ moves.starts) may.1 in
      start.3 (its_node ∙ none)

  -- that of its opening, or one that the terms reach
  pub found_place : (from ≡ node_of (journal_of o.group)) ⊎ (terms o.rules.value).reaches from
  found_place =
      let reaches = (terms o.rules.value).reaches in
      let all_placed = placed reaches first.node first before_it may.0 goes (record { there = inl refl; goes = inl still }) in
      subst (λ n. (n ≡ first.node) ⊎ reaches n) its_node all_placed.there
