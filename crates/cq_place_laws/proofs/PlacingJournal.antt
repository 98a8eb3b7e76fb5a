-- Along a legal journal a group goes from node to node, at each Cutover from where its move began to the node that was given there.
use Rattle.std.proofs.Common.{◌≡◌, ◌≢◌, ◌⊎◌, inl, inr, ◌+◌, ◌≤◌, ℕ, List, [], ◌∷◌, ◌++◌, length, refl, sym, ◌∙◌, ap, subst, arith, Some, slice_get, append-nil}
use Rattle.std.specs.Prelude.{⊤}
use Rattle.std.specs.List.{AllByRecursion, sum_by}
use Rattle.std.proofs.lemmas.List.Sums.{sum_by-cons}
use Rattle.cq_tree.specs.declared.journal.Who.{Who}
use Rattle.cq_tree.specs.declared.journal.Entry.{Entry}
use Rattle.cq_tree.specs.declared.journal.EntryKind.{EntryKind}
use Rattle.cq_tree.specs.declared.journal.EntryKind.TheVariants as entry
use Rattle.cq_catalog.specs.Contents.{Contents}
use Rattle.cq_journal.specs.Records.{Journal}
use Rattle.cq_journal.specs.Stations.{Station, moved, station_of, node_of, moving_of}
use Rattle.cq_history.specs.Journals.{cut, Step, steps_after, steps_of}
use Rattle.cq_history.specs.Legality.{CanFollow, IsLegal}
use Rattle.cq_history.proofs.Entries.{with_list, three, take_all, steps_append}
use Rattle.cq_history.proofs.Moving.{station_more}
use Rattle.cq_history.proofs.Visiting.{made_own}

-- ---- steps among others

abbrev pub IsAmong : Step → List Step → Type 0
IsAmong s [] = ⊥
IsAmong s (t ∷ more) = (s ≡ t) ⊎ IsAmong s more

among_right : (s : Step) (xs ys : List Step) → IsAmong s ys → IsAmong s (xs ++ ys)
among_right s [] ys i = i
among_right s (x ∷ xs) ys i = inr (among_right s xs ys i)

pub all_among : (P : Step → Type 0) (s : Step) (xs : List Step) → AllByRecursion P xs → IsAmong s xs → P s
all_among P s [] all i = absurd i
all_among P s (x ∷ xs) all (inl e) = subst P (sym e) all.0
all_among P s (x ∷ xs) all (inr i) = all_among P s xs all.1 i

-- ---- what is so of each entry, behind the journal before it

abbrev pub Along : (Journal → Entry → Type 0) → Journal → List Entry → Type 0
Along P j [] = ⊤
Along P j (e ∷ es) = P j e × Along P (with_list j (j.entries ++ e ∷ [])) es

along_right : (P : Journal → Entry → Type 0) (j : Journal) (xs ys : List Entry) → Along P j (xs ++ ys) → Along P (with_list j (j.entries ++ xs)) ys
along_right P j [] ys all = subst (λ (v : List Entry). Along P (with_list j v) ys) (sym (append-nil j.entries)) all
along_right P j (x ∷ xs) ys all = subst (λ (v : List Entry). Along P (with_list j v) ys) (three j.entries x xs) (along_right P (with_list j (j.entries ++ x ∷ [])) xs ys all.1)

pub along_both : (P R : Journal → Entry → Type 0) (Q : Entry → Type 0) → ((j : Journal) (e : Entry) → P j e → Q e → R j e) → (j : Journal) (es : List Entry) → Along P j es → AllByRecursion Q es → Along R j es
along_both P R Q f j [] p q = tt
along_both P R Q f j (e ∷ es) p q = (f j e p.0 q.0, along_both P R Q f (with_list j (j.entries ++ e ∷ [])) es p.1 q.1)

-- ---- the stations

-- the move that ends at a Cutover of a statement behind this journal, in the whole one
pub record Ends (whole j : Journal) (who : Who) : Type 0 where
  pub start : Step
  pub begun : IsAmong start (steps_of who whole)
  pub starts : start.kind ≡ entry.MoveStart (station_of j).target
  pub there : node_of start.before ≡ node_of j
  pub ends : IsAmong (record { before = j; kind = entry.Cutover }) (steps_of who whole)
  pub from_low : 1 ≤ node_of j
  pub to_low : 1 ≤ (station_of j).target

abbrev pub CutsOver : Journal → Journal → Entry → Type 0
CutsOver whole j e = e.kind ≡ entry.Cutover → Ends whole j e.who

got_behind : (xs : List Entry) (e : Entry) (ys : List Entry) → slice_get (xs ++ e ∷ ys) (length xs) ≡ Some e
got_behind [] e ys = refl
got_behind (x ∷ xs) e ys = got_behind xs e ys

module _ (c : Contents) (whole : Journal) (follow : (place : ℕ) (e : Entry) → slice_get whole.entries place ≡ Some e → CanFollow c (cut place whole) e.who e.kind) where
  -- the step with which a statement began the move at this station
  record Began (w : Who) (s : Station) : Type 0 where
    start : Step
    begun : IsAmong start (steps_of w whole)
    starts : start.kind ≡ entry.MoveStart s.target
    there : node_of start.before ≡ s.node
    opened : whole.opening ≢ 0

  record Keeps (s : Station) : Type 0 where
    low : whole.opening ≢ 0 → (1 ≤ s.node) × (1 ≤ s.target)
    began : (w : Who) → s.moving ≡ Some w → Began w s

  module _ (j : Journal) (e : Entry) (es : List Entry) (is : whole ≡ with_list j (j.entries ++ e ∷ es)) where
    follows : CanFollow c j e.who e.kind
    follows =
        let there : slice_get whole.entries (length j.entries) ≡ Some e = ap (λ (v : Journal). slice_get v.entries (length j.entries)) is ∙ got_behind j.entries e es in
        let so : cut (length j.entries) whole ≡ j = ap (cut (length j.entries)) is ∙ ap (with_list j) (take_all j.entries (e ∷ es)) in
        subst (λ (v : Journal). CanFollow c v e.who e.kind) so (follow (length j.entries) e there)

    step_there : IsAmong (record { before = j; kind = e.kind }) (steps_of e.who whole)
    step_there =
        let front : steps_of e.who whole ≡ steps_of e.who j ++ steps_after e.who j (e ∷ es) = ap (steps_of e.who) is ∙ steps_append e.who (with_list j []) j.entries (e ∷ es) in
        subst (IsAmong (record { before = j; kind = e.kind })) (sym front) (among_right (record { before = j; kind = e.kind }) (steps_of e.who j) (steps_after e.who j (e ∷ es)) first)
      where
        first : IsAmong (record { before = j; kind = e.kind }) (steps_after e.who j (e ∷ es))
        first = rw (made_own e.who e.kind) (inl refl)

    opening_is : whole.opening ≡ j.opening
    opening_is = ap (λ (v : Journal). v.opening) is

    keep : (k : EntryKind) → e.kind ≡ k → CanFollow c j e.who k → Keeps (station_of j) → Keeps (moved (station_of j) e.who k)
    keep entry.Read same can keeps = keeps
    keep (entry.Write op reply) same can keeps = keeps
    keep (entry.MoveStart to) same can keeps = record {
      low = λ opened. ((keeps.low opened).0, can.1);
      began = λ w m. subst (λ (v : Who). Began v (moved (station_of j) e.who (entry.MoveStart to))) (let is_some : Some e.who ≡ Some w = m in let by : e.who ≡ w = cc is_some in by) (record {
        start = record { before = j; kind = e.kind };
        begun = step_there;
        starts = same;
        there = refl;
        opened = λ none. can.3 (sym opening_is ∙ none);
      });
    }
    keep entry.CatchUp same can keeps = keeps
    keep entry.Cutover same can keeps = record { low = λ opened. ((keeps.low opened).1, (keeps.low opened).1); began = λ w m. absurd (cc m) }
    keep entry.MoveStop same can keeps = record { low = λ opened. keeps.low opened; began = λ w m. absurd (cc m) }

    cuts : Keeps (station_of j) → CutsOver whole j e
    cuts keeps same =
        let moving : moving_of j ≡ Some e.who = subst (CanFollow c j e.who) same follows in
        let b = keeps.began e.who moving in
        let low = keeps.low b.opened in
        record {
          start = b.start;
          begun = b.begun;
          starts = b.starts;
          there = b.there;
          ends = subst (λ (k : EntryKind). IsAmong (record { before = j; kind = k }) (steps_of e.who whole)) same step_there;
          from_low = low.0;
          to_low = low.1;
        }

  walk : (j : Journal) (es : List Entry) → whole ≡ with_list j (j.entries ++ es) → Keeps (station_of j) → Along (CutsOver whole) j es
  walk j [] is keeps = tt
  walk j (e ∷ es) is keeps = (
    cuts j e es is keeps,
    walk (with_list j (j.entries ++ e ∷ [])) es (is ∙ ap (with_list j) (sym (three j.entries e es)))
        (subst Keeps (sym (station_more e.who e.kind j)) (keep j e es is e.kind refl (follows j e es is) keeps)),
  )

  pub all_cuts : Along (CutsOver whole) (with_list whole []) whole.entries
  all_cuts = walk (with_list whole []) whole.entries refl (record { low = λ opened. (let some = opened in (omega (arith, some), omega (arith, some))); began = λ w m. absurd (cc m) })

-- so of the entries behind a journal
pub cuts_behind : (c : Contents) (g : ℕ) (j : Journal) (more : List Entry) → IsLegal c g (with_list j (j.entries ++ more)) → Along (CutsOver (with_list j (j.entries ++ more))) j more
cuts_behind c g j more legal =
    let whole = with_list j (j.entries ++ more) in
    along_right (CutsOver whole) (with_list whole []) j.entries more (all_cuts c whole legal.follow)

-- ---- what a node counts for, along entries

module _ (weight : ℕ → ℕ) (into out : Entry → ℕ) where
  abbrev pub Balances : Journal → Entry → Type 0
  Balances j e = weight (moved (station_of j) e.who e.kind).node + out e ≡ weight (node_of j) + into e

  pub weigh : (j : Journal) (es : List Entry) → Along Balances j es → weight (node_of (with_list j (j.entries ++ es))) + sum_by out es ≡ weight (node_of j) + sum_by into es
  weigh j [] all = ap (λ (v : List Entry). weight (node_of (with_list j v)) + 0) (append-nil j.entries)
  weigh j (e ∷ es) all =
      let next = with_list j (j.entries ++ e ∷ []) in
      let rest : weight (node_of (with_list next (next.entries ++ es))) + sum_by out es ≡ weight (node_of next) + sum_by into es = weigh next es all.1 in
      let end : weight (node_of (with_list next (next.entries ++ es))) ≡ weight (node_of (with_list j (j.entries ++ e ∷ es))) = ap (λ (v : List Entry). weight (node_of (with_list j v))) (three j.entries e es) in
      let step : weight (node_of next) ≡ weight (moved (station_of j) e.who e.kind).node = ap (λ (s : Station). weight s.node) (station_more e.who e.kind j) in
      let here : weight (moved (station_of j) e.who e.kind).node + out e ≡ weight (node_of j) + into e = all.0 in
      let a : sum_by out (e ∷ es) ≡ out e + sum_by out es = sum_by-cons out e es in
      let b : sum_by into (e ∷ es) ≡ into e + sum_by into es = sum_by-cons into e es in
      omega (arith, rest, end, step, here, a, b)
