-- Parts that are staged in order, and the part at which a write stops.
use Rattle.std.proofs.Common.{◌≡◌, inl, inr, ℕ, zero, suc, take, drop, add-one, ◌+◌, ◌<◌, ◌≤◌, List, [], ◌∷◌, ◌++◌, length, map, get_or, refl, sym, ◌∙◌, ap, subst, arith, Some, slice_get, Result, Ok, Err}
use Rattle.std.proofs.lemmas.Option.{same_Some}
use Rattle.std.specs.List.{AllByRecursion}
use Rattle.cq_value.proofs.Lists.{append_nil, got}
use Rattle.cq_history.proofs.Lists.{got_below}
use Rattle.cq_tree.specs.declared.write.Reply.{Reply}
use Rattle.cq_journal.specs.Replies.{IsMade, IsRefusal}
use Rattle.cq_store.specs.Stores.{StoreState}
use Rattle.cq_group.specs.declared.group.GroupState.{GroupState}
use Rattle.cq_group.specs.Groups.{IsKept, IsQuiet, IsReady}
use Rattle.cq_group.specs.Resting.{AreResting}
use Rattle.cq_router.specs.declared.insertion.Part.{Part}
use Rattle.cq_reach.specs.declared.error.WriteError.TheVariants.{Ids, Worker, Memory}
use Rattle.cq_reach.specs.declared.staging.ReadyPart.{ReadyPart}
use Rattle.cq_reach.specs.declared.staging.Stop.{Stop}
use Rattle.cq_reach.specs.declared.staging.Stop.TheVariants as stop
use Rattle.cq_reach.specs.Seen.{seen_of, all_seen}
use Rattle.cq_reach.specs.Writes.{InGroup, IsReadyIn, AscendFrom, IsStopped}
use Rattle.cq_reach.specs.Staging.{Takes, InBoth, TurnsOne, IsApart, AreApart, Turned, IsHeld, IsDropped, Stages, Refuses, CanStage, place_of, IsReplied, StopsAt, IsPut, AreStaged, AreDropped, IsNext, AreRestored, StopsBy, AllStaged}
use Rattle.cq_reach.proofs.Seeing.{seen_at}
use Rattle.cq_reach.proofs.Turning.{apart_last, one_at, one_twice, one_weaker, turned_at, turned_more}
use Rattle.cq_reach.proofs.Holding.{held_same, held_more, dropped_more, made_over, stops_dropped}

-- the parts of these
abbrev pub parts_of : List ReadyPart → List Part
parts_of ready = map (λ (s : ReadyPart). s.part) ready

-- ---- parts in order

all_middle : {A : Type 0} (P : A → Type 0) (xs : List A) (a : A) (rest : List A) → AllByRecursion P (xs ++ a ∷ rest) → P a
all_middle P [] a rest h = h.0
all_middle P (x ∷ xs) a rest h = all_middle P xs a rest h.1

above : (low : ℕ) (ready : List ReadyPart) (p : Part) (rest : List Part) → AscendFrom low (parts_of ready ++ p ∷ rest) → low ≤ p.group
above low [] p rest h = h.0
above low (s ∷ ready) p rest h = let more = above (s.part.group + 1) ready p rest h.1 in omega (arith, more, h.0)

pub ascend_apart : (low : ℕ) (ready : List ReadyPart) (p : Part) (rest : List Part) → AscendFrom low (parts_of ready ++ p ∷ rest) → IsApart place_of p.group ready
ascend_apart low [] p rest h = tt
ascend_apart low (s ∷ ready) p rest h =
    let more = above (s.part.group + 1) ready p rest h.1 in
    ((λ e. absurd (omega (arith, more, e))), ascend_apart (s.part.group + 1) ready p rest h.1)

apart_below : (n low : ℕ) (ready : List ReadyPart) (rest : List Part) → n < low → AscendFrom low (parts_of ready ++ rest) → IsApart place_of n ready
apart_below n low [] rest l h = tt
apart_below n low (s ∷ ready) rest l h = ((λ e. absurd (omega (arith, l, h.0, e))), apart_below n (s.part.group + 1) ready rest (omega (arith, l, h.0)) h.1)

pub ascend_each : (low : ℕ) (ready : List ReadyPart) (rest : List Part) → AscendFrom low (parts_of ready ++ rest) → AreApart place_of ready
ascend_each low [] rest h = tt
ascend_each low (s ∷ ready) rest h = (apart_below s.part.group (s.part.group + 1) ready rest (omega arith) h.1, ascend_each (s.part.group + 1) ready rest h.1)

pub one_further : (ready : List ReadyPart) (s : ReadyPart) (p : Part) (rest : List Part) → s.part ≡ p → parts_of ready ++ p ∷ rest ≡ parts_of (ready ++ s ∷ []) ++ rest
one_further [] s p rest e = ap (λ (q : Part). q ∷ rest) (sym e)
one_further (r ∷ ready) s p rest e = ap (λ (ps : List Part). r.part ∷ ps) (one_further ready s p rest e)

-- ---- a loop over parts that are ready, each in a group of its own

three : {A : Type 0} (xs : List A) (a : A) (rest : List A) → xs ++ a ∷ rest ≡ (xs ++ a ∷ []) ++ rest
three [] a rest = refl
three (x ∷ xs) a rest = ap (λ ys. x ∷ ys) (three xs a rest)

pub rest_next : {A : Type 0} (all done : List A) (a : A) (now rest : List A) → all ≡ done ++ now → now ≡ a ∷ rest → all ≡ (done ++ a ∷ []) ++ rest
rest_next all done a now rest e s = e ∙ ap (λ ys. done ++ ys) s ∙ three done a rest

pub rest_now : {A : Type 0} (all done : List A) (a : A) (now rest : List A) → all ≡ done ++ now → now ≡ a ∷ rest → all ≡ done ++ a ∷ rest
rest_now all done a now rest e s = e ∙ ap (λ ys. done ++ ys) s

pub rest_none : {A : Type 0} (all done now : List A) → all ≡ done ++ now → now ≡ [] → all ≡ done
rest_none all done now e s = e ∙ ap (λ ys. done ++ ys) s ∙ append_nil done

-- the item at a place of a list, between those before it and those after it
pub at_place : {A : Type 0} (xs : List A) (i : ℕ) (a : A) → i < length xs → a ≡ get_or xs i a → xs ≡ take i xs ++ a ∷ drop (suc i) xs
at_place [] i a l e = absurd (omega (arith, l))
at_place (x ∷ xs) zero a l e = ap (λ y. y ∷ xs) (sym e)
at_place (x ∷ xs) (suc i) a l e = ap (λ ys. x ∷ ys) (at_place xs i a (omega (arith, l)) e)

pub front_next : {A : Type 0} (xs : List A) (i : ℕ) (a : A) → i < length xs → a ≡ get_or xs i a → take (suc i) xs ≡ take i xs ++ a ∷ []
front_next [] i a l e = absurd (omega (arith, l))
front_next (x ∷ xs) zero a l e = ap (λ y. y ∷ []) (sym e)
front_next (x ∷ xs) (suc i) a l e = ap (λ ys. x ∷ ys) (front_next xs i a (omega (arith, l)) e)

pub front_all : {A : Type 0} (xs : List A) (i : ℕ) → length xs ≤ i → take i xs ≡ xs
front_all [] zero l = refl
front_all [] (suc i) l = refl
front_all (x ∷ xs) zero l = absurd (omega (arith, l))
front_all (x ∷ xs) (suc i) l = ap (λ ys. x ∷ ys) (front_all xs i (omega (arith, l)))

-- a fact of the group of a part
pub in_group : {X : Type 0} (groups : List (GroupState X)) (p : Part) (P : GroupState X → Type 0) → InGroup groups p P → (g : GroupState X) → slice_get groups p.group ≡ Some g → P g
in_group groups p P a g s = subst P (same_Some a.group g (sym a.there ∙ s)) a.holds

pub group_within : {X : Type 0} (groups : List (GroupState X)) (p : Part) (P : GroupState X → Type 0) → InGroup groups p P → p.group < length groups
group_within groups p P a = got_below groups p.group a.group a.there

module _ {X : Type 0} (Q : ReadyPart → GroupState X → GroupState X → Type 0) (all done : List ReadyPart) (s : ReadyPart) (rest : List ReadyPart) (old mid : List (GroupState X)) (e : all ≡ done ++ s ∷ rest) (apart : AreApart place_of all) (t : Turned place_of Q done old mid) where
  own_place : IsApart place_of s.part.group done
  own_place = apart_last place_of done s rest (subst (λ (v : List ReadyPart). AreApart place_of v) e apart)

  pub in_next : (P : ReadyPart → GroupState X → Type 0) → AllByRecursion (λ (r : ReadyPart). InGroup old r.part (P r)) all → InGroup mid s.part (P s)
  in_next P each =
      let own = all_middle (λ (r : ReadyPart). InGroup old r.part (P r)) done s rest (subst (λ (v : List ReadyPart). AllByRecursion (λ (r : ReadyPart). InGroup old r.part (P r)) v) e each) in
      record { group = own.group; there = t.others s.part.group own_place ∙ own.there; holds = own.holds }

  pub turned_next : (new : List (GroupState X)) → TurnsOne s.part.group (Q s) mid new → Turned place_of Q (done ++ s ∷ []) old new
  turned_next new one = turned_more place_of Q done s old mid new t one own_place

-- what is staged is dropped, part by part
module _ {X : Type 0} (state : X → StoreState) (all items : List ReadyPart) (i : ℕ) (s : ReadyPart) (old mid : List (GroupState X)) (e : items ≡ all) (l : i < length items) (is : s ≡ get_or items i s) (apart : AreApart place_of all) (t : AreDropped state (take i all) old mid) where
  within_all : i < length all
  within_all = subst (λ (v : List ReadyPart). i < length v) e l

  is_in : s ≡ get_or all i s
  is_in = subst (λ (v : List ReadyPart). s ≡ get_or v i s) e is

  pub discard_kept : AllByRecursion (λ (r : ReadyPart). InGroup old r.part (IsKept state)) all → InGroup mid s.part (IsKept state)
  discard_kept kept = in_next (λ (r : ReadyPart). IsDropped state) all (take i all) s (drop (suc i) all) old mid (at_place all i s within_all is_in) apart t (λ (r : ReadyPart). IsKept state) kept

  pub discard_more : (new : List (GroupState X)) → TurnsOne s.part.group (IsDropped state) mid new → AreDropped state (take (i + 1) all) old new
  discard_more new one =
      let next : take (i + 1) all ≡ take i all ++ s ∷ [] = subst (λ n. take n all ≡ take i all ++ s ∷ []) (sym (add-one i)) (front_next all i s within_all is_in) in
      subst (λ (v : List ReadyPart). AreDropped state v old new) (sym next)
      (turned_next (λ (r : ReadyPart). IsDropped state) all (take i all) s (drop (suc i) all) old mid (at_place all i s within_all is_in) apart t new one)

-- ---- a loop over the parts

module _ {X : Type 0} (state : X → StoreState) where
  -- a part that was staged and put last, or not
  pub next_after : (p : Part) (reply : Reply) (s : ReadyPart) (ready more : List ReadyPart) (old mid new : List (GroupState X)) (r : Result (Unit {0}) Stop) → s ≡ record { part = p; reply = reply } →
      TurnsOne p.group (IsReplied state p.op reply) old mid → IsPut state s ready more mid new r → IsNext state p ready more old new r
  next_after p reply s ready more old mid new (Ok x) is t put =
      let made : IsMade reply = subst (λ (v : ReadyPart). IsMade v.reply) is put.0 in
      let one : TurnsOne p.group (Stages state p.op reply) old mid = one_weaker (IsReplied state p.op reply) (Stages state p.op reply) (λ g h a. record { held = a.held; made = made; ready = a.ready }) p.group old mid t in (
        record { part = p; reply = reply },
        put.1 ∙ ap (λ (v : ReadyPart). ready ++ v ∷ []) is,
        refl,
        subst (λ (v : List (GroupState X)). TurnsOne p.group (Stages state p.op reply) old v) (sym put.2) one,
      )
  next_after p reply s ready more old mid new (Err (stop.Refused q)) is t put =
      let same : q ≡ record { part = p; reply = reply } = put.1 ∙ is in
      let refusal : IsRefusal reply = subst (λ (v : ReadyPart). IsRefusal v.reply) is put.2 in
      let part : q.part ≡ p = ap (λ (v : ReadyPart). v.part) same in
      let its : q.reply ≡ reply = ap (λ (v : ReadyPart). v.reply) same in
      let one : TurnsOne p.group (StopsAt state p (stop.Refused q)) old mid = one_weaker (IsReplied state p.op reply) (StopsAt state p (stop.Refused q))
      (λ g h a. (part, subst (λ (v : Reply). Refuses state p.op v g h) (sym its) (record { dropped = record { held = a.held; quiet = a.quiet refusal }; refusal = refusal; ready = a.ready }))) p.group old mid t in
      (put.0, subst (λ (v : List (GroupState X)). TurnsOne p.group (StopsAt state p (stop.Refused q)) old v) (sym put.3) one)
  next_after p reply s ready more old mid new (Err (stop.Failed Ids)) is t put = absurd put
  next_after p reply s ready more old mid new (Err (stop.Failed (Worker failure))) is t put = absurd put
  next_after p reply s ready more old mid new (Err (stop.Failed Memory)) is t put =
      let dropped : TurnsOne p.group (IsDropped state) mid new = subst (λ (v : ReadyPart). TurnsOne v.part.group (IsDropped state) mid new) is put.1 in
      (put.0, one_twice (IsReplied state p.op reply) (IsDropped state) (IsDropped state) (λ g m h a d. dropped_more state g m h a.held d) p.group old mid new t dropped)

  -- the next part's group is as it was
  pub can_stage : (old mid : List (GroupState X)) (ready : List ReadyPart) (p : Part) (rest : List Part) → AreResting state old → AllByRecursion (Takes old) (parts_of ready ++ p ∷ rest) →
      AscendFrom 0 (parts_of ready ++ p ∷ rest) → AreStaged state ready old mid → CanStage state mid p
  can_stage old mid ready p rest resting takes ascend t =
      let take = all_middle (Takes old) (parts_of ready) p rest takes in
      record {
        group = take.group;
        there = t.others p.group (ascend_apart 0 ready p rest ascend) ∙ take.there;
        holds = (resting p.group take.group take.there, take.holds.0, take.holds.1);
      }

  pub staged_more : (old mid new : List (GroupState X)) (ready more : List ReadyPart) (p : Part) (rest : List Part) → AscendFrom 0 (parts_of ready ++ p ∷ rest) → AreStaged state ready old mid →
      IsNext state p ready more mid new (Ok tt) → AreStaged state more old new × (parts_of ready ++ p ∷ rest ≡ parts_of more ++ rest)
  staged_more old mid new ready more p rest ascend t n =
      let s : ReadyPart = n.0 in
      let one : TurnsOne s.part.group (Stages state s.part.op s.reply) mid new = subst (λ (q : Part). TurnsOne q.group (Stages state q.op s.reply) mid new) (sym n.2) n.3 in
      let apart : IsApart place_of s.part.group ready = subst (λ (q : Part). IsApart place_of q.group ready) (sym n.2) (ascend_apart 0 ready p rest ascend) in (
        subst (λ (r : List ReadyPart). AreStaged state r old new) (sym n.1) (turned_more place_of (λ (r : ReadyPart). Stages state r.part.op r.reply) ready s old mid new t one apart),
        one_further ready s p rest n.2 ∙ ap (λ (r : List ReadyPart). parts_of r ++ rest) (sym n.1),
      )

  -- those that are staged keep
  pub staged_keep : (old mid new : List (GroupState X)) (place : ℕ) (P : GroupState X → GroupState X → Type 0) (ready : List ReadyPart) → IsApart place_of place ready →
      AllByRecursion (λ (s : ReadyPart). InBoth old mid (place_of s) (Stages state s.part.op s.reply)) ready → TurnsOne place P mid new → AllByRecursion (λ (s : ReadyPart). InGroup new s.part (IsKept state)) ready
  staged_keep old mid new place P [] apart each t = tt
  staged_keep old mid new place P (s ∷ ready) apart each t =
      let b = each.0 in
      (record { group = b.after; there = t.others s.part.group (λ e. apart.0 (sym e)) ∙ b.is; holds = b.holds.held.kept }, staged_keep old mid new place P ready apart.1 each.1 t)

  pub staged_ready : (old mid : List (GroupState X)) (ready : List ReadyPart) → AllByRecursion (λ (s : ReadyPart). InBoth old mid (place_of s) (Stages state s.part.op s.reply)) ready →
      AllByRecursion (λ (s : ReadyPart). InGroup mid s.part (λ (g : GroupState X). IsKept state g × IsReady state g s.part.op s.reply)) ready
  staged_ready old mid [] each = tt
  staged_ready old mid (s ∷ ready) each = let b = each.0 in (record { group = b.after; there = b.is; holds = (b.holds.held.kept, b.holds.ready) }, staged_ready old mid ready each.1)

  ready_before : (old mid : List (GroupState X)) (ready : List ReadyPart) → AllByRecursion (λ (s : ReadyPart). InBoth old mid (place_of s) (Stages state s.part.op s.reply)) ready → AllByRecursion (IsReadyIn (all_seen old)) (parts_of ready)
  ready_before old mid [] each = tt
  ready_before old mid (s ∷ ready) each =
      let b = each.0 in
      (record { group = seen_of b.before; there = seen_at old s.part.group b.before b.was; holds = made_over state b.before b.after s.part.op s.reply b.holds }, ready_before old mid ready each.1)

  -- ---- where a part stops

  module _ (old mid stopped new : List (GroupState X)) (ready : List ReadyPart) (p : Part) (rest : List Part) (why : Stop) (resting : AreResting state old) (ascend : AscendFrom 0 (parts_of ready ++ p ∷ rest)) (t : AreStaged state ready old mid) (at : TurnsOne p.group (StopsAt state p why) mid stopped) (d : AreDropped state ready stopped new) where
    one_restored : (i : ℕ) (g m n h : GroupState X) → slice_get old i ≡ Some g → slice_get mid i ≡ Some m → slice_get stopped i ≡ Some n → slice_get new i ≡ Some h → IsDropped state g h
    one_restored i g m n h gs ms ns hs =
        let kept : IsKept state g = (resting i g gs).kept in
        let first : IsHeld state g m = elim (turned_at place_of (λ (r : ReadyPart). Stages state r.part.op r.reply) ready old mid t i g m gs ms) [
          | inl a ↦ a.2.held
          | inr b ↦ subst (λ (v : GroupState X). IsHeld state g v) (sym b.1) (held_same state g kept)
        ] in
        let second : IsHeld state m n = elim (one_at (StopsAt state p why) p.group mid stopped at i m n ms ns) [
          | inl a ↦ (stops_dropped state p why m n a.1).held
          | inr b ↦ subst (λ (v : GroupState X). IsHeld state m v) (sym b.1) (held_same state m first.kept)
        ] in
        let both : IsHeld state g n = held_more state g m n first second in
        elim (turned_at place_of (λ (r : ReadyPart). IsDropped state) ready stopped new d i n h ns hs) [
          | inl a ↦ record { held = held_more state g n h both a.2.held; quiet = a.2.quiet }
          | inr b ↦
              let quiet : IsQuiet state n = elim (one_at (StopsAt state p why) p.group mid stopped at i m n ms ns) [
                | inl a ↦ (stops_dropped state p why m n a.1).quiet
                | inr c ↦
                    let same : m ≡ g = same_Some m g (sym ms ∙ t.others i b.0 ∙ gs) in
                    subst (λ (v : GroupState X). IsQuiet state v) (sym (c.1 ∙ same)) (resting i g gs).quiet
              ] in
              subst (λ (v : GroupState X). IsDropped state g v) (sym b.1) (record { held = both; quiet = quiet })
        ]

    pub restored : AreRestored state old new
    restored = record {
      count = d.count ∙ at.count ∙ t.count;
      each = λ i g h gs hs.
          let low = got_below old i g gs in
          let m = got mid i (omega (arith, low, t.count)) in
          let n = got stopped i (omega (arith, low, t.count, at.count)) in
          one_restored i g m.0 n.0 h gs m.1 n.1 hs;
    }

    -- its group, over all calls
    over : InBoth old new p.group (StopsAt state p why)
    over =
        let b = at.one in
        let apart = ascend_apart 0 ready p rest ascend in
        record { before = b.before; after = b.after; was = sym (t.others p.group apart) ∙ b.was; is = d.others p.group apart ∙ b.is; holds = b.holds }

    pub stops_by : StopsBy state (parts_of ready ++ p ∷ rest) old new why
    stops_by = by_cases why over
      where
        stopping : IsStopped (parts_of ready ++ p ∷ rest) (all_seen old) p
        stopping = record { front = parts_of ready; back = rest; all = refl; ready = ready_before old mid ready t.each }

        by_cases : (w : Stop) → InBoth old new p.group (StopsAt state p w) → StopsBy state (parts_of ready ++ p ∷ rest) old new w
        by_cases (stop.Refused s) b =
            let same : p ≡ s.part = sym b.holds.0 in
            subst (λ (q : Part). IsStopped (parts_of ready ++ p ∷ rest) (all_seen old) q × InBoth old new q.group (Refuses state q.op s.reply)) same
            (stopping, record { before = b.before; after = b.after; was = b.was; is = b.is; holds = b.holds.1 })
        by_cases (stop.Failed Ids) b = (p, stopping, record { group = b.before; there = b.was; holds = b.holds.1 })
        by_cases (stop.Failed (Worker failure)) b = (p, stopping, record { was = b.before; is = b.after; there = b.was; here = b.is; failed = b.holds.1 })
        by_cases (stop.Failed Memory) b = tt

  -- a write that stopped, by what the loop knows
  pub all_stop : (parts : List Part) (old mid stopped new : List (GroupState X)) (ready more : List ReadyPart) (p : Part) (rest : List Part) (why : Stop) → AreResting state old → parts ≡ parts_of ready ++ p ∷ rest → AscendFrom 0 parts →
      AreStaged state ready old mid → IsNext state p ready more mid stopped (Err why) → AreDropped state more stopped new → AllStaged state parts old new (Err why)
  all_stop parts old mid stopped new ready more p rest why resting e ascend t n d =
      let up = subst (λ (ps : List Part). AscendFrom 0 ps) e ascend in
      let dropped = subst (λ (r : List ReadyPart). AreDropped state r stopped new) n.0 d in (
        restored old mid stopped new ready p rest why resting up t n.1 dropped,
        subst (λ (ps : List Part). StopsBy state ps old new why) (sym e) (stops_by old mid stopped new ready p rest why resting up t n.1 dropped),
      )

  pub all_ready : (parts : List Part) (old new : List (GroupState X)) (ready : List ReadyPart) (rest : List Part) → parts ≡ parts_of ready ++ rest → rest ≡ [] → AreStaged state ready old new → AllStaged state parts old new (Ok ready)
  all_ready parts old new ready rest e none t = (e ∙ ap (λ (r : List Part). parts_of ready ++ r) none ∙ append_nil (parts_of ready), t)
