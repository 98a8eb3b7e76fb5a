-- The counts of a write's parts, and their sum.
use Rattle.std.proofs.Common.{◌≡◌, ℕ, ◌+◌, ◌*◌, ◌≤◌, Bool, true, false, cond, List, [], ◌∷◌, ◌++◌, length, refl, sym, ◌∙◌, ap, subst, arith, Option, Some, None, slice_get}
use Rattle.std.specs.Prelude.{filter}
use Rattle.std.specs.List.{AllByRecursion, sum_by}
use Rattle.std.proofs.lemmas.List.{length-map}
use Rattle.std.proofs.lemmas.List.Sums.{sum_by-cons}
use Rattle.cq_value.specs.Tables.{rows_of}
use Rattle.cq_tree.specs.declared.write.Reply.{Reply}
use Rattle.cq_tree.specs.declared.write.Reply.TheVariants.{Count, Duplicate, OutOfRange}
use Rattle.cq_tree.specs.declared.write.ShardOp.{ShardOp}
use Rattle.cq_tree.specs.declared.write.ShardOp.TheVariants.{Insert, Update, Remove}
use Rattle.cq_meaning.specs.Effects.{repeats, fit_kinds, updates, is_kept}
use Rattle.cq_journal.specs.Journals.{replay}
use Rattle.cq_journal.specs.Replies.{IsMade}
use Rattle.cq_journal.proofs.Ids.{rows_have_ids}
use Rattle.cq_store.specs.Stores.{StoreState}
use Rattle.cq_history.proofs.Lists.{got_below}
use Rattle.cq_group.specs.declared.group.GroupState.{GroupState}
use Rattle.cq_group.specs.Groups.{entries_of, shapes}
use Rattle.cq_router.specs.declared.insertion.Part.{Part}
use Rattle.cq_reach.specs.declared.staging.ReadyPart.{ReadyPart}
use Rattle.cq_reach.specs.Seen.{seen_of, all_seen}
use Rattle.cq_reach.specs.Writes.{reply_over, HasIds, Replies, AscendFrom}
use Rattle.cq_reach.specs.Staging.{InBoth, Stages, place_of, count_of, count_in}
use Rattle.cq_reach.proofs.Seeing.{seen_at}
use Rattle.cq_reach.proofs.Holding.{ready_over}
use Rattle.cq_reach.proofs.Stopping.{parts_of}

-- ---- one count

filter_short : {A : Type 0} (p : A → Bool) (xs : List A) → length (filter p xs) ≤ length xs
filter_short p [] = omega arith
filter_short p (x ∷ xs) =
    let rest = filter_short p xs in
    elim (p x) as (λ b. length (cond b (x ∷ filter p xs) (filter p xs)) ≤ length (x ∷ xs)) [ true ↦ omega (arith, rest) | false ↦ omega (arith, rest) ]

-- a write changes no more rows than there are ids
pub count_low : {X : Type 0} (g : GroupState X) (op : ShardOp) → HasIds (seen_of g) op → count_of (reply_over (seen_of g) op) ≤ 4294967296
count_low g (Insert table rows) ids =
    let t = replay table (shapes g table) (entries_of g) in
    elim (repeats (shapes g table).key (rows_of t) rows) as (λ b. count_of (cond b Duplicate (Count (length rows))) ≤ 4294967296) [ true ↦ omega arith | false ↦ omega (arith, ids) ]
count_low g (Update table filter_ sets) ids =
    let t = replay table (shapes g table) (entries_of g) in
    let long : length (rows_of t) ≡ length t.pairs = length-map t.pairs _ in
    let low = rows_have_ids table (shapes g table) (entries_of g) in
    let short = filter_short (is_kept filter_) t.pairs in
    elim (fit_kinds (shapes g table).kinds (updates filter_ sets t.pairs)) as (λ b. count_of (cond b (Count (length (filter (is_kept filter_) t.pairs))) OutOfRange) ≤ 4294967296) [
      | true ↦ omega (arith, ids, long, low, short)
      | false ↦ omega arith
    ]
count_low g (Remove table filter_) ids =
    let t = replay table (shapes g table) (entries_of g) in
    let long : length (rows_of t) ≡ length t.pairs = length-map t.pairs _ in
    let low = rows_have_ids table (shapes g table) (entries_of g) in
    let short = filter_short (is_kept filter_) t.pairs in
    omega (arith, ids, long, low, short)

-- ---- the counts of parts that are ready

-- the reply of a part over the groups
abbrev pub reply_by : {X : Type 0} → Option (GroupState X) → ShardOp → Reply
reply_by None op = Duplicate
reply_by (Some g) op = reply_over (seen_of g) op

abbrev pub counts : {X : Type 0} → List (GroupState X) → Part → ℕ
counts groups p = count_of (reply_by (slice_get groups p.group) p.op)

counted : (r : Reply) → IsMade r → r ≡ Count (count_of r)
counted (Count n) m = refl
counted Duplicate m = absurd m
counted OutOfRange m = absurd m

module _ {X : Type 0} (state : X → StoreState) (old mid : List (GroupState X)) where
  -- a part that is ready has its reply over the groups as they were
  count_is : (s : ReadyPart) → (b : InBoth old mid (place_of s) (Stages state s.part.op s.reply)) → counts old s.part ≡ count_in s
  count_is s b =
      ap (λ (o : Option (GroupState X)). count_of (reply_by o s.part.op)) b.was
      ∙ ap count_of (ready_over state b.before b.after s.part.op s.reply b.holds.held b.holds.ready).0

  pub reply_is : (s : ReadyPart) → InBoth old mid (place_of s) (Stages state s.part.op s.reply) → s.reply ≡ Count (counts old s.part)
  reply_is s b = counted s.reply b.holds.made ∙ ap Count (sym (count_is s b))

  pub each_replied : (ready : List ReadyPart) → AllByRecursion (λ (s : ReadyPart). InBoth old mid (place_of s) (Stages state s.part.op s.reply)) ready →
      AllByRecursion (λ (p : Part). Replies (all_seen old) p (Count (counts old p))) (parts_of ready)
  each_replied [] each = tt
  each_replied (s ∷ ready) each =
      let b = each.0 in
      let over = ready_over state b.before b.after s.part.op s.reply b.holds.held b.holds.ready in
      (record { group = seen_of b.before; there = seen_at old s.part.group b.before b.was; holds = (over.0 ∙ reply_is s b, over.1) }, each_replied ready each.1)

  pub sum_is : (ready : List ReadyPart) → AllByRecursion (λ (s : ReadyPart). InBoth old mid (place_of s) (Stages state s.part.op s.reply)) ready → sum_by count_in ready ≡ sum_by (counts old) (parts_of ready)
  sum_is [] each = refl
  sum_is (s ∷ ready) each =
      let first = count_is s each.0 in
      let rest = sum_is ready each.1 in
      sum_by-cons count_in s ready ∙ ap (λ n. n + sum_by count_in ready) (sym first) ∙ ap (λ n. counts old s.part + n) rest ∙ sym (sum_by-cons (counts old) s.part (parts_of ready))

  -- at most as many for each group as there are ids
  pub sum_low : (low : ℕ) (ready : List ReadyPart) → low ≤ length old → AscendFrom low (parts_of ready) → AllByRecursion (λ (s : ReadyPart). InBoth old mid (place_of s) (Stages state s.part.op s.reply)) ready →
      sum_by count_in ready + 4294967296 * low ≤ 4294967296 * length old
  sum_low low [] within h each = omega (arith, within)
  sum_low low (s ∷ ready) within h each =
      let b = each.0 in
      let over = ready_over state b.before b.after s.part.op s.reply b.holds.held b.holds.ready in
      let few : count_of (reply_over (seen_of b.before) s.part.op) ≤ 4294967296 = count_low b.before s.part.op over.1 in
      let one : count_in s ≤ 4294967296 = subst (λ (r : Reply). count_of r ≤ 4294967296) over.0 few in
      let there = got_below old s.part.group b.before b.was in
      let rest = sum_low (s.part.group + 1) ready (omega (arith, there)) h.1 each.1 in
      let all = sum_by-cons count_in s ready in
      omega (arith, one, there, rest, h.0, all)

-- the sum so far is within the sum of all
pub sum_split : (done : List ReadyPart) (s : ReadyPart) (rest : List ReadyPart) → sum_by count_in (done ++ s ∷ rest) ≡ sum_by count_in done + (count_in s + sum_by count_in rest)
sum_split [] s rest = let all = sum_by-cons count_in s rest in omega (arith, all)
sum_split (d ∷ done) s rest =
    let more = sum_split done s rest in
    let all = sum_by-cons count_in d (done ++ s ∷ rest) in
    let some = sum_by-cons count_in d done in
    omega (arith, more, all, some)

pub sum_more : (done : List ReadyPart) (s : ReadyPart) → sum_by count_in (done ++ s ∷ []) ≡ sum_by count_in done + count_in s
sum_more done s = let all = sum_split done s [] in omega (arith, all)
