-- Rows that fit stay fitting, and are within the widths of their columns.
use Rattle.std.proofs.Common.{◌≡◌, ◌≢◌, ◌⊎◌, ◌^◌, ◌<◌, ◌≤◌, ℕ, zero, suc, ℤ, pos, negsuc, Bool, true, false, cond, ◌&&◌, nat_eq, List, [], ◌∷◌, ◌+◌, map, Some, slice_get, slice_set, unsigned_abs, inl, inr, refl, subst, arith}
use Rattle.std.specs.Prelude.{filter, not, fold, ⊤, if◌then◌else◌}
use Rattle.std.specs.List.{AllByRecursion, list_all}
use Rattle.std.proofs.lemmas.Bool.Decides.{eqb_tells, nat_tests}
use Rattle.cq_value.proofs.Lists.{all_append, all_filtered, all_map, all_weaker}
use Rattle.cq_value.proofs.Truths.{and_both}
use Rattle.cq_value.specs.declared.value.Value.{Value}
use Rattle.cq_value.specs.declared.value.Value.TheVariants.{Null, Int, Text}
use Rattle.cq_value.specs.declared.schema.Kind.{Kind}
use Rattle.cq_value.specs.declared.schema.Kind.TheVariants as kind
use Rattle.cq_value.specs.declared.schema.Shape.{Shape}
use Rattle.cq_value.specs.Tables.{Table, Pair, empty_table, rows_of}
use Rattle.cq_tree.specs.declared.journal.Entry.{Entry}
use Rattle.cq_tree.specs.declared.journal.EntryKind.{EntryKind}
use Rattle.cq_tree.specs.declared.journal.EntryKind.TheVariants.{Read, Write, MoveStart, CatchUp, Cutover, MoveStop}
use Rattle.cq_tree.specs.declared.expression.Cond.{Cond}
use Rattle.cq_tree.specs.declared.write.Set.{Set}
use Rattle.cq_tree.specs.declared.write.ShardOp.{ShardOp}
use Rattle.cq_tree.specs.declared.write.ShardOp.TheVariants.{Insert, Update, Remove}
use Rattle.cq_meaning.specs.Values.{Row}
use Rattle.cq_meaning.specs.Expressions.{value_of}
use Rattle.cq_meaning.specs.Effects.{effect, table_of, inserts, repeats, numbered, with_rows, in_bits, fits_kind, fits_kinds, fit_kinds, with_set, updated, updates, renewed, is_kept}
use Rattle.cq_meaning.specs.Widths.{bits_of_kind, IsBelow, Within}
use Rattle.cq_journal.specs.Journals.{entered, replay_from, replay}
use Rattle.cq_journal.specs.Fitting.{IsOfSort, IsOfKind, AreOfKinds, Fits, InsertFits, InsertsFit, SetsSort, WriteSetsSorts, EntrySetsSorts, UpdatesSetSorts}

-- sorts, and ranges

abbrev AreOfSorts : List Kind → Row → Type 0
AreOfSorts [] [] = ⊤
AreOfSorts [] (v ∷ vs) = ⊥
AreOfSorts (k ∷ ks) [] = ⊥
AreOfSorts (k ∷ ks) (v ∷ vs) = IsOfSort k v × AreOfSorts ks vs

sorts_of : (ks : List Kind) (row : Row) → AreOfKinds ks row → AreOfSorts ks row
sorts_of [] [] h = tt
sorts_of [] (v ∷ vs) h = absurd h
sorts_of (k ∷ ks) [] h = absurd h
sorts_of (k ∷ ks) (v ∷ vs) h = (h.0.0, sorts_of ks vs h.1)

kinds_of : (ks : List Kind) (row : Row) → AreOfSorts ks row → fits_kinds ks row ≡ true → AreOfKinds ks row
kinds_of [] [] h r = tt
kinds_of [] (v ∷ vs) h r = absurd h
kinds_of (k ∷ ks) [] h r = absurd h
kinds_of (k ∷ ks) (v ∷ vs) h r =
    let parts = and_both (fits_kind k v) (fits_kinds ks vs) r in
    ((h.0, parts.0), kinds_of ks vs h.1 parts.1)

sorts_set : (ks : List Kind) (row : Row) (n : ℕ) (v : Value) → AreOfSorts ks row → ((k : Kind) → slice_get ks n ≡ Some k → IsOfSort k v) → AreOfSorts ks (slice_set row n v)
sorts_set [] [] n v h s = tt
sorts_set [] (w ∷ ws) n v h s = absurd h
sorts_set (k ∷ ks) [] n v h s = absurd h
sorts_set (k ∷ ks) (w ∷ ws) zero v h s = (s k refl, h.1)
sorts_set (k ∷ ks) (w ∷ ws) (suc n) v h s = (h.0, sorts_set ks ws n v h.1 s)

-- a row that was computed by some of the assignments over a row that fits
sorts_updated : (ks : List Kind) (row new : Row) (sets : List Set) → AreOfSorts ks new → AllByRecursion (SetsSort ks row) sets → AreOfSorts ks (fold (with_set row) new sets)
sorts_updated ks row new [] h s = h
sorts_updated ks row new (x ∷ xs) h s = sorts_updated ks row (with_set row new x) xs (sorts_set ks new x.column (value_of x.value row []) h s.0) s.1

-- writes

abbrev pub PairFits : Shape → Pair → Type 0
PairFits shape p = Fits shape p.1

numbered_fits : (shape : Shape) (n : ℕ) (rows : List Row) → AllByRecursion (Fits shape) rows → AllByRecursion (PairFits shape) (numbered n rows)
numbered_fits shape n [] h = tt
numbered_fits shape n (row ∷ rows) h = (h.0, numbered_fits shape (n + 1) rows h.1)

module _ (shape : Shape) (filter_ : Cond) (sets : List Set) (sorts : (row : Row) → Fits shape row → AllByRecursion (SetsSort shape.kinds row) sets) where
  renewed_fits : (pairs : List Pair) → fit_kinds shape.kinds (updates filter_ sets pairs) ≡ true → AllByRecursion (PairFits shape) pairs → AllByRecursion (PairFits shape) (map (renewed filter_ sets) pairs)
  renewed_fits [] e h = tt
  renewed_fits (p ∷ ps) e h =
      by_cases (is_kept filter_ p) e (λ f. renewed_fits ps f h.1)
    where
      rest : List Row
      rest = updates filter_ sets ps

      by_cases : (b : Bool) → list_all (fits_kinds shape.kinds) (map (λ (q : Pair). updated sets q.1) (cond b (p ∷ filter (is_kept filter_) ps) (filter (is_kept filter_) ps))) ≡ true →
          (fit_kinds shape.kinds rest ≡ true → AllByRecursion (PairFits shape) (map (renewed filter_ sets) ps)) →
          PairFits shape (cond b (p.0, updated sets p.1) p) × AllByRecursion (PairFits shape) (map (renewed filter_ sets) ps)
      by_cases true e f =
          let parts = and_both (fits_kinds shape.kinds (updated sets p.1)) (list_all (fits_kinds shape.kinds) rest) e in
          (kinds_of shape.kinds (updated sets p.1) (sorts_updated shape.kinds p.1 p.1 sets (sorts_of shape.kinds p.1 h.0) (sorts p.1 h.0)) parts.0, f parts.1)
      by_cases false e f = (h.0, f e)

effect_fits : (op : ShardOp) (t : Table) (shape : Shape) → AllByRecursion (Fits shape) (inserts op) → WriteSetsSorts shape op → AllByRecursion (PairFits shape) t.pairs →
    AllByRecursion (PairFits shape) (effect op t shape).pairs
effect_fits (Insert table rows) t shape fits sorts h =
    let more = all_append (PairFits shape) t.pairs (numbered t.next rows) h (numbered_fits shape t.next rows fits) in
    elim (repeats shape.key (rows_of t) rows) as (λ b. AllByRecursion (PairFits shape) (cond b t (with_rows t rows)).pairs) [ true ↦ h | false ↦ more ]
effect_fits (Update table filter_ sets) t shape fits sorts h = by_cases (fit_kinds shape.kinds (updates filter_ sets t.pairs)) refl
  where
    by_cases : (b : Bool) → fit_kinds shape.kinds (updates filter_ sets t.pairs) ≡ b → AllByRecursion (PairFits shape) (cond b (record { next = t.next; pairs = map (renewed filter_ sets) t.pairs }) t).pairs
    by_cases true e = renewed_fits shape filter_ sets sorts t.pairs e h
    by_cases false e = h
effect_fits (Remove table filter_) t shape fits sorts h = all_filtered (PairFits shape) (λ p. not (is_kept filter_ p)) t.pairs h

-- entries

module _ (shapes : ℕ → Shape) (table : ℕ) where
  write_fits : (op : ShardOp) (t : Table) → AllByRecursion (Fits (shapes (table_of op))) (inserts op) → WriteSetsSorts (shapes (table_of op)) op → AllByRecursion (PairFits (shapes table)) t.pairs →
      AllByRecursion (PairFits (shapes table)) (if nat_eq (table_of op) table then effect op t (shapes table) else t).pairs
  write_fits op t fits sorts h = by_cases (eqb_tells (table_of op) table)
    where
      by_cases : ((nat_eq (table_of op) table ≡ true) × (table_of op ≡ table)) ⊎ ((nat_eq (table_of op) table ≡ false) × (table_of op ≢ table)) →
          AllByRecursion (PairFits (shapes table)) (if nat_eq (table_of op) table then effect op t (shapes table) else t).pairs
      by_cases (inl same) = rw same.0
          (effect_fits op t (shapes table) (subst (λ n. AllByRecursion (Fits (shapes n)) (inserts op)) same.1 fits) (subst (λ n. WriteSetsSorts (shapes n) op) same.1 sorts) h)
      by_cases (inr other) = rw other.0 h

  entered_fits : (t : Table) (kind : EntryKind) → InsertFits shapes kind → EntrySetsSorts shapes kind → AllByRecursion (PairFits (shapes table)) t.pairs →
      AllByRecursion (PairFits (shapes table)) (entered table (shapes table) t kind).pairs
  entered_fits t Read f s h = h
  entered_fits t (Write op reply) f s h = write_fits op t f s h
  entered_fits t (MoveStart node) f s h = h
  entered_fits t CatchUp f s h = h
  entered_fits t Cutover f s h = h
  entered_fits t MoveStop f s h = h

  pub from_fits : (t : Table) (es : List Entry) → InsertsFit shapes es → UpdatesSetSorts shapes es → AllByRecursion (PairFits (shapes table)) t.pairs →
      AllByRecursion (PairFits (shapes table)) (replay_from table (shapes table) t es).pairs
  from_fits t [] f s h = h
  from_fits t (e ∷ es) f s h = from_fits (entered table (shapes table) t e.kind) es f.1 s.1 (entered_fits t e.kind f.0 s.0 h)

  replay_fits : (es : List Entry) → InsertsFit shapes es → UpdatesSetSorts shapes es → AllByRecursion (PairFits (shapes table)) (replay table (shapes table) es).pairs
  replay_fits es f s = from_fits empty_table es f s tt

  pub rows_fit : (es : List Entry) → InsertsFit shapes es → UpdatesSetSorts shapes es → AllByRecursion (Fits (shapes table)) (rows_of (replay table (shapes table) es))
  rows_fit es f s = all_map (PairFits (shapes table)) (Fits (shapes table)) (λ (p : Pair). p.1) (λ p h. h) (replay table (shapes table) es).pairs (replay_fits es f s)

-- widths

number_below : (k : ℕ) (x : ℤ) → in_bits k x ≡ true → unsigned_abs x ≤ 2 ^ k
number_below k (pos n) h = let low : n < 2 ^ k = grind (arith, nat_tests) in omega (arith, low)
number_below k (negsuc n) h = let low : n < 2 ^ k = grind (arith, nat_tests) in omega (arith, low)

value_below : (k : Kind) (v : Value) → IsOfKind k v → IsBelow (bits_of_kind k) v
value_below k Null h = tt
value_below kind.Bigint (Int x) h = number_below 63 x h.1
value_below kind.Integer (Int x) h = number_below 31 x h.1
value_below kind.Text (Int x) h = absurd h.0
value_below kind.Bigint (Text t) h = absurd h.0
value_below kind.Integer (Text t) h = absurd h.0
value_below kind.Text (Text t) h = tt

kinds_within : (ks : List Kind) (row : Row) → AreOfKinds ks row → Within (map bits_of_kind ks) row
kinds_within [] [] h = tt
kinds_within [] (v ∷ vs) h = absurd h
kinds_within (k ∷ ks) [] h = absurd h
kinds_within (k ∷ ks) (v ∷ vs) h = (value_below k v h.0, kinds_within ks vs h.1)

pub fits_within : (shape : Shape) (row : Row) → Fits shape row → Within (map bits_of_kind shape.kinds) row
fits_within shape row h = kinds_within shape.kinds row h

pub replay_within : (shapes : ℕ → Shape) (table : ℕ) (es : List Entry) → InsertsFit shapes es → UpdatesSetSorts shapes es →
    AllByRecursion (λ (p : Pair). Within (map bits_of_kind (shapes table).kinds) p.1) (replay table (shapes table) es).pairs
    × AllByRecursion (Within (map bits_of_kind (shapes table).kinds)) (rows_of (replay table (shapes table) es))
replay_within shapes table es f s = (
  all_weaker (PairFits (shapes table)) (λ (p : Pair). Within (map bits_of_kind (shapes table).kinds) p.1) (λ p. fits_within (shapes table) p.1)
      (replay table (shapes table) es).pairs (replay_fits shapes table es f s),
  all_weaker (Fits (shapes table)) (Within (map bits_of_kind (shapes table).kinds)) (fits_within (shapes table)) (rows_of (replay table (shapes table) es)) (rows_fit shapes table es f s),
)
