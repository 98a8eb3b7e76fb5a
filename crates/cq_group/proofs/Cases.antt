-- What the writes of the tests need.
use Rattle.std.proofs.Common.{◌≡◌, ◌∙◌, ℕ, zero, suc, ◌<◌, List, [], ◌∷◌, ◌++◌, length, map, slice_index_or, sym, subst, arith}
use Rattle.std.specs.List.{All}
use Rattle.std.proofs.lemmas.List.{length-map}
use Rattle.std.proofs.lemmas.List.Elements.{All-cons}
use Rattle.cq_value.specs.declared.value.Value.{Value}
use Rattle.cq_value.specs.Tables.{Table, Pair, rows_of}
use Rattle.cq_tree.specs.declared.journal.Who.{Who}
use Rattle.cq_tree.specs.declared.journal.EntryKind.TheVariants.{Read}
use Rattle.cq_tree.specs.declared.expression.Expr.{Literal}
use Rattle.cq_tree.specs.declared.expression.Cond.{Always}
use Rattle.cq_tree.specs.declared.write.Set.{Set}
use Rattle.cq_tree.specs.declared.write.ShardOp.TheVariants.{Update}
use Rattle.cq_meaning.specs.Effects.{IsSafeWrite}
use Rattle.cq_meaning.specs.Safety.{IsSafe}
use Rattle.cq_journal.specs.Journals.{replay}
use Rattle.cq_journal.proofs.Replays.{replay_more}
use Rattle.cq_group.specs.declared.group.GroupState.{GroupState}
use Rattle.cq_group.specs.Groups.{entries_of, outlines, shape_at, or_no_shape, shapes}

all_one : {X : Type 0} (P : X → Type 0) (x : X) → P x → All P (x ∷ [])
all_one P x p = All-cons P x [] p (λ k d low. absurd (omega (arith, low)))

-- the second column of rows with two values can be set to a number
pub set_safe : (table : ℕ) (v : Value) (pairs : List Pair) → All (λ (p : Pair). length p.1 ≡ 2) pairs → IsSafeWrite (Update table Always (record { column = 1; value = Literal v } ∷ [])) pairs
set_safe table v pairs wide = (
  λ k d low. tt,
  λ k d low. all_one (λ (s : Set). IsSafe s.value (slice_index_or pairs k d).1 []) (record { column = 1; value = Literal v }) tt,
  λ k d low. let two = wide k d low in let less : 1 < length (slice_index_or pairs k d).1 = omega (arith, two) in all_one (λ (s : Set). s.column < length (slice_index_or pairs k d).1) (record { column = 1; value = Literal v }) less,
)

first_each : {X Y : Type 0} (P : Y → Type 0) (f : X → Y) (xs : List X) (k : ℕ) (d : X) → k < length xs → P (slice_index_or (map f xs) k (f d)) → P (f (slice_index_or xs k d))
first_each P f [] k d low p = absurd (omega (arith, low))
first_each P f (x ∷ xs) zero d low p = p
first_each P f (x ∷ xs) (suc k) d low p = first_each P f xs k d (omega (arith, low)) p

wide_pairs : (t : Table) → All (λ (row : List Value). length row ≡ 2) (rows_of t) → All (λ (p : Pair). length p.1 ≡ 2) t.pairs
wide_pairs t wide k d low =
    let long : length (rows_of t) ≡ length t.pairs = length-map t.pairs _ in
    first_each (λ (row : List Value). length row ≡ 2) (λ (p : Pair). p.1) t.pairs k d low (wide k d.1 (omega (arith, low, long)))

-- the rows that a read saw are those of the table after it
pub wide_after : {X : Type 0} (g h : GroupState X) (table : ℕ) (who : Who) → outlines h ≡ outlines g → entries_of h ≡ entries_of g ++ record { who = who; kind = Read } ∷ [] →
    All (λ (row : List Value). length row ≡ 2) (rows_of (replay table (shapes g table) (entries_of g))) → All (λ (p : Pair). length p.1 ≡ 2) (replay table (shapes h table) (entries_of h)).pairs
wide_after g h table who o e wide =
    let same : replay table (shapes h table) (entries_of h) ≡ replay table (shapes g table) (entries_of g) =
    (λ i. replay table (or_no_shape (shape_at (o i) table)) (e i)) ∙ replay_more table (shapes g table) (entries_of g) (record { who = who; kind = Read }) in
    subst (λ (t : Table). All (λ (p : Pair). length p.1 ≡ 2) t.pairs) (sym same) (wide_pairs (replay table (shapes g table) (entries_of g)) wide)
