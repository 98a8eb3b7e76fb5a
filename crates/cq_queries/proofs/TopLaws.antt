-- The first of what is put among first rows are first rows again.
use Rattle.std.proofs.Common.{◌≡◌, ℕ, ◌+◌, ◌<◌, ◌≤◌, List, [], ◌∷◌, ◌++◌, length, get_or, map, take, drop, sym, ap, subst, ◌∙◌, arith}
use Rattle.std.specs.List.Sorted.{IsSorted}
use Rattle.std.proofs.Math.Seq.{take-nil}
use Rattle.std.proofs.lemmas.List.{append-nil, drop_more, length-take}
use Rattle.cq_meaning.specs.Values.{Row}
use Rattle.cq_meaning.specs.Sorting.{keys_cmp, placed, sorted}
use Rattle.cq_meaning.proofs.AnswerLaws.{sorted_up}
use Rattle.cq_meaning.proofs.KeyLaws.{keys_weak}
use Rattle.cq_queries.specs.declared.wanted.Top.{Top}
use Rattle.cq_queries.specs.Wanted.{is_before, put_before, top_of, IsTop}
use Rattle.cq_queries.proofs.FirstLaws.{first_up, placed_first, top_sorted}

module _ (t : Top) (ready : IsTop t) where
  -- they are the first of all rows so far
  pub top_seen : (xs : List Row) → top_of t xs ≡ take t.most (sorted (keys_cmp t.keys.now) (xs ++ ready.0))
  top_seen xs = ap (λ us. take t.most (put_before (is_before t.keys.now) xs us)) ready.1 ∙ top_sorted (is_before t.keys.now) t.most xs ready.0

  pub top_up : (xs : List Row) → IsSorted (keys_cmp t.keys.now) (top_of t xs)
  top_up xs =
      let lt : Row → Row → _ = is_before t.keys.now in
      subst (IsSorted (keys_cmp t.keys.now)) (sym (top_seen xs)) (first_up lt t.most (sorted (keys_cmp t.keys.now) (xs ++ ready.0)) (sorted_up lt (keys_weak t.keys.now) (xs ++ ready.0)))

-- where no rows are behind
pub none_behind : (t : Top) → t.behind ≡ [] → IsTop t
none_behind t e = ([], e ∙ sym (take-nil t.most))

pub top_alone : (t : Top) → t.behind ≡ [] → (xs : List Row) → top_of t xs ≡ take t.most (sorted (keys_cmp t.keys.now) xs)
top_alone t e xs = top_seen t ([], e ∙ sym (take-nil t.most)) xs ∙ ap (λ us. take t.most (sorted (keys_cmp t.keys.now) us)) (append-nil xs)

pub top_few : (t : Top) (xs : List Row) → length (top_of t xs) ≤ t.most
top_few t xs = let few = length-take t.most (put_before (is_before t.keys.now) xs t.behind) in omega (arith, few)

pub top_next : (t : Top) (x : Row) (xs : List Row) → take t.most (placed (is_before t.keys.now) x (top_of t xs)) ≡ top_of t (x ∷ xs)
top_next t x xs = placed_first (is_before t.keys.now) t.most x (put_before (is_before t.keys.now) xs t.behind)

-- one row further to the front
pub top_step : (t : Top) (f : Row → Row) (all : List Row) (at i : ℕ) (row : Row) → i < length all → at ≡ i + 1 → row ≡ get_or all i row →
    take t.most (placed (is_before t.keys.now) (f row) (top_of t (map f (drop at all)))) ≡ top_of t (map f (drop i all))
top_step t f all at i row below next is =
    top_next t (f row) (map f (drop at all))
    ∙ ap (λ us. top_of t (map f us)) (ap (λ r. r ∷ drop at all) is ∙ (ap (λ k. get_or all i row ∷ drop k all) next ∙ sym (drop_more all i row below)))
