-- The definitions at the nodes of a FROM and of a condition, as code sees them.
use Rattle.std.proofs.Common.{◌≡◌, ℕ, zero, suc, ◌+◌, ◌<◌, List, [], ◌∷◌, ◌++◌, ◌&&◌, Bool, true, false, length, drop, fold, refl, sym, ◌∙◌, arith}
use Rattle.cq_value.specs.declared.value.Value.{Value}
use denote.Hole.Carrier.{hidden}
use Rattle.cq_tree.specs.declared.expression.Cond.{Cond, And}
use Rattle.cq_tree.specs.declared.expression.Cond.TheBlock.{hidden-the_row-Cond-0}
use Rattle.cq_tree.specs.declared.query.FromTree.{FromTree, Cross, Inner, Left}
use Rattle.cq_tree.specs.declared.query.FromTree.TheBlock.{hidden-the_row-FromTree-1}
use Rattle.cq_meaning.specs.Queries.{columns_in}
use Rattle.cq_demands.specs.Demands.{demands}
use Rattle.cq_demands.specs.JoinDemands.{carried, spread, is_plain, leaves_from, on_demands, ties, on_ties}

pub ties_and : (a b : Cond) → ties (And a b) ≡ ties a ++ ties b
unfolding hidden-the_row-Cond-0 hidden
ties_and a b = refl

module _ (a b : FromTree) where
  pub plain_cross : is_plain (Cross a b) ≡ (is_plain a && is_plain b)
  unfolding hidden-the_row-FromTree-1 hidden
  plain_cross = refl

  pub plain_inner : (on : Cond) → is_plain (Inner a b on) ≡ (is_plain a && is_plain b)
  unfolding hidden-the_row-FromTree-1 hidden
  plain_inner on = refl

  pub plain_left : (on : Cond) → is_plain (Left a b on) ≡ (is_plain a && is_plain b)
  unfolding hidden-the_row-FromTree-1 hidden
  plain_left on = refl

  pub leaves_cross : (start : ℕ) (padded : Bool) → leaves_from (Cross a b) start padded ≡ leaves_from a start padded ++ leaves_from b (start + columns_in a) padded
  unfolding hidden-the_row-FromTree-1 hidden
  leaves_cross start padded = refl

  pub leaves_inner : (on : Cond) (start : ℕ) (padded : Bool) → leaves_from (Inner a b on) start padded ≡ leaves_from a start padded ++ leaves_from b (start + columns_in a) padded
  unfolding hidden-the_row-FromTree-1 hidden
  leaves_inner on start padded = refl

  pub leaves_left : (on : Cond) (start : ℕ) (padded : Bool) → leaves_from (Left a b on) start padded ≡ leaves_from a start padded ++ leaves_from b (start + columns_in a) true
  unfolding hidden-the_row-FromTree-1 hidden
  leaves_left on start padded = refl

  pub columns_left : (on : Cond) → columns_in (Left a b on) ≡ columns_in a + columns_in b
  unfolding hidden-the_row-FromTree-1 hidden
  columns_left on = refl

  pub demands_left : (on : Cond) → on_demands (Left a b on) ≡ on_demands a
  unfolding hidden-the_row-FromTree-1 hidden
  demands_left on = refl

  pub ties_left : (on : Cond) → on_ties (Left a b on) ≡ on_ties a
  unfolding hidden-the_row-FromTree-1 hidden
  ties_left on = refl

  pub columns_cross : columns_in (Cross a b) ≡ columns_in a + columns_in b
  unfolding hidden-the_row-FromTree-1 hidden
  columns_cross = refl

  pub columns_inner : (on : Cond) → columns_in (Inner a b on) ≡ columns_in a + columns_in b
  unfolding hidden-the_row-FromTree-1 hidden
  columns_inner on = refl

  pub demands_cross : on_demands (Cross a b) ≡ on_demands a ++ on_demands b
  unfolding hidden-the_row-FromTree-1 hidden
  demands_cross = refl

  pub demands_inner : (on : Cond) → on_demands (Inner a b on) ≡ (on_demands a ++ on_demands b) ++ demands on
  unfolding hidden-the_row-FromTree-1 hidden
  demands_inner on = refl

  pub ties_cross : on_ties (Cross a b) ≡ on_ties a ++ on_ties b
  unfolding hidden-the_row-FromTree-1 hidden
  ties_cross = refl

  pub ties_inner : (on : Cond) → on_ties (Inner a b on) ≡ (on_ties a ++ on_ties b) ++ ties on
  unfolding hidden-the_row-FromTree-1 hidden
  ties_inner on = refl

-- what `a && b` told of two FROMs
pub both_plain : (x a b y : Bool) → x ≡ a → x ≡ true → y ≡ b → y ≡ (a && b)
both_plain x true b y e t f = f
both_plain x false b y e t f = let bad : true ≡ false = sym t ∙ e in cc

pub first_not : (x a b : Bool) → x ≡ a → x ≡ false → x ≡ (a && b)
first_not x true b e t = let bad : true ≡ false = sym e ∙ t in cc
first_not x false b e t = t

-- equalities that are passed over once more
pub spread_drop : (all xs : List (ℕ × ℕ)) (i : ℕ) (ds : List (ℕ × Value)) → i < length xs → spread (drop i xs) all ds ≡ spread (drop (i + 1) xs) all (fold carried ds all)
spread_drop all [] i ds low = absurd (omega (arith, low))
spread_drop all (x ∷ xs) zero ds low = refl
spread_drop all (x ∷ xs) (suc i) ds low = let e : suc i + 1 ≡ suc (i + 1) = omega arith in rw e (spread_drop all xs i ds (omega (arith, low)))
