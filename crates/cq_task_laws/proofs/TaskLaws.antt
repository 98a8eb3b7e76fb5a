-- What is made of the rows of tasks is an answer of their block.
use Rattle.std.proofs.Common.{◌≡◌, ℕ, Bool, true, false, List, [], ◌∷◌, map, take, drop, refl, sym, ap, subst, ◌∙◌, inl, inr}
use Rattle.std.specs.Prelude.{filter, not, ◌+◌, ◌⊎◌, ◌&&◌, ◌||◌, nat_eq}
use Rattle.std.specs.List.{flat_map}
use Rattle.std.proofs.lemmas.Bool.{eqb-true, eq-eqb}
use Rattle.cq_value.proofs.Truths.{and_both}
use Rattle.cq_tree.specs.declared.query.FromTree.{FromTree, Table, Sub', Result, Cross', Inner', Left', more_of-FromTree, end_of-FromTree, more_of-Query, end_of-Query}
use Rattle.cq_tree.specs.declared.query.Query.{Query, Query', out-Query}
use Rattle.cq_meaning.specs.Values.{Row, Tables, table_rows}
use Rattle.cq_meaning.specs.Expressions.{keeps}
use Rattle.cq_meaning.specs.Joins.{product, left_join}
use Rattle.cq_meaning.specs.Queries.{columns_in, joins, from_rows, AnswersWith}
use Rattle.cq_meaning.proofs.Reorder.{Reordered, same}
use Rattle.cq_meaning.specs.Lists.{Has}
use Rattle.cq_tree.specs.declared.plan.Combine.{Combine}
use Rattle.cq_task_laws.specs.Partial.{partial}
use Rattle.cq_task_laws.specs.Merging.{GathersTo, joined}
use Rattle.cq_task_laws.specs.Gathering.{AllAnswer, AnswersOver, Serves, ShareNo}
use Rattle.cq_task_laws.specs.Cutting.{Relation, Joins, only, inner, left, width_of, all_rows, rows_at, is_here, AllFit, stands, RightsStand, Located, AreDistinct}
use Rattle.cq_task_laws.specs.Tasks.{Side, joins_of, has_cut, IsPlaced, AnswersAt, AnswerEach, parts_of, TasksServe}
use Rattle.cq_meaning.proofs.RowLaws.{filter_all, true_not_false, has_either}
use Rattle.cq_task_laws.proofs.Opened.{from_of, from_is, over_from}
use Rattle.cq_task_laws.proofs.PartLaws.{flat_map_filter, flat_map_same, flat_map_of_map}
use Rattle.cq_task_laws.proofs.CutLaws.{cut_law, other}
use Rattle.cq_task_laws.proofs.GatherLaws.{gather}

-- one place of a row whose relations stand there

one_here : (r : Relation) (x : Row) → r.cut ≡ true → (i : ℕ) → is_here r i x ≡ true → r.home x ≡ i
one_here r x c i e = eqb-true (r.home x) i (subst (λ b. (not b || nat_eq (r.home x) i) ≡ true) c e)

one_place : (f : Joins) (x : Row) → has_cut f ≡ true → (i j : ℕ) → stands f i x ≡ true → stands f j x ≡ true → i ≡ j
one_place (only r) x c i j p q = sym (one_here r x c i p) ∙ one_here r x c j q
one_place (inner on a b) x c i j p q = go (has_cut a) refl
    (λ h. one_place a (take (width_of a) x) h i j (and_both (stands a i (take (width_of a) x)) (stands b i (drop (width_of a) x)) p).0 (and_both (stands a j (take (width_of a) x)) (stands b j (drop (width_of a) x)) q).0)
    (λ h. one_place b (drop (width_of a) x) h i j (and_both (stands a i (take (width_of a) x)) (stands b i (drop (width_of a) x)) p).1 (and_both (stands a j (take (width_of a) x)) (stands b j (drop (width_of a) x)) q).1)
  where
    go : (t : Bool) → has_cut a ≡ t → (has_cut a ≡ true → i ≡ j) → (has_cut b ≡ true → i ≡ j) → i ≡ j
    go true e left_side right_side = left_side e
    go false e left_side right_side = right_side (subst (λ t. (t || has_cut b) ≡ true) e c)
one_place (left on a r) x c i j p q = one_place a (take (width_of a) x) c i j p q

pub located : (f : Joins) (keep : Row → Bool) (indices : List ℕ) → IsPlaced f keep indices → Located f keep indices
located f keep indices placed x c k =
    let p : (i : ℕ) × Has indices i × (stands f i x ≡ true) × RightsStand f i x × ((has_cut f ≡ true) ⊎ (indices ≡ i ∷ [])) = placed x c k in
    (p.0, p.1, (λ j m. tell (stands f j x) j refl m p.0 p.2 p.4), p.3)
  where
    single : (i j : ℕ) → Has (i ∷ []) j → j ≡ i
    single i j (inl e) = sym e
    single i j (inr h) = absurd h

    tell : (b : Bool) (j : ℕ) → stands f j x ≡ b → Has indices j → (i : ℕ) → stands f i x ≡ true → (has_cut f ≡ true) ⊎ (indices ≡ i ∷ []) → stands f j x ≡ nat_eq j i
    tell true j e m i s (inl c) = e ∙ sym (eq-eqb j i (one_place f x c j i e s))
    tell false j e m i s (inl c) = e ∙ sym (other j i (λ p. true_not_false (stands f i x) s (subst (λ n. stands f n x ≡ false) p e)))
    tell b j e m i s (inr q) = let p : j ≡ i = single i j (subst (λ us. Has us j) q m) in subst (λ n. stands f n x ≡ nat_eq j i) (sym p) (s ∙ sym (eq-eqb j i p))

-- a FROM as joins
module _ (side : FromTree → Side) (db : Tables) (dbs : ℕ → Tables) (rs : List (List Row)) where
  pub rows_are : (f : FromTree) (start : ℕ) → all_rows (joins_of side db dbs rs start f) ≡ from_rows f start db rs
  rows_are (Table t n) start = refl
  rows_are (Sub' p (more_of-Query q end_of-Query)) start = refl
  rows_are (Result i n) start = refl
  rows_are (Cross' p (more_of-FromTree a end_of-FromTree) q (more_of-FromTree b end_of-FromTree)) start =
      filter_all (λ x. true) (product (all_rows (joins_of side db dbs rs start a)) (all_rows (joins_of side db dbs rs (start + columns_in a) b))) (λ x h. refl) ∙ (λ n. product (rows_are a start n) (rows_are b (start + columns_in a) n))
  rows_are (Inner' p (more_of-FromTree a end_of-FromTree) q (more_of-FromTree b end_of-FromTree) on) start = λ n. filter (joins on rs start) (product (rows_are a start n) (rows_are b (start + columns_in a) n))
  rows_are (Left' p (more_of-FromTree a end_of-FromTree) q (more_of-FromTree b end_of-FromTree) on) start = λ n. left_join (joins on rs start) (columns_in b) (rows_are a start n) (from_rows b (start + columns_in a) db rs)

  pub rows_at_are : (f : FromTree) (start i : ℕ) → rows_at (joins_of side db dbs rs start f) i ≡ from_rows f start (dbs i) rs
  rows_at_are (Table t n) start i = refl
  rows_at_are (Sub' p (more_of-Query q end_of-Query)) start i = refl
  rows_at_are (Result k n) start i = refl
  rows_at_are (Cross' p (more_of-FromTree a end_of-FromTree) q (more_of-FromTree b end_of-FromTree)) start i =
      filter_all (λ x. true) (product (rows_at (joins_of side db dbs rs start a) i) (rows_at (joins_of side db dbs rs (start + columns_in a) b) i)) (λ x h. refl) ∙ (λ n. product (rows_at_are a start i n) (rows_at_are b (start + columns_in a) i n))
  rows_at_are (Inner' p (more_of-FromTree a end_of-FromTree) q (more_of-FromTree b end_of-FromTree) on) start i = λ n. filter (joins on rs start) (product (rows_at_are a start i n) (rows_at_are b (start + columns_in a) i n))
  rows_at_are (Left' p (more_of-FromTree a end_of-FromTree) q (more_of-FromTree b end_of-FromTree) on) start i = λ n. left_join (joins on rs start) (columns_in b) (rows_at_are a start i n) (from_rows b (start + columns_in a) (dbs i) rs)

  pub from_cut : (f : FromTree) (keep : Row → Bool) (indices : List ℕ) → AreDistinct indices → AllFit (joins_of side db dbs rs 0 f) indices → IsPlaced (joins_of side db dbs rs 0 f) keep indices →
      Reordered (filter keep (from_rows f 0 db rs)) (flat_map (λ i. filter keep (from_rows f 0 (dbs i) rs)) indices)
  from_cut f keep indices d fit placed =
      let r : Reordered (filter keep (all_rows (joins_of side db dbs rs 0 f))) (flat_map (λ i. filter keep (rows_at (joins_of side db dbs rs 0 f) i)) indices) =
      cut_law (joins_of side db dbs rs 0 f) keep indices d fit (located (joins_of side db dbs rs 0 f) keep indices placed) in
      subst (λ us. Reordered (filter keep us) (flat_map (λ i. filter keep (from_rows f 0 (dbs i) rs)) indices)) (rows_are f 0)
      (subst (λ us. Reordered (filter keep (all_rows (joins_of side db dbs rs 0 f))) us)
      (flat_map_same (λ i. filter keep (rows_at (joins_of side db dbs rs 0 f) i)) (λ i. filter keep (from_rows f 0 (dbs i) rs)) indices (λ i h. ap (λ us. filter keep us) (rows_at_are f 0 i))) r)

-- the tasks' answers, over the rows of their FROMs
all_over : (q : Query) (kind : Combine) (dbs : ℕ → Tables) (rs : List (List Row)) (indices : List ℕ) (answers : List (List Row)) → AnswersAt (partial kind q) dbs rs indices answers →
    AllAnswer (partial kind q) rs (map (λ i. from_rows (from_of q) 0 (dbs i) rs) indices) answers
all_over q kind dbs rs [] [] h = tt
all_over q kind dbs rs [] (a ∷ answers) h = absurd h
all_over q kind dbs rs (i ∷ indices) [] h = absurd h
all_over q kind dbs rs (i ∷ indices) (a ∷ answers) h = (over_from q kind (dbs i) rs a h.0, all_over q kind dbs rs indices answers h.1)

-- what the tasks' answers are gathered to is an answer of the block
pub tasks_answer : (side : FromTree → Side) (kind : Combine) (q : Query) (db : Tables) (dbs : ℕ → Tables) (rs : List (List Row)) (indices : List ℕ) (answers : List (List Row)) (rows : List Row) →
    TasksServe side kind q db dbs rs indices →
    AnswersAt (partial kind q) dbs rs indices answers →
    GathersTo kind q rs answers rows →
    AnswersWith q db rs rows
tasks_answer side kind (Query' cs ctes ss subs from filter_ grouped keys aggs having items shown distinct order limit offset names) db dbs rs indices answers rows serve given gathers =
    let q : Query = Query' cs ctes ss subs from filter_ grouped keys aggs having items shown distinct order limit offset names in
    let keep : Row → Bool = keeps filter_ rs in
    let parts : List (List Row) = map (λ i. from_rows from 0 (dbs i) rs) indices in
    gather kind q rs parts answers (from_rows from 0 db rs) rows
    (subst (λ us. Reordered (filter keep (from_rows from 0 db rs)) us) (sym (flat_map_of_map (filter keep) (λ i. from_rows from 0 (dbs i) rs) indices)) (from_cut side db dbs rs from keep indices serve.0 serve.1 serve.2))
    serve.3 (all_over q kind dbs rs indices answers given) gathers

-- parts whose keys tell their index share no key
pub share_no : (key : Row → Row) (place : Row → ℕ) (part : ℕ → List Row) (indices : List ℕ) → AreDistinct indices →
    ((i : ℕ) → Has indices i → (x : Row) → Has (part i) x → place (key x) ≡ i) → ShareNo key (map part indices)
share_no key place part [] d h = tt
share_no key place part (i ∷ indices) d h = (
  (λ x y a b e. let u : (j : ℕ) × Has indices j × Has (part j) y = in_part indices y b in
      d.0 (subst (λ n. Has indices n) (sym (h u.0 (inr u.1) y u.2) ∙ (ap place (sym e) ∙ h i (inl refl) x a)) u.1)),
  share_no key place part indices d.1 (λ j m. h j (inr m)),
)
  where
    in_part : (js : List ℕ) (y : Row) → Has (joined (map part js)) y → (j : ℕ) × Has js j × Has (part j) y
    in_part [] y b = absurd b
    in_part (j ∷ js) y b = elim (has_either (part j) (joined (map part js)) y b) [
      | inl a ↦ (j, inl refl, a)
      | inr c ↦ (let u : (k : ℕ) × Has js k × Has (part k) y = in_part js y c in (u.0, inr u.1, u.2))
    ]

-- a block over one table, of which each task reads a part
pub parts_over : (q : Query) (kind : Combine) (table columns : ℕ) (rs : List (List Row)) → from_of q ≡ Table table columns → (dbs : List Tables) (answers : List (List Row)) → AnswerEach (partial kind q) rs dbs answers → AllAnswer (partial kind q) rs (parts_of table dbs) answers
parts_over q kind table columns rs e [] [] h = tt
parts_over q kind table columns rs e [] (a ∷ answers) h = absurd h
parts_over q kind table columns rs e (db ∷ dbs) [] h = absurd h
parts_over q kind table columns rs e (db ∷ dbs) (a ∷ answers) h =
    (subst (λ rows. AnswersOver (partial kind q) rs rows a) (ap (λ f. from_rows f 0 db rs) e) (over_from q kind db rs a h.0), parts_over q kind table columns rs e dbs answers h.1)

pub one_table : (kind : Combine) (q : Query) (table columns : ℕ) (db : Tables) (rs : List (List Row)) (dbs : List Tables) (answers : List (List Row)) (rows : List Row) →
    (out-Query q).from ≡ Table table columns → table_rows db table ≡ joined (parts_of table dbs) → Serves kind q rs (parts_of table dbs) →
    AnswerEach (partial kind q) rs dbs answers → GathersTo kind q rs answers rows → AnswersWith q db rs rows
one_table kind (Query' cs ctes ss subs from filter_ grouped keys aggs having items shown distinct order limit offset names) table columns db rs dbs answers rows is whole serves given gathers =
    let q : Query = Query' cs ctes ss subs from filter_ grouped keys aggs having items shown distinct order limit offset names in
    let parts : List (List Row) = parts_of table dbs in
    let e : from ≡ Table table columns = sym (from_is q) ∙ is in
    let w : from_rows from 0 db rs ≡ joined parts = ap (λ f. from_rows f 0 db rs) e ∙ whole in
    gather kind q rs parts answers (from_rows from 0 db rs) rows
    (subst (λ us. Reordered (filter (keeps filter_ rs) (from_rows from 0 db rs)) us) (ap (filter (keeps filter_ rs)) w ∙ flat_map_filter (keeps filter_ rs) (λ p. p) parts) (same (filter (keeps filter_ rs) (from_rows from 0 db rs))))
    serves (parts_over q kind table columns rs e dbs answers given) gathers
