-- What each arm of the walk puts together.
use Rattle.std.proofs.Common.{◌≡◌, ℕ, ◌+◌, List, [], ◌++◌, map, Option, None, Some, refl, sym, ap, subst, ◌∙◌, append_assoc, append-nil}
use Rattle.std.proofs.lemmas.List.{map-append}
use Rattle.cq_value.specs.declared.value.Value.{Value}
use Rattle.cq_tree.specs.declared.expression.Cond.{Cond}
use Rattle.cq_tree.specs.declared.query.FromTree.{FromTree, Table, Sub', Result, Cross', Inner', Left', Sub, Cross, Inner, Left, end_of-FromTree, more_of-FromTree}
use Rattle.cq_tree.specs.declared.query.Query.{Query, out-Query}
use Rattle.cq_meaning.specs.Queries.{columns_in}
use Rattle.cq_catalog.specs.Contents.{Contents}
use Rattle.cq_catalog.specs.Placement.{place_at}
use Rattle.cq_catalog.specs.declared.info.Place.{Place}
use Rattle.cq_catalog.specs.declared.info.Place.TheVariants.{Local, Distributed, Reference}
use Rattle.cq_planning.specs.Conjuncts.{conjuncts, conjuncts_of, equalities}
use Rattle.cq_planning.specs.Classes.{first_of_class}
use Rattle.cq_planning.specs.Relations.{Distribution, distribution_at}
use Rattle.cq_planning.specs.ValueSets.{ValueSet, class_set, value_set, sets_said}
use Rattle.cq_planning.specs.Pushable.{Pushable, pushable, distribution_by}
use Rattle.cq_planning.specs.Narrowing.{distribution_in, right_sets, sets_in, given_to}
use Rattle.cq_planning.specs.Occurrences.{occurrence_of, key_values, occurrences_from, occurrences_in}
use Rattle.cq_planning.specs.Touched.{in_order, groups_at, groups_of, touched_by_where}
use Rattle.cq_shape.specs.Labels.{label}
use Rattle.cq_plan.specs.declared.sets.Begun.{Begun}
use Rattle.cq_plan.specs.Begun.{set_at, set_of, sets_under, one_begun, begun, seen}
use Rattle.cq_plan.specs.Touches.{touches, given_by, as_one}
use Rattle.cq_plan.proofs.BegunLaws.{nothing_narrows, left_found}
use Rattle.cq_plan.proofs.FromNodes.{occurrences_is, distribution_sub, begun_sub, begun_cross, begun_inner, begun_left, occurrences_sub, occurrences_cross, occurrences_inner, occurrences_left}

-- the values of a table's distribution column
pub key_is : (sets : ℕ → ValueSet) (start : ℕ) (p : Place) → key_values sets start p ≡ set_of sets (distribution_at start p)
key_is sets start Local = refl
key_is sets start (Distributed column colocation first_shard) = refl
key_is sets start (Reference group shard) = refl

pub table_groups : (c : Contents) (sets : ℕ → ValueSet) (start table : ℕ) →
    touches c (occurrence_of c sets start table) ≡ (table, in_order c (groups_at c table (place_at c table) (set_of sets (distribution_at start (place_at c table)))))
table_groups c sets start table = ap (λ s. (table, in_order c (groups_at c table (place_at c table) s))) (key_is sets start (place_at c table))

-- what a subquery is given
pub given_is : (sets : ℕ → ValueSet) (start : ℕ) (way : Option Pushable) → given_by way (set_of sets (distribution_by start way)) ≡ given_to sets start way
given_is sets start None = refl
given_is sets start (Some p) = refl

-- a right side is one relation
pub as_one_is : (c : Contents) (sets : ℕ → ValueSet) (f : FromTree) (start : ℕ) → as_one f start (begun c sets f start) ≡ one_begun start (distribution_in c f start) (set_of sets (distribution_in c f start))
as_one_is c sets (Table t n) start = refl
as_one_is c sets (Sub' p q) start = refl
as_one_is c sets (Result i n) start = refl
as_one_is c sets (Cross' p (more_of-FromTree a end_of-FromTree) q (more_of-FromTree b end_of-FromTree)) start = refl
as_one_is c sets (Inner' p (more_of-FromTree a end_of-FromTree) q (more_of-FromTree b end_of-FromTree) on) start = refl
as_one_is c sets (Left' p (more_of-FromTree a end_of-FromTree) q (more_of-FromTree b end_of-FromTree) on) start = refl

pub no_key : (sets left : ℕ → ValueSet) (low : ℕ) (pairs : List (ℕ × ℕ)) (d : Option Distribution) (high : ℕ) → d ≡ None → sets_under sets left low pairs d high ≡ sets
no_key sets left low pairs d high e = rw e (λ i y. sets y)

pub free : (sets left : ℕ → ValueSet) (low : ℕ) (pairs : List (ℕ × ℕ)) (d : Option Distribution) (high : ℕ) → pairs ≡ [] → sets_under sets left low pairs d high ≡ sets
free sets left low pairs d high e = subst (λ ps. sets_under sets left low ps d high ≡ sets) (sym e) (nothing_narrows sets left low d high)

module _ (c : Contents) where
  abbrev pub Walked : (ℕ → ValueSet) → FromTree → ℕ → List Begun → List (ℕ × List ℕ) → List (ℕ × List ℕ) → Type 0
  Walked sets f start list before after = (list ≡ begun c sets f start) × (after ≡ before ++ map (touches c) (occurrences_from c sets f start))

  both_parts : (S : ℕ → ValueSet) (a b : FromTree) (start behind : ℕ) (list more : List Begun) (f0 f1 f2 : List (ℕ × List ℕ)) →
      behind ≡ start + columns_in a → Walked S a start list f0 f1 → Walked S b behind more f1 f2 →
      (list ++ more ≡ begun c S a start ++ begun c S b (start + columns_in a)) × (f2 ≡ f0 ++ map (touches c) (occurrences_from c S a start ++ occurrences_from c S b (start + columns_in a)))
  both_parts S a b start behind list more f0 f1 f2 e p q = subst (λ n. (list ++ more ≡ begun c S a start ++ begun c S b n) × (f2 ≡ f0 ++ map (touches c) (occurrences_from c S a start ++ occurrences_from c S b n))) e
      ((rw (p.0, q.0) refl), q.1 ∙ (ap (λ (us : List (ℕ × List ℕ)). us ++ map (touches c) (occurrences_from c S b behind)) p.1 ∙ (append_assoc f0 (map (touches c) (occurrences_from c S a start)) (map (touches c) (occurrences_from c S b behind)) ∙ ap (λ (us : List (ℕ × List ℕ)). f0 ++ us) (sym (map-append (touches c) (occurrences_from c S a start) (occurrences_from c S b behind))))))

  pub cross_arm : (B Sa Sb S : ℕ → ValueSet) (a b : FromTree) (start behind : ℕ) (list more all : List Begun) (f0 f1 f2 : List (ℕ × List ℕ)) →
      S ≡ B → Sa ≡ B → Sb ≡ B → behind ≡ start + columns_in a → Walked Sa a start list f0 f1 → Walked Sb b behind more f1 f2 → all ≡ list ++ more → Walked S (Cross a b) start all f0 f2
  cross_arm B Sa Sb S a b start behind list more all f0 f1 f2 s sa sb e p q r =
      let p' : Walked B a start list f0 f1 = subst (λ X. Walked X a start list f0 f1) sa p in
      let q' : Walked B b behind more f1 f2 = subst (λ X. Walked X b behind more f1 f2) sb q in
      let m : (list ++ more ≡ begun c B a start ++ begun c B b (start + columns_in a)) × (f2 ≡ f0 ++ map (touches c) (occurrences_from c B a start ++ occurrences_from c B b (start + columns_in a))) = both_parts B a b start behind list more f0 f1 f2 e p' q' in
      subst (λ X. Walked X (Cross a b) start all f0 f2) (sym s) (r ∙ (m.0 ∙ sym (begun_cross c B start a b)), m.1 ∙ ap (λ os. f0 ++ map (touches c) os) (sym (occurrences_cross c B start a b)))

  pub inner_arm : (B Sa Sb S : ℕ → ValueSet) (a b : FromTree) (on : Cond) (start behind : ℕ) (list more all : List Begun) (f0 f1 f2 : List (ℕ × List ℕ)) →
      S ≡ B → Sa ≡ B → Sb ≡ B → behind ≡ start + columns_in a → Walked Sa a start list f0 f1 → Walked Sb b behind more f1 f2 → all ≡ list ++ more → Walked S (Inner a b on) start all f0 f2
  inner_arm B Sa Sb S a b on start behind list more all f0 f1 f2 s sa sb e p q r =
      let p' : Walked B a start list f0 f1 = subst (λ X. Walked X a start list f0 f1) sa p in
      let q' : Walked B b behind more f1 f2 = subst (λ X. Walked X b behind more f1 f2) sb q in
      let m : (list ++ more ≡ begun c B a start ++ begun c B b (start + columns_in a)) × (f2 ≡ f0 ++ map (touches c) (occurrences_from c B a start ++ occurrences_from c B b (start + columns_in a))) = both_parts B a b start behind list more f0 f1 f2 e p' q' in
      subst (λ X. Walked X (Inner a b on) start all f0 f2) (sym s) (r ∙ (m.0 ∙ sym (begun_inner c B start a b on)), m.1 ∙ ap (λ os. f0 ++ map (touches c) os) (sym (occurrences_inner c B start a b on)))

  pub under_is : (B L : ℕ → ValueSet) (d : Option Distribution) (start behind : ℕ) (on : Cond) → sets_under B L start (equalities (conjuncts on)) d behind ≡ right_sets B L d start behind on
  under_is B L d start behind on = λ i y. right_sets B L d start behind on y

  left_here : (B Sb : ℕ → ValueSet) (a b : FromTree) (on : Cond) (start : ℕ) (list side more all : List Begun) (pairs : List (ℕ × ℕ)) (f0 f1 f2 : List (ℕ × List ℕ)) →
      Walked B a start list f0 f1 → pairs ≡ equalities (conjuncts on) →
      Sb ≡ sets_under B (set_at B list) start pairs (distribution_in c b (start + columns_in a)) (start + columns_in a) →
      Walked Sb b (start + columns_in a) side f1 f2 → more ≡ as_one b (start + columns_in a) side → all ≡ list ++ more → Walked B (Left a b on) start all f0 f2
  left_here B Sb a b on start list side more all pairs f0 f1 f2 p ps s q m r =
      let R : ℕ → ValueSet = right_sets B (sets_in c B a start) (distribution_in c b (start + columns_in a)) start (start + columns_in a) on in
      let s' : Sb ≡ right_sets B (sets_in c B a start) (distribution_in c b (start + columns_in a)) start (start + columns_in a) on =
      s ∙ (ap (λ l. sets_under B (set_at B l) start pairs (distribution_in c b (start + columns_in a)) (start + columns_in a)) p.0
      ∙ (ap (λ L. sets_under B L start pairs (distribution_in c b (start + columns_in a)) (start + columns_in a)) (left_found c B a start)
      ∙ (ap (λ es. sets_under B (sets_in c B a start) start es (distribution_in c b (start + columns_in a)) (start + columns_in a)) ps
      ∙ under_is B (sets_in c B a start) (distribution_in c b (start + columns_in a)) start (start + columns_in a) on))) in
      let q' : Walked (right_sets B (sets_in c B a start) (distribution_in c b (start + columns_in a)) start (start + columns_in a) on) b (start + columns_in a) side f1 f2 = subst (λ X. Walked X b (start + columns_in a) side f1 f2) s' q in (
        r ∙ (ap (λ (l : List Begun). l ++ more) p.0 ∙ (ap (λ (l : List Begun). begun c B a start ++ l) (m ∙ (ap (as_one b (start + columns_in a)) q'.0 ∙ as_one_is c (right_sets B (sets_in c B a start) (distribution_in c b (start + columns_in a)) start (start + columns_in a) on) b (start + columns_in a))) ∙ sym (begun_left c B start a b on))),
        q'.1 ∙ (ap (λ (us : List (ℕ × List ℕ)). us ++ map (touches c) (occurrences_from c (right_sets B (sets_in c B a start) (distribution_in c b (start + columns_in a)) start (start + columns_in a) on) b (start + columns_in a))) p.1
            ∙ (append_assoc f0 (map (touches c) (occurrences_from c B a start)) (map (touches c) (occurrences_from c (right_sets B (sets_in c B a start) (distribution_in c b (start + columns_in a)) start (start + columns_in a) on) b (start + columns_in a))) ∙ ap (λ (us : List (ℕ × List ℕ)). f0 ++ us) (sym (map-append (touches c) (occurrences_from c B a start) (occurrences_from c (right_sets B (sets_in c B a start) (distribution_in c b (start + columns_in a)) start (start + columns_in a) on) b (start + columns_in a))) ∙ ap (map (touches c)) (sym (occurrences_left c B start a b on))))),
      )

  pub left_arm : (B Sa Sb S : ℕ → ValueSet) (a b : FromTree) (on : Cond) (start behind : ℕ) (list side more all : List Begun) (pairs : List (ℕ × ℕ)) (f0 f1 f2 : List (ℕ × List ℕ)) →
      S ≡ B → Sa ≡ B → behind ≡ start + columns_in a → Walked Sa a start list f0 f1 → pairs ≡ equalities (conjuncts on) →
      Sb ≡ sets_under B (set_at B list) start pairs (distribution_in c b behind) behind →
      Walked Sb b behind side f1 f2 → more ≡ as_one b behind side → all ≡ list ++ more → Walked S (Left a b on) start all f0 f2
  left_arm B Sa Sb S a b on start behind list side more all pairs f0 f1 f2 s sa e p ps sb q m r =
      let go : Sb ≡ sets_under B (set_at B list) start pairs (distribution_in c b behind) behind → Walked Sb b behind side f1 f2 → more ≡ as_one b behind side → Walked B (Left a b on) start all f0 f2 =
      subst (λ n. Sb ≡ sets_under B (set_at B list) start pairs (distribution_in c b n) n → Walked Sb b n side f1 f2 → more ≡ as_one b n side → Walked B (Left a b on) start all f0 f2) (sym e)
      (λ sb q m. left_here B Sb a b on start list side more all pairs f0 f1 f2 (subst (λ X. Walked X a start list f0 f1) sa p) ps sb q m r) in
      subst (λ X. Walked X (Left a b on) start all f0 f2) (sym s) (go sb q m)

  pub sub_arm : (B L : ℕ → ValueSet) (low : ℕ) (pairs : List (ℕ × ℕ)) (q : Query) (start : ℕ) (said : List (ℕ × List Value)) (list : List Begun) (f0 f1 : List (ℕ × List ℕ)) →
      said ≡ given_to (sets_under B L low pairs (distribution_by start (pushable c q)) start) start (pushable c q) →
      list ≡ one_begun start (distribution_by start (pushable c q)) (set_of (sets_under B L low pairs (distribution_by start (pushable c q)) start) (distribution_by start (pushable c q))) →
      f1 ≡ f0 ++ map (touches c) (occurrences_in c q said) →
      Walked (sets_under B L low pairs (distribution_in c (Sub q) start) start) (Sub q) start list f0 f1
  sub_arm B L low pairs q start said list f0 f1 s l f =
      subst (λ d. Walked (sets_under B L low pairs d start) (Sub q) start list f0 f1) (sym (distribution_sub c start q)) (
        l ∙ sym (begun_sub c (sets_under B L low pairs (distribution_by start (pushable c q)) start) start q),
        f ∙ ap (λ os. f0 ++ map (touches c) os) (ap (occurrences_in c q) s ∙ sym (occurrences_sub c (sets_under B L low pairs (distribution_by start (pushable c q)) start) start q)),
      )

  pub query_arm : (q : Query) (labels : List ℕ) (outside said : List (ℕ × List Value)) (relations : List Begun) (low : ℕ) (pairs : List (ℕ × ℕ)) (f0 f1 : List (ℕ × List ℕ)) →
      label labels ≡ first_of_class (equalities (conjuncts_of (out-Query q).filter (out-Query q).from)) → said ≡ outside ++ sets_said (conjuncts_of (out-Query q).filter (out-Query q).from) → pairs ≡ [] →
      f1 ≡ f0 ++ map (touches c) (occurrences_from c (seen c labels said relations low pairs (out-Query q).from 0) (out-Query q).from 0) →
      f1 ≡ f0 ++ map (touches c) (occurrences_in c q outside)
  query_arm q labels outside said relations low pairs f0 f1 l s e f =
      f ∙ ap (λ os. f0 ++ map (touches c) os) (ap (λ sets. occurrences_from c sets (out-Query q).from 0)
      (free (class_set (label labels) said) (set_at (class_set (label labels) said) relations) low pairs (distribution_in c (out-Query q).from 0) 0 e
      ∙ (ap (λ first. class_set first said) l ∙ ap (class_set (first_of_class (equalities (conjuncts_of (out-Query q).filter (out-Query q).from)))) s))
      ∙ sym (occurrences_is c q outside))

  pub where_arm : (filter_ : Cond) (table : ℕ) (labels : List ℕ) (said : List (ℕ × List Value)) (relations : List Begun) (low : ℕ) (pairs : List (ℕ × ℕ)) (d : Option Distribution) (groups : List ℕ) →
      label labels ≡ first_of_class (equalities (conjuncts_of filter_ (Table table 0))) → said ≡ sets_said (conjuncts_of filter_ (Table table 0)) → pairs ≡ [] →
      (table, groups) ≡ touches c (occurrence_of c (sets_under (class_set (label labels) said) (set_at (class_set (label labels) said) relations) low pairs d 0) 0 table) →
      groups ≡ in_order c (touched_by_where c table filter_)
  where_arm filter_ table labels said relations low pairs d groups l s e g =
      ap (λ (p : ℕ × List ℕ). p.1) g ∙ ap (λ sets. in_order c (groups_of c (occurrence_of c sets 0 table)))
      (free (class_set (label labels) said) (set_at (class_set (label labels) said) relations) low pairs d 0 e
      ∙ (ap (λ first. class_set first said) l ∙ (ap (class_set (first_of_class (equalities (conjuncts_of filter_ (Table table 0))))) s
      ∙ ap (value_set []) (append-nil (conjuncts filter_)))))
