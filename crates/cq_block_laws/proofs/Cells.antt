-- What the cells of a list of values tell as they are closed: of each value its notes, and of each session what its passes made of them.
use Rattle.std.proofs.Common.{◌≡◌, ℕ, List, [], ◌++◌, length, refl, sym, ◌∙◌, ap, subst, append_assoc, Some}
use Rattle.std.specs.Prelude.{slice_get}
use Rattle.std.specs.List.{AllZip}
use Rattle.cq_value.proofs.Lists.{append_nil, length_map}
use Rattle.atomic_table.specs.Seated.{TableId}
use Rattle.cq_cell.specs.declared.view.Key.{Key}
use Rattle.cq_cell.specs.declared.passes.Pass.{Pass}
use Rattle.cq_cell.specs.Cell.{Sat}
use Rattle.cq_cell.specs.Lists.{NotIn, own}
use Rattle.cq_cell.specs.Many.{origin_in, AreOpened, IsOpened, IsFirst, IsHistory, HaveClosed}
use Rattle.cq_cell.specs.Passes.{IsOver}
use Rattle.cq_cell.proofs.Zips.{zip_long, three_long}
use Rattle.cq_shared.specs.Writes.{Has}
use Rattle.cq_block_laws.specs.Closing.{HasSeen}
use Rattle.cq_block_laws.specs.Sessions.{PassGoesOn, PassesGoOn}
use Rattle.cq_block_laws.proofs.Places.{got_as, map_got, same_there, three_got, zip_got}

-- ---- passes that go on

module _ {X N : Type 0} where
  pub goes_on_none : (p : Pass X N) → PassGoesOn p p
  goes_on_none p = record { same = (refl, refl, refl, refl, refl); notes = []; mine = sym (append_nil p.place.me.0.mine) }

  pub goes_on_more : (p q r : Pass X N) → PassGoesOn p q → PassGoesOn q r → PassGoesOn p r
  goes_on_more p q r h k = record {
    same = (k.same.0 ∙ h.same.0, k.same.1 ∙ h.same.1, k.same.2 ∙ h.same.2, k.same.3 ∙ h.same.3, k.same.4 ∙ h.same.4);
    notes = h.notes ++ k.notes;
    mine = k.mine ∙ ap (λ v. v ++ k.notes) h.mine ∙ append_assoc p.place.me.0.mine h.notes k.notes;
  }

  pub go_on_none : (passes : List (Pass X N)) → PassesGoOn passes passes
  go_on_none passes = record { count = refl; each = λ at p q is so. subst (PassGoesOn p) (same_there passes at p q is so) (goes_on_none p) }

  pub go_on_more : (old mid new : List (Pass X N)) → PassesGoOn old mid → PassesGoOn mid new → PassesGoOn old new
  go_on_more old mid new h k = record { count = k.count ∙ h.count; each = each }
    where
      each : (at : ℕ) (p q : Pass X N) → slice_get old at ≡ Some p → slice_get new at ≡ Some q → PassGoesOn p q
      each at p q is so =
          let m = got_as old mid at p (sym h.count) is in
          goes_on_more p m.0 q (h.each at p m.0 is m.1) (k.each at m.0 q m.1 so)

-- ---- cells

-- the pass of a session to the cell of a value, as it is given out
pub record IsGiven {X N : Type 0} (n : ℕ) (x : X) (p : Pass X N) : Type 0 where
  pub origin : p.place.me.0.origin ≡ Some x
  pub number : p.place.me.0.number ≡ n
  pub news : p.place.me.0.news ≡ []
  pub mine : p.place.me.0.mine ≡ []

-- the first and the last pass of a session to the cell of a value, which got these notes: it had made none, those of its number are its own, and it has seen
-- a beginning
pub record HasPassed {X N : Type 0} (who : N → ℕ) (n i : ℕ) (x : X) (notes : List N) (firsts lasts : List (Pass X N)) : Type 0 where
  pub first : Pass X N
  pub last : Pass X N
  pub was : slice_get firsts i ≡ Some first
  pub is : slice_get lasts i ≡ Some last
  pub given : IsGiven n x first
  pub goes_on : PassGoesOn first last
  pub mine : last.place.me.0.mine ≡ own who n notes
  pub seen : HasSeen who n notes last.place.me.0.news

module _ {X N : Type 0} (numbers : List ℕ) (xs : List X) (cs : List (TableId × Key X)) (roots : List (Pass X N)) (opens : AreOpened numbers [] xs cs roots) where
  pub cells_count : length cs ≡ length xs
  cells_count = sym (length_map origin_in cs) ∙ ap length opens.values

  -- the cell of a value
  pub record IsCellOf (i : ℕ) (x : X) : Type 0 where
    pub cell : TableId × Key X
    pub there : slice_get cs i ≡ Some cell
    pub origin : cell.1.origin.value ≡ x
    pub told : cell.1.sessions.value.items ≡ numbers

  pub cell_of : (i : ℕ) (x : X) → slice_get xs i ≡ Some x → IsCellOf i x
  cell_of i x e =
      let c = map_got origin_in cs i x (subst (λ v. slice_get v i ≡ Some x) (sym opens.values) e) in
      let r = zip_got (IsOpened numbers []) cs roots i c.0 opens.each c.1 in
      record { cell = c.0; there = c.1; origin = c.2; told = r.holds.sessions }

  pub given_out : (n i : ℕ) (x : X) (row : List (Pass X N)) → AllZip (IsFirst numbers n) cs row → slice_get xs i ≡ Some x → Has row i (IsGiven n x)
  given_out n i x row first e =
      let c = cell_of i x e in
      let f = zip_got (IsFirst numbers n) cs row i c.cell first c.there in record {
        item = f.item;
        there = f.there;
        holds = record {
          origin = ap (λ (m : Sat X N). m.0.origin) f.holds.me ∙ ap Some c.origin;
          number = ap (λ (m : Sat X N). m.0.number) f.holds.me;
          news = ap (λ (m : Sat X N). m.0.news) f.holds.me;
          mine = ap (λ (m : Sat X N). m.0.mine) f.holds.me;
        };
      }

  -- each pass is to the cell of a value
  pub given_to : (n i : ℕ) (row : List (Pass X N)) (p : Pass X N) → AllZip (IsFirst numbers n) cs row → slice_get row i ≡ Some p → (x : X) × (slice_get xs i ≡ Some x) × IsGiven n x p
  given_to n i row p first e =
      let x = got_as row xs i p (zip_long (IsFirst numbers n) cs row first ∙ cells_count) e in
      let f = given_out n i x.0 row first x.1 in
      (x.0, x.1, subst (IsGiven n x.0) (same_there row i f.item p f.there e) f.holds)

  module _ (who : N → ℕ) (stands : X → X → List N → Type 0) (values : List X) (rows : List (List (Pass X N))) (closes : HaveClosed who stands cs values rows) where
    -- as many values came back, and as many histories are known
    pub values_count : length values ≡ length xs
    values_count = (three_long (IsHistory who stands) cs values closes.histories closes.each).0 ∙ cells_count

    pub histories_count : length closes.histories ≡ length xs
    histories_count = (three_long (IsHistory who stands) cs values closes.histories closes.each).1 ∙ cells_count

    -- a value that came back, and its history
    pub record HasCome (i : ℕ) (x : X) : Type 0 where
      pub value : X
      pub notes : List N
      pub back : slice_get values i ≡ Some value
      pub history : slice_get closes.histories i ≡ Some notes
      pub stand : stands x value notes
      pub others : (n : ℕ) → NotIn n numbers → own who n notes ≡ []

    pub come_back : (i : ℕ) (x : X) → slice_get xs i ≡ Some x → HasCome i x
    come_back i x e =
        let c = cell_of i x e in
        let t = three_got (IsHistory who stands) cs values closes.histories i c.cell closes.each c.there in record {
          value = t.item;
          notes = t.beside;
          back = t.there;
          history = t.is;
          stand = subst (λ v. stands v t.item t.beside) c.origin t.holds.stand;
          others = λ n out. t.holds.others n (subst (NotIn n) (sym c.told) out);
        }

    -- the passes of a session
    pub passed : (n i : ℕ) (x : X) (notes : List N) (firsts lasts : List (Pass X N)) → AllZip (IsFirst numbers n) cs firsts → PassesGoOn firsts lasts → AllZip (IsOver who) closes.histories lasts →
        slice_get xs i ≡ Some x → slice_get closes.histories i ≡ Some notes → HasPassed who n i x notes firsts lasts
    passed n i x notes firsts lasts first on over e its =
        let f = given_out n i x firsts first e in
        let l = zip_got (IsOver who) closes.histories lasts i notes over its in
        let goes = on.each i f.item l.item f.there l.there in
        let number : l.item.place.me.0.number ≡ n = goes.same.3 ∙ f.holds.number in
        let mine : l.item.place.me.0.mine ≡ own who n notes = subst (λ k. l.item.place.me.0.mine ≡ own who k notes) number l.holds.mine in
        let all : l.item.place.me.0.mine ≡ own who n l.item.place.me.0.news = subst (λ k. l.item.place.me.0.mine ≡ own who k l.item.place.me.0.news) number l.holds.all in record {
          first = f.item;
          last = l.item;
          was = f.there;
          is = l.there;
          given = f.holds;
          goes_on = goes;
          mine = mine;
          seen = record { begins = l.holds.seen; own = sym all ∙ mine };
        }
