-- The columns of a CREATE TABLE and its PRIMARY KEY: behind a comma a name begins a column, and PRIMARY the key.
use Rattle.std.proofs.Common.{◌≡◌, ℕ, zero, suc, ◌≤◌, List, [], ◌∷◌, ◌++◌, length, Bool, true, false, cond, ◌&&◌, Option, Ok, Err, inl, inr, refl, sym, ◌∙◌, ap, ap₂, subst, arith, length-append, append_assoc}
use Rattle.cq_value.proofs.Truths.{left_false, right_false, both_true}
use Rattle.cq_token.specs.declared.token.Token.{Token}
use Rattle.cq_grammar.specs.Types.{Kind, Name, ColumnDef}
use Rattle.cq_grammar.specs.declared.kind.Kind.TheVariants as k
use Rattle.cq_grammar.specs.Words.{kind, Kinds, of, starts, same_kind, names}
use Rattle.cq_grammar.specs.Lang.{Lang, Both, Either, Made, Many, Optional, Behind}
use Rattle.cq_grammar.specs.Terminals.{The, Commas}
use Rattle.cq_grammar.specs.Statements as grammar
use Rattle.cq_grammar.specs.Reading as reading
use Rattle.cq_grammar.specs.Descent as descent
use Rattle.cq_grammar.specs.Read.{Fault, Outcome, Reader, Test, and_then, both, made, nothing, many_by, many, behind, comma_item, sees, sees_two}
use Rattle.cq_grammar.proofs.Laws.{Mode, Reads, unseen, within, Lawful, Read, Stops, Begins, Only, Clear, went_ok, went_err, ok_same, ok_err, true_false, nonempty, among_starts, both_read, both_fails_first, both_fails_second, made_only, made_fails, same_stops, same_lang, made_lawful, both_lawful, widen}
use Rattle.cq_grammar.proofs.Sets.{of_apart, of_among}
use Rattle.cq_grammar.proofs.Shapes.{Shape, Ruled, seen, ◌then◌, maybe, some_of_these, second, word, commas, comma, clear_by, stated, rule, option}
use Rattle.cq_grammar.proofs.Ahead.{OpensBy, ClearBy, Settles, two_grows, two_settles, only_p, only_q, stops_p, stops_q}
use Rattle.cq_grammar.proofs.Begun.{sees_so, first_so}
use Rattle.cq_grammar.proofs.Expressions.{name, some_of}

module _ {S : Type 0} {H : Mode} where
  pub name_list : Ruled S H reading.name_list grammar.name_list grammar.name_list (rule (k.Open ∷ []) [])
  unfolding grammar.name_list reading.name_list of same_kind
  name_list = stated (seen _ (word k.Open then commas (λ _. name) then word k.Close)) _ refl

  pub optional_names : Ruled S H reading.optional_names grammar.optional_names grammar.optional_names (option (k.Open ∷ []) (k.Open ∷ []))
  unfolding grammar.optional_names reading.optional_names of same_kind
  optional_names = stated (seen _ (maybe (k.Open ∷ []) name_list refl)) _ refl

  primary_words : Ruled S H reading.primary_words (Both (The k.Primary) (The k.Key)) (Both (The k.Primary) (The k.Key)) (rule (k.Primary ∷ []) [])
  unfolding reading.primary_words of same_kind
  primary_words = stated (word k.Primary then word k.Key) _ refl

  pub column_def : Ruled S H reading.column_def grammar.column_def grammar.column_def (rule names (k.Primary ∷ []))
  unfolding grammar.column_def reading.column_def of same_kind
  column_def = stated (seen _ (name then some_of _ _ then maybe (k.Primary ∷ []) primary_words refl)) _ refl

  key_list : Ruled S H reading.key_list (Behind (The k.Comma) (Behind (The k.Primary) (Behind (The k.Key) grammar.name_list))) (Behind (The k.Comma) (Behind (The k.Primary) (Behind (The k.Key) grammar.name_list)))
      (rule comma [])
  unfolding reading.key_list of same_kind
  key_list = stated (second (word k.Comma) (second (word k.Primary) (second (word k.Key) name_list))) _ refl

  pub primary_key : Ruled S H reading.primary_key grammar.primary_key grammar.primary_key (option comma comma)
  unfolding grammar.primary_key reading.primary_key of same_kind
  primary_key = stated (seen _ (maybe comma key_list refl)) _ refl

  -- a column behind a comma
  pub comma_column : Ruled S H (behind (descent.the k.Comma) reading.column_def) (Behind (The k.Comma) grammar.column_def) (Behind (The k.Comma) grammar.column_def) (rule comma (k.Primary ∷ []))
  unfolding of same_kind
  comma_column = stated (second (word k.Comma) column_def) _ refl

-- ---- what stands behind the first column

abbrev Columns : ℕ → Lang (List ColumnDef)
Columns = Many (λ _. Behind (The k.Comma) grammar.column_def)

abbrev Rest : ℕ → Lang (List ColumnDef × List Name)
Rest i = Both (Columns i) grammar.primary_key

abbrev joined : ColumnDef × (List ColumnDef × List Name) → List ColumnDef × List Name
joined (c, (cs, key)) = (c ∷ cs, key)

abbrev no_more : List Name → List ColumnDef × List Name
no_more key = ([], key)

abbrev More : ℕ → Lang (List ColumnDef × List Name)
More i = Made joined (Both (Behind (The k.Comma) grammar.column_def) (Rest (suc i)))

abbrev End : Lang (List ColumnDef × List Name)
End = Made no_more grammar.primary_key

into : (i : ℕ) (v : List ColumnDef × List Name) (x : List Token) → Either (More i) End v x → Rest i v x
into i v x (inl m) = subst (λ (w : List ColumnDef × List Name). Rest i w x) (sym m.is) (record {
  front = m.phrase.front ++ m.phrase.right.front;
  back = m.phrase.right.back;
  whole = m.phrase.whole ∙ (ap (λ w. m.phrase.front ++ w) m.phrase.right.whole ∙ sym (append_assoc m.phrase.front m.phrase.right.front m.phrase.right.back));
  left = (m.phrase.front, m.phrase.right.front, refl, m.phrase.left, m.phrase.right.left);
  right = m.phrase.right.right;
})
into i v x (inr m) = subst (λ (w : List ColumnDef × List Name). Rest i w x) (sym m.is) (record { front = []; back = x; whole = refl; left = refl; right = m.phrase })

out_by : (i : ℕ) (cs : List ColumnDef) (key : List Name) (x front back : List Token) → x ≡ front ++ back → Columns i cs front → grammar.primary_key key back → Either (More i) End (cs, key) x
out_by i [] key x front back whole w p = inr (record { from = key; is = refl; phrase = subst (λ (z : List Token). grammar.primary_key key z) (sym (whole ∙ ap (λ z. z ++ back) w)) p })
out_by i (c ∷ cs) key x front back whole w p = inl (record {
  from = (c, (cs, key));
  is = refl;
  phrase = record {
    front = w.0;
    back = w.1 ++ back;
    whole = whole ∙ (ap (λ z. z ++ back) w.2 ∙ append_assoc w.0 w.1 back);
    left = w.3;
    right = record { front = w.1; back = back; whole = refl; left = w.4; right = p };
  };
})

out : (i : ℕ) (v : List ColumnDef × List Name) (x : List Token) → Rest i v x → Either (More i) End v x
out i v x w = out_by i v.0 v.1 x w.front w.back w.whole w.left w.right

abbrev Test_column : Test
Test_column = sees_two comma names

abbrev rest_goes : List Kind
rest_goes = k.Comma ∷ k.Primary ∷ []

-- a comma and a name come first
more_opens : (i : ℕ) → OpensBy Test_column (More i)
more_opens i v y w =
    let item = w.phrase.left.phrase in
    ap Test_column (w.phrase.whole ∙ ap (λ z. z ++ w.phrase.back) (item.whole ∙ ap (λ z. z ++ item.back) item.left.phrase.alone))
    ∙ two_grows comma names (item.left.from ∷ item.back) w.phrase.back (both_true (of comma (kind item.left.from)) (starts (of names) item.back) item.left.phrase.kind
    (elim ((column_def {S = ⊥} {H = unseen}).opens w.phrase.left.from.1 item.back item.right) [
      | inl u ↦ u
      | inr u ↦ true_false u.0 refl
    ]))

-- behind a comma PRIMARY comes, or nothing that the columns go on with
end_clear : ClearBy Test_column End (of rest_goes)
unfolding grammar.primary_key of same_kind
end_clear v y m w sm = by w.phrase.from w.phrase.phrase
  where
    by : (o : Option (List Name)) → Optional (Behind (The k.Comma) (Behind (The k.Primary) (Behind (The k.Key) grammar.name_list))) o y → Test_column (y ++ m) ≡ false
    by o (inl q) =
        let p = q.phrase.phrase in
        let r = p.right.phrase in
        let e : y ≡ p.left.from ∷ r.left.from ∷ r.back = p.whole ∙ ap₂ (λ i j. i ++ j) p.left.phrase.alone (r.whole ∙ ap (λ z. z ++ r.back) r.left.phrase.alone) in
        ap (λ z. Test_column (z ++ m)) e ∙ right_false (of comma (kind p.left.from)) (of names (kind r.left.from)) (of_apart (k.Primary ∷ []) names refl (kind r.left.from) r.left.phrase.kind)
    by o (inr n) = ap (λ z. Test_column (z ++ m)) n.none ∙ left_false (starts (of comma) m) _ (among_starts (of comma) (of rest_goes) (of_among comma rest_goes refl) m sm)

-- ---- the reader, as a choice at each comma

abbrev item : ℕ → Reader ColumnDef
item = comma_item (descent.the k.Comma) (λ _. reading.column_def)

abbrev tail_by : ℕ → ℕ → Reader (List ColumnDef × List Name)
tail_by zero i ts = made no_more reading.primary_key ts
tail_by (suc n) i ts = cond (Test_column ts) (made joined (both (item i) (tail_by n (suc i))) ts) (made no_more reading.primary_key ts)

module _ {A B : Type 0} where
  abbrev paired : A → B → List Token → Outcome (A × B)
  paired a b s = Ok ((a, b), s)

  same_second : (o : Outcome A) (q u : Reader B) → ((r : List Token) → q r ≡ u r) → and_then o (λ a r. and_then (q r) (paired a)) ≡ and_then o (λ a r. and_then (u r) (paired a))
  same_second (Ok p) q u same = ap (λ w. and_then w (paired p.0)) (same p.1)
  same_second (Err e) q u same = refl

module _ {B : Type 0} (q : Reader (List ColumnDef)) (key : Reader B) where
  abbrev grouped : ColumnDef × (List ColumnDef × B) → List ColumnDef × B
  grouped (c, (cs, k)) = (c ∷ cs, k)

  abbrev cons : ColumnDef × List ColumnDef → List ColumnDef
  cons c = c.0 ∷ c.1

  abbrev first_two : Outcome ColumnDef → Outcome (List ColumnDef)
  first_two o = and_then (and_then {B = ColumnDef × List ColumnDef} o (λ c r. and_then (q r) (paired c))) (λ c r. Ok (cons c, r))

  abbrev left_three : Outcome ColumnDef → Outcome (List ColumnDef × B)
  left_three o = and_then (first_two o) (λ cs r. and_then (key r) (paired cs))

  abbrev last_two : List Token → Outcome (List ColumnDef × B)
  last_two r = both q key r

  abbrev right_three : Outcome ColumnDef → Outcome (List ColumnDef × B)
  right_three o = and_then (and_then {B = ColumnDef × (List ColumnDef × B)} o (λ c r. and_then (last_two r) (paired c))) (λ c r. Ok (grouped c, r))

  third : (c : ColumnDef) (cs : List ColumnDef) (o : Outcome B)
      → and_then o (paired (c ∷ cs)) ≡ and_then (and_then {B = ColumnDef × (List ColumnDef × B)} (and_then o (paired cs)) (paired c)) (λ c r. Ok (grouped c, r))
  third c cs (Ok p) = refl
  third c cs (Err e) = refl

  seconds : (c : ColumnDef) (o : Outcome (List ColumnDef)) → and_then (and_then {B = List ColumnDef} (and_then {B = ColumnDef × List ColumnDef} o (paired c)) (λ c r. Ok (cons c, r))) (λ cs r. and_then (key r) (paired cs))
      ≡ and_then (and_then {B = ColumnDef × (List ColumnDef × B)} (and_then o (λ cs r. and_then (key r) (paired cs))) (paired c)) (λ c r. Ok (grouped c, r))
  seconds c (Ok p) = third c p.0 (key p.1)
  seconds c (Err e) = refl

  regrouped : (o : Outcome ColumnDef) → left_three o ≡ right_three o
  regrouped (Ok p) = seconds p.0 (q p.1)
  regrouped (Err e) = refl

tails_by : (n i : ℕ) (ts : List Token) (b : Bool) → ((r : List Token) → both (many_by Test_column item (suc i) n) reading.primary_key r ≡ tail_by n (suc i) r)
    → and_then (cond b (made (λ c. c.0 ∷ c.1) (both (item i) (many_by Test_column item (suc i) n)) ts) (nothing [] ts)) (λ cs r. and_then (reading.primary_key r) (paired cs))
    ≡ cond b (made joined (both (item i) (tail_by n (suc i))) ts) (made no_more reading.primary_key ts)
tails_by n i ts true same =
    regrouped (many_by Test_column item (suc i) n) reading.primary_key (item i ts)
    ∙ ap (λ o. and_then o (λ c r. Ok (joined c, r))) (same_second (item i ts) (both (many_by Test_column item (suc i) n) reading.primary_key) (tail_by n (suc i)) same)
tails_by n i ts false same = refl

tails : (n i : ℕ) (ts : List Token) → both (many_by Test_column item i n) reading.primary_key ts ≡ tail_by n i ts
tails zero i ts = refl
tails (suc n) i ts = tails_by n i ts (Test_column ts) (tails n (suc i))

-- ---- its laws

-- what is known without a look beyond the comma
abbrev unsettled : List Kind → Bool → Shape
unsettled fs empty = record { firsts = fs; goes = rest_goes; empty = empty; whole = true; plain = false; fine = false }

rest_rule : {S : Type 0} {H : Mode} (i : ℕ) → Ruled S H (both (many (sees comma) item i) reading.primary_key) (Rest i) (Rest i) (unsettled comma true)
unfolding of same_kind
rest_rule i = stated (some_of_these comma (λ _. comma_column) refl i then primary_key) _ refl

rest_clear : (i : ℕ) → Clear (of (k.Primary ∷ [])) (Rest i) (of rest_goes)
unfolding of same_kind
rest_clear i = clear_by (k.Primary ∷ []) rest_goes (rest_rule {S = ⊥} {H = unseen} i) refl (λ _. of_among (k.Primary ∷ []) rest_goes refl)

rest_some : (i : ℕ) → Begins (Rest i) []
rest_some i = (rest_rule {S = Unit {0}} {H = unseen} i).some tt

more_settles : (i : ℕ) → Settles Test_column (More i)
more_settles i = two_settles comma names (More i) (λ t is_comma. sees_so joined (first_so ((comma_column {S = Unit {0}} {H = unseen}).full tt refl t is_comma) (rest_some (suc i))))

end_settles : Settles Test_column End
end_settles = two_settles comma names End (λ t is_comma. sees_so no_more ((primary_key {S = Unit {0}} {H = unseen}).full tt refl t is_comma))

-- the law of a column and of the key
column_law : {mode : Mode} → Reads mode → Lawful mode (behind (descent.the k.Comma) reading.column_def) (Behind (The k.Comma) grammar.column_def) (Behind (The k.Comma) grammar.column_def) (of (k.Primary ∷ []))
column_law {mode} reads = (comma_column {S = ⊥} {H = mode}).lawful reads refl

end_law : {mode : Mode} → Reads mode → Lawful mode (made no_more reading.primary_key) End End (of rest_goes)
unfolding of same_kind
end_law {mode} reads = made_lawful no_more reading.primary_key grammar.primary_key grammar.primary_key (of rest_goes)
    (widen reading.primary_key grammar.primary_key grammar.primary_key (of comma) (of rest_goes) (of_among comma rest_goes refl) ((primary_key {S = ⊥} {H = mode}).lawful reads refl))

module _ (i : ℕ) where
  abbrev Item : Lang ColumnDef
  Item = Behind (The k.Comma) grammar.column_def

  more_only : (v : List ColumnDef × List Name) (x r : List Token) → More i v x → Only (More i) (of rest_goes) v x r → Only (Either (More i) End) (of rest_goes) v x r
  more_only = only_p Test_column (two_grows comma names) (made joined (both (item i) (tail_by 0 (suc i)))) (made no_more reading.primary_key) (More i) (More i) End End (of rest_goes)
      (more_opens i) end_clear (λ v x w. w) (λ v x w. w) (more_settles i) end_settles

  end_only : (v : List ColumnDef × List Name) (x r : List Token) → Test_column (x ++ r) ≡ false → Only End (of rest_goes) v x r → Only (Either (More i) End) (of rest_goes) v x r
  end_only = only_q Test_column (two_grows comma names) (made joined (both (item i) (tail_by 0 (suc i)))) (made no_more reading.primary_key) (More i) (More i) End End (of rest_goes)
      (more_opens i) end_clear (λ v x w. w) (λ v x w. w) (more_settles i) end_settles

  more_stops : {mode : Mode} (ts : List Token) (e : Fault) → Test_column ts ≡ true → Stops mode (More i) (More i) (of rest_goes) ts e → Stops mode (Rest i) (Rest i) (of rest_goes) ts e
  more_stops ts e on s = same_stops (Either (More i) End) (Rest i) (Either (More i) End) (Rest i) (of rest_goes) (λ v x. (into i v x, out i v x)) (λ v x. (into i v x, out i v x)) ts e
      (stops_p Test_column (two_grows comma names) (made joined (both (item i) (tail_by 0 (suc i)))) (made no_more reading.primary_key) (More i) (More i) End End (of rest_goes)
      (more_opens i) end_clear (λ v x w. w) (λ v x w. w) (more_settles i) end_settles ts e on s)

  end_stops : {mode : Mode} (ts : List Token) (e : Fault) → Test_column ts ≡ false → Stops mode End End (of rest_goes) ts e → Stops mode (Rest i) (Rest i) (of rest_goes) ts e
  end_stops ts e off s = same_stops (Either (More i) End) (Rest i) (Either (More i) End) (Rest i) (of rest_goes) (λ v x. (into i v x, out i v x)) (λ v x. (into i v x, out i v x)) ts e
      (stops_q Test_column (two_grows comma names) (made joined (both (item i) (tail_by 0 (suc i)))) (made no_more reading.primary_key) (More i) (More i) End End (of rest_goes)
      (more_opens i) end_clear (λ v x w. w) (λ v x w. w) (more_settles i) end_settles ts e off s)

  more_read : (ts : List Token) (c : ColumnDef) (v : List ColumnDef × List Name) (r s : List Token) → Read Item Item (of (k.Primary ∷ [])) c r ts
      → Read (Rest (suc i)) (Rest (suc i)) (of rest_goes) v s r → Read (Rest i) (Rest i) (of rest_goes) (joined (c, v)) s ts
  more_read ts c v r s x y =
      let b = both_read (item i) (tail_by 0 (suc i)) Item Item (Rest (suc i)) (Rest (suc i)) (of (k.Primary ∷ [])) (of rest_goes) (rest_clear (suc i)) ts c v r s x y in
      let phrase : More i (joined (c, v)) b.front = record { from = (c, v); is = refl; phrase = b.phrase } in record {
        front = b.front;
        whole = b.whole;
        phrase = into i (joined (c, v)) b.front (inl phrase);
        only = λ u y2 m z w sm same eq.
            more_only (joined (c, v)) b.front s phrase (made_only joined (Both Item (Rest (suc i))) (of rest_goes) (c, v) b.front s b.only) u y2 m z (out i u y2 w) sm same eq;
      }

  end_read : (ts : List Token) (v : List ColumnDef × List Name) (r : List Token) → Test_column ts ≡ false → Read End End (of rest_goes) v r ts → Read (Rest i) (Rest i) (of rest_goes) v r ts
  end_read ts v r off d = record {
    front = d.front;
    whole = d.whole;
    phrase = into i v d.front (inr d.phrase);
    only = λ u y m z w sm same eq. end_only v d.front r (sym (ap Test_column d.whole) ∙ off) d.only u y m z (out i u y w) sm same eq;
  }

  shorter : (ts : List Token) (c : ColumnDef) (r : List Token) (n : ℕ) → Read Item Item (of (k.Primary ∷ [])) c r ts → length ts ≤ suc n → length r ≤ n
  shorter ts c r n d le =
      let some : starts (of comma) d.front ≡ true = elim ((comma_column {S = ⊥} {H = unseen}).opens c d.front d.phrase) [ inl u ↦ u | inr u ↦ true_false u.0 refl ] in
      let long : 1 ≤ length d.front = nonempty (of comma) d.front some in
      omega (arith, ap length d.whole, length-append d.front r)

abbrev Sound : ℕ → Type 0
Sound n = (i : ℕ) (ts : List Token) (v : List ColumnDef × List Name) (r : List Token) → length ts ≤ n → tail_by n i ts ≡ Ok (v, r) → Read (Rest i) (Rest i) (of rest_goes) v r ts

sound_by : (n : ℕ) → Sound n → (b : Bool) (o : ℕ) (ts : List Token) (v : List ColumnDef × List Name) (r : List Token) → Test_column ts ≡ b → length ts ≤ suc n
    → cond b (made joined (both (item o) (tail_by n (suc o))) ts) (made no_more reading.primary_key ts) ≡ Ok (v, r) → Read (Rest o) (Rest o) (of rest_goes) v r ts
sound_by n more false o ts v r off le d = end_read o ts v r off ((end_law {mode = within} tt).sound ts v r d)
sound_by n more true o ts v r on le d =
    let i = went_ok (both (item o) (tail_by n (suc o)) ts) (λ c r. Ok (joined c, r)) (v, r) d in
    let j = went_ok (item o ts) (λ c r. and_then (tail_by n (suc o) r) (λ b s. Ok ((c, b), s))) (i.value, i.rest) i.first in
    let u = went_ok (tail_by n (suc o) j.rest) (λ b s. Ok ((j.value, b), s)) (i.value, i.rest) j.second in
    let x = (column_law {mode = within} tt).sound ts j.value j.rest j.first in
    let y = more (suc o) j.rest u.value u.rest (shorter o ts j.value j.rest n x le) u.first in
    let e1 : ((j.value, u.value), u.rest) ≡ (i.value, i.rest) = ok_same u.second in
    let e2 : (joined i.value, i.rest) ≡ (v, r) = ok_same i.second in
    subst (λ (w : (List ColumnDef × List Name) × List Token). Read (Rest o) (Rest o) (of rest_goes) w.0 w.1 ts)
    (ap (λ (w : (ColumnDef × (List ColumnDef × List Name)) × List Token). (joined w.0, w.1)) e1 ∙ e2) (more_read o ts j.value u.value j.rest u.rest x y)

tail_sound : (n : ℕ) → Sound n
tail_sound zero i [] v r le d = end_read i [] v r refl ((end_law {mode = within} tt).sound [] v r d)
tail_sound zero i (t ∷ ts) v r le d = absurd (omega arith)
tail_sound (suc n) i ts v r le d = sound_by n (tail_sound n) (Test_column ts) i ts v r refl le d

abbrev Fails : Mode → ℕ → Type 0
Fails mode n = (i : ℕ) (ts : List Token) (d : Fault) → length ts ≤ n → tail_by n i ts ≡ Err d → Stops mode (Rest i) (Rest i) (of rest_goes) ts d

fails_by : {mode : Mode} → Reads mode → (n : ℕ) → Fails mode n → (b : Bool) (o : ℕ) (ts : List Token) (d : Fault) → Test_column ts ≡ b → length ts ≤ suc n
    → cond b (made joined (both (item o) (tail_by n (suc o))) ts) (made no_more reading.primary_key ts) ≡ Err d → Stops mode (Rest o) (Rest o) (of rest_goes) ts d
fails_by reads n more false o ts d off le h = end_stops o ts d off ((end_law reads).fails ts d h)
fails_by {mode} reads n more true o ts d on le h = more_stops o ts d on (made_fails joined (Both (Item o) (Rest (suc o))) (Both (Item o) (Rest (suc o))) (of rest_goes) ts d
    (elim (went_err (both (item o) (tail_by n (suc o)) ts) (λ c r. Ok (joined c, r)) d h) [
      | inl u ↦ elim (went_err (item o ts) (λ c r. and_then (tail_by n (suc o) r) (λ b s. Ok ((c, b), s))) d u) [
        | inl v ↦ both_fails_first (item o) (tail_by n (suc o)) (Item o) (Item o) (Rest (suc o)) (Rest (suc o)) (of (k.Primary ∷ [])) (of rest_goes) (rest_clear (suc o)) (rest_clear (suc o)) (rest_some (suc o)) (λ _. rest_some (suc o)) ts d
            ((column_law reads).fails ts d v)
        | inr i ↦
            let x = (column_law {mode = within} tt).sound ts i.value i.rest i.first in
            elim (went_err (tail_by n (suc o) i.rest) (λ b s. Ok ((i.value, b), s)) d i.second) [
              | inl v ↦ both_fails_second (item o) (tail_by n (suc o)) (Item o) (Item o) (Rest (suc o)) (Rest (suc o)) (of (k.Primary ∷ [])) (of rest_goes) (column_law reads) (rest_clear (suc o)) (rest_clear (suc o)) ts i.rest i.value d x
                  (more (suc o) i.rest d (shorter o ts i.value i.rest n x le) v)
              | inr j ↦ absurd (ok_err j.second)
            ]
      ]
      | inr i ↦ absurd (ok_err i.second)
    ]))

tail_fails : {mode : Mode} → Reads mode → (n : ℕ) → Fails mode n
tail_fails reads zero i [] d le h = end_stops i [] d refl ((end_law reads).fails [] d h)
tail_fails reads zero i (t ∷ ts) d le h = absurd (omega arith)
tail_fails reads (suc n) i ts d le h = fails_by reads n (tail_fails reads n) (Test_column ts) i ts d refl le h

rest_law : {mode : Mode} → Reads mode → Lawful mode (both (many Test_column item 1) reading.primary_key) (Rest 1) (Rest 1) (of rest_goes)
rest_law reads = record {
  sub = λ a x w. w;
  some = rest_some 1;
  filled = λ _. rest_some 1;
  sound = λ ts v r d. tail_sound (length ts) 1 ts v r (omega arith) (sym (tails (length ts) 1 ts) ∙ d);
  fails = λ ts d h. tail_fails reads (length ts) 1 ts d (omega arith) (sym (tails (length ts) 1 ts) ∙ h);
}

-- ---- the whole

-- a reader that answers the same
same_reader : {mode : Mode} {A : Type 0} (p q : Reader A) (P W : Lang A) (g : Kinds) → ((ts : List Token) → q ts ≡ p ts) → Lawful mode p P W g → Lawful mode q P W g
same_reader p q P W g same l = record { sub = l.sub; some = l.some; filled = l.filled; sound = λ ts a r e. l.sound ts a r (sym (same ts) ∙ e); fails = λ ts e h. l.fails ts e (sym (same ts) ∙ h) }

abbrev All : Lang (List ColumnDef × List Name)
All = Made joined (Both grammar.column_def (Rest 1))

into_all : (v : List ColumnDef × List Name) (x : List Token) → All v x → grammar.table_columns v x
unfolding grammar.table_columns
into_all v x w = subst (λ (u : List ColumnDef × List Name). grammar.table_columns u x) (sym w.is) (record {
  front = w.phrase.front ++ w.phrase.right.front;
  back = w.phrase.right.back;
  whole = w.phrase.whole ∙ (ap (λ z. w.phrase.front ++ z) w.phrase.right.whole ∙ sym (append_assoc w.phrase.front w.phrase.right.front w.phrase.right.back));
  left = record {
    from = (w.from.0, w.from.1.0);
    is = refl;
    phrase = record { front = w.phrase.front; back = w.phrase.right.front; whole = refl; left = w.phrase.left; right = w.phrase.right.left };
  };
  right = w.phrase.right.right;
})

out_all : (v : List ColumnDef × List Name) (x : List Token) → grammar.table_columns v x → All v x
unfolding grammar.table_columns
out_all v x w = record {
  from = (w.left.from.0, (w.left.from.1, v.1));
  is = ap (λ z. (z, v.1)) w.left.is;
  phrase = record {
    front = w.left.phrase.front;
    back = w.left.phrase.back ++ w.back;
    whole = w.whole ∙ (ap (λ z. z ++ w.back) w.left.phrase.whole ∙ append_assoc w.left.phrase.front w.left.phrase.back w.back);
    left = w.left.phrase.left;
    right = record { front = w.left.phrase.back; back = w.back; whole = refl; left = w.left.phrase.right; right = w.right };
  };
}

all_law : {mode : Mode} → Reads mode → Lawful mode (made joined (both reading.column_def (both (many Test_column item 1) reading.primary_key))) All All (of rest_goes)
all_law {mode} reads = made_lawful joined _ _ _ (of rest_goes)
    (both_lawful reading.column_def (both (many Test_column item 1) reading.primary_key) grammar.column_def grammar.column_def (Rest 1) (Rest 1) (of (k.Primary ∷ [])) (of rest_goes)
    ((column_def {S = ⊥} {H = mode}).lawful reads refl) (rest_law reads) (rest_clear 1))

columns_law : {mode : Mode} → Reads mode → Lawful mode reading.table_columns grammar.table_columns grammar.table_columns (of rest_goes)
unfolding reading.table_columns
columns_law reads = same_lang reading.table_columns All grammar.table_columns All grammar.table_columns (of rest_goes) (λ v x. (into_all v x, out_all v x)) (λ v x. (into_all v x, out_all v x))
    (same_reader _ reading.table_columns All All (of rest_goes) (λ ts. regrouped (many Test_column item 1) reading.primary_key (reading.column_def ts)) (all_law reads))

pub table_columns : {S : Type 0} {H : Mode} → Ruled S H reading.table_columns grammar.table_columns grammar.table_columns (rule names rest_goes)
unfolding grammar.table_columns of same_kind
table_columns {S} {H} =
    let l : Ruled S H (both (descent.list (λ _. reading.column_def)) reading.primary_key) (Both (Commas (λ _. grammar.column_def)) grammar.primary_key) (Both (Commas (λ _. grammar.column_def)) grammar.primary_key)
    (unsettled names false) = stated (commas (λ _. column_def) then primary_key) _ refl in
    record { some = l.some; full = l.full; none = l.none; opens = l.opens; plain = l.plain; lawful = λ reads _. columns_law reads }
