-- The reader accepts the grammar of statements, rule by rule.
use Rattle.std.proofs.Common.{◌≡◌, ℕ, List, [], ◌∷◌, ◌++◌, true, None, inl, inr, refl, ◌∙◌, ap, ap₂, ◌&&◌}
use Rattle.cq_value.proofs.Truths.{both_true}
use Rattle.cq_token.specs.declared.token.Token.{Token}
use Rattle.cq_grammar.specs.Types.{Kind, Name, Ast, Argument}
use Rattle.cq_grammar.specs.declared.kind.Kind.TheVariants as k
use Rattle.cq_grammar.specs.declared.statement.Ast.TheVariants as ast
use Rattle.cq_grammar.specs.Words.{kind, of, starts, same_kind, names}
use Rattle.cq_grammar.specs.Lang.{Lang, Made}
use Rattle.cq_grammar.specs.Terminals.{name_of, place_of}
use Rattle.cq_grammar.specs.Grammar.{Deeper, expr, select, Tree, or_}
use Rattle.cq_grammar.specs.Statements as grammar
use Rattle.cq_grammar.specs.Reading as reading
use Rattle.cq_grammar.specs.Descent as descent
use Rattle.cq_grammar.specs.Descent.{conditions}
use Rattle.cq_grammar.specs.Read.{Reader, Test, sees_three, tail}
use Rattle.cq_grammar.proofs.Laws.{Mode, unseen, Begins, true_false, apart_starts, starts_front, among_starts, regroup, first_of_kinds}
use Rattle.cq_grammar.proofs.Tokens.{token_of}
use Rattle.cq_grammar.proofs.Sets.{outside, of_apart, of_among, of_in}
use Rattle.cq_grammar.proofs.Shapes.{Ruled, after, one_shape, token, seen, ◌then◌, either, maybe, second, word, commas, stated, rule, option}
use Rattle.cq_grammar.proofs.Ahead.{OpensBy, ClearBy, three_grows, three_settles, by_sight}
use Rattle.cq_grammar.proofs.Begun.{sees_so, second_so, first_so, behind_so, none_so, selected_so, name_item, the_so}
use Rattle.cq_grammar.proofs.Expressions.{or_goes, select_goes, deeper, number, quoted, name, some_of}
use Rattle.cq_grammar.proofs.Selects.{condition, filter, selected, selected_no_call}
use Rattle.cq_grammar.proofs.Columns.{optional_names, table_columns}

module _ {S : Type 0} {H : Mode} where
  create : Ruled S H reading.create grammar.create grammar.create (rule (k.Create ∷ []) [])
  unfolding grammar.create reading.create of same_kind
  create = stated (seen _ (word k.Create then second (word k.Table) name then word k.Open then table_columns then word k.Close)) _ refl

  format_option : Ruled S H reading.format_option grammar.format_option grammar.format_option (rule (k.Format ∷ []) [])
  unfolding grammar.format_option reading.format_option of same_kind
  format_option = stated (seen _ (word k.Format then some_of _ _)) _ refl

  pub copy_option : Ruled S H reading.copy_option grammar.copy_option grammar.copy_option (rule (k.Format ∷ k.Header ∷ []) [])
  unfolding grammar.copy_option reading.copy_option of same_kind
  copy_option = stated (either (k.Format ∷ []) format_option (seen _ (word k.Header)) refl) _ refl

  copy_options : Ruled S H reading.copy_options grammar.copy_options grammar.copy_options (option (k.With ∷ k.Open ∷ []) (k.With ∷ k.Open ∷ []))
  unfolding grammar.copy_options reading.copy_options reading.option_list of same_kind
  copy_options = stated (maybe (k.With ∷ k.Open ∷ []) (seen _ (maybe (k.With ∷ []) (word k.With) refl then word k.Open then commas (λ _. copy_option) then word k.Close)) refl) _ refl

  copy : Ruled S H reading.copy grammar.copy grammar.copy (rule (k.Copy ∷ []) (k.With ∷ k.Open ∷ []))
  unfolding grammar.copy reading.copy of same_kind
  copy = stated (seen _ (word k.Copy then name then optional_names then second (word k.From) (second (word k.Stdin) copy_options))) _ refl

  setting_value : Ruled S H reading.setting_value grammar.setting_value grammar.setting_value (rule (k.Number ∷ k.On ∷ k.Off ∷ []) [])
  unfolding grammar.setting_value reading.setting_value of same_kind
  setting_value = stated (either (k.Number ∷ []) (seen _ number) (either (k.On ∷ []) (seen _ (word k.On)) (seen _ (word k.Off)) refl) refl) _ refl

  set : Ruled S H reading.set grammar.set grammar.set (rule (k.Set ∷ []) [])
  unfolding grammar.set reading.set of same_kind
  set = stated (seen _ (word k.Set then name then second (word k.Dot) name then some_of _ _ then setting_value)) _ refl

  argument_value : Ruled S H reading.argument_value grammar.argument_value grammar.argument_value (rule (k.Quoted ∷ k.Number ∷ []) [])
  unfolding grammar.argument_value reading.argument_value of same_kind
  argument_value = stated (either (k.Quoted ∷ []) (seen _ quoted) (seen _ number) refl) _ refl

  argument_name : Ruled S H reading.argument_name grammar.argument_name grammar.argument_name (rule names [])
  unfolding grammar.argument_name reading.argument_name of same_kind
  argument_name = stated (seen _ (name then word k.Arrow)) _ refl

  pub argument : Ruled S H reading.argument grammar.argument grammar.argument (rule reading.argument_words [])
  unfolding grammar.argument reading.argument of same_kind
  argument = stated (seen _ (maybe names argument_name refl then argument_value)) _ refl

  function_name : Ruled S H (descent.named (k.Call ∷ [])) grammar.function_name grammar.function_name (one_shape (k.Call ∷ []))
  unfolding grammar.function_name descent.named
  function_name = seen name_of (token k.Call [])

  call : Ruled S H reading.call grammar.call grammar.call (rule (k.Select ∷ []) [])
  unfolding grammar.call reading.call reading.arguments of same_kind
  call = stated (seen _ (word k.Select then function_name then word k.Open then maybe reading.argument_words (commas (λ _. argument)) refl then word k.Close)) _ refl

-- ---- SELECT, the name of a function and `(`

abbrev call_test : Test
call_test = sees_three (k.Select ∷ []) (k.Call ∷ []) (k.Open ∷ [])

call_opens : OpensBy call_test grammar.call
unfolding grammar.call grammar.function_name
call_opens v y w =
    let p = w.phrase in
    let q = p.right in
    let r = q.right in
    ap call_test (p.whole ∙ ap₂ (λ i j. i ++ j) p.left.phrase.alone (q.whole ∙ ap₂ (λ i j. i ++ j) q.left.phrase.alone (r.whole ∙ ap (λ i. i ++ r.back) r.left.phrase.alone)))
    ∙ both_true (of (k.Select ∷ []) (kind p.left.from)) _ p.left.phrase.kind
    (both_true (of (k.Call ∷ []) (kind q.left.from)) (of (k.Open ∷ []) (kind r.left.from)) q.left.phrase.kind r.left.phrase.kind)

call_begins : (t u : Token) → of (k.Select ∷ []) (kind t) ≡ true → of (k.Call ∷ []) (kind u) ≡ true → Begins grammar.call (t ∷ u ∷ [])
unfolding grammar.call grammar.function_name
call_begins t u is_select is_call = sees_so _ (behind_so place_of (k.Select ∷ []) t is_select (behind_so name_of (k.Call ∷ []) u is_call (first_so (the_so k.Open) (second_so None none_so (the_so k.Close)))))

-- ---- statements with expressions

abbrev pub statement_goes : List Kind
statement_goes = k.With ∷ select_goes

module _ (S : Type 0) (H : Mode) (r : ℕ → (d : Deeper) → Reader (Tree d)) (P W : ℕ → (d : Deeper) → Lang (Tree d)) (lower : (n : ℕ) (d : Deeper) → Ruled S H (r n d) (P n d) (W n d) (deeper d)) where
  pub row_values : Ruled S H (reading.row_values r) (grammar.row_values P) (grammar.row_values W) (rule (k.Open ∷ []) [])
  unfolding grammar.row_values reading.row_values of same_kind
  row_values = stated (seen _ (word k.Open then commas (λ _. lower 1 (expr or_)) then word k.Close)) _ refl

  insert : Ruled S H (reading.insert r) (grammar.insert P) (grammar.insert W) (rule (k.Insert ∷ []) (k.Comma ∷ []))
  unfolding grammar.insert reading.insert of same_kind
  insert = stated (seen _ (word k.Insert then second (word k.Into) name then optional_names then second (word k.Values) (commas (λ _. row_values)))) _ refl

  pub set_clause : Ruled S H (reading.set_clause r) (grammar.set_clause P) (grammar.set_clause W) (rule names or_goes)
  unfolding grammar.set_clause reading.set_clause of same_kind
  set_clause = stated (seen _ (name then second (word k.Equal) (condition S H r P W lower))) _ refl

  update : Ruled S H (reading.update r) (grammar.update P) (grammar.update W) (rule (k.Update ∷ []) (k.Where ∷ k.Comma ∷ or_goes))
  unfolding grammar.update reading.update of same_kind
  update = stated (seen _ (word k.Update then name then second (word k.Set) (commas (λ _. set_clause)) then filter S H r P W lower)) _ refl

  delete : Ruled S H (reading.delete r) (grammar.delete P) (grammar.delete W) (rule (k.Delete ∷ []) (k.Where ∷ or_goes))
  unfolding grammar.delete reading.delete of same_kind
  delete = stated (seen _ (word k.Delete then second (word k.From) name then filter S H r P W lower)) _ refl

  pub common_table : Ruled S H (reading.common_table r) (grammar.common_table P) (grammar.common_table W) (rule names [])
  unfolding grammar.common_table reading.common_table of same_kind
  common_table = stated (seen _ (name then second (word k.As) (word k.Open) then lower 1 select then word k.Close)) _ refl

  common_tables : Ruled S H (reading.common_tables r) (grammar.common_tables P) (grammar.common_tables W) (option (k.With ∷ []) (k.With ∷ k.Comma ∷ []))
  unfolding grammar.common_tables reading.common_tables of same_kind
  common_tables = stated (seen _ (maybe (k.With ∷ []) (second (word k.With) (commas (λ _. common_table))) refl)) _ refl

  query : Ruled S H (reading.query r) (grammar.query P) (grammar.query W) (rule (k.With ∷ k.Select ∷ []) select_goes)
  unfolding grammar.query reading.query of same_kind
  query = stated (seen _ (common_tables then selected S H r P W lower)) _ refl

  explain : Ruled S H (reading.explain r) (grammar.explain P) (grammar.explain W) (rule (k.Explain ∷ []) select_goes)
  unfolding grammar.explain reading.explain of same_kind
  explain = stated (seen _ (word k.Explain then query)) _ refl

  -- a query doesn't begin as a call
  query_clear : ClearBy call_test (Made ast.Query (grammar.query W)) (of select_goes)
  unfolding grammar.query of same_kind
  query_clear v y m w sm =
      let tables = w.phrase.from.0 in
      let q = w.phrase.phrase in
      ap call_test (ap (λ i. i ++ m) q.whole ∙ regroup q.front q.back m) ∙ elim (common_tables.opens tables q.front q.left) [
        | inl u ↦ ap (λ i. i && (starts (of (k.Call ∷ [])) (tail (q.front ++ (q.back ++ m))) && starts (of (k.Open ∷ [])) (tail (tail (q.front ++ (q.back ++ m))))))
            (apart_starts (of (k.With ∷ [])) (of (k.Select ∷ [])) (of_apart (k.With ∷ []) (k.Select ∷ []) refl) (q.front ++ (q.back ++ m)) (starts_front (of (k.With ∷ [])) q.front (q.back ++ m) u))
        | inr u ↦ ap (λ i. call_test (i ++ (q.back ++ m))) u.1
            ∙ selected_no_call S H r P W lower w.phrase.from.1 q.back m q.right (among_starts (of after) (of select_goes) (of_among after select_goes refl) m sm)
      ]

  query_begins : (t u : Token) → of (k.Select ∷ []) (kind t) ≡ true → of (k.Call ∷ []) (kind u) ≡ true → Begins (Made ast.Query (grammar.query P)) (t ∷ u ∷ [])
  unfolding grammar.query grammar.common_tables of same_kind
  query_begins t u is_select is_call =
      sees_so _ (sees_so _ (second_so [] (record { from = None; is = refl; phrase = none_so }) (selected_so P t is_select (name_item P u (of_in (k.Call ∷ []) names refl (kind u) is_call)))))

  pub statement : Ruled S H (reading.statement r) (grammar.statement P) (grammar.statement W)
      (rule (k.Create ∷ k.Insert ∷ k.Update ∷ k.Delete ∷ k.Copy ∷ k.Set ∷ k.Explain ∷ k.With ∷ k.Select ∷ []) statement_goes)
  unfolding grammar.statement reading.statement of same_kind
  statement = stated (either (k.Create ∷ []) create
      (either (k.Insert ∷ []) insert
      (either (k.Update ∷ []) update
      (either (k.Delete ∷ []) delete
      (either (k.Copy ∷ []) copy
      (either (k.Set ∷ []) set
      (either (k.Explain ∷ []) explain
      (by_sight call (seen ast.Query query) refl refl _ (three_grows (k.Select ∷ []) (k.Call ∷ []) (k.Open ∷ [])) call_opens query_clear
      (three_settles (k.Select ∷ []) (k.Call ∷ []) (k.Open ∷ []) _ (token_of k.Call) (first_of_kinds k.Call []) call_begins)
      (three_settles (k.Select ∷ []) (k.Call ∷ []) (k.Open ∷ []) _ (token_of k.Call) (first_of_kinds k.Call []) query_begins)) refl) refl) refl) refl) refl) refl) refl) _ refl

-- ---- which statements begin with CREATE and COPY, and which are calls

-- a phrase that begins otherwise
other : {A : Type 0} {p : Reader A} {P V : Lang A} {fs gs : List Kind} (j : Kind) → Ruled ⊥ unseen p P V (rule fs gs) → outside (j ∷ []) fs ≡ true
    → (a : A) (t : Token) (x : List Token) → V a (t ∷ x) → of (j ∷ []) (kind t) ≡ true → ⊥
other {fs = fs} j r out a t x w is = elim (r.opens a (t ∷ x) w) [
  | inl u ↦ true_false is (of_apart fs (j ∷ []) out (kind t) u)
  | inr u ↦ true_false u.0 refl
]

module _ (r : ℕ → (d : Deeper) → Reader (Tree d)) (P W : ℕ → (d : Deeper) → Lang (Tree d)) (lower : (n : ℕ) (d : Deeper) → Ruled ⊥ unseen (r n d) (P n d) (W n d) (deeper d)) where
  pub created : (a : Ast) (t : Token) (x : List Token) → grammar.statement W a (t ∷ x) → of (k.Create ∷ []) (kind t) ≡ true → grammar.create a (t ∷ x)
  unfolding grammar.statement of same_kind
  created a t x (inl w) is = w
  created a t x (inr (inl w)) is = absurd (other k.Create (insert ⊥ unseen r P W lower) refl a t x w is)
  created a t x (inr (inr (inl w))) is = absurd (other k.Create (update ⊥ unseen r P W lower) refl a t x w is)
  created a t x (inr (inr (inr (inl w)))) is = absurd (other k.Create (delete ⊥ unseen r P W lower) refl a t x w is)
  created a t x (inr (inr (inr (inr (inl w))))) is = absurd (other k.Create copy refl a t x w is)
  created a t x (inr (inr (inr (inr (inr (inl w)))))) is = absurd (other k.Create set refl a t x w is)
  created a t x (inr (inr (inr (inr (inr (inr (inl w))))))) is = absurd (other k.Create (explain ⊥ unseen r P W lower) refl a t x w is)
  created a t x (inr (inr (inr (inr (inr (inr (inr (inl w)))))))) is = absurd (other k.Create call refl a t x w is)
  created a t x (inr (inr (inr (inr (inr (inr (inr (inr w)))))))) is = absurd (other k.Create (seen ast.Query (query ⊥ unseen r P W lower)) refl a t x w is)

  pub copied : (a : Ast) (t : Token) (x : List Token) → grammar.statement W a (t ∷ x) → of (k.Copy ∷ []) (kind t) ≡ true → grammar.copy a (t ∷ x)
  unfolding grammar.statement of same_kind
  copied a t x (inl w) is = absurd (other k.Copy create refl a t x w is)
  copied a t x (inr (inl w)) is = absurd (other k.Copy (insert ⊥ unseen r P W lower) refl a t x w is)
  copied a t x (inr (inr (inl w))) is = absurd (other k.Copy (update ⊥ unseen r P W lower) refl a t x w is)
  copied a t x (inr (inr (inr (inl w)))) is = absurd (other k.Copy (delete ⊥ unseen r P W lower) refl a t x w is)
  copied a t x (inr (inr (inr (inr (inl w))))) is = w
  copied a t x (inr (inr (inr (inr (inr (inl w)))))) is = absurd (other k.Copy set refl a t x w is)
  copied a t x (inr (inr (inr (inr (inr (inr (inl w))))))) is = absurd (other k.Copy (explain ⊥ unseen r P W lower) refl a t x w is)
  copied a t x (inr (inr (inr (inr (inr (inr (inr (inl w)))))))) is = absurd (other k.Copy call refl a t x w is)
  copied a t x (inr (inr (inr (inr (inr (inr (inr (inr w)))))))) is = absurd (other k.Copy (seen ast.Query (query ⊥ unseen r P W lower)) refl a t x w is)

abbrev tree : Ast → Ast
tree a = a

pub called : (W : ℕ → (d : Deeper) → Lang (Tree d)) (function : Name) (arguments : List Argument) (at : ℕ) (x : List Token) → grammar.statement W (ast.Call function arguments at) x → grammar.call (ast.Call function arguments at) x
unfolding grammar.statement grammar.create grammar.insert grammar.update grammar.delete grammar.copy grammar.set grammar.explain
called W f args at x (inl w) = absurd (let h : tree (ast.Call f args at) ≡ ast.Create _ _ _ _ = w.is in cc)
called W f args at x (inr (inl w)) = absurd (let h : tree (ast.Call f args at) ≡ ast.Insert _ _ _ _ = w.is in cc)
called W f args at x (inr (inr (inl w))) = absurd (let h : tree (ast.Call f args at) ≡ ast.Update _ _ _ _ = w.is in cc)
called W f args at x (inr (inr (inr (inl w)))) = absurd (let h : tree (ast.Call f args at) ≡ ast.Delete _ _ _ = w.is in cc)
called W f args at x (inr (inr (inr (inr (inl w))))) = absurd (let h : tree (ast.Call f args at) ≡ ast.Copy _ _ _ _ _ = w.is in cc)
called W f args at x (inr (inr (inr (inr (inr (inl w)))))) = absurd (let h : tree (ast.Call f args at) ≡ ast.Set _ _ _ _ _ = w.is in cc)
called W f args at x (inr (inr (inr (inr (inr (inr (inl w))))))) = absurd (let h : tree (ast.Call f args at) ≡ ast.Explain _ _ = w.is in cc)
called W f args at x (inr (inr (inr (inr (inr (inr (inr (inl w)))))))) = w
called W f args at x (inr (inr (inr (inr (inr (inr (inr (inr w)))))))) = absurd (let h : tree (ast.Call f args at) ≡ ast.Query _ = w.is in cc)
