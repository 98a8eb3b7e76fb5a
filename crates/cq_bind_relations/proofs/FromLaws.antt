-- The parts of a FROM, by what they are.
use Rattle.std.proofs.Common.{◌≡◌, ℕ, Bool, List, Result, Ok, Err, IsErrAnd, sym, subst}
use Rattle.cq_grammar.specs.declared.name.Name.{Name}
use Rattle.cq_grammar.specs.declared.query.Select.{Select}
use Rattle.cq_grammar.specs.declared.query.Relation.{Relation}
use Rattle.cq_grammar.specs.declared.query.Relation.TheVariants as relation
use Rattle.cq_grammar.specs.declared.query.From.{From, out-From}
use Rattle.cq_reading.specs.declared.bound.Found.{Found}
use Rattle.cq_reading.specs.declared.bound.Relations.{Relations}
use Rattle.cq_reading.specs.declared.error.BindError.{BindError}
use Rattle.cq_reading.specs.Steps.{through}
use Rattle.cq_reading.specs.Outcomes.{Binds}
use Rattle.cq_reading.specs.Scopes.{World}
use Rattle.cq_reading.specs.Relations.{table_relation, with_join}
use Rattle.cq_reading.specs.Walk.{select_of, relation_part, join_part, from_part}
use Rattle.cq_bind_looks.proofs.Looks.{relation_Table, relation_TableAs, relation_Subquery, from_part_is}
use Rattle.cq_bind_relations.specs.Joins.{subquery_reading}
use Rattle.cq_bind_calls.proofs.Loops.{first_and_parts, refused_then}

module _ (x : Relation) (w : World) (names : List (List ℕ)) (f : Found) (res : Result Relations BindError) (new : Found) where
  pub by_table : (name : Name) → x ≡ relation.Table name → Binds (table_relation w name name names f) res new → Binds (relation_part x w names f) res new
  by_table name e h = subst (λ y. Binds (relation_part y w names f) res new) (sym e) (subst (λ p. Binds (p w names f) res new) (sym (relation_Table name)) h)

  pub by_alias : (name : Name) (spelled : Bool) (alias : Name) → x ≡ relation.TableAs name spelled alias → Binds (table_relation w name alias names f) res new → Binds (relation_part x w names f) res new
  by_alias name spelled alias e h = subst (λ y. Binds (relation_part y w names f) res new) (sym e) (subst (λ p. Binds (p w names f) res new) (sym (relation_TableAs name spelled alias)) h)

  pub by_subquery : (select other : Select) (spelled : Bool) (alias : Name) (at : ℕ) → x ≡ relation.Subquery select spelled alias at → other ≡ select → Binds (subquery_reading (select_of other) alias w names f) res new → Binds (relation_part x w names f) res new
  by_subquery select other spelled alias at e k g =
      let h : Binds (subquery_reading (select_of select) alias w names f) res new = subst (λ q. Binds (subquery_reading (select_of q) alias w names f) res new) k g in
      subst (λ y. Binds (relation_part y w names f) res new) (sym e) (subst (λ p. Binds (p w names f) res new) (sym (relation_Subquery select spelled alias at)) h)

module _ (x : From) (w : World) (names : List (List ℕ)) (first : ℕ) (f g : Found) (res : Result Relations BindError) (new : Found) where
  pub with_joins : (s : Relations) → relation_part (out-From x).first w names f ≡ Ok (s, g)
      → Binds (through (λ a j. with_join w names first a (join_part j)) (out-From x).joins s g) res new
      → Binds (from_part x w names first f) res new
  with_joins s e h = subst (λ p. Binds (p w names first f) res new) (sym (from_part_is x)) (first_and_parts (with_join w names first) join_part (out-From x).joins _ s g res new e h)

  pub without_joins : (e : BindError) → Binds (relation_part (out-From x).first w names f) (Err e) g → IsErrAnd res (λ y. y ≡ e) → Binds (from_part x w names first f) res new
  without_joins e h k = subst (λ p. Binds (p w names first f) res new) (sym (from_part_is x)) (refused_then (relation_part (out-From x).first w names f) _ e g res new h k)
