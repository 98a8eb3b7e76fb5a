-- A column that `*` stands for, in a query that groups.
use Rattle.std.proofs.Common.{◌≡◌, ℕ, true, false, not, Result, Ok, Err, IsErrAnd, sym, subst, ap, refl}
use Rattle.cq_reading.specs.declared.bound.Found.{Found}
use Rattle.cq_reading.specs.declared.bound.Bound.{Bound}
use Rattle.cq_reading.specs.declared.error.BindError.{BindError}
use Rattle.cq_reading.specs.declared.error.BindError.TheVariants as error
use Rattle.cq_reading.specs.Rules.{nothing}
use Rattle.cq_reading.specs.Steps.{give, provided}
use Rattle.cq_reading.specs.Outcomes.{Binds, Judges}
use Rattle.cq_reading.specs.Scopes.{Context, plain, column_at}
use Rattle.cq_reading.specs.Expressions.{named_in_group}
use Rattle.cq_bind_calls.proofs.Loops.{err_is}
use Rattle.cq_bind_lists.specs.Stars.{star_reading, star_by, key_or_refused}

abbrev bound_in : Bound → Result (Bound × Found) BindError → Bound
bound_in d (Ok p) = p.0
bound_in d (Err e) = d

the_bound : (b c : Bound) (f g : Found) → Binds (Ok (b, f)) (Ok c) g → b ≡ c
the_bound b c f g e = ap (bound_in b) e

no_error : (o : Result (Bound × Found) BindError) (p : Bound × Found) (e : BindError) → o ≡ Ok p → o ≡ Err e → ⊥
no_error o p e h k = cc

-- the key that a column is, read before any grouping
pub key_read : (at i : ℕ) (cx px : Context) (b : Bound) (res : Result Bound BindError) → px ≡ plain cx → Judges (named_in_group px (give (column_at px i)) at) (Ok b) → Judges (key_or_refused cx.keys b at) res → Judges (key_or_refused cx.keys (column_at cx i) at) res
key_read at i cx px b res p h k =
    let e : column_at cx i ≡ b = the_bound (column_at cx i) b nothing nothing (subst (λ c. Binds (named_in_group c (give (column_at c i)) at nothing) (Ok b) nothing) p (h nothing)) in
    subst (λ d. Judges (key_or_refused cx.keys d at) res) (sym e) k

-- it isn't refused there
pub key_unread : (at i : ℕ) (cx px : Context) (e : BindError) (res : Result Bound BindError) → px ≡ plain cx → Judges (named_in_group px (give (column_at px i)) at) (Err e) → IsErrAnd res (λ y. y ≡ e) → Judges (key_or_refused cx.keys (column_at cx i) at) res
key_unread at i cx px e res p h k =
    let g : Judges (named_in_group (plain cx) (give (column_at (plain cx) i)) at) (Err e) = subst (λ c. Judges (named_in_group c (give (column_at c i)) at) (Err e)) p h in
    λ f. subst (λ z. Binds (key_or_refused cx.keys (column_at cx i) at f) z f) (sym (err_is res e k)) (λ n. absurd (no_error (named_in_group (plain cx) (give (column_at (plain cx) i)) at f) (column_at cx i, f) e refl (g f n)))

-- in a query that groups, and in another
pub star_grouped : (at i : ℕ) (cx : Context) (res : Result Bound BindError) → cx.grouped ≡ true → Judges (key_or_refused cx.keys (column_at cx i) at) res → Judges (star_reading at i cx) res
star_grouped at i cx res e k = λ f. subst (λ t. Binds (star_by t cx.keys (column_at cx i) at f) res f) (sym e) (k f)

pub star_free : (at i : ℕ) (cx : Context) (res : Result Bound BindError) → cx.grouped ≡ false → Judges (named_in_group cx (give (column_at cx i)) at) res → Judges (star_reading at i cx) res
star_free at i cx res e h = λ f.
    subst (λ t. Binds (star_by t cx.keys (column_at cx i) at f) res f) (sym e) (subst (λ t. Binds (provided (not t) (error.NotGrouped at) (give (column_at cx i)) f) res f) e (h f))
