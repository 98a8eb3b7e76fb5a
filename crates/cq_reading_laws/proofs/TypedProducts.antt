-- A FROM with its joins, and the product of all of them.
use Rattle.std.proofs.Common.{◌≡◌, ℕ, List, [], ◌∷◌, ◌++◌, length, refl, sym, Result, Ok, Err}
use Rattle.std.specs.List.{AllByRecursion}
use Rattle.cq_tree.specs.declared.expression.Cond.{Cond}
use Rattle.cq_tree.specs.declared.query.FromTree.{FromTree, Cross}
use Rattle.cq_reading.specs.declared.bound.Found.{Found}
use Rattle.cq_reading.specs.declared.bound.Relations.{Relations}
use Rattle.cq_reading.specs.declared.error.BindError.{BindError}
use Rattle.cq_reading.specs.Steps.{Reading, give, follow, ◌then◌, through}
use Rattle.cq_reading.specs.Widths.{ValueType}
use Rattle.cq_reading.specs.Scopes.{World}
use Rattle.cq_reading.specs.Parts.{Part, RelationPart, JoinPart, FromPart}
use Rattle.cq_reading.specs.Relations as r
use Rattle.cq_reading_laws.specs.Typing.{IsTypedCondition}
use Rattle.cq_reading_laws.specs.TypedQueries.{Types, from_types, results_in_from, IsTypedFrom}
use Rattle.cq_reading_laws.specs.Reach.{WorldTyped}
use Rattle.cq_reading_laws.proofs.TypedParts.{PartTyped}
use Rattle.cq_reading_laws.proofs.TypedFrom.{Clean, Joined, JoinedIf, sources_length}
use Rattle.cq_reading_laws.proofs.TypedJoins.{RelationTyped, JoinTyped, FromTyped, both_joined, joined_on_typed}
use Rattle.cq_reading_laws.proofs.TypedTrees.{types_cross, results_cross, typed_cross}

-- the relation behind those before it, and then the two of them
then_joined : (cs : Types) (n : ℕ) (ahead : List ValueType) (a : Relations) (start f : Found) (o : Result (Relations × Found) BindError) (next : Relations → Reading Relations) → JoinedIf cs n (ahead ++ from_types cs a.tree) f o
    → ((b : Relations) (g : Found) → Joined cs n (ahead ++ from_types cs a.tree) f b g → JoinedIf cs n ahead start (next b g)) → JoinedIf cs n ahead start (follow o next)
then_joined cs n ahead a start f (Ok p) next h k = k p.0 p.1 h
then_joined cs n ahead a start f (Err e) next h k = tt

-- a join with ON
pub on_join : (make : FromTree → FromTree → Cond → FromTree) (relation : RelationPart) (on : Part)
    → ((cs : Types) (a b : FromTree) (c : Cond) → from_types cs (make a b c) ≡ from_types cs a ++ from_types cs b)
    → ((cs : Types) (a b : FromTree) (c : Cond) → results_in_from cs (make a b c) ≡ results_in_from cs a ++ results_in_from cs b)
    → ((cs : Types) (ahead : List ValueType) (a b : FromTree) (c : Cond) → IsTypedFrom cs ahead a → IsTypedFrom cs (ahead ++ from_types cs a) b → IsTypedCondition (ahead ++ (from_types cs a ++ from_types cs b)) cs.results c
    → IsTypedFrom cs ahead (make a b c))
    → RelationTyped relation → PartTyped on → JoinTyped (λ w names first a. relation w (names ++ a.names) then r.joined_on w first make on a)
on_join make relation on types results typed h p cs w fit names first ahead same a start f k =
    then_joined cs (length w.commons) ahead a start f (relation w (names ++ a.names) f) (r.joined_on w first make on a) (h cs w fit (names ++ a.names) (ahead ++ from_types cs a.tree) f k.clean) (λ b g l.
    joined_on_typed cs w fit first ahead same a b start f g k l make on (λ ds. types ds a.tree b.tree) (λ ds. results ds a.tree b.tree) (typed cs ahead a.tree b.tree) p)

crossed : (cs : Types) (n : ℕ) (ahead : List ValueType) (a b : Relations) (start f g : Found) → Joined cs n ahead start a f → Joined cs n (ahead ++ from_types cs a.tree) f b g → Joined cs n ahead start (r.both Cross a b) g
crossed cs n ahead a b start f g k l =
    both_joined cs n ahead Cross a b start f g g k l l.clean refl (λ ds. types_cross ds a.tree b.tree) (λ ds. results_cross ds a.tree b.tree) (λ left right. typed_cross cs ahead a.tree b.tree left right)

pub cross_join : (relation : RelationPart) → RelationTyped relation → JoinTyped (λ w names first a. relation w (names ++ a.names) then (λ b. give (r.both Cross a b)))
cross_join relation h cs w fit names first ahead same a start f k =
    then_joined cs (length w.commons) ahead a start f (relation w (names ++ a.names) f) (λ b. give (r.both Cross a b)) (h cs w fit (names ++ a.names) (ahead ++ from_types cs a.tree) f k.clean)
    (λ b g l. crossed cs (length w.commons) ahead a b start f g k l)

joins_typed : (cs : Types) (w : World) (fit : WorldTyped cs w) (names : List (List ℕ)) (first : ℕ) (ahead : List ValueType) (same : length ahead ≡ first) (start : Found) (js : List JoinPart)
    → AllByRecursion JoinTyped js → (a : Relations) (f : Found) → Joined cs (length w.commons) ahead start a f → JoinedIf cs (length w.commons) ahead start (through (r.with_join w names first) js a f)
joins_typed cs w fit names first ahead same start [] h a f k = k
joins_typed cs w fit names first ahead same start (j ∷ more) h a f k = after (j w names first a f) (h.0 cs w fit names first ahead same a start f k)
    (λ b g l. joins_typed cs w fit names first ahead same start more h.1 b g l)
  where
    after : (o : Result (Relations × Found) BindError) → JoinedIf cs (length w.commons) ahead start o →
        ((b : Relations) (g : Found) → Joined cs (length w.commons) ahead start b g → JoinedIf cs (length w.commons) ahead start (through (r.with_join w names first) more b g))
        → JoinedIf cs (length w.commons) ahead start (follow o (through (r.with_join w names first) more))
    after (Ok p) l go = go p.0 p.1 l
    after (Err e) l go = tt

pub from_typed : (relation : RelationPart) (js : List JoinPart) → RelationTyped relation → AllByRecursion JoinTyped js → FromTyped (λ w names first. relation w names then through (r.with_join w names first) js)
from_typed relation js h k cs w fit names first ahead same found clean = after (relation w names found) (h cs w fit names ahead found clean)
  where
    after : (o : Result (Relations × Found) BindError) → JoinedIf cs (length w.commons) ahead found o → JoinedIf cs (length w.commons) ahead found (follow o (through (r.with_join w names first) js))
    after (Ok p) l = joins_typed cs w fit names first ahead same found js k p.0 p.1 l
    after (Err e) l = tt

-- ---- products

products_typed : (cs : Types) (w : World) (fit : WorldTyped cs w) (start : Found) (fs : List FromPart) → AllByRecursion FromTyped fs → (a : Relations) (f : Found) → Joined cs (length w.commons) [] start a f → JoinedIf cs
    (length w.commons) [] start
    (through (r.with_product w) fs a f)
products_typed cs w fit start [] h a f k = k
products_typed cs w fit start (p ∷ more) h a f k = after (r.with_product w a p f) one (λ b g l. products_typed cs w fit start more h.1 b g l)
  where
    one : JoinedIf cs (length w.commons) [] start (r.with_product w a p f)
    one =
        then_joined cs (length w.commons) [] a start f (p w a.names (length a.columns) f) (λ b. give (r.both Cross a b))
        (h.0 cs w fit a.names (length a.columns) (from_types cs a.tree) (sym (sources_length (from_types cs a.tree) a.columns k.columns)) f k.clean) (λ b g l.
        crossed cs (length w.commons) [] a b start f g k l)

    after : (o : Result (Relations × Found) BindError) → JoinedIf cs (length w.commons) [] start o →
        ((b : Relations) (g : Found) → Joined cs (length w.commons) [] start b g → JoinedIf cs (length w.commons) [] start (through (r.with_product w) more b g)) → JoinedIf cs (length w.commons) [] start
        (follow o (through (r.with_product w) more))
    after (Ok q) l go = go q.0 q.1 l
    after (Err e) l go = tt

-- a FROM of some relation
pub some_from_typed : (cs : Types) (w : World) (fit : WorldTyped cs w) (found : Found) → Clean found → (p : FromPart) (more : List FromPart) → FromTyped p → AllByRecursion FromTyped more → JoinedIf cs (length w.commons) [] found
    (r.from_of w (p ∷ more) found)
some_from_typed cs w fit found clean p more h k = after (p w [] 0 found) (h cs w fit [] 0 [] refl found clean)
  where
    after : (o : Result (Relations × Found) BindError) → JoinedIf cs (length w.commons) [] found o → JoinedIf cs (length w.commons) [] found (follow o (through (r.with_product w) more))
    after (Ok q) l = products_typed cs w fit found more k q.0 q.1 l
    after (Err e) l = tt
