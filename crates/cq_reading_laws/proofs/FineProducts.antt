-- A FROM with its joins, and the product of all of them.
use Rattle.std.proofs.Common.{◌≡◌, ℕ, List, [], ◌∷◌, ◌++◌, length, refl, sym, arith, Result, Ok, Err}
use Rattle.std.specs.List.{AllByRecursion}
use Rattle.cq_tree.specs.declared.expression.Cond.{Cond}
use Rattle.cq_tree.specs.declared.query.FromTree.{FromTree, Cross}
use Rattle.cq_meaning.specs.declared.Columns.{Columns}
use Rattle.cq_meaning.specs.Widths.{from_bits, IsBoundCondition, IsBoundFrom}
use Rattle.cq_reading.specs.declared.bound.Found.{Found}
use Rattle.cq_reading.specs.declared.bound.Relations.{Relations}
use Rattle.cq_reading.specs.declared.error.BindError.{BindError}
use Rattle.cq_reading.specs.Steps.{Reading, give, follow, ◌then◌, through}
use Rattle.cq_reading.specs.Scopes.{World}
use Rattle.cq_reading.specs.Parts.{Part, RelationPart, JoinPart, FromPart}
use Rattle.cq_reading.specs.Relations as r
use Rattle.cq_reading_laws.specs.Worlds.{WorldFits}
use Rattle.cq_reading_laws.proofs.FineParts.{PartStands}
use Rattle.cq_reading_laws.proofs.FineFrom.{Joined, JoinedIf, sources_length}
use Rattle.cq_reading_laws.proofs.FineJoins.{RelationStands, JoinStands, FromStands, both_joined, joined_on_stands}
use Rattle.cq_reading_laws.proofs.Trees.{bits_cross, bound_cross}

-- the relation behind those before it, and then the two of them
then_joined : (cs : Columns) (ahead : List ℕ) (a : Relations) (start f : Found) (o : Result (Relations × Found) BindError) (next : Relations → Reading Relations) → JoinedIf cs (ahead ++ from_bits cs a.tree) f o
    → ((b : Relations) (g : Found) → Joined cs (ahead ++ from_bits cs a.tree) f b g → JoinedIf cs ahead start (next b g)) → JoinedIf cs ahead start (follow o next)
then_joined cs ahead a start f (Ok p) next h k = k p.0 p.1 h
then_joined cs ahead a start f (Err e) next h k = tt

-- a join with ON
pub on_join : (make : FromTree → FromTree → Cond → FromTree) (relation : RelationPart) (on : Part)
    → ((cs : Columns) (a b : FromTree) (c : Cond) → from_bits cs (make a b c) ≡ from_bits cs a ++ from_bits cs b)
    → ((cs : Columns) (ahead : List ℕ) (a b : FromTree) (c : Cond) → IsBoundFrom cs ahead a → IsBoundFrom cs (ahead ++ from_bits cs a) b → IsBoundCondition (ahead ++ (from_bits cs a ++ from_bits cs b)) (length cs.results) c → IsBoundFrom cs ahead (make a b c))
    → RelationStands relation → PartStands on → JoinStands (λ w names first a. relation w (names ++ a.names) then r.joined_on w first make on a)
on_join make relation on is bound h p cs w fit names first ahead same a start f k =
    then_joined cs ahead a start f (relation w (names ++ a.names) f) (r.joined_on w first make on a) (h cs w fit (names ++ a.names) (ahead ++ from_bits cs a.tree) f) (λ b g l.
    joined_on_stands cs w first ahead same a b start f g k l make on (is cs a.tree b.tree) (bound cs ahead a.tree b.tree) p)

pub cross_join : (relation : RelationPart) → RelationStands relation → JoinStands (λ w names first a. relation w (names ++ a.names) then (λ b. give (r.both Cross a b)))
cross_join relation h cs w fit names first ahead same a start f k =
    then_joined cs ahead a start f (relation w (names ++ a.names) f) (λ b. give (r.both Cross a b)) (h cs w fit (names ++ a.names) (ahead ++ from_bits cs a.tree) f) (λ b g l.
    both_joined cs ahead Cross a b start f g g k l (omega arith) (λ more s. s) (bits_cross cs a.tree b.tree) (λ m left right. bound_cross cs ahead a.tree b.tree left right))

joins_stand : (cs : Columns) (w : World) (fit : WorldFits cs w) (names : List (List ℕ)) (first : ℕ) (ahead : List ℕ) (same : length ahead ≡ first) (start : Found) (js : List JoinPart)
    → AllByRecursion JoinStands js → (a : Relations) (f : Found) → Joined cs ahead start a f → JoinedIf cs ahead start (through (r.with_join w names first) js a f)
joins_stand cs w fit names first ahead same start [] h a f k = k
joins_stand cs w fit names first ahead same start (j ∷ more) h a f k = after (j w names first a f) (h.0 cs w fit names first ahead same a start f k)
    (λ b g l. joins_stand cs w fit names first ahead same start more h.1 b g l)
  where
    after : (o : Result (Relations × Found) BindError) → JoinedIf cs ahead start o → ((b : Relations) (g : Found) → Joined cs ahead start b g → JoinedIf cs ahead start (through (r.with_join w names first) more b g)) → JoinedIf cs ahead start (follow o (through (r.with_join w names first) more))
    after (Ok p) l go = go p.0 p.1 l
    after (Err e) l go = tt

pub from_stands : (relation : RelationPart) (js : List JoinPart) → RelationStands relation → AllByRecursion JoinStands js → FromStands (λ w names first. relation w names then through (r.with_join w names first) js)
from_stands relation js h k cs w fit names first ahead same found = after (relation w names found) (h cs w fit names ahead found)
  where
    after : (o : Result (Relations × Found) BindError) → JoinedIf cs ahead found o → JoinedIf cs ahead found (follow o (through (r.with_join w names first) js))
    after (Ok p) l = joins_stand cs w fit names first ahead same found js k p.0 p.1 l
    after (Err e) l = tt

-- ---- products

products_stand : (cs : Columns) (w : World) (fit : WorldFits cs w) (start : Found) (fs : List FromPart) → AllByRecursion FromStands fs → (a : Relations) (f : Found) → Joined cs [] start a f → JoinedIf cs [] start (through (r.with_product w) fs a f)
products_stand cs w fit start [] h a f k = k
products_stand cs w fit start (p ∷ more) h a f k = after (r.with_product w a p f) one (λ b g l. products_stand cs w fit start more h.1 b g l)
  where
    one : JoinedIf cs [] start (r.with_product w a p f)
    one = then_joined cs [] a start f (p w a.names (length a.columns) f) (λ b. give (r.both Cross a b)) (h.0 cs w fit a.names (length a.columns) (from_bits cs a.tree) (sym (sources_length (from_bits cs a.tree) a.columns k.columns)) f) (λ b g l.
        both_joined cs [] Cross a b start f g g k l (omega arith) (λ more s. s) (bits_cross cs a.tree b.tree) (λ m left right. bound_cross cs [] a.tree b.tree left right))

    after : (o : Result (Relations × Found) BindError) → JoinedIf cs [] start o → ((b : Relations) (g : Found) → Joined cs [] start b g → JoinedIf cs [] start (through (r.with_product w) more b g)) → JoinedIf cs [] start (follow o (through (r.with_product w) more))
    after (Ok q) l go = go q.0 q.1 l
    after (Err e) l go = tt

-- a FROM of some relation
pub some_from_stands : (cs : Columns) (w : World) (fit : WorldFits cs w) (found : Found) (p : FromPart) (more : List FromPart) → FromStands p → AllByRecursion FromStands more → JoinedIf cs [] found (r.from_of w (p ∷ more) found)
some_from_stands cs w fit found p more h k = after (p w [] 0 found) (h cs w fit [] 0 [] refl found)
  where
    after : (o : Result (Relations × Found) BindError) → JoinedIf cs [] found o → JoinedIf cs [] found (follow o (through (r.with_product w) more))
    after (Ok q) l = products_stand cs w fit found more k q.0 q.1 l
    after (Err e) l = tt
