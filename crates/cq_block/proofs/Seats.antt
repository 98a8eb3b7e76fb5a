-- Sessions as they get their passes, one after the other.
use Rattle.std.proofs.Common.{◌≡◌, suc, List, [], ◌∷◌, ◌++◌, length, refl, ap}
use Rattle.cq_shared.specs.Errands.{WorkerPass}
use Rattle.cq_shared.specs.Seen.{Pass}
use Rattle.cq_block.specs.declared.legality.Ground.{Ground}
use Rattle.cq_block.specs.declared.session.Session.{Session}
use Rattle.cq_block.specs.Seating.{AreSeated, TakesSeat}

pub seated_more : {X : Type 0} (ss : List (Session X)) (rows : List (List (Pass X (Ground X)))) (benches : List (List (WorkerPass X (Ground X)))) (ts : List (Session X)) (s : Session X) (row : List (Pass X (Ground X))) (bench : List (WorkerPass X (Ground X))) (t : Session X) →
    AreSeated ss rows benches ts → TakesSeat s row bench t → AreSeated (ss ++ s ∷ []) (rows ++ row ∷ []) (benches ++ bench ∷ []) (ts ++ t ∷ [])
seated_more [] [] [] [] s row bench t h k = (k, tt)
seated_more [] [] [] (u ∷ ts) s row bench t h k = absurd h
seated_more [] [] (b ∷ bs) ts s row bench t h k = absurd h
seated_more [] (r ∷ rs) bs ts s row bench t h k = absurd h
seated_more (v ∷ ss) [] bs ts s row bench t h k = absurd h
seated_more (v ∷ ss) (r ∷ rs) [] ts s row bench t h k = absurd h
seated_more (v ∷ ss) (r ∷ rs) (b ∷ bs) [] s row bench t h k = absurd h
seated_more (v ∷ ss) (r ∷ rs) (b ∷ bs) (u ∷ ts) s row bench t h k = (h.0, seated_more ss rs bs ts s row bench t h.1 k)

-- as many have a seat
pub seated_long : {X : Type 0} (ss : List (Session X)) (rows : List (List (Pass X (Ground X)))) (benches : List (List (WorkerPass X (Ground X)))) (ts : List (Session X)) → AreSeated ss rows benches ts → length ts ≡ length ss
seated_long [] [] [] [] h = refl
seated_long [] [] [] (u ∷ ts) h = absurd h
seated_long [] [] (b ∷ bs) ts h = absurd h
seated_long [] (r ∷ rs) bs ts h = absurd h
seated_long (v ∷ ss) [] bs ts h = absurd h
seated_long (v ∷ ss) (r ∷ rs) [] ts h = absurd h
seated_long (v ∷ ss) (r ∷ rs) (b ∷ bs) [] h = absurd h
seated_long (v ∷ ss) (r ∷ rs) (b ∷ bs) (u ∷ ts) h = ap suc (seated_long ss rs bs ts h.1)
