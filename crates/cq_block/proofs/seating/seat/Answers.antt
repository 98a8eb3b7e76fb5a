use Rattle.std.proofs.Common.{rules, ◌≡◌, ◌∙◌, ◌++◌, ◌∷◌, [], List, map, length, refl, sym, ap, subst, arith, append_assoc}
use Rattle.std.proofs.lemmas.List.{nil_from_length}
use Rattle.std.specs.Vec.Iter.{into_iter_items}
use Rattle.cq_cell.proofs.Zips.{rest_none, front_next, front_all}
use Rattle.cq_block.specs.Seating.{AreSeated}
use Rattle.cq_block.proofs.Seats.{seated_more}
use Rattle.cq_block.proofs.seating.seat.Goals as goal

pub loop-session-init : goal.loop-session-init
loop-session-init g c =
    let e = c.requires.room in
    let v : into_iter_items c.into_iter-session-iterator.result ≡ c.args.prepared.items = c.into_iter-session-iterator.ensures.into_iter_gives.0 in
    let long = ap (λ (xs : List _). length xs) v in
    let none = ap (λ (xs : List _). length xs) e.0 in
    let low = e.1 in
    let many = c.requires.groups in
    let as_many = c.requires.workers in
    let gs = ap (λ (xs : List _). length xs) c.into_iter-groups.ensures.rest in
    let ws = ap (λ (xs : List _). length xs) c.into_iter-workers.ensures.rest in record {
      left = search rules;
      groups = search rules;
      workers = search rules;
      many = omega (arith, long, many, gs);
      as_many = omega (arith, long, as_many, ws);
      seated = ([], refl, [], refl, [], refl, rw e.0 tt);
      room = omega (arith, long, none, low, c.args.room.ok.0, c.args.prepared.ok.0);
    }

pub unreachable-requires : goal.unreachable-requires
unreachable-requires g c =
    let inv = c.loop-session.invariant in
    let more = ap (λ (xs : List _). length xs) c.in-Some.ensures.steps.0 in
    let none = c.in_default.ensures.cases.0 in
    let held = inv.groups in
    let long = inv.many in
    omega (arith, more, none, held, long)

pub unreachable-requires-in_default-next : goal.unreachable-requires-in_default-next
unreachable-requires-in_default-next g c =
    let inv = c.loop-session.invariant in
    let more = ap (λ (xs : List _). length xs) c.in-Some.ensures.steps.0 in
    let none = c.in_default-next.ensures.cases.0 in
    let held = inv.workers in
    let long = inv.as_many in
    omega (arith, more, none, held, long)

pub loop-session-preserved : goal.loop-session-preserved
loop-session-preserved g c =
    let at = c.loop-session in
    let inv = at.invariant in
    let session = c.in-Some.session in
    let row = c.in-Some-next.passes in
    let bench = c.in-Some-next-2.benches in
    let later = into_iter_items c.next.new.self in
    let others = into_iter_items c.next-in-loop-session.new.self in
    let rest = into_iter_items c.next-in-loop-session-2.new.self in
    let vs : into_iter_items at.session-iterator ≡ session ∷ later = c.in-Some.ensures.steps.0 in
    let rs : into_iter_items at.groups ≡ row ∷ others = c.in-Some-next.ensures.items in
    let bs : into_iter_items at.workers ≡ bench ∷ rest = c.in-Some-next-2.ensures.items in
    let short = ap (λ (xs : List _). length xs) vs in
    let less = ap (λ (xs : List _). length xs) rs in
    let fewer = ap (λ (xs : List _). length xs) bs in
    let p = c.push_reserved.ensures in
    let s = inv.seated in record {
      left = let a = inv.left in let gone = c.in-Some.ensures.steps.1 in omega (arith, a, gone, short);
      groups = let a = inv.groups in let gone = c.in-Some-next.ensures.len in omega (arith, a, gone, less);
      workers = let a = inv.workers in let gone = c.in-Some-next-2.ensures.len in omega (arith, a, gone, fewer);
      many = let a = inv.many in omega (arith, a, short, less);
      as_many = let a = inv.as_many in omega (arith, a, short, fewer);
      seated = (
        s.0 ++ session ∷ [],
        s.1 ∙ (ap (λ v. s.0 ++ v) vs ∙ sym (append_assoc s.0 (session ∷ []) later)),
        s.2 ++ row.items ∷ [],
        front_next (λ r. r.items) _ s.2 (into_iter_items at.groups) others row s.3 rs,
        s.4 ++ bench.items ∷ [],
        front_next (λ r. r.items) _ s.4 (into_iter_items at.workers) rest bench s.5 bs,
        subst (λ v. AreSeated (s.0 ++ session ∷ []) (s.2 ++ row.items ∷ []) (s.4 ++ bench.items ∷ []) v) (sym p.items)
            (seated_more s.0 s.2 s.4 at.room.items session row.items bench.items _ s.6 (record { number = refl; drafts = refl; log = refl; passes = refl; benches = refl; retired = refl })),
      );
      room = let a = inv.room in let more = p.len in let wide = p.capacity in omega (arith, a, more, wide, short);
    }

pub returns : goal.returns
returns g c =
    let at = c.loop-session in
    let inv = at.invariant in
    let s = inv.seated in
    let none : into_iter_items at.session-iterator ≡ [] = nil_from_length _ (sym inv.left ∙ c.in-None.ensures.steps.0) in
    let short = ap (λ (xs : List _). length xs) none in
    let long = inv.many in
    let wide = inv.as_many in
    let no_rows : into_iter_items at.groups ≡ [] = nil_from_length _ (omega (arith, short, long)) in
    let no_benches : into_iter_items at.workers ≡ [] = nil_from_length _ (omega (arith, short, wide)) in
    let all = rest_none c.args.prepared.items s.0 (into_iter_items at.session-iterator) (sym c.into_iter-session-iterator.ensures.into_iter_gives.0 ∙ s.1) none in
    let rows = front_all (λ r. r.items) c.args.passes.groups.items _ (into_iter_items at.groups) s.2 c.into_iter-groups.ensures.rest s.3 no_rows in
    let benches = front_all (λ r. r.items) c.args.passes.workers.items _ (into_iter_items at.workers) s.4 c.into_iter-workers.ensures.rest s.5 no_benches in
    subst (λ v. AreSeated v (map (λ r. r.items) c.args.passes.groups.items) (map (λ r. r.items) c.args.passes.workers.items) at.room.items) (sym all)
    (subst (λ v. AreSeated s.0 v (map (λ r. r.items) c.args.passes.workers.items) at.room.items) rows (subst (λ v. AreSeated s.0 s.2 v at.room.items) benches s.6))
