use Rattle.std.proofs.Common.{rules, ◌≡◌, ◌∙◌, ◌∷◌, List, map, length, refl, ap, arith}
use Rattle.std.specs.List.{flat_map}
use Rattle.std.proofs.lemmas.List.{length-append}
use Rattle.std.specs.Vec.Iter.{into_iter_items}
use Rattle.cq_block.proofs.seating.unseat.Goals as goal

pub loop-session-init : goal.loop-session-init
loop-session-init g c =
    let e = c.requires.groups in
    let f = c.requires.workers in
    let v : into_iter_items c.into_iter-session-iterator.result ≡ c.args.sessions.items = c.into_iter-session-iterator.ensures.into_iter_gives.0 in
    let long = ap (λ (xs : List _). length xs) v in
    let answers = ap (λ (xs : List _). length (flat_map (λ s. s.log.items) xs)) v in
    let broken = ap (λ (xs : List _). length (flat_map (λ s. s.hands.retired.items) xs)) v in
    let none = ap (λ (xs : List _). length xs) e.0 in
    let low = e.1 in
    let nothing = ap (λ (xs : List _). length xs) f.0 in
    let few = f.1 in
    let wide = c.requires.log in
    let spare = c.requires.retired in record {
      left = search rules;
      groups = rw e.0 refl;
      workers = rw f.0 refl;
      log = refl;
      retired = refl;
      room = omega (arith, long, none, low, c.args.passes.groups.ok.0, c.args.sessions.ok.0);
      as_wide = omega (arith, long, nothing, few, c.args.passes.workers.ok.0, c.args.sessions.ok.0);
      space = omega (arith, answers, wide);
      spare = omega (arith, broken, spare);
    }

pub push_all-requires : goal.push_all-requires
push_all-requires g c =
    let at = c.loop-session in
    let inv = at.invariant in
    let s = c.in-Some.session in
    let later = into_iter_items c.next.new.self in
    let vs : into_iter_items at.session-iterator ≡ s ∷ later = c.in-Some.ensures.steps.0 in
    let answers = ap (λ (xs : List _). length (flat_map (λ z. z.log.items) xs)) vs ∙ length-append s.log.items (flat_map (λ z. z.log.items) later) in
    let wide = inv.space in
    omega (arith, answers, wide)

pub push_all-requires-in-loop-session : goal.push_all-requires-in-loop-session
push_all-requires-in-loop-session g c =
    let at = c.loop-session in
    let inv = at.invariant in
    let s = c.in-Some.session in
    let later = into_iter_items c.next.new.self in
    let vs : into_iter_items at.session-iterator ≡ s ∷ later = c.in-Some.ensures.steps.0 in
    let broken = ap (λ (xs : List _). length (flat_map (λ z. z.hands.retired.items) xs)) vs ∙ length-append s.hands.retired.items (flat_map (λ z. z.hands.retired.items) later) in
    let wide = inv.spare in
    omega (arith, broken, wide)
