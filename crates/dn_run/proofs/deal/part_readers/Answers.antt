use Rattle.std.proofs.Common.{rules, ◌≡◌, ◌∷◌, [], true, false, not, length, ap, sym, arith}
use Rattle.std.proofs.lemmas.List.{length-append, nil_from_length}
use Rattle.dn_run.specs.Deal.{takes_reader}
use Rattle.dn_run.proofs.DealSteps.{fails, passes, tested}
use Rattle.dn_run.proofs.deal.part_readers.Goals as goal

pub loop-reader-preserved-then-takes_feed : goal.loop-reader-preserved-then-takes_feed
loop-reader-preserved-then-takes_feed g c =
    let split : c.loop-reader.reader-iterator.rest.items ≡ c.in-Some.reader ∷ c.next.new.self.rest.items = search rules in
    let is : takes_reader c.args.lines.now c.in-Some.reader ≡ true = sym (rw c.told.ensures at c.if-takes_feed.ensures) in
    let n = ap length split in
    let m = length-append c.loop-reader.mine.items (c.in-Some.reader ∷ []) in
    let k = ap length c.push_reserved.ensures.items in
    let room = c.loop-reader.invariant.room in
    let other_room = c.loop-reader.invariant.other_room in
    let cap = c.push_reserved.ensures.capacity in
    record {
      mine = passes (takes_reader c.args.lines.now) c.loop-reader.mine.items c.push_reserved.new.self.items _ c.in-Some.reader c.next.new.self.rest.items c.loop-reader.reader-iterator.rest.items
          split is c.push_reserved.ensures.items c.loop-reader.invariant.mine;
      others = fails (λ r. not (takes_reader c.args.lines.now r)) c.loop-reader.others.items _ c.in-Some.reader c.next.new.self.rest.items c.loop-reader.reader-iterator.rest.items
          split (ap not is) c.loop-reader.invariant.others;
      room = omega (arith, n, m, k, room, cap);
      other_room = omega (arith, n, other_room);
    }

pub loop-reader-preserved : goal.loop-reader-preserved
loop-reader-preserved g c =
    let split : c.loop-reader.reader-iterator.rest.items ≡ c.in-Some.reader ∷ c.next.new.self.rest.items = search rules in
    let is : takes_reader c.args.lines.now c.in-Some.reader ≡ false = sym (rw c.told.ensures at c.if-takes_feed.ensures) in
    let n = ap length split in
    let m = length-append c.loop-reader.others.items (c.in-Some.reader ∷ []) in
    let k = ap length c.push_reserved-else-takes_feed.ensures.items in
    let room = c.loop-reader.invariant.room in
    let other_room = c.loop-reader.invariant.other_room in
    let cap = c.push_reserved-else-takes_feed.ensures.capacity in
    record {
      mine = fails (takes_reader c.args.lines.now) c.loop-reader.mine.items _ c.in-Some.reader c.next.new.self.rest.items c.loop-reader.reader-iterator.rest.items
          split is c.loop-reader.invariant.mine;
      others = passes (λ r. not (takes_reader c.args.lines.now r)) c.loop-reader.others.items c.push_reserved-else-takes_feed.new.self.items _ c.in-Some.reader c.next.new.self.rest.items c.loop-reader.reader-iterator.rest.items
          split (ap not is) c.push_reserved-else-takes_feed.ensures.items c.loop-reader.invariant.others;
      room = omega (arith, n, room);
      other_room = omega (arith, n, m, k, other_room, cap);
    }

pub returns-clause-mine : goal.returns-clause-mine
returns-clause-mine g c =
    let none : c.loop-reader.reader-iterator.rest.items ≡ [] = nil_from_length c.loop-reader.reader-iterator.rest.items (let e = c.in-None.ensures.steps.0 in let f = c.loop-reader.reader-iterator.rest.ok.0 in omega (arith, e, f)) in
    tested (takes_reader c.args.lines.now) c.loop-reader.mine.items _ c.loop-reader.reader-iterator.rest.items none c.loop-reader.invariant.mine

pub returns-clause-others : goal.returns-clause-others
returns-clause-others g c =
    let none : c.loop-reader.reader-iterator.rest.items ≡ [] = nil_from_length c.loop-reader.reader-iterator.rest.items (let e = c.in-None.ensures.steps.0 in let f = c.loop-reader.reader-iterator.rest.ok.0 in omega (arith, e, f)) in
    tested (λ r. not (takes_reader c.args.lines.now r)) c.loop-reader.others.items _ c.loop-reader.reader-iterator.rest.items none c.loop-reader.invariant.others
