use Rattle.std.proofs.Common.{rules, ◌≡◌, ℕ, length, take, get_or, subst, ◌∙◌, inr, arith, false}
use Rattle.fmi_calls.specs.declared.call.Call.TheVariants as C
use Rattle.fmu_peer.specs.Many.{Talks, exchanges}
use Rattle.fmu_peer.specs.Talk.{AllGood}
use Rattle.fmu_peer.proofs.ManyLemmas.{all_more, answered_all, answered_first, bad_grade, faults_after, good_grade, may_more, permitted_now, places_more, talks_more}
use Rattle.fmu_peer.proofs.KeptStates.{plain_at}
use Rattle.fmu_peer.proofs.peer.Peer.call_many.Goals as goal

pub returns-in-Err-clause-asked : goal.returns-in-Err-clause-asked
returns-in-Err-clause-asked g c =
    let view = g.Self.Peer.view in
    let inv = c.loop-i.invariant in
    let d = C.Instantiate false false false in
    faults_after (view c.args.self.now) (view c.loop-i.self) (view c.call.new.self) c.args.calls.now c.args.replies.now c.loop-i.replies c.loop-i.i d c.in-Err.fault inv.places c.loop-i-test.true inv.after inv.talks inv.good
    (permitted_now (view c.args.self.now) (view c.loop-i.self) c.args.calls.now c.loop-i.i d c.loop-i-test.true inv.fixed inv.may) c.in-Err.ensures

pub call-requires-clause-permitted : goal.call-requires-clause-permitted
call-requires-clause-permitted g c =
    let view = g.Self.Peer.view in
    let inv = c.loop-i.invariant in
    permitted_now (view c.args.self.now) (view c.loop-i.self) c.args.calls.now c.loop-i.i (C.Instantiate false false false) c.loop-i-test.true inv.fixed inv.may

pub call-requires-clause-plain : goal.call-requires-clause-plain
call-requires-clause-plain g c =
    plain_at c.args.calls.now c.loop-i.i (C.Instantiate false false false) c.requires.sort c.loop-i-test.true

pub returns-in-Refused : goal.returns-in-Refused
returns-in-Refused g c =
    let view = g.Self.Peer.view in
    let inv = c.loop-i.invariant in
    let d = C.Instantiate false false false in
    record {
      places = search rules;
      asked = answered_first (view c.args.self.now) (view c.call.new.self) c.args.calls.now c.loop-i.replies c.loop-i.i d c.in-Ok.reply inv.places c.loop-i-test.true
          (talks_more (view c.args.self.now) (view c.loop-i.self) (view c.call.new.self) c.args.calls.now c.loop-i.replies c.loop-i.i d c.in-Ok.reply inv.places c.loop-i-test.true inv.fixed inv.may inv.talks c.in-Ok.ensures)
          inv.good (inr (bad_grade (view c.args.self.now) (view c.loop-i.self) (view c.call.new.self) (get_or c.args.calls.now c.loop-i.i d) c.in-Ok.reply c.shape.result.now c.grade.result inv.fixed c.in-Ok.ensures c.shape.ensures c.grade.ensures c.in-Refused.is));
    }

pub loop-i-preserved : goal.loop-i-preserved
loop-i-preserved g c =
    let view = g.Self.Peer.view in
    let inv = c.loop-i.invariant in
    let d = C.Instantiate false false false in
    let good = good_grade (view c.args.self.now) (view c.loop-i.self) (view c.call.new.self) (get_or c.args.calls.now c.loop-i.i d) c.in-Ok.reply c.shape.result.now c.grade.result inv.fixed c.in-Ok.ensures c.shape.ensures c.grade.ensures c.in-Good.is in
    record {
      places = search rules;
      after = places_more c.args.replies.now c.loop-i.replies c.loop-i.i c.in-Ok.reply inv.after;
      up_to = search rules;
      talks = talks_more (view c.args.self.now) (view c.loop-i.self) (view c.call.new.self) c.args.calls.now c.loop-i.replies c.loop-i.i d c.in-Ok.reply inv.places c.loop-i-test.true inv.fixed inv.may inv.talks c.in-Ok.ensures;
      good = all_more (view c.args.self.now).fixed.shape c.args.calls.now c.loop-i.replies c.loop-i.i d c.in-Ok.reply inv.places c.loop-i-test.true inv.good good;
      may = may_more (view c.args.self.now) (view c.loop-i.self) (view c.call.new.self) c.args.calls.now c.loop-i.i d c.in-Ok.reply c.loop-i-test.true inv.fixed inv.may c.in-Ok.ensures good;
      fixed = c.in-Ok.ensures.fixed ∙ inv.fixed;
    }

pub returns-clause-asked : goal.returns-clause-asked
returns-clause-asked g c =
    let view = g.Self.Peer.view in
    let inv = c.loop-i.invariant in
    let cs = c.args.calls.now in
    let rs = c.loop-i.replies in
    let all : c.loop-i.i ≡ length cs = omega (arith, inv.up_to, c.loop-i-test.false) in
    answered_all (view c.args.self.now) (view c.loop-i.self) cs rs (C.Instantiate false false false) inv.places (omega (arith, c.requires.sort.some))
    (subst (λ (n : ℕ). Talks (view c.args.self.now) (exchanges (take n cs) (take n rs)) (view c.loop-i.self)) all inv.talks)
    (subst (λ (n : ℕ). AllGood (view c.args.self.now).fixed.shape (exchanges (take n cs) (take n rs))) all inv.good)
