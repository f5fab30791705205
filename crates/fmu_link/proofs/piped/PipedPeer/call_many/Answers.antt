use Rattle.std.proofs.Common.{rules, ◌≡◌, ◌+◌, ℕ, length, take, get_or, set, sym, subst, ◌∙◌, inr, arith, Ok, Err, Bool, false}
use Rattle.fmi_calls.specs.declared.call.Call.TheVariants as C
use Rattle.fmu_peer.specs.Many.{Talks, exchanges}
use Rattle.fmu_peer.specs.Talk.{AllGood}
use Rattle.fmu_peer.proofs.ManyLemmas.{all_more, answered_all, answered_first, bad_grade, faults_after, good_grade, may_more, permitted_now, places_more, talks_more}
use Rattle.fmu_peer.proofs.CallerLemmas.{plain_at}
use Rattle.fmu_link.specs.Batches.{GoAsAgreed, GoSingly}
use Rattle.fmu_link.specs.Piped.{line_view, piped_view}
use Rattle.fmu_link.proofs.SingleCalls.{singly_breaks, singly_more}
use Rattle.fmu_link.proofs.piped.PipedPeer.call_many.Goals as goal

pub returns-in-Err-clause-asked : goal.returns-in-Err-clause-asked
returns-in-Err-clause-asked g c =
    let view = piped_view g.W.Wire.view in
    let inv = c.loop-i.invariant in
    let d = C.Instantiate false false false in
    faults_after (view c.args.self.now) (view c.loop-i.self) (view c.call.new.self) c.args.calls.now c.args.replies.now c.loop-i.replies c.loop-i.i d c.in-Err.fault inv.places c.loop-i-test.true inv.after inv.talks inv.good
    (permitted_now (view c.args.self.now) (view c.loop-i.self) c.args.calls.now c.loop-i.i d c.loop-i-test.true inv.fixed inv.may) c.in-Err.ensures.asked

pub returns-in-Err-clause-agreed : goal.returns-in-Err-clause-agreed
returns-in-Err-clause-agreed g c =
    let line = line_view g.W.Wire.view in
    let inv = c.loop-i.invariant in
    subst (λ (b : Bool). GoAsAgreed b c.args.calls.now (line c.args.self.now) (line c.call.new.self) c.loop-i.replies (Err c.in-Err.fault)) (sym c.if-self.false)
    (singly_breaks (line c.args.self.now) (line c.loop-i.self) (line c.call.new.self) c.args.calls.now c.loop-i.replies c.loop-i.i (C.Instantiate false false false) c.loop-i.self.instance.name c.loop-i.self.instance.shape.token inv.places c.loop-i-test.true inv.went c.in-Err.fault c.in-Err.ensures.exchanged)

pub call-requires-clause-plain : goal.call-requires-clause-plain
call-requires-clause-plain g c = plain_at c.args.calls.now c.loop-i.i (C.Instantiate false false false) c.requires.sort c.loop-i-test.true

pub call-requires-clause-permitted : goal.call-requires-clause-permitted
call-requires-clause-permitted g c =
    let view = piped_view g.W.Wire.view in
    let inv = c.loop-i.invariant in
    permitted_now (view c.args.self.now) (view c.loop-i.self) c.args.calls.now c.loop-i.i (C.Instantiate false false false) c.loop-i-test.true inv.fixed inv.may

pub returns-in-Refused : goal.returns-in-Refused
returns-in-Refused g c =
    let view = piped_view g.W.Wire.view in
    let line = line_view g.W.Wire.view in
    let inv = c.loop-i.invariant in
    let d = C.Instantiate false false false in
    record {
      places = search rules;
      asked = answered_first (view c.args.self.now) (view c.call.new.self) c.args.calls.now c.loop-i.replies c.loop-i.i d c.in-Ok.reply inv.places c.loop-i-test.true
          (talks_more (view c.args.self.now) (view c.loop-i.self) (view c.call.new.self) c.args.calls.now c.loop-i.replies c.loop-i.i d c.in-Ok.reply inv.places c.loop-i-test.true inv.fixed inv.may inv.talks c.in-Ok.ensures.asked)
          inv.good (inr (bad_grade (view c.args.self.now) (view c.loop-i.self) (view c.call.new.self) (get_or c.args.calls.now c.loop-i.i d) c.in-Ok.reply c.shape.result.now c.grade.result inv.fixed c.in-Ok.ensures.asked c.shape.ensures c.grade.ensures c.in-Refused.is));
      agreed = subst (λ (b : Bool). GoAsAgreed b c.args.calls.now (line c.args.self.now) (line c.call.new.self) (set c.loop-i.replies c.loop-i.i c.in-Ok.reply) (Ok (c.loop-i.i + 1))) (sym c.if-self.false)
          (singly_more (line c.args.self.now) (line c.loop-i.self) (line c.call.new.self) c.args.calls.now c.loop-i.replies c.loop-i.i d c.loop-i.self.instance.name c.loop-i.self.instance.shape.token inv.places c.loop-i-test.true inv.went c.in-Ok.reply c.in-Ok.ensures.exchanged);
    }

pub loop-i-preserved : goal.loop-i-preserved
loop-i-preserved g c =
    let view = piped_view g.W.Wire.view in
    let line = line_view g.W.Wire.view in
    let inv = c.loop-i.invariant in
    let d = C.Instantiate false false false in
    let good = good_grade (view c.args.self.now) (view c.loop-i.self) (view c.call.new.self) (get_or c.args.calls.now c.loop-i.i d) c.in-Ok.reply c.shape.result.now c.grade.result inv.fixed c.in-Ok.ensures.asked c.shape.ensures c.grade.ensures c.in-Good.is in
    record {
      places = search rules;
      after = places_more c.args.replies.now c.loop-i.replies c.loop-i.i c.in-Ok.reply inv.after;
      up_to = search rules;
      talks = talks_more (view c.args.self.now) (view c.loop-i.self) (view c.call.new.self) c.args.calls.now c.loop-i.replies c.loop-i.i d c.in-Ok.reply inv.places c.loop-i-test.true inv.fixed inv.may inv.talks c.in-Ok.ensures.asked;
      good = all_more (view c.args.self.now).fixed.shape c.args.calls.now c.loop-i.replies c.loop-i.i d c.in-Ok.reply inv.places c.loop-i-test.true inv.good good;
      may = may_more (view c.args.self.now) (view c.loop-i.self) (view c.call.new.self) c.args.calls.now c.loop-i.i d c.in-Ok.reply c.loop-i-test.true inv.fixed inv.may c.in-Ok.ensures.asked good;
      fixed = c.in-Ok.ensures.asked.fixed ∙ inv.fixed;
      went = singly_more (line c.args.self.now) (line c.loop-i.self) (line c.call.new.self) c.args.calls.now c.loop-i.replies c.loop-i.i d c.loop-i.self.instance.name c.loop-i.self.instance.shape.token inv.places c.loop-i-test.true inv.went c.in-Ok.reply c.in-Ok.ensures.exchanged;
    }

pub returns-clause-asked : goal.returns-clause-asked
returns-clause-asked g c =
    let view = piped_view g.W.Wire.view in
    let inv = c.loop-i.invariant in
    let cs = c.args.calls.now in
    let rs = c.loop-i.replies in
    let all : c.loop-i.i ≡ length cs = omega (arith, inv.up_to, c.loop-i-test.false) in
    answered_all (view c.args.self.now) (view c.loop-i.self) cs rs (C.Instantiate false false false) inv.places (omega (arith, c.requires.sort.some))
    (subst (λ (n : ℕ). Talks (view c.args.self.now) (exchanges (take n cs) (take n rs)) (view c.loop-i.self)) all inv.talks)
    (subst (λ (n : ℕ). AllGood (view c.args.self.now).fixed.shape (exchanges (take n cs) (take n rs))) all inv.good)

pub returns-clause-agreed : goal.returns-clause-agreed
returns-clause-agreed g c =
    let line = line_view g.W.Wire.view in
    let inv = c.loop-i.invariant in
    let cs = c.args.calls.now in
    let rs = c.loop-i.replies in
    let all : c.loop-i.i ≡ length cs = omega (arith, inv.up_to, c.loop-i-test.false) in
    subst (λ (b : Bool). GoAsAgreed b cs (line c.args.self.now) (line c.loop-i.self) rs (Ok (length cs))) (sym c.if-self.false)
    (subst (λ (n : ℕ). GoSingly (line c.args.self.now) (take n cs) (take n rs) (line c.loop-i.self)) all inv.went)
