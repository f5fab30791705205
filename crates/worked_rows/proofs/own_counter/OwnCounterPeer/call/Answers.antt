use Rattle.std.proofs.Common.{rules, ap, sym, ◌∙◌}
use Rattle.value_types.specs.declared.shape.Shape.{Shape}
use Rattle.fmu_peer.specs.declared.peer.PeerFault.TheVariants.{Failed}
use Rattle.fmu_peer.specs.Book.{fills_next}
use Rattle.bench_fmus.specs.BuiltIn.{machine_of}
use Rattle.bench_fmus.specs.Laws.{is_machine}
use Rattle.bench_fmus.specs.Models.{behaviour_of}
use Rattle.bench_fmus.specs.Told.{state_in}
use Rattle.bench_fmus.proofs.CallerLemmas.{talk_goes_on, answers_as, in_phase_kept}
use Rattle.worked_rows.specs.OwnCounter.{own_machine}
use Rattle.worked_rows.specs.OwnCounterLaws.{base_in_phase, machine_in_phase, machine_is, own_looks, unmoved}
use Rattle.worked_rows.proofs.own_counter.OwnCounterPeer.call.Goals as goal

pub invariant_of-self-clause-in_phase : goal.invariant_of-self-clause-in_phase
invariant_of-self-clause-in_phase c =
    let old = c.args.self.now.inner in
    let m = machine_of (behaviour_of old.model) old.book.shape in
    let s = state_in old.book.shape.variables old.state in
    rw c.keep.ensures.shape
    (base_in_phase m _ s (in_phase_kept old.book.shape (own_machine m) old.book.phase _ s s c.args.call.now c.in-Some.reply (fills_next old.book.talk) Failed c.keep.result
    (machine_is old.book.shape m (is_machine old.model old.book.shape)) c.requires.permitted (machine_in_phase m old.book.phase s old.in_phase)
    (own_looks m s c.args.call.now c.in-Some.reply (sym c.in-Some.ensures)) (sym (unmoved (own_machine m) s c.args.call.now c.in-Some.reply (sym c.in-Some.ensures)))
    c.keep.ensures.kept c.keep.ensures.phase))

pub returns-in-Some : goal.returns-in-Some
returns-in-Some c =
    let old = c.args.self.now.inner in
    let m = machine_of (behaviour_of old.model) old.book.shape in
    let s = state_in old.book.shape.variables old.state in
    record {
      fixed = search rules;
      phase = search rules;
      talk = talk_goes_on old.book.talk c.keep.new.self.talk c.args.call.now c.keep.result (search (rules, c.keep.ensures.talk));
      state = answers_as (own_machine m) s _ c.args.call.now c.in-Some.reply (fills_next old.book.talk) Failed c.keep.result
          (own_looks m s c.args.call.now c.in-Some.reply (sym c.in-Some.ensures))
          (ap (λ (shape : Shape). state_in shape.variables old.state) c.keep.ensures.shape ∙ sym (unmoved (own_machine m) s c.args.call.now c.in-Some.reply (sym c.in-Some.ensures))) c.keep.ensures.kept;
      cause = search rules;
    }
