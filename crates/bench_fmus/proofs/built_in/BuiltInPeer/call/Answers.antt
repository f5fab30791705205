use Rattle.std.proofs.Common.{rules, ap, ◌∙◌}
use Rattle.value_types.specs.declared.shape.Shape.{Shape}
use Rattle.fmu_peer.specs.declared.peer.PeerFault.TheVariants.{Failed}
use Rattle.fmu_peer.specs.Book.{fills_next}
use Rattle.bench_fmus.specs.BuiltIn.{machine_of}
use Rattle.bench_fmus.specs.Laws.{is_machine}
use Rattle.bench_fmus.specs.Models.{behaviour_of}
use Rattle.bench_fmus.specs.Told.{state_in}
use Rattle.bench_fmus.proofs.PeerLemmas.{talk_goes_on, answers_as, in_phase_kept}
use Rattle.bench_fmus.proofs.built_in.BuiltInPeer.call.Goals as goal

pub invariant_of-self-clause-in_phase : goal.invariant_of-self-clause-in_phase
invariant_of-self-clause-in_phase c =
    let old = c.args.self.now in
    rw c.keep.ensures.shape
    (in_phase_kept old.book.shape (machine_of (behaviour_of old.model) old.book.shape) old.book.phase _ (state_in old.book.shape.variables old.state) _ c.args.call.now c.reply-reply.result
    (fills_next old.book.talk) Failed c.keep.result (is_machine old.model old.book.shape) c.requires.permitted old.in_phase c.reply-reply.ensures c.change.ensures.state
    c.keep.ensures.kept c.keep.ensures.phase)

pub returns-clause-asked : goal.returns-clause-asked
returns-clause-asked c =
    let old = c.args.self.now in
    record {
      fixed = search rules;
      phase = search rules;
      talk = talk_goes_on old.book.talk c.keep.new.self.talk c.args.call.now c.keep.result (search (rules, c.keep.ensures.talk));
      state = answers_as (machine_of (behaviour_of old.model) old.book.shape) (state_in old.book.shape.variables old.state) _ c.args.call.now c.reply-reply.result
          (fills_next old.book.talk) Failed c.keep.result c.reply-reply.ensures
          (ap (λ (s : Shape). state_in s.variables c.change.new.self) c.keep.ensures.shape ∙ c.change.ensures.state) c.keep.ensures.kept;
      cause = search rules;
    }
