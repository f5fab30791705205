use Rattle.std.proofs.Common.{rules, ap, refl}
use Rattle.value_types.specs.declared.shape.Shape.{Shape}
use Rattle.fmi_calls.specs.declared.call.Call.TheVariants as C
use Rattle.fmu_peer.specs.declared.peer.PeerFault.TheVariants.{Failed}
use Rattle.fmu_peer.specs.Book.{fills_next}
use Rattle.bench_fmus.specs.BuiltIn.{machine_of}
use Rattle.bench_fmus.specs.BuiltInView.{built_in_view}
use Rattle.bench_fmus.specs.Laws.{is_machine}
use Rattle.bench_fmus.specs.Models.{behaviour_of}
use Rattle.bench_fmus.specs.Told.{state_in}
use Rattle.bench_fmus.proofs.PeerLemmas.{talk_goes_on, answers_as, in_phase_kept, serializes_by}
use Rattle.bench_fmus.proofs.SerializeLemmas.{followed_by}
use Rattle.bench_fmus.proofs.built_in.BuiltInPeer.serialize.Goals as goal

pub invariant_of-self-clause-in_phase : goal.invariant_of-self-clause-in_phase
invariant_of-self-clause-in_phase c =
    let old = c.args.self.now in
    rw c.keep.ensures.shape
    (in_phase_kept old.book.shape (machine_of (behaviour_of old.model) old.book.shape) old.book.phase _ (state_in old.book.shape.variables old.state) _ C.Serialize c.reply-reply.result
    (fills_next old.book.talk) Failed c.keep.result (is_machine old.model old.book.shape) c.requires.permitted old.in_phase c.reply-reply.ensures refl
    c.keep.ensures.kept c.keep.ensures.phase)

pub returns-clause-asked : goal.returns-clause-asked
returns-clause-asked c =
    let old = c.args.self.now in
    record {
      fixed = search rules;
      phase = search rules;
      talk = talk_goes_on old.book.talk c.keep.new.self.talk C.Serialize c.keep.result (search (rules, c.keep.ensures.talk));
      state = answers_as (machine_of (behaviour_of old.model) old.book.shape) (state_in old.book.shape.variables old.state) _ C.Serialize c.reply-reply.result
          (fills_next old.book.talk) Failed c.keep.result c.reply-reply.ensures
          (ap (λ (s : Shape). state_in s.variables old.state) c.keep.ensures.shape) c.keep.ensures.kept;
      cause = search rules;
    }

pub returns-clause-bytes : goal.returns-clause-bytes
returns-clause-bytes c =
    let old = c.args.self.now in
    serializes_by (built_in_view old) c.reply-reply.result c.serialize.new.into.items (fills_next old.book.talk) Failed c.keep.result
    (followed_by old c.reply-reply.result c.serialize.new.into.items c.reply-reply.ensures c.serialize.ensures.bytes)
    c.keep.ensures.kept
