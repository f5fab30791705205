-- An instance of a built-in machine before its first call.
use Rattle.std.proofs.Common.{◌≡◌, ℕ, List, [], Option, Some, None, sym, ap, ◌∙◌, subst}
use Rattle.std.specs.Prelude.{IfSome}
use Rattle.value_types.specs.declared.shape.Shape.{Shape}
use Rattle.fmi_calls.specs.Next.{fresh}
use Rattle.fmu_peer.specs.declared.talk_room.TalkRoom.{TalkRoom}
use Rattle.fmu_peer.specs.Machine.{IsMachineOf, MachineState}
use Rattle.fmu_peer.specs.Start.{IsStarted}
use Rattle.bench_fmus.specs.declared.built_in.BuiltIn.{BuiltIn}
use Rattle.bench_fmus.specs.BuiltIn.{first_state, machine_of}
use Rattle.bench_fmus.specs.BuiltInView.{built_in_view}
use Rattle.bench_fmus.specs.Laws.{is_machine}
use Rattle.bench_fmus.specs.Models.{behaviour_of}
use Rattle.bench_fmus.specs.Told.{origin_in, state_in, talk_in}

-- a talk in an empty room is empty
talk_empty : (talk : Option TalkRoom) → IfSome talk (λ (t : TalkRoom). t.exchanges.items ≡ []) → IfSome (talk_in talk) (λ es. es ≡ [])
talk_empty None empty = tt
talk_empty (Some t) empty = empty

pub is_started : (host name directory : List ℕ) (shape : Shape) (b : BuiltIn) →
    origin_in b.origin ≡ record { host = host; name = name; directory = directory } → b.book.shape ≡ shape → b.book.phase ≡ fresh shape →
    IfSome b.book.talk (λ (t : TalkRoom). t.exchanges.items ≡ []) → b.book.faults ≡ 0 → state_in shape.variables b.state ≡ first_state shape.variables →
    IsStarted host name directory shape (built_in_view b)
is_started host name directory shape b origin_is shape_is phase_is empty faults_are state_is = record {
  shape_is = shape_is;
  origin = ap Some origin_is;
  phase = phase_is;
  talk = talk_empty b.book.talk empty;
  state = ap (λ (s : MachineState). Some s) (ap (λ (s : Shape). state_in s.variables b.state) shape_is ∙ state_is ∙ sym (ap (λ (s : Shape). first_state s.variables) shape_is));
  machine = subst (λ (s : Shape). IsMachineOf s (machine_of (behaviour_of b.model) b.book.shape)) shape_is (is_machine b.model b.book.shape);
  faults = faults_are;
}
