-- What the program's spawner and its peers tell.
use Rattle.std.specs.Prelude.{◌≡◌, ◌≢◌, ℕ, List, Bool, true, map, Option, Some, None, Result, Ok, Err, option_map, if◌then◌else◌}
use Rattle.std.specs.Str.{bytes_eq}
use Rattle.std.specs.declared.process.pipes.ChildStdout.{ChildStdout}
use Rattle.std.specs.declared.snapshot.Snapshot.{Snapshot}
use Rattle.std.specs.declared.io.ErrorKind.{ErrorKind}
use Rattle.std.specs.declared.io.ErrorKind.TheVariants.{OutOfMemory}
use Rattle.value_types.specs.declared.shape.Shape.{Shape}
use Rattle.fmi_calls.specs.declared.call.Call.{Call}
use Rattle.fmi_calls.specs.declared.call.Call.TheVariants as C
use Rattle.fmi_calls.specs.declared.call.Reply.{Reply}
use Rattle.fmu_peer.specs.Book.{fills_next}
use Rattle.fmu_peer.specs.declared.peer.PeerFault.{PeerFault}
use Rattle.fmu_peer.specs.declared.peer.PeerFault.TheVariants.{Failed as PeerFailed}
use Rattle.fmu_peer.specs.declared.spawner.StartFault.{StartFault}
use Rattle.fmu_peer.specs.declared.spawner.StartFault.TheVariants.{Failed, Memory}
use Rattle.fmu_peer.specs.declared.talk_room.TalkRoom.{TalkRoom}
use Rattle.fmu_peer.specs.Machine.{Machine}
use Rattle.fmu_peer.specs.Start.{SpawnerView}
use Rattle.fmu_peer.specs.View.{View}
use Rattle.fmu_link.specs.Batches.{GoAsAgreed}
use Rattle.fmu_link.specs.Exchange.{Exchanged, ExchangedState, ExchangedWith}
use Rattle.fmu_link.specs.Piped.{line_view, piped_view}
use Rattle.fmu_link.specs.Wire.{WireView, wire_view}
use Rattle.bench_fmus.specs.declared.built_in.BuiltIn.{BuiltIn as BuiltInFmu}
use Rattle.bench_fmus.specs.BuiltInView.{built_in_reply, built_in_reply_at, built_in_view}
use Rattle.bench_fmus.specs.Models.{is_model, machine_named, model_named}
use Rattle.command_line.specs.Line.{built_in_host}
use Rattle.child_hosts.specs.declared.child_fmu.ChildFmu.{ChildFmu}
use Rattle.child_hosts.specs.declared.hosts.Hosts.{Hosts}
use Rattle.child_hosts.specs.declared.link.HostLink.{HostLink}
use Rattle.child_hosts.specs.declared.link.HostLink.TheVariants.{BuiltIn, Child}
use Rattle.child_hosts.specs.declared.pipe_wire.ChildInput.{ChildInput}
use Rattle.child_hosts.specs.declared.pipe_wire.PipeWire.{PipeWire}

-- pipes tell none of their bytes
abbrev pub pipes_view : PipeWire ChildStdout ChildInput → WireView
pipes_view wire = wire_view None None wire.faults

-- a child tells no talk and no machine
abbrev pub child_view : {W : Type 0} → (W → WireView) → ChildFmu W → View
child_view view c = piped_view view c.peer

abbrev pub link_view : {W : Type 0} → (W → WireView) → HostLink W → View
link_view view (BuiltIn peer) = built_in_view peer.value
link_view view (Child child) = child_view view child.value

-- that of the program's own spawner
abbrev pub host_link_view : HostLink (PipeWire ChildStdout ChildInput) → View
host_link_view link = link_view pipes_view link

-- why a child wasn't started, by the kind of the error
abbrev pub start_fault : ErrorKind → StartFault
start_fault OutOfMemory = Memory
start_fault _ = Failed

-- ---- a call

-- what a built-in machine answers, unless the call fills the talk that it keeps; and its talk has the room that it had
pub record AnswersItself (old : BuiltInFmu) (call : Call) (result : Result Reply PeerFault)
    (new : BuiltInFmu) : Type 0 where
  pub answer : result ≡ (if fills_next old.book.talk then Err PeerFailed else Ok
      (built_in_reply old call))
  pub room : option_map (λ (t : TalkRoom). t.room) new.book.talk ≡
      option_map (λ (t : TalkRoom). t.room) old.book.talk

-- so it answers a Deserialize with these bytes
pub record AnswersWith (old : BuiltInFmu) (call : Call) (state : List ℕ)
    (result : Result Reply PeerFault) (new : BuiltInFmu) : Type 0 where
  pub answer : result ≡ (if fills_next old.book.talk then Err PeerFailed else Ok
      (built_in_reply_at old call state))
  pub room : option_map (λ (t : TalkRoom). t.room) new.book.talk ≡
      option_map (λ (t : TalkRoom). t.room) old.book.talk

-- a built-in machine answers itself; a child is sent the call's frame on its wire, and what comes is the answer
abbrev pub AnswersBy : {W : Type 0} → (W → WireView) → HostLink W → Call →
    Result Reply PeerFault → HostLink W → Type 0
AnswersBy view (BuiltIn old) call result (BuiltIn new) =
    AnswersItself old.value call result new.value
AnswersBy view (Child old) call result (Child new) =
    Exchanged call old.value.peer.instance.name old.value.peer.instance.shape.token
    (line_view view old.value.peer) (line_view view new.value.peer) result
AnswersBy view (BuiltIn old) call result (Child new) = ⊥
AnswersBy view (Child old) call result (BuiltIn new) = ⊥

-- of several calls: a child is sent them as was agreed, in one batch or one by one
abbrev pub AnswersManyBy : {W : Type 0} → (W → WireView) → HostLink W → List Call → List Reply →
    Result ℕ PeerFault → HostLink W → Type 0
AnswersManyBy view (BuiltIn old) calls replies result (BuiltIn new) = Unit {0}
AnswersManyBy view (Child old) calls replies result (Child new) =
    GoAsAgreed old.value.peer.instance.takes_batches calls (line_view view old.value.peer)
    (line_view view new.value.peer) replies result
AnswersManyBy view (BuiltIn old) calls replies result (Child new) = ⊥
AnswersManyBy view (Child old) calls replies result (BuiltIn new) = ⊥

-- a Serialize, with the bytes of the state: a child is sent its frame, and what comes after the answer are these bytes
abbrev pub SerializesBy : {W : Type 0} → (W → WireView) → HostLink W →
    Result Reply PeerFault → List ℕ → HostLink W → Type 0
SerializesBy view (BuiltIn old) result state (BuiltIn new) =
    AnswersItself old.value C.Serialize result new.value
SerializesBy view (Child old) result state (Child new) =
    ExchangedState old.value.peer.instance.name old.value.peer.instance.shape.token
    (line_view view old.value.peer) (line_view view new.value.peer) result state
SerializesBy view (BuiltIn old) result state (Child new) = ⊥
SerializesBy view (Child old) result state (BuiltIn new) = ⊥

-- a Deserialize: a child is sent the bytes after its frame
abbrev pub AnswersWithBy : {W : Type 0} → (W → WireView) → HostLink W → Call → List ℕ →
    Result Reply PeerFault → HostLink W → Type 0
AnswersWithBy view (BuiltIn old) call state result (BuiltIn new) =
    AnswersWith old.value call state result new.value
AnswersWithBy view (Child old) call state result (Child new) =
    ExchangedWith call state old.value.peer.instance.name old.value.peer.instance.shape.token
    (line_view view old.value.peer) (line_view view new.value.peer) result
AnswersWithBy view (BuiltIn old) call state result (Child new) = ⊥
AnswersWithBy view (Child old) call state result (BuiltIn new) = ⊥

-- it is a built-in machine that keeps no talk
abbrev pub KeepsNoTalk : {W : Type 0} → HostLink W → Type 0
KeepsNoTalk (BuiltIn peer) = peer.value.book.talk ≡ None
KeepsNoTalk (Child child) = ⊥

-- ---- the spawner

-- the built-in machines are known by their names, and a program is given any identifier
abbrev pub is_known : List ℕ → List ℕ → Bool
is_known host identifier = if bytes_eq host built_in_host then is_model identifier else true

-- by the host `builtin` it starts the built-in machines, and of a program it says of no machine
abbrev pub made_by : List ℕ → List ℕ → Option (Shape → Machine)
made_by host identifier =
    if bytes_eq host built_in_host then machine_named identifier else None

-- by the host `builtin` it is the machine that the shape names, which keeps no talk, and by another a child
abbrev pub IsOfHost : List ℕ → Shape → HostLink (PipeWire ChildStdout ChildInput) → Type 0
IsOfHost host shape (BuiltIn peer) =
    (host ≡ built_in_host) × (model_named shape.identifier ≡ Some peer.value.model) ×
    (peer.value.book.talk ≡ None)
IsOfHost host shape (Child child) = host ≢ built_in_host

abbrev pub hosts_view : {R : Type 0} → Hosts R → SpawnerView
hosts_view h = record {
  started = h.retired.started;
  retired = map (λ (s : Snapshot (HostLink (PipeWire ChildStdout ChildInput))). host_link_view s.value) h.retired.peers.items;
  knows = is_known;
  makes = made_by;
  faults = h.faults;
}
