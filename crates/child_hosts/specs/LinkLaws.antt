-- What holds of each FMU that the program's spawner starts: a built-in machine keeps its laws, and a child tells no machine.
use Rattle.std.specs.Prelude.{ℕ, ◌≤◌, List, length, map, IfSome}
use Rattle.std.proofs.Common.{subst, sym}
use Rattle.std.proofs.lemmas.List.{length-map}
use Rattle.std.specs.declared.snapshot.Snapshot.{Snapshot}
use Rattle.fmu_peer.specs.Machine.{IgnoresSlot, IsLawful, IsMachineOf, UnpacksWell}
use Rattle.fmu_peer.specs.View.{TellsItsPhase}
use Rattle.bench_fmus.specs.Laws as laws
use Rattle.std.specs.declared.process.pipes.ChildStdout.{ChildStdout}
use Rattle.fmu_link.specs.Wire.{WireView}
use Rattle.child_hosts.specs.declared.link.HostLink.{HostLink}
use Rattle.child_hosts.specs.declared.pipe_wire.ChildInput.{ChildInput}
use Rattle.child_hosts.specs.declared.pipe_wire.PipeWire.{PipeWire}
use Rattle.child_hosts.specs.declared.link.HostLink.TheVariants.{BuiltIn, Child}
use Rattle.child_hosts.specs.Links.{host_link_view, link_view}

pub is_machine : {W : Type 0} (view : W → WireView) (p : HostLink W) →
    IfSome (link_view view p).fixed.machine (IsMachineOf (link_view view p).fixed.shape)
is_machine view (BuiltIn b) = laws.is_machine b.value.model b.value.book.shape
is_machine view (Child c) = tt

pub is_in_phase : {W : Type 0} (view : W → WireView) (p : HostLink W) →
    TellsItsPhase (link_view view p)
is_in_phase view (BuiltIn b) = b.value.in_phase
is_in_phase view (Child c) = tt

pub ignores_slot : {W : Type 0} (view : W → WireView) (p : HostLink W) →
    IfSome (link_view view p).fixed.machine IgnoresSlot
ignores_slot view (BuiltIn b) = laws.answers_alike b.value.model b.value.book.shape
ignores_slot view (Child c) = tt

pub unpacks_well : {W : Type 0} (view : W → WireView) (p : HostLink W) →
    IfSome (link_view view p).fixed.machine UnpacksWell
unpacks_well view (BuiltIn b) = laws.unpacks_well b.value.model b.value.book.shape
unpacks_well view (Child c) = tt

pub is_lawful : {W : Type 0} (view : W → WireView) (p : HostLink W) →
    IfSome (link_view view p).fixed.machine (IsLawful (link_view view p).fixed.shape)
is_lawful view (BuiltIn b) = laws.is_lawful b.value.model b.value.book.shape
is_lawful view (Child c) = tt

-- no more are told as taken back than were started
pub fewer_views : (links : List (Snapshot (HostLink (PipeWire ChildStdout ChildInput))))
    (started : ℕ) → length links ≤ started → length
    (map (λ (s : Snapshot (HostLink (PipeWire ChildStdout ChildInput))). host_link_view s.value) links) ≤
    started
fewer_views links started few =
    subst (λ (n : ℕ). n ≤ started)
    (sym (length-map links
    (λ (s : Snapshot (HostLink (PipeWire ChildStdout ChildInput))). host_link_view s.value))) few
