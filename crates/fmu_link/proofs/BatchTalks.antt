-- The replies of a batch as answers to the calls one by one: the wire's part is over when the first is looked at.
use Rattle.std.proofs.Common.{◌≡◌, ℕ, ◌+◌, ◌<◌, inl, inr, List, length, get_or, arith, refl, sym, ap, ◌∙◌, subst, Ok, Err, Some, None, Result}
use Rattle.sim_base.specs.Causes.{HasCause, one_more}
use Rattle.fmi_calls.specs.Next.{next_of}
use Rattle.fmi_calls.specs.declared.call.Call.{Call}
use Rattle.fmi_calls.specs.declared.call.Reply.{Reply}
use Rattle.fmu_peer.specs.Many.{AskedMany, FaultsAfter, MayAskAll}
use Rattle.fmu_peer.specs.View.{Asked, View}
use Rattle.fmu_peer.specs.declared.peer.PeerFault.{PeerFault}
use Rattle.fmu_peer.specs.declared.peer.PeerFault.TheVariants.{Garbled}
use Rattle.fmu_peer.specs.declared.peer.PeerFault.TheVariants as PF
use Rattle.fmu_peer.proofs.ManyLemmas.{faults_after, permitted_now}
use Rattle.fmu_link.specs.declared.instance.Instance.{Instance}
use Rattle.fmu_link.specs.declared.wire.WireFault.{WireFault}
use Rattle.fmu_link.specs.declared.wire.WireFault.TheVariants.{Ended, Failed}
use Rattle.fmu_link.specs.Batches.{ArrivesAll, BreaksOff, IsSameInstance}
use Rattle.fmu_link.specs.Exchange.{bad_after}
use Rattle.fmu_link.specs.Piped.{view_of}
use Rattle.fmu_link.specs.Wire.{NotesReceive, WireView, wire_view, with_sent}

-- a wire that took a batch and gave what came has failed no more often
pub arrived_quietly : (old new : WireView) (batch bytes : List ℕ) → ArrivesAll old batch bytes new → new.faults ≡ old.faults
arrived_quietly old new batch bytes arrives = sym (ap (λ (w : WireView). w.faults) arrives)

pub same_view : (old new : WireView) (instance : Instance) → new.faults ≡ old.faults → view_of new instance ≡ view_of old instance
same_view old new instance is = ap (λ (n : ℕ). record (view_of old instance) { faults = n + instance.bad_replies }) is

pub same_fixed : (wire : WireView) (old new : Instance) → IsSameInstance old new → (view_of wire new).fixed ≡ (view_of wire old).fixed
same_fixed wire old new same = rw (same.host, same.name, same.directory, same.shape) refl

-- an item that came is an answer to its call
pub item_asked : (wire : WireView) (old new : Instance) (call : Call) (reply : Reply) → IsSameInstance old new → new.bad_replies ≡ old.bad_replies → new.phase ≡ next_of old.shape old.phase call (Some reply) →
    Asked (view_of wire old) call (Ok reply) (view_of wire new)
item_asked wire old new call reply same bad phase = record {
  fixed = same_fixed wire old new same;
  phase = phase;
  talk = refl;
  state = refl;
  cause = record { later = omega (arith, bad); quiet = ap (λ (n : ℕ). wire.faults + n) bad; rose = tt };
}

-- what came answers no call, or stops before it
pub item_garbled : (wire : WireView) (old new : Instance) (call : Call) (head : List ℕ) → IsSameInstance old new → new.bad_replies ≡ one_more old.bad_replies → new.phase ≡ next_of old.shape old.phase call None →
    Asked (view_of wire old) call (Err (Garbled head)) (view_of wire new)
item_garbled wire old new call head same bad phase = record {
  fixed = same_fixed wire old new same;
  phase = phase;
  talk = refl;
  state = refl;
  cause = record { later = omega (arith, bad); quiet = tt; rose = omega (arith, bad) };
}

-- ---- a wire that failed or ended

received_later : (old new : WireView) (room : List ℕ) (fault : WireFault) → NotesReceive {T = Unit {0}} old new room (Err fault) → (bad : ℕ) → HasCause {T = ℕ} {E = PeerFault} (old.faults + bad) (new.faults + bad_after bad fault) (Err PF.Failed)
received_later old new room Ended (short, is) bad =
    let same : new.faults ≡ old.faults = ap (λ (w : WireView). w.faults) is in
    record { later = omega (arith, same); quiet = tt; rose = omega (arith, same) }
received_later old new room Failed (n, is) bad =
    let more : new.faults ≡ one_more old.faults = ap (λ (w : WireView). w.faults) is in
    record { later = omega (arith, more); quiet = tt; rose = omega (arith, more) }

broken_cause : (old new : WireView) (batch : List ℕ) (fault : WireFault) → BreaksOff old batch fault new → (bad : ℕ) → HasCause {T = ℕ} {E = PeerFault} (old.faults + bad) (new.faults + bad_after bad fault) (Err PF.Failed)
broken_cause old new batch Failed (inl (inl (n, is))) bad =
    let more : new.faults ≡ one_more old.faults = ap (λ (w : WireView). w.faults) is in
    record { later = omega (arith, more); quiet = tt; rose = omega (arith, more) }
broken_cause old new batch Ended (inl (inl none)) bad = absurd none
broken_cause old new batch fault (inl (inr (room, len, noted))) bad = received_later (with_sent old batch) new room fault noted bad
broken_cause old new batch fault (inr b) bad =
    subst (λ (n : ℕ). HasCause {T = ℕ} {E = PeerFault} (n + bad) (new.faults + bad_after bad fault) (Err PF.Failed)) (arrived_quietly old b.mid batch b.head b.came) (received_later b.mid new b.room fault b.broke bad)

-- the first call has no reply then
pub broken_asked : (before after : WireView) (old new : Instance) (batch : List ℕ) (fault : WireFault) (call : Call) → BreaksOff before batch fault after → IsSameInstance old new →
    new.bad_replies ≡ bad_after old.bad_replies fault → new.phase ≡ next_of old.shape old.phase call None → Asked (view_of before old) call (Err PF.Failed) (view_of after new)
broken_asked before after old new batch fault call breaks same bad phase = record {
  fixed = same_fixed before old new same;
  phase = phase;
  talk = refl;
  state = refl;
  cause = subst (λ (n : ℕ). HasCause {T = Reply} {E = PeerFault} (before.faults + old.bad_replies) (after.faults + n) (Err PF.Failed)) (sym bad) (of_reply (broken_cause before after batch fault breaks old.bad_replies));
}
  where
    of_reply : {m n : ℕ} → HasCause {T = ℕ} {E = PeerFault} m n (Err PF.Failed) → HasCause {T = Reply} {E = PeerFault} m n (Err PF.Failed)
    of_reply h = record { later = h.later; quiet = tt; rose = h.rose }

pub broken_many : (before after : WireView) (old new : Instance) (batch : List ℕ) (fault : WireFault) (calls : List Call) (d : Call) (replies : List Reply) → 0 < length calls → length replies ≡ length calls → MayAskAll old.shape old.phase calls →
    BreaksOff before batch fault after → IsSameInstance old new → new.bad_replies ≡ bad_after old.bad_replies fault → new.phase ≡ next_of old.shape old.phase (get_or calls 0 d) None →
    FaultsAfter (view_of before old) calls replies replies PF.Failed (view_of after new)
broken_many before after old new batch fault calls d replies some len may breaks same bad phase =
    faults_after (view_of before old) (view_of before old) (view_of after new) calls replies replies 0 d PF.Failed len some refl refl (λ k e lt. absurd (omega (arith, lt)))
    (permitted_now (view_of before old) (view_of before old) calls 0 d some refl may)
    (broken_asked before after old new batch fault (get_or calls 0 d) breaks same bad phase)

pub garbled_many : (wire : WireView) (old new : Instance) (head : List ℕ) (calls : List Call) (d : Call) (replies : List Reply) → 0 < length calls → length replies ≡ length calls → MayAskAll old.shape old.phase calls →
    IsSameInstance old new → new.bad_replies ≡ one_more old.bad_replies → new.phase ≡ next_of old.shape old.phase (get_or calls 0 d) None →
    FaultsAfter (view_of wire old) calls replies replies (Garbled head) (view_of wire new)
garbled_many wire old new head calls d replies some len may same bad phase =
    faults_after (view_of wire old) (view_of wire old) (view_of wire new) calls replies replies 0 d (Garbled head) len some refl refl (λ k e lt. absurd (omega (arith, lt)))
    (permitted_now (view_of wire old) (view_of wire old) calls 0 d some refl may)
    (item_garbled wire old new (get_or calls 0 d) head same bad phase)

-- a wire that tells nothing
abbrev pub still : WireView
still = wire_view None None 0

pub same_twice : (old mid new : Instance) → IsSameInstance old mid → IsSameInstance mid new → IsSameInstance old new
same_twice old mid new a b = record {
  host = b.host ∙ a.host;
  name = b.name ∙ a.name;
  directory = b.directory ∙ a.directory;
  shape = b.shape ∙ a.shape;
}

-- a wire that gave what came leaves what a peer tells
pub asked_from : (before after : WireView) (instance : Instance) (batch bytes : List ℕ) (calls : List Call) (was now : List Reply) (result : Result ℕ PeerFault) (new : View) → ArrivesAll before batch bytes after →
    AskedMany (view_of after instance) calls was now result new → AskedMany (view_of before instance) calls was now result new
asked_from before after instance batch bytes calls was now result new arrives asked =
    subst (λ (v : View). AskedMany v calls was now result new) (same_view before after instance (arrived_quietly before after batch bytes arrives)) asked
