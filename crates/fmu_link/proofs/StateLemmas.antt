-- A frame with bytes after it, and bytes after a reply.
use Rattle.std.proofs.Common.{◌≡◌, ◌⊎◌, inl, inr, ℕ, ◌+◌, ◌≤◌, ◌<◌, ◌^◌, List, [], ◌++◌, append_assoc, length, take, drop, Option, Some, None, refl, sym, ap, ap₂, ◌∙◌, subst, arith}
use Rattle.std.specs.Prelude.{Result, Ok, Err}
use Rattle.std.specs.Option.{option_map}
use Rattle.std.proofs.Math.Seq.{take-append-add}
use Rattle.std.proofs.lemmas.List.{take-append-drop, take_at}
use Rattle.sim_base.specs.Causes.{HasCause, one_more}
use Rattle.fmi_calls.specs.declared.call.Content.TheVariants.{Serialize}
use Rattle.fmi_calls.specs.declared.call.Reply.{Reply}
use Rattle.fmi_calls.specs.declared.call.Reply.TheVariants.{Done}
use Rattle.link_frames.specs.Reply.{IsReplyFrame}
use Rattle.fmu_peer.specs.Machine.{bytes_after_reply}
use Rattle.fmu_peer.specs.View.{Serializes}
use Rattle.fmu_peer.specs.declared.peer.PeerFault.{PeerFault}
use Rattle.fmu_peer.specs.declared.peer.PeerFault.TheVariants as P
use Rattle.fmu_link.specs.declared.instance.Instance.{Instance}
use Rattle.fmu_link.specs.declared.wire.WireFault.{WireFault}
use Rattle.fmu_link.specs.declared.wire.WireFault.TheVariants.{Failed, Ended}
use Rattle.fmu_link.specs.Exchange.{Arrives, Breaks, HearsState, LineView, LosesState, NotesCall, NotesSerialize, bad_after, count_after}
use Rattle.fmu_link.specs.Piped.{view_of}
use Rattle.fmu_link.specs.Wire.{WireView, NotesReceive, NotesSend, with_fault, with_prefix, with_sent}

-- ---- sent in two parts

sent_joined : (a b : List ℕ) (view : WireView) → with_sent (with_sent view a) b ≡ with_sent view (a ++ b)
sent_joined a b view = ap (λ (o : Option (List ℕ)). record view { sent = o }) (by view.sent)
  where
    by : (o : Option (List ℕ)) → option_map (λ (before : List ℕ). before ++ b) (option_map (λ (before : List ℕ). before ++ a) o) ≡ option_map (λ (before : List ℕ). before ++ (a ++ b)) o
    by None = refl
    by (Some before) = ap Some (append_assoc before a b)

-- a part of the first is one of both
first_part : (n : ℕ) (a b : List ℕ) → take (length (take n a)) (a ++ b) ≡ take n a
first_part n a b =
    let m = length (take n a) in
    ap (λ (l : List ℕ). take m (l ++ b)) (sym (take-append-drop n a)) ∙ ap (take m) (append_assoc (take n a) (drop n a) b) ∙ take_at (take n a) (drop n a ++ b) m refl

breaks_first : (old new : WireView) (a b : List ℕ) (fault : WireFault) → NotesSend {T = Unit {0}} old new a (Err fault) → NotesSend {T = Unit {0}} old new (a ++ b) (Err fault)
breaks_first old new a b Failed (n, e) = (length (take n a), e ∙ ap (λ (l : List ℕ). with_fault (with_sent old l)) (sym (first_part n a b)))
breaks_first old new a b Ended h = absurd h

breaks_second : (old mid new : WireView) (a b : List ℕ) (fault : WireFault) → mid ≡ with_sent old a → NotesSend {T = Unit {0}} mid new b (Err fault) → NotesSend {T = Unit {0}} old new (a ++ b) (Err fault)
breaks_second old mid new a b Failed is (n, e) =
    (length a + n, e ∙ ap (λ (w : WireView). with_fault (with_sent w (take n b))) is ∙ ap with_fault (sent_joined a (take n b) old) ∙ ap (λ (l : List ℕ). with_fault (with_sent old l)) (sym (take-append-add a b n)))
breaks_second old mid new a b Ended is h = absurd h

both_sent : (old mid : WireView) (a b : List ℕ) → mid ≡ with_sent old a → with_sent mid b ≡ with_sent old (a ++ b)
both_sent old mid a b is = ap (λ (w : WireView). with_sent w b) is ∙ sent_joined a b old

breaks_both : (old mid new : WireView) (a b : List ℕ) (fault : WireFault) → mid ≡ with_sent old a → Breaks mid b fault new → Breaks old (a ++ b) fault new
breaks_both old mid new a b fault is (inl send) = inl (breaks_second old mid new a b fault is send)
breaks_both old mid new a b fault is (inr (room, long, notes)) =
    inr (room, long, subst (λ (w : WireView). NotesReceive {T = Unit {0}} w new room (Err fault)) (both_sent old mid a b is) notes)

arrives_both : (old mid new : WireView) (a b bytes : List ℕ) → mid ≡ with_sent old a → Arrives mid b bytes new → Arrives old (a ++ b) bytes new
arrives_both old mid new a b bytes is h = record { whole = h.whole; noted = sym (both_sent old mid a b is) ∙ h.noted }

-- the first part was sent, and the second is
pub calls_both : (old mid new : LineView) (a b : List ℕ) (result : Result Reply PeerFault) → mid.wire ≡ with_sent old.wire a → mid.bad_replies ≡ old.bad_replies → NotesCall mid new b result → NotesCall old new (a ++ b) result
calls_both old mid new a b (Ok reply) is same (bytes, came, spelled, counted) = (bytes, arrives_both old.wire mid.wire new.wire a b bytes is came, spelled, counted ∙ same)
calls_both old mid new a b (Err (P.Garbled bytes)) is same (came, none, counted) = (arrives_both old.wire mid.wire new.wire a b bytes is came, none, counted ∙ ap one_more same)
calls_both old mid new a b (Err P.Failed) is same (fault, broke, counted) = (fault, breaks_both old.wire mid.wire new.wire a b fault is broke, counted ∙ ap (λ (n : ℕ). bad_after n fault) same)

-- the first part wasn't
pub lost_first : (old new : LineView) (a b : List ℕ) (fault : WireFault) → NotesSend {T = Unit {0}} old.wire new.wire a (Err fault) → new.bad_replies ≡ old.bad_replies → NotesCall old new (a ++ b) (Err P.Failed)
lost_first old new a b Failed h same = (Failed, inl (breaks_first old.wire new.wire a b Failed h), same)
lost_first old new a b Ended h same = absurd h

-- ---- bytes after a reply

few_bytes : (reply : Reply) (bytes : List ℕ) → IsReplyFrame reply bytes → bytes_after_reply reply ≤ 2 ^ 20
few_bytes (Done is_warning (Serialize count)) bytes h = h.can_be_told
few_bytes reply bytes h = omega arith

pub few_after : (old new : LineView) (frame : List ℕ) (answer : Result Reply PeerFault) → NotesCall old new frame answer → count_after answer ≤ 2 ^ 20
few_after old new frame (Ok reply) (bytes, came, spelled, counted) = few_bytes reply bytes spelled
few_after old new frame (Err fault) h = omega arith

no_prefix : (view : WireView) → view ≡ with_prefix [] view
no_prefix view = ap (λ (o : Option (List ℕ)). record view { coming = o }) (by view.coming)
  where
    by : (o : Option (List ℕ)) → o ≡ option_map (λ (rest : List ℕ). [] ++ rest) o
    by None = refl
    by (Some rest) = refl

-- no bytes are to come, and none were asked for
pub none_after : (line : LineView) (answer : Result Reply PeerFault) (state : List ℕ) → count_after answer ≡ 0 → state ≡ [] → HearsState line line answer answer state
none_after line answer state none empty = record {
  is = refl;
  whole = ap length empty ∙ sym none;
  came = no_prefix line.wire ∙ ap (λ (l : List ℕ). with_prefix l line.wire) (sym empty);
  counted = refl;
}

-- all of them came, and are the prefix of the room
pub heard : (old new : LineView) (answer : Result Reply PeerFault) (count : ℕ) (part items : List ℕ) → count ≡ count_after answer → length part ≡ count → old.wire ≡ with_prefix part new.wire → new.bad_replies ≡ old.bad_replies →
    HearsState old new answer answer (take count (part ++ drop (length part) items))
heard old new answer count part items told size came counted =
    let all : take count (part ++ drop (length part) items) ≡ part = take_at part (drop (length part) items) count size in
    record { is = refl; whole = ap length all ∙ size ∙ told; came = came ∙ ap (λ (l : List ℕ). with_prefix l new.wire) (sym all); counted = counted }

-- ---- what a Serialize is to a peer

-- the bytes are those that follow the reply
pub followed : (wire : WireView) (instance : Instance) (old new : LineView) (frame : List ℕ) (result : Result Reply PeerFault) (state : List ℕ) → NotesSerialize old new frame result state → Serializes (view_of wire instance) result state
followed wire instance old new frame (Err fault) state h = tt
followed wire instance old new frame (Ok reply) state h = by h.after
  where
    by : HearsState h.mid new h.answer (Ok reply) state ⊎ LosesState h.mid new h.answer (Ok reply) → Serializes (view_of wire instance) (Ok reply) state
    by (inl heard) =
        let few = few_after old h.mid frame h.answer h.called in
        record { count = heard.whole ∙ ap count_after (sym heard.is); few = omega (arith, heard.whole, few); packed = tt }
    by (inr lost) = absurd (let wrong = lost.is in cc)

abbrev faults_of : LineView → ℕ
faults_of line = line.wire.faults + line.bad_replies

-- a call that was answered raises no count, and one that was not raises it
caused : (old new : LineView) (frame : List ℕ) (result : Result Reply PeerFault) → NotesCall old new frame result → HasCause (faults_of old) (faults_of new) result
caused old new frame (Ok reply) (bytes, came, spelled, counted) =
    let wires : old.wire.faults ≡ new.wire.faults = ap (λ (w : WireView). w.faults) came.noted in
    let same : faults_of new ≡ faults_of old = omega (arith, wires, counted) in
    record { later = omega (arith, same); quiet = same; rose = tt }
caused old new frame (Err (P.Garbled bytes)) (came, none, counted) =
    let wires : old.wire.faults ≡ new.wire.faults = ap (λ (w : WireView). w.faults) came.noted in
    record { later = omega (arith, wires, counted); quiet = tt; rose = omega (arith, wires, counted) }
caused old new frame (Err P.Failed) (fault, broke, counted) = by fault broke counted
  where
    by : (fault : WireFault) → Breaks old.wire frame fault new.wire → new.bad_replies ≡ bad_after old.bad_replies fault → HasCause {T = Reply} {E = PeerFault} (faults_of old) (faults_of new) (Err P.Failed)
    by Failed (inl (n, e)) counted = let wires : new.wire.faults ≡ one_more old.wire.faults = ap (λ (w : WireView). w.faults) e in record { later = omega (arith, wires, counted); quiet = tt; rose = omega (arith, wires, counted) }
    by Failed (inr (room, long, (n, e))) counted = let wires : new.wire.faults ≡ one_more old.wire.faults = ap (λ (w : WireView). w.faults) e in record { later = omega (arith, wires, counted); quiet = tt; rose = omega (arith, wires, counted) }
    by Ended (inl wrong) counted = absurd wrong
    by Ended (inr (room, long, (short, e))) counted = let wires : new.wire.faults ≡ old.wire.faults = ap (λ (w : WireView). w.faults) e in record { later = omega (arith, wires, counted); quiet = tt; rose = omega (arith, wires, counted) }

-- where bytes follow the answer it is a reply
answered : (old mid : LineView) (frame : List ℕ) (answer : Result Reply PeerFault) → NotesCall old mid frame answer → 0 < count_after answer → faults_of mid ≡ faults_of old
answered old mid frame (Ok reply) h some = (caused old mid frame (Ok reply) h).quiet
answered old mid frame (Err fault) h some = absurd (omega (arith, some))

lost_after : (mid new : LineView) (room : List ℕ) (fault : WireFault) → NotesReceive {T = Unit {0}} mid.wire new.wire room (Err fault) → new.bad_replies ≡ bad_after mid.bad_replies fault →
    HasCause {T = Reply} {E = PeerFault} (faults_of mid) (faults_of new) (Err P.Failed)
lost_after mid new room Failed (n, e) counted = let wires : new.wire.faults ≡ one_more mid.wire.faults = ap (λ (w : WireView). w.faults) e in record { later = omega (arith, wires, counted); quiet = tt; rose = omega (arith, wires, counted) }
lost_after mid new room Ended (short, e) counted = let wires : new.wire.faults ≡ mid.wire.faults = ap (λ (w : WireView). w.faults) e in record { later = omega (arith, wires, counted); quiet = tt; rose = omega (arith, wires, counted) }

pub state_caused : (old new : LineView) (frame : List ℕ) (result : Result Reply PeerFault) (state : List ℕ) → NotesSerialize old new frame result state → HasCause (faults_of old) (faults_of new) result
state_caused old new frame result state h = by h.after
  where
    by : HearsState h.mid new h.answer result state ⊎ LosesState h.mid new h.answer result → HasCause (faults_of old) (faults_of new) result
    by (inl heard) =
        let wires : h.mid.wire.faults ≡ new.wire.faults = ap (λ (w : WireView). w.faults) heard.came in
        let same : faults_of h.mid ≡ faults_of new = omega (arith, wires, heard.counted) in
        subst (λ (r : Result Reply PeerFault). HasCause (faults_of old) (faults_of new) r) (sym heard.is)
        (subst (λ (n : ℕ). HasCause (faults_of old) n h.answer) same (caused old h.mid frame h.answer h.called))
    by (inr lost) =
        subst (λ (r : Result Reply PeerFault). HasCause (faults_of old) (faults_of new) r) (sym lost.is)
        (subst (λ (n : ℕ). HasCause {T = Reply} {E = PeerFault} n (faults_of new) (Err P.Failed)) (answered old h.mid frame h.answer h.called lost.some)
        (lost_after h.mid new lost.room lost.fault lost.broke lost.counted))
