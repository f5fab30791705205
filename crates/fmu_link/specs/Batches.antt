-- Several calls over a wire in one batch: it is sent alone, and its reply is a head that tells a count, and so many frames after it.
use Rattle.std.specs.Prelude.{◌≡◌, ◌⊎◌, ℕ, ◌+◌, ◌*◌, ◌<◌, ◌≤◌, Bool, true, false, List, [], ◌∷◌, ◌++◌, length, take, get_or, Result, Ok, Err}
use Rattle.sim_base.specs.Causes.{one_more}
use Rattle.fmi_calls.specs.Kinds.{kind_of, kind_of_reply}
use Rattle.fmi_calls.specs.declared.call.Call.{Call}
use Rattle.fmi_calls.specs.declared.call.Call.TheVariants as C
use Rattle.fmi_calls.specs.declared.call.Content.TheVariants as A
use Rattle.fmi_calls.specs.declared.call.Reply.{Reply}
use Rattle.fmi_calls.specs.declared.call.Reply.TheVariants as R
use Rattle.fmu_peer.specs.declared.peer.PeerFault.{PeerFault}
use Rattle.fmu_peer.specs.declared.peer.PeerFault.TheVariants as P
use Rattle.link_frames.specs.declared.call.CallFrame.{CallFrame}
use Rattle.link_frames.specs.Batch.{IsBatch, IsHeadOf, IsReplyBatch, frames_of, kind_of_first, kind_of_first_reply}
use Rattle.link_frames.specs.Call.{IsCallFrame}
use Rattle.link_frames.specs.Reply.{IsReplyFrame}
use Rattle.fmu_link.specs.declared.instance.Instance.{Instance}
use Rattle.fmu_link.specs.declared.wire.WireFault.{WireFault}
use Rattle.fmu_link.specs.Exchange.{Breaks, Exchanged, LineView, bad_after}
use Rattle.fmu_link.specs.Wire.{WireView, NotesReceive, with_prefix, with_sent}

-- the wire took all of the batch, and these bytes came
abbrev pub ArrivesAll : WireView → List ℕ → List ℕ → WireView → Type 0
ArrivesAll old batch bytes new = with_sent old batch ≡ with_prefix bytes new

-- how many bytes are asked for after a batch: a head, and after it a frame for each reply that it counts, or no more where it is the head of no batch
abbrev pub IsAskedFor : List ℕ → Type 0
IsAskedFor bytes =
    ((length bytes ≡ 24) × ((count : ℕ) → IsHeadOf count bytes → ⊥)) ⊎
    ((count : ℕ) × IsHeadOf count (take 24 bytes) × (length bytes ≡ 24 * (count + 1)))

-- a head came after the batch, and the wire failed or ended before all was there that it counts
pub record BreaksAfter (old : WireView) (batch : List ℕ) (fault : WireFault) (new : WireView) : Type 0 where
  pub head : List ℕ
  pub count : ℕ
  pub is_head : IsHeadOf count head
  pub mid : WireView
  pub came : ArrivesAll old batch head mid
  pub room : List ℕ
  pub awaited : length room ≡ 24 * count
  pub broke : NotesReceive {T = Unit {0}} mid new room (Err fault)

-- the wire failed or ended before the head was there, or after it
abbrev pub BreaksOff : WireView → List ℕ → WireFault → WireView → Type 0
BreaksOff old batch fault new =
    Breaks old batch fault new ⊎ BreaksAfter old batch fault new

-- but for its phase and its count of replies that were garbled or cut it is as it was
pub record IsSameInstance (old new : Instance) : Type 0 where
  pub host : new.host ≡ old.host
  pub name : new.name ≡ old.name
  pub directory : new.directory ≡ old.directory
  pub shape : new.shape ≡ old.shape

-- ---- what came

-- these replies may answer the calls: there are no more, and they are of their kind
abbrev pub Answers : List Call → List Reply → Type 0
Answers calls replies =
    (length replies ≤ length calls) × (kind_of_first_reply replies ≡ kind_of_first calls)

-- the bytes are no batch of replies that may answer the calls
abbrev pub IsNoAnswer : List Call → List ℕ → Type 0
IsNoAnswer calls bytes =
    (replies : List Reply) → IsBatch IsReplyFrame kind_of_reply replies bytes →
    Answers calls replies → ⊥

-- if they are a batch of replies, it is one that may
abbrev pub MayAnswer : List Call → List ℕ → Type 0
MayAnswer calls bytes =
    (replies : List Reply) → IsBatch IsReplyFrame kind_of_reply replies bytes →
    Answers calls replies

-- if they are a batch of replies, this one stands there at this place
abbrev pub IsItem : List ℕ → ℕ → Reply → Type 0
IsItem bytes i reply =
    (replies : List Reply) (default : Reply) →
    IsBatch IsReplyFrame kind_of_reply replies bytes → get_or replies i default ≡ reply

-- they are a batch of replies, of which one stands at this place
abbrev pub HasItem : List ℕ → ℕ → Type 0
HasItem bytes i = (count : ℕ) × IsReplyBatch count bytes × (i < count)

-- they are one, of which the first are told, so many
pub record TellsFirst (calls : List Call) (bytes : List ℕ) (told : List Reply)
    (count : ℕ) : Type 0 where
  pub replies : List Reply
  pub is_batch : IsBatch IsReplyFrame kind_of_reply replies bytes
  pub answers : Answers calls replies
  pub within : count ≤ length replies
  pub first : take count told ≡ take count replies

-- they are one of fewer replies than calls, which are all told
pub record FallsShort (calls : List Call) (bytes : List ℕ) (told : List Reply) : Type 0 where
  pub replies : List Reply
  pub is_batch : IsBatch IsReplyFrame kind_of_reply replies bytes
  pub answers : Answers calls replies
  pub few : length replies < length calls
  pub all : take (length replies) told ≡ replies

-- what the bytes say of the calls: replies to the first of them; or they answer no such batch, or not all of it, and their head is kept
abbrev pub SaysMany : List Call → List ℕ → List Reply → Result ℕ PeerFault → Type 0
SaysMany calls bytes told (Ok count) = TellsFirst calls bytes told count
SaysMany calls bytes told (Err (P.Garbled head)) =
    (head ≡ take 24 bytes) × (IsNoAnswer calls bytes ⊎ FallsShort calls bytes told)
SaysMany calls bytes told (Err P.Failed) = ⊥

-- a batch that is garbled, or has too few replies, is counted
abbrev pub bad_with : ℕ → Result ℕ PeerFault → ℕ
bad_with bad_replies (Ok count) = bad_replies
bad_with bad_replies (Err fault) = one_more bad_replies

-- ---- what a batch makes of the line

-- as many bytes came as are asked for, and this is what they say
pub record HearsBatch (old new : LineView) (calls : List Call) (batch : List ℕ)
    (told : List Reply) (result : Result ℕ PeerFault) : Type 0 where
  pub bytes : List ℕ
  pub came : ArrivesAll old.wire batch bytes new.wire
  pub asked_for : IsAskedFor bytes
  pub says : SaysMany calls bytes told result
  pub counted : new.bad_replies ≡ bad_with old.bad_replies result

-- the wire failed or ended
pub record LosesBatch (old new : LineView) (batch : List ℕ)
    (result : Result ℕ PeerFault) : Type 0 where
  pub fault : WireFault
  pub is : result ≡ Err P.Failed
  pub broke : BreaksOff old.wire batch fault new.wire
  pub counted : new.bad_replies ≡ bad_after old.bad_replies fault

-- the batch of these calls was sent alone, and its reply awaited
pub record ExchangedMany (calls : List Call) (old new : LineView) (told : List Reply)
    (result : Result ℕ PeerFault) : Type 0 where
  pub batch : List ℕ
  pub is_batch : IsBatch IsCallFrame (λ (f : CallFrame). kind_of f.call) (frames_of calls) batch
  pub noted : HearsBatch old new calls batch told result ⊎ LosesBatch old new batch result

-- these calls went one by one, each in a frame of its own, and got these replies
abbrev pub GoSingly : LineView → List Call → List Reply → LineView → Type 0
GoSingly old [] replies new = new ≡ old
GoSingly old (call ∷ calls) [] new = ⊥
GoSingly old (call ∷ calls) (reply ∷ replies) new =
    (name : List ℕ) × (token : List ℕ) × (mid : LineView) ×
    Exchanged call name token old mid (Ok reply) × GoSingly mid calls replies new

-- so the first of the calls did, and the one after them got this fault
pub record BreaksSingly (calls : List Call) (old : LineView) (fault : PeerFault)
    (new : LineView) : Type 0 where
  pub prefix : List Call
  pub call : Call
  pub left : List Call
  pub calls_are : calls ≡ prefix ++ call ∷ left
  pub replies : List Reply
  pub mid : LineView
  pub went : GoSingly old prefix replies mid
  pub name : List ℕ
  pub token : List ℕ
  pub broke : Exchanged call name token mid new (Err fault)

-- where batches were agreed the calls go in one, and else one by one
abbrev pub GoAsAgreed : Bool → List Call → LineView → LineView → List Reply →
    Result ℕ PeerFault → Type 0
GoAsAgreed true calls old new after result = ExchangedMany calls old new after result
GoAsAgreed false calls old new after (Ok count) =
    GoSingly old (take count calls) (take count after) new
GoAsAgreed false calls old new after (Err fault) = BreaksSingly calls old fault new

-- ---- what was agreed

-- the call asks for batches
abbrev pub asks_for_batches : Call → Bool
asks_for_batches (C.Instantiate event_mode early_return batches) = batches
asks_for_batches call = false

-- the answer says that the host takes them
abbrev pub agrees_to_batches : Result Reply PeerFault → Bool
agrees_to_batches (Ok (R.Done is_warning (A.Instantiate batches))) = batches
agrees_to_batches answer = false
