-- The closing of several instances, one after the other.
use Rattle.std.specs.Prelude.{◌≡◌, ◌⊎◌, ℕ, ◌==◌, Bool, true, false, ◌||◌, ◌&&◌, if◌then◌else◌, is_some, unwrap_or, Some, List, [], ◌∷◌, ◌++◌, map, set, slice_get, All}
use Rattle.std.specs.List.{list_any}
use Rattle.fmi_calls.specs.declared.call.Call.TheVariants as C
use Rattle.fmi_calls.specs.declared.phase.InstanceState.TheVariants as P
use Rattle.fmi_calls.specs.Permission.{Permitted, can_be_freed}
use Rattle.fmu_peer.specs.declared.peer.Exchange.{Exchange}
use Rattle.fmu_peer.specs.declared.slot.Held.{Held}
use Rattle.fmu_peer.specs.declared.slot.Held.TheVariants.{Fresh, Instantiated, Initializing, Eventing, Stepping, Ended, Closed}
use Rattle.fmu_peer.specs.declared.slot.Slot.{Slot}
use Rattle.fmu_peer.specs.Close.{SendsInTurn, closing_calls, any_fatal}
use Rattle.fmu_peer.specs.Mode.{is_over}
use Rattle.fmu_peer.specs.Siblings.{Member, Siblings}
use Rattle.fmu_peer.specs.Talk.{Closed as IsClosedTalk, EndsKeeping, StartsBadly, phase_after}
use Rattle.fmu_peer.specs.View.{View}

-- an instance among others: its source, what is known of it, whether its saved state is still held, whether one of its answers was a refusal with Fatal, and whether its peer alone is left of it
pub record Instance : Type 0 where
  pub source : ℕ
  pub view : View
  pub has_saved : Bool
  pub is_fatal : Bool
  pub is_closed : Bool

abbrev pub peer_in : {L : Type 0} {g : _} → Held L g → L
peer_in (Fresh fmu) = fmu.peer
peer_in (Instantiated fmu) = fmu.peer
peer_in (Initializing fmu) = fmu.peer
peer_in (Eventing fmu) = fmu.peer
peer_in (Stepping fmu) = fmu.peer
peer_in (Ended ended) = ended.peer
peer_in (Closed peer) = peer

-- nothing but the peer is held
abbrev pub is_closed : {L : Type 0} {g : _} → Held L g → Bool
is_closed (Fresh fmu) = false
is_closed (Instantiated fmu) = false
is_closed (Initializing fmu) = false
is_closed (Eventing fmu) = false
is_closed (Stepping fmu) = false
is_closed (Ended ended) = false
is_closed (Closed peer) = true

-- the instance of a slot
abbrev pub instance_in : {L : Type 0} {g : _} → (L → View) → Slot L g → Instance
instance_in view slot = record {
  source = slot.source.0;
  view = view (peer_in slot.held);
  has_saved = is_some slot.saved;
  is_fatal = slot.is_fatal;
  is_closed = is_closed slot.held;
}

-- one of the instances of this source had an answer that was a refusal with Fatal
abbrev pub is_source_lost : ℕ → List Instance → Bool
is_source_lost source instances =
    list_any (λ (i : Instance). i.is_fatal && i.source == source) instances

-- an instance before and after its closing, and what it was sent in between
pub record Closing : Type 0 where
  pub old : Instance
  pub sent : List Exchange
  pub new : Instance

-- an instance that was made, at the end of its run: it can be freed or is lost, and where its state is saved, that can be freed first, or the talk ends with the Free that was answered Discard, or the instance is dead or lost
pub record Stands (i : Instance) (talk : List Exchange) : Type 0 where
  pub alive : (i.view.phase.state ≡ P.Lost) ⊎ (can_be_freed i.view.phase.state false ≡ true)
  pub kept : i.view.phase.slot.is_full ≡ true → (is_over i.view.phase.state ≡ true)
      ⊎ (((i.has_saved ≡ true) × Permitted i.view.fixed.shape i.view.phase C.Free) ⊎
      ((i.has_saved ≡ false) × EndsKeeping talk))

-- how a run leaves an instance with this talk: it wasn't called, or wasn't made, or stands
pub record IsLeft (i : Instance) (talk : List Exchange) : Type 0 where
  pub leads : i.view.phase ≡ phase_after i.view.fixed.shape talk
  pub stands : (talk ≡ []) ⊎ (StartsBadly i.view.fixed.shape talk ⊎ Stands i talk)

-- the instance is sent what closes it, or nothing where it is spared; as a run leaves it, it is closed by that
pub record ClosesOne (spared : Bool) (c : Closing) : Type 0 where
  pub turn : SendsInTurn (if spared then [] else closing_calls c.old.has_saved)
      c.old.view c.sent c.new.view
  pub source : c.new.source ≡ c.old.source
  pub spent : c.new.has_saved ≡ false
  pub shut : c.new.is_closed ≡ true
  pub fatal : c.new.is_fatal ≡ (c.old.is_fatal || any_fatal c.old.view.fixed.shape c.sent)
  pub closed : spared ≡ false → (talk : List Exchange) → IsLeft c.old talk →
      IsClosedTalk c.old.view.fixed.shape (talk ++ c.sent)

-- the same, told by the instance before and after
abbrev pub Closes : Bool → Instance → Instance → Type 0
Closes spared old new =
    (sent : List Exchange) × ClosesOne spared (record { old = old; sent = sent; new = new })

-- the instance at this place alone is closed, or spared where one of its source answered by Fatal
pub record ClosesAt (place : ℕ) (old new : List Instance) : Type 0 where
  pub closing : Closing
  pub here : slice_get old place ≡ Some closing.old
  pub only : new ≡ set old place closing.new
  pub one : ClosesOne (is_source_lost closing.old.source old) closing

abbrev pub befores : List Closing → List Instance
befores cs = map (λ (c : Closing). c.old) cs

abbrev pub afters : List Closing → List Instance
afters cs = map (λ (c : Closing). c.new) cs

-- after instances that are closed: each is closed in its turn, and spared where one of its source, as they all stand then, answered by Fatal
abbrev pub InOrder : List Instance → List Closing → Type 0
InOrder closed [] = Unit {0}
InOrder closed (c ∷ cs) =
    ClosesOne (is_source_lost c.old.source (closed ++ c.old ∷ befores cs)) c ×
    InOrder (closed ++ c.new ∷ []) cs

-- a Fatal in its told talk is known of the instance
abbrev pub KnowsFatal : Instance → Type 0
KnowsFatal i = any_fatal i.view.fixed.shape (unwrap_or i.view.talk []) ≡ true → i.is_fatal ≡ true

-- its exchanges before the closing, where they are told, and those of the closing
abbrev pub member_of : Closing → Member
member_of c = record {
  source = c.old.source;
  shape = c.old.view.fixed.shape;
  run = unwrap_or c.old.view.talk [];
  closing = c.sent;
}

-- the instances were closed in their order; what the run did is that of the talks before
pub record ClosesAll (old new : List Instance) : Type 0 where
  pub closings : List Closing
  pub old_is : old ≡ befores closings
  pub new_is : new ≡ afters closings
  pub order : InOrder [] closings
  pub siblings : All KnowsFatal old → Siblings (map member_of closings)
