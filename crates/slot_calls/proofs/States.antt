-- Which saved state is held after a list of exchanges.
use Rattle.std.proofs.Common.{◌≡◌, Bool, false, List, [], ◌∷◌, ◌++◌, Option, Result, refl}
use Rattle.value_types.specs.declared.shape.Shape.{Shape}
use Rattle.fmi_calls.specs.declared.call.Call.{Call}
use Rattle.fmi_calls.specs.declared.call.Call.TheVariants as C
use Rattle.fmi_calls.specs.declared.call.Reply.{Reply}
use Rattle.fmi_calls.specs.KindFacts.{keeps_state}
use Rattle.fmu_peer.specs.declared.peer.Exchange.{Exchange}
use Rattle.fmu_peer.specs.declared.peer.PeerFault.{PeerFault}
use Rattle.slot_calls.specs.SavedStates.{has_served, has_stepped, last_step, saved_after, saved_by, serves, step_or, steps}

pub saved_on : (shape : Shape) (saved : Bool) (es fs : List Exchange) → saved_after shape saved (es ++ fs) ≡ saved_after shape (saved_after shape saved es) fs
saved_on shape saved [] fs = refl
saved_on shape saved (e ∷ es) fs = saved_on shape (saved_by shape e.call e.result saved) es fs

-- the last step after a list, and whether one comes after the last Save
pub last_on : (before : Option Exchange) (es fs : List Exchange) → last_step before (es ++ fs) ≡ last_step (last_step before es) fs
last_on before [] fs = refl
last_on before (e ∷ es) fs = last_on (step_or e e.call before) es fs

pub stepped_on : (stepped : Bool) (es fs : List Exchange) → has_stepped stepped (es ++ fs) ≡ has_stepped (has_stepped stepped es) fs
stepped_on stepped [] fs = refl
stepped_on stepped (e ∷ es) fs = stepped_on (steps e.call stepped) es fs

-- and whether what is saved has served
pub served_on : (shape : Shape) (stepped served : Bool) (es fs : List Exchange) → has_served shape stepped served (es ++ fs) ≡ has_served shape (has_stepped stepped es) (has_served shape stepped served es) fs
served_on shape stepped served [] fs = refl
served_on shape stepped served (e ∷ es) fs = served_on shape (steps e.call stepped) (serves shape e.call e.result stepped served) es fs

-- a call that keeps no state leaves it
pub saved_same : (shape : Shape) (call : Call) (result : Result Reply PeerFault) (saved : Bool) → keeps_state call ≡ false → saved_by shape call result saved ≡ saved
saved_same shape C.Save result saved none = absurd (cc)
saved_same shape C.Free result saved none = absurd (cc)
saved_same shape (C.Deserialize length point stop) result saved none = absurd (cc)
saved_same shape call result saved none = refl
