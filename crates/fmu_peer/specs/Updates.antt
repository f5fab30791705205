-- Which Updates the run of several FMUs needs (FMI 3.0, 4.2.1: Event Mode, fmi3UpdateDiscreteStates; 2.2.9: fmi3GetIntervalFraction). Each FMU with event mode has one Update in an instant, so the k-th Updates of their talks are those of the k-th instant.
use Rattle.std.specs.Prelude.{◌≡◌, ℕ, suc, ◌==◌, ◌||◌, Bool, true, false, List, [], ◌∷◌, ◌++◌, Some, Contains, Result, Ok, Err}
use Rattle.std.specs.List.{list_any, slice_get}
use Rattle.std.specs.Option.{option_map_or}
use Rattle.fmi_calls.specs.declared.call.Call.{Call}
use Rattle.fmi_calls.specs.declared.call.Call.TheVariants as C
use Rattle.fmi_calls.specs.declared.call.Content.TheVariants as A
use Rattle.fmi_calls.specs.declared.call.Interval.TheVariants.{Changed}
use Rattle.fmi_calls.specs.declared.call.Reply.{Reply}
use Rattle.fmi_calls.specs.declared.call.Reply.TheVariants.{Done, Refused}
use Rattle.fmu_peer.specs.declared.peer.Exchange.{Exchange}
use Rattle.fmu_peer.specs.declared.peer.PeerFault.{PeerFault}

-- an Update of a talk: whether its answer asks for another, whether it asks for the end, whether a countdown Clock was armed for the same point in its instant, and whether an Update stands before it in the same stay in Event Mode
pub record UpdateMark : Type 0 where
  pub again : Bool
  pub ends : Bool
  pub arms : Bool
  pub follows : Bool

abbrev pub asks_again : Result Reply PeerFault → Bool
asks_again (Ok (Done is_warning (A.Update again terminate event_time))) = again
asks_again (Ok (Done is_warning content)) = false
asks_again (Ok (Refused kind status)) = false
asks_again (Err fault) = false

abbrev pub asks_for_end : Result Reply PeerFault → Bool
asks_for_end (Ok (Done is_warning (A.Update again terminate event_time))) = terminate
asks_for_end (Ok (Done is_warning content)) = false
asks_for_end (Ok (Refused kind status)) = false
asks_for_end (Err fault) = false

-- the answer to a GetInterval is a new interval of no length: the Clock is armed for the point where it was asked
abbrev pub is_instant_interval : Result Reply PeerFault → Bool
is_instant_interval (Ok (Done is_warning (A.GetInterval (Changed f)))) = f.counter == 0
is_instant_interval (Ok (Done is_warning content)) = false
is_instant_interval (Ok (Refused kind status)) = false
is_instant_interval (Err fault) = false

-- what stands before in a stay in Event Mode: an Update, and in the instant that it is in, a Clock that was armed for its point
pub record Stay : Type 0 where
  pub follows : Bool
  pub arms : Bool

-- outside Event Mode, or at the beginning of a stay
abbrev pub no_stay : Stay
no_stay = record { follows = false; arms = false }

-- the mark of an exchange that is an Update
abbrev pub marks_of : Stay → Call → Result Reply PeerFault → List UpdateMark
marks_of stay C.Update result =
    record {
      again = asks_again result;
      ends = asks_for_end result;
      arms = stay.arms;
      follows = stay.follows;
    } ∷ []
marks_of stay call result = []

-- what stands before, after an exchange
abbrev pub stay_after_exchange : Stay → Call → Result Reply PeerFault → Stay
stay_after_exchange stay C.Update result = record { follows = true; arms = false }
stay_after_exchange stay (C.GetInterval reference) result =
    record stay { arms = stay.arms || is_instant_interval result }
stay_after_exchange stay C.ExitInitialization result = no_stay
stay_after_exchange stay C.EnterStep result = no_stay
stay_after_exchange stay call result = stay

abbrev pub updates_from : Stay → List Exchange → List UpdateMark
updates_from stay [] = []
updates_from stay (e ∷ es) =
    marks_of stay e.call e.result ++ updates_from (stay_after_exchange stay e.call e.result) es

-- the Updates of a talk, in their order
abbrev pub updates_in : List Exchange → List UpdateMark
updates_in talk = updates_from no_stay talk

-- the k-th Update of one of the talks passes the test
abbrev pub any_mark : (UpdateMark → Bool) → ℕ → List (List Exchange) → Bool
any_mark test k talks =
    list_any (λ (talk : List Exchange).
    option_map_or test (slice_get (updates_in talk) k) false) talks

-- an Update follows another at one point only where, in that other's instant, one asked for another or a Clock was armed for the point, and none asked for the end
abbrev pub AreUpdatesNeeded : List (List Exchange) → Type 0
AreUpdatesNeeded talks =
    (k : ℕ) (talk : List Exchange) (mark : UpdateMark) → Contains talks talk →
    slice_get (updates_in talk) (suc k) ≡ Some mark → mark.follows ≡ true →
    (any_mark (λ (m : UpdateMark). m.again || m.arms) k talks ≡ true) ×
    (any_mark (λ (m : UpdateMark). m.ends) k talks ≡ false)
