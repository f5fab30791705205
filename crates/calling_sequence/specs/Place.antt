-- Where the instances of a run stand (FMI 3.0, 4.2.1).
use Rattle.std.specs.Prelude.{◌≡◌, ℕ, true, false, None, IfSome, length}
use Rattle.fmi_calls.specs.Next.{running_state}
use Rattle.fmi_calls.specs.Permission.{none_marked}
use Rattle.fmi_calls.specs.declared.phase.InstanceState.TheVariants as P
use Rattle.fmu_peer.specs.View.{View}
use Rattle.rollback.specs.Standing.{TakesSize}

-- for each variable it is kept whether it is an active Clock
abbrev pub TracksActivity : View → Type 0
TracksActivity v = length v.phase.active ≡ length v.fixed.shape.variables

-- nothing is set, in the instant or since the last step, and no state is saved
pub record IsClear (v : View) : Type 0 where
  pub unset : none_marked v.phase.marks ≡ true
  pub empty : v.phase.slot.is_full ≡ false

-- made
pub record IsMade (v : View) : Type 0 where
  pub state : v.phase.state ≡ P.Instantiated
  pub unstepped : v.phase.first_size ≡ None
  pub clear : IsClear v
  pub room : TracksActivity v

-- in Initialization Mode between start and stop
pub record IsInitializing (start stop : ℕ) (v : View) : Type 0 where
  pub state : v.phase.state ≡ P.Initialization
  pub point : v.phase.point ≡ start
  pub stop_is : v.phase.stop ≡ stop
  pub unstepped : v.phase.first_size ≡ None
  pub clear : IsClear v
  pub room : TracksActivity v

-- at a point, with this stop, after steps of sizes that the plan's step allows, with no state saved
pub record IsThere (t stop step : ℕ) (v : View) : Type 0 where
  pub point : v.phase.point ≡ t
  pub stop_is : v.phase.stop ≡ stop
  pub sized : IfSome v.phase.first_size (λ size. TakesSize step size v.fixed.shape)
  pub empty : v.phase.slot.is_full ≡ false
  pub room : TracksActivity v

-- there, in an instant: in Event Mode, or without event mode in Step Mode
pub record IsInInstant (t stop step : ℕ) (v : View) : Type 0 where
  pub there : IsThere t stop step v
  pub state : v.phase.state ≡ running_state v.fixed.shape

-- the same before its Updates: without event mode no input is set since the last step
pub record IsTaking (t stop step : ℕ) (v : View) : Type 0 where
  pub in_instant : IsInInstant t stop step v
  pub unset : v.fixed.shape.has_event_mode ≡ false → none_marked v.phase.marks ≡ true

-- the same at the beginning of an instant, and after its Updates: no input is set in it, or since the last step
pub record IsAt (t stop step : ℕ) (v : View) : Type 0 where
  pub in_instant : IsInInstant t stop step v
  pub unset : none_marked v.phase.marks ≡ true

-- the same where the point is done: with event mode the last Update asked for no other
pub record IsSettled (t stop step : ℕ) (v : View) : Type 0 where
  pub at : IsAt t stop step v
  pub settled : v.fixed.shape.has_event_mode ≡ true → v.phase.settled ≡ true

-- there, in Step Mode before a step; inputs may be set
pub record IsDeparting (t stop step : ℕ) (v : View) : Type 0 where
  pub there : IsThere t stop step v
  pub state : v.phase.state ≡ P.Step

-- the same, and none is set since the last step
pub record IsStepping (t stop step : ℕ) (v : View) : Type 0 where
  pub departing : IsDeparting t stop step v
  pub unset : none_marked v.phase.marks ≡ true
