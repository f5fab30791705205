-- The agreed step as a log: by which calls FMUs of which some may return early agree on a point, for any replies (FMI 3.0, 4.2.1.2: fmi3DoStep and early return; 2.2.6: FMU state).
use Rattle.std.specs.Prelude.{◌≡◌, ℕ, suc, ◌+◌, ◌-◌, ◌==◌, ◌&&◌, Bool, true, false, not, if◌then◌else◌, List, [], ◌∷◌, ◌++◌, map, position, Option, Some, None, Result, Ok, Err}
use Rattle.std.specs.List.{list_all}
use Rattle.value_types.specs.declared.shape.Shape.{Shape}
use Rattle.fmi_calls.specs.declared.call.Call.{Call}
use Rattle.fmi_calls.specs.declared.call.Call.TheVariants as C
use Rattle.fmi_calls.specs.declared.call.Reply.{Reply}
use Rattle.fmi_calls.specs.Next.{end_of}
use Rattle.fmu_peer.specs.declared.peer.Exchange.{Exchange}
use Rattle.fmu_peer.specs.declared.peer.PeerFault.{PeerFault}
use Rattle.run_model.specs.Steps.{least_or}
use Rattle.slot_calls.specs.declared.bad_answer.BadAnswer.{BadAnswer}
use Rattle.slot_calls.specs.Log.{ComponentCall, Sent, part}
use Rattle.slot_calls.specs.Stage.{FailsIn, IsAnswered, to_those_from}

-- ---- where the FMUs stand

-- an FMU on the way to an agreement: its shape, the point where it stands, and the bound that it was asked last
pub record Stand : Type 0 where
  pub shape : Shape
  pub point : ℕ
  pub ask : ℕ

abbrev pub shapes_in : List Stand → List Shape
shapes_in stands = map (λ (s : Stand). s.shape) stands

-- where a step from t ended
abbrev pub end_by : ℕ → Result Reply PeerFault → ℕ
end_by t (Ok reply) = end_of reply t
end_by t (Err fault) = t

-- where it stands after a call: where its step ended, or at t again, where its state was saved
abbrev pub moved : ℕ → Stand → Call → Result Reply PeerFault → Stand
moved t s (C.DoStep at size) result = record s { point = end_by t result; ask = at + size }
moved t s C.Restore result = record s { point = t }
moved t s call result = s

abbrev pub stand_by : ℕ → Stand → List Exchange → Stand
stand_by t s [] = s
stand_by t s (e ∷ es) = stand_by t (moved t s e.call e.result) es

abbrev pub stands_from : ℕ → ℕ → List Stand → List Sent → List Stand
stands_from t i [] log = []
stands_from t i (s ∷ ss) log = stand_by t s (part i log) ∷ stands_from t (suc i) ss log

-- where all stand after a log
abbrev pub stands_by : ℕ → List Stand → List Sent → List Stand
stands_by t stands log = stands_from t 0 stands log

-- ---- one asking

-- from the i-th on, the call to those that pass the test
abbrev pub to_some_from : {A : Type 0} → ℕ → (A → Bool) → Call → List A → List ComponentCall
to_some_from i test call xs = to_those_from i test (λ x. call) xs

abbrev pub to_some : {A : Type 0} → (A → Bool) → Call → List A → List ComponentCall
to_some test call xs = to_some_from 0 test call xs

-- those that pass the test and are past t
abbrev pub is_away : ℕ → (Stand → Bool) → Stand → Bool
is_away t test s = test s && not (s.point == t)

-- of those that pass the test, the least that takes no step of this size
abbrev pub unfit : ℕ → ℕ → (Stand → Bool) → List Stand → Option ℕ
unfit step size test stands =
    if size == step then None
    else position (λ (s : Stand). test s && not s.shape.has_variable_steps) stands

abbrev pub putting_back : ℕ → (Stand → Bool) → List Stand → List ComponentCall
putting_back t test stands = to_some (is_away t test) C.Restore stands

abbrev pub stepping : ℕ → ℕ → (Stand → Bool) → List Stand → List ComponentCall
stepping t e test stands = to_some test (C.DoStep t (e - t)) stands

-- those that pass the test were asked to step from t to e, in a round: before it, in another, those of them that were past t were put back, and before that it was seen that each of some takes a step of this size
pub record Asks (t step : ℕ) (sized test : Stand → Bool) (e : ℕ) (stands : List Stand)
    (log : List Sent) : Type 0 where
  pub backs : List Sent
  pub steps : List Sent
  pub fits : unfit step (e - t) sized stands ≡ None
  pub back : IsAnswered (shapes_in stands) (putting_back t test stands) backs
  pub stepped : IsAnswered (shapes_in stands) (stepping t e test stands) steps
  pub log_is : log ≡ backs ++ steps

-- how an agreed step ends: at a point, before a step whose size a component doesn't take, or by the first answer that isn't good
pub data Outcome : Type 0 where
  Meets : (point : ℕ) → Outcome
  Unfit : (component end : ℕ) → Outcome
  Fails : (bad : BadAnswer) → Outcome

-- they couldn't be asked, or one of them answered badly; in a round all are asked, whatever is answered
pub data Stops (t step : ℕ) (sized test : Stand → Bool) (e : ℕ) (stands : List Stand)
    (log : List Sent) (outcome : Outcome) : Type 0 where
  IsUnfit : (i : ℕ) → unfit step (e - t) sized stands ≡ Some i → log ≡ [] → outcome ≡ Unfit i e →
      Stops t step sized test e stands log outcome
  InBack : (bad : BadAnswer) → unfit step (e - t) sized stands ≡ None →
      FailsIn (shapes_in stands) (putting_back t test stands) bad log → outcome ≡ Fails bad →
      Stops t step sized test e stands log outcome
  InStep : (bad : BadAnswer) (backs steps : List Sent) → unfit step (e - t) sized stands ≡ None →
      IsAnswered (shapes_in stands) (putting_back t test stands) backs →
      FailsIn (shapes_in stands) (stepping t e test stands) bad steps → log ≡ backs ++ steps →
      outcome ≡ Fails bad → Stops t step sized test e stands log outcome

-- ---- the agreement

-- the least end of those that were asked; one that wasn't counts as ending at the bound
abbrev pub end_at : ℕ → ℕ → Stand → ℕ
end_at t b s = if s.point == t then b else s.point

abbrev pub reached : ℕ → ℕ → List Stand → ℕ
reached t b stands = least_or b (map (end_at t b) stands)

abbrev pub are_at : ℕ → List Stand → Bool
are_at m stands = list_all (λ (s : Stand). s.point == m) stands

abbrev pub is_elsewhere : ℕ → Stand → Bool
is_elsewhere m s = not (s.point == m)

-- it ends elsewhere, when it is asked for the bound
abbrev pub ends_elsewhere : ℕ → ℕ → ℕ → Stand → Bool
ends_elsewhere t b m s = not (end_at t b s == m)

abbrev pub everyone : Stand → Bool
everyone s = true

abbrev pub comes_first : (Shape → Bool) → Stand → Bool
comes_first first s = first s.shape

-- from the bound b on: those that come first are asked for it; where not all are at the least end then, the others are asked for that; and where one of them ends before it, all begin anew, with the least of these ends as the bound. All must take a step to the bound, and those that don't end at the least end one to that
pub data Agrees (t step : ℕ) (first : Shape → Bool) : ℕ → List Stand → List Sent → Outcome →
    Type 0 where
  FirstStops : (b : ℕ) (stands : List Stand) (log : List Sent) (outcome : Outcome) →
      Stops t step everyone (comes_first first) b stands log outcome →
      Agrees t step first b stands log outcome
  FirstMeet : (b : ℕ) (stands : List Stand) (log : List Sent) (outcome : Outcome) (m : ℕ) →
      Asks t step everyone (comes_first first) b stands log →
      m ≡ reached t b (stands_by t stands log) →
      are_at m (stands_by t stands log) ≡ true → outcome ≡ Meets m →
      Agrees t step first b stands log outcome
  NextStops : (b : ℕ) (stands : List Stand) (log : List Sent) (outcome : Outcome) (m : ℕ)
      (prefix back : List Sent) (mids : List Stand) →
      Asks t step everyone (comes_first first) b stands prefix → mids ≡ stands_by t stands prefix →
      m ≡ reached t b mids → are_at m mids ≡ false →
      Stops t step (ends_elsewhere t b m) (is_elsewhere m) m mids back outcome →
      log ≡ prefix ++ back → Agrees t step first b stands log outcome
  NextMeet : (b : ℕ) (stands : List Stand) (log : List Sent) (outcome : Outcome) (m : ℕ)
      (prefix back : List Sent) (mids : List Stand) →
      Asks t step everyone (comes_first first) b stands prefix → mids ≡ stands_by t stands prefix →
      m ≡ reached t b mids → are_at m mids ≡ false →
      Asks t step (ends_elsewhere t b m) (is_elsewhere m) m mids back →
      are_at m (stands_by t mids back) ≡ true → outcome ≡ Meets m → log ≡ prefix ++ back →
      Agrees t step first b stands log outcome
  GoesAnew : (b : ℕ) (stands : List Stand) (log : List Sent) (outcome : Outcome) (m c : ℕ)
      (prefix back rest : List Sent) (mids ends : List Stand) →
      Asks t step everyone (comes_first first) b stands prefix → mids ≡ stands_by t stands prefix →
      m ≡ reached t b mids → are_at m mids ≡ false →
      Asks t step (ends_elsewhere t b m) (is_elsewhere m) m mids back →
      ends ≡ stands_by t mids back → are_at m ends ≡ false → c ≡ reached t m ends →
      Agrees t step first c ends rest outcome → log ≡ prefix ++ (back ++ rest) →
      Agrees t step first b stands log outcome
