-- The run of machines that behave well and put their states well is held where it comes to, but for a call that failed.
use Rattle.std.proofs.Common.{◌≡◌, ℕ, true, false, List, [], ◌++◌, refl, arith, length}
use Rattle.std.specs.Prelude.{All}
use Rattle.fmu_peer.specs.Machine.{MachineState}
use Rattle.system_model.specs.declared.system.Component.{Component}
use Rattle.system_model.specs.Bounds.{BindsParameters}
use Rattle.system_model.specs.Plans.{IsPlan}
use Rattle.system_model.specs.Sound.{IsSound}
use Rattle.system_model.specs.Text.{Instant, end_text}
use Rattle.run_model.specs.Behaved.{Departed, WellBehaved}
use Rattle.run_model.specs.Initial as I
use Rattle.run_model.specs.Machines.{AreMachines}
use Rattle.run_model.specs.Run.{Run, Situation}
use Rattle.slot_calls.specs.declared.bad_answer.BadAnswer.{BadAnswer}
use Rattle.slot_calls.specs.Log.{Sent}
use Rattle.slot_calls.specs.Replies.{AreReplies, states_by}
use Rattle.slot_calls.specs.Stage.{StopsAt, shapes_of}
use Rattle.step_agreement.specs.OverMachines.{IgnoreSlots}
use Rattle.event_iteration.proofs.ByLog.{made_all, replies_first, replies_then}
use Rattle.calling_sequence.specs.declared.run_end.RunEnd.{RunEnd}
use Rattle.calling_sequence.specs.declared.run_end.RunEnd.TheVariants as E
use Rattle.calling_sequence.specs.Course.{InstantDone, Spot, UpToHeld}
use Rattle.calling_sequence.specs.Ends.{FinishesIn, kind_of_end}
use Rattle.calling_sequence.specs.Holding.{ComesToHold, holding}
use Rattle.machine_courses.specs.Held.{BadlyHeld, Early, HoldsBy, HoldsRun, HoldsWell, WellHeld, experiment_of}
use Rattle.machine_courses.specs.Kept.{PutsState}
use Rattle.machine_courses.specs.Laws.{HeldWellByLog}
use Rattle.machine_courses.specs.Outcomes.{IsLost, rest_after}
use Rattle.machine_courses.proofs.Following.{reached_by}
use Rattle.machine_courses.proofs.Prefixes.{stands_in}
use Rattle.machine_courses.proofs.HeldLaw.{held_by_log}
use Rattle.machine_courses.proofs.KeptCalls.{lost_holding}
use Rattle.machine_courses.proofs.Lost.{lost_after}
use Rattle.machine_courses.proofs.Places.{Says, over}
use Rattle.machine_courses.proofs.Rows.{follows, inside, over_all}
use Rattle.machine_courses.proofs.RunLaw.{made_replies}
use Rattle.machine_courses.proofs.TraceLaw.{lost_end}

module _ (r : Run) (sound : IsSound r.system) (plan : IsPlan r.plan) (machines : AreMachines r) (ignore : IgnoreSlots r) (binds : BindsParameters r.system r.bound) (well : WellBehaved r)
    (saves : All (λ (c : Component). c.shape.can_save_state ≡ true) r.system.components) (puts : (i : ℕ) → PutsState r i) (at : ℕ) where
  abbrev count : ℕ
  count = length r.system.components

  abbrev base : List MachineState
  base = I.instantiated r

  -- before it comes there
  lost_early : (bad : BadAnswer) (point : ℕ) (log : List Sent) (is : List Instant) → FinishesIn r.system r.bound r.plan (UpToHeld at) (E.Bad bad) point log is → AreReplies r base log → IsLost count log bad.why
  lost_early = lost_end r sound plan machines ignore binds well (rest_after []) (UpToHeld at) base (made_all r machines) (refl, refl)

  -- and there
  lost_held : (s : Spot) (bad : BadAnswer) (prefix more : List Sent) (is : List Instant) → ComesToHold (experiment_of r) at s prefix is → StopsAt (shapes_of r.system) (holding r.system) bad more → AreReplies r base (prefix ++ more) →
      IsLost count (prefix ++ more) bad.why
  lost_held s bad prefix more is comes stops replies =
      let stood = stands_in r sound plan machines ignore (UpToHeld at) [] base (made_all r machines) (refl, refl) (InstantDone s false false) prefix is comes.course (replies_first r base prefix more replies) in
      let says : Says r s false false is (states_by r base prefix) = stood.at in
      let z : Situation = over r s is says.sees in
      let departed : Departed r z = record {
        s = says.sees.z;
        values = s.values;
        reached = reached_by r says.sees.z says.sees.earlier says.sees.at.came;
        solves = says.sees.solves;
        done = follows r sound plan machines ignore s false false is (states_by r base prefix) says;
        is = refl;
        before_stop = (let point = says.sees.at.point in let early = comes.early in omega (arith, point, early));
      } in
      lost_after count prefix more bad.why
      (lost_holding r well z departed saves (over_all r sound plan machines ignore s is says.sees) puts bad more
      (inside r more (states_by r base prefix) z.states says.states (replies_then r base prefix more stood.good replies)) stops)

  early : (end : RunEnd) (point : ℕ) (log : List Sent) (is : List Instant) (piece : List ℕ) → FinishesIn r.system r.bound r.plan (UpToHeld at) end point log is → AreReplies r base log → HoldsRun r at end piece → HoldsWell r at log end piece
  early E.Stop point log is piece f replies holds = holds
  early (E.Asked t) point log is piece f replies holds = holds
  early (E.EventLimit t) point log is piece f replies holds = holds
  early (E.FixedStep component t end) point log is piece f replies holds = holds
  early (E.Range lost t) point log is piece f replies holds = holds
  early (E.Held t) point log is piece f replies holds = holds
  early (E.Bad bad) point log is piece f replies holds = lost_early bad point log is f replies
  early E.WriteFault point log is piece f replies holds = holds

  holds_well : (end : RunEnd) (log : List Sent) (piece : List ℕ) → HoldsBy r at end log piece → AreReplies r base log → HoldsRun r at end piece → HoldsWell r at log end piece
  holds_well _ _ _ (Early end point log is f) replies holds = early end point log is (end_text (kind_of_end end) point) f replies holds
  holds_well _ _ _ (BadlyHeld s bad prefix more is comes stops) replies holds = lost_held s bad prefix more is comes stops replies
  holds_well _ _ _ (WellHeld s prefix entered keeping is comes into keeps can) replies holds = holds

pub held_well_by_log : HeldWellByLog
held_well_by_log r at made log end piece binds well can puts c =
    holds_well r c.sound c.plan c.machines c.ignore binds well can.saves puts at end log piece c.holds (made_replies r made log c.making c.replies) (held_by_log r at made log end piece c)
