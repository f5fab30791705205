use Rattle.std.proofs.Common.{◌≡◌, ℕ, ℤ, false, List, Option, Some, ap, sym, ◌∙◌, subst}
use Rattle.std.specs.Prelude.{slice_get}
use Rattle.std.proofs.lemmas.Option.{same_Some}
use Rattle.sim_base.specs.declared.numbers.CompId.{CompId}
use Rattle.fmi_calls.specs.declared.call.Call.{Call}
use Rattle.fmi_calls.specs.Kinds.{kind_of}
use Rattle.system_model.specs.declared.system.Component.{Component}
use Rattle.system_model.specs.declared.system.Port.{Port}
use Rattle.system_model.specs.declared.system.System.{System}
use Rattle.event_iteration.specs.declared.walk.Waiting.{Waiting}
use Rattle.event_iteration.specs.declared.walk.Way.{Way}
use Rattle.event_iteration.specs.declared.walk.Way.TheVariants.{Send, Skip, Wait, Quiet, Ask}
use Rattle.event_iteration.specs.Turns.{Rules}
use Rattle.event_iteration.specs.Waits.{IsOpen, IsWay, IsWayOfCall, ReadsOrSets, is_fed, is_fed_by, waits_in}
use Rattle.event_iteration.proofs.Gathering.{is_fed-is}
use Rattle.event_iteration.proofs.Taking.{port_at}
use Rattle.event_iteration.proofs.walk.Waiting.way_of.Goals as goal

-- the way of a call is that of its port
way_by : (system : System) (rules : Rules) (w : Waiting) (p : ℕ) (values : List (Option ℤ)) (port : Port) → slice_get system.ports p ≡ Some port → (call : Call) → is_fed system (waits_in w) p ≡ false →
    ((x : Port) (c : Component) → slice_get system.ports p ≡ Some x → slice_get system.components x.component.0 ≡ Some c → Some call ≡ rules.asks p x c values) → (way : Way) → IsWayOfCall w port.component call way → IsWay system rules w p values way
way_by system rules w p values port is call unfed asks Send h = h
way_by system rules w p values port is call unfed asks Skip h = absurd h
way_by system rules w p values port is call unfed asks (Wait sent) h = (
  unfed,
  subst (λ (x : Call). ReadsOrSets (kind_of x)) (sym h.2) h.0,
  λ x c x_is of. (
    subst (λ (i : CompId). IsOpen w i (kind_of sent)) (ap (λ (y : Port). y.component) (same_Some port x (sym is ∙ x_is))) (subst (λ (y : Call). IsOpen w port.component (kind_of y)) (sym h.2) h.1),
    sym (asks x c x_is of) ∙ ap Some (sym h.2),
  ),
)
way_by system rules w p values port is call unfed asks Quiet h = absurd h
way_by system rules w p values port is call unfed asks (Ask sent) h = (h.0, λ x c x_is of. sym (asks x c x_is of) ∙ ap Some (sym h.1))

pub returns-in-Some : goal.returns-in-Some
returns-in-Some g c =
    let system = c.args.system.now in
    let port = c.index-as_slice-p.result in
    let is = port_at _ system.ports c.args.p port c.as_slice.ensures c.index-as_slice-p.is c.requires.port in
    way_by system (g.T.Turns.rules c.args.turns.now system) c.args.self.now c.args.p c.args.values.now port is c.in-Some.call
    (is_fed-is system (waits_in c.args.self.now) c.args.p port is ∙ ap (λ (ports : List ℕ). is_fed_by ports port.role) (sym c.as_slice-2.ensures) ∙ sym c.is_fed.ensures ∙ c.if-is_fed.false)
    (λ x k x_is of. c.in-Some.ensures x k x_is of) c.way_of_call.result c.way_of_call.ensures
