-- The answers of a walk are good, or those up to the last.
use Rattle.std.proofs.Common.{◌≡◌, ℕ, ℤ, List, Option, Some, sym, ap, ◌∙◌, subst, arith, get_or}
use Rattle.std.specs.Prelude.{All}
use Rattle.std.specs.List.{slice_get}
use Rattle.std.proofs.lemmas.List.{length-map}
use Rattle.std.proofs.lemmas.List.Elements.{All-contains_itself}
use Rattle.std.proofs.lemmas.Option.{slice_get_within}
use Rattle.value_types.specs.declared.shape.Shape.{Shape}
use Rattle.fmi_calls.specs.declared.call.Call.{Call}
use Rattle.fmi_calls.specs.declared.call.Grade.TheVariants as G
use Rattle.fmi_calls.specs.declared.call.Reply.{Reply}
use Rattle.fmi_calls.specs.Worth.{grade_of}
use Rattle.fmu_peer.specs.Answer.{IsWhy}
use Rattle.system_model.specs.declared.system.Component.{Component}
use Rattle.system_model.specs.declared.system.System.{System}
use Rattle.slot_calls.specs.Log.{Sent}
use Rattle.slot_calls.specs.Stage.{IsGoodOf, shapes_of}
use Rattle.event_iteration.specs.Explains.{Explains}
use Rattle.event_iteration.specs.Turns.{IsPaired, Rules, sent_of}
use Rattle.event_iteration.specs.WalkCalls.{LastAloneIsBad}
use Rattle.event_iteration.proofs.Permits.{shape_of_component}
use Rattle.event_iteration.proofs.Walking.{all_said_by, said_by, sent_by}

module _ (system : System) (rules : Rules) (before : List (Option ℤ)) where
  abbrev Good : Sent → Type 0
  Good = IsGoodOf (shapes_of system)

  good_call : (i : ℕ) (c : Component) → slice_get system.components i ≡ Some c → (o : Option Call) (reply : Option Reply) → IsPaired c.shape o reply → All Good (sent_of i o reply)
  good_call i c of o reply paired = sent_by Good i o reply (λ call y asks told d.
      subst (λ (s : Shape). grade_of s call y ≡ G.Good) (shape_of_component system i c of d) (subst (IsPaired c.shape (Some call)) told (subst (λ (x : Option Call). IsPaired c.shape x reply) asks paired)))

  walk_good : (taken : List ℕ) (values : List (Option ℤ)) (log : List Sent) → Explains system rules before taken values log → All Good log
  walk_good taken values log e =
      subst (All Good) (sym e.log_is) (all_said_by Good system rules values e.replies taken (λ k d w.
      let member = All-contains_itself taken k d w in
      said_by Good system rules values e.replies (get_or taken k d) (λ port c is of. good_call port.component.0 c of (rules.asks (get_or taken k d) port c values) (e.replies (get_or taken k d)) (e.paired (get_or taken k d) port c is of member))))

pub last_alone_is_bad : LastAloneIsBad
last_alone_is_bad system rules before order values log = record {
  good = walk_good system rules before order values log;
  bad = λ bad u.
      let s = u.stops in
      record {
        prefix = u.prefix;
        last = u.last;
        log_is = u.log_is;
        first = record {
          good = walk_good system rules before u.taken values u.prefix u.told;
          component = s.sent_to ∙ sym s.told_of;
          why = λ d. subst (λ (h : Shape). IsWhy h bad.why u.last.exchange)
              (shape_of_component system s.port.component.0 s.component s.of d ∙ ap (λ (n : ℕ). get_or (shapes_of system) n d) (sym s.sent_to)) s.why;
        };
        within = let a = s.sent_to in
            let b = slice_get_within system.components s.port.component.0 s.component s.of in
            let c = length-map system.components (λ (x : Component). x.shape) in
            omega (arith, a, b, c);
      };
}
