-- A step leads to a later point, and not past the stop; another instant at the point leads nowhere else.
use Rattle.std.proofs.Common.{◌≡◌, ℕ, ℤ, ◌<◌, ◌≤◌, List, refl, sym, ap, ◌∙◌, subst, arith}
use Rattle.std.specs.Prelude.{Option}
use Rattle.system_model.proofs.CallerLemmas.{true_false}
use Rattle.run_model.specs.Run.{Run, Situation}
use Rattle.run_model.specs.Equations.{Solves}
use Rattle.run_model.specs.AfterInstant.{Following, OutOfRange, Ended, AtLimit, Again, Done, following, updated}
use Rattle.run_model.specs.Stepping.{Next, GoesOn, Departs, AtStop, WhereAsked, WhereFixed, ByStep, IsStep}
use Rattle.run_model.specs.Trace.{Leads, LeadsBy}
use Rattle.run_model.specs.Behaved.{Reached}
use Rattle.run_model.proofs.CallerLemmas.{ends_or_goes, situation_of}
use Rattle.run_rest.specs.Laws.{StepsWithin}

abbrev pub Climbs : ℕ → Following → Situation → Situation → Type 0
Climbs stop OutOfRange s next = ⊥
Climbs stop Ended s next = ⊥
Climbs stop AtLimit s next = ⊥
Climbs stop Again s next = next.t ≡ s.t
Climbs stop Done s next = (s.t < next.t) × (next.t ≤ stop)

-- each step from here on leads on, and not past the stop
abbrev pub IsWithin : Run → Situation → Type 0
IsWithin r s = (kept : List ℕ) (point : ℕ) → IsStep r s kept point → (s.t < point) × (point ≤ r.plan.stop)

departs_climb : {r : Run} {s : Situation} {next : Next} (z : Situation) → IsWithin r s → Departs r s next → next ≡ GoesOn z → (s.t < z.t) × (z.t ≤ r.plan.stop)
departs_climb z steps (AtStop next at a) e = absurd (true_false (ap ends_or_goes (sym a ∙ e)))
departs_climb z steps (WhereAsked next k p step asks a) e = absurd (true_false (ap ends_or_goes (sym a ∙ e)))
departs_climb z steps (WhereFixed next i f lacks a) e = absurd (true_false (ap ends_or_goes (sym a ∙ e)))
departs_climb {r} {s} z steps (ByStep next k p step asks a) e = subst (λ (u : Situation). (s.t < u.t) × (u.t ≤ r.plan.stop)) (ap (λ x. situation_of x z) (sym a ∙ e)) (steps k p step)

leads_climb : (f : Following) (r : Run) (s : Situation) (V : List (Option ℤ)) (next : Situation) → (f ≡ Done → IsWithin r (updated r s V)) → LeadsBy f r s V (GoesOn next) → Climbs r.plan.stop f s next
leads_climb OutOfRange r s V next steps e = absurd (true_false (sym (ap ends_or_goes e)))
leads_climb Ended r s V next steps e = absurd (true_false (sym (ap ends_or_goes e)))
leads_climb AtLimit r s V next steps e = absurd (true_false (sym (ap ends_or_goes e)))
leads_climb Again r s V next steps e = ap (λ x. (situation_of x next).t) e
leads_climb Done r s V next steps d = departs_climb next (steps refl) d refl

pub climbs : {r : Run} {s : Situation} {V : List (Option ℤ)} (next : Situation) → StepsWithin r → Reached r s → Solves r s V → Leads r s V (GoesOn next) → Climbs r.plan.stop (following r s V) s next
climbs {r} {s} {V} next steps reached solves leads = leads_climb (following r s V) r s V next
    (λ done kept point step. steps (updated r s V) kept point (record { s = s; values = V; reached = reached; solves = solves; done = done; is = refl; before_stop = step.before_stop }) step) leads

no_lower : (stop : ℕ) (f : Following) (s next : Situation) → Climbs stop f s next → s.t ≤ next.t
no_lower stop OutOfRange s next h = absurd h
no_lower stop Ended s next h = absurd h
no_lower stop AtLimit s next h = absurd h
no_lower stop Again s next h = omega (arith, h)
no_lower stop Done s next h = omega (arith, h.0)

no_later : (stop : ℕ) (f : Following) (s next : Situation) → s.t ≤ stop → Climbs stop f s next → next.t ≤ stop
no_later stop OutOfRange s next within h = absurd h
no_later stop Ended s next within h = absurd h
no_later stop AtLimit s next within h = absurd h
no_later stop Again s next within h = omega (arith, within, h)
no_later stop Done s next within h = h.1

-- the points of a run don't fall
pub rises : {r : Run} {s : Situation} {V : List (Option ℤ)} (next : Situation) → StepsWithin r → Reached r s → Solves r s V → Leads r s V (GoesOn next) → s.t ≤ next.t
rises {r} {s} {V} next steps reached solves leads = no_lower r.plan.stop (following r s V) s next (climbs next steps reached solves leads)

-- and none is past the stop
pub stays_within : {r : Run} {s : Situation} {V : List (Option ℤ)} (next : Situation) → StepsWithin r → Reached r s → Solves r s V → s.t ≤ r.plan.stop → Leads r s V (GoesOn next) → next.t ≤ r.plan.stop
stays_within {r} {s} {V} next steps reached solves within leads = no_later r.plan.stop (following r s V) s next within (climbs next steps reached solves leads)
