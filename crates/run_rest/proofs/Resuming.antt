-- A run that is resumed with the snapshot of one that is held goes on as that.
use Rattle.std.proofs.Common.{◌≡◌, ◌⊎◌, inl, inr, ℕ, ◌<◌, ◌≤◌, ◌++◌, List, sym, ap, subst, arith}
use Rattle.std.specs.Prelude.{Option, ◌↔◌}
use Rattle.std.proofs.lemmas.List.{append_cancel_left}
use Rattle.system_model.specs.declared.plan.EndKind.{EndKind}
use Rattle.system_model.specs.Text.{Instant}
use Rattle.system_model.specs.Sound.{IsSound}
use Rattle.run_model.specs.Run.{Run, Situation, Timer}
use Rattle.run_model.specs.Stepping.{GoesOn, Departs}
use Rattle.run_model.specs.Trace.{IsTrace}
use Rattle.run_model.specs.Machines.{AreMachines}
use Rattle.run_model.specs.Laws.{OneTrace}
use Rattle.run_model.specs.Behaved as B
use Rattle.run_rest.specs.Parted.{DepartsFrom, at_step, entering_step, ready}
use Rattle.run_rest.specs.Rest.{Rest, NoneLeft, SomeLeft}
use Rattle.run_rest.specs.Held.{Held}
use Rattle.run_rest.specs.Snapshot.{resumed, snapshot_of, time_up_to, up_to}
use Rattle.run_rest.specs.Laws.{StepsWithin}
use Rattle.run_rest.proofs.Twins.{Alike, alike_sym}
use Rattle.run_rest.proofs.Parting.{entered, rebased}
use Rattle.run_rest.proofs.Climbing.{stays_within}
use Rattle.run_rest.proofs.Alike.{EitherReached, continues_across, departs_across, with_timers}
use Rattle.run_rest.proofs.Splitting.{comes_reached, joins, leads_of}
use Rattle.run_rest.proofs.Keeping.{AreEmpty, IsKeepable, empty_entering, keeps_reached, keeps_updated, put_out_kept, timers_kept, times_kept}

-- ---- with other timers

-- where a step leads to from here the run comes, and no later than at the stop
abbrev IsOnTheWay : Run → Situation → Type 0
IsOnTheWay r y = (next : Situation) → DepartsFrom r y (ready r y) (GoesOn next) → B.Reached r next × (next.t ≤ r.plan.stop)

held_on : {r : Run} {prefix : List Instant} {z : Situation} → StepsWithin r → Held r prefix z → IsOnTheWay r (at_step r z)
held_on {r} {prefix} {z} steps h next d =
    let departs = subst (λ (u : Situation). Departs r u (GoesOn next)) h.stands (entered d) in
    let leads = leads_of r h.s h.values (GoesOn next) h.done departs in
    let reached = comes_reached h.comes in
    let here : z.t ≡ h.s.t = ap (λ (u : Situation). u.t) h.stands in
    let early : h.s.t ≤ r.plan.stop = (let before : z.t < r.plan.stop = h.early in omega (arith, before, here)) in
    (B.Onward h.s h.values next reached h.solves leads, stays_within next steps reached h.solves early leads)

-- one of the two is on the way of the run
both_on : {r : Run} {y : Situation} (ts us : List Timer) (es fs : List (Option ℕ)) (next : Situation) → IsOnTheWay r y ⊎ IsOnTheWay r (with_timers y ts es) → DepartsFrom r y (ready r y) (GoesOn next) →
    DepartsFrom r (with_timers y ts es) (ready r y) (GoesOn (with_timers next us fs)) → EitherReached r next (with_timers next us fs) × (next.t ≤ r.plan.stop)
both_on ts us es fs next (inl on) d there = let o = on next d in (inl o.0, o.1)
both_on ts us es fs next (inr on) d there = let o = on (with_timers next us fs) there in (inr o.0, o.1)

rest_across : {r : Run} {y : Situation} {rest : List Instant} {k : EndKind} {p : ℕ} (ts : List Timer) (es : List (Option ℕ)) → StepsWithin r → IsOnTheWay r y ⊎ IsOnTheWay r (with_timers y ts es) →
    Alike (up_to r.plan.stop) y.timers ts → Alike (time_up_to r.plan.stop) y.events es → Rest r y rest k p → Rest r (with_timers y ts es) rest k p
rest_across {r} {y} ts es steps on alike times (NoneLeft d none) = NoneLeft (departs_across ts es alike times d).leads none
rest_across {r} {y} ts es steps on alike times (SomeLeft next d more) =
    let there = departs_across ts es alike times d in
    let both = both_on ts there.timers es there.events next on d there.leads in
    SomeLeft (with_timers next there.timers there.events) there.leads (continues_across there.timers there.events steps both.0 both.1 there.alike more)

-- with another number of the instant
rest_numbered : {r : Run} {y : Situation} {rest : List Instant} {k : EndKind} {p : ℕ} (n : ℕ) → Rest r y rest k p → Rest r (record y { n = n }) rest k p
rest_numbered {r} {y} n (NoneLeft d none) = NoneLeft (rebased y.states n d) none
rest_numbered {r} {y} n (SomeLeft next d more) = SomeLeft next (rebased y.states n d) more

-- ---- with the snapshot

held_keepable : {r : Run} {prefix : List Instant} {z : Situation} → AreMachines r → Held r prefix z → IsKeepable r z
held_keepable {r} machines held =
    subst (λ (u : Situation). IsKeepable r u) (sym held.stands) (keeps_updated r held.s held.values (keeps_reached machines (comes_reached held.comes)))

abbrev resumed_at : Run → Situation → Situation
resumed_at r z = resumed r (snapshot_of r (at_step r z))

-- no FMU has a state saved there
pub empty_held : {r : Run} {prefix : List Instant} {z : Situation} → AreMachines r → Held r prefix z → AreEmpty (entering_step r z)
empty_held {r} {prefix} {z} machines held = empty_entering r z (held_keepable machines held).empty

-- the states are those that were kept
same_states : {r : Run} {prefix : List Instant} {z : Situation} → AreMachines r → Held r prefix z → (resumed_at r z).states ≡ entering_step r z
same_states {r} {prefix} {z} machines held = put_out_kept (entering_step r z) (empty_entering r z (held_keepable machines held).empty)

pub goes_on : (r : Run) → AreMachines r → StepsWithin r → (prefix rest : List Instant) (k : EndKind) (p : ℕ) (z : Situation) → Held r prefix z → Rest r (at_step r z) rest k p → Rest r (resumed_at r z) rest k p
goes_on r machines steps prefix rest k p z held left =
    let ts : List Timer = (resumed_at r z).timers in
    let es : List (Option ℕ) = (resumed_at r z).events in
    let alike = timers_kept r.plan.stop r.system.ports z.timers (held_keepable machines held).timers in
    let there : Rest r (record (with_timers (at_step r z) ts es) { n = 0 }) rest k p = rest_numbered 0 (rest_across ts es steps (inl (held_on steps held)) alike (times_kept r.plan.stop z.events) left) in
    subst (λ ss. Rest r (record (with_timers (at_step r z) ts es) { n = 0; states = ss }) rest k p) (sym (same_states machines held)) there

pub goes_back : (r : Run) → AreMachines r → StepsWithin r → (prefix rest : List Instant) (k : EndKind) (p : ℕ) (z : Situation) → Held r prefix z → Rest r (resumed_at r z) rest k p → Rest r (at_step r z) rest k p
goes_back r machines steps prefix rest k p z held left =
    let ts : List Timer = (resumed_at r z).timers in
    let es : List (Option ℕ) = (resumed_at r z).events in
    let alike = alike_sym (up_to r.plan.stop) z.timers ts (timers_kept r.plan.stop r.system.ports z.timers (held_keepable machines held).timers) in
    let times = alike_sym (time_up_to r.plan.stop) z.events es (times_kept r.plan.stop z.events) in
    let there : Rest r (record (with_timers (at_step r z) ts es) { n = 0 }) rest k p = subst (λ ss. Rest r (record (with_timers (at_step r z) ts es) { n = 0; states = ss }) rest k p) (same_states machines held) left in
    rest_across {y = with_timers (at_step r z) ts es} z.timers z.events steps (inr (held_on steps held)) alike times (rest_numbered z.n there)

pub resumes : (r : Run) → AreMachines r → StepsWithin r → (prefix rest : List Instant) (k : EndKind) (p : ℕ) (z : Situation) → Held r prefix z → (Rest r (at_step r z) rest k p ↔ Rest r (resumed_at r z) rest k p)
resumes r machines steps prefix rest k p z held = (goes_on r machines steps prefix rest k p z held, goes_back r machines steps prefix rest k p z held)

-- ---- one rest

pub one_rest : OneTrace → (r : Run) → IsSound r.system → AreMachines r → (prefix is js : List Instant) (k l : EndKind) (p q : ℕ) (z : Situation) → Held r prefix z → Rest r (at_step r z) is k p → Rest r (at_step r z) js l q →
    (is ≡ js) × (k ≡ l) × (p ≡ q)
one_rest one r sound machines prefix is js k l p q z held x y =
    let same = one r sound machines (prefix ++ is) (prefix ++ js) k l p q (joins r prefix is k p z held x) (joins r prefix js l q z held y) in
    (append_cancel_left prefix is js same.0, same.1, same.2)

pub resumption : OneTrace → (r : Run) → IsSound r.system → AreMachines r → StepsWithin r → (prefix is js : List Instant) (k l : EndKind) (p q : ℕ) (z : Situation) → Held r prefix z → IsTrace r is k p →
    Rest r (resumed_at r z) js l q → (is ≡ prefix ++ js) × (k ≡ l) × (p ≡ q)
resumption one r sound machines steps prefix is js k l p q z held trace left =
    one r sound machines is (prefix ++ js) k l p q trace (joins r prefix js l q z held (goes_back r machines steps prefix js l q z held left))
