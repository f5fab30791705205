-- What the first state of an FMU has, and each change in a run keeps, its states have wherever the run may be held.
use Rattle.std.proofs.Common.{◌≡◌, ◌-◌, ℕ, ℤ, Bool, true, false, List, refl, sym, ap, ◌∙◌, subst}
use Rattle.std.specs.Prelude.{Option, Some, if◌then◌else◌, slice_get}
use Rattle.std.specs.Option.{option_map}
use Rattle.std.proofs.lemmas.Option.{same_Some, slice_get-map}
use Rattle.fmu_peer.specs.Machine.{MachineState, Machine, kept}
use Rattle.system_model.specs.Sound.{IsSound}
use Rattle.system_model.specs.declared.system.Component.{Component}
use Rattle.system_model.proofs.CallerLemmas.{true_false}
use Rattle.run_model.specs.Run.{Run, Situation, each}
use Rattle.run_model.specs.Equations.{Solves}
use Rattle.run_model.specs.Initial as I
use Rattle.run_model.specs.AfterInstant as F
use Rattle.run_model.specs.Stepping as P
use Rattle.run_model.specs.Trace.{LeadsBy}
use Rattle.run_model.specs.Machines.{AreMachines}
use Rattle.run_model.specs.Behaved.{Departed, Reached, AtFirst, Onward}
use Rattle.run_model.specs.Laws.{ReachesSituations, SolvedByFitting, SolvedByFittingInitially}
use Rattle.run_model.proofs.CallerLemmas.{each-get, ends_or_goes, fmu_before, situation_of}
use Rattle.run_rest.specs.Parted.{entering_step}
use Rattle.run_rest.specs.Lasting.{AsksWithin, Keeps, LastsAlong, LastsAt}
use Rattle.run_rest.specs.Packing.{IsReadBack, Packing}

pub record FittingLaws : Type 0 where
  pub along : ReachesSituations
  pub instant : SolvedByFitting
  pub initially : SolvedByFittingInitially

either : (test : MachineState → Bool) (b : Bool) (x y : MachineState) → test x ≡ true → test y ≡ true → test (if b then x else y) ≡ true
either test true x y hx hy = hx
either test false x y hx hy = hy

module _ (laws : FittingLaws) (r : Run) (sound : IsSound r.system) (machines : AreMachines r) (within : AsksWithin r) (i : ℕ) (c : Component) (m : Machine)
    (of_c : slice_get r.system.components i ≡ Some c) (of_m : slice_get r.machines i ≡ Some m) (early test : MachineState → Bool) (lasts : LastsAlong r i c m early test) where
  -- the i-th of the states passes the test
  abbrev PassesBy : (MachineState → Bool) → List MachineState → Type 0
  PassesBy passes states = (s : MachineState) → slice_get states i ≡ Some s → passes s ≡ true

  abbrev Passes : List MachineState → Type 0
  Passes states = PassesBy test states

  abbrev PassesEarly : List MachineState → Type 0
  PassesEarly states = PassesBy early states

  changed : (before after : MachineState → Bool) (states : List MachineState) (f : ℕ → Component → Machine → MachineState → MachineState) → ((s : MachineState) → before s ≡ true → after (f i c m s) ≡ true) → PassesBy before states → PassesBy after (each r states f)
  changed before after states f makes old s at =
      let one = fmu_before r states f i c m s (record { component = of_c; machine = of_m; state = at }) in
      subst (λ x. after x ≡ true) (sym one.is) (makes one.before (old one.before one.fmu.state))

  passes_each : (states : List MachineState) (f : ℕ → Component → Machine → MachineState → MachineState) → Keeps test (f i c m) → Passes states → Passes (each r states f)
  passes_each = changed test test

  passes_early : (states : List MachineState) (f : ℕ → Component → Machine → MachineState → MachineState) → Keeps early (f i c m) → PassesEarly states → PassesEarly (each r states f)
  passes_early = changed early early

  passes_first : PassesEarly (I.first_states r)
  passes_first s at =
      let is : m.first ≡ s = same_Some _ _ (sym (slice_get-map (λ (x : Machine). x.first) r.machines i ∙ ap (option_map (λ (x : Machine). x.first)) of_m) ∙ at) in
      subst (λ x. early x ≡ true) is lasts.first

  passes_beginning : (W : List (Option ℤ)) → I.SolvesInitially r W → Passes (I.beginning r W).states
  passes_beginning W solves =
      let one : PassesEarly (I.instantiated r) = passes_early (I.first_states r) _ lasts.instantiate passes_first in
      let two : PassesEarly (I.configured r) = passes_early (I.instantiated r) _ lasts.parameters one in
      let three : PassesEarly (I.initializing r) = passes_early (I.configured r) _ lasts.enters two in
      let four : PassesEarly (I.initialized r W) = passes_early (I.initializing r) _ (lasts.writes_first W (laws.initially r sound W solves)) three in
      changed early test (I.initialized r W) _ lasts.exits four

  passes_updated : (s : Situation) (V : List (Option ℤ)) → Reached r s → Solves r s V → Passes s.states → Passes (F.updated r s V).states
  passes_updated s V reached solves old =
      let fits = laws.instant r sound s V (laws.along r sound machines s reached).types solves in
      let one : Passes (F.written r s V) = passes_each s.states _ (λ x h. either test c.shape.has_event_mode _ x (lasts.writes V fits x h) h) old in
      passes_each (F.written r s V) _ (λ x h. either test c.shape.has_event_mode _ x (lasts.updates x h) h) one

  passes_stepped : (s : Situation) (V : List (Option ℤ)) (kept : List ℕ) (point : ℕ) → Reached r s → Solves r s V → F.following r s V ≡ F.Done → P.IsStep r (F.updated r s V) kept point → Passes s.states → Passes (P.stepped r (F.updated r s V) kept point).states
  passes_stepped s V kept point reached solves done step old =
      let fits = laws.instant r sound s V (laws.along r sound machines s reached).types solves in
      let here = passes_updated s V reached solves old in
      let one : Passes (P.departing r (F.updated r s V)) = passes_each (F.updated r s V).states _ (λ x h. either test c.shape.has_event_mode _ _ (lasts.enters_step x h) (lasts.writes V fits x h)) here in
      passes_each (P.departing r (F.updated r s V)) _ (λ x h.
      let there = lasts.steps s.t (P.kept_at kept i - s.t) (within (F.updated r s V) kept point i (record { s = s; values = V; reached = reached; solves = solves; done = done; is = refl; before_stop = step.before_stop }) step) x h in
      either test c.shape.has_event_mode _ _ (lasts.enters_event _ there) there) one

  passes_departs : (s : Situation) (V : List (Option ℤ)) (next : P.Next) (z : Situation) → Reached r s → Solves r s V → F.following r s V ≡ F.Done → Passes s.states → P.Departs r (F.updated r s V) next → next ≡ P.GoesOn z → Passes z.states
  passes_departs s V next z reached solves done old (P.AtStop x at a) e = absurd (true_false (ap ends_or_goes (sym a ∙ e)))
  passes_departs s V next z reached solves done old (P.WhereAsked x k p step asks a) e = absurd (true_false (ap ends_or_goes (sym a ∙ e)))
  passes_departs s V next z reached solves done old (P.WhereFixed x j f lacks a) e = absurd (true_false (ap ends_or_goes (sym a ∙ e)))
  passes_departs s V next z reached solves done old (P.ByStep x k p step asks a) e =
      subst (λ (u : Situation). Passes u.states) (ap (λ x. situation_of x z) (sym a ∙ e)) (passes_stepped s V k p reached solves done step old)

  passes_leads : (f : F.Following) (s : Situation) (V : List (Option ℤ)) (z : Situation) → Reached r s → Solves r s V → F.following r s V ≡ f → Passes s.states → LeadsBy f r s V (P.GoesOn z) → Passes z.states
  passes_leads F.OutOfRange s V z reached solves e old a = absurd (true_false (sym (ap ends_or_goes a)))
  passes_leads F.Ended s V z reached solves e old a = absurd (true_false (sym (ap ends_or_goes a)))
  passes_leads F.AtLimit s V z reached solves e old a = absurd (true_false (sym (ap ends_or_goes a)))
  passes_leads F.Again s V z reached solves e old a = subst (λ (u : Situation). Passes u.states) (ap (λ x. situation_of x z) (sym a)) (passes_updated s V reached solves old)
  passes_leads F.Done s V z reached solves e old d = passes_departs s V (P.GoesOn z) z reached solves e old d refl

  passes_reached : {s : Situation} → Reached r s → Passes s.states
  passes_reached (AtFirst s W solves none_lost is) = subst (λ (u : Situation). Passes u.states) (sym is) (passes_beginning W solves)
  passes_reached (Onward s V next reached solves leads) = passes_leads (F.following r s V) s V next reached solves refl (passes_reached reached) leads

  pub passes_departed : (z : Situation) → Departed r z → Passes (entering_step r z)
  passes_departed z d =
      let old = subst (λ (u : Situation). Passes u.states) (sym d.is) (passes_updated d.s d.values d.reached d.solves (passes_reached d.reached)) in
      passes_each z.states _ (λ x h. either test c.shape.has_event_mode _ x (lasts.enters_step x h) h) old

pub lasting_reads_back : (laws : FittingLaws) (r : Run) → IsSound r.system → AreMachines r → AsksWithin r → (i : ℕ) (packing : Packing) (early test : MachineState → Bool) → LastsAt r i early test →
    ((s : MachineState) → test s ≡ true → packing.unpack (packing.pack (kept s)) ≡ Some (kept s)) → IsReadBack r i packing
lasting_reads_back laws r sound machines within i packing early test lasts back z s d at =
    let fmu = each-get _ 0 i r.system.components r.machines z.states s at in
    back s (passes_departed laws r sound machines within i fmu.component fmu.machine fmu.of_c fmu.of_m early test (lasts fmu.component fmu.machine fmu.of_c fmu.of_m) z d s at)
