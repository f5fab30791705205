-- In the midst of an instant: what is written, and what outputs show.
use Rattle.std.proofs.Common.{◌≡◌, ℕ, zero, suc, ℤ, Bool, true, false, ◌&&◌, ◌||◌, List, [], ◌∷◌, ◌++◌, refl, sym, ◌∙◌, ap, subst, ◌+◌, Contains, inl, inr}
use Rattle.std.specs.Prelude.{Option, Some, None, unwrap_or, option_and_then, if◌then◌else◌, slice_get, ◌==◌, position}
use Rattle.std.specs.List.{list_any, position_from}
use Rattle.std.proofs.lemmas.Bool.{eqb-true, eq-eqb}
use Rattle.std.proofs.lemmas.List.Elements.{Contains-push, Contains-append_left}
use Rattle.std.proofs.lemmas.Iterator.Adapters.{position_from-zero}
use Rattle.std.proofs.lemmas.Option.{none-some as none_some, same_Some, slice_get_within}
use Rattle.fmu_peer.specs.Machine.{written, all_written, IsLawful, IsMachineOf}
use Rattle.system_model.specs.declared.system.Component.{Component}
use Rattle.system_model.specs.declared.system.Port.{Port}
use Rattle.system_model.specs.declared.system.System.{System}
use Rattle.system_model.specs.Ports.{port_numbers, is_output_role}
use Rattle.system_model.specs.Needs.{ByDependency, InitiallyByDependency, is_unclocked}
use Rattle.system_model.specs.Sound.{IsSound}
use Rattle.system_model.proofs.CallerLemmas.{contains_at, at_contains, true_false, own, place_of}
use Rattle.run_model.specs.Run.{Run}
use Rattle.system_model.specs.Values.{value}
use Rattle.run_model.specs.Inputs.{under, is_under, state_written, written_by, written_at_port}
use Rattle.run_model.specs.Initial.{SolvesInitially}
use Rattle.run_model.specs.Machines.{IsStateOf}
use Rattle.run_model.specs.Walk.{is_taken, only_at, write_if, NothingAtFirst, WritesAtPort, KeepsBeside, AllAtLast, AllAtLastInitially, LooksInMidst, LooksInitially, PresentByNeeds, ValueByNeeds}
use Rattle.run_model.proofs.Decided.{same_number}
use Rattle.run_model.proofs.Alike.{found_at, look_alike, written_at-is, written_at-output, present_alike, depends_component}
use Rattle.run_model.proofs.Initially.{none_outside, read_unclocked, unclocked_at-is, written_none}
use Rattle.run_model.proofs.States.{states_initializing}
use Rattle.run_model.proofs.Unique.{push_cases, value_same}

funext : {A B : Type 0} (f g : A → B) → ((x : A) → f x ≡ g x) → f ≡ g
funext f g h = λ i x. h x i

-- ---- what was taken

pub taken-is : (taken : List ℕ) (q : ℕ) → Contains taken q → is_taken taken q ≡ true
taken-is taken q m = let at = contains_at taken q m in here taken at.0 at.1
  where
    here : (xs : List ℕ) (k : ℕ) → slice_get xs k ≡ Some q → list_any (λ y. y == q) xs ≡ true
    here [] k e = absurd (none_some _ e)
    here (x ∷ xs) zero e = ap (λ b. b || list_any (λ y. y == q) xs) (eq-eqb x q (same_Some _ _ e))
    here (x ∷ xs) (suc k) e = or_right (x == q) (list_any (λ y. y == q) xs) (here xs k e)
      where
        or_right : (a b : Bool) → b ≡ true → (a || b) ≡ true
        or_right true b h = refl
        or_right false b h = h

pub is-taken : (taken : List ℕ) (q : ℕ) → is_taken taken q ≡ true → Contains taken q
is-taken taken q h = let at = place taken h in at_contains taken at.0 q at.1
  where
    place : (xs : List ℕ) → list_any (λ y. y == q) xs ≡ true → (k : ℕ) × (slice_get xs k ≡ Some q)
    place [] e = absurd (true_false (sym e))
    place (x ∷ xs) e = (elim (x == q) as (λ b. (x == q) ≡ b → (b || list_any (λ y. y == q) xs) ≡ true → (k : ℕ) × (slice_get (x ∷ xs) k ≡ Some q)) [
      | true ↦ λ same _. (0, ap Some (eqb-true x q same))
      | false ↦ λ other more. let found = place xs more in (suc found.0, found.1)
    ]) refl e

pub not-taken : (taken : List ℕ) (q : ℕ) → (Contains taken q → ⊥) → is_taken taken q ≡ false
not-taken taken q new = (elim (is_taken taken q) as (λ b. is_taken taken q ≡ b → b ≡ false) [
  | true ↦ λ e. absurd (new (is-taken taken q e))
  | false ↦ λ e. refl
]) refl

taken-push : (taken : List ℕ) (p : ℕ) → is_taken (taken ++ p ∷ []) p ≡ true
taken-push taken p = taken-is (taken ++ p ∷ []) p (Contains-push taken p)

taken-other : (taken : List ℕ) (p q : ℕ) → (q ≡ p → ⊥) → is_taken (taken ++ p ∷ []) q ≡ is_taken taken q
taken-other taken p q other = (elim (is_taken (taken ++ p ∷ []) q) as (λ b. is_taken (taken ++ p ∷ []) q ≡ b → b ≡ is_taken taken q) [
  | true ↦ λ e. push_cases taken p q (is-taken (taken ++ p ∷ []) q e) (λ old. sym (taken-is taken q old)) (λ same. absurd (other (sym same)))
  | false ↦ λ e. sym (not-taken taken q (λ old. true_false (sym (taken-is (taken ++ p ∷ []) q (Contains-append_left taken (p ∷ []) q old)) ∙ e)))
]) refl

by_number : {P : Type 0} (a b : ℕ) → (a ≡ b → P) → ((a ≡ b → ⊥) → P) → P
by_number {P} a b same other = (elim (same_number a b) as (λ c. P) [
  | inl e ↦ same e
  | inr n ↦ other n
])

-- ---- what a port's value writes

if_some : (b : Bool) (value x : ℤ) (o : Option ℤ) → (if b then value else unwrap_or o x) ≡ unwrap_or (if b then Some value else o) x
if_some true value x o = refl
if_some false value x o = refl

written-all : (refs : List ℕ) (new : ℕ → Option ℤ) (xs : List ℤ) (reference : ℕ) (value : ℤ) →
    written refs (all_written refs new xs) reference value ≡ all_written refs (λ r. if r == reference then Some value else new r) xs
written-all [] new xs reference value = refl
written-all (r ∷ refs) new [] reference value = refl
written-all (r ∷ refs) new (x ∷ xs) reference value =
    ap (λ y. y ∷ written refs (all_written refs new xs) reference value) (if_some (r == reference) value x (new r))
    ∙ ap (λ ys. unwrap_or (if r == reference then Some value else new r) x ∷ ys) (written-all refs new xs reference value)

not_equal : (a b : ℕ) → (a ≡ b → ⊥) → (a == b) ≡ false
not_equal a b h = (elim (a == b) as (λ c. (a == b) ≡ c → c ≡ false) [
  | true ↦ λ e. absurd (h (eqb-true a b e))
  | false ↦ λ e. refl
]) refl

-- this is written at a port, too
abbrev and_at : ℕ → ℤ → (ℕ → Option ℤ) → ℕ → Option ℤ
and_at p x at_port q = if q == p then Some x else at_port q

under_and : (ports : List Port) (p : ℕ) (port : Port) → slice_get ports p ≡ Some port → (at_port : ℕ → Option ℤ) (x : ℤ) (r : ℕ) → position (is_under port.component.0 port.reference) ports ≡ Some p →
    (if r == port.reference then Some x else under ports at_port port.component.0 r) ≡ under ports (and_at p x at_port) port.component.0 r
under_and ports p port is at_port x r place = by_number r port.reference
    (λ same. ap (λ b. if b then Some x else under ports at_port port.component.0 r) (eq-eqb r port.reference same)
    ∙ sym (ap (λ k. under ports (and_at p x at_port) port.component.0 k) same ∙ ap (λ o. option_and_then (and_at p x at_port) o) place ∙ ap (λ b. if b then Some x else at_port p) (eq-eqb p p refl)))
    (λ other. ap (λ b. if b then Some x else under ports at_port port.component.0 r) (not_equal r port.reference other) ∙ beside other)
  where
    beside : (r ≡ port.reference → ⊥) → under ports at_port port.component.0 r ≡ under ports (and_at p x at_port) port.component.0 r
    beside other = (elim (position (is_under port.component.0 r) ports) as (λ o. position (is_under port.component.0 r) ports ≡ o → option_and_then at_port o ≡ option_and_then (and_at p x at_port) o) [
      | None ↦ λ f. refl
      | Some q ↦ λ f.
          let found = found_at ports port.component.0 r q f in
          let apart : q ≡ p → ⊥ = λ same. other (sym found.under ∙ ap (λ (y : Port). y.reference) (same_Some _ _ (sym found.is ∙ ap (slice_get ports) same ∙ is))) in
          sym (ap (λ b. if b then Some x else at_port q) (not_equal q p apart))
    ]) refl

-- ---- each port is found under its reference

from_none : (test : Port → Bool) (xs : List Port) (k : ℕ) → position_from test k xs ≡ None → (q : ℕ) (x : Port) → slice_get xs q ≡ Some x → test x ≡ true → ⊥
from_none test [] k h q x e t = none_some _ e
from_none test (y ∷ ys) k h zero x e t =
    let here : test y ≡ true = ap test (same_Some _ _ e) ∙ t in
    none_some _ (sym (ap (λ b. if b then Some k else position_from test (k + 1) ys) (sym here) ∙ h))
from_none test (y ∷ ys) k h (suc q) x e t =
    (elim (test y) as (λ b. (if b then Some k else position_from test (k + 1) ys) ≡ None → ⊥) [
      | true ↦ λ g. none_some _ (sym g)
      | false ↦ λ g. from_none test ys (k + 1) g q x e t
    ]) h

under_itself : (port : Port) → is_under port.component.0 port.reference port ≡ true
under_itself port = ap (λ b. b && (port.reference == port.reference)) (eq-eqb port.component.0 port.component.0 refl) ∙ eq-eqb port.reference port.reference refl

pub place_under : (system : System) → IsSound system → (p : ℕ) (port : Port) → slice_get system.ports p ≡ Some port → position (is_under port.component.0 port.reference) system.ports ≡ Some p
place_under system sound p port is =
    (elim (position (is_under port.component.0 port.reference) system.ports) as (λ o. position (is_under port.component.0 port.reference) system.ports ≡ o → o ≡ Some p) [
      | None ↦ λ e. absurd (from_none (is_under port.component.0 port.reference) system.ports 0 (sym (position_from-zero (is_under port.component.0 port.reference) system.ports) ∙ e) p port is (under_itself port))
      | Some q ↦ λ e. let found = found_at system.ports port.component.0 port.reference q e in
          ap Some (own system sound q p found.port port found.is is found.component found.under)
    ]) refl

-- ---- the laws on what is written

only_more : (taken : List ℕ) (p : ℕ) (at_port : ℕ → Option ℤ) (x : ℤ) → at_port p ≡ Some x → and_at p x (only_at taken at_port) ≡ only_at (taken ++ p ∷ []) at_port
only_more taken p at_port x e = funext (and_at p x (only_at taken at_port)) (only_at (taken ++ p ∷ []) at_port) (λ q. by_number q p
    (λ same. subst (λ y. and_at p x (only_at taken at_port) y ≡ only_at (taken ++ p ∷ []) at_port y) (sym same)
    (ap (λ b. if b then Some x else only_at taken at_port p) (eq-eqb p p refl) ∙ sym e ∙ sym (ap (λ b. if b then at_port p else None) (taken-push taken p))))
    (λ other. ap (λ b. if b then Some x else only_at taken at_port q) (not_equal q p other) ∙ ap (λ b. if b then at_port q else None) (sym (taken-other taken p q other))))

only_none : (taken : List ℕ) (p : ℕ) (at_port : ℕ → Option ℤ) → is_taken taken p ≡ false → at_port p ≡ None → only_at taken at_port ≡ only_at (taken ++ p ∷ []) at_port
only_none taken p at_port new e = funext (only_at taken at_port) (only_at (taken ++ p ∷ []) at_port) (λ q. by_number q p
    (λ same. subst (λ y. only_at taken at_port y ≡ only_at (taken ++ p ∷ []) at_port y) (sym same)
    (ap (λ b. if b then at_port p else None) new ∙ sym e ∙ sym (ap (λ b. if b then at_port p else None) (taken-push taken p))))
    (λ other. ap (λ b. if b then at_port q else None) (sym (taken-other taken p q other))))

pub writes_at_port : WritesAtPort
writes_at_port system sound p port is taken new at_port m s =
    (elim (at_port p) as (λ o. at_port p ≡ o → write_if m port.reference (state_written system.ports (only_at taken at_port) port.component.0 m s) o ≡ state_written system.ports (only_at (taken ++ p ∷ []) at_port) port.component.0 m s) [
      | None ↦ λ e. ap (λ w. state_written system.ports w port.component.0 m s) (only_none taken p at_port (not-taken taken p new) e)
      | Some x ↦ λ e.
          ap (λ xs. record s { values = xs }) (written-all m.references (under system.ports (only_at taken at_port) port.component.0) s.values port.reference x
          ∙ ap (λ f. all_written m.references f s.values) (funext (λ r. if r == port.reference then Some x else under system.ports (only_at taken at_port) port.component.0 r) (under system.ports (and_at p x (only_at taken at_port)) port.component.0)
          (λ r. under_and system.ports p port is (only_at taken at_port) x r (place_under system sound p port is))))
          ∙ ap (λ w. state_written system.ports w port.component.0 m s) (only_more taken p at_port x e)
    ]) refl

pub keeps_beside : KeepsBeside
keeps_beside system p port is taken at_port i other m s =
    ap (λ f. record s { values = all_written m.references f s.values }) (funext (under system.ports (only_at taken at_port) i) (under system.ports (only_at (taken ++ p ∷ []) at_port) i) (λ r.
    (elim (position (is_under i r) system.ports) as (λ o. position (is_under i r) system.ports ≡ o → option_and_then (only_at taken at_port) o ≡ option_and_then (only_at (taken ++ p ∷ []) at_port) o) [
      | None ↦ λ e. refl
      | Some q ↦ λ e. let found = found_at system.ports i r q e in
          let beside : q ≡ p → ⊥ = λ same. other (sym (ap (λ (x : Port). x.component.0) (same_Some _ _ (sym is ∙ ap (slice_get system.ports) (sym same) ∙ found.is)) ∙ found.component)) in
          ap (λ b. if b then at_port q else None) (sym (taken-other taken p q beside))
    ]) refl))

nothing_written : (refs : List ℕ) (new : ℕ → Option ℤ) (xs : List ℤ) → ((r : ℕ) → new r ≡ None) → all_written refs new xs ≡ xs
nothing_written [] new xs h = refl
nothing_written (r ∷ refs) new [] h = refl
nothing_written (r ∷ refs) new (x ∷ xs) h = ap (λ o. unwrap_or o x ∷ all_written refs new xs) (h r) ∙ ap (λ ys. x ∷ ys) (nothing_written refs new xs h)

pub nothing_at_first : NothingAtFirst
nothing_at_first system at_port i m s = ap (λ xs. record s { values = xs }) (nothing_written m.references (under system.ports (only_at [] at_port) i) s.values (λ r. none (position (is_under i r) system.ports)))
  where
    none : (o : Option ℕ) → option_and_then (only_at [] at_port) o ≡ None
    none None = refl
    none (Some q) = refl

either : (b : Bool) (o : Option ℤ) → o ≡ None → (if b then o else None) ≡ o
either true o e = refl
either false o e = sym e

pub all_at_last : AllAtLast
all_at_last system sound V i m s =
    let order = port_numbers system.instant_order in
    let at_port = written_at_port system.ports V in
    ap (λ w. state_written system.ports w i m s) (funext (only_at order at_port) at_port (λ q.
    (elim (slice_get system.ports q) as (λ o. slice_get system.ports q ≡ o → only_at order at_port q ≡ at_port q) [
      | None ↦ λ e. either (is_taken order q) (at_port q) (ap (λ o. option_and_then (λ (x : Port). written_by x.role x V (value V q)) o) e)
      | Some port ↦ λ e. ap (λ b. if b then at_port q else None) (taken-is order q (sound.instant_order.each q (slice_get_within system.ports q port e)))
    ]) refl))

-- ---- the laws on what outputs show

either_none : (b : Bool) (o : Option ℤ) → o ≡ None → (if b then o else None) ≡ None
either_none true o e = e
either_none false o e = refl

outputs_none : (ports : List Port) (V : List (Option ℤ)) (taken : List ℕ) (q : ℕ) (on : Port) → slice_get ports q ≡ Some on → is_output_role on.role ≡ true → only_at taken (written_at_port ports V) q ≡ written_at_port ports V q
outputs_none ports V taken q on at out = let none = written_at-output ports V q on at out in either_none (is_taken taken q) (written_at_port ports V q) none ∙ sym none

pub looks_in_midst : LooksInMidst
looks_in_midst r sound machines states fit p port is output V taken needed c m s fmu events call at =
    let placed = place_of r.system sound p port is in
    let same : c ≡ placed.component = same_Some _ _ (sym fmu.component ∙ placed.is.of) in
    let machine = machines.each port.component.0 c m fmu.component fmu.machine in
    look_alike r.system sound false p port placed m s (only_at taken (written_at_port r.system.ports V)) (written_at_port r.system.ports V) output
    (λ f. ap (λ (x : Component). x.shape.has_event_mode) (sym same) ∙ events)
    (subst (λ (x : Component). IsMachineOf x.shape m) same machine.0) (subst (λ (x : Component). IsLawful x.shape m) same machine.1)
    (subst (λ (x : Component). IsStateOf x.shape false m s) same (fit port.component.0 c m s fmu))
    (record {
      on = λ q d. ap (λ b. if b then written_at_port r.system.ports V q else None) (taken-is taken q (needed q (ByDependency d
          (ap (λ (x : Component). x.shape.has_event_mode) (depends_component r.system false p q port c is fmu.component d) ∙ events))));
      outputs = outputs_none r.system.ports V taken;
    }) call at

-- in Initialization Mode nothing is written at a port with Clocks, or at a Clock
none_there : (r : Run) (W : List (Option ℤ)) → SolvesInitially r W → (taken : List ℕ) (q : ℕ) (on : Port) → slice_get r.system.ports q ≡ Some on → is_unclocked on ≡ false →
    only_at taken (written_at_port r.system.ports W) q ≡ written_at_port r.system.ports W q
none_there r W solves taken q on at out =
    let none : written_at_port r.system.ports W q ≡ None =
    written_at-is r.system.ports W q on at ∙ ap (written_by on.role on W) (none_outside r W solves q on at out) ∙ written_none on.role on W in
    either_none (is_taken taken q) (written_at_port r.system.ports W q) none ∙ sym none

pub looks_initially : LooksInitially
looks_initially r sound machines p port is output read W solves taken needed c m s fmu call at =
    let placed = place_of r.system sound p port is in
    let same : c ≡ placed.component = same_Some _ _ (sym fmu.component ∙ placed.is.of) in
    let machine = machines.each port.component.0 c m fmu.component fmu.machine in
    look_alike r.system sound true p port placed m s (only_at taken (written_at_port r.system.ports W)) (written_at_port r.system.ports W) output (λ f. absurd (true_false f))
    (subst (λ (x : Component). IsMachineOf x.shape m) same machine.0) (subst (λ (x : Component). IsLawful x.shape m) same machine.1)
    (subst (λ (x : Component). IsStateOf x.shape true m s) same (states_initializing r machines port.component.0 c m s fmu))
    (record {
      on = λ q d. (elim (is_unclocked d.on) as (λ b. is_unclocked d.on ≡ b → only_at taken (written_at_port r.system.ports W) q ≡ written_at_port r.system.ports W q) [
        | true ↦ λ e. ap (λ b. if b then written_at_port r.system.ports W q else None)
            (taken-is taken q (needed q (InitiallyByDependency (read_unclocked r.system.ports r.system.ports p read) (unclocked_at-is r.system.ports q d.on d.there ∙ e) d)))
        | false ↦ λ e. none_there r W solves taken q d.on d.there e
      ]) refl;
      outputs = outputs_none r.system.ports W taken;
    }) call at

pub all_at_last_initially : AllAtLastInitially
all_at_last_initially r sound W solves i m s =
    let order = port_numbers r.system.initial_order in
    let at_port = written_at_port r.system.ports W in
    ap (λ w. state_written r.system.ports w i m s) (funext (only_at order at_port) at_port (λ q.
    (elim (slice_get r.system.ports q) as (λ o. slice_get r.system.ports q ≡ o → only_at order at_port q ≡ at_port q) [
      | None ↦ λ e. either (is_taken order q) (at_port q) (ap (λ o. option_and_then (λ (x : Port). written_by x.role x W (value W q)) o) e)
      | Some port ↦ λ e. (elim (is_unclocked port) as (λ b. is_unclocked port ≡ b → only_at order at_port q ≡ at_port q) [
        | true ↦ λ u. ap (λ b. if b then at_port q else None) (taken-is order q (sound.initial_order.each q (unclocked_at-is r.system.ports q port e ∙ u)))
        | false ↦ λ u. none_there r W solves order q port e u
      ]) refl
    ]) refl))

pub present_by_needs : PresentByNeeds
present_by_needs = present_alike

pub value_by_needs : ValueByNeeds
value_by_needs r sound machines s fit p port is V W agree last v w x y =
    value_same r sound machines s fit p port last V W is (record { direct = agree.needed; further = agree.further }) port.role refl v w x y
