-- A system of drawn components is sound where each feeder stands before what it feeds.
use Rattle.std.proofs.Common.{◌≡◌, ℕ, zero, suc, ◌+◌, ◌*◌, ◌-◌, ◌<◌, ◌≤◌, Bool, true, false, List, [], ◌∷◌, ◌++◌, length, map, refl, sym, ◌∙◌, ap, subst, arith, All, Contains, nat_eq}
use Rattle.std.specs.Prelude.{Option, Some, None, IsSomeAnd, filter, slice_get, codes, pos}
use Rattle.std.specs.Fmt.{decimal}
use Rattle.std.specs.Option.{option_map, option_map_or}
use Rattle.std.specs.List.{AllZip, IsDistinct, range_with_len}
use Rattle.std.proofs.lemmas.Option.{none-some as none_some, same_Some, slice_get_within}
use Rattle.std.proofs.lemmas.List.Elements.{All-nil, All-cons}
use Rattle.std.proofs.lemmas.List.FromFn.{length-map-range_with_len}
use Rattle.std.proofs.lemmas.Map.Keys.{IsDistinct-cons}
use Rattle.std.proofs.lemmas.Int.{ints}
use Rattle.sim_base.specs.declared.numbers.PortId.{PortId}
use Rattle.value_types.specs.Joint.{IsWithin, class_of}
use Rattle.value_types.specs.Values.{Fits}
use Rattle.value_types.specs.Shape.{variable_at, is_at, is_clock, is_declared, is_output_port, is_port}
use Rattle.value_types.specs.declared.values.PortType.{PortType}
use Rattle.value_types.specs.declared.values.PortType.TheVariants as T
use Rattle.value_types.specs.declared.shape.Causality.{Causality}
use Rattle.value_types.specs.declared.shape.Causality.TheVariants as V
use Rattle.value_types.specs.declared.shape.Variable.{Variable}
use Rattle.value_types.specs.declared.shape.Shape.{Shape}
use Rattle.system_model.specs.declared.bound.BoundValue.{BoundValue}
use Rattle.system_model.specs.declared.system.Component.{Component}
use Rattle.system_model.specs.declared.system.Feed.{Feed}
use Rattle.system_model.specs.declared.system.Role.{Role}
use Rattle.system_model.specs.declared.system.Role.TheVariants.{Input, Output, ClockInput, ClockOutput, TimeClock}
use Rattle.system_model.specs.declared.system.Port.{Port}
use Rattle.system_model.specs.Bounds.{AreParameterValues, BindsParameters, IsParameterValue}
use Rattle.system_model.specs.Carried.{IsOn}
use Rattle.system_model.specs.Ports.{port_numbers, source_of, is_output_role}
use Rattle.system_model.specs.Ports as fed
use Rattle.system_model.specs.Needs.{Needs, ByFeed, ByClock, ByDependency, NeedsInitially, InitiallyByFeed, InitiallyByDependency, DependsOn, is_unclocked, is_unclocked_at}
use Rattle.system_model.specs.Shapes.{IsSoundClock, IsSoundDependency, IsSoundShape, HasFittingStart, HasNames, NamesClocks}
use Rattle.system_model.specs.Sound.{IsSound, IsPort, IsRole, IsUnder, IsFeed, HasSoundComponents, HasSoundPorts}
use Rattle.system_model.proofs.CallerLemmas.{all_by_place, true_false}
use Rattle.generated_system.specs.declared.drawn.DrawnMachine.{DrawnMachine}
use Rattle.generated_system.specs.declared.drawn.DrawnMachine.TheVariants.{Counter, Gain, Alarm}
use Rattle.generated_system.specs.declared.drawn.Drawn.{Drawn}
use Rattle.generated_system.specs.Shapes.{dependencies_of, known_to_output, output_reference, shape_of, variable, variables_of}
use Rattle.generated_system.specs.Generated.{bound_from, component_of, feed_of, first_port, output_of, port_count, port_of, system_from}
use Rattle.generated_system.specs.Suited.{SuitsBuiltIns}
use Rattle.generated_system.proofs.Blocks.{ends_before}
use Rattle.generated_system.proofs.ByNumber.{numbers_of, order_of_smaller}
use Rattle.generated_system.proofs.SystemPorts.{IsOf, IsOwn, OwnInput, OwnOutput, begins, block, component_at, first_more, first_within, numbered_from, of_port, output_at, output_variable, ports_long, some_ports}

-- what has to hold of what is drawn
pub record AreDrawn (drawn : ℕ → Drawn) : Type 0 where
  pub feeders : (i j : ℕ) → (drawn i).feeder ≡ Some j → j < i
  pub parameters : (i : ℕ) → (drawn i).parameter ≤ 85

-- ---- shapes

all1 : {X : Type 0} (P : X → Type 0) (x : X) → P x → All P (x ∷ [])
all1 P x a = All-cons P x [] a (All-nil P)

all2 : {X : Type 0} (P : X → Type 0) (x y : X) → P x → P y → All P (x ∷ y ∷ [])
all2 P x y a b = All-cons P x (y ∷ []) a (all1 P y b)

all3 : {X : Type 0} (P : X → Type 0) (x y z : X) → P x → P y → P z → All P (x ∷ y ∷ z ∷ [])
all3 P x y z a b c = All-cons P x (y ∷ z ∷ []) a (all2 P y z b c)

distinct_one : (r : ℕ) → IsDistinct nat_eq (r ∷ [])
unfolding IsDistinct
distinct_one r = (tt, tt)

distinct_two : IsDistinct nat_eq (1 ∷ 2 ∷ [])
distinct_two = IsDistinct-cons nat_eq 1 (2 ∷ []) (refl, tt) (distinct_one 2)

distinct_three : IsDistinct nat_eq (1 ∷ 2 ∷ 3 ∷ [])
distinct_three = IsDistinct-cons nat_eq 1 (2 ∷ 3 ∷ []) (refl, (refl, tt)) (IsDistinct-cons nat_eq 2 (3 ∷ []) (refl, tt) (distinct_one 3))

small_fits : (x : ℕ) → x ≤ 85 → Fits T.Int32 (pos x)
small_fits x small = (omega (arith, ints), omega (arith, ints, small))

zero_fits : Fits T.Int32 (pos 0)
zero_fits = small_fits 0 (omega arith)

-- what holds of each variable of such a name, reference and causality holds of those of a machine
each_variable : (machine : DrawnMachine) (P : Variable → Type 0) → ((name : List ℕ) (reference : ℕ) (causality : Causality) → 0 < length name → P (variable name reference causality)) → All P (variables_of machine)
each_variable Counter P h = all3 P _ _ _ (h (codes "inc") 1 V.Parameter (omega arith)) (h (codes "y") 2 V.Output (omega arith)) (h (codes "long") 3 V.Parameter (omega arith))
each_variable Gain P h = all3 P _ _ _ (h (codes "k") 1 V.Parameter (omega arith)) (h (codes "u") 2 V.Input (omega arith)) (h (codes "y") 3 V.Output (omega arith))
each_variable Alarm P h = all2 P _ _ (h (codes "at") 1 V.Parameter (omega arith)) (h (codes "y") 2 V.Output (omega arith))

distinct_variables : (machine : DrawnMachine) → IsDistinct nat_eq (map (λ (v : Variable). v.reference) (variables_of machine))
distinct_variables Counter = distinct_three
distinct_variables Gain = distinct_three
distinct_variables Alarm = distinct_two

no_timings : (machine : DrawnMachine) → AllZip (IsSoundClock (shape_of machine)) (filter is_clock (variables_of machine)) []
no_timings Counter = tt
no_timings Gain = tt
no_timings Alarm = tt

known_ports : (machine : DrawnMachine) → All (λ r. is_at is_port (variables_of machine) r ≡ true) (known_to_output machine)
known_ports Counter = All-nil _
known_ports Gain = all1 (λ r. is_at is_port (variables_of Gain) r ≡ true) 2 refl
known_ports Alarm = All-nil _

sound_dependencies : (machine : DrawnMachine) → AllZip (IsSoundDependency (shape_of machine)) (filter is_output_port (variables_of machine)) (dependencies_of machine)
sound_dependencies Counter = (record { output = refl; on = known_ports Counter }, tt)
sound_dependencies Gain = (record { output = refl; on = known_ports Gain }, tt)
sound_dependencies Alarm = (record { output = refl; on = known_ports Alarm }, tt)

sound_shape : (machine : DrawnMachine) → IsSoundShape (shape_of machine)
sound_shape machine = record {
  variables = record {
    named = each_variable machine HasNames (λ name reference causality named. (named, All-nil _));
    distinct = distinct_variables machine;
    starts = each_variable machine HasFittingStart (λ name reference causality named. zero_fits);
    clocks = each_variable machine (NamesClocks (shape_of machine)) (λ name reference causality named e. All-nil _);
  };
  clocks = no_timings machine;
  dependencies = sound_dependencies machine;
  initial_dependencies = sound_dependencies machine;
  serialized = λ e. absurd (true_false (sym e));
}

-- ---- components

-- what holds of each component of a number holds of those of the system
each_component : (drawn : ℕ → Drawn) (n : ℕ) (P : Component → Type 0) → ((i : ℕ) (machine : DrawnMachine) → P (component_of i machine)) → All P (system_from drawn n).components
each_component drawn n P h = all_by_place P (system_from drawn n).components (λ i c e. subst P (sym (component_at drawn n i c e)) (h i (drawn i).machine))

sound_components : (drawn : ℕ → Drawn) (n : ℕ) → n ≤ 256 → HasSoundComponents (system_from drawn n)
sound_components drawn n few = record {
  few = let long : length (system_from drawn n).components ≡ n = length-map-range_with_len (λ i. component_of i (drawn i).machine) 0 n in omega (arith, long, few);
  named = each_component drawn n (λ c. 0 < length c.name) (λ i machine. named (decimal i));
  shapes = each_component drawn n (λ c. IsSoundShape c.shape) (λ i machine. sound_shape machine);
  per_second = 1000;
  above = omega arith;
  within = omega arith;
  resolutions = each_component drawn n (λ c. c.shape.resolution ≡ 1000) (λ i machine. refl);
  saved = λ two. each_component drawn n (λ c. c.shape.can_save_state ≡ true) (λ i machine. refl);
}
  where
    named : (digits : List ℕ) → 0 < length (codes "b" ++ digits)
    named digits = omega arith

-- ---- ports

-- the component of a port
number_of_port : (drawn : ℕ → Drawn) (n p : ℕ) (port : Port) (of : IsOf drawn n p port) → port.component.0 ≡ of.number
number_of_port drawn n p port of = number of.number (drawn of.number).machine (feed_of drawn of.number) of.place port of.own
  where
    number : (i : ℕ) (machine : DrawnMachine) (feed : Option Feed) (k : ℕ) (x : Port) → IsOwn i machine feed k x → x.component.0 ≡ i
    number i machine feed k x (OwnInput is first eq) = ap (λ (y : Port). y.component.0) eq
    number i machine feed k x (OwnOutput last eq) = ap (λ (y : Port). y.component.0) eq

component_of_port : (drawn : ℕ → Drawn) (n p : ℕ) (port : Port) (c : Component) (of : IsOf drawn n p port) → slice_get (system_from drawn n).components port.component.0 ≡ Some c → c ≡ component_of of.number (drawn of.number).machine
component_of_port drawn n p port c of e =
    component_at drawn n of.number c (ap (slice_get (system_from drawn n).components) (sym (number_of_port drawn n p port of)) ∙ e)

-- what is found under the reference of a port is of its role, and both are without Clocks
pub record Suits (shape : Shape) (v : Variable) (port : Port) : Type 0 where
  pub role : IsRole shape v port.role
  pub clocks : v.clocks ≡ []
  pub none : port.clocks ≡ []

suits : (i : ℕ) (machine : DrawnMachine) (feed : Option Feed) (k : ℕ) (port : Port) (v : Variable) → IsOwn i machine feed k port → variable_at (variables_of machine) port.reference ≡ Some v → Suits (shape_of machine) v port
suits i machine feed k port v (OwnInput is first eq) there =
    let under : variable_at (variables_of Gain) 2 ≡ Some v = ap (λ m. variable_at (variables_of m) 2) (sym is) ∙ ap (λ (x : Port). variable_at (variables_of machine) x.reference) (sym eq) ∙ there in
    let found : variable (codes "u") 2 V.Input ≡ v = same_Some _ _ under in
    let plain : Suits (shape_of machine) (variable (codes "u") 2 V.Input) (port_of i (codes "u") 2 (Input feed)) = record { role = (refl, refl); clocks = refl; none = refl } in
    subst (λ x. Suits (shape_of machine) v x) (sym eq) (subst (λ x. Suits (shape_of machine) x (port_of i (codes "u") 2 (Input feed))) found plain)
suits i machine feed k port v (OwnOutput last eq) there =
    let under : variable_at (variables_of machine) (output_reference machine) ≡ Some v = ap (λ (x : Port). variable_at (variables_of machine) x.reference) (sym eq) ∙ there in
    let found : variable (codes "y") (output_reference machine) V.Output ≡ v = same_Some _ _ (sym (output_variable machine) ∙ under) in
    let y = port_of i (codes "y") (output_reference machine) Output in
    let plain : Suits (shape_of machine) (variable (codes "y") (output_reference machine) V.Output) y = record { role = (refl, refl); clocks = refl; none = refl } in
    subst (λ x. Suits (shape_of machine) v x) (sym eq) (subst (λ x. Suits (shape_of machine) x y) found plain)

suits_at : (drawn : ℕ → Drawn) (n p : ℕ) (port : Port) (c : Component) (v : Variable) → IsPort (system_from drawn n) p port c v → Suits c.shape v port
suits_at drawn n p port c v at =
    let of : IsOf drawn n p port = of_port drawn n p port at.at in
    let is : c ≡ component_of of.number (drawn of.number).machine = component_of_port drawn n p port c of at.of in
    let m = (drawn of.number).machine in
    let there : variable_at (variables_of m) port.reference ≡ Some v = ap (λ (x : Component). variable_at x.shape.variables port.reference) (sym is) ∙ at.there in
    subst (λ (x : Component). Suits x.shape v port) (sym is) (suits of.number m (feed_of drawn of.number) of.place port v of.own there)

sound_ports : (drawn : ℕ → Drawn) (n : ℕ) → n ≤ 256 → HasSoundPorts (system_from drawn n)
sound_ports drawn n few = record {
  few =
      let long : length (system_from drawn n).ports ≡ first_port drawn n = ports_long drawn n in
      let two : first_port drawn n ≤ 2 * n = first_within drawn n in
      omega (arith, long, two, few);
  numbered = numbered_from drawn 0 n;
  roles = λ p port c v at. (suits_at drawn n p port c v at).role;
  clocks = λ p port c v at.
      let f = suits_at drawn n p port c v at in
      subst (λ xs. AllZip (IsUnder (system_from drawn n) port.component.0) xs port.clocks) (sym f.clocks)
      (subst (λ xs. AllZip (IsUnder (system_from drawn n) port.component.0) [] xs) (sym f.none) tt);
}

-- ---- connections

-- what feeds a port: the output of a component before its own
pub record IsFedBy (drawn : ℕ → Drawn) (n i q : ℕ) : Type 0 where
  pub feeder : ℕ
  pub before : feeder < i
  pub is : q ≡ first_port drawn (suc feeder) - 1

fed_by : (drawn : ℕ → Drawn) → AreDrawn drawn → (n i q : ℕ) (machine : DrawnMachine) (k : ℕ) (port : Port) → IsOwn i machine (feed_of drawn i) k port → source_of port.role ≡ Some q → IsFedBy drawn n i q
fed_by drawn are n i q machine k port (OwnOutput last eq) e = absurd (none_some q (ap (λ (x : Port). source_of x.role) (sym eq) ∙ e))
fed_by drawn are n i q machine k port (OwnInput is first eq) e =
    (elim (drawn i).feeder as (λ o. (drawn i).feeder ≡ o →
    option_map (λ (f : Feed). f.from.0) (option_map (λ j. record { from = record { 0 = first_port drawn (suc j) - 1 }; changes = [] }) o) ≡ Some q → IsFedBy drawn n i q) [
      | None ↦ λ o h. absurd (none_some q h)
      | Some j ↦ λ o h. record { feeder = j; before = are.feeders i j o; is = sym (same_Some _ _ h) }
    ]) refl (ap (λ (x : Port). source_of x.role) (sym eq) ∙ e)

fed_at : (drawn : ℕ → Drawn) → AreDrawn drawn → (n p q : ℕ) (port : Port) (of : IsOf drawn n p port) → source_of port.role ≡ Some q → IsFedBy drawn n of.number q
fed_at drawn are n p q port of e = fed_by drawn are n of.number q (drawn of.number).machine of.place port of.own e

-- it stands before the port that it feeds
fed_before : (drawn : ℕ → Drawn) → AreDrawn drawn → (n p q : ℕ) (port : Port) → slice_get (system_from drawn n).ports p ≡ Some port → source_of port.role ≡ Some q → q < p
fed_before drawn are n p q port at e =
    let of : IsOf drawn n p port = of_port drawn n p port at in
    let by : IsFedBy drawn n of.number q = fed_at drawn are n p q port of e in
    let place : p ≡ first_port drawn of.number + of.place = of.at in
    let is : q ≡ first_port drawn (suc by.feeder) - 1 = by.is in
    let ends : first_port drawn (suc by.feeder) ≤ first_port drawn of.number = ends_before (block drawn) (first_port drawn) (begins drawn) by.feeder of.number by.before in
    let more : first_port drawn (suc by.feeder) ≡ first_port drawn by.feeder + port_count (drawn by.feeder).machine = first_more drawn by.feeder in
    let some : 0 < port_count (drawn by.feeder).machine = some_ports (drawn by.feeder).machine in
    omega (arith, place, is, ends, more, some)

is_input : (i : ℕ) (machine : DrawnMachine) (feed : Option Feed) (k q : ℕ) (port : Port) → IsOwn i machine feed k port → source_of port.role ≡ Some q → port ≡ port_of i (codes "u") 2 (Input feed)
is_input i machine feed k q port (OwnInput is first eq) e = eq
is_input i machine feed k q port (OwnOutput last eq) e = absurd (none_some q (ap (λ (x : Port). source_of x.role) (sym eq) ∙ e))

no_changes : (drawn : ℕ → Drawn) (o : Option ℕ) (feed : Feed) → option_map (λ j. record { from = output_of drawn j; changes = [] }) o ≡ Some feed → feed.changes ≡ []
no_changes drawn None feed e = absurd (none_some feed e)
no_changes drawn (Some j) feed e = ap (λ (f : Feed). f.changes) (sym (same_Some (record { from = output_of drawn j; changes = [] }) feed e))

-- a feed without changes between ports of one type
plain_feed : (feed : Feed) (source target : Port) → feed.changes ≡ [] → is_output_role source.role ≡ true → source.kind ≡ T.Int32 → target.kind ≡ T.Int32 → IsFeed feed source target
plain_feed feed source target none output from to = record {
  output = output;
  same_class = ap class_of (from ∙ sym to);
  changes = subst (All (IsOn (class_of target.kind))) (sym none) (All-nil (IsOn (class_of target.kind)));
  range = λ e. subst (λ (k : PortType). IsWithin source.kind k) (from ∙ sym to) (λ x h. h);
}

source_by : (role : Role) (feed : Feed) → fed.feed_of role ≡ Some feed → source_of role ≡ Some feed.from.0
source_by (Input given) feed e = ap (option_map (λ (f : Feed). f.from.0)) e
source_by Output feed e = absurd (none_some feed e)
source_by (ClockInput given) feed e = ap (option_map (λ (f : Feed). f.from.0)) e
source_by ClockOutput feed e = absurd (none_some feed e)
source_by (TimeClock timing) feed e = absurd (none_some feed e)

sound_feed : (drawn : ℕ → Drawn) → AreDrawn drawn → (n p : ℕ) (port : Port) (feed : Feed) → slice_get (system_from drawn n).ports p ≡ Some port → fed.feed_of port.role ≡ Some feed →
    IsSomeAnd (slice_get (system_from drawn n).ports feed.from.0) (λ (source : Port). IsFeed feed source port)
sound_feed drawn are n p port feed at e =
    let q = feed.from.0 in
    let from : source_of port.role ≡ Some q = source_by port.role feed e in
    let of : IsOf drawn n p port = of_port drawn n p port at in
    let by : IsFedBy drawn n of.number q = fed_at drawn are n p q port of from in
    let before : by.feeder < of.number = by.before in
    let within : of.number < n = of.within in
    let y = port_of by.feeder (codes "y") (output_reference (drawn by.feeder).machine) Output in
    let there : slice_get (system_from drawn n).ports q ≡ Some y = ap (slice_get (system_from drawn n).ports) by.is ∙ output_at drawn n by.feeder (omega (arith, before, within)) in
    let is : port ≡ port_of of.number (codes "u") 2 (Input (feed_of drawn of.number)) = is_input of.number (drawn of.number).machine (feed_of drawn of.number) of.place q port of.own from in
    let none : feed.changes ≡ [] = no_changes drawn (drawn of.number).feeder feed (sym (ap (λ (x : Port). fed.feed_of x.role) is) ∙ e) in
    subst (λ o. IsSomeAnd o (λ (source : Port). IsFeed feed source port)) (sym there) (plain_feed feed y port none refl refl (ap (λ (x : Port). x.kind) is))

-- ---- dependencies

-- no output depends on itself
not_itself : (machine : DrawnMachine) (b : Bool) → is_declared (shape_of machine) b (output_reference machine) (variable (codes "y") (output_reference machine) V.Output) ≡ true → ⊥
not_itself Counter true e = true_false (sym e)
not_itself Counter false e = true_false (sym e)
not_itself Gain true e = true_false (sym e)
not_itself Gain false e = true_false (sym e)
not_itself Alarm true e = true_false (sym e)
not_itself Alarm false e = true_false (sym e)

-- an output depends on the input, which stands before it
depends_own : (i : ℕ) (machine : DrawnMachine) (feed : Option Feed) (b : Bool) (k l : ℕ) (port on : Port) → IsOwn i machine feed k port → IsOwn i machine feed l on → is_output_role port.role ≡ true →
    IsSomeAnd (variable_at (variables_of machine) on.reference) (λ (v : Variable). is_declared (shape_of machine) b port.reference v ≡ true) → l < k
depends_own i machine feed b k l port on (OwnInput is first eq) other o d = absurd (true_false (sym o ∙ ap (λ (x : Port). is_output_role x.role) eq))
depends_own i machine feed b k l port on (OwnOutput last eq) (OwnInput is first there) o d =
    let two : port_count machine ≡ 2 = ap port_count is in
    omega (arith, two, last, first)
depends_own i machine feed b k l port on (OwnOutput last eq) (OwnOutput end there) o d =
    let by_port = subst (λ (x : Port). IsSomeAnd (variable_at (variables_of machine) on.reference) (λ (v : Variable). is_declared (shape_of machine) b x.reference v ≡ true)) eq d in
    let by_on = subst (λ (x : Port). IsSomeAnd (variable_at (variables_of machine) x.reference) (λ (v : Variable). is_declared (shape_of machine) b (output_reference machine) v ≡ true)) there by_port in
    let itself = subst (λ o. IsSomeAnd o (λ (v : Variable). is_declared (shape_of machine) b (output_reference machine) v ≡ true)) (output_variable machine) by_on in
    absurd (not_itself machine b itself)

depends_before : (drawn : ℕ → Drawn) (n : ℕ) (b : Bool) (p q : ℕ) → DependsOn (system_from drawn n) b p q → q < p
depends_before drawn n b p q d =
    let of : IsOf drawn n p d.port = of_port drawn n p d.port d.at in
    let on : IsOf drawn n q d.on = of_port drawn n q d.on d.there in
    let m = (drawn of.number).machine in
    let same : on.number ≡ of.number = sym (number_of_port drawn n q d.on on) ∙ d.same ∙ number_of_port drawn n p d.port of in
    let is : d.component ≡ component_of of.number m = component_of_port drawn n p d.port d.component of d.of in
    let declared : IsSomeAnd (variable_at (variables_of m) d.on.reference) (λ (v : Variable). is_declared (shape_of m) b d.port.reference v ≡ true) =
    subst (λ (x : Component). IsSomeAnd (variable_at x.shape.variables d.on.reference) (λ (v : Variable). is_declared x.shape b d.port.reference v ≡ true)) is d.declared in
    let own : IsOwn of.number m (feed_of drawn of.number) on.place d.on = subst (λ j. IsOwn j (drawn j).machine (feed_of drawn j) on.place d.on) same on.own in
    let less : on.place < of.place = depends_own of.number m (feed_of drawn of.number) b of.place on.place d.port d.on of.own own d.output declared in
    let here : p ≡ first_port drawn of.number + of.place = of.at in
    let there : q ≡ first_port drawn on.number + on.place = on.at in
    let first : first_port drawn on.number ≡ first_port drawn of.number = ap (first_port drawn) same in
    omega (arith, less, here, there, first)

-- ---- what is needed

no_clocks : (i : ℕ) (machine : DrawnMachine) (feed : Option Feed) (k : ℕ) (port : Port) → IsOwn i machine feed k port → port.clocks ≡ []
no_clocks i machine feed k port (OwnInput is first eq) = ap (λ (x : Port). x.clocks) eq
no_clocks i machine feed k port (OwnOutput last eq) = ap (λ (x : Port). x.clocks) eq

needs_before : (drawn : ℕ → Drawn) → AreDrawn drawn → (n p q : ℕ) → Needs (system_from drawn n) p q → q < p
needs_before drawn are n p q (ByFeed port at from) = fed_before drawn are n p q port at from
needs_before drawn are n p q (ByClock port at among) =
    let of : IsOf drawn n p port = of_port drawn n p port at in
    let none : port.clocks ≡ [] = no_clocks of.number (drawn of.number).machine (feed_of drawn of.number) of.place port of.own in
    let m : Contains (port_numbers []) q = subst (λ (xs : List PortId). Contains (port_numbers xs) q) none among in
    let less : m.0 < 0 = m.1 in
    absurd (omega (arith, less))
needs_before drawn are n p q (ByDependency d events) = depends_before drawn n false p q d

needs_before_initially : (drawn : ℕ → Drawn) → AreDrawn drawn → (n p q : ℕ) → NeedsInitially (system_from drawn n) p q → q < p
needs_before_initially drawn are n p q (InitiallyByFeed here there port at from) = fed_before drawn are n p q port at from
needs_before_initially drawn are n p q (InitiallyByDependency here there d) = depends_before drawn n true p q d

-- ---- all ports have no Clocks

plain : (i : ℕ) (machine : DrawnMachine) (feed : Option Feed) (k : ℕ) (port : Port) → IsOwn i machine feed k port → is_unclocked port ≡ true
plain i machine feed k port (OwnInput is first eq) = ap is_unclocked eq
plain i machine feed k port (OwnOutput last eq) = ap is_unclocked eq

unclocked_within : (ports : List Port) (p : ℕ) → is_unclocked_at ports p ≡ true → p < length ports
unclocked_within ports p e =
    (elim (slice_get ports p) as (λ o. slice_get ports p ≡ o → option_map_or is_unclocked o false ≡ true → p < length ports) [
      | None ↦ λ at h. absurd (true_false (sym h))
      | Some port ↦ λ at h. slice_get_within ports p port at
    ]) refl e

within_unclocked : (drawn : ℕ → Drawn) (n p : ℕ) → p < length (system_from drawn n).ports → is_unclocked_at (system_from drawn n).ports p ≡ true
within_unclocked drawn n p less =
    (elim (slice_get (system_from drawn n).ports p) as (λ o. slice_get (system_from drawn n).ports p ≡ o → option_map_or is_unclocked o false ≡ true) [
      | None ↦ λ at. absurd (past (system_from drawn n).ports p at less)
      | Some port ↦ λ at. let of : IsOf drawn n p port = of_port drawn n p port at in
          plain of.number (drawn of.number).machine (feed_of drawn of.number) of.place port of.own
    ]) refl
  where
    past : (xs : List Port) (k : ℕ) → slice_get xs k ≡ None → k < length xs → ⊥
    past [] k e lt = absurd (omega (arith, lt))
    past (x ∷ xs) zero e lt = none_some x (sym e)
    past (x ∷ xs) (suc k) e lt = past xs k e (omega (arith, lt))

-- ---- the whole

by_number : (drawn : ℕ → Drawn) (n : ℕ) → port_numbers (map (λ p. record { 0 = p }) (range_with_len 0 (first_port drawn n))) ≡ range_with_len 0 (length (system_from drawn n).ports)
by_number drawn n = numbers_of 0 (first_port drawn n) ∙ ap (range_with_len 0) (sym (ports_long drawn n))

pub system_sound : (drawn : ℕ → Drawn) → AreDrawn drawn → (n : ℕ) → n ≤ 256 → IsSound (system_from drawn n)
system_sound drawn are n few = record {
  components = sound_components drawn n few;
  ports = sound_ports drawn n few;
  feeds = λ p port feed at from. sound_feed drawn are n p port feed at from;
  instant_order = order_of_smaller (length (system_from drawn n).ports) (λ p. p < length (system_from drawn n).ports) (Needs (system_from drawn n)) (port_numbers (system_from drawn n).instant_order) (by_number drawn n)
      (λ p h. h) (λ p h. h) (needs_before drawn are n);
  initial_order = order_of_smaller (length (system_from drawn n).ports) (λ p. is_unclocked_at (system_from drawn n).ports p ≡ true) (NeedsInitially (system_from drawn n)) (port_numbers (system_from drawn n).initial_order) (by_number drawn n)
      (unclocked_within (system_from drawn n).ports) (within_unclocked drawn n) (needs_before_initially drawn are n);
}

-- ---- the values of parameters

first_parameter : (machine : DrawnMachine) (x : ℕ) → x ≤ 85 → IsParameterValue (shape_of machine) (record { kind = T.Int32; reference = 1; value = pos x })
first_parameter Counter x small = record { variable = variable (codes "inc") 1 V.Parameter; at = refl; parameter = refl; kind = refl; no_clock = refl; fits = small_fits x small }
first_parameter Gain x small = record { variable = variable (codes "k") 1 V.Parameter; at = refl; parameter = refl; kind = refl; no_clock = refl; fits = small_fits x small }
first_parameter Alarm x small = record { variable = variable (codes "at") 1 V.Parameter; at = refl; parameter = refl; kind = refl; no_clock = refl; fits = small_fits x small }

values_of : (machine : DrawnMachine) (x : ℕ) → x ≤ 85 → AreParameterValues (shape_of machine) (record { kind = T.Int32; reference = 1; value = pos x } ∷ [])
values_of machine x small = record { each = all1 (IsParameterValue (shape_of machine)) _ (first_parameter machine x small); once = distinct_one 1 }

pub system_binds : (drawn : ℕ → Drawn) → AreDrawn drawn → (n : ℕ) → BindsParameters (system_from drawn n) (bound_from drawn n)
system_binds drawn are n = along 0 n
  where
    along : (a k : ℕ) → AllZip (λ (c : Component) (values : List BoundValue). AreParameterValues c.shape values)
        (map (λ i. component_of i (drawn i).machine) (range_with_len a k)) (map (λ i. record { kind = T.Int32; reference = 1; value = pos (drawn i).parameter } ∷ []) (range_with_len a k))
    along a zero = tt
    along a (suc k) = (values_of (drawn a).machine (drawn a).parameter (are.parameters a), along (a + 1) k)

-- ---- built-in machines

suited : (i : ℕ) (machine : DrawnMachine) → SuitsBuiltIns (component_of i machine)
suited i Counter = record { known = refl; unclocked = refl; counts = refl }
suited i Gain = record { known = refl; unclocked = refl; counts = refl }
suited i Alarm = record { known = refl; unclocked = refl; counts = refl }

pub system_suited : (drawn : ℕ → Drawn) (n : ℕ) → All SuitsBuiltIns (system_from drawn n).components
system_suited drawn n = each_component drawn n SuitsBuiltIns suited
