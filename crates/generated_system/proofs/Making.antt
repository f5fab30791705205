-- How far a system of drawn components is made, with its first k components.
use Rattle.std.proofs.Common.{◌≡◌, ℕ, zero, suc, ◌+◌, ◌*◌, ◌-◌, ◌<◌, ◌≤◌, List, [], ◌∷◌, ◌++◌, length, map, refl, sym, ◌∙◌, ap, subst, arith, append_assoc, append-nil}
use Rattle.std.specs.Prelude.{Option, Some, None, pos, slice_get}
use Rattle.std.specs.List.{flat_map, range_with_len}
use Rattle.std.specs.Option.{option_map}
use Rattle.std.proofs.lemmas.List.FromFn.{length-map-range_with_len, map-range_with_len_more}
use Rattle.sim_base.specs.declared.numbers.PortId.{PortId}
use Rattle.value_types.specs.declared.values.PortType.TheVariants as T
use Rattle.system_model.specs.Bounds.{BindsParameters}
use Rattle.system_model.specs.declared.bound.Bound.{Bound}
use Rattle.system_model.specs.declared.bound.BoundValue.{BoundValue}
use Rattle.system_model.specs.declared.system.Component.{Component}
use Rattle.system_model.specs.declared.system.Feed.{Feed}
use Rattle.system_model.specs.declared.system.Port.{Port}
use Rattle.system_model.specs.declared.system.System.{System}
use Rattle.generated_system.specs.declared.drawn.Drawn.{Drawn}
use Rattle.generated_system.specs.declared.parts.Parts.{Parts}
use Rattle.generated_system.specs.Draws.{drawn_for, drawn_from, draws_taken, number_after, number_before}
use Rattle.generated_system.specs.Generated.{component_of, feed_of, first_port, generated_bound, generated_system, output_of, ports_of}
use Rattle.generated_system.specs.Parts.{Adds, HasParts, fed_by}
use Rattle.generated_system.proofs.Blocks.{at_mapped}
use Rattle.generated_system.proofs.DrawnSound.{are_drawn}
use Rattle.generated_system.proofs.SystemSound.{system_binds}
use Rattle.generated_system.proofs.SystemPorts.{block, first_within, ports_long}

-- the parts are those of the first k components, and the number is that after which the next draws begin
pub record IsMade (seed k number : ℕ) (parts : Parts) : Type 0 where
  pub begins : number ≡ number_before seed k
  pub has : HasParts seed k parts

pub number_none : (seed : ℕ) → seed ≡ number_before seed 0
unfolding number_before
number_none seed = refl

pub none_made : (seed : ℕ) (parts : Parts) → parts.components.items ≡ [] → parts.ports.items ≡ [] → parts.outputs.items ≡ [] → parts.values.items ≡ [] → IsMade seed 0 seed parts
none_made seed parts a b c d = record { begins = number_none seed; has = record { components = a; ports = b; outputs = c; values = d } }

-- ---- one more component

number_more : (seed k : ℕ) → number_before seed (suc k) ≡ number_after (number_before seed k) (draws_taken (drawn_for seed k))
unfolding number_before
number_more seed k = refl

up : (k : ℕ) → k + 1 ≡ suc k
up k = omega arith

blocks_more : {X : Type 0} (f : ℕ → List X) (a n : ℕ) → flat_map f (range_with_len a (suc n)) ≡ flat_map f (range_with_len a n) ++ f (a + n)
blocks_more f a zero = append-nil (f a) ∙ ap f (let z : a ≡ a + 0 = omega arith in z)
blocks_more f a (suc n) =
    ap (λ xs. f a ++ xs) (blocks_more f (a + 1) n ∙ ap (λ i. flat_map f (range_with_len (a + 1) n) ++ f i) (let z : a + 1 + n ≡ a + suc n = omega arith in z)) ∙
    sym (append_assoc (f a) (flat_map f (range_with_len (a + 1) n)) (f (a + suc n)))

ports_more : (seed k : ℕ) → (generated_system seed (suc k)).ports ≡ (generated_system seed k).ports ++ block (drawn_for seed) k
ports_more seed k = blocks_more (block (drawn_for seed)) 0 k ∙ ap (λ i. (generated_system seed k).ports ++ block (drawn_for seed) i) (let z : 0 + k ≡ k = omega arith in z)

-- what feeds a component is found among the outputs of those before it
fed_right : (seed k : ℕ) (feeder : Option ℕ) (outputs : List PortId) → feeder ≡ (drawn_for seed k).feeder → outputs ≡ map (output_of (drawn_for seed)) (range_with_len 0 k) → fed_by outputs feeder ≡ feed_of (drawn_for seed) k
fed_right seed k None outputs is are = ap (option_map (λ j. record { from = output_of (drawn_for seed) j; changes = [] })) is
fed_right seed k (Some j) outputs is are =
    let before : j < k = (are_drawn seed).feeders k j (sym is) in
    let there : slice_get outputs j ≡ Some (output_of (drawn_for seed) (0 + j)) = ap (λ xs. slice_get xs j) are ∙ at_mapped (output_of (drawn_for seed)) 0 k j before in
    let same : 0 + j ≡ j = omega arith in
    ap (option_map (λ (p : PortId). record { from = p; changes = [] })) (there ∙ ap (λ i. Some (output_of (drawn_for seed) i)) same) ∙ ap (option_map (λ i. record { from = output_of (drawn_for seed) i; changes = [] })) is

components_right : (seed k : ℕ) (drawn : Drawn) (old new : List Component) → drawn ≡ drawn_for seed k → old ≡ (generated_system seed k).components → new ≡ old ++ component_of k drawn.machine ∷ [] →
    new ≡ (generated_system seed (k + 1)).components
components_right seed k drawn old new is are more =
    more ∙ ap (λ xs. xs ++ component_of k drawn.machine ∷ []) are ∙ ap (λ (d : Drawn). (generated_system seed k).components ++ component_of k d.machine ∷ []) is ∙
    sym (map-range_with_len_more (λ i. component_of i (drawn_for seed i).machine) 0 k k (omega arith))

ports_right : (seed k : ℕ) (drawn : Drawn) (feed : Option Feed) (old new : List Port) → drawn ≡ drawn_for seed k → feed ≡ feed_of (drawn_for seed) k → old ≡ (generated_system seed k).ports → new ≡ old ++ ports_of k drawn.machine feed →
    new ≡ (generated_system seed (k + 1)).ports
ports_right seed k drawn feed old new is fed are more =
    more ∙ ap (λ xs. xs ++ ports_of k drawn.machine feed) are ∙ ap (λ (d : Drawn). (generated_system seed k).ports ++ ports_of k d.machine feed) is ∙
    ap (λ f. (generated_system seed k).ports ++ ports_of k (drawn_for seed k).machine f) fed ∙ sym (ports_more seed k) ∙ ap (λ i. (generated_system seed i).ports) (sym (up k))

outputs_right : (seed k : ℕ) (old new : List PortId) (ports : List Port) → old ≡ map (output_of (drawn_for seed)) (range_with_len 0 k) → ports ≡ (generated_system seed (k + 1)).ports →
    new ≡ old ++ record { 0 = length ports - 1 } ∷ [] → new ≡ map (output_of (drawn_for seed)) (range_with_len 0 (k + 1))
outputs_right seed k old new ports are all more =
    let long : length ports ≡ first_port (drawn_for seed) (suc k) = ap length all ∙ ports_long (drawn_for seed) (k + 1) ∙ ap (first_port (drawn_for seed)) (up k) in
    more ∙ ap (λ xs. xs ++ record { 0 = length ports - 1 } ∷ []) are ∙ ap (λ x. map (output_of (drawn_for seed)) (range_with_len 0 k) ++ record { 0 = x - 1 } ∷ []) long ∙
    sym (map-range_with_len_more (output_of (drawn_for seed)) 0 k k (omega arith))

values_right : (seed k : ℕ) (drawn : Drawn) (old new : List (List BoundValue)) → drawn ≡ drawn_for seed k → old ≡ (generated_bound seed k).components →
    new ≡ old ++ (record { kind = T.Int32; reference = 1; value = pos drawn.parameter } ∷ []) ∷ [] → new ≡ (generated_bound seed (k + 1)).components
values_right seed k drawn old new is are more =
    more ∙ ap (λ xs. xs ++ (record { kind = T.Int32; reference = 1; value = pos drawn.parameter } ∷ []) ∷ []) are ∙
    ap (λ (d : Drawn). (generated_bound seed k).components ++ (record { kind = T.Int32; reference = 1; value = pos d.parameter } ∷ []) ∷ []) is ∙
    sym (map-range_with_len_more (λ i. record { kind = T.Int32; reference = 1; value = pos (drawn_for seed i).parameter } ∷ []) 0 k k (omega arith))

pub parts_count : (seed k : ℕ) (parts : Parts) → HasParts seed k parts → length parts.components.items ≡ k
parts_count seed k parts has = ap length has.components ∙ length-map-range_with_len (λ i. component_of i (drawn_for seed i).machine) 0 k

parts_more : (seed k : ℕ) (drawn : Drawn) (old new : Parts) → drawn ≡ drawn_for seed k → HasParts seed k old → Adds drawn old new → HasParts seed (k + 1) new
parts_more seed k drawn old new is has adds =
    let count : length old.components.items ≡ k = parts_count seed k old has in
    let feed : Option Feed = fed_by old.outputs.items drawn.feeder in
    let fed : feed ≡ feed_of (drawn_for seed) k = fed_right seed k drawn.feeder old.outputs.items (ap (λ (d : Drawn). d.feeder) is) has.outputs in
    let ports : new.ports.items ≡ (generated_system seed (k + 1)).ports =
    ports_right seed k drawn feed old.ports.items new.ports.items is fed has.ports (adds.ports ∙ ap (λ i. old.ports.items ++ ports_of i drawn.machine feed) count) in
    record {
      components = components_right seed k drawn old.components.items new.components.items is has.components (adds.components ∙ ap (λ i. old.components.items ++ component_of i drawn.machine ∷ []) count);
      ports = ports;
      outputs = outputs_right seed k old.outputs.items new.outputs.items new.ports.items has.outputs ports adds.outputs;
      values = values_right seed k drawn old.values.items new.values.items is has.values adds.values;
    }

pub made_more : (seed k number left : ℕ) (drawn : Drawn) (old new : Parts) → IsMade seed k number old → drawn ≡ drawn_from number k → left ≡ number_after number (draws_taken drawn) → Adds drawn old new → IsMade seed (k + 1) left new
made_more seed k number left drawn old new made is goes adds =
    let same : drawn ≡ drawn_for seed k = is ∙ ap (λ x. drawn_from x k) made.begins in
    record {
      begins = goes ∙ ap (λ x. number_after x (draws_taken drawn)) made.begins ∙ ap (λ (d : Drawn). number_after (number_before seed k) (draws_taken d)) same ∙ sym (number_more seed k) ∙ ap (number_before seed) (sym (up k));
      has = parts_more seed k drawn old new same made.has adds;
    }

-- the ports are few
pub few_ports : (seed k : ℕ) (parts : Parts) → HasParts seed k parts → length parts.ports.items ≤ 2 * k
few_ports seed k parts has =
    let long : length parts.ports.items ≡ first_port (drawn_for seed) k = ap length has.ports ∙ ports_long (drawn_for seed) k in
    let two : first_port (drawn_for seed) k ≤ 2 * k = first_within (drawn_for seed) k in
    omega (arith, long, two)

pub ports_count : (seed k : ℕ) (parts : Parts) → HasParts seed k parts → length parts.ports.items ≡ first_port (drawn_for seed) k
ports_count seed k parts has = ap length has.ports ∙ ports_long (drawn_for seed) k

-- ---- the whole

abbrev system_by : List Component → List Port → List PortId → List PortId → System
system_by components ports instant_order initial_order = record { components = components; ports = ports; instant_order = instant_order; initial_order = initial_order }

abbrev by_number : ℕ → List PortId
by_number count = map (λ p. record { 0 = p }) (range_with_len 0 count)

pub whole_system : (seed n count : ℕ) (parts : Parts) (components : List Component) (ports : List Port) (instant_order initial_order : List PortId) → HasParts seed n parts → count ≡ first_port (drawn_for seed) n → components ≡ parts.components.items → ports ≡ parts.ports.items →
    instant_order ≡ by_number count → initial_order ≡ by_number count → system_by components ports instant_order initial_order ≡ generated_system seed n
whole_system seed n count parts components ports instant_order initial_order has long are_components are_ports instant initial =
    ap (λ x. system_by x ports instant_order initial_order) (are_components ∙ has.components) ∙
    ap (λ x. system_by (generated_system seed n).components x instant_order initial_order) (are_ports ∙ has.ports) ∙
    ap (λ x. system_by (generated_system seed n).components (generated_system seed n).ports x initial_order) (instant ∙ ap by_number long) ∙
    ap (λ x. system_by (generated_system seed n).components (generated_system seed n).ports (by_number (first_port (drawn_for seed) n)) x) (initial ∙ ap by_number long)

abbrev bound_by : List (List BoundValue) → Bound
bound_by values = record { components = values; unreached = 0 }

pub whole_bound : (seed n : ℕ) (parts : Parts) (values : List (List BoundValue)) → HasParts seed n parts → values ≡ parts.values.items → bound_by values ≡ generated_bound seed n
whole_bound seed n parts values has are = ap bound_by (are ∙ has.values)

pub binds_whole : (seed n : ℕ) (system : System) (bound : Bound) → system ≡ generated_system seed n → bound ≡ generated_bound seed n → BindsParameters system bound
binds_whole seed n system bound is are =
    subst (λ (s : System). BindsParameters s bound) (sym is) (subst (BindsParameters (generated_system seed n)) (sym are) (system_binds (drawn_for seed) (are_drawn seed) n))
