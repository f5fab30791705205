-- The ports of a system of drawn components: which there are, and what they are.
use Rattle.std.proofs.Common.{◌≡◌, ℕ, zero, suc, ◌+◌, ◌*◌, ◌-◌, ◌<◌, ◌≤◌, List, ◌++◌, length, map, refl, sym, ◌∙◌, ap, arith}
use Rattle.std.specs.Prelude.{Option, Some, slice_get, codes}
use Rattle.std.specs.List.{filter_map, flat_map, range_with_len}
use Rattle.std.proofs.lemmas.Option.{none-some as none_some, same_Some}
use Rattle.std.proofs.lemmas.List.{map-append}
use Rattle.value_types.specs.Shape.{variable_at}
use Rattle.value_types.specs.declared.shape.Causality.TheVariants as V
use Rattle.system_model.specs.declared.system.Component.{Component}
use Rattle.system_model.specs.declared.system.Feed.{Feed}
use Rattle.system_model.specs.declared.system.Role.TheVariants.{Input, Output}
use Rattle.system_model.specs.declared.system.Port.{Port}
use Rattle.system_model.specs.Ports.{label_at, label_of, labels_from}
use Rattle.generated_system.specs.declared.drawn.DrawnMachine.{DrawnMachine}
use Rattle.generated_system.specs.declared.drawn.DrawnMachine.TheVariants.{Counter, Gain, Alarm}
use Rattle.generated_system.specs.declared.drawn.Drawn.{Drawn}
use Rattle.generated_system.specs.Shapes.{output_reference, variable, variables_of}
use Rattle.generated_system.specs.Generated.{component_of, feed_of, first_port, port_count, port_of, ports_of, system_from}
use Rattle.generated_system.proofs.Blocks.{BeginsAt, InBlock, at_block, found_in_block, length_of_blocks, mapped_at}

-- ---- one component

-- a port of a component: the input of a gain, which is its first, or the output, which is its last
pub data IsOwn (i : ℕ) (machine : DrawnMachine) (feed : Option Feed) (k : ℕ) (port : Port) : Type 0 where
  OwnInput : machine ≡ Gain → k ≡ 0 → port ≡ port_of i (codes "u") 2 (Input feed) → IsOwn i machine feed k port
  OwnOutput : suc k ≡ port_count machine → port ≡ port_of i (codes "y") (output_reference machine) Output → IsOwn i machine feed k port

pub own_port : (i : ℕ) (machine : DrawnMachine) (feed : Option Feed) (k : ℕ) (port : Port) → slice_get (ports_of i machine feed) k ≡ Some port → IsOwn i machine feed k port
own_port i Counter feed zero port e = OwnOutput refl (sym (same_Some _ _ e))
own_port i Counter feed (suc k) port e = absurd (none_some _ e)
own_port i Gain feed zero port e = OwnInput refl refl (sym (same_Some _ _ e))
own_port i Gain feed (suc zero) port e = OwnOutput refl (sym (same_Some _ _ e))
own_port i Gain feed (suc (suc k)) port e = absurd (none_some _ e)
own_port i Alarm feed zero port e = OwnOutput refl (sym (same_Some _ _ e))
own_port i Alarm feed (suc k) port e = absurd (none_some _ e)

length_of_own : (i : ℕ) (machine : DrawnMachine) (feed : Option Feed) → length (ports_of i machine feed) ≡ port_count machine
length_of_own i Counter feed = refl
length_of_own i Gain feed = refl
length_of_own i Alarm feed = refl

-- its output is its last port
pub output_there : (i : ℕ) (machine : DrawnMachine) (feed : Option Feed) → slice_get (ports_of i machine feed) (port_count machine - 1) ≡ Some (port_of i (codes "y") (output_reference machine) Output)
output_there i Counter feed = refl
output_there i Gain feed = refl
output_there i Alarm feed = refl

pub some_ports : (machine : DrawnMachine) → 0 < port_count machine
some_ports Counter = omega arith
some_ports Gain = omega arith
some_ports Alarm = omega arith

two_ports : (machine : DrawnMachine) → port_count machine ≤ 2
two_ports Counter = omega arith
two_ports Gain = omega arith
two_ports Alarm = omega arith

pub output_variable : (machine : DrawnMachine) → variable_at (variables_of machine) (output_reference machine) ≡ Some (variable (codes "y") (output_reference machine) V.Output)
output_variable Counter = refl
output_variable Gain = refl
output_variable Alarm = refl

labels_of_own : (i : ℕ) (machine : DrawnMachine) (feed : Option Feed) → map label_of (ports_of i machine feed) ≡ filter_map (label_at i) (variables_of machine)
labels_of_own i Counter feed = refl
labels_of_own i Gain feed = refl
labels_of_own i Alarm feed = refl

-- ---- all components

abbrev pub block : (ℕ → Drawn) → ℕ → List Port
block drawn i = ports_of i (drawn i).machine (feed_of drawn i)

pub first_more : (drawn : ℕ → Drawn) (i : ℕ) → first_port drawn (suc i) ≡ first_port drawn i + port_count (drawn i).machine
unfolding first_port
first_more drawn i = refl

pub first_none : (drawn : ℕ → Drawn) → first_port drawn 0 ≡ 0
unfolding first_port
first_none drawn = refl

pub begins : (drawn : ℕ → Drawn) → BeginsAt (block drawn) (first_port drawn)
begins drawn i = first_more drawn i ∙ ap (λ k. first_port drawn i + k) (sym (length_of_own i (drawn i).machine (feed_of drawn i)))

pub first_within : (drawn : ℕ → Drawn) (n : ℕ) → first_port drawn n ≤ 2 * n
first_within drawn zero = let none : first_port drawn 0 ≡ 0 = first_none drawn in omega (arith, none)
first_within drawn (suc n) =
    let more : first_port drawn (suc n) ≡ first_port drawn n + port_count (drawn n).machine = first_more drawn n in
    let two : port_count (drawn n).machine ≤ 2 = two_ports (drawn n).machine in
    let rest : first_port drawn n ≤ 2 * n = first_within drawn n in
    omega (arith, more, two, rest)

pub ports_long : (drawn : ℕ → Drawn) (n : ℕ) → length (system_from drawn n).ports ≡ first_port drawn n
ports_long drawn n =
    let long : first_port drawn 0 + length (system_from drawn n).ports ≡ first_port drawn (0 + n) = length_of_blocks (block drawn) (first_port drawn) (begins drawn) 0 n in
    let none : first_port drawn 0 ≡ 0 = first_none drawn in
    let same : first_port drawn (0 + n) ≡ first_port drawn n = ap (first_port drawn) (let z : 0 + n ≡ n = omega arith in z) in
    omega (arith, long, none, same)

pub numbered_from : (drawn : ℕ → Drawn) (a n : ℕ) →
    map label_of (flat_map (block drawn) (range_with_len a n)) ≡ labels_from a (map (λ i. component_of i (drawn i).machine) (range_with_len a n))
numbered_from drawn a zero = refl
numbered_from drawn a (suc n) =
    let rest : List Port = flat_map (block drawn) (range_with_len (a + 1) n) in
    let others : List Component = map (λ i. component_of i (drawn i).machine) (range_with_len (a + 1) n) in
    let next : a + 1 ≡ suc a = omega arith in
    map-append label_of (block drawn a) rest ∙
    ap (λ xs. xs ++ map label_of rest) (labels_of_own a (drawn a).machine (feed_of drawn a)) ∙
    ap (λ xs. filter_map (label_at a) (variables_of (drawn a).machine) ++ xs) (numbered_from drawn (a + 1) n ∙ ap (λ k. labels_from k others) next)

-- ---- a port with its component

-- the p-th port is the k-th of the i-th component
pub record IsOf (drawn : ℕ → Drawn) (n p : ℕ) (port : Port) : Type 0 where
  pub number : ℕ
  pub within : number < n
  pub place : ℕ
  pub at : p ≡ first_port drawn number + place
  pub own : IsOwn number (drawn number).machine (feed_of drawn number) place port

pub of_port : (drawn : ℕ → Drawn) (n p : ℕ) (port : Port) → slice_get (system_from drawn n).ports p ≡ Some port → IsOf drawn n p port
of_port drawn n p port e =
    let found : InBlock (block drawn) (first_port drawn) 0 n p port = found_in_block (block drawn) (first_port drawn) (begins drawn) 0 n p port e in
    let high : found.number < 0 + n = found.high in
    let at : first_port drawn 0 + p ≡ first_port drawn found.number + found.place = found.at in
    let none : first_port drawn 0 ≡ 0 = first_none drawn in
    record {
      number = found.number;
      within = omega (arith, high);
      place = found.place;
      at = omega (arith, at, none);
      own = own_port found.number (drawn found.number).machine (feed_of drawn found.number) found.place port found.is;
    }

-- the output of a component stands where its number says
pub output_at : (drawn : ℕ → Drawn) (n j : ℕ) → j < n →
    slice_get (system_from drawn n).ports (first_port drawn (suc j) - 1) ≡ Some (port_of j (codes "y") (output_reference (drawn j).machine) Output)
output_at drawn n j less =
    let m = (drawn j).machine in
    let same : 0 + j ≡ j = omega arith in
    let here : slice_get (block drawn (0 + j)) (port_count m - 1) ≡ Some (port_of j (codes "y") (output_reference m) Output) =
    ap (λ i. slice_get (block drawn i) (port_count m - 1)) same ∙ output_there j m (feed_of drawn j) in
    let found = at_block (block drawn) (first_port drawn) (begins drawn) 0 n j (port_count m - 1) (port_of j (codes "y") (output_reference m) Output) less here in
    let at : first_port drawn 0 + found.0 ≡ first_port drawn (0 + j) + (port_count m - 1) = found.1 in
    let none : first_port drawn 0 ≡ 0 = first_none drawn in
    let there : first_port drawn (0 + j) ≡ first_port drawn j = ap (first_port drawn) same in
    let more : first_port drawn (suc j) ≡ first_port drawn j + port_count m = first_more drawn j in
    let some : 0 < port_count m = some_ports m in
    let place : first_port drawn (suc j) - 1 ≡ found.0 = omega (arith, at, none, there, more, some) in
    ap (slice_get (system_from drawn n).ports) place ∙ found.2

-- ---- components

pub component_at : (drawn : ℕ → Drawn) (n i : ℕ) (c : Component) → slice_get (system_from drawn n).components i ≡ Some c → c ≡ component_of i (drawn i).machine
component_at drawn n i c e =
    let same : 0 + i ≡ i = omega arith in
    sym (mapped_at (λ k. component_of k (drawn k).machine) 0 n i c e).1 ∙ ap (λ k. component_of k (drawn k).machine) same
