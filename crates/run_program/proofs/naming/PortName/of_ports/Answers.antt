use Rattle.std.proofs.Common.{◌≡◌, ◌≤◌, ℕ, List, arith, length, map, take, refl, sym, ap, subst, ◌∙◌}
use Rattle.std.specs.Prelude.{All, Some, slice_get}
use Rattle.std.proofs.lemmas.List.{length-map, length-take, take_all}
use Rattle.std.proofs.lemmas.List.Elements.{All-nil}
use Rattle.std.proofs.lemmas.Option.{slice_get_read}
use Rattle.system_model.specs.declared.system.Port.{Port}
use Rattle.run_program.specs.declared.naming.PortName.{PortName}
use Rattle.run_program.specs.Runs.{port_name}
use Rattle.run_program.proofs.NamingLemmas.{none_longer, one_more}
use Rattle.run_program.proofs.naming.PortName.of_ports.Goals as goal

pub loop-port-init : goal.loop-port-init
loop-port-init c = record {
  given = c.in_ok-names.ensures.items;
  within = omega arith;
  room = let n = c.in_ok-names.ensures.capacity in omega (arith, n);
  longest = subst (All (λ (p : PortName). length p.name ≤ 0)) (sym c.in_ok-names.ensures.items) (All-nil (λ (p : PortName). length p.name ≤ 0));
}

pub push_reserved-requires : goal.push_reserved-requires
push_reserved-requires c =
    let i = c.loop-port.invariant in
    let n : length c.loop-port.names.items ≡ length (take c.loop-port.port-index c.args.ports.now) = ap length i.given ∙ length-map (take c.loop-port.port-index c.args.ports.now) port_name in
    let short : length (take c.loop-port.port-index c.args.ports.now) ≤ c.loop-port.port-index = let h = length-take c.loop-port.port-index c.args.ports.now in omega (arith, h) in
    let room = i.room in
    let more = c.loop-port-test.true in
    omega (arith, n, short, room, more)

pub loop-port-preserved : goal.loop-port-preserved
loop-port-preserved c =
    let i = c.loop-port.invariant in
    let x : Port = c.port-item.result in
    let here : slice_get c.args.ports.now c.loop-port.port-index ≡ Some x = slice_get_read c.args.ports.now _ c.loop-port.port-index x refl c.loop-port-test.true c.port-item.is in
    let second = c.longer-longest.ensures.second in
    let len = ap length c.as_str.ensures in
    let p : PortName = record { component = x.component; name = c.in_ok-copy.field-0 } in
    let new : length c.in_ok-copy.field-0 ≤ c.longer-longest.result = let same = ap length c.in_ok-copy.ensures in omega (arith, same, second, len) in
    record {
      given = c.push_reserved.ensures.items ∙ one_more port_name c.args.ports.now c.loop-port.names.items c.loop-port.port-index x p here i.given (ap (λ (n : List ℕ). let q : PortName = record { component = x.component; name = n } in q) c.in_ok-copy.ensures);
      within = let w = c.loop-port-test.true in omega (arith, w);
      room = let r = i.room in let k = c.push_reserved.ensures.capacity in omega (arith, r, k);
      longest = subst (All (λ (p : PortName). length p.name ≤ c.longer-longest.result)) (sym c.push_reserved.ensures.items)
          (none_longer (λ (p : PortName). length p.name) c.loop-port.longest c.longer-longest.result c.loop-port.names.items p c.longer-longest.ensures.first i.longest new);
    }

pub returns-clause-names : goal.returns-clause-names
returns-clause-names c =
    let i = c.loop-port.invariant in
    let past = c.loop-port-test.false in
    i.given ∙ ap (map port_name) (take_all c.loop-port.port-index c.args.ports.now (omega (arith, past)))

pub returns-clause-longest : goal.returns-clause-longest
returns-clause-longest c = c.loop-port.invariant.longest
