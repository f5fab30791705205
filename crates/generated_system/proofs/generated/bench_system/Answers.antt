use Rattle.std.proofs.Common.{◌≡◌, ◌*◌, ◌≤◌, length, sym, subst, arith}
use Rattle.system_model.specs.Sound.{IsSound}
use Rattle.generated_system.specs.Draws.{drawn_for}
use Rattle.generated_system.specs.Generated.{first_port}
use Rattle.generated_system.proofs.DrawnSound.{are_drawn}
use Rattle.generated_system.proofs.Making.{binds_whole, few_ports, ports_count, whole_bound, whole_system}
use Rattle.generated_system.proofs.SystemSound.{system_sound}
use Rattle.generated_system.proofs.generated.bench_system.Goals as goal

pub overflow_cast-count : goal.overflow_cast-count
overflow_cast-count c =
    let few : length c.in_ok-parts.parts.ports.items ≤ 2 * c.args.n = few_ports c.args.seed c.args.n c.in_ok-parts.parts c.in_ok-parts.ensures in
    omega (arith, few, c.len-count.ensures, c.in_ok-parts.parts.ports.ok.0)

pub returns-clause-system : goal.returns-clause-system
returns-clause-system c =
    let all : length c.in_ok-parts.parts.ports.items ≡ first_port (drawn_for c.args.seed) c.args.n = ports_count c.args.seed c.args.n c.in_ok-parts.parts c.in_ok-parts.ensures in
    let long : c.len-count.result ≡ first_port (drawn_for c.args.seed) c.args.n = omega (arith, all, c.len-count.ensures, c.in_ok-parts.parts.ports.ok.0) in
    whole_system c.args.seed c.args.n c.len-count.result c.in_ok-parts.parts _ _ _ _ c.in_ok-parts.ensures long c.from_vec.ensures c.from_vec-2.ensures c.in_ok-instant_order.ensures c.in_ok-initial_order.ensures

pub returns-clause-sound : goal.returns-clause-sound
returns-clause-sound c =
    subst IsSound (sym (returns-clause-system c)) (system_sound (drawn_for c.args.seed) (are_drawn c.args.seed) c.args.n c.requires)

pub returns-clause-binds : goal.returns-clause-binds
returns-clause-binds c =
    binds_whole c.args.seed c.args.n _ _ (returns-clause-system c) (whole_bound c.args.seed c.args.n c.in_ok-parts.parts c.from_vec-3.result c.in_ok-parts.ensures c.from_vec-3.ensures)
