use Rattle.std.proofs.Common.{◌∙◌, ap, arith, length, map}
use Rattle.system_model.specs.declared.system.Component.{Component}
use Rattle.run_program.specs.Runs.{port_name}
use Rattle.run_program.proofs.NamingLemmas.{name_room, pair_room, same_names}
use Rattle.run_program.proofs.naming.Naming.new.Goals as goal

pub invariant_of-result : goal.invariant_of-result
invariant_of-result c =
    let room = c.in_ok-text.ensures in
    let sum = c.in-Some.ensures in
    record {
      holds = pair_room c.in_ok-names.names.items c.in_ok-ports.ports.items c.in_ok-names.longest_name c.in_ok-ports.longest_port (length c.in_ok-text.text.items) c.in_ok-names.ensures.longest c.in_ok-ports.ensures.longest (omega (arith, room, sum));
      each = name_room c.in_ok-names.names.items c.in_ok-names.longest_name c.in_ok-ports.longest_port (length c.in_ok-text.text.items) c.in_ok-names.ensures.longest (omega (arith, room, sum));
    }

pub returns : goal.returns
returns c =
    same_names c.in_ok-names.names.items (map (λ (x : Component). x.name) c.args.system.now.components) c.in_ok-ports.ports.items (map port_name c.args.system.now.ports)
    (c.in_ok-names.ensures.names ∙ ap (map (λ (x : Component). x.name)) c.as_slice.ensures) (c.in_ok-ports.ensures.names ∙ ap (map port_name) c.as_slice-2.ensures)
