use Rattle.std.proofs.Common.{Some, ap, ◌∙◌, sym, subst}
use Rattle.std.specs.Option.{option_copied}
use Rattle.std.specs.Result.{OnOk}
use Rattle.port_orders.specs.Gathered.{Adds, IsReferred}
use Rattle.port_orders.proofs.GatherLemmas.{adds_known_of}
use Rattle.port_orders.proofs.gathering.Gathering.add_knowns.Goals as goal

pub returns-in-Some-Listed-clause-adds : goal.returns-in-Some-Listed-clause-adds
returns-in-Some-Listed-clause-adds c =
    let taken = c.args.taken.now in
    let port = c.args.port.now in
    adds_known_of c.add_referred.result taken c.args.number c.args.components.now c.args.initializing port c.in-Some-Listed.on c.args.table.now c.args.self.now.lists c.add_referred.new.self.lists
    (sym c.knowns_in.ensures ∙ ap option_copied c.in-Some-Listed.is ∙ ap Some c.in-Some-Listed.field-0-is)
    (subst (λ z. OnOk c.add_referred.result (Adds taken c.args.number (IsReferred c.args.components.now port z c.args.table.now) c.args.self.now.lists c.add_referred.new.self.lists)) c.as_slice.ensures c.add_referred.ensures.adds)
