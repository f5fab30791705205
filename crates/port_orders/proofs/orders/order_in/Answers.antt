use Rattle.std.proofs.Common.{◌≡◌, ◌<◌, ◌^◌, length, false, get_or, ap, ◌∙◌, subst, sym, map}
use Rattle.std.specs.List.{All, filter}
use Rattle.dependency_order.specs.Answers.{IsFound}
use Rattle.dependency_order.specs.Grouped.{NeedsGrouped}
use Rattle.port_orders.specs.Gathered.{AreNeeds, has_part}
use Rattle.port_orders.specs.Outcome.{IsLoopIn, IsOrderIn, unordered}
use Rattle.port_orders.proofs.NeedLemmas.{is_grouped}
use Rattle.port_orders.proofs.FoundLemmas.{order_found, order_small, loop_found, loop_small}
use Rattle.port_orders.proofs.orders.order_in.Goals as goal

pub order_grouped-requires : goal.order_grouped-requires
order_grouped-requires c =
    let n = c.in_ok-needs.needs in
    let an = subst (λ z. AreNeeds c.args.components.now c.args.ports.now z c.args.initializing n) (c.as_slice.ensures.value ∙ c.in_ok-taken.ensures) c.in_ok-needs.ensures in
    record { grouped = is_grouped c.args.components.now c.args.ports.now c.requires.placed c.args.initializing n an }

pub port_ids-requires : goal.port_ids-requires
port_ids-requires c =
    let n = c.in_ok-needs.needs in
    let an = subst (λ z. AreNeeds c.args.components.now c.args.ports.now z c.args.initializing n) (c.as_slice.ensures.value ∙ c.in_ok-taken.ensures) c.in_ok-needs.ensures in
    let lent = c.as_slice-in-Order.result.now in
    let kept : c.as_slice-in-Order-3.result.now ≡ filter (λ p. get_or (map (has_part c.args.initializing) c.args.ports.now) p false) lent =
    c.as_slice-in-Order-3.ensures.value ∙ c.in_ok-kept-in-Order.ensures ∙ ap (λ z. filter (λ p. get_or z p false) lent) (c.as_slice-in-Order-2.ensures.value ∙ c.in_ok-taken.ensures) in
    subst (All (λ p. p < 2 ^ 32)) (sym kept) (order_small c.args.initializing c.args.components.now c.args.ports.now n c.requires.placed an lent)

pub returns-in-Order-clause-order : goal.returns-in-Order-clause-order
returns-in-Order-clause-order c =
    let n = c.in_ok-needs.needs in
    let an = subst (λ z. AreNeeds c.args.components.now c.args.ports.now z c.args.initializing n) (c.as_slice.ensures.value ∙ c.in_ok-taken.ensures) c.in_ok-needs.ensures in
    let nodes = c.in-Order.nodes.items in
    let kept : c.as_slice-in-Order-3.result.now ≡ filter (λ p. get_or (map (has_part c.args.initializing) c.args.ports.now) p false) nodes =
    c.as_slice-in-Order-3.ensures.value ∙ c.in_ok-kept-in-Order.ensures ∙ ap (λ z. filter (λ p. get_or z p false) c.as_slice-in-Order.result.now) (c.as_slice-in-Order-2.ensures.value ∙ c.in_ok-taken.ensures)
    ∙ ap (filter (λ p. get_or (map (has_part c.args.initializing) c.args.ports.now) p false)) c.as_slice-in-Order.ensures.value in
    let found = subst (IsFound (λ p. p < length n.listed) (NeedsGrouped n)) c.in-Order.is c.in_ok-nodes.ensures in
    subst (IsOrderIn c.args.initializing (unordered c.args.components.now c.args.ports.now)) (sym (c.in_ok-order-in-Order.ensures ∙ kept)) (order_found c.args.initializing c.args.components.now c.args.ports.now n c.requires.placed an nodes found)

pub port_ids-requires-in-Loop : goal.port_ids-requires-in-Loop
port_ids-requires-in-Loop c =
    let n = c.in_ok-needs.needs in
    let an = subst (λ z. AreNeeds c.args.components.now c.args.ports.now z c.args.initializing n) (c.as_slice.ensures.value ∙ c.in_ok-taken.ensures) c.in_ok-needs.ensures in
    let found = subst (IsFound (λ p. p < length n.listed) (NeedsGrouped n)) c.in-Loop.is c.in_ok-nodes.ensures in
    subst (All (λ p. p < 2 ^ 32)) (sym c.as_slice-in-Loop.ensures.value) (loop_small c.args.initializing c.args.components.now c.args.ports.now n c.requires.placed an c.in-Loop.nodes.items found)

pub returns-clause-cause : goal.returns-clause-cause
returns-clause-cause c =
    let n = c.in_ok-needs.needs in
    let an = subst (λ z. AreNeeds c.args.components.now c.args.ports.now z c.args.initializing n) (c.as_slice.ensures.value ∙ c.in_ok-taken.ensures) c.in_ok-needs.ensures in
    let found = subst (IsFound (λ p. p < length n.listed) (NeedsGrouped n)) c.in-Loop.is c.in_ok-nodes.ensures in
    subst (IsLoopIn c.args.initializing (unordered c.args.components.now c.args.ports.now)) (sym (c.in_ok-found-in-Loop.ensures ∙ c.as_slice-in-Loop.ensures.value)) (loop_found c.args.initializing c.args.components.now c.args.ports.now n c.requires.placed an c.in-Loop.nodes.items found)
