-- From what the search found to the orders and loops of the system.
use Rattle.std.proofs.Common.{◌≡◌, ℕ, ◌<◌, ◌^◌, Bool, true, false, List, [], ◌∷◌, length, map, get_or, arith}
use Rattle.std.specs.List.{All, filter}
use Rattle.std.proofs.lemmas.List.{length-map}
use Rattle.std.proofs.lemmas.List.Elements.{All-cons, All-nil, All-from_get_or, Contains-get_or}
use Rattle.dependency_order.specs.declared.grouped.GroupedNeeds.{GroupedNeeds}
use Rattle.dependency_order.specs.Answers.{IsLeastLoop}
use Rattle.dependency_order.specs.Graph as graph
use Rattle.dependency_order.specs.Grouped.{NeedsGrouped}
use Rattle.dependency_order.specs.Paths.{IsMarked}
use Rattle.dependency_order.proofs.CallerLemmas.{order_filtered, filter_back, loop_no_order, marked_within}
use Rattle.system_model.specs.declared.system.Component.{Component}
use Rattle.system_model.specs.declared.system.Port.{Port}
use Rattle.system_model.specs.Orders.{IsOrder}
use Rattle.port_orders.specs.Gathered.{AreNeeds, has_part}
use Rattle.port_orders.specs.Outcome.{IsLoopIn, IsOrderIn, IsPortLoop, unordered}
use Rattle.port_orders.specs.Placed.{ArePlaced}
use Rattle.port_orders.proofs.NeedLemmas.{IsAmong, NeedsBy, among_of, grouped_of, needed_of, needs_of, of_among, part_marked}
use Rattle.port_orders.proofs.OrderForms.{by_parts, by_prefixes, loop_as, order_as}

as_order : (initializing : Bool) (components : List Component) (ports : List Port) (order : List ℕ) → IsOrder (λ p. IsAmong initializing (unordered components ports) p) (λ p q. NeedsBy initializing (unordered components ports) p q) order → IsOrderIn initializing (unordered components ports) order
as_order false components ports order o = o
as_order true components ports order o = o

as_loop : (initializing : Bool) (components : List Component) (ports : List Port) (nodes : List ℕ) → IsPortLoop (λ p. IsAmong initializing (unordered components ports) p) (λ p q. NeedsBy initializing (unordered components ports) p q) nodes → IsLoopIn initializing (unordered components ports) nodes
as_loop false components ports nodes l = l
as_loop true components ports nodes l = l

leads_all : (R : ℕ → ℕ → Type 0) (P : ℕ → Type 0) → ((p q : ℕ) → R p q → P p) → (a : ℕ) (xs : List ℕ) (b : ℕ) → graph.Leads R a xs b → All P (a ∷ xs)
leads_all R P on a [] b l = All-cons P a [] (on a b l) (All-nil P)
leads_all R P on a (x ∷ xs) b l = All-cons P a (x ∷ xs) (on a x l.0) (leads_all R P on x xs b l.1)

loop_all : (R : ℕ → ℕ → Type 0) (P : ℕ → Type 0) → ((p q : ℕ) → R p q → P p) → (nodes : List ℕ) → graph.IsLoop R nodes → All P nodes
loop_all R P on [] l = absurd l
loop_all R P on (x ∷ xs) l = leads_all R P on x xs x l

module _ (initializing : Bool) (components : List Component) (ports : List Port) (n : GroupedNeeds) (placed : ArePlaced components ports) (an : AreNeeds components ports (map (has_part initializing) ports) initializing n) where
  part_of : (p q : ℕ) → NeedsGrouped n p q → IsMarked (map (has_part initializing) ports) p
  part_of p q h = let x = needed_of components ports initializing n an p q h in part_marked initializing ports p x.port x.at x.part

  small : (p : ℕ) → IsMarked (map (has_part initializing) ports) p → p < 2 ^ 32
  small p marked =
      let l = marked_within (map (has_part initializing) ports) p marked in
      let m = length-map ports (has_part initializing) in
      let few = placed.few_ports in
      omega (arith, l, m, few)

  listed : (p : ℕ) → IsMarked (map (has_part initializing) ports) p → p < length n.listed
  listed p marked =
      let l = marked_within (map (has_part initializing) ports) p marked in
      let m = length-map ports (has_part initializing) in
      let k = an.len in
      omega (arith, l, m, k)

  -- of an order those that take part
  pub order_found : (nodes : List ℕ) → graph.IsOrder (λ p. p < length n.listed) (NeedsGrouped n) nodes → IsOrderIn initializing (unordered components ports) (filter (λ p. get_or (map (has_part initializing) ports) p false) nodes)
  order_found nodes o =
      let f = λ (p : ℕ). get_or (map (has_part initializing) ports) p false in
      let some = order_filtered (λ p. p < length n.listed) (NeedsGrouped n) f nodes o (λ p q h. (needed_of components ports initializing n an p q h).marked) in
      as_order initializing components ports (filter f nodes)
      (by_parts (λ p. IsAmong initializing (unordered components ports) p) (λ p q. NeedsBy initializing (unordered components ports) p q) (filter f nodes)
      (order_as (λ p. (p < length n.listed) × (f p ≡ true)) (λ p. IsAmong initializing (unordered components ports) p) (NeedsGrouped n) (λ p q. NeedsBy initializing (unordered components ports) p q) (filter f nodes)
      (λ p h. among_of components ports placed initializing p h.1) (λ p h. let m = of_among components ports placed initializing p h in (listed p m, m)) (λ p q h. grouped_of components ports placed initializing n an p q h) some))

  pub order_small : (nodes : List ℕ) → All (λ p. p < 2 ^ 32) (filter (λ p. get_or (map (has_part initializing) ports) p false) nodes)
  order_small nodes =
      let f = λ (p : ℕ). get_or (map (has_part initializing) ports) p false in
      All-from_get_or (λ p. p < 2 ^ 32) (filter f nodes) 0 (λ k l. small (get_or (filter f nodes) k 0) (filter_back f nodes (get_or (filter f nodes) k 0) (Contains-get_or (filter f nodes) k 0 l)).1)

  pub loop_small : (nodes : List ℕ) → IsLeastLoop (λ p. p < length n.listed) (NeedsGrouped n) nodes → All (λ p. p < 2 ^ 32) nodes
  loop_small nodes l = loop_all (NeedsGrouped n) (λ p. p < 2 ^ 32) (λ p q h. small p (part_of p q h)) nodes l.loop

  pub loop_found : (nodes : List ℕ) → IsLeastLoop (λ p. p < length n.listed) (NeedsGrouped n) nodes → IsLoopIn initializing (unordered components ports) nodes
  loop_found nodes l =
      let system = unordered components ports in
      let loop = loop_as (NeedsGrouped n) (λ p q. NeedsBy initializing (unordered components ports) p q) (λ p q h. needs_of components ports placed initializing n an p q h) nodes l.loop in
      as_loop initializing components ports nodes (record {
        loop = loop;
        least = l.least;
        no_order = λ order o.
            loop_no_order (λ p. IsAmong initializing (unordered components ports) p) (λ p q. NeedsBy initializing (unordered components ports) p q) nodes order
            (λ p q h. among_of components ports placed initializing p (part_of p q (grouped_of components ports placed initializing n an p q h))) loop
            (by_prefixes (λ p. IsAmong initializing (unordered components ports) p) (λ p q. NeedsBy initializing (unordered components ports) p q) order o);
      })
