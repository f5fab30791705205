use Rattle.std.proofs.Common.{rules as arithmetic, ◌≡◌, ◌<◌, ℕ, ℤ, List, Option, None, Some, ap, arith, get_or, length, of_z, sym, to_z, ◌∙◌}
use Rattle.std.specs.Int.{w128}
use Rattle.std.specs.List.{slice_get}
use Rattle.std.proofs.lemmas.Int.{ints}
use Rattle.std.proofs.lemmas.Option.{get_or_from_slice_get, none-some as none_some, same_Some, slice_get-get_or, slice_get_within}
use Rattle.port_values.specs.Valued.{valued_ports}
use Rattle.port_values.proofs.ValuedLemmas.{IsThere, nth_port}
use Rattle.port_values.proofs.values.entry.Goals as goal

-- the k-th of the ports
entry_at : (values : List (Option ℤ)) (there : List ℕ) (k : ℕ) → there ≡ valued_ports values → k < length there → IsThere values k (get_or there k 0)
entry_at values there k noted lt = nth_port values k (get_or there k 0) (ap (λ (l : List ℕ). slice_get l k) (sym noted) ∙ slice_get-get_or there k 0 lt)

within_at : (values : List (Option ℤ)) (there : List ℕ) (k : ℕ) → there ≡ valued_ports values → k < length there → get_or there k 0 < length values
within_at values there k noted lt = let it = entry_at values there k noted lt in slice_get_within values (get_or there k 0) (Some it.v) it.is

pub bounds-values-port : goal.bounds-values-port
bounds-values-port c = within_at c.args.values.now c.args.there.now c.args.k c.requires c.if-k-there.false

pub bounds : goal.bounds
bounds c = within_at c.args.values.now c.args.there.now c.args.k c.requires c.if-k-there.false

pub offset_bounds-values-port : goal.offset_bounds-values-port
offset_bounds-values-port c = let within = within_at c.args.values.now c.args.there.now c.args.k c.requires c.if-k-there.false in search arithmetic

pub returns-in-Some : goal.returns-in-Some
returns-in-Some c =
    let it = entry_at c.args.values.now c.args.there.now c.args.k c.requires c.if-k-there.false in
    let own : it.v ≡ c.in-Some.value = same_Some it.v c.in-Some.value (sym (get_or_from_slice_get c.args.values.now (get_or c.args.there.now c.args.k 0) (Some it.v) None it.is) ∙ c.in-Some.is) in
    let word = to_z w128 (of_z w128 c.in-Some.value) in
    let same : word ≡ c.in-Some.value = omega (arith, ints) in
    ap (λ (x : ℤ). Some (get_or c.args.there.now c.args.k 0, x)) (same ∙ sym own) ∙ sym it.nth

pub returns-in-None : goal.returns-in-None
returns-in-None c =
    let it = entry_at c.args.values.now c.args.there.now c.args.k c.requires c.if-k-there.false in
    absurd (none_some it.v (sym c.in-None.is ∙ get_or_from_slice_get c.args.values.now (get_or c.args.there.now c.args.k 0) (Some it.v) None it.is))
