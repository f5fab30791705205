use Rattle.std.proofs.Common.{◌≡◌, ℕ, ℤ, ◌<◌, ◌+◌, ◌-◌, List, Some, ap, sym, ◌∙◌, arith, drop, length, set, slice_index_or, subst, take, to_z, of_z}
use Rattle.std.specs.Int.{w128}
use Rattle.std.proofs.lemmas.Int.{ints}
use Rattle.std.proofs.lemmas.List.{get_or_default, length-drop, length-set, take_rest}
use Rattle.bench_fmus.specs.Packed.{entry_size, ordered, read_entry, read_values}
use Rattle.bench_fmus.proofs.OrderLemmas.{ordered_within}
use Rattle.bench_fmus.proofs.ReadLemmas.{read_more}
use Rattle.bench_fmus.proofs.packed.read_values.Goals as goal

pub put-requires : goal.put-requires
put-requires c =
    let i = c.loop-entry.entry-index in
    let variables = c.args.variables.now in
    let within : i < length (ordered variables) = subst (λ (es : List (ℕ × ℕ)). i < length es) c.requires.order c.loop-entry-test.true in
    let less : (slice_index_or c.args.order.now i (0, 0)).1 < length variables =
    subst (λ (es : List (ℕ × ℕ)). (slice_index_or es i (0, 0)).1 < length variables) (sym c.requires.order) (ordered_within variables i (0, 0) within) in
    omega (arith, c.loop-entry.invariant.room)

pub loop-entry-preserved : goal.loop-entry-preserved
loop-entry-preserved c =
    let i = c.loop-entry.entry-index in
    let at = c.loop-entry.at in
    let variables = c.args.variables.now in
    let order = c.args.order.now in
    let bytes = c.args.bytes.now in
    let e = slice_index_or order i (0, 0) in
    let kind = c.kind_at-kind.result in
    let start = c.start_at-start.result in
    let value = c.in-Some.value in
    let same_start : to_z w128 (of_z w128 start) ≡ start = omega (arith, ints) in
    let same_value : to_z w128 (of_z w128 value) ≡ value = omega (arith, ints) in
    let got : ◌≡◌ (Some value) (read_entry kind start e.0 (drop at bytes)) =
    c.in-Some.ensures.value ∙ ap (λ (s : ℤ). read_entry kind s e.0 (take (length bytes - at) (drop at bytes))) same_start ∙ ap (λ (ys : List ℕ). read_entry kind start e.0 ys) (take_rest bytes at) in
    record {
      within = omega (arith, c.in-Some.ensures.within, ap (λ (ys : List ℕ). length ys) (take_rest bytes at), length-drop at bytes, c.entry_size-at.ensures, c.loop-entry.invariant.within);
      room = ap (λ (xs : List ℤ). length xs) c.put.ensures ∙ length-set c.loop-entry.values e.1 (to_z w128 (of_z w128 value)) ∙ c.loop-entry.invariant.room;
      rest =
          ap (λ (n : ℕ). read_values variables (drop (i + 1) order) (drop (at + n) bytes) c.put.new.values) c.entry_size-at.ensures
          ∙ ap (λ (xs : List ℤ). read_values variables (drop (i + 1) order) (drop (at + entry_size kind) bytes) xs) (c.put.ensures ∙ ap (set c.loop-entry.values e.1) same_value)
          ∙ read_more variables order bytes c.loop-entry.values i at e c.loop-entry-test.true (get_or_default order i (0, 0) e c.loop-entry-test.true) kind start value c.kind_at-kind.ensures c.start_at-start.ensures got
          ∙ c.loop-entry.invariant.rest;
    }
