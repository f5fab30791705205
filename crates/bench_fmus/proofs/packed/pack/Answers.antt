use Rattle.std.proofs.Common.{◌≡◌, ℕ, ℤ, ◌*◌, ◌++◌, List, ap, ap₂, sym, ◌∙◌, arith, length, length-append, slice_index_or, take, to_z, of_z}
use Rattle.std.specs.Int.{w128}
use Rattle.std.specs.List.{flat_map}
use Rattle.std.specs.Prelude.{count_by, is_some}
use Rattle.std.proofs.lemmas.Int.{ints}
use Rattle.std.proofs.lemmas.List.{take_more}
use Rattle.value_types.specs.declared.shape.Variable.{Variable}
use Rattle.bench_fmus.specs.Packed.{entry_bytes, entry_size, kind_at, numbers_bytes, value_bytes}
use Rattle.bench_fmus.specs.State.{spread, value_of}
use Rattle.bench_fmus.specs.Told.{told}
use Rattle.bench_fmus.proofs.PackLemmas.{entries_len, fits_more, numbers_len, put_more, value_len}
use Rattle.bench_fmus.proofs.packed.pack.Goals as goal

pub put_value-requires : goal.put_value-requires
put_value-requires c =
    let i = c.loop-entry.entry-index in
    let variables = c.args.variables.now in
    let order = c.args.order.now in
    let held = spread variables c.args.kept.now.values.items in
    let e = slice_index_or order i (0, 0) in
    let kind = c.kind_at-kind.result in
    let f = entry_bytes variables held in
    let kind_is : kind ≡ kind_at variables e.1 = c.kind_at-kind.ensures ∙ ap (λ (vs : List Variable). kind_at vs e.1) c.as_slice.ensures in
    let one = value_len kind e.0 (to_z w128 (of_z w128 c.value_under-value.result)) ∙ ap entry_size kind_is ∙ sym (value_len (kind_at variables e.1) e.0 (value_of variables held e.0)) in
    let fits = fits_more f order i e 32 c.loop-entry-test.true (take_more order i (0, 0) c.loop-entry-test.true) in
    let all : length (flat_map f order) ≡ 12 * count_by (λ (v : Variable). is_some v.kind) variables =
    ap (λ (es : List (ℕ × ℕ)). length (flat_map f es)) c.requires.order ∙ entries_len variables held in
    let prefix = numbers_bytes (told c.args.kept.now.numbers) in
    let len = ap (λ (xs : List ℕ). length xs) c.loop-entry.invariant.bytes ∙ length-append c.args.into.now.items (prefix ++ flat_map f (take i order)) in
    let inner = length-append prefix (flat_map f (take i order)) in
    let numbers = numbers_len (told c.args.kept.now.numbers) in
    omega (arith, c.requires.room, c.loop-entry.invariant.room, c.loop-entry.into.ok.0, c.args.into.now.ok.0)

pub loop-entry-preserved : goal.loop-entry-preserved
loop-entry-preserved c =
    let i = c.loop-entry.entry-index in
    let variables = c.args.variables.now in
    let order = c.args.order.now in
    let held = spread variables c.args.kept.now.values.items in
    let e = slice_index_or order i (0, 0) in
    let kind = c.kind_at-kind.result in
    let value = c.value_under-value.result in
    let kind_is : kind ≡ kind_at variables e.1 = c.kind_at-kind.ensures ∙ ap (λ (vs : List Variable). kind_at vs e.1) c.as_slice.ensures in
    let same : to_z w128 (of_z w128 value) ≡ value = omega (arith, ints) in
    let value_is : to_z w128 (of_z w128 value) ≡ value_of variables held e.0 =
    same ∙ c.value_under-value.ensures ∙ ap (λ (xs : List ℤ). value_of variables (spread variables xs) e.0) c.as_slice-in-loop-entry.ensures.value in
    record {
      bytes = put_more (entry_bytes variables held) order i e c.args.into.now.items (numbers_bytes (told c.args.kept.now.numbers)) c.loop-entry.into.items c.put_value.new.into.items _
          (take_more order i (0, 0) c.loop-entry-test.true) c.loop-entry.invariant.bytes
          (ap₂ (λ k (x : ℤ). value_bytes k e.0 x) kind_is value_is) c.put_value.ensures.bytes;
      room = omega (arith, c.loop-entry.invariant.room, c.put_value.ensures.room);
    }
