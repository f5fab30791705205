use Rattle.std.proofs.Common.{◌≡◌, ℤ, ap, sym, ◌∙◌, ◌++◌, arith, to_z, of_z}
use Rattle.std.specs.Int.{w32, w64, w128, to_be_bytes}
use Rattle.std.proofs.lemmas.Int.{ints}
use Rattle.value_types.specs.Values.{word_of}
use Rattle.bench_fmus.specs.Packed.{number_bytes, value_bytes}
use Rattle.bench_fmus.specs.Wrapping.{wrapped}
use Rattle.bench_fmus.proofs.PackLemmas.{put_after}
use Rattle.bench_fmus.proofs.packed.put_value.Goals as goal

pub returns-in-Some-clause-bytes : goal.returns-in-Some-clause-bytes
returns-in-Some-clause-bytes c =
    let kind = c.in-Some.kind in
    let mid = c.put_reference.new.into.items in
    let same : to_z w128 (of_z w128 c.args.value) ≡ c.args.value = omega (arith, ints) in
    put_after c.args.into.now.items mid c.put_number.new.into.items (to_be_bytes w32 c.args.reference) (number_bytes (wrapped kind c.args.value)) c.put_reference.ensures.bytes
    (c.put_number.ensures.bytes ∙ ap (λ w. mid ++ to_be_bytes w64 w) (c.wrapped_word.ensures ∙ ap (λ (x : ℤ). word_of (wrapped kind x)) same))
    ∙ ap (λ k. c.args.into.now.items ++ value_bytes k c.args.reference c.args.value) (sym c.in-Some.is)
