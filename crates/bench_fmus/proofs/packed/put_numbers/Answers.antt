use Rattle.std.proofs.Common.{◌≡◌, ap, ◌∙◌, ◌++◌, arith, to_z, of_z}
use Rattle.std.specs.Int.{w64, to_be_bytes}
use Rattle.std.proofs.lemmas.Int.{ints}
use Rattle.value_types.specs.Values.{word_of}
use Rattle.bench_fmus.specs.Packed.{number_bytes}
use Rattle.bench_fmus.specs.Told.{told}
use Rattle.bench_fmus.proofs.PackLemmas.{put_after}
use Rattle.bench_fmus.proofs.packed.put_numbers.Goals as goal

pub returns-clause-bytes : goal.returns-clause-bytes
returns-clause-bytes c =
    let n = told c.args.numbers in
    let held : to_z w64 (of_z w64 n.held) ≡ n.held = omega (arith, ints) in
    let count : to_z w64 (of_z w64 n.count) ≡ n.count = omega (arith, ints) in
    let one = c.put_number.new.into.items in
    let two = c.put_number-2.new.into.items in
    let three = c.put_number-3.new.into.items in
    let last = c.put_number-4.new.into.items in
    put_after c.args.into.now.items one last (number_bytes n.point) (number_bytes n.held ++ (number_bytes n.count ++ number_bytes n.fired)) c.put_number.ensures.bytes
    (put_after one two last (number_bytes n.held) (number_bytes n.count ++ number_bytes n.fired) (c.put_number-2.ensures.bytes ∙ ap (λ w. one ++ to_be_bytes w64 w) (c.word_of.ensures ∙ ap word_of held))
    (put_after two three last (number_bytes n.count) (number_bytes n.fired) (c.put_number-3.ensures.bytes ∙ ap (λ w. two ++ to_be_bytes w64 w) (c.word_of-2.ensures ∙ ap word_of count))
    (c.put_number-4.ensures.bytes ∙ ap (λ w. three ++ to_be_bytes w64 w) c.word_of_flag.ensures)))
