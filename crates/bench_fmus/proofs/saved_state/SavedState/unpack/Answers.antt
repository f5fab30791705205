use Rattle.std.proofs.Common.{◌-◌, ℕ, ℤ, pos, List, Some, None, if◌then◌else◌, ap, ◌∙◌, drop, length, take}
use Rattle.std.specs.Prelude.{replicate}
use Rattle.std.proofs.lemmas.List.{take_rest, with_items_is}
use Rattle.value_types.specs.declared.shape.Variable.{Variable}
use Rattle.bench_fmus.specs.Packed.{read_values}
use Rattle.bench_fmus.specs.State.{listed, spread}
use Rattle.bench_fmus.specs.Told.{told}
use Rattle.bench_fmus.proofs.ReadLemmas.{state_read}
use Rattle.bench_fmus.proofs.saved_state.SavedState.unpack.Goals as goal

pub returns-clause-slot : goal.returns-clause-slot
returns-clause-slot c =
    let variables = c.args.variables.now in
    let order = c.args.order.now in
    let bytes = c.args.bytes.now in
    let rest = take (length bytes - 32) (drop 32 bytes) in
    let n = c.in-Some.numbers in
    let full = c.read_values-self.result in
    let new = c.read_values-self.new.values in
    ap (λ (xs : List ℤ). if full then Some (record { numbers = listed (told n); values = spread variables xs }) else None)
    (with_items_is c.args.self.now.values new (c.read_values-self.ensures.room ∙ c.deref_mut.ensures.len))
    ∙ state_read variables bytes rest (told n) full new c.in-Some.ensures.numbers (take_rest bytes 32)
    (c.read_values-self.ensures.values
    ∙ ap (λ (vs : List Variable). read_values vs order rest (replicate (length vs) (pos 0))) c.as_slice.ensures
    ∙ ap (λ (es : List (ℕ × ℕ)). read_values variables es rest (replicate (length variables) (pos 0))) c.requires.order)
