use Rattle.std.proofs.Common.{◌≡◌, ◌+◌, ◌<◌, length, sym, ◌∙◌, ap, subst}
use Rattle.std.specs.Prelude.{slice_get}
use Rattle.std.proofs.lemmas.Option.{none-some as none_some, same_Some, get_or_from_slice_get, slice_get_within}
use Rattle.value_types.specs.Shape.{place_of}
use Rattle.value_types.specs.declared.shape.Shape.{Shape}
use Rattle.flatten.specs.Indexed.{begin_of}
use Rattle.flatten.proofs.RoleLemmas.{some_at}
use Rattle.flatten.proofs.ClockLemmas.{clock_port, known_place}
use Rattle.flatten.proofs.connectors.FlatTree.clock_port.Goals as goal

pub returns-in_err-place : goal.returns-in_err-place
returns-in_err-place c =
    let shapes = c.args.self.now.shapes.now in
    let known = known_place shapes c.args.component c.args.reference c.requires.indexed.shapes.sound c.requires.known in
    let same = get_or_from_slice_get shapes c.args.component known.shape c.index-self-component.result known.of in
    absurd (none_some _ (sym c.in_err-place.was ∙ c.place_of.ensures.place ∙ ap (λ (s : Shape). place_of s.variables c.args.reference) same ∙ known.clock.found))

pub number_at-requires-clause-place : goal.number_at-requires-clause-place
number_at-requires-clause-place c =
    let shapes = c.args.self.now.shapes.now in
    let known = known_place shapes c.args.component c.args.reference c.requires.indexed.shapes.sound c.requires.known in
    let same = get_or_from_slice_get shapes c.args.component known.shape c.index-self-component.result known.of in
    let place : known.clock.place ≡ c.in_ok-place.place =
    same_Some _ _ (sym known.clock.found ∙ ap (λ (s : Shape). place_of s.variables c.args.reference) (sym same) ∙ sym c.place_of.ensures.place ∙ c.in_ok-place.was) in
    some_at (slice_get shapes c.args.component) (λ (s : Shape). c.in_ok-place.place < length s.variables) known.shape known.of
    (subst (λ k. k < length known.shape.variables) place (slice_get_within known.shape.variables known.clock.place known.clock.variable known.clock.at))

pub returns : goal.returns
returns c =
    let shapes = c.args.self.now.shapes.now in
    let known = known_place shapes c.args.component c.args.reference c.requires.indexed.shapes.sound c.requires.known in
    let same = get_or_from_slice_get shapes c.args.component known.shape c.index-self-component.result known.of in
    let place : known.clock.place ≡ c.in_ok-place.place =
    same_Some _ _ (sym known.clock.found ∙ ap (λ (s : Shape). place_of s.variables c.args.reference) (sym same) ∙ sym c.place_of.ensures.place ∙ c.in_ok-place.was) in
    clock_port shapes c.args.table.now.numbers.items c.args.component c.args.reference c.number_at.result known c.index.result.now c.requires.table.numbers
    (c.number_at.ensures.number ∙ ap (λ k. begin_of shapes c.args.component + k) (sym place)) c.index.ensures
