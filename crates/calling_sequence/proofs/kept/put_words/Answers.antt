use Rattle.std.proofs.Common.{◌≡◌, ◌<◌, ℤ, Option, None, ap, arith, length, map, subst, sym, get_or, ◌∙◌}
use Rattle.std.specs.Option.{option_map}
use Rattle.std.proofs.lemmas.List.{get_or-map, length-map}
use Rattle.std.specs.Prelude.{IfSome}
use Rattle.value_types.specs.Values.{Fits, word_of}
use Rattle.system_checkpoint.specs.Spelling.{option_bytes}
use Rattle.system_checkpoint.proofs.CallerLemmas.{next_room, option_len}
use Rattle.calling_sequence.proofs.Putting.{at_place, put_all, put_on}
use Rattle.calling_sequence.proofs.kept.put_words.Goals as goal

pub word_of-requires : goal.word_of-requires
word_of-requires c = subst (λ (o : Option ℤ). IfSome o (Fits c.index-ports-place.result.kind)) (sym c.at-value.ensures) (c.requires.fitting c.loop-place.place c.index-ports-place.result (at_place c.args.ports.now c.loop-place.place c.index-ports-place.result c.loop-place-test.true c.index-ports-place.is))

pub put_option-requires : goal.put_option-requires
put_option-requires c =
    let k = c.loop-place.place in
    let values = c.args.values.now in
    let places = c.requires.places in
    let w = c.loop-place-test.true in
    let there : k < length values = omega (arith, w, places) in
    let words = map (option_map word_of) values in
    let within : k < length words = let l = length-map values (option_map word_of) in omega (arith, l, there) in
    let is : c.word_of.result ≡ get_or words k c.word_of.result = c.word_of.ensures ∙ ap (option_map word_of) c.at-value.ensures ∙ sym (get_or-map (option_map word_of) values k None c.word_of.result there) in
    let i = c.loop-place.invariant in
    let fits = next_room option_bytes words k c.word_of.result c.word_of.result c.args.bytes.now.items c.loop-place.bytes.items _ _ _ is within i.text c.args.bytes.now.ok.0 c.loop-place.bytes.ok.0 c.requires.room in
    let len = option_len c.word_of.result in
    let room = i.room in
    omega (arith, fits, len, room)

pub loop-place-preserved : goal.loop-place-preserved
loop-place-preserved c =
    let k = c.loop-place.place in
    let values = c.args.values.now in
    let places = c.requires.places in
    let w = c.loop-place-test.true in
    let there : k < length values = omega (arith, w, places) in
    let words = map (option_map word_of) values in
    let within : k < length words = let l = length-map values (option_map word_of) in omega (arith, l, there) in
    let is : c.word_of.result ≡ get_or words k c.word_of.result = c.word_of.ensures ∙ ap (option_map word_of) c.at-value.ensures ∙ sym (get_or-map (option_map word_of) values k None c.word_of.result there) in
    let i = c.loop-place.invariant in
    let a = i.room in
    let b = c.put_option.ensures.room in
    record { text = put_on option_bytes words k c.word_of.result is within _ _ _ i.text c.put_option.ensures.text; room = omega (arith, a, b) }

pub returns-clause-text : goal.returns-clause-text
returns-clause-text c =
    let over = c.loop-place-test.false in
    let places = c.requires.places in
    let l = length-map c.args.values.now (option_map word_of) in
    put_all option_bytes (map (option_map word_of) c.args.values.now) c.loop-place.place (omega (arith, over, places, l)) _ _ c.loop-place.invariant.text
