use Rattle.std.proofs.Common.{rules, ◌≡◌, ap, ◌∙◌, List, [], ◌∷◌, ◌++◌, Some}
use Rattle.trace_reading.specs.declared.trace.TraceLine.{TraceLine}
use Rattle.trace_reading.specs.Form.{kinds_of}
use Rattle.trace_reading.specs.Walk.{items_in, place_after, rows_with}
use Rattle.trace_reading.specs.Walk.WrongAfter.{NoItem}
use Rattle.trace_reading.proofs.WalkLemmas.{in_push, more_text, more_walk}
use Rattle.trace_reading.proofs.rows.read_rows.Goals as goal

pub returns-in_default-read_item-clause-fault : goal.returns-in_default-read_item-clause-fault
returns-in_default-read_item-clause-fault c = λ n is. record {
  before = items_in c.loop-line.lines.items c.loop-line.place;
  after = c.loop-line.rest.now;
  place = c.loop-line.place;
  parts = c.loop-line.invariant.parts;
  good = c.loop-line.invariant.good;
  number = search rules;
  wrong = NoItem c.in-Some.line.now c.in-Some.after.now c.in-Some.ensures.parts c.in-Some.ensures.first (λ item short e. let read = c.read_item.ensures.exact item short e in search rules);
}

pub returns-in_default-place_after-clause-fault : goal.returns-in_default-place_after-clause-fault
returns-in_default-place_after-clause-fault c = λ n is. record {
  before = items_in c.loop-line.lines.items c.loop-line.place;
  after = c.loop-line.rest.now;
  place = c.loop-line.place;
  parts = c.loop-line.invariant.parts;
  good = c.loop-line.invariant.good;
  number = search rules;
  wrong = NoItem c.in-Some.line.now c.in-Some.after.now c.in-Some.ensures.parts c.in-Some.ensures.first (λ item short e. let read = c.read_item.ensures.exact item short e in search rules);
}

pub loop-line-preserved : goal.loop-line-preserved
loop-line-preserved c =
    let step : place_after (kinds_of c.args.ports.now) c.loop-line.place c.in-Some-read_item.item ≡ Some c.in-Some-place_after.next = search rules in
    let pushed : c.push_row.new.lines.items ≡ rows_with c.loop-line.lines.items c.in-Some-read_item.item = search rules in
    let more : items_in c.push_row.new.lines.items c.in-Some-place_after.next ≡ items_in c.loop-line.lines.items c.loop-line.place ++ (c.in-Some-read_item.item ∷ []) =
    ap (λ (xs : List TraceLine). items_in xs c.in-Some-place_after.next) pushed ∙ in_push (kinds_of c.args.ports.now) c.loop-line.lines.items c.loop-line.place c.in-Some-place_after.next c.in-Some-read_item.item step in
    record {
      parts = more_text c.args.text.now c.loop-line.rest.now c.in-Some.line.now c.in-Some.after.now (items_in c.loop-line.lines.items c.loop-line.place) (items_in c.push_row.new.lines.items c.in-Some-place_after.next) c.in-Some-read_item.item c.loop-line.invariant.parts c.in-Some.ensures.parts c.in-Some-read_item.ensures.found more;
      good = more_walk (kinds_of c.args.ports.now) (items_in c.loop-line.lines.items c.loop-line.place) (items_in c.push_row.new.lines.items c.in-Some-place_after.next) c.in-Some-read_item.item c.loop-line.place c.in-Some-place_after.next c.loop-line.invariant.good step more;
    }
