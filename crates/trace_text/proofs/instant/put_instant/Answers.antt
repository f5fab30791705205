use Rattle.std.proofs.Common.{◌≡◌, ◌≤◌, List, ℕ, ℤ, Some, ◌+◌, ◌++◌, ap, arith, drop, length, of_z, refl, subst, sym, to_z, ◌∙◌}
use Rattle.std.specs.Prelude.{Option}
use Rattle.std.specs.Int.{w128}
use Rattle.std.specs.List.{slice_get}
use Rattle.std.proofs.lemmas.Int.{ints}
use Rattle.std.proofs.lemmas.List.{length-append}
use Rattle.port_values.specs.Valued.{valued}
use Rattle.system_model.specs.Text.{at_line, instant_text, lines_text, value_line, value_lines_from}
use Rattle.trace_text.specs.Lines.{ended}
use Rattle.trace_text.proofs.RestLemmas.{StandsBut, all_put, all_through, entry_lines, line_first, next_entry, room_next, stands_more, stands_whole, value_lines_are, valued_few}
use Rattle.trace_text.proofs.instant.put_instant.Goals as goal

pub loop-k-init : goal.loop-k-init
loop-k-init c =
    let values = c.args.values.now in
    let line = at_line c.args.t c.args.n in
    let lines = value_lines_from 0 values in
    let whole = instant_text c.args.t c.args.n values in
    let put = c.put_instant_line-at.ensures in
    let end = put.length in
    let long : length whole ≡ length (ended line) + length (lines_text lines) = ap length (line_first line lines) ∙ length-append (ended line) (lines_text lines) in
    let plain : StandsBut (lines_text lines) c.put_instant_line-at.result c.put_instant_line-at.new.out whole = record {
      text = ap (λ (prefix : List ℕ). prefix ++ lines_text lines) put.text ∙ sym (line_first line lines);
      fits = omega (arith, end, long);
    } in
    record {
      stands = subst (λ (more : List (List ℕ)). StandsBut (lines_text more) c.put_instant_line-at.result c.put_instant_line-at.new.out whole) (value_lines_are 0 values) plain;
      same = refl;
    }

pub append_value_line-at-requires : goal.append_value_line-at-requires
append_value_line-at-requires c =
    let entries = valued c.args.values.now in
    let k = c.loop-k.k in
    let whole = instant_text c.args.t c.args.n c.args.values.now in
    let is : Some (c.in-Some.port, c.in-Some.value) ≡ slice_get entries k = c.in-Some.ensures.found ∙ ap (λ (vs : List (Option ℤ)). slice_get (valued vs) k) c.loop-k.invariant.same in
    let next = next_entry entries k c.in-Some.port c.in-Some.value c.loop-k.at c.loop-k.out whole c.loop-k.invariant.stands is in
    let rest = lines_text (entry_lines (drop (k + 1) entries)) in
    let word = to_z w128 (of_z w128 c.in-Some.value) in
    let same : word ≡ c.in-Some.value = omega (arith, ints) in
    let long = c.loop-k.auto.out in
    let room = c.requires in
    room_next (ended (value_line c.in-Some.port word)) rest c.loop-k.out whole c.loop-k.at (subst (λ (value : ℤ). StandsBut (ended (value_line c.in-Some.port value) ++ rest) c.loop-k.at c.loop-k.out whole) (sym same) next) (omega (arith, long, room))

pub loop-k-preserved : goal.loop-k-preserved
loop-k-preserved c =
    let entries = valued c.args.values.now in
    let k = c.loop-k.k in
    let whole = instant_text c.args.t c.args.n c.args.values.now in
    let is : Some (c.in-Some.port, c.in-Some.value) ≡ slice_get entries k = c.in-Some.ensures.found ∙ ap (λ (vs : List (Option ℤ)). slice_get (valued vs) k) c.loop-k.invariant.same in
    let next = next_entry entries k c.in-Some.port c.in-Some.value c.loop-k.at c.loop-k.out whole c.loop-k.invariant.stands is in
    let rest = lines_text (entry_lines (drop (k + 1) entries)) in
    let word = to_z w128 (of_z w128 c.in-Some.value) in
    let same : word ≡ c.in-Some.value = omega (arith, ints) in
    record {
      stands = stands_more (ended (value_line c.in-Some.port word)) rest c.loop-k.out c.append_value_line-at.new.out whole c.loop-k.at c.append_value_line-at.result
          (subst (λ (value : ℤ). StandsBut (ended (value_line c.in-Some.port value) ++ rest) c.loop-k.at c.loop-k.out whole) (sym same) next) c.append_value_line-at.ensures.end c.append_value_line-at.ensures.text;
      same = c.in-Some.ensures.same ∙ c.loop-k.invariant.same;
    }

pub returns-in_default-clause-length : goal.returns-in_default-clause-length
returns-in_default-clause-length c =
    let none = c.in_default.ensures.found ∙ ap (λ (vs : List (Option ℤ)). slice_get (valued vs) c.loop-k.k) c.loop-k.invariant.same in
    (stands_whole c.loop-k.at c.loop-k.out (instant_text c.args.t c.args.n c.args.values.now) (all_put (valued c.args.values.now) c.loop-k.k c.loop-k.at c.loop-k.out (instant_text c.args.t c.args.n c.args.values.now) c.loop-k.invariant.stands none)).0

pub returns-in_default-clause-text : goal.returns-in_default-clause-text
returns-in_default-clause-text c =
    let none = c.in_default.ensures.found ∙ ap (λ (vs : List (Option ℤ)). slice_get (valued vs) c.loop-k.k) c.loop-k.invariant.same in
    (stands_whole c.loop-k.at c.loop-k.out (instant_text c.args.t c.args.n c.args.values.now) (all_put (valued c.args.values.now) c.loop-k.k c.loop-k.at c.loop-k.out (instant_text c.args.t c.args.n c.args.values.now) c.loop-k.invariant.stands none)).1

pub returns-clause-length : goal.returns-clause-length
returns-clause-length c =
    let few = valued_few 0 c.args.values.now in
    let past : length (valued c.args.values.now) ≤ c.loop-k.k = (let t = c.loop-k-test.false in let n = c.len-k-end.ensures in omega (arith, few, t, n)) in
    (stands_whole c.loop-k.at c.loop-k.out (instant_text c.args.t c.args.n c.args.values.now) (all_through (valued c.args.values.now) c.loop-k.k c.loop-k.at c.loop-k.out (instant_text c.args.t c.args.n c.args.values.now) c.loop-k.invariant.stands past)).0

pub returns-clause-text : goal.returns-clause-text
returns-clause-text c =
    let few = valued_few 0 c.args.values.now in
    let past : length (valued c.args.values.now) ≤ c.loop-k.k = (let t = c.loop-k-test.false in let n = c.len-k-end.ensures in omega (arith, few, t, n)) in
    (stands_whole c.loop-k.at c.loop-k.out (instant_text c.args.t c.args.n c.args.values.now) (all_through (valued c.args.values.now) c.loop-k.k c.loop-k.at c.loop-k.out (instant_text c.args.t c.args.n c.args.values.now) c.loop-k.invariant.stands past)).1
