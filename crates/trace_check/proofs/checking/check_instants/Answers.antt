use Rattle.std.proofs.Common.{rules, arith, ℕ, ◌≡◌, ◌∙◌, ap, ◌+◌, false, sym, subst, nat_eq, List, None, inl, length}
use Rattle.trace_reading.specs.declared.trace.TraceLine.{TraceLine}
use Rattle.trace_reading.specs.Form.{told_values_from}
use Rattle.std.proofs.Math.ListN.{replicate}
use Rattle.system_model.specs.Text.{Instant}
use Rattle.trace_check.specs.Instants.{AreInstantsOf}
use Rattle.trace_check.proofs.TraceLemmas.{Along, Told, along_none, end_first, end_keeps, first_is, last_low, lines_tell, number_low, ports_length, reached_here, rest_shorter, room, round_first, round_more, time_low, told_from}
use Rattle.trace_check.proofs.checking.check_instants.Goals as goal

pub loop-t-init : goal.loop-t-init
loop-t-init c =
    let P : List TraceLine → Type 0 = λ rest. (instants : List Instant) → AreInstantsOf c.args.trace.now instants → Along c.args.system.now c.args.trace.now instants rest None false in
    record {
      along = subst P (sym c.as_slice-rest.ensures) (λ instants told. along_none c.args.system.now c.args.trace.now instants told);
      none = search rules;
    }

pub first_break-requires-clause-last : goal.first_break-requires-clause-last
first_break-requires-clause-last c =
    last_low c.args.system.now c.args.trace.now c.loop-t.rest.now c.loop-t.last c.loop-t.is_reached c.requires.form c.loop-t.invariant.along

pub put_values-requires : goal.put_values-requires
put_values-requires c =
    let size : length c.loop-t.values.items ≡ length c.args.trace.now.ports = room c.args.trace.now c.loop-t.values.items c.loop-t.invariant.none in
    record { none = c.loop-t.invariant.none ∙ ap (λ (n : ℕ). replicate n None) (sym size) }

pub first_break-requires-clause-told : goal.first_break-requires-clause-told
first_break-requires-clause-told c =
    let size : length c.loop-t.values.items ≡ length c.args.trace.now.ports = room c.args.trace.now c.loop-t.values.items c.loop-t.invariant.none in
    let same : c.deref.result.now ≡ c.put_values.new.values.items = search rules in
    let read : Told c.args.trace.now c.in-Some.rows.now c.value_lines.result.1.now c.deref.result.now =
    told_from c.args.trace.now c.in-Some.rows.now c.value_lines.result.0.now c.value_lines.result.1.now c.loop-t.values.items c.put_values.new.values.items c.deref.result.now size same c.value_lines.ensures.told c.value_lines.ensures.rest c.put_values.ensures.put in
    lines_tell c.args.system.now c.args.trace.now c.loop-t.rest.now c.in-Some.rows.now c.value_lines.result.1.now c.in-Some.t c.in-Some.n c.loop-t.last c.loop-t.is_reached c.deref.result.now c.requires.form
    c.loop-t.invariant.along c.in-Some.ensures.found read c.value_lines.result.0.now c.value_lines.ensures.told

pub first_break-requires-clause-size : goal.first_break-requires-clause-size
first_break-requires-clause-size c =
    let size : length c.loop-t.values.items ≡ length c.args.trace.now.ports = room c.args.trace.now c.loop-t.values.items c.loop-t.invariant.none in
    let same : c.deref.result.now ≡ c.put_values.new.values.items = search rules in
    ap length same ∙ (c.put_values.ensures.size ∙ (size ∙ ports_length c.args.system.now c.args.trace.now c.requires.ports))

pub first_break-requires-clause-point : goal.first_break-requires-clause-point
first_break-requires-clause-point c =
    let size : length c.loop-t.values.items ≡ length c.args.trace.now.ports = room c.args.trace.now c.loop-t.values.items c.loop-t.invariant.none in
    let same : c.deref.result.now ≡ c.put_values.new.values.items = search rules in
    let read : Told c.args.trace.now c.in-Some.rows.now c.value_lines.result.1.now c.deref.result.now =
    told_from c.args.trace.now c.in-Some.rows.now c.value_lines.result.0.now c.value_lines.result.1.now c.loop-t.values.items c.put_values.new.values.items c.deref.result.now size same c.value_lines.ensures.told c.value_lines.ensures.rest c.put_values.ensures.put in
    time_low c.args.system.now c.args.trace.now c.loop-t.rest.now c.in-Some.rows.now c.value_lines.result.1.now c.in-Some.t c.in-Some.n c.loop-t.last c.loop-t.is_reached c.deref.result.now c.requires.form
    c.loop-t.invariant.along c.in-Some.ensures.found read

pub clear_values-requires : goal.clear_values-requires
clear_values-requires c =
    let size : length c.loop-t.values.items ≡ length c.args.trace.now.ports = room c.args.trace.now c.loop-t.values.items c.loop-t.invariant.none in
    let same : c.deref.result.now ≡ c.put_values.new.values.items = search rules in
    let read : Told c.args.trace.now c.in-Some.rows.now c.value_lines.result.1.now c.deref.result.now =
    told_from c.args.trace.now c.in-Some.rows.now c.value_lines.result.0.now c.value_lines.result.1.now c.loop-t.values.items c.put_values.new.values.items c.deref.result.now size same c.value_lines.ensures.told c.value_lines.ensures.rest c.put_values.ensures.put in
    record {
      told = lines_tell c.args.system.now c.args.trace.now c.loop-t.rest.now c.in-Some.rows.now c.value_lines.result.1.now c.in-Some.t c.in-Some.n c.loop-t.last c.loop-t.is_reached c.deref.result.now c.requires.form
          c.loop-t.invariant.along c.in-Some.ensures.found read c.value_lines.result.0.now c.value_lines.ensures.told ∙ ap (told_values_from 0) same;
    }

pub overflow_add-result : goal.overflow_add-result
overflow_add-result c =
    let size : length c.loop-t.values.items ≡ length c.args.trace.now.ports = room c.args.trace.now c.loop-t.values.items c.loop-t.invariant.none in
    let same : c.deref.result.now ≡ c.put_values.new.values.items = search rules in
    let read : Told c.args.trace.now c.in-Some.rows.now c.value_lines.result.1.now c.deref.result.now =
    told_from c.args.trace.now c.in-Some.rows.now c.value_lines.result.0.now c.value_lines.result.1.now c.loop-t.values.items c.put_values.new.values.items c.deref.result.now size same c.value_lines.ensures.told c.value_lines.ensures.rest c.put_values.ensures.put in
    let low = number_low c.args.system.now c.args.trace.now c.loop-t.rest.now c.in-Some.rows.now c.value_lines.result.1.now c.in-Some.t c.in-Some.n c.loop-t.last c.loop-t.is_reached c.deref.result.now c.requires.form
    c.loop-t.invariant.along c.in-Some.ensures.found read
    c.line_number.result c.in-Some-first_break.offset c.in-Some-first_break.rule c.line_number.ensures c.in-Some-first_break.ensures.found in
    let lines = c.requires.lines in
    omega (arith, low, lines)

pub returns-in-Some-first_break-clause-no : goal.returns-in-Some-first_break-clause-no
returns-in-Some-first_break-clause-no c = λ line rule e.
    let size : length c.loop-t.values.items ≡ length c.args.trace.now.ports = room c.args.trace.now c.loop-t.values.items c.loop-t.invariant.none in
    let same : c.deref.result.now ≡ c.put_values.new.values.items = search rules in
    let read : Told c.args.trace.now c.in-Some.rows.now c.value_lines.result.1.now c.deref.result.now =
    told_from c.args.trace.now c.in-Some.rows.now c.value_lines.result.0.now c.value_lines.result.1.now c.loop-t.values.items c.put_values.new.values.items c.deref.result.now size same c.value_lines.ensures.told c.value_lines.ensures.rest c.put_values.ensures.put in
    let at : c.line_number.result + c.in-Some-first_break.offset ≡ line = cc in
    let own : c.in-Some-first_break.rule ≡ rule = cc in
    first_is c.args.system.now c.args.trace.now (c.line_number.result + c.in-Some-first_break.offset) c.in-Some-first_break.rule line rule at own
    (round_first c.args.system.now c.args.trace.now c.loop-t.rest.now c.in-Some.rows.now c.value_lines.result.1.now c.in-Some.t c.in-Some.n c.loop-t.last c.loop-t.is_reached c.deref.result.now c.requires.form
    c.loop-t.invariant.along c.in-Some.ensures.found read
    c.line_number.result c.in-Some-first_break.offset c.in-Some-first_break.rule c.line_number.ensures c.requires.ports c.in-Some-first_break.ensures.found)

pub loop-t-smaller-then-is_reached : goal.loop-t-smaller-then-is_reached
loop-t-smaller-then-is_reached c =
    let size : length c.loop-t.values.items ≡ length c.args.trace.now.ports = room c.args.trace.now c.loop-t.values.items c.loop-t.invariant.none in
    let same : c.deref.result.now ≡ c.put_values.new.values.items = search rules in
    let read : Told c.args.trace.now c.in-Some.rows.now c.value_lines.result.1.now c.deref.result.now =
    told_from c.args.trace.now c.in-Some.rows.now c.value_lines.result.0.now c.value_lines.result.1.now c.loop-t.values.items c.put_values.new.values.items c.deref.result.now size same c.value_lines.ensures.told c.value_lines.ensures.rest c.put_values.ensures.put in
    rest_shorter c.args.system.now c.args.trace.now c.loop-t.rest.now c.in-Some.rows.now c.value_lines.result.1.now c.in-Some.t c.in-Some.n c.loop-t.last c.loop-t.is_reached c.deref.result.now c.requires.form
    c.loop-t.invariant.along c.in-Some.ensures.found read

pub loop-t-preserved-then-is_reached : goal.loop-t-preserved-then-is_reached
loop-t-preserved-then-is_reached c =
    let size : length c.loop-t.values.items ≡ length c.args.trace.now.ports = room c.args.trace.now c.loop-t.values.items c.loop-t.invariant.none in
    let same : c.deref.result.now ≡ c.put_values.new.values.items = search rules in
    let read : Told c.args.trace.now c.in-Some.rows.now c.value_lines.result.1.now c.deref.result.now =
    told_from c.args.trace.now c.in-Some.rows.now c.value_lines.result.0.now c.value_lines.result.1.now c.loop-t.values.items c.put_values.new.values.items c.deref.result.now size same c.value_lines.ensures.told c.value_lines.ensures.rest c.put_values.ensures.put in
    record {
      along = round_more c.args.system.now c.args.trace.now c.loop-t.rest.now c.in-Some.rows.now c.value_lines.result.1.now c.in-Some.t c.in-Some.n c.loop-t.last c.loop-t.is_reached c.deref.result.now c.requires.form
          c.loop-t.invariant.along c.in-Some.ensures.found read
          c.loop-t.is_reached c.in_default-first_break.ensures.none ((λ is. inl is), (λ either. c.if-is_reached.true));
      none = c.clear_values.ensures.none ∙ ap (λ (n : ℕ). replicate n None) (c.put_values.ensures.size ∙ size);
    }

pub loop-t-smaller : goal.loop-t-smaller
loop-t-smaller c =
    let size : length c.loop-t.values.items ≡ length c.args.trace.now.ports = room c.args.trace.now c.loop-t.values.items c.loop-t.invariant.none in
    let same : c.deref.result.now ≡ c.put_values.new.values.items = search rules in
    let read : Told c.args.trace.now c.in-Some.rows.now c.value_lines.result.1.now c.deref.result.now =
    told_from c.args.trace.now c.in-Some.rows.now c.value_lines.result.0.now c.value_lines.result.1.now c.loop-t.values.items c.put_values.new.values.items c.deref.result.now size same c.value_lines.ensures.told c.value_lines.ensures.rest c.put_values.ensures.put in
    rest_shorter c.args.system.now c.args.trace.now c.loop-t.rest.now c.in-Some.rows.now c.value_lines.result.1.now c.in-Some.t c.in-Some.n c.loop-t.last c.loop-t.is_reached c.deref.result.now c.requires.form
    c.loop-t.invariant.along c.in-Some.ensures.found read

pub loop-t-preserved : goal.loop-t-preserved
loop-t-preserved c =
    let size : length c.loop-t.values.items ≡ length c.args.trace.now.ports = room c.args.trace.now c.loop-t.values.items c.loop-t.invariant.none in
    let same : c.deref.result.now ≡ c.put_values.new.values.items = search rules in
    let read : Told c.args.trace.now c.in-Some.rows.now c.value_lines.result.1.now c.deref.result.now =
    told_from c.args.trace.now c.in-Some.rows.now c.value_lines.result.0.now c.value_lines.result.1.now c.loop-t.values.items c.put_values.new.values.items c.deref.result.now size same c.value_lines.ensures.told c.value_lines.ensures.rest c.put_values.ensures.put in
    record {
      along = round_more c.args.system.now c.args.trace.now c.loop-t.rest.now c.in-Some.rows.now c.value_lines.result.1.now c.in-Some.t c.in-Some.n c.loop-t.last c.loop-t.is_reached c.deref.result.now c.requires.form
          c.loop-t.invariant.along c.in-Some.ensures.found read
          (nat_eq c.in-Some.t c.args.trace.now.stop) c.in_default-first_break.ensures.none (reached_here c.loop-t.is_reached c.in-Some.t c.args.trace.now.stop c.if-is_reached.false);
      none = c.clear_values.ensures.none ∙ ap (λ (n : ℕ). replicate n None) (c.put_values.ensures.size ∙ size);
    }

pub returns-then-is_end_right-clause-yes : goal.returns-then-is_end_right-clause-yes
returns-then-is_end_right-clause-yes c = λ e.
    end_keeps c.args.system.now c.args.trace.now c.loop-t.rest.now c.loop-t.last c.loop-t.is_reached c.requires.form c.loop-t.invariant.along c.in_default.ensures.none c.requires.ports
    (c.is_end_right.ensures.right c.if-is_end_right.true)

pub returns-clause-no : goal.returns-clause-no
returns-clause-no c = λ line rule e.
    let at : c.line_number-else-is_end_right.result ≡ line = cc in
    let own : 2 ≡ rule = cc in
    let wrong = c.is_end_right.ensures.wrong c.if-is_end_right.false in
    first_is c.args.system.now c.args.trace.now c.line_number-else-is_end_right.result 2 line rule at own
    (end_first c.args.system.now c.args.trace.now c.loop-t.rest.now c.loop-t.last c.loop-t.is_reached c.requires.form c.loop-t.invariant.along c.in_default.ensures.none c.requires.ports
    c.line_number-else-is_end_right.result c.line_number-else-is_end_right.ensures wrong.0 wrong.1)
