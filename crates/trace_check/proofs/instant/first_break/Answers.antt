use Rattle.std.proofs.Common.{rules}
use Rattle.system_model.specs.Text.{instant_at}
use Rattle.trace_check.specs.Instants.{IsInOrder}
use Rattle.trace_check.proofs.InstantLemmas.{no_break, none_without_value, off_tick, other_value, some_without_value}
use Rattle.trace_check.proofs.instant.first_break.Goals as goal

pub returns-then-is_some-clause-found : goal.returns-then-is_some-clause-found
returns-then-is_some-clause-found c =
    let order : IsInOrder c.args.trace.now.start c.args.trace.now.stop c.args.last c.args.t c.args.n = search rules in
    some_without_value c.args.system.now c.args.trace.now c.args.last (instant_at c.args.t c.args.n c.args.values.now) c.first_without_value.result order c.first_without_value.ensures.found (search rules)

pub returns-then-is_off_tick-clause-found : goal.returns-then-is_off_tick-clause-found
returns-then-is_off_tick-clause-found c =
    let order : IsInOrder c.args.trace.now.start c.args.trace.now.stop c.args.last c.args.t c.args.n = search rules in
    let have = none_without_value c.args.system.now (instant_at c.args.t c.args.n c.args.values.now) c.first_without_value.result c.first_without_value.ensures.none (search rules) in
    off_tick c.args.system.now c.args.clocks.now c.args.trace.now c.args.last (instant_at c.args.t c.args.n c.args.values.now) c.requires.clocks order have (c.is_off_tick.ensures.0 (search rules))

pub returns-in-Some-clause-found : goal.returns-in-Some-clause-found
returns-in-Some-clause-found c =
    let order : IsInOrder c.args.trace.now.start c.args.trace.now.stop c.args.last c.args.t c.args.n = search rules in
    let have = none_without_value c.args.system.now (instant_at c.args.t c.args.n c.args.values.now) c.first_without_value.result c.first_without_value.ensures.none (search rules) in
    other_value c.args.system.now c.args.clocks.now c.args.trace.now c.args.last (instant_at c.args.t c.args.n c.args.values.now) c.in-Some.lines c.requires.clocks order have
    (λ off. let on = c.is_off_tick.ensures.1 off in cc) c.in-Some.ensures.found c.in-Some.ensures.first

pub returns-in-None-clause-none : goal.returns-in-None-clause-none
returns-in-None-clause-none c =
    let order : IsInOrder c.args.trace.now.start c.args.trace.now.stop c.args.last c.args.t c.args.n = search rules in
    let have = none_without_value c.args.system.now (instant_at c.args.t c.args.n c.args.values.now) c.first_without_value.result c.first_without_value.ensures.none (search rules) in
    no_break c.args.system.now c.args.clocks.now c.args.trace.now c.args.last (instant_at c.args.t c.args.n c.args.values.now) c.requires.clocks order have
    (λ off. let on = c.is_off_tick.ensures.1 off in cc) c.in-None.ensures.none
