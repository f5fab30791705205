use Rattle.std.proofs.Common.{rules, arith, sym, ◌∙◌}
use Rattle.sim_base.specs.Escape.{escaped}
use Rattle.trace_reading.proofs.NameLemmas.{empty_is, Left, none_left, for_left, one_less, push_escaped, of_bytes}
use Rattle.trace_reading.proofs.names.name.Goals as goal

pub returns-in_default-clause-none : goal.returns-in_default-clause-none
returns-in_default-clause-none c = λ whole some e is.
    let left = c.loop-rest.invariant.left whole (of_bytes c.args.word.now whole (λ k. omega (arith, c.type_inv.word k)) e) e in
    for_left ⊥ c.loop-rest.rest.now left.more left.bytes left.text (search rules) (λ m ms low later is text. let found = c.byte_before.ensures.exact m (escaped ms) low text in search rules)

pub loop-rest-preserved : goal.loop-rest-preserved
loop-rest-preserved c = record {
  parts = search (rules, push_escaped);
  left = λ whole all e.
      let left = c.loop-rest.invariant.left whole all e in
      for_left (Left whole c.push.new.self.items c.in-Some.after.now) c.loop-rest.rest.now left.more left.bytes left.text (search rules) (λ m ms low later is text.
      let found = c.in-Some.ensures.exact m (escaped ms) low text in
      one_less whole c.loop-rest.bytes.items c.loop-rest.rest.now c.in-Some.after.now left.more c.push.new.self.items c.in-Some.byte m ms later left.name is found.0 found.1 (search rules));
}

pub returns-then-is_empty-clause-none : goal.returns-then-is_empty-clause-none
returns-then-is_empty-clause-none c = λ whole some e is.
    let same = none_left whole c.loop-rest.bytes.items c.loop-rest.rest.now (c.loop-rest.invariant.left whole (of_bytes c.args.word.now whole (λ k. omega (arith, c.type_inv.word k)) e) e) (search rules) in
    some (sym same ∙ empty_is c.loop-rest.bytes.items (search rules))
