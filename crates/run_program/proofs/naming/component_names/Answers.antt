use Rattle.std.proofs.Common.{◌≡◌, ◌≤◌, ℕ, List, arith, length, map, take, refl, sym, ap, subst, ◌∙◌}
use Rattle.std.specs.Prelude.{All, Some, slice_get}
use Rattle.std.proofs.lemmas.List.{length-map, length-take, take_all}
use Rattle.std.proofs.lemmas.List.Elements.{All-nil}
use Rattle.std.proofs.lemmas.Option.{slice_get_read}
use Rattle.system_model.specs.declared.system.Component.{Component}
use Rattle.run_program.proofs.NamingLemmas.{none_longer, one_more}
use Rattle.run_program.proofs.naming.component_names.Goals as goal

pub loop-component-init : goal.loop-component-init
loop-component-init c = record {
  given = c.in_ok-names.ensures.items;
  within = omega arith;
  room = let n = c.in_ok-names.ensures.capacity in omega (arith, n);
  longest = subst (All (λ (name : List ℕ). length name ≤ 0)) (sym c.in_ok-names.ensures.items) (All-nil (λ (name : List ℕ). length name ≤ 0));
}

pub push_reserved-requires : goal.push_reserved-requires
push_reserved-requires c =
    let i = c.loop-component.invariant in
    let n : length c.loop-component.names.items ≡ length (take c.loop-component.component-index c.args.components.now) = ap length i.given ∙ length-map (take c.loop-component.component-index c.args.components.now) (λ (x : Component). x.name) in
    let short : length (take c.loop-component.component-index c.args.components.now) ≤ c.loop-component.component-index = let h = length-take c.loop-component.component-index c.args.components.now in omega (arith, h) in
    let room = i.room in
    let more = c.loop-component-test.true in
    omega (arith, n, short, room, more)

pub loop-component-preserved : goal.loop-component-preserved
loop-component-preserved c =
    let i = c.loop-component.invariant in
    let x : Component = c.component-item.result in
    let here : slice_get c.args.components.now c.loop-component.component-index ≡ Some x = slice_get_read c.args.components.now _ c.loop-component.component-index x refl c.loop-component-test.true c.component-item.is in
    let second = c.longer-longest.ensures.second in
    let len = c.len.ensures in
    let new : length c.in_ok-copy.field-0 ≤ c.longer-longest.result = let same = ap length c.in_ok-copy.ensures in omega (arith, same, second, len) in
    record {
      given = c.push_reserved.ensures.items ∙ one_more (λ (y : Component). y.name) c.args.components.now c.loop-component.names.items c.loop-component.component-index x c.in_ok-copy.field-0 here i.given c.in_ok-copy.ensures;
      within = let w = c.loop-component-test.true in omega (arith, w);
      room = let r = i.room in let k = c.push_reserved.ensures.capacity in omega (arith, r, k);
      longest = subst (All (λ (name : List ℕ). length name ≤ c.longer-longest.result)) (sym c.push_reserved.ensures.items)
          (none_longer length c.loop-component.longest c.longer-longest.result c.loop-component.names.items c.in_ok-copy.field-0 c.longer-longest.ensures.first i.longest new);
    }

pub returns-clause-names : goal.returns-clause-names
returns-clause-names c =
    let i = c.loop-component.invariant in
    let past = c.loop-component-test.false in
    i.given ∙ ap (map (λ (x : Component). x.name)) (take_all c.loop-component.component-index c.args.components.now (omega (arith, past)))

pub returns-clause-longest : goal.returns-clause-longest
returns-clause-longest c = c.loop-component.invariant.longest
