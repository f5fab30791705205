use Rattle.std.proofs.Common.{rules, ◌≡◌, ℕ, ◌+◌, ◌<◌, ◌++◌, ◌∷◌, [], List, subst, All, Contains}
use Rattle.trace_check.specs.declared.ticks.ConstantClock.{ConstantClock}
use Rattle.trace_check.specs.Steps.{IsWithinLimits}
use Rattle.trace_check.specs.Ticks.{IsConstantClock}
use Rattle.trace_check.proofs.TickLemmas.{all_found, all_more, all_same, each_more, limits_more}
use Rattle.trace_check.proofs.ticks.constant_clocks.Goals as goal
use Rattle.trace_check.proofs.ticks.constant_clocks.Goals.{in-Some+in_ok-push, in_default}

pub loop-p-preserved : goal.loop-p-preserved
loop-p-preserved c =
    elim c.match-constant_clock.branch [
      | in-Some+in_ok-push w ↦
          let system = c.args.system.now in
          let clocks : List ConstantClock = c.loop-p.clocks.items in
          let now : List ConstantClock = c.match-constant_clock.clocks.items in
          let pushed : now ≡ clocks ++ (w.in-Some.clock ∷ []) = search rules in
          record {
            each = each_more system clocks now c.loop-p.p w.in-Some.clock w.in-Some.ensures.found w.in-Some.ensures.place pushed c.loop-p.invariant.each;
            limits = limits_more system clocks now c.loop-p.p w.in-Some.clock w.in-Some.ensures.found w.in-Some.ensures.place pushed c.requires c.loop-p.invariant.limits;
            all = all_more system clocks now c.loop-p.p w.in-Some.clock w.in-Some.ensures.found w.in-Some.ensures.place pushed c.loop-p.invariant.all;
          }
      | in_default w ↦
          let same : c.loop-p.clocks.items ≡ c.match-constant_clock.clocks.items = search rules in
          let P : List ConstantClock → Type 0 = λ cs. All (λ (k : ConstantClock). IsConstantClock c.args.system.now k.port k.interval k.shift) cs in
          let Q : List ConstantClock → Type 0 = λ cs. All IsWithinLimits cs in
          let R : List ConstantClock → Type 0 = λ cs. (q interval shift : ℕ) → q < c.loop-p.p + 1 → IsConstantClock c.args.system.now q interval shift → Contains cs (record { port = q; interval = interval; shift = shift }) in
          record {
            each = subst P same c.loop-p.invariant.each;
            limits = subst Q same c.loop-p.invariant.limits;
            all = subst R same (all_same c.args.system.now c.loop-p.clocks.items c.loop-p.p w.in_default.ensures.none c.loop-p.invariant.all);
          }
    ]

pub returns : goal.returns
returns c = record {
  each = c.loop-p.invariant.each;
  limits = c.loop-p.invariant.limits;
  all = all_found c.args.system.now c.loop-p.clocks.items c.loop-p.p (search rules) c.loop-p.invariant.all;
}
