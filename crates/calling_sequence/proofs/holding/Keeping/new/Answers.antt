use Rattle.std.proofs.Common.{◌≡◌, ◌≤◌, ◌+◌, ℕ, ap₂, arith, length, subst, sym, ◌∙◌}
use Rattle.system_checkpoint.specs.Spelling.{greatest_len}
use Rattle.calling_sequence.specs.Ends.{header_of}
use Rattle.calling_sequence.proofs.holding.Keeping.new.Goals as goal

more : (a b h k : ℕ) → h ≤ k → a + b + (h + 60) ≤ a + b + (k + 60)
more a b h k le = omega (arith, le)

pub returns : goal.returns
returns c =
    let e = c.args.experiment.now in
    let components = length e.system.components in
    let ports = length e.system.ports in
    let header = c.in-Some.header in
    let own = length (header_of e.system e.plan) in
    let fits : own ≤ header = c.in-Some.ensures in
    let same : greatest_len components ports header ≡ c.in-Some-checkpoint_len.most = ap₂ (λ (x y : ℕ). greatest_len x y header) (sym c.len.ensures) (sym c.len-2.ensures) ∙ sym c.in-Some-checkpoint_len.ensures.some in
    let most : greatest_len components ports own ≤ c.in-Some-checkpoint_len.most = subst (λ (n : ℕ). greatest_len components ports own ≤ n) same (more _ _ own header fits) in
    let room = c.in_ok-with_capacity-2.ensures.capacity in
    record {
      state = c.in_ok-with_capacity.ensures.capacity;
      none = c.in_ok-with_capacity.ensures.items;
      bytes = omega (arith, most, room);
      empty = c.in_ok-with_capacity-2.ensures.items;
    }
