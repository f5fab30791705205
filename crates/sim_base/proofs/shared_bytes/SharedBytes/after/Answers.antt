use Rattle.std.proofs.Common.{ℕ, ◌+◌, ◌-◌, ◌≤◌, length, take, drop, ap, ◌∙◌, arith}
use Rattle.std.specs.Prelude.{Vec}
use Rattle.std.specs.declared.alloc.Global.{Global}
use Rattle.sim_base.proofs.ShareLemmas.{after_is, part_len}
use Rattle.sim_base.proofs.shared_bytes.SharedBytes.after.Goals as goal

pub returns-clause-rest : goal.returns-clause-rest
returns-clause-rest c =
    let whole = c.self.inside.whole.value.items in
    let start = c.self.inside.start in
    let count = c.self.inside.count in
    let few = c.args.count in
    let within : few ≤ count = (let len = part_len whole start count c.self.invariant in let same = ap length c.self.view_is in let le = c.requires in omega (arith, len, same, le)) in
    ap (λ (v : Vec ℕ Global). take (count - few) (drop (start + few) v.items)) c.in_ok-clone.ensures.cases ∙ after_is whole start count few within ∙ ap (drop few) c.self.view_is
