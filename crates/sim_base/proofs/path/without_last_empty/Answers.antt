use Rattle.std.proofs.Common.{◌≡◌, ◌<◌, ◌-◌, ℕ, List, [], length, get_or, arith}
use Rattle.std.proofs.lemmas.Bool.Decides.{nat_tests}
use denote.Bor.{Bor}
use Rattle.sim_base.proofs.PathLemmas.{without_last_empty-empty, without_last_empty-other, without_last_empty-none}
use Rattle.sim_base.proofs.path.without_last_empty.Goals as goal
use Rattle.sim_base.proofs.path.without_last_empty.Goals.{else-count-gt0-via-then-count-gt0+else-is_empty, else-count-gt0-via-else-count-gt0}

-- what stands past the end
abbrev none : Bor (List ℕ)
none = record { ref_ptr = (0, 0); now = [] }

pub returns-then-is_empty : goal.returns-then-is_empty
returns-then-is_empty c =
    let all = c.args.all.now in
    let is_empty : length (get_or all (length all - 1) none).now ≡ 0 = grind (arith, nat_tests, c.is_empty.ensures, c.if-is_empty.true) in
    without_last_empty-empty _ all (length all - 1) none (omega arith) is_empty

pub returns-else-count-gt0 : goal.returns-else-count-gt0
returns-else-count-gt0 c =
    let all = c.args.all.now in
    elim c.else-count-gt0.branch [
      | else-count-gt0-via-then-count-gt0+else-is_empty w ↦
          let other : 0 < length (get_or all (length all - 1) none).now = grind (arith, nat_tests, w.is_empty.ensures, w.if-is_empty.false) in
          without_last_empty-other _ all (length all - 1) none (omega arith) other
      | else-count-gt0-via-else-count-gt0 w ↦ without_last_empty-none _ all (omega arith)
    ]
