-- A generated system can be run, by machines that have no folders.
use Rattle.std.proofs.Common.{◌≡◌, ◌∙◌, ℕ, zero, suc, ◌+◌, ◌<◌, ◌≤◌, ◌^◌, List, [], length, map, sym, ap, subst, arith}
use Rattle.std.specs.Prelude.{All, decimal}
use Rattle.std.specs.List.{range_with_len}
use Rattle.std.proofs.lemmas.List.{length-replicate}
use Rattle.std.proofs.lemmas.List.Elements.{All-cons, All-nil}
use Rattle.std.proofs.lemmas.List.FromFn.{length-map-range_with_len}
use Rattle.command_line.specs.Line.{BenchLine, built_in_host}
use Rattle.system_model.specs.declared.system.System.{System}
use Rattle.system_model.specs.Sound.{IsSound}
use Rattle.system_files.specs.Loads.{IsNamed}
use Rattle.system_model.specs.declared.bound.Bound.{Bound}
use Rattle.system_model.specs.declared.plan.Plan.{Plan}
use Rattle.generated_system.specs.Draws.{drawn_for}
use Rattle.generated_system.specs.Generated.{bench_plan, component_of, generated_system}
use Rattle.generated_system.specs.Suited.{SuitsBuiltIns}
use Rattle.calling_sequence.specs.Plans.{CountsBy}
use Rattle.run_program.specs.Bench.{system_for, task_for}
use Rattle.run_program.specs.Runs.{CanRun, HasFolders, Task}
use Rattle.run_program.proofs.Digits.{decimal_short}

named_one : (i : ℕ) (machine : _) → i < 2 ^ 64 → IsNamed (component_of i machine)
named_one i machine small =
    let short : length (decimal i) ≤ 20 = decimal_short i small in
    record { named = omega arith; name = omega (arith, short); token = omega arith }

named_from : (machines : ℕ → _) (a k : ℕ) → a + k ≤ 256 → All IsNamed (map (λ i. component_of i (machines i)) (range_with_len a k))
named_from machines a zero few = All-nil IsNamed
named_from machines a (suc k) few =
    All-cons IsNamed (component_of a (machines a)) (map (λ i. component_of i (machines i)) (range_with_len (a + 1) k))
    (named_one a (machines a) (omega arith)) (named_from machines (a + 1) k (omega arith))

pub can_run : (seed n : ℕ) (system : System) → n ≤ 256 → system ≡ generated_system seed n → IsSound system → CanRun system
can_run seed n system few is sound = record {
  sound = sound;
  each = subst (λ (s : System). All IsNamed s.components) (sym is) (named_from (λ i. (drawn_for seed i).machine) 0 n (omega arith));
}

-- a second has as many counts to each of its components as to its plan
pub counted_by : (seed n workers : ℕ) (system : System) → system ≡ generated_system seed n → All SuitsBuiltIns (generated_system seed n).components → CountsBy system (bench_plan workers)
counted_by seed n workers system is suited =
    subst (λ (s : System). CountsBy s (bench_plan workers)) (sym is) (λ k c within. (suited k c within).counts)

pub has_none : (line : BenchLine) (folders : List (List ℕ)) (system : System) → folders ≡ (task_for line).folders → system ≡ system_for line → HasFolders folders system
has_none line folders system none is =
    ap length none ∙ length-replicate line.components []
    ∙ sym (length-map-range_with_len (λ i. component_of i (drawn_for line.seed i).machine) 0 line.components) ∙ sym (ap (λ (s : System). length s.components) is)

-- ---- what is run

-- by the built-in machines
abbrev pub task_by : Plan → Bound → List (List ℕ) → Task
task_by plan bound folders = record { plan = plan; host = built_in_host; bound = bound; folders = folders }

pub same_task : (line : BenchLine) (plan : Plan) (bound : Bound) (folders : List (List ℕ)) → plan ≡ bench_plan line.workers → bound ≡ (task_for line).bound → folders ≡ (task_for line).folders →
    task_by plan bound folders ≡ task_for line
same_task line plan bound folders plan_is bound_is folders_are =
    ap (λ (p : Plan). task_by p bound folders) plan_is ∙ ap (λ (b : Bound). task_by (bench_plan line.workers) b folders) bound_is
    ∙ ap (λ (fs : List (List ℕ)). task_by (bench_plan line.workers) (task_for line).bound fs) folders_are
