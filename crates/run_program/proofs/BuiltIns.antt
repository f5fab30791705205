-- The trace over built-in machines: they behave well, where they can tell what they are asked of Clocks.
use Rattle.std.proofs.Common.{◌≡◌, ℕ, ◌<◌, true, List, [], Option, Some, None, map, refl, sym, ap, ◌∙◌, subst}
use Rattle.std.specs.Prelude.{IfSome, is_some, unwrap_or, slice_get, slice_index_or, option_map}
use Rattle.std.proofs.lemmas.List.{length-map}
use Rattle.std.proofs.lemmas.Option.{same_Some}
use Rattle.value_types.specs.declared.shape.Shape.{Shape}
use Rattle.fmu_peer.specs.Machine.{Machine}
use Rattle.fmu_peer.specs.View.{View}
use Rattle.bench_fmus.specs.declared.model.Model.{Model}
use Rattle.bench_fmus.specs.BuiltIn.{machine_of}
use Rattle.bench_fmus.specs.Counter.{counter}
use Rattle.bench_fmus.specs.Models.{behaviour_of, model_named}
use Rattle.bench_fmus.specs.Spawners.{StartsBuiltIns}
use Rattle.built_in_laws.specs.BuiltInRuns.{BuiltInsBehaveWell, IsBuiltIn}
use Rattle.built_in_laws.specs.Clocks.{TellsTimings}
use Rattle.command_line.specs.Line.{built_in_host}
use Rattle.system_model.specs.declared.bound.Bound.{Bound}
use Rattle.system_model.specs.declared.system.Component.{Component}
use Rattle.system_model.specs.declared.system.System.{System}
use Rattle.run_model.specs.Behaved.{WellBehaved}
use Rattle.run_model.specs.Run.{Run}
use Rattle.calling_sequence.specs.declared.run_end.RunEnd.{RunEnd}
use Rattle.session_laws.specs.Traced.{AreMachinesOf}
use Rattle.system_files.specs.declared.loaded.Loaded.{Loaded}
use Rattle.run_program.specs.Runs.{Broke, HasRun, Task, Traces, Went}
use Rattle.run_program.specs.Happened.{Scene}
use Rattle.run_program.specs.Rows.{HasBuiltIns, TellTimings}
use Rattle.run_program.proofs.PeerLemmas.{all_got, mapped_at, started_at}

-- the machine that is told
abbrev machine_in : View → Machine
machine_in v = unwrap_or v.fixed.machine (machine_of counter v.fixed.shape)

told_is : (v : View) (m n : Machine) → v.fixed.machine ≡ Some m → machine_in v ≡ n → m ≡ n
told_is v m n told is = sym (ap (λ (o : Option Machine). unwrap_or o (machine_of counter v.fixed.shape)) told) ∙ is

some_model : (o : Option Model) → is_some o ≡ true → (model : Model) × (o ≡ Some model)
some_model None none = absurd (cc)
some_model (Some model) some = (model, refl)

module _ (behave : BuiltInsBehaveWell) (task : Task) (system : System) (end : RunEnd) (old new : Scene) (t : Traces task system end old new) (host : task.host ≡ built_in_host) (starts : StartsBuiltIns built_in_host old.spawner) where
  abbrev olds : List View
  olds = t.account.olds

  -- the model that a component's identifier names
  abbrev model_of : (i : ℕ) (c : Component) → slice_get system.components i ≡ Some c → (model : Model) × (model_named c.shape.identifier ≡ Some model)
  model_of i c of_c =
      some_model (model_named c.shape.identifier)
      (sym (starts.known c.shape.identifier) ∙ ap (λ (by : List ℕ). old.spawner.knows by c.shape.identifier) (sym host)
      ∙ all_got (λ (x : Component). old.spawner.knows task.host x.shape.identifier ≡ true) system.components i c t.peers.known of_c)

  -- its peer tells that machine
  tells : (i : ℕ) (c : Component) (v : View) (of_c : slice_get system.components i ≡ Some c) → slice_get olds i ≡ Some v → v.fixed.machine ≡ Some (machine_of (behaviour_of (model_of i c of_c).0) c.shape)
  tells i c v of_c of_v =
      let of_model : Model → Shape → Machine = λ model shape. machine_of (behaviour_of model) shape in
      let made : old.spawner.makes task.host c.shape.identifier ≡ Some (λ (shape : Shape). machine_of (behaviour_of (model_of i c of_c).0) shape) =
      ap (λ (by : List ℕ). old.spawner.makes by c.shape.identifier) host ∙ starts.made c.shape.identifier
      ∙ ap (option_map of_model) (model_of i c of_c).1 in
      subst (λ (o : Option (Shape → Machine)). IfSome o (λ (machine : Shape → Machine). v.fixed.machine ≡ Some (machine c.shape))) made (t.peers.made i c v of_c of_v)

  -- their run
  abbrev run : Run
  run = record { system = system; bound = task.bound; machines = map machine_in olds; plan = task.plan }

  tell : AreMachinesOf olds (map machine_in olds)
  tell = record {
    count = length-map olds machine_in;
    each = λ i v m of_v of_m.
        let at = mapped_at machine_in olds i m of_m in
        let same : at.0 ≡ v = same_Some at.0 v (sym at.1 ∙ of_v) in
        let started = started_at task.host task.folders system.components olds i v t.peers.are of_v in
        let machine = tells i started.0 v started.1 of_v in
        let told : v.fixed.machine ≡ Some m = machine ∙ ap (λ (n : Machine). Some n) (told_is v (machine_of (behaviour_of (model_of i started.0 started.1).0) started.0.shape) m machine (ap machine_in (sym same) ∙ at.2)) in
        (told, started.2.1.state ∙ ap (option_map (λ (n : Machine). n.first)) told);
  }

  abbrev built_in : (i : ℕ) (c : Component) (m : Machine) → slice_get system.components i ≡ Some c → slice_get (map machine_in olds) i ≡ Some m → IsBuiltIn c.shape m
  built_in i c m of_c of_m =
      let at = mapped_at machine_in olds i m of_m in
      let machine = machine_of (behaviour_of (model_of i c of_c).0) c.shape in
      let seconds = all_got (λ (x : Component). x.shape.resolution ≡ t.sound.components.per_second) system.components i c t.sound.components.resolutions of_c in
      let above = t.sound.components.above in
      record {
        model = (model_of i c of_c).0;
        is = sym (told_is at.0 machine m (tells i c at.0 of_c at.1) at.2);
        counts = subst (λ (n : ℕ). 0 < n) (sym seconds) above;
      }

  well : (loaded : Loaded) → system.components ≡ loaded.system.components → task.bound ≡ loaded.bound → TellTimings loaded → WellBehaved run
  well loaded parts bound timings i = behave run t.sound i (λ c m of_c of_m.
      record {
        built_in = built_in i c m of_c of_m;
        timings = subst (λ (x : Bound). TellsTimings (model_of i c of_c).0 c.shape (slice_index_or x.components i [])) (sym bound)
            (timings i c (model_of i c of_c).0 (subst (λ (cs : List Component). slice_get cs i ≡ Some c) parts of_c) (model_of i c of_c).1);
      })

  pub built_ins : (loaded : Loaded) → system.components ≡ loaded.system.components → task.bound ≡ loaded.bound → TellTimings loaded → HasBuiltIns task system olds
  built_ins loaded parts bound timings = record {
    run = run;
    of = record { system_is = refl; bound_is = refl; tell = tell };
    plan_is = refl;
    built_in = built_in;
    behaved = well loaded parts bound timings;
  }

-- a run tells its trace
pub traced : (task : Task) (system : System) (end : RunEnd) (old new : Scene) → HasRun task system end old new → Traces task system end old new
traced task system end old new (Went g) = g.traces
traced task system end old new (Broke bad is f) = subst (λ (e : RunEnd). Traces task system e old new) (sym is) f.traces
