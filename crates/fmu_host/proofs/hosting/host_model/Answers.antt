use Rattle.std.proofs.Common.{◌≡◌, List, ℕ, Some, sym, subst}
use Rattle.fmu_peer.specs.View.{View}
use Rattle.bench_fmus.specs.BuiltInView.{built_in_view}
use Rattle.bench_fmus.specs.Models.{model_named}
use Rattle.host_serving.specs.Serving.{HasServed, scene}
use Rattle.fmu_host.proofs.hosting.host_model.Goals as goal

pub returns-in-Ok : goal.returns-in-Ok
returns-in-Ok g c =
    let after = built_in_view c.serve-end.new.machine.machine in
    let named = sym (subst (λ (name : List ℕ). Some c.in-Some.model ≡ model_named name) c.as_str.ensures c.in-Some.ensures) in
    record {
      model = c.in-Some.model;
      named = named;
      machine = after;
      calm = c.serve-end.new.machine.calm;
      serves = subst (λ (v : View). HasServed (scene (g.I.Source.view c.args.input.now) (g.O.Sink.view c.args.output.now) v)
          (scene (g.I.Source.view c.serve-end.new.input) (g.O.Sink.view c.serve-end.new.output) after) c.serve-end.result) c.in-Ok.ensures c.serve-end.ensures.served;
    }
