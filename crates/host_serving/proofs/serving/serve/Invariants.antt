-- The calls of one frame after another were served, and as many were counted, up to what can be.
use Rattle.std.proofs.Common.{◌≡◌, ◌-◌, ◌^◌, List, length, min}
use Rattle.host_serving.specs.Serving.{Served, Serves, scene}
use Rattle.host_serving.proofs.serving.serve.Given as goal

abbrev pub invariant-frames : goal.invariant-frames
invariant-frames g l = (served : List Served) × (l.served ≡ min (length served) (2 ^ 64 - 1))
    × Serves (scene (g.I.Source.view l.initial.input) (g.O.Sink.view l.initial.output) (g.M.Peer.view l.initial.machine)) served
    (scene (g.I.Source.view l.input) (g.O.Sink.view l.output) (g.M.Peer.view l.machine))

abbrev pub decreases-frames : goal.decreases-frames
decreases-frames g l = 2 ^ 64 - 1 - l.served
