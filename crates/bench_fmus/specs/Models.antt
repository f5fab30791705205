-- The built-in machines by their names.
use Rattle.std.specs.Prelude.{Bool, List, ℕ, Option, Some, None, bytes_eq, codes, is_some, option_map, if◌then◌else◌}
use Rattle.bench_fmus.specs.declared.model.Model.{Model}
use Rattle.bench_fmus.specs.declared.model.Model.TheVariants.{Counter, Gain, Sampler, Alarm, Timer, Relay, Settle, Pulse, Waker}
use Rattle.value_types.specs.declared.shape.Shape.{Shape}
use Rattle.fmu_peer.specs.Machine.{Machine}
use Rattle.bench_fmus.specs.BuiltIn.{Behaviour, machine_of}
use Rattle.bench_fmus.specs.Counter.{counter}
use Rattle.bench_fmus.specs.Gain.{gain}
use Rattle.bench_fmus.specs.Sampler.{sampler}
use Rattle.bench_fmus.specs.Alarm.{alarm}
use Rattle.bench_fmus.specs.Timer.{timer}
use Rattle.bench_fmus.specs.Relay.{relay}
use Rattle.bench_fmus.specs.Settle.{settle}
use Rattle.bench_fmus.specs.Pulse.{pulse}
use Rattle.bench_fmus.specs.Waker.{waker}

abbrev pub behaviour_of : Model → Behaviour
behaviour_of Counter = counter
behaviour_of Gain = gain
behaviour_of Sampler = sampler
behaviour_of Alarm = alarm
behaviour_of Timer = timer
behaviour_of Relay = relay
behaviour_of Settle = settle
behaviour_of Pulse = pulse
behaviour_of Waker = waker

-- the machine of a name
abbrev pub model_named : List ℕ → Option Model
model_named name =
    if bytes_eq name (codes "counter") then Some Counter
    else (if bytes_eq name (codes "gain") then Some Gain
    else (if bytes_eq name (codes "sampler") then Some Sampler
    else (if bytes_eq name (codes "alarm") then Some Alarm
    else (if bytes_eq name (codes "timer") then Some Timer
    else (if bytes_eq name (codes "relay") then Some Relay
    else (if bytes_eq name (codes "settle") then Some Settle
    else (if bytes_eq name (codes "pulse") then Some Pulse
    else (if bytes_eq name (codes "waker") then Some Waker else None))))))))

abbrev pub is_model : List ℕ → Bool
is_model name = is_some (model_named name)

-- what a name makes of an FMU's shape
abbrev pub machine_named : List ℕ → Option (Shape → Machine)
machine_named name =
    option_map (λ (model : Model) (shape : Shape). machine_of (behaviour_of model) shape)
    (model_named name)
