-- The machines of the examples.
use Rattle.std.proofs.Common.{◌≡◌, true, false, refl}
use Rattle.value_types.specs.declared.shape.Shape.{Shape}
use Rattle.fmu_peer.specs.Machine.{IsLawful, IsMachineOf}
use Rattle.run_model.specs.Machines.{AreMachines}
use Rattle.run_rows.specs.Machines.{Behaviour, machine_of, counter, gain, sampler, ticker, relay, timer, settle, tally, fixed_ticker, alarm, pulse, waker}
use Rattle.run_rows.specs.Timer as timer_row
use Rattle.run_rows.specs.Limit as limit
use Rattle.run_rows.specs.CounterGain as counter_gain
use Rattle.run_rows.specs.Samplers as samplers
use Rattle.run_rows.specs.Relayed as relayed
use Rattle.run_rows.specs.Gains as gains
use Rattle.run_rows.specs.Ticks as ticks
use Rattle.run_rows.specs.Counted as counted
use Rattle.run_rows.specs.Calls as calls
use Rattle.run_rows.specs.FixedClock as fixed
use Rattle.run_rows.specs.Alarmed as alarmed
use Rattle.run_rows.specs.Pulsed as pulsed
use Rattle.run_rows.specs.Woken as woken
use Rattle.run_rows.proofs.Lawful.{declares_all, is_machine, lawful_all, lawful_gain, lawful_sampler, machines_by}

all_declared : (shape : Shape) (b : Behaviour) → declares_all shape true ≡ true → declares_all shape false ≡ true → IsMachineOf shape (machine_of shape b) × IsLawful shape (machine_of shape b)
all_declared shape b initially later = (is_machine shape b, lawful_all shape b initially later)

pub timer_machines : AreMachines timer_row.timer_run
timer_machines = machines_by timer_row.timer_run refl (all_declared timer_row.shape timer refl refl, tt)

pub limit_machines : AreMachines limit.limit_run
limit_machines = machines_by limit.limit_run refl (all_declared limit.shape settle refl refl, tt)

pub events_machines : AreMachines (counter_gain.counter_gain_run true)
events_machines = machines_by (counter_gain.counter_gain_run true) refl
    (all_declared (counter_gain.counter_shape true) counter refl refl, (all_declared (counter_gain.gain_shape true) (gain (counter_gain.gain_shape true)) refl refl, tt))

pub steps_machines : AreMachines (counter_gain.counter_gain_run false)
steps_machines = machines_by (counter_gain.counter_gain_run false) refl
    (all_declared (counter_gain.counter_shape false) counter refl refl, (all_declared (counter_gain.gain_shape false) (gain (counter_gain.gain_shape false)) refl refl, tt))

pub samplers_machines : AreMachines samplers.samplers_run
samplers_machines = machines_by samplers.samplers_run refl (
  (is_machine samplers.a_shape (sampler samplers.a_shape), lawful_sampler samplers.a_shape refl (record { u = samplers.a_u; is = refl; under = refl })),
  ((is_machine samplers.b_shape (sampler samplers.b_shape), lawful_sampler samplers.b_shape refl (record { u = samplers.b_u; is = refl; under = refl })), tt),
)

pub relayed_machines : AreMachines relayed.relayed_run
relayed_machines = machines_by relayed.relayed_run refl (
  all_declared relayed.counter_shape counter refl refl,
  (
    all_declared relayed.relay_shape (relay relayed.relay_shape) refl refl,
    ((is_machine relayed.sampler_shape (sampler relayed.sampler_shape), lawful_sampler relayed.sampler_shape refl (record { u = relayed.s_u; is = refl; under = refl })), tt),
  ),
)

pub gains_machines : AreMachines gains.gains_run
gains_machines = machines_by gains.gains_run refl (
  all_declared gains.a_shape (gain gains.a_shape) refl refl,
  ((is_machine gains.b_shape (gain gains.b_shape), lawful_gain gains.b_shape refl (record { u = gains.b_u; is = refl; under = refl }) gains.k refl refl), tt),
)

pub ticks_machines : AreMachines ticks.ticks_run
ticks_machines = machines_by ticks.ticks_run refl (all_declared ticks.settle_shape settle refl refl, (all_declared ticks.ticker_shape ticker refl refl, tt))

pub counted_machines : AreMachines counted.counted_run
counted_machines = machines_by counted.counted_run refl (
  all_declared counted.counter_shape counter refl refl,
  (all_declared counted.relay_shape (relay counted.relay_shape) refl refl, (all_declared counted.ticker_shape ticker refl refl, tt)),
)

pub calls_machines : AreMachines calls.calls_run
calls_machines = machines_by calls.calls_run refl (all_declared calls.shape tally refl refl, tt)

pub fixed_machines : AreMachines fixed.fixed_run
fixed_machines = machines_by fixed.fixed_run refl (all_declared fixed.shape fixed_ticker refl refl, tt)

pub alarmed_machines : AreMachines alarmed.alarmed_run
alarmed_machines = machines_by alarmed.alarmed_run refl (all_declared alarmed.counter_shape counter refl refl, (all_declared alarmed.alarm_shape alarm refl refl, tt))

pub pulsed_machines : AreMachines pulsed.pulsed_run
pulsed_machines = machines_by pulsed.pulsed_run refl (all_declared pulsed.shape pulse refl refl, tt)

pub woken_machines : AreMachines woken.woken_run
woken_machines = machines_by woken.woken_run refl (all_declared woken.waker_shape waker refl refl, (all_declared woken.counter_shape counter refl refl, tt))
