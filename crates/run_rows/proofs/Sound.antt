-- The systems of the examples are sound.
use Rattle.std.proofs.Common.{refl, true, false}
use Rattle.system_model.specs.Sound.{IsSound}
use Rattle.run_rows.specs.Timer as timer
use Rattle.run_rows.specs.Limit as limit
use Rattle.run_rows.specs.CounterGain as counter_gain
use Rattle.run_rows.specs.Samplers as samplers
use Rattle.run_rows.specs.Relayed as relayed
use Rattle.run_rows.specs.Gains as gains
use Rattle.run_rows.specs.Ticks as ticks
use Rattle.run_rows.specs.Counted as counted
use Rattle.run_rows.specs.Calls as calls
use Rattle.run_rows.specs.FixedClock as fixed
use Rattle.run_rows.specs.Alarmed as alarmed
use Rattle.run_rows.specs.Pulsed as pulsed
use Rattle.run_rows.specs.Woken as woken
use Rattle.run_rows.proofs.OrderTests.{sound_by}

pub timer_sound : IsSound timer.system
timer_sound = sound_by timer.system refl refl

pub limit_sound : IsSound limit.system
limit_sound = sound_by limit.system refl refl

pub events_sound : IsSound (counter_gain.system true)
events_sound = sound_by (counter_gain.system true) refl refl

pub steps_sound : IsSound (counter_gain.system false)
steps_sound = sound_by (counter_gain.system false) refl refl

pub samplers_sound : IsSound samplers.system
samplers_sound = sound_by samplers.system refl refl

pub relayed_sound : IsSound relayed.system
relayed_sound = sound_by relayed.system refl refl

pub gains_sound : IsSound gains.system
gains_sound = sound_by gains.system refl refl

pub ticks_sound : IsSound ticks.system
ticks_sound = sound_by ticks.system refl refl

pub counted_sound : IsSound counted.system
counted_sound = sound_by counted.system refl refl

pub calls_sound : IsSound calls.system
calls_sound = sound_by calls.system refl refl

pub fixed_sound : IsSound fixed.system
fixed_sound = sound_by fixed.system refl refl

pub alarmed_sound : IsSound alarmed.system
alarmed_sound = sound_by alarmed.system refl refl

pub pulsed_sound : IsSound pulsed.system
pulsed_sound = sound_by pulsed.system refl refl

pub woken_sound : IsSound woken.system
woken_sound = sound_by woken.system refl refl
