-- The names of calls are short.
use Rattle.std.proofs.Common.{◌≤◌, length, lit≤}
use Rattle.fmi_calls.specs.declared.call.Kind.{Kind}
use Rattle.fmi_calls.specs.declared.call.Kind.TheVariants as K
use Rattle.fmi_calls.specs.KindFacts.{facts_of}

pub name_short : (kind : Kind) → length (facts_of kind).name ≤ 19
name_short K.Instantiate = lit≤ tt
name_short K.EnterInitialization = lit≤ tt
name_short K.ExitInitialization = lit≤ tt
name_short K.EnterEvent = lit≤ tt
name_short K.EnterStep = lit≤ tt
name_short K.DoStep = lit≤ tt
name_short K.Update = lit≤ tt
name_short K.Get = lit≤ tt
name_short K.Set = lit≤ tt
name_short K.GetClock = lit≤ tt
name_short K.SetClock = lit≤ tt
name_short K.GetInterval = lit≤ tt
name_short K.GetShift = lit≤ tt
name_short K.Save = lit≤ tt
name_short K.Restore = lit≤ tt
name_short K.Free = lit≤ tt
name_short K.Terminate = lit≤ tt
name_short K.FreeInstance = lit≤ tt
name_short K.Serialize = lit≤ tt
name_short K.Deserialize = lit≤ tt
