-- The kinds of calls and replies.
use Rattle.fmi_calls.specs.declared.call.Call.{Call}
use Rattle.fmi_calls.specs.declared.call.Call.TheVariants as C
use Rattle.fmi_calls.specs.declared.call.Kind.{Kind}
use Rattle.fmi_calls.specs.declared.call.Kind.TheVariants as K
use Rattle.fmi_calls.specs.declared.call.Content.{Content}
use Rattle.fmi_calls.specs.declared.call.Content.TheVariants as A
use Rattle.fmi_calls.specs.declared.call.Reply.{Reply}
use Rattle.fmi_calls.specs.declared.call.Reply.TheVariants.{Done, Refused}
use Rattle.fmi_calls.specs.declared.call.BadStatus.{BadStatus}
use Rattle.fmi_calls.specs.declared.call.BadStatus.TheVariants as B
use Rattle.fmi_calls.specs.declared.call.Status.{Status}
use Rattle.fmi_calls.specs.declared.call.Status.TheVariants as S
use Rattle.std.specs.Prelude.{if◌then◌else◌}

-- the kind of a call
abbrev pub kind_of : Call → Kind
kind_of (C.Instantiate event_mode early_return batches) = K.Instantiate
kind_of (C.EnterInitialization start stop) = K.EnterInitialization
kind_of C.ExitInitialization = K.ExitInitialization
kind_of C.EnterEvent = K.EnterEvent
kind_of C.EnterStep = K.EnterStep
kind_of (C.DoStep at size) = K.DoStep
kind_of C.Update = K.Update
kind_of (C.Get kind reference) = K.Get
kind_of (C.Set kind reference value) = K.Set
kind_of (C.GetClock reference) = K.GetClock
kind_of (C.SetClock reference) = K.SetClock
kind_of (C.GetInterval reference) = K.GetInterval
kind_of (C.GetShift reference) = K.GetShift
kind_of C.Save = K.Save
kind_of C.Restore = K.Restore
kind_of C.Free = K.Free
kind_of C.Serialize = K.Serialize
kind_of (C.Deserialize length point stop) = K.Deserialize
kind_of C.Terminate = K.Terminate
kind_of C.FreeInstance = K.FreeInstance

-- the kind of what a reply carries
abbrev pub kind_of_content : Content → Kind
kind_of_content (A.Instantiate batches) = K.Instantiate
kind_of_content A.EnterInitialization = K.EnterInitialization
kind_of_content A.ExitInitialization = K.ExitInitialization
kind_of_content A.EnterEvent = K.EnterEvent
kind_of_content A.EnterStep = K.EnterStep
kind_of_content (A.DoStep event_needed terminate early end) = K.DoStep
kind_of_content (A.Update again terminate event_time) = K.Update
kind_of_content (A.Get word) = K.Get
kind_of_content A.Set = K.Set
kind_of_content (A.GetClock word) = K.GetClock
kind_of_content A.SetClock = K.SetClock
kind_of_content (A.GetInterval interval) = K.GetInterval
kind_of_content (A.GetShift shift) = K.GetShift
kind_of_content A.Save = K.Save
kind_of_content A.Restore = K.Restore
kind_of_content A.Free = K.Free
kind_of_content (A.Serialize length) = K.Serialize
kind_of_content A.Deserialize = K.Deserialize
kind_of_content A.Terminate = K.Terminate
kind_of_content A.FreeInstance = K.FreeInstance

-- the kind of a reply
abbrev pub kind_of_reply : Reply → Kind
kind_of_reply (Done is_warning content) = kind_of_content content
kind_of_reply (Refused kind status) = kind

-- a bad status among all
abbrev pub status_of_bad : BadStatus → Status
status_of_bad B.Discard = S.Discard
status_of_bad B.Error = S.Error
status_of_bad B.Fatal = S.Fatal

-- the status of a reply
abbrev pub status_of : Reply → Status
status_of (Done is_warning content) = if is_warning then S.Warning else S.Ok
status_of (Refused kind status) = status_of_bad status

-- what a refusal says; anything else is no refusal, and counts as Error does
abbrev pub bad_status_of : Reply → BadStatus
bad_status_of (Refused kind status) = status
bad_status_of (Done is_warning content) = B.Error
