-- A talk is legal in one way, so that a value can keep the fact.
use Rattle.std.specs.Prelude.{◌≡◌, ℕ, ℤ, ◌≤ℤ◌, Bool, T, List, [], ◌∷◌, Option, Some, None, IfSome, IsSomeAnd, IsTrue}
use Rattle.std.specs.Coded.{Coded-set, coded_bool, coded_ℕ, coded_option, ×_prop, Unit-prop, le_prop}
use Rattle.std.proofs.Common.{ap}
use Rattle.std.proofs.Math.Dec.{T_prop}
use Rattle.std.specs.Int.Signed.{le_z}
use Rattle.value_types.specs.Shape.{variable_at}
use Rattle.value_types.specs.Values.{Fits, least_of, greatest_of}
use Rattle.value_types.specs.declared.shape.Shape.{Shape}
use Rattle.value_types.specs.declared.shape.Variable.{Variable}
use Rattle.value_types.specs.declared.shape.Causality.{Causality}
use Rattle.value_types.specs.declared.shape.Causality.TheVariants.{Output}
use Rattle.value_types.specs.declared.values.PortType.{PortType}
use Rattle.value_types.specs.contracts.values.PortType as port_type
use Rattle.value_types.specs.contracts.shape.Causality as causality
use Rattle.fmi_calls.specs.declared.call.Call.{Call}
use Rattle.fmi_calls.specs.declared.call.Call.TheVariants as C
use Rattle.fmi_calls.specs.declared.phase.Phase.{Phase}
use Rattle.fmi_calls.specs.declared.phase.InstanceState.{InstanceState}
use Rattle.fmi_calls.specs.Permission.{Permitted, IsWritable, can_be_set}
use Rattle.fmi_calls.specs.Next.{fresh}
use Rattle.fmi_calls.specs.contracts.phase.InstanceState as state
use Rattle.fmi_calls.specs.contracts.phase.Phase as phase
use Rattle.fmu_peer.specs.declared.peer.Exchange.{Exchange}
use Rattle.fmu_peer.specs.declared.talk_room.TalkRoom.{TalkRoom}
use Rattle.fmu_peer.specs.Talk.{Legal, LegalFrom, next_by, phase_after}

state_set : IsSet InstanceState
state_set = Coded-set (state.the_row).coded

phase_set : IsSet Phase
phase_set = Coded-set (phase.the_row).coded

bool_set : IsSet Bool
bool_set = Coded-set coded_bool

nat_set : IsSet ℕ
nat_set = Coded-set coded_ℕ

kind_set : IsSet (Option PortType)
kind_set = Coded-set (coded_option (port_type.the_row).coded)

causality_set : IsSet Causality
causality_set = Coded-set (causality.the_row).coded

is_output-prop : (o : Option Variable) (kind : PortType) →
    IsProp (IsSomeAnd o (λ (v : Variable). (v.kind ≡ Some kind) × (v.causality ≡ Output)))
is_output-prop None kind = λ a b. absurd a
is_output-prop (Some v) kind = hlevel (kind_set, causality_set)

int_le-prop : (a b : ℤ) → IsProp (a ≤ℤ b)
int_le-prop a b x y = ap (λ (t : T (le_z a b)). record { le = t }) (T_prop (le_z a b) x.le y.le)

is_written-prop : (o : Option Variable) (kind : PortType) →
    IsProp (IsSomeAnd o (λ (v : Variable). v.kind ≡ Some kind))
is_written-prop None kind = λ a b. absurd a
is_written-prop (Some v) kind = hlevel (kind_set)

fits-prop : (kind : PortType) (value : ℤ) → IsProp (Fits kind value)
fits-prop kind value =
    ×_prop (int_le-prop (least_of kind) value) (int_le-prop value (greatest_of kind))

is_writable-prop : (shape : Shape) (kind : PortType) (reference : ℕ) →
    IsProp (IsWritable shape kind reference)
is_writable-prop shape kind reference =
    ×_prop (hlevel (bool_set)) (is_written-prop (variable_at shape.variables reference) kind)

set-prop : (may : Bool) (shape : Shape) (kind : PortType) (reference : ℕ) (value : ℤ) →
    IsProp (IsTrue may × IsWritable shape kind reference × Fits kind value)
set-prop may shape kind reference value =
    hlevel (bool_set, is_writable-prop shape kind reference, fits-prop kind value)

pub Permitted-prop : (shape : Shape) (p : Phase) (c : Call) → IsProp (Permitted shape p c)
Permitted-prop shape p (C.Instantiate event_mode early_return batches) =
    hlevel (le_prop, state_set, bool_set, nat_set)
Permitted-prop shape p (C.EnterInitialization start stop) =
    hlevel (le_prop, state_set, bool_set, nat_set)
Permitted-prop shape p C.ExitInitialization = hlevel (state_set)
Permitted-prop shape p C.EnterEvent = hlevel (le_prop, state_set, bool_set, nat_set)
Permitted-prop shape p C.EnterStep = hlevel (le_prop, state_set, bool_set, nat_set)
Permitted-prop shape p C.Update = hlevel (state_set)
Permitted-prop shape p (C.DoStep at size) = hlevel (le_prop, state_set, bool_set, nat_set)
Permitted-prop shape p (C.Get kind reference) =
    ×_prop (hlevel (bool_set)) (×_prop (hlevel (bool_set))
    (is_output-prop (variable_at shape.variables reference) kind))
Permitted-prop shape p (C.Set kind reference value) =
    set-prop (can_be_set p.state shape p.marks p.active reference) shape kind reference value
Permitted-prop shape p C.Save = hlevel (le_prop, state_set, bool_set, nat_set)
Permitted-prop shape p C.Restore = hlevel (le_prop, state_set, bool_set, nat_set)
Permitted-prop shape p C.Free = hlevel (le_prop, state_set, bool_set, nat_set)
Permitted-prop shape p C.Serialize = hlevel (le_prop, state_set, bool_set, nat_set)
Permitted-prop shape p (C.Deserialize length point stop) =
    hlevel (le_prop, state_set, bool_set, nat_set)
Permitted-prop shape p C.Terminate = hlevel (le_prop, state_set, bool_set, nat_set)
Permitted-prop shape p C.FreeInstance = hlevel (le_prop, state_set, bool_set, nat_set)
Permitted-prop shape p (C.GetClock reference) = hlevel (bool_set)
Permitted-prop shape p (C.SetClock reference) = hlevel (bool_set)
Permitted-prop shape p (C.GetInterval reference) = hlevel (bool_set)
Permitted-prop shape p (C.GetShift reference) = hlevel (bool_set)

LegalFrom-prop : (shape : Shape) (p : Phase) (es : List Exchange) → IsProp (LegalFrom shape p es)
LegalFrom-prop shape p [] = Unit-prop
LegalFrom-prop shape p (e ∷ es) =
    ×_prop (Permitted-prop shape p e.call) (LegalFrom-prop shape (next_by shape p e) es)

pub legal-prop : (shape : Shape) (phase : Phase) (o : Option TalkRoom) →
    IsProp (IfSome o (λ (t : TalkRoom). Legal shape t.exchanges.items ×
    (phase ≡ phase_after shape t.exchanges.items)))
legal-prop shape phase None = Unit-prop
legal-prop shape phase (Some t) =
    ×_prop (LegalFrom-prop shape (fresh shape) t.exchanges.items)
    (phase_set phase (phase_after shape t.exchanges.items))
