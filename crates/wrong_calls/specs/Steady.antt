-- A machine whose output y depends on nothing and always shows 0, with proofs of the laws that a peer owes of a machine
-- that it tells. A proof by refl holds of any machine that keeps its law.
use Rattle.std.proofs.Common.{true, false, [], ◌∷◌, Some, None, refl}
use Rattle.std.specs.Prelude.{codes}
use Rattle.value_types.specs.declared.values.PortType.TheVariants.{Int32}
use Rattle.value_types.specs.declared.shape.Causality.TheVariants as V
use Rattle.value_types.specs.declared.shape.Variable.{Variable}
use Rattle.value_types.specs.declared.shape.Knowns.TheVariants.{Listed}
use Rattle.value_types.specs.declared.shape.Shape.{Shape}
use Rattle.fmi_calls.specs.declared.call.Content.TheVariants as A
use Rattle.fmi_calls.specs.declared.call.Reply.TheVariants.{Done}
use Rattle.fmu_peer.specs.Machine.{IgnoresSlot, IsLawful, IsMachineOf, Machine, UnpacksWell}
use Rattle.bench_fmus.specs.BuiltIn.{machine_of}
use Rattle.bench_fmus.specs.Counter.{counter}
use Rattle.bench_fmus.specs.declared.model.Model.TheVariants.{Counter}
use Rattle.bench_fmus.specs.Laws.{machine_is as counter_is, unpacks_well as well}

abbrev pub u : Variable
u = record { name = codes "u"; aliases = []; reference = 1; kind = Some Int32; causality = V.Input; clocks = []; start = None; can_be_set_again = true }

abbrev pub y : Variable
y = record { name = codes "y"; aliases = []; reference = 2; kind = Some Int32; causality = V.Output; clocks = []; start = None; can_be_set_again = true }

abbrev pub shape : Shape
shape = record {
  identifier = codes "steady";
  token = [];
  resolution = 1000;
  has_event_mode = false;
  might_return_early = false;
  has_variable_steps = true;
  can_save_state = false;
  can_serialize_state = false;
  variables = u ∷ y ∷ [];
  clocks = [];
  dependencies = record { output = 2; on = Listed [] } ∷ [];
  initial_dependencies = record { output = 2; on = Listed [] } ∷ [];
}

abbrev pub machine : Machine
machine = record (machine_of counter shape) { look = λ s call. Done false (A.Get 0) }

pub machine_is : IsMachineOf shape machine
machine_is = record {
  references = refl;
  clocks = refl;
  values = refl;
  empty = refl;
  before = refl;
  enters = λ s start stop. refl;
  exits = λ s. refl;
  keeps = (counter_is counter shape).keeps;
  undiscarded = λ s call changes. refl;
}

pub answers_alike : IgnoresSlot machine
answers_alike = record { looks = λ call s slot other. refl; changes = λ call s slot other. refl }

pub unpacks_well : UnpacksWell machine
unpacks_well = record {
  outside = (well Counter shape).outside;
  fills = (well Counter shape).fills;
}

pub is_lawful : IsLawful shape machine
is_lawful = λ call output s xs ys looked found mode agree. refl
