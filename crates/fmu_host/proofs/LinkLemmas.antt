-- A serving that fails raised the input's count or the output's, as the machine's never rises.
use Rattle.std.proofs.Common.{◌≡◌, ◌⊎◌, inl, inr, ℕ, Bool, true, false, List, [], ◌∷◌, Option, Some, None, refl, ap, ◌∙◌, subst, arith}
use Rattle.std.specs.Prelude.{if◌then◌else◌}
use Rattle.sim_base.specs.Causes.{Rose}
use Rattle.sim_base.specs.Sink.{SinkView, with_piece}
use Rattle.value_types.specs.declared.shape.Shape.{Shape}
use Rattle.fmi_calls.specs.Kinds.{kind_of, kind_of_content, kind_of_reply}
use Rattle.fmi_calls.specs.declared.call.Call.{Call}
use Rattle.fmi_calls.specs.declared.call.Call.TheVariants as C
use Rattle.fmi_calls.specs.declared.call.Kind.TheVariants as K
use Rattle.fmi_calls.specs.declared.call.BadStatus.TheVariants.{Error}
use Rattle.fmi_calls.specs.declared.call.Content.TheVariants as A
use Rattle.fmi_calls.specs.declared.call.Reply.TheVariants.{Done, Refused}
use Rattle.fmu_peer.specs.Machine.{MachineState, SavedMachine}
use Rattle.bench_fmus.specs.Packed.{packed_size, unpacked}
use Rattle.bench_fmus.specs.declared.model.Model.{Model}
use Rattle.bench_fmus.specs.BuiltIn.{Behaviour, first_state, is_refused, machine_of, reply_of, reply_to_bytes, step_content}
use Rattle.bench_fmus.specs.Models.{behaviour_of}
use Rattle.host_serving.specs.declared.serving.ServeEnd.TheVariants as E
use Rattle.host_serving.specs.Serving.{GoesOn, HasServed, LosesLink, More, Nothing, OfBatch, OfInput, OfItem, OfMachine, OfOutput, OfReply, Scene, Served, Serves, Single, Together, with_state}
use Rattle.host_serving.proofs.CallerLemmas.{IsTold, RepliesInKind, has_frame, lost_by_fault, told_last}
use Rattle.fmu_host.specs.Facts.{first_view}

-- ---- the counts of input and output stay while calls are served

input_goes : (old new : Scene) (served : List Served) → GoesOn old new served → new.input.faults ≡ old.input.faults
input_goes old new _ (Single served one unfreed) = one.answered.read.follow.quiet ∙ one.answered.read.frame.takes.quiet
input_goes old new _ (Together calls replies many) = many.answered.read.takes.quiet

state_quiet : (view : SinkView) (given : List ℕ) → (with_state view given).faults ≡ view.faults
state_quiet view [] = refl
state_quiet view (x ∷ xs) = refl

output_goes : (old new : Scene) (served : List Served) → GoesOn old new served → new.output.faults ≡ old.output.faults
output_goes old new _ (Single served one unfreed) = ap (λ (v : SinkView). v.faults) one.put ∙ state_quiet (with_piece old.output one.piece) served.given
output_goes old new _ (Together calls replies many) = ap (λ (v : SinkView). v.faults) many.put

input_stays : (old : Scene) (served : List Served) (new : Scene) → Serves old served new → new.input.faults ≡ old.input.faults
input_stays old _ _ Nothing = refl
input_stays old _ _ (More done more mid new before on) = input_goes mid new more on ∙ input_stays old done mid before

output_stays : (old : Scene) (served : List Served) (new : Scene) → Serves old served new → new.output.faults ≡ old.output.faults
output_stays old _ _ Nothing = refl
output_stays old _ _ (More done more mid new before on) = output_goes mid new more on ∙ output_stays old done mid before

-- ---- a built-in machine

-- it answers each call by a reply of its kind
step_kind : (event_mode terminate : Bool) (bound : ℕ) (early : Option ℕ) → kind_of_content (step_content event_mode terminate bound early) ≡ K.DoStep
step_kind event_mode terminate bound None = refl
step_kind event_mode terminate bound (Some end) = refl

serialize_kind : (refused : Bool) (count : ℕ) → kind_of_reply (if refused then Refused K.Serialize Error else Done false (A.Serialize count)) ≡ K.Serialize
serialize_kind true count = refl
serialize_kind false count = refl

looks_kind : (b : Behaviour) (shape : Shape) (s : MachineState) (call : Call) → kind_of_reply (reply_of b shape s call) ≡ kind_of call
looks_kind b shape s (C.DoStep at size) = step_kind shape.has_event_mode _ _ (b.early_end shape s.values at size)
looks_kind b shape s C.Serialize = serialize_kind (is_refused shape s.slot C.Serialize) (packed_size shape.variables)
looks_kind b shape s call = refl

bytes_kind : (kept : Option SavedMachine) → kind_of_reply (reply_to_bytes kept) ≡ K.Deserialize
bytes_kind None = refl
bytes_kind (Some kept) = refl

alike : (b : Behaviour) (shape : Shape) → RepliesInKind (machine_of b shape)
alike b shape = record { looks = looks_kind b shape; looks_at = λ s count point stop bytes. bytes_kind (unpacked shape.variables bytes) }

pub first_told : (model : Model) (shape : Shape) → IsTold (machine_of (behaviour_of model) shape) (first_view model shape)
first_told model shape = record { machine = refl; state = first_state shape.variables; in_state = refl }

never_risen : (before after : ℕ) → after ≡ 0 → Rose before after → ⊥
never_risen before after calm rose = omega arith

pub lost : (model : Model) (shape : Shape) (old new : Scene) → IsTold (machine_of (behaviour_of model) shape) old.machine → new.machine.faults ≡ 0 → HasServed old new E.Failed →
    Rose old.input.faults new.input.faults ⊎ Rose old.output.faults new.output.faults
lost model shape old new told calm served = by_cause served.ends
  where
    by_input : Rose served.last.input.faults new.input.faults → Rose old.input.faults new.input.faults
    by_input rose = subst (λ (n : ℕ). Rose n new.input.faults) (input_stays old served.served served.last served.serves) rose

    by_output : Rose served.last.output.faults new.output.faults → Rose old.output.faults new.output.faults
    by_output rose = subst (λ (n : ℕ). Rose n new.output.faults) (output_stays old served.served served.last served.serves) rose

    there : IsTold (machine_of (behaviour_of model) shape) served.last.machine
    there = told_last (machine_of (behaviour_of model) shape) old served.last served.served served.serves told

    by_cause : LosesLink served.last new → Rose old.input.faults new.input.faults ⊎ Rose old.output.faults new.output.faults
    by_cause (OfInput rose still) = inl (by_input rose)
    by_cause (OfReply one answered none out) = absurd (none (has_frame (machine_of (behaviour_of model) shape) (alike (behaviour_of model) shape) served.last new one there answered))
    by_cause (OfMachine call taken takes may rose out) = absurd (never_risen served.last.machine.faults new.machine.faults calm rose)
    by_cause (OfOutput one answered rose) = inr (by_output rose)
    by_cause (OfItem calls takes one out) =
        let mid = lost_by_fault (machine_of (behaviour_of model) shape) (alike (behaviour_of model) shape) served.last.machine new.machine calls there one in
        absurd (never_risen mid.0.faults new.machine.faults calm mid.1)
    by_cause (OfBatch calls replies answered rose) = inr (by_output rose)
