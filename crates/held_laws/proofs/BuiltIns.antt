-- Built-in FMUs put their states as bytes and take them in.
use Rattle.std.proofs.Common.{◌≡◌, ℕ, ◌≤◌, ◌^◌, Bool, true, false, List, Option, Some, refl, sym, ap, ◌∙◌, subst, arith, not, nat_le, if◌then◌else◌}
use Rattle.std.specs.Prelude.{◌&&◌}
use Rattle.std.specs.List.{slice_get}
use Rattle.std.specs.Option.{option_map}
use Rattle.std.proofs.lemmas.Bool.Decides.{nat_tests}
use Rattle.std.proofs.lemmas.List.{length-map}
use Rattle.std.proofs.lemmas.Option.{same_Some, slice_get-map, slice_get_within}
use Rattle.value_types.specs.declared.shape.Shape.{Shape}
use Rattle.fmi_calls.specs.declared.call.BadStatus.TheVariants.{Error}
use Rattle.fmi_calls.specs.declared.call.Call.TheVariants as C
use Rattle.fmi_calls.specs.declared.call.Content.TheVariants as A
use Rattle.fmi_calls.specs.declared.call.Grade.TheVariants as G
use Rattle.fmi_calls.specs.declared.call.Kind.TheVariants as K
use Rattle.fmi_calls.specs.declared.call.Reply.TheVariants.{Done, Refused}
use Rattle.fmi_calls.specs.Worth.{grade_of}
use Rattle.fmu_peer.specs.Machine.{Machine, MachineState, SavedMachine, kept}
use Rattle.bench_fmus.specs.BuiltIn.{Behaviour, machine_of, reply_to_bytes}
use Rattle.bench_fmus.specs.Models.{behaviour_of}
use Rattle.bench_fmus.specs.Packed.{packed_size}
use Rattle.system_model.specs.Bounds.{BindsParameters}
use Rattle.system_model.specs.declared.plan.Plan.{Plan}
use Rattle.system_model.specs.declared.system.Component.{Component}
use Rattle.system_model.specs.Plans.{IsPlan}
use Rattle.system_model.specs.Sound.{IsSound}
use Rattle.run_model.specs.Behaved.{IsAnsweredWell, WellBehaved}
use Rattle.run_model.specs.Machines.{AreMachines}
use Rattle.run_model.specs.Run.{Run}
use Rattle.run_rest.specs.Packing.{IsReadBack, ReadsBack}
use Rattle.event_iteration.proofs.ByLog.{got}
use Rattle.built_in_laws.specs.BuiltInBytes.{BuiltInsReadBack}
use Rattle.built_in_laws.specs.BuiltInRuns.{BuiltInsBehaveWell}
use Rattle.machine_courses.specs.Held.{packings_of}
use Rattle.machine_courses.specs.Kept.{PutsState, TakesIn, TakesState, taking_in}
use Rattle.held_laws.specs.BuiltIns.{AreBuiltIn, BuiltInsKeep}
use Rattle.held_laws.specs.Laws.{AsksOn}

module _ (b : Behaviour) (shape : Shape) where
  puts_small : (s : MachineState) → packed_size shape.variables ≤ 2 ^ 20 → IsAnsweredWell shape (machine_of b shape) (record s { slot = Some (kept s) }) C.Serialize
  puts_small s few =
      let small : nat_le (packed_size shape.variables) (2 ^ 20) ≡ true = grind (arith, nat_tests) in
      subst (λ (q : Bool). grade_of shape C.Serialize (if not (true && q) then Refused K.Serialize Error else Done false (A.Serialize (packed_size shape.variables))) ≡ G.Good) (sym small) refl

  takes_read : (s : MachineState) (bytes : List ℕ) (point stop : ℕ) (saved : SavedMachine) → (machine_of b shape).packing.unpack bytes ≡ Some saved → TakesIn shape (machine_of b shape) s bytes point stop
  takes_read s bytes point stop saved read = record { takes = ap (λ (o : Option SavedMachine). grade_of shape (taking_in bytes point stop) (reply_to_bytes o)) read; goes_back = refl }

module _ (asks : AsksOn) (behaves : BuiltInsBehaveWell) (read_back : BuiltInsReadBack) (r : Run) (sound : IsSound r.system) (machines : AreMachines r) (binds : BindsParameters r.system r.bound) (plan : IsPlan r.plan) (built : AreBuiltIn r) where
  well : WellBehaved r
  well i = behaves r sound i (λ c m at_c at_m. (built i c m at_c at_m).own)

  reads_one : (i : ℕ) (c : Component) (m : Machine) → slice_get r.system.components i ≡ Some c → slice_get r.machines i ≡ Some m → IsReadBack r i m.packing
  reads_one i c m at_c at_m =
      let high = plan.stop_within in
      read_back r sound machines binds (asks r sound machines well) plan.ordered (omega (arith, high)) i c m at_c at_m (built i c m at_c at_m).own.built_in

  reads : ReadsBack r (packings_of r)
  reads = record {
    count = length-map r.machines (λ (m : Machine). m.packing) ∙ machines.count;
    each = λ i packing at.
        let within = slice_get_within (packings_of r) i packing at in
        let len = length-map r.machines (λ (m : Machine). m.packing) in
        let many = machines.count in
        let m = got r.machines i (omega (arith, within, len)) in
        let c = got r.system.components i (omega (arith, within, len, many)) in
        let same : m.0.packing ≡ packing = same_Some m.0.packing packing (sym (slice_get-map (λ (n : Machine). n.packing) r.machines i ∙ ap (option_map (λ (n : Machine). n.packing)) m.1) ∙ at) in
        subst (IsReadBack r i) same (reads_one i c.0 m.0 c.1 m.1);
  }

  puts : (i : ℕ) → PutsState r i
  puts i z c m s departed fmu =
      let one = built i c m fmu.component fmu.machine in
      subst (λ (n : Machine). IsAnsweredWell c.shape n (record s { slot = Some (kept s) }) C.Serialize) (sym one.own.built_in.is) (puts_small (behaviour_of one.own.built_in.model) c.shape s one.few)

  takes : (own : Plan) (i : ℕ) → TakesState r own i
  takes own i z c m s u departed start fmu =
      let one = built i c m fmu.component fmu.machine in
      let read = reads_one i c m fmu.component fmu.machine z u departed fmu.state in
      by m one.own.built_in.is read where
        by : (n : Machine) → n ≡ machine_of (behaviour_of (built i c m fmu.component fmu.machine).own.built_in.model) c.shape → n.packing.unpack (n.packing.pack (kept u)) ≡ Some (kept u) → TakesIn c.shape n s (n.packing.pack (kept u)) z.t own.stop
        by n is = subst (λ (x : Machine). x.packing.unpack (x.packing.pack (kept u)) ≡ Some (kept u) → TakesIn c.shape x s (x.packing.pack (kept u)) z.t own.stop) (sym is)
            (λ read. let x = machine_of (behaviour_of (built i c m fmu.component fmu.machine).own.built_in.model) c.shape in
            takes_read (behaviour_of (built i c m fmu.component fmu.machine).own.built_in.model) c.shape s (x.packing.pack (kept u)) z.t own.stop (kept u) read)

pub built_ins_keep_states : AsksOn → BuiltInsBehaveWell → BuiltInsReadBack → BuiltInsKeep
built_ins_keep_states asks behaves read_back r own sound machines binds plan built = record {
  well = well asks behaves read_back r sound machines binds plan built;
  reads = reads asks behaves read_back r sound machines binds plan built;
  puts = puts asks behaves read_back r sound machines binds plan built;
  takes = takes asks behaves read_back r sound machines binds plan built own;
}
