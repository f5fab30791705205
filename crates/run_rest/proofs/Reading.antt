-- The saved states of a run that is held are read back from their bytes.
use Rattle.std.proofs.Common.{◌≡◌, ℕ, suc, List, [], ◌∷◌, length, map, refl, sym, ap, ◌∙◌, arith}
use Rattle.std.specs.Prelude.{Some, slice_get}
use Rattle.std.specs.Option.{option_and_then, option_map}
use Rattle.fmu_peer.specs.Machine.{MachineState, Machine, kept}
use Rattle.system_model.specs.declared.system.Component.{Component}
use Rattle.system_model.specs.Text.{Instant}
use Rattle.system_model.specs.Sound.{IsSound}
use Rattle.run_model.specs.Run.{Run, Situation, each_from}
use Rattle.run_model.specs.Machines.{AreMachines}
use Rattle.run_model.specs.Laws.{ReachesSituations, UpdatesToSituation}
use Rattle.run_rest.specs.Parted.{at_step, entering_step}
use Rattle.run_rest.specs.Held.{Held}
use Rattle.run_rest.specs.Snapshot.{snapshot_of}
use Rattle.run_rest.specs.Packing.{Packing, ReadsBack, packed, unpacked}
use Rattle.run_rest.proofs.Splitting.{comes_reached, held_departed}

each-length : (f : ℕ → Component → Machine → MachineState → MachineState) (k : ℕ) (cs : List Component) (ms : List Machine) (ss : List MachineState) → length ms ≡ length cs → length ss ≡ length cs → length (each_from f k cs ms ss) ≡ length cs
each-length f k [] ms ss e h = refl
each-length f k (c ∷ cs) [] ss e h = absurd (omega (arith, e))
each-length f k (c ∷ cs) (m ∷ ms) [] e h = absurd (omega (arith, h))
each-length f k (c ∷ cs) (m ∷ ms) (s ∷ ss) e h = ap suc (each-length f (suc k) cs ms ss (omega (arith, e)) (omega (arith, h)))

all_back : (packings : List Packing) (states : List MachineState) → length packings ≡ length states →
    ((i : ℕ) (packing : Packing) (s : MachineState) → slice_get packings i ≡ Some packing → slice_get states i ≡ Some s → packing.unpack (packing.pack (kept s)) ≡ Some (kept s)) →
    unpacked packings (packed packings (map kept states)) ≡ Some (map kept states)
all_back [] [] e back = refl
all_back [] (s ∷ states) e back = absurd (omega (arith, e))
all_back (packing ∷ packings) [] e back = absurd (omega (arith, e))
all_back (packing ∷ packings) (s ∷ states) e back =
    let more : unpacked packings (packed packings (map kept states)) ≡ Some (map kept states) = all_back packings states (omega (arith, e)) (λ i p m a b. back (suc i) p m a b) in
    let first : packing.unpack (packing.pack (kept s)) ≡ Some (kept s) = back 0 packing s refl refl in
    ap (option_and_then (λ saved. option_map (λ others. saved ∷ others) (unpacked packings (packed packings (map kept states))))) first
    ∙ ap (option_map (λ others. kept s ∷ others)) more

pub bytes_read_back : ReachesSituations → UpdatesToSituation → (r : Run) → IsSound r.system → AreMachines r → (packings : List Packing) → ReadsBack r packings → (prefix : List Instant) (z : Situation) → Held r prefix z →
    unpacked packings (packed packings (snapshot_of r (at_step r z)).states) ≡ Some (snapshot_of r (at_step r z)).states
bytes_read_back along updates r sound machines packings reads prefix z held =
    let at_s = along r sound machines held.s (comes_reached held.comes) in
    let at_u = updates r sound machines held.s held.values at_s held.solves in
    let states : length z.states ≡ length r.system.components = ap (λ (u : Situation). length u.states) held.stands ∙ at_u.states in
    let all : length (entering_step r z) ≡ length r.system.components = each-length _ 0 r.system.components r.machines z.states machines.count states in
    all_back packings (entering_step r z) (reads.count ∙ sym all) (λ i packing s a b. reads.each i packing a z s (held_departed held) b)
