-- The saved states of a run's FMUs as bytes (FMI 3.0, 2.2.6: fmi3SerializeFMUState, fmi3DeserializeFMUState).
use Rattle.std.specs.Prelude.{◌≡◌, ℕ, List, [], ◌∷◌, length, Option, Some, None}
use Rattle.std.specs.List.{slice_get}
use Rattle.std.specs.Option.{option_and_then, option_map}
use Rattle.fmu_peer.specs.Machine.{MachineState, SavedMachine, kept}
use Rattle.run_model.specs.Run.{Run, Situation}
use Rattle.run_model.specs.Behaved.{Departed}
use Rattle.run_rest.specs.Parted.{entering_step}
pub use Rattle.fmu_peer.specs.Machine.{Packing}

-- the bytes of the saved states, each by the packing of its component
abbrev pub packed : List Packing → List SavedMachine → List (List ℕ)
packed (packing ∷ packings) (saved ∷ rest) = packing.pack saved ∷ packed packings rest
packed [] rest = []
packed (packing ∷ packings) [] = []

-- the saved states that they are read back as, where each is one
abbrev pub unpacked : List Packing → List (List ℕ) → Option (List SavedMachine)
unpacked (packing ∷ packings) (bytes ∷ rest) =
    option_and_then (λ saved. option_map (λ more. saved ∷ more) (unpacked packings rest))
    (packing.unpack bytes)
unpacked [] [] = Some []
unpacked [] (bytes ∷ rest) = None
unpacked (packing ∷ packings) [] = None

-- the i-th FMU's states where the run may be held are read back as they were saved; of other states nothing is asked
abbrev pub IsReadBack : Run → ℕ → Packing → Type 0
IsReadBack r i packing =
    (z : Situation) (s : MachineState) → Departed r z → slice_get (entering_step r z) i ≡ Some s →
    packing.unpack (packing.pack (kept s)) ≡ Some (kept s)

-- and so are those of each
pub record ReadsBack (r : Run) (packings : List Packing) : Type 0 where
  pub count : length packings ≡ length r.system.components
  pub each : (i : ℕ) (packing : Packing) → slice_get packings i ≡ Some packing →
      IsReadBack r i packing
