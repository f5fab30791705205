-- The instances of one FMU are lost together: after Fatal none of them may be called (FMI 3.0, 2.2.3).
use Rattle.std.specs.Prelude.{◌≡◌, ℕ, true, List, [], ◌∷◌, All}
use Rattle.value_types.specs.declared.shape.Shape.{Shape}
use Rattle.fmu_peer.specs.declared.peer.Exchange.{Exchange}
use Rattle.fmu_peer.specs.Close.{any_fatal}

-- an instance: the source of its FMU, what its description says, and its talk in two parts, the exchanges of the run and those of the closing
pub record Member : Type 0 where
  pub source : ℕ
  pub shape : Shape
  pub run : List Exchange
  pub closing : List Exchange

-- an instance of this source has no exchange of the closing
abbrev pub IsSpared : ℕ → Member → Type 0
IsSpared source m = m.source ≡ source → m.closing ≡ []

-- where an exchange of a run was refused with Fatal, no instance of that source has one of the closing
abbrev pub SparesAfterRun : List Member → Type 0
SparesAfterRun ms =
    All (λ (m : Member). any_fatal m.shape m.run ≡ true → All (IsSpared m.source) ms) ms

-- where an exchange of the closing was refused with Fatal, no later instance of that source has one
abbrev pub SparesLater : List Member → Type 0
SparesLater [] = Unit {0}
SparesLater (m ∷ ms) =
    (any_fatal m.shape m.closing ≡ true → All (IsSpared m.source) ms) × SparesLater ms

-- the instances in the order in which they are closed
pub record Siblings (ms : List Member) : Type 0 where
  pub after_run : SparesAfterRun ms
  pub later : SparesLater ms
