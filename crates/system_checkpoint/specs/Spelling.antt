-- The bytes of a checkpoint, and what may be held in one.
use Rattle.std.specs.Prelude.{◌≡◌, ℕ, ◌+◌, ◌*◌, ◌<◌, ◌≤◌, ◌^◌, ◌/◌, ◌%◌, if◌then◌else◌, Bool, true, false, List, [], ◌∷◌, ◌++◌, Option, Some, None, IfSome, length}
use Rattle.std.specs.List.{flat_map}
use Rattle.std.specs.Int.{w32, w64, to_be_bytes}
use Rattle.system_model.specs.declared.plan.Plan.{Plan}
use Rattle.system_model.specs.declared.system.System.{System}
use Rattle.system_model.specs.declared.system.Component.{Component}
use Rattle.system_model.specs.declared.system.Port.{Port}
use Rattle.exact_parts.specs.Field.{AreBytes, InSpans}
use Rattle.system_checkpoint.specs.declared.snapshot.Arming.{Arming}
use Rattle.system_checkpoint.specs.declared.snapshot.Arming.TheVariants.{NoClock, Unarmed, At}
use Rattle.system_checkpoint.specs.declared.snapshot.ClockTimes.{ClockTimes}
use Rattle.system_checkpoint.specs.declared.snapshot.Snapshot.{Snapshot}
use Rattle.system_checkpoint.specs.First.{count_max, limit_max, magic}
use Rattle.system_checkpoint.specs.Parts.{state_max, words}
use Rattle.system_checkpoint.specs.Whole.{Checkpoint, is_asked, may_be_armed}

-- ---- the bytes

abbrev pub numbers_bytes : Plan → ℕ → List ℕ
numbers_bytes plan point =
    to_be_bytes w64 plan.resolution ++ (to_be_bytes w64 plan.start ++
    (to_be_bytes w64 plan.step ++ (to_be_bytes w64 plan.stop ++ (to_be_bytes w64 plan.limit ++
    to_be_bytes w64 point))))

abbrev pub first_bytes : Plan → ℕ → List ℕ
first_bytes plan point = magic ++ numbers_bytes plan point

-- bytes after their length
abbrev pub sized : List ℕ → List ℕ
sized bytes = to_be_bytes w32 (length bytes) ++ bytes

abbrev pub option_bytes : Option ℕ → List ℕ
option_bytes None = 0 ∷ to_be_bytes w64 0
option_bytes (Some word) = 1 ∷ to_be_bytes w64 word

-- 16 bytes
abbrev pub wide_bytes : ℕ → List ℕ
wide_bytes n = to_be_bytes w64 (n / 2 ^ 64) ++ to_be_bytes w64 (n % 2 ^ 64)

-- a Clock that was asked has its interval and its shift, each other port nothing
abbrev pub times_bytes : Option ClockTimes → List ℕ
times_bytes None = []
times_bytes (Some times) = wide_bytes times.interval ++ wide_bytes times.shift

-- a countdown or changing Clock has its arming, each other port nothing
abbrev pub arming_bytes : Arming → List ℕ
arming_bytes NoClock = []
arming_bytes Unarmed = option_bytes None
arming_bytes (At point) = option_bytes (Some point)

-- all parts, one after another
abbrev pub spelling : List ℕ → Snapshot → List ℕ
spelling header held =
    first_bytes held.plan held.point ++ (sized header ++ (flat_map sized held.states ++
    (flat_map option_bytes held.words ++ (flat_map times_bytes held.times ++
    (flat_map arming_bytes held.armings ++ flat_map option_bytes held.events)))))

-- the most bytes that a checkpoint has, of so many components and ports and with a header of so many bytes
abbrev pub greatest_len : (components ports header : ℕ) → ℕ
greatest_len components ports header =
    components * (4 + state_max + 9) + ports * (9 + 32 + 9) + (header + 60)

-- ---- what may be held

-- the plan and the point lie in their limits
pub record IsInLimits (plan : Plan) (point : ℕ) : Type 0 where
  pub resolution : (1 ≤ plan.resolution) × (plan.resolution ≤ count_max)
  pub step : (1 ≤ plan.step) × (plan.step ≤ count_max)
  pub limit : (1 ≤ plan.limit) × (plan.limit ≤ limit_max)
  pub from : plan.start ≤ point
  pub before : point < plan.stop
  pub near : plan.stop ≤ count_max
  pub workers : plan.workers ≡ 1
  pub link : plan.link ≡ 1

-- each thing has a value of its own, and no value is left
abbrev pub AllBy : {A V : Type 0} → (A → V → Type 0) → List A → List V → Type 0
AllBy P [] [] = Unit {0}
AllBy P (a ∷ things) (v ∷ values) = P a v × AllBy P things values
AllBy P [] (v ∷ values) = ⊥
AllBy P (a ∷ things) [] = ⊥

pub record IsState (component : Component) (state : List ℕ) : Type 0 where
  pub size : length state ≤ state_max
  pub are_bytes : AreBytes state

abbrev pub IsWord : Port → Option ℕ → Type 0
IsWord port word = IfSome word (λ n. InSpans (words port.kind) n)

pub record AreTimes (times : ClockTimes) : Type 0 where
  pub moves : 1 ≤ times.interval
  pub interval : times.interval ≤ 2 ^ 126
  pub shift : times.shift ≤ 2 ^ 126

-- a Clock that was asked has its times, and each other port none
abbrev pub HasTimes : Bool → Option ClockTimes → Type 0
HasTimes true None = ⊥
HasTimes true (Some times) = AreTimes times
HasTimes false times = times ≡ None

-- a point after this one, and up to the stop
abbrev pub IsToCome : Snapshot → ℕ → Type 0
IsToCome held point = (held.point < point) × (point ≤ held.plan.stop)

abbrev pub IsArming : Snapshot → Arming → Type 0
IsArming held NoClock = ⊥
IsArming held Unarmed = Unit {0}
IsArming held (At point) = IsToCome held point

-- a Clock that may be armed is so for a point to come, or isn't
abbrev pub HasArming : Snapshot → Bool → Arming → Type 0
HasArming held true arming = IsArming held arming
HasArming held false arming = arming ≡ NoClock

-- a component without event mode has no event time
abbrev pub HasEvent : Snapshot → Component → Option ℕ → Type 0
HasEvent held component event =
    IfSome event (λ point. IsToCome held point ×
    (1 ≤ (if component.shape.has_event_mode then 1 else 0)))

pub record CanBeHeld (system : System) (held : Snapshot) : Type 0 where
  pub limits : IsInLimits held.plan held.point
  pub states : AllBy IsState system.components held.states
  pub words : AllBy IsWord system.ports held.words
  pub times : AllBy (λ (port : Port). HasTimes (is_asked port.role)) system.ports held.times
  pub armings : AllBy (λ (port : Port). HasArming held (may_be_armed port.role)) system.ports held.armings
  pub events : AllBy (HasEvent held) system.components held.events

-- ---- laws

-- the checkpoint of what may be held is its spelling, and no other bytes are
abbrev pub SpellsOnce : Type 0
SpellsOnce = (system : System) (header : List ℕ) (held : Snapshot) (bytes : List ℕ) →
    length header < 2 ^ 32 → Checkpoint system header held bytes →
    (bytes ≡ spelling header held) × CanBeHeld system held

abbrev pub SpellsAll : Type 0
SpellsAll = (system : System) (header : List ℕ) (held : Snapshot) → length header < 2 ^ 32 →
    CanBeHeld system held → Checkpoint system header held (spelling header held)

-- a checkpoint keeps one thing, and none is a proper prefix of another
abbrev pub KeepsOne : Type 0
KeepsOne = (system : System) (header : List ℕ) (held other : Snapshot) (bytes more : List ℕ) →
    Checkpoint system header held bytes → Checkpoint system header other (bytes ++ more) →
    (held ≡ other) × (length more ≡ 0)

-- a checkpoint has no more bytes than that
abbrev pub SpellsFew : Type 0
SpellsFew = (system : System) (header : List ℕ) (held : Snapshot) → CanBeHeld system held →
    length (spelling header held) ≤
    greatest_len (length system.components) (length system.ports) (length header)

-- of at most 256 components and 65,536 ports, with a header of at most 2^27 bytes, none passes 512 MiB
abbrev pub FitsFile : Type 0
FitsFile = (components ports header : ℕ) → components ≤ 256 → ports ≤ 65536 → header ≤ 2 ^ 27 →
    greatest_len components ports header ≤ 2 ^ 29
