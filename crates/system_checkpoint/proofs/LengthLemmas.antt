-- How long a checkpoint is.
use Rattle.std.proofs.Common.{◌≡◌, ℕ, ◌+◌, ◌*◌, ◌≤◌, ◌^◌, List, [], ◌∷◌, ◌++◌, length, refl, arith}
use Rattle.std.specs.Prelude.{Option, Some, None}
use Rattle.std.specs.List.{flat_map}
use Rattle.std.proofs.Math.Nat.{suc-mul}
use Rattle.std.proofs.lemmas.List.{length-append}
use Rattle.system_model.specs.declared.system.System.{System}
use Rattle.system_model.specs.declared.system.Port.{Port}
use Rattle.system_checkpoint.specs.declared.snapshot.Arming.{Arming}
use Rattle.system_checkpoint.specs.declared.snapshot.Arming.TheVariants.{NoClock, Unarmed, At}
use Rattle.system_checkpoint.specs.declared.snapshot.ClockTimes.{ClockTimes}
use Rattle.system_checkpoint.specs.declared.snapshot.Snapshot.{Snapshot}
use Rattle.system_checkpoint.specs.Parts.{state_max}
use Rattle.system_checkpoint.specs.Whole.{is_asked, may_be_armed}
use Rattle.system_checkpoint.specs.Spelling.{AllBy, CanBeHeld, HasArming, HasEvent, HasTimes, IsState, IsWord, arming_bytes, first_bytes, greatest_len, option_bytes, sized, spelling, times_bytes}

-- ---- of a part

pub option_len : (value : Option ℕ) → length (option_bytes value) ≡ 9
option_len None = refl
option_len (Some word) = refl

pub times_len : (value : Option ClockTimes) → length (times_bytes value) ≤ 32
times_len None = omega arith
times_len (Some times) = omega arith

pub arming_len : (value : Arming) → length (arming_bytes value) ≤ 9
arming_len NoClock = omega arith
arming_len Unarmed = omega arith
arming_len (At point) = omega arith

pub sized_len : (bytes : List ℕ) → length (sized bytes) ≡ 4 + length bytes
sized_len bytes = omega arith

-- ---- of a list of parts

-- so many parts, each of so many bytes at most
all_len : {A V : Type 0} (P : A → V → Type 0) (f : V → List ℕ) (most : ℕ) (each : (a : A) (v : V) → P a v → length (f v) ≤ most) (things : List A) (values : List V) → AllBy P things values → length (flat_map f values) ≤ length things * most
all_len P f most each [] [] h = omega arith
all_len P f most each [] (v ∷ values) h = absurd h
all_len P f most each (a ∷ things) [] h = absurd h
all_len P f most each (a ∷ things) (v ∷ values) h =
    let here = each a v h.0 in
    let rest = all_len P f most each things values h.1 in
    let whole = length-append (f v) (flat_map f values) in
    let more = suc-mul (length things) most in
    omega (arith, here, rest, whole, more)

-- ---- of the whole

pub spelled_len : (header : List ℕ) (held : Snapshot) → length (spelling header held) ≡ 60 + length header + length (flat_map sized held.states) + length (flat_map option_bytes held.words) + length (flat_map times_bytes held.times) + length (flat_map arming_bytes held.armings) + length (flat_map option_bytes held.events)
spelled_len header held =
    let states = flat_map sized held.states in
    let words = flat_map option_bytes held.words in
    let times = flat_map times_bytes held.times in
    let armings = flat_map arming_bytes held.armings in
    let events = flat_map option_bytes held.events in
    let l1 = length-append (first_bytes held.plan held.point) (sized header ++ (states ++ (words ++ (times ++ (armings ++ events))))) in
    let first : length (first_bytes held.plan held.point) ≡ 56 = refl in
    let l2 = length-append (sized header) (states ++ (words ++ (times ++ (armings ++ events)))) in
    let text = sized_len header in
    let l3 = length-append states (words ++ (times ++ (armings ++ events))) in
    let l4 = length-append words (times ++ (armings ++ events)) in
    let l5 = length-append times (armings ++ events) in
    let l6 = length-append armings events in
    omega (arith, l1, first, l2, text, l3, l4, l5, l6)

pub spells_few : (system : System) (header : List ℕ) (held : Snapshot) → CanBeHeld system held → length (spelling header held) ≤ greatest_len (length system.components) (length system.ports) (length header)
spells_few system header held h =
    let components = length system.components in
    let ports = length system.ports in
    let states : length (flat_map sized held.states) ≤ components * (4 + state_max) = all_len IsState sized (4 + state_max) (λ component state is. let size = is.size in omega (arith, size)) system.components held.states h.states in
    let words : length (flat_map option_bytes held.words) ≤ ports * 9 = all_len IsWord option_bytes 9 (λ port word is. let size = option_len word in omega (arith, size)) system.ports held.words h.words in
    let times : length (flat_map times_bytes held.times) ≤ ports * 32 = all_len (λ (port : Port). HasTimes (is_asked port.role)) times_bytes 32 (λ port value is. times_len value) system.ports held.times h.times in
    let armings : length (flat_map arming_bytes held.armings) ≤ ports * 9 = all_len (λ (port : Port). HasArming held (may_be_armed port.role)) arming_bytes 9 (λ port value is. arming_len value) system.ports held.armings h.armings in
    let events : length (flat_map option_bytes held.events) ≤ components * 9 = all_len (HasEvent held) option_bytes 9 (λ component event is. let size = option_len event in omega (arith, size)) system.components held.events h.events in
    let whole = spelled_len header held in
    omega (arith, whole, states, words, times, armings, events)

pub fits_file : (components ports header : ℕ) → components ≤ 256 → ports ≤ 65536 → header ≤ 2 ^ 27 → greatest_len components ports header ≤ 2 ^ 29
fits_file components ports header a b c = omega (arith, a, b, c)
