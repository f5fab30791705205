-- How many Clocks stand before a port.
use Rattle.std.proofs.Common.{arith, ◌≡◌, ◌≢◌, refl, ap, ◌∙◌, ℕ, ◌+◌, ◌≤◌, List, Some, Bool, true, false, slice_get, ◌⊎◌, inl, inr}
use Rattle.std.proofs.lemmas.Option.{slice_get_within, get_or_from_slice_get}
use Rattle.std.proofs.lemmas.List.Sums.{count_by_more_no, count_by_more_yes}
use Rattle.value_types.specs.declared.values.PortType.{PortType}
use Rattle.value_types.specs.declared.values.PortType.TheVariants.{Int8, UInt8, Int16, UInt16, Int32, UInt32, Int64, UInt64, Boolean, Enumeration, Clock}
use Rattle.trace_reading.specs.Walk.{is_clock, clocks_before}

pub no_clock : (kind : PortType) → kind ≢ Clock → is_clock kind ≡ false
no_clock Int8 f = refl
no_clock UInt8 f = refl
no_clock Int16 f = refl
no_clock UInt16 f = refl
no_clock Int32 f = refl
no_clock UInt32 f = refl
no_clock Int64 f = refl
no_clock UInt64 f = refl
no_clock Boolean f = refl
no_clock Enumeration f = refl
no_clock Clock f = absurd (f refl)

pub is_no_clock : (kind : PortType) → is_clock kind ≡ false → kind ≢ Clock
is_no_clock kind e is = let same : is_clock kind ≡ true = ap is_clock is in cc (e, same)

one_of : (b : Bool) → (b ≡ true) ⊎ (b ≡ false)
one_of true = inl refl
one_of false = inr refl

pub past_other : (kinds : List PortType) (k : ℕ) (kind : PortType) → slice_get kinds k ≡ Some kind → is_clock kind ≡ false → clocks_before kinds (k + 1) ≡ clocks_before kinds k
past_other kinds k kind at free =
    count_by_more_no is_clock kinds k kind (slice_get_within kinds k kind at) (ap is_clock (get_or_from_slice_get kinds k kind kind at) ∙ free)

pub past_clock : (kinds : List PortType) (k : ℕ) (kind : PortType) → slice_get kinds k ≡ Some kind → is_clock kind ≡ true → clocks_before kinds (k + 1) ≡ clocks_before kinds k + 1
past_clock kinds k kind at is =
    count_by_more_yes is_clock kinds k kind (slice_get_within kinds k kind at) (ap is_clock (get_or_from_slice_get kinds k kind kind at) ∙ is)

pub more_clocks : (kinds : List PortType) (k : ℕ) (kind : PortType) → slice_get kinds k ≡ Some kind → clocks_before kinds k ≤ clocks_before kinds (k + 1)
more_clocks kinds k kind at =
    elim (one_of (is_clock kind)) [ inl is ↦ omega (arith, past_clock kinds k kind at is) | inr free ↦ omega (arith, past_other kinds k kind at free) ]

-- as many before the next port: the port is no Clock
pub same_count : (kinds : List PortType) (k : ℕ) (kind : PortType) → slice_get kinds k ≡ Some kind → clocks_before kinds (k + 1) ≤ clocks_before kinds k → kind ≢ Clock
same_count kinds k kind at few =
    elim (one_of (is_clock kind)) [ inl is ↦ absurd (omega (arith, few, past_clock kinds k kind at is)) | inr free ↦ is_no_clock kind free ]
