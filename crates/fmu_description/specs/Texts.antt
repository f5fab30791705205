-- The texts of attributes (FMI 3.0, 2.4; XML Schema 1.0, part 2: boolean, unsignedInt, unsignedLong and lists of them).
use Rattle.std.specs.Prelude.{ℕ, ◌^◌, Bool, true, false, not, ◌&&◌, ◌||◌, ◌==◌, nat_lt, if◌then◌else◌, List, [], ◌∷◌, length, filter, map, reverse, Option, Some, None, option_and_then, option_map, codes, bytes_eq}
use Rattle.std.specs.List.{list_all, slice_split}
use Rattle.std.specs.Char.{is_ascii_digit}
use Rattle.std.specs.Str.Parse.{digits_value}
use Rattle.value_types.specs.declared.values.PortType.{PortType}
use Rattle.value_types.specs.declared.values.PortType.TheVariants.{Int8, UInt8, Int16, UInt16, Int32, UInt32, Int64, UInt64, Boolean, Enumeration, Clock}
use Rattle.value_types.specs.declared.shape.Causality.{Causality}
use Rattle.value_types.specs.declared.shape.Causality.TheVariants as c
use Rattle.value_types.specs.declared.shape.IntervalVariability.{IntervalVariability}
use Rattle.value_types.specs.declared.shape.IntervalVariability.TheVariants.{Constant, Fixed, Tunable, Changing, Countdown, Triggered}

-- `true` or `1`, `false` or `0`
abbrev pub flag : List ℕ → Option Bool
flag text =
    if bytes_eq text (codes "true") || bytes_eq text (codes "1") then Some true
    else (if bytes_eq text (codes "false") || bytes_eq text (codes "0") then Some false else None)

-- the value of a flag that may be absent, where the one that is there reads
abbrev pub flag_or : Bool → Option (List ℕ) → Option Bool
flag_or default None = Some default
flag_or default (Some text) = flag text

-- one digit or more, and nothing else
abbrev pub is_number : List ℕ → Bool
is_number text = not (length text == 0) && list_all is_ascii_digit text

-- the number below the limit that digits write
abbrev pub number_below : ℕ → List ℕ → Option ℕ
number_below limit text =
    if is_number text && nat_lt (digits_value 10 text) limit
    then Some (digits_value 10 text) else None

-- a value reference: an unsigned number of 32 bits
abbrev pub reference : List ℕ → Option ℕ
reference text = number_below (2 ^ 32) text

-- a counter: an unsigned number of 64 bits
abbrev pub counter : List ℕ → Option ℕ
counter text = number_below (2 ^ 64) text

-- the values where each is there
abbrev pub all_of : {A : Type 0} → List (Option A) → Option (List A)
all_of [] = Some []
all_of (o ∷ os) = option_and_then (λ x. option_map (λ xs. x ∷ xs) (all_of os)) o

abbrev pub is_space : ℕ → Bool
is_space byte = byte == 32

abbrev pub is_filled : List ℕ → Bool
is_filled part = not (length part == 0)

abbrev pub begins_with_space : List ℕ → Bool
begins_with_space [] = false
begins_with_space (byte ∷ text) = is_space byte

abbrev pub has_outer_space : List ℕ → Bool
has_outer_space text = begins_with_space text || begins_with_space (reverse text)

-- what stands between spaces
abbrev pub parts_of : List ℕ → List (List ℕ)
parts_of text = filter is_filled (slice_split is_space text)

-- references with one or more spaces between them, and none before the first or after the last
abbrev pub references : List ℕ → Option (List ℕ)
references text = if has_outer_space text then None else all_of (map reference (parts_of text))

-- the types whose values are whole numbers, by the names of their elements (2.4.7.1)
abbrev pub port_type : List ℕ → Option PortType
port_type name =
    if bytes_eq name (codes "Int8") then Some Int8
    else (if bytes_eq name (codes "UInt8") then Some UInt8
    else (if bytes_eq name (codes "Int16") then Some Int16
    else (if bytes_eq name (codes "UInt16") then Some UInt16
    else (if bytes_eq name (codes "Int32") then Some Int32
    else (if bytes_eq name (codes "UInt32") then Some UInt32
    else (if bytes_eq name (codes "Int64") then Some Int64
    else (if bytes_eq name (codes "UInt64") then Some UInt64
    else (if bytes_eq name (codes "Boolean") then Some Boolean
    else (if bytes_eq name (codes "Enumeration") then Some Enumeration
    else (if bytes_eq name (codes "Clock") then Some Clock
    else None))))))))))

-- the types whose values are no whole numbers
abbrev pub is_unsupported_type : List ℕ → Bool
is_unsupported_type name =
    bytes_eq name (codes "Float32") || bytes_eq name (codes "Float64") ||
    bytes_eq name (codes "String") || bytes_eq name (codes "Binary")

-- what a variable is for; local where it isn't said (2.4.7.4)
abbrev pub causality : Option (List ℕ) → Causality
causality None = c.Local
causality (Some text) =
    if bytes_eq text (codes "parameter") then c.Parameter
    else (if bytes_eq text (codes "calculatedParameter") then c.CalculatedParameter
    else (if bytes_eq text (codes "structuralParameter") then c.StructuralParameter
    else (if bytes_eq text (codes "input") then c.Input
    else (if bytes_eq text (codes "output") then c.Output
    else (if bytes_eq text (codes "local") then c.Local
    else (if bytes_eq text (codes "independent") then c.Independent
    else c.Other))))))

-- when a Clock ticks (2.4.7.5: intervalVariability)
abbrev pub variability : List ℕ → Option IntervalVariability
variability text =
    if bytes_eq text (codes "constant") then Some Constant
    else (if bytes_eq text (codes "fixed") then Some Fixed
    else (if bytes_eq text (codes "tunable") then Some Tunable
    else (if bytes_eq text (codes "changing") then Some Changing
    else (if bytes_eq text (codes "countdown") then Some Countdown
    else (if bytes_eq text (codes "triggered") then Some Triggered
    else None)))))
