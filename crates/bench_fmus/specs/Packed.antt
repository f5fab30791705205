-- The states of the built-in machines as bytes (FMI 3.0, 2.2.6: fmi3SerializeFMUState, fmi3DeserializeFMUState): the point, what is held, the count, and whether what happens once has happened, in 8 bytes each; then, in the order of references, each variable that has a type: its reference in 4 bytes, and the word of its value in 8.
use Rattle.std.specs.Prelude.{◌≡◌, ℕ, ◌+◌, ◌*◌, ◌==◌, nat_eq, nat_lt, ℤ, pos, ◌||◌, List, [], ◌∷◌, ◌++◌, count_by, drop, length, replicate, set, slice_index, Option, Some, None, is_some, option_map, if◌then◌else◌}
use Rattle.std.specs.Int.{w32, w64, from_be_bytes, to_be_bytes}
use Rattle.std.specs.List.{flat_map, slice_get, starts_with}
use Rattle.std.specs.Option.{option_and_then, option_map_or}
use Rattle.std.specs.Ordering.{is_lt}
use Rattle.value_types.specs.Index.{pair_cmp}
use Rattle.value_types.specs.Shape.{place_of}
use Rattle.value_types.specs.Values.{Fits, number_of, word_of, word_value}
use Rattle.value_types.specs.declared.values.PortType.{PortType}
use Rattle.value_types.specs.declared.values.PortType.TheVariants.{Boolean, Int64, UInt64}
use Rattle.value_types.specs.declared.shape.Variable.{Variable}
use Rattle.fmu_peer.specs.Machine.{SavedMachine}
use Rattle.bench_fmus.specs.State.{Numbers, listed, numbers_in, spread, start_of, value_of}
use Rattle.bench_fmus.specs.Wrapping.{wrapped}

-- ---- the order of references

-- the references of variables with their places, from a place on
abbrev pub references_from : ℕ → List Variable → List (ℕ × ℕ)
references_from place [] = []
references_from place (v ∷ variables) =
    (v.reference, place) ∷ references_from (place + 1) variables

-- a pair among others that are in order: after those that are below it
abbrev pub put_in_order : ℕ × ℕ → List (ℕ × ℕ) → List (ℕ × ℕ)
put_in_order e [] = e ∷ []
put_in_order e (f ∷ fs) = if is_lt (pair_cmp f e) then f ∷ put_in_order e fs else e ∷ (f ∷ fs)

abbrev pub in_order : List (ℕ × ℕ) → List (ℕ × ℕ)
in_order [] = []
in_order (e ∷ es) = put_in_order e (in_order es)

-- the references of all variables with their places, by the references, and under one reference by the places
abbrev pub ordered : List Variable → List (ℕ × ℕ)
ordered variables = in_order (references_from 0 variables)

-- ---- a state's bytes

abbrev pub kind_at : List Variable → ℕ → Option PortType
kind_at variables place = option_and_then (λ (v : Variable). v.kind) (slice_get variables place)

abbrev pub number_bytes : ℤ → List ℕ
number_bytes n = to_be_bytes w64 (word_of n)

abbrev pub numbers_bytes : Numbers → List ℕ
numbers_bytes n =
    number_bytes n.point ++ (number_bytes n.held ++ (number_bytes n.count ++ number_bytes n.fired))

-- of a value under a reference; nothing where the variable has no type
abbrev pub value_bytes : Option PortType → ℕ → ℤ → List ℕ
value_bytes None reference value = []
value_bytes (Some kind) reference value = to_be_bytes w32 reference ++ number_bytes (wrapped kind value)

-- of the variable with this reference at this place
abbrev pub entry_bytes : List Variable → List ℤ → ℕ × ℕ → List ℕ
entry_bytes variables values e =
    value_bytes (kind_at variables e.1) e.0 (value_of variables values e.0)

abbrev pub packed : List Variable → SavedMachine → List ℕ
packed variables kept =
    numbers_bytes (numbers_in kept.numbers) ++
    flat_map (entry_bytes variables kept.values) (ordered variables)

-- how many bytes each state has
abbrev pub packed_size : List Variable → ℕ
packed_size variables = 32 + 12 * count_by (λ (v : Variable). is_some v.kind) variables

-- ---- the state of bytes

abbrev pub eight_at : List ℕ → ℕ → List ℕ
eight_at bytes place =
    slice_index bytes place ∷ slice_index bytes (place + 1) ∷ slice_index bytes (place + 2) ∷
    slice_index bytes (place + 3) ∷ slice_index bytes (place + 4) ∷
    slice_index bytes (place + 5) ∷ slice_index bytes (place + 6) ∷
    slice_index bytes (place + 7) ∷ []

-- the number that eight bytes from a place on are
abbrev pub word_at : List ℕ → ℕ → ℕ
word_at bytes place = from_be_bytes w64 (eight_at bytes place)

-- the numbers of a state outside Initialization Mode, where the bytes begin with such ones
abbrev pub read_numbers : List ℕ → Option Numbers
read_numbers bytes =
    if nat_lt (length bytes) 32 || nat_lt 1 (word_at bytes 24) then None else Some (record {
      mark = pos 0;
      held = number_of Int64 (word_at bytes 8);
      count = number_of Int64 (word_at bytes 16);
      point = pos (word_at bytes 0);
      fired = pos (word_at bytes 24);
    })

-- the value of a type, where the bytes begin with this reference and a word that is right for the type
abbrev pub read_value : PortType → ℕ → List ℕ → Option ℤ
read_value kind reference bytes =
    if nat_lt (length bytes) 12 then None
    else (if starts_with nat_eq bytes (to_be_bytes w32 reference)
    then word_value kind (word_at bytes 4) else None)

-- a variable without a type has its start
abbrev pub read_entry : Option PortType → ℤ → ℕ → List ℕ → Option ℤ
read_entry None start reference bytes = Some start
read_entry (Some kind) start reference bytes = read_value kind reference bytes

abbrev pub entry_size : Option PortType → ℕ
entry_size None = 0
entry_size (Some kind) = 12

abbrev pub start_at : List Variable → ℕ → ℤ
start_at variables place = option_map_or start_of (slice_get variables place) (pos 0)

-- these values once those of the variables in this order are read, where the bytes are just theirs
abbrev pub read_values : List Variable → List (ℕ × ℕ) → List ℕ → List ℤ → Option (List ℤ)
read_values variables [] bytes values = if length bytes == 0 then Some values else None
read_values variables (e ∷ es) bytes values =
    option_and_then (λ (value : ℤ).
    read_values variables es (drop (entry_size (kind_at variables e.1)) bytes)
    (set values e.1 value))
    (read_entry (kind_at variables e.1) (start_at variables e.1) e.0 bytes)

-- the state that the bytes are read back as, if they are one's
abbrev pub unpacked : List Variable → List ℕ → Option SavedMachine
unpacked variables bytes =
    option_and_then (λ (n : Numbers).
    option_map (λ (values : List ℤ).
    record { numbers = listed n; values = spread variables values })
    (read_values variables (ordered variables) (drop 32 bytes)
    (replicate (length variables) (pos 0))))
    (read_numbers bytes)

-- ---- the states that are read back

-- a value is of its variable's type; a variable without a type has its start
abbrev pub IsKeptAs : Option PortType → ℤ → ℤ → Type 0
IsKeptAs None start value = value ≡ start
IsKeptAs (Some kind) start value = Fits kind value

-- a state that a machine can have in Step Mode: its numbers have their ranges, and so has the value under each reference, which all variables with it have
pub record CanStand (variables : List Variable) (kept : SavedMachine) : Type 0 where
  pub own : Numbers
  pub numbers : kept.numbers ≡ listed own
  pub outside : own.mark ≡ pos 0
  pub held : Fits Int64 own.held
  pub count : Fits Int64 own.count
  pub point : Fits UInt64 own.point
  pub fired : Fits Boolean own.fired
  pub shared : kept.values ≡ spread variables kept.values
  pub values : (place : ℕ) (v : Variable) → slice_get variables place ≡ Some v →
      place_of variables v.reference ≡ Some place →
      IsKeptAs v.kind (start_of v) (value_of variables kept.values v.reference)
