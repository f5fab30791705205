-- States that are read back from their bytes.
use Rattle.std.proofs.Common.{◌≡◌, ◌⊎◌, inl, inr, ℕ, suc, ◌+◌, ◌<◌, ◌≤◌, ◌==◌, Bool, true, false, ◌||◌, List, [], ◌∷◌, ◌++◌, length, drop, get_or, map, set, Option, Some, None, ℤ, pos, nat_lt, unwrap_or, if◌then◌else◌, refl, sym, ap, ap₂, ◌∙◌, arith}
use Rattle.std.specs.Int.{w32, w64, from_be_bytes, to_be_bytes}
use Rattle.std.specs.List.{flat_map, slice_get, starts_with}
use Rattle.std.specs.Option.{option_and_then, option_map, option_map_or}
use Rattle.std.specs.Prelude.{nat_eq, replicate}
use Rattle.std.proofs.lemmas.Bool.Decides.{nat_tests}
use Rattle.std.proofs.lemmas.Int.{ints}
use Rattle.std.proofs.lemmas.List.{at_drop_more, drop-drop, length-set, length-append, length-replicate}
use Rattle.std.proofs.lemmas.Nat.{from_be_bytes-to_be_bytes_8}
use Rattle.std.proofs.lemmas.Option.{same_Some, slice_get_within}
use Rattle.value_types.specs.Shape.{place_of}
use Rattle.value_types.specs.Values.{Fits, number_of, word_of, word_value}
use Rattle.value_types.specs.declared.values.PortType.{PortType}
use Rattle.value_types.specs.declared.values.PortType.TheVariants.{Boolean, Int64, UInt64}
use Rattle.value_types.specs.declared.shape.Variable.{Variable}
use Rattle.value_types.proofs.CallerLemmas.{placed_within}
use Rattle.fmu_peer.specs.Machine.{SavedMachine}
use Rattle.bench_fmus.specs.Laws.{StatesReadBack, none_within}
use Rattle.bench_fmus.specs.Packed.{CanStand, IsKeptAs, entry_bytes, entry_size, kind_at, number_bytes, numbers_bytes, ordered, packed, read_entry, read_numbers, read_value, read_values, start_at, unpacked, value_bytes, word_at}
use Rattle.bench_fmus.specs.State.{Numbers, listed, numbers_in, spread, start_of, value_of}
use Rattle.bench_fmus.specs.Wrapping.{wrapped}
use Rattle.bench_fmus.proofs.OrderLemmas.{AreTold, Has, ordered_has, ordered_told}
use Rattle.bench_fmus.proofs.ValueLemmas.{placed, set_here, set_there}
use Rattle.bench_fmus.proofs.WordLemmas.{number_back, word_back, word_small, wrapped_fits, wrapped_same}

-- ---- numbers

abbrev read_as : Bool → ℤ → ℤ → ℕ → ℕ → Option Numbers
read_as bad held count point fired = if bad then None else Some (record {
  mark = pos 0;
  held = held;
  count = count;
  point = pos point;
  fired = pos fired;
})

read_same : (n : Numbers) (bad : Bool) (held count : ℤ) (point fired : ℕ) → bad ≡ false → n.mark ≡ pos 0 → held ≡ n.held → count ≡ n.count → pos point ≡ n.point → pos fired ≡ n.fired →
    read_as bad held count point fired ≡ Some n
read_same n bad held count point fired good mark held_is count_is point_is fired_is =
    ap (λ (b : Bool). read_as b held count point fired) good
    ∙ ap (λ (x : ℤ). Some (record { mark = pos 0; held = x; count = count; point = pos point; fired = pos fired })) held_is
    ∙ ap (λ (x : ℤ). Some (record { mark = pos 0; held = n.held; count = x; point = pos point; fired = pos fired })) count_is
    ∙ ap (λ (x : ℤ). Some (record { mark = pos 0; held = n.held; count = n.count; point = x; fired = pos fired })) point_is
    ∙ ap (λ (x : ℤ). Some (record { mark = pos 0; held = n.held; count = n.count; point = n.point; fired = x })) fired_is
    ∙ ap (λ (x : ℤ). Some (record n { mark = x })) (sym mark)

module _ (n : Numbers) (rest : List ℕ) where
  word_0 : word_at (numbers_bytes n ++ rest) 0 ≡ from_be_bytes w64 (number_bytes n.point)
  word_0 = refl

  word_8 : word_at (numbers_bytes n ++ rest) 8 ≡ from_be_bytes w64 (number_bytes n.held)
  word_8 = refl

  word_16 : word_at (numbers_bytes n ++ rest) 16 ≡ from_be_bytes w64 (number_bytes n.count)
  word_16 = refl

  word_24 : word_at (numbers_bytes n ++ rest) 24 ≡ from_be_bytes w64 (number_bytes n.fired)
  word_24 = refl

  dropped : drop 32 (numbers_bytes n ++ rest) ≡ rest
  dropped = refl

  long : 32 ≤ length (numbers_bytes n ++ rest)
  long =
      let sum = length-append (numbers_bytes n) rest in
      let prefix : length (numbers_bytes n) ≡ 32 = refl in
      omega arith

again : (kind : PortType) (z : ℤ) → Fits kind z → from_be_bytes w64 (number_bytes z) ≡ word_of z
again kind z fits = from_be_bytes-to_be_bytes_8 (word_of z) (word_small kind z fits)

flag_small : (z : ℤ) → Fits Boolean z → word_of z ≤ 1
flag_small (pos k) fits = omega (arith, ints)
flag_small _ fits = absurd (omega (arith, ints))

both_false : (len word : ℕ) → 32 ≤ len → word ≤ 1 → (nat_lt len 32 || nat_lt 1 word) ≡ false
both_false len word long small = grind (arith, nat_tests)

numbers_back : (n : Numbers) (rest : List ℕ) → n.mark ≡ pos 0 → Fits Int64 n.held → Fits Int64 n.count → Fits UInt64 n.point → Fits Boolean n.fired →
    read_numbers (numbers_bytes n ++ rest) ≡ Some n
numbers_back n rest mark held count point fired =
    let flag : word_at (numbers_bytes n ++ rest) 24 ≡ word_of n.fired = word_24 n rest ∙ again Boolean n.fired fired in
    read_same n _ _ _ _ _
    (both_false (length (numbers_bytes n ++ rest)) (word_at (numbers_bytes n ++ rest) 24) (long n rest) (let small = flag_small n.fired fired in omega arith))
    mark
    (ap (number_of Int64) (word_8 n rest ∙ again Int64 n.held held) ∙ number_back Int64 n.held held)
    (ap (number_of Int64) (word_16 n rest ∙ again Int64 n.count count) ∙ number_back Int64 n.count count)
    (ap (λ (k : ℕ). pos k) (word_0 n rest ∙ again UInt64 n.point point) ∙ number_back UInt64 n.point point)
    (ap (λ (k : ℕ). pos k) flag ∙ number_back Boolean n.fired fired)

-- ---- a value

-- what a variable with this value is read back as
abbrev entry_of : Option PortType → ℤ → ℤ → ℤ
entry_of None start value = start
entry_of (Some kind) start value = wrapped kind value

equal_itself : (n : ℕ) → nat_eq n n ≡ true
equal_itself n = grind (arith, nat_tests)

begins : (reference : ℕ) (rest : List ℕ) → starts_with nat_eq (to_be_bytes w32 reference ++ rest) (to_be_bytes w32 reference) ≡ true
begins reference rest = grind (arith, nat_tests)

long_enough : (len : ℕ) → 12 ≤ len → nat_lt len 12 ≡ false
long_enough len h = grind (arith, nat_tests)

value_back : (kind : PortType) (reference : ℕ) (value : ℤ) (rest : List ℕ) → read_value kind reference (value_bytes (Some kind) reference value ++ rest) ≡ Some (wrapped kind value)
value_back kind reference value rest =
    let bytes = value_bytes (Some kind) reference value ++ rest in
    let sum = length-append (value_bytes (Some kind) reference value) rest in
    let prefix : length (value_bytes (Some kind) reference value) ≡ 12 = refl in
    let word : word_at bytes 4 ≡ from_be_bytes w64 (number_bytes (wrapped kind value)) = refl in
    ap (λ (b : Bool). if b then None else (if starts_with nat_eq bytes (to_be_bytes w32 reference) then word_value kind (word_at bytes 4) else None)) (long_enough (length bytes) (omega arith))
    ∙ ap (λ (b : Bool). if b then word_value kind (word_at bytes 4) else None) (begins reference (number_bytes (wrapped kind value) ++ rest))
    ∙ ap (word_value kind) (word ∙ again kind (wrapped kind value) (wrapped_fits kind value))
    ∙ word_back kind (wrapped kind value) (wrapped_fits kind value)

entry_back : (kind : Option PortType) (start : ℤ) (reference : ℕ) (value : ℤ) (rest : List ℕ) (next : List ℕ → ℤ → Option (List ℤ)) →
    option_and_then (λ (x : ℤ). next (drop (entry_size kind) (value_bytes kind reference value ++ rest)) x) (read_entry kind start reference (value_bytes kind reference value ++ rest)) ≡ next rest (entry_of kind start value)
entry_back None start reference value rest next = refl
entry_back (Some kind) start reference value rest next =
    ap (option_and_then (λ (x : ℤ). next rest x)) (value_back kind reference value rest)

-- ---- all values

module _ (variables : List Variable) (held : List ℤ) where
  -- the value that a pair's variable is read back as
  abbrev entry_at : ℕ × ℕ → ℤ
  entry_at e = entry_of (kind_at variables e.1) (start_at variables e.1) (value_of variables held e.0)

  abbrev puts : List (ℕ × ℕ) → List ℤ → List ℤ
  puts [] values = values
  puts (e ∷ es) values = puts es (set values e.1 (entry_at e))

  values_back : (es : List (ℕ × ℕ)) (values : List ℤ) → read_values variables es (flat_map (entry_bytes variables held) es) values ≡ Some (puts es values)
  values_back [] values = refl
  values_back (e ∷ es) values =
      entry_back (kind_at variables e.1) (start_at variables e.1) e.0 (value_of variables held e.0) (flat_map (entry_bytes variables held) es) (λ bytes x. read_values variables es bytes (set values e.1 x))
      ∙ values_back es (set values e.1 (entry_at e))

  -- of a variable at its place
  abbrev own_entry : Variable → ℤ
  own_entry v = entry_of v.kind (start_of v) (value_of variables held v.reference)

  own : (e : ℕ × ℕ) (v : Variable) → slice_get variables e.1 ≡ Some v → v.reference ≡ e.0 → entry_at e ≡ own_entry v
  own e v at has =
      ap (λ (o : Option Variable). entry_of (option_and_then (λ (w : Variable). w.kind) o) (option_map_or start_of o (pos 0)) (value_of variables held e.0)) at
      ∙ ap (λ (r : ℕ). entry_of v.kind (start_of v) (value_of variables held r)) (sym has)

  -- each place that the pairs name, or that has its value, has it in the end
  puts_at : (es : List (ℕ × ℕ)) (values : List ℤ) (k : ℕ) (v : Variable) → AreTold variables es → slice_get variables k ≡ Some v → k < length values →
      Has (v.reference, k) es ⊎ (slice_get values k ≡ Some (own_entry v)) → slice_get (puts es values) k ≡ Some (own_entry v)
  puts_at [] values k v told at within (inl has) = absurd has
  puts_at [] values k v told at within (inr is) = is
  puts_at (e ∷ es) values k v told at within either = by (e.1 == k) refl either (puts_at es (set values e.1 (entry_at e)) k v told.1 at (let len = length-set values e.1 (entry_at e) in omega arith))
    where
      by : (b : Bool) → (e.1 == k) ≡ b → Has (v.reference, k) (e ∷ es) ⊎ (slice_get values k ≡ Some (own_entry v)) → (Has (v.reference, k) es ⊎ (slice_get (set values e.1 (entry_at e)) k ≡ Some (own_entry v)) → slice_get (puts es (set values e.1 (entry_at e))) k ≡ Some (own_entry v)) →
          slice_get (puts es (set values e.1 (entry_at e))) k ≡ Some (own_entry v)
      by true is either rest =
          let here : e.1 ≡ k = grind (arith, nat_tests) in
          let same : told.0.variable ≡ v = same_Some _ _ (sym told.0.at ∙ ap (slice_get variables) here ∙ at) in
          let value : entry_at e ≡ own_entry v = own e v (ap (slice_get variables) here ∙ at) (ap (λ (w : Variable). w.reference) (sym same) ∙ told.0.has) in
          rest (inr (ap (λ (i : ℕ). slice_get (set values i (entry_at e)) k) here ∙ set_here values k (entry_at e) within ∙ ap Some value))
      by false other (inl (inl is)) rest =
          let here : e.1 ≡ k = ap (λ (x : ℕ × ℕ). x.1) is in
          let there : (e.1 == k) ≡ true = grind (arith, nat_tests) in
          absurd (cc)
      by false other (inl (inr has)) rest = rest (inl has)
      by false other (inr is) rest =
          rest (inr (set_there values e.1 k (entry_at e) (λ same. let there : (e.1 == k) ≡ true = grind (arith, nat_tests) in cc) ∙ is))

-- ---- one value more

module _ (variables : List Variable) (order : List (ℕ × ℕ)) (bytes : List ℕ) (values : List ℤ) (i at : ℕ) (e : ℕ × ℕ) (within : i < length order) (is : e ≡ get_or order i e) where
  opened : read_values variables (drop i order) (drop at bytes) values ≡ read_values variables (e ∷ drop (i + 1) order) (drop at bytes) values
  opened =
      at_drop_more (λ (es : List (ℕ × ℕ)). read_values variables es (drop at bytes) values) order i e within
      ∙ ap (λ (x : ℕ × ℕ). read_values variables (x ∷ drop (i + 1) order) (drop at bytes) values) (sym is)

  abbrev read_next : Option ℤ → Option (List ℤ)
  read_next o =
      option_and_then (λ (x : ℤ). read_values variables (drop (i + 1) order) (drop (entry_size (kind_at variables e.1)) (drop at bytes)) (set values e.1 x)) o

  -- where it is read, the others are read after it
  pub read_more : (kind : Option PortType) (start value : ℤ) → kind ≡ kind_at variables e.1 → start ≡ start_at variables e.1 → Some value ≡ read_entry kind start e.0 (drop at bytes) →
      read_values variables (drop (i + 1) order) (drop (at + entry_size kind) bytes) (set values e.1 value) ≡ read_values variables (drop i order) (drop at bytes) values
  read_more kind start value kind_is start_is got =
      ap (λ (ys : List ℕ). read_values variables (drop (i + 1) order) ys (set values e.1 value)) (sym (drop-drop (entry_size kind) at bytes))
      ∙ ap (λ (k : Option PortType). read_values variables (drop (i + 1) order) (drop (entry_size k) (drop at bytes)) (set values e.1 value)) kind_is
      ∙ ap read_next (got ∙ ap₂ (λ (k : Option PortType) (s : ℤ). read_entry k s e.0 (drop at bytes)) kind_is start_is)
      ∙ sym opened

-- ---- the state that is read

pub none_read : (variables : List Variable) (bytes : List ℕ) → None ≡ read_numbers bytes → None ≡ unpacked variables bytes
none_read variables bytes none =
    ap (option_and_then (λ (n : Numbers). option_map (λ (values : List ℤ). record { numbers = listed n; values = spread variables values }) (read_values variables (ordered variables) (drop 32 bytes) (replicate (length variables) (pos 0))))) none

pub state_read : (variables : List Variable) (bytes rest : List ℕ) (n : Numbers) (full : Bool) (values : List ℤ) → Some n ≡ read_numbers bytes → rest ≡ drop 32 bytes →
    (if full then Some values else None) ≡ read_values variables (ordered variables) rest (replicate (length variables) (pos 0)) →
    (if full then Some (record { numbers = listed n; values = spread variables values }) else None) ≡ unpacked variables bytes
state_read variables bytes rest n full values numbers rest_is is =
    by full values
    ∙ ap (option_map (λ (xs : List ℤ). record { numbers = listed n; values = spread variables xs })) (is ∙ ap (λ (ys : List ℕ). read_values variables (ordered variables) ys (replicate (length variables) (pos 0))) rest_is)
    ∙ ap (option_and_then (λ (m : Numbers). option_map (λ (xs : List ℤ). record { numbers = listed m; values = spread variables xs }) (read_values variables (ordered variables) (drop 32 bytes) (replicate (length variables) (pos 0))))) numbers
  where
    by : (q : Bool) (xs : List ℤ) → ◌≡◌ {A = Option SavedMachine} (if q then Some (record { numbers = listed n; values = spread variables xs }) else None)
        (option_map (λ (ys : List ℤ). record { numbers = listed n; values = spread variables ys }) (if q then Some xs else None))
    by true xs = refl
    by false xs = refl

-- ---- the whole

map_same : (f g : Variable → ℤ) (vs : List Variable) → ((k : ℕ) (v : Variable) → slice_get vs k ≡ Some v → f v ≡ g v) → map f vs ≡ map g vs
map_same f g [] each = refl
map_same f g (v ∷ vs) each = ap₂ (λ (x : ℤ) (xs : List ℤ). x ∷ xs) (each 0 v refl) (map_same f g vs (λ k. each (suc k)))

kept_entry : (kind : Option PortType) (start value : ℤ) → IsKeptAs kind start value → entry_of kind start value ≡ value
kept_entry None start value is = sym is
kept_entry (Some kind) start value fits = sym (wrapped_same kind value fits)

module _ (variables : List Variable) (kept : SavedMachine) (can : CanStand variables kept) where
  -- what is read
  abbrev zeros : List ℤ
  zeros = replicate (length variables) (pos 0)

  abbrev read : List ℤ
  read = puts variables kept.values (ordered variables) zeros

  -- under each reference it is what the state has
  read_under : (reference : ℕ) → value_of variables read reference ≡ value_of variables kept.values reference
  read_under reference = at (place_of variables reference) refl
    where
      here : (k : ℕ) → place_of variables reference ≡ Some k → (o : Option Variable) → slice_get variables k ≡ o → value_of variables read reference ≡ value_of variables kept.values reference
      here k there (Some v) is =
          let has : v.reference ≡ reference = placed variables reference k v there is in
          let within : k < length variables = slice_get_within variables k v is in
          let got : slice_get read k ≡ Some (own_entry variables kept.values v) =
          puts_at variables kept.values (ordered variables) zeros k v (ordered_told variables) is (let len = length-replicate (length variables) (pos 0) in omega arith) (inl (ordered_has variables k v is)) in
          let keeps : own_entry variables kept.values v ≡ value_of variables kept.values v.reference =
          kept_entry v.kind (start_of v) _ (can.values k v is (ap (place_of variables) has ∙ there)) in
          ap (λ (o : Option ℕ). unwrap_or (option_and_then (slice_get read) o) (pos 0)) there
          ∙ ap (λ (o : Option ℤ). unwrap_or o (pos 0)) got
          ∙ keeps ∙ ap (value_of variables kept.values) has
      here k there None is = absurd (none_within variables k (placed_within (λ (w : Variable). w.reference == reference) variables k there) is)

      at : (o : Option ℕ) → place_of variables reference ≡ o → value_of variables read reference ≡ value_of variables kept.values reference
      at None none =
          ap (λ (o : Option ℕ). unwrap_or (option_and_then (slice_get read) o) (pos 0)) none
          ∙ sym (ap (λ (o : Option ℕ). unwrap_or (option_and_then (slice_get kept.values) o) (pos 0)) none)
      at (Some k) there = here k there (slice_get variables k) refl

  values_are : spread variables read ≡ kept.values
  values_are = map_same _ _ variables (λ k v at. read_under v.reference) ∙ sym can.shared

  own_numbers : numbers_in kept.numbers ≡ can.own
  own_numbers = ap numbers_in can.numbers

  pub state_back : unpacked variables (packed variables kept) ≡ Some kept
  state_back =
      let rest = flat_map (entry_bytes variables kept.values) (ordered variables) in
      ap (λ (n : Numbers). unpacked variables (numbers_bytes n ++ rest)) own_numbers
      ∙ ap (option_and_then (λ (n : Numbers). option_map (λ (values : List ℤ). record { numbers = listed n; values = spread variables values }) (read_values variables (ordered variables) rest zeros))) (numbers_back can.own rest can.outside can.held can.count can.point can.fired)
      ∙ ap (option_map (λ (values : List ℤ). record { numbers = listed can.own; values = spread variables values })) (values_back variables kept.values (ordered variables) zeros)
      ∙ ap₂ (λ (numbers values : List ℤ). Some (record { numbers = numbers; values = values })) (sym can.numbers) values_are

pub read_back : StatesReadBack
read_back model shape kept can = state_back shape.variables kept can
