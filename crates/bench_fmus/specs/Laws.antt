-- The built-in machines meet the laws of a peer.
use Rattle.std.proofs.Common.{◌≡◌, ℕ, zero, suc, ◌<◌, ◌==◌, Bool, true, false, List, [], ◌∷◌, length, Option, Some, None, IsSomeAnd, ℤ, pos, ◌*ℤ◌, unwrap_or, option_and_then, if◌then◌else◌, refl, sym, ap, ap₂, ◌∙◌, subst, arith}
use Rattle.std.specs.List.{slice_get}
use Rattle.std.specs.Option.{option_map, option_map_or}
use Rattle.std.specs.Prelude.{◌&&◌, int_lt, not, IsSome}
use Rattle.std.proofs.lemmas.Bool.{eqb-true}
use Rattle.std.proofs.lemmas.List.{length-map}
use Rattle.std.proofs.lemmas.Option.{same_Some}
use Rattle.value_types.specs.Shape.{AgreeFor, is_at, is_declared, is_input, is_undeclared, place_of, variable_at}
use Rattle.value_types.specs.declared.shape.Causality.TheVariants.{Output}
use Rattle.value_types.specs.declared.shape.Variable.{Variable}
use Rattle.value_types.specs.declared.shape.Shape.{Shape}
use Rattle.value_types.proofs.CallerLemmas.{find_placed, placed_within}
use Rattle.fmi_calls.specs.declared.call.Call.{Call}
use Rattle.fmi_calls.specs.declared.call.Call.TheVariants as C
use Rattle.fmi_calls.specs.declared.call.Content.TheVariants as A
use Rattle.fmi_calls.specs.declared.call.BadStatus.TheVariants.{Error}
use Rattle.fmi_calls.specs.declared.call.Kind.TheVariants as K
use Rattle.fmi_calls.specs.declared.call.Reply.TheVariants.{Done, Refused}
use Rattle.fmi_calls.specs.KindFacts.{keeps_state}
use Rattle.fmu_peer.specs.Machine.{IgnoresSlot, IsLawful, IsMachineOf, MachineState, SavedMachine, UnpacksWell, changes_mode, is_discard}
use Rattle.bench_fmus.specs.declared.model.Model.{Model}
use Rattle.bench_fmus.specs.declared.model.Model.TheVariants.{Counter, Gain, Sampler, Alarm, Timer, Relay, Settle, Pulse, Waker}
use Rattle.bench_fmus.specs.BuiltIn.{Behaviour, Numbers, content_of, count_at, is_declared_at, is_in_initialization, is_refused, listed, machine_of, numbers_after, numbers_in, reply_of, reply_to_bytes, seen_by, spread, value_of}
use Rattle.bench_fmus.specs.Packed.{CanStand, read_numbers, unpacked}
use Rattle.bench_fmus.specs.Counter.{counter}
use Rattle.bench_fmus.specs.Gain.{factor, gain, product}
use Rattle.bench_fmus.specs.Sampler.{sampler}
use Rattle.bench_fmus.specs.Alarm.{alarm}
use Rattle.bench_fmus.specs.Timer.{timer}
use Rattle.bench_fmus.specs.Relay.{differ, relay}
use Rattle.bench_fmus.specs.Settle.{settle}
use Rattle.bench_fmus.specs.Pulse.{pulse}
use Rattle.bench_fmus.specs.Waker.{waker}
use Rattle.bench_fmus.specs.Models.{behaviour_of}
use Rattle.bench_fmus.specs.Wrapping.{wrapped, wrapped_int64}
use Rattle.value_types.specs.Values.{word_of}
use Rattle.value_types.specs.declared.values.PortType.TheVariants.{Clock}

and_false : (b : Bool) → (b && false) ≡ false
and_false true = refl
and_false false = refl

-- ---- every machine that a behaviour makes

-- only EnterInitialization and ExitInitialization change the mark
keeps_mark : (b : Behaviour) (shape : Shape) (s : MachineState) (call : Call) →
    changes_mode call ≡ false →
    is_in_initialization (numbers_after b shape (numbers_in s.numbers) s.values call) ≡
    is_in_initialization (numbers_in s.numbers)
keeps_mark b shape s (C.EnterInitialization start stop) other = absurd (cc)
keeps_mark b shape s C.ExitInitialization other = absurd (cc)
keeps_mark b shape s (C.DoStep at size) other = refl
keeps_mark b shape s (C.Instantiate event_mode early_return batches) other = refl
keeps_mark b shape s C.EnterEvent other = refl
keeps_mark b shape s C.EnterStep other = refl
keeps_mark b shape s C.Update other = refl
keeps_mark b shape s (C.Get kind reference) other = refl
keeps_mark b shape s (C.Set kind reference value) other = refl
keeps_mark b shape s (C.GetClock reference) other = refl
keeps_mark b shape s (C.SetClock reference) other = refl
keeps_mark b shape s (C.GetInterval reference) other = refl
keeps_mark b shape s (C.GetShift reference) other = refl
keeps_mark b shape s C.Save other = refl
keeps_mark b shape s C.Restore other = refl
keeps_mark b shape s C.Free other = refl
keeps_mark b shape s C.Terminate other = refl
keeps_mark b shape s C.FreeInstance other = refl
keeps_mark b shape s C.Serialize other = refl
keeps_mark b shape s (C.Deserialize length point stop) other = refl

-- no call but Serialize is refused: none that changes the mode
mode_refused : (shape : Shape) (slot : Option SavedMachine) (call : Call) →
    changes_mode call ≡ true → is_refused shape slot call ≡ false
mode_refused shape slot C.Serialize changes = absurd (cc)
mode_refused shape slot call changes = refl

-- and none but those that save, restore and free a state
plain_refused : (shape : Shape) (slot : Option SavedMachine) (call : Call) →
    keeps_state call ≡ false → is_refused shape slot call ≡ false
plain_refused shape slot C.Serialize other = absurd (cc)
plain_refused shape slot call other = refl

-- a call that isn't refused gets a good reply
pub not_refused : (b : Behaviour) (shape : Shape) (s : MachineState) (call : Call) →
    is_refused shape s.slot call ≡ false → reply_of b shape s call ≡
    Done false (content_of b shape (numbers_in s.numbers) s.values call)
not_refused b shape s call is =
    ap (λ (q : Bool). if q then Refused K.Serialize Error
    else Done false (content_of b shape (numbers_in s.numbers) s.values call)) is

pub machine_is : (b : Behaviour) (shape : Shape) → IsMachineOf shape (machine_of b shape)
machine_is b shape = record {
  references = refl;
  clocks = refl;
  values = length-map shape.variables _;
  empty = refl;
  before = refl;
  enters = λ s start stop. refl;
  exits = λ s. refl;
  keeps = keeps_mark b shape;
  undiscarded = λ s call changes.
      ap is_discard (not_refused b shape s call (mode_refused shape s.slot call changes));
}

pub is_machine : (model : Model) (shape : Shape) →
    IsMachineOf shape (machine_of (behaviour_of model) shape)
is_machine model shape = machine_is (behaviour_of model) shape

pub answers_alike : (model : Model) (shape : Shape) →
    IgnoresSlot (machine_of (behaviour_of model) shape)
answers_alike model shape =
    record {
      looks = λ call s slot other.
          let b : Behaviour = behaviour_of model in
          not_refused b shape (record s { slot = slot }) call
          (plain_refused shape slot call other) ∙
          sym (not_refused b shape s call (plain_refused shape s.slot call other));
      changes = λ call s slot other. refl;
    }

-- ---- states as bytes

-- what is read is outside Initialization Mode
read_outside : (read : Option Numbers) (variables : List Variable)
    (rest : Option (List ℤ)) (kept : SavedMachine) →
    ((n : Numbers) → read ≡ Some n → n.mark ≡ pos 0) →
    option_and_then (λ (n : Numbers). option_map (λ (values : List ℤ).
    record { numbers = listed n; values = spread variables values }) rest) read ≡ Some kept →
    is_in_initialization (numbers_in kept.numbers) ≡ false
read_outside None variables rest kept outside is = absurd (cc)
read_outside (Some n) variables None kept outside is = absurd (cc)
read_outside (Some n) variables (Some values) kept outside is =
    ap (λ (k : SavedMachine). is_in_initialization (numbers_in k.numbers))
    (sym (same_Some _ kept is)) ∙ ap (λ (x : ℤ). int_lt (pos 0) x) (outside n refl)

marked_none : (bad : Bool) (o : Numbers) (n : Numbers) → o.mark ≡ pos 0 →
    (if bad then None else Some o) ≡ Some n → n.mark ≡ pos 0
marked_none true o n mark is = absurd (cc)
marked_none false o n mark is =
    ap (λ (m : Numbers). m.mark) (sym (same_Some o n is)) ∙ mark

filled : (o : Option SavedMachine) (is_warning : Bool) →
    reply_to_bytes o ≡ Done is_warning A.Deserialize → IsSome o
filled (Some kept) is_warning is = refl
filled None is_warning is = absurd (cc)

pub unpacks_well : (model : Model) (shape : Shape) →
    UnpacksWell (machine_of (behaviour_of model) shape)
unpacks_well model shape = record {
  outside = λ bytes kept is.
      read_outside (read_numbers bytes) shape.variables _ kept
      (λ n read. marked_none _ _ n refl read) is;
  fills = λ s call bytes is_warning is. filled (unpacked shape.variables bytes) is_warning is;
}

-- a state that a machine can have in Step Mode is the one that its bytes are read back as
abbrev pub StatesReadBack : Type 0
StatesReadBack = (model : Model) (shape : Shape) (kept : SavedMachine) →
    CanStand shape.variables kept →
    (machine_of (behaviour_of model) shape).packing.unpack
    ((machine_of (behaviour_of model) shape).packing.pack kept) ≡ Some kept

-- ---- what outputs show

pub none_within : {X : Type 0} (xs : List X) (k : ℕ) → k < length xs → slice_get xs k ≡ None → ⊥
none_within [] k within none = omega arith
none_within (x ∷ xs) zero within none = cc
none_within (x ∷ xs) (suc k) within none = none_within xs k (omega arith) none

module _ (shape : Shape) (initializing : Bool) (output : ℕ) where
  at_place : (xs ys : List ℤ) → AgreeFor shape initializing output xs ys →
      (k : ℕ) (o : Option Variable) → slice_get shape.variables k ≡ o → k < length shape.variables →
      option_map_or (is_undeclared shape initializing output) o false ≡ false →
      slice_get xs k ≡ slice_get ys k
  at_place xs ys agree k (Some v) there within known = agree.each k v there known
  at_place xs ys agree k None none within known = absurd (none_within shape.variables k within none)

  -- values that agree at an output are one under each reference that isn't an undeclared input's
  reference_same : (reference : ℕ) (xs ys : List ℤ) → AgreeFor shape initializing output xs ys →
      is_at (is_undeclared shape initializing output) shape.variables reference ≡ false →
      value_of shape.variables xs reference ≡ value_of shape.variables ys reference
  reference_same reference xs ys agree known = at (place_of shape.variables reference) refl
    where
      at : (o : Option ℕ) → place_of shape.variables reference ≡ o →
          value_of shape.variables xs reference ≡ value_of shape.variables ys reference
      at None none =
          ap (λ (o : Option ℕ). unwrap_or (option_and_then (slice_get xs) o) (pos 0)) none ∙
          sym (ap (λ (o : Option ℕ). unwrap_or (option_and_then (slice_get ys) o) (pos 0)) none)
      at (Some k) there =
          ap (λ (o : Option ℕ). unwrap_or (option_and_then (slice_get xs) o) (pos 0)) there
          ∙ ap (λ (o : Option ℤ). unwrap_or o (pos 0))
          (at_place xs ys agree k (slice_get shape.variables k) refl
          (placed_within (λ (v : Variable). v.reference == reference) shape.variables k there)
          (sym (ap (λ (o : Option Variable).
          option_map_or (is_undeclared shape initializing output) o false)
          (find_placed (λ (v : Variable). v.reference == reference) shape.variables k there)) ∙
          known))
          ∙ sym (ap (λ (o : Option ℕ). unwrap_or (option_and_then (slice_get ys) o) (pos 0)) there)

  -- what isn't an input is none that the output doesn't declare
  no_input : (o : Option Variable) →
      option_map_or (λ (v : Variable). is_input v.causality) o false ≡ false →
      option_map_or (is_undeclared shape initializing output) o false ≡ false
  no_input None e = refl
  no_input (Some v) e = ap (λ (q : Bool). q && not (is_declared shape initializing output v)) e

  -- nor is what the output declares
  declared_known : (o : Option Variable) →
      option_map_or (is_declared shape initializing output) o false ≡ true →
      option_map_or (is_undeclared shape initializing output) o false ≡ false
  declared_known None e = refl
  declared_known (Some v) e =
      ap (λ (q : Bool). is_input v.causality && not q) e ∙ and_false (is_input v.causality)

-- an output isn't an input
no_output_input : (o : Option Variable) → IsSomeAnd o (λ (v : Variable). v.causality ≡ Output) →
    option_map_or (λ (v : Variable). is_input v.causality) o false ≡ false
no_output_input (Some v) is = ap is_input is
no_output_input None is = refl

-- values that agree at an output are one there
value_same : (shape : Shape) (initializing : Bool) (output : ℕ) (xs ys : List ℤ) →
    AgreeFor shape initializing output xs ys →
    IsSomeAnd (variable_at shape.variables output) (λ (v : Variable). v.causality ≡ Output) →
    value_of shape.variables xs output ≡ value_of shape.variables ys output
value_same shape initializing output xs ys agree found =
    reference_same shape initializing output output xs ys agree
    (no_input shape initializing output (variable_at shape.variables output)
    (no_output_input (variable_at shape.variables output) found))

-- what a behaviour shows at an output doesn't depend on an input that the output doesn't declare
abbrev pub ShowsDeclared : Behaviour → Type 0
ShowsDeclared b = (shape : Shape) (n : Numbers) (output : ℕ) (xs ys : List ℤ) →
    IsSomeAnd (variable_at shape.variables output) (λ (v : Variable). v.causality ≡ Output) →
    AgreeFor shape (is_in_initialization n) output xs ys →
    b.shown shape n xs output ≡ b.shown shape n ys output

shown_same : (b : Behaviour) (shape : Shape) → ShowsDeclared b →
    (reference output : ℕ) (s : MachineState) (xs ys : List ℤ) → reference ≡ output →
    IsSomeAnd (variable_at shape.variables output) (λ (v : Variable). v.causality ≡ Output) →
    AgreeFor shape ((machine_of b shape).initializing s.numbers) output xs ys →
    b.shown shape (numbers_in s.numbers) xs reference ≡
    b.shown shape (numbers_in s.numbers) ys reference
shown_same b shape declared reference output s xs ys is found agree =
    ap (b.shown shape (numbers_in s.numbers) xs) is ∙
    declared shape (numbers_in s.numbers) output xs ys found agree ∙
    sym (ap (b.shown shape (numbers_in s.numbers) ys) is)

own_is_lawful : (b : Behaviour) (shape : Shape) → ShowsDeclared b →
    IsLawful shape (machine_of b shape)
own_is_lawful b shape own (C.Get kind reference) output s xs ys looked found mode agree =
    ap (λ (x : ℤ). Done false (A.Get (word_of (wrapped kind x))))
    (shown_same b shape own reference output s xs ys
    (same_Some reference output looked) found agree)
own_is_lawful b shape own (C.GetClock reference) output s xs ys looked found mode agree =
    ap (λ (x : ℤ). Done false (A.GetClock (word_of (wrapped Clock x))))
    (shown_same b shape own reference output s xs ys
    (same_Some reference output looked) found agree)
own_is_lawful b shape own (C.Instantiate event_mode early_return batches) output s xs ys looked
    found mode agree = refl
own_is_lawful b shape own (C.EnterInitialization start stop) output s xs ys looked
    found mode agree = refl
own_is_lawful b shape own C.ExitInitialization output s xs ys looked found mode agree = refl
own_is_lawful b shape own C.EnterEvent output s xs ys looked found mode agree = refl
own_is_lawful b shape own C.EnterStep output s xs ys looked found mode agree = refl
own_is_lawful b shape own (C.DoStep at size) output s xs ys looked found mode agree = absurd (cc)
own_is_lawful b shape own C.Update output s xs ys looked found mode agree = absurd (cc)
own_is_lawful b shape own (C.Set kind reference value) output s xs ys looked found mode agree = refl
own_is_lawful b shape own (C.SetClock reference) output s xs ys looked found mode agree = refl
own_is_lawful b shape own (C.GetInterval reference) output s xs ys looked found mode agree =
    absurd (cc)
own_is_lawful b shape own (C.GetShift reference) output s xs ys looked found mode agree =
    absurd (cc)
own_is_lawful b shape own C.Save output s xs ys looked found mode agree = refl
own_is_lawful b shape own C.Restore output s xs ys looked found mode agree = refl
own_is_lawful b shape own C.Free output s xs ys looked found mode agree = refl
own_is_lawful b shape own C.Terminate output s xs ys looked found mode agree = refl
own_is_lawful b shape own C.FreeInstance output s xs ys looked found mode agree = refl
own_is_lawful b shape own C.Serialize output s xs ys looked found mode agree = refl
own_is_lawful b shape own (C.Deserialize length point stop) output s xs ys looked found mode agree = refl

-- ---- each machine

count_declared : (own : ℕ) (shape : Shape) (n : Numbers) (output : ℕ) (xs ys : List ℤ) →
    IsSomeAnd (variable_at shape.variables output) (λ (v : Variable). v.causality ≡ Output) →
    AgreeFor shape (is_in_initialization n) output xs ys →
    count_at own shape n xs output ≡ count_at own shape n ys output
count_declared own shape n output xs ys found agree =
    ap (λ (x : ℤ). if output == own then n.count else x)
    (value_same shape (is_in_initialization n) output xs ys agree found)

-- what an output sees is one
seen_same : (shape : Shape) (n : Numbers) (output : ℕ) (xs ys : List ℤ) →
    AgreeFor shape (is_in_initialization n) output xs ys → (reference : ℕ) →
    seen_by shape n xs output reference ≡ seen_by shape n ys output reference
seen_same shape n output xs ys agree reference = by (is_declared_at shape n output reference) refl
  where
    by : (q : Bool) → is_declared_at shape n output reference ≡ q →
        (if q then value_of shape.variables xs reference else n.held) ≡
        (if q then value_of shape.variables ys reference else n.held)
    by true is =
        reference_same shape (is_in_initialization n) output reference xs ys agree
        (declared_known shape (is_in_initialization n) output (variable_at shape.variables reference) is)
    by false other = refl

module _ (shape : Shape) (n : Numbers) (xs ys : List ℤ)
    (agree : AgreeFor shape (is_in_initialization n) 3 xs ys) where
  factor_same : factor shape n xs ≡ factor shape n ys
  factor_same = by (is_at (λ (v : Variable). is_input v.causality) shape.variables 1) refl
    where
      by : (q : Bool) → is_at (λ (v : Variable). is_input v.causality) shape.variables 1 ≡ q →
          (if q then seen_by shape n xs 3 1 else value_of shape.variables xs 1) ≡
          (if q then seen_by shape n ys 3 1 else value_of shape.variables ys 1)
      by true is = seen_same shape n 3 xs ys agree 1
      by false other =
          reference_same shape (is_in_initialization n) 3 1 xs ys agree
          (no_input shape (is_in_initialization n) 3 (variable_at shape.variables 1) other)

  product_same : product shape n xs ≡ product shape n ys
  product_same =
      ap₂ (λ (a b : ℤ). wrapped_int64 (a *ℤ b)) factor_same (seen_same shape n 3 xs ys agree 2)

gain_declared : ShowsDeclared gain
gain_declared shape n output xs ys found agree = by (output == 3) refl
  where
    by : (q : Bool) → (output == 3) ≡ q →
        (if q then product shape n xs else value_of shape.variables xs output) ≡
        (if q then product shape n ys else value_of shape.variables ys output)
    by true is =
        product_same shape n xs ys (subst (λ (o : ℕ). AgreeFor shape (is_in_initialization n) o xs ys)
        (eqb-true output 3 is) agree)
    by false other = value_same shape (is_in_initialization n) output xs ys agree found

sampler_declared : ShowsDeclared sampler
sampler_declared shape n output xs ys found agree = by (output == 3) refl
  where
    by : (q : Bool) → (output == 3) ≡ q →
        (if q then seen_by shape n xs 3 2 else value_of shape.variables xs output) ≡
        (if q then seen_by shape n ys 3 2 else value_of shape.variables ys output)
    by true is =
        seen_same shape n 3 xs ys (subst (λ (o : ℕ). AgreeFor shape (is_in_initialization n) o xs ys)
        (eqb-true output 3 is) agree) 2
    by false other = value_same shape (is_in_initialization n) output xs ys agree found

relay_declared : ShowsDeclared relay
relay_declared shape n output xs ys found agree = by (output == 2) (output == 3) refl refl
  where
    at : List ℤ → Bool → Bool → ℤ
    at zs p q =
        if p then (if differ (seen_by shape n zs 2 1) n.held then pos 1 else pos 0)
        else (if q then seen_by shape n zs 3 1 else value_of shape.variables zs output)

    by : (p q : Bool) → (output == 2) ≡ p → (output == 3) ≡ q → at xs p q ≡ at ys p q
    by true q is other =
        ap (λ (x : ℤ). if differ x n.held then pos 1 else pos 0)
        (seen_same shape n 2 xs ys (subst (λ (o : ℕ). AgreeFor shape (is_in_initialization n) o xs ys)
        (eqb-true output 2 is) agree) 1)
    by false true other is =
        seen_same shape n 3 xs ys (subst (λ (o : ℕ). AgreeFor shape (is_in_initialization n) o xs ys)
        (eqb-true output 3 is) agree) 1
    by false false other another = value_same shape (is_in_initialization n) output xs ys agree found

pub is_lawful : (model : Model) (shape : Shape) →
    IsLawful shape (machine_of (behaviour_of model) shape)
is_lawful Counter shape = own_is_lawful counter shape (count_declared 2)
is_lawful Gain shape = own_is_lawful gain shape gain_declared
is_lawful Sampler shape = own_is_lawful sampler shape sampler_declared
is_lawful Alarm shape = own_is_lawful alarm shape (count_declared 2)
is_lawful Timer shape = own_is_lawful timer shape (count_declared 3)
is_lawful Relay shape = own_is_lawful relay shape relay_declared
is_lawful Settle shape = own_is_lawful settle shape (count_declared 2)
is_lawful Pulse shape = own_is_lawful pulse shape (count_declared 4)
is_lawful Waker shape = own_is_lawful waker shape (count_declared 2)
