-- The Clocks of a sound description: when they may tick, and that their intervals and shifts are told and whole.
use Rattle.std.proofs.Common.{◌≡◌, ◌≢◌, ◌⊎◌, inl, inr, ℕ, ◌+◌, ◌*◌, ◌/◌, ◌%◌, ◌<◌, Bool, true, false, ◌&&◌, not, List, length, filter, get_or, Option, Some, None, is_some, unwrap_or, option_and_then, refl, sym, ap, ◌∙◌, subst, arith, All, codes}
use Rattle.std.specs.Prelude.{IfSome, IsSome, slice_get}
use Rattle.std.specs.List.{AllZip, range_with_len}
use Rattle.std.proofs.lemmas.Bool.{cases_eq}
use Rattle.std.proofs.lemmas.List.Elements.{All-filter, filter_passes}
use Rattle.std.proofs.lemmas.Option.{same_Some, slice_get_within, get_or_from_slice_get}
use Rattle.std.proofs.Math.Nat.{div-add-mod, mul-mod_left}
use Rattle.clock_fraction.specs.declared.fraction.Fraction.{Fraction}
use Rattle.value_types.specs.declared.shape.Causality.{Causality}
use Rattle.value_types.specs.declared.shape.Causality.TheVariants as c
use Rattle.value_types.specs.declared.shape.IntervalVariability.{IntervalVariability}
use Rattle.value_types.specs.declared.shape.IntervalVariability.TheVariants as v
use Rattle.value_types.specs.declared.shape.ClockTiming.{ClockTiming}
use Rattle.value_types.specs.declared.shape.Shape.{Shape}
use Rattle.value_types.specs.declared.shape.Variable.{Variable}
use Rattle.value_types.specs.Shape.{is_clock}
use Rattle.doc_grammar.specs.Nodes.{Node}
use Rattle.doc_tree.specs.declared.rule.DescriptionRule.TheVariants as r
use Rattle.doc_tables.specs.Elements.{attribute}
use Rattle.fmu_description.specs.Texts.{counter}
use Rattle.fmu_description.specs.Elements.{is_variable, reference_of, causality_of, flag_of, has_flag, variable_key, IsCoSimulation}
use Rattle.fmu_description.specs.Clocks.{IsTimed, IsInterval, ByCounters, ByDecimal, counter_of, is_by_counters, variability_of}
use Rattle.fmu_description.specs.Rules.{IsSoundDescription, HasInterval, NeedsInterval}
use Rattle.clock_fraction.specs.Counts.{IsInCounts}
use Rattle.fmu_description.specs.Description.{Describes, IsShiftTold, IsTimedAt, IsTiming, IsTimingOf, IsTold, IsVariable}
use Rattle.fmu_description.proofs.CallerLemmas.{one_variable, timed_at, key_of, source}
use Rattle.system_model.specs.Shapes.{IsSoundClock, MayTick, is_described}
use Rattle.system_model.proofs.CallerLemmas.{all_by_place, true_false}
use Rattle.description_laws.proofs.Keys.{both, keyed}
use Rattle.description_laws.proofs.Zips.{zipped}

-- ---- what can't be otherwise

surely_input : (causality : Causality) → ((causality ≢ c.Input) → ⊥) → causality ≡ c.Input
surely_input c.Input h = refl
surely_input c.Parameter h = absurd (h (λ e. cc))
surely_input c.CalculatedParameter h = absurd (h (λ e. cc))
surely_input c.StructuralParameter h = absurd (h (λ e. cc))
surely_input c.Output h = absurd (h (λ e. cc))
surely_input c.Local h = absurd (h (λ e. cc))
surely_input c.Independent h = absurd (h (λ e. cc))
surely_input c.Other h = absurd (h (λ e. cc))

surely_port : (causality : Causality) → ((causality ≢ c.Input) → (causality ≢ c.Output) → ⊥) → (causality ≡ c.Input) ⊎ (causality ≡ c.Output)
surely_port c.Input h = inl refl
surely_port c.Output h = inr refl
surely_port c.Parameter h = absurd (h (λ e. cc) (λ e. cc))
surely_port c.CalculatedParameter h = absurd (h (λ e. cc) (λ e. cc))
surely_port c.StructuralParameter h = absurd (h (λ e. cc) (λ e. cc))
surely_port c.Local h = absurd (h (λ e. cc) (λ e. cc))
surely_port c.Independent h = absurd (h (λ e. cc) (λ e. cc))
surely_port c.Other h = absurd (h (λ e. cc) (λ e. cc))

above_zero : (n : ℕ) → (n ≡ 0 → ⊥) → 0 < n
above_zero n h = omega (arith, h)

-- counts are whole where the division leaves nothing
surely_whole : (per_second : ℕ) (f : Fraction) → ((IsInCounts per_second f → ⊥) → ⊥) → IsInCounts per_second f
surely_whole per_second f h = by_resolution (cases_eq f.resolution 0)
  where
    product : ℕ
    product = per_second * f.counter

    by_rest : 0 < f.resolution → (product % f.resolution ≡ 0) ⊎ (product % f.resolution ≡ 0 → ⊥) → IsInCounts per_second f
    by_rest known (inl none) =
        let parts : f.resolution * (product / f.resolution) + product % f.resolution ≡ product = div-add-mod product f.resolution in
        let whole : product / f.resolution * f.resolution ≡ product = omega (arith, parts, none) in
        (product / f.resolution, record { known = known; whole = whole })
    by_rest known (inr some) =
        absurd (h (λ is. some (ap (λ (n : ℕ). n % f.resolution) (sym is.1.whole) ∙ mul-mod_left is.0 f.resolution)))

    by_resolution : (f.resolution ≡ 0) ⊎ (f.resolution ≡ 0 → ⊥) → IsInCounts per_second f
    by_resolution (inl none) = absurd (h (λ is. let known : 0 < f.resolution = is.1.known in omega (arith, known, none)))
    by_resolution (inr some) = by_rest (above_zero f.resolution some) (cases_eq (product % f.resolution) 0)

-- ---- what is there

there : {X : Type 0} (o : Option X) → is_some o ≡ true → (x : X) × (o ≡ Some x)
there None e = absurd (true_false (sym e))
there (Some x) e = (x, refl)

-- a text that doesn't fail to read reads
reads : {X : Type 0} (read : List ℕ → Option X) (text : Option (List ℕ)) → is_some text ≡ true → ((bytes : List ℕ) → text ≡ Some bytes → read bytes ≡ None → ⊥) → (x : X) × (option_and_then read text ≡ Some x)
reads read None e misread = absurd (true_false (sym e))
reads {X} read (Some bytes) e misread =
    (elim (read bytes) as (λ o. read bytes ≡ o → (x : X) × (o ≡ Some x)) [
      | None ↦ λ none. absurd (misread bytes refl none)
      | Some x ↦ λ is. (x, refl)
    ]) refl

-- ---- the Clocks

module _ (t : List Node) (per_second : ℕ) (sound : IsSoundDescription t per_second) where
  may_tick : (k : ℕ) (variability : IntervalVariability) → IsTimed t k → variability_of t k ≡ Some variability → MayTick variability (causality_of t k)
  may_tick k v.Constant timed is = surely_input (causality_of t k) (λ other. sound r.ClockCausality k (timed, inl ((v.Constant, is, λ e. cc), other)))
  may_tick k v.Fixed timed is = surely_input (causality_of t k) (λ other. sound r.ClockCausality k (timed, inl ((v.Fixed, is, λ e. cc), other)))
  may_tick k v.Countdown timed is = surely_input (causality_of t k) (λ other. sound r.ClockCausality k (timed, inl ((v.Countdown, is, λ e. cc), other)))
  may_tick k v.Triggered timed is = surely_port (causality_of t k) (λ no_input no_output. sound r.ClockCausality k (timed, inr (is, no_input, no_output)))
  may_tick k v.Changing timed is = surely_input (causality_of t k) (λ other. sound r.ClockCausality k (timed, inl ((v.Changing, is, λ e. cc), other)))
  may_tick k v.Tunable timed is = sound r.LeftOut k (timed, is)

  -- ---- event mode, which a Clock asks for

  by_flag : (element : ℕ) (set : Bool) → IsCoSimulation t element → set ≡ has_flag t element (codes "hasEventMode") → (k : ℕ) → IsTimed t k → set ≡ true
  by_flag element set is says k timed = cases (flag_of t element (codes "hasEventMode")) refl
    where
      cases : (flag : Option Bool) → flag_of t element (codes "hasEventMode") ≡ flag → set ≡ true
      cases None none = absurd (sound r.Misread element (inl (is, inl none)))
      cases (Some true) set_is = says ∙ ap (λ (o : Option Bool). unwrap_or o false) set_is
      cases (Some false) unset = absurd (sound r.ClockWithoutEvents k (timed, (element, is, unset)))

  -- ---- intervals

  counters : (k : ℕ) → IsTimed t k → is_by_counters t k ≡ true → (f : Fraction) × IsInterval t k f
  counters k timed by = (f, ByCounters f by interval.1 resolution.1)
    where
      given : ((has_flag t k (codes "supportsFraction") && is_some (attribute t k (codes "intervalCounter"))) ≡ true) × (is_some (attribute t k (codes "resolution")) ≡ true)
      given = both (has_flag t k (codes "supportsFraction") && is_some (attribute t k (codes "intervalCounter"))) (is_some (attribute t k (codes "resolution"))) by

      counted : (has_flag t k (codes "supportsFraction") ≡ true) × (is_some (attribute t k (codes "intervalCounter")) ≡ true)
      counted = both (has_flag t k (codes "supportsFraction")) (is_some (attribute t k (codes "intervalCounter"))) given.0

      interval : (n : ℕ) × (counter_of t k (codes "intervalCounter") ≡ Some n)
      interval = reads counter (attribute t k (codes "intervalCounter")) counted.1 (λ bytes is none. sound r.Misread k (inr (inr (inl (timed.0, inr (inr (inl (inl (bytes, is, none)))))))))

      resolution : (n : ℕ) × (counter_of t k (codes "resolution") ≡ Some n)
      resolution = reads counter (attribute t k (codes "resolution")) given.1 (λ bytes is none. sound r.Misread k (inr (inr (inl (timed.0, inr (inr (inl (inr (inr (inl (bytes, is, none)))))))))))

      f : Fraction
      f = record { counter = interval.0; resolution = resolution.0 }

  -- an interval that the element has is told
  has_none : (k : ℕ) → IsTimed t k → ((f : Fraction) → IsInterval t k f → ⊥) → HasInterval t k → ⊥
  has_none k timed none has = by_sort (is_by_counters t k) refl has
    where
      by_sort : (b : Bool) → is_by_counters t k ≡ b → HasInterval t k → ⊥
      by_sort true by has = let f : (f : Fraction) × IsInterval t k f = counters k timed by in none f.0 f.1
      by_sort false by (inl counted) = true_false (sym counted ∙ by)
      by_sort false by (inr decimal) =
          let text : (bytes : List ℕ) × (attribute t k (codes "intervalDecimal") ≡ Some bytes) = there (attribute t k (codes "intervalDecimal")) decimal in
          sound r.Misread k (inr (inr (inl (timed.0, inr (inr (inr (inl (text.0, text.1, λ f denotes. none f (ByDecimal f text.0 by text.1 denotes)))))))))

  needs : (k : ℕ) (variability : IntervalVariability) → variability_of t k ≡ Some variability → is_described variability (has_flag t k (codes "supportsFraction")) ≡ true → NeedsInterval t k
  needs k v.Constant is described = inl is
  needs k v.Fixed is described = inr (is, unset (has_flag t k (codes "supportsFraction")) described)
    where
      unset : (b : Bool) → not b ≡ true → b ≡ false
      unset false e = refl
      unset true e = sym e
  needs k v.Countdown is described = absurd (true_false (sym described))
  needs k v.Triggered is described = absurd (true_false (sym described))
  needs k v.Tunable is described = absurd (true_false (sym described))
  needs k v.Changing is described = absurd (true_false (sym described))

  are_told : (k : ℕ) (interval shift : Option Fraction) → IsTimed t k → NeedsInterval t k → IsTold (IsInterval t k) interval → IsShiftTold t k interval shift → IsSome interval × IsSome shift
  are_told k None shift timed needs told beside = absurd (sound r.NoInterval k (timed, needs, has_none k timed told))
  are_told k (Some f) shift timed needs told beside = (refl, ap is_some beside.1)

  -- whether the interval and the shift that the element has are used
  abbrev IsUsed : ℕ → Type 0
  IsUsed k = variability_of t k ≡ Some v.Changing → ⊥

  whole_interval : (k : ℕ) (interval : Option Fraction) → IsTimed t k → IsUsed k → IsTold (IsInterval t k) interval → IfSome interval (λ (f : Fraction). (0 < f.counter) × IsInCounts per_second f)
  whole_interval k None timed used told = tt
  whole_interval k (Some f) timed used told = (
    above_zero f.counter (λ zero. sound r.Uneven k (timed, (used, (f, told, inl zero)))),
    surely_whole per_second f (λ uneven. sound r.Uneven k (timed, (used, (f, told, inr (inl uneven))))),
  )

  whole_shift : (k : ℕ) (interval shift : Option Fraction) → IsTimed t k → IsUsed k → IsTold (IsInterval t k) interval → IsShiftTold t k interval shift → IfSome shift (IsInCounts per_second)
  whole_shift k None shift timed used told none = subst (λ (o : Option Fraction). IfSome o (IsInCounts per_second)) (sym none) tt
  whole_shift k (Some f) shift timed used told beside =
      subst (λ (o : Option Fraction). IfSome o (IsInCounts per_second)) (sym beside.1)
      (surely_whole per_second beside.0 (λ uneven. sound r.Uneven k (timed, (used, (f, told, inr (inr (beside.0, beside.2, uneven)))))))

  module _ (shape : Shape) (describes : Describes t per_second shape) where
    -- the element of a Clock: it isn't local, and the causality is its own
    record IsClockElement (x : Variable) (k : ℕ) : Type 0 where
      key : variable_key t k ≡ Some x.reference
      timed : IsTimed t k
      causality : x.causality ≡ causality_of t k

    abbrev HasElement : Variable → Type 0
    HasElement x = is_clock x ≡ true → (k : ℕ) × IsClockElement x k

    element_at : (i : ℕ) (x : Variable) → slice_get shape.variables i ≡ Some x → HasElement x
    element_at i x at clock = (element.0, record { key = key; timed = timed; causality = element.2.causality })
      where
        within : i < length shape.variables
        within = slice_get_within shape.variables i x at

        read : x ≡ get_or shape.variables i x
        read = sym (get_or_from_slice_get shape.variables i x x at)

        element : (k : ℕ) × (is_variable t k ≡ true) × IsVariable t k x
        element = source (IsVariable t) (is_variable t) (range_with_len 0 (length t)) shape.variables i x describes.variables within read

        key : variable_key t element.0 ≡ Some x.reference
        key = key_of t element.0 x.reference element.1 element.2.reference

        timed : IsTimed t element.0
        timed =
            let other : IsTimedAt t x.reference = timed_at t shape.variables i x describes.variables within read clock in
            subst (IsTimed t) (one_variable t (per_second, sound) x.reference other.0 element.0 other.1 key) other.2

    clock_sound : (x : Variable) (timing : ClockTiming) → (k : ℕ) × IsClockElement x k → IsTimingOf t x timing → IsSoundClock shape x timing
    clock_sound x timing element of = record {
      reference = same_Some timing.reference x.reference (sym says.reference ∙ (keyed (is_variable t k) (reference_of t k) x.reference is.key).1);
      events = by_flag describes.element shape.has_event_mode describes.is describes.says.event_mode k is.timed;
      causality = subst (MayTick timing.variability) (sym is.causality) (may_tick k timing.variability is.timed says.variability);
      described = λ described. are_told k timing.interval timing.shift is.timed
          (needs k timing.variability says.variability (ap (is_described timing.variability) (sym says.fraction) ∙ described)) says.interval says.shift;
      interval = λ other. subst (λ (n : ℕ). IfSome timing.interval (λ (f : Fraction). (0 < f.counter) × IsInCounts n f)) (sym describes.resolution) (whole_interval k timing.interval is.timed (used other) says.interval);
      shift = λ other. subst (λ (n : ℕ). IfSome timing.shift (IsInCounts n)) (sym describes.resolution) (whole_shift k timing.interval timing.shift is.timed (used other) says.interval says.shift);
    }
      where
        k : ℕ
        k = element.0

        is : IsClockElement x k
        is = element.1

        says : IsTiming t k timing
        says = subst (λ (n : ℕ). IsTiming t n timing) (one_variable t (per_second, sound) x.reference of.0 k of.1 is.key) of.2

        used : timing.variability ≢ v.Changing → IsUsed k
        used other changing = other (same_Some timing.variability v.Changing (sym says.variability ∙ changing))

    pub clocks_sound : AllZip (IsSoundClock shape) (filter is_clock shape.variables) shape.clocks
    clocks_sound =
        zipped (IsTimingOf t) (IsSoundClock shape) (λ x. (k : ℕ) × IsClockElement x k) clock_sound (filter is_clock shape.variables) shape.clocks elements describes.clocks
      where
        elements : All (λ x. (k : ℕ) × IsClockElement x k) (filter is_clock shape.variables)
        elements = λ k d lt. All-filter is_clock HasElement shape.variables (all_by_place HasElement shape.variables element_at) k d lt (filter_passes is_clock shape.variables k d lt)
