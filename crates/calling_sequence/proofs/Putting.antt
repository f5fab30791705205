-- Parts that are put one after the other, and the parts of ports.
use Rattle.std.proofs.Common.{◌≡◌, ℕ, suc, zero, ◌+◌, ◌*◌, ◌<◌, ◌≤◌, nat_le, Bool, true, false, Option, None, List, [], ◌∷◌, ◌++◌, Some, refl, sym, ap, ◌∙◌, subst, append_assoc, append-nil, arith, length, map, take, get_or}
use Rattle.std.specs.Prelude.{All, IfNone, IfSome, IsSomeAnd, if◌then◌else◌}
use Rattle.std.specs.List.{flat_map, slice_get}
use Rattle.std.proofs.lemmas.Grind.{flat_map-append}
use Rattle.std.proofs.lemmas.List.{get_or-map, length-append, take_all, take_more}
use Rattle.std.proofs.lemmas.List.Elements.{All-append, All-cons, All-nil}
use Rattle.std.proofs.Math.Nat.{suc-mul}
use Rattle.std.proofs.lemmas.Option.{same_Some}
use Rattle.std.proofs.lemmas.Bool.Decides.{nat_tests}
use Rattle.run_rest.specs.Snapshot.{time_up_to}
use Rattle.system_model.specs.declared.system.Port.{Port}
use Rattle.system_model.specs.declared.system.Role.{Role}
use Rattle.system_model.specs.declared.system.Role.TheVariants.{TimeClock}
use Rattle.system_model.specs.declared.system.Timing.TheVariants.{Answered}
use Rattle.system_checkpoint.specs.declared.snapshot.Arming.{Arming}
use Rattle.system_checkpoint.specs.declared.snapshot.Arming.TheVariants as A
use Rattle.tick_schedule.specs.declared.clock.ClockState.{ClockState}
use Rattle.tick_schedule.specs.declared.clock.ClockState.TheVariants as S
use Rattle.tick_schedule.specs.Timetable.{EventAt, IsToTick, TicksAt, Timetable, timing_in}
use Rattle.event_iteration.specs.Clocks.{IsPlaceOf, timer_in}
use Rattle.run_model.specs.Run.{Timer}
use Rattle.calling_sequence.specs.Holding.{armed_up_to, by_port, times_of}

module _ {V : Type 0} (f : V → List ℕ) where
  -- one part more
  pub put_on : (xs : List V) (i : ℕ) (x : V) → x ≡ get_or xs i x → i < length xs → (old mid new : List ℕ) → mid ≡ old ++ flat_map f (take i xs) → new ≡ mid ++ f x → new ≡ old ++ flat_map f (take (i + 1) xs)
  put_on xs i x is within old mid new prefix last =
      last ∙ ap (λ (l : List ℕ). l ++ f x) prefix ∙ append_assoc old (flat_map f (take i xs)) (f x)
      ∙ ap (λ (l : List ℕ). old ++ (flat_map f (take i xs) ++ l)) (ap f is ∙ sym (append-nil (f (get_or xs i x))))
      ∙ ap (λ (l : List ℕ). old ++ l) (sym (flat_map-append f (take i xs) (get_or xs i x ∷ []))) ∙ ap (λ (l : List V). old ++ flat_map f l) (sym (take_more xs i x within))

  -- all of them
  pub put_all : (xs : List V) (i : ℕ) → length xs ≤ i → (old new : List ℕ) → new ≡ old ++ flat_map f (take i xs) → new ≡ old ++ flat_map f xs
  put_all xs i over old new text = text ∙ ap (λ (l : List V). old ++ flat_map f l) (take_all i xs over)

  -- so many bytes at most
  pub most_bytes : (most : ℕ) → ((x : V) → length (f x) ≤ most) → (xs : List V) → length (flat_map f xs) ≤ length xs * most
  most_bytes most few [] = omega arith
  most_bytes most few (x ∷ xs) =
      let own = few x in
      let rest = most_bytes most few xs in
      let whole = length-append (f x) (flat_map f xs) in
      let times = suc-mul (length xs) most in
      subst (λ (n : ℕ). length (flat_map f (x ∷ xs)) ≤ n) (sym times) (omega (arith, own, rest, whole))

module _ {A : Type 0} (of : Role → Timer → A) where
  pub by_port_len : (ports : List Port) (states : List ClockState) → length states ≡ length ports → length (by_port of ports (map timer_in states)) ≡ length ports
  by_port_len [] states len = refl
  by_port_len (port ∷ ports) [] len = absurd (omega (arith, len))
  by_port_len (port ∷ ports) (s ∷ states) len = ap suc (by_port_len ports states (omega (arith, len)))

  pub by_port_at : (ports : List Port) (states : List ClockState) (i : ℕ) (port : Port) (state : ClockState) (d : A) → slice_get ports i ≡ Some port → slice_get states i ≡ Some state → get_or (by_port of ports (map timer_in states)) i d ≡ of port.role (timer_in state)
  by_port_at [] states i port state d at there = absurd (cc)
  by_port_at (p ∷ ports) [] i port state d at there = absurd (cc)
  by_port_at (p ∷ ports) (s ∷ states) zero port state d at there = let same_port : p ≡ port = cc in let same : s ≡ state = cc in ap (λ (x : Port). of x.role (timer_in s)) same_port ∙ ap (λ (x : ClockState). of port.role (timer_in x)) same
  by_port_at (p ∷ ports) (s ∷ states) (suc i) port state d at there = by_port_at ports states i port state d at there

abbrev pub told_arming : Option ℕ → Arming
told_arming None = A.Unarmed
told_arming (Some point) = A.At point

-- what stands at a place
pub seen_at : {A : Type 0} (xs : List A) (i : ℕ) → i < length xs → (x : A) × (slice_get xs i ≡ Some x)
seen_at [] i within = absurd (omega (arith, within))
seen_at (x ∷ xs) zero within = (x, refl)
seen_at (x ∷ xs) (suc i) within = seen_at xs i (omega (arith, within))

pub at_place : {A : Type 0} (xs : List A) (i : ℕ) (x : A) → i < length xs → x ≡ get_or xs i x → slice_get xs i ≡ Some x
at_place [] i x within is = absurd (omega (arith, within))
at_place (y ∷ xs) zero x within is = ap Some (sym is)
at_place (y ∷ xs) (suc i) x within is = at_place xs i x (omega (arith, within)) is

-- ---- bounds

module _ {V : Type 0} (P : V → Type 0) where
  pub bounds_more : (xs : List V) (i : ℕ) (x : V) → x ≡ get_or xs i x → i < length xs → All P (take i xs) → P x → All P (take (i + 1) xs)
  bounds_more xs i x is within all own = subst (λ (l : List V). All P l) (sym (take_more xs i x within)) (All-append P (take i xs) (get_or xs i x ∷ []) all (All-cons P (get_or xs i x) [] (subst P is own) (All-nil P)))

  pub all_bounds : (xs : List V) (i : ℕ) → length xs ≤ i → All P (take i xs) → All P xs
  all_bounds xs i over all = subst (λ (l : List V). All P l) (take_all i xs over) all

-- ---- event times

-- the event time of a component that is told, up to the stop
pub event_there : (table : Timetable) (k : ℕ) (x : Option ℕ) → k < length table.events → IfSome x (EventAt table k) → IfNone x ((point : ℕ) → EventAt table k point → ⊥) → x ≡ get_or (map (time_up_to table.stop) table.events) k x
event_there table k x within found none =
    let here = seen_at table.events k within in
    by x here.0 here.1 found none ∙ sym (get_or-map (time_up_to table.stop) table.events k here.0 x within ∙ ap (time_up_to table.stop) (there table.events k here.0 here.1)) where
      there : (xs : List (Option ℕ)) (i : ℕ) (e : Option ℕ) → slice_get xs i ≡ Some e → get_or xs i e ≡ e
      there [] i e at = refl
      there (y ∷ xs) zero e at = cc
      there (y ∷ xs) (suc i) e at = there xs i e at

      low : (a b : ℕ) → a ≤ b → nat_le a b ≡ true
      low a b h = grind (arith, nat_tests)

      high : (a b : ℕ) → nat_le a b ≡ true → a ≤ b
      high a b h = grind (arith, nat_tests)

      kept : (b : Bool) (e : ℕ) → nat_le e table.stop ≡ b → ((point : ℕ) → EventAt table k point → ⊥) → slice_get table.events k ≡ Some (Some e) → None ≡ (if b then Some e else None)
      kept true e is never at = absurd (never e (high e table.stop is, at))
      kept false e is never at = refl

      by : (o e : Option ℕ) → slice_get table.events k ≡ Some e → IfSome o (EventAt table k) → IfNone o ((point : ℕ) → EventAt table k point → ⊥) → o ≡ time_up_to table.stop e
      by (Some point) e at f n =
          let same : e ≡ Some point = let there = f.1 in cc in
          sym (ap (time_up_to table.stop) same ∙ ap (λ (b : Bool). if b then Some point else None) (low point table.stop f.0))
      by None None at f n = refl
      by None (Some e) at f n = kept (nat_le e table.stop) e refl n at

-- ---- Clocks

-- what a Clock is armed for that is told, up to the stop
pub armed_there : (table : Timetable) (k : ℕ) (x armed : Option ℕ) → slice_get table.clocks k ≡ Some (S.Countdown armed) → IfSome x (TicksAt table k) → IfNone x ((point : ℕ) → TicksAt table k point → ⊥) → told_arming x ≡ armed_up_to table.stop (timer_in (S.Countdown armed))
armed_there table k x armed at found none = by x armed at found none where
  low : (a b : ℕ) → a ≤ b → nat_le a b ≡ true
  low a b h = grind (arith, nat_tests)

  high : (a b : ℕ) → nat_le a b ≡ true → a ≤ b
  high a b h = grind (arith, nat_tests)

  to_tick : (a : Option ℕ) (point : ℕ) → slice_get table.clocks k ≡ Some (S.Countdown a) → TicksAt table k point → a ≡ Some point
  to_tick a point is h = subst (λ (o : Option ClockState). IsSomeAnd o (λ s. IsToTick table.start s point)) is h.1

  kept : (b : Bool) (e : ℕ) → nat_le e table.stop ≡ b → ((point : ℕ) → TicksAt table k point → ⊥) → slice_get table.clocks k ≡ Some (S.Countdown (Some e)) → A.Unarmed ≡ (if b then A.At e else A.Unarmed)
  kept true e is never there = absurd (never e (high e table.stop is, subst (λ (o : Option ClockState). IsSomeAnd o (λ s. IsToTick table.start s e)) (sym there) refl))
  kept false e is never there = refl

  by : (o a : Option ℕ) → slice_get table.clocks k ≡ Some (S.Countdown a) → IfSome o (TicksAt table k) → IfNone o ((point : ℕ) → TicksAt table k point → ⊥) → told_arming o ≡ armed_up_to table.stop (timer_in (S.Countdown a))
  by (Some point) a there f n =
      sym (ap (λ (b : Option ℕ). armed_up_to table.stop (timer_in (S.Countdown b))) (to_tick a point there f) ∙ ap (λ (b : Bool). if b then A.At point else A.Unarmed) (low point table.stop f.0))
  by None None there f n = refl
  by None (Some e) there f n = kept (nat_le e table.stop) e refl n there

-- the interval and the shift that are told of a Clock that was asked for them
pub times_told : (role : Role) (state : ClockState) (interval shift : ℕ) → role ≡ TimeClock Answered → IsPlaceOf role state → Some (interval, shift) ≡ timing_in state → Some (record { interval = interval; shift = shift }) ≡ times_of role (timer_in state)
times_told role state interval shift is of told = subst (λ (r : Role). Some (record { interval = interval; shift = shift }) ≡ times_of r (timer_in state)) (sym is) (by (subst (λ (r : Role). IsPlaceOf r state) is of)) where
  by : IsPlaceOf (TimeClock Answered) state → Some (record { interval = interval; shift = shift }) ≡ times_of (TimeClock Answered) (timer_in state)
  by (i, s, ticks, state_is, above) =
      let same : Some (interval, shift) ≡ Some (i, s) = told ∙ ap timing_in state_is in
      let pair : (let p : ℕ × ℕ = (interval, shift) in p ≡ (i, s)) = same_Some (interval, shift) (i, s) same in
      subst (λ (z : ClockState). Some (record { interval = interval; shift = shift }) ≡ times_of (TimeClock Answered) (timer_in z)) (sym state_is)
      (ap (λ (p : ℕ × ℕ). Some (record { interval = p.0; shift = p.1 })) pair)

pub times_untold : (role : Role) (state : ClockState) → role ≡ TimeClock Answered → IsPlaceOf role state → None ≡ timing_in state → None ≡ times_of role (timer_in state)
times_untold role state is of told = absurd (by (subst (λ (r : Role). IsPlaceOf r state) is of)) where
  by : IsPlaceOf (TimeClock Answered) state → ⊥
  by (i, s, ticks, state_is, above) = let same : None ≡ Some (i, s) = told ∙ ap timing_in state_is in cc

-- so many bytes are there then
pub len_after : (old new part : List ℕ) → new ≡ old ++ part → length new ≡ length old + length part
len_after old new part text = ap length text ∙ length-append old part
