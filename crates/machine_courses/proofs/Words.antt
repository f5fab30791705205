-- What a checkpoint keeps of where a run stands is read back as that.
use Rattle.std.proofs.Common.{◌≡◌, ℕ, suc, ◌-◌, nat_le, ℤ, Bool, true, false, List, [], ◌∷◌, Option, Some, None, refl, sym, ap, ap₂, ◌∙◌, arith, length, map}
use Rattle.std.specs.Option.{option_map}
use Rattle.std.specs.Prelude.{IfSome, if◌then◌else◌}
use Rattle.value_types.specs.declared.values.PortType.{PortType}
use Rattle.value_types.proofs.CallerLemmas.{fitting, number_of_word}
use Rattle.value_types.specs.Values.{Fits, word_of}
use Rattle.system_model.specs.declared.system.Port.{Port}
use Rattle.system_model.specs.declared.system.Role.{Role}
use Rattle.system_model.specs.declared.system.Role.TheVariants.{Input, Output, ClockInput, ClockOutput, TimeClock}
use Rattle.system_model.specs.declared.system.Timing.TheVariants.{Periodic, Answered, Countdown, Changing}
use Rattle.run_model.specs.Run.{Timer, Never, Every, Once}
use Rattle.run_rest.specs.Snapshot.{up_to}
use Rattle.run_rest.proofs.CallerLemmas.{Alike, AreTimersOf, IsTimerOf}
use Rattle.system_checkpoint.specs.declared.snapshot.Arming.TheVariants.{At, Unarmed}
use Rattle.calling_sequence.specs.Holding.{FitPorts, arming_of, armed_up_to, by_port, timer_by, timers_by, times_of, value_by, values_by}

-- ---- values

value_back : (kind : PortType) (v : Option ℤ) → IfSome v (Fits kind) → value_by kind (option_map word_of v) ≡ v
value_back kind None h = refl
value_back kind (Some x) h = rw (number_of_word kind x h, fitting kind x h) refl

pub values_back : (ports : List Port) (values : List (Option ℤ)) → length values ≡ length ports → FitPorts ports values → values_by ports (map (option_map word_of) values) ≡ values
values_back [] [] len fit = refl
values_back [] (v ∷ values) len fit = absurd (omega (arith, len))
values_back (port ∷ ports) [] len fit = absurd (omega (arith, len))
values_back (port ∷ ports) (v ∷ values) len fit =
    ap₂ (λ (x : Option ℤ) (xs : List (Option ℤ)). x ∷ xs) (value_back port.kind v (fit 0 port refl)) (values_back ports values (omega (arith, len)) (λ p q is. fit (suc p) q is))

-- ---- timers

armed_back : (stop point : ℕ) (role : Role) → ((b : Bool) → timer_by role None (if b then At point else Unarmed) ≡ (if b then Once point else Never)) → up_to stop (Once point) ≡ up_to stop (timer_by role None (armed_up_to stop (Once point)))
armed_back stop point role armed =
    twice (nat_le point stop) refl ∙ sym (ap (up_to stop) (armed (nat_le point stop)))
  where
    twice : (b : Bool) → nat_le point stop ≡ b → (if b then Once point else Never) ≡ up_to stop (if b then Once point else Never)
    twice true e = sym (ap (λ (c : Bool). if c then Once point else Never) e)
    twice false e = refl

timer_back : (stop : ℕ) (role : Role) (timer : Timer) → IsTimerOf role timer → up_to stop timer ≡ up_to stop (timer_by role (times_of role timer) (arming_of stop role timer))
timer_back stop (TimeClock (Periodic interval shift)) timer h = ap (up_to stop) h
timer_back stop (TimeClock Answered) Never h = refl
timer_back stop (TimeClock Answered) (Every interval shift) h = refl
timer_back stop (TimeClock Answered) (Once point) h = absurd h
timer_back stop (TimeClock Countdown) Never h = refl
timer_back stop (TimeClock Countdown) (Every interval shift) h = absurd h
timer_back stop (TimeClock Countdown) (Once point) h = armed_back stop point (TimeClock Countdown) armed where
  armed : (b : Bool) → timer_by (TimeClock Countdown) None (if b then At point else Unarmed) ≡ (if b then Once point else Never)
  armed true = refl
  armed false = refl
timer_back stop (TimeClock Changing) Never h = refl
timer_back stop (TimeClock Changing) (Every interval shift) h = absurd h
timer_back stop (TimeClock Changing) (Once point) h = armed_back stop point (TimeClock Changing) armed where
  armed : (b : Bool) → timer_by (TimeClock Changing) None (if b then At point else Unarmed) ≡ (if b then Once point else Never)
  armed true = refl
  armed false = refl
timer_back stop (Input feed) timer h = ap (up_to stop) h
timer_back stop Output timer h = ap (up_to stop) h
timer_back stop (ClockInput feed) timer h = ap (up_to stop) h
timer_back stop ClockOutput timer h = ap (up_to stop) h

pub timers_back : (stop : ℕ) (ports : List Port) (timers : List Timer) → AreTimersOf ports timers → map (up_to stop) timers ≡ map (up_to stop) (timers_by ports (by_port times_of ports timers) (by_port (arming_of stop) ports timers))
timers_back stop [] [] h = refl
timers_back stop [] (timer ∷ timers) h = absurd h
timers_back stop (port ∷ ports) [] h = absurd h
timers_back stop (port ∷ ports) (timer ∷ timers) h =
    ap₂ (λ (x : Timer) (xs : List Timer). x ∷ xs) (timer_back stop port.role timer h.0) (timers_back stop ports timers h.1)

-- ---- what is kept of timers that count as these

times_up : (stop : ℕ) (role : Role) (timer : Timer) → times_of role timer ≡ times_of role (up_to stop timer)
times_up stop (TimeClock Answered) Never = refl
times_up stop (TimeClock Answered) (Every interval shift) = refl
times_up stop (TimeClock Answered) (Once point) = by (nat_le point stop) where
  by : (b : Bool) → times_of (TimeClock Answered) (Once point) ≡ times_of (TimeClock Answered) (if b then Once point else Never)
  by true = refl
  by false = refl
times_up stop (TimeClock (Periodic interval shift)) timer = refl
times_up stop (TimeClock Countdown) timer = refl
times_up stop (TimeClock Changing) timer = refl
times_up stop (Input feed) timer = refl
times_up stop Output timer = refl
times_up stop (ClockInput feed) timer = refl
times_up stop ClockOutput timer = refl

armed_up : (stop : ℕ) (timer : Timer) → armed_up_to stop timer ≡ armed_up_to stop (up_to stop timer)
armed_up stop Never = refl
armed_up stop (Every interval shift) = refl
armed_up stop (Once point) = by (nat_le point stop) refl where
  by : (b : Bool) → nat_le point stop ≡ b → (if b then At point else Unarmed) ≡ armed_up_to stop (if b then Once point else Never)
  by true e = sym (ap (λ (c : Bool). if c then At point else Unarmed) e)
  by false e = refl

arming_up : (stop : ℕ) (role : Role) (timer : Timer) → arming_of stop role timer ≡ arming_of stop role (up_to stop timer)
arming_up stop (TimeClock Countdown) timer = armed_up stop timer
arming_up stop (TimeClock Changing) timer = armed_up stop timer
arming_up stop (TimeClock Answered) timer = refl
arming_up stop (TimeClock (Periodic interval shift)) timer = refl
arming_up stop (Input feed) timer = refl
arming_up stop Output timer = refl
arming_up stop (ClockInput feed) timer = refl
arming_up stop ClockOutput timer = refl

by_alike : {A : Type 0} (up : Timer → Timer) (of : Role → Timer → A) → ((role : Role) (timer : Timer) → of role timer ≡ of role (up timer)) → (ports : List Port) (xs ys : List Timer) → Alike up xs ys → by_port of ports xs ≡ by_port of ports ys
by_alike up of same [] xs ys alike = refl
by_alike up of same (port ∷ ports) [] [] alike = refl
by_alike up of same (port ∷ ports) [] (y ∷ ys) alike = absurd alike
by_alike up of same (port ∷ ports) (x ∷ xs) [] alike = absurd alike
by_alike {A} up of same (port ∷ ports) (x ∷ xs) (y ∷ ys) alike =
    ap₂ (λ (a : A) (more : List A). a ∷ more) (same port.role x ∙ ap (of port.role) alike.0 ∙ sym (same port.role y)) (by_alike up of same ports xs ys alike.1)

pub times_alike : (stop : ℕ) (ports : List Port) (xs ys : List Timer) → Alike (up_to stop) xs ys → by_port times_of ports xs ≡ by_port times_of ports ys
times_alike stop = by_alike (up_to stop) times_of (times_up stop)

pub armings_alike : (stop : ℕ) (ports : List Port) (xs ys : List Timer) → Alike (up_to stop) xs ys → by_port (arming_of stop) ports xs ≡ by_port (arming_of stop) ports ys
armings_alike stop = by_alike (up_to stop) (arming_of stop) (arming_up stop)

-- ---- lists that are alike

pub same_alike : {X : Type 0} (f : X → X) (xs ys : List X) → Alike f xs ys → map f xs ≡ map f ys
same_alike f [] [] alike = refl
same_alike f [] (y ∷ ys) alike = absurd alike
same_alike f (x ∷ xs) [] alike = absurd alike
same_alike {X} f (x ∷ xs) (y ∷ ys) alike = ap₂ (λ (a : X) (more : List X). a ∷ more) alike.0 (same_alike f xs ys alike.1)

pub alike_map : {X : Type 0} (f : X → X) (xs ys : List X) → map f xs ≡ map f ys → Alike f xs ys
alike_map f [] [] same = tt
alike_map f [] (y ∷ ys) same = absurd (cc)
alike_map f (x ∷ xs) [] same = absurd (cc)
alike_map f (x ∷ xs) (y ∷ ys) same = (cc, alike_map f xs ys (cc))
