-- What a checkpoint begins with.
use Rattle.std.proofs.Common.{◌≡◌, ℕ, ◌+◌, ◌-◌, ◌<◌, ◌^◌, List, length, take, sym, ap, subst, arith}
use Rattle.std.proofs.lemmas.List.{take_all}
use Rattle.exact_parts.specs.Taking.{AreSingle, Begins, Breaks, Gets, IsPrefix}
use Rattle.exact_parts.specs.Field.{Field}
use Rattle.exact_parts.specs.Each.{IsText}
use Rattle.exact_parts.proofs.CallerLemmas.{HasSome, LeadsTo, after_single, begins, field_single, got_breaks, kept_single, led_some, not_within_all}
use Rattle.system_checkpoint.specs.declared.first.First.{First}
use Rattle.system_checkpoint.specs.Parts.{between}
use Rattle.system_checkpoint.specs.First.{HasNone, HasPlan, IsFirst, LimitOf, NumbersOf, PointOf, StartOf, StepOf, StopOf, count_max, first_of, limit_max, magic, plan_of}
use Rattle.system_checkpoint.proofs.PartLemmas.{field_some, made_some, sane_8, text_single, within}
use Rattle.system_checkpoint.proofs.ListLemmas.{IsBefore}

-- ---- one value

point_single : (r start step stop limit : ℕ) → AreSingle (PointOf r start step stop limit)
point_single r start step stop limit = kept_single (Field 8 (between start (stop - 1))) (first_of (plan_of r start step stop limit)) (field_single 8 (between start (stop - 1)))

limit_single : (r start step stop : ℕ) → AreSingle (LimitOf r start step stop)
limit_single r start step stop = after_single (Field 8 (between 1 limit_max)) (PointOf r start step stop) (field_single 8 (between 1 limit_max)) (point_single r start step stop)

stop_single : (r start step : ℕ) → AreSingle (StopOf r start step)
stop_single r start step = after_single (Field 8 (between (start + 1) count_max)) (LimitOf r start step) (field_single 8 (between (start + 1) count_max)) (limit_single r start step)

step_single : (r start : ℕ) → AreSingle (StepOf r start)
step_single r start = after_single (Field 8 (between 1 count_max)) (StopOf r start) (field_single 8 (between 1 count_max)) (stop_single r start)

start_single : (r : ℕ) → AreSingle (StartOf r)
start_single r = after_single (Field 8 (between 0 (count_max - 1))) (StepOf r) (field_single 8 (between 0 (count_max - 1))) (step_single r)

numbers_single : AreSingle NumbersOf
numbers_single = after_single (Field 8 (between 1 count_max)) StartOf (field_single 8 (between 1 count_max)) start_single

pub first_single : AreSingle IsFirst
first_single = after_single (IsText magic) (λ (nothing : Unit {0}). NumbersOf) (text_single magic) (λ nothing. numbers_single)

-- ---- each can stand

point_some : (r start step stop limit : ℕ) → IsBefore start stop → HasSome (PointOf r start step stop limit)
point_some r start step stop limit h =
    made_some (Field 8 (between start (stop - 1))) (first_of (plan_of r start step stop limit)) (field_some 8 (between start (stop - 1)) (sane_8 start (stop - 1) (omega (arith, h.before)) (omega (arith, h.before, h.near))))

pub limit_leads : (r start step stop : ℕ) → IsBefore start stop → LeadsTo (Field 8 (between 1 limit_max)) (PointOf r start step stop)
limit_leads r start step stop h = λ limit bytes f. point_some r start step stop limit h

limit_some : (r start step stop : ℕ) → IsBefore start stop → HasSome (LimitOf r start step stop)
limit_some r start step stop h = led_some (Field 8 (between 1 limit_max)) (PointOf r start step stop) (field_some 8 (between 1 limit_max) (sane_8 1 limit_max (omega arith) (omega arith))) (limit_leads r start step stop h)

pub stop_leads : (r start step : ℕ) → LeadsTo (Field 8 (between (start + 1) count_max)) (LimitOf r start step)
stop_leads r start step = λ stop bytes f.
    let w = within (start + 1) count_max stop f.span in
    limit_some r start step stop (record { before = omega (arith, w.from); near = w.up_to })

stop_some : (r start step : ℕ) → start < 2 ^ 62 → HasSome (StopOf r start step)
stop_some r start step lt = led_some (Field 8 (between (start + 1) count_max)) (LimitOf r start step) (field_some 8 (between (start + 1) count_max) (sane_8 (start + 1) count_max (omega (arith, lt)) (omega (arith, lt)))) (stop_leads r start step)

pub step_leads : (r start : ℕ) → start < 2 ^ 62 → LeadsTo (Field 8 (between 1 count_max)) (StopOf r start)
step_leads r start lt = λ step bytes f. stop_some r start step lt

step_some : (r start : ℕ) → start < 2 ^ 62 → HasSome (StepOf r start)
step_some r start lt = led_some (Field 8 (between 1 count_max)) (StopOf r start) (field_some 8 (between 1 count_max) (sane_8 1 count_max (omega arith) (omega arith))) (step_leads r start lt)

pub start_below : (start : ℕ) (bytes : List ℕ) → Field 8 (between 0 (count_max - 1)) start bytes → start < 2 ^ 62
start_below start bytes f = let w = within 0 (count_max - 1) start f.span in omega (arith, w.up_to)

pub start_leads : (r : ℕ) → LeadsTo (Field 8 (between 0 (count_max - 1))) (StepOf r)
start_leads r = λ start bytes f. step_some r start (start_below start bytes f)

start_some : (r : ℕ) → HasSome (StartOf r)
start_some r = led_some (Field 8 (between 0 (count_max - 1))) (StepOf r) (field_some 8 (between 0 (count_max - 1)) (sane_8 0 (count_max - 1) (omega arith) (omega arith))) (start_leads r)

pub resolution_leads : LeadsTo (Field 8 (between 1 count_max)) StartOf
resolution_leads = λ r bytes f. start_some r

numbers_some : HasSome NumbersOf
numbers_some = led_some (Field 8 (between 1 count_max)) StartOf (field_some 8 (between 1 count_max) (sane_8 1 count_max (omega arith) (omega arith))) resolution_leads

pub magic_leads : LeadsTo (IsText magic) (λ (nothing : Unit {0}). NumbersOf)
magic_leads = λ nothing bytes f. numbers_some

-- ---- what was read

-- the point is before the stop
pub first_before : (first : First) (bytes : List ℕ) → IsFirst first bytes → IsBefore first.point first.plan.stop
first_before first bytes h =
    let stop = h.is_next.is_next.is_next.is_next in
    let start = h.is_next.is_next.number in
    let made = stop.is_next.is_next in
    let s = within (start + 1) count_max stop.number stop.is_first.span in
    let p = within start (stop.number - 1) made.value made.spelled.span in
    let point_is : first.point ≡ made.value = ap (λ (f : First). f.point) made.is in
    let stop_is : first.plan.stop ≡ stop.number = ap (λ (f : First). f.plan.stop) made.is in
    record { before = omega (arith, point_is, stop_is, p.up_to, s.from); near = omega (arith, stop_is, s.up_to) }

pub plan_got : (bytes : List ℕ) (first : First) (n : ℕ) → Gets IsFirst bytes first n → HasPlan bytes first.plan
plan_got bytes first n got = record { point = first.point; length = n; stands = got }

pub plan_short : (bytes : List ℕ) → IsPrefix IsFirst bytes → HasNone bytes (length bytes)
plan_short bytes prefix = record {
  within = omega arith;
  prefix = subst (Begins IsFirst) (sym (take_all (length bytes) bytes (omega arith))) (begins IsFirst bytes prefix);
  next = λ lt. absurd (omega (arith, lt));
  none = λ plan h. not_within_all IsFirst first_single h.length bytes (first_of plan h.point) h.stands.spelled prefix;
}

pub plan_bad : (bytes : List ℕ) (at : ℕ) → Breaks IsFirst bytes at → HasNone bytes at
plan_bad bytes at h = record {
  within = omega (arith, h.within);
  prefix = begins IsFirst (take at bytes) h.prefix;
  next = λ lt. h.none;
  none = λ plan p. got_breaks IsFirst first_single bytes (first_of plan p.point) p.length at p.stands h;
}
