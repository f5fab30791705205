-- Which Clocks are active after good calls.
use Rattle.std.proofs.Common.{◌≡◌, ℕ, zero, suc, ◌+◌, ◌<◌, Bool, true, false, ◌||◌, List, [], ◌∷◌, ◌++◌, Option, Some, None, Result, Ok, Err, Contains, refl, sym, ap, ◌∙◌, subst, arith, length, get_or, set}
use Rattle.std.specs.Prelude.{All, ◌==◌, if◌then◌else◌, slice_get}
use Rattle.std.specs.List.{list_any, position_from}
use Rattle.std.specs.Option.{option_map_or}
use Rattle.std.proofs.lemmas.Iterator.Adapters.{position_from-zero}
use Rattle.std.proofs.lemmas.List.{get_or-set_same, length-set}
use Rattle.std.proofs.lemmas.List.Elements.{All-head, All-tail}
use Rattle.std.proofs.lemmas.Option.{none-some as none_some, same_Some}
use Rattle.value_types.specs.Shape.{place_of, variable_at}
use Rattle.value_types.specs.declared.shape.Shape.{Shape}
use Rattle.value_types.specs.declared.shape.Variable.{Variable}
use Rattle.fmi_calls.specs.declared.call.Call.{Call}
use Rattle.fmi_calls.specs.declared.call.Call.TheVariants as C
use Rattle.fmi_calls.specs.declared.call.Reply.{Reply}
use Rattle.fmi_calls.specs.declared.phase.Phase.{Phase}
use Rattle.fmi_calls.specs.Next.{counted, entered, is_tick, marked}
use Rattle.fmi_calls.specs.Permission.{is_marked}
use Rattle.fmu_peer.specs.declared.peer.Exchange.{Exchange}
use Rattle.fmu_peer.specs.declared.peer.PeerFault.{PeerFault}
use Rattle.fmu_peer.specs.Talk.{IsGood}
use Rattle.fmu_peer.specs.View.{Fixed, View}
use Rattle.system_model.proofs.CallerLemmas.{contains_at, true_false}
use Rattle.slot_calls.specs.Log.{Talks}
use Rattle.slot_calls.specs.Slots.{reads_or_sets}
use Rattle.slot_calls.proofs.CallerLemmas.{led}
use Rattle.event_iteration.proofs.Permits.{IsQuietOf}

-- ---- after calls

abbrev ticks_in : Result Reply PeerFault → Bool
ticks_in (Ok reply) = is_tick reply
ticks_in (Err fault) = false

-- which variables are active Clocks after a call that reads or sets
abbrev pub active_one : Shape → List Bool → Call → Result Reply PeerFault → List Bool
active_one shape active (C.SetClock reference) result = marked shape active reference
active_one shape active (C.GetClock reference) result = if ticks_in result then marked shape active reference else active
active_one shape active _ result = active

abbrev pub active_by : Shape → List Bool → List Exchange → List Bool
active_by shape active [] = active
active_by shape active (e ∷ es) = active_by shape (active_one shape active e.call e.result) es

pub active_by-append : (shape : Shape) (active : List Bool) (es fs : List Exchange) → active_by shape active (es ++ fs) ≡ active_by shape (active_by shape active es) fs
active_by-append shape active [] fs = refl
active_by-append shape active (e ∷ es) fs = active_by-append shape (active_one shape active e.call e.result) es fs

-- what holds once a Clock becomes active, and held before, holds after one call
by_call : (P : List Bool → Type 0) (shape : Shape) (active : List Bool) → P active → ((reference : ℕ) → P (marked shape active reference)) → (call : Call) (result : Result Reply PeerFault) → P (active_one shape active call result)
by_call P shape active old new (C.SetClock reference) result = new reference
by_call P shape active old new (C.GetClock reference) result = by (ticks_in result)
  where
    by : (b : Bool) → P (if b then marked shape active reference else active)
    by true = new reference
    by false = old
by_call P shape active old new call result = old

length-marked : (shape : Shape) (marks : List Bool) (r : ℕ) → length (marked shape marks r) ≡ length marks
length-marked shape marks r = by (place_of shape.variables r)
  where
    by : (o : Option ℕ) → length (option_map_or (λ k. set marks k true) o marks) ≡ length marks
    by None = refl
    by (Some k) = length-set marks k true

pub length-active : (shape : Shape) (active : List Bool) (es : List Exchange) → length (active_by shape active es) ≡ length active
length-active shape active [] = refl
length-active shape active (e ∷ es) =
    length-active shape (active_one shape active e.call e.result) es
    ∙ by_call (λ xs. length xs ≡ length active) shape active refl (λ r. length-marked shape active r) e.call e.result

-- ---- an active Clock stays active

set_keeps : (xs : List Bool) (j k : ℕ) → get_or xs k false ≡ true → get_or (set xs j true) k false ≡ true
set_keeps [] j k h = h
set_keeps (x ∷ xs) zero zero h = refl
set_keeps (x ∷ xs) zero (suc k) h = h
set_keeps (x ∷ xs) (suc j) zero h = h
set_keeps (x ∷ xs) (suc j) (suc k) h = set_keeps xs j k h

marked_keeps : (shape : Shape) (active : List Bool) (a r : ℕ) → is_marked shape active r ≡ true → is_marked shape (marked shape active a) r ≡ true
marked_keeps shape active a r h = by (place_of shape.variables a) (place_of shape.variables r) h
  where
    by : (o q : Option ℕ) → option_map_or (λ place. get_or active place false) q false ≡ true → option_map_or (λ place. get_or (option_map_or (λ k. set active k true) o active) place false) q false ≡ true
    by o None h = h
    by None (Some k) h = h
    by (Some j) (Some k) h = set_keeps active j k h

pub active_keeps : (shape : Shape) (active : List Bool) (es : List Exchange) (r : ℕ) → is_marked shape active r ≡ true → is_marked shape (active_by shape active es) r ≡ true
active_keeps shape active [] r h = h
active_keeps shape active (e ∷ es) r h =
    active_keeps shape (active_one shape active e.call e.result) es r
    (by_call (λ xs. is_marked shape xs r ≡ true) shape active h (λ a. marked_keeps shape active a r h) e.call e.result)

-- ---- it becomes so

found_place : (variables : List Variable) (j r : ℕ) (v : Variable) → variable_at variables r ≡ Some v → (k : ℕ) × (position_from (λ (x : Variable). x.reference == r) j variables ≡ Some k) × (k < j + length variables)
found_place [] j r v h = absurd (none_some _ h)
found_place (x ∷ xs) j r v h =
    (elim (x.reference == r) as (λ b. (if b then Some x else variable_at xs r) ≡ Some v →
    (k : ℕ) × ((if b then Some j else position_from (λ (y : Variable). y.reference == r) (j + 1) xs) ≡ Some k) × (k < j + length (x ∷ xs))) [
      | true ↦ λ is. (j, refl, omega arith)
      | false ↦ λ is. let more = found_place xs (j + 1) r v is in (more.0, more.1, (let w = more.2 in omega (arith, w)))
    ]) h

-- a variable of the shape that is marked is so
pub marked_here : (shape : Shape) (marks : List Bool) (r : ℕ) (v : Variable) → variable_at shape.variables r ≡ Some v → length marks ≡ length shape.variables → is_marked shape (marked shape marks r) r ≡ true
marked_here shape marks r v there len =
    let found = found_place shape.variables 0 r v there in
    let place : place_of shape.variables r ≡ Some found.0 = position_from-zero (λ (x : Variable). x.reference == r) shape.variables ∙ found.1 in
    let within : found.0 < length marks = (let w = found.2 in omega (arith, w, len)) in
    ap (λ o. option_map_or (λ k. get_or (option_map_or (λ j. set marks j true) o marks) k false) o false) place ∙ get_or-set_same marks found.0 true false within

-- ---- an instance after calls that read or set

entered_active : (call : Call) → reads_or_sets call ≡ true → (shape : Shape) (phase : Phase) (reply : Reply) → (entered shape phase call reply).active ≡ active_one shape phase.active call (Ok reply)
entered_active (C.Get kind reference) h shape phase reply = refl
entered_active (C.Set kind reference value) h shape phase reply = refl
entered_active (C.GetClock reference) h shape phase reply = refl
entered_active (C.SetClock reference) h shape phase reply = refl
entered_active (C.GetInterval reference) h shape phase reply = refl
entered_active (C.GetShift reference) h shape phase reply = refl
entered_active call h shape phase reply = absurd (cc)

pub talks_active : (shape : Shape) (v w : View) (es : List Exchange) → v.fixed.shape ≡ shape → Talks v es w → All (IsQuietOf shape) es → w.phase.active ≡ active_by shape v.phase.active es
talks_active shape v w [] is t all = ap (λ (x : View). x.phase.active) t
talks_active shape v w (e ∷ es) is (mid, may, asked, rest) all =
    let head = All-head (IsQuietOf shape) e es all in
    let one = led v mid e (mid, may, asked, refl) (subst (λ (s : Shape). IsGood s e) (sym is) head.1) in
    talks_active shape mid w es (ap (λ (f : Fixed). f.shape) asked.fixed ∙ is) rest (All-tail (IsQuietOf shape) e es all)
    ∙ ap (λ xs. active_by shape xs es)
    (ap (λ (x : Phase). x.active) one.phase ∙ entered_active e.call head.0 v.fixed.shape (counted v.phase e.call) one.reply
    ∙ ap (λ (s : Shape). active_one s v.phase.active e.call (Ok one.reply)) is ∙ ap (active_one shape v.phase.active e.call) (sym one.is))

-- ---- one of some

pub any_from : {X : Type 0} (test : X → Bool) (xs : List X) (x : X) → Contains xs x → test x ≡ true → list_any test xs ≡ true
any_from {X} test xs x among h = let at = contains_at xs x among in by xs at.0 at.1
  where
    or_right : (a b : Bool) → b ≡ true → (a || b) ≡ true
    or_right true b e = refl
    or_right false b e = e

    by : (ys : List X) (k : ℕ) → slice_get ys k ≡ Some x → list_any test ys ≡ true
    by [] k is = absurd (none_some _ is)
    by (y ∷ ys) zero is = ap (λ b. b || list_any test ys) (ap test (same_Some _ _ is) ∙ h)
    by (y ∷ ys) (suc k) is = or_right (test y) (list_any test ys) (by ys k is)

pub any_some : {X : Type 0} (test : X → Bool) (xs : List X) → list_any test xs ≡ true → (k : ℕ) × (x : X) × (slice_get xs k ≡ Some x) × (test x ≡ true)
any_some test [] h = absurd (true_false (sym h))
any_some {X} test (y ∷ ys) h =
    (elim (test y) as (λ b. test y ≡ b → (b || list_any test ys) ≡ true → (k : ℕ) × (x : X) × (slice_get (y ∷ ys) k ≡ Some x) × (test x ≡ true)) [
      | true ↦ λ e t. (0, y, refl, e)
      | false ↦ λ e t. let more = any_some test ys t in (suc more.0, more.1, more.2, more.3)
    ]) refl h
