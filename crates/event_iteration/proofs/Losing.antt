-- The least port on the way to which a value is lost, one port after another.
use Rattle.std.proofs.Common.{◌≡◌, ℕ, zero, suc, ◌+◌, ◌-◌, ◌<◌, ◌≤◌, ℤ, Bool, true, false, ◌&&◌, not, cond, List, [], ◌∷◌, Option, Some, None, get_or, length, refl, sym, ap, ◌∙◌, subst, arith, below_more}
use Rattle.std.specs.Prelude.{is_some, nat_lt}
use Rattle.std.specs.Option.{option_map}
use Rattle.std.specs.List.{list_any, position, position_or_len, slice_get}
use Rattle.std.proofs.lemmas.Bool.{false≢true, lt-ltb, ltb-false}
use Rattle.std.proofs.lemmas.List.Elements.{All-from_get_or}
use Rattle.std.proofs.lemmas.List.Folds.{list_any_none}
use Rattle.std.proofs.lemmas.List.Sums.{position_or_len_is}
use Rattle.std.proofs.lemmas.Option.{get_or_from_slice_get, same_Some, slice_get-get_or, slice_get_within}
use Rattle.system_model.specs.Ports.{feed_of}
use Rattle.system_model.specs.declared.system.Feed.{Feed}
use Rattle.system_model.specs.declared.system.Port.{Port}
use Rattle.system_model.specs.declared.system.Role.{Role}
use Rattle.system_model.specs.declared.system.Role.TheVariants.{Input, Output, ClockInput, ClockOutput, TimeClock}
use Rattle.system_model.specs.declared.system.System.{System}
use Rattle.system_model.specs.Sound.{IsSound}
use Rattle.system_model.specs.Needs.{is_unclocked, is_unclocked_at}
use Rattle.system_model.specs.Values.{is_present}
use Rattle.run_model.specs.Equations.{fed, is_bad, is_lost, source_value}
use Rattle.run_model.specs.Initial.{is_bad_initially}
use Rattle.run_model.specs.Machines.{AreFitting}
use Rattle.run_model.proofs.CallerLemmas.{both, good_unchanged}
use Rattle.event_iteration.specs.Lost.{FindsLost, IsLostAt}
use Rattle.event_iteration.specs.Participants.{AreSkips, LacksAt, is_changed_input}
use Rattle.event_iteration.specs.Settings.{port_order}
use Rattle.event_iteration.specs.declared.lost.LostValue.{LostValue}
use Rattle.event_iteration.proofs.Fmus.{got}
use Rattle.event_iteration.proofs.Setting.{port_number}

-- no port before this one is such
abbrev pub NoneBefore : (Port → Bool) → List Port → ℕ → Type 0
NoneBefore test ports p = (k : ℕ) (d : Port) → k < p → test (get_or ports k d) ≡ false

pub none_yet : (test : Port → Bool) (ports : List Port) → NoneBefore test ports 0
none_yet test ports = λ k d l. absurd (omega (arith, l))

-- what is read at a place is so for each other value past the end
pub read_any : (ports : List Port) (p : ℕ) (port d : Port) → p < length ports → port ≡ get_or ports p port → port ≡ get_or ports p d
read_any ports p port d within read = sym (get_or_from_slice_get ports p port d (slice_get-get_or ports p port within ∙ ap Some (sym read)))

pub none_more : (test : Port → Bool) (ports : List Port) (p : ℕ) (port : Port) → ((d : Port) → port ≡ get_or ports p d) → test port ≡ false → NoneBefore test ports p → NoneBefore test ports (p + 1)
none_more test ports p port read good was = λ k d l. below_more (λ (j : ℕ). test (get_or ports j d) ≡ false) p (λ j m. was j d m) (ap test (sym (read d)) ∙ good) k l

pub none_there : (test : Port → Bool) (ports : List Port) (p : ℕ) → length ports ≤ p → NoneBefore test ports p → list_any test ports ≡ false
none_there test [] p whole none = refl
none_there test (x ∷ xs) p whole none = list_any_none test (x ∷ xs) (All-from_get_or (λ (y : Port). test y ≡ false) (x ∷ xs) x (λ k l. none k x (omega (arith, l, whole))))

first_there : (test : Port → Bool) (ports : List Port) (p : ℕ) (port : Port) → p < length ports → port ≡ get_or ports p port → test port ≡ true → NoneBefore test ports p → position test ports ≡ Some p
first_there test ports p port within read bad none =
    let at : position_or_len test ports ≡ p = position_or_len_is test ports p port (omega (arith, within)) (λ k l. none k port l) (λ l. ap test (sym read) ∙ bad) in
    ap (λ (z : ℕ). cond (nat_lt z (length ports)) (Some z) None) at ∙ ap (λ (b : Bool). cond b (Some p) None) (lt-ltb p (length ports) within)

-- ---- such a port has a source with a value

pub record HasSource (port : Port) (values : List (Option ℤ)) : Type 0 where
  pub feed : Feed
  pub fed_by : feed_of port.role ≡ Some feed
  pub came : ℤ
  pub value : source_value feed values ≡ Some came

some_of : (o : Option ℤ) → is_some o ≡ true → (x : ℤ) × (o ≡ Some x)
some_of None is = absurd (false≢true is)
some_of (Some x) is = (x, refl)

lost_source : (port : Port) (values : List (Option ℤ)) (feed : Feed) → feed_of port.role ≡ Some feed → is_lost port.kind feed values ≡ true → HasSource port values
lost_source port values feed by lost =
    let came = some_of (source_value feed values) (both (is_some (source_value feed values)) (not (is_some (fed port.kind feed values))) lost).0 in
    record { feed = feed; fed_by = by; came = came.0; value = came.1 }

pub bad_source : (port : Port) (values : List (Option ℤ)) → is_bad values port ≡ true → HasSource port values
bad_source port values bad = by port.role refl bad
  where
    by : (role : Role) → port.role ≡ role → is_bad values (record port { role = role }) ≡ true → HasSource port values
    by (Input None) e h = absurd (false≢true h)
    by (Input (Some feed)) e h = lost_source port values feed (ap feed_of e) (both (is_present (record port { role = Input (Some feed) }) values) (is_lost port.kind feed values) h).1
    by Output e h = absurd (false≢true h)
    by (ClockInput feed) e h = absurd (false≢true h)
    by ClockOutput e h = absurd (false≢true h)
    by (TimeClock timing) e h = absurd (false≢true h)

pub bad_source_initially : (system : System) (port : Port) (values : List (Option ℤ)) → is_bad_initially system values port ≡ true → HasSource port values
bad_source_initially system port values bad = by port.role refl bad
  where
    by : (role : Role) → port.role ≡ role → is_bad_initially system values (record port { role = role }) ≡ true → HasSource port values
    by (Input None) e h = absurd (false≢true h)
    by (Input (Some feed)) e h = lost_source port values feed (ap feed_of e) (both (is_unclocked (record port { role = Input (Some feed) }) && is_unclocked_at system.ports feed.from.0) (is_lost port.kind feed values) h).1
    by Output e h = absurd (false≢true h)
    by (ClockInput feed) e h = absurd (false≢true h)
    by ClockOutput e h = absurd (false≢true h)
    by (TimeClock timing) e h = absurd (false≢true h)

-- what is told of it is found
pub finds_lost : (test : Port → Bool) (ports : List Port) (values : List (Option ℤ)) (p : ℕ) (port : Port) (lost : Option LostValue) → p < length ports → port ≡ get_or ports p port → test port ≡ true → HasSource port values → NoneBefore test ports p → IsLostAt ports p values lost → FindsLost test ports values lost
finds_lost test ports values p port lost within read bad source none told =
    let at : slice_get ports p ≡ Some port = slice_get-get_or ports p port within ∙ ap Some (sym read) in
    subst (FindsLost test ports values) (sym (told port source.feed source.came at source.fed_by source.value))
    (record { first = first_there test ports p port within read bad none; target = port; at = at; feed = source.feed; fed = source.fed_by; value = source.value })

-- a walk over the ports, which are lent: such a port ends it, and another is passed
module _ (test : Port → Bool) (ports : List Port) {lent : List Port} (p : ℕ) (port : Port) (same : lent ≡ ports) (l : p < length lent) (is : port ≡ get_or lent p port) (none : NoneBefore test ports p) where
  within : p < length ports
  within = subst (λ (ps : List Port). p < length ps) same l

  read : port ≡ get_or ports p port
  read = is ∙ ap (λ (ps : List Port). get_or ps p port) same

  pub ends_at : (values : List (Option ℤ)) (lost : Option LostValue) → test port ≡ true → HasSource port values → IsLostAt lent p values lost → FindsLost test ports values lost
  ends_at values lost bad source told = finds_lost test ports values p port lost within read bad source none (subst (λ (ps : List Port). IsLostAt ps p values lost) same told)

  pub goes_past : test port ≡ false → NoneBefore test ports (p + 1)
  goes_past good = none_more test ports p port (λ d. read_any ports p port d within read) good none

abbrev pub lost_at : ℕ → ℤ → LostValue
lost_at p x = record { port = record { 0 = p }; value = x }

-- what is lost at a port, from the value before it
pub told_of : (ports : List Port) (p : ℕ) (values : List (Option ℤ)) (port : Port) (before : Option ℤ) → slice_get ports p ≡ Some port → ((feed : Feed) → feed_of port.role ≡ Some feed → before ≡ source_value feed values) →
    IsLostAt ports p values (option_map (lost_at p) before)
told_of ports p values port before here is = λ target feed x at by came.
    ap (option_map (lost_at p)) (is feed (ap (λ (y : Port). feed_of y.role) (same_Some port target (sym here ∙ at)) ∙ by) ∙ came)

-- ---- inputs that are passed

empty : {A : Type 0} (xs : List A) → nat_lt 0 (length xs) ≡ false → xs ≡ []
empty [] none = refl
empty (x ∷ xs) none = absurd (let few = ltb-false 0 (length (x ∷ xs)) none in omega (arith, few))

unchanged : (role : Role) (feed : Feed) → is_changed_input role ≡ false → role ≡ Input (Some feed) → feed.changes ≡ []
unchanged role feed none is = empty feed.changes (sym (ap is_changed_input is) ∙ none)

module _ (system : System) (sound : IsSound system) (next : List ℕ) (skips : AreSkips (length system.ports) (LacksAt system (port_order system) (λ (port : Port). is_changed_input port.role)) next) (values : List (Option ℤ)) (fits : AreFitting system values) where
  -- the path to none of them makes a change
  none_passed : (k m : ℕ) → k + m ≤ length system.ports → k + m ≤ get_or next k k → NoneBefore (is_bad values) system.ports k → NoneBefore (is_bad values) system.ports (k + m)
  none_passed k zero within up_to none = subst (NoneBefore (is_bad values) system.ports) (let e : k ≡ k + 0 = omega arith in e) none
  none_passed k (suc m) within up_to none =
      let p = k + m in
      let lt : p < length system.ports = omega (arith, within) in
      let port = got system.ports p lt in
      let other = skips.out_between k p (omega arith) (omega (arith, up_to)) p port.0 (port_number system p lt) port.1 in
      subst (NoneBefore (is_bad values) system.ports) (let e : k + m + 1 ≡ k + suc m = omega arith in e)
      (none_more (is_bad values) system.ports p port.0 (λ d. sym (get_or_from_slice_get system.ports p port.0 d port.1)) (good_unchanged system sound p port.0 port.1 (λ feed is. unchanged port.0.role feed other is) values fits)
      (none_passed k m (omega (arith, within)) (omega (arith, up_to)) none))

  -- up to the next that is looked at
  pub none_up_to : (k p : ℕ) → k ≤ length system.ports → p ≡ get_or next k k → NoneBefore (is_bad values) system.ports k → NoneBefore (is_bad values) system.ports p
  none_up_to k p within is none =
      let low = skips.after k in
      let high = skips.within k within in
      let more : k + (p - k) ≡ p = omega (arith, is, low) in
      subst (NoneBefore (is_bad values) system.ports) more (none_passed k (p - k) (omega (arith, more, is, high)) (omega (arith, more, is)) none)
