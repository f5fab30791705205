-- The walk over the parts of ports and of components.
use Rattle.std.proofs.Common.{◌≡◌, ℕ, suc, ◌+◌, ◌-◌, ◌<◌, ◌≤◌, ◌^◌, Bool, true, false, List, [], ◌∷◌, ◌++◌, length, take, drop, get_or, sym, subst, arith}
use Rattle.std.specs.Prelude.{if◌then◌else◌, Some, None}
use Rattle.std.proofs.Math.Seq.{drop-cons}
use Rattle.std.proofs.lemmas.List.{drop-drop, drop_all, length-drop, take_all}
use Rattle.system_model.specs.declared.system.Component.{Component}
use Rattle.system_model.specs.declared.system.Port.{Port}
use Rattle.exact_parts.specs.declared.taken.Taken.{Taken}
use Rattle.exact_parts.specs.declared.taken.Taken.TheVariants.{Got, NeedMore, Bad}
use Rattle.exact_parts.specs.Taking.{After, AreSingle, Breaks, Gets, IsPrefix, Takes, moved}
use Rattle.exact_parts.specs.Field.{IsSane}
use Rattle.exact_parts.specs.Each.{Each}
use Rattle.exact_parts.proofs.CallerLemmas.{Goes, HasSome, LeadsTo, each_single, goes_at_first, goes_bad, goes_end, goes_more, goes_on, kept_single, led_bad, led_more}
use Rattle.system_checkpoint.specs.declared.snapshot.Arming.TheVariants.{NoClock}
use Rattle.system_checkpoint.specs.declared.snapshot.Snapshot.{Snapshot}
use Rattle.system_checkpoint.specs.Parts.{Optional, Times, arming_of, between, words}
use Rattle.system_checkpoint.specs.Whole.{ArmingIf, ArmingOf, EventOf, StateOf, TimesIf, TimesOf, WordOf, is_asked, may_be_armed}
use Rattle.system_checkpoint.proofs.PartLemmas.{made_some, then_takes, nothing_single, nothing_some, optional_single, optional_some, sane_8, state_single, state_some, times_single, times_some, words_sane}

-- ---- one after another

tail_of : (bytes : List ℕ) (n : ℕ) → take (length bytes - n) (drop n bytes) ≡ drop n bytes
tail_of bytes n = take_all _ _ (omega (arith, length-drop n bytes))

-- so far the walk has come: the values of the things before this place stand in the bytes before n
pub record Walks {A V : Type 0} (part : A → V → List ℕ → Type 0) (things : List A) (bytes : List ℕ) (values : List V) (place n : ℕ) : Type 0 where
  pub within : n ≤ length bytes
  pub goes : Goes part things [] (drop place things) bytes values n (drop n bytes)

pub walk_begins : {A V : Type 0} (part : A → V → List ℕ → Type 0) (things : List A) (bytes : List ℕ) → Walks part things bytes [] 0 0
walk_begins part things bytes = record { within = omega arith; goes = goes_at_first part things [] bytes }

module _ {A V : Type 0} (part : A → V → List ℕ → Type 0) (single : (a : A) → AreSingle (part a)) (some : (a : A) → HasSome (part a)) (things : List A) (bytes : List ℕ) (values : List V) (place n : ℕ) (thing : A) (is : thing ≡ get_or things place thing) (lt : place < length things) (walks : Walks part things bytes values place n) where
  here : Goes part things [] (thing ∷ drop (suc place) things) bytes values n (drop n bytes)
  here =
      subst (λ x. Goes part things [] (x ∷ drop (suc place) things) bytes values n (drop n bytes)) (sym is)
      (subst (λ left. Goes part things [] left bytes values n (drop n bytes)) (drop-cons things place thing lt) walks.goes)

  pub each_more : IsPrefix (part thing) (take (length bytes - n) (drop n bytes)) → Takes (Each part things) bytes NeedMore
  each_more prefix = goes_more part some things [] thing (drop (suc place) things) bytes values n (drop n bytes) here (subst (IsPrefix (part thing)) (tail_of bytes n) prefix)

  pub each_bad : (at : ℕ) → Breaks (part thing) (take (length bytes - n) (drop n bytes)) at → Takes (Each part things) bytes (Bad (n + at))
  each_bad at breaks = goes_bad part single some things [] thing (drop (suc place) things) bytes values n (drop n bytes) at here (subst (λ xs. Breaks (part thing) xs at) (tail_of bytes n) breaks)

  goes_further : (v : V) (m : ℕ) (more : List V) → more ≡ values ++ v ∷ [] → Gets (part thing) (drop n bytes) v m → Goes part things [] (drop (place + 1) things) bytes more (n + m) (drop (n + m) bytes)
  goes_further v m more e there =
      let on = goes_on part single things [] thing (drop (suc place) things) bytes values n (drop n bytes) v m here there in
      let next : suc place ≡ place + 1 = omega arith in
      let rest : drop m (drop n bytes) ≡ drop (n + m) bytes = drop-drop m n bytes in
      subst (λ xs. Goes part things [] (drop (place + 1) things) bytes xs (n + m) (drop (n + m) bytes)) (sym e)
      (subst (λ xs. Goes part things [] (drop (place + 1) things) bytes (values ++ v ∷ []) (n + m) xs) rest
      (subst (λ k. Goes part things [] (drop k things) bytes (values ++ v ∷ []) (n + m) (drop m (drop n bytes))) next on))

  pub each_on : (v : V) (m : ℕ) (more : List V) → more ≡ values ++ v ∷ [] → Gets (part thing) (take (length bytes - n) (drop n bytes)) v m → Walks part things bytes more (place + 1) (n + m)
  each_on v m more e got =
      let there : Gets (part thing) (drop n bytes) v m = subst (λ xs. Gets (part thing) xs v m) (tail_of bytes n) got in
      record { within = omega (arith, walks.within, there.within, length-drop n bytes); goes = goes_further v m more e there }

pub each_done : {A V : Type 0} (part : A → V → List ℕ → Type 0) (things : List A) (bytes : List ℕ) (values : List V) (place n : ℕ) → length things ≤ place → Walks part things bytes values place n → Takes (Each part things) bytes (Got values n)
each_done part things bytes values place n le walks =
    goes_end part things [] bytes values n (drop n bytes) (subst (λ left. Goes part things [] left bytes values n (drop n bytes)) (drop_all place things le) walks.goes)

-- ---- all of them, and what comes after

module _ {A V W : Type 0} (part : A → V → List ℕ → Type 0) (single : (a : A) → AreSingle (part a)) (things given : List A) (same : given ≡ things) (next : List V → W → List ℕ → Type 0) (bytes : List ℕ) where
  pub all_then : (values : List V) (n : ℕ) (rest answer : Taken W) → Gets (Each part given) bytes values n → Takes (next values) (take (length bytes - n) (drop n bytes)) rest → answer ≡ moved n rest → Takes (After (Each part things) next) bytes answer
  all_then values n rest answer got h is =
      then_takes (Each part things) next (each_single part single things []) bytes values n rest answer (subst (λ xs. Gets (Each part xs) bytes values n) same got) h is

  pub all_more : LeadsTo (Each part things) next → IsPrefix (Each part given) bytes → IsPrefix (After (Each part things) next) bytes
  all_more leads prefix = led_more (Each part things) next leads bytes (subst (λ xs. IsPrefix (Each part xs) bytes) same prefix)

  pub all_bad : LeadsTo (Each part things) next → (at : ℕ) → Breaks (Each part given) bytes at → Breaks (After (Each part things) next) bytes at
  all_bad leads at breaks = led_bad (Each part things) next (each_single part single things []) leads bytes at (subst (λ xs. Breaks (Each part xs) bytes at) same breaks)

-- ---- the parts

pub state_of_single : (component : Component) → AreSingle (StateOf component)
state_of_single component = state_single

pub state_of_some : (component : Component) → HasSome (StateOf component)
state_of_some component = state_some

pub word_of_single : (port : Port) → AreSingle (WordOf port)
word_of_single port = optional_single 1 (words port.kind)

pub word_of_some : (port : Port) → HasSome (WordOf port)
word_of_some port = optional_some 1 (words port.kind) (words_sane port.kind)

times_if_single : (asked : Bool) → AreSingle (TimesIf asked)
times_if_single true = kept_single Times Some times_single
times_if_single false = nothing_single None

times_if_some : (asked : Bool) → HasSome (TimesIf asked)
times_if_some true = made_some Times Some times_some
times_if_some false = nothing_some None

pub times_of_single : (port : Port) → AreSingle (TimesOf port)
times_of_single port = times_if_single (is_asked port.role)

pub times_of_some : (port : Port) → HasSome (TimesOf port)
times_of_some port = times_if_some (is_asked port.role)

arming_if_single : (low high : ℕ) (may : Bool) → AreSingle (ArmingIf low high may)
arming_if_single low high true = kept_single (Optional 1 (between low high)) arming_of (optional_single 1 (between low high))
arming_if_single low high false = nothing_single NoClock

pub span_sane : (low high : ℕ) → low ≤ high → high ≤ 2 ^ 62 → IsSane 8 (between low high)
span_sane low high le small = sane_8 low high le (omega (arith, le, small))

arming_if_some : (low high : ℕ) → low ≤ high → high ≤ 2 ^ 62 → (may : Bool) → HasSome (ArmingIf low high may)
arming_if_some low high le small true = made_some (Optional 1 (between low high)) arming_of (optional_some 1 (between low high) (span_sane low high le small))
arming_if_some low high le small false = nothing_some NoClock

pub arming_of_single : (held : Snapshot) (port : Port) → AreSingle (ArmingOf held port)
arming_of_single held port = arming_if_single (held.point + 1) held.plan.stop (may_be_armed port.role)

-- the stop is after the point, and its number isn't too great
pub record IsBefore (point stop : ℕ) : Type 0 where
  pub before : point < stop
  pub near : stop ≤ 2 ^ 62

pub arming_of_some : (held : Snapshot) → IsBefore held.point held.plan.stop → (port : Port) → HasSome (ArmingOf held port)
arming_of_some held h port = arming_if_some (held.point + 1) held.plan.stop (omega (arith, h.before)) h.near (may_be_armed port.role)

abbrev flag_of : Component → ℕ
flag_of component = if component.shape.has_event_mode then 1 else 0

pub event_of_single : (held : Snapshot) (component : Component) → AreSingle (EventOf held component)
event_of_single held component = optional_single (flag_of component) (between (held.point + 1) held.plan.stop)

pub event_of_some : (held : Snapshot) → IsBefore held.point held.plan.stop → (component : Component) → HasSome (EventOf held component)
event_of_some held h component = optional_some (flag_of component) (between (held.point + 1) held.plan.stop) (span_sane (held.point + 1) held.plan.stop (omega (arith, h.before)) h.near)
