-- Good answers that may come, of an instance whose machine isn't told: so a call that is permitted after any of them may be asked after the others.
use Rattle.std.proofs.Common.{◌≡◌, ℕ, ◌<◌, Bool, List, [], ◌∷◌, ◌++◌, Option, Some, None, Result, Ok, Err, refl, sym, ap, ◌∙◌, subst, arith, length, map, get_or, set}
use Rattle.std.specs.Prelude.{MatchResult, if◌then◌else◌, ◌||◌}
use Rattle.std.specs.Result.{result_ok}
use Rattle.std.proofs.lemmas.Bool.{eq-eqb, ne_eqb}
use Rattle.std.proofs.lemmas.List.{get_or-set_other, get_or-set_same, get_or_default, length-map, length-set}
use Rattle.std.proofs.lemmas.List.Elements.{All-cons, All-head, All-nil, All-tail}
use Rattle.sim_base.specs.Causes.{HasCause}
use Rattle.value_types.specs.declared.shape.Shape.{Shape}
use Rattle.fmi_calls.specs.declared.call.Call.{Call}
use Rattle.fmi_calls.specs.declared.call.Grade.TheVariants as G
use Rattle.fmi_calls.specs.declared.call.Reply.{Reply}
use Rattle.fmi_calls.specs.declared.phase.Phase.{Phase}
use Rattle.fmi_calls.specs.Next.{next_of}
use Rattle.fmi_calls.specs.Permission.{Permitted}
use Rattle.fmi_calls.specs.Worth.{grade_of}
use Rattle.fmu_peer.specs.declared.peer.Exchange.{Exchange}
use Rattle.fmu_peer.specs.declared.peer.PeerFault.{PeerFault}
use Rattle.fmu_peer.specs.Close.{any_fatal}
use Rattle.fmu_peer.specs.CloseAll.{Instance}
use Rattle.fmu_peer.specs.Many.{MayAskAll}
use Rattle.fmu_peer.specs.Talk.{AllGood, IsGood, calls_in, next_by, phase_from}
use Rattle.fmu_peer.specs.View.{Fixed, Origin, View, talked}
use Rattle.slot_calls.specs.Log.{Has, Sent, Talks, Told, part}
use Rattle.slot_calls.specs.SavedStates.{saved_after}
use Rattle.slot_calls.proofs.CallerLemmas.{has_none, map_at}
use Rattle.event_iteration.specs.Waits.{sents, untold}
use Rattle.event_iteration.proofs.Walking.{by_number}

-- ---- where machines aren't told

abbrev bare : View → View
bare v = record v { fixed = record v.fixed { machine = None }; state = None }

talks_bare : (v w : View) (es : List Exchange) → Talks v es w → Talks (bare v) es (bare w)
talks_bare v w [] t = ap bare t
talks_bare v w (e ∷ es) (mid, may, asked, rest) = (
  bare mid,
  may,
  record { fixed = ap (λ (f : Fixed). record f { machine = None }) asked.fixed; phase = asked.phase; talk = asked.talk; state = refl; cause = asked.cause },
  talks_bare mid w es rest,
)

has_untold : (x y : Instance) (es : List Exchange) → Has x es y → Has (untold x) es (untold y)
has_untold x y es h = record { talks = talks_bare x.view y.view es h.talks; source = h.source; saved = h.saved; fatal = h.fatal }

pub told_untold : (log : List Sent) (olds news : List Instance) → Told log olds news → Told log (map untold olds) (map untold news)
told_untold log olds news told = record {
  len = length-map news untold ∙ told.len ∙ sym (length-map olds untold);
  each = λ i d w.
      let within : i < length olds = (let e = length-map olds untold in omega (arith, e, w)) in
      let after : i < length news = (let e = told.len in omega (arith, e, within)) in
      let old = map_at untold olds i (get_or olds i d) d within (get_or_default olds i d (get_or olds i d) within) in
      let new = map_at untold news i (get_or news i d) d after (get_or_default news i d (get_or news i d) after) in
      subst (λ (y : Instance). Has (get_or (map untold olds) i d) (part i log) y) new
      (subst (λ (x : Instance). Has x (part i log) (untold (get_or news i d))) old
      (has_untold (get_or olds i d) (get_or news i d) (part i log) (told.each i d within)));
}

-- ---- several exchanges with one of them

part_own : (i : ℕ) (es : List Exchange) → part i (sents i es) ≡ es
part_own i [] = refl
part_own i (e ∷ es) = ap (λ (b : Bool). if b then e ∷ part i (sents i es) else part i (sents i es)) (eq-eqb i i refl) ∙ ap (λ (l : List Exchange). e ∷ l) (part_own i es)

part_other : (i k : ℕ) (es : List Exchange) → (k ≡ i → ⊥) → part i (sents k es) ≡ []
part_other i k [] other = refl
part_other i k (e ∷ es) other = ap (λ (b : Bool). if b then e ∷ part i (sents k es) else part i (sents k es)) (ne_eqb k i other) ∙ part_other i k es other

module _ (xs : List Instance) (k : ℕ) (x y : Instance) (es : List Exchange) (within : k < length xs) (is : x ≡ get_or xs k x) (h : Has x es y) where
  several_each : (i : ℕ) (d : Instance) → i < length xs → Has (get_or xs i d) (part i (sents k es)) (get_or (set xs k y) i d)
  several_each i d w = by_number i k
      (λ same.
      let old : x ≡ get_or xs i d = is ∙ get_or_default xs k x d within ∙ ap (λ (n : ℕ). get_or xs n d) (sym same) in
      let new : y ≡ get_or (set xs k y) i d = sym (get_or-set_same xs k y d within) ∙ ap (λ (n : ℕ). get_or (set xs k y) n d) (sym same) in
      let own : es ≡ part i (sents k es) = sym (part_own k es) ∙ ap (λ (n : ℕ). part n (sents k es)) (sym same) in
      subst (λ (a : Instance). Has a (part i (sents k es)) (get_or (set xs k y) i d)) old
      (subst (λ (b : Instance). Has x (part i (sents k es)) b) new
      (subst (λ (l : List Exchange). Has x l y) own h)))
      (λ other.
      let new : get_or xs i d ≡ get_or (set xs k y) i d = sym (get_or-set_other xs k i y d other) in
      let none : [] ≡ part i (sents k es) = sym (part_other i k es (λ q. other (sym q))) in
      subst (λ (b : Instance). Has (get_or xs i d) (part i (sents k es)) b) new
      (subst (λ (l : List Exchange). Has (get_or xs i d) l (get_or xs i d)) none (has_none (get_or xs i d))))

  pub told_several : Told (sents k es) xs (set xs k y)
  told_several = record { len = length-set xs k y; each = several_each }

-- ---- answers that may come

abbrev view_of : Shape → Option Origin → Phase → Option (List Exchange) → ℕ → View
view_of shape origin phase talk faults = record {
  fixed = record { shape = shape; origin = origin; machine = None };
  phase = phase;
  talk = talk;
  state = None;
  faults = faults;
}

no_fault : (shape : Shape) (e : Exchange) (faults : ℕ) (r : Result Reply PeerFault) → MatchResult r (λ (reply : Reply). grade_of shape e.call reply ≡ G.Good) (λ (fault : PeerFault). ⊥) → HasCause faults faults r
no_fault shape e faults (Ok reply) good = record { later = omega arith; quiet = refl; rose = tt }
no_fault shape e faults (Err fault) good = absurd good

goes_on : (shape : Shape) (phase : Phase) (e : Exchange) (cs : List Call) (r : Result Reply PeerFault) → MatchResult r (λ (reply : Reply). grade_of shape e.call reply ≡ G.Good) (λ (fault : PeerFault). ⊥) →
    ((reply : Reply) → grade_of shape e.call reply ≡ G.Good → MayAskAll shape (next_of shape phase e.call (Some reply)) cs) → MayAskAll shape (next_of shape phase e.call (result_ok r)) cs
goes_on shape phase e cs (Ok reply) good next = next reply good
goes_on shape phase e cs (Err fault) good next = absurd good

comes : (shape : Shape) (origin : Option Origin) (phase : Phase) (talk : Option (List Exchange)) (faults : ℕ) (es : List Exchange) → MayAskAll shape phase (calls_in es) → AllGood shape es →
    (after : Option (List Exchange)) × Talks (view_of shape origin phase talk faults) es (view_of shape origin (phase_from shape phase es) after faults)
comes shape origin phase talk faults [] may good = (talk, refl)
comes shape origin phase talk faults (e ∷ es) may good =
    let here : IsGood shape e = All-head (IsGood shape) e es good in
    let rest = comes shape origin (next_by shape phase e) (talked talk e.call e.result) faults es (goes_on shape phase e (calls_in es) e.result here may.1) (All-tail (IsGood shape) e es good) in (
      rest.0,
      (
        view_of shape origin (next_by shape phase e) (talked talk e.call e.result) faults,
        may.0,
        record { fixed = refl; phase = refl; talk = refl; state = refl; cause = no_fault shape e faults e.result here },
        rest.1,
      ),
    )

-- the instance after them
pub record After (x : Instance) (es : List Exchange) : Type 0 where
  pub next : Instance
  pub has : Has (untold x) es next
  pub shape : next.view.fixed.shape ≡ x.view.fixed.shape
  pub phase : next.view.phase ≡ phase_from x.view.fixed.shape x.view.phase es

pub after : (x : Instance) (es : List Exchange) → MayAskAll x.view.fixed.shape x.view.phase (calls_in es) → AllGood x.view.fixed.shape es → After x es
after x es may good =
    let shape = x.view.fixed.shape in
    let answers = comes shape x.view.fixed.origin x.view.phase x.view.talk x.view.faults es may good in
    record {
      next = record {
        source = x.source;
        view = view_of shape x.view.fixed.origin (phase_from shape x.view.phase es) answers.0 x.view.faults;
        has_saved = saved_after shape x.has_saved es;
        is_fatal = x.is_fatal || any_fatal shape es;
        is_closed = x.is_closed;
      };
      has = record { talks = answers.1; source = refl; saved = refl; fatal = refl };
      shape = refl;
      phase = refl;
    }

-- one more may be asked after the others, where it is permitted after any good answers to them
pub may_push : (shape : Shape) (phase : Phase) (cs : List Call) (c : Call) → MayAskAll shape phase cs → ((es : List Exchange) → calls_in es ≡ cs → AllGood shape es → Permitted shape (phase_from shape phase es) c) → MayAskAll shape phase (cs ++ c ∷ [])
may_push shape phase [] c may permitted = (permitted [] refl (All-nil (IsGood shape)), λ reply good. tt)
may_push shape phase (x ∷ cs) c may permitted = (
  may.0,
  λ reply good. may_push shape (next_of shape phase x (Some reply)) cs c (may.1 reply good) (λ es is all.
      permitted (record { call = x; result = Ok reply } ∷ es) (ap (λ (l : List Call). x ∷ l) is) (All-cons (IsGood shape) (record { call = x; result = Ok reply }) es good all)),
)
