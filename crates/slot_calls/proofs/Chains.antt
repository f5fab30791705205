-- Several calls to one instance, one after the other, and what they are but for its machine.
use Rattle.std.proofs.Common.{◌≡◌, ◌<◌, List, [], ◌∷◌, ◌++◌, Ok, Err, Result, sym, ap, ap₂, ◌∙◌, subst, length, map, get_or}
use Rattle.std.specs.Prelude.{All}
use Rattle.std.proofs.lemmas.List.{get_or-map, length-map}
use Rattle.std.proofs.lemmas.List.Elements.{All-cons, All-nil}
use Rattle.value_types.specs.declared.shape.Shape.{Shape}
use Rattle.fmi_calls.specs.declared.call.Call.{Call}
use Rattle.fmi_calls.specs.declared.call.Reply.{Reply}
use Rattle.fmi_calls.specs.Worth.{grade_of}
use Rattle.fmu_peer.specs.declared.ended.Why.{Why}
use Rattle.fmu_peer.specs.declared.peer.Exchange.{Exchange}
use Rattle.fmu_peer.specs.Answer.{Answered, Failed, IsWhy}
use Rattle.fmu_peer.specs.CloseAll.{Instance}
use Rattle.fmu_peer.specs.Talk.{AllGood, IsGood}
use Rattle.fmu_peer.specs.View.{Asked, Fixed, View, without_machine}
use Rattle.fmu_peer.proofs.CallerLemmas.{asked_without, good_answered, why_failed}
use Rattle.slot_calls.specs.Keeping.{AnswersUntil, no_value, without_machine_in}
use Rattle.slot_calls.specs.Log.{Has, One, Sent, StopsAfter, Talks, Told, part}
use Rattle.slot_calls.proofs.Leading.{led}
use Rattle.slot_calls.proofs.Logs.{has_on, talks_fixed}

-- ---- but for the machine

talks_without : (v : View) (es : List Exchange) (w : View) → Talks v es w → Talks (without_machine v) es (without_machine w)
talks_without v [] w t = ap without_machine t
talks_without v (e ∷ es) w (mid, may, asked, rest) = (without_machine mid, may, asked_without v mid e.call e.result asked, talks_without mid es w rest)

has_without : (a : Instance) (es : List Exchange) (b : Instance) → Has a es b → Has (without_machine_in a) es (without_machine_in b)
has_without a es b h = record { talks = talks_without a.view es b.view h.talks; source = h.source; saved = h.saved; fatal = h.fatal }

pub one_without : {T : Type 0} (call : Call) (value : Exchange → T) (a b : Instance) (r : Result T Why) → One call value a b r → One call value (without_machine_in a) (without_machine_in b) r
one_without call value a b r o = record { exchange = o.exchange; is = o.is; has = has_without a (o.exchange ∷ []) b o.has; worth = o.worth }

pub told_without : (log : List Sent) (olds news : List Instance) → Told log olds news → Told log (map without_machine_in olds) (map without_machine_in news)
told_without log olds news told = record {
  len = length-map news without_machine_in ∙ told.len ∙ sym (length-map olds without_machine_in);
  each = λ i d w.
      let within : i < length olds = subst (λ n. i < n) (length-map olds without_machine_in) w in
      let there : i < length news = subst (λ n. i < n) (sym told.len) within in
      subst (λ (x : Instance). Has x (part i log) (get_or (map without_machine_in news) i d)) (sym (get_or-map without_machine_in olds i d d within))
      (subst (λ (y : Instance). Has (without_machine_in (get_or olds i d)) (part i log) y) (sym (get_or-map without_machine_in news i d d there))
      (has_without (get_or olds i d) (part i log) (get_or news i d) (told.each i d within)));
}

-- ---- a call, and those after it

module _ (c : Call) (a b : Instance) where
  shape_on : (es : List Exchange) → Has a es b → b.view.fixed.shape ≡ a.view.fixed.shape
  shape_on es h = ap (λ (f : Fixed). f.shape) (talks_fixed a.view es b.view h.talks)

  -- it isn't answered well
  pub until_bad : (cs : List Call) (why : Why) → One c no_value a b (Err why) → StopsAfter (c ∷ cs) why a b
  until_bad cs why o = record {
    prefix = [];
    last = o.exchange;
    left = cs;
    calls_are = ap (λ (d : Call). d ∷ cs) (sym o.is);
    good = All-nil (IsGood a.view.fixed.shape);
    bad = o.worth;
    has = o.has;
  }

  -- it is the last
  pub until_last : (r : Result (Unit {0}) Why) → One c no_value a b r → AnswersUntil (c ∷ []) a b r
  until_last (Ok x) o = record {
    exchanges = o.exchange ∷ [];
    calls_are = ap (λ (d : Call). d ∷ []) o.is;
    has = o.has;
    good = All-cons (IsGood a.view.fixed.shape) o.exchange [] o.worth.0 (All-nil (IsGood a.view.fixed.shape));
  }
  until_last (Err why) o = until_bad [] why o

  -- it is, and others follow
  module _ (x : Unit {0}) (o : One c no_value a b (Ok x)) (cs : List Call) (d : Instance) where
    pub until_on : {T : Type 0} (r : Result T Why) → AnswersUntil cs b d r → AnswersUntil (c ∷ cs) a d r
    until_on (Ok y) more = record {
      exchanges = o.exchange ∷ more.exchanges;
      calls_are = ap₂ ◌∷◌ o.is more.calls_are;
      has = has_on a (o.exchange ∷ []) b more.exchanges d o.has more.has;
      good = All-cons (IsGood a.view.fixed.shape) o.exchange more.exchanges o.worth.0
          (subst (λ (s : Shape). AllGood s more.exchanges) (shape_on (o.exchange ∷ []) o.has) more.good);
    }
    until_on (Err why) more = record {
      prefix = o.exchange ∷ more.prefix;
      last = more.last;
      left = more.left;
      calls_are = ap₂ ◌∷◌ (sym o.is) more.calls_are;
      good = All-cons (IsGood a.view.fixed.shape) o.exchange more.prefix o.worth.0
          (subst (λ (s : Shape). AllGood s more.prefix) (shape_on (o.exchange ∷ []) o.has) more.good);
      bad = subst (λ (s : Shape). IsWhy s why more.last) (shape_on (o.exchange ∷ []) o.has) more.bad;
      has = has_on a (o.exchange ∷ []) b (more.prefix ++ more.last ∷ []) d o.has more.has;
    }

-- ---- one call, by its view alone

module _ (c : Call) (a b : Instance) where
  one_asked : {T : Type 0} (value : Exchange → T) (r : Result T Why) (o : One c value a b r) → Asked a.view c o.exchange.result b.view
  one_asked value r o = by o.has.talks where
    by : Talks a.view (o.exchange ∷ []) b.view → Asked a.view c o.exchange.result b.view
    by (mid, may, asked, last) = subst (λ (v : View). Asked a.view c o.exchange.result v) (sym last) (subst (λ (d : Call). Asked a.view d o.exchange.result mid) o.is asked)

  pub one_answered : (x : Unit {0}) → One c no_value a b (Ok x) → (reply : Reply) × Answered a.view c reply b.view
  one_answered x o =
      let l = led a.view b.view o.exchange o.has.talks o.worth.0 in (
        l.reply,
        good_answered a.view b.view c o.exchange.result (one_asked no_value (Ok x) o) l.reply
            (record { is = l.is; good = ap (λ (d : Call). grade_of a.view.fixed.shape d l.reply) (sym o.is) ∙ l.good }),
      )

  pub one_failed : (why : Why) → One c no_value a b (Err why) → Failed a.view c why b.view
  one_failed why o =
      why_failed a.view b.view c o.exchange.result (one_asked no_value (Err why) o) why
      (subst (λ (d : Call). IsWhy a.view.fixed.shape why (record { call = d; result = o.exchange.result })) o.is o.worth)
