-- What holds along a walk, and what its log tells.
use Rattle.std.proofs.Common.{◌≡◌, ℕ, zero, suc, map, ◌<◌, ℤ, List, [], ◌∷◌, ◌++◌, Option, Some, None, Contains, refl, sym, ap, ◌∙◌, subst, append_assoc, append-nil, length, inl, inr, ◌+◌, Ok, Err, take, drop}
use Rattle.std.specs.Prelude.{if◌then◌else◌, slice_get, ◌==◌, All}
use Rattle.std.specs.Option.{option_and_then, option_map_or}
use Rattle.std.proofs.lemmas.Bool.{eq-eqb, ne_eqb}
use Rattle.std.proofs.lemmas.List.{get_or-set_other, get_or-set_same, length-set, drop_more, take-append-drop, take_more}
use Rattle.std.proofs.lemmas.List.Elements.{Contains-append_left, Contains-append_right, Contains-push, All-append, All-cons, All-head, All-nil, All-tail}
use Rattle.std.proofs.lemmas.Option.{same_Some, slice_get_within, get_or_from_slice_get}
use Rattle.fmi_calls.specs.declared.call.Reply.{Reply}
use Rattle.fmi_calls.specs.declared.call.Call.{Call}
use Rattle.fmu_peer.specs.CloseAll.{Instance}
use Rattle.system_model.specs.declared.system.Component.{Component}
use Rattle.system_model.specs.declared.system.Port.{Port}
use Rattle.system_model.specs.declared.system.System.{System}
use Rattle.system_model.specs.Orders.{IsOrder}
use Rattle.system_model.proofs.CallerLemmas.{IsOrderFrom, order_from}
use Rattle.system_model.specs.Values.{value}
use Rattle.run_model.proofs.CallerLemmas.{same_number, IsClosed, closed-push, none_in, push_cases}
use Rattle.slot_calls.specs.Log.{Sent, Told}
use Rattle.slot_calls.specs.declared.bad_answer.BadAnswer.{BadAnswer}
use Rattle.slot_calls.proofs.CallerLemmas.{told_on}
use Rattle.event_iteration.specs.Turns.{IsPaired, Rules, Turn, Walked, Begun, Went, sent_of, TakesTurn}
use Rattle.event_iteration.specs.Explains.{Explains, all_said, call_at, said, Walks}

-- ---- numbers

pub by_number : {P : Type 0} (a b : ℕ) → (a ≡ b → P) → ((a ≡ b → ⊥) → P) → P
by_number {P} a b same other = (elim (same_number a b) as (λ c. P) [
  | inl e ↦ same e
  | inr n ↦ other n
])

-- ---- values

-- no turn changes how many there are
pub walked_length : (system : System) (rules : Rules) (before : List (Option ℤ)) (taken : List ℕ) (values : List (Option ℤ)) (log : List Sent) → Walked system rules before taken values log → length values ≡ length before
walked_length system rules before taken values log (Begun _ _ _ none same empty) = ap length same
walked_length system rules before taken next log (Went _ pre p reply values _ _ prefix sent more told walked turn) = ap length turn.next_is ∙ length-set values p _ ∙ walked_length system rules before pre values prefix walked

-- ---- where the order is at a port

-- call and value of a turn are about what the port needs
pub record AreAbout (NeedsOf : ℕ → ℕ → Type 0) (system : System) (rules : Rules) : Type 0 where
  pub asks_same : (p : ℕ) (port : Port) (c : Component) (V W : List (Option ℤ)) → slice_get system.ports p ≡ Some port → ((q : ℕ) → NeedsOf p q → value V q ≡ value W q) → rules.asks p port c V ≡ rules.asks p port c W
  pub takes_same : (p : ℕ) (port : Port) (V W : List (Option ℤ)) (last : Option ℤ) (reply : Option Reply) → slice_get system.ports p ≡ Some port → ((q : ℕ) → NeedsOf p q → value V q ≡ value W q) → rules.takes p port V last reply ≡ rules.takes p port W last reply

-- p is new, what it needs was taken, and so was what each taken port needs
pub record Here (NeedsOf : ℕ → ℕ → Type 0) (pre : List ℕ) (p : ℕ) : Type 0 where
  pub fresh : Contains pre p → ⊥
  pub needed : (q : ℕ) → NeedsOf p q → Contains pre q
  pub closed : IsClosed NeedsOf pre

here_from : (NeedsOf : ℕ → ℕ → Type 0) (a b : List ℕ) (p : ℕ) (rest : List ℕ) → IsClosed NeedsOf a → IsOrderFrom NeedsOf a (b ++ p ∷ rest) → Here NeedsOf (a ++ b) p
here_from NeedsOf a [] p rest closed order = rw append-nil (record { fresh = order.0; needed = order.1; closed = closed })
here_from NeedsOf a (x ∷ b) p rest closed order =
    subst (λ xs. Here NeedsOf xs p) (append_assoc a (x ∷ []) b) (here_from NeedsOf (a ++ x ∷ []) b p rest (closed-push NeedsOf a x closed order.1) order.2)

pub here_at : (IsAmong : ℕ → Type 0) (NeedsOf : ℕ → ℕ → Type 0) (order pre : List ℕ) (p : ℕ) (rest : List ℕ) → IsOrder IsAmong NeedsOf order → order ≡ pre ++ p ∷ rest → Here NeedsOf pre p
here_at IsAmong NeedsOf order pre p rest ordered is =
    here_from NeedsOf [] pre p rest (λ q d m n. absurd (none_in q m)) (subst (IsOrderFrom NeedsOf []) is (order_from IsAmong NeedsOf order ordered [] order refl))

-- what holds at the beginning, and after each turn where it did before, holds all along
module _ (IsAmong : ℕ → Type 0) (NeedsOf : ℕ → ℕ → Type 0) (system : System) (rules : Rules) (before : List (Option ℤ)) (order : List ℕ) (ordered : IsOrder IsAmong NeedsOf order) (len : length before ≡ length system.ports)
    (P : List ℕ → List (Option ℤ) → List Sent → Type 0) (begin : P [] before [])
    (step : (pre : List ℕ) (p : ℕ) (reply : Option Reply) (values next : List (Option ℤ)) (prefix sent : List Sent) → Here NeedsOf pre p → length values ≡ length system.ports → P pre values prefix →
    Turn system rules p reply values next sent → P (pre ++ p ∷ []) next (prefix ++ sent)) where
  pub along : (taken rest : List ℕ) (values : List (Option ℤ)) (log : List Sent) → order ≡ taken ++ rest → Walked system rules before taken values log → (length values ≡ length system.ports) × P taken values log
  along _ rest _ _ is (Begun taken values log t v l) =
      (ap length v ∙ len, subst (λ x. P x values log) (sym t) (subst (λ x. P [] x log) (sym v) (subst (λ x. P [] before x) (sym l) begin)))
  along _ rest _ _ is (Went taken pre p reply values next log prefix sent t l walked turn) =
      let split : order ≡ pre ++ p ∷ rest = is ∙ ap (λ xs. xs ++ rest) t ∙ append_assoc pre (p ∷ []) rest in
      let more = along pre (p ∷ rest) values prefix split walked in (
        ap length turn.next_is ∙ length-set values p _ ∙ more.0,
        subst (λ xs. P xs next log) (sym t) (subst (λ es. P (pre ++ p ∷ []) next es) (sym l)
            (step pre p reply values next prefix sent (here_at IsAmong NeedsOf order pre p rest ordered split) more.0 more.1 turn)),
      )

-- ---- what a turn leaves

module _ {system : System} {rules : Rules} {p : ℕ} {reply : Option Reply} {values next : List (Option ℤ)} {sent : List Sent} (turn : Turn system rules p reply values next sent) where
  pub next_beside : (q : ℕ) → (q ≡ p → ⊥) → value next q ≡ value values q
  next_beside q other = ap (λ xs. value xs q) turn.next_is ∙ get_or-set_other values p q _ None other

  pub next_here : length values ≡ length system.ports → value next p ≡ rules.takes p turn.port values (value values p) reply
  next_here len = ap (λ xs. value xs p) turn.next_is ∙ get_or-set_same values p _ None (subst (λ n. p < n) (sym len) (slice_get_within system.ports p turn.port turn.is))

-- before the walk
pub none_at : (ports : List Port) (q : ℕ) → value (map (λ (x : Port). None) ports) q ≡ None
none_at [] q = refl
none_at (x ∷ ports) zero = refl
none_at (x ∷ ports) (suc q) = none_at ports q

-- ---- what is said

pub all_said-push : (system : System) (rules : Rules) (values : List (Option ℤ)) (replies : ℕ → Option Reply) (pre : List ℕ) (p : ℕ) →
    all_said system rules values replies (pre ++ p ∷ []) ≡ all_said system rules values replies pre ++ said system rules values replies p
all_said-push system rules values replies [] p = append-nil (said system rules values replies p)
all_said-push system rules values replies (x ∷ pre) p =
    ap (λ es. said system rules values replies x ++ es) (all_said-push system rules values replies pre p)
    ∙ sym (append_assoc (said system rules values replies x) (all_said system rules values replies pre) (said system rules values replies p))

contains_head : (x : ℕ) (xs : List ℕ) → Contains (x ∷ xs) x
contains_head x xs = Contains-append_left (x ∷ []) xs x (Contains-push [] x)

all_said-same : (system : System) (rules : Rules) (V W : List (Option ℤ)) (a b : ℕ → Option Reply) (pre : List ℕ) → ((q : ℕ) → Contains pre q → said system rules V a q ≡ said system rules W b q) →
    all_said system rules V a pre ≡ all_said system rules W b pre
all_said-same system rules V W a b [] h = refl
all_said-same system rules V W a b (x ∷ pre) h =
    ap (λ es. es ++ all_said system rules V a pre) (h x (contains_head x pre))
    ∙ ap (λ es. said system rules W b x ++ es) (all_said-same system rules V W a b pre (λ q m. h q (contains_tail x q pre m)))
  where
    contains_tail : (x q : ℕ) (xs : List ℕ) → Contains xs q → Contains (x ∷ xs) q
    contains_tail x q xs m = Contains-append_right (x ∷ []) xs q m

pub call_at-is : (system : System) (rules : Rules) (V : List (Option ℤ)) (p : ℕ) (port : Port) (c : Component) → slice_get system.components port.component.0 ≡ Some c → call_at system rules V p port ≡ rules.asks p port c V
call_at-is system rules V p port c of = ap (λ o. option_and_then (λ (x : Component). rules.asks p port x V) o) of

-- V and W agree at what p needs
abbrev Agreeing : (ℕ → ℕ → Type 0) → ℕ → List (Option ℤ) → List (Option ℤ) → Type 0
Agreeing NeedsOf p V W = (q : ℕ) → NeedsOf p q → value V q ≡ value W q

call_at-alike : (NeedsOf : ℕ → ℕ → Type 0) (system : System) (rules : Rules) → AreAbout NeedsOf system rules → (V W : List (Option ℤ)) (p : ℕ) (port : Port) → slice_get system.ports p ≡ Some port → Agreeing NeedsOf p V W →
    call_at system rules V p port ≡ call_at system rules W p port
call_at-alike NeedsOf system rules about V W p port is h = (elim (slice_get system.components port.component.0) as (λ o.
    option_and_then (λ (c : Component). rules.asks p port c V) o ≡ option_and_then (λ (c : Component). rules.asks p port c W) o) [
      | None ↦ refl
      | Some c ↦ about.asks_same p port c V W is h
    ])

pub said-is : (system : System) (rules : Rules) (V : List (Option ℤ)) (a : ℕ → Option Reply) (p : ℕ) (port : Port) → slice_get system.ports p ≡ Some port →
    said system rules V a p ≡ sent_of port.component.0 (call_at system rules V p port) (a p)
said-is system rules V a p port is = ap (λ o. option_map_or (λ (x : Port). sent_of x.component.0 (call_at system rules V p x) (a p)) o []) is

said-same : (NeedsOf : ℕ → ℕ → Type 0) (system : System) (rules : Rules) → AreAbout NeedsOf system rules → (V W : List (Option ℤ)) (a b : ℕ → Option Reply) (p : ℕ) → Agreeing NeedsOf p V W → a p ≡ b p → said system rules V a p ≡ said system rules W b p
said-same NeedsOf system rules about V W a b p h same = (elim (slice_get system.ports p) as (λ o. slice_get system.ports p ≡ o →
    option_map_or (λ (x : Port). sent_of x.component.0 (call_at system rules V p x) (a p)) o [] ≡ option_map_or (λ (x : Port). sent_of x.component.0 (call_at system rules W p x) (b p)) o []) [
      | None ↦ λ e. refl
      | Some port ↦ λ e. ap (λ call. sent_of port.component.0 call (a p)) (call_at-alike NeedsOf system rules about V W p port e h)
          ∙ ap (λ r. sent_of port.component.0 (call_at system rules W p port) r) same
    ]) refl

-- ---- the step

abbrev pub with_reply : ℕ → Option Reply → (ℕ → Option Reply) → ℕ → Option Reply
with_reply p reply replies q = if q == p then reply else replies q

pub explains_more : (NeedsOf : ℕ → ℕ → Type 0) (system : System) (rules : Rules) → AreAbout NeedsOf system rules → (before : List (Option ℤ)) (pre : List ℕ) (p : ℕ) (reply : Option Reply) (values next : List (Option ℤ)) (prefix sent : List Sent) →
    Here NeedsOf pre p → length values ≡ length system.ports → Explains system rules before pre values prefix → Turn system rules p reply values next sent → Explains system rules before (pre ++ p ∷ []) next (prefix ++ sent)
explains_more NeedsOf system rules about before pre p reply values next prefix sent here len told turn =
    let replies = with_reply p reply told.replies in
    let reply_here : replies p ≡ reply = ap (λ b. if b then reply else told.replies p) (eq-eqb p p refl) in
    let reply_old : (q : ℕ) → (q ≡ p → ⊥) → told.replies q ≡ replies q = λ q other. sym (ap (λ b. if b then reply else told.replies q) (ne_eqb q p other)) in
    let not_here : (q : ℕ) → Contains pre q → q ≡ p → ⊥ = λ q m same. here.fresh (subst (Contains pre) same m) in
    let kept : (q : ℕ) → Contains pre q → value values q ≡ value next q = λ q m. sym (next_beside turn q (not_here q m)) in
    let alike_here : Agreeing NeedsOf p values next = λ q n. kept q (here.needed q n) in
    let alike_old : (q : ℕ) → Contains pre q → Agreeing NeedsOf q values next = λ q m d n. kept d (here.closed q d m n) in
    let call_next : rules.asks p turn.port turn.component values ≡ rules.asks p turn.port turn.component next = about.asks_same p turn.port turn.component values next turn.is alike_here in
    let pair_here : IsPaired turn.component.shape (rules.asks p turn.port turn.component next) (replies p) =
    subst (λ call. IsPaired turn.component.shape call (replies p)) call_next (subst (IsPaired turn.component.shape (rules.asks p turn.port turn.component values)) (sym reply_here) turn.paired) in
    let said_here : sent ≡ said system rules next replies p =
    turn.sent_is ∙ ap (λ call. sent_of turn.port.component.0 call reply) (call_next ∙ sym (call_at-is system rules next p turn.port turn.component turn.of))
    ∙ ap (sent_of turn.port.component.0 (call_at system rules next p turn.port)) (sym reply_here) ∙ sym (said-is system rules next replies p turn.port turn.is) in
    let said_old : all_said system rules values told.replies pre ≡ all_said system rules next replies pre =
    all_said-same system rules values next told.replies replies pre (λ q m. said-same NeedsOf system rules about values next told.replies replies q (alike_old q m) (reply_old q (not_here q m))) in
    record {
      replies = replies;
      log_is = ap (λ es. es ++ sent) (told.log_is ∙ said_old) ∙ ap (λ es. all_said system rules next replies pre ++ es) said_here ∙ sym (all_said-push system rules next replies pre p);
      paired = λ q port c is of m. push_cases pre p q m
          (λ old. subst (λ call. IsPaired c.shape call (replies q)) (about.asks_same q port c values next is (alike_old q old))
          (subst (IsPaired c.shape (rules.asks q port c values)) (reply_old q (not_here q old)) (told.paired q port c is of old)))
          (λ same. subst (λ x. (y : Port) (d : Component) → slice_get system.ports x ≡ Some y → slice_get system.components y.component.0 ≡ Some d → IsPaired d.shape (rules.asks x y d next) (replies x)) same
          (λ y d y_is d_of. subst (λ (z : Port). (e : Component) → slice_get system.components z.component.0 ≡ Some e → IsPaired e.shape (rules.asks p z e next) (replies p)) (same_Some _ _ (sym turn.is ∙ y_is))
          (λ e e_of. subst (λ (z : Component). IsPaired z.shape (rules.asks p turn.port z next) (replies p)) (same_Some _ _ (sym turn.of ∙ e_of)) pair_here) d d_of) port c is of);
      taken_values = λ q port is m. push_cases pre p q m
          (λ old. sym (kept q old) ∙ told.taken_values q port is old
          ∙ about.takes_same q port values next (value before q) (told.replies q) is (alike_old q old)
          ∙ ap (rules.takes q port next (value before q)) (reply_old q (not_here q old)))
          (λ same. subst (λ x. (y : Port) → slice_get system.ports x ≡ Some y → value next x ≡ rules.takes x y next (value before x) (replies x)) same
          (λ y y_is. subst (λ (z : Port). value next p ≡ rules.takes p z next (value before p) (replies p)) (same_Some _ _ (sym turn.is ∙ y_is))
          (next_here turn len
          ∙ about.takes_same p turn.port values next (value values p) reply turn.is alike_here
          ∙ ap (λ last. rules.takes p turn.port next last reply) (told.left p here.fresh)
          ∙ ap (rules.takes p turn.port next (value before p)) (sym reply_here))) port is);
      left = λ q m. next_beside turn q (λ same. m (subst (Contains (pre ++ p ∷ [])) (sym same) (Contains-push pre p))) ∙ told.left q (λ old. m (Contains-append_left pre (p ∷ []) q old));
    }

pub more_replies : (NeedsOf : ℕ → ℕ → Type 0) (system : System) (rules : Rules) (about : AreAbout NeedsOf system rules) (before : List (Option ℤ)) (pre : List ℕ) (p : ℕ) (reply : Option Reply) (values next : List (Option ℤ)) (prefix sent : List Sent)
    (here : Here NeedsOf pre p) (len : length values ≡ length system.ports) (told : Explains system rules before pre values prefix) (turn : Turn system rules p reply values next sent) →
    (explains_more NeedsOf system rules about before pre p reply values next prefix sent here len told turn).replies ≡ with_reply p reply told.replies
unfolding explains_more
more_replies NeedsOf system rules about before pre p reply values next prefix sent here len told turn = refl

-- what the log of a walk tells
pub explained : (IsAmong : ℕ → Type 0) (NeedsOf : ℕ → ℕ → Type 0) (system : System) (rules : Rules) → AreAbout NeedsOf system rules → (before : List (Option ℤ)) (order : List ℕ) → IsOrder IsAmong NeedsOf order → length before ≡ length system.ports →
    (taken rest : List ℕ) (values : List (Option ℤ)) (log : List Sent) → order ≡ taken ++ rest → Walked system rules before taken values log → Explains system rules before taken values log
explained IsAmong NeedsOf system rules about before order ordered len taken rest values log is walked =
    (along IsAmong NeedsOf system rules before order ordered len (Explains system rules before)
    (record {
      replies = λ q. None;
      log_is = refl;
      paired = λ p port c is of m. absurd (none_in p m);
      taken_values = λ p port is m. absurd (none_in p m);
      left = λ p m. refl;
    })
    (explains_more NeedsOf system rules about before) taken rest values log is walked).1

-- ---- a walk by a loop

pub more_order : (order : List ℕ) (k p : ℕ) → slice_get order k ≡ Some p → take (k + 1) order ≡ take k order ++ p ∷ []
more_order order k p is = take_more order k p (slice_get_within order k p is) ∙ ap (λ x. take k order ++ x ∷ []) (get_or_from_slice_get order k p p is)

pub split_order : (order : List ℕ) (k p : ℕ) → slice_get order k ≡ Some p → order ≡ take k order ++ p ∷ drop (k + 1) order
split_order order k p is =
    sym (take-append-drop k order) ∙ ap (λ xs. take k order ++ xs) (drop_more order k p (slice_get_within order k p is) ∙ ap (λ x. x ∷ drop (k + 1) order) (get_or_from_slice_get order k p p is))

module _ (IsAmong : ℕ → Type 0) (NeedsOf : ℕ → ℕ → Type 0) (system : System) (rules : Rules) (about : AreAbout NeedsOf system rules) (before : List (Option ℤ)) (order : List ℕ) (ordered : IsOrder IsAmong NeedsOf order)
    (len : length before ≡ length system.ports) (olds mids : List Instance) (log : List Sent) (told : Told log olds mids) where
  module _ (k p : ℕ) (at : slice_get order k ≡ Some p) (values next : List (Option ℤ)) (walked : Walked system rules before (take k order) values log) (news : List Instance) where
    -- the turn was taken
    pub walked_more : (turn : TakesTurn system rules p values next mids news (Ok tt)) → Walked system rules before (take (k + 1) order) next (log ++ turn.log)
    walked_more turn = Went _ (take k order) p turn.says.0 values next (log ++ turn.log) log turn.log (more_order order k p at) refl walked turn.says.1

    -- its call got an answer that isn't good
    pub walked_until : (bad : BadAnswer) (turn : TakesTurn system rules p values next mids news (Err bad)) → Walks system rules before order next olds news (Err bad)
    walked_until bad turn = record {
      log = log ++ turn.log;
      told = told_on olds mids news log turn.log told turn.told;
      says = (
        values,
        record {
          taken = take k order;
          p = p;
          rest = drop (k + 1) order;
          order_is = split_order order k p at;
          prefix = log;
          last = turn.says.0;
          log_is = ap (λ es. log ++ es) turn.says.1;
          told = explained IsAmong NeedsOf system rules about before order ordered len (take k order) _ values log (split_order order k p at) walked;
          stops = turn.says.3;
        },
      );
    }

  -- all turns were taken
  pub walked_all : (values : List (Option ℤ)) → Walked system rules before order values log → Walks system rules before order values olds mids (Ok tt)
  walked_all values walked = record {
    log = log;
    told = told;
    says = explained IsAmong NeedsOf system rules about before order ordered len order [] values log (sym (append-nil order)) walked;
  }

-- ---- what holds of the calls, by what holds of those of each port

module _ {X : Type 0} (P : X → Type 0) where
  pub all_prefix : (xs ys : List X) → All P (xs ++ ys) → All P xs
  all_prefix [] ys all = All-nil P
  all_prefix (x ∷ xs) ys all = All-cons P x xs (All-head P x (xs ++ ys) all) (all_prefix xs ys (All-tail P x (xs ++ ys) all))

  all_back : (xs ys : List X) → All P (xs ++ ys) → All P ys
  all_back [] ys all = all
  all_back (x ∷ xs) ys all = all_back xs ys (All-tail P x (xs ++ ys) all)

-- the call of a port, if there is one
pub sent_by : (P : Sent → Type 0) (i : ℕ) (o : Option Call) (reply : Option Reply) → ((call : Call) (y : Reply) → o ≡ Some call → reply ≡ Some y → P (record { component = i; exchange = record { call = call; result = Ok y } })) → All P (sent_of i o reply)
sent_by P i None reply h = All-nil P
sent_by P i (Some call) None h = All-nil P
sent_by P i (Some call) (Some y) h = All-cons P _ [] (h call y refl refl) (All-nil P)

module _ (P : Sent → Type 0) (system : System) (rules : Rules) (values : List (Option ℤ)) (replies : ℕ → Option Reply) where
  pub said_by : (p : ℕ) →
      ((port : Port) (c : Component) → slice_get system.ports p ≡ Some port → slice_get system.components port.component.0 ≡ Some c → All P (sent_of port.component.0 (rules.asks p port c values) (replies p))) →
      All P (said system rules values replies p)
  said_by p h = of_port (slice_get system.ports p) refl where
    of_component : (port : Port) → slice_get system.ports p ≡ Some port → (o : Option Component) → slice_get system.components port.component.0 ≡ o →
        All P (sent_of port.component.0 (option_and_then (λ (c : Component). rules.asks p port c values) o) (replies p))
    of_component port is None of = All-nil P
    of_component port is (Some c) of = h port c is of

    of_port : (o : Option Port) → slice_get system.ports p ≡ o → All P (option_map_or (λ (port : Port). sent_of port.component.0 (call_at system rules values p port) (replies p)) o [])
    of_port None is = All-nil P
    of_port (Some port) is = of_component port is (slice_get system.components port.component.0) refl

  abbrev Of : ℕ → Type 0
  Of p = All P (said system rules values replies p)

  pub all_said_by : (ps : List ℕ) → All Of ps → All P (all_said system rules values replies ps)
  all_said_by [] all = All-nil P
  all_said_by (p ∷ ps) all = All-append P (said system rules values replies p) (all_said system rules values replies ps) (All-head Of p ps all) (all_said_by ps (All-tail Of p ps all))

  -- and of those of one of the ports
  pub said_at : (ps : List ℕ) (k p : ℕ) → slice_get ps k ≡ Some p → All P (all_said system rules values replies ps) → Of p
  said_at [] k p at all = absurd (cc)
  said_at (x ∷ ps) zero p at all = subst Of (same_Some x p at) (all_prefix P (said system rules values replies x) (all_said system rules values replies ps) all)
  said_at (x ∷ ps) (suc k) p at all = said_at ps k p at (all_back P (said system rules values replies x) (all_said system rules values replies ps) all)
