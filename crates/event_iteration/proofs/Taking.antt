-- One turn, with the instance in a slot.
use Rattle.std.proofs.Common.{◌≡◌, ℕ, zero, suc, ◌<◌, ℤ, List, [], ◌∷◌, Option, Some, None, Result, Ok, Err, refl, sym, ap, ap₂, ◌∙◌, subst, arith, length, get_or, set, map}
use Rattle.std.specs.Prelude.{All, MatchResult, option_map, slice_set, slice_get}
use Rattle.std.specs.Result.{result_ok}
use Rattle.std.proofs.Math.Seq.{map-set_same}
use Rattle.std.proofs.lemmas.List.{get_or_default, length-map, map-set}
use Rattle.std.proofs.lemmas.Option.{slice_get-get_or, slice_get-map}
use Rattle.value_types.specs.declared.shape.Shape.{Shape}
use Rattle.fmi_calls.specs.declared.call.Call.{Call}
use Rattle.fmi_calls.specs.declared.call.Grade.TheVariants as G
use Rattle.fmi_calls.specs.declared.call.Reply.{Reply}
use Rattle.fmi_calls.specs.Worth.{grade_of}
use Rattle.fmu_peer.specs.declared.peer.Exchange.{Exchange}
use Rattle.fmu_peer.specs.declared.peer.PeerFault.{PeerFault}
use Rattle.fmu_peer.specs.declared.ended.Why.{Why}
use Rattle.fmu_peer.specs.Answer.{IsWhy}
use Rattle.fmu_peer.specs.CloseAll.{Instance}
use Rattle.system_model.specs.declared.system.Component.{Component}
use Rattle.system_model.specs.declared.system.Port.{Port}
use Rattle.system_model.specs.declared.system.System.{System}
use Rattle.system_model.proofs.CallerLemmas.{all_at}
use Rattle.system_model.specs.Values.{value}
use Rattle.slot_calls.specs.declared.bad_answer.BadAnswer.{BadAnswer}
use Rattle.slot_calls.specs.Carried.{reply_in}
use Rattle.slot_calls.specs.Log.{One, Told}
use Rattle.slot_calls.specs.Stage.{shapes, shapes_of}
use Rattle.slot_calls.proofs.CallerLemmas.{map_at, one_log, shape_of, told_none, told_one}
use Rattle.event_iteration.specs.Turns.{AsksIf, IsPaired, Rules, TakesTurn, sent_of}

-- the port at a place, or another thing
pub port_at : {X : Type 0} (xs ports : List X) (p : ℕ) (port : X) → xs ≡ ports → port ≡ get_or xs p port → p < length ports → slice_get ports p ≡ Some port
port_at xs ports p port same is within = slice_get-get_or ports p port within ∙ ap Some (ap (λ l. get_or l p port) (sym same) ∙ sym is)

-- and its component
pub record ComponentAt (system : System) (port : Port) : Type 0 where
  pub component : Component
  pub is : slice_get system.components port.component.0 ≡ Some component
  pub within : port.component.0 < length system.components

pub component_at : (system : System) (p : ℕ) (port : Port) → All (λ (x : Port). x.component.0 < length system.components) system.ports → slice_get system.ports p ≡ Some port → ComponentAt system port
component_at system p port there is =
    let within = all_at (λ (x : Port). x.component.0 < length system.components) system.ports p port there is in
    let found = got system.components port.component.0 within in
    record { component = found.0; is = found.1; within = within }
  where
    got : {X : Type 0} (xs : List X) (i : ℕ) → i < length xs → (x : X) × (slice_get xs i ≡ Some x)
    got [] i w = absurd (omega (arith, w))
    got (x ∷ xs) zero w = (x, refl)
    got (x ∷ xs) (suc i) w = got xs i (omega (arith, w))

-- the instance in a slot
pub instance_at : {A : Type 0} (f : A → Instance) (xs : List A) (k : ℕ) (d : A) → k < length xs → slice_get (map f xs) k ≡ Some (f (get_or xs k d))
instance_at f xs k d within = slice_get-map f xs k ∙ ap (option_map f) (slice_get-get_or xs k d within)

-- as many slots as components
pub slots_many : {A : Type 0} (f : A → Instance) (system : System) (xs : List A) → shapes (map f xs) ≡ shapes_of system → length xs ≡ length system.components
slots_many f system xs same =
    let a = length-map xs f in
    let b = length-map (map f xs) shape_of in
    let c = length-map system.components (λ (c : Component). c.shape) in
    let e = ap length same in
    omega (arith, a, b, c, e)

-- the shape of the instance in a slot is that of its component
pub shape_in_slot : {A : Type 0} (f : A → Instance) (system : System) (xs : List A) (k : ℕ) (d : A) (c : Component) → shapes (map f xs) ≡ shapes_of system → k < length xs → slice_get system.components k ≡ Some c →
    (f (get_or xs k d)).view.fixed.shape ≡ c.shape
shape_in_slot f system xs k d c same within of =
    let x : Instance = f (get_or xs k d) in
    let here : slice_get (shapes (map f xs)) k ≡ Some x.view.fixed.shape = slice_get-map shape_of (map f xs) k ∙ ap (option_map shape_of) (instance_at f xs k d within) in
    let there : slice_get (shapes_of system) k ≡ Some c.shape = slice_get-map (λ (c : Component). c.shape) system.components k ∙ ap (option_map (λ (c : Component). c.shape)) of in
    let both : Some x.view.fixed.shape ≡ Some c.shape = sym here ∙ ap (λ ss. slice_get ss k) same ∙ there in
    cc

-- a good answer has a reply
record Replied (shape : Shape) (e : Exchange) (reply : Option Reply) : Type 0 where
  content : Reply
  result_is : e.result ≡ Ok content
  reply_is : reply ≡ Some content
  good : grade_of shape e.call content ≡ G.Good

replied : (shape : Shape) (e : Exchange) (reply : Option Reply) (r : Result Reply PeerFault) → e.result ≡ r → MatchResult r (λ x. grade_of shape e.call x ≡ G.Good) (λ fault. ⊥) → reply ≡ result_ok r → Replied shape e reply
replied shape e reply (Ok x) is good same = record { content = x; result_is = is; reply_is = same; good = good }
replied shape e reply (Err fault) is good same = absurd good

module _ {A : Type 0} (f : A → Instance) (system : System) (rules : Rules) (p : ℕ) (port : Port) (c : Component) (xs : List A) (d y : A) (values : List (Option ℤ))
    (is : slice_get system.ports p ≡ Some port) (of : slice_get system.components port.component.0 ≡ Some c) (within : port.component.0 < length xs)
    (shape : (f (get_or xs port.component.0 d)).view.fixed.shape ≡ c.shape) where
  abbrev there : A
  there = get_or xs port.component.0 d

  there_is : f there ≡ get_or (map f xs) port.component.0 (f there)
  there_is = map_at f xs port.component.0 there (f there) within (get_or_default xs port.component.0 d there within)

  within_map : port.component.0 < length (map f xs)
  within_map = let m = length-map xs f in omega (arith, within, m)

  told_one_more : (e : Exchange) (call : Call) (r : Result (Option Reply) Why) (o : One call reply_in (f there) (f y) r) → Told (one_log port.component.0 o.exchange) (map f xs) (map f (set xs port.component.0 y))
  told_one_more e call r o = subst (λ (l : List Instance). Told (one_log port.component.0 o.exchange) (map f xs) l) (sym (map-set f xs port.component.0 y))
      (told_one (map f xs) port.component.0 (f there) (f y) o.exchange within_map there_is o.has)

  -- its call was answered well, if it has one
  pub took : (call : Option Call) → call ≡ rules.asks p port c values → (reply : Option Reply) → AsksIf call (f there) (f y) (Ok reply) → (v : Option ℤ) → v ≡ rules.takes p port values (value values p) reply →
      TakesTurn system rules p values (slice_set values p v) (map f xs) (map f (set xs port.component.0 y)) (Ok tt)
  took None call_is reply (none, same) v v_is = record {
    log = [];
    told = subst (λ (l : List Instance). Told [] (map f xs) l) (sym (map-set_same f xs port.component.0 y d same)) (told_none (map f xs));
    says = (
      reply,
      record {
        port = port;
        is = is;
        component = c;
        of = of;
        paired = subst (λ k. IsPaired c.shape k reply) call_is (subst (λ r. IsPaired c.shape None r) (sym none) tt);
        sent_is = ap (λ k. sent_of port.component.0 k reply) call_is;
        next_is = ap (slice_set values p) v_is;
      },
    );
  }
  took (Some call) call_is reply o v v_is =
      let got = replied (f there).view.fixed.shape o.exchange reply o.exchange.result refl o.worth.0 o.worth.1 in
      let exchange_is : o.exchange ≡ record { call = call; result = Ok got.content } = ap₂ (λ (k : Call) (r : Result Reply PeerFault). record { call = k; result = r }) o.is got.result_is in
      let good : grade_of c.shape call got.content ≡ G.Good = subst (λ (s : Shape). grade_of s call got.content ≡ G.Good) shape (subst (λ (k : Call). grade_of (f there).view.fixed.shape k got.content ≡ G.Good) o.is got.good) in
      record {
        log = one_log port.component.0 o.exchange;
        told = told_one_more o.exchange call (Ok reply) o;
        says = (
          reply,
          record {
            port = port;
            is = is;
            component = c;
            of = of;
            paired = subst (λ k. IsPaired c.shape k reply) call_is (subst (λ r. IsPaired c.shape (Some call) r) (sym got.reply_is) good);
            sent_is = ap (λ e. one_log port.component.0 e) exchange_is ∙ ap (λ r. sent_of port.component.0 (Some call) r) (sym got.reply_is) ∙ ap (λ k. sent_of port.component.0 k reply) call_is;
            next_is = ap (slice_set values p) v_is;
          },
        );
      }

  -- its call got an answer that isn't good
  pub stopped : (call : Option Call) → call ≡ rules.asks p port c values → (why : Why) → AsksIf call (f there) (f y) (Err why) → (bad : BadAnswer) → bad ≡ record { component = port.component; why = why } →
      TakesTurn system rules p values values (map f xs) (map f (set xs port.component.0 y)) (Err bad)
  stopped None call_is why o bad told = absurd o
  stopped (Some call) call_is why o bad told_is = record {
    log = one_log port.component.0 o.exchange;
    told = told_one_more o.exchange call (Err why) o;
    says = (
      record { component = port.component.0; exchange = o.exchange },
      refl,
      refl,
      record {
        port = port;
        is = is;
        component = c;
        of = of;
        asks = sym call_is ∙ ap Some (sym o.is);
        sent_to = refl;
        told_of = ap (λ (b : BadAnswer). b.component.0) told_is;
        why = subst (λ (w : Why). IsWhy c.shape w o.exchange) (sym (ap (λ (b : BadAnswer). b.why) told_is)) (subst (λ (s : Shape). IsWhy s why o.exchange) shape o.worth);
      },
    );
  }
