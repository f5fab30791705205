-- Where an instance stands that was led back to its state, and which ones may be kept and led back.
use Rattle.std.proofs.Common.{◌≡◌, ℕ, ◌<◌, ◌+◌, ◌⊎◌, true, List, [], ◌∷◌, Option, Result, inl, inr, refl, sym, ap, ◌∙◌, subst, arith, length, get_or, set, map, get_or-set_same, get_or-set_other}
use Rattle.std.specs.Prelude.{All, IfSome}
use Rattle.std.proofs.lemmas.List.{get_or_default, length-map, map-set}
use Rattle.std.proofs.lemmas.Simd.{map-map}
use Rattle.std.proofs.lemmas.List.Elements.{All-map}
use Rattle.value_types.specs.declared.shape.Shape.{Shape}
use Rattle.fmi_calls.specs.declared.call.Call.{Call}
use Rattle.fmi_calls.specs.declared.call.Call.TheVariants as C
use Rattle.fmi_calls.specs.declared.call.Grade.{Grade}
use Rattle.fmi_calls.specs.declared.call.Reply.{Reply}
use Rattle.fmi_calls.specs.declared.phase.InstanceState.{InstanceState}
use Rattle.fmi_calls.specs.declared.phase.Phase.{Phase}
use Rattle.fmi_calls.specs.Next.{counted, entered, graded, restored_state}
use Rattle.fmi_calls.specs.Permission.{none_marked}
use Rattle.fmu_peer.specs.declared.slot.Slot.{Slot}
use Rattle.fmu_peer.specs.Answer.{Answered, AnsweredWith}
use Rattle.fmu_peer.specs.CloseAll.{Instance, instance_in, peer_in}
use Rattle.fmu_peer.specs.View.{View}
use Rattle.fmu_peer.specs.declared.ended.Why.{Why}
use Rattle.slot_calls.specs.Keeping.{MayBeKept, MayBeRestored, WasNotRestored, WasRestored, without_machine_in, without_machines}
use Rattle.slot_calls.specs.declared.bad_answer.BadAnswer.{BadAnswer}
use Rattle.slot_calls.specs.Log.{ComponentCall}
use Rattle.slot_calls.specs.Slots.{Stands, instances}
use Rattle.slot_calls.specs.Stage.{Stage, nothing, shapes, shapes_of}
use Rattle.slot_calls.proofs.CallerLemmas.{SameFrom, map_at, shape_of}
use Rattle.rollback.specs.Standing.{TakesSize}
use Rattle.system_model.specs.declared.system.Component.{Component}
use Rattle.calling_sequence.specs.declared.experiment.Experiment.{Experiment}
use Rattle.calling_sequence.specs.Place.{IsMade, IsStepping}
use Rattle.calling_sequence.specs.Ready.{CanKeep, Ready}
use Rattle.calling_sequence.proofs.Phases.{room_on, unmarked_is}

-- ---- phases

phase_answered : (v w : View) (call : Call) (reply : Reply) → Answered v call reply w → w.phase ≡ entered v.fixed.shape (counted v.phase call) call reply
phase_answered v w call reply a = a.asked.phase ∙ ap (λ (g : Grade). graded v.fixed.shape (counted v.phase call) call reply g) a.good

phase_taken : (v w : View) (call : Call) (bytes : List ℕ) (reply : Reply) → AnsweredWith v call bytes reply w → w.phase ≡ entered v.fixed.shape (counted v.phase call) call reply
phase_taken v w call bytes reply a = a.asked.phase ∙ ap (λ (g : Grade). graded v.fixed.shape (counted v.phase call) call reply g) a.good

pub restored_stepping : (point stop step : ℕ) (bytes : List ℕ) (v w : View) → WasRestored point stop bytes v w → IsMade v → IsStepping point stop step w
restored_stepping point stop step bytes v w r made =
    let taking : Call = C.Deserialize (length bytes) point stop in
    let one = phase_taken v r.taken taking bytes r.in_reply r.deserialized in
    let two = phase_answered r.taken r.back C.Restore r.back_reply r.restored in
    let three = phase_answered r.back w C.Free r.free_reply r.freed in
    let back : Phase → Phase = λ p. entered r.taken.fixed.shape (counted p C.Restore) C.Restore r.back_reply in
    let free : Phase → Phase = λ p. entered r.back.fixed.shape (counted p C.Free) C.Free r.free_reply in
    let all : w.phase ≡ free (back (entered v.fixed.shape (counted v.phase taking) taking r.in_reply)) = three ∙ ap free two ∙ ap (λ (p : Phase). free (back p)) one in
    let fixed = r.freed.asked.fixed ∙ r.restored.asked.fixed ∙ r.deserialized.asked.fixed in
    record {
      departing = record {
        there = record {
          point = ap (λ (p : Phase). p.point) all;
          stop_is = ap (λ (p : Phase). p.stop) all;
          sized = subst (λ (o : Option ℕ). IfSome o (λ size. TakesSize step size w.fixed.shape)) (sym (ap (λ (p : Phase). p.first_size) all ∙ made.unstepped)) tt;
          empty = ap (λ (p : Phase). p.slot.is_full) all;
          room = room_on v w fixed (ap (λ (p : Phase). length p.active) all) made.room;
        };
        state = ap (λ (p : Phase). p.state) all ∙ ap (λ (s : InstanceState). restored_state s) made.state;
      };
      unset = ap (λ (p : Phase). none_marked p.marks) all ∙ unmarked_is (length v.fixed.shape.variables);
    }

-- ---- which may be kept and led back

module _ {L : Type 0} {g : _} (view : L → View) (e : Experiment) (P : (stop step : ℕ) → View → Type 0) (slots : List (Slot L g)) (ready : Ready view e P slots) (can : CanKeep e.system e.plan) where
  -- what holds of each component's shape holds of each slot's
  of_shape : (Q : Shape → Type 0) → All (λ (c : Component). Q c.shape) e.system.components → (k : ℕ) (d : Slot L g) → k < length slots → Q (view (peer_in (get_or slots k d).held)).fixed.shape
  of_shape Q all k d within =
      let s = get_or slots k d in
      let x : Instance = instance_in view s in
      let m = length-map slots (λ s. instance_in view s) in
      let n = length-map (instances view slots) shape_of in
      let there : x ≡ get_or (instances view slots) k x = map_at (λ s. instance_in view s) slots k s x within (get_or_default slots k d s within) in
      let shape : shape_of x ≡ get_or (shapes (instances view slots)) k (shape_of x) = map_at shape_of (instances view slots) k x (shape_of x) (omega (arith, m, within)) there in
      subst Q (sym shape) (subst (λ (ss : List Shape). All Q ss) (sym ready.shapes_are) (All-map Q (λ (c : Component). c.shape) e.system.components all) k (shape_of x) (omega (arith, m, n, within)))

  pub may_be_kept : (t : ℕ) → ((v : View) → P e.plan.stop e.plan.step v → IsStepping t e.plan.stop e.plan.step v) → All (Stands MayBeKept view) slots
  may_be_kept t steps = λ k d within.
      let there = (steps _ (ready.stand k d within)).departing in
      record {
        state = there.state;
        saves = of_shape (λ (s : Shape). s.can_save_state ≡ true) can.saves k d within;
        serializes = of_shape (λ (s : Shape). s.can_serialize_state ≡ true) can.serializes k d within;
        empty = there.there.empty;
      }

  pub may_be_restored : ((v : View) → P e.plan.stop e.plan.step v → IsMade v) → All (Stands MayBeRestored view) slots
  may_be_restored made = λ k d within.
      let there = made _ (ready.stand k d within) in
      record {
        state = there.state;
        saves = of_shape (λ (s : Shape). s.can_save_state ≡ true) can.saves k d within;
        serializes = of_shape (λ (s : Shape). s.can_serialize_state ≡ true) can.serializes k d within;
        empty = there.clear.empty;
      }

-- ---- one after the other

module _ {A : Type 0} (f : A → Instance) (olds mids : List A) (place : ℕ) (rest : SameFrom place olds mids) (within : place < length olds) (y : A) where
  there : place < length (map f mids)
  there = let m = length-map mids f in let l = rest.len in omega (arith, within, m, l)

  -- what one instance has become, and those before it
  at_place : (s : A) (d : Instance) → get_or (map f (set mids place y)) place d ≡ f y
  at_place s d = ap (λ (l : List Instance). get_or l place d) (map-set f mids place y) ∙ get_or-set_same (map f mids) place (f y) d there

  in_prefix : (i : ℕ) (d : Instance) → i < place → get_or (map f (set mids place y)) i d ≡ get_or (map f mids) i d
  in_prefix i d w = ap (λ (l : List Instance). get_or l i d) (map-set f mids place y) ∙ get_or-set_other (map f mids) place i (f y) d (omega (arith, w))

  was : (s : A) (d : Instance) → f (get_or mids place s) ≡ get_or (map f olds) place d
  was s d = ap f (rest.rest place s (omega arith)) ∙ map_at f olds place (get_or olds place s) d within (get_or_default olds place s (get_or olds place s) within)

  pub one_there : (P : View → View → Type 0) (s : A) → P (f (get_or mids place s)).view (f y).view → (d : Instance) → P (get_or (map f olds) place d).view (get_or (map f (set mids place y)) place d).view
  one_there P s p d = subst (λ (x : Instance). P x.view (get_or (map f (set mids place y)) place d).view) (was s d) (subst (λ (x : Instance). P (f (get_or mids place s)).view x.view) (sym (at_place s d)) p)

  module _ (P : ℕ → View → View → Type 0) (prefix : (i : ℕ) (d : Instance) → i < place → P i (get_or (map f olds) i d).view (get_or (map f mids) i d).view) where
    pub prefix_same : (i : ℕ) (d : Instance) → i < place → P i (get_or (map f olds) i d).view (get_or (map f (set mids place y)) i d).view
    prefix_same i d w = subst (λ (x : Instance). P i (get_or (map f olds) i d).view x.view) (sym (in_prefix i d w)) (prefix i d w)

    pub prefix_more : (s : A) → P place (f (get_or mids place s)).view (f y).view → (i : ℕ) (d : Instance) → i < place + 1 → P i (get_or (map f olds) i d).view (get_or (map f (set mids place y)) i d).view
    prefix_more s p i d w = by (split i place w) where
      split : (j k : ℕ) → j < k + 1 → (j < k) ⊎ (j ≡ k)
      split j k v = grind (arith)

      by : (i < place) ⊎ (i ≡ place) → P i (get_or (map f olds) i d).view (get_or (map f (set mids place y)) i d).view
      by (inl v) = prefix_same i d v
      by (inr is) = subst (λ (n : ℕ). P n (get_or (map f olds) n d).view (get_or (map f (set mids place y)) n d).view) (sym is) (one_there (P place) s p d)

-- where each has become another, all stand so
pub all_stand : {L : Type 0} {g : _} (view : L → View) (olds news : List (Slot L g)) (R : ℕ → View → View → Type 0) (P Q : View → Type 0) → length news ≡ length olds →
    ((i : ℕ) (d : Instance) → i < length olds → R i (get_or (instances view olds) i d).view (get_or (instances view news) i d).view) → ((i : ℕ) (v w : View) → R i v w → P v → Q w) → All (Stands P view) olds → All (Stands Q view) news
all_stand view olds news R P Q len each leads all = λ k d within.
    let inside : k < length olds = omega (arith, len, within) in
    let o = get_or olds k d in
    let s = get_or news k d in
    let x : Instance = instance_in view s in
    let old_is : instance_in view o ≡ get_or (instances view olds) k x = map_at (λ s. instance_in view s) olds k o x inside (get_or_default olds k d o inside) in
    let new_is : x ≡ get_or (instances view news) k x = map_at (λ s. instance_in view s) news k s x within (get_or_default news k d s within) in
    leads k (view (peer_in o.held)) (view (peer_in s.held))
    (subst (λ (a : Instance). R k a.view x.view) (sym old_is) (subst (λ (b : Instance). R k (get_or (instances view olds) k x).view b.view) (sym new_is) (each k x inside))) (all k d inside)

-- ---- without machines

pub bare_shapes : {A : Type 0} (f : A → Instance) (xs : List A) → shapes (map (λ (x : A). without_machine_in (f x)) xs) ≡ shapes (map f xs)
bare_shapes f [] = refl
bare_shapes f (x ∷ xs) = ap (λ (ss : List Shape). shape_of (f x) ∷ ss) (bare_shapes f xs)

pub shapes_bare : {A : Type 0} (f : A → Instance) (xs : List A) → shapes (without_machines (map f xs)) ≡ shapes (map f xs)
shapes_bare f xs = ap shapes (map-map without_machine_in f xs) ∙ bare_shapes f xs

pub bare_stage : {A : Type 0} (f : A → Instance) (olds news : List A) (cs : List ComponentCall) (r : Result (Unit {0}) BadAnswer) → Stage cs nothing (map (λ (x : A). without_machine_in (f x)) olds) (map (λ (x : A). without_machine_in (f x)) news) r →
    Stage cs nothing (without_machines (map f olds)) (without_machines (map f news)) r
bare_stage f olds news cs r s =
    subst (λ (l : List Instance). Stage cs nothing l (without_machines (map f news)) r) (sym (map-map without_machine_in f olds))
    (subst (λ (l : List Instance). Stage cs nothing (map (λ x. without_machine_in (f x)) olds) l r) (sym (map-map without_machine_in f news)) s)

-- ---- by another name

pub calls_as : {olds news : List Instance} {r : Result (Unit {0}) BadAnswer} (cs ds : List ComponentCall) → cs ≡ ds → Stage cs nothing olds news r → Stage ds nothing olds news r
calls_as {olds} {news} {r} cs ds same s = subst (λ (l : List ComponentCall). Stage l nothing olds news r) same s

pub restored_as : {point stop : ℕ} {v w : View} (xs bs : List ℕ) → xs ≡ bs → WasRestored point stop xs v w → WasRestored point stop bs v w
restored_as {point} {stop} {v} {w} xs bs same r = subst (λ (l : List ℕ). WasRestored point stop l v w) same r

pub unrestored_as : {point stop : ℕ} {why : Why} {v w : View} (xs bs : List ℕ) → xs ≡ bs → WasNotRestored point stop xs why v w → WasNotRestored point stop bs why v w
unrestored_as {point} {stop} {why} {v} {w} xs bs same r = subst (λ (l : List ℕ). WasNotRestored point stop l why v w) same r

-- there is a slot for each component
pub seats_are : {L : Type 0} {g : _} (view : L → View) (e : Experiment) (slots : List (Slot L g)) → shapes (instances view slots) ≡ shapes_of e.system → length slots ≡ length e.system.components
seats_are view e slots fits =
    sym (length-map slots (λ s. instance_in view s)) ∙ sym (length-map (instances view slots) shape_of) ∙ ap length fits ∙ length-map e.system.components (λ (c : Component). c.shape)
