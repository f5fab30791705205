-- Peers in the slots of their components.
use Rattle.std.proofs.Common.{◌≡◌, ℕ, suc, ◌+◌, ◌<◌, false, List, [], ◌∷◌, ◌++◌, refl, sym, ap, ap₂, ◌∙◌, subst, append_assoc, arith, length, get_or, map, take, drop, drop-cons, add-one, ◌≤◌, ◌^◌, Option, Some}
use Rattle.std.specs.Prelude.{All, IfSome, Some}
use Rattle.std.specs.List.{slice_get}
use Rattle.std.proofs.lemmas.List.{get_or-map, length-map, length-replicate, map-append}
use Rattle.std.proofs.lemmas.List.Elements.{All-cons, All-map, All-nil}
use Rattle.std.proofs.Math.Seq.{take-append_seam}
use Rattle.fmi_calls.specs.declared.call.Call.{Call}
use Rattle.fmi_calls.specs.declared.phase.Phase.{Phase}
use Rattle.fmi_calls.specs.Next.{counted, entered, fresh}
use Rattle.fmi_calls.specs.Permission.{none_marked}
use Rattle.fmu_peer.specs.declared.peer.Exchange.{Exchange}
use Rattle.fmu_peer.specs.CloseAll.{Closing, ClosesAll, InOrder, Instance, afters}
use Rattle.fmu_peer.specs.Mode.{instantiate_of}
use Rattle.fmu_peer.specs.View.{Fixed, View}
use Rattle.system_model.specs.declared.system.Component.{Component}
use Rattle.calling_sequence.specs.Place.{IsMade}
use Rattle.step_master.specs.FreshInstances.{IsFresh, fresh_instance, fresh_instances, views_of}
use Rattle.step_master.specs.System.{IsNew, ArePeersOf, MachinesMatchShapes}
use Rattle.slot_calls.proofs.CallerLemmas.{Led}
use Rattle.calling_sequence.proofs.Phases.{unmarked_is}
use Rattle.value_types.specs.declared.shape.Shape.{Shape}
use Rattle.fmu_peer.specs.Machine.{IgnoresSlot, IsLawful, IsMachineOf, Machine}
use Rattle.system_model.specs.declared.system.System.{System}
use Rattle.slot_calls.specs.Stage.{shapes}
use Rattle.system_model.specs.Sound.{IsSound}
use Rattle.step_master.proofs.CallerLemmas.{views_fresh, map_fresh, length_fresh, unmapped}

-- one more is given, and one fewer is left
pub given_more : {A B : Type 0} (f : A → B) (whole done more : List B) (left rest : List A) (x : A) (y : B) → whole ≡ done ++ map f left → left ≡ x ∷ rest → y ≡ f x → more ≡ done ++ y ∷ [] → whole ≡ more ++ map f rest
given_more f whole done more left rest x y given is same pushed =
    given ∙ ap (λ l. done ++ map f l) is ∙ ap (λ z. done ++ z ∷ map f rest) (sym same)
    ∙ sym (append_assoc done (y ∷ []) (map f rest)) ∙ ap (λ l. l ++ map f rest) (sym pushed)

next_at : (cs : List Component) (n : ℕ) (c : Component) → n < length cs → c ≡ get_or cs n c → drop n cs ≡ c ∷ drop (n + 1) cs
next_at cs n c w is = drop-cons cs n c w ∙ ap₂ ◌∷◌ (sym is) (ap (λ k. drop k cs) (sym (add-one n)))

-- one more has its slot
pub fresh_more : {S L : Type 0} (f : S → Instance) (view : L → View) (whole : List Instance) (slots more : List S) (cs : List Component) (n m : ℕ) (left rest : List L) (p : L) (c : Component) (s : S) →
    map f slots ++ fresh_instances (drop n cs) (map view left) ≡ whole → left ≡ p ∷ rest → m ≡ n + 1 → n < length cs → c ≡ get_or cs n c → more ≡ slots ++ s ∷ [] → f s ≡ fresh_instance c (view p) →
    map f more ++ fresh_instances (drop m cs) (map view rest) ≡ whole
fresh_more f view whole slots more cs n m left rest p c s given is next w at pushed fresh_slots =
    ap₂ (λ xs k. xs ++ fresh_instances (drop k cs) (map view rest)) (ap (map f) pushed ∙ map-append f slots (s ∷ [])) next
    ∙ append_assoc (map f slots) (f s ∷ []) (fresh_instances (drop (n + 1) cs) (map view rest))
    ∙ ap (λ i. map f slots ++ i ∷ fresh_instances (drop (n + 1) cs) (map view rest)) fresh_slots
    ∙ ap (λ ds. map f slots ++ fresh_instances ds (map view (p ∷ rest))) (sym (next_at cs n c w at))
    ∙ ap (λ l. map f slots ++ fresh_instances (drop n cs) (map view l)) (sym is) ∙ given

-- an instance before its first call
pub record IsFreshInstance (i : Instance) : Type 0 where
  pub first : i.view.phase ≡ fresh i.view.fixed.shape
  pub untold : IfSome i.view.talk (λ es. es ≡ [])
  pub unsaved : i.has_saved ≡ false
  pub calm : i.is_fatal ≡ false

-- what holds of each component's slot holds of each
all_fresh : (P : Instance → Type 0) (cs : List Component) (vs : List View) → ((i : ℕ) (c : Component) (v : View) → slice_get cs i ≡ Some c → slice_get vs i ≡ Some v → P (fresh_instance c v)) → All P (fresh_instances cs vs)
all_fresh P [] vs h = All-nil P
all_fresh P (c ∷ cs) [] h = All-nil P
all_fresh P (c ∷ cs) (v ∷ vs) h = All-cons P (fresh_instance c v) (fresh_instances cs vs) (h 0 c v refl refl) (all_fresh P cs vs (λ i d w at_d at_w. h (suc i) d w at_d at_w))

pub are_fresh : (cs : List Component) (vs : List View) → ((i : ℕ) (c : Component) (v : View) → slice_get cs i ≡ Some c → slice_get vs i ≡ Some v → IsNew c.shape v) → All IsFreshInstance (fresh_instances cs vs)
are_fresh cs vs h = all_fresh IsFreshInstance cs vs (λ i c v at_c at_v. let new = h i c v at_c at_v in record { first = new.phase ∙ ap fresh (sym new.shape_is); untold = new.talk; unsaved = refl; calm = refl })

pub sources_fresh : (cs : List Component) (vs : List View) → length vs ≡ length cs → map (λ (i : Instance). i.source) (fresh_instances cs vs) ≡ map (λ (c : Component). c.source.0) cs
sources_fresh cs vs e = map_fresh (λ (i : Instance). i.source) (λ (c : Component). c.source.0) cs vs e (λ i c v at_c at_v. refl)

-- what holds of each value holds of what has it
pub all_under : {A B : Type 0} (f : A → B) (P : B → Type 0) (xs : List A) (ys : List B) → map f xs ≡ ys → All P ys → All (λ (x : A). P (f x)) xs
all_under f P xs ys same all = λ k d w.
    let m = length-map xs f in
    subst P (get_or-map f xs k d (f d) w) (subst (All P) (sym same) all k (f d) (omega (arith, m, w)))

-- ---- a system whose peers have their slots

-- what holds of each component's peer holds of each
all_views : (P : View → Type 0) (cs : List Component) (vs : List View) → length vs ≡ length cs → ((i : ℕ) (c : Component) (v : View) → slice_get cs i ≡ Some c → slice_get vs i ≡ Some v → P v) → All P vs
all_views P cs vs e h = subst (All P) (views_fresh cs vs e) (All-map P (λ (i : Instance). i.view) (fresh_instances cs vs) (all_fresh (λ (i : Instance). P i.view) cs vs h))

module _ (system : System) (views : List View) (peers : ArePeersOf system views) where
  pub slots_length : {S : Type 0} (f : S → Instance) (slots : List S) → map f slots ≡ fresh_instances system.components views → length slots ≡ length system.components
  slots_length f slots same = sym (length-map slots f) ∙ ap length same ∙ length_fresh system.components views (sym peers.len) ∙ peers.len

  pub peers_fresh : {L : Type 0} (view : L → View) (ps : List L) → views ≡ map view ps → All (λ (p : L). (view p).phase ≡ fresh (view p).fixed.shape) ps
  peers_fresh view ps same = all_under view (λ (v : View). v.phase ≡ fresh v.fixed.shape) ps views (sym same)
      (all_views (λ (v : View). v.phase ≡ fresh v.fixed.shape) system.components views peers.len (λ i c v at_c at_v. let new = peers.each i c v at_c at_v in new.phase ∙ ap fresh (sym new.shape_is)))

  new_is_fresh : (i : ℕ) (c : Component) (v : View) → slice_get system.components i ≡ Some c → slice_get views i ≡ Some v → IsFresh v
  new_is_fresh i c v at_c at_v = let new = peers.each i c v at_c at_v in record { phase = new.phase ∙ ap fresh (sym new.shape_is) }

  pub slots_fresh : {S : Type 0} (f : S → Instance) (slots : List S) → map f slots ≡ fresh_instances system.components views → All (λ (s : S). IsFresh (f s).view) slots
  slots_fresh f slots same = all_under f (λ (i : Instance). IsFresh i.view) slots (fresh_instances system.components views) same
      (all_under (λ (i : Instance). i.view) IsFresh (fresh_instances system.components views) views (views_fresh system.components views peers.len) (all_views IsFresh system.components views peers.len new_is_fresh))

pub components_few : (system : System) → IsSound system → length system.components ≤ 2 ^ 32
components_few system sound = let few = sound.components.few in omega (arith, few)

-- what peers tell are machines of their shapes
pub machines_match_shapes : {L : Type 0} (view : L → View) (ps : List L) → ((p : L) → IfSome (view p).fixed.machine (IsMachineOf (view p).fixed.shape)) → ((p : L) → IfSome (view p).fixed.machine (IsLawful (view p).fixed.shape)) → ((p : L) → IfSome (view p).fixed.machine IgnoresSlot) →
    (system : System) → ArePeersOf system (map view ps) → MachinesMatchShapes system (map view ps)
machines_match_shapes view ps machine lawful ignores system peers i c v m at_c at_v tells =
    let p = unmapped view ps i v at_v in
    let shape_is : (view p.0).fixed.shape ≡ c.shape = ap (λ (w : View). w.fixed.shape) (sym p.2) ∙ (peers.each i c v at_c at_v).shape_is in
    let told : (view p.0).fixed.machine ≡ Some m = ap (λ (w : View). w.fixed.machine) (sym p.2) ∙ tells in (
      subst (λ (s : Shape). IsMachineOf s m) shape_is (subst (λ (o : Option Machine). IfSome o (IsMachineOf (view p.0).fixed.shape)) told (machine p.0)),
      subst (λ (s : Shape). IsLawful s m) shape_is (subst (λ (o : Option Machine). IfSome o (IsLawful (view p.0).fixed.shape)) told (lawful p.0)),
      subst (λ (o : Option Machine). IfSome o IgnoresSlot) told (ignores p.0),
    )

-- ---- closing

-- what a slice of a list's elements wrote is what the list has
pub written_back : {A : Type 0} (items new : List A) (len : ℕ) → length items ≡ len → length new ≡ length items → take len (new ++ drop (length new) items) ≡ new
written_back items new len e l = ap (λ (n : ℕ). take n (new ++ drop (length new) items)) (sym e ∙ sym l) ∙ take-append_seam new (drop (length new) items)

spent_in_order : (closed : List Instance) (cs : List Closing) → InOrder closed cs → All (λ (i : Instance). i.has_saved ≡ false) (afters cs)
spent_in_order closed [] order = All-nil (λ (i : Instance). i.has_saved ≡ false)
spent_in_order closed (c ∷ cs) order = All-cons (λ (i : Instance). i.has_saved ≡ false) c.new (afters cs) order.0.spent (spent_in_order (closed ++ c.new ∷ []) cs order.1)

module _ {S : Type 0} (f : S → Instance) (olds : List Instance) (slots : List S) (closes : ClosesAll olds (map f slots)) where
  -- no closed instance keeps a state
  pub spent_all : All (λ (s : S). (f s).has_saved ≡ false) slots
  spent_all = all_under f (λ (i : Instance). i.has_saved ≡ false) slots (afters closes.closings) closes.new_is (spent_in_order [] closes.closings closes.order)

-- the views of peers
pub views_same : {S L : Type 0} (view : L → View) (peer : S → L) (f : S → Instance) → ((s : S) → (f s).view ≡ view (peer s)) → (slots : List S) → map view (map peer slots) ≡ views_of (map f slots)
views_same view peer f same [] = refl
views_same view peer f same (s ∷ slots) = ap₂ ◌∷◌ (sym (same s)) (views_same view peer f same slots)

-- an instance before its first call is made by a good Instantiate
pub start_leads : (link : ℕ) (v w : View) (e : Exchange) → IsFresh v → Led v e w → e.call ≡ instantiate_of link v.fixed.shape → IsMade w
start_leads link v w e h l is =
    let phase : w.phase ≡ entered v.fixed.shape (counted v.phase e.call) (instantiate_of link v.fixed.shape) l.reply = l.phase ∙ ap (λ (c : Call). entered v.fixed.shape (counted v.phase e.call) c l.reply) is in
    record {
      state = ap (λ (p : Phase). p.state) phase;
      unstepped = ap (λ (p : Phase). p.first_size) phase ∙ ap (λ (p : Phase). p.first_size) h.phase;
      clear = record {
        unset = ap (λ (p : Phase). none_marked p.marks) phase ∙ ap (λ (p : Phase). none_marked p.marks) h.phase ∙ unmarked_is (length v.fixed.shape.variables);
        empty = ap (λ (p : Phase). p.slot.is_full) phase ∙ ap (λ (p : Phase). p.slot.is_full) h.phase;
      };
      room = ap (λ (p : Phase). length p.active) phase ∙ ap (λ (p : Phase). length p.active) h.phase ∙ length-replicate (length v.fixed.shape.variables) false
          ∙ ap (λ (f : Fixed). length f.shape.variables) (sym l.fixed);
    }
