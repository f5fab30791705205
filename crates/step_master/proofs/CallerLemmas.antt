-- For callers: peers in the slots of their components, and who can keep states.
use Rattle.std.proofs.Common.{◌≡◌, inl, inr, ℕ, suc, ◌<◌, List, [], ◌∷◌, refl, sym, ap, ap₂, ◌∙◌, arith, length, map, zero, true}
use Rattle.std.specs.Prelude.{All, Some}
use Rattle.std.specs.List.{slice_get}
use Rattle.std.proofs.lemmas.List.{length-map}
use Rattle.std.proofs.lemmas.List.Elements.{All-cons, All-nil, All-head, All-tail}
use Rattle.fmu_peer.specs.CloseAll.{Instance}
use Rattle.fmu_peer.specs.View.{View}
use Rattle.system_model.specs.declared.system.Component.{Component}
use Rattle.step_master.specs.FreshInstances.{fresh_instance, fresh_instances, views_of}
use Rattle.step_master.specs.System.{ArePeersOf}
use Rattle.std.proofs.lemmas.Option.{slice_get_cases}
use Rattle.system_model.specs.declared.system.System.{System}
use Rattle.slot_calls.specs.Stage.{shapes, shapes_of}
use Rattle.system_model.specs.Sound.{IsSound}
use Rattle.system_model.specs.declared.plan.Plan.{Plan}
use Rattle.system_model.specs.Shapes.{IsSoundShape}
use Rattle.trace_text.specs.Holding.{IsHoldable}
use Rattle.calling_sequence.specs.Ready.{CanKeep}

-- the views of peers in the slots of their components
pub views_fresh : (cs : List Component) (vs : List View) → length vs ≡ length cs → views_of (fresh_instances cs vs) ≡ vs
views_fresh [] [] e = refl
views_fresh [] (v ∷ vs) e = absurd (omega (arith, e))
views_fresh (c ∷ cs) [] e = absurd (omega (arith, e))
views_fresh (c ∷ cs) (v ∷ vs) e = ap (λ (l : List View). v ∷ l) (views_fresh cs vs (omega (arith, e)))

-- what each slot has of its component, all have
pub map_fresh : {A : Type 0} (f : Instance → A) (g : Component → A) (cs : List Component) (vs : List View) → length vs ≡ length cs →
    ((i : ℕ) (c : Component) (v : View) → slice_get cs i ≡ Some c → slice_get vs i ≡ Some v → f (fresh_instance c v) ≡ g c) → map f (fresh_instances cs vs) ≡ map g cs
map_fresh f g [] vs e h = refl
map_fresh f g (c ∷ cs) [] e h = absurd (omega (arith, e))
map_fresh f g (c ∷ cs) (v ∷ vs) e h = ap₂ ◌∷◌ (h 0 c v refl refl) (map_fresh f g cs vs (omega (arith, e)) (λ i d w at_d at_w. h (suc i) d w at_d at_w))

pub length_fresh : (cs : List Component) (vs : List View) → length cs ≡ length vs → length (fresh_instances cs vs) ≡ length vs
length_fresh cs vs e = sym (length-map (fresh_instances cs vs) (λ (i : Instance). i.view)) ∙ ap length (views_fresh cs vs (sym e))

-- the element at a place
pub got : {X : Type 0} (xs : List X) (k : ℕ) → k < length xs → (x : X) × (slice_get xs k ≡ Some x)
got xs k w = elim (slice_get_cases xs k).1 [ inl h ↦ (h.0, h.2) | inr h ↦ absurd (let past = h.0 in omega (arith, w, past)) ]

-- an element of a mapped list is that of one
pub unmapped : {A B : Type 0} (f : A → B) (xs : List A) (k : ℕ) (y : B) → slice_get (map f xs) k ≡ Some y → (x : A) × (slice_get xs k ≡ Some x) × (y ≡ f x)
unmapped f [] k y is = absurd (cc)
unmapped f (x ∷ xs) zero y is = (x, refl, cc)
unmapped f (x ∷ xs) (suc k) y is = unmapped f xs k y is

-- the shapes of fresh instances are those of the system
pub fresh_shapes : (system : System) (views : List View) → ArePeersOf system views → shapes (fresh_instances system.components views) ≡ shapes_of system
fresh_shapes system views peers = map_fresh (λ (i : Instance). i.view.fixed.shape) (λ (c : Component). c.shape) system.components views peers.len (λ i c v at_c at_v. (peers.each i c v at_c at_v).shape_is)

-- ---- states

abbrev SavesState : Component → Type 0
SavesState c = c.shape.can_save_state ≡ true

abbrev PutsState : Component → Type 0
PutsState c = c.shape.can_serialize_state ≡ true

saves_all : (cs : List Component) → All (λ (c : Component). IsSoundShape c.shape) cs → All PutsState cs → All SavesState cs
saves_all [] sound puts = All-nil SavesState
saves_all (c ∷ cs) sound puts =
    All-cons SavesState c cs ((All-head (λ (x : Component). IsSoundShape x.shape) c cs sound).serialized (All-head PutsState c cs puts))
    (saves_all cs (All-tail (λ (x : Component). IsSoundShape x.shape) c cs sound) (All-tail PutsState c cs puts))

-- who can put its state as bytes can save it
pub can_keep : (system : System) (plan : Plan) → IsSound system → IsHoldable system plan → CanKeep system plan
can_keep system plan sound can = record { saves = saves_all system.components sound.components.shapes can.serializes; serializes = can.serializes; header = can.header }
