-- The two gains are a sound system, which a master takes with a peer for each.
use Rattle.std.proofs.Common.{◌≡◌, ℕ, zero, suc, List, [], ◌∷◌, refl, sym, subst}
use Rattle.std.specs.Prelude.{All, Some, codes, slice_get}
use Rattle.std.proofs.lemmas.List.Elements.{All-cons, All-nil}
use Rattle.std.proofs.lemmas.Option.{none-some as none_some, same_Some}
use Rattle.std.specs.List.{AllZip, IsDistinct}
use Rattle.system_model.specs.Bounds.{AreParameterValues, BindsParameters, IsParameterValue}
use Rattle.system_model.specs.declared.bound.Bound.{Bound}
use Rattle.system_model.specs.declared.bound.BoundValue.{BoundValue}
use Rattle.system_model.specs.declared.system.Component.{Component}
use Rattle.system_model.specs.declared.system.System.{System}
use Rattle.system_model.specs.Sound.{IsSound}
use Rattle.fmu_peer.specs.View.{View}
use Rattle.step_master.specs.System.{ArePeersOf, IsNew}
use Rattle.run_rows.proofs.CallerLemmas.{sound_by}
use Rattle.worked_rows.specs.Chain.{chain, gain_on}
use Rattle.worked_rows.specs.Trio.{component}

pub chain_sound : (system : System) → system ≡ chain → IsSound system
chain_sound system is = subst IsSound (sym is) (sound_by chain refl refl)

pub both : {X : Type 0} (P : X → Type 0) (x y : X) → P x → P y → All P (x ∷ y ∷ [])
both P x y a b = All-cons P x (y ∷ []) a (All-cons P y [] b (All-nil P))

-- ---- under the master

abbrev of_first : Component
of_first = component (codes "first") 0 (gain_on [])

abbrev of_second : Component
of_second = component (codes "second") 1 (gain_on (2 ∷ []))

pub chain_counts : (system : System) → system ≡ chain → All (λ (c : Component). c.shape.resolution ≡ 1000) system.components
chain_counts system is = subst (λ (s : System). All (λ (c : Component). c.shape.resolution ≡ 1000) s.components) (sym is) (both (λ (c : Component). c.shape.resolution ≡ 1000) of_first of_second refl refl)

pub chain_unbound : (system : System) (bound : Bound) → system ≡ chain → bound.components ≡ [] ∷ [] ∷ [] → BindsParameters system bound
unfolding IsDistinct
chain_unbound system bound is none =
    subst (λ (s : System). BindsParameters s bound) (sym is)
    (subst (λ (lists : List (List BoundValue)). AllZip (λ (of : Component) (values : List BoundValue). AreParameterValues of.shape values) chain.components lists) (sym none)
    (record { each = All-nil (IsParameterValue of_first.shape); once = tt }, (record { each = All-nil (IsParameterValue of_second.shape); once = tt }, tt)))

pub chain_peers : (a b : View) → IsNew (gain_on []) a → IsNew (gain_on (2 ∷ [])) b → ArePeersOf chain (a ∷ b ∷ [])
chain_peers a b new_a new_b = record { len = refl; each = each }
  where
    each : (i : ℕ) (of : Component) (v : View) → slice_get chain.components i ≡ Some of → slice_get (a ∷ b ∷ []) i ≡ Some v → IsNew of.shape v
    each zero of v at is = subst (λ (x : Component). IsNew x.shape v) (same_Some of_first of at) (subst (IsNew of_first.shape) (same_Some a v is) new_a)
    each (suc zero) of v at is = subst (λ (x : Component). IsNew x.shape v) (same_Some of_second of at) (subst (IsNew of_second.shape) (same_Some b v is) new_b)
    each (suc (suc i)) of v at is = absurd (none_some _ is)
