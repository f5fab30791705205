-- The FMU that settles and the one that it feeds are a sound system, which a master takes with a peer for each.
use Rattle.std.proofs.Common.{◌≡◌, ℕ, zero, suc, List, [], ◌∷◌, refl, sym, subst}
use Rattle.std.specs.Prelude.{All, Some, slice_get}
use Rattle.std.specs.List.{AllZip, IsDistinct}
use Rattle.std.proofs.lemmas.List.Elements.{All-nil}
use Rattle.std.proofs.lemmas.Option.{none-some as none_some, same_Some}
use Rattle.system_model.specs.Bounds.{AreParameterValues, BindsParameters, IsParameterValue}
use Rattle.system_model.specs.declared.bound.Bound.{Bound}
use Rattle.system_model.specs.declared.bound.BoundValue.{BoundValue}
use Rattle.system_model.specs.declared.system.Component.{Component}
use Rattle.system_model.specs.declared.system.System.{System}
use Rattle.system_model.specs.Sound.{IsSound}
use Rattle.fmu_peer.specs.View.{View}
use Rattle.step_master.specs.System.{ArePeersOf, IsNew}
use Rattle.run_rows.proofs.CallerLemmas.{sound_by}
use Rattle.fmu_peer.specs.Machine.{IsMachineOf}
use Rattle.worked_rows.specs.declared.counted.Counts.TheVariants.{Ticks, Updates}
use Rattle.worked_rows.specs.Ticker.{ticker}
use Rattle.worked_rows.specs.TickerLaws.{machine_by}
use Rattle.worked_rows.specs.Ticking.{own, settling, ticking}
use Rattle.worked_rows.proofs.ChainSound.{both}

pub ticking_sound : (system : System) → system ≡ ticking → IsSound system
ticking_sound system is = subst IsSound (sym is) (sound_by ticking refl refl)

pub ticking_counts : (system : System) → system ≡ ticking → All (λ (c : Component). c.shape.resolution ≡ 1000) system.components
ticking_counts system is = subst (λ (s : System). All (λ (c : Component). c.shape.resolution ≡ 1000) s.components) (sym is) (both (λ (c : Component). c.shape.resolution ≡ 1000) settling own refl refl)

pub ticking_unbound : (system : System) (bound : Bound) → system ≡ ticking → bound.components ≡ [] ∷ [] ∷ [] → BindsParameters system bound
unfolding IsDistinct
ticking_unbound system bound is none =
    subst (λ (s : System). BindsParameters s bound) (sym is)
    (subst (λ (lists : List (List BoundValue)). AllZip (λ (of : Component) (values : List BoundValue). AreParameterValues of.shape values) ticking.components lists) (sym none)
    (record { each = All-nil (IsParameterValue settling.shape); once = tt }, (record { each = All-nil (IsParameterValue own.shape); once = tt }, tt)))

pub ticking_peers : (a b : View) → IsNew settling.shape a → IsNew own.shape b → ArePeersOf ticking (a ∷ b ∷ [])
ticking_peers a b new_a new_b = record { len = refl; each = each }
  where
    each : (i : ℕ) (of : Component) (v : View) → slice_get ticking.components i ≡ Some of → slice_get (a ∷ b ∷ []) i ≡ Some v → IsNew of.shape v
    each zero of v at is = subst (λ (x : Component). IsNew x.shape v) (same_Some settling of at) (subst (IsNew settling.shape) (same_Some a v is) new_a)
    each (suc zero) of v at is = subst (λ (x : Component). IsNew x.shape v) (same_Some own of at) (subst (IsNew own.shape) (same_Some b v is) new_b)
    each (suc (suc i)) of v at is = absurd (none_some _ is)

-- each of the two machines is one of its FMU
pub settling_machine : IsMachineOf settling.shape (ticker Updates)
settling_machine = machine_by settling.shape Updates refl refl refl

pub own_machine : IsMachineOf own.shape (ticker Ticks)
own_machine = machine_by own.shape Ticks refl refl refl
