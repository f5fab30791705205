-- A stage whose call is for none.
use Rattle.std.proofs.Common.{◌≡◌, ℕ, ◌+◌, Bool, true, false, List, [], ◌∷◌, Ok, refl, sym}
use Rattle.std.specs.Prelude.{◌||◌, if◌then◌else◌}
use Rattle.std.specs.List.{list_any}
use Rattle.std.proofs.lemmas.List.Elements.{All-nil}
use Rattle.value_types.specs.declared.shape.Shape.{Shape}
use Rattle.fmi_calls.specs.declared.call.Call.{Call}
use Rattle.fmu_peer.specs.declared.peer.Peer.{Ghosts}
use Rattle.fmu_peer.specs.declared.slot.Slot.{Slot}
use Rattle.fmu_peer.specs.CloseAll.{peer_in}
use Rattle.fmu_peer.specs.View.{View}
use Rattle.slot_calls.specs.Log.{ComponentCall}
use Rattle.slot_calls.specs.Slots.{instances}
use Rattle.slot_calls.specs.Stage.{IsGoodOf, Stage, nothing, shapes, to_those, to_those_from}
use Rattle.slot_calls.proofs.CallerLemmas.{told_none}

module _ {L : Type 0} {g : Ghosts L} (view : L → View) (test : Shape → Bool) (call : Shape → Call) where
  none_those : (i : ℕ) (slots : List (Slot L g)) → list_any (λ (s : Slot L g). test (view (peer_in s.held)).fixed.shape) slots ≡ false → to_those_from i test call (shapes (instances view slots)) ≡ []
  none_those i [] h = refl
  none_those i (s ∷ slots) h = by (test (view (peer_in s.held)).fixed.shape) h (none_those (i + 1) slots) where
    rest : List ComponentCall
    rest = to_those_from (i + 1) test call (shapes (instances view slots))

    others : Bool
    others = list_any (λ (x : Slot L g). test (view (peer_in x.held)).fixed.shape) slots

    by : (b : Bool) → (b || others) ≡ false → (others ≡ false → rest ≡ []) → (if b then record { component = i; call = call (view (peer_in s.held)).fixed.shape } ∷ rest else rest) ≡ []
    by true h more = absurd (cc)
    by false h more = more h

  pub none_staged : (slots : List (Slot L g)) → list_any (λ (s : Slot L g). test (view (peer_in s.held)).fixed.shape) slots ≡ false →
      Stage {T = Unit {0}} (to_those test call (shapes (instances view slots))) nothing (instances view slots) (instances view slots) (Ok tt)
  none_staged slots none = record {
    log = [];
    told = told_none (instances view slots);
    says = (record { calls_are = sym (none_those 0 slots none); good = All-nil (IsGoodOf (shapes (instances view slots))) }, refl);
  }
