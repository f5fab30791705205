-- Which variables are marked after Gets, Sets and calls of Clocks.
use Rattle.std.proofs.Common.{◌≡◌, ◌⊎◌, inl, inr, ℕ, zero, suc, ◌+◌, ℤ, Bool, true, false, not, List, [], ◌∷◌, Option, Some, None, refl, sym, ap, ◌∙◌, subst, arith, get_or, set}
use Rattle.std.specs.Prelude.{All, ◌==◌, if◌then◌else◌, slice_get}
use Rattle.std.specs.List.{list_any, position_from}
use Rattle.std.specs.Option.{option_map_or}
use Rattle.std.proofs.lemmas.Bool.{eqb-true}
use Rattle.std.proofs.lemmas.Iterator.Adapters.{position_from-zero}
use Rattle.std.proofs.lemmas.List.{get_or-set_other}
use Rattle.std.proofs.lemmas.Option.{none-some as none_some, same_Some}
use Rattle.value_types.specs.Shape.{place_of}
use Rattle.value_types.specs.declared.shape.Shape.{Shape}
use Rattle.value_types.specs.declared.shape.Variable.{Variable}
use Rattle.value_types.specs.declared.values.PortType.{PortType}
use Rattle.fmi_calls.specs.declared.call.Call.{Call}
use Rattle.fmi_calls.specs.declared.call.Call.TheVariants as C
use Rattle.fmi_calls.specs.declared.call.Reply.{Reply}
use Rattle.fmi_calls.specs.declared.phase.InstanceState.{InstanceState}
use Rattle.fmi_calls.specs.declared.phase.InstanceState.TheVariants as P
use Rattle.fmi_calls.specs.declared.phase.Phase.{Phase}
use Rattle.fmi_calls.specs.Next.{entered, marked, marks_after_set}
use Rattle.fmi_calls.specs.Permission.{is_marked, none_marked}
use Rattle.fmu_peer.specs.declared.peer.Exchange.{Exchange}
use Rattle.fmu_peer.specs.Talk as T
use Rattle.fmu_peer.specs.View.{View}
use Rattle.system_model.proofs.CallerLemmas.{true_false}
use Rattle.slot_calls.specs.Log.{Talks}
use Rattle.event_iteration.proofs.Permits.{phase_kept}

-- ---- places

-- the variable at a place that was found has the reference
place_has : (variables : List Variable) (k reference place : ℕ) → position_from (λ (v : Variable). v.reference == reference) k variables ≡ Some place →
    (i : ℕ) × (v : Variable) × (slice_get variables i ≡ Some v) × (v.reference ≡ reference) × (place ≡ k + i)
place_has [] k reference place h = absurd (none_some _ h)
place_has (x ∷ xs) k reference place h =
    (elim (x.reference == reference) as (λ b. (x.reference == reference) ≡ b → (if b then Some k else position_from (λ (v : Variable). v.reference == reference) (k + 1) xs) ≡ Some place →
    (i : ℕ) × (v : Variable) × (slice_get (x ∷ xs) i ≡ Some v) × (v.reference ≡ reference) × (place ≡ k + i)) [
      | true ↦ λ same is. (0, x, refl, eqb-true x.reference reference same, (let e : k ≡ place = same_Some _ _ is in omega (arith, e)))
      | false ↦ λ other is. let more = place_has xs (k + 1) reference place is in (suc more.0, more.1, more.2, more.3, (let e = more.4 in omega (arith, e)))
    ]) refl h

-- two references have two places
places_apart : (variables : List Variable) (a b place : ℕ) → place_of variables a ≡ Some place → place_of variables b ≡ Some place → a ≡ b
places_apart variables a b place at_a at_b =
    let x = place_has variables 0 a place (sym (position_from-zero (λ (v : Variable). v.reference == a) variables) ∙ at_a) in
    let y = place_has variables 0 b place (sym (position_from-zero (λ (v : Variable). v.reference == b) variables) ∙ at_b) in
    let index : x.0 ≡ y.0 = (let p = x.4 in let q = y.4 in omega (arith, p, q)) in
    sym x.3 ∙ ap (λ (v : Variable). v.reference) (same_Some _ _ (sym x.2 ∙ ap (slice_get variables) index ∙ y.2)) ∙ y.3

-- ---- marks

-- a Set leaves the mark of each other variable
marked_beside : (shape : Shape) (marks : List Bool) (a r : ℕ) → (r ≡ a → ⊥) → is_marked shape (marked shape marks a) r ≡ is_marked shape marks r
marked_beside shape marks a r other = by (place_of shape.variables a) refl (place_of shape.variables r) refl
  where
    by : (o : Option ℕ) → place_of shape.variables a ≡ o → (q : Option ℕ) → place_of shape.variables r ≡ q →
        option_map_or (λ place. get_or (option_map_or (λ k. set marks k true) o marks) place false) q false ≡ option_map_or (λ place. get_or marks place false) q false
    by o at_a None at_r = refl
    by None at_a (Some k) at_r = refl
    by (Some j) at_a (Some k) at_r = get_or-set_other marks j k true false (λ same. other (places_apart shape.variables r a j (at_r ∙ ap Some same) at_a))

-- whatever the state, a Set leaves the mark of each other variable
pub set_beside : (state : InstanceState) (shape : Shape) (marks : List Bool) (a r : ℕ) → (r ≡ a → ⊥) → is_marked shape (marks_after_set state shape marks a) r ≡ is_marked shape marks r
set_beside P.Event shape marks a r other = marked_beside shape marks a r other
set_beside P.Step shape marks a r other = marked_beside shape marks a r other
set_beside state shape marks a r other = refl

-- where nothing is marked, no variable is
pub unmarked : (shape : Shape) (marks : List Bool) (r : ℕ) → none_marked marks ≡ true → is_marked shape marks r ≡ false
unmarked shape marks r none = by (place_of shape.variables r)
  where
    flag : (xs : List Bool) (k : ℕ) → not (list_any (λ x. x) xs) ≡ true → get_or xs k false ≡ false
    flag [] k h = refl
    flag (true ∷ xs) k h = absurd (true_false (sym h))
    flag (false ∷ xs) zero h = refl
    flag (false ∷ xs) (suc k) h = flag xs k h

    by : (o : Option ℕ) → option_map_or (λ place. get_or marks place false) o false ≡ false
    by None = refl
    by (Some k) = flag marks k none

-- ---- Gets, Sets and calls of Clocks

-- the call is a Get
abbrev pub IsGet : Call → Type 0
IsGet call = (kind : PortType) × (reference : ℕ) × (call ≡ C.Get kind reference)

-- the call asks or sets the Clock under the reference
abbrev pub IsClockCall : ℕ → Call → Type 0
IsClockCall reference call = (call ≡ C.GetClock reference) ⊎ (call ≡ C.SetClock reference)

-- the call is a Get, or a Set or a Clock's call for a variable that isn't this one
pub data Passes (r : ℕ) (call : Call) : Type 0 where
  ByGet : IsGet call → Passes r call
  BySet : (kind : PortType) (reference : ℕ) (value : ℤ) → call ≡ C.Set kind reference value → (r ≡ reference → ⊥) → Passes r call
  ByClock : (reference : ℕ) → IsClockCall reference call → (r ≡ reference → ⊥) → Passes r call

-- the mode stays, and the variable's mark
abbrev Beside : Shape → ℕ → Phase → Phase → Type 0
Beside shape r old new = (new.state ≡ old.state) × (is_marked shape new.marks r ≡ is_marked shape old.marks r)

passes_one : (shape : Shape) (r : ℕ) (call : Call) → Passes r call → (phase : Phase) (reply : Reply) → Beside shape r phase (entered shape phase call reply)
passes_one shape r call (ByGet get) phase reply = subst (λ (c : Call). Beside shape r phase (entered shape phase c reply)) (sym get.2) (refl, refl)
passes_one shape r call (BySet kind reference value is other) phase reply =
    subst (λ (c : Call). Beside shape r phase (entered shape phase c reply)) (sym is) (refl, set_beside phase.state shape phase.marks reference r other)
passes_one shape r call (ByClock reference (inl is) other) phase reply =
    subst (λ (c : Call). Beside shape r phase (entered shape phase c reply)) (sym is) (refl, marked_beside shape phase.marks reference r other)
passes_one shape r call (ByClock reference (inr is) other) phase reply =
    subst (λ (c : Call). Beside shape r phase (entered shape phase c reply)) (sym is) (refl, marked_beside shape phase.marks reference r other)

-- all pass by the variable, and were answered well
pub passes_beside : (shape : Shape) (r : ℕ) (v w : View) (es : List Exchange) → v.fixed.shape ≡ shape → Talks v es w → All (λ (e : Exchange). Passes r e.call × T.IsGood shape e) es → Beside shape r v.phase w.phase
passes_beside shape r v w es is t all = (
  phase_kept (λ (x : Phase). x.state) (Passes r) shape (λ p c. refl) (λ c passes p y. (passes_one shape r c passes p y).0) v w es is t all,
  phase_kept (λ (x : Phase). is_marked shape x.marks r) (Passes r) shape (λ p c. refl) (λ c passes p y. (passes_one shape r c passes p y).1) v w es is t all,
)

-- after good Gets the marks are those of before
pub gets_leave : (shape : Shape) (v w : View) (es : List Exchange) → v.fixed.shape ≡ shape → Talks v es w → All (λ (e : Exchange). IsGet e.call × T.IsGood shape e) es → w.phase.marks ≡ v.phase.marks
gets_leave shape v w es is t all = phase_kept (λ (x : Phase). x.marks) IsGet shape (λ p c. refl) (λ c get p y. ap (λ (k : Call). (entered shape p k y).marks) get.2) v w es is t all
