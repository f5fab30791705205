-- The Sets of one component's parameters: none stands twice.
use Rattle.std.proofs.Common.{◌≡◌, ℕ, ◌+◌, ◌<◌, ◌==◌, Bool, true, false, List, [], ◌∷◌, ◌++◌, refl, sym, ap, ap₂, ◌∙◌, subst, append-nil, arith, get_or, map}
use Rattle.std.specs.Prelude.{All, nat_eq}
use Rattle.std.specs.List.{AllByRecursion, AllZip, IsDistinct}
use Rattle.std.proofs.lemmas.Bool.Decides.{nat_tests}
use Rattle.std.proofs.lemmas.List.Elements.{All-cons, All-head, All-map, All-nil, All-tail, All-weaker}
use Rattle.fmi_calls.specs.declared.call.Call.{Call}
use Rattle.fmu_peer.specs.Lean.{NoneTwiceAfter, without_value}
use Rattle.system_model.specs.declared.bound.Bound.{Bound}
use Rattle.system_model.specs.declared.bound.BoundValue.{BoundValue}
use Rattle.system_model.specs.declared.system.Component.{Component}
use Rattle.system_model.specs.declared.system.System.{System}
use Rattle.system_model.specs.Bounds.{AreParameterValues, BindsParameters}
use Rattle.run_model.specs.Initial.{set_call}
use Rattle.event_iteration.specs.WalkCalls.{AreNew, IsUse, Span, own, use_in}
use Rattle.event_iteration.proofs.ByLog.{own_append, use_kept}
use Rattle.calling_sequence.specs.Calls.{binding, binding_from, sets_of}
use Rattle.course_laws.proofs.OwnCalls.{none_bound, own_others, own_sets}

abbrev pub setting_span : Span
setting_span = record { from = 2; below = 3 }

-- none of these is the Set
abbrev IsFree : List Call → BoundValue → Type 0
IsFree seen b = All (λ (c : Call). without_value c ≡ without_value (set_call b) → ⊥) seen

differ : (a b : BoundValue) → nat_eq a.reference b.reference ≡ false → without_value (set_call a) ≡ without_value (set_call b) → ⊥
differ a b h e = absurd (unlike a.reference b.reference h (reference_of a b e)) where
  reference_of : (a b : BoundValue) → without_value (set_call a) ≡ without_value (set_call b) → a.reference ≡ b.reference
  reference_of a b e = cc

  unlike : (x y : ℕ) → nat_eq x y ≡ false → x ≡ y → ⊥
  unlike x y h e = absurd (let wrong = h in grind (arith, e))

free_more : (b : BoundValue) (values : List BoundValue) (seen : List Call) → AllByRecursion (λ y. nat_eq b.reference y ≡ false) (map (λ (x : BoundValue). x.reference) values) → All (IsFree seen) values → All (IsFree (set_call b ∷ seen)) values
free_more b [] seen distinct all = All-nil (IsFree (set_call b ∷ seen))
free_more b (x ∷ values) seen distinct all =
    All-cons (IsFree (set_call b ∷ seen)) x values (All-cons (λ (c : Call). without_value c ≡ without_value (set_call x) → ⊥) (set_call b) seen (differ b x distinct.0) (All-head (IsFree seen) x values all))
    (free_more b values seen distinct.1 (All-tail (IsFree seen) x values all))

sets_once : (values : List BoundValue) (seen : List Call) → IsDistinct nat_eq (map (λ (b : BoundValue). b.reference) values) → All (IsFree seen) values → NoneTwiceAfter seen (map set_call values)
unfolding IsDistinct
sets_once [] seen distinct all = tt
sets_once (b ∷ values) seen distinct all = ((λ once. All-head (IsFree seen) b values all), sets_once values (set_call b ∷ seen) distinct.1 (free_more b values seen distinct.0 (All-tail (IsFree seen) b values all)))

sets_new : (values : List BoundValue) → IsDistinct nat_eq (map (λ (b : BoundValue). b.reference) values) → AreNew setting_span (map set_call values)
sets_new values distinct = record {
  names = omega arith;
  uses = All-map (IsUse setting_span) set_call values (λ i d w. record { from = omega arith; below = omega arith });
  once = λ seen early. sets_once values seen distinct (λ i d w. All-weaker (λ (c : Call). use_in c < 2) (λ (c : Call). without_value c ≡ without_value (set_call (get_or values i d)) → ⊥)
      (λ c less e. absurd (let same : use_in c ≡ 2 = sym (use_kept c) ∙ ap use_in e in omega (arith, less, same))) seen early);
}

module _ (k : ℕ) where
  bound_new : (i : ℕ) (cs : List Component) (lists : List (List BoundValue)) → AllZip (λ (c : Component) (values : List BoundValue). AreParameterValues c.shape values) cs lists → AreNew setting_span (own k (binding_from i lists))
  unfolding IsDistinct
  bound_new i cs [] zip = sets_new [] tt
  bound_new i [] (values ∷ lists) zip = absurd zip
  bound_new i (c ∷ cs) (values ∷ lists) zip = by (i == k) refl (bound_new (i + 1) cs lists zip.1) where
    by : (b : Bool) → (i == k) ≡ b → AreNew setting_span (own k (binding_from (i + 1) lists)) → AreNew setting_span (own k (sets_of i values ++ binding_from (i + 1) lists))
    by true here rest =
        let is : i ≡ k = grind (arith, nat_tests) in
        subst (AreNew setting_span) (sym (own_append k (sets_of i values) (binding_from (i + 1) lists) ∙ ap₂ ◌++◌ (own_sets i k values here) (none_bound (i + 1) k lists (omega (arith, is))) ∙ append-nil (map set_call values)))
        (sets_new values zip.0.once)
    by false there rest = subst (AreNew setting_span) (sym (own_append k (sets_of i values) (binding_from (i + 1) lists) ∙ ap (λ (cs : List Call). cs ++ own k (binding_from (i + 1) lists)) (own_others i k values there))) rest

pub binding_new : (system : System) (bound : Bound) (k : ℕ) → BindsParameters system bound → AreNew setting_span (own k (binding bound))
binding_new system bound k binds = bound_new k 0 system.components bound.components binds
