-- A kind by its number.
use Rattle.std.proofs.Common.{◌≡◌, ℕ, ◌-◌, true, List, [], ◌∷◌, get_or, refl, sym, ap, ◌∙◌}
use Rattle.std.proofs.lemmas.Bool.{eqb-true}
use Rattle.fmi_calls.specs.declared.call.Kind.{Kind}
use Rattle.fmi_calls.specs.declared.call.Kind.TheVariants.{Instantiate, EnterInitialization, ExitInitialization, EnterEvent, EnterStep, DoStep, Update, Get, Set, GetClock, SetClock, GetInterval, GetShift, Save, Restore, Free, Serialize, Deserialize, Terminate, FreeInstance}
use Rattle.fmi_calls.specs.KindFacts.{facts_of, same_kind}

abbrev kinds : List Kind
kinds = Instantiate ∷ EnterInitialization ∷ ExitInitialization ∷ EnterEvent ∷ EnterStep ∷ DoStep ∷ Update ∷ Get ∷ Set ∷ GetClock ∷ SetClock ∷ GetInterval ∷ GetShift ∷ Save ∷ Restore ∷ Free ∷ Terminate ∷ FreeInstance ∷ Instantiate ∷ Serialize ∷ Deserialize ∷ []

abbrev kind_at : ℕ → Kind
kind_at n = get_or kinds (n - 1) Instantiate

kind_at-number : (kind : Kind) → kind_at (facts_of kind).number ≡ kind
kind_at-number Instantiate = refl
kind_at-number EnterInitialization = refl
kind_at-number ExitInitialization = refl
kind_at-number EnterEvent = refl
kind_at-number EnterStep = refl
kind_at-number DoStep = refl
kind_at-number Update = refl
kind_at-number Get = refl
kind_at-number Set = refl
kind_at-number GetClock = refl
kind_at-number SetClock = refl
kind_at-number GetInterval = refl
kind_at-number GetShift = refl
kind_at-number Save = refl
kind_at-number Restore = refl
kind_at-number Free = refl
kind_at-number Serialize = refl
kind_at-number Deserialize = refl
kind_at-number Terminate = refl
kind_at-number FreeInstance = refl

-- kinds with one number are one
pub same_kind-is : (a b : Kind) → same_kind a b ≡ true → a ≡ b
same_kind-is a b same = sym (kind_at-number a) ∙ ap kind_at (eqb-true (facts_of a).number (facts_of b).number same) ∙ kind_at-number b
