-- Which calls a run needs: none is sent again while its answer can only be the same.
use Rattle.std.specs.Prelude.{◌≡◌, ℕ, ◌<◌, false, if◌then◌else◌, List, [], ◌∷◌, All, Option, Some, None, IfSome, pos}
use Rattle.fmi_calls.specs.declared.call.Call.{Call}
use Rattle.fmi_calls.specs.declared.call.Call.TheVariants as C
use Rattle.fmi_calls.specs.KindFacts.{may_repeat, moves_on}

-- the call's arguments that tell it from another: a Set's value is none
abbrev pub without_value : Call → Call
without_value (C.Set kind reference value) = C.Set kind reference (pos 0)
without_value call = call

-- the call is none of these
abbrev pub IsNew : Call → List Call → Type 0
IsNew c seen = All (λ (d : Call). without_value d ≡ without_value c → ⊥) seen

-- the calls since the last that moved the instance on, with that one
abbrev pub seen_after : List Call → Call → List Call
seen_after seen c = if moves_on c then c ∷ [] else c ∷ seen

-- no call stands twice unless it may stand again at once, or one that moves the instance on stands between; these calls stood before
abbrev pub NoneTwiceAfter : List Call → List Call → Type 0
NoneTwiceAfter seen [] = Unit {0}
NoneTwiceAfter seen (c ∷ cs) =
    (may_repeat c ≡ false → IsNew c seen) × NoneTwiceAfter (seen_after seen c) cs

-- up to the next Save the sizes of the steps fall, from below this one on
abbrev pub SizesFall : Option ℕ → List Call → Type 0
SizesFall bound [] = Unit {0}
SizesFall bound (C.DoStep at size ∷ cs) = IfSome bound (λ b. size < b) × SizesFall (Some size) cs
SizesFall bound (C.Save ∷ cs) = Unit {0}
SizesFall bound (C.Free ∷ cs) = Unit {0}
SizesFall bound (_ ∷ cs) = SizesFall bound cs

-- the sizes of the steps after each Save fall
abbrev pub StepsFall : List Call → Type 0
StepsFall [] = Unit {0}
StepsFall (C.Save ∷ cs) = SizesFall None cs × StepsFall cs
StepsFall (_ ∷ cs) = StepsFall cs

-- the calls of a run are needed
abbrev pub IsLean : List Call → Type 0
IsLean calls = NoneTwiceAfter [] calls × StepsFall calls
