-- What holds of each kind of call (FMI 3.0, 4.2: the functions of Co-Simulation; 2.2.6: FMU state): its number in frames, its name as it is printed, what it is for, whether it moves the instance on, so that the same call may be answered otherwise after it, and whether it may stand twice with no call between.
use Rattle.std.specs.Prelude.{ℕ, ◌==◌, Bool, true, false, IsTrue, List, codes}
use Rattle.fmi_calls.specs.declared.call.Call.{Call}
use Rattle.fmi_calls.specs.declared.call.Call.TheVariants as C
use Rattle.fmi_calls.specs.declared.call.Kind.{Kind}
use Rattle.fmi_calls.specs.declared.call.Kind.TheVariants as K
use Rattle.fmi_calls.specs.declared.kind_facts.Part.{Part}
use Rattle.fmi_calls.specs.declared.kind_facts.Part.TheVariants.{LeadingIn, Stepping, Reading, Writing, SavedStates, Closing}
use Rattle.fmi_calls.specs.Kinds.{kind_of}

pub record Facts : Type 0 where
  pub number : ℕ
  pub name : List ℕ
  pub part : Part
  pub moves_on : Bool
  pub may_repeat : Bool

abbrev facts : ℕ → List ℕ → Part → Bool → Bool → Facts
facts number name part moves_on may_repeat = record {
  number = number;
  name = name;
  part = part;
  moves_on = moves_on;
  may_repeat = may_repeat;
}

-- the table
abbrev pub facts_of : Kind → Facts
facts_of K.Instantiate = facts 1 (codes "Instantiate") LeadingIn false false
facts_of K.EnterInitialization = facts 2 (codes "EnterInitialization") LeadingIn true false
facts_of K.ExitInitialization = facts 3 (codes "ExitInitialization") LeadingIn true false
facts_of K.EnterEvent = facts 4 (codes "EnterEvent") Stepping true false
facts_of K.EnterStep = facts 5 (codes "EnterStep") Stepping true false
facts_of K.DoStep = facts 6 (codes "DoStep") Stepping true false
facts_of K.Update = facts 7 (codes "Update") Stepping true true
facts_of K.Get = facts 8 (codes "Get") Reading false false
facts_of K.Set = facts 9 (codes "Set") Writing false false
facts_of K.GetClock = facts 10 (codes "GetClock") Reading false false
facts_of K.SetClock = facts 11 (codes "SetClock") Writing false false
facts_of K.GetInterval = facts 12 (codes "GetInterval") Reading false false
facts_of K.GetShift = facts 13 (codes "GetShift") Reading false false
facts_of K.Save = facts 14 (codes "Save") SavedStates false false
facts_of K.Restore = facts 15 (codes "Restore") SavedStates false false
facts_of K.Free = facts 16 (codes "Free") SavedStates false true
facts_of K.Serialize = facts 20 (codes "Serialize") SavedStates false false
facts_of K.Deserialize = facts 21 (codes "Deserialize") SavedStates false false
facts_of K.Terminate = facts 17 (codes "Terminate") Closing false false
facts_of K.FreeInstance = facts 18 (codes "FreeInstance") Closing false false

-- ---- what follows of a call

abbrev pub moves_on : Call → Bool
moves_on call = (facts_of (kind_of call)).moves_on

abbrev pub may_repeat : Call → Bool
may_repeat call = (facts_of (kind_of call)).may_repeat

-- the kinds are one
abbrev pub same_kind : Kind → Kind → Bool
same_kind a b = (facts_of a).number == (facts_of b).number

-- the call is one of the run: none of the closing
abbrev is_of_run : Part → Bool
is_of_run Closing = false
is_of_run _ = true

abbrev pub IsRunCall : Call → Type 0
IsRunCall call = IsTrue (is_of_run (facts_of (kind_of call)).part)

-- the call is one of those that save, restore and free a state, or move one as bytes
abbrev pub is_of_saved_states : Part → Bool
is_of_saved_states SavedStates = true
is_of_saved_states _ = false

abbrev pub keeps_state : Call → Bool
keeps_state call = is_of_saved_states (facts_of (kind_of call)).part

-- the call is one of the closing, which begins with a Free where a state is still saved
abbrev is_of_closing : Part → Bool
is_of_closing Closing = true
is_of_closing _ = false

abbrev pub IsClosingCall : Call → Type 0
IsClosingCall C.Free = IsTrue true
IsClosingCall call = IsTrue (is_of_closing (facts_of (kind_of call)).part)
