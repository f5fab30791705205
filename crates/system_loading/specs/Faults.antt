-- What a fault of a file, or of files together, says.
use Rattle.std.specs.Prelude.{◌≡◌, List}
use Rattle.value_types.specs.declared.shape.Shape.{Shape}
use Rattle.doc_events.specs.declared.error.DocError.{DocError}
use Rattle.doc_events.specs.declared.error.DocError.TheVariants as e
use Rattle.doc_tree.specs.declared.place.Place.{Place}
use Rattle.doc_tree.specs.declared.place.Place.TheVariants.{Byte}
use Rattle.doc_tree.specs.declared.rule.Rule.{Rule}
use Rattle.doc_tree.specs.declared.rule.Rule.TheVariants.{Document}
use Rattle.system_loading.specs.declared.assembly.AssemblyFault.{AssemblyFault}
use Rattle.system_loading.specs.declared.assembly.AssemblyFault.TheVariants as together
use Rattle.system_loading.specs.declared.fault.Fault.{Fault}
use Rattle.system_loading.specs.declared.fault.Fault.TheVariants.{Broken, Memory}
use Rattle.system_loading.specs.declared.outline.Outline.{Outline}
use Rattle.system_loading.specs.Assembly.{BreaksTogetherAlone}
use Rattle.system_loading.specs.Readings.{BreaksAlone}

-- the fault tells the rule that is broken first, unless memory runs out
abbrev pub TellsFirst : {A : Type 0} → (A → Type 0) → (Rule → Place → Type 0) → Fault → Type 0
TellsFirst Says Breaks (Broken rule place) = BreaksAlone Says Breaks rule place
TellsFirst Says Breaks Memory = Unit {0}

-- the same of what an outline and shapes break together
abbrev pub TellsTogether : Outline → List Shape → AssemblyFault → Type 0
TellsTogether o shapes (together.Broken rule node ports) =
    BreaksTogetherAlone o shapes rule node ports
TellsTogether o shapes together.Memory = Unit {0}

-- ---- what is told

-- the fault tells this rule and this place, unless memory runs out
abbrev pub SaysFault : Rule → Place → Fault → Type 0
SaysFault rule place (Broken r p) = (r ≡ rule) × (p ≡ place)
SaysFault rule place Memory = Unit {0}

-- the fault of bytes that are no document
abbrev pub IsDocumentFault : DocError → Fault → Type 0
IsDocumentFault (e.At rule byte) fault = SaysFault (Document rule) (Byte byte) fault
IsDocumentFault e.Memory fault = fault ≡ Memory
