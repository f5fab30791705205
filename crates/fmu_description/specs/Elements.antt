-- The elements of a model description, and what each is for (FMI 3.0, 2.4).
use Rattle.std.specs.Prelude.{◌≡◌, ◌⊎◌, ℕ, Bool, true, false, ◌&&◌, ◌||◌, List, Option, is_some, unwrap_or, option_and_then, codes}
use Rattle.value_types.specs.declared.shape.Causality.{Causality}
use Rattle.doc_grammar.specs.Nodes.{Node}
use Rattle.doc_tables.specs.Elements.{name_of, is_named, attribute, is_root, is_in, key_if, unless_empty}
use Rattle.doc_tables.specs.Tables.{IsFirst, IsRepeated}
use Rattle.fmu_description.specs.Texts.{flag_or, reference, references, port_type, is_unsupported_type, causality}

-- ---- sorts of elements

abbrev pub is_co_simulation : List Node → ℕ → Bool
is_co_simulation t k = is_named t k (codes "CoSimulation") && is_in is_root t k

abbrev pub is_variable_list : List Node → ℕ → Bool
is_variable_list t k = is_named t k (codes "ModelVariables") && is_in is_root t k

abbrev pub is_structure : List Node → ℕ → Bool
is_structure t k = is_named t k (codes "ModelStructure") && is_in is_root t k

-- a variable's element has the name of its type
abbrev pub is_type : List ℕ → Bool
is_type name = is_some (port_type name) || is_unsupported_type name

abbrev pub is_variable : List Node → ℕ → Bool
is_variable t k = is_type (name_of t k) && is_in is_variable_list t k

abbrev pub is_clock : List Node → ℕ → Bool
is_clock t k = is_named t k (codes "Clock") && is_variable t k

abbrev pub is_alias : List Node → ℕ → Bool
is_alias t k = is_named t k (codes "Alias") && is_in is_variable t k

abbrev pub is_dimension : List Node → ℕ → Bool
is_dimension t k = is_named t k (codes "Dimension") && is_in is_variable t k

abbrev pub is_output : List Node → ℕ → Bool
is_output t k = is_named t k (codes "Output") && is_in is_structure t k

abbrev pub is_initial_unknown : List Node → ℕ → Bool
is_initial_unknown t k = is_named t k (codes "InitialUnknown") && is_in is_structure t k

-- ---- what they say

abbrev pub reference_of : List Node → ℕ → Option ℕ
reference_of t k = option_and_then reference (attribute t k (codes "valueReference"))

-- the references of a list; none where the list isn't there or doesn't read
abbrev pub references_of : List Node → ℕ → List ℕ → List ℕ
references_of t k name = unwrap_or (option_and_then references (attribute t k name)) (codes "")

abbrev pub causality_of : List Node → ℕ → Causality
causality_of t k = causality (attribute t k (codes "causality"))

-- the flag that the element sets, false where it doesn't
abbrev pub flag_of : List Node → ℕ → List ℕ → Option Bool
flag_of t k name = flag_or false (attribute t k name)

-- it sets the flag
abbrev pub has_flag : List Node → ℕ → List ℕ → Bool
has_flag t k name = unwrap_or (flag_of t k name) false

-- ---- keys, by which elements are found

abbrev pub variable_key : List Node → ℕ → Option ℕ
variable_key t k = key_if (is_variable t k) (reference_of t k)

abbrev pub clock_key : List Node → ℕ → Option ℕ
clock_key t k = key_if (is_clock t k) (reference_of t k)

abbrev pub output_key : List Node → ℕ → Option ℕ
output_key t k = key_if (is_output t k) (reference_of t k)

abbrev pub initial_key : List Node → ℕ → Option ℕ
initial_key t k = key_if (is_initial_unknown t k) (reference_of t k)

abbrev pub name_key : List Node → ℕ → Option (List ℕ)
name_key t k =
    key_if (is_variable t k || is_alias t k) (unless_empty (attribute t k (codes "name")))

-- ---- the first of several

-- of several elements CoSimulation the first counts
abbrev pub IsCoSimulation : List Node → ℕ → Type 0
IsCoSimulation t k = IsFirst (is_co_simulation t) k

-- of several elements Output of one variable, and of several InitialUnknown, the first counts
abbrev pub IsFirstOutput : List Node → ℕ → Type 0
IsFirstOutput t k = (is_output t k ≡ true) × (IsRepeated (output_key t) k → ⊥)

abbrev pub IsFirstInitial : List Node → ℕ → Type 0
IsFirstInitial t k = (is_initial_unknown t k ≡ true) × (IsRepeated (initial_key t) k → ⊥)

abbrev pub IsUnknown : List Node → ℕ → Type 0
IsUnknown t k = IsFirstOutput t k ⊎ IsFirstInitial t k
