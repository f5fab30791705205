-- Places of Components that wait, in the order of their list.
use Rattle.std.specs.Prelude.{ℕ, List, map}
use Rattle.nested_documents.specs.declared.components.Waiting.{Waiting}

-- the places among those of the whole of Components that wait
abbrev pub waiting_places : List Waiting → List ℕ
waiting_places waiting = map (λ (w : Waiting). w.component) waiting
