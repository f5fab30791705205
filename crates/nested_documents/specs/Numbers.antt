-- Where the elements of documents stand that were put into one another: the whole is the list of its elements, and a number of the whole a place in it.
use Rattle.std.specs.Prelude.{ℕ, zero, suc, List, [], ◌∷◌, ◌++◌, take, drop}
use Rattle.nested_documents.specs.declared.numbers.Place.{Place}
use Rattle.nested_documents.specs.declared.run.Run.{Run}

-- so many elements of a document, from one on
unfoldable pub run : ℕ → ℕ → ℕ → List Place
run document node zero = []
run document node (suc count) =
    record { document = document; node = node } ∷ run document (suc node) count

-- the elements of these runs, one after the other
abbrev pub elements_in : List Run → List Place
elements_in [] = []
elements_in (r ∷ rs) = run r.document r.node r.count ++ elements_in rs

-- the elements of a document before one of the whole
abbrev pub with_elements : ℕ → ℕ → ℕ → List Place → List Place
with_elements at document count elements =
    take at elements ++ (run document 0 count ++ drop at elements)
