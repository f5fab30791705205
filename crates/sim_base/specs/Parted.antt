-- A text in parts.
use Rattle.std.specs.Prelude.{ℕ, List, map}
use Rattle.std.specs.List.{concat}
use Rattle.std.specs.declared.alloc.Global.{Global}
use Rattle.std.specs.declared.sync.Arc.{Arc}

-- the parts, one after another
abbrev pub whole : List (Arc (List ℕ) Global) → List ℕ
whole parts = concat (map (λ (p : Arc (List ℕ) Global). p.value) parts)
