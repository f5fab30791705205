-- Trees whose Systems and Components come after what they stand in, in the order of their document.
use Rattle.std.specs.Prelude.{◌≡◌, ℕ, ◌<◌, List, Some, None, slice_get}
use Rattle.ssd_tree.specs.declared.tree.SystemPart.{SystemPart}
use Rattle.ssd_tree.specs.declared.tree.ComponentPart.{ComponentPart}
use Rattle.ssd_tree.specs.declared.tree.SystemTree.{SystemTree}

-- each comes after those before it
abbrev pub AreRising : List SystemPart → Type 0
AreRising xs =
    (i j : ℕ) (x y : SystemPart) → slice_get xs i ≡ Some x → slice_get xs j ≡ Some y → i < j →
    x.node < y.node

-- the Component comes after its System
abbrev pub StandsAfter : SystemTree → ComponentPart → Type 0
StandsAfter t c =
    (x : SystemPart) × (slice_get t.systems c.system ≡ Some x) × (x.node < c.node)

-- Systems stand in document order among so many elements, each after the one that it stands in; the first has none around it
pub record IsOrderly (elements : ℕ) (t : SystemTree) : Type 0 where
  pub rising : AreRising t.systems
  pub below : (i : ℕ) (x : SystemPart) → slice_get t.systems i ≡ Some x → x.node < elements
  pub root : (x : SystemPart) × (slice_get t.systems 0 ≡ Some x) × (x.parent ≡ None)
  pub outer : (i above : ℕ) (x : SystemPart) → slice_get t.systems i ≡ Some x →
      x.parent ≡ Some above → above < i
  pub within : (k : ℕ) (c : ComponentPart) → slice_get t.components k ≡ Some c → StandsAfter t c
  pub ends : (k : ℕ) (c : ComponentPart) → slice_get t.components k ≡ Some c → c.node < elements
