-- What is asked of a tree of systems and the shapes of its components.
use Rattle.std.specs.Prelude.{◌≡◌, ℕ, ◌+◌, ◌-◌, ◌<◌, ◌≤◌, ◌^◌, List, length, All}
use Rattle.value_types.specs.declared.shape.Shape.{Shape}
use Rattle.system_model.specs.Shapes.{IsSoundShape}
use Rattle.ssd_tree.specs.declared.tree.Connector.{Connector}
use Rattle.ssd_tree.specs.declared.tree.Connection.{Connection}
use Rattle.ssd_tree.specs.declared.tree.ComponentPart.{ComponentPart}
use Rattle.ssd_tree.specs.declared.tree.NestedComponent.{NestedComponent}
use Rattle.ssd_tree.specs.declared.tree.Setting.{Setting}
use Rattle.ssd_tree.specs.declared.tree.SystemTree.{SystemTree}
use Rattle.ssd_tree.specs.Named.{IsOwner}

-- it has an outermost System, each number in it names a part, and each component has a name; it has 256 components at most
pub record IsWholeTree (t : SystemTree) : Type 0 where
  pub root : 0 < length t.systems
  pub few : length t.components ≤ 256
  pub named : All (λ (c : ComponentPart). 0 < length c.name) t.components
  pub owners : All (λ (k : Connector). IsOwner t k.owner) t.connectors
  pub ends : All (λ (k : Connection). (k.start < length t.connectors) ×
      (k.end < length t.connectors)) t.connections

-- the same of what one of several documents says, by what counts for it of the documents before: with those before it has 256 FMUs at most
pub record IsWholeDocument (s : Setting) (t : SystemTree) (nested : List NestedComponent) : Type 0 where
  pub root : 0 < length t.systems
  pub few : length t.components ≤ (256 - s.fmus) + length nested
  pub named : All (λ (c : ComponentPart). 0 < length c.name) t.components
  pub short : All (λ (c : ComponentPart). s.name_above + length c.name ≤ 2 ^ 24) t.components
  pub owners : All (λ (k : Connector). IsOwner t k.owner) t.connectors
  pub ends : All (λ (k : Connection). (k.start < length t.connectors) ×
      (k.end < length t.connectors)) t.connections

-- a sound shape for each component, all at one resolution
pub record AreShapesOf (t : SystemTree) (shapes : List Shape) : Type 0 where
  pub len : length shapes ≡ length t.components
  pub sound : All IsSoundShape shapes
  pub per_second : ℕ
  pub above : 0 < per_second
  pub within : per_second ≤ 2 ^ 62
  pub resolutions : All (λ (s : Shape). s.resolution ≡ per_second) shapes
