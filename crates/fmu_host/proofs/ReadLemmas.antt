-- What the bytes of a description that was read say.
use Rattle.std.proofs.Common.{◌≡◌, ℕ, List, subst, inl}
use Rattle.std.specs.Prelude.{Ok}
use Rattle.sim_base.specs.Folder.{FolderView}
use Rattle.value_types.specs.declared.shape.Shape.{Shape}
use Rattle.system_loading.specs.declared.fault.Fault.{Fault}
use Rattle.system_loading.specs.declared.fault.Fault.TheVariants as f
use Rattle.system_loading.specs.Faults.{TellsFirst}
use Rattle.system_loading.specs.Readings.{BreaksAlone, BreaksModel, IsModel, SaysAlone}
use Rattle.fmu_host.specs.Description.{IsRead, LacksShape, ReadsBytes, refused_end}
use Rattle.fmu_host.specs.Line.{Line}

module _ (line : Line) (old new : FolderView) where
  -- why the bytes give no shape
  pub refused : (bytes read : List ℕ) (fault : Fault) → read ≡ bytes → ReadsBytes line bytes old new →
      TellsFirst (IsModel line.resolution read) (BreaksModel line.resolution read) fault → LacksShape (refused_end fault) line old new
  refused bytes read (f.Broken rule place) same got first = record {
    bytes = bytes;
    rule = rule;
    place = place;
    got = got;
    breaks = subst (λ (b : List ℕ). BreaksAlone (IsModel line.resolution b) (BreaksModel line.resolution b) rule place) same first;
  }
  refused bytes read f.Memory same got first = inl (Ok bytes, got.reads)

  pub is_read : (bytes read : List ℕ) (shape : Shape) → read ≡ bytes → ReadsBytes line bytes old new →
      SaysAlone (IsModel line.resolution read) (BreaksModel line.resolution read) shape → IsRead line shape old new
  is_read bytes read shape same got says = record {
    bytes = bytes;
    got = got;
    says = subst (λ (b : List ℕ). SaysAlone (IsModel line.resolution b) (BreaksModel line.resolution b) shape) same says;
  }
