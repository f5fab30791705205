-- The instances of peers before their first calls.
use Rattle.std.specs.Prelude.{◌≡◌, false, List, [], ◌∷◌, map}
use Rattle.fmi_calls.specs.Next.{fresh}
use Rattle.fmu_peer.specs.CloseAll.{Instance}
use Rattle.fmu_peer.specs.View.{View}
use Rattle.system_model.specs.declared.system.Component.{Component}

-- before the first call
pub record IsFresh (v : View) : Type 0 where
  pub phase : v.phase ≡ fresh v.fixed.shape

-- the instance of a peer before its first call, of its component's source
abbrev pub fresh_instance : Component → View → Instance
fresh_instance c v =
    record { source = c.source.0; view = v; has_saved = false; is_fatal = false; is_closed = false }

abbrev pub fresh_instances : List Component → List View → List Instance
fresh_instances (c ∷ cs) (v ∷ vs) = fresh_instance c v ∷ fresh_instances cs vs
fresh_instances [] vs = []
fresh_instances (c ∷ cs) [] = []

abbrev pub views_of : List Instance → List View
views_of is = map (λ (i : Instance). i.view) is
