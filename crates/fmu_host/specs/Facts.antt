-- What holds of each end of the program.
use Rattle.std.specs.Prelude.{◌≡◌, ℕ, List, [], Some, None}
use Rattle.value_types.specs.declared.shape.Shape.{Shape}
use Rattle.fmi_calls.specs.Next.{fresh}
use Rattle.fmu_peer.specs.View.{View}
use Rattle.bench_fmus.specs.declared.model.Model.{Model}
use Rattle.bench_fmus.specs.BuiltIn.{first_state, machine_of}
use Rattle.bench_fmus.specs.Models.{behaviour_of, model_named}
use Rattle.host_serving.specs.declared.serving.ServeEnd.{ServeEnd}
use Rattle.host_serving.specs.Serving.{HasServed, scene}
use Rattle.fmu_host.specs.Description.{IsRead, LacksShape}
use Rattle.fmu_host.specs.Happened.{Link, Outside}
use Rattle.fmu_host.specs.Line.{IsLine, IsNoLine, Line}
use Rattle.fmu_host.specs.declared.hosting.HostEnd.{HostEnd}
use Rattle.fmu_host.specs.declared.hosting.HostEnd.TheVariants.{NoWords, Unread, Missing, TooBig, Broken, Unknown, Served, Memory}

-- a built-in machine of this shape before its first call, which keeps no talk
abbrev pub first_view : Model → Shape → View
first_view model shape = record {
  fixed = record {
    shape = shape;
    origin = Some (record { host = []; name = []; directory = [] });
    machine = Some (machine_of (behaviour_of model) shape);
  };
  phase = fresh shape;
  talk = None;
  state = Some (first_state shape.variables);
  faults = 0;
}

-- the machine that the shape names was served, and it never failed
pub record ServesShape (end : ServeEnd) (shape : Shape) (old new : Link) : Type 0 where
  pub model : Model
  pub named : model_named shape.identifier ≡ Some model
  pub machine : View
  pub calm : machine.faults ≡ 0
  pub serves : HasServed (scene old.input old.output (first_view model shape))
      (scene new.input new.output machine) end

-- what holds once a shape is read
abbrev pub ShapeFacts : HostEnd → Shape → Link → Link → Type 0
ShapeFacts NoWords shape old new = ⊥
ShapeFacts Unread shape old new = ⊥
ShapeFacts Missing shape old new = ⊥
ShapeFacts TooBig shape old new = ⊥
ShapeFacts Broken shape old new = ⊥
ShapeFacts Unknown shape old new = (model_named shape.identifier ≡ None) × (new ≡ old)
ShapeFacts (Served end) shape old new = ServesShape end shape old new
ShapeFacts Memory shape old new = new ≡ old

-- memory runs out at once, or the arguments are no command line, and nothing is done; or no shape is read, and nothing else is done; or a shape is read
pub data Facts (end : HostEnd) (words : List (List ℕ)) (old new : Outside) : Type 0 where
  Unbegun : end ≡ Memory → new ≡ old → Facts end words old new
  WithoutLine : end ≡ NoWords → IsNoLine words → new ≡ old → Facts end words old new
  WithoutShape : (line : Line) → IsLine words line → LacksShape end line old.folder new.folder →
      new.link ≡ old.link → Facts end words old new
  WithShape : (line : Line) (shape : Shape) → IsLine words line →
      IsRead line shape old.folder new.folder → ShapeFacts end shape old.link new.link →
      Facts end words old new
