-- What the input tells decides between the statuses, and what the output gets.
use Rattle.std.proofs.Common.{◌≡◌, ◌⊎◌, inl, inr, ℕ, List, refl, sym, ap, ◌∙◌, subst}
use Rattle.std.proofs.lemmas.Option.{same_Some}
use Rattle.value_types.specs.declared.shape.Shape.{Shape}
use Rattle.bench_fmus.specs.declared.model.Model.{Model}
use Rattle.host_serving.specs.declared.serving.ServeEnd.{ServeEnd}
use Rattle.host_serving.specs.Serving.{HasServed, Scene, scene}
use Rattle.host_serving.specs.Told.{MayKeepTo, Tells}
use Rattle.host_serving.proofs.CallerLemmas.{served_as_told}
use Rattle.fmu_host.specs.declared.hosting.HostEnd.{HostEnd}
use Rattle.fmu_host.specs.Facts.{ServesShape, first_view}
use Rattle.fmu_host.specs.Happened.{Happened}
use Rattle.fmu_host.specs.Line.{Line}
use Rattle.fmu_host.specs.Rows.{Answers, TellsCalls, TellsShape, serve_status}
use Rattle.fmu_host.specs.Status.{status_of}
use Rattle.fmu_host.proofs.Exactly.{IsServed, served_exact}
use Rattle.fmu_host.proofs.LinkLemmas.{first_told, lost}
use Rattle.fmu_host.proofs.When.{HasFacts}

abbrev AnswersOrNot : Happened → List (List ℕ) → ServeEnd → Type 0
AnswersOrNot h pieces end = Answers h pieces end ⊎ (h.status ≡ 11)

module _ (h : Happened) (shape : Shape) (pieces : List (List ℕ)) (count : ℕ) (end result : ServeEnd) (calls : TellsCalls h shape pieces count end) (serves : ServesShape result shape h.old.link h.new.link) where
  abbrev before : Scene
  before = scene h.old.link.input h.old.link.output (first_view calls.model shape)

  abbrev after : Scene
  after = scene h.new.link.input h.new.link.output serves.machine

  served : HasServed before after result
  served = subst (λ (m : Model). HasServed (scene h.old.link.input h.old.link.output (first_view m shape)) after result)
      (same_Some _ _ (sym serves.named ∙ calls.named)) serves.serves

  tells : Tells before pieces count end
  tells = record { machine = _; state = _; bytes = calls.bytes; is_machine = refl; in_state = refl; has = calls.told; comes = calls.come }

  decided : h.status ≡ serve_status result → AnswersOrNot h pieces end
  decided status = by_end (served_as_told before after result served pieces count end tells calls.few)
    where
      by_end : MayKeepTo before after result pieces end → AnswersOrNot h pieces end
      by_end (inl keeps) = inl (record { output = keeps.output; status = status ∙ ap serve_status keeps.ends })
      by_end (inr (inl failed)) = absurd (calls.calm (lost calls.model shape before after (first_told calls.model shape) serves.calm (subst (HasServed before after) failed served)))
      by_end (inr (inr wanting)) = inr (status ∙ ap serve_status wanting)

pub told_exact : (e : HostEnd) (h : Happened) → HasFacts e h → h.status ≡ status_of e → (line : Line) (shape : Shape) (pieces : List (List ℕ)) (count : ℕ) (end : ServeEnd) →
    TellsShape h line shape → TellsCalls h shape pieces count end → AnswersOrNot h pieces end
told_exact e h f status line shape pieces count end t calls = by_served (served_exact e h f status line shape calls.model t calls.named)
  where
    by_served : IsServed h shape → AnswersOrNot h pieces end
    by_served (inl is) = inr is
    by_served (inr so) = decided h shape pieces count end so.0 calls so.2 so.1
